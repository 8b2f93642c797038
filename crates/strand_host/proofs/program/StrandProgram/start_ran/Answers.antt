use Rattle.std.proofs.Common.{refl, sym, ap, ◌∙◌, subst, arith}
use Rattle.wa_model.specs.declared.events.End.TheVariants as E
use Rattle.interp.specs.Host.{store_in, waits_in}
use Rattle.pause_host.specs.Views.{left_of}
use Rattle.strand_host.specs.StrandPrograms.{StartRan, StartTurned, stock_of, world_strand}
use Rattle.strand_host.proofs.Starts.{both_ok, of_first, returned_turn, spent_told, trap_told}
use Rattle.strand_host.proofs.TheLaws.{all_laws}
use Rattle.strand_host.proofs.program.StrandProgram.start_ran.Goals as goal

pub returns-in-Returned-clause-next : goal.returns-in-Returned-clause-next
returns-in-Returned-clause-next g c = λ gw t r.
    let x = stock_of c.args.self.now in
    let i = c.args.instance in
    let s = c.args.strand in
    let turned = subst (λ z. StartTurned (world_strand gw 0) r.held r.left r.used c.args.task z (left_of s.left) (store_in i) (waits_in i)) c.in-Returned.is r.turned in
    c.go_on.ensures.next gw t (returned_turn all_laws gw t x r.left r.used s r.held r.at i r.code r.steps r.stage r.fits turned.0 turned.1)

pub returns-in-Trapped-clause-next : goal.returns-in-Trapped-clause-next
returns-in-Trapped-clause-next g c = λ gw t r.
    let x = stock_of c.args.self.now in
    let i = c.args.instance in
    let s = c.args.strand in
    let turned = subst (λ z. StartTurned (world_strand gw 0) r.held r.left r.used c.args.task z (left_of s.left) (store_in i) (waits_in i)) c.in-Trapped.is r.turned in
    both_ok c.start_ends.result _ _ _ c.start_ends.ensures.event c.start_ends.ensures.settles
    (λ told is settles. of_first gw t told _ _ c.start_ends.new.self is.0
    (trap_told all_laws gw t x r.left r.used s r.held r.at i r.code r.steps c.in-Trapped.trap told.event c.args.self.now c.start_ends.new.self _ _ is.1 turned.0 turned.1 refl settles))

pub returns-in-Waiting-clause-next : goal.returns-in-Waiting-clause-next
returns-in-Waiting-clause-next g c = λ gw t r.
    c.start_calls.ensures.next gw t (subst (λ z. StartRan gw t (stock_of c.args.self.now) c.args.instance c.args.strand c.args.task z) c.in-Waiting.is r)

pub returns-in-StepsSpent-clause-next : goal.returns-in-StepsSpent-clause-next
returns-in-StepsSpent-clause-next g c = λ gw t r.
    let x = stock_of c.args.self.now in
    let i = c.args.instance in
    let s = c.args.strand in
    let turned = subst (λ z. StartTurned (world_strand gw 0) r.held r.left r.used c.args.task z (left_of s.left) (store_in i) (waits_in i)) c.in-StepsSpent.is r.turned in
    both_ok c.start_ends-in-StepsSpent.result _ _ _ c.start_ends-in-StepsSpent.ensures.event c.start_ends-in-StepsSpent.ensures.settles
    (λ told is settles. of_first gw t told _ _ c.start_ends-in-StepsSpent.new.self is.0
    (spent_told all_laws gw t x r.left r.used s r.held r.at i r.code r.steps (E.StepsSpent c.args.self.now.setting.steps) told.event c.args.self.now c.start_ends-in-StepsSpent.new.self _ _
    (ap E.StepsSpent (sym r.at.strand.is_set.steps)) is.1 turned refl settles))

pub go_on-requires-clause-goes : goal.go_on-requires-clause-goes
go_on-requires-clause-goes g c =
    let h = c.requires.goes in
    let r = h.2 in
    let x = stock_of c.args.self.now in
    let i = c.args.instance in
    let s = c.args.strand in
    let turned = subst (λ z. StartTurned (world_strand h.0 0) r.held r.left r.used c.args.task z (left_of s.left) (store_in i) (waits_in i)) c.in-Returned.is r.turned in
    (h.0, h.1, returned_turn all_laws h.0 h.1 x r.left r.used s r.held r.at i r.code r.steps r.stage r.fits turned.0 turned.1)

pub start_calls-requires-clause-goes : goal.start_calls-requires-clause-goes
start_calls-requires-clause-goes g c =
    let h = c.requires.goes in (h.0, h.1, subst (λ z. StartRan h.0 h.1 (stock_of c.args.self.now) c.args.instance c.args.strand c.args.task z) c.in-Waiting.is h.2)

pub start_ends-requires-clause-there : goal.start_ends-requires-clause-there
start_ends-requires-clause-there g c =
    let is = c.requires.goes.2.at.is in
    omega (arith, is.some, is.dues)

pub start_ends-requires-clause-slots : goal.start_ends-requires-clause-slots
start_ends-requires-clause-slots g c = let is = c.requires.goes.2.at.is in is.slots ∙ sym is.dues
