use Rattle.std.proofs.Common.{arith, ◌≡◌, ◌∙◌, ap, false, subst, sym}
use Rattle.std.specs.Prelude.{IsSome, is_some}
use Rattle.pause_host.specs.Programs.{parked_in}
use Rattle.many_host.specs.declared.hosted.Hosted.{Hosted}
use Rattle.many_host.proofs.MailHeld.{first_is, free_all, free_on, some_mapped}
use Rattle.many_host.proofs.TurnPlaces.{stands_at}
use Rattle.many_host.proofs.mail_turns.first_parked.Goals as goal

pub returns-then-is_some : goal.returns-then-is_some
returns-then-is_some c =
    let x = c.index-programs-i.result in
    let there = stands_at c.args.programs.now c.loop-i.i x (omega (arith, c.loop-i-test.true)) c.index-programs-i.is in
    first_is c.args.programs.now c.loop-i.i x c.loop-i.invariant there
    (subst (λ (v : Hosted). IsSome (parked_in v.program)) (sym c.index-programs-i.is)
    (ap is_some (sym c.parked_at.ensures) ∙ some_mapped _ c.parked_at.result ∙ sym c.is_some.ensures ∙ c.if-is_some.true))

pub loop-i-preserved : goal.loop-i-preserved
loop-i-preserved c =
    let x = c.index-programs-i.result in
    let there = stands_at c.args.programs.now c.loop-i.i x (omega (arith, c.loop-i-test.true)) c.index-programs-i.is in
    free_on c.args.programs.now c.loop-i.i x there c.loop-i.invariant
    (subst (λ (v : Hosted). is_some (parked_in v.program) ≡ false) (sym c.index-programs-i.is)
    (ap is_some (sym c.parked_at.ensures) ∙ some_mapped _ c.parked_at.result ∙ sym c.is_some.ensures ∙ c.if-is_some.false))

pub returns : goal.returns
returns c = free_all c.args.programs.now c.loop-i.i (omega (arith, c.loop-i-test.false)) c.loop-i.invariant
