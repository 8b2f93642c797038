use Rattle.std.proofs.Common.{Option, Some, false, sym, ap, ◌∙◌, subst, slice_set, arith}
use Rattle.event_order.specs.Dues.{IsLeast}
use Rattle.many_host.proofs.TurnPlaces.{stands_at}
use Rattle.strand_host.specs.declared.strands.Strand.{Strand}
use Rattle.strand_host.specs.StrandPrograms.{TurnAt, stock_of}
use Rattle.strand_host.proofs.StrandBeginnings.{begins_turn, least_lt, least_small, least_some}
use Rattle.strand_host.proofs.program.StrandProgram.begin_turn.Goals as goal

pub unreachable-requires-in_default-replace : goal.unreachable-requires-in_default-replace
unreachable-requires-in_default-replace g c =
    let h = c.requires.goes in
    let x = stock_of c.args.self.now in
    let k = c.in-Some.turn.program in
    let due = c.in-Some.turn.due in
    let l = subst (λ ds. IsLeast ds k due) c.deref.ensures.value c.in-Some.ensures in
    least_some h.0 h.1 x c.args.instance k due h.2 l
    (stands_at x.strands k c.index_mut.result.now (least_lt h.0 h.1 x c.args.instance k due h.2 l) c.index_mut.ensures.value
    ∙ ap (λ (o : Option Strand). Some o) (sym c.replace.ensures.value ∙ c.in_default-replace.is))

pub overflow_cast-turn : goal.overflow_cast-turn
overflow_cast-turn g c =
    let h = c.requires.goes in
    let k = c.in-Some.turn.program in
    let due = c.in-Some.turn.due in
    let small = least_small h.0 h.1 (stock_of c.args.self.now) c.args.instance k due h.2 (subst (λ ds. IsLeast ds k due) c.deref.ensures.value c.in-Some.ensures) in
    omega (arith, small)

pub go_on-requires-clause-goes : goal.go_on-requires-clause-goes
go_on-requires-clause-goes g c =
    let h = c.requires.goes in
    let x = stock_of c.args.self.now in
    let i = c.args.instance in
    let k = c.in-Some.turn.program in
    let due = c.in-Some.turn.due in
    let s = c.in-Some-replace.strand in
    let l = subst (λ ds. IsLeast ds k due) c.deref.ensures.value c.in-Some.ensures in
    let e = stands_at x.strands k c.index_mut.result.now (least_lt h.0 h.1 x i k due h.2 l) c.index_mut.ensures.value ∙ ap (λ (o : Option Strand). Some o) (sym c.replace.ensures.value ∙ c.in-Some-replace.is) in
    (h.0, h.1, subst (λ (o : Option Strand). TurnAt h.0 h.1 (record x { strands = slice_set x.strands k o }) i k s false) (sym c.replace.ensures.after) (begins_turn h.0 h.1 x i k due s h.2 l e))

pub returns-clause-next : goal.returns-clause-next
returns-clause-next g c = λ gw t at.
    let x = stock_of c.args.self.now in
    let i = c.args.instance in
    let k = c.in-Some.turn.program in
    let due = c.in-Some.turn.due in
    let s = c.in-Some-replace.strand in
    let l = subst (λ ds. IsLeast ds k due) c.deref.ensures.value c.in-Some.ensures in
    let e = stands_at x.strands k c.index_mut.result.now (least_lt gw t x i k due at l) c.index_mut.ensures.value ∙ ap (λ (o : Option Strand). Some o) (sym c.replace.ensures.value ∙ c.in-Some-replace.is) in
    c.go_on.ensures.next gw t (subst (λ (o : Option Strand). TurnAt gw t (record x { strands = slice_set x.strands k o }) i k s false) (sym c.replace.ensures.after) (begins_turn gw t x i k due s at l e))
