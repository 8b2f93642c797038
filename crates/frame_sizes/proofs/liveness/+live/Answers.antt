use Rattle.std.proofs.Common.{arith, ◌≡◌, ◌∷◌, ap, sym, refl, ◌∙◌, nat_eq, not, drop, false}
use Rattle.std.specs.List.{list_any}
use Rattle.std.proofs.lemmas.Bool.{eq-eqb, ne_eqb}
use Rattle.wa_types.specs.View.{code, in_front}
use Rattle.wa_types.specs.Syntax.{a_block, a_loop}
use Rattle.wa_types.specs.Liveness.{live, told_at}
use Rattle.frame_sizes.proofs.VisitLemmas.{block_is, loop_is, if_is}
use Rattle.frame_sizes.proofs.LiveLemmas.{live_end, live_before, or_then, or_else, and_then, and_else, same_first, nest_live, branch_live, other_live, told_as, same_live}
use Rattle.frame_sizes.proofs.liveness.+live.Goals as goal

pub is_live-loop-left-init : goal.is_live-loop-left-init
is_live-loop-left-init t c = (omega arith, live_end c.args.local c.args.tos.now c.args.out c.args.body.now)

pub is_live-loop-left-preserved : goal.is_live-loop-left-preserved
is_live-loop-left-preserved t c = (
  omega arith,
  live_before c.args.local c.args.tos.now c.args.out c.args.body.now c.loop-left.left c.index-body-left.result c.loop-left.told c.in_ok-told.told
      (omega arith) c.loop-left.invariant.0 c.index-body-left.is c.loop-left.invariant.1 c.in_ok-told.ensures,
)

pub is_live-returns : goal.is_live-returns
unfolding code
is_live-returns t c = let z : c.loop-left.left ≡ 0 = omega arith in c.loop-left.invariant.1 ∙ ap (λ n. live c.args.local c.args.tos.now c.args.out (code (drop n c.args.body.now))) z

pub is_live_at-returns-in_default : goal.is_live_at-returns-in_default
is_live_at-returns-in_default t c =
    other_live c.args.local c.args.tos.now c.args.behind c.args.instr.now c.in_default.not-LocalGet c.in_default.not-LocalSet c.in_default.not-LocalTee c.in_default.not-Br c.in_default.not-BrIf
    c.in_default.not-BrTable c.in_default.not-Return c.in_default.not-Unreachable c.in_default.not-Block c.in_default.not-Loop c.in_default.not-If

pub is_live_at-returns-then-local-other : goal.is_live_at-returns-then-local-other
unfolding in_front
is_live_at-returns-then-local-other t c = or_then (nat_eq c.args.local c.in-LocalGet.other) c.args.behind (eq-eqb _ _ c.if-local-other.true)
    ∙ same_first c.args.local c.args.tos.now c.args.behind c.args.instr.now _ c.in-LocalGet.is

pub is_live_at-returns-else-local-other : goal.is_live_at-returns-else-local-other
unfolding in_front
is_live_at-returns-else-local-other t c = or_else (nat_eq c.args.local c.in-LocalGet.other) c.args.behind (ne_eqb _ _ c.if-local-other.false)
    ∙ same_first c.args.local c.args.tos.now c.args.behind c.args.instr.now _ c.in-LocalGet.is

pub is_live_at-returns-then-not-local-other : goal.is_live_at-returns-then-not-local-other
unfolding in_front
is_live_at-returns-then-not-local-other t c = and_then (not (nat_eq c.args.local c.in-LocalSet.other)) c.args.behind (ap not (ne_eqb _ _ c.if-not-local-other.true))
    ∙ same_first c.args.local c.args.tos.now c.args.behind c.args.instr.now _ c.in-LocalSet.is

pub is_live_at-returns-else-not-local-other : goal.is_live_at-returns-else-not-local-other
unfolding in_front
is_live_at-returns-else-not-local-other t c = and_else (not (nat_eq c.args.local c.in-LocalSet.other)) c.args.behind (ap not (eq-eqb _ _ c.if-not-local-other.false))
    ∙ same_first c.args.local c.args.tos.now c.args.behind c.args.instr.now _ c.in-LocalSet.is

pub is_live_at-returns-then-not-local-other-2 : goal.is_live_at-returns-then-not-local-other-2
unfolding in_front
is_live_at-returns-then-not-local-other-2 t c = and_then (not (nat_eq c.args.local c.in-LocalTee.other)) c.args.behind (ap not (ne_eqb _ _ c.if-not-local-other-2.true))
    ∙ same_first c.args.local c.args.tos.now c.args.behind c.args.instr.now _ c.in-LocalTee.is

pub is_live_at-returns-else-not-local-other-2 : goal.is_live_at-returns-else-not-local-other-2
unfolding in_front
is_live_at-returns-else-not-local-other-2 t c = and_else (not (nat_eq c.args.local c.in-LocalTee.other)) c.args.behind (ap not (eq-eqb _ _ c.if-not-local-other-2.false))
    ∙ same_first c.args.local c.args.tos.now c.args.behind c.args.instr.now _ c.in-LocalTee.is

pub is_live_at-returns-in-Br : goal.is_live_at-returns-in-Br
unfolding in_front
is_live_at-returns-in-Br t c = c.is_told_at.ensures ∙ same_first c.args.local c.args.tos.now c.args.behind c.args.instr.now _ c.in-Br.is

pub is_live_at-returns-then-is_told_at : goal.is_live_at-returns-then-is_told_at
unfolding in_front
is_live_at-returns-then-is_told_at t c = c.is_told_at-in-BrIf.ensures
    ∙ or_then (told_at c.args.tos.now c.in-BrIf.label) c.args.behind (sym c.is_told_at-in-BrIf.ensures ∙ c.if-is_told_at.true)
    ∙ same_first c.args.local c.args.tos.now c.args.behind c.args.instr.now _ c.in-BrIf.is

pub is_live_at-returns-else-is_told_at : goal.is_live_at-returns-else-is_told_at
unfolding in_front
is_live_at-returns-else-is_told_at t c = or_else (told_at c.args.tos.now c.in-BrIf.label) c.args.behind (sym c.is_told_at-in-BrIf.ensures ∙ c.if-is_told_at.false)
    ∙ same_first c.args.local c.args.tos.now c.args.behind c.args.instr.now _ c.in-BrIf.is

pub is_live_at-returns-then-is_told_at-2 : goal.is_live_at-returns-then-is_told_at-2
unfolding in_front
is_live_at-returns-then-is_told_at-2 t c =
    c.is_told_at-in-BrTable.ensures ∙ or_then (told_at c.args.tos.now c.in-BrTable.last) (list_any (told_at c.args.tos.now) c.in-BrTable.labels.items)
    (sym c.is_told_at-in-BrTable.ensures ∙ c.if-is_told_at-2.true)
    ∙ same_first c.args.local c.args.tos.now c.args.behind c.args.instr.now _ c.in-BrTable.is

pub is_live_at-returns-else-is_told_at-2 : goal.is_live_at-returns-else-is_told_at-2
unfolding in_front
is_live_at-returns-else-is_told_at-2 t c =
    c.is_any_told.ensures ∙ ap (list_any (told_at c.args.tos.now)) c.deref.ensures.value
    ∙ or_else (told_at c.args.tos.now c.in-BrTable.last) (list_any (told_at c.args.tos.now) c.in-BrTable.labels.items) (sym c.is_told_at-in-BrTable.ensures ∙ c.if-is_told_at-2.false)
    ∙ same_first c.args.local c.args.tos.now c.args.behind c.args.instr.now _ c.in-BrTable.is

pub is_live_at-returns-in-Return : goal.is_live_at-returns-in-Return
unfolding in_front
is_live_at-returns-in-Return t c = refl ∙ same_first c.args.local c.args.tos.now c.args.behind c.args.instr.now _ c.in-Return.is

pub is_live_at-returns-in-Unreachable : goal.is_live_at-returns-in-Unreachable
unfolding in_front
is_live_at-returns-in-Unreachable t c = refl ∙ same_first c.args.local c.args.tos.now c.args.behind c.args.instr.now _ c.in-Unreachable.is

pub is_live_at-returns-in_ok-inner-in-Block : goal.is_live_at-returns-in_ok-inner-in-Block
is_live_at-returns-in_ok-inner-in-Block t c =
    told_as c.is_live.result (live c.args.local c.deref-in-Block.result.now c.args.behind (code c.deref-in-Block-2.result.now)) _
    (nest_live c.args.local c.args.tos.now c.args.behind c.args.instr.now a_block c.in-Block.result (code c.deref-in-Block-2.result.now)
    (block_is c.args.instr.now c.in-Block.result c.in-Block.body c.deref-in-Block-2.result.now c.in-Block.is c.deref-in-Block-2.ensures.value) _
    (same_live c.args.local (c.args.behind ∷ c.args.tos.now) c.deref-in-Block.result.now c.args.behind (code c.deref-in-Block-2.result.now)
    (c.deref-in-Block.ensures.value ∙ c.in_ok-inner-in-Block.ensures)))
    c.is_live.ensures

pub is_live_at-returns-in_ok-inner-in-Loop : goal.is_live_at-returns-in_ok-inner-in-Loop
is_live_at-returns-in_ok-inner-in-Loop t c =
    told_as c.is_live-in-Loop.result (live c.args.local c.deref-in-Loop.result.now c.args.behind (code c.deref-in-Loop-2.result.now)) _
    (nest_live c.args.local c.args.tos.now c.args.behind c.args.instr.now a_loop c.in-Loop.result (code c.deref-in-Loop-2.result.now)
    (loop_is c.args.instr.now c.in-Loop.result c.in-Loop.body c.deref-in-Loop-2.result.now c.in-Loop.is c.deref-in-Loop-2.ensures.value) _
    (same_live c.args.local (false ∷ c.args.tos.now) c.deref-in-Loop.result.now c.args.behind (code c.deref-in-Loop-2.result.now) (c.deref-in-Loop.ensures.value ∙ c.in_ok-inner-in-Loop.ensures)))
    c.is_live-in-Loop.ensures

pub is_live_at-returns-in_ok-in_else-in-If : goal.is_live_at-returns-in_ok-in_else-in-If
is_live_at-returns-in_ok-in_else-in-If t c =
    branch_live c.args.local c.args.tos.now c.args.behind c.args.instr.now c.in-If.result (code c.deref-in-If-2.result.now) (code c.deref-in-If-4.result.now)
    (if_is c.args.instr.now c.in-If.result c.in-If.then_arm c.in-If.else_arm c.deref-in-If-2.result.now c.deref-in-If-4.result.now c.in-If.is c.deref-in-If-2.ensures.value
    c.deref-in-If-4.ensures.value)
    c.in_ok-in_then-in-If.in_then c.in_ok-in_else-in-If.in_else c.either.result
    (c.in_ok-in_then-in-If.ensures ∙ same_live c.args.local (c.args.behind ∷ c.args.tos.now) c.deref-in-If.result.now c.args.behind (code c.deref-in-If-2.result.now)
    (c.deref-in-If.ensures.value ∙ c.in_ok-inner-in-If.ensures))
    (c.in_ok-in_else-in-If.ensures ∙ same_live c.args.local (c.args.behind ∷ c.args.tos.now) c.deref-in-If-3.result.now c.args.behind (code c.deref-in-If-4.result.now)
    (c.deref-in-If-3.ensures.value ∙ c.in_ok-inner-in-If.ensures))
    c.either.ensures
