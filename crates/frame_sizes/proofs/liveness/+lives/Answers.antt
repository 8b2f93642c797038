use Rattle.std.proofs.Common.{arith, ◌≡◌, ◌++◌, ◌∷◌, ap, sym, refl, ◌∙◌, drop, reverse, false}
use Rattle.std.proofs.lemmas.List.{append-nil}
use Rattle.wa_types.specs.View.{code, in_front}
use Rattle.wa_types.specs.Syntax.{done, call, call_indirect, a_block, a_loop}
use Rattle.wa_types.specs.Pausing.{direct, indirect}
use Rattle.wa_types.specs.Liveness.{live}
use Rattle.frame_sizes.specs.Lives.{lives, label_live}
use Rattle.frame_sizes.proofs.VisitLemmas.{block_is, loop_is, if_is, ok_as, always}
use Rattle.frame_sizes.proofs.LiveLemmas.{live_end, lives_end, live_before, lives_before, same_first, nest_live, nest_lives, branch_live, branch_lives, call_lives, none_lives, told_as, same_live, same_lives}
use Rattle.frame_sizes.proofs.liveness.+lives.Goals as goal

pub put_lives-loop-left-init : goal.put_lives-loop-left-init
put_lives-loop-left-init t c = (
  omega arith,
  live_end c.args.local c.args.tos.now c.args.out c.args.body.now,
  sym (append-nil c.args.found.now.items) ∙ ap (λ xs. c.args.found.now.items ++ reverse xs) (sym (lives_end c.args.local c.args.tos.now c.args.out c.args.body.now)),
)

pub put_lives-loop-left-preserved : goal.put_lives-loop-left-preserved
put_lives-loop-left-preserved t c = (
  omega arith,
  live_before c.args.local c.args.tos.now c.args.out c.args.body.now c.loop-left.left c.index-body-left.result c.loop-left.told c.in_ok-told.told
      (omega arith) c.loop-left.invariant.0 c.index-body-left.is c.loop-left.invariant.1 c.in_ok-told.ensures.told,
  lives_before c.args.local c.args.tos.now c.args.out c.args.body.now c.loop-left.left c.index-body-left.result c.loop-left.told c.in_ok-told.told
      (omega arith) c.loop-left.invariant.0 c.index-body-left.is c.loop-left.invariant.1 c.in_ok-told.ensures.told
      c.args.found.now.items c.loop-left.found.items c.put_lives_at.new.found.items c.loop-left.invariant.2 c.in_ok-told.ensures.found,
)

pub put_lives-returns-clause-told : goal.put_lives-returns-clause-told
unfolding code
put_lives-returns-clause-told t c =
    let z : c.loop-left.left ≡ 0 = omega arith in c.loop-left.invariant.1 ∙ ap (λ n. live c.args.local c.args.tos.now c.args.out (code (drop n c.args.body.now))) z

pub put_lives-returns-clause-found : goal.put_lives-returns-clause-found
unfolding code
put_lives-returns-clause-found t c =
    let z : c.loop-left.left ≡ 0 = omega arith in
    c.loop-left.invariant.2 ∙ ap (λ n. c.args.found.now.items ++ reverse (lives c.args.local c.args.tos.now c.args.out (code (drop n c.args.body.now)))) z

pub put_lives_at-returns-in_ok-push-in-Call-clause-told : goal.put_lives_at-returns-in_ok-push-in-Call-clause-told
unfolding in_front
put_lives_at-returns-in_ok-push-in-Call-clause-told t c = same_first c.args.local c.args.tos.now c.args.behind c.args.instr.now _ c.in-Call.is

pub put_lives_at-returns-in_ok-push-in-Call-clause-found : goal.put_lives_at-returns-in_ok-push-in-Call-clause-found
unfolding in_front
put_lives_at-returns-in_ok-push-in-Call-clause-found t c =
    call_lives c.args.local c.args.tos.now c.args.behind c.args.instr.now (call c.in-Call.field-0) (ap (λ x. in_front x done) c.in-Call.is) (direct c.in-Call.field-0) refl
    c.args.found.now.items c.push.new.self.items c.in_ok-push-in-Call.ensures.items

pub put_lives_at-returns-in_ok-push-in-CallIndirect-clause-told : goal.put_lives_at-returns-in_ok-push-in-CallIndirect-clause-told
unfolding in_front
put_lives_at-returns-in_ok-push-in-CallIndirect-clause-told t c = same_first c.args.local c.args.tos.now c.args.behind c.args.instr.now _ c.in-CallIndirect.is

pub put_lives_at-returns-in_ok-push-in-CallIndirect-clause-found : goal.put_lives_at-returns-in_ok-push-in-CallIndirect-clause-found
unfolding in_front
put_lives_at-returns-in_ok-push-in-CallIndirect-clause-found t c =
    call_lives c.args.local c.args.tos.now c.args.behind c.args.instr.now (call_indirect c.in-CallIndirect.field-0) (ap (λ x. in_front x done) c.in-CallIndirect.is)
    (indirect c.in-CallIndirect.field-0) refl
    c.args.found.now.items c.push-in-CallIndirect.new.self.items c.in_ok-push-in-CallIndirect.ensures.items

pub put_lives_at-returns-in_ok-inner-in-Block-clause-told : goal.put_lives_at-returns-in_ok-inner-in-Block-clause-told
put_lives_at-returns-in_ok-inner-in-Block-clause-told t c =
    told_as c.put_lives.result (live c.args.local c.deref.result.now c.args.behind (code c.deref-in-Block.result.now)) _
    (nest_live c.args.local c.args.tos.now c.args.behind c.args.instr.now a_block c.in-Block.result (code c.deref-in-Block.result.now)
    (block_is c.args.instr.now c.in-Block.result c.in-Block.body c.deref-in-Block.result.now c.in-Block.is c.deref-in-Block.ensures.value) _
    (same_live c.args.local (c.args.behind ∷ c.args.tos.now) c.deref.result.now c.args.behind (code c.deref-in-Block.result.now) (c.deref.ensures.value ∙ c.in_ok-inner-in-Block.ensures)))
    c.put_lives.ensures.told

pub put_lives_at-returns-in_ok-inner-in-Block-clause-found : goal.put_lives_at-returns-in_ok-inner-in-Block-clause-found
put_lives_at-returns-in_ok-inner-in-Block-clause-found t c =
    ok_as c.put_lives.result _ _ (λ e. nest_lives c.args.local c.args.tos.now c.args.behind c.args.instr.now a_block c.in-Block.result (code c.deref-in-Block.result.now)
    (block_is c.args.instr.now c.in-Block.result c.in-Block.body c.deref-in-Block.result.now c.in-Block.is c.deref-in-Block.ensures.value)
    c.args.found.now.items c.put_lives.new.found.items
    (same_lives c.args.local (c.args.behind ∷ c.args.tos.now) c.deref.result.now c.args.behind (code c.deref-in-Block.result.now) (code c.deref-in-Block.result.now)
    c.args.found.now.items c.put_lives.new.found.items (c.deref.ensures.value ∙ c.in_ok-inner-in-Block.ensures) refl e))
    c.put_lives.ensures.found

pub put_lives_at-returns-in_ok-put_lives-in-Loop-clause-told : goal.put_lives_at-returns-in_ok-put_lives-in-Loop-clause-told
put_lives_at-returns-in_ok-put_lives-in-Loop-clause-told t c =
    nest_live c.args.local c.args.tos.now c.args.behind c.args.instr.now a_loop c.in-Loop.result (code c.deref-in-Loop-2.result.now)
    (loop_is c.args.instr.now c.in-Loop.result c.in-Loop.body c.deref-in-Loop-2.result.now c.in-Loop.is c.deref-in-Loop-2.ensures.value) c.in_ok-first-in-Loop.first
    (c.in_ok-first-in-Loop.ensures
    ∙ same_live c.args.local (false ∷ c.args.tos.now) c.deref-in-Loop.result.now c.args.behind (code c.deref-in-Loop-2.result.now) (c.deref-in-Loop.ensures.value ∙ c.in_ok-inner-in-Loop.ensures))

pub put_lives_at-returns-in_ok-put_lives-in-Loop-clause-found : goal.put_lives_at-returns-in_ok-put_lives-in-Loop-clause-found
put_lives_at-returns-in_ok-put_lives-in-Loop-clause-found t c =
    let body = code c.deref-in-Loop-2.result.now in
    let first = c.in_ok-first-in-Loop.ensures
    ∙ same_live c.args.local (false ∷ c.args.tos.now) c.deref-in-Loop.result.now c.args.behind (code c.deref-in-Loop-2.result.now) (c.deref-in-Loop.ensures.value ∙ c.in_ok-inner-in-Loop.ensures) in
    nest_lives c.args.local c.args.tos.now c.args.behind c.args.instr.now a_loop c.in-Loop.result body
    (loop_is c.args.instr.now c.in-Loop.result c.in-Loop.body c.deref-in-Loop-2.result.now c.in-Loop.is c.deref-in-Loop-2.ensures.value)
    c.args.found.now.items c.put_lives-in-Loop.new.found.items
    (same_lives c.args.local (label_live c.args.local a_loop c.args.tos.now c.args.behind body ∷ c.args.tos.now) c.deref-in-Loop-3.result.now c.args.behind body (code c.deref-in-Loop-4.result.now)
    c.args.found.now.items c.put_lives-in-Loop.new.found.items
    (c.deref-in-Loop-3.ensures.value ∙ c.in_ok-inner-in-Loop-2.ensures ∙ ap (λ b. b ∷ c.args.tos.now) first)
    (ap code (c.deref-in-Loop-4.ensures.value ∙ sym c.deref-in-Loop-2.ensures.value)) c.in_ok-put_lives-in-Loop.ensures.found)

pub put_lives_at-returns-in_ok-in_then-in-If-clause-told : goal.put_lives_at-returns-in_ok-in_then-in-If-clause-told
put_lives_at-returns-in_ok-in_then-in-If-clause-told t c =
    branch_live c.args.local c.args.tos.now c.args.behind c.args.instr.now c.in-If.result (code c.deref-in-If-4.result.now) (code c.deref-in-If-2.result.now)
    (if_is c.args.instr.now c.in-If.result c.in-If.then_arm c.in-If.else_arm c.deref-in-If-4.result.now c.deref-in-If-2.result.now c.in-If.is c.deref-in-If-4.ensures.value
    c.deref-in-If-2.ensures.value)
    c.in_ok-in_then-in-If.in_then c.in_ok-in_else-in-If.in_else c.either.result
    (c.in_ok-in_then-in-If.ensures.told ∙ same_live c.args.local (c.args.behind ∷ c.args.tos.now) c.deref-in-If-3.result.now c.args.behind (code c.deref-in-If-4.result.now)
    (c.deref-in-If-3.ensures.value ∙ c.in_ok-inner-in-If.ensures))
    (c.in_ok-in_else-in-If.ensures.told ∙ same_live c.args.local (c.args.behind ∷ c.args.tos.now) c.deref-in-If.result.now c.args.behind (code c.deref-in-If-2.result.now)
    (c.deref-in-If.ensures.value ∙ c.in_ok-inner-in-If.ensures))
    c.either.ensures

pub put_lives_at-returns-in_ok-in_then-in-If-clause-found : goal.put_lives_at-returns-in_ok-in_then-in-If-clause-found
put_lives_at-returns-in_ok-in_then-in-If-clause-found t c =
    branch_lives c.args.local c.args.tos.now c.args.behind c.args.instr.now c.in-If.result (code c.deref-in-If-4.result.now) (code c.deref-in-If-2.result.now)
    (if_is c.args.instr.now c.in-If.result c.in-If.then_arm c.in-If.else_arm c.deref-in-If-4.result.now c.deref-in-If-2.result.now c.in-If.is c.deref-in-If-4.ensures.value
    c.deref-in-If-2.ensures.value)
    c.args.found.now.items c.put_lives-in-If.new.found.items c.put_lives-in-If-2.new.found.items
    (same_lives c.args.local (c.args.behind ∷ c.args.tos.now) c.deref-in-If.result.now c.args.behind (code c.deref-in-If-2.result.now) (code c.deref-in-If-2.result.now)
    c.args.found.now.items c.put_lives-in-If.new.found.items (c.deref-in-If.ensures.value ∙ c.in_ok-inner-in-If.ensures) refl c.in_ok-in_else-in-If.ensures.found)
    (same_lives c.args.local (c.args.behind ∷ c.args.tos.now) c.deref-in-If-3.result.now c.args.behind (code c.deref-in-If-4.result.now) (code c.deref-in-If-4.result.now)
    c.put_lives-in-If.new.found.items c.put_lives-in-If-2.new.found.items (c.deref-in-If-3.ensures.value ∙ c.in_ok-inner-in-If.ensures) refl c.in_ok-in_then-in-If.ensures.found)

pub put_lives_at-returns-in_default-clause-told : goal.put_lives_at-returns-in_default-clause-told
put_lives_at-returns-in_default-clause-told t c = c.is_live_at.ensures

pub put_lives_at-returns-in_default-clause-found : goal.put_lives_at-returns-in_default-clause-found
put_lives_at-returns-in_default-clause-found t c =
    ok_as c.is_live_at.result (Unit {0}) _ (λ u. none_lives c.args.local c.args.tos.now c.args.behind c.args.instr.now c.in_default.not-Call c.in_default.not-CallIndirect
    c.in_default.not-Block c.in_default.not-Loop c.in_default.not-If c.args.found.now.items)
    (always c.is_live_at.result)
