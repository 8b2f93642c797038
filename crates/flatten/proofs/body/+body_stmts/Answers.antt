use Rattle.std.proofs.Common.{arith, drop, sym, refl, ap, subst, None, ◌∙◌, length, reverse, ◌^◌, List, ℕ, Option}
use Rattle.flatten.specs.Emitting.{first_or, flat_at}
use Rattle.flatten.proofs.LeafLemmas.{top_slot_is}
use Rattle.flatten.proofs.BodyLemmas.{walked_first, one_typed, one_room, one_inside, last_stmts, walked_next, end_stmts, goes_on, small_still, one_fewer, arm_ready, restarted, same_labels}
use Rattle.flatten.proofs.NestLemmas.{block_opens, loop_opens, if_opens, block_is, loop_is, if_is, if_some, inner, if_held, if_inside, if_first, if_second, if_room, if_fewer, if_done, nest_inside, nest_fewer, nest_body, nest_room, asks_of, opened, one_label, closed, base_within, block_done, loop_done}
use Rattle.flatten.proofs.ConstructLemmas.{if_put, on_ok}
use Rattle.wa_types.proofs.LeafLemmas.{leaf_other}
use Rattle.wasm_validate.specs.Walk.{Walk, Stays}
use Rattle.wa_types.specs.View.{code}
use Rattle.wa_types.specs.Sizes.{code_items}
use Rattle.wa_types.specs.Syntax.{a_block, a_loop}
use Rattle.std.specs.declared.vec.Vec.{Vec}
use Rattle.std.specs.declared.alloc.Global.{Global}
use Rattle.flatten.proofs.body.+body_stmts.Goals as goal

pub body_stmts-loop-instr-init : goal.body_stmts-loop-instr-init
body_stmts-loop-instr-init t c = walked_first c.args.names.now c.args.at.now _ c.args.out.now.items c.requires.ready c.requires.typed c.requires.empty

pub body_stmts-put_last-requires-clause-typed : goal.body_stmts-put_last-requires-clause-typed
body_stmts-put_last-requires-clause-typed t c =
    one_typed c.args.names.now c.args.at.now c.loop-instr.at c.args.body.now c.loop-instr.instr-index c.instr-item.result c.loop-instr.out.items c.loop-instr.invariant
    (omega (arith, c.loop-instr-test.true)) c.instr-item.is

pub body_stmts-returns-then-is_last-clause-stmts : goal.body_stmts-returns-then-is_last-clause-stmts
body_stmts-returns-then-is_last-clause-stmts t c =
    last_stmts c.args.names.now c.args.at.now c.loop-instr.at c.args.body.now c.loop-instr.instr-index c.instr-item.result c.loop-instr.out.items c.loop-instr.invariant
    (omega (arith, c.loop-instr-test.true)) c.instr-item.is
    c.put_last.new.out.items c.in_ok-put_last.ensures

pub body_stmts-put_instr-requires : goal.body_stmts-put_instr-requires
body_stmts-put_instr-requires t c = (
  omega (
    arith,
    c.decreases,
    one_fewer c.args.names.now c.args.at.now c.loop-instr.at c.args.body.now c.loop-instr.instr-index c.instr-item.result c.loop-instr.out.items
        c.loop-instr.invariant (omega (arith, c.loop-instr-test.true)) c.instr-item.is,
  ),
  (
    goes_on c.is_last.result _ c.is_last.ensures c.if-is_last.false,
    (
      one_typed c.args.names.now c.args.at.now c.loop-instr.at c.args.body.now c.loop-instr.instr-index c.instr-item.result
          c.loop-instr.out.items c.loop-instr.invariant (omega (arith, c.loop-instr-test.true)) c.instr-item.is,
      (
        c.loop-instr.invariant.ready,
        (
          small_still c.args.at.now.typing c.loop-instr.at.typing c.loop-instr.invariant.stays c.requires.small,
          (
            one_room c.args.names.now c.args.at.now c.loop-instr.at c.args.body.now c.loop-instr.instr-index c.instr-item.result c.loop-instr.out.items c.loop-instr.invariant
                (omega (arith, c.loop-instr-test.true)) c.instr-item.is (2 ^ 32) c.requires.ready c.requires.room,
            one_inside c.args.names.now c.args.at.now c.loop-instr.at c.args.body.now c.loop-instr.instr-index c.instr-item.result c.loop-instr.out.items c.loop-instr.invariant
                (omega (arith, c.loop-instr-test.true)) c.instr-item.is c.requires.ready c.requires.inside,
          ),
        ),
      ),
    ),
  ),
)

pub body_stmts-loop-instr-preserved : goal.body_stmts-loop-instr-preserved
body_stmts-loop-instr-preserved t c =
    walked_next c.args.names.now c.args.at.now c.loop-instr.at c.args.body.now c.loop-instr.instr-index c.instr-item.result c.loop-instr.out.items c.loop-instr.invariant
    (omega (arith, c.loop-instr-test.true)) c.instr-item.is
    c.put_instr.new.at c.put_instr.new.out.items (goes_on c.is_last.result _ c.is_last.ensures c.if-is_last.false) c.in_ok-put_instr.ensures

pub body_stmts-returns-clause-stmts : goal.body_stmts-returns-clause-stmts
body_stmts-returns-clause-stmts t c =
    end_stmts c.args.names.now c.args.at.now c.loop-instr.at c.args.body.now c.loop-instr.instr-index c.top_slot-from.result
    (reverse c.deref-2.result.now) c.loop-instr.out.items c.put_carry.new.out.items c.loop-instr.invariant (omega (arith, c.loop-instr-test.false))
    (ap (λ (z : List (Option ℕ)). reverse z) c.deref-2.ensures.value ∙ c.loop-instr.invariant.ready.labels)
    (top_slot_is c.args.names.now c.loop-instr.at c.loop-instr.invariant.ready c.top_slot-from.result (c.top_slot-from.ensures
    ∙ ap (λ (z : List ℕ). first_or (reverse z)) c.deref.ensures.value)) c.in_ok-put_carry.ensures

pub put_instr-open-requires-clause-opens : goal.put_instr-open-requires-clause-opens
put_instr-open-requires-clause-opens t c = block_opens c.args.instr.now c.in-Block.result c.in-Block.body c.in-Block.is

pub put_instr-open-requires-in-Loop-clause-opens : goal.put_instr-open-requires-in-Loop-clause-opens
put_instr-open-requires-in-Loop-clause-opens t c = loop_opens c.args.instr.now c.in-Loop.result c.in-Loop.body c.in-Loop.is

pub put_instr-open-requires-in-If-clause-opens : goal.put_instr-open-requires-in-If-clause-opens
put_instr-open-requires-in-If-clause-opens t c = if_opens c.args.instr.now c.in-If.result c.in-If.then_arm c.in-If.else_arm c.in-If.is

pub put_instr-pop_slot-cond-requires : goal.put_instr-pop_slot-cond-requires
put_instr-pop_slot-cond-requires t c =
    if_some c.args.names.now c.args.at.now c.args.instr.now c.in-If.result _ _ (if_is c.args.instr.now c.in-If.result c.in-If.then_arm c.in-If.else_arm c.in-If.is) c.requires.ready c.requires.typed

pub put_instr-put_leaf-requires : goal.put_instr-put_leaf-requires
put_instr-put_leaf-requires t c = record {
  leaf = leaf_other _ c.in_default.not-Block c.in_default.not-Loop c.in_default.not-If;
  goes_on = c.requires.goes_on;
  typed = c.requires.typed;
  ready = c.requires.ready;
  small = c.requires.small;
}

pub put_instr-body_stmts-requires : goal.put_instr-body_stmts-requires
put_instr-body_stmts-requires t c =
    let n = c.args.names.now in
    let a = c.args.at.now in
    let is = block_is c.args.instr.now c.in-Block.result c.in-Block.body c.in-Block.is in
    let ready = c.requires.ready in
    let typed = c.requires.typed in
    let e = nest_inside n a c.args.instr.now a_block c.in-Block.result (code c.in-Block.body.items) is ready typed c.open.new.at.typing c.in_ok-outer-in-Block.ensures.inside in (
      omega (arith, c.decreases, nest_fewer n a c.args.instr.now a_block c.in-Block.result (code c.in-Block.body.items) is ready typed, ap (λ xs. code_items (code xs)) c.deref.ensures.value),
      (
        c.new-inner.ensures.items,
        asks_of n a c.open.new.at (code c.in-Block.body.items) c.deref.result.now (ap code c.deref.ensures.value)
            (nest_body n a c.args.instr.now a_block c.in-Block.result (code c.in-Block.body.items) is ready typed c.open.new.at.typing e)
            (opened n a.typing c.in-Block.result c.in-Block.result a.typing.own a.slots.items a.labels.items ready.held ready.labels c.open.new.at e
            (ap (λ (z : Vec ℕ Global). z.items) c.in_ok-outer-in-Block.ensures.slots) c.in_ok-outer-in-Block.ensures.labels)
            c.requires.small (ap (λ (w : Walk). w.around) e) (one_label a.labels.items c.open.new.at.labels.items _ c.in_ok-outer-in-Block.ensures.labels)
            (nest_room n a c.args.instr.now a_block c.in-Block.result (code c.in-Block.body.items) is ready typed (2 ^ 32) (length a.labels.items) c.requires.room),
      ),
    )

pub put_instr-close-requires : goal.put_instr-close-requires
put_instr-close-requires t c =
    let n = c.args.names.now in
    let a = c.args.at.now in
    let is = block_is c.args.instr.now c.in-Block.result c.in-Block.body c.in-Block.is in
    let ready = c.requires.ready in
    let typed = c.requires.typed in
    let e = nest_inside n a c.args.instr.now a_block c.in-Block.result (code c.in-Block.body.items) is ready typed c.open.new.at.typing c.in_ok-outer-in-Block.ensures.inside in
    base_within n a.typing c.in-Block.result c.in-Block.result a.typing.own a.slots.items a.labels.items ready.held ready.labels c.body_stmts.new.at.typing c.in_ok-outer-in-Block.outer.base
    (subst (λ (w : Walk). Stays w c.body_stmts.new.at.typing) e c.in_ok-body_stmts-in-Block.ensures.stays) c.in_ok-outer-in-Block.ensures.base

pub put_instr-put_block-requires : goal.put_instr-put_block-requires
put_instr-put_block-requires t c =
    let n = c.args.names.now in
    let a = c.args.at.now in
    let is = block_is c.args.instr.now c.in-Block.result c.in-Block.body c.in-Block.is in
    let ready = c.requires.ready in
    let typed = c.requires.typed in
    let e = nest_inside n a c.args.instr.now a_block c.in-Block.result (code c.in-Block.body.items) is ready typed c.open.new.at.typing c.in_ok-outer-in-Block.ensures.inside in
    (closed n a.typing c.in-Block.result c.in-Block.result a.typing.own a.slots.items a.labels.items ready.held ready.labels c.body_stmts.new.at c.close.new.at
    c.in_ok-outer-in-Block.outer.base c.in_ok-outer-in-Block.outer.height c.in_ok-body_stmts-in-Block.ensures.ready
    (subst (λ (w : Walk). Stays w c.body_stmts.new.at.typing) e c.in_ok-body_stmts-in-Block.ensures.stays) c.in_ok-outer-in-Block.ensures.base c.in_ok-outer-in-Block.ensures.height
    c.in_ok-close-in-Block.ensures.typing c.in_ok-close-in-Block.ensures.slots c.in_ok-close-in-Block.ensures.labels).arrives

pub put_instr-returns-in_ok-close-in-Block : goal.put_instr-returns-in_ok-close-in-Block
put_instr-returns-in_ok-close-in-Block t c =
    let n = c.args.names.now in
    let a = c.args.at.now in
    let is = block_is c.args.instr.now c.in-Block.result c.in-Block.body c.in-Block.is in
    let ready = c.requires.ready in
    let typed = c.requires.typed in
    let e = nest_inside n a c.args.instr.now a_block c.in-Block.result (code c.in-Block.body.items) is ready typed c.open.new.at.typing c.in_ok-outer-in-Block.ensures.inside in
    on_ok c.put_block.result _ _ (λ h. block_done n a c.open.new.at c.body_stmts.new.at c.close.new.at c.put_block.new.at c.args.instr.now c.in-Block.result
    (code c.in-Block.body.items) c.args.out.now.items c.put_block.new.out.items c.body_stmts.new.out.items ready typed is
    (closed n a.typing c.in-Block.result c.in-Block.result a.typing.own a.slots.items a.labels.items ready.held ready.labels c.body_stmts.new.at c.close.new.at
    c.in_ok-outer-in-Block.outer.base c.in_ok-outer-in-Block.outer.height c.in_ok-body_stmts-in-Block.ensures.ready
    (subst (λ (w : Walk). Stays w c.body_stmts.new.at.typing) e c.in_ok-body_stmts-in-Block.ensures.stays) c.in_ok-outer-in-Block.ensures.base c.in_ok-outer-in-Block.ensures.height
    c.in_ok-close-in-Block.ensures.typing c.in_ok-close-in-Block.ensures.slots c.in_ok-close-in-Block.ensures.labels) e (c.in_ok-body_stmts-in-Block.ensures.stmts
    ∙ ap (λ xs. flat_at n c.open.new.at.typing (code xs)) c.deref.ensures.value) h) c.put_block.ensures

pub put_instr-body_stmts-requires-in-Loop : goal.put_instr-body_stmts-requires-in-Loop
put_instr-body_stmts-requires-in-Loop t c =
    let n = c.args.names.now in
    let a = c.args.at.now in
    let is = loop_is c.args.instr.now c.in-Loop.result c.in-Loop.body c.in-Loop.is in
    let ready = c.requires.ready in
    let typed = c.requires.typed in
    let e = nest_inside n a c.args.instr.now a_loop c.in-Loop.result (code c.in-Loop.body.items) is ready typed c.open-in-Loop.new.at.typing c.in_ok-outer-in-Loop.ensures.inside in (
      omega (arith, c.decreases, nest_fewer n a c.args.instr.now a_loop c.in-Loop.result (code c.in-Loop.body.items) is ready typed, ap (λ xs. code_items (code xs)) c.deref-in-Loop.ensures.value),
      (
        c.new-inner-in-Loop.ensures.items,
        asks_of n a c.open-in-Loop.new.at (code c.in-Loop.body.items) c.deref-in-Loop.result.now (ap code c.deref-in-Loop.ensures.value)
            (nest_body n a c.args.instr.now a_loop c.in-Loop.result (code c.in-Loop.body.items) is ready typed c.open-in-Loop.new.at.typing e)
            (opened n a.typing None c.in-Loop.result a.typing.own a.slots.items a.labels.items ready.held ready.labels c.open-in-Loop.new.at e
            (ap (λ (z : Vec ℕ Global). z.items) c.in_ok-outer-in-Loop.ensures.slots) c.in_ok-outer-in-Loop.ensures.labels)
            c.requires.small (ap (λ (w : Walk). w.around) e) (one_label a.labels.items c.open-in-Loop.new.at.labels.items _ c.in_ok-outer-in-Loop.ensures.labels)
            (nest_room n a c.args.instr.now a_loop c.in-Loop.result (code c.in-Loop.body.items) is ready typed (2 ^ 32) (length a.labels.items) c.requires.room),
      ),
    )

pub put_instr-close-requires-in-Loop : goal.put_instr-close-requires-in-Loop
put_instr-close-requires-in-Loop t c =
    let n = c.args.names.now in
    let a = c.args.at.now in
    let is = loop_is c.args.instr.now c.in-Loop.result c.in-Loop.body c.in-Loop.is in
    let ready = c.requires.ready in
    let typed = c.requires.typed in
    let e = nest_inside n a c.args.instr.now a_loop c.in-Loop.result (code c.in-Loop.body.items) is ready typed c.open-in-Loop.new.at.typing c.in_ok-outer-in-Loop.ensures.inside in
    base_within n a.typing None c.in-Loop.result a.typing.own a.slots.items a.labels.items ready.held ready.labels c.body_stmts-in-Loop.new.at.typing c.in_ok-outer-in-Loop.outer.base
    (subst (λ (w : Walk). Stays w c.body_stmts-in-Loop.new.at.typing) e c.in_ok-body_stmts-in-Loop.ensures.stays) c.in_ok-outer-in-Loop.ensures.base

pub put_instr-put_loop-requires : goal.put_instr-put_loop-requires
put_instr-put_loop-requires t c =
    let n = c.args.names.now in
    let a = c.args.at.now in
    let is = loop_is c.args.instr.now c.in-Loop.result c.in-Loop.body c.in-Loop.is in
    let ready = c.requires.ready in
    let typed = c.requires.typed in
    let e = nest_inside n a c.args.instr.now a_loop c.in-Loop.result (code c.in-Loop.body.items) is ready typed c.open-in-Loop.new.at.typing c.in_ok-outer-in-Loop.ensures.inside in
    (closed n a.typing None c.in-Loop.result a.typing.own a.slots.items a.labels.items ready.held ready.labels c.body_stmts-in-Loop.new.at c.close-in-Loop.new.at
    c.in_ok-outer-in-Loop.outer.base c.in_ok-outer-in-Loop.outer.height c.in_ok-body_stmts-in-Loop.ensures.ready
    (subst (λ (w : Walk). Stays w c.body_stmts-in-Loop.new.at.typing) e c.in_ok-body_stmts-in-Loop.ensures.stays) c.in_ok-outer-in-Loop.ensures.base c.in_ok-outer-in-Loop.ensures.height
    c.in_ok-close-in-Loop.ensures.typing c.in_ok-close-in-Loop.ensures.slots c.in_ok-close-in-Loop.ensures.labels).arrives

pub put_instr-returns-in_ok-close-in-Loop : goal.put_instr-returns-in_ok-close-in-Loop
put_instr-returns-in_ok-close-in-Loop t c =
    let n = c.args.names.now in
    let a = c.args.at.now in
    let is = loop_is c.args.instr.now c.in-Loop.result c.in-Loop.body c.in-Loop.is in
    let ready = c.requires.ready in
    let typed = c.requires.typed in
    let e = nest_inside n a c.args.instr.now a_loop c.in-Loop.result (code c.in-Loop.body.items) is ready typed c.open-in-Loop.new.at.typing c.in_ok-outer-in-Loop.ensures.inside in
    on_ok c.put_loop.result _ _ (λ h. loop_done n a c.open-in-Loop.new.at c.body_stmts-in-Loop.new.at c.close-in-Loop.new.at c.put_loop.new.at c.args.instr.now c.in-Loop.result
    (code c.in-Loop.body.items) c.args.out.now.items c.put_loop.new.out.items c.body_stmts-in-Loop.new.out.items ready typed is
    (closed n a.typing None c.in-Loop.result a.typing.own a.slots.items a.labels.items ready.held ready.labels c.body_stmts-in-Loop.new.at c.close-in-Loop.new.at
    c.in_ok-outer-in-Loop.outer.base c.in_ok-outer-in-Loop.outer.height c.in_ok-body_stmts-in-Loop.ensures.ready
    (subst (λ (w : Walk). Stays w c.body_stmts-in-Loop.new.at.typing) e c.in_ok-body_stmts-in-Loop.ensures.stays) c.in_ok-outer-in-Loop.ensures.base c.in_ok-outer-in-Loop.ensures.height
    c.in_ok-close-in-Loop.ensures.typing c.in_ok-close-in-Loop.ensures.slots c.in_ok-close-in-Loop.ensures.labels) e (c.in_ok-body_stmts-in-Loop.ensures.stmts
    ∙ ap (λ xs. flat_at n c.open-in-Loop.new.at.typing (code xs)) c.deref-in-Loop.ensures.value) h) c.put_loop.ensures

pub put_instr-body_stmts-requires-in-If : goal.put_instr-body_stmts-requires-in-If
put_instr-body_stmts-requires-in-If t c =
    let n = c.args.names.now in
    let a = c.args.at.now in
    let i = c.args.instr.now in
    let given = c.in-If.result in
    let one = code c.in-If.then_arm.items in
    let two = code c.in-If.else_arm.items in
    let is = if_is i given c.in-If.then_arm c.in-If.else_arm c.in-If.is in
    let ready = c.requires.ready in
    let typed = c.requires.typed in
    let ss = c.pop_slot-cond.new.slots.items in
    let popped = c.pop_slot-cond.ensures.rest in
    let held = if_held n a i given one two is ready typed ss popped in
    let p = c.open-in-If.new.at in
    let low = drop 1 a.typing.own in
    let e = if_inside n a i given one two is ready typed p.typing c.in_ok-outer-in-If.ensures.inside in
    let first_ready = opened n a.typing given given low ss a.labels.items held ready.labels p e
    (ap (λ (z : Vec ℕ Global). z.items) c.in_ok-outer-in-If.ensures.slots) c.in_ok-outer-in-If.ensures.labels in (
      omega (arith, c.decreases, (if_fewer n a i given one two is ready typed).0, ap (λ xs. code_items (code xs)) c.deref-in-If.ensures.value),
      (
        c.new-first.ensures.items,
        asks_of n a p one c.deref-in-If.result.now (ap code c.deref-in-If.ensures.value) (if_first n a i given one two is ready typed p.typing e) first_ready
            c.requires.small (ap (λ (w : Walk). w.around) e) (one_label a.labels.items p.labels.items _ c.in_ok-outer-in-If.ensures.labels)
            (if_room n a i given one two is ready typed (2 ^ 32) (length a.labels.items) c.requires.room).0,
      ),
    )

pub put_instr-body_stmts-requires-in-If-2 : goal.put_instr-body_stmts-requires-in-If-2
put_instr-body_stmts-requires-in-If-2 t c =
    let n = c.args.names.now in
    let a = c.args.at.now in
    let i = c.args.instr.now in
    let given = c.in-If.result in
    let one = code c.in-If.then_arm.items in
    let two = code c.in-If.else_arm.items in
    let is = if_is i given c.in-If.then_arm c.in-If.else_arm c.in-If.is in
    let ready = c.requires.ready in
    let typed = c.requires.typed in
    let ss = c.pop_slot-cond.new.slots.items in
    let popped = c.pop_slot-cond.ensures.rest in
    let held = if_held n a i given one two is ready typed ss popped in
    let p = c.open-in-If.new.at in
    let low = drop 1 a.typing.own in
    let e = if_inside n a i given one two is ready typed p.typing c.in_ok-outer-in-If.ensures.inside in
    let first_ready = opened n a.typing given given low ss a.labels.items held ready.labels p e
    (ap (λ (z : Vec ℕ Global). z.items) c.in_ok-outer-in-If.ensures.slots) c.in_ok-outer-in-If.ensures.labels in
    let q = c.body_stmts-in-If.new.at in
    let s = c.restart.new.at in
    let e2 = c.restart.ensures.typing ∙ restarted (inner n a.typing given given low) q.typing (subst (λ (w : Walk). Stays w q.typing) e c.in_ok-body_stmts-in-If.ensures.stays) refl in
    let same = ap (λ (z : Vec (Option ℕ) Global). z.items) c.restart.ensures.labels in
    let height = c.in_ok-outer-in-If.ensures.height ∙ ap length (ap (λ (z : Vec ℕ Global). z.items) (sym c.in_ok-outer-in-If.ensures.slots)) in
    let again = arm_ready n p q s c.in_ok-outer-in-If.outer.height first_ready c.in_ok-body_stmts-in-If.ensures.ready c.in_ok-body_stmts-in-If.ensures.stays (ap (λ (w : Walk). w.own) e) height (e2
    ∙ sym e) same c.restart.ensures.slots in (
      omega (arith, c.decreases, (if_fewer n a i given one two is ready typed).1, ap (λ xs. code_items (code xs)) c.deref-in-If-2.ensures.value),
      (
        c.new-second.ensures.items,
        asks_of n a s two c.deref-in-If-2.result.now (ap code c.deref-in-If-2.ensures.value) (if_second n a i given one two is ready typed s.typing e2) again
            c.requires.small (ap (λ (w : Walk). w.around) e2) (same_labels n p s first_ready again (e2 ∙ sym e) ∙ one_label a.labels.items p.labels.items _ c.in_ok-outer-in-If.ensures.labels)
            (if_room n a i given one two is ready typed (2 ^ 32) (length a.labels.items) c.requires.room).1,
      ),
    )

pub put_instr-close-requires-in-If : goal.put_instr-close-requires-in-If
put_instr-close-requires-in-If t c =
    let n = c.args.names.now in
    let a = c.args.at.now in
    let i = c.args.instr.now in
    let given = c.in-If.result in
    let one = code c.in-If.then_arm.items in
    let two = code c.in-If.else_arm.items in
    let is = if_is i given c.in-If.then_arm c.in-If.else_arm c.in-If.is in
    let ready = c.requires.ready in
    let typed = c.requires.typed in
    let ss = c.pop_slot-cond.new.slots.items in
    let popped = c.pop_slot-cond.ensures.rest in
    let held = if_held n a i given one two is ready typed ss popped in
    let p = c.open-in-If.new.at in
    let low = drop 1 a.typing.own in
    let e = if_inside n a i given one two is ready typed p.typing c.in_ok-outer-in-If.ensures.inside in
    let first_ready = opened n a.typing given given low ss a.labels.items held ready.labels p e
    (ap (λ (z : Vec ℕ Global). z.items) c.in_ok-outer-in-If.ensures.slots) c.in_ok-outer-in-If.ensures.labels in
    let q = c.body_stmts-in-If.new.at in
    let s = c.restart.new.at in
    let e2 = c.restart.ensures.typing ∙ restarted (inner n a.typing given given low) q.typing (subst (λ (w : Walk). Stays w q.typing) e c.in_ok-body_stmts-in-If.ensures.stays) refl in
    let st = subst (λ (w : Walk). Stays w c.body_stmts-in-If-2.new.at.typing) e2 c.in_ok-body_stmts-in-If-2.ensures.stays in
    base_within n a.typing given given low ss a.labels.items held ready.labels c.body_stmts-in-If-2.new.at.typing c.in_ok-outer-in-If.outer.base st c.in_ok-outer-in-If.ensures.base

pub put_instr-put_arrival-requires : goal.put_instr-put_arrival-requires
put_instr-put_arrival-requires t c =
    let n = c.args.names.now in
    let a = c.args.at.now in
    let i = c.args.instr.now in
    let given = c.in-If.result in
    let one = code c.in-If.then_arm.items in
    let two = code c.in-If.else_arm.items in
    let is = if_is i given c.in-If.then_arm c.in-If.else_arm c.in-If.is in
    let ready = c.requires.ready in
    let typed = c.requires.typed in
    let ss = c.pop_slot-cond.new.slots.items in
    let popped = c.pop_slot-cond.ensures.rest in
    let held = if_held n a i given one two is ready typed ss popped in
    let p = c.open-in-If.new.at in
    let low = drop 1 a.typing.own in
    let e = if_inside n a i given one two is ready typed p.typing c.in_ok-outer-in-If.ensures.inside in
    let first_ready = opened n a.typing given given low ss a.labels.items held ready.labels p e
    (ap (λ (z : Vec ℕ Global). z.items) c.in_ok-outer-in-If.ensures.slots) c.in_ok-outer-in-If.ensures.labels in
    let q = c.body_stmts-in-If.new.at in
    let s = c.restart.new.at in
    let e2 = c.restart.ensures.typing ∙ restarted (inner n a.typing given given low) q.typing (subst (λ (w : Walk). Stays w q.typing) e c.in_ok-body_stmts-in-If.ensures.stays) refl in
    let st = subst (λ (w : Walk). Stays w c.body_stmts-in-If-2.new.at.typing) e2 c.in_ok-body_stmts-in-If-2.ensures.stays in
    let done = closed n a.typing given given low ss a.labels.items held ready.labels c.body_stmts-in-If-2.new.at c.close-in-If.new.at c.in_ok-outer-in-If.outer.base
    c.in_ok-outer-in-If.outer.height c.in_ok-body_stmts-in-If-2.ensures.ready st c.in_ok-outer-in-If.ensures.base c.in_ok-outer-in-If.ensures.height c.in_ok-close-in-If.ensures.typing
    c.in_ok-close-in-If.ensures.slots c.in_ok-close-in-If.ensures.labels in
    done.arrives

pub put_instr-returns-in_ok-put_if-in-If : goal.put_instr-returns-in_ok-put_if-in-If
put_instr-returns-in_ok-put_if-in-If t c =
    let n = c.args.names.now in
    let a = c.args.at.now in
    let i = c.args.instr.now in
    let given = c.in-If.result in
    let one = code c.in-If.then_arm.items in
    let two = code c.in-If.else_arm.items in
    let is = if_is i given c.in-If.then_arm c.in-If.else_arm c.in-If.is in
    let ready = c.requires.ready in
    let typed = c.requires.typed in
    let ss = c.pop_slot-cond.new.slots.items in
    let popped = c.pop_slot-cond.ensures.rest in
    let held = if_held n a i given one two is ready typed ss popped in
    let p = c.open-in-If.new.at in
    let low = drop 1 a.typing.own in
    let e = if_inside n a i given one two is ready typed p.typing c.in_ok-outer-in-If.ensures.inside in
    let first_ready = opened n a.typing given given low ss a.labels.items held ready.labels p e
    (ap (λ (z : Vec ℕ Global). z.items) c.in_ok-outer-in-If.ensures.slots) c.in_ok-outer-in-If.ensures.labels in
    let q = c.body_stmts-in-If.new.at in
    let s = c.restart.new.at in
    let e2 = c.restart.ensures.typing ∙ restarted (inner n a.typing given given low) q.typing (subst (λ (w : Walk). Stays w q.typing) e c.in_ok-body_stmts-in-If.ensures.stays) refl in
    let st = subst (λ (w : Walk). Stays w c.body_stmts-in-If-2.new.at.typing) e2 c.in_ok-body_stmts-in-If-2.ensures.stays in
    let done = closed n a.typing given given low ss a.labels.items held ready.labels c.body_stmts-in-If-2.new.at c.close-in-If.new.at c.in_ok-outer-in-If.outer.base
    c.in_ok-outer-in-If.outer.height c.in_ok-body_stmts-in-If-2.ensures.ready st c.in_ok-outer-in-If.ensures.base c.in_ok-outer-in-If.ensures.height c.in_ok-close-in-If.ensures.typing
    c.in_ok-close-in-If.ensures.slots c.in_ok-close-in-If.ensures.labels in
    on_ok c.put_arrival.result _ _ (λ h. if_done n a p s c.close-in-If.new.at c.put_arrival.new.at i given one two c.args.out.now.items c.put_arrival.new.out.items c.body_stmts-in-If.new.out.items
    c.body_stmts-in-If-2.new.out.items ss c.pop_slot-cond.result ready typed popped is
    done (top_slot_is n a ready c.pop_slot-cond.result c.pop_slot-cond.ensures.top) e e2 (c.in_ok-body_stmts-in-If.ensures.stmts ∙ ap (λ xs. flat_at n p.typing (code xs)) c.deref-in-If.ensures.value)
    (c.in_ok-body_stmts-in-If-2.ensures.stmts ∙ ap (λ xs. flat_at n s.typing (code xs)) c.deref-in-If-2.ensures.value)
    (if_put n given c.pop_slot-cond.result c.body_stmts-in-If.new.out c.body_stmts-in-If-2.new.out c.close-in-If.new.at c.put_arrival.new.at c.args.out.now.items c.put_if.new.out.items
    c.put_arrival.new.out.items c.in_ok-put_if-in-If.ensures h)) c.put_arrival.ensures
