use Rattle.std.proofs.Common.{arith, ap, sym, subst, refl, drop, length, ◌∙◌, ◌||◌}
use Rattle.wa_types.specs.View.{code}
use Rattle.flatten.proofs.BodyLemmas.{goes_on, small_still, told, restarted}
use Rattle.flatten.proofs.SurveyedLemmas.{went_end, went_last, went_next, went_fewer, next_typed, next_fewer, nest_in, nest_first, nest_items, nest_one, branch_in, branch_first, branch_second, branch_items, branch_one, plain_one, inside_of, left_behind, base_within, on_both}
use Rattle.std.specs.List.{list_any}
use Rattle.wa_types.specs.Typing.{label}
use Rattle.wa_types.specs.Frames.{pair_of, same_pair, shape_pair}
use Rattle.std.proofs.lemmas.Result.{on_ok_weaker}
use Rattle.wa_types.specs.Syntax.{a_block, a_loop, branch, nest}
use Rattle.wa_types.proofs.LeafLemmas.{leaf_other}
use Rattle.wasm_validate.specs.Walk.{Walk, Stays}
use Rattle.flatten.specs.Emitting.{SmallTypes}
use Rattle.flatten.specs.Numbers.{is_marked}
use Rattle.flatten.specs.Surveying.{SurveyedOne}
use Rattle.flatten.proofs.BasicLemmas.{leaf_goes_on}
use Rattle.flatten.proofs.NestLemmas.{block_is, loop_is, if_is, block_opens, loop_opens, if_opens}
use Rattle.flatten.proofs.survey.+survey_body.Goals as goal

pub survey_body-returns-then-is_last : goal.survey_body-returns-then-is_last
survey_body-returns-then-is_last t c =
    went_last c.args.typing.now c.loop-instr.typing c.args.body.now c.loop-instr.instr-index c.args.found.now c.loop-instr.found c.loop-instr.invariant c.instr-item.result
    (omega (arith, c.loop-instr-test.true)) c.instr-item.is (told c.is_last.result _ c.is_last.ensures c.if-is_last.true)

pub survey_body-survey_instr-requires : goal.survey_body-survey_instr-requires
survey_body-survey_instr-requires t c =
    let w = c.loop-instr.invariant in
    let fewer = next_fewer c.args.typing.now c.loop-instr.typing c.args.body.now c.loop-instr.instr-index c.args.found.now c.loop-instr.found w c.instr-item.result
    (omega (arith, c.loop-instr-test.true)) c.instr-item.is in
    let all = went_fewer c.args.body.now c.loop-instr.instr-index in (
      omega (arith, c.decreases, fewer, all),
      (
        goes_on c.is_last.result _ c.is_last.ensures c.if-is_last.false,
        (
          next_typed c.args.typing.now c.loop-instr.typing c.args.body.now c.loop-instr.instr-index c.args.found.now c.loop-instr.found w c.instr-item.result
              (omega (arith, c.loop-instr-test.true)) c.instr-item.is,
          (small_still c.args.typing.now c.loop-instr.typing w.stays c.requires.small, (c.requires.depth ∙ sym (ap length w.stays.labels), omega (arith, c.requires.room, fewer, all))),
        ),
      ),
    )

pub survey_body-loop-instr-preserved : goal.survey_body-loop-instr-preserved
survey_body-loop-instr-preserved t c =
    went_next c.args.typing.now c.loop-instr.typing c.args.body.now c.loop-instr.instr-index c.args.found.now c.loop-instr.found c.loop-instr.invariant c.instr-item.result
    (omega (arith, c.loop-instr-test.true)) c.instr-item.is
    c.survey_instr.new.typing c.survey_instr.new.found (goes_on c.is_last.result _ c.is_last.ensures c.if-is_last.false) c.in_ok-survey_instr.ensures

pub survey_body-returns : goal.survey_body-returns
survey_body-returns t c =
    went_end c.args.typing.now c.loop-instr.typing c.args.body.now c.loop-instr.instr-index c.args.found.now c.loop-instr.found c.loop-instr.invariant (omega (arith, c.loop-instr-test.false))

pub survey_instr-survey_nest-requires : goal.survey_instr-survey_nest-requires
survey_instr-survey_nest-requires t c =
    let i = c.args.instr.now in
    let given = c.in-Block.result in
    let is = block_is i given c.in-Block.body c.in-Block.is in (
      omega (arith, c.decreases),
      (
        block_opens i given c.in-Block.body c.in-Block.is,
        ((a_block, λ rest. is rest ∙ ap (λ xs. nest a_block given (code xs) rest) (sym c.deref.ensures.value)), (c.requires.typed, (c.requires.small, (c.requires.depth, c.requires.room)))),
      ),
    )

pub survey_instr-returns-in_ok-visit_result-in-Block : goal.survey_instr-returns-in_ok-visit_result-in-Block
survey_instr-returns-in_ok-visit_result-in-Block t c =
    let i = c.args.instr.now in
    let given = c.in-Block.result in
    let is = block_is i given c.in-Block.body c.in-Block.is in
    let h = c.in_ok-visit_result-in-Block.ensures in
    on_ok_weaker {Q = SurveyedOne c.args.typing.now c.survey_nest.new.typing c.args.instr.now c.args.found.now c.survey_nest.new.found} c.survey_nest.result (λ f. f a_block c.args.found.now (λ rest. is rest ∙ ap (λ xs. nest a_block given (code xs) rest) (sym c.deref.ensures.value))
    (record { slots = refl; marked = h.marked; few = h.few })) c.survey_nest.ensures

pub survey_instr-survey_nest-requires-in-Loop : goal.survey_instr-survey_nest-requires-in-Loop
survey_instr-survey_nest-requires-in-Loop t c =
    let i = c.args.instr.now in
    let given = c.in-Loop.result in
    let is = loop_is i given c.in-Loop.body c.in-Loop.is in (
      omega (arith, c.decreases),
      (
        loop_opens i given c.in-Loop.body c.in-Loop.is,
        ((a_loop, λ rest. is rest ∙ ap (λ xs. nest a_loop given (code xs) rest) (sym c.deref-in-Loop.ensures.value)), (c.requires.typed, (c.requires.small, (c.requires.depth, c.requires.room)))),
      ),
    )

pub survey_instr-returns-in-Loop : goal.survey_instr-returns-in-Loop
survey_instr-returns-in-Loop t c =
    let i = c.args.instr.now in
    let given = c.in-Loop.result in
    let is = loop_is i given c.in-Loop.body c.in-Loop.is in
    on_ok_weaker {Q = SurveyedOne c.args.typing.now c.survey_nest-in-Loop.new.typing c.args.instr.now c.args.found.now c.survey_nest-in-Loop.new.found} c.survey_nest-in-Loop.result (λ f. f a_loop c.args.found.now (λ rest. is rest ∙ ap (λ xs. nest a_loop given (code xs) rest) (sym c.deref-in-Loop.ensures.value))
    (record { slots = refl; marked = λ d t. refl; few = omega arith })) c.survey_nest-in-Loop.ensures

pub survey_instr-survey_arms-requires : goal.survey_instr-survey_arms-requires
survey_instr-survey_arms-requires t c =
    let i = c.args.instr.now in
    let given = c.in-If.result in
    let is = if_is i given c.in-If.then_arm c.in-If.else_arm c.in-If.is in (
      omega (arith, c.decreases),
      (
        if_opens i given c.in-If.then_arm c.in-If.else_arm c.in-If.is,
        (
          λ rest. is rest ∙ (λ j. branch given (code (sym c.deref-in-If.ensures.value j)) (code (sym c.deref-in-If-2.ensures.value j)) rest),
          (c.requires.typed, (c.requires.small, (c.requires.depth, c.requires.room))),
        ),
      ),
    )

pub survey_instr-returns-in_ok-visit_result-in-If : goal.survey_instr-returns-in_ok-visit_result-in-If
survey_instr-returns-in_ok-visit_result-in-If t c =
    let h = c.in_ok-visit_result-in-If.ensures in
    on_ok_weaker {Q = SurveyedOne c.args.typing.now c.survey_arms.new.typing c.args.instr.now c.args.found.now c.survey_arms.new.found} c.survey_arms.result (λ f. f c.args.found.now (record { slots = refl; marked = h.marked; few = h.few })) c.survey_arms.ensures

pub survey_nest-overflow_add-depth : goal.survey_nest-overflow_add-depth
survey_nest-overflow_add-depth t c =
    let v = c.args.typing.now in
    omega (arith, c.requires.room, nest_items v v v c.args.instr.now c.requires.nest.0 c.args.given (code c.args.body.now) c.requires.nest.1 c.requires.typed)

pub survey_nest-survey_body-requires : goal.survey_nest-survey_body-requires
survey_nest-survey_body-requires t c =
    let v = c.args.typing.now in
    let i = c.args.instr.now in
    let s = c.requires.nest.0 in
    let is = c.requires.nest.1 in
    let given = c.args.given in
    let body = code c.args.body.now in
    let typed = c.requires.typed in
    let e = c.enter.new.self in
    let ee = nest_in v v v i s given body is typed e c.in_ok-enter.ensures in
    let items = nest_items v v v i s given body is typed in (
      omega (arith, c.decreases, items),
      (
        nest_first v v v i s given body is typed e ee,
        (
          subst SmallTypes (sym (ap (λ (w : Walk). w.around) ee)) c.requires.small,
          (omega (arith, c.requires.depth, ap (λ (w : Walk). length w.labels) ee), omega (arith, c.requires.room, items)),
        ),
      ),
    )

pub survey_nest-leave-requires : goal.survey_nest-leave-requires
survey_nest-leave-requires t c =
    let v = c.args.typing.now in
    let s = c.requires.nest.0 in
    let given = c.args.given in
    let ee = nest_in v v v c.args.instr.now s given (code c.args.body.now) c.requires.nest.1 c.requires.typed c.enter.new.self c.in_ok-enter.ensures in
    base_within v (label s given) given v.own c.survey_body.new.typing c.base-base.result
    (subst (λ (w : Walk). Stays w c.survey_body.new.typing) ee c.in_ok-survey_body.ensures.stays) c.base-base.ensures

pub survey_nest-returns : goal.survey_nest-returns
survey_nest-returns t c =
    let v = c.args.typing.now in
    let i = c.args.instr.now in
    let given = c.args.given in
    let body = code c.args.body.now in
    let typed = c.requires.typed in
    let e = c.enter.new.self in
    let u = c.survey_body.new.typing in
    let m = c.survey_body.new.found in
    let w = c.leave.new.self in
    on_both c.visit.result _ _ _ (λ marked few s a is o.
    let ee = nest_in v v v i s given body is typed e c.in_ok-enter.ensures in
    let st = subst (λ (z : Walk). Stays z u) ee c.in_ok-survey_body.ensures.stays in
    let ew = c.in_ok-leave.ensures ∙ left_behind v u (label s given) given v.own c.base-base.result st c.base-base.ensures in
    nest_one v w u i s given body is typed e a c.args.found.now m (record { slots = c.visit.new.slots; results = m.results }) ee ew o.slots
    (λ d t. o.marked d t ∙ ap (λ k. list_any (same_pair d t) (shape_pair s k given) || is_marked a.results.items d t) c.requires.depth) o.few
    c.in_ok-survey_body.ensures marked few refl) c.visit.ensures.marked c.visit.ensures.few

pub survey_arms-overflow_add-depth : goal.survey_arms-overflow_add-depth
survey_arms-overflow_add-depth t c =
    let v = c.args.typing.now in
    omega (arith, c.requires.room, branch_items v v v v c.args.instr.now c.args.given (code c.args.arms.then_arm.now) (code c.args.arms.else_arm.now) c.requires.arms c.requires.typed)

pub survey_arms-overflow_add-depth-2 : goal.survey_arms-overflow_add-depth-2
survey_arms-overflow_add-depth-2 t c =
    let v = c.args.typing.now in
    omega (arith, c.requires.room, branch_items v v v v c.args.instr.now c.args.given (code c.args.arms.then_arm.now) (code c.args.arms.else_arm.now) c.requires.arms c.requires.typed)

pub survey_arms-survey_body-requires : goal.survey_arms-survey_body-requires
survey_arms-survey_body-requires t c =
    let v = c.args.typing.now in
    let i = c.args.instr.now in
    let given = c.args.given in
    let one = code c.args.arms.then_arm.now in
    let two = code c.args.arms.else_arm.now in
    let is = c.requires.arms in
    let typed = c.requires.typed in
    let e = c.enter.new.self in
    let ee = branch_in v v v v i given one two is typed e c.in_ok-enter.ensures in
    let items = branch_items v v v v i given one two is typed in (
      omega (arith, c.decreases, items),
      (
        branch_first v v v v i given one two is typed e ee,
        (
          subst SmallTypes (sym (ap (λ (w : Walk). w.around) ee)) c.requires.small,
          (omega (arith, c.requires.depth, ap (λ (w : Walk). length w.labels) ee), omega (arith, c.requires.room, items)),
        ),
      ),
    )

pub survey_arms-survey_body-requires-2 : goal.survey_arms-survey_body-requires-2
survey_arms-survey_body-requires-2 t c =
    let v = c.args.typing.now in
    let i = c.args.instr.now in
    let given = c.args.given in
    let one = code c.args.arms.then_arm.now in
    let two = code c.args.arms.else_arm.now in
    let is = c.requires.arms in
    let typed = c.requires.typed in
    let ee = branch_in v v v v i given one two is typed c.enter.new.self c.in_ok-enter.ensures in
    let u = c.survey_body.new.typing in
    let e2 = c.restart.new.self in
    let ee2 = c.restart.ensures ∙ restarted (inside_of v given (drop 1 v.own)) u (subst (λ (w : Walk). Stays w u) ee c.in_ok-survey_body.ensures.stays) refl in
    let items = branch_items v v v v i given one two is typed in (
      omega (arith, c.decreases, items),
      (
        branch_second v v v v i given one two is typed e2 ee2,
        (
          subst SmallTypes (sym (ap (λ (w : Walk). w.around) ee2)) c.requires.small,
          (omega (arith, c.requires.depth, ap (λ (w : Walk). length w.labels) ee2), omega (arith, c.requires.room, items)),
        ),
      ),
    )

pub survey_arms-leave-requires : goal.survey_arms-leave-requires
survey_arms-leave-requires t c =
    let v = c.args.typing.now in
    let given = c.args.given in
    let one = code c.args.arms.then_arm.now in
    let two = code c.args.arms.else_arm.now in
    let low = drop 1 v.own in
    let ee = branch_in v v v v c.args.instr.now given one two c.requires.arms c.requires.typed c.enter.new.self c.in_ok-enter.ensures in
    let u = c.survey_body.new.typing in
    let u2 = c.survey_body-2.new.typing in
    let ee2 = c.restart.ensures ∙ restarted (inside_of v given low) u (subst (λ (w : Walk). Stays w u) ee c.in_ok-survey_body.ensures.stays) refl in
    base_within v given given low u2 c.base-base.result (subst (λ (w : Walk). Stays w u2) ee2 c.in_ok-survey_body-2.ensures.stays) c.base-base.ensures

pub survey_arms-returns : goal.survey_arms-returns
survey_arms-returns t c =
    let v = c.args.typing.now in
    let i = c.args.instr.now in
    let given = c.args.given in
    let one = code c.args.arms.then_arm.now in
    let two = code c.args.arms.else_arm.now in
    let is = c.requires.arms in
    let typed = c.requires.typed in
    let e = c.enter.new.self in
    let low = drop 1 v.own in
    let ee = branch_in v v v v i given one two is typed e c.in_ok-enter.ensures in
    let u = c.survey_body.new.typing in
    let e2 = c.restart.new.self in
    let ee2 = c.restart.ensures ∙ restarted (inside_of v given low) u (subst (λ (w : Walk). Stays w u) ee c.in_ok-survey_body.ensures.stays) refl in
    let u2 = c.survey_body-2.new.typing in
    let m1 = c.survey_body.new.found in
    let m = c.survey_body-2.new.found in
    let st = subst (λ (w : Walk). Stays w u2) ee2 c.in_ok-survey_body-2.ensures.stays in
    let w = c.leave.new.self in
    let ew = c.in_ok-leave.ensures ∙ left_behind v u2 given given low c.base-base.result st c.base-base.ensures in
    on_both c.visit.result _ _ _ (λ marked few a o. branch_one v w u u2 i given one two is typed e e2 a c.args.found.now m1 m (record { slots = c.visit.new.slots; results = m.results })
    ee ee2 ew o.slots (λ d t. o.marked d t ∙ ap (λ k. list_any (same_pair d t) (pair_of k given) || is_marked a.results.items d t) c.requires.depth) o.few
    c.in_ok-survey_body.ensures c.in_ok-survey_body-2.ensures marked few refl) c.visit.ensures.marked c.visit.ensures.few

pub survey_instr-returns-in_ok-advance-in_default : goal.survey_instr-returns-in_ok-advance-in_default
survey_instr-returns-in_ok-advance-in_default t c =
    let v = c.args.typing.now in
    let p = leaf_goes_on c.args.instr.now (leaf_other _ c.in_default.not-Block c.in_default.not-Loop c.in_default.not-If) c.requires.goes_on in
    on_both c.visit.result _ _ _ (λ marked few. plain_one v c.advance.new.self c.args.instr.now p.0 p.1 p.2 c.in_ok-advance-in_default.ensures.stays
    c.in_ok-advance-in_default.ensures.typed c.args.found.now (record { slots = c.visit.new.slots; results = c.args.found.now.results }) c.requires.small marked few refl)
    c.visit.ensures.marked c.visit.ensures.few
