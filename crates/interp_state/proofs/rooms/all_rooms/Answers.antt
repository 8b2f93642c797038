use Rattle.std.proofs.Common.{arith, ◌≡◌, ◌<◌, ◌≤◌, ◌++◌, ◌∷◌, [], length, get_or, map, take, ap, sym, ◌∙◌, subst}
use Rattle.std.proofs.lemmas.List.{map_more, take_all}
use Rattle.std.proofs.lemmas.Result.{IfOk-from_err}
use Rattle.wa_types.specs.View.{module_of}
use Rattle.interp_state.specs.Rooms.{room_at, HasFewInstrs}
use Rattle.interp_state.proofs.rooms.all_rooms.Goals as goal

pub loop-func-init : goal.loop-func-init
loop-func-init c = c.new-rooms.ensures.items

pub room_at-requires : goal.room_at-requires
room_at-requires c =
    let same = c.deref-func-items.ensures.value in
    let i = c.loop-func.func-index in
    let x = c.func-item.result in
    let lt : i < length c.args.source.now.funcs.items = omega (arith, c.loop-func-test.true, ap length same) in
    let at : x ≡ get_or c.args.source.now.funcs.items i x = c.func-item.is ∙ ap (λ l. get_or l i x) same in
    record { sorts = c.requires.sorts; few = subst HasFewInstrs (sym at) (c.requires.few i x lt) }

pub loop-func-preserved : goal.loop-func-preserved
loop-func-preserved c =
    let same = c.deref-func-items.ensures.value in
    let funcs = c.args.source.now.funcs.items in
    let i = c.loop-func.func-index in
    let x = c.func-item.result in
    let f = room_at (module_of c.args.source.now) in
    let lt : i < length funcs = omega (arith, c.loop-func-test.true, ap length same) in
    let at : x ≡ get_or funcs i x = c.func-item.is ∙ ap (λ l. get_or l i x) same in
    c.in_ok-push.ensures.items ∙ ap (λ z. z ++ c.room_at.result ∷ []) c.loop-func.invariant
    ∙ ap (λ z. map f (take i funcs) ++ z ∷ []) (c.room_at.ensures ∙ ap f at) ∙ sym (map_more f funcs i x lt)

pub returns : goal.returns
returns c =
    let le : length c.args.source.now.funcs.items ≤ c.loop-func.func-index = omega (arith, c.loop-func-test.false, ap length c.deref-func-items.ensures.value) in
    c.loop-func.invariant ∙ ap (map (room_at (module_of c.args.source.now))) (take_all c.loop-func.func-index c.args.source.now.funcs.items le)

pub returns-in_err-push : goal.returns-in_err-push
returns-in_err-push c = IfOk-from_err c.from_residual.result _ c.from_residual.ensures.0
