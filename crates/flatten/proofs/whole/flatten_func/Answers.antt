use Rattle.std.proofs.Common.{arith, ap, sym, subst, refl, ◌≡◌, ◌+◌, ◌∙◌, length, get_or, [], ◌∷◌, length-append, ◌≤◌}
use Rattle.wa_types.specs.declared.syntax.Module.{Module as ModuleValue}
use Rattle.wa_types.specs.Validity.{Valid as IsValid}
use Rattle.wa_types.specs.Sizes.{code_items}
use Rattle.wasm_validate.specs.Walk.{Walk, TypedAt}
use Rattle.flatten.specs.Emitting.{SmallTypes}
use Rattle.wa_types.specs.Syntax.{Func, FuncType}
use Rattle.wa_types.specs.Modules.{declared_locals, locals_of, type_at}
use Rattle.wa_types.specs.Frames.{SlotPairs}
use Rattle.wa_types.specs.View.{module_of, func_of, code}
use Rattle.flatten.proofs.FuncLemmas.{at_hand, sort_below, same_names, same_flat, same_result, same_locals, answered, counted, refused, same_one}
use Rattle.flat_laws.specs.Flatten.{Names}
use Rattle.flatten.proofs.whole.flatten_func.Goals as goal

pub index-ty-requires : goal.index-ty-requires
index-ty-requires c =
    let v = c.args.valid.now in
    let same = c.module-module.ensures.same in
    let valid = subst (λ (z : ModuleValue). IsValid (module_of z)) same c.module-module.ensures.valid in
    let i = c.args.index in
    let f = c.index-source.result.now in
    let lt = c.requires.within in
    let at : f ≡ get_or v.funcs.items i f = c.index-source.ensures ∙ ap (λ (z : ModuleValue). get_or z.funcs.items i f) same in
    omega (arith, sort_below v i f lt at valid, ap (λ (z : ModuleValue). length z.types.items) same)

pub overflow_add-func : goal.overflow_add-func
overflow_add-func c =
    let m = c.module-module.ensures in
    let here = at_hand m.same m.valid m.sizes c.requires.sizes c.requires.imports c.requires.within c.index-source.ensures c.index-ty.ensures in
    omega (arith, here.number)

pub overflow_cast-func : goal.overflow_cast-func
overflow_cast-func c =
    let m = c.module-module.ensures in
    let here = at_hand m.same m.valid m.sizes c.requires.sizes c.requires.imports c.requires.within c.index-source.ensures c.index-ty.ensures in
    omega (arith, here.number)

pub overflow_cast-first : goal.overflow_cast-first
overflow_cast-first c =
    let m = c.module-module.ensures in
    let here = at_hand m.same m.valid m.sizes c.requires.sizes c.requires.imports c.requires.within c.index-source.ensures c.index-ty.ensures in
    omega (arith, here.few, c.len.ensures)

pub count_runs-requires : goal.count_runs-requires
count_runs-requires c =
    let m = c.module-module.ensures in
    let here = at_hand m.same m.valid m.sizes c.requires.sizes c.requires.imports c.requires.within c.index-source.ensures c.index-ty.ensures in
    omega (arith, here.few, ap (λ rs. length (declared_locals rs)) c.deref.ensures.value)

pub overflow_add-first : goal.overflow_add-first
overflow_add-first c =
    let m = c.module-module.ensures in
    let here = at_hand m.same m.valid m.sizes c.requires.sizes c.requires.imports c.requires.within c.index-source.ensures c.index-ty.ensures in
    omega (arith, here.few, c.len.ensures, c.count_runs.ensures, ap (λ rs. length (declared_locals rs)) c.deref.ensures.value)

pub start-requires : goal.start-requires
start-requires c =
    let m = c.module-module.ensures in
    let here = at_hand m.same m.valid m.sizes c.requires.sizes c.requires.imports c.requires.within c.index-source.ensures c.index-ty.ensures in
    (func_of c.index-source.result.now, here.defined)

pub find_names-requires-clause-typed : goal.find_names-requires-clause-typed
find_names-requires-clause-typed c =
    let m = c.module-module.ensures in
    let here = at_hand m.same m.valid m.sizes c.requires.sizes c.requires.imports c.requires.within c.index-source.ensures c.index-ty.ensures in
    let w = c.in_ok-typing.ensures (func_of c.index-source.result.now) here.defined in
    subst (λ xs. TypedAt c.in_ok-typing.typing (code xs)) (sym c.deref-2.ensures.value) (subst (λ (z : Walk). TypedAt z (code c.index-source.result.now.body.items)) (sym w) here.begins)

pub find_names-requires-clause-small : goal.find_names-requires-clause-small
find_names-requires-clause-small c =
    let m = c.module-module.ensures in
    let here = at_hand m.same m.valid m.sizes c.requires.sizes c.requires.imports c.requires.within c.index-source.ensures c.index-ty.ensures in
    let w = c.in_ok-typing.ensures (func_of c.index-source.result.now) here.defined in
    subst SmallTypes (sym (ap (λ (z : Walk). z.around) w)) here.small

pub find_names-requires-clause-labels : goal.find_names-requires-clause-labels
find_names-requires-clause-labels c =
    let m = c.module-module.ensures in
    let here = at_hand m.same m.valid m.sizes c.requires.sizes c.requires.imports c.requires.within c.index-source.ensures c.index-ty.ensures in
    let w = c.in_ok-typing.ensures (func_of c.index-source.result.now) here.defined in
    ap (λ (z : Walk). z.labels) w ∙ ap (λ r. r ∷ []) (here.result_is ∙ sym c.first_result-given.ensures)

pub find_names-requires-clause-own : goal.find_names-requires-clause-own
find_names-requires-clause-own c =
    let m = c.module-module.ensures in
    let here = at_hand m.same m.valid m.sizes c.requires.sizes c.requires.imports c.requires.within c.index-source.ensures c.index-ty.ensures in
    let w = c.in_ok-typing.ensures (func_of c.index-source.result.now) here.defined in
    ap (λ (z : Walk). z.own) w

pub find_names-requires-clause-under : goal.find_names-requires-clause-under
find_names-requires-clause-under c =
    let m = c.module-module.ensures in
    let here = at_hand m.same m.valid m.sizes c.requires.sizes c.requires.imports c.requires.within c.index-source.ensures c.index-ty.ensures in
    let w = c.in_ok-typing.ensures (func_of c.index-source.result.now) here.defined in
    ap (λ (z : Walk). z.under) w

pub find_names-requires-clause-room : goal.find_names-requires-clause-room
find_names-requires-clause-room c =
    let m = c.module-module.ensures in
    let here = at_hand m.same m.valid m.sizes c.requires.sizes c.requires.imports c.requires.within c.index-source.ensures c.index-ty.ensures in
    omega (arith, here.few, ap (λ xs. code_items (code xs)) c.deref-2.ensures.value, c.len.ensures, c.count_runs.ensures, ap (λ rs. length (declared_locals rs)) c.deref.ensures.value)

pub overflow_add-count : goal.overflow_add-count
overflow_add-count c =
    let m = c.module-module.ensures in
    let here = at_hand m.same m.valid m.sizes c.requires.sizes c.requires.imports c.requires.within c.index-source.ensures c.index-ty.ensures in
    let fst = ap (λ (z : Names). z.first) (c.names.view_is ∙ c.in_ok-names.ensures.names) in
    let slots = ap (λ (z : Names). length z.slots) c.names.view_is in
    let results = ap (λ (z : Names). length z.results) c.names.view_is in
    omega (
      arith,
      here.few,
      fst,
      slots,
      results,
      c.end-count.ensures,
      c.names.invariant,
      c.in_ok-names.ensures.few,
      ap (λ xs. code_items (code xs)) c.deref-2.ensures.value,
      c.len.ensures,
      c.count_runs.ensures,
      ap (λ rs. length (declared_locals rs)) c.deref.ensures.value,
    )

pub returns-then-count-gt-MOST_LOCALS : goal.returns-then-count-gt-MOST_LOCALS
returns-then-count-gt-MOST_LOCALS c =
    let m = c.module-module.ensures in
    let here = at_hand m.same m.valid m.sizes c.requires.sizes c.requires.imports c.requires.within c.index-source.ensures c.index-ty.ensures in
    let p = module_of c.args.valid.now in
    let g = func_of c.index-source.result.now in
    let kind = here.type_is in
    let w = c.in_ok-typing.ensures g here.defined in
    let given = c.first_result-given.ensures ∙ sym here.result_is in
    let first : c.len.result + c.count_runs.result ≡ length (locals_of p g) =
    omega (
      arith,
      c.len.ensures,
      c.count_runs.ensures,
      ap (λ rs. length (declared_locals rs)) c.deref.ensures.value,
      length-append (type_at p c.index-source.result.now.sort).params (declared_locals c.index-source.result.now.locals.items),
      ap (λ (z : FuncType). length z.params) kind,
    ) in
    let named = same_names p g c.in_ok-names.names c.in_ok-typing.typing _ _ _ (c.in_ok-names.ensures.names) w given first (ap code c.deref-2.ensures.value) in
    let count = counted p g _ c.end-count.result _ (c.names.view_is ∙ named) c.end-count.ensures c.names.invariant in
    let there = here.there in
    λ h e. refused p _ _ g h _ there e count c.if-count-gt-MOST_LOCALS.true

pub start-requires-2 : goal.start-requires-2
start-requires-2 c =
    let m = c.module-module.ensures in
    let here = at_hand m.same m.valid m.sizes c.requires.sizes c.requires.imports c.requires.within c.index-source.ensures c.index-ty.ensures in
    (func_of c.index-source.result.now, here.defined)

pub flat_body-requires-clause-typed : goal.flat_body-requires-clause-typed
flat_body-requires-clause-typed c =
    let m = c.module-module.ensures in
    let here = at_hand m.same m.valid m.sizes c.requires.sizes c.requires.imports c.requires.within c.index-source.ensures c.index-ty.ensures in
    let w = c.in_ok-typing-2.ensures (func_of c.index-source.result.now) here.defined in
    subst (λ xs. TypedAt c.in_ok-typing-2.typing (code xs)) (sym c.deref-5.ensures.value) (subst (λ (z : Walk). TypedAt z (code c.index-source.result.now.body.items)) (sym w) here.begins)

pub flat_body-requires-clause-small : goal.flat_body-requires-clause-small
flat_body-requires-clause-small c =
    let m = c.module-module.ensures in
    let here = at_hand m.same m.valid m.sizes c.requires.sizes c.requires.imports c.requires.within c.index-source.ensures c.index-ty.ensures in
    let w = c.in_ok-typing-2.ensures (func_of c.index-source.result.now) here.defined in
    subst SmallTypes (sym (ap (λ (z : Walk). z.around) w)) here.small

pub flat_body-requires-clause-labels : goal.flat_body-requires-clause-labels
flat_body-requires-clause-labels c =
    let m = c.module-module.ensures in
    let here = at_hand m.same m.valid m.sizes c.requires.sizes c.requires.imports c.requires.within c.index-source.ensures c.index-ty.ensures in
    let w = c.in_ok-typing-2.ensures (func_of c.index-source.result.now) here.defined in
    ap (λ (z : Walk). z.labels) w ∙ ap (λ r. r ∷ []) (here.result_is ∙ sym c.first_result-given.ensures)

pub flat_body-requires-clause-own : goal.flat_body-requires-clause-own
flat_body-requires-clause-own c =
    let m = c.module-module.ensures in
    let here = at_hand m.same m.valid m.sizes c.requires.sizes c.requires.imports c.requires.within c.index-source.ensures c.index-ty.ensures in
    let w = c.in_ok-typing-2.ensures (func_of c.index-source.result.now) here.defined in
    ap (λ (z : Walk). z.own) w

pub flat_body-requires-clause-under : goal.flat_body-requires-clause-under
flat_body-requires-clause-under c =
    let m = c.module-module.ensures in
    let here = at_hand m.same m.valid m.sizes c.requires.sizes c.requires.imports c.requires.within c.index-source.ensures c.index-ty.ensures in
    let w = c.in_ok-typing-2.ensures (func_of c.index-source.result.now) here.defined in
    ap (λ (z : Walk). z.under) w

pub flat_body-requires-clause-room : goal.flat_body-requires-clause-room
flat_body-requires-clause-room c =
    let m = c.module-module.ensures in
    let here = at_hand m.same m.valid m.sizes c.requires.sizes c.requires.imports c.requires.within c.index-source.ensures c.index-ty.ensures in
    omega (arith, here.few, ap (λ xs. code_items (code xs)) c.deref-5.ensures.value, c.len.ensures, c.count_runs.ensures, ap (λ rs. length (declared_locals rs)) c.deref.ensures.value)

pub returns : goal.returns
returns c =
    let m = c.module-module.ensures in
    let here = at_hand m.same m.valid m.sizes c.requires.sizes c.requires.imports c.requires.within c.index-source.ensures c.index-ty.ensures in
    let p = module_of c.args.valid.now in
    let g = func_of c.index-source.result.now in
    let kind = here.type_is in
    let w = c.in_ok-typing.ensures g here.defined in
    let given = c.first_result-given.ensures ∙ sym here.result_is in
    let first : c.len.result + c.count_runs.result ≡ length (locals_of p g) =
    omega (
      arith,
      c.len.ensures,
      c.count_runs.ensures,
      ap (λ rs. length (declared_locals rs)) c.deref.ensures.value,
      length-append (type_at p c.index-source.result.now.sort).params (declared_locals c.index-source.result.now.locals.items),
      ap (λ (z : FuncType). length z.params) kind,
    ) in
    let named = same_names p g c.in_ok-names.names c.in_ok-typing.typing _ _ _ (c.in_ok-names.ensures.names) w given first (ap code c.deref-2.ensures.value) in
    let count = counted p g _ c.end-count.result _ (c.names.view_is ∙ named) c.end-count.ensures c.names.invariant in
    let there = here.there in
    let w2 = c.in_ok-typing-2.ensures g here.defined in
    let body = same_flat p g c.in_ok-names.names c.in_ok-typing-2.typing _ _ (c.in_ok-body.ensures) named w2 (ap code c.deref-5.ensures.value) in
    let res = same_result p g c.in_ok-names.names _ _ c.label_local.ensures named given in
    let ls = same_locals p g c.in_ok-names.names _ _ _ (c.in_ok-locals.ensures) (c.deref-3.ensures.value ∙ sym (ap (λ (z : FuncType). z.params) kind)) c.deref-4.ensures.value named in
    let end = c.end-first_result.ensures in
    let at : c.end-first_result.result ≡ length (locals_of p g) + length (SlotPairs p g) =
    omega (arith, end, ap (λ (z : Names). z.first) (c.names.view_is ∙ named), ap (λ (z : Names). length z.slots) (c.names.view_is ∙ named)) in
    λ h e.
    let r = answered p _ c.index-source.result.now.sort g h _ _ _ _ there e refl ls res body (subst (λ z. z ≤ 50000) count c.if-count-gt-MOST_LOCALS.false) in
    let k = same_one g h _ there e in
    (r.0, r.1, first ∙ ap (λ (z : Func). length (locals_of p z)) k, at ∙ ap (λ (z : Func). length (locals_of p z) + length (SlotPairs p z)) k)
