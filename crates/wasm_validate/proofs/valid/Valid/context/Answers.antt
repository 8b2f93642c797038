use Rattle.std.proofs.Common.{ap, sym, ◌∙◌, ◌<◌, subst, length, slice_get}
use Rattle.wa_types.specs.declared.syntax.Module.{Module as ModuleValue}
use Rattle.wa_types.specs.View.{module_of, func_of}
use Rattle.wasm_validate.specs.Walk.{around_or}
use Rattle.wasm_validate.proofs.FuncLemmas.{some_at, func_at}
use Rattle.wasm_validate.proofs.valid.Valid.context.Goals as goal

pub returns : goal.returns
returns c =
    let m = c.self.inside.«module» in
    let lt = subst (λ (v : ModuleValue). c.args.index < length v.funcs.items) (sym c.self.view_is) c.requires in
    let some = some_at m.funcs.items c.args.index lt in
    let g = func_at m.funcs.items c.args.index some.0 lt some.1 in
    c.of.ensures (func_of some.0) g ∙ sym (ap (around_or (module_of m)) g)
    ∙ ap (λ (v : ModuleValue). around_or (module_of v) (slice_get (module_of v).funcs c.args.index)) c.self.view_is
