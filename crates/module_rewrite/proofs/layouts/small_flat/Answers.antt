use Rattle.std.proofs.Common.{arith, subst, Err, ◌+◌}
use Rattle.wa_types.specs.View.{func_of, module_of}
use Rattle.flatten.specs.Whole.{FlatAnswer}
use Rattle.wasm_validate.proofs.FuncLemmas.{func_at, some_at}
use Rattle.module_rewrite.proofs.layouts.small_flat.Goals as goal

pub unreachable-requires : goal.unreachable-requires
unreachable-requires c =
    let v = c.args.valid.now in
    let some = some_at v.funcs.items c.args.index c.requires.within in
    let is = func_at v.funcs.items c.args.index some.0 c.requires.within some.1 in
    let told = subst (λ e. FlatAnswer (module_of v) (c.args.imports + c.args.index) (func_of some.0) (Err e)) c.in-Err-Locals.field-0-is (c.in-Err-Locals.ensures (func_of some.0) is) in
    absurd (omega (arith, told.2, c.requires.few (func_of some.0) is))
