use Rattle.std.proofs.Common.{arith, ◌<◌, ap, sym, ◌∙◌, length, map, Some, ◌+◌}
use Rattle.std.proofs.lemmas.List.{length-map}
use Rattle.wa_types.specs.View.{module_of, func_of, code}
use Rattle.validate_bodies.specs.Running.{fine, fault}
use Rattle.wasm_validate.proofs.FuncLemmas.{func_at, size_fits, number_fits, verdict_of}
use Rattle.wasm_validate.proofs.valid.check_func.Goals as goal

pub check_whole-requires : goal.check_whole-requires
check_whole-requires c =
    let lt : c.args.index < length (map func_of c.args.module.now.funcs.items) = omega (arith, c.requires.index, length-map c.args.module.now.funcs.items func_of) in
    rw c.deref.ensures.value (size_fits (module_of c.args.module.now) (func_of c.index.result.now) c.args.index c.requires.sizes lt
    (func_at c.args.module.now.funcs.items c.args.index c.index.result.now c.requires.index c.index.ensures))

pub overflow_cast-result : goal.overflow_cast-result
overflow_cast-result c =
    let lt : c.args.index < length (map func_of c.args.module.now.funcs.items) = omega (arith, c.requires.index, length-map c.args.module.now.funcs.items func_of) in
    omega (arith, number_fits (module_of c.args.module.now) c.args.index c.requires.sizes lt, c.requires.spaces.func_imports)

pub returns-in-Ok : goal.returns-in-Ok
returns-in-Ok c =
    let g = func_at c.args.module.now.funcs.items c.args.index c.index.result.now c.requires.index c.index.ensures in
    λ f e. verdict_of (module_of c.args.module.now) (map func_of c.args.module.now.funcs.items) c.args.index f (func_of c.index.result.now) c.of-context.result
    (code c.deref.result.now) fine g e (c.of-context.ensures (func_of c.index.result.now) g) (ap code c.deref.ensures.value) c.in-Ok.ensures

pub returns-in-Err-Invalid : goal.returns-in-Err-Invalid
returns-in-Err-Invalid c =
    let g = func_at c.args.module.now.funcs.items c.args.index c.index.result.now c.requires.index c.index.ensures in
    λ f e. (
      ap (λ n. Some (n + c.args.index)) c.requires.spaces.func_imports,
      verdict_of (module_of c.args.module.now) (map func_of c.args.module.now.funcs.items) c.args.index f
          (func_of c.index.result.now) c.of-context.result (code c.deref.result.now) (fault c.number.result c.in-Err-Invalid.at) g e
          (c.of-context.ensures (func_of c.index.result.now) g) (ap code c.deref.ensures.value) (rw c.in-Err-Invalid.field-0-is at c.in-Err-Invalid.ensures
          ∙ ap (λ n. fault n c.in-Err-Invalid.at) (sym c.number.ensures)),
    )
