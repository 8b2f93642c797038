use Rattle.std.proofs.Common.{rules, arith, ◌<◌, length, ◌≡◌, ◌+◌, ◌∙◌, ap, refl, suc, drop, map}
use Rattle.wa_types.specs.Modules.{around, func_imports}
use Rattle.wa_types.specs.View.{module_of, func_of, code}
use Rattle.validate_bodies.specs.Running.{fine, body_verdict, funcs_answer}
use Rattle.wasm_validate.proofs.FuncLemmas.{func_at, some_at, funcs_step, told_on}
use Rattle.wasm_validate.proofs.valid.check_funcs.Goals as goal

pub returns-in_err-check_func : goal.returns-in_err-check_func
returns-in_err-check_func c =
    let fs = c.args.module.now.funcs.items in
    let lt : c.loop-index.index < length fs = search rules in
    let some = some_at fs c.loop-index.index lt in
    let m = module_of c.args.module.now in
    let x = func_imports m + c.loop-index.index in
    told_on c.from_residual.result c.in_err-check_func.field-0.0 x (body_verdict (around m (func_of some.0)) (code some.0.body.items)) _ _ c.from_residual.ensures.1
    (c.in_err-check_func.ensures (func_of some.0) (func_at fs c.loop-index.index some.0 lt some.1))
    (c.loop-index.invariant.same ∙ funcs_step m x fs c.loop-index.index some.0 lt some.1 _ refl)

pub loop-index-preserved : goal.loop-index-preserved
loop-index-preserved c =
    let fs = c.args.module.now.funcs.items in
    let lt : c.loop-index.index < length fs = search rules in
    let some = some_at fs c.loop-index.index lt in
    let m = module_of c.args.module.now in
    let x = func_imports m + c.loop-index.index in
    let n : suc x ≡ func_imports m + (c.loop-index.index + 1) = omega arith in
    record {
      within = omega (arith, lt);
      same =
          c.loop-index.invariant.same
          ∙ funcs_step m x fs c.loop-index.index some.0 lt some.1 fine (c.in_ok-check_func.ensures (func_of some.0) (func_at fs c.loop-index.index some.0 lt some.1))
          ∙ ap (λ k. funcs_answer m k (map func_of (drop (c.loop-index.index + 1) fs))) n;
    }
