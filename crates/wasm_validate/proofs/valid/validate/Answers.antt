use Rattle.std.proofs.Common.{refl}
use Rattle.wa_types.specs.View.{module_of}
use Rattle.wasm_validate.proofs.FuncLemmas.{if_none, fault_of, is_valid}
use Rattle.wasm_validate.proofs.valid.validate.Goals as goal

pub returns-in_err-check_funcs : goal.returns-in_err-check_funcs
returns-in_err-check_funcs c =
    fault_of c.args.module c.from_residual-in_err-check_funcs.result c.in_err-check_funcs.field-0.0 c.from_residual-in_err-check_funcs.ensures.1
    (if_none _ c.in_ok-rule.field-0 c.in_ok-rule.ensures c.in_default.not-Some) c.in_err-check_funcs.ensures

pub invariant_of-result : goal.invariant_of-result
invariant_of-result c =
    (is_valid (module_of c.args.module) (if_none _ c.in_ok-rule.field-0 c.in_ok-rule.ensures c.in_default.not-Some) c.in_ok-check_funcs.ensures, c.requires, c.in_ok-spaces.ensures)

pub returns : goal.returns
returns c = (refl, is_valid (module_of c.args.module) (if_none _ c.in_ok-rule.field-0 c.in_ok-rule.ensures c.in_default.not-Some) c.in_ok-check_funcs.ensures)
