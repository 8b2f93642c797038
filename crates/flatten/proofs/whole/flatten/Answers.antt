use Rattle.std.proofs.Common.{◌≡◌, ◌+◌, ◌<◌, length, ◌-◌}
use Rattle.wa_types.specs.Modules.{func_imports}
use Rattle.wa_types.specs.View.{module_of}
use Rattle.flatten.specs.Whole.{Flattens}
use Rattle.std.proofs.Common.{arith, ap, subst, sym, Err}
use Rattle.std.proofs.lemmas.List.{length-map}
use Rattle.std.proofs.lemmas.Result.{err_from_is_err_and}
use Rattle.wa_types.specs.declared.syntax.Module.{Module as ModuleValue}
use Rattle.wa_types.specs.View.{func_of}
use Rattle.flatten.proofs.ToldLemmas.{go_skip, go_put, stops}
use Rattle.flatten.proofs.whole.flatten.Goals as goal

-- src/whole.rt:169:5
pub loop-index-preserved-then-not-which-imports : goal.loop-index-preserved-then-not-which-imports
loop-index-preserved-then-not-which-imports c =
    let v = c.args.valid.now in
    let m = module_of v in
    let same = c.module-module.ensures.same in
    let i = c.loop-index.index in
    let len = length-map v.funcs.items func_of in
    let many = ap (λ (z : ModuleValue). length z.funcs.items) same in
    let lt : i < length m.funcs = omega (arith, c.loop-index-test.true, c.len-index-end.ensures, many, len) in
    let start : length c.args.which.now - c.len.result ≡ func_imports m = omega (arith, c.len.ensures, c.requires.which, many, len) in
    let at = ap (λ k. k + i) start in
    go_skip m c.args.which.now (func_imports m) i _ _ c.loop-index.invariant c.requires.which lt at c.if-not-which-imports.true

-- src/whole.rt:173:20
pub returns-in_err-flat : goal.returns-in_err-flat
returns-in_err-flat c =
    let v = c.args.valid.now in
    let m = module_of v in
    let same = c.module-module.ensures.same in
    let i = c.loop-index.index in
    let len = length-map v.funcs.items func_of in
    let many = ap (λ (z : ModuleValue). length z.funcs.items) same in
    let lt : i < length m.funcs = omega (arith, c.loop-index-test.true, c.len-index-end.ensures, many, len) in
    let start : length c.args.which.now - c.len.result ≡ func_imports m = omega (arith, c.len.ensures, c.requires.which, many, len) in
    let at = ap (λ k. k + i) start in
    let p = err_from_is_err_and c.from_residual.result c.from_residual.ensures.1 in
    subst (Flattens m c.args.which.now) (sym p.1) (subst (λ z. Flattens m c.args.which.now (Err z)) (sym p.2)
    (stops m c.args.which.now i _ _ _ c.loop-index.invariant c.requires.which lt at c.if-not-which-imports.false at c.in_err-flat.field-0.0 c.in_err-flat.ensures))

-- src/whole.rt:169:5
pub loop-index-preserved : goal.loop-index-preserved
loop-index-preserved c =
    let v = c.args.valid.now in
    let m = module_of v in
    let same = c.module-module.ensures.same in
    let i = c.loop-index.index in
    let len = length-map v.funcs.items func_of in
    let many = ap (λ (z : ModuleValue). length z.funcs.items) same in
    let lt : i < length m.funcs = omega (arith, c.loop-index-test.true, c.len-index-end.ensures, many, len) in
    let start : length c.args.which.now - c.len.result ≡ func_imports m = omega (arith, c.len.ensures, c.requires.which, many, len) in
    let at = ap (λ k. k + i) start in
    go_put m c.args.which.now (func_imports m) i _ _ c.loop-index.invariant c.requires.which lt at _ _ _ c.if-not-which-imports.false at c.in_ok-put_func.ensures
    (λ f e. let r = c.in_ok-flat.ensures f e in (r.0, r.1))
