use Rattle.std.proofs.Common.{arith, ap, sym, subst, length, ◌∙◌}
use Rattle.std.proofs.lemmas.List.{length-map}
use Rattle.wa_types.specs.declared.syntax.Module.{Module as ModuleValue}
use Rattle.wa_types.specs.Validity.{Valid}
use Rattle.wa_types.specs.View.{func_of, module_of}
use Rattle.run_theory.specs.Flat.{FlatFunc}
use Rattle.call_graph.specs.Settings.{settings_of}
use Rattle.module_rewrite.proofs.LayoutLemmas.{few_here, laid_end, laid_first, laid_put, laid_skip}
use Rattle.module_rewrite.proofs.TakenFuncs.{flat_is, here}
use Rattle.module_rewrite.proofs.layouts.func_layouts.Goals as goal

pub loop-index-init : goal.loop-index-init
loop-index-init c = laid_first (module_of c.args.pass.now.valid.now) (settings_of c.args.pass.now.settings.now) c.args.pass.now.which.now c.new-layouts.result.items c.new-layouts.ensures.items

pub loop-index-preserved-then-not-which-imports : goal.loop-index-preserved-then-not-which-imports
loop-index-preserved-then-not-which-imports c =
    let p = here _ _ _ _ _ _ _ c.module-module.ensures.same c.requires.which c.len.ensures c.len-index-end.ensures c.loop-index-test.true c.index-source.ensures in
    laid_skip (module_of c.args.pass.now.valid.now) (settings_of c.args.pass.now.settings.now) c.args.pass.now.which.now c.loop-index.index _ c.loop-index.layouts.items c.loop-index.invariant (func_of c.index-source.result.now) p c.if-not-which-imports.true

pub small_flat-requires-clause-few : goal.small_flat-requires-clause-few
small_flat-requires-clause-few c =
    let p = here _ _ _ _ _ _ _ c.module-module.ensures.same c.requires.which c.len.ensures c.len-index-end.ensures c.loop-index-test.true c.index-source.ensures in
    few_here (module_of c.args.pass.now.valid.now) (settings_of c.args.pass.now.settings.now) c.args.pass.now.which.now c.loop-index.index _ c.loop-index.layouts.items c.loop-index.invariant (func_of c.index-source.result.now) p c.if-not-which-imports.false c.requires.few

pub frames_by_policy-requires-clause-valid : goal.frames_by_policy-requires-clause-valid
frames_by_policy-requires-clause-valid c = subst (λ (z : ModuleValue). Valid (module_of z)) c.module-module.ensures.same c.module-module.ensures.valid

pub frames_by_policy-requires-clause-flat : goal.frames_by_policy-requires-clause-flat
frames_by_policy-requires-clause-flat c =
    let f = c.index-source.result.now in
    let p = here _ _ _ _ _ _ _ c.module-module.ensures.same c.requires.which c.len.ensures c.len-index-end.ensures c.loop-index-test.true c.index-source.ensures in
    flat_is (module_of c.args.pass.now.valid.now) (settings_of c.args.pass.now.settings.now) c.args.pass.now.which.now c.loop-index.index _ (func_of f) p c.in_ok-flat.flat _ p.place (c.in_ok-flat.ensures (func_of f) p.is)

pub loop-index-preserved : goal.loop-index-preserved
loop-index-preserved c =
    let f = c.index-source.result.now in
    let p = here _ _ _ _ _ _ _ c.module-module.ensures.same c.requires.which c.len.ensures c.len-index-end.ensures c.loop-index-test.true c.index-source.ensures in
    let flat = c.in_ok-flat.ensures (func_of f) p.is in
    laid_put (module_of c.args.pass.now.valid.now) (settings_of c.args.pass.now.settings.now) c.args.pass.now.which.now c.loop-index.index _ c.loop-index.layouts.items c.loop-index.invariant (func_of f) p c.if-not-which-imports.false
    (record { func = c.in_ok-flat.flat.func.func; calls = c.in_ok-calls.calls }) c.push.new.self.items (ap (λ (z : FlatFunc). z.func) flat.0 ∙ p.place) c.in_ok-calls.ensures c.in_ok-push.ensures.items

pub returns : goal.returns
returns c =
    let v = c.args.pass.now.valid.now in
    let many = ap (λ (z : ModuleValue). length z.funcs.items) c.module-module.ensures.same in
    let len = length-map v.funcs.items func_of in
    laid_end (module_of c.args.pass.now.valid.now) (settings_of c.args.pass.now.settings.now) c.args.pass.now.which.now c.loop-index.index c.loop-index.layouts.items c.loop-index.invariant (omega (arith, c.loop-index-test.false, c.len-index-end.ensures, many, len))
