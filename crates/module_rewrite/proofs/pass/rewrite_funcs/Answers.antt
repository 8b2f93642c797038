-- At each function: which it is, and what is taken of it.
use Rattle.std.proofs.Common.{arith, ap, sym, subst, length}
use Rattle.std.proofs.lemmas.List.{length-map}
use Rattle.std.proofs.lemmas.Result.{err_from_is_err_and}
use Rattle.wa_types.specs.declared.syntax.Module.{Module as ModuleValue}
use Rattle.wa_types.specs.Validity.{Valid}
use Rattle.wa_types.specs.View.{func_of, module_of}
use Rattle.call_graph.specs.Settings.{settings_of}
use Rattle.module_rewrite.specs.Taking.{IsRefused, Takes}
use Rattle.module_rewrite.proofs.TakenFuncs.{here, going_first, going_keep, going_written, going_end, going_stop, is_flattened, written_fits}
use Rattle.module_rewrite.proofs.pass.rewrite_funcs.Goals as goal

pub loop-index-init : goal.loop-index-init
loop-index-init g c = going_first (module_of c.args.pass.now.valid.now) (settings_of c.args.pass.now.settings.now) c.args.pass.now.which.now (g.S.FuncSink.holds c.args.sink.now) c.requires.empty

pub keep-requires : goal.keep-requires
keep-requires g c =
    let p = here _ _ _ _ _ _ _ c.module-module.ensures.same c.requires.which c.len.ensures c.len-index-end.ensures c.loop-index-test.true c.index-source.ensures in
    c.requires.fits.kept c.loop-index.index (func_of c.index-source.result.now) p.is

pub loop-index-preserved-then-not-which-imports : goal.loop-index-preserved-then-not-which-imports
loop-index-preserved-then-not-which-imports g c =
    let p = here _ _ _ _ _ _ _ c.module-module.ensures.same c.requires.which c.len.ensures c.len-index-end.ensures c.loop-index-test.true c.index-source.ensures in
    going_keep (module_of c.args.pass.now.valid.now) (settings_of c.args.pass.now.settings.now) c.args.pass.now.which.now c.loop-index.index _ (g.S.FuncSink.holds c.loop-index.sink) c.loop-index.invariant
    (func_of c.index-source.result.now) p (g.S.FuncSink.holds c.keep.new.self) c.if-not-which-imports.true c.in_ok-keep.ensures

pub returns-in_err-flat : goal.returns-in_err-flat
returns-in_err-flat g c =
    let p = here _ _ _ _ _ _ _ c.module-module.ensures.same c.requires.which c.len.ensures c.len-index-end.ensures c.loop-index-test.true c.index-source.ensures in
    let r = err_from_is_err_and c.from_residual-in_err-flat.result c.from_residual-in_err-flat.ensures.1 in
    subst (Takes (module_of c.args.pass.now.valid.now) (settings_of c.args.pass.now.settings.now) c.args.pass.now.which.now (g.S.FuncSink.holds c.loop-index.sink)) (sym r.1) (subst (IsRefused (module_of c.args.pass.now.valid.now) c.args.pass.now.which.now) (sym r.2)
    (going_stop (module_of c.args.pass.now.valid.now) (settings_of c.args.pass.now.settings.now) c.args.pass.now.which.now c.loop-index.index _ _ (g.S.FuncSink.holds c.loop-index.sink) c.loop-index.invariant
    (func_of c.index-source.result.now) p c.if-not-which-imports.false p.place c.in_err-flat.field-0.0 c.in_err-flat.ensures))

pub write_by_policy-requires-clause-valid : goal.write_by_policy-requires-clause-valid
write_by_policy-requires-clause-valid g c = subst (λ (z : ModuleValue). Valid (module_of z)) c.module-module.ensures.same c.module-module.ensures.valid

pub write_by_policy-requires-clause-flat : goal.write_by_policy-requires-clause-flat
write_by_policy-requires-clause-flat g c =
    let f = c.index-source.result.now in
    let p = here _ _ _ _ _ _ _ c.module-module.ensures.same c.requires.which c.len.ensures c.len-index-end.ensures c.loop-index-test.true c.index-source.ensures in
    is_flattened (module_of c.args.pass.now.valid.now) (settings_of c.args.pass.now.settings.now) c.args.pass.now.which.now c.loop-index.index _ (g.S.FuncSink.holds c.loop-index.sink) c.loop-index.invariant
    (func_of f) p c.in_ok-flat.flat _ p.place (c.in_ok-flat.ensures (func_of f) p.is)

pub take-requires : goal.take-requires
take-requires g c =
    let f = c.index-source.result.now in
    let p = here _ _ _ _ _ _ _ c.module-module.ensures.same c.requires.which c.len.ensures c.len-index-end.ensures c.loop-index-test.true c.index-source.ensures in
    written_fits (module_of c.args.pass.now.valid.now) (settings_of c.args.pass.now.settings.now) c.args.pass.now.which.now c.loop-index.index _ (g.S.FuncSink.holds c.loop-index.sink) c.loop-index.invariant
    (func_of f) p c.in_ok-flat.flat _ p.place (c.in_ok-flat.ensures (func_of f) p.is) g.S.FuncSink.fits c.requires.fits c.if-not-which-imports.false (func_of c.in_ok-written.written) c.in_ok-written.ensures

pub loop-index-preserved : goal.loop-index-preserved
loop-index-preserved g c =
    let f = c.index-source.result.now in
    let p = here _ _ _ _ _ _ _ c.module-module.ensures.same c.requires.which c.len.ensures c.len-index-end.ensures c.loop-index-test.true c.index-source.ensures in
    going_written (module_of c.args.pass.now.valid.now) (settings_of c.args.pass.now.settings.now) c.args.pass.now.which.now c.loop-index.index _ (g.S.FuncSink.holds c.loop-index.sink) c.loop-index.invariant
    (func_of f) p c.in_ok-flat.flat _ p.place (c.in_ok-flat.ensures (func_of f) p.is) (g.S.FuncSink.holds c.take.new.self) c.if-not-which-imports.false
    (func_of c.in_ok-written.written) c.in_ok-written.ensures c.in_ok-take.ensures

pub returns : goal.returns
returns g c =
    let v = c.args.pass.now.valid.now in
    let many = ap (λ (z : ModuleValue). length z.funcs.items) c.module-module.ensures.same in
    let len = length-map v.funcs.items func_of in
    going_end (module_of c.args.pass.now.valid.now) (settings_of c.args.pass.now.settings.now) c.args.pass.now.which.now c.loop-index.index (g.S.FuncSink.holds c.loop-index.sink) c.loop-index.invariant
    (omega (arith, c.loop-index-test.false, c.len-index-end.ensures, many, len))
