-- The rewritten module stands around the entries of its functions with asserts; what is written is the module with asserts.
use Rattle.std.proofs.Common.{◌<◌, ◌^◌, Err, ap, subst, sym}
use Rattle.std.proofs.lemmas.Result.{err_from_is_err_and}
use Rattle.wa_types.specs.declared.syntax.Module.{Module as ModuleValue}
use Rattle.wa_types.specs.Runtime.{func_space, global_space}
use Rattle.wa_types.specs.Syntax.{Module}
use Rattle.wa_types.specs.View.{module_of}
use Rattle.call_graph.specs.Settings.{settings_of}
use Rattle.local_spill.specs.declared.RuntimeIds.{RuntimeIds}
use Rattle.module_rewrite.proofs.WholeLemmas.{globals_small, space_small}
use Rattle.assert_laws.proofs.ReadsWithAsserts.{reads_law}
use Rattle.assert_laws.specs.EmittedWithAsserts.{module_with_asserts}
use Rattle.assert_rewrite.specs.Emitting.{EmitsWithAsserts}
use Rattle.assert_rewrite.proofs.ModuleBytes.{can, emitted, emitting, rewrites, text_fault}
use Rattle.assert_rewrite.proofs.emitting.emit_with_asserts.Goals as goal

pub ids_behind-requires-clause-funcs : goal.ids_behind-requires-clause-funcs
ids_behind-requires-clause-funcs c =
    subst (λ (z : ModuleValue). func_space (module_of z) < 2 ^ 31) (sym c.module-module.ensures.same) (space_small (module_of c.args.valid.now) c.requires.sizes)

pub ids_behind-requires-clause-globals : goal.ids_behind-requires-clause-globals
ids_behind-requires-clause-globals c =
    subst (λ (z : ModuleValue). global_space (module_of z) < 2 ^ 31) (sym c.module-module.ensures.same) (globals_small (module_of c.args.valid.now) c.requires.sizes)

pub put_asserted-requires-clause-short : goal.put_asserted-requires-clause-short
put_asserted-requires-clause-short c =
    let r = c.in-Ok.rewritten in
    let h = emitting c.args.valid.now _ c.module-whole.result.now c.args.settings.now r _ _ _ c.deref.result.now c.requires.sizes c.in-Ok.ensures c.requires.few c.requires.short
    c.module-module.ensures.same c.len.ensures c.len-2.ensures (ap (λ (i : RuntimeIds). i.state) c.ids_behind.ensures) c.module-whole.ensures.same c.deref.ensures.value in
    h.short

pub encode_around-requires : goal.encode_around-requires
encode_around-requires c =
    let r = c.in-Ok.rewritten in
    let h = emitting c.args.valid.now _ c.module-whole.result.now c.args.settings.now r _ _ _ c.deref.result.now c.requires.sizes c.in-Ok.ensures c.requires.few c.requires.short
    c.module-module.ensures.same c.len.ensures c.len-2.ensures (ap (λ (i : RuntimeIds). i.state) c.ids_behind.ensures) c.module-whole.ensures.same c.deref.ensures.value in
    (_, h.around, h.held _ _ c.new-entries.ensures c.in_ok-put_asserted.ensures)

pub returns-in_err-text : goal.returns-in_err-text
returns-in_err-text c =
    let m : Module = module_of c.args.valid.now in
    let s = settings_of c.args.settings.now in
    let r = c.in-Ok.rewritten in
    let h = emitting c.args.valid.now _ c.module-whole.result.now c.args.settings.now r _ _ _ c.deref.result.now c.requires.sizes c.in-Ok.ensures c.requires.few c.requires.short
    c.module-module.ensures.same c.len.ensures c.len-2.ensures (ap (λ (i : RuntimeIds). i.state) c.ids_behind.ensures) c.module-whole.ensures.same c.deref.ensures.value in
    let q : Module = module_with_asserts m s r.instrumented.items (module_of r.«module») in
    let held = h.held _ _ c.new-entries.ensures c.in_ok-put_asserted.ensures in
    let e = err_from_is_err_and c.from_residual-in_err-text.result c.from_residual-in_err-text.ensures.1 in
    subst (EmitsWithAsserts m s) (sym e.1) (subst (λ z. EmitsWithAsserts m s (Err z)) (sym e.2)
    (text_fault m s r c.requires.sizes c.in-Ok.ensures c.requires.few c.requires.short c.requires.free c.in_err-text.field-0.0 (c.in_err-text.ensures.fault q h.around held)))

pub returns : goal.returns
returns c =
    let m : Module = module_of c.args.valid.now in
    let s = settings_of c.args.settings.now in
    let r = c.in-Ok.rewritten in
    let a = c.in-Ok.ensures in
    let h = emitting c.args.valid.now _ c.module-whole.result.now c.args.settings.now r _ _ _ c.deref.result.now c.requires.sizes c.in-Ok.ensures c.requires.few c.requires.short
    c.module-module.ensures.same c.len.ensures c.len-2.ensures (ap (λ (i : RuntimeIds). i.state) c.ids_behind.ensures) c.module-whole.ensures.same c.deref.ensures.value in
    let q : Module = module_with_asserts m s r.instrumented.items (module_of r.«module») in
    let held = h.held _ _ c.new-entries.ensures c.in_ok-put_asserted.ensures in
    record {
      can = record { tells = a.tells; few = a.few };
      written = q;
      emitted = emitted m s r c.requires.sizes a c.requires.few c.requires.short;
      rewrites = rewrites m s r c.requires.sizes a c.requires.few c.requires.short c.requires.free;
      reads = reads_law m s r.instrumented.items q (can m s r c.requires.sizes a c.requires.few c.requires.short)
          (emitted m s r c.requires.sizes a c.requires.few c.requires.short);
      text = c.in_ok-text.ensures.ok q h.around held;
      short = c.in_ok-text.ensures.short q h.around held;
    }
