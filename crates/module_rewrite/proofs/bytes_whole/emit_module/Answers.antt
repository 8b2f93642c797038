-- The module with the runtime's parts stands around the entries; what is written is the emitted module.
use Rattle.std.proofs.Common.{◌≡◌, ◌<◌, ◌^◌, ◌∙◌, Err, ap, arith, length, subst, sym}
use Rattle.std.proofs.lemmas.List.{length-map}
use Rattle.std.specs.List.{flat_map}
use Rattle.std.proofs.lemmas.Result.{err_from_is_err_and}
use Rattle.wa_types.specs.declared.syntax.Module.{Module as ModuleValue}
use Rattle.wa_types.specs.Pausing.{TellsMayPause}
use Rattle.wa_types.specs.Runtime.{func_space, global_space, with_runtime}
use Rattle.wa_types.specs.Validity.{Valid}
use Rattle.wa_types.specs.View.{func_of, module_of}
use Rattle.call_graph.specs.Settings.{settings_of}
use Rattle.emitted_form.specs.PolicyLaws.{CanBeEmitted}
use Rattle.emitted_form.proofs.PolicyCases.{functions_law, rewrites_as}
use Rattle.emitted_form.proofs.PolicyReads.{emitted_reads}
use Rattle.module_rewrite.proofs.BareLemmas.{bare_around}
use Rattle.module_rewrite.proofs.FreeNames.{unreserved_is_free}
use Rattle.module_rewrite.proofs.WholeLemmas.{bytes_fault, few_written, globals_small, space_small, which_long}
use Rattle.wasm_encode.specs.Around.{code_entry, HoldsEntries}
use Rattle.module_rewrite.specs.Taking.{AllTaken, IsRefused}
use Rattle.module_rewrite.specs.WholeBytes.{EmitsModule}
use Rattle.module_rewrite.proofs.EntryLemmas.{entries_fit}
use Rattle.module_rewrite.proofs.Parts.{parts_around, parts_held, parts_locals, parts_short, text_fault}
use Rattle.module_rewrite.proofs.bytes_whole.emit_module.Goals as goal

pub pausing_functions-requires : goal.pausing_functions-requires
pausing_functions-requires c = c.deref.ensures.value ∙ c.in_ok-listed.ensures

pub ids_behind-ids-requires-clause-funcs : goal.ids_behind-ids-requires-clause-funcs
ids_behind-ids-requires-clause-funcs c =
    subst (λ (z : ModuleValue). func_space (module_of z) < 2 ^ 31) (sym c.module.ensures.same) (space_small (module_of c.args.valid) c.requires.sizes)

pub ids_behind-ids-requires-clause-globals : goal.ids_behind-ids-requires-clause-globals
ids_behind-ids-requires-clause-globals c =
    subst (λ (z : ModuleValue). global_space (module_of z) < 2 ^ 31) (sym c.module.ensures.same) (globals_small (module_of c.args.valid) c.requires.sizes)

pub rewrite_funcs-requires-clause-which : goal.rewrite_funcs-requires-clause-which
rewrite_funcs-requires-clause-which c =
    ap length c.deref-2.ensures.value ∙ which_long (module_of c.args.valid) (settings_of c.args.settings.now) c.in_ok-which.which.items c.in_ok-which.ensures

pub rewrite_funcs-requires-clause-listed : goal.rewrite_funcs-requires-clause-listed
rewrite_funcs-requires-clause-listed c = c.deref-3.ensures.value ∙ c.in_ok-listed.ensures

pub rewrite_funcs-requires-clause-fits : goal.rewrite_funcs-requires-clause-fits
rewrite_funcs-requires-clause-fits c =
    let m = module_of c.args.valid in
    let s = settings_of c.args.settings.now in
    let valid = subst (λ (z : ModuleValue). Valid (module_of z)) c.module.ensures.same c.module.ensures.valid in
    entries_fit m s c.deref-2.result.now valid c.requires.sizes (subst (TellsMayPause m s) (sym c.deref-2.ensures.value) c.in_ok-which.ensures) c.requires.short

pub rewrite_funcs-requires-clause-empty : goal.rewrite_funcs-requires-clause-empty
rewrite_funcs-requires-clause-empty c = c.new-entries.ensures

pub returns-in_err-rewrite_funcs : goal.returns-in_err-rewrite_funcs
returns-in_err-rewrite_funcs c =
    let m = module_of c.args.valid in
    let s = settings_of c.args.settings.now in
    let p = err_from_is_err_and c.from_residual-in_err-rewrite_funcs.result c.from_residual-in_err-rewrite_funcs.ensures.1 in
    let h = subst (λ w. IsRefused m w c.in_err-rewrite_funcs.field-0.0) c.deref-2.ensures.value c.in_err-rewrite_funcs.ensures in
    subst (EmitsModule m s) (sym p.1) (subst (λ z. EmitsModule m s (Err z)) (sym p.2)
    (bytes_fault m s c.in_ok-which.which.items c.in_err-rewrite_funcs.field-0.0 c.requires.free c.in_ok-which.ensures h))

pub with_parts-requires-clause-funcs : goal.with_parts-requires-clause-funcs
with_parts-requires-clause-funcs c =
    subst (λ (z : ModuleValue). func_space (module_of z) < 2 ^ 31) (sym c.into_module-module.ensures.same) (space_small (module_of c.args.valid) c.requires.sizes)

pub with_parts-requires-clause-globals : goal.with_parts-requires-clause-globals
with_parts-requires-clause-globals c =
    subst (λ (z : ModuleValue). global_space (module_of z) < 2 ^ 31) (sym c.into_module-module.ensures.same) (globals_small (module_of c.args.valid) c.requires.sizes)

pub put_funcs-requires-clause-locals : goal.put_funcs-requires-clause-locals
put_funcs-requires-clause-locals c =
    let m = module_of c.args.valid in
    let s = settings_of c.args.settings.now in
    let which = c.in_ok-which.which.items in
    let valid = subst (λ (z : ModuleValue). Valid (module_of z)) c.module.ensures.same c.module.ensures.valid in
    let e = subst (λ w. AllTaken m s w (λ fs. HoldsEntries c.rewrite_funcs.new.sink (flat_map code_entry fs))) c.deref-2.ensures.value c.in_ok-rewrite_funcs.ensures in
    let with = c.in_ok-with.ensures.done ∙ ap (λ (z : ModuleValue). with_runtime (module_of z)) c.into_module-module.ensures.same in
    let many = ap (λ (z : ModuleValue). length z.funcs.items) c.into_module-module.ensures.same in
    let len = length-map c.args.valid.funcs.items func_of in
    let own : c.len-own.result ≡ length m.funcs = omega (arith, c.len-own.ensures, many, len) in
    parts_locals m s which e.funcs e.emitted valid c.requires.sizes c.in_ok-which.ensures e.few c.requires.few c.requires.short
    c.in_ok-with.with with c.len-own.result own c.deref-4.result.now c.deref-4.ensures.value

pub put_funcs-requires-clause-short : goal.put_funcs-requires-clause-short
put_funcs-requires-clause-short c =
    let m = module_of c.args.valid in
    let s = settings_of c.args.settings.now in
    let which = c.in_ok-which.which.items in
    let valid = subst (λ (z : ModuleValue). Valid (module_of z)) c.module.ensures.same c.module.ensures.valid in
    let e = subst (λ w. AllTaken m s w (λ fs. HoldsEntries c.rewrite_funcs.new.sink (flat_map code_entry fs))) c.deref-2.ensures.value c.in_ok-rewrite_funcs.ensures in
    let with = c.in_ok-with.ensures.done ∙ ap (λ (z : ModuleValue). with_runtime (module_of z)) c.into_module-module.ensures.same in
    let many = ap (λ (z : ModuleValue). length z.funcs.items) c.into_module-module.ensures.same in
    let len = length-map c.args.valid.funcs.items func_of in
    let own : c.len-own.result ≡ length m.funcs = omega (arith, c.len-own.ensures, many, len) in
    parts_short m s which e.funcs e.emitted valid c.requires.sizes c.in_ok-which.ensures e.few c.requires.few c.requires.short
    c.in_ok-with.with with c.len-own.result own c.deref-4.result.now c.deref-4.ensures.value

pub encode_around-requires : goal.encode_around-requires
encode_around-requires c =
    let m = module_of c.args.valid in
    let s = settings_of c.args.settings.now in
    let which = c.in_ok-which.which.items in
    let valid = subst (λ (z : ModuleValue). Valid (module_of z)) c.module.ensures.same c.module.ensures.valid in
    let e = subst (λ w. AllTaken m s w (λ fs. HoldsEntries c.rewrite_funcs.new.sink (flat_map code_entry fs))) c.deref-2.ensures.value c.in_ok-rewrite_funcs.ensures in
    let with = c.in_ok-with.ensures.done ∙ ap (λ (z : ModuleValue). with_runtime (module_of z)) c.into_module-module.ensures.same in
    let many = ap (λ (z : ModuleValue). length z.funcs.items) c.into_module-module.ensures.same in
    let len = length-map c.args.valid.funcs.items func_of in
    let own : c.len-own.result ≡ length m.funcs = omega (arith, c.len-own.ensures, many, len) in
    let a = bare_around (module_of c.in_ok-with.with) (with_runtime (record m { funcs = e.funcs })) (module_of c.drop_bodies.new.«module») c.in_ok-drop_bodies.ensures
    (parts_around m s which e.funcs e.emitted valid c.requires.sizes c.in_ok-which.ensures e.few c.requires.few c.requires.short
    c.in_ok-with.with with c.len-own.result own c.deref-4.result.now c.deref-4.ensures.value) in
    let h = parts_held m s which e.funcs e.emitted valid c.requires.sizes c.in_ok-which.ensures e.few c.requires.few c.requires.short
    c.in_ok-with.with with c.len-own.result own c.deref-4.result.now c.deref-4.ensures.value
    c.rewrite_funcs.new.sink c.put_funcs.new.out e.held c.in_ok-put_funcs.ensures in
    (with_runtime (record m { funcs = e.funcs }), a, h)

pub returns-in_err-text : goal.returns-in_err-text
returns-in_err-text c =
    let m = module_of c.args.valid in
    let s = settings_of c.args.settings.now in
    let which = c.in_ok-which.which.items in
    let valid = subst (λ (z : ModuleValue). Valid (module_of z)) c.module.ensures.same c.module.ensures.valid in
    let e = subst (λ w. AllTaken m s w (λ fs. HoldsEntries c.rewrite_funcs.new.sink (flat_map code_entry fs))) c.deref-2.ensures.value c.in_ok-rewrite_funcs.ensures in
    let with = c.in_ok-with.ensures.done ∙ ap (λ (z : ModuleValue). with_runtime (module_of z)) c.into_module-module.ensures.same in
    let many = ap (λ (z : ModuleValue). length z.funcs.items) c.into_module-module.ensures.same in
    let len = length-map c.args.valid.funcs.items func_of in
    let own : c.len-own.result ≡ length m.funcs = omega (arith, c.len-own.ensures, many, len) in
    let a = bare_around (module_of c.in_ok-with.with) (with_runtime (record m { funcs = e.funcs })) (module_of c.drop_bodies.new.«module») c.in_ok-drop_bodies.ensures
    (parts_around m s which e.funcs e.emitted valid c.requires.sizes c.in_ok-which.ensures e.few c.requires.few c.requires.short
    c.in_ok-with.with with c.len-own.result own c.deref-4.result.now c.deref-4.ensures.value) in
    let h = parts_held m s which e.funcs e.emitted valid c.requires.sizes c.in_ok-which.ensures e.few c.requires.few c.requires.short
    c.in_ok-with.with with c.len-own.result own c.deref-4.result.now c.deref-4.ensures.value
    c.rewrite_funcs.new.sink c.put_funcs.new.out e.held c.in_ok-put_funcs.ensures in
    let can : CanBeEmitted m s which = record { valid = valid; sizes = c.requires.sizes; few = few_written m which e.few; tells = c.in_ok-which.ensures } in
    let as_ = functions_law m s which e.funcs e.emitted in
    let same = rewrites_as m s which (with_runtime (record m { funcs = e.funcs })) can (unreserved_is_free m c.requires.free) as_ in
    let r = err_from_is_err_and c.from_residual-in_err-text.result c.from_residual-in_err-text.ensures.1 in
    subst (EmitsModule m s) (sym r.1) (subst (λ z. EmitsModule m s (Err z)) (sym r.2)
    (text_fault m s which (with_runtime (record m { funcs = e.funcs })) c.in_err-text.field-0.0 (record { tells = c.in_ok-which.ensures; few = e.few }) as_ same
    (c.in_err-text.ensures.fault (with_runtime (record m { funcs = e.funcs })) a h)))

pub returns : goal.returns
returns c =
    let m = module_of c.args.valid in
    let s = settings_of c.args.settings.now in
    let which = c.in_ok-which.which.items in
    let valid = subst (λ (z : ModuleValue). Valid (module_of z)) c.module.ensures.same c.module.ensures.valid in
    let e = subst (λ w. AllTaken m s w (λ fs. HoldsEntries c.rewrite_funcs.new.sink (flat_map code_entry fs))) c.deref-2.ensures.value c.in_ok-rewrite_funcs.ensures in
    let with = c.in_ok-with.ensures.done ∙ ap (λ (z : ModuleValue). with_runtime (module_of z)) c.into_module-module.ensures.same in
    let many = ap (λ (z : ModuleValue). length z.funcs.items) c.into_module-module.ensures.same in
    let len = length-map c.args.valid.funcs.items func_of in
    let own : c.len-own.result ≡ length m.funcs = omega (arith, c.len-own.ensures, many, len) in
    let a = bare_around (module_of c.in_ok-with.with) (with_runtime (record m { funcs = e.funcs })) (module_of c.drop_bodies.new.«module») c.in_ok-drop_bodies.ensures
    (parts_around m s which e.funcs e.emitted valid c.requires.sizes c.in_ok-which.ensures e.few c.requires.few c.requires.short
    c.in_ok-with.with with c.len-own.result own c.deref-4.result.now c.deref-4.ensures.value) in
    let h = parts_held m s which e.funcs e.emitted valid c.requires.sizes c.in_ok-which.ensures e.few c.requires.few c.requires.short
    c.in_ok-with.with with c.len-own.result own c.deref-4.result.now c.deref-4.ensures.value
    c.rewrite_funcs.new.sink c.put_funcs.new.out e.held c.in_ok-put_funcs.ensures in
    let can : CanBeEmitted m s which = record { valid = valid; sizes = c.requires.sizes; few = few_written m which e.few; tells = c.in_ok-which.ensures } in
    let as_ = functions_law m s which e.funcs e.emitted in
    let same = rewrites_as m s which (with_runtime (record m { funcs = e.funcs })) can (unreserved_is_free m c.requires.free) as_ in
    record {
      can = record { tells = c.in_ok-which.ensures; few = e.few };
      written = with_runtime (record m { funcs = e.funcs });
      emitted = as_;
      rewrites = same;
      reads = emitted_reads m s which (with_runtime (record m { funcs = e.funcs })) can as_;
      text = c.in_ok-text.ensures.ok (with_runtime (record m { funcs = e.funcs })) a h;
      short = c.in_ok-text.ensures.short (with_runtime (record m { funcs = e.funcs })) a h;
    }
