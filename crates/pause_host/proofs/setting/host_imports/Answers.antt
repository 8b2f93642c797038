use Rattle.std.proofs.Common.{◌<◌, ◌≤◌, map, length, get_or, subst, ap, ◌∙◌}
use Rattle.std.specs.Prelude.{slice_get}
use Rattle.std.specs.List.{filter_map}
use Rattle.std.proofs.lemmas.List.{take_all}
use Rattle.wa_types.specs.declared.syntax.Import.{Import}
use Rattle.wa_types.specs.Modules.{imported_func, type_at}
use Rattle.wa_types.specs.Pausing.{joined_name}
use Rattle.wa_types.specs.View.{module_of}
use Rattle.world_model.specs.World.{name_if}
use Rattle.pause_host.specs.declared.stages.HostImport.{HostImport}
use Rattle.pause_host.proofs.Parts.{one_more, mapped_more}
use Rattle.pause_host.proofs.setting.host_imports.Goals as goal

pub loop-import-preserved : goal.loop-import-preserved
loop-import-preserved c =
    let xs = c.args.«module».now.imports.items in
    let i = c.loop-import.import-index in
    let d = c.deref-import-items.ensures.value in
    let lt = subst (λ ys. i < length ys) d c.loop-import-test.true in
    let at = c.import-item.is ∙ ap (λ ys. get_or ys i c.import-item.result) d in
    record {
      names = one_more (λ (y : Import). name_if (joined_name y) (imported_func y.kind)) xs i c.import-item.result (map (λ (y : HostImport). y.name) c.loop-import.imports.items)
          (map (λ (y : HostImport). y.name) c.put_import.new.imports.items) lt at c.loop-import.invariant.names c.in_ok-put_import.ensures.names;
      bases = one_more (λ (y : Import). name_if y.base (imported_func y.kind)) xs i c.import-item.result (map (λ (y : HostImport). y.base) c.loop-import.imports.items)
          (map (λ (y : HostImport). y.base) c.put_import.new.imports.items) lt at c.loop-import.invariant.bases c.in_ok-put_import.ensures.bases;
      results = mapped_more (λ sort. slice_get (type_at (module_of c.args.«module».now) sort).results 0) (λ (y : Import). imported_func y.kind) xs i c.import-item.result
          (map (λ (y : HostImport). y.result) c.loop-import.imports.items) (map (λ (y : HostImport). y.result) c.put_import.new.imports.items) lt at c.loop-import.invariant.results
          c.in_ok-put_import.ensures.results;
    }

pub returns-clause-names : goal.returns-clause-names
returns-clause-names c =
    let i = c.loop-import.import-index in
    let le = subst (λ ys. length ys ≤ i) c.deref-import-items.ensures.value c.loop-import-test.false in
    c.loop-import.invariant.names ∙ ap (filter_map (λ (y : Import). name_if (joined_name y) (imported_func y.kind))) (take_all i c.args.«module».now.imports.items le)

pub returns-clause-bases : goal.returns-clause-bases
returns-clause-bases c =
    let i = c.loop-import.import-index in
    let le = subst (λ ys. length ys ≤ i) c.deref-import-items.ensures.value c.loop-import-test.false in
    c.loop-import.invariant.bases ∙ ap (filter_map (λ (y : Import). name_if y.base (imported_func y.kind))) (take_all i c.args.«module».now.imports.items le)

pub returns-clause-results : goal.returns-clause-results
returns-clause-results c =
    let i = c.loop-import.import-index in
    let le = subst (λ ys. length ys ≤ i) c.deref-import-items.ensures.value c.loop-import-test.false in
    c.loop-import.invariant.results
    ∙ ap (λ ys. map (λ sort. slice_get (type_at (module_of c.args.«module».now) sort).results 0) (filter_map (λ (y : Import). imported_func y.kind) ys))
    (take_all i c.args.«module».now.imports.items le)
