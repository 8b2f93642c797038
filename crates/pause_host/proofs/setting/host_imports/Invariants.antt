use Rattle.std.proofs.Common.{◌≡◌, map, take}
use Rattle.std.specs.Prelude.{slice_get}
use Rattle.std.specs.List.{filter_map}
use Rattle.wa_types.specs.declared.syntax.Import.{Import}
use Rattle.wa_types.specs.Modules.{imported_func, type_at}
use Rattle.wa_types.specs.Pausing.{joined_name}
use Rattle.wa_types.specs.View.{module_of}
use Rattle.world_model.specs.World.{name_if}
use Rattle.pause_host.specs.declared.stages.HostImport.{HostImport}
use Rattle.pause_host.proofs.setting.host_imports.Given as goal

abbrev pub invariant-loop-import : goal.invariant-loop-import
invariant-loop-import l = record {
  names : map (λ (i : HostImport). i.name) l.imports.items ≡ filter_map (λ (i : Import). name_if (joined_name i) (imported_func i.kind)) (take l.import-index l.«module».imports.items);
  bases : map (λ (i : HostImport). i.base) l.imports.items ≡ filter_map (λ (i : Import). name_if i.base (imported_func i.kind)) (take l.import-index l.«module».imports.items);
  results : map (λ (i : HostImport). i.result) l.imports.items ≡ map (λ sort. slice_get (type_at (module_of l.«module») sort).results 0)
      (filter_map (λ (i : Import). imported_func i.kind) (take l.import-index l.«module».imports.items));
}
