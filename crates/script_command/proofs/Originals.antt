-- Originals, rewritten to be run.
use Rattle.std.proofs.Common.{◌≡◌, ℕ, List, Option, Some, Bool, length, sym, ap, ◌∙◌, subst}
use Rattle.std.specs.List.{filter_map}
use Rattle.vault_port.specs.Files.{Files}
use Rattle.wa_types.specs.declared.syntax.Import.{Import}
use Rattle.wa_types.specs.Modules.{imported_func}
use Rattle.wa_types.specs.Pausing.{Settings}
use Rattle.wa_types.specs.Syntax.{Module}
use Rattle.wa_types.specs.View.{module_of}
use Rattle.script_model.specs.Script.{ProgramText}
use Rattle.call_graph.proofs.GraphLemmas.{listed_count}
use Rattle.transform_command.specs.SourceRefusals.{IsRefusedUnwritten}
use Rattle.transform_command.specs.Manners.{plainly}
use Rattle.transform_command.specs.Running.{RunsAs}
use Rattle.module_files.specs.declared.fault.FileFault.{FileFault}
use Rattle.module_files.specs.declared.fault.FileFault.TheVariants.{Memory, Read, Refused}
use Rattle.module_files.specs.Faults.{IsToldFault}
use Rattle.wasm_reader.specs.Held.{Holds}
use Rattle.script_setup.specs.Prepared.{IsUnprepared}
use Rattle.world_hosting.specs.Worlds.{IsListing}
use Rattle.world_hosting.specs.Views.{listing}
use Rattle.script_command.specs.declared.way.Way.TheVariants.{Host, Run}
use Rattle.script_command.specs.declared.modules.Loaded.{Loaded}
use Rattle.script_command.specs.Playing.{settings_for}
use Rattle.script_command.specs.Views.{IsBadModuleFor, Loads}

-- each function import of what is run is listed or not
pub runs_listing : (s : Settings) (bytes : List ℕ) (listed : List Bool) (p : Module) → RunsAs s bytes listed p → IsListing p (Some listed)
runs_listing s bytes listed p r = λ l e.
    let same : listed ≡ l = cc in
    ap (λ (bs : List Bool). length bs) (sym same ∙ r.listed_is) ∙ listed_count r.source s
    ∙ ap (λ (is : List Import). length (filter_map (λ (i : Import). imported_func i.kind) is)) (sym r.rewrites.parts.imports)

module _ (t : ProgramText) (s : Settings) (files : Option Files) (settings : settings_for t ≡ Some s) where
  -- an original that is rewritten
  pub loads_rewritten : (bytes : List ℕ) (l : Loaded) (listed : List Bool) → listing l.listed ≡ Some listed → Holds files t.path bytes → RunsAs s bytes listed (module_of l.valid)
      → Loads Run files t l
  loads_rewritten bytes l listed e holds runs = record {
    module_is = (bytes, listed, holds, (s, settings, runs), e);
    listing = subst (IsListing (module_of l.valid)) (sym e) (runs_listing s bytes listed (module_of l.valid) runs);
  }

  -- .. and one that isn't
  pub bad_rewritten : (fault : FileFault) → IsToldFault (IsRefusedUnwritten (plainly s)) files t.path fault → IsBadModuleFor Run files t fault
  bad_rewritten Memory h = tt
  bad_rewritten Read h = tt
  bad_rewritten (Refused kind) h = (h.0, h.1, (s, settings, h.2))

module _ (t : ProgramText) where
  -- those that are taken as they are
  pub bad_prepared : (files : Option Files) (fault : FileFault) → IsToldFault IsUnprepared files t.path fault → IsBadModuleFor Host files t fault
  bad_prepared files Memory h = tt
  bad_prepared files Read h = tt
  bad_prepared files (Refused kind) h = h
