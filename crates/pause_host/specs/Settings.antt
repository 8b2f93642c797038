-- What is made of a plan when a program is set up.
use Rattle.std.specs.Prelude.{◌≡◌, ℕ, List, [], ◌∷◌, map, Option, None, Bool, slice_get}
use Rattle.std.specs.Global.{Vec}
use Rattle.wa_types.specs.Syntax.{Module}
use Rattle.wa_types.specs.Modules.{imported, imported_func, type_at}
use Rattle.wa_model.specs.declared.answers.Area.{Area}
use Rattle.wa_model.specs.Plan.{Entry}
use Rattle.wa_model.specs.Protocol.{exports_of}
use Rattle.world_model.specs.World.{base_names, import_names}
use Rattle.host_setup.specs.SetUp.{NamedEntry}
use Rattle.pause_host.specs.declared.stages.HostImport.{HostImport}
use Rattle.pause_host.specs.declared.stages.Setting.{Setting}
use Rattle.pause_host.specs.Views.{exports_in}

-- the entry calls of these functions
abbrev pub calls_of : List NamedEntry → List ℕ → List Entry
calls_of [] funcs = []
calls_of (e ∷ es) [] = []
calls_of (e ∷ es) (f ∷ fs) = record { func = f; args = e.args } ∷ calls_of es fs

-- the setting has these parts, and those that the module tells; answers leave no range alone but the area
pub record MakesSetting (p : Module) (listed : Option (Vec Bool)) (binds : Vec (Option (List ℕ))) (area : Area) (steps : ℕ) (x : Setting) : Type 0 where
  pub exports : exports_in x.exports ≡ exports_of p
  pub area_is : x.area ≡ area
  pub no_others : x.others.items ≡ []
  pub listed_is : x.listed ≡ listed
  pub binds_are : x.binds ≡ binds
  pub steps_are : x.steps ≡ steps
  pub names : map (λ (i : HostImport). i.name) x.imports.items ≡ import_names p
  pub bases : map (λ (i : HostImport). i.base) x.imports.items ≡ base_names p
  pub results : map (λ (i : HostImport). i.result) x.imports.items ≡ map (λ sort. slice_get (type_at p sort).results 0) (imported imported_func p)

-- no import of a module is bound
abbrev pub none_bound : Module → List (Option (List ℕ))
none_bound p = map (λ sort. None) (imported imported_func p)
