-- A rewriting by way of flat code: the original, its flat module, and the written one; and the world of the headline that they make.
use Rattle.std.specs.Prelude.{◌≡◌, ℕ, ◌+◌, List, [], length, Option, Bool, false}
use Rattle.wa_types.specs.Base.{Base}
use Rattle.wa_types.specs.Modules.{func_sorts}
use Rattle.wa_types.specs.Pausing.{Callee, Settings}
use Rattle.wa_types.specs.Runtime.{func_space, global_space, runtime_types, runtime_funcs}
use Rattle.wa_types.specs.Syntax.{Module}
use Rattle.wa_types.specs.Validity.{Valid}
use Rattle.run_theory.specs.Growth.{grown_module}
use Rattle.wa_model.specs.Instantiation.{Opening, fails_as, opens, opening}
use Rattle.wa_model.specs.Plan.{Plan}
use Rattle.run_laws.specs.Ranges.{CodesIn}
use Rattle.wa_model.specs.Configuration.{Activation}
use Rattle.guard_runs.specs.Joined.{CallFrame}
use Rattle.guard_form.specs.Functions.{Role}
use Rattle.headline.specs.Given.{Given}
use Rattle.headline.specs.World.{World}

-- The modules, the function of each index, which calls have numbers, and the frame of each flat activation that waits at one.
pub record Core : Type 0 where
  pub original : Module
  pub settings : Settings
  pub which : List Bool
  pub plan : Plan
  pub flat : Module
  pub written : Module
  pub role : ℕ → Role
  pub numbered : Callee → Bool
  pub lay : Activation → CallFrame

-- the original with the memory that it is compared with
abbrev pub based : Core → Module
based k = Base k.original

-- The flat module with the runtime's types and functions behind its own, so that functions have the indices of the written ones.
abbrev pub with_runtime_funcs : (original flat : Module) → Module
with_runtime_funcs m flat = grown_module flat runtime_types (runtime_funcs (length m.types) (global_space m) (global_space m + 1)) [] []

-- the table of an instance, where there is one
abbrev pub table_in : Opening → List (Option ℕ)
table_in (fails_as e) = []
table_in (opens s) = s.table

-- the three modules as the headline has them
abbrev pub world_of : Core → World
world_of k = record {
  original = k.original;
  settings = k.settings;
  which = k.which;
  plan = k.plan;
  flat = with_runtime_funcs k.original k.flat;
  written = k.written;
  funcs = func_space k.original;
  sorts = length k.original.types;
  role = k.role;
  numbered = k.numbered;
  table = table_in (opening (Base k.original) k.plan.globals);
  lay = k.lay;
  tests = 0;
  asserts = false;
}

-- What the flat module is: valid, and the original but for functions, which keep their types.
pub record CoreFits (k : Core) : Type 0 where
  pub valid : Valid k.original
  pub flat_valid : Valid k.flat
  pub codes : CodesIn (based k)
  pub functions_alone : k.flat ≡ record (based k) { funcs = k.flat.funcs }
  pub sorts : func_sorts k.flat ≡ func_sorts (based k)
  pub plan : Given k.original k.plan
