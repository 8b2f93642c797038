-- The modules that the headline speaks of: the original, the flat one in between, and the written one.
use Rattle.std.specs.Prelude.{◌≡◌, ℕ, suc, ◌<◌, ◌≤◌, List, Option, None, Bool}
use Rattle.wa_types.specs.Base.{Base}
use Rattle.wa_types.specs.Modules.{defined_at, func_imports, func_type_at}
use Rattle.wa_types.specs.Pausing.{Callee, Settings}
use Rattle.wa_types.specs.Runtime.{global_space}
use Rattle.wa_types.specs.Syntax.{Module}
use Rattle.wa_model.specs.Plan.{Plan}
use Rattle.wa_model.specs.Protocol.{exports_of}
use Rattle.wa_model.specs.Configuration.{Activation}
use Rattle.guard_runs.specs.Joined.{CallFrame}
use Rattle.guard_form.specs.Functions.{Role}
use Rattle.guard_runs.specs.Alike.{Paired, Setting}
use Rattle.guard_runs.specs.Pause.{RuntimeAt}
use Rattle.headline.specs.Given.{LetsPause}

-- The original, the flat and the written module, with what both have in common, what a test behind a return may cost, and whether
-- an unwind may end at a test.
pub record World : Type 0 where
  pub original : Module
  pub settings : Settings
  pub which : List Bool
  pub plan : Plan
  pub flat : Module
  pub written : Module
  pub funcs : ℕ
  pub sorts : ℕ
  pub role : ℕ → Role
  pub numbered : Callee → Bool
  pub table : List (Option ℕ)
  pub lay : Activation → CallFrame
  pub tests : ℕ
  pub asserts : Bool

-- the original with the memory that it is compared with
abbrev pub base : World → Module
base w = Base w.original

-- both modules, where the host has called this function
abbrev pub setting : World → (top : ℕ) → Setting
setting w top = record {
  flat = w.flat;
  written = w.written;
  globals = global_space w.original;
  funcs = w.funcs;
  sorts = w.sorts;
  role = w.role;
  numbered = w.numbered;
  table = w.table;
  area = w.plan.area;
  top = top;
}

-- What the modules meet, from the fields of the rewriting and the guards' laws.
pub record WorldFits (w : World) : Type 0 where
  pub paired : (top : ℕ) → Paired (setting w top)
  pub imports : func_imports w.written ≡ func_imports (base w)
  pub import_type : (i : ℕ) → i < func_imports (base w) → func_type_at w.written i ≡ func_type_at (base w) i
  pub import_undefined : (i : ℕ) → i < func_imports (base w) → defined_at w.written i ≡ None
  pub undefined : (x : ℕ) → x < w.funcs → defined_at (base w) x ≡ None → defined_at w.written x ≡ None
  pub runtime : RuntimeAt w.written (exports_of w.written) (global_space w.original) (suc (global_space w.original))
  pub least : LetsPause w.plan → 8 ≤ w.plan.area.len
  pub few_tests : w.tests ≤ 5
