-- The module that rewriting emits, for any slim pieces, and any codes that restore and save frames.
use Rattle.std.specs.Prelude.{ℕ, suc, List, [], ◌∷◌, ◌++◌, length, map, Bool, slice_get, if◌then◌else◌}
use Rattle.wa_types.specs.declared.values.ValType.TheVariants.{I32, I64}
use Rattle.wa_types.specs.Modules.{func_imports}
use Rattle.wa_types.specs.Pausing.{Settings, is_told}
use Rattle.wa_types.specs.Runtime.{global_space, with_runtime}
use Rattle.wa_types.specs.Syntax.{Code, done, Func, Module}
use Rattle.run_theory.specs.Flat.{followed_by}
use Rattle.run_theory.specs.FlatFits.{one_run}
use Rattle.flat_laws.specs.Flatten.{flattened}
use Rattle.flat_laws.specs.FlatModule.{extra_types}
use Rattle.guard_form.specs.Functions.{GuardedFunc, with_guards, written_code}
use Rattle.guard_form.specs.Guarded.{block_unit}
use Rattle.frame_laws.specs.Function.{result_type, value_code}
use Rattle.slim_laws.specs.SlimModule.{Pieces}

-- What a function is written from: its pieces, and the codes that restore and that save its frame.
pub record FrameCode : Type 0 where
  pub pieces : Pieces
  pub restoring : Code
  pub saving : Code

module _ (m : Module) (s : Settings) (which : List Bool) (codes : (index : ℕ) → Func → FrameCode) where
  -- A function that may pause: the pieces and units of its flat statements by its numbered calls, with the code that restores and
  -- saves its frame.
  abbrev pub guarded_by : (index : ℕ) → Func → GuardedFunc
  guarded_by x f = record {
    size = length (flattened m x f).locals;
    exits = (codes x f).pieces.exits;
    restoring = (codes x f).restoring;
    saving = followed_by (codes x f).saving (value_code (result_type (flattened m x f).locals (flattened m x f).result));
    first = done;
    body = block_unit (codes x f).pieces.first (codes x f).pieces.units (flattened m x f).result;
  }

  -- As it is written, where the global of the state stands behind the module's own. Behind its locals stand the slots, the
  -- result locals, the call index and a scratch local of each type.
  abbrev pub written_by : (index : ℕ) → Func → Func
  written_by x f = record {
    sort = f.sort;
    locals = f.locals ++ map one_run (extra_types m f ++ I32 ∷ I32 ∷ I64 ∷ []);
    body = written_code (global_space m) (with_guards (guarded_by x f));
  }

  -- a function that may pause is written, any other stays
  abbrev pub func_by : (index : ℕ) → Func → Func
  func_by x f = if is_told (slice_get which x) then written_by x f else f

  -- the functions from this index on
  abbrev pub funcs_by : (index : ℕ) → List Func → List Func
  funcs_by x [] = []
  funcs_by x (f ∷ fs) = func_by x f ∷ funcs_by (suc x) fs

  -- The module in which each function that may pause is written, `which` telling them, with the runtime's parts behind its own.
  abbrev pub asyncified_by : Module
  asyncified_by = with_runtime (record m { funcs = funcs_by (func_imports m) m.funcs })
