-- The runtime's parts behind a module's own: the host finds the five functions, and the size rule is kept.
use Rattle.std.specs.Prelude.{◌≡◌, ℕ, ◌+◌, length, map, Some, slice_get}
use Rattle.wa_types.specs.Syntax.{Func, Module}
use Rattle.wa_types.specs.Modules.{defined_at}
use Rattle.wa_types.specs.Sizes.{SizeRule, StrictSizeRule}
use Rattle.wa_types.specs.Pausing.{Settings}
use Rattle.wa_types.specs.Validity.{Valid}
use Rattle.wa_types.specs.Runtime.{func_space, global_space, runtime_funcs, with_runtime}
use Rattle.wa_model.specs.Plan.{Plan, Fits}
use Rattle.wa_model.specs.Protocol.{exports_of}
use Rattle.run_theory.specs.Quiet.{FreeOfNames}
use Rattle.wa_model.specs.Rewrites.{Rewrites}

-- The exports that the host calls are the five functions behind the original's, in their order.
pub record RuntimeExported (m p : Module) : Type 0 where
  pub start_unwind : (exports_of p).start_unwind ≡ func_space m
  pub stop_unwind : (exports_of p).stop_unwind ≡ func_space m + 1
  pub start_rewind : (exports_of p).start_rewind ≡ func_space m + 2
  pub stop_rewind : (exports_of p).stop_rewind ≡ func_space m + 3
  pub get_state : (exports_of p).get_state ≡ func_space m + 4
  pub functions : (k : ℕ) (f : Func) → slice_get (runtime_funcs (length m.types) (global_space m) (global_space m + 1)) k ≡ Some f → defined_at p (func_space m + k) ≡ Some f

-- So it is in the module with the runtime's parts,
abbrev pub RuntimeIsExported : Type 0
RuntimeIsExported = (m : Module) → FreeOfNames m → RuntimeExported m (with_runtime m)

-- and in each module that is rewritten: it is valid, so the original has no export of one of the five names.
abbrev pub RewrittenIsExported : Type 0
RewrittenIsExported = (m : Module) (s : Settings) (p : Module) → Rewrites m s p → RuntimeExported m p

-- A module that keeps the stricter size rule keeps the size rule with the runtime's parts.
abbrev pub RuntimeKeepsSizes : Type 0
RuntimeKeepsSizes = (m : Module) → StrictSizeRule m → SizeRule (with_runtime m)

-- p shows to the host what the original shows, and the runtime's parts behind it: imports, exports, a memory, and the types of
-- functions.
pub record ShowsParts (m p : Module) : Type 0 where
  pub types : p.types ≡ (with_runtime m).types
  pub imports : p.imports ≡ m.imports
  pub memories : p.memories ≡ (with_runtime m).memories
  pub exports : p.exports ≡ (with_runtime m).exports
  pub sorts : map (λ (f : Func). f.sort) p.funcs ≡ map (λ (f : Func). f.sort) (with_runtime m).funcs

-- A plan that fits a valid module fits such a one.
abbrev pub PlansFitParts : Type 0
PlansFitParts = (m p : Module) (plan : Plan) → Valid m → ShowsParts m p → Fits m plan → Fits p plan
