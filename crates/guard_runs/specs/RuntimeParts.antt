-- The runtime's functions of a rewritten module are those that the host calls.
use Rattle.std.specs.List.{find}
use Rattle.std.specs.Prelude.{◌≡◌, ℕ, ◌+◌, List, length, drop, None, codes}
use Rattle.wa_types.specs.Runtime.{global_space, with_runtime}
use Rattle.wa_types.specs.Syntax.{Module}
use Rattle.wa_types.specs.Validity.{same_name}
use Rattle.wa_types.specs.declared.syntax.Export.{Export}
use Rattle.wa_model.specs.Protocol.{exports_of}
use Rattle.guard_runs.specs.Pause.{RuntimeAt}

-- the module exports nothing of this name
abbrev pub NoExport : Module → List ℕ → Type 0
NoExport m name = find (λ (e : Export). same_name e.name name) m.exports ≡ None

-- A module has the runtime's parts behind those of another, which exports none of the five names.
pub record HasRuntime (m p : Module) : Type 0 where
  pub types : p.types ≡ (with_runtime m).types
  pub imports : p.imports ≡ m.imports
  pub exports : p.exports ≡ (with_runtime m).exports
  pub runtime : drop (length m.funcs) p.funcs ≡ drop (length m.funcs) (with_runtime m).funcs
  pub start_unwind : NoExport m (codes "asyncify_start_unwind")
  pub stop_unwind : NoExport m (codes "asyncify_stop_unwind")
  pub start_rewind : NoExport m (codes "asyncify_start_rewind")
  pub stop_rewind : NoExport m (codes "asyncify_stop_rewind")
  pub get_state : NoExport m (codes "asyncify_get_state")

-- Then the five functions stand where the host looks for them.
abbrev pub RuntimeStands : Type 0
RuntimeStands = (m p : Module) → HasRuntime m p → RuntimeAt p (exports_of p) (global_space m) (global_space m + 1)
