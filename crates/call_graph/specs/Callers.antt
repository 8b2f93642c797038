-- Who calls each function of a module, and which of them pause by a call of their own.
use Rattle.std.specs.Prelude.{◌≡◌, ◌↔◌, ℕ, ◌<◌, List, ◌++◌, map, replicate, length, Contains, Bool, false, ◌⊎◌}
use Rattle.std.specs.declared.vec.Vec.{Vec}
use Rattle.std.specs.declared.alloc.Global.{Global}
use Rattle.wa_types.specs.Syntax.{Module}
use Rattle.wa_types.specs.Modules.{func_imports, func_sorts}
use Rattle.wa_types.specs.Pausing.{Callee, direct}
use Rattle.call_graph.specs.Calls.{calls_at, pauses}
use Rattle.call_graph.specs.Graph.{callers_at}

-- The caller is put to those that it calls, and nothing else is.
pub record Puts (calls : List Callee) (caller : ℕ) (callers new : List (Vec ℕ Global)) : Type 0 where
  pub len : length new ≡ length callers
  pub each : (y x : ℕ) → Contains (callers_at new y) x ↔ (Contains (callers_at callers y) x ⊎ ((x ≡ caller) × Contains calls (direct y)))

-- The calls of the functions below this index are gathered.
pub record GatheredBelow (m : Module) (below : ℕ) (callers : List (Vec ℕ Global)) : Type 0 where
  pub len : length callers ≡ length (func_sorts m)
  pub each : (y x : ℕ) → Contains (callers_at callers y) x ↔ ((x < below) × Contains (calls_at m x) (direct y))

-- The calls of all functions are gathered.
pub record CallsGathered (m : Module) (listed : List Bool) (ignore : Bool) (callers : List (Vec ℕ Global)) (alone : List Bool) : Type 0 where
  pub calls : GatheredBelow m (length (func_sorts m)) callers
  pub own : alone ≡ replicate (func_imports m) false ++ map (pauses listed ignore) m.funcs
