-- Laws of frames: what is computed is what is meant. Functions with an empty body carry them.
use Rattle.std.specs.Prelude.{◌≡◌, ◌↔◌, ℕ, [], length, true}
use Rattle.std.specs.List.{list_any}
use Rattle.wa_types.specs.declared.values.ValType.{ValType}
use Rattle.wa_types.specs.Syntax.{Func, Module}
use Rattle.wa_types.specs.Typing.{Typed}
use Rattle.wa_types.specs.Modules.{around}
use Rattle.wa_types.specs.Pruned.{pruned}
use Rattle.wa_types.specs.Pausing.{calls_in}
use Rattle.wa_types.specs.Points.{SlotPair, func_call_points}
use Rattle.wa_types.specs.Liveness.{behind_calls, LiveAfter, is_live_after}
use Rattle.wa_types.specs.Frames.{same_pair, SlotPairs}

-- The slots of a typed body are the heights and types of the operands at its points.
abbrev pub SlotsArePairs : Type 0
SlotsArePairs =
    (m : Module) → (f : Func) → Typed (around m f) f.body → (h : ℕ) → (t : ValType) → (list_any (same_pair h t) (SlotPairs m f) ≡ true) ↔ SlotPair m f h t

-- The locals of policy `live` are those that a path reads before it writes them.
abbrev pub LiveIsPath : Type 0
LiveIsPath = (f : Func) → (place x : ℕ) → (is_live_after f place x ≡ true) ↔ LiveAfter f place x

-- Where a call's place is asked for, there is one element for each call.
abbrev pub OneEachCall : Type 0
OneEachCall =
    (m : Module) → (f : Func) → (length (behind_calls [] (pruned f.body)) ≡ length (calls_in f)) × (length (func_call_points m f) ≡ length (calls_in f))
