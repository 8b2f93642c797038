-- What is seen along a run with blocking imports: its events and its touches of the memory, in one list.
use Rattle.std.specs.Prelude.{◌≡◌, ℕ, suc, ◌+◌, List, [], ◌++◌, map, Option, Some, None}
use Rattle.std.specs.List.{filter_map}
use Rattle.wa_types.specs.Syntax.{Module}
use Rattle.wa_model.specs.Machine.{goes, CostsMore}
use Rattle.wa_model.specs.Outside.{Event}
use Rattle.wa_model.specs.Plan.{Plan, Outcome}
use Rattle.wa_model.specs.Blocking.{Note, State, events_of, blocking, Blocking}
use Rattle.wa_model.specs.Behaves.{IsPrefix}
use Rattle.run_theory.specs.Touches.{trace, Seen, made, touched, seen_at, seen_note, Touches}

-- Where the next move can be paid, there stands what is seen before it, then its events, then what is seen from where it leads;
abbrev pub SeenByMoves : Type 0
SeenByMoves =
    (m : Module) (plan : Plan) (s t : State) (k n : ℕ) (es : List Note) → blocking m plan s ≡ goes k es t
    → trace (blocking m plan) seen_at seen_note (suc k + n) s ≡ seen_at s ++ (map seen_note es ++ trace (blocking m plan) seen_at seen_note n t)

-- where it can't be paid, or there is none, nothing more is seen.
abbrev pub SeenNoFurther : Type 0
SeenNoFurther = (m : Module) (plan : Plan) (s : State) (n : ℕ) → CostsMore n (blocking m plan s) → trace (blocking m plan) seen_at seen_note n s ≡ []

-- the event that is seen, where it is one
abbrev pub made_event : Seen → Option Event
made_event (made e) = Some e
made_event (touched t) = None

-- The events among what is seen of a run are its events.
abbrev pub SeenEvents : Type 0
SeenEvents = (m : Module) (plan : Plan) (os : List Outcome) (n : ℕ) → filter_map made_event (Touches m plan os n) ≡ events_of (Blocking m plan os n).events

-- What is seen within a cost begins what is seen within more.
abbrev pub SeenGrows : Type 0
SeenGrows = (m : Module) (plan : Plan) (os : List Outcome) (n more : ℕ) → IsPrefix (Touches m plan os n) (Touches m plan os (n + more))
