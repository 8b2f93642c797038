-- What a rewritten module has to show of a run with blocking imports: the same events, and its pauses.
use Rattle.std.specs.Prelude.{◌≡◌, ℕ, ◌+◌, ◌≤◌, ◌<◌, nat_lt, if◌then◌else◌, List, [], ◌∷◌, length, Option, Some, None, Bool, slice_get}
use Rattle.wa_types.specs.declared.values.Trap.TheVariants.{Unreachable}
use Rattle.wa_types.specs.Syntax.{Module}
use Rattle.wa_types.specs.Pausing.{Policy}
use Rattle.wa_types.specs.Frames.{Suspended, Room, Fit}
use Rattle.wa_model.specs.declared.answers.Area.{Area}
use Rattle.wa_model.specs.declared.events.End.TheVariants.{UnwindTrap}
use Rattle.wa_model.specs.Outside.{paused, ended}
use Rattle.wa_model.specs.Store.{Store}
use Rattle.wa_model.specs.Blocking.{Note, note}

-- a pause that suspends this stack, which needs so many bytes
abbrev pub pause_note : (ticks room : ℕ) → Store → List Suspended → Note
pause_note ticks room s stack = record { event = paused ticks room; store = s; stack = stack; pause = None; since = None }

-- the trap of an unwind in an area of this length, of which so many bytes are in use then
abbrev pub trap_note : (used len : ℕ) → Store → Note
trap_note used len s = note (ended (UnwindTrap Unreachable used len)) s

-- a note with what stands behind it: where it is a call that pauses, the pause, or the trap where the unwind of its stack traps
abbrev pub shown_at : (traps : List Suspended → Bool) → (room used : List Suspended → ℕ) → (len : ℕ) → Note → Option ℕ → (rest : List Note) → List Note
shown_at traps room used len x None rest = x ∷ rest
shown_at traps room used len x (Some ticks) rest = x ∷ (if traps x.stack then trap_note (used x.stack) len x.store ∷ [] else pause_note ticks (room x.stack) x.store x.stack ∷ rest)

-- Between a call that pauses and its answer stands the pause; where the unwind of its stack traps, the trap, and nothing follows. Both find the store as at the call.
abbrev pub shown : (traps : List Suspended → Bool) → (room used : List Suspended → ℕ) → (len : ℕ) → List Note → List Note
shown traps room used len [] = []
shown traps room used len (x ∷ xs) = shown_at traps room used len x x.pause (shown traps room used len xs)

-- the notes of a run with blocking imports, with its pauses: an unwind traps where the stack's room passes the area's length
abbrev pub Expected : Module → Policy → Area → List Note → List Note
Expected m policy area notes = shown (λ stack. nat_lt area.len (Room m policy stack)) (Room m policy) (λ stack. Fit m policy stack area.len) area.len notes

-- The globals of the original, of which there are so many, the memory's size and the memory outside the area are equal.
pub record SameEnd (globals : ℕ) (area : Area) (s s' : Store) : Type 0 where
  pub globals_same : (x : ℕ) → x < globals → slice_get s.globals x ≡ slice_get s'.globals x
  pub size : length s.memory ≡ length s'.memory
  pub below : (x : ℕ) → x < area.at → slice_get s.memory x ≡ slice_get s'.memory x
  pub above : (x : ℕ) → area.at + area.len ≤ x → slice_get s.memory x ≡ slice_get s'.memory x
