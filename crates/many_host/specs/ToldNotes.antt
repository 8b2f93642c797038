-- Laws of notes that are told one after another.
use Rattle.std.specs.Prelude.{◌≡◌, ℕ, suc, List, [], ◌∷◌, ◌++◌, map, Some, true, false, slice_get, slice_set}
use Rattle.std.specs.List.{AllZip}
use Rattle.wa_model.specs.declared.answers.Detach.{Detach}
use Rattle.wa_model.specs.Outside.{AnswerLine, Line}
use Rattle.wa_model.specs.Plan.{Outcome}
use Rattle.wa_model.specs.Blocking.{Note}
use Rattle.world_model.specs.World.{Device, Program, ProtocolWorldFrom, detached, CallsMeet, ends_turn, line_at, looks_after}
use Rattle.event_order.specs.Dues.{HaveEnded, IsLeast}
use Rattle.many_host.specs.Turns.{Teller, starting, due_of, having_told, behind, TellsFrom}
use Rattle.many_host.specs.Notes.{OnStory, TellsOnFrom}

-- Before the first turn nothing is told,
abbrev pub NothingTold : Type 0
NothingTold = (begun : ℕ) (programs : List Program) (detaches : List Detach) (ds : List Device) → TellsFrom begun programs detaches ds 0 [] (map starting programs) ds

-- behind whole turns the next begins, of the program with the least pair of due tick and number,
abbrev pub TurnBegins : Type 0
TurnBegins =
    (begun : ℕ) (programs : List Program) (detaches : List Detach) (ds es : List Device) (number i due : ℕ) (lines : List Line) (tellers : List Teller) (w : Program)
    → TellsFrom begun programs detaches ds number lines tellers es → slice_get programs i ≡ Some w → IsLeast (map due_of tellers) i due
    → TellsOnFrom begun programs detaches ds number i due lines tellers (detached (suc (behind begun number)) detaches es)

-- with each note the turn goes on,
abbrev pub TurnGoesOn : Type 0
TurnGoesOn =
    (begun : ℕ) (programs : List Program) (detaches : List Detach) (ds ds' es : List Device) (number i due : ℕ) (lines : List Line) (tellers : List Teller)
    (w : Program) (t : Teller) (x : Note) (met : List Outcome) (answers : List AnswerLine)
    → TellsOnFrom begun programs detaches ds number i due lines tellers ds' → slice_get programs i ≡ Some w → slice_get tellers i ≡ Some t
    → CallsMeet w (x ∷ []) met t.answers ds' [] answers es → ends_turn x.event ≡ false
    → TellsOnFrom begun programs detaches ds number i due (lines ++ line_at due i x.event ∷ []) (slice_set tellers i (having_told t (x ∷ []) met answers)) es

-- or is whole, with what is shown behind an end.
abbrev pub TurnEnds : Type 0
TurnEnds =
    (begun : ℕ) (programs : List Program) (detaches : List Detach) (ds ds' es : List Device) (number i due : ℕ) (lines : List Line) (tellers : List Teller)
    (w : Program) (t : Teller) (x : Note) (met : List Outcome) (answers : List AnswerLine)
    → TellsOnFrom begun programs detaches ds number i due lines tellers ds' → slice_get programs i ≡ Some w → slice_get tellers i ≡ Some t
    → CallsMeet w (x ∷ []) met t.answers ds' [] answers es → ends_turn x.event ≡ true
    → TellsFrom begun programs detaches ds (suc number) (lines ++ line_at due i x.event ∷ map (line_at due i) (looks_after w.looks x x.event)) (slice_set tellers i (having_told t (x ∷ []) met answers)) es

-- ---- worlds

-- some run of the world, behind so many events, has these first lines
abbrev pub BeginsWorldFrom : (begun : ℕ) → List Program → List Detach → List Device → List Line → Type 0
BeginsWorldFrom begun programs detaches ds lines = (more : List Line) × (last : List Device) × ProtocolWorldFrom begun programs detaches ds (lines ++ more) last

-- from the first event on
abbrev pub BeginsWorld : List Program → List Detach → List Device → List Line → Type 0
BeginsWorld = BeginsWorldFrom 0

-- The lines of whole turns begin a run of the world, where what each program has told begins its story,
abbrev pub ToldBegins : Type 0
ToldBegins =
    (begun : ℕ) (programs : List Program) (detaches : List Detach) (ds ds' : List Device) (number : ℕ) (lines : List Line) (tellers : List Teller)
    → TellsFrom begun programs detaches ds number lines tellers ds' → AllZip OnStory programs tellers → BeginsWorldFrom begun programs detaches ds lines

-- and so do those with the beginning of the next turn.
abbrev pub BegunBegins : Type 0
BegunBegins =
    (begun : ℕ) (programs : List Program) (detaches : List Detach) (ds ds' : List Device) (number i due : ℕ) (lines : List Line) (tellers : List Teller)
    → TellsOnFrom begun programs detaches ds number i due lines tellers ds' → AllZip OnStory programs tellers → BeginsWorldFrom begun programs detaches ds lines

-- Once all programs have ended, they are a whole run.
abbrev pub ToldWhole : Type 0
ToldWhole =
    (begun : ℕ) (programs : List Program) (detaches : List Detach) (ds ds' : List Device) (number : ℕ) (lines : List Line) (tellers : List Teller)
    → TellsFrom begun programs detaches ds number lines tellers ds' → AllZip OnStory programs tellers → HaveEnded (map due_of tellers) → ProtocolWorldFrom begun programs detaches ds lines ds'
