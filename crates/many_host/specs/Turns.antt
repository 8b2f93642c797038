-- A world as it is told, turn by turn.
use Rattle.std.specs.Prelude.{◌≡◌, ℕ, zero, suc, ◌+◌, ◌<◌, List, [], ◌∷◌, ◌++◌, length, map, Option, Some, None, Bool, true, false, ◌||◌, if◌then◌else◌, nat_eq, is_none, MatchBool, slice_get, slice_set}
use Rattle.wa_model.specs.declared.answers.Detach.{Detach}
use Rattle.wa_model.specs.Outside.{AnswerLine, Line}
use Rattle.wa_model.specs.Plan.{Entry, Outcome}
use Rattle.wa_model.specs.Blocking.{Note}
use Rattle.wa_model.specs.Behaves.{IsPrefix}
use Rattle.world_model.specs.World.{Actor, Device, Origin, at_start, gone, at_pause, Program, answers_from, due_from, detached, CallsMeet, ends_turn, is_end, put_off, line_at, events_with_looks, protocol_story}
use Rattle.event_order.specs.Dues.{IsLeast}

-- What is known of a program: the tick at which it is due, whether it has ended, its answer lines left, the notes that it has
-- told, and the outcomes that its calls met.
pub record Teller : Type 0 where
  pub due : ℕ
  pub has_ended : Bool
  pub answers : List AnswerLine
  pub told : List Note
  pub met : List Outcome

-- nothing is to come of a program that begins here: it has ended, or the entry that would go on isn't there
abbrev pub is_over_at : List Entry → Origin → Bool
is_over_at entries at_start = false
is_over_at entries gone = true
is_over_at entries (at_pause halt) = is_none (slice_get entries halt.entry)

-- the same of a program
abbrev pub is_gone : Program → Bool
is_gone w = is_over_at w.plan.entries w.origin

-- a program where it begins, which has told nothing yet
abbrev pub starting : Program → Teller
starting w = record { due = due_from w.origin; has_ended = is_gone w; answers = answers_from w.answers w.origin; told = []; met = [] }

-- when it is due; never once it has ended
abbrev pub unless : Bool → ℕ → Option ℕ
unless true due = None
unless false due = Some due

-- the same of a program
abbrev pub due_of : Teller → Option ℕ
due_of t = unless t.has_ended t.due

-- the last note ends a turn, and no other does
abbrev pub EndsOnce : List Note → Type 0
EndsOnce [] = ⊥
EndsOnce (x ∷ xs) = MatchBool (ends_turn x.event) (xs ≡ []) (EndsOnce xs)

-- one of these notes is an end
abbrev pub ends_program : List Note → Bool
ends_program [] = false
ends_program (x ∷ xs) = is_end x.event || ends_program xs

-- the program once it has told a turn, whose calls met these outcomes and left these answer lines
abbrev pub having_told : Teller → List Note → List Outcome → List AnswerLine → Teller
having_told t turn met answers =
    record { due = t.due + put_off turn; has_ended = ends_program turn; answers = answers; told = t.told ++ turn; met = t.met ++ met }

-- Event number `number`: the detaches with its number come first, then the unfinished program with the least pair of due tick and
-- number tells a turn.
pub record TellsTurn (programs : List Program) (detaches : List Detach) (number : ℕ) (tellers : List Teller) (ds : List Device) (lines : List Line) (tellers' : List Teller)
    (ds' : List Device) : Type 0 where
  pub i : ℕ
  pub w : Program
  pub t : Teller
  pub program : slice_get programs i ≡ Some w
  pub there : slice_get tellers i ≡ Some t
  pub unfinished : t.has_ended ≡ false
  pub next : IsLeast (map due_of tellers) i t.due
  pub turn : List Note
  pub whole : EndsOnce turn
  pub met : List Outcome
  pub answers : List AnswerLine
  pub calls : CallsMeet w turn met t.answers (detached number detaches ds) [] answers ds'
  pub made : lines ≡ map (line_at t.due i) (events_with_looks w.looks turn)
  pub after : tellers' ≡ slice_set tellers i (having_told t turn met answers)

-- the number of the event that is `count` behind another: their sum
abbrev pub behind : (begun count : ℕ) → ℕ
behind zero count = count
behind (suc begun) count = suc (behind begun count)

-- how many events are behind this one, up to this number
abbrev pub since : (begun number : ℕ) → ℕ
since zero number = number
since (suc begun) zero = 0
since (suc begun) (suc number) = since begun number

-- so many events, behind those that had begun before
abbrev pub TellsFrom : (begun : ℕ) → List Program → List Detach → List Device → (count : ℕ) → List Line → List Teller → List Device → Type 0
TellsFrom begun programs detaches ds zero lines tellers ds' = (lines ≡ []) × (tellers ≡ map starting programs) × (ds' ≡ ds)
TellsFrom begun programs detaches ds (suc count) lines tellers ds' =
    (before more : List Line) × (mid : List Teller) × (es : List Device)
    × TellsFrom begun programs detaches ds count before mid es × TellsTurn programs detaches (suc (behind begun count)) mid es more tellers ds' × (lines ≡ before ++ more)

-- from the first on
abbrev pub Tells : List Program → List Detach → List Device → (count : ℕ) → List Line → List Teller → List Device → Type 0
Tells = TellsFrom 0

-- what is still to be told: nothing exactly where the program has ended
abbrev pub IsRest : Bool → List Note → Type 0
IsRest true rest = rest ≡ []
IsRest false rest = 0 < length rest

-- What a program has told begins its story, for some outcomes that later calls may meet.
pub record HasStory (w : Program) (t : Teller) : Type 0 where
  pub rest : List Note
  pub more : List Outcome
  pub story : protocol_story w (t.met ++ more) ≡ t.told ++ rest
  pub is_rest : IsRest t.has_ended rest

-- ---- what calls have met

-- Each program's calls have met what they had, and those of the program of this number these outcomes behind.
abbrev pub MeetMore : (program : ℕ) → List Outcome → (tellers tellers' : List Teller) → Type 0
MeetMore program met tellers tellers' =
    (i : ℕ) (t t' : Teller) → slice_get tellers i ≡ Some t → slice_get tellers' i ≡ Some t' → t'.met ≡ t.met ++ (if nat_eq i program then met else [])

-- What each program's calls have met are the first outcomes of its actor.
abbrev pub HaveMet : List Teller → List Actor → Type 0
HaveMet tellers actors = (i : ℕ) (t : Teller) (a : Actor) → slice_get tellers i ≡ Some t → slice_get actors i ≡ Some a → IsPrefix t.met a.outcomes
