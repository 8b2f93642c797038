-- A world of strands as it is told, turn by turn: what a strand's calls will meet isn't known before they do.
use Rattle.std.specs.Prelude.{◌≡◌, ℕ, zero, suc, ◌+◌, ◌<◌, ◌≤◌, ◌⊎◌, ◌||◌, List, [], ◌∷◌, ◌++◌, length, map, Some, Bool, true, false, All, MatchBool, slice_get, slice_set}
use Rattle.std.specs.List.{AllZip}
use Rattle.wa_model.specs.declared.answers.Detach.{Detach}
use Rattle.wa_model.specs.Outside.{AnswerLine, Event, Line}
use Rattle.wa_model.specs.Plan.{Outcome}
use Rattle.wa_model.specs.Blocking.{Note}
use Rattle.world_model.specs.World.{Actor, CallsMeet, Device, detached, ends_turn, events_with_looks, is_end, put_off}
use Rattle.world_laws.specs.Played.{Played}
use Rattle.strand_laws.specs.StrandWorld.{HeldStrands, ProtocolStrandWorld, Staged, StartsStrands, StrandLine, StrandsInWorld, answers_of, joined, looks_if, strand_in, strand_lines, strand_program}
use Rattle.strand_laws.specs.Strands.{Strand, strand_at}
use Rattle.strand_laws.specs.Weaving.{HaveStrands}
use Rattle.strand_laws.specs.Woven.{Told, told_by}

-- ---- what is known of a program

-- What is known of a strand: the tick at which it is due, whether it has ended, its answer lines left, and the outcomes that its calls met.
pub record StrandTeller : Type 0 where
  pub due : ℕ
  pub has_ended : Bool
  pub answers : List AnswerLine
  pub met : List Outcome

-- What is known of a program with strands: each strand, the notes that they have told, in order, over the store that all share, and
-- whether the program has ended.
pub record ProgramTeller : Type 0 where
  pub strands : List StrandTeller
  pub told : List Told
  pub has_ended : Bool

-- strands that have told nothing yet, from this number on
abbrev pub starting_strands : StrandsInWorld → (number : ℕ) → List Strand → List StrandTeller
starting_strands g i [] = []
starting_strands g i (s ∷ ss) = record { due = 0; has_ended = false; answers = answers_of g i; met = [] } ∷ starting_strands g (suc i) ss

-- a program that has told nothing yet
abbrev pub starting : StrandsInWorld → ProgramTeller
starting g = record { strands = starting_strands g 0 g.program.strands; told = []; has_ended = false }

-- ---- whose turn it is

-- A strand of a program is due at this tick: neither has ended.
pub record IsDue (tellers : List ProgramTeller) (program strand tick : ℕ) : Type 0 where
  pub t : ProgramTeller
  pub s : StrandTeller
  pub there : slice_get tellers program ≡ Some t
  pub strand_there : slice_get t.strands strand ≡ Some s
  pub goes_on : t.has_ended ≡ false
  pub unfinished : s.has_ended ≡ false
  pub due : s.due ≡ tick

-- The least triple of due tick, program and strand among the strands that are due.
pub record IsDueNext (tellers : List ProgramTeller) (program strand tick : ℕ) : Type 0 where
  pub is_due : IsDue tellers program strand tick
  pub least : (p k n : ℕ) → IsDue tellers p k n → (tick < n) ⊎ ((tick ≡ n) × ((program < p) ⊎ ((program ≡ p) × (strand ≤ k))))

-- ---- turns

-- the last note ends a turn, and no other does
abbrev pub EndsOnce : List Note → Type 0
EndsOnce [] = ⊥
EndsOnce (x ∷ xs) = MatchBool (ends_turn x.event) (xs ≡ []) (EndsOnce xs)

-- one of these notes is an end
abbrev pub tells_end : List Note → Bool
tells_end [] = false
tells_end (x ∷ xs) = is_end x.event || tells_end xs

-- the strand once it has told a turn, whose calls met these outcomes and left these answer lines
abbrev pub having_told : StrandTeller → List Note → List Outcome → List AnswerLine → StrandTeller
having_told s turn met answers = record { due = s.due + put_off turn; has_ended = tells_end turn; answers = answers; met = s.met ++ met }

-- the program once a strand has told a turn and then is so, which may be the program's last
abbrev pub told_on : ProgramTeller → (strand : ℕ) → StrandTeller → List Note → (is_last : Bool) → ProgramTeller
told_on t i s turn is_last = record { strands = slice_set t.strands i s; told = t.told ++ told_by i turn; has_ended = is_last }

-- an event of a strand, at the tick at which that was due
abbrev pub line_of : (due program strand : ℕ) → Event → StrandLine
line_of due p i e = record { tick = due; program = p; strand = strand_in i e; event = e }

-- Event number `number`: the detaches with its number come first, then the strand that is due next tells a turn. Behind the program's
-- last turn comes what is shown of its memory.
pub record TellsStrandTurn (programs : List StrandsInWorld) (detaches : List Detach) (number : ℕ) (tellers : List ProgramTeller) (ds : List Device) (lines : List StrandLine)
    (tellers' : List ProgramTeller) (ds' : List Device) : Type 0 where
  pub program : ℕ
  pub strand : ℕ
  pub g : StrandsInWorld
  pub t : ProgramTeller
  pub s : StrandTeller
  pub is_program : slice_get programs program ≡ Some g
  pub there : slice_get tellers program ≡ Some t
  pub strand_there : slice_get t.strands strand ≡ Some s
  pub next : IsDueNext tellers program strand s.due
  pub turn : List Note
  pub whole : EndsOnce turn
  pub is_last : Bool
  pub met : List Outcome
  pub answers : List AnswerLine
  pub calls : CallsMeet (strand_program g (looks_if is_last g.looks) strand (strand_at g.program strand)) turn met s.answers (detached number detaches ds) [] answers ds'
  pub made : lines ≡ map (line_of s.due program strand) (events_with_looks (looks_if is_last g.looks) turn)
  pub after : tellers' ≡ slice_set tellers program (told_on t strand (having_told s turn met answers) turn is_last)

-- so many turns, one after another
abbrev pub TellsStrands : List StrandsInWorld → List Detach → List Device → (count : ℕ) → List StrandLine → List ProgramTeller → List Device → Type 0
TellsStrands programs detaches ds zero lines tellers ds' = (lines ≡ []) × (tellers ≡ map starting programs) × (ds' ≡ ds)
TellsStrands programs detaches ds (suc count) lines tellers ds' =
    (before more : List StrandLine) × (mid : List ProgramTeller) × (es : List Device)
    × TellsStrands programs detaches ds count before mid es × TellsStrandTurn programs detaches (suc count) mid es more tellers ds' × (lines ≡ before ++ more)

-- ---- stories

-- the outcomes that each strand's calls met, with more behind
abbrev pub met_and : List StrandTeller → List (List Outcome) → List (List Outcome)
met_and [] more = []
met_and (s ∷ ss) [] = s.met ∷ met_and ss []
met_and (s ∷ ss) (os ∷ oss) = (s.met ++ os) ∷ met_and ss oss

-- what is still to be told: nothing exactly where the program has ended
abbrev pub IsRest : Bool → List Told → Type 0
IsRest true rest = rest ≡ []
IsRest false rest = 0 < length rest

-- What a program's strands have told begins what they tell in the protocol world, for some outcomes that later calls may meet; it is all
-- of that exactly where the program has ended.
pub record HasStory (g : StrandsInWorld) (t : ProgramTeller) : Type 0 where
  pub rest : List Told
  pub more : List (List Outcome)
  pub story : HeldStrands g (met_and t.strands more) (t.told ++ rest)
  pub is_rest : IsRest t.has_ended rest

-- all programs have ended
abbrev pub HaveEnded : List ProgramTeller → Type 0
HaveEnded tellers = All (λ (t : ProgramTeller). t.has_ended ≡ true) tellers

-- A run of the protocol world of strands up to the event of this number: its lines so far, and the devices behind it.
pub record ProtocolStrandWorldUpTo (gs : List StrandsInWorld) (detaches : List Detach) (ds : List Device) (number : ℕ) (lines : List StrandLine) (ds' : List Device) : Type 0 where
  pub staged : List Staged
  pub starts : AllZip (StartsStrands HeldStrands) gs staged
  pub flat : List Line
  pub now : List Actor
  pub played : Played (joined (map (λ (x : Staged). x.programs) staged)) detaches 1 number (joined (map (λ (x : Staged). x.actors) staged)) ds flat now ds'
  pub made : lines ≡ strand_lines (map (λ (g : StrandsInWorld). g.program) gs) flat

-- ---- laws

-- Turns that were told one after another are a protocol world of strands played up to there, where what each program has told begins its story;
abbrev pub ToldStrandsAreWorld : Type 0
ToldStrandsAreWorld =
    (gs : List StrandsInWorld) (detaches : List Detach) (ds : List Device) (count : ℕ) (lines : List StrandLine) (tellers : List ProgramTeller) (ds' : List Device) → HaveStrands gs
    → TellsStrands gs detaches ds count lines tellers ds' → AllZip HasStory gs tellers → ProtocolStrandWorldUpTo gs detaches ds count lines ds'

-- and once all programs have ended, they are a whole run of it.
abbrev pub AllToldStrandsAreWorld : Type 0
AllToldStrandsAreWorld =
    (gs : List StrandsInWorld) (detaches : List Detach) (ds : List Device) (count : ℕ) (lines : List StrandLine) (tellers : List ProgramTeller) (ds' : List Device) → HaveStrands gs
    → TellsStrands gs detaches ds count lines tellers ds' → AllZip HasStory gs tellers → HaveEnded tellers → ProtocolStrandWorld gs detaches ds lines ds'

-- And after however many turns, whatever the devices have replied so far, the world goes on to an end.
abbrev pub ToldStrandsGoOn : Type 0
ToldStrandsGoOn =
    (gs : List StrandsInWorld) (detaches : List Detach) (ds : List Device) (count : ℕ) (lines : List StrandLine) (tellers : List ProgramTeller) (ds' : List Device) → HaveStrands gs
    → TellsStrands gs detaches ds count lines tellers ds' → AllZip HasStory gs tellers
    → (more : List StrandLine) × (last : List Device) × ProtocolStrandWorld gs detaches ds (lines ++ more) last

-- So for any programs with strands, detaches and devices there is a run that ends.
abbrev pub StrandWorldsEnd : Type 0
StrandWorldsEnd =
    (gs : List StrandsInWorld) (detaches : List Detach) (ds : List Device) → HaveStrands gs
    → (lines : List StrandLine) × (last : List Device) × ProtocolStrandWorld gs detaches ds lines last
