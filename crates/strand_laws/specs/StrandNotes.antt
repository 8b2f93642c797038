-- A world of strands as it is told, note by note: so many whole turns, and the beginning of the next.
use Rattle.std.specs.Prelude.{◌≡◌, ℕ, suc, List, [], ◌∷◌, ◌++◌, map, Some, Bool, true, false, slice_get, slice_set}
use Rattle.std.specs.List.{AllZip}
use Rattle.wa_model.specs.declared.answers.Detach.{Detach}
use Rattle.wa_model.specs.Outside.{AnswerLine}
use Rattle.wa_model.specs.Plan.{Outcome}
use Rattle.wa_model.specs.Blocking.{Note, events_of}
use Rattle.world_model.specs.World.{CallsMeet, Device, detached, ends_turn, looks_after}
use Rattle.strand_laws.specs.StrandWorld.{HeldStrands, ProtocolStrandWorld, StrandLine, StrandsInWorld, looks_if, strand_program}
use Rattle.strand_laws.specs.Strands.{strand_at}
use Rattle.strand_laws.specs.ToldStrands.{IsDueNext, IsRest, ProgramTeller, StrandTeller, TellsStrands, having_told, line_of, met_and, starting, told_on}
use Rattle.strand_laws.specs.Weaving.{EndNoTurn, HaveStrands}
use Rattle.strand_laws.specs.Woven.{Told}

-- The calls of these notes of a strand meet these outcomes, and leave these answer lines and devices.
abbrev pub StrandCalls : StrandsInWorld → (strand : ℕ) → List Note → List Outcome → (lines : List AnswerLine) → List Device → (left : List AnswerLine) → List Device → Type 0
StrandCalls g k notes met lines ds left ds' = CallsMeet (strand_program g [] k (strand_at g.program k)) notes met lines ds [] left ds'

-- Behind so many whole turns this strand of this program, which was due at this tick, tells the next: it has told notes of it, and none
-- that ends it. The detaches with the turn's number came before.
pub record TellsOnStrands (programs : List StrandsInWorld) (detaches : List Detach) (ds : List Device) (number program strand due : ℕ) (lines : List StrandLine) (tellers : List ProgramTeller)
    (ds' : List Device) : Type 0 where
  pub before : List StrandLine
  pub mid : List ProgramTeller
  pub es : List Device
  pub whole : TellsStrands programs detaches ds number before mid es
  pub g : StrandsInWorld
  pub t : ProgramTeller
  pub s : StrandTeller
  pub is_program : slice_get programs program ≡ Some g
  pub there : slice_get mid program ≡ Some t
  pub strand_there : slice_get t.strands strand ≡ Some s
  pub due_is : s.due ≡ due
  pub next : IsDueNext mid program strand due
  pub turn : List Note
  pub goes_on : EndNoTurn turn
  pub met : List Outcome
  pub answers : List AnswerLine
  pub calls : StrandCalls g strand turn met s.answers (detached (suc number) detaches es) answers ds'
  pub made : lines ≡ before ++ map (line_of due program strand) (events_of turn)
  pub after : tellers ≡ slice_set mid program (told_on t strand (having_told s turn met answers) turn false)

-- What a program's strands have told begins what they tell whatever later calls meet, and is all of it exactly where the program has ended.
pub record OnStory (g : StrandsInWorld) (t : ProgramTeller) : Type 0 where
  pub begins : (more : List (List Outcome)) → (rest : List Told) × HeldStrands g (met_and t.strands more) (t.told ++ rest) × IsRest t.has_ended rest

-- ---- laws

-- Before the first turn nothing is told,
abbrev pub NothingTold : Type 0
NothingTold = (gs : List StrandsInWorld) (detaches : List Detach) (ds : List Device) → TellsStrands gs detaches ds 0 [] (map starting gs) ds

-- behind whole turns the next begins, of the strand that is due next,
abbrev pub TurnBegins : Type 0
TurnBegins =
    (gs : List StrandsInWorld) (detaches : List Detach) (ds es : List Device) (number program strand due : ℕ) (lines : List StrandLine) (tellers : List ProgramTeller) (g : StrandsInWorld)
    → TellsStrands gs detaches ds number lines tellers es → slice_get gs program ≡ Some g → IsDueNext tellers program strand due
    → TellsOnStrands gs detaches ds number program strand due lines tellers (detached (suc number) detaches es)

-- with each note the turn goes on,
abbrev pub TurnGoesOn : Type 0
TurnGoesOn =
    (gs : List StrandsInWorld) (detaches : List Detach) (ds ds' es : List Device) (number program strand due : ℕ) (lines : List StrandLine) (tellers : List ProgramTeller)
    (g : StrandsInWorld) (t : ProgramTeller) (s : StrandTeller) (x : Note) (met : List Outcome) (answers : List AnswerLine)
    → TellsOnStrands gs detaches ds number program strand due lines tellers ds' → slice_get gs program ≡ Some g → slice_get tellers program ≡ Some t → slice_get t.strands strand ≡ Some s
    → StrandCalls g strand (x ∷ []) met s.answers ds' answers es → ends_turn x.event ≡ false
    → TellsOnStrands gs detaches ds number program strand due (lines ++ line_of due program strand x.event ∷ [])
    (slice_set tellers program (told_on t strand (having_told s (x ∷ []) met answers) (x ∷ []) false)) es

-- or is whole, with what is shown behind the program's last.
abbrev pub TurnEnds : Type 0
TurnEnds =
    (gs : List StrandsInWorld) (detaches : List Detach) (ds ds' es : List Device) (number program strand due : ℕ) (lines : List StrandLine) (tellers : List ProgramTeller)
    (g : StrandsInWorld) (t : ProgramTeller) (s : StrandTeller) (x : Note) (is_last : Bool) (met : List Outcome) (answers : List AnswerLine)
    → TellsOnStrands gs detaches ds number program strand due lines tellers ds' → slice_get gs program ≡ Some g → slice_get tellers program ≡ Some t → slice_get t.strands strand ≡ Some s
    → StrandCalls g strand (x ∷ []) met s.answers ds' answers es → ends_turn x.event ≡ true
    → TellsStrands gs detaches ds (suc number)
    (lines ++ line_of due program strand x.event ∷ map (line_of due program strand) (looks_after (looks_if is_last g.looks) x x.event))
    (slice_set tellers program (told_on t strand (having_told s (x ∷ []) met answers) (x ∷ []) is_last)) es

-- Lines of whole turns begin a run of the world, where what each program has told begins its story,
abbrev pub ToldStrandsBegin : Type 0
ToldStrandsBegin =
    (gs : List StrandsInWorld) (detaches : List Detach) (ds : List Device) (count : ℕ) (lines : List StrandLine) (tellers : List ProgramTeller) (ds' : List Device) → HaveStrands gs
    → TellsStrands gs detaches ds count lines tellers ds' → AllZip OnStory gs tellers
    → (more : List StrandLine) × (last : List Device) × ProtocolStrandWorld gs detaches ds (lines ++ more) last

-- and so do those with the beginning of the next turn.
abbrev pub BegunStrandsBegin : Type 0
BegunStrandsBegin =
    (gs : List StrandsInWorld) (detaches : List Detach) (ds ds' : List Device) (number program strand due : ℕ) (lines : List StrandLine) (tellers : List ProgramTeller) → HaveStrands gs
    → TellsOnStrands gs detaches ds number program strand due lines tellers ds' → AllZip OnStory gs tellers
    → (more : List StrandLine) × (last : List Device) × ProtocolStrandWorld gs detaches ds (lines ++ more) last
