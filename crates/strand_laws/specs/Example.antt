-- Three strands of the small module of `image_laws`, and what they tell.
use Rattle.std.specs.Prelude.{◌≡◌, ℕ, List, [], ◌∷◌, Some, true}
use Rattle.wa_types.specs.declared.values.Value.TheVariants as V
use Rattle.wa_types.specs.declared.values.Trap.TheVariants.{Import}
use Rattle.wa_types.specs.Bounds.{Bound}
use Rattle.wa_types.specs.Pausing.{Policy, save_all, save_live}
use Rattle.wa_types.specs.Syntax.{Module}
use Rattle.wa_model.specs.declared.answers.Said.{Said}
use Rattle.wa_model.specs.declared.answers.Said.TheVariants as S
use Rattle.wa_model.specs.declared.events.End.TheVariants.{Done, Trapped}
use Rattle.wa_model.specs.Behaves.{IsPrefix, pause_stacks}
use Rattle.wa_model.specs.Outside.{Event, answered, called, ended, paused, returned}
use Rattle.wa_model.specs.Plan.{Outcome, given}
use Rattle.emitted_form.specs.EmittedAs.{EmittedAs}
use Rattle.image_laws.specs.Example.{may_pause, sample, saving}
use Rattle.strand_laws.specs.Strands.{BlockingStrands, ProtocolStrands, Strand, StrandEvent, StrandProgram, StrandsCompared, StrandsNumbered, events_told, with_source}
use Rattle.strand_laws.specs.Woven.{Told, notes_told}

-- the module's entry with this parameter, and 64 bytes from here on as the area
abbrev pub strand_of : (parameter at : ℕ) → Strand
strand_of parameter at = record { area = record { at = at; len = 64 }; entries = record { func = 1; args = V.I32 parameter ∷ [] } ∷ [] }

-- three of them, whose areas lie one behind another
abbrev pub three_strands : StrandProgram
three_strands = record { source = sample; globals = []; listed = Some (true ∷ []); strands = strand_of 7 1024 ∷ strand_of 9 1088 ∷ strand_of 1 1152 ∷ [] }

-- this is said after so many ticks
abbrev pub said_after : (ticks : ℕ) → Said → List Outcome
said_after ticks said = given (record { said = said; pokes = []; ticks = ticks }) ∷ []

-- 42 after 5 ticks, 1 after 3, and a trap after 4
abbrev pub outcomes_of_three : List (List Outcome)
outcomes_of_three = said_after 5 (S.Value (Some (V.I32 42))) ∷ said_after 3 (S.Value (Some (V.I32 1))) ∷ said_after 4 S.Trap ∷ []

-- an event of the strand of this number
abbrev pub of_strand : (strand : ℕ) → Event → StrandEvent
of_strand i e = record { strand = i; event = e }

-- it calls the import with its parameter and 1
abbrev pub asks_with : (strand arg : ℕ) → StrandEvent
asks_with i arg = of_strand i (called (record { import = 0; args = V.I32 arg ∷ [] }))

-- Each calls in turn and pauses. Then the second is due: it is answered, adds 5, and is done. The trap ends the third. The first is last.
abbrev pub told_of_three : (used : ℕ) → List StrandEvent
told_of_three used =
    asks_with 0 8 ∷ of_strand 0 (paused 5 used) ∷ asks_with 1 10 ∷ of_strand 1 (paused 3 used) ∷ asks_with 2 2 ∷ of_strand 2 (paused 4 used)
    ∷ of_strand 1 (answered (S.Value (Some (V.I32 1)))) ∷ of_strand 1 (returned 0 (Some (V.I32 6))) ∷ of_strand 1 (ended Done)
    ∷ of_strand 2 (answered S.Trap) ∷ of_strand 2 (ended (Trapped Import))
    ∷ of_strand 0 (answered (S.Value (Some (V.I32 42)))) ∷ of_strand 0 (returned 0 (Some (V.I32 47))) ∷ of_strand 0 (ended Done) ∷ []

-- what a pause of it uses: two words, and a frame of five, or of three
abbrev pub used_by : Policy → ℕ
used_by save_all = 28
used_by save_live = 20

-- the strands of the module itself, up to a cost of 40
abbrev pub notes_of_three : Policy → List Told
notes_of_three policy = (BlockingStrands (saving policy) three_strands outcomes_of_three 40).events

-- what the strands of a module that is emitted of it tell, within the bound
abbrev pub told_by_emitted : Policy → Module → List StrandEvent
told_by_emitted policy q =
    events_told (ProtocolStrands (with_source three_strands q) outcomes_of_three (Bound sample 40 (pause_stacks (notes_told (notes_of_three policy))))).events

-- They meet what is asked of strands that are compared, take turns so, and those of what is emitted do too.
pub record TakeTurns (policy : Policy) (q : Module) : Type 0 where
  pub compared : StrandsCompared (saving policy) three_strands outcomes_of_three 40
  pub numbered : StrandsNumbered (saving policy) may_pause three_strands outcomes_of_three 40
  pub original : events_told (notes_of_three policy) ≡ told_of_three (used_by policy)
  pub emitted : IsPrefix (told_of_three (used_by policy)) (told_by_emitted policy q)

-- By either policy, whatever is emitted.
abbrev pub ThreeTakeTurns : Type 0
ThreeTakeTurns = (policy : Policy) (q : Module) → EmittedAs sample (saving policy) may_pause q → TakeTurns policy q
