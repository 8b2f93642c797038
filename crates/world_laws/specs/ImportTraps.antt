-- Ends by an import's trap, and the answers behind which they stand.
use Rattle.std.specs.Prelude.{◌≡◌, ℕ, suc, List, Some, All, slice_get}
use Rattle.wa_types.specs.declared.values.Trap.TheVariants.{Import}
use Rattle.wa_model.specs.declared.answers.Said.TheVariants as S
use Rattle.wa_model.specs.declared.events.End.TheVariants.{Trapped}
use Rattle.wa_model.specs.Outside.{answered, ended}
use Rattle.wa_model.specs.Plan.{Outcome, given, refused}
use Rattle.wa_model.specs.Blocking.{Note}
use Rattle.world_model.specs.World.{Program, protocol_story}

-- A call that is refused doesn't end as an import's trap does: neither devices nor answer lines refuse so.
abbrev pub RefusesOtherwise : Outcome → Type 0
RefusesOtherwise (given a) = Unit {0}
RefusesOtherwise (refused e) = e ≡ Trapped Import → ⊥

-- Right behind an answer that is a trap a program's story ends by an import's trap, over the same store.
abbrev pub TrapsEnd : Type 0
TrapsEnd =
    (w : Program) (os : List Outcome) (i : ℕ) (x : Note) → slice_get (protocol_story w os) i ≡ Some x → x.event ≡ answered S.Trap
    → (y : Note) × (slice_get (protocol_story w os) (suc i) ≡ Some y) × (y.event ≡ ended (Trapped Import)) × (y.store ≡ x.store)

-- An end by an import's trap stands right behind such an answer: it isn't the first note, and nothing else makes one.
abbrev pub TrapsAreAnswers : Type 0
TrapsAreAnswers =
    (w : Program) (os : List Outcome) (i : ℕ) (y : Note) → All RefusesOtherwise os → slice_get (protocol_story w os) i ≡ Some y → y.event ≡ ended (Trapped Import)
    → (j : ℕ) × (x : Note) × (i ≡ suc j) × (slice_get (protocol_story w os) j ≡ Some x) × (x.event ≡ answered S.Trap)
