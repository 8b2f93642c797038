-- The tests of an answer, where listed imports are told or not.
use Rattle.std.proofs.Common.{◌≡◌, ℕ, zero, suc, List, ◌∷◌, Option, Some, None, Bool, true, false, refl, sym, ◌∙◌, ◌⊎◌, inl, inr}
use Rattle.std.specs.Prelude.{not, slice_get}
use Rattle.wa_types.specs.Pausing.{is_told}
use Rattle.wa_types.specs.declared.values.ValType.{ValType}
use Rattle.wa_model.specs.declared.events.End.{End}
use Rattle.wa_model.specs.declared.events.End.TheVariants.{UnlistedPause}
use Rattle.wa_model.specs.Outside.{Answer}
use Rattle.wa_model.specs.Plan.{Plan}
use Rattle.wa_model.specs.Blocking.{bad_pause, bad_poke, bad_value, fault_of, is_unlisted, or_else}
use Rattle.run_laws.specs.ListedPauses.{Allows, told}

module _ (listed : List Bool) (plan : Plan) where
  -- the first passes a pause that the second refuses
  pub record PauseParts (start : Bool) (i ticks : ℕ) (o o' : Option End) : Type 0 where
    pub starts : start ≡ false
    pub more : ℕ
    pub ticks_are : ticks ≡ suc more
    pub unlisted : is_told (slice_get listed i) ≡ false
    pub allowed : is_unlisted plan.listed i ≡ false
    pub none : o ≡ None
    pub some : o' ≡ Some (UnlistedPause i)

  abbrev pub PauseForks : (start : Bool) (i ticks : ℕ) → Option End → Option End → Type 0
  PauseForks start i ticks o o' = (o ≡ o') ⊎ PauseParts start i ticks o o'

  else_forks : (start : Bool) (i ticks : ℕ) (a o o' : Option End) → PauseForks start i ticks o o' → PauseForks start i ticks (or_else a o) (or_else a o')
  else_forks start i ticks None o o' h = h
  else_forks start i ticks (Some e) o o' h = inl refl

  module _ (allows : Allows plan listed) where
    pause_forks : (start : Bool) (i ticks : ℕ) → PauseForks start i ticks (bad_pause start (is_unlisted plan.listed i) i ticks) (bad_pause start (not (is_told (slice_get listed i))) i ticks)
    pause_forks start i zero = inl refl
    pause_forks true i (suc t) = inl refl
    pause_forks false i (suc t) = by (is_told (slice_get listed i)) refl (is_unlisted plan.listed i) refl
      where
        by : (b : Bool) → is_told (slice_get listed i) ≡ b → (u : Bool) → is_unlisted plan.listed i ≡ u
            → PauseForks false i (suc t) (bad_pause false u i (suc t)) (bad_pause false (not b) i (suc t))
        by true e true q = let z : true ≡ false = sym q ∙ allows i e in cc
        by true e false q = inl refl
        by false e true q = inl refl
        by false e false q = inr (record { starts = refl; more = t; ticks_are = refl; unlisted = e; allowed = q; none = refl; some = refl })

    pub fault_forks : (types : List ValType) (size : ℕ) (start : Bool) (i : ℕ) (a : Answer)
        → PauseForks start i a.ticks (fault_of types size plan start i a) (fault_of types size (told plan listed) start i a)
    fault_forks types size start i a =
        let o = bad_pause start (is_unlisted plan.listed i) i a.ticks in
        let o' = bad_pause start (not (is_told (slice_get listed i))) i a.ticks in
        let pokes = bad_poke size (plan.area ∷ plan.others) a.pokes in
        else_forks start i a.ticks (bad_value types i a.said) (or_else pokes o) (or_else pokes o')
        (else_forks start i a.ticks pokes o o' (pause_forks start i a.ticks))
