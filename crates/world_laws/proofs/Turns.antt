-- The first turn of notes, and what stands behind it.
use Rattle.std.proofs.Common.{◌≡◌, List, [], ◌∷◌, ◌++◌, Bool, true, false, if◌then◌else◌, refl, sym, ap, ◌∙◌}
use Rattle.wa_model.specs.Outside.{Event, called, answered, paused, parked, returned, ended, shown}
use Rattle.wa_model.specs.Blocking.{Note}
use Rattle.world_model.specs.World.{behind_turn, ends_turn, is_end, turn_of}

pub end_turn : (e : Event) → is_end e ≡ true → ends_turn e ≡ true
end_turn (called c) h = cc
end_turn (answered v) h = cc
end_turn (paused ticks used) h = cc
end_turn (returned entry v) h = cc
end_turn (ended how) h = refl
end_turn (parked used) h = cc
end_turn (shown at bytes) h = cc

pub turn_parts : (xs : List Note) → turn_of xs ++ behind_turn xs ≡ xs
turn_parts [] = refl
turn_parts (x ∷ xs) = by_end (ends_turn x.event) (turn_parts xs)
  where
    by_end : (b : Bool) → turn_of xs ++ behind_turn xs ≡ xs → (if b then x ∷ [] else x ∷ turn_of xs) ++ (if b then xs else behind_turn xs) ≡ x ∷ xs
    by_end true e = refl
    by_end false e = ap (λ (ys : List Note). x ∷ ys) e

abbrev IsAgain : (turn zs : List Note) → Type 0
IsAgain turn zs = (turn_of (turn ++ zs) ≡ turn) × (behind_turn (turn ++ zs) ≡ zs)

-- a turn, with other notes behind it where there are some
pub turn_again : (xs zs : List Note) → (behind_turn xs ≡ [] → zs ≡ []) → (turn_of (turn_of xs ++ zs) ≡ turn_of xs) × (behind_turn (turn_of xs ++ zs) ≡ zs)
turn_again [] zs h = let none : zs ≡ [] = h refl in (ap turn_of none, ap behind_turn none ∙ sym none)
turn_again (x ∷ xs) zs h = by_end (ends_turn x.event) refl h (λ g. turn_again xs zs g)
  where
    by_end : (b : Bool) → ends_turn x.event ≡ b → ((if b then xs else behind_turn xs) ≡ [] → zs ≡ []) → ((behind_turn xs ≡ [] → zs ≡ []) → IsAgain (turn_of xs) zs)
        → IsAgain (if b then x ∷ [] else x ∷ turn_of xs) zs
    by_end true e h on = (ap (λ (c : Bool). if c then x ∷ [] else x ∷ turn_of zs) e, ap (λ (c : Bool). if c then zs else behind_turn zs) e)
    by_end false e h on =
        let r = on h in (
          ap (λ (c : Bool). if c then x ∷ [] else x ∷ turn_of (turn_of xs ++ zs)) e ∙ ap (λ (ns : List Note). x ∷ ns) r.0,
          ap (λ (c : Bool). if c then turn_of xs ++ zs else behind_turn (turn_of xs ++ zs)) e ∙ r.1,
        )
