-- The mailbox at the place of the first of a name is that of the name.
use Rattle.std.proofs.Common.{◌≡◌, ℕ, Bool, true, false, cond, nat_lt, List, [], ◌∷◌, length, Some, None, slice_get, slice_set, refl, sym, ap, ◌∙◌}
use Rattle.std.specs.List.{find, position, position_or_len}
use Rattle.std.specs.Option.{option_and_then}
use Rattle.std.proofs.Math.Numerals.{one-add}
use Rattle.std.proofs.lemmas.Bool.{ltb-false}
use Rattle.std.proofs.lemmas.Option.{slice_get_past}
use Rattle.device_port.proofs.Places.{some_is}
use Rattle.mailbox_device.specs.Mail.{Box, is_box, at_box}

module _ {X : Type 0} (p : X → Bool) where
  found_at : (xs : List X) → find p xs ≡ slice_get xs (position_or_len p xs)
  found_at [] = refl
  found_at (x ∷ xs) = at_first (p x) refl (found_at xs)
    where
      at_first : (b : Bool) → p x ≡ b → find p xs ≡ slice_get xs (position_or_len p xs) → find p (x ∷ xs) ≡ slice_get (x ∷ xs) (position_or_len p (x ∷ xs))
      at_first true e later = rw e refl
      at_first false e later = rw (e, one-add) later

  pub found : (xs : List X) → find p xs ≡ option_and_then (slice_get xs) (position p xs)
  found xs = found_at xs ∙ by_end (nat_lt (position_or_len p xs) (length xs)) refl
    where
      by_end : (b : Bool) → nat_lt (position_or_len p xs) (length xs) ≡ b
          → slice_get xs (position_or_len p xs) ≡ option_and_then (slice_get xs) (cond b (Some (position_or_len p xs)) None)
      by_end true e = refl
      by_end false e = slice_get_past xs _ (ltb-false _ _ e)

  pub place_is : (xs : List X) (place : ℕ) → position p xs ≡ Some place → place ≡ position_or_len p xs
  place_is xs place e = by_end (nat_lt (position_or_len p xs) (length xs)) e
    where
      by_end : (b : Bool) → cond b (Some (position_or_len p xs)) None ≡ Some place → place ≡ position_or_len p xs
      by_end true same = sym (some_is _ _ same)
      by_end false same = cc

module _ (change : Box → Box) (name : List ℕ) where
  -- a change of what stands there is one by the name
  abbrev IsByName : List Box → Type 0
  IsByName boxes =
      (box : Box) → slice_get boxes (position_or_len (is_box name) boxes) ≡ Some box → slice_set boxes (position_or_len (is_box name) boxes) (change box) ≡ at_box change name boxes

  changed_at : (boxes : List Box) → IsByName boxes
  changed_at [] = λ box there. refl
  changed_at (b ∷ boxes) = at_first (is_box name b) refl (changed_at boxes)
    where
      at_first : (t : Bool) → is_box name b ≡ t → IsByName boxes → IsByName (b ∷ boxes)
      at_first true e later = λ box there. rw e (ap (λ x. change x ∷ boxes) (sym (some_is b box (rw e at there))))
      at_first false e later = λ box there. rw (e, one-add) (ap (λ bs. b ∷ bs) (later box (rw (e, one-add) at there)))

pub changed : (name : List ℕ) (boxes : List Box) (place : ℕ) (box : Box) (change : Box → Box) → position (is_box name) boxes ≡ Some place
    → slice_get boxes place ≡ Some box → slice_set boxes place (change box) ≡ at_box change name boxes
changed name boxes place box change is there =
    let at = place_is (is_box name) boxes place is in
    ap (λ i. slice_set boxes i (change box)) at ∙ changed_at change name boxes box (ap (slice_get boxes) (sym at) ∙ there)
