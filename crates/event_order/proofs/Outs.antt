-- Devices that are taken out.
use Rattle.std.proofs.Common.{◌≡◌, ◌<◌, ◌+◌, ℕ, suc, zero, true, false, nat_eq, List, [], ◌∷◌, length, get_or, take, drop, map, slice_get, Some, refl, sym, ap, ◌∙◌}
use Rattle.std.specs.List.{list_any, remove}
use Rattle.std.proofs.lemmas.List.{drop_more}
use Rattle.wa_model.specs.declared.answers.Detach.{Detach}
use Rattle.world_model.specs.World.{Device, is_named, taken_out, detached, detached_if}
use Rattle.device_port.specs.Listed.{IsFirstOf}
use Rattle.device_port.proofs.Places.{pick_true, pick_false, or_left, or_right, some_is, removed}
use Rattle.event_order.specs.Left.{Counted, without, without_if, left_before}

-- ---- one detach more

pub detached_more : (number : ℕ) (xs : List Detach) (i : ℕ) (x : Detach) (ds new all : List Device) → i < length xs → x ≡ get_or xs i x
    → new ≡ detached_if (nat_eq x.before number) x.device ds → detached number (drop i xs) ds ≡ all → detached number (drop (i + 1) xs) new ≡ all
detached_more number xs i x ds new all within is out before =
    ap (detached number (drop (i + 1) xs)) (out ∙ ap (λ (y : Detach). detached_if (nat_eq y.before number) y.device ds) is)
    ∙ ap (λ l. detached number l ds) (sym (drop_more xs i x within))
    ∙ before

pub left_more : (number : ℕ) (xs : List Detach) (i : ℕ) (x : Detach) (cs new all : List Counted) → i < length xs → x ≡ get_or xs i x → new ≡ without_if (nat_eq x.before number) x.device cs
    → left_before number (drop i xs) cs ≡ all → left_before number (drop (i + 1) xs) new ≡ all
left_more number xs i x cs new all within is out before =
    ap (left_before number (drop (i + 1) xs)) (out ∙ ap (λ (y : Detach). without_if (nat_eq y.before number) y.device cs) is)
    ∙ ap (λ l. left_before number l cs) (sym (drop_more xs i x within))
    ∙ before

-- ---- the first of a name, or none

module _ (name : List ℕ) where
  pub out_none : (ds : List Device) → list_any (is_named name) ds ≡ false → ds ≡ taken_out name ds
  out_none [] none = refl
  out_none (x ∷ ds) none =
      ap (λ l. x ∷ l) (out_none ds (or_right (is_named name x) _ none))
      ∙ sym (pick_false (is_named name x) _ _ (or_left (is_named name x) _ none))

  module _ {X : Type 0} (f : X → Counted) where
    pub without_none : (xs : List X) → list_any (is_named name) (map (λ x. (f x).device) xs) ≡ false → map f xs ≡ without name (map f xs)
    without_none [] none = refl
    without_none (x ∷ xs) none =
        ap (λ l. f x ∷ l) (without_none xs (or_right (is_named name (f x).device) _ none))
        ∙ sym (pick_false (is_named name (f x).device) _ _ (or_left (is_named name (f x).device) _ none))

    without_at : (xs : List X) (i : ℕ) (d : Device) → slice_get (map (λ x. (f x).device) xs) i ≡ Some d → is_named name d ≡ true
        → list_any (is_named name) (take i (map (λ x. (f x).device) xs)) ≡ false → remove (map f xs) i ≡ without name (map f xs)
    without_at [] i d is named none = absurd cc
    without_at (x ∷ xs) zero d is named none =
        sym (pick_true (is_named name (f x).device) _ _ (ap (is_named name) (some_is (f x).device d is) ∙ named))
    without_at (x ∷ xs) (suc i) d is named none =
        ap (λ l. f x ∷ l) (without_at xs i d is named (or_right (is_named name (f x).device) _ none))
        ∙ sym (pick_false (is_named name (f x).device) _ _ (or_left (is_named name (f x).device) _ none))

    pub without_first : (xs ys : List X) (i : ℕ) → IsFirstOf (map (λ x. (f x).device) xs) name i → ys ≡ remove xs i → map f ys ≡ without name (map f xs)
    without_first xs ys i first is = removed f xs ys i is ∙ without_at xs i first.device first.there first.named first.first
