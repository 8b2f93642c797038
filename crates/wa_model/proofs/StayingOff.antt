-- Ranges that stay off an area: none, one, two, and those of which each does anyway.
use Rattle.std.proofs.Common.{◌≡◌, ℕ, ◌+◌, ◌≤◌, List, [], ◌∷◌, All, false}
use Rattle.std.proofs.lemmas.List.Elements.{All-nil, All-cons, All-head, All-tail}
use Rattle.wa_model.specs.declared.answers.Area.{Area}
use Rattle.wa_model.specs.Blocking.{overlap}
use Rattle.wa_model.specs.Store.{Range}
use Rattle.wa_model.specs.Untouched.{StaysOff}

abbrev pub range : (at len : ℕ) → Range
range at len = record { at = at; len = len }

module _ (area : Area) (size : ℕ) where
  abbrev Inside : Range → Type 0
  Inside x = x.at + x.len ≤ size

  abbrev pub Off : Range → Type 0
  Off x = overlap x.at x.len area.at area.len ≡ false

  pub nothing_off : StaysOff area size []
  nothing_off = λ inside. All-nil Off

  pub one_off : (at len : ℕ) → (at + len ≤ size → overlap at len area.at area.len ≡ false) → StaysOff area size (range at len ∷ [])
  one_off at len h = λ inside. All-cons Off (range at len) [] (h (All-head Inside (range at len) [] inside)) (All-nil Off)

  pub is_off : (at len : ℕ) → StaysOff area size (range at len ∷ []) → at + len ≤ size → overlap at len area.at area.len ≡ false
  is_off at len off le = All-head Off (range at len) [] (off (All-cons Inside (range at len) [] le (All-nil Inside)))

  pub two_off : (x y : Range) → StaysOff area size (x ∷ y ∷ []) → x.at + x.len ≤ size → y.at + y.len ≤ size → Off x × Off y
  two_off x y off in_x in_y =
      let all = off (All-cons Inside x (y ∷ []) in_x (All-cons Inside y [] in_y (All-nil Inside))) in
      (All-head Off x (y ∷ []) all, All-head Off y [] (All-tail Off x (y ∷ []) all))

  pub both_off : (x y : Range) → Off x → Off y → StaysOff area size (x ∷ y ∷ [])
  both_off x y p q = λ inside. All-cons Off x (y ∷ []) p (All-cons Off y [] q (All-nil Off))

  pub each_off : ((x : Range) → Off x) → (xs : List Range) → StaysOff area size xs
  each_off h xs = λ inside. all_of xs
    where
      all_of : (ys : List Range) → All Off ys
      all_of [] = All-nil Off
      all_of (y ∷ ys) = All-cons Off y ys (h y) (all_of ys)
