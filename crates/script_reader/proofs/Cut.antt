-- The first line of a text, and the lines behind it.
use Rattle.std.proofs.Common.{arith, ◌≡◌, ℕ, ◌+◌, ◌-◌, ◌<◌, ◌≤◌, ◌==◌, nat_lt, Bool, true, false, cond, Option, Some, None, List, [], ◌∷◌, length, take, drop, sym, ap, ◌∙◌, refl, length-drop}
use Rattle.std.specs.List.{slice_split, position, position_or_len, before_first, after_first}
use Rattle.std.specs.Str.Lines.{lines, lines_of_parts, strip_carriage_return}
use Rattle.std.proofs.lemmas.Bool.{ltb-true, ltb-false, ne_eqb}
use Rattle.std.proofs.lemmas.List.{take_all, drop_all}
use Rattle.std.proofs.lemmas.List.Splits.{slice_split_first, slice_split_none, length-slice_split}
use Rattle.std.proofs.lemmas.List.Sums.{fails_before_first}

abbrev ends : ℕ → Bool
ends b = b == 10

parts_cons : (x : List ℕ) (parts : List (List ℕ)) → 0 < length parts → lines_of_parts (x ∷ parts) ≡ strip_carriage_return x ∷ lines_of_parts parts
parts_cons x [] l = absurd (omega arith)
parts_cons x (y ∷ more) l = refl

abbrev place : Option ℕ → ℕ
place None = 0
place (Some i) = i

abbrev pub behind_line : List ℕ → ℕ → List ℕ
behind_line w end = take (length w - (end + 1)) (drop (end + 1) w)

pub line_cut : (w : List ℕ) (end : ℕ) → Some end ≡ position ends w → lines w ≡ strip_carriage_return (take end w) ∷ lines (behind_line w end)
line_cut w end e = by_test (nat_lt (position_or_len ends w) (length w)) refl where
  last_part : behind_line w end ≡ drop (end + 1) w
  last_part = take_all (length w - (end + 1)) (drop (end + 1) w) (omega (arith, length-drop (end + 1) w))

  at_place : end ≡ position_or_len ends w → position_or_len ends w < length w → lines w ≡ strip_carriage_return (take end w) ∷ lines (behind_line w end)
  at_place s l =
      ap lines_of_parts (slice_split_first ends w 0 l)
      ∙ parts_cons (before_first ends w) (slice_split ends (after_first ends w)) (omega (arith, length-slice_split ends (after_first ends w)))
      ∙ ap (λ (i : ℕ). strip_carriage_return (take i w) ∷ lines (drop (i + 1) w)) (sym s)
      ∙ ap (λ (t : List ℕ). strip_carriage_return (take end w) ∷ lines t) (sym last_part)

  by_test : (t : Bool) → nat_lt (position_or_len ends w) (length w) ≡ t → lines w ≡ strip_carriage_return (take end w) ∷ lines (behind_line w end)
  by_test true h = at_place (ap place (e ∙ ap (λ (t : Bool). cond t (Some (position_or_len ends w)) None) h)) (ltb-true _ _ h)
  by_test false h =
      let d : ◌≡◌ {A = Option ℕ} (Some end) None = e ∙ ap (λ (t : Bool). cond t (Some (position_or_len ends w)) None) h in
      let no : ⊥ = cc in
      absurd no

pub last_line : (w : List ℕ) → 0 < length w → None ≡ position ends w → lines w ≡ w ∷ lines (take (length w - length w) (drop (length w) w))
last_line w some e = by_test (nat_lt (position_or_len ends w) (length w)) refl where
  by_test : (t : Bool) → nat_lt (position_or_len ends w) (length w) ≡ t → lines w ≡ w ∷ lines (take (length w - length w) (drop (length w) w))
  by_test true h =
      let d : ◌≡◌ {A = Option ℕ} None (Some (position_or_len ends w)) = e ∙ ap (λ (t : Bool). cond t (Some (position_or_len ends w)) None) h in
      let no : ⊥ = cc in
      absurd no
  by_test false h =
      let l : length w ≤ position_or_len ends w = ltb-false _ _ h in
      ap lines_of_parts (slice_split_none ends w (λ k d k_lt. fails_before_first ends w k d (omega (arith, l, k_lt))))
      ∙ ap (λ (t : Bool). cond t [] (w ∷ [])) (ne_eqb (length w) 0 (λ z. omega (arith, z, some)))
      ∙ ap (λ (t : List ℕ). w ∷ lines t) (sym (ap (take (length w - length w)) (drop_all (length w) w (omega arith)) ∙ take_all (length w - length w) [] (omega arith)))
