-- Places of names, with one more name behind them.
use Rattle.std.proofs.Common.{arith, ◌≡◌, ℕ, ◌+◌, Bool, true, false, cond, Option, Some, None, List, [], ◌∷◌, ◌++◌, length, refl, sym, ap, ◌∙◌, subst}
use Rattle.std.specs.Prelude.{String, map}
use Rattle.std.specs.declared.alloc.Global.{Global}
use Rattle.std.specs.BTreeMap.{BTreeMap, UpdatesBy, get_by_text}
use Rattle.std.specs.Cmp.Lexicographic.{slice_cmp}
use Rattle.std.specs.List.{position, position_from}
use Rattle.std.specs.Option.{is_some}
use Rattle.std.specs.Ordering.{nat_cmp}
use Rattle.std.specs.Str.{bytes_eq}
use Rattle.std.specs.String.{string_bytes, string_cmp}
use Rattle.std.proofs.lemmas.List.{append_assoc, map-append}
use Rattle.std.proofs.lemmas.Iterator.Adapters.{position_from-zero}
use Rattle.std.proofs.lemmas.Map.Text.{btree_map_updates_text}
use Rattle.std.proofs.lemmas.Slice.Eq.{bytes_eq-Decides}
use Rattle.device_port.proofs.Places.{same_bytes}
use Rattle.wa_types.specs.Validity.{same_name}
use Rattle.mailbox_device.specs.Mail.{Box, empty_box, is_box, names_of}
use Rattle.mailbox_device.specs.Places.{TellsPlaces}

-- the first of two
abbrev first_of : Option ℕ → Option ℕ → Option ℕ
first_of None other = other
first_of (Some x) other = Some x

-- a place, where told
abbrev place_if : Bool → ℕ → Option ℕ
place_if t i = cond t (Some i) None

module _ (name : List ℕ) where
  abbrev is_it : List ℕ → Bool
  is_it n = same_name n name

  from_push : (i : ℕ) (names : List (List ℕ)) (n : List ℕ)
      → position_from is_it i (names ++ n ∷ []) ≡ first_of (position_from is_it i names) (place_if (is_it n) (i + length names))
  from_push i [] n = ap (place_if (is_it n)) (omega arith)
  from_push i (x ∷ names) n = by_test (is_it x) (from_push (i + 1) names n)
    where
      by_test : (t : Bool) → position_from is_it (i + 1) (names ++ n ∷ []) ≡ first_of (position_from is_it (i + 1) names) (place_if (is_it n) (i + 1 + length names))
          → cond t (Some i) (position_from is_it (i + 1) (names ++ n ∷ [])) ≡ first_of (cond t (Some i) (position_from is_it (i + 1) names)) (place_if (is_it n) (i + length (x ∷ names)))
      by_test true later = refl
      by_test false later = later ∙ ap (λ k. first_of (position_from is_it (i + 1) names) (place_if (is_it n) k)) (omega arith)

  pushed : (names : List (List ℕ)) (n : List ℕ) → position is_it (names ++ n ∷ []) ≡ first_of (position is_it names) (place_if (is_it n) (length names))
  pushed names n =
      position_from-zero is_it (names ++ n ∷ []) ∙ from_push 0 names n
      ∙ ap (λ o. first_of o (place_if (is_it n) (0 + length names))) (sym (position_from-zero is_it names))
      ∙ ap (λ k. first_of (position is_it names) (place_if (is_it n) k)) (omega arith)

  from_boxes : (i : ℕ) (boxes : List Box) → position_from is_it i (names_of boxes) ≡ position_from (is_box name) i boxes
  from_boxes i [] = refl
  from_boxes i (b ∷ boxes) = ap (λ o. cond (is_box name b) (Some i) o) (from_boxes (i + 1) boxes)

  -- the place of a name is that of the mailbox
  pub of_boxes : (boxes : List Box) → position is_it (names_of boxes) ≡ position (is_box name) boxes
  of_boxes boxes = position_from-zero is_it (names_of boxes) ∙ from_boxes 0 boxes ∙ sym (position_from-zero (is_box name) boxes)

some_first : (o other : Option ℕ) → is_some o ≡ true → o ≡ first_of o other
some_first (Some x) other h = refl
some_first None other h = cc

none_first : (o other : Option ℕ) → is_some o ≡ false → other ≡ first_of o other
none_first None other h = refl
none_first (Some x) other h = cc

none_behind : (o : Option ℕ) → o ≡ first_of o None
none_behind None = refl
none_behind (Some x) = refl

-- the name is there already
pub there_already : (places : BTreeMap (String Global) ℕ) (names : List (List ℕ)) (n : List ℕ) → TellsPlaces places names → is_some (get_by_text places n) ≡ true
    → TellsPlaces places (names ++ n ∷ [])
there_already places names n tells some name = by_name (same_name n name) refl ∙ sym (pushed name names n)
  where
    by_name : (t : Bool) → same_name n name ≡ t → get_by_text places name ≡ first_of (position (λ (x : List ℕ). same_name x name) names) (place_if (same_name n name) (length names))
    by_name false h = tells name ∙ none_behind _ ∙ ap (λ t. first_of (position (λ (x : List ℕ). same_name x name) names) (place_if t (length names))) (sym h)
    by_name true h =
        let same : n ≡ name = (bytes_eq-Decides n name).0 (sym (same_bytes n name) ∙ h) in
        let there : is_some (get_by_text places name) ≡ true = subst (λ (x : List ℕ). is_some (get_by_text places x) ≡ true) same some in
        tells name ∙ some_first _ _ (ap is_some (sym (tells name)) ∙ there)

-- one more name
pub put_there : (old new : BTreeMap (String Global) ℕ) (key : String Global) (place : ℕ) (names : List (List ℕ)) (n : List ℕ) → string_bytes key ≡ n → TellsPlaces old names
    → place ≡ length names → is_some (get_by_text old n) ≡ false → UpdatesBy string_cmp (λ k. slice_cmp nat_cmp (string_bytes key) (string_bytes k)) old new (Some place)
    → TellsPlaces new (names ++ n ∷ [])
put_there old new key place names n named tells at none u name =
    btree_map_updates_text (string_bytes key) old new (Some place) u name ∙ by_name (bytes_eq (string_bytes key) name) refl ∙ sym (pushed name names n)
  where
    same_test : same_name n name ≡ bytes_eq (string_bytes key) name
    same_test = same_bytes n name ∙ ap (λ (x : List ℕ). bytes_eq x name) (sym named)

    by_name : (t : Bool) → bytes_eq (string_bytes key) name ≡ t
        → cond t (Some place) (get_by_text old name) ≡ first_of (position (λ (x : List ℕ). same_name x name) names) (place_if (same_name n name) (length names))
    by_name false h = tells name ∙ none_behind _ ∙ ap (λ t. first_of (position (λ (x : List ℕ). same_name x name) names) (place_if t (length names))) (sym (same_test ∙ h))
    by_name true h =
        let same : n ≡ name = sym named ∙ (bytes_eq-Decides (string_bytes key) name).0 h in
        let absent : is_some (get_by_text old name) ≡ false = subst (λ (x : List ℕ). is_some (get_by_text old x) ≡ false) same none in
        ap (λ (k : ℕ). Some k) at ∙ none_first _ (Some (length names)) (ap is_some (sym (tells name)) ∙ absent)
        ∙ ap (λ t. first_of (position (λ (x : List ℕ). same_name x name) names) (place_if t (length names))) (sym (same_test ∙ h))

-- one more mailbox behind those that were made
pub one_more_made : (boxes boxes' : List Box) (b : Box) (name : List ℕ) (rest rest' names : List (List ℕ)) → boxes' ≡ boxes ++ b ∷ [] → b ≡ empty_box name → rest ≡ name ∷ rest'
    → boxes ++ map empty_box rest ≡ map empty_box names → boxes' ++ map empty_box rest' ≡ map empty_box names
one_more_made boxes boxes' b name rest rest' names pushed made next before =
    ap (λ (bs : List Box). bs ++ map empty_box rest') (pushed ∙ ap (λ (x : Box). boxes ++ x ∷ []) made) ∙ append_assoc boxes (empty_box name ∷ []) (map empty_box rest')
    ∙ ap (λ (ns : List (List ℕ)). boxes ++ map empty_box ns) (sym next) ∙ before

pub one_more_noted : (places : BTreeMap (String Global) ℕ) (boxes boxes' : List Box) (b : Box) (name key : List ℕ) → TellsPlaces places (names_of boxes ++ key ∷ []) → boxes' ≡ boxes ++ b ∷ []
    → b ≡ empty_box name → key ≡ name → TellsPlaces places (names_of boxes')
one_more_noted places boxes boxes' b name key tells pushed made is =
    subst (TellsPlaces places)
    (ap (λ (n : List ℕ). names_of boxes ++ n ∷ []) is ∙ sym (map-append (λ (x : Box). x.name) boxes (empty_box name ∷ [])) ∙ ap names_of (sym (pushed ∙ ap (λ (x : Box). boxes ++ x ∷ []) made)))
    tells
