-- Tests of lists that are put together.
use Rattle.std.proofs.Common.{zero, suc, take, length, arith, ◌≡◌, ℕ, List, [], ◌∷◌, ◌++◌, map, Option, Some, None, Bool, true, false, ◌&&◌, refl, ap, ◌∙◌, nat_lt}
use Rattle.std.specs.List.{filter_map, flat_map, list_all}
use Rattle.std.proofs.lemmas.List.Folds.{list_all-append, list_all-map}
use Rattle.std.proofs.lemmas.List.Concat.{flat_map-append}
use Rattle.std.proofs.lemmas.Option.{slice_get-map}
use Rattle.wa_types.specs.declared.syntax.Elem.{Elem as ElemValue}
use Rattle.wa_types.specs.declared.syntax.GlobalDef.{GlobalDef as GlobalValue}
use Rattle.wa_types.specs.declared.syntax.Segment.{Segment as SegmentValue}
use Rattle.wa_types.specs.Syntax.{Code, Elem, GlobalDef, Segment}
use Rattle.wa_types.specs.Validity.{all_below, got_global}
use Rattle.wa_types.specs.View.{code, elem_of, global_of, segment_of}
use Rattle.wasm_validate.specs.Outside.{option_all}

pub all_filtered : {X Y : Type 0} (p : Y → Bool) (f : X → Option Y) (xs : List X) → list_all p (filter_map f xs) ≡ list_all (λ x. option_all p (f x)) xs
all_filtered p f [] = refl
all_filtered p f (x ∷ xs) = by_test (f x) refl (all_filtered p f xs)
  where
    by_test : (o : Option _) → f x ≡ o → list_all p (filter_map f xs) ≡ list_all (λ z. option_all p (f z)) xs → list_all p (filter_map f (x ∷ xs)) ≡ list_all (λ z. option_all p (f z)) (x ∷ xs)
    by_test None e h = rw e h
    by_test (Some y) e h = rw e (ap (λ b. p y && b) h)

pub all_flat : {X Y : Type 0} (p : Y → Bool) (f : X → List Y) (xs : List X) → list_all p (flat_map f xs) ≡ list_all (λ x. list_all p (f x)) xs
all_flat p f [] = refl
all_flat p f (x ∷ xs) = list_all-append p (f x) (flat_map f xs) ∙ ap (λ b. list_all p (f x) && b) (all_flat p f xs)

pub all_flat_map : {X Y Z : Type 0} (p : Z → Bool) (f : Y → List Z) (g : X → Y) (xs : List X) → list_all p (flat_map f (map g xs)) ≡ list_all (λ x. list_all p (f (g x))) xs
all_flat_map p f g xs = all_flat p f (map g xs) ∙ list_all-map (λ y. list_all p (f y)) g xs

pub all_map_map : {X Y Z : Type 0} (p : Z → Bool) (f : Y → Z) (g : X → Y) (xs : List X) → list_all p (map f (map g xs)) ≡ list_all (λ x. p (f (g x))) xs
all_map_map p f g xs = list_all-map p f (map g xs) ∙ list_all-map (λ y. p (f y)) g xs

pub ruleset listing = (all_filtered, all_flat_map, all_map_map, list_all-map)

pub ruleset looking = (slice_get-map, slice_get-map)

pub two_first : {X : Type 0} (p : X → Bool) (xs ys : List X) → list_all p xs ≡ false → list_all p (xs ++ ys) ≡ false
two_first p xs ys e = list_all-append p xs ys ∙ ap (λ b. b && list_all p ys) e

pub two_second : {X : Type 0} (p : X → Bool) (xs ys : List X) (b : Bool) → list_all p xs ≡ true → list_all p ys ≡ b → list_all p (xs ++ ys) ≡ b
two_second p xs ys b e f = list_all-append p xs ys ∙ ap (λ z. z && list_all p ys) e ∙ f

and_assoc : (a b c : Bool) → ((a && b) && c) ≡ (a && (b && c))
and_assoc true b c = refl
and_assoc false b c = refl

module _ (n : ℕ) (gs : List GlobalValue) (es : List ElemValue) (ss : List SegmentValue) where
  abbrev pub in_globals : Bool
  in_globals = list_all (λ (g : GlobalValue). all_below n (got_global (code g.init.items))) gs

  abbrev pub in_elems : Bool
  in_elems = list_all (λ (e : ElemValue). all_below n (got_global (code e.offset.items))) es

  abbrev pub in_segments : Bool
  in_segments = list_all (λ (s : SegmentValue). all_below n (got_global (code s.offset.items))) ss

  inits : all_below n (flat_map got_global (map (λ (g : GlobalDef). g.init) (map global_of gs))) ≡ in_globals
  inits = all_flat (λ x. nat_lt x n) got_global (map (λ (g : GlobalDef). g.init) (map global_of gs)) ∙ all_map_map (λ (k : Code). all_below n (got_global k)) (λ (g : GlobalDef). g.init) global_of gs

  elems : all_below n (flat_map got_global (map (λ (e : Elem). e.offset) (map elem_of es))) ≡ in_elems
  elems = all_flat (λ x. nat_lt x n) got_global (map (λ (e : Elem). e.offset) (map elem_of es)) ∙ all_map_map (λ (k : Code). all_below n (got_global k)) (λ (e : Elem). e.offset) elem_of es

  segments : all_below n (flat_map got_global (map (λ (s : Segment). s.offset) (map segment_of ss))) ≡ in_segments
  segments = all_flat (λ x. nat_lt x n) got_global (map (λ (s : Segment). s.offset) (map segment_of ss))
      ∙ all_map_map (λ (k : Code). all_below n (got_global k)) (λ (s : Segment). s.offset) segment_of ss

  abbrev of_globals : List Code
  of_globals = map (λ (g : GlobalDef). g.init) (map global_of gs)

  abbrev of_elems : List Code
  of_elems = map (λ (e : Elem). e.offset) (map elem_of es)

  abbrev of_segments : List Code
  of_segments = map (λ (s : Segment). s.offset) (map segment_of ss)

  first_two : all_below n (flat_map got_global (of_globals ++ of_elems)) ≡ (in_globals && in_elems)
  first_two =
      ap (all_below n) (flat_map-append got_global of_globals of_elems)
      ∙ list_all-append (λ x. nat_lt x n) (flat_map got_global of_globals) (flat_map got_global of_elems)
      ∙ ap (λ b. b && all_below n (flat_map got_global of_elems)) inits ∙ ap (λ b. in_globals && b) elems

  all_three : all_below n (flat_map got_global (of_globals ++ of_elems ++ of_segments)) ≡ (in_globals && (in_elems && in_segments))
  all_three =
      ap (all_below n) (flat_map-append got_global (of_globals ++ of_elems) of_segments)
      ∙ list_all-append (λ x. nat_lt x n) (flat_map got_global (of_globals ++ of_elems)) (flat_map got_global of_segments)
      ∙ ap (λ b. b && all_below n (flat_map got_global of_segments)) first_two ∙ ap (λ b. (in_globals && in_elems) && b) segments
      ∙ and_assoc in_globals in_elems in_segments

  pub expressions_below : (xs : List ℕ) → all_below n (xs ++ flat_map got_global (of_globals ++ of_elems ++ of_segments)) ≡ (all_below n xs && (in_globals && (in_elems && in_segments)))
  expressions_below xs = list_all-append (λ x. nat_lt x n) xs (flat_map got_global (of_globals ++ of_elems ++ of_segments)) ∙ ap (λ b. all_below n xs && b) all_three

pub four_first : (a b c d : Bool) → false ≡ a → false ≡ (a && (b && (c && d)))
four_first a b c d e = ap (λ z. z && (b && (c && d))) e

pub four_second : (a b c d : Bool) → true ≡ a → false ≡ b → false ≡ (a && (b && (c && d)))
four_second a b c d e f = ap (λ z. z && (c && d)) f ∙ ap (λ z. z && (b && (c && d))) e

pub four_third : (a b c d : Bool) → true ≡ a → true ≡ b → false ≡ c → false ≡ (a && (b && (c && d)))
four_third a b c d e f g = ap (λ z. z && d) g ∙ ap (λ z. z && (c && d)) f ∙ ap (λ z. z && (b && (c && d))) e

pub four_fourth : (a b c d r : Bool) → true ≡ a → true ≡ b → true ≡ c → r ≡ d → r ≡ (a && (b && (c && d)))
four_fourth a b c d r e f g h = h ∙ ap (λ z. z && d) g ∙ ap (λ z. z && (c && d)) f ∙ ap (λ z. z && (b && (c && d))) e

pub ruleset joining = (two_first, two_second)

map_take : {X Y : Type 0} (f : X → Y) (n : ℕ) (xs : List X) → map f (take n xs) ≡ take n (map f xs)
map_take f zero xs = refl
map_take f (suc n) [] = refl
map_take f (suc n) (x ∷ xs) = ap (λ z. f x ∷ z) (map_take f n xs)

take_front : {X : Type 0} (n : ℕ) (xs ys : List X) → n ≡ length xs → take n (xs ++ ys) ≡ xs
take_front zero [] ys e = refl
take_front zero (x ∷ xs) ys e = absurd (omega arith)
take_front (suc n) [] ys e = absurd (omega arith)
take_front (suc n) (x ∷ xs) ys e = ap (λ z. x ∷ z) (take_front n xs ys (omega arith))

-- the first ones of a list that is mapped
pub taken : {X Y : Type 0} (f : X → Y) (n : ℕ) (all : List X) (xs ys : List Y) → map f all ≡ xs ++ ys → n ≡ length xs → map f (take n all) ≡ xs
taken f n all xs ys e h = map_take f n all ∙ ap (take n) e ∙ take_front n xs ys h

and_pairs : (a b c d : Bool) → ((a && c) && (b && d)) ≡ ((a && b) && (c && d))
and_pairs false b c d = refl
and_pairs true false false d = refl
and_pairs true false true d = refl
and_pairs true true c d = refl

all_both : {X : Type 0} (p q : X → Bool) (xs : List X) → (list_all p xs && list_all q xs) ≡ list_all (λ x. p x && q x) xs
all_both p q [] = refl
all_both p q (x ∷ xs) = and_pairs (p x) (q x) (list_all p xs) (list_all q xs) ∙ ap (λ b. (p x && q x) && b) (all_both p q xs)

-- two tests of what some of a list's items tell
pub filtered_both : {X Y : Type 0} (p q : Y → Bool) (f g : X → Option Y) (xs : List X)
    → (list_all p (filter_map f xs) && list_all q (filter_map g xs)) ≡ list_all (λ x. option_all p (f x) && option_all q (g x)) xs
filtered_both p q f g xs =
    ap (λ b. b && list_all q (filter_map g xs)) (all_filtered p f xs) ∙ ap (λ b. list_all (λ x. option_all p (f x)) xs && b) (all_filtered q g xs)
    ∙ all_both (λ x. option_all p (f x)) (λ x. option_all q (g x)) xs

-- two tests of two lists, the first parts of both first
pub first_parts : {X : Type 0} (p q : X → Bool) (xs ys us vs : List X)
    → (list_all p (xs ++ ys) && list_all q (us ++ vs)) ≡ ((list_all p xs && list_all q us) && (list_all p ys && list_all q vs))
first_parts p q xs ys us vs =
    ap (λ b. b && list_all q (us ++ vs)) (list_all-append p xs ys) ∙ ap (λ b. (list_all p xs && list_all p ys) && b) (list_all-append q us vs)
    ∙ and_pairs (list_all p xs) (list_all q us) (list_all p ys) (list_all q vs)
