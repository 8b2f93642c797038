-- Names that differ, one more at the end; names kept in order.
use Rattle.std.proofs.Common.{arith, ◌≡◌, ℕ, ◌++◌, List, [], ◌∷◌, refl, sym, ◌∙◌, ap, Bool, true, false, not, ◌&&◌, ◌||◌, nat_eq, map, ◌+◌, ◌<◌, length, get_or, take, drop}
use Rattle.std.proofs.lemmas.List.{map_more, map-append, take-append-drop}
use Rattle.wa_types.specs.declared.syntax.Export.{Export}
use Rattle.std.specs.List.{list_any}
use Rattle.std.specs.Cmp.Lexicographic.{pointwise}
use Rattle.std.specs.BTreeMap.{is_at}
use Rattle.std.specs.BTreeSet.{insert_key}
use Rattle.std.specs.Borrow.{Bor}
use Rattle.wasm_validate.proofs.OrderedNames.{by_name, any_named, found, one_more}
use Rattle.std.proofs.lemmas.List.Folds.{list_any-append}
use Rattle.std.proofs.lemmas.Bool.Decides.{nat_tests}
use Rattle.wa_types.specs.Validity.{same_name, all_differ}

pub same-pointwise : (xs ys : List ℕ) → same_name xs ys ≡ pointwise nat_eq xs ys
same-pointwise [] [] = refl
same-pointwise [] (y ∷ ys) = refl
same-pointwise (x ∷ xs) [] = refl
same-pointwise (x ∷ xs) (y ∷ ys) = ap (λ b. nat_eq x y && b) (same-pointwise xs ys)

eq-sym : (x y : ℕ) → nat_eq x y ≡ nat_eq y x
eq-sym x y = grind (arith, nat_tests)

same-sym : (xs ys : List ℕ) → same_name xs ys ≡ same_name ys xs
same-sym [] [] = refl
same-sym [] (y ∷ ys) = refl
same-sym (x ∷ xs) [] = refl
same-sym (x ∷ xs) (y ∷ ys) = rw (eq-sym x y, same-sym xs ys) refl

bools : (a s d b : Bool) → (not (a || (s || false)) && (d && not b)) ≡ ((not a && d) && not (s || b))
bools true s d b = refl
bools false true true true = refl
bools false true true false = refl
bools false true false true = refl
bools false true false false = refl
bools false false true b = refl
bools false false false b = refl

pub differ_push : (xs : List (List ℕ)) (y : List ℕ) → all_differ (xs ++ y ∷ []) ≡ (all_differ xs && not (list_any (same_name y) xs))
differ_push [] y = refl
differ_push (x ∷ xs) y =
    rw (list_any-append (same_name x) xs (y ∷ []), differ_push xs y, same-sym y x) (bools (list_any (same_name x) xs) (same_name x y) (all_differ xs) (list_any (same_name y) xs))

both_false : (a b c : Bool) → b ≡ false → (a && b) ≡ false
both_false true b c e = e
both_false false b c e = refl

more_false : (a s d e : Bool) → (d ≡ false → e ≡ false) → (not a && d) ≡ false → (not (a || s) && e) ≡ false
more_false true s d e f h = refl
more_false false true d e f h = refl
more_false false false d e f h = f h

-- what is not so of some first names, is not so of all
pub differ_less : (xs ys : List (List ℕ)) → all_differ xs ≡ false → all_differ (xs ++ ys) ≡ false
differ_less [] ys h = absurd (cc)
differ_less (x ∷ xs) ys h =
    rw (list_any-append (same_name x) xs ys) (more_false (list_any (same_name x) xs) (list_any (same_name x) ys) (all_differ xs) (all_differ (xs ++ ys)) (differ_less xs ys) h)

abbrev behind : List (Bor (List ℕ)) → List (List ℕ)
behind keys = map (λ k. k.now) keys

any_behind : (name : List ℕ) (keys : List (Bor (List ℕ))) → any_named name keys ≡ list_any (same_name name) (behind keys)
any_behind name [] = refl
any_behind name (k ∷ ks) = rw (same-pointwise name k.now, any_behind name ks) refl

or_false : (b : Bool) → (b || false) ≡ b
or_false true = refl
or_false false = refl

-- the names of the exports
abbrev names_of : List Export → List (List ℕ)
names_of es = map (λ (x : Export). x.name) es

module _ (v : Bor (List ℕ)) (keys : List (Bor (List ℕ))) (es : List Export) (i : ℕ) (e : Export) (fresh : Bool)
    (added : fresh ≡ not (list_any (is_at (by_name v)) keys))
    (seen : (name : List ℕ) → list_any (same_name name) (behind keys) ≡ list_any (same_name name) (names_of (take i es))) (here : v.now ≡ e.name) (lt : i < length es) (is : e ≡ get_or es i e) where
  any_is : list_any (is_at (by_name v)) keys ≡ list_any (same_name e.name) (names_of (take i es))
  any_is = found v.now keys ∙ any_behind v.now keys ∙ ap (λ n. list_any (same_name n) (behind keys)) here ∙ seen e.name

  longer : names_of (take (i + 1) es) ≡ names_of (take i es) ++ e.name ∷ []
  longer = map_more (λ (x : Export). x.name) es i e lt ∙ ap (λ (x : Export). names_of (take i es) ++ x.name ∷ []) (sym is)

  differ_is : all_differ (names_of (take (i + 1) es)) ≡ (all_differ (names_of (take i es)) && fresh)
  differ_is =
      ap all_differ longer ∙ differ_push (names_of (take i es)) e.name
      ∙ ap (λ b. all_differ (names_of (take i es)) && not b) (sym any_is)
      ∙ ap (λ b. all_differ (names_of (take i es)) && b) (sym added)

  -- a name that is there already
  pub again : fresh ≡ false → all_differ (names_of (take i es)) ≡ true → false ≡ all_differ (names_of es)
  again f d =
      let less : all_differ (names_of (take (i + 1) es)) ≡ false = differ_is ∙ rw (d, f) refl in
      let whole : names_of (take (i + 1) es) ++ names_of (drop (i + 1) es) ≡ names_of es = sym (map-append (λ (x : Export). x.name) (take (i + 1) es) (drop (i + 1) es))
      ∙ ap names_of (take-append-drop (i + 1) es) in
      sym (ap all_differ (sym whole) ∙ differ_less (names_of (take (i + 1) es)) (names_of (drop (i + 1) es)) less)

  -- a new name
  pub still : fresh ≡ true → all_differ (names_of (take i es)) ≡ true → all_differ (names_of (take (i + 1) es)) ≡ true
  still f d = differ_is ∙ rw (d, f) refl

  any_one : (name n : List ℕ) → list_any (same_name name) (n ∷ []) ≡ same_name name n
  any_one name n = or_false (same_name name n)

  pub kept : (news : List (Bor (List ℕ))) → news ≡ insert_key by_name keys v
      → (name : List ℕ) → list_any (same_name name) (behind news) ≡ list_any (same_name name) (names_of (take (i + 1) es))
  kept news n name =
      ap (λ ks. list_any (same_name name) (behind ks)) n ∙ sym (any_behind name (insert_key by_name keys v)) ∙ one_more name v keys
      ∙ ap (λ b. b || pointwise nat_eq name v.now) (any_behind name keys ∙ seen name) ∙ ap (λ b. list_any (same_name name) (names_of (take i es)) || b) (sym (same-pointwise name v.now))
      ∙ ap (λ x. list_any (same_name name) (names_of (take i es)) || same_name name x) here
      ∙ ap (λ b. list_any (same_name name) (names_of (take i es)) || b) (sym (any_one name e.name))
      ∙ sym (list_any-append (same_name name) (names_of (take i es)) (e.name ∷ [])) ∙ ap (list_any (same_name name)) (sym longer)
