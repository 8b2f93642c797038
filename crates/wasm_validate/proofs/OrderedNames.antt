-- Names behind references that are kept in order: what a name finds among them, with one more put in its place.
use Rattle.std.proofs.Common.{rules, ◌≡◌, ℕ, List, [], ◌∷◌, refl, sym, ◌∙◌, ap, Bool, true, false, ◌||◌, nat_eq}
use Rattle.std.specs.List.{list_any}
use Rattle.std.specs.Cmp.Lexicographic.{pointwise, slice_cmp}
use Rattle.std.specs.Ordering.{is_eq, nat_cmp, match_ordering}
use Rattle.std.specs.Str.{bytes_eq}
use Rattle.std.specs.BTreeMap.{is_at}
use Rattle.std.specs.BTreeSet.{insert_key}
use Rattle.std.specs.declared.cmp.Ordering.{Ordering}
use Rattle.std.specs.declared.cmp.Ordering.TheVariants.{Less, Equal, Greater}
use Rattle.std.specs.Borrow.{Bor}
use Rattle.std.proofs.lemmas.Map.Text.{is_eq-slice_cmp}
use Rattle.std.proofs.lemmas.Slice.Eq.{bytes_eq-Decides}

-- the order of names
abbrev pub by_name : Bor (List ℕ) → Bor (List ℕ) → Ordering
by_name x y = slice_cmp nat_cmp x.now y.now

-- one of them is the name
abbrev pub any_named : List ℕ → List (Bor (List ℕ)) → Bool
any_named name keys = list_any (λ (k : Bor (List ℕ)). pointwise nat_eq name k.now) keys

-- what is found in order is what is there
pub found : (name : List ℕ) (keys : List (Bor (List ℕ))) → list_any (is_at (λ (x : Bor (List ℕ)). slice_cmp nat_cmp name x.now)) keys ≡ any_named name keys
found name [] = refl
found name (k ∷ ks) = rw (is_eq-slice_cmp name k.now, found name ks) refl

equal_names : (xs ys : List ℕ) → slice_cmp nat_cmp xs ys ≡ Equal → xs ≡ ys
equal_names xs ys e =
    let same : bytes_eq xs ys ≡ true = sym (is_eq-slice_cmp xs ys) ∙ ap is_eq e in
    search (rules, bytes_eq-Decides)

or_twice : (a b : Bool) → (a || b) ≡ ((a || b) || a)
or_twice true b = refl
or_twice false true = refl
or_twice false false = refl

or_turn : (a b : Bool) → (a || b) ≡ (b || a)
or_turn true true = refl
or_turn true false = refl
or_turn false true = refl
or_turn false false = refl

or_past : (a b c : Bool) → (a || (b || c)) ≡ ((a || b) || c)
or_past true b c = refl
or_past false b c = refl

-- one more at its place in the order
pub one_more : (name : List ℕ) (v : Bor (List ℕ)) (ks : List (Bor (List ℕ))) → any_named name (insert_key by_name ks v) ≡ (any_named name ks || pointwise nat_eq name v.now)
one_more name v [] = or_turn (pointwise nat_eq name v.now) false
one_more name v (x ∷ xs) = by_order (by_name v x) refl (one_more name v xs)
  where
    by_order : (o : Ordering) → by_name v x ≡ o → any_named name (insert_key by_name xs v) ≡ (any_named name xs || pointwise nat_eq name v.now)
        → any_named name (match_ordering o (v ∷ x ∷ xs) (x ∷ xs) (x ∷ insert_key by_name xs v)) ≡ (any_named name (x ∷ xs) || pointwise nat_eq name v.now)
    by_order Less e more = or_turn (pointwise nat_eq name v.now) (pointwise nat_eq name x.now || any_named name xs)
    by_order Equal e more =
        or_twice (pointwise nat_eq name x.now) (any_named name xs)
        ∙ ap (λ n. (pointwise nat_eq name x.now || any_named name xs) || pointwise nat_eq name n) (sym (equal_names v.now x.now e))
    by_order Greater e more = ap (λ b. pointwise nat_eq name x.now || b) more ∙ or_past (pointwise nat_eq name x.now) (any_named name xs) (pointwise nat_eq name v.now)
