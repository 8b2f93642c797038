-- The operands as a list, and the vector that holds them.
use Rattle.std.proofs.Common.{arith, ◌≡◌, ℕ, suc, ◌<◌, ◌≤◌, List, [], ◌∷◌, ◌++◌, length, take, drop, reverse, get_or, ◌-◌, Option, Some, None, Bool, true, false, if◌then◌else◌, refl, ap}
use Rattle.std.proofs.Common.{sym, ◌∙◌, subst, length-append, length-drop}
use Rattle.std.proofs.lemmas.List.{length-reverse, reverse-append, drop-append-le, take-append-le, drop_all, take_all}
use Rattle.std.proofs.Math.Seq.{take-suc}
use Rattle.wa_types.specs.declared.values.ValType.{ValType}
use Rattle.validate_bodies.specs.Running.{may_be, pop1, pops, ended}
use Rattle.validate_bodies.specs.declared.stack.Operands.{Operands}
use Rattle.validate_bodies.specs.Stack.{known_at, popped, Level}

pub known_more : (b : ℕ) (xs ys : List (Option ValType)) (x : Option ValType) → ys ≡ xs ++ x ∷ [] → b ≤ length xs → known_at b ys ≡ x ∷ known_at b xs
unfolding known_at
known_more b xs ys x e h =
    ap (λ v. reverse (drop b v)) e ∙ ap reverse (drop-append-le b xs (x ∷ []) h) ∙ reverse-append (drop b xs) (x ∷ [])

pub known_none : (b : ℕ) (xs : List (Option ValType)) → length xs ≤ b → known_at b xs ≡ []
unfolding known_at
known_none b xs h = ap reverse (drop_all b xs h)

pub pop_step : (b : ℕ) (xs ys : List (Option ValType)) (o : Option ValType) (t : ValType) (free : Bool) → xs ≡ ys ++ o ∷ [] → b ≤ length ys
    → pop1 t (known_at b xs) free ≡ (if may_be o t then Some (known_at b ys) else None)
pop_step b xs ys o t free e h = ap (λ v. pop1 t v free) (known_more b ys xs o e h)

pub pop_none : (b : ℕ) (xs : List (Option ValType)) (t : ValType) (free : Bool) → length xs ≤ b → pop1 t (known_at b xs) free ≡ (if free then Some (known_at b xs) else None)
pop_none b xs t free h = let e = known_none b xs h in ap (λ v. pop1 t v free) e ∙ ap (λ v. if free then Some v else None) (sym e)

pub free_pops : (ps : List ValType) → pops ps [] true ≡ Some []
free_pops [] = refl
free_pops (p ∷ ps) = free_pops ps

bare_pops : (ps : List ValType) (free : Bool) → 0 < length ps → pops ps [] free ≡ popped free []
bare_pops ps true h = free_pops ps
bare_pops [] false h = absurd (omega arith)
bare_pops (p ∷ ps) false h = refl

-- operands that are wanted where none is left
pub pops_none : (b : ℕ) (xs : List (Option ValType)) (ps : List ValType) (free : Bool) → length xs ≤ b → 0 < length ps → pops ps (known_at b xs) free ≡ popped free (known_at b xs)
pops_none b xs ps free h m = let e = known_none b xs h in ap (λ v. pops ps v free) e ∙ bare_pops ps free m ∙ ap (popped free) (sym e)

pub reverse_more : (xs : List ValType) (n : ℕ) (d : ValType) → n < length xs → reverse (take (suc n) xs) ≡ get_or xs n d ∷ reverse (take n xs)
reverse_more xs n d h = ap reverse (take-suc xs n d h) ∙ reverse-append (take n xs) (get_or xs n d ∷ [])

pub ruleset stacks = (known_more, known_none, pop_step, pop_none)

pub level_on : (a b d : Operands) → Level a b → Level b d → Level a d
level_on a b d x y = record {
  base = y.base ∙ x.base;
  kept = subst (λ n. take n d.types.items ≡ take n b.types.items) x.base y.kept ∙ x.kept;
  deep = y.deep;
}

-- behind a construct whose operands are gone the list is what it was before
pub restored : (a b d : Operands) → b.types.items ≡ a.types.items → b.base ≡ length a.types.items → Level b d → length d.types.items ≡ b.base → d.types.items ≡ a.types.items
restored a b d e f l n =
    sym (take_all b.base d.types.items (omega (arith, n))) ∙ l.kept ∙ ap (take b.base) e ∙ take_all b.base a.types.items (omega (arith, f))

-- a list whose last one is taken off is what it was before that one was put on
pub popped_back : (old now new : List (Option ValType)) (l : Option ValType) (n : ℕ) → now ≡ old ++ l ∷ [] → new ≡ take (n - 1) now → n ≡ length now → new ≡ old
popped_back old now new l n e r h =
    let k : n - 1 ≡ length old = omega (arith, h, ap length e, length-append old (l ∷ [])) in
    r ∙ ap (take (n - 1)) e ∙ ap (λ m. take m (old ++ l ∷ [])) k ∙ take-append-le (length old) old (l ∷ []) (omega arith) ∙ take_all (length old) old (omega arith)

pub ruleset levels = (known_more, known_none, level_on)

pub end_some : (t : ValType) (os os' : List (Option ValType)) (free : Bool) → pop1 t os free ≡ Some os' → ended (t ∷ []) os free ≡ ended [] os' free
end_some t [] os' true e = cc
end_some t [] os' false e = cc
end_some t (o ∷ os) os' free e = by_test (may_be o t) e
  where
    by_test : (b : Bool) → (if b then Some os else None) ≡ Some os' → (if b then ended [] os free else false) ≡ ended [] os' free
    by_test true e = let f : os ≡ os' = cc in ap (λ v. ended [] v free) f
    by_test false e = cc

pub end_none : (t : ValType) (os : List (Option ValType)) (free : Bool) → pop1 t os free ≡ None → ended (t ∷ []) os free ≡ false
end_none t [] true e = cc
end_none t [] false e = refl
end_none t (o ∷ os) free e = by_test (may_be o t) e
  where
    by_test : (b : Bool) → (if b then Some os else None) ≡ None → (if b then ended [] os free else false) ≡ false
    by_test true e = cc
    by_test false e = refl

pub end_empty : (b : ℕ) (xs : List (Option ValType)) (free : Bool) → length xs ≤ b → ended [] (known_at b xs) free ≡ true
end_empty b xs free h = ap (λ v. ended [] v free) (known_none b xs h)

pub end_more : (os : List (Option ValType)) (free : Bool) → 0 < length os → ended [] os free ≡ false
end_more [] free h = absurd (omega arith)
end_more (o ∷ os) free h = refl

pub known_length : (b : ℕ) (xs : List (Option ValType)) → length (known_at b xs) ≡ length xs - b
unfolding known_at
known_length b xs = length-reverse (drop b xs) ∙ length-drop b xs

pub ruleset ending = (end_some, end_none, end_empty, end_more, known_length)
