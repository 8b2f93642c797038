-- What is emitted is slim.
use Rattle.std.proofs.Common.{◌≡◌, ◌≢◌, ℕ, zero, suc, ◌+◌, ◌<◌, List, [], ◌∷◌, ◌++◌, length, map, Option, Some, None, Bool, true, false, not, refl, sym, ap, ◌∙◌, subst, arith, ◌⊎◌, inl, inr}
use Rattle.std.specs.Prelude.{if◌then◌else◌, nat_eq, ◌&&◌, ◌||◌}
use Rattle.std.proofs.lemmas.Bool.{eqb-true}
use Rattle.std.proofs.lemmas.Bool.Decides.{eqb_tells}
use Rattle.wa_types.specs.Syntax.{Plain, Basic, basic, local_get, local_set, local_tee, br, br_if, br_table, return, unreachable, call, call_indirect, Code, done, plain, nest, branch, a_block, a_loop}
use Rattle.wa_types.specs.Pausing.{calls_of}
use Rattle.wa_model.specs.declared.flat.Operand.{Operand}
use Rattle.wa_model.specs.declared.flat.Operand.TheVariants.{Local, Const}
use Rattle.wa_model.specs.Store.{takes, gives}
use Rattle.run_theory.specs.Flat.{Stmts, no_more, computes, copies, calls, leaps, leaps_if, leaps_by, nests, decides, halts, followed_by, got, all_got, set_to, slots_got, last_of, code_of}
use Rattle.slim_laws.specs.Slim as S
use Rattle.wa_types.specs.Syntax as Y
use Rattle.slim_laws.specs.Slim.{Held, Free, Covers, CoversBut, StackShape, more, Takes, takes_none, takes_same, takes_one, Rises, rises, rises_below, Lacks, lacks_all, lacks_held, lacks_slot, Plainly, plainly, plainly_held, Reaches, Terms, Slims, ends, does, gets, sets, tees, keeps, uses, saves, narrows, forgets}
use Rattle.slim_laws.specs.Emit.{elem, all_in, without, without_if, free_by, strip, rev_onto, name_onto, names, flushed, Part, then_code, only_if, got_all, by_strip, taken, by_strip_alone, taken_alone, can_keep, Emission, result_kept, count, op_code, op_on, computed_by, put, put_on, reads_again, got_again, copied_again, copied_by, reaches, reaches_all, with_operand, part_then, is_call, both_codes, three_codes, behind_of, call_on, goes_behind, right_behind, if_behind, free_behind, emit, Told, EmitsSlim, SlimBesideItself}

-- ---- tests

pub both_true : (a b : Bool) → (a && b) ≡ true → (a ≡ true) × (b ≡ true)
both_true true b e = (refl, e)
both_true false b e = cc

not_true : (a : Bool) → not a ≡ true → a ≡ false
not_true true e = cc
not_true false e = refl

if_so : (b : Bool) (o : Option Code) (c : Code) → only_if b o ≡ Some c → (b ≡ true) × (o ≡ Some c)
if_so true o c e = (refl, e)
if_so false o c e = cc

-- what a code in front leaves
pub record Behind (wrap : Code → Code) (o : Option Code) (c : Code) : Type 0 where
  pub code : Code
  pub is : o ≡ Some code
  pub whole : wrap code ≡ c

behind : (wrap : Code → Code) (o : Option Code) (c : Code) → then_code wrap o ≡ Some c → Behind wrap o c
behind wrap None c e = cc
behind wrap (Some k) c e = record { code = k; is = refl; whole = let a : Some (wrap k) ≡ Some c = e in cc }

-- ---- lists of slots

or_left : (a b : Bool) → a ≡ true → (a || b) ≡ true
or_left true b e = refl
or_left false b e = cc

or_right : (a b : Bool) → b ≡ true → (a || b) ≡ true
or_right true b e = refl
or_right false b e = e

elem_right : (x : ℕ) (xs ys : List ℕ) → elem x ys ≡ true → elem x (xs ++ ys) ≡ true
elem_right x [] ys e = e
elem_right x (y ∷ xs) ys e = or_right (nat_eq x y) (elem x (xs ++ ys)) (elem_right x xs ys e)

-- one moved to the other side
elem_moved : (x y : ℕ) (xs ys : List ℕ) → elem y (x ∷ (xs ++ ys)) ≡ true → elem y (xs ++ (x ∷ ys)) ≡ true
elem_moved x y [] ys e = e
elem_moved x y (z ∷ xs) ys e = by (elem_moved x y xs ys) (nat_eq y x) (nat_eq y z) refl e
  where
    by : (elem y (x ∷ (xs ++ ys)) ≡ true → elem y (xs ++ (x ∷ ys)) ≡ true) → (a b : Bool) → nat_eq y x ≡ a → (a || (b || elem y (xs ++ ys))) ≡ true → (b || elem y (xs ++ (x ∷ ys))) ≡ true
    by ih a true qa e = refl
    by ih true false qa e = ih (or_left (nat_eq y x) (elem y (xs ++ ys)) qa)
    by ih false false qa e = ih (or_right (nat_eq y x) (elem y (xs ++ ys)) e)

pub elem_without : (y : ℕ) (xs ys : List ℕ) → elem y (without xs ys) ≡ true → elem y ys ≡ true
elem_without y xs [] e = e
elem_without y xs (z ∷ ys) e = by (elem_without y xs ys) (elem z xs) e
  where
    by_first : (elem y (without xs ys) ≡ true → elem y ys ≡ true) → (b : Bool) → (b || elem y (without xs ys)) ≡ true → (b || elem y ys) ≡ true
    by_first ih true e = refl
    by_first ih false e = ih e

    by : (elem y (without xs ys) ≡ true → elem y ys ≡ true) → (b : Bool) → elem y (without_if b z (without xs ys)) ≡ true → (nat_eq y z || elem y ys) ≡ true
    by ih true e = or_right (nat_eq y z) (elem y ys) (ih e)
    by ih false e = by_first ih (nat_eq y z) e

all_held : (xs ys : List ℕ) → all_in xs ys ≡ true → (y : ℕ) → elem y xs ≡ true → elem y ys ≡ true
all_held [] ys e y m = cc
all_held (x ∷ xs) ys e y m = let h = both_true (elem x ys) (all_in xs ys) e in by h (all_held xs ys h.1 y) (nat_eq y x) refl m
  where
    by : (elem x ys ≡ true) × (all_in xs ys ≡ true) → (elem y xs ≡ true → elem y ys ≡ true) → (b : Bool) → nat_eq y x ≡ b → (b || elem y xs) ≡ true → elem y ys ≡ true
    by h ih true q m = subst (λ z. elem z ys ≡ true) (sym (eqb-true y x q)) h.0
    by h ih false q m = ih m

-- what is taken away isn't there
elem_gone : (x : ℕ) (ys : List ℕ) → elem x (without (x ∷ []) ys) ≡ false
elem_gone x [] = refl
elem_gone x (z ∷ ys) = by (eqb_tells z x) (elem_gone x ys)
  where
    by : ((nat_eq z x ≡ true) × (z ≡ x)) ⊎ ((nat_eq z x ≡ false) × (z ≢ x)) → elem x (without (x ∷ []) ys) ≡ false → elem x (without_if (nat_eq z x || false) z (without (x ∷ []) ys)) ≡ false
    by (inl h) ih = subst (λ b. elem x (without_if (b || false) z (without (x ∷ []) ys)) ≡ false) (sym h.0) ih
    by (inr h) ih = subst (λ b. elem x (without_if (b || false) z (without (x ∷ []) ys)) ≡ false) (sym h.0) (other (eqb_tells x z) ih)
      where
        other : ((nat_eq x z ≡ true) × (x ≡ z)) ⊎ ((nat_eq x z ≡ false) × (x ≢ z)) → elem x (without (x ∷ []) ys) ≡ false → (nat_eq x z || elem x (without (x ∷ []) ys)) ≡ false
        other (inl g) ih = absurd (h.1 (sym g.1))
        other (inr g) ih = subst (λ b. (b || elem x (without (x ∷ []) ys)) ≡ false) (sym g.0) ih

-- ---- what is free

module _ (t : Terms) where
  abbrev pub fr : List ℕ → Free
  fr base = free_by t.slot base

  pub covers_by : (xs ys : List ℕ) → ((y : ℕ) → elem y ys ≡ true → elem y xs ≡ true) → Covers (fr xs) (fr ys)
  covers_by xs ys h y e = by (t.slot y) (elem y ys) (elem y xs) (h y) e
    where
      by : (s a b : Bool) → (a ≡ true → b ≡ true) → (s && not a) ≡ false → (s && not b) ≡ false
      by false a b i e = refl
      by true true b i e = let q = i refl in ap not q
      by true false b i e = cc

  pub held_by : (x : ℕ) (base : List ℕ) → elem x base ≡ true → fr base x ≡ false
  held_by x base e = by (t.slot x) (elem x base) e
    where
      by : (s a : Bool) → a ≡ true → (s && not a) ≡ false
      by true a e = ap not e
      by false a e = refl

  pub no_slot : (x : ℕ) (base : List ℕ) → not (t.slot x) ≡ true → fr base x ≡ false
  no_slot x base e = let q = not_true (t.slot x) e in ap (λ s. s && not (elem x base)) q

  but_one : (x : ℕ) (base : List ℕ) → CoversBut x (fr base) (fr (x ∷ base))
  but_one x base y e ne = by (eqb_tells y x)
    where
      by : ((nat_eq y x ≡ true) × (y ≡ x)) ⊎ ((nat_eq y x ≡ false) × (y ≢ x)) → fr base y ≡ false
      by (inl h) = absurd (ne h.1)
      by (inr h) = subst (λ b. (t.slot y && not (b || elem y base)) ≡ false) h.0 e

  abbrev pub Slots : List ℕ → Type 0
  Slots [] = Unit {0}
  Slots (x ∷ pend) = (t.slot x ≡ true) × Slots pend

  abbrev pub shape : List ℕ → StackShape
  shape pend = map Some pend

  lacks_by : (x : ℕ) (pend : List ℕ) → elem x pend ≡ false → Lacks x (shape pend)
  lacks_by x [] e = lacks_all
  lacks_by x (y ∷ pend) e = by (lacks_by x pend) (eqb_tells x y)
    where
      by : (elem x pend ≡ false → Lacks x (shape pend)) → ((nat_eq x y ≡ true) × (x ≡ y)) ⊎ ((nat_eq x y ≡ false) × (x ≢ y)) → Lacks x (shape (y ∷ pend))
      by ih (inl h) = let q : (nat_eq x y || elem x pend) ≡ true = or_left (nat_eq x y) (elem x pend) h.0 in cc
      by ih (inr h) = lacks_slot (λ q. h.1 (sym q)) (ih (subst (λ b. (b || elem x pend) ≡ false) h.0 e))

  module _ (small : (x : ℕ) → t.slot x ≡ true → x < t.size) (n : ℕ) (ts : List Free) (out : Free) where
    abbrev L : Free → StackShape → Code → Code → Type 0
    L f sh c c' = Slims t n ts out f sh c c'

    -- slots set
    flush_ok : (pend base : List ℕ) (c c' : Code) → Slots pend → L (fr (pend ++ base)) [] c c' → L (fr base) (shape pend) c (flushed pend c')
    flush_ok [] base c c' so sl = sl
    flush_ok (x ∷ pend) base c c' so sl = saves x (fr (x ∷ base)) (small x so.0) (but_one x base)
        (flush_ok pend (x ∷ base) c c' so.1 (narrows (fr ((x ∷ pend) ++ base)) (covers_by (pend ++ (x ∷ base)) ((x ∷ pend) ++ base) (λ y e. elem_moved x y pend base e)) sl))

    -- a result kept
    pub kept_by : (x : ℕ) (pend base : List ℕ) (sh sh2 : StackShape) (c c' : Code) → t.slot x ≡ true → Takes 1 sh sh2 → Lacks x sh2 → L (fr (without (x ∷ []) base)) (Some x ∷ sh2) c c'
        → L (fr base) sh (plain (local_set x) c) c'
    kept_by x pend base sh sh2 c c' is ta la sl =
        keeps x (fr (without (x ∷ []) base)) is (small x is) (covers_by base (without (x ∷ []) base) (λ y m. elem_without y (x ∷ []) base m))
        (by (t.slot x) (elem x (without (x ∷ []) base)) is (elem_gone x base)) ta la sl
      where
        by : (s a : Bool) → s ≡ true → a ≡ false → (s && not a) ≡ true
        by true a es ea = ap not ea
        by false a es ea = cc

    kept_ok : (x : ℕ) (pend base : List ℕ) (c c' : Code) → can_keep t x pend ≡ true → L (fr (without (x ∷ []) base)) (shape (x ∷ pend)) c c'
        → L (fr base) (more 1 (shape pend)) (plain (local_set x) c) c'
    kept_ok x pend base c c' e sl =
        let g = both_true (t.slot x) (not (elem x pend)) e in
        kept_by x pend base (more 1 (shape pend)) (shape pend) c c' g.0 (takes_one takes_none) (lacks_by x pend (not_true (elem x pend) g.1)) sl

    -- what stands behind is slim
    abbrev Fine : Code → Emission → Type 0
    Fine c next = (pend base : List ℕ) (c' : Code) → Slots pend → next pend base ≡ Some c' → L (fr base) (shape pend) c c'

    result_ok : (to : Option ℕ) (pend base : List ℕ) (next : Emission) (c c' : Code) → Fine c next → Slots pend → result_kept t to pend base next ≡ Some c'
        → L (fr base) (more (count to) (shape pend)) (set_to to c) c'
    result_ok None pend base next c c' fine so e = fine pend base c' so e
    result_ok (Some x) pend base next c c' fine so e =
        let h = if_so (can_keep t x pend) (next (x ∷ pend) (without (x ∷ []) base)) c' e in
        let k = both_true (t.slot x) (not (elem x pend)) h.0 in
        kept_ok x pend base c c' h.0 (fine (x ∷ pend) (without (x ∷ []) base) c' (k.0, so) h.1)

    -- a local that is no slot is set
    local_ok : (x : ℕ) (pend base : List ℕ) (c c' : Code) → elem x pend ≡ false → L (fr base) (shape pend) c c' → L (fr base) (more 1 (shape pend)) (plain (local_set x) c) (plain (local_set x) c')
    local_ok x pend base c c' e sl = sets x (fr base) (λ y f ne. f) (takes_one takes_none) (lacks_by x pend e) sl

    -- operands got
    pub gets_ok : (xs : List ℕ) (h : ℕ) (base : List ℕ) (sh : StackShape) (c c' : Code) → all_in xs base ≡ true → L (fr base) (more (h + length xs) sh) c c'
        → L (fr base) (more h sh) (slots_got xs c) (slots_got xs c')
    gets_ok [] h base sh c c' e sl = let z : h + 0 ≡ h = omega arith in subst (λ k. L (fr base) (more k sh) c c') z sl
    gets_ok (x ∷ xs) h base sh c c' e sl =
        let b = both_true (elem x base) (all_in xs base) e in
        let z : h + suc (length xs) ≡ suc h + length xs = omega arith in
        gets x (held_by x base b.0) (gets_ok xs (suc h) base sh c c' b.1 (subst (λ k. L (fr base) (more k sh) c c') z sl))

    -- operands that stand on the operand stack
    abbrev onto : List ℕ → StackShape → StackShape
    onto [] sh = sh
    onto (x ∷ xs) sh = onto xs (Some x ∷ sh)

    rises_onto : (x : ℕ) (xs : List ℕ) (sh sh2 : StackShape) → Rises x sh sh2 → Rises x (onto xs sh) (onto xs sh2)
    rises_onto x [] sh sh2 r = r
    rises_onto x (y ∷ xs) sh sh2 r = rises_onto x xs (Some y ∷ sh) (Some y ∷ sh2) (rises_below r)

    uses_ok : (xs : List ℕ) (h : ℕ) (base : List ℕ) (sh : StackShape) (c c' : Code) → Slots xs → L (fr base) (more (h + length xs) sh) c c' → L (fr base) (onto xs (more h sh)) (slots_got xs c) c'
    uses_ok [] h base sh c c' so sl = let z : h + 0 ≡ h = omega arith in subst (λ k. L (fr base) (more k sh) c c') z sl
    uses_ok (x ∷ xs) h base sh c c' so sl =
        let z : h + suc (length xs) ≡ suc h + length xs = omega arith in
        uses x so.0 (rises_onto x xs (Some x ∷ more h sh) (None ∷ more h sh) rises) (uses_ok xs (suc h) base sh c c' so.1 (subst (λ k. L (fr base) (more k sh) c c') z sl))

    -- ---- operands taken

    strip_is : (ys pend left : List ℕ) → strip ys pend ≡ Some left → pend ≡ ys ++ left
    strip_is [] pend left e = let a : Some pend ≡ Some left = e in cc
    strip_is (y ∷ ys) [] left e = cc
    strip_is (y ∷ ys) (z ∷ pend) left e = by (nat_eq y z) refl (strip_is ys pend left) e
      where
        by : (b : Bool) → nat_eq y z ≡ b → (strip ys pend ≡ Some left → pend ≡ ys ++ left) → (if b then strip ys pend else None) ≡ Some left → z ∷ pend ≡ y ∷ (ys ++ left)
        by true q ih e = let a = eqb-true y z q in let b = ih e in cc
        by false q ih e = cc

    onto_is : (xs ys left : List ℕ) → shape (rev_onto xs ys ++ left) ≡ onto xs (shape (ys ++ left))
    onto_is [] ys left = refl
    onto_is (x ∷ xs) ys left = onto_is xs (x ∷ ys) left

    slots_split : (xs ys left : List ℕ) → Slots (rev_onto xs ys ++ left) → Slots xs × Slots (ys ++ left)
    slots_split [] ys left so = (tt, so)
    slots_split (x ∷ xs) ys left so = let h = slots_split xs (x ∷ ys) left so in ((h.1.0, h.0), h.1.1)

    -- what taken operands leave
    pub record Took (xs pend base : List ℕ) (p : Part) : Type 0 where
      pub slots : Slots p.pend
      pub goes : (c c' : Code) → L (fr p.base) (more (length xs) (shape p.pend)) c c' → L (fr base) (shape pend) (slots_got xs c) (p.front c')

    abbrev made : (xs pend base : List ℕ) → Part
    made xs pend base = record { pend = []; base = without xs (pend ++ base); front = λ c. flushed pend (slots_got xs c) }

    got_ok : (xs pend base : List ℕ) (p : Part) → Slots pend → got_all xs pend base ≡ Some p → Took xs pend base p × (p.pend ≡ [])
    got_ok xs pend base p so e = by (all_in xs (pend ++ base)) refl e
      where
        z : 0 + length xs ≡ length xs
        z = omega arith

        by : (b : Bool) → all_in xs (pend ++ base) ≡ b → (if b then Some (record {
          pend = [];
          base = without xs (pend ++ base);
          front =
              λ c. flushed pend (slots_got xs c);
        }) else None) ≡ Some p → Took xs pend base p × (p.pend ≡ [])
        by false q e = cc
        by true q e =
            let a : made xs pend base ≡ p = cc in
            subst (λ o. Took xs pend base o × (o.pend ≡ [])) a (
              (record {
                slots = tt;
                goes = λ c c' sl. flush_ok pend base (slots_got xs c) (slots_got xs c') so
                    (gets_ok xs 0 (pend ++ base) [] c c' q (subst (λ k. L (fr (pend ++ base)) (more k []) c c') (sym z)
                    (narrows (fr (without xs (pend ++ base))) (covers_by (pend ++ base) (without xs (pend ++ base)) (λ y m. elem_without y xs (pend ++ base) m)) sl)));
              }),
              refl,
            )

    left_ok : (xs pend base left : List ℕ) (p : Part) → Slots pend → strip (rev_onto xs []) pend ≡ Some left → (record { pend = left; base = base; front = λ c. c }) ≡ p → Took xs pend base p
    left_ok xs pend base left p so q a =
        let e = strip_is (rev_onto xs []) pend left q in
        let sp = slots_split xs [] left (subst Slots e so) in
        let z : 0 + length xs ≡ length xs = omega arith in
        let sh : shape pend ≡ onto xs (shape left) = ap shape e ∙ onto_is xs [] left in
        subst (λ o. Took xs pend base o) a
        (record {
          slots = sp.1;
          goes = λ c c' sl. subst (λ s. L (fr base) s (slots_got xs c) c') (sym sh)
              (uses_ok xs 0 base (shape left) c c' sp.0 (subst (λ k. L (fr base) (more k (shape left)) c c') (sym z) sl));
        })

    taken_ok : (xs pend base : List ℕ) (p : Part) → Slots pend → taken xs pend base ≡ Some p → Took xs pend base p
    taken_ok xs pend base p so e = by (strip (rev_onto xs []) pend) refl e
      where
        by : (o : Option (List ℕ)) → strip (rev_onto xs []) pend ≡ o → by_strip xs pend base o ≡ Some p → Took xs pend base p
        by None q e = (got_ok xs pend base p so e).0
        by (Some left) q e = left_ok xs pend base left p so q (let a : Some (record { pend = left; base = base; front = λ c. c }) ≡ Some p = e in cc)

    alone_ok : (xs pend base : List ℕ) (p : Part) → Slots pend → taken_alone xs pend base ≡ Some p → Took xs pend base p × (p.pend ≡ [])
    alone_ok xs pend base p so e = by (strip (rev_onto xs []) pend) refl e
      where
        by : (o : Option (List ℕ)) → strip (rev_onto xs []) pend ≡ o → by_strip_alone xs pend base o ≡ Some p → Took xs pend base p × (p.pend ≡ [])
        by None q e = got_ok xs pend base p so e
        by (Some []) q e = let a : record { pend = []; base = base; front = λ c. c } ≡ p = cc in (left_ok xs pend base [] p so q a, sym (ap (λ (o : Part). o.pend) a))
        by (Some (x ∷ left)) q e = got_ok xs pend base p so e

    -- ---- statements

    takes_more : (k : ℕ) (sh : StackShape) → Takes k (more k sh) sh
    takes_more zero sh = takes_none
    takes_more (suc k) sh = takes_one (takes_more k sh)

    names_ok : (args : List Operand) (xs : List ℕ) (c : Code) → names args ≡ Some xs → all_got args c ≡ slots_got xs c
    names_ok [] xs c e = let a : [] ≡ xs = cc in subst (λ us. c ≡ slots_got us c) a refl
    names_ok (Const v ∷ args) xs c e = cc
    names_ok (Local x ∷ args) xs c e = by (names args) refl (names_ok args) e
      where
        by : (o : Option (List ℕ)) → names args ≡ o → ((us : List ℕ) (c : Code) → names args ≡ Some us → all_got args c ≡ slots_got us c) → name_onto (Local x) o ≡ Some xs
            → plain (local_get x) (all_got args c) ≡ slots_got xs c
        by None q ih e = cc
        by (Some us) q ih e = let a : x ∷ us ≡ xs = cc in subst (λ ys. plain (local_get x) (all_got args c) ≡ slots_got ys c) a (ap (plain (local_get x)) (ih us c q))

    put_ok : (to : ℕ) (pend base : List ℕ) (next : Emission) (c c' : Code) → Fine c next → Slots pend → put t to pend base next ≡ Some c'
        → L (fr base) (more 1 (shape pend)) (plain (local_set to) c) c'
    put_ok to pend base next c c' fine so e = by (t.slot to) e
      where
        by : (b : Bool) → (if b then only_if (can_keep t to pend) (next (to ∷ pend) (without (to ∷ []) base)) else only_if (not (elem to pend))
            (then_code (plain (local_set to)) (next pend base))) ≡ Some c' → L (fr base) (more 1 (shape pend)) (plain (local_set to) c) c'
        by true e = result_ok (Some to) pend base next c c' fine so e
        by false e =
            let h = if_so (not (elem to pend)) (then_code (plain (local_set to)) (next pend base)) c' e in
            let b = behind (plain (local_set to)) (next pend base) c' h.1 in
            subst (λ k. L (fr base) (more 1 (shape pend)) (plain (local_set to) c) k) b.whole (local_ok to pend base c b.code (not_true (elem to pend) h.0) (fine pend base b.code so b.is))

    op_ok : (op : Code) (to : Option ℕ) (k : ℕ) (pend base : List ℕ) (next : Emission) (c c' : Code) → Fine c next → Slots pend → op_code t op to k pend base next ≡ Some c'
        → L (fr base) (more k (shape pend)) (followed_by op (set_to to c)) c'
    unfolding followed_by
    op_ok done to k pend base next c c' fine so e = cc
    op_ok (nest s r body rest) to k pend base next c c' fine so e = cc
    op_ok (branch r a b rest) to k pend base next c c' fine so e = cc
    op_ok (plain (basic d) (plain p2 rest)) to k pend base next c c' fine so e = cc
    op_ok (plain (local_get y) (plain p2 rest)) to k pend base next c c' fine so e = cc
    op_ok (plain (local_set y) (plain p2 rest)) to k pend base next c c' fine so e = cc
    op_ok (plain (local_tee y) (plain p2 rest)) to k pend base next c c' fine so e = cc
    op_ok (plain (br l) (plain p2 rest)) to k pend base next c c' fine so e = cc
    op_ok (plain (br_if l) (plain p2 rest)) to k pend base next c c' fine so e = cc
    op_ok (plain (br_table ls l) (plain p2 rest)) to k pend base next c c' fine so e = cc
    op_ok (plain return (plain p2 rest)) to k pend base next c c' fine so e = cc
    op_ok (plain unreachable (plain p2 rest)) to k pend base next c c' fine so e = cc
    op_ok (plain (call y) (plain p2 rest)) to k pend base next c c' fine so e = cc
    op_ok (plain (call_indirect y) (plain p2 rest)) to k pend base next c c' fine so e = cc
    op_ok (plain (basic d) (nest s r body rest)) to k pend base next c c' fine so e = cc
    op_ok (plain (local_get y) (nest s r body rest)) to k pend base next c c' fine so e = cc
    op_ok (plain (local_set y) (nest s r body rest)) to k pend base next c c' fine so e = cc
    op_ok (plain (local_tee y) (nest s r body rest)) to k pend base next c c' fine so e = cc
    op_ok (plain (br l) (nest s r body rest)) to k pend base next c c' fine so e = cc
    op_ok (plain (br_if l) (nest s r body rest)) to k pend base next c c' fine so e = cc
    op_ok (plain (br_table ls l) (nest s r body rest)) to k pend base next c c' fine so e = cc
    op_ok (plain return (nest s r body rest)) to k pend base next c c' fine so e = cc
    op_ok (plain unreachable (nest s r body rest)) to k pend base next c c' fine so e = cc
    op_ok (plain (call y) (nest s r body rest)) to k pend base next c c' fine so e = cc
    op_ok (plain (call_indirect y) (nest s r body rest)) to k pend base next c c' fine so e = cc
    op_ok (plain (basic d) (branch r a b rest)) to k pend base next c c' fine so e = cc
    op_ok (plain (local_get y) (branch r a b rest)) to k pend base next c c' fine so e = cc
    op_ok (plain (local_set y) (branch r a b rest)) to k pend base next c c' fine so e = cc
    op_ok (plain (local_tee y) (branch r a b rest)) to k pend base next c c' fine so e = cc
    op_ok (plain (br l) (branch r a b rest)) to k pend base next c c' fine so e = cc
    op_ok (plain (br_if l) (branch r a b rest)) to k pend base next c c' fine so e = cc
    op_ok (plain (br_table ls l) (branch r a b rest)) to k pend base next c c' fine so e = cc
    op_ok (plain return (branch r a b rest)) to k pend base next c c' fine so e = cc
    op_ok (plain unreachable (branch r a b rest)) to k pend base next c c' fine so e = cc
    op_ok (plain (call y) (branch r a b rest)) to k pend base next c c' fine so e = cc
    op_ok (plain (call_indirect y) (branch r a b rest)) to k pend base next c c' fine so e = cc
    op_ok (plain (basic b) done) to k pend base next c c' fine so e =
        let h = if_so (nat_eq (takes b) k && nat_eq (gives b) (count to)) (then_code (plain (basic b)) (result_kept t to pend base next)) c' e in
        let g = both_true (nat_eq (takes b) k) (nat_eq (gives b) (count to)) h.0 in
        let u = behind (plain (basic b)) (result_kept t to pend base next) c' h.1 in
        let q1 = eqb-true (takes b) k g.0 in
        let q2 = eqb-true (gives b) (count to) g.1 in
        subst (λ z. L (fr base) (more k (shape pend)) (plain (basic b) (set_to to c)) z) u.whole
        (does b (subst (λ j. Takes (takes b) (more j (shape pend)) (shape pend)) q1 (takes_more (takes b) (shape pend)))
        (subst (λ j. L (fr base) (more j (shape pend)) (set_to to c) u.code) (sym q2) (result_ok to pend base next c u.code fine so u.is)))
    op_ok (plain (local_get y) done) None k pend base next c c' fine so e = cc
    op_ok (plain (local_get y) done) (Some x) (suc k) pend base next c c' fine so e = cc
    op_ok (plain (local_get y) done) (Some x) zero pend base next c c' fine so e =
        let h = if_so (not (t.slot y)) (then_code (plain (local_get y)) (result_kept t (Some x) pend base next)) c' e in
        let u = behind (plain (local_get y)) (result_kept t (Some x) pend base next) c' h.1 in
        subst (λ z. L (fr base) (shape pend) (plain (local_get y) (plain (local_set x) c)) z) u.whole (gets y (no_slot y base h.0) (result_ok (Some x) pend base next c u.code fine so u.is))
    op_ok (plain (local_set y) done) (Some x) k pend base next c c' fine so e = cc
    op_ok (plain (local_set y) done) None zero pend base next c c' fine so e = cc
    op_ok (plain (local_set y) done) None (suc zero) pend base next c c' fine so e =
        let h = if_so (not (t.slot y) && not (elem y pend)) (then_code (plain (local_set y)) (next pend base)) c' e in
        let u = behind (plain (local_set y)) (next pend base) c' h.1 in
        let g = both_true (not (t.slot y)) (not (elem y pend)) h.0 in
        subst (λ z. L (fr base) (more 1 (shape pend)) (plain (local_set y) c) z) u.whole (local_ok y pend base c u.code (not_true (elem y pend) g.1) (fine pend base u.code so u.is))
    op_ok (plain (local_set y) done) None (suc (suc k)) pend base next c c' fine so e = cc
    op_ok (plain (local_tee y) done) None k pend base next c c' fine so e = cc
    op_ok (plain (local_tee y) done) (Some x) zero pend base next c c' fine so e = cc
    op_ok (plain (local_tee y) done) (Some x) (suc zero) pend base next c c' fine so e =
        let h = if_so (not (t.slot y) && not (elem y pend)) (then_code (plain (local_tee y)) (result_kept t (Some x) pend base next)) c' e in
        let u = behind (plain (local_tee y)) (result_kept t (Some x) pend base next) c' h.1 in
        let g = both_true (not (t.slot y)) (not (elem y pend)) h.0 in
        subst (λ z. L (fr base) (more 1 (shape pend)) (plain (local_tee y) (plain (local_set x) c)) z) u.whole
        (tees y (fr base) (λ z f ne. f) (takes_one takes_none) (lacks_by y pend (not_true (elem y pend) g.1)) (result_ok (Some x) pend base next c u.code fine so u.is))
    op_ok (plain (local_tee y) done) (Some x) (suc (suc k)) pend base next c c' fine so e = cc
    op_ok (plain (br l) done) to k pend base next c c' fine so e = cc
    op_ok (plain (br_if l) done) to k pend base next c c' fine so e = cc
    op_ok (plain (br_table ls l) done) to k pend base next c c' fine so e = cc
    op_ok (plain return done) to k pend base next c c' fine so e = cc
    op_ok (plain unreachable done) to k pend base next c c' fine so e = cc
    op_ok (plain (call y) done) to k pend base next c c' fine so e = cc
    op_ok (plain (call_indirect y) done) to k pend base next c c' fine so e = cc

    -- a result behind a call, where all operands are the same
    called_ok : (to : Option ℕ) (base : List ℕ) (next : Emission) (c c' : Code) → Fine c next → result_kept t to [] base next ≡ Some c' → L (fr base) [] (set_to to c) c'
    called_ok None base next c c' fine e = fine [] base c' tt e
    called_ok (Some x) base next c c' fine e =
        let h = if_so (can_keep t x []) (next (x ∷ []) (without (x ∷ []) base)) c' e in
        let k = both_true (t.slot x) true h.0 in
        kept_by x [] base [] [] c c' k.0 takes_same lacks_all (fine (x ∷ []) (without (x ∷ []) base) c' (k.0, tt) h.1)

    plain_more : (k : ℕ) (pend : List ℕ) → pend ≡ [] → Plainly (more k (shape pend))
    plain_more k pend e = subst (λ p. Plainly (more k (shape p))) (sym e) (by k)
      where
        by : (k : ℕ) → Plainly (more k [])
        by zero = plainly
        by (suc k) = plainly_held (by k)

    pub held_all : (xs base : List ℕ) → all_in xs base ≡ true → Held (fr base) xs
    held_all [] base e = tt
    held_all (x ∷ xs) base e = let h = both_true (elem x base) (all_in xs base) e in (held_by x base h.0, held_all xs base h.1)

    -- one operand that stands alone
    operand_ok : (o : Operand) (pend base : List ℕ) (next : List ℕ → Option Code) (c c' : Code) → Slots pend → with_operand o pend base next ≡ Some c'
        → ((base : List ℕ) (k : Code) → next base ≡ Some k → L (fr base) (None ∷ []) c k) → L (fr base) (shape pend) (got o c) c'
    operand_ok (Const v) pend base next c c' so e h = cc
    operand_ok (Local x) pend base next c c' so e h = by (taken_alone (x ∷ []) pend base) refl e
      where
        by : (o : Option Part) → taken_alone (x ∷ []) pend base ≡ o → part_then next o ≡ Some c' → L (fr base) (shape pend) (plain (local_get x) c) c'
        by None q e = cc
        by (Some p) q e =
            let a = alone_ok (x ∷ []) pend base p so q in
            let u = behind p.front (next p.base) c' e in
            let took = a.0 in
            subst (λ z. L (fr base) (shape pend) (plain (local_get x) c) z) u.whole (took.goes c u.code (subst (λ l. L (fr p.base) (None ∷ shape l) c u.code) (sym a.1) (h p.base u.code u.is)))

    got_again_ok : (to x : ℕ) (pend base : List ℕ) (next : Emission) (c c' : Code) → Fine c next → Slots pend → got_again t to x pend base next ≡ Some c'
        → L (fr base) (shape pend) (plain (local_get x) (plain (local_set to) c)) c'
    got_again_ok to x pend base next c c' fine so e =
        let h = if_so (elem x (pend ++ base)) (then_code (λ c. flushed pend (plain (local_get x) c)) (put t to [] (pend ++ base) next)) c' e in
        let u = behind (λ c. flushed pend (plain (local_get x) c)) (put t to [] (pend ++ base) next) c' h.1 in
        subst (λ z. L (fr base) (shape pend) (plain (local_get x) (plain (local_set to) c)) z) u.whole
        (flush_ok pend base (plain (local_get x) (plain (local_set to) c)) (plain (local_get x) u.code) so
        (gets x (held_by x (pend ++ base) h.0) (put_ok to [] (pend ++ base) next c u.code fine tt u.is)))

    copied_again_ok : (to x : ℕ) (pend base : List ℕ) (next : Emission) (c c' : Code) → Fine c next → Slots pend → copied_again t to x pend base next ≡ Some c'
        → L (fr base) (shape pend) (plain (local_get x) (plain (local_set to) c)) c'
    copied_again_ok to x [] base next c c' fine so e = got_again_ok to x [] base next c c' fine so e
    copied_again_ok to x (y ∷ pend) base next c c' fine so e = by (nat_eq x y && (not (t.slot to) && not (elem to (y ∷ pend)))) refl e
      where
        by : (b : Bool) → (nat_eq x y && (not (t.slot to) && not (elem to (y ∷ pend)))) ≡ b
            → (if b then then_code (plain (local_tee to)) (next (y ∷ pend) base) else got_again t to x (y ∷ pend) base next) ≡ Some c'
            → L (fr base) (shape (y ∷ pend)) (plain (local_get x) (plain (local_set to) c)) c'
        by false q e = got_again_ok to x (y ∷ pend) base next c c' fine so e
        by true q e =
            let h = both_true (nat_eq x y) (not (t.slot to) && not (elem to (y ∷ pend))) q in
            let g = both_true (not (t.slot to)) (not (elem to (y ∷ pend))) h.1 in
            let u = behind (plain (local_tee to)) (next (y ∷ pend) base) c' e in
            subst (λ z. L (fr base) (shape (y ∷ pend)) (plain (local_get z) (plain (local_set to) c)) c') (sym (eqb-true x y h.0))
            (subst (λ z. L (fr base) (shape (y ∷ pend)) (plain (local_get y) (plain (local_set to) c)) z) u.whole
            (S.copies y to (fr base) so.0 (λ z f ne. f) (lacks_by to (y ∷ pend) (not_true (elem to (y ∷ pend)) g.1)) (fine (y ∷ pend) base u.code so u.is)))

    copied_ok : (to : ℕ) (o : Operand) (again : Bool) (pend base : List ℕ) (next : Emission) (c c' : Code) → Fine c next → Slots pend → copied_by t to o again pend base next ≡ Some c'
        → L (fr base) (shape pend) (got o (plain (local_set to) c)) c'
    copied_ok to (Const v) again pend base next c c' fine so e = cc
    copied_ok to (Local x) again pend base next c c' fine so e = by_slot (t.slot x) refl again e
      where
        by_part : (o : Option Part) → taken (x ∷ []) pend base ≡ o → put_on t to next o ≡ Some c' → L (fr base) (shape pend) (plain (local_get x) (plain (local_set to) c)) c'
        by_part None q e = cc
        by_part (Some p) q e =
            let took = taken_ok (x ∷ []) pend base p so q in
            let u = behind p.front (put t to p.pend p.base next) c' e in
            subst (λ z. L (fr base) (shape pend) (plain (local_get x) (plain (local_set to) c)) z) u.whole
            (took.goes (plain (local_set to) c) u.code (put_ok to p.pend p.base next c u.code fine took.slots u.is))

        by_slot : (b : Bool) → t.slot x ≡ b → (again : Bool)
            → (if b then (if again then copied_again t to x pend base next else put_on t to next (taken (x ∷ []) pend base)) else then_code (plain (local_get x)) (put t to pend base next)) ≡ Some c'
            → L (fr base) (shape pend) (plain (local_get x) (plain (local_set to) c)) c'
        by_slot true q true e = copied_again_ok to x pend base next c c' fine so e
        by_slot true q false e = by_part (taken (x ∷ []) pend base) refl e
        by_slot false q again e =
            let u = behind (plain (local_get x)) (put t to pend base next) c' e in
            subst (λ z. L (fr base) (shape pend) (plain (local_get x) (plain (local_set to) c)) z) u.whole (gets x (no_slot x base (ap not q)) (put_ok to pend base next c u.code fine so u.is))

    computed_ok : (op : Code) (args : List Operand) (to : Option ℕ) (pend base : List ℕ) (next : Emission) (c c' : Code) → Fine c next → Slots pend
        → computed_by t op to (names args) pend base next ≡ Some c' → L (fr base) (shape pend) (all_got args (followed_by op (set_to to c))) c'
    computed_ok op args to pend base next c c' fine so e = by (names args) refl e
      where
        by_part : (xs : List ℕ) → names args ≡ Some xs → (o : Option Part) → taken xs pend base ≡ o → op_on t op to (length xs) next o ≡ Some c'
            → L (fr base) (shape pend) (all_got args (followed_by op (set_to to c))) c'
        by_part xs qn None q e = cc
        by_part xs qn (Some p) q e =
            let took = taken_ok xs pend base p so q in
            let u = behind p.front (op_code t op to (length xs) p.pend p.base next) c' e in
            subst (λ z. L (fr base) (shape pend) z c') (sym (names_ok args xs (followed_by op (set_to to c)) qn))
            (subst (λ z. L (fr base) (shape pend) (slots_got xs (followed_by op (set_to to c))) z) u.whole
            (took.goes (followed_by op (set_to to c)) u.code (op_ok op to (length xs) p.pend p.base next c u.code fine took.slots u.is)))

        by : (o : Option (List ℕ)) → names args ≡ o → computed_by t op to o pend base next ≡ Some c' → L (fr base) (shape pend) (all_got args (followed_by op (set_to to c))) c'
        by None q e = cc
        by (Some xs) q e = by_part xs q (taken xs pend base) refl e

    -- a call with its arguments
    sole_ok : (op : Code) (f : Free) (k : ℕ) (c c' : Code) → is_call op ≡ true → Held f (t.fixed (length (calls_of c) + n)) → L f [] c c' → L f (more k []) (followed_by op c) (followed_by op c')
    unfolding followed_by
    sole_ok (plain (call x) done) f k c c' e h sl = S.calls x (plain_more k [] refl) h sl
    sole_ok (plain (call_indirect s) done) f k c c' e h sl = S.calls_by s (plain_more k [] refl) h sl
    sole_ok _ f k c c' e h sl = cc

    call_ok : (op : Code) (xs : List ℕ) (to : Option ℕ) (pend base : List ℕ) (next : Emission) (c c' : Code) → Fine c next → Slots pend → t.fixed (length (calls_of (set_to to c)) + n) ≡ []
        → only_if (is_call op) (call_on t op to next (taken_alone xs pend base)) ≡ Some c' → L (fr base) (shape pend) (slots_got xs (followed_by op (set_to to c))) c'
    call_ok op xs to pend base next c c' fine so told e =
        let h = if_so (is_call op) (call_on t op to next (taken_alone xs pend base)) c' e in by h.0 (taken_alone xs pend base) refl h.1
      where
        by : is_call op ≡ true → (o : Option Part) → taken_alone xs pend base ≡ o → call_on t op to next o ≡ Some c' → L (fr base) (shape pend) (slots_got xs (followed_by op (set_to to c))) c'
        by is None q k = cc
        by is (Some p) q k =
            let a = alone_ok xs pend base p so q in
            let took = a.0 in
            let u = behind p.front (then_code (followed_by op) (result_kept t to [] p.base next)) c' k in
            let v = behind (followed_by op) (result_kept t to [] p.base next) u.code u.is in
            subst (λ z. L (fr base) (shape pend) (slots_got xs (followed_by op (set_to to c))) z) u.whole
            (took.goes (followed_by op (set_to to c)) u.code
            (subst (λ l. L (fr p.base) (more (length xs) (shape l)) (followed_by op (set_to to c)) u.code) (sym a.1)
            (subst (λ z. L (fr p.base) (more (length xs) []) (followed_by op (set_to to c)) z) v.whole
            (sole_ok op (fr p.base) (length xs) (set_to to c) v.code is (subst (λ ys. Held (fr p.base) ys) (sym told) tt) (called_ok to p.base next c v.code fine v.is)))))

    reaches_ok : (targets : List (List ℕ)) (l : ℕ) (base : List ℕ) → reaches targets l base ≡ true → Reaches (fr base) (map fr targets) l
    reaches_ok [] l base e = tt
    reaches_ok (b ∷ targets) zero base e = covers_by base b (all_held b base e)
    reaches_ok (b ∷ targets) (suc l) base e = reaches_ok targets l base e

    reaches_each : (targets : List (List ℕ)) (base : List ℕ) → reaches_all targets base ≡ true → (l : ℕ) → Reaches (fr base) (map fr targets) l
    reaches_each [] base e l = tt
    reaches_each (b ∷ targets) base e zero = let h = both_true (all_in b base) (reaches_all targets base) e in covers_by base b (all_held b base h.0)
    reaches_each (b ∷ targets) base e (suc l) = let h = both_true (all_in b base) (reaches_all targets base) e in reaches_each targets base h.1 l

  -- ---- code beside itself

  abbrev nothing : Free
  nothing y = false

  covers_nothing : (g : Free) → Covers nothing g
  covers_nothing g y e = refl

  held_nothing : (xs : List ℕ) → Held nothing xs
  held_nothing [] = tt
  held_nothing (x ∷ xs) = (refl, held_nothing xs)

  reaches_nothing : (ts : List Free) (l : ℕ) → Reaches nothing ts l
  reaches_nothing [] l = tt
  reaches_nothing (g ∷ ts) zero = covers_nothing g
  reaches_nothing (g ∷ ts) (suc l) = reaches_nothing ts l

  pub plainly_all : (k : ℕ) → Plainly (more k [])
  plainly_all zero = plainly
  plainly_all (suc k) = plainly_held (plainly_all k)

  pub same_code : (n : ℕ) (ts : List Free) (out : Free) (c : Code) → Slims t n ts out nothing [] c c
  same_code n ts out done = ends (covers_nothing out) plainly
  same_code n ts out (plain (basic b) rest) = does b takes_same (forgets (plainly_all (gives b)) (same_code n ts out rest))
  same_code n ts out (plain (local_get x) rest) = gets x refl (forgets (plainly_held plainly) (same_code n ts out rest))
  same_code n ts out (plain (local_set x) rest) = sets x nothing (λ y e ne. refl) takes_same lacks_all (same_code n ts out rest)
  same_code n ts out (plain (local_tee x) rest) = tees x nothing (λ y e ne. refl) takes_same lacks_all (forgets (plainly_held plainly) (same_code n ts out rest))
  same_code n ts out (plain (br l) rest) = S.leaps l plainly (reaches_nothing ts l)
  same_code n ts out (plain (br_if l) rest) = S.leaps_if l plainly (reaches_nothing ts l) (same_code n ts out rest)
  same_code n ts out (plain (br_table ls l) rest) = S.leaps_by ls l plainly (λ j. reaches_nothing ts j)
  same_code n ts out (plain return rest) = S.returns_here plainly
  same_code n ts out (plain unreachable rest) = S.halts
  same_code n ts out (plain (call x) rest) = S.calls x plainly (held_nothing (t.fixed (length (calls_of rest) + n))) (same_code n ts out rest)
  same_code n ts out (plain (call_indirect x) rest) = S.calls_by x plainly (held_nothing (t.fixed (length (calls_of rest) + n))) (same_code n ts out rest)
  same_code n ts out (nest a_block r body rest) = S.blocks r nothing plainly (same_code (length (calls_of rest) + n) (nothing ∷ ts) nothing body) (same_code n ts out rest)
  same_code n ts out (nest a_loop r body rest) = S.loops r nothing nothing plainly (covers_nothing nothing) (same_code (length (calls_of rest) + n) (nothing ∷ ts) nothing body)
      (same_code n ts out rest)
  same_code n ts out (branch r a b rest) = S.decides r nothing plainly (same_code (length (calls_of b) + (length (calls_of rest) + n)) (nothing ∷ ts) nothing a)
      (same_code (length (calls_of rest) + n) (nothing ∷ ts) nothing b) (same_code n ts out rest)

  abbrev fb : Option (List ℕ) → Free
  fb out = free_behind t.slot out

  right_ok : (out : Option (List ℕ)) (base : List ℕ) → right_behind out base ≡ true → Covers (fr base) (fb out)
  right_ok None base e = cc
  right_ok (Some out) base e = covers_by base out (all_held out base e)

  module _ (small : (x : ℕ) → t.slot x ≡ true → x < t.size) where
    pub emit_ok : (n : ℕ) (targets : List (List ℕ)) (out : Option (List ℕ)) (s : Stmts) (pend base : List ℕ) (c' : Code) → Told t n s → Slots pend
        → emit t targets out s pend base ≡ Some c' → Slims t n (map fr targets) (fb out) (fr base) (shape pend) (code_of s) c'
    unfolding code_of
    emit_ok n targets out no_more pend base c' told so e =
        let h = if_so (right_behind out (pend ++ base)) (Some (flushed pend done)) c' e in
        let a : flushed pend done ≡ c' = let z : Some (flushed pend done) ≡ Some c' = h.1 in cc in
        subst (λ z. Slims t n (map fr targets) (fb out) (fr base) (shape pend) done z) a
        (flush_ok small n (map fr targets) (fb out) pend base done done so (ends (right_ok out (pend ++ base) h.0) plainly))
    emit_ok n targets out (computes op args to rest) pend base c' told so e =
        computed_ok small n (map fr targets) (fb out) op args to pend base (emit t targets out rest) (code_of rest) c' (λ p b k so e. emit_ok n targets out rest p b k told so e) so e
    emit_ok n targets out (copies to from rest) pend base c' told so e =
        copied_ok small n (map fr targets) (fb out) to from (reads_again rest) pend base (emit t targets out rest) (code_of rest) c' (λ p b k so e. emit_ok n targets out rest p b k told so e) so e
    emit_ok n targets out (calls op stack args to rest) pend base c' told so e =
        call_ok small n (map fr targets) (fb out) op (last_of args stack) to pend base (emit t targets out rest) (code_of rest) c'
        (λ p b k so e. emit_ok n targets out rest p b k told.1 so e) so told.0 e
    emit_ok n targets out (leaps l rest) pend base c' told so e =
        let h = if_so (reaches targets l (pend ++ base)) (Some (flushed pend (plain (br l) (code_of rest)))) c' e in
        let a : flushed pend (plain (br l) (code_of rest)) ≡ c' = let z : Some (flushed pend (plain (br l) (code_of rest))) ≡ Some c' = h.1 in cc in
        subst (λ z. Slims t n (map fr targets) (fb out) (fr base) (shape pend) (plain (br l) (code_of rest)) z) a
        (flush_ok small n (map fr targets) (fb out) pend base (plain (br l) (code_of rest)) (plain (br l) (code_of rest)) so
        (S.leaps l plainly (reaches_ok small n (map fr targets) (fb out) targets l (pend ++ base) h.0)))
    emit_ok n targets out (leaps_if c l rest) pend base c' told so e =
        operand_ok small n (map fr targets) (fb out) c pend base (λ b. only_if (reaches targets l b) (then_code (plain (br_if l)) (emit t targets out rest [] b)))
        (plain (br_if l) (code_of rest)) c' so e
        (λ b k e.
        let h = if_so (reaches targets l b) (then_code (plain (br_if l)) (emit t targets out rest [] b)) k e in
        let u = behind (plain (br_if l)) (emit t targets out rest [] b) k h.1 in
        subst (λ z. Slims t n (map fr targets) (fb out) (fr b) (None ∷ []) (plain (br_if l) (code_of rest)) z) u.whole
        (S.leaps_if l (plainly_held plainly) (reaches_ok small n (map fr targets) (fb out) targets l b h.0) (emit_ok n targets out rest [] b u.code told tt u.is)))
    emit_ok n targets out (leaps_by c ls l rest) pend base c' told so e =
        operand_ok small n (map fr targets) (fb out) c pend base (λ b. only_if (reaches_all targets b) (Some (plain (br_table ls l) (code_of rest)))) (plain (br_table ls l) (code_of rest)) c' so e
        (λ b k e.
        let h = if_so (reaches_all targets b) (Some (plain (br_table ls l) (code_of rest))) k e in
        let a : plain (br_table ls l) (code_of rest) ≡ k = let z : Some (plain (br_table ls l) (code_of rest)) ≡ Some k = h.1 in cc in
        subst (λ z. Slims t n (map fr targets) (fb out) (fr b) (None ∷ []) (plain (br_table ls l) (code_of rest)) z) a
        (S.leaps_by ls l (plainly_held plainly) (reaches_each small n (map fr targets) (fb out) targets b h.0)))
    emit_ok n targets out (nests s body rest) pend base c' told so e =
        let b = pend ++ base in
        let u = behind (flushed pend) (if_behind (goes_behind s body)
        (both_codes (nest s None) (emit t (b ∷ targets) (Some (behind_of t s body b)) body [] b) (emit t targets out rest [] (behind_of t s body b)))
        (then_code (λ k. nest s None k (code_of rest)) (emit t (b ∷ targets) None body [] b))) c' e in
        subst (λ z. Slims t n (map fr targets) (fb out) (fr base) (shape pend) (nest s None (code_of body) (code_of rest)) z) u.whole
        (flush_ok small n (map fr targets) (fb out) pend base (nest s None (code_of body) (code_of rest)) u.code so
        (nest_ok n targets out s b body (code_of body) (code_of rest) u.code (emit t (b ∷ targets) (Some (behind_of t s body b)) body [] b)
        (emit t targets out rest [] (behind_of t s body b)) (emit t (b ∷ targets) None body [] b) u.is
        (λ k e. emit_ok (length (calls_of (code_of rest)) + n) (b ∷ targets) (Some (behind_of t s body b)) body [] b k told.0 tt e)
        (λ k e. emit_ok n targets out rest [] (behind_of t s body b) k told.1 tt e)
        (λ k e. emit_ok (length (calls_of (code_of rest)) + n) (b ∷ targets) None body [] b k told.0 tt e)))
      where
        both_ok : (n : ℕ) (targets : List (List ℕ)) (out : Option (List ℕ)) (s : Y.Shape) (b : List ℕ) (ss : Stmts) (body rest c : Code) (o o2 : Option Code) → both_codes (nest s None) o o2 ≡ Some c
            → ((k : Code) → o ≡ Some k → Slims t (length (calls_of rest) + n) (fr b ∷ map fr targets) (fr (behind_of t s ss b)) (fr b) [] body k)
            → ((k : Code) → o2 ≡ Some k → Slims t n (map fr targets) (fb out) (fr (behind_of t s ss b)) [] rest k)
            → Slims t n (map fr targets) (fb out) (fr b) [] (nest s None body rest) c
        both_ok n targets out s b ss body rest c None o2 e f g = cc
        both_ok n targets out s b ss body rest c (Some k) None e f g = cc
        both_ok n targets out a_block b ss body rest c (Some k) (Some k2) e f g =
            let a : nest a_block None k k2 ≡ c = let z : Some (nest a_block None k k2) ≡ Some c = e in cc in
            subst (λ z. Slims t n (map fr targets) (fb out) (fr b) [] (nest a_block None body rest) z) a (S.blocks None (fr b) plainly (f k refl) (g k2 refl))
        both_ok n targets out a_loop b ss body rest c (Some k) (Some k2) e f g =
            let a : nest a_loop None k k2 ≡ c = let z : Some (nest a_loop None k k2) ≡ Some c = e in cc in
            subst (λ z. Slims t n (map fr targets) (fb out) (fr b) [] (nest a_loop None body rest) z) a (S.loops None (fr b) (fr (behind_of t a_loop ss b)) plainly (λ y h. h) (f k refl) (g k2 refl))

        never_ok : (n : ℕ) (targets : List (List ℕ)) (out : Option (List ℕ)) (s : Y.Shape) (b : List ℕ) (ss : Stmts) (body rest c : Code) (o3 : Option Code)
            → goes_behind s ss ≡ false → then_code (λ k. nest s None k rest) o3 ≡ Some c
            → ((k : Code) → o3 ≡ Some k → Slims t (length (calls_of rest) + n) (fr b ∷ map fr targets) nothing (fr b) [] body k)
            → Slims t n (map fr targets) (fb out) (fr b) [] (nest s None body rest) c
        never_ok n targets out a_block b ss body rest c o3 q e f = cc
        never_ok n targets out a_loop b ss body rest c o3 q e f =
            let v = behind (λ k. nest a_loop None k rest) o3 c e in
            subst (λ z. Slims t n (map fr targets) (fb out) (fr b) [] (nest a_loop None body rest) z) v.whole
            (S.loops None (fr b) nothing plainly (λ y h. h) (f v.code v.is) (same_code n (map fr targets) (fb out) rest))

        nest_ok : (n : ℕ) (targets : List (List ℕ)) (out : Option (List ℕ)) (s : Y.Shape) (b : List ℕ) (ss : Stmts) (body rest c : Code) (o o2 o3 : Option Code)
            → if_behind (goes_behind s ss) (both_codes (nest s None) o o2) (then_code (λ k. nest s None k rest) o3) ≡ Some c
            → ((k : Code) → o ≡ Some k → Slims t (length (calls_of rest) + n) (fr b ∷ map fr targets) (fr (behind_of t s ss b)) (fr b) [] body k)
            → ((k : Code) → o2 ≡ Some k → Slims t n (map fr targets) (fb out) (fr (behind_of t s ss b)) [] rest k)
            → ((k : Code) → o3 ≡ Some k → Slims t (length (calls_of rest) + n) (fr b ∷ map fr targets) nothing (fr b) [] body k)
            → Slims t n (map fr targets) (fb out) (fr b) [] (nest s None body rest) c
        nest_ok n targets out s b ss body rest c o o2 o3 e f g h = by (goes_behind s ss) refl e
          where
            by : (q : Bool) → goes_behind s ss ≡ q → if_behind q (both_codes (nest s None) o o2) (then_code (λ k. nest s None k rest) o3) ≡ Some c
                → Slims t n (map fr targets) (fb out) (fr b) [] (nest s None body rest) c
            by true q e = both_ok n targets out s b ss body rest c o o2 e f g
            by false q e = never_ok n targets out s b ss body rest c o3 q e h
    emit_ok n targets out (decides c a b rest) pend base c' told so e =
        operand_ok small n (map fr targets) (fb out) c pend base (λ k. three_codes (branch None) (emit t (k ∷ targets) (Some k) a [] k) (emit t (k ∷ targets) (Some k) b [] k)
        (emit t targets out rest [] k)) (branch None (code_of a) (code_of b) (code_of rest)) c' so e
        (λ k d e. arms_ok n targets out k (code_of a) (code_of b) (code_of rest) d (emit t (k ∷ targets) (Some k) a [] k) (emit t (k ∷ targets) (Some k) b [] k) (emit t targets out rest [] k) e
        (λ j e. emit_ok (length (calls_of (code_of b)) + (length (calls_of (code_of rest)) + n)) (k ∷ targets) (Some k) a [] k j told.0 tt e)
        (λ j e. emit_ok (length (calls_of (code_of rest)) + n) (k ∷ targets) (Some k) b [] k j told.1 tt e) (λ j e. emit_ok n targets out rest [] k j told.2 tt e))
      where
        arms_ok : (n : ℕ) (targets : List (List ℕ)) (out : Option (List ℕ)) (k : List ℕ) (a b rest c : Code) (o o2 o3 : Option Code) → three_codes (branch None) o o2 o3 ≡ Some c
            → ((j : Code) → o ≡ Some j → Slims t (length (calls_of b) + (length (calls_of rest) + n)) (fr k ∷ map fr targets) (fr k) (fr k) [] a j)
            → ((j : Code) → o2 ≡ Some j → Slims t (length (calls_of rest) + n) (fr k ∷ map fr targets) (fr k) (fr k) [] b j)
            → ((j : Code) → o3 ≡ Some j → Slims t n (map fr targets) (fb out) (fr k) [] rest j) → Slims t n (map fr targets) (fb out) (fr k) (None ∷ []) (branch None a b rest) c
        arms_ok n targets out k a b rest c None o2 o3 e f g h = cc
        arms_ok n targets out k a b rest c (Some j) None o3 e f g h = cc
        arms_ok n targets out k a b rest c (Some j) (Some j2) None e f g h = cc
        arms_ok n targets out k a b rest c (Some j) (Some j2) (Some j3) e f g h =
            let q : branch None j j2 j3 ≡ c = let z : Some (branch None j j2 j3) ≡ Some c = e in cc in
            subst (λ z. Slims t n (map fr targets) (fb out) (fr k) (None ∷ []) (branch None a b rest) z) q (S.decides None (fr k) (plainly_held plainly) (f j refl) (g j2 refl) (h j3 refl))
    emit_ok n targets out (halts rest) pend base c' told so e =
        let a : plain unreachable (code_of rest) ≡ c' = let z : Some (plain unreachable (code_of rest)) ≡ Some c' = e in cc in
        subst (λ z. Slims t n (map fr targets) (fb out) (fr base) (shape pend) (plain unreachable (code_of rest)) z) a S.halts

pub emits_slim : EmitsSlim
emits_slim t n targets out s base c small told e = emit_ok t small n targets out s [] base c told tt e

pub same_slim : SlimBesideItself
same_slim t n ts out c = same_code t n ts out c
