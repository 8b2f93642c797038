-- The places of a function with asserts are those of the function.
use Rattle.std.proofs.Common.{◌≡◌, ◌∙◌, ℕ, suc, ◌+◌, List, [], ◌∷◌, ◌++◌, length, Option, Bool, refl, sym, ap, subst, arith}
use Rattle.wa_types.specs.Pausing.{Callee, calls_of}
use Rattle.wa_types.specs.Syntax.{Shape, a_block, a_loop, Code, done, plain, nest, branch}
use Rattle.wa_model.specs.declared.flat.Operand.{Operand}
use Rattle.run_theory.specs.Flat.{followed_by, set_to, slots_got}
use Rattle.guard_form.specs.Bounds.{over, passing}
use Rattle.guard_form.specs.Functions.{ArmsHold, GuardedFunc, HasUnit}
use Rattle.guard_form.specs.Numbers.{calls_behind}
use Rattle.guard_form.specs.Pieces.{Units, no_unit, call_unit, nest_unit, if_unit, any_unit, call_to, numbers_in, flat_units}
use Rattle.guard_form.specs.Places.{Enclosing, in_a_block, in_a_loop, flat_labels, BodyPlace, at_start, past_call, past_block, past_loop, past_if, in_block, in_loop, in_then, in_else}
use Rattle.guard_form.proofs.Counting.{calls_then, calls_slots, calls_set, calls_call, calls_if, calls_nest}
use Rattle.guard_form.specs.Asserts.{asserted}
use Rattle.guard_form.proofs.AssertedCode.{calls_stay}
use Rattle.assert_laws.specs.AssertedUnits.{asserted_units}
use Rattle.assert_laws.specs.AssertedRoles.{asserted_guards}

module _ (t : Callee → Bool) (st : ℕ) where
  abbrev put : Code → Code
  put c = asserted t st c

  abbrev all : Units → Units
  all us = asserted_units t st us

  -- ---- counts

  pub over_same : (c : Code) → over (asserted t st c) ≡ over c
  unfolding asserted
  over_same done = refl
  over_same (plain p rest) = refl
  over_same (nest s r body rest) = refl
  over_same (branch r a b rest) = refl

  done_same : asserted t st done ≡ done
  unfolding asserted
  done_same = refl

  -- passing costs no more
  pub passing_same : (first : Code) (us : Units) → passing (asserted t st first) (asserted_units t st us) ≡ passing first us
  passing_same first no_unit = over_same first
  passing_same first (call_unit slots x to behind rest) =
      ap (λ n. 8 + n) (ap (λ c. passing c (asserted_units t st rest)) (sym done_same) ∙ passing_same done rest)
  passing_same first (nest_unit s inner body behind rest) = let o = over_same first in let a = passing_same inner body in let b = passing_same behind rest in omega arith
  passing_same first (if_unit c fa a fb b behind rest) = let x = passing_same fa a in let y = passing_same fb b in let z = passing_same behind rest in omega arith

  pub numbers_same : (us : Units) → numbers_in (asserted_units t st us) ≡ numbers_in us
  numbers_same no_unit = refl
  numbers_same (call_unit slots x to behind rest) = ap suc (numbers_same rest)
  numbers_same (nest_unit s first body behind rest) = let a = numbers_same body in let b = numbers_same rest in omega arith
  numbers_same (if_unit c fa a fb b behind rest) = let x = numbers_same a in let y = numbers_same b in let z = numbers_same rest in omega arith

  -- ---- arms

  any_same : (us : Units) → any_unit (asserted_units t st us) ≡ any_unit us
  any_same no_unit = refl
  any_same (call_unit slots x to behind rest) = refl
  any_same (nest_unit s first body behind rest) = refl
  any_same (if_unit c fa a fb b behind rest) = refl

  has_too : (a b : Units) → HasUnit a b → HasUnit (asserted_units t st a) (asserted_units t st b)
  has_too no_unit no_unit h = h
  has_too no_unit (call_unit slots x to behind rest) h = tt
  has_too no_unit (nest_unit s first body behind rest) h = tt
  has_too no_unit (if_unit c fa a fb b behind rest) h = tt
  has_too (call_unit slots x to behind rest) b h = tt
  has_too (nest_unit s first body behind rest) b h = tt
  has_too (if_unit c fa a fb d behind rest) b h = tt

  pub arms_too : (us : Units) → ArmsHold us → ArmsHold (asserted_units t st us)
  arms_too no_unit h = tt
  arms_too (call_unit slots x to behind rest) h = arms_too rest h
  arms_too (nest_unit s first body behind rest) h = (any_same body ∙ h.0, arms_too body h.1, arms_too rest h.2)
  arms_too (if_unit c fa a fb b behind rest) h = (has_too a b h.0, arms_too a h.1, arms_too b h.2, arms_too rest h.3)

  -- ---- calls

  one : (slots : List ℕ) (x : Callee) (to : Option ℕ) (c : Code) → calls_of (slots_got slots (plain (call_to x) (set_to to c))) ≡ x ∷ calls_of c
  one slots x to c = calls_slots slots (plain (call_to x) (set_to to c)) ∙ calls_call x (set_to to c) ∙ ap (λ z. x ∷ z) (calls_set to c)

  piece : (c : Code) (us : Units) → calls_of (flat_units (asserted_units t st us)) ≡ calls_of (flat_units us)
      → calls_of (followed_by (asserted t st c) (flat_units (asserted_units t st us))) ≡ calls_of (followed_by c (flat_units us))
  piece c us e =
      calls_then (asserted t st c) (flat_units (asserted_units t st us)) ∙ ap (λ z. z ++ calls_of (flat_units (asserted_units t st us))) (calls_stay t st c) ∙ ap (λ z. calls_of c ++ z) e
      ∙ sym (calls_then c (flat_units us))

  pub flat_calls : (us : Units) → calls_of (flat_units (asserted_units t st us)) ≡ calls_of (flat_units us)
  flat_calls no_unit = refl
  flat_calls (call_unit slots x to behind rest) =
      one slots x to (followed_by (asserted t st behind) (flat_units (asserted_units t st rest))) ∙ ap (λ z. x ∷ z) (piece behind rest (flat_calls rest))
      ∙ sym (one slots x to (followed_by behind (flat_units rest)))
  flat_calls (nest_unit s first body behind rest) =
      calls_nest s (followed_by (asserted t st first) (flat_units (asserted_units t st body))) (followed_by (asserted t st behind) (flat_units (asserted_units t st rest)))
      ∙ ap (λ z. z ++ calls_of (followed_by (asserted t st behind) (flat_units (asserted_units t st rest)))) (piece first body (flat_calls body))
      ∙ ap (λ z. calls_of (followed_by first (flat_units body)) ++ z) (piece behind rest (flat_calls rest))
      ∙ sym (calls_nest s (followed_by first (flat_units body)) (followed_by behind (flat_units rest)))
  flat_calls (if_unit c fa a fb b behind rest) =
      let a2 = followed_by (asserted t st fa) (flat_units (asserted_units t st a)) in
      let b2 = followed_by (asserted t st fb) (flat_units (asserted_units t st b)) in
      let r2 = followed_by (asserted t st behind) (flat_units (asserted_units t st rest)) in
      let a1 = followed_by fa (flat_units a) in
      let b1 = followed_by fb (flat_units b) in
      let r1 = followed_by behind (flat_units rest) in
      calls_if c a2 b2 r2 ∙ ap (λ z. z ++ calls_of b2 ++ calls_of r2) (piece fa a (flat_calls a)) ∙ ap (λ z. calls_of a1 ++ z ++ calls_of r2) (piece fb b (flat_calls b))
      ∙ ap (λ z. calls_of a1 ++ calls_of b1 ++ z) (piece behind rest (flat_calls rest)) ∙ sym (calls_if c a1 b1 r1)

  pub piece_calls : (c : Code) (us : Units) → calls_of (followed_by (asserted t st c) (flat_units (asserted_units t st us))) ≡ calls_of (followed_by c (flat_units us))
  piece_calls c us = piece c us (flat_calls us)

  -- ---- constructs around

  pub data EnclosingToo : List Enclosing → List Enclosing → Type 0 where
    none_around : EnclosingToo [] []
    block_around : {xs ys : List Enclosing} → (h k : ℕ) → (skipped skipped' skipped2 skipped2' behind : Code) → (rest : Units) → calls_of skipped2 ≡ calls_of skipped → EnclosingToo xs ys
        → EnclosingToo (in_a_block h k skipped skipped' behind rest ∷ xs) (in_a_block h k skipped2 skipped2' (asserted t st behind) (asserted_units t st rest) ∷ ys)
    loop_around : {xs ys : List Enclosing} → (h k0 : ℕ) → (first : Code) → (body : Units) → (k : ℕ) → (behind : Code) → (rest : Units) → EnclosingToo xs ys
        → EnclosingToo (in_a_loop h k0 first body k behind rest ∷ xs)
        (in_a_loop h k0 (asserted t st first) (asserted_units t st body) k (asserted t st behind) (asserted_units t st rest) ∷ ys)

  pub labels_left : (f : GuardedFunc) (xs ys : List Enclosing) → EnclosingToo xs ys → calls_behind (flat_labels (asserted_guards t st f) ys) ≡ calls_behind (flat_labels f xs)
  labels_left f _ _ none_around = refl
  labels_left f _ _ (block_around {xs = xs} {ys = ys} h k skipped skipped' skipped2 skipped2' behind rest same en) =
      let a = ap length same in let b = ap length (piece_calls behind rest) in let c = labels_left f xs ys en in omega arith
  labels_left f _ _ (loop_around {xs = xs} {ys = ys} h k0 first body k behind rest en) =
      let b = ap length (piece_calls behind rest) in let c = labels_left f xs ys en in omega arith

  -- ---- places

  -- The place in the function without asserts.
  pub record PlainPlace (f : GuardedFunc) (k : ℕ) (us2 : Units) (ys : List Enclosing) : Type 0 where
    pub us : Units
    pub xs : List Enclosing
    pub place : BodyPlace st f k us xs
    pub are : asserted_units t st us ≡ us2
    pub around : EnclosingToo xs ys

  module _ (f : GuardedFunc) where
    abbrev f2 : GuardedFunc
    f2 = asserted_guards t st f

    -- behind a call
    call_behind : (k : ℕ) (us : Units) (xs ys : List Enclosing) (slots : List ℕ) (x : Callee) (to : Option ℕ) (behind : Code) (rest : Units) → asserted_units t st us ≡ call_unit slots x to behind rest
        → BodyPlace st f k us xs → EnclosingToo xs ys → PlainPlace f (suc k) rest ys
    call_behind k no_unit xs ys slots x to behind rest e pl en = cc
    call_behind k (call_unit slots2 x2 to2 behind2 rest2) xs ys slots x to behind rest e pl en =
        let r : asserted_units t st rest2 ≡ rest = cc in record { us = rest2; xs = xs; place = past_call slots2 x2 to2 pl; are = r; around = en }
    call_behind k (nest_unit s first body behind2 rest2) xs ys slots x to behind rest e pl en = cc
    call_behind k (if_unit c fa a fb b behind2 rest2) xs ys slots x to behind rest e pl en = cc

    -- a construct
    record Nested (k : ℕ) (s : Shape) (first : Code) (body : Units) (behind : Code) (rest : Units) (ys : List Enclosing) : Type 0 where
      first1 : Code
      body1 : Units
      behind1 : Code
      rest1 : Units
      xs : List Enclosing
      place : BodyPlace st f k (nest_unit s first1 body1 behind1 rest1) xs
      first_is : asserted t st first1 ≡ first
      body_is : asserted_units t st body1 ≡ body
      behind_is : asserted t st behind1 ≡ behind
      rest_is : asserted_units t st rest1 ≡ rest
      around : EnclosingToo xs ys

    nested : (k : ℕ) (us : Units) (xs ys : List Enclosing) (s : Shape) (first : Code) (body : Units) (behind : Code) (rest : Units) → asserted_units t st us ≡ nest_unit s first body behind rest
        → BodyPlace st f k us xs → EnclosingToo xs ys → Nested k s first body behind rest ys
    nested k no_unit xs ys s first body behind rest e pl en = cc
    nested k (call_unit slots2 x2 to2 behind2 rest2) xs ys s first body behind rest e pl en = cc
    nested k (nest_unit s2 first2 body2 behind2 rest2) xs ys s first body behind rest e pl en =
        let z : s2 ≡ s = cc in
        record {
          first1 = first2;
          body1 = body2;
          behind1 = behind2;
          rest1 = rest2;
          xs = xs;
          place = subst (λ i. BodyPlace st f k (nest_unit i first2 body2 behind2 rest2) xs) z pl;
          first_is = cc;
          body_is = cc;
          behind_is = cc;
          rest_is = cc;
          around = en;
        }
    nested k (if_unit c fa a fb b behind2 rest2) xs ys s first body behind rest e pl en = cc

    record Decided (k : ℕ) (c : Option Operand) (fa : Code) (a : Units) (fb : Code) (b : Units) (behind : Code) (rest : Units) (ys : List Enclosing) : Type 0 where
      fa1 : Code
      a1 : Units
      fb1 : Code
      b1 : Units
      behind1 : Code
      rest1 : Units
      xs : List Enclosing
      place : BodyPlace st f k (if_unit c fa1 a1 fb1 b1 behind1 rest1) xs
      fa_is : asserted t st fa1 ≡ fa
      a_is : asserted_units t st a1 ≡ a
      fb_is : asserted t st fb1 ≡ fb
      b_is : asserted_units t st b1 ≡ b
      behind_is : asserted t st behind1 ≡ behind
      rest_is : asserted_units t st rest1 ≡ rest
      around : EnclosingToo xs ys

    decided : (k : ℕ) (us : Units) (xs ys : List Enclosing) (c : Option Operand) (fa : Code) (a : Units) (fb : Code) (b : Units) (behind : Code) (rest : Units)
        → asserted_units t st us ≡ if_unit c fa a fb b behind rest → BodyPlace st f k us xs → EnclosingToo xs ys → Decided k c fa a fb b behind rest ys
    decided k no_unit xs ys c fa a fb b behind rest e pl en = cc
    decided k (call_unit slots2 x2 to2 behind2 rest2) xs ys c fa a fb b behind rest e pl en = cc
    decided k (nest_unit s2 first2 body2 behind2 rest2) xs ys c fa a fb b behind rest e pl en = cc
    decided k (if_unit c2 fa2 a2 fb2 b2 behind2 rest2) xs ys c fa a fb b behind rest e pl en =
        let z : c2 ≡ c = cc in
        record {
          fa1 = fa2;
          a1 = a2;
          fb1 = fb2;
          b1 = b2;
          behind1 = behind2;
          rest1 = rest2;
          xs = xs;
          place = subst (λ i. BodyPlace st f k (if_unit i fa2 a2 fb2 b2 behind2 rest2) xs) z pl;
          fa_is = cc;
          a_is = cc;
          fb_is = cc;
          b_is = cc;
          behind_is = cc;
          rest_is = cc;
          around = en;
        }

    around_if : (xs ys : List Enclosing) (h i j : ℕ) → i ≡ j → (sk sk' sk2 sk2' behind1 behind : Code) → asserted t st behind1 ≡ behind → (rest1 rest : Units) → asserted_units t st rest1 ≡ rest
        → calls_of sk2 ≡ calls_of sk → EnclosingToo xs ys → EnclosingToo (in_a_block h i sk sk' behind1 rest1 ∷ xs) (in_a_block h j sk2 sk2' behind rest ∷ ys)
    around_if xs ys h i j e sk sk' sk2 sk2' behind1 behind eb rest1 rest er same en =
        subst (λ n. EnclosingToo (in_a_block h i sk sk' behind1 rest1 ∷ xs) (in_a_block h n sk2 sk2' behind rest ∷ ys)) e
        (subst (λ q. EnclosingToo (in_a_block h i sk sk' behind1 rest1 ∷ xs) (in_a_block h i sk2 sk2' behind q ∷ ys)) er
        (subst (λ q. EnclosingToo (in_a_block h i sk sk' behind1 rest1 ∷ xs) (in_a_block h i sk2 sk2' q (asserted_units t st rest1) ∷ ys)) eb
        (block_around h i sk sk' sk2 sk2' behind1 rest1 same en)))

    count_on : (k : ℕ) (us us2 : Units) → asserted_units t st us ≡ us2 → k + numbers_in us ≡ k + numbers_in us2
    count_on k us us2 e = ap (λ n. k + n) (sym (numbers_same us) ∙ ap numbers_in e)

    pub plain_place : (k : ℕ) (us2 : Units) (ys : List Enclosing) → BodyPlace st (asserted_guards t st f) k us2 ys → PlainPlace f k us2 ys
    plain_place _ _ _ at_start = record { us = f.body; xs = []; place = at_start; are = refl; around = none_around }
    plain_place _ us2 ys (past_call {k = k} {behind = behind} slots x to pl) =
        let r = plain_place k (call_unit slots x to behind us2) ys pl in
        call_behind k r.us r.xs ys slots x to behind us2 r.are r.place r.around
    plain_place _ us2 ys (past_block {k = k} {behind = behind} first body pl) =
        let r = plain_place k (nest_unit a_block first body behind us2) ys pl in
        let n = nested k r.us r.xs ys a_block first body behind us2 r.are r.place r.around in
        subst (λ i. PlainPlace f i us2 ys) (count_on k n.body1 body n.body_is)
        (record { us = n.rest1; xs = n.xs; place = past_block n.first1 n.body1 n.place; are = n.rest_is; around = n.around })
    plain_place _ us2 ys (past_loop {k = k} {behind = behind} first body pl) =
        let r = plain_place k (nest_unit a_loop first body behind us2) ys pl in
        let n = nested k r.us r.xs ys a_loop first body behind us2 r.are r.place r.around in
        subst (λ i. PlainPlace f i us2 ys) (count_on k n.body1 body n.body_is)
        (record { us = n.rest1; xs = n.xs; place = past_loop n.first1 n.body1 n.place; are = n.rest_is; around = n.around })
    plain_place _ us2 ys (past_if {k = k} {behind = behind} c fa a fb b pl) =
        let r = plain_place k (if_unit c fa a fb b behind us2) ys pl in
        let n = decided k r.us r.xs ys c fa a fb b behind us2 r.are r.place r.around in
        subst (λ i. PlainPlace f i us2 ys) (count_on (k + numbers_in n.a1) n.b1 b n.b_is ∙ ap (λ i. i + numbers_in b) (count_on k n.a1 a n.a_is))
        (record { us = n.rest1; xs = n.xs; place = past_if c n.fa1 n.a1 n.fb1 n.b1 n.place; are = n.rest_is; around = n.around })
    plain_place _ us2 _ (in_block {k = k} {first = first} {behind = behind} {rest = rest} {xs = ys} h pl) =
        let r = plain_place k (nest_unit a_block first us2 behind rest) ys pl in
        let n = nested k r.us r.xs ys a_block first us2 behind rest r.are r.place r.around in
        record {
          us = n.body1;
          xs = in_a_block h (k + numbers_in n.body1) done done n.behind1 n.rest1 ∷ n.xs;
          place = in_block h n.place;
          are = n.body_is;
          around =
              around_if n.xs ys h (k + numbers_in n.body1) (k + numbers_in us2) (count_on k n.body1 us2 n.body_is) done done done done n.behind1 behind n.behind_is n.rest1 rest n.rest_is refl n.around;
        }
    plain_place _ us2 _ (in_loop {k = k} {first = first} {behind = behind} {rest = rest} {xs = ys} h pl) =
        let r = plain_place k (nest_unit a_loop first us2 behind rest) ys pl in
        let n = nested k r.us r.xs ys a_loop first us2 behind rest r.are r.place r.around in
        let here : List Enclosing = in_a_loop h k n.first1 n.body1 (k + numbers_in n.body1) n.behind1 n.rest1 ∷ n.xs in
        record {
          us = n.body1;
          xs = in_a_loop h k n.first1 n.body1 (k + numbers_in n.body1) n.behind1 n.rest1 ∷ n.xs;
          place = in_loop h n.place;
          are = n.body_is;
          around =
              subst (λ i. EnclosingToo here (in_a_loop h k first us2 i behind rest ∷ ys)) (count_on k n.body1 us2 n.body_is)
              (subst (λ q. EnclosingToo here (in_a_loop h k q us2 (k + numbers_in n.body1) behind rest ∷ ys)) n.first_is
              (subst (λ q. EnclosingToo here (in_a_loop h k (asserted t st n.first1) q (k + numbers_in n.body1) behind rest ∷ ys)) n.body_is
              (subst (λ q. EnclosingToo here (in_a_loop h k (asserted t st n.first1) (asserted_units t st n.body1) (k + numbers_in n.body1) behind q ∷ ys)) n.rest_is
              (subst (λ q. EnclosingToo here (in_a_loop h k (asserted t st n.first1) (asserted_units t st n.body1) (k + numbers_in n.body1) q (asserted_units t st n.rest1) ∷ ys)) n.behind_is
              (loop_around h k n.first1 n.body1 (k + numbers_in n.body1) n.behind1 n.rest1 n.around)))));
        }
    plain_place _ us2 _ (in_then {k = k} {c = c} {fa = fa} {fb = fb} {b = b} {behind = behind} {rest = rest} {xs = ys} h pl) =
        let r = plain_place k (if_unit c fa us2 fb b behind rest) ys pl in
        let n = decided k r.us r.xs ys c fa us2 fb b behind rest r.are r.place r.around in
        let pl1 = in_then h n.place in
        let same : calls_of (followed_by fb (flat_units b)) ≡ calls_of (followed_by n.fb1 (flat_units n.b1)) =
        ap (λ q. calls_of (followed_by q (flat_units b))) (sym n.fb_is) ∙ ap (λ q. calls_of (followed_by (asserted t st n.fb1) (flat_units q))) (sym n.b_is) ∙ piece_calls n.fb1 n.b1 in
        let count : k + numbers_in n.a1 + numbers_in n.b1 ≡ k + numbers_in us2 + numbers_in b =
        count_on (k + numbers_in n.a1) n.b1 b n.b_is ∙ ap (λ i. i + numbers_in b) (count_on k n.a1 us2 n.a_is) in
        record {
          us = n.a1;
          xs = _;
          place = pl1;
          are = n.a_is;
          around =
              around_if n.xs ys h (k + numbers_in n.a1 + numbers_in n.b1) (k + numbers_in us2 + numbers_in b) count _ _ (followed_by fb (flat_units b)) _ n.behind1 behind n.behind_is n.rest1 rest n.rest_is
              same n.around;
        }
    plain_place _ us2 _ (in_else {k = k} {c = c} {fa = fa} {a = a} {fb = fb} {behind = behind} {rest = rest} {xs = ys} h pl) =
        let r = plain_place k (if_unit c fa a fb us2 behind rest) ys pl in
        let n = decided k r.us r.xs ys c fa a fb us2 behind rest r.are r.place r.around in
        let count : k + numbers_in n.a1 + numbers_in n.b1 ≡ k + numbers_in a + numbers_in us2 =
        count_on (k + numbers_in n.a1) n.b1 us2 n.b_is ∙ ap (λ i. i + numbers_in us2) (count_on k n.a1 a n.a_is) in
        subst (λ i. PlainPlace f i us2 (in_a_block h (k + numbers_in a + numbers_in us2) done done behind rest ∷ ys)) (count_on k n.a1 a n.a_is)
        (record {
          us = n.b1;
          xs = _;
          place = in_else h n.place;
          are = n.b_is;
          around =
              around_if n.xs ys h (k + numbers_in n.a1 + numbers_in n.b1) (k + numbers_in a + numbers_in us2) count done done done done n.behind1 behind n.behind_is n.rest1 rest n.rest_is refl n.around;
        })
