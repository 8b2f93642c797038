-- To assert the pieces is to assert what is written of them.
use Rattle.std.proofs.Common.{◌≡◌, ◌∙◌, ℕ, zero, suc, ◌+◌, List, [], ◌∷◌, ◌++◌, Option, Some, None, Bool, true, false, refl, sym, ap}
use Rattle.std.specs.Prelude.{if◌then◌else◌}
use Rattle.wa_types.specs.Pausing.{Callee, direct, indirect, callee, callee_onto, calls_of}
use Rattle.wa_types.specs.declared.values.ValType.TheVariants.{I32}
use Rattle.wa_types.specs.declared.operators.NumOp.TheVariants.{I32LtU, I32Ne}
use Rattle.wa_types.specs.Syntax.{global_get, num, Plain, basic, local_get, local_set, local_tee, br, br_if, br_table, return, unreachable, call, call_indirect, a_block, a_loop, Code, done, plain, nest, branch}
use Rattle.run_theory.specs.Flat.{followed_by, set_to, slots_got}
use Rattle.wa_model.specs.declared.flat.Operand.{Operand}
use Rattle.wa_model.specs.declared.flat.Operand.TheVariants.{Local, Const}
use Rattle.guard_form.specs.Guarded.{raised_plain, raised, GuardIndices, by_state, guarded, sought, noted, index_noted, choice, arm, Exit, its_end, by_label, nowhere, function_end, exit_inside, last_piece, one_more, ends_too, index_with}
use Rattle.guard_form.specs.Guarded.{call_front, call_guarded, front, sought_first, call_entry, entry, guarded_body}
use Rattle.guard_form.specs.Pieces.{Units, no_unit, call_unit, nest_unit, if_unit, any_unit, numbers_in, call_to, flat_units, got_any}
use Rattle.guard_form.specs.Asserts.{assert_code, tested_behind, asserted}
use Rattle.assert_laws.specs.AssertedUnits.{asserted_units, UnitsUntested, FlatIsAsserted, GuardedIsAsserted, WrittenIsAsserted}

module _ (t : Callee → Bool) (st : ℕ) where
  abbrev put : Code → Code
  put c = asserted t st c

  abbrev behind : Option Callee → Code → Code
  behind o c = tested_behind t st o c

  -- ---- labels raised

  same_callee : (d n : ℕ) (p : Plain) → callee (raised_plain d n p) ≡ callee p
  same_callee d n (basic b) = refl
  same_callee d n (local_get x) = refl
  same_callee d n (local_set x) = refl
  same_callee d n (local_tee x) = refl
  same_callee d n (br l) = refl
  same_callee d n (br_if l) = refl
  same_callee d n (br_table ls l) = refl
  same_callee d n return = refl
  same_callee d n unreachable = refl
  same_callee d n (call x) = refl
  same_callee d n (call_indirect x) = refl

  raised_behind : (d n : ℕ) (o : Option Callee) (c : Code) → raised d n (behind o c) ≡ behind o (raised d n c)
  raised_behind d n None c = refl
  raised_behind d n (Some x) c = by (t x)
    where
      by : (b : Bool) → raised d n (if b then assert_code st c else c) ≡ (if b then assert_code st (raised d n c) else raised d n c)
      by true = refl
      by false = refl

  raised_too : (d n : ℕ) (c : Code) → raised d n (put c) ≡ put (raised d n c)
  unfolding asserted
  raised_too d n done = refl
  raised_too d n (plain p rest) =
      ap (plain (raised_plain d n p)) (raised_behind d n (callee p) (put rest) ∙ ap (behind (callee p)) (raised_too d n rest) ∙ ap (λ o. behind o (put (raised d n rest))) (sym (same_callee d n p)))
  raised_too d n (nest s r body rest) = ap (λ x. nest s r x (raised d n (put rest))) (raised_too (suc d) n body) ∙ ap (nest s r (put (raised (suc d) n body))) (raised_too d n rest)
  raised_too d n (branch r a b rest) =
      ap (λ x. branch r x (raised (suc d) n (put b)) (raised d n (put rest))) (raised_too (suc d) n a) ∙ ap (λ x. branch r (put (raised (suc d) n a)) x (raised d n (put rest))) (raised_too (suc d) n b)
      ∙ ap (branch r (put (raised (suc d) n a)) (put (raised (suc d) n b))) (raised_too d n rest)

  -- ---- one behind the other

  followed_behind : (o : Option Callee) (c d : Code) → followed_by (behind o c) d ≡ behind o (followed_by c d)
  unfolding followed_by
  followed_behind None c d = refl
  followed_behind (Some x) c d = by (t x)
    where
      by : (b : Bool) → followed_by (if b then assert_code st c else c) d ≡ (if b then assert_code st (followed_by c d) else followed_by c d)
      by true = refl
      by false = refl

  followed_too : (c d : Code) → followed_by (put c) (put d) ≡ put (followed_by c d)
  unfolding asserted followed_by
  followed_too done d = refl
  followed_too (plain p rest) d = ap (plain p) (followed_behind (callee p) (put rest) (put d) ∙ ap (behind (callee p)) (followed_too rest d))
  followed_too (nest s r body rest) d = ap (nest s r (put body)) (followed_too rest d)
  followed_too (branch r a b rest) d = ap (branch r (put a) (put b)) (followed_too rest d)

  slots_too : (xs : List ℕ) (c : Code) → slots_got xs (put c) ≡ put (slots_got xs c)
  unfolding asserted
  slots_too [] c = refl
  slots_too (x ∷ xs) c = ap (plain (local_get x)) (slots_too xs c)

  set_too : (to : Option ℕ) (c : Code) → set_to to (put c) ≡ put (set_to to c)
  unfolding asserted
  set_too None c = refl
  set_too (Some x) c = refl

  got_too : (o : Option Operand) (c : Code) → got_any o (put c) ≡ put (got_any o c)
  unfolding asserted
  got_too None c = refl
  got_too (Some (Local x)) c = refl
  got_too (Some (Const v)) c = refl

  -- a call that isn't tested
  call_too : (x : Callee) (c : Code) → t x ≡ false → plain (call_to x) (put c) ≡ put (plain (call_to x) c)
  unfolding asserted
  call_too (direct f) c e = ap (λ b. plain (call f) (if b then assert_code st (put c) else put c)) (sym e)
  call_too (indirect s) c e = ap (λ b. plain (call_indirect s) (if b then assert_code st (put c) else put c)) (sym e)

  -- ---- flat code

  flat_too : (us : Units) → UnitsUntested t us → flat_units (asserted_units t st us) ≡ put (flat_units us)
  unfolding asserted
  flat_too no_unit h = refl
  flat_too (call_unit slots x to b rest) h =
      ap (λ z. slots_got slots (plain (call_to x) (set_to to (followed_by (put b) z)))) (flat_too rest h.1)
      ∙ ap (λ z. slots_got slots (plain (call_to x) (set_to to z))) (followed_too b (flat_units rest))
      ∙ ap (λ z. slots_got slots (plain (call_to x) z)) (set_too to (followed_by b (flat_units rest)))
      ∙ ap (slots_got slots) (call_too x (set_to to (followed_by b (flat_units rest))) h.0)
      ∙ slots_too slots (plain (call_to x) (set_to to (followed_by b (flat_units rest))))
  flat_too (nest_unit s first body b rest) h =
      ap (λ z. nest s None (followed_by (put first) z) (followed_by (put b) (flat_units (asserted_units t st rest)))) (flat_too body h.0)
      ∙ ap (λ z. nest s None (followed_by (put first) (put (flat_units body))) (followed_by (put b) z)) (flat_too rest h.1)
      ∙ ap (λ z. nest s None z (followed_by (put b) (put (flat_units rest)))) (followed_too first (flat_units body))
      ∙ ap (nest s None (put (followed_by first (flat_units body)))) (followed_too b (flat_units rest))
  flat_too (if_unit c fa a fb e b rest) h =
      ap (λ z. got_any c (branch None (followed_by (put fa) z) (followed_by (put fb) (flat_units (asserted_units t st e))) (followed_by (put b) (flat_units (asserted_units t st rest))))) (flat_too a h.0)
      ∙ ap (λ z. got_any c (branch None (followed_by (put fa) (put (flat_units a))) (followed_by (put fb) z) (followed_by (put b) (flat_units (asserted_units t st rest))))) (flat_too e h.1)
      ∙ ap (λ z. got_any c (branch None (followed_by (put fa) (put (flat_units a))) (followed_by (put fb) (put (flat_units e))) (followed_by (put b) z))) (flat_too rest h.2)
      ∙ ap (λ z. got_any c (branch None z (followed_by (put fb) (put (flat_units e))) (followed_by (put b) (put (flat_units rest))))) (followed_too fa (flat_units a))
      ∙ ap (λ z. got_any c (branch None (put (followed_by fa (flat_units a))) z (followed_by (put b) (put (flat_units rest))))) (followed_too fb (flat_units e))
      ∙ ap (λ z. got_any c (branch None (put (followed_by fa (flat_units a))) (put (followed_by fb (flat_units e))) z)) (followed_too b (flat_units rest))
      ∙ got_too c (branch None (followed_by fa (flat_units a)) (followed_by fb (flat_units e)) (followed_by b (flat_units rest)))

  -- ---- guarded code

  module _ (i : GuardIndices) where
    guarded_too : (first next : Code) → guarded i (put first) (put next) ≡ put (guarded i first next)
    unfolding asserted
    guarded_too done next = refl
    guarded_too (plain p rest) next = ap (λ z. by_state i.state done z (put next)) (raised_too 0 1 (plain p rest))
    guarded_too (nest s r body rest) next = ap (λ z. by_state i.state done z (put next)) (raised_too 0 1 (nest s r body rest))
    guarded_too (branch r a b rest) next = ap (λ z. by_state i.state done z (put next)) (raised_too 0 1 (branch r a b rest))

    sought_too : (l n k : ℕ) (first next : Code) → sought i l n k (put first) (put next) ≡ put (sought i l n k first next)
    unfolding asserted
    sought_too l n k first next = ap (λ z. by_state i.state (index_with i (basic (num I32Ne)) k (plain (br_if l) done)) z (put next)) (raised_too 0 n first)

    noted_too : (l k : ℕ) (next : Code) → noted i l k (put next) ≡ put (noted i l k next)
    unfolding asserted
    noted_too l k next = by i.first_unnoted k
      where
        by : (b : Bool) (k : ℕ) → index_noted b i.index k (plain (basic (global_get i.state)) (plain (br_if l) (put next))) ≡ put (index_noted b i.index k (plain (basic (global_get i.state)) (plain (br_if l) next)))
        by true zero = refl
        by true (suc k) = refl
        by false k = refl

    last_too : (e : Exit) (c : Code) → last_piece i e (put c) ≡ put (last_piece i e c)
    unfolding asserted
    last_too its_end c = guarded_too c done
    last_too (by_label l) c = refl
    last_too nowhere c = refl
    last_too function_end c = followed_too c (plain return done)

    ends_put : (e : Exit) (own : Bool) (c : Code) → ends_too e own (put c) ≡ put (ends_too e own c)
    unfolding asserted
    ends_put e true c = refl
    ends_put its_end false c = refl
    ends_put (by_label l) false c = refl
    ends_put nowhere false c = refl
    ends_put function_end false c = followed_too c (plain return done)

    -- numbers don't change
    numbers_too : (us : Units) → numbers_in (asserted_units t st us) ≡ numbers_in us
    numbers_too no_unit = refl
    numbers_too (call_unit slots x to b rest) = ap suc (numbers_too rest)
    numbers_too (nest_unit s first body b rest) = ap (λ n. n + numbers_in (asserted_units t st rest)) (numbers_too body) ∙ ap (λ n. numbers_in body + n) (numbers_too rest)
    numbers_too (if_unit c fa a fb e b rest) =
        ap (λ n. n + numbers_in (asserted_units t st e) + numbers_in (asserted_units t st rest)) (numbers_too a) ∙ ap (λ n. numbers_in a + n + numbers_in (asserted_units t st rest)) (numbers_too e)
        ∙ ap (λ n. numbers_in a + numbers_in e + n) (numbers_too rest)

    any_too : (us : Units) → any_unit (asserted_units t st us) ≡ any_unit us
    any_too no_unit = refl
    any_too (call_unit slots x to b rest) = refl
    any_too (nest_unit s first body b rest) = refl
    any_too (if_unit c fa a fb e b rest) = refl

    choice_too : (k : ℕ) (a b : Units) → choice i k (asserted_units t st a) (asserted_units t st b) ≡ put (choice i k a b)
    unfolding asserted
    choice_too k a no_unit = refl
    choice_too k no_unit (call_unit slots2 x2 to2 c2 rest2) = refl
    choice_too k (call_unit slots1 x1 to1 c1 rest1) (call_unit slots2 x2 to2 c2 rest2) = ap (λ n. index_with i (basic (num I32LtU)) (k + n) done) (numbers_too (call_unit slots1 x1 to1 c1 rest1))
    choice_too k (nest_unit s1 first1 body1 c1 rest1) (call_unit slots2 x2 to2 c2 rest2) = ap (λ n. index_with i (basic (num I32LtU)) (k + n) done) (numbers_too (nest_unit s1 first1 body1 c1 rest1))
    choice_too k (if_unit c1 fa1 a1 fb1 b1 d1 rest1) (call_unit slots2 x2 to2 c2 rest2) = ap (λ n. index_with i (basic (num I32LtU)) (k + n) done) (numbers_too (if_unit c1 fa1 a1 fb1 b1 d1 rest1))
    choice_too k no_unit (nest_unit s2 first2 body2 c2 rest2) = refl
    choice_too k (call_unit slots1 x1 to1 c1 rest1) (nest_unit s2 first2 body2 c2 rest2) = ap (λ n. index_with i (basic (num I32LtU)) (k + n) done) (numbers_too (call_unit slots1 x1 to1 c1 rest1))
    choice_too k (nest_unit s1 first1 body1 c1 rest1) (nest_unit s2 first2 body2 c2 rest2) = ap (λ n. index_with i (basic (num I32LtU)) (k + n) done) (numbers_too (nest_unit s1 first1 body1 c1 rest1))
    choice_too k (if_unit c1 fa1 a1 fb1 b1 d1 rest1) (nest_unit s2 first2 body2 c2 rest2) = ap (λ n. index_with i (basic (num I32LtU)) (k + n) done) (numbers_too (if_unit c1 fa1 a1 fb1 b1 d1 rest1))
    choice_too k no_unit (if_unit c2 fa2 a2 fb2 b2 d2 rest2) = refl
    choice_too k (call_unit slots1 x1 to1 c1 rest1) (if_unit c2 fa2 a2 fb2 b2 d2 rest2) = ap (λ n. index_with i (basic (num I32LtU)) (k + n) done) (numbers_too (call_unit slots1 x1 to1 c1 rest1))
    choice_too k (nest_unit s1 first1 body1 c1 rest1) (if_unit c2 fa2 a2 fb2 b2 d2 rest2) = ap (λ n. index_with i (basic (num I32LtU)) (k + n) done) (numbers_too (nest_unit s1 first1 body1 c1 rest1))
    choice_too k (if_unit c1 fa1 a1 fb1 b1 d1 rest1) (if_unit c2 fa2 a2 fb2 b2 d2 rest2) = ap (λ n. index_with i (basic (num I32LtU)) (k + n) done) (numbers_too (if_unit c1 fa1 a1 fb1 b1 d1 rest1))

    arm_too : (a : Units) (first code code' : Code) → code' ≡ put code → arm (asserted_units t st a) (put first) code' ≡ put (arm a first code)
    arm_too no_unit first code code' e = refl
    arm_too (call_unit slots x to b rest) first code code' e = e
    arm_too (nest_unit s inner body b rest) first code code' e = e
    arm_too (if_unit c fa a fb d b rest) first code code' e = e

    call_guarded_too : (v : Exit) (own : Bool) (d k : ℕ) (slots : List ℕ) (x : Callee) (to : Option ℕ) (b : Code) → t x ≡ false
        → call_guarded i v own d k slots x to (put b) ≡ put (call_guarded i v own d k slots x to b)
    call_guarded_too v own d k slots x to b e =
        let ended : Code = ends_too v own (raised 0 (one_more own 0) b) in
        let c : Code = set_to to ended in
        ap (λ z. slots_got slots (plain (call_to x) (noted i (one_more own d) k (set_to to (ends_too v own z))))) (raised_too 0 (one_more own 0) b)
        ∙ ap (λ z. slots_got slots (plain (call_to x) (noted i (one_more own d) k (set_to to z)))) (ends_put v own (raised 0 (one_more own 0) b))
        ∙ ap (λ z. slots_got slots (plain (call_to x) (noted i (one_more own d) k z))) (set_too to ended)
        ∙ ap (λ z. slots_got slots (plain (call_to x) z)) (noted_too (one_more own d) k c)
        ∙ ap (slots_got slots) (call_too x (noted i (one_more own d) k c) e)
        ∙ slots_too slots (plain (call_to x) (noted i (one_more own d) k c))

    -- in a block of its own
    in_own : (k : ℕ) (first : Code) (code code' next next' : Code) → code' ≡ put code → next' ≡ put next
        → nest a_block None (sought i 1 2 k (put first) code') next' ≡ put (nest a_block None (sought i 1 2 k first code) next)
    unfolding asserted
    in_own k first code code' next next' e e2 =
        ap (λ z. nest a_block None (sought i 1 2 k (put first) z) next') e ∙ ap (λ z. nest a_block None (sought i 1 2 k (put first) (put code)) z) e2
        ∙ ap (λ z. nest a_block None z (put next)) (sought_too 1 2 k first code)

    call_front_too : (e : Exit) (more : Bool) (k : ℕ) (first : Code) (go go' : Bool → Code) (next next' : Code) → ((own : Bool) → go' own ≡ put (go own)) → next' ≡ put next
        → call_front i e more k (put first) go' next' ≡ put (call_front i e more k first go next)
    call_front_too its_end more k first go go' next next' ec en = in_own k first (go true) (go' true) next next' (ec true) en
    call_front_too (by_label l) true k first go go' next next' ec en = in_own k first (go true) (go' true) next next' (ec true) en
    call_front_too (by_label l) false k first go go' next next' ec en = ap (sought i (suc l) 1 k (put first)) (ec false) ∙ sought_too (suc l) 1 k first (go false)
    call_front_too nowhere true k first go go' next next' ec en = in_own k first (go true) (go' true) next next' (ec true) en
    call_front_too nowhere false k first go go' next next' ec en = ap (guarded i (put first)) (ec false) ∙ guarded_too first (go false)
    call_front_too function_end true k first go go' next next' ec en = in_own k first (go true) (go' true) next next' (ec true) en
    call_front_too function_end false k first go go' next next' ec en = ap (guarded i (put first)) (ec false) ∙ guarded_too first (go false)

    front_too : (e : Exit) (d k : ℕ) (first : Code) (us : Units) → UnitsUntested t us → front i e d k (put first) (asserted_units t st us) ≡ put (front i e d k first us)
    unfolding asserted
    front_too e d k first no_unit h = last_too e first
    front_too e d k first (call_unit slots x to b rest) h =
        ap (λ m. call_front i e m k (put first) (λ own. call_guarded i e own d k slots x to (put b)) (front i e d (suc k) done (asserted_units t st rest))) (any_too rest)
        ∙ call_front_too e (any_unit rest) k first (λ own. call_guarded i e own d k slots x to b) (λ own. call_guarded i e own d k slots x to (put b)) (front i e d (suc k) done rest)
        (front i e d (suc k) done (asserted_units t st rest)) (λ own. call_guarded_too e own d k slots x to b h.0) (front_too e d (suc k) done rest h.1)
    front_too e d k first (nest_unit s inner body b rest) h =
        ap (λ m. guarded i (put first) (nest s None (front i (exit_inside e s m) (suc d) k (put inner) (asserted_units t st body))
        (front i e d (k + numbers_in (asserted_units t st body)) (put b) (asserted_units t st rest)))) (any_too rest)
        ∙ ap (λ n. guarded i (put first) (nest s None (front i (exit_inside e s (any_unit rest)) (suc d) k (put inner) (asserted_units t st body))
        (front i e d (k + n) (put b) (asserted_units t st rest)))) (numbers_too body)
        ∙ ap (λ z. guarded i (put first) (nest s None z (front i e d (k + numbers_in body) (put b) (asserted_units t st rest)))) (front_too (exit_inside e s (any_unit rest)) (suc d) k inner body h.0)
        ∙ ap (λ z. guarded i (put first) (nest s None (put (front i (exit_inside e s (any_unit rest)) (suc d) k inner body)) z)) (front_too e d (k + numbers_in body) b rest h.1)
        ∙ guarded_too first (nest s None (front i (exit_inside e s (any_unit rest)) (suc d) k inner body) (front i e d (k + numbers_in body) b rest))
    front_too e d k first (if_unit c fa a fb b h2 rest) h =
        ap (λ m. whole (choice i k a2 b2) (raised 0 1 (followed_by (put first) (got_any c done))) (then2 m) (else2 m (numbers_in a2)) (rest2 (numbers_in a2) (numbers_in b2))) (any_too rest)
        ∙ ap (λ n. whole (choice i k a2 b2) (raised 0 1 (followed_by (put first) (got_any c done))) (then2 (any_unit rest)) (else2 (any_unit rest) n) (rest2 n (numbers_in b2))) (numbers_too a)
        ∙ ap (λ n. whole (choice i k a2 b2) (raised 0 1 (followed_by (put first) (got_any c done))) (then2 (any_unit rest)) (else2 (any_unit rest) (numbers_in a)) (rest2 (numbers_in a) n)) (numbers_too b)
        ∙ ap (λ z. whole z (raised 0 1 (followed_by (put first) (got_any c done))) (then2 (any_unit rest)) (else2 (any_unit rest) (numbers_in a)) (rest2 (numbers_in a) (numbers_in b))) (choice_too k a b)
        ∙ ap (λ z. whole (put (choice i k a b)) z (then2 (any_unit rest)) (else2 (any_unit rest) (numbers_in a)) (rest2 (numbers_in a) (numbers_in b))) condition
        ∙ ap (λ z. whole (put (choice i k a b)) (put (raised 0 1 (followed_by first (got_any c done)))) z (else2 (any_unit rest) (numbers_in a)) (rest2 (numbers_in a) (numbers_in b)))
        (arm_too a fa _ _ (front_too (exit_inside e a_block (any_unit rest)) (suc d) k fa a h.0))
        ∙ ap (λ z. whole (put (choice i k a b)) (put (raised 0 1 (followed_by first (got_any c done)))) (put (arm a fa (front i (exit_inside e a_block (any_unit rest)) (suc d) k fa a))) z
        (rest2 (numbers_in a) (numbers_in b))) (arm_too b fb _ _ (front_too (exit_inside e a_block (any_unit rest)) (suc d) (k + numbers_in a) fb b h.1))
        ∙ ap (whole (put (choice i k a b)) (put (raised 0 1 (followed_by first (got_any c done)))) (put (arm a fa (front i (exit_inside e a_block (any_unit rest)) (suc d) k fa a)))
        (put (arm b fb (front i (exit_inside e a_block (any_unit rest)) (suc d) (k + numbers_in a) fb b)))) (front_too e d (k + numbers_in a + numbers_in b) h2 rest h.2)
      where
        a2 : Units
        a2 = asserted_units t st a

        b2 : Units
        b2 = asserted_units t st b

        whole : (which cond x y z : Code) → Code
        whole which cond x y z = plain (basic (global_get i.state)) (branch (Some I32) which cond (branch None x y z))

        then2 : Bool → Code
        then2 m = arm a2 (put fa) (front i (exit_inside e a_block m) (suc d) k (put fa) a2)

        else2 : Bool → ℕ → Code
        else2 m n = arm b2 (put fb) (front i (exit_inside e a_block m) (suc d) (k + n) (put fb) b2)

        rest2 : ℕ → ℕ → Code
        rest2 n o = front i e d (k + n + o) (put h2) (asserted_units t st rest)

        condition : raised 0 1 (followed_by (put first) (got_any c done)) ≡ put (raised 0 1 (followed_by first (got_any c done)))
        condition = ap (λ z. raised 0 1 (followed_by (put first) z)) (got_too c done) ∙ ap (raised 0 1) (followed_too first (got_any c done)) ∙ raised_too 0 1 (followed_by first (got_any c done))

    -- ---- a sequence that a function begins with

    -- other code in the first arm of the first test
    abbrev with_arm : Code → Code → Code
    with_arm w done = done
    with_arm w (plain p (branch r a b c)) = plain p (branch r w b c)
    with_arm w c = c

    module _ (r : Code → Code) (same : (c : Code) → r (put c) ≡ put (r c)) where
      -- a test of its own
      alone_too : (first next : Code) → by_state i.state (r done) (raised 0 1 (put first)) (put next) ≡ put (by_state i.state (r done) (raised 0 1 first) next)
      unfolding asserted
      alone_too first next =
          ap (λ z. by_state i.state z (raised 0 1 (put first)) (put next)) (same done) ∙ ap (λ z. by_state i.state (put (r done)) z (put next)) (raised_too 0 1 first)

      first_too : (l n k : ℕ) (first next : Code) → sought_first i r l n k (put first) (put next) ≡ put (sought_first i r l n k first next)
      unfolding asserted
      first_too l n k first next =
          let tested : Code = index_with i (basic (num I32Ne)) k (plain (br_if l) done) in
          ap (λ z. by_state i.state z (raised 0 n (put first)) (put next)) (same tested) ∙ ap (λ z. by_state i.state (put (r tested)) z (put next)) (raised_too 0 n first)

      in_first : (k : ℕ) (first : Code) (code code' next next' : Code) → code' ≡ put code → next' ≡ put next
          → nest a_block None (sought_first i r 1 2 k (put first) code') next' ≡ put (nest a_block None (sought_first i r 1 2 k first code) next)
      unfolding asserted
      in_first k first code code' next next' e e2 =
          ap (λ z. nest a_block None (sought_first i r 1 2 k (put first) z) next') e ∙ ap (λ z. nest a_block None (sought_first i r 1 2 k (put first) (put code)) z) e2
          ∙ ap (λ z. nest a_block None z (put next)) (first_too 1 2 k first code)

      call_entry_too : (e : Exit) (more : Bool) (k : ℕ) (first : Code) (go go' : Bool → Code) (next next' : Code) → ((own : Bool) → go' own ≡ put (go own)) → next' ≡ put next
          → call_entry i r e more k (put first) go' next' ≡ put (call_entry i r e more k first go next)
      call_entry_too its_end more k first go go' next next' ec en = in_first k first (go true) (go' true) next next' (ec true) en
      call_entry_too (by_label l) true k first go go' next next' ec en = in_first k first (go true) (go' true) next next' (ec true) en
      call_entry_too (by_label l) false k first go go' next next' ec en = ap (sought_first i r (suc l) 1 k (put first)) (ec false) ∙ first_too (suc l) 1 k first (go false)
      call_entry_too nowhere true k first go go' next next' ec en = in_first k first (go true) (go' true) next next' (ec true) en
      call_entry_too nowhere false k first go go' next next' ec en = ap (by_state i.state (r done) (raised 0 1 (put first))) (ec false) ∙ alone_too first (go false)
      call_entry_too function_end true k first go go' next next' ec en = in_first k first (go true) (go' true) next next' (ec true) en
      call_entry_too function_end false k first go go' next next' ec en = ap (by_state i.state (r done) (raised 0 1 (put first))) (ec false) ∙ alone_too first (go false)

      -- a test in front of a construct
      before_too : (e : Exit) (d k : ℕ) (first : Code) (us : Units) → UnitsUntested t us
          → by_state i.state (r done) (raised 0 1 (put first)) (front i e d k done (asserted_units t st us)) ≡ put (by_state i.state (r done) (raised 0 1 first) (front i e d k done us))
      unfolding asserted
      before_too e d k first us h = ap (by_state i.state (r done) (raised 0 1 (put first))) (front_too e d k done us h) ∙ alone_too first (front i e d k done us)

      entry_too : (e : Exit) (d k : ℕ) (first : Code) (us : Units) → UnitsUntested t us → entry i r e d k (put first) (asserted_units t st us) ≡ put (entry i r e d k first us)
      unfolding asserted
      entry_too e d k first no_unit h = ap (by_state i.state (r done) done) (last_too e first) ∙ alone_too done (last_piece i e first)
      entry_too e d k first (call_unit slots x to b rest) h =
          ap (λ m. call_entry i r e m k (put first) (λ own. call_guarded i e own d k slots x to (put b)) (front i e d (suc k) done (asserted_units t st rest))) (any_too rest)
          ∙ call_entry_too e (any_unit rest) k first (λ own. call_guarded i e own d k slots x to b) (λ own. call_guarded i e own d k slots x to (put b)) (front i e d (suc k) done rest)
          (front i e d (suc k) done (asserted_units t st rest)) (λ own. call_guarded_too e own d k slots x to b h.0) (front_too e d (suc k) done rest h.1)
      entry_too e d k done (nest_unit a_block inner body b rest) h =
          ap (λ m. nest a_block None (entry i r (exit_inside e a_block m) (suc d) k (put inner) (asserted_units t st body))
          (front i e d (k + numbers_in (asserted_units t st body)) (put b) (asserted_units t st rest))) (any_too rest)
          ∙ ap (λ n. nest a_block None (entry i r (exit_inside e a_block (any_unit rest)) (suc d) k (put inner) (asserted_units t st body))
          (front i e d (k + n) (put b) (asserted_units t st rest))) (numbers_too body)
          ∙ ap (λ z. nest a_block None z (front i e d (k + numbers_in body) (put b) (asserted_units t st rest))) (entry_too (exit_inside e a_block (any_unit rest)) (suc d) k inner body h.0)
          ∙ ap (nest a_block None (put (entry i r (exit_inside e a_block (any_unit rest)) (suc d) k inner body))) (front_too e d (k + numbers_in body) b rest h.1)
      entry_too e d k done (nest_unit a_loop inner body b rest) h = before_too e d k done (nest_unit a_loop inner body b rest) h
      entry_too e d k (plain p c) (nest_unit s inner body b rest) h = before_too e d k (plain p c) (nest_unit s inner body b rest) h
      entry_too e d k (nest y o z c) (nest_unit s inner body b rest) h = before_too e d k (nest y o z c) (nest_unit s inner body b rest) h
      entry_too e d k (branch o y z c) (nest_unit s inner body b rest) h = before_too e d k (branch o y z c) (nest_unit s inner body b rest) h
      entry_too e d k first (if_unit c fa a fb b h2 rest) h =
          let whole : Code = front i e d k first (if_unit c fa a fb b h2 rest) in
          ap (with_arm (r (choice i k (asserted_units t st a) (asserted_units t st b)))) (front_too e d k first (if_unit c fa a fb b h2 rest) h)
          ∙ ap (λ z. with_arm z (put whole)) (ap r (choice_too k a b) ∙ same (choice i k a b))

  -- ---- code that makes no call

  none_front : (xs ys : List Callee) → xs ++ ys ≡ [] → (xs ≡ []) × (ys ≡ [])
  none_front [] ys e = (refl, e)
  none_front (x ∷ xs) ys e = cc

  none_onto : (o : Option Callee) (cs : List Callee) → callee_onto o cs ≡ [] → (o ≡ None) × (cs ≡ [])
  none_onto None cs e = (refl, e)
  none_onto (Some x) cs e = cc

  no_calls : (c : Code) → calls_of c ≡ [] → c ≡ put c
  unfolding calls_of asserted
  no_calls done e = refl
  no_calls (plain p rest) e =
      let two = none_onto (callee p) (calls_of rest) e in
      ap (plain p) (no_calls rest two.1) ∙ ap (λ o. plain p (behind o (put rest))) (sym two.0)
  no_calls (nest s r body rest) e =
      let two = none_front (calls_of body) (calls_of rest) e in
      ap (λ z. nest s r z rest) (no_calls body two.0) ∙ ap (nest s r (put body)) (no_calls rest two.1)
  no_calls (branch r a b rest) e =
      let two = none_front (calls_of a ++ calls_of b) (calls_of rest) e in
      let more = none_front (calls_of a) (calls_of b) two.0 in
      ap (λ z. branch r z b rest) (no_calls a more.0) ∙ ap (λ z. branch r (put a) z rest) (no_calls b more.1) ∙ ap (branch r (put a) (put b)) (no_calls rest two.1)

pub flat_law : FlatIsAsserted
flat_law t st first us h = ap (followed_by (asserted t st first)) (flat_too t st us h) ∙ followed_too t st first (flat_units us)

pub guarded_law : GuardedIsAsserted
guarded_law t st i restoring first us h e =
    entry_too t st i (followed_by restoring)
    (λ c. ap (λ z. followed_by z (asserted t st c)) (no_calls t st restoring e) ∙ followed_too t st restoring c) function_end 0 0 first us h

pub written_law : WrittenIsAsserted
unfolding asserted
written_law t st i restoring saving first us h e1 e2 =
    ap (λ z. nest a_block None z saving) (guarded_law t st i restoring first us h e1)
    ∙ ap (nest a_block None (asserted t st (guarded_body i (followed_by restoring) first us))) (no_calls t st saving e2)
