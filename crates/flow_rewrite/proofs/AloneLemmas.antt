-- Units whose first numbered call stands in no loop with another.
use Rattle.std.proofs.Common.{◌≡◌, ℕ, zero, suc, ◌+◌, ◌<◌, ◌≤◌, min, drop, length, get_or, List, Option, Bool, true, false, ◌&&◌, ◌||◌, nat_lt, refl, sym, ap, ◌∙◌, subst, arith}
use Rattle.std.proofs.lemmas.Bool.{le-ltb, lt-ltb}
use Rattle.guard_form.specs.Guarded.{first_alone}
use Rattle.guard_form.specs.Pieces.{Units, no_unit, call_unit, nest_unit, if_unit, numbers_in}
use Rattle.wa_types.specs.Syntax.{a_block, a_loop, Code}
use Rattle.wa_model.specs.declared.flat.Operand.{Operand}
use Rattle.flow_rewrite.specs.Counting.{IsCounted, loop_alone, row_alone}
use Rattle.flow_rewrite.specs.UnitView.{unit_in_front, row_units, units_of}
use Rattle.flow_rewrite.specs.declared.pieces.Unit.{Unit}
use Rattle.flow_rewrite.specs.declared.pieces.Unit.TheVariants.{Call, Block', Loop', If'}
use Rattle.flow_rewrite.specs.declared.counts.Counted.{Counted}
use Rattle.flow_rewrite.proofs.UnitLemmas.{Found, all_found, one_more_found, units_end, units_step}

and_true : (b : Bool) → (b && true) ≡ b
and_true true = refl
and_true false = refl

and_and : (a b c : Bool) → ((a && b) && c) ≡ (a && (b && c))
and_and true b c = refl
and_and false b c = refl

both_true : (a b : Bool) → a ≡ true → b ≡ true → (a && b) ≡ true
both_true true b e f = f
both_true false b e f = cc

-- behind the first call nothing is asked
pub alone_later : (k : ℕ) (us : Units) → 0 < k → first_alone k us ≡ true
alone_later k no_unit lt = refl
alone_later k (call_unit slots x to behind rest) lt = alone_later (suc k) rest (omega (arith, lt))
alone_later k (nest_unit a_block inner body behind rest) lt = both_true (first_alone k body) _ (alone_later k body lt) (alone_later (k + numbers_in body) rest (omega (arith, lt)))
alone_later k (nest_unit a_loop inner body behind rest) lt =
    both_true (nat_lt 0 k || nat_lt (numbers_in body) 2) _ (ap (λ b. b || nat_lt (numbers_in body) 2) (lt-ltb 0 k lt))
    (both_true (first_alone k body) _ (alone_later k body lt) (alone_later (k + numbers_in body) rest (omega (arith, lt))))
alone_later k (if_unit c fa a fb b behind rest) lt =
    both_true (first_alone k a) _ (alone_later k a lt) (both_true (first_alone (k + numbers_in a) b) _ (alone_later (k + numbers_in a) b (omega (arith, lt)))
    (alone_later (k + numbers_in a + numbers_in b) rest (omega (arith, lt))))

-- units behind so many calls
pub alone_row : (n : ℕ) (front : Bool) (us : Units) → (front && first_alone n us) ≡ row_alone n front (first_alone 0 us)
alone_row zero front us = refl
alone_row (suc n) front us = ap (λ b. front && b) (alone_later (suc n) us (omega arith)) ∙ and_true front

row_few : (n : ℕ) (front behind : Bool) → row_alone (min n 2) front behind ≡ row_alone n front behind
row_few zero front behind = refl
row_few (suc zero) front behind = refl
row_few (suc (suc n)) front behind = let e : min (suc (suc n)) 2 ≡ 2 = omega arith in ap (λ m. row_alone m front behind) e

loop_few : (n : ℕ) → nat_lt (min n 2) 2 ≡ nat_lt n 2
loop_few zero = refl
loop_few (suc zero) = refl
loop_few (suc (suc n)) = let e : min (suc (suc n)) 2 ≡ 2 = omega arith in ap (λ m. nat_lt m 2) e ∙ sym (le-ltb (suc (suc n)) 2 (omega arith))

pub zero_on : (n : ℕ) → 0 + n ≡ n
zero_on n = omega arith

on_zero : (n : ℕ) → n ≡ n + 0
on_zero n = omega arith

-- one unit, and those behind it
front_alone : (u : Unit) (rest : Units)
    → first_alone 0 (unit_in_front u rest) ≡ row_alone (numbers_in (unit_in_front u no_unit)) (first_alone 0 (unit_in_front u no_unit)) (first_alone 0 rest)
unfolding unit_in_front
front_alone (Call slots x to behind) rest = alone_later 1 rest (omega arith)
front_alone (Block' first s body behind) rest = by (row_units body)
  where
    by : (us : Units) → (first_alone 0 us && first_alone (0 + numbers_in us) rest) ≡ row_alone (numbers_in us + 0) (first_alone 0 us && true) (first_alone 0 rest)
    by us =
        ap (λ m. first_alone 0 us && first_alone m rest) (zero_on (numbers_in us))
        ∙ alone_row (numbers_in us) (first_alone 0 us) rest
        ∙ (λ i. row_alone (on_zero (numbers_in us) i) (sym (and_true (first_alone 0 us)) i) (first_alone 0 rest))
front_alone (Loop' first s body behind) rest = by (row_units body)
  where
    by : (us : Units) → (nat_lt (numbers_in us) 2 && (first_alone 0 us && first_alone (0 + numbers_in us) rest))
        ≡ row_alone (numbers_in us + 0) (nat_lt (numbers_in us) 2 && (first_alone 0 us && true)) (first_alone 0 rest)
    by us =
        ap (λ m. nat_lt (numbers_in us) 2 && (first_alone 0 us && first_alone m rest)) (zero_on (numbers_in us))
        ∙ sym (and_and (nat_lt (numbers_in us) 2) (first_alone 0 us) (first_alone (numbers_in us) rest))
        ∙ alone_row (numbers_in us) (nat_lt (numbers_in us) 2 && first_alone 0 us) rest
        ∙ (λ i. row_alone (on_zero (numbers_in us) i) (nat_lt (numbers_in us) 2 && sym (and_true (first_alone 0 us)) i) (first_alone 0 rest))
front_alone (If' o fa s a fb t b behind) rest = by (row_units a) (row_units b)
  where
    more : (n m : ℕ) → n + m ≡ n + m + 0
    more n m = omega arith

    by : (us vs : Units) → (first_alone 0 us && (first_alone (0 + numbers_in us) vs && first_alone (0 + numbers_in us + numbers_in vs) rest))
        ≡ row_alone (numbers_in us + numbers_in vs + 0) (first_alone 0 us && (first_alone (0 + numbers_in us) vs && true)) (first_alone 0 rest)
    by us vs =
        ap (λ m. first_alone 0 us && (first_alone (0 + numbers_in us) vs && first_alone (m + numbers_in vs) rest)) (zero_on (numbers_in us))
        ∙ sym (and_and (first_alone 0 us) (first_alone (0 + numbers_in us) vs) (first_alone (numbers_in us + numbers_in vs) rest))
        ∙ alone_row (numbers_in us + numbers_in vs) (first_alone 0 us && first_alone (0 + numbers_in us) vs) rest
        ∙ (λ i. row_alone (more (numbers_in us) (numbers_in vs) i) (first_alone 0 us && sym (and_true (first_alone (0 + numbers_in us) vs)) i) (first_alone 0 rest))

-- ---- units counted in a row

row_pos : (m : ℕ) (a r : Bool) → 0 < m → row_alone m a r ≡ a
row_pos zero a r lt = absurd (omega (arith, lt))
row_pos (suc m) a r lt = refl

row_row : (k n : ℕ) (a b r : Bool) → row_alone k a (row_alone n b r) ≡ row_alone (min (k + min n 2) 2) (row_alone k a b) r
row_row zero zero a b r = sym (and_and a b r)
row_row zero (suc n) a b r = sym (row_pos (min (0 + min (suc n) 2) 2) (a && b) r (omega arith))
row_row (suc k) n a b r = sym (row_pos (min (suc k + min n 2) 2) a r (omega arith))

row_true : (n : ℕ) (a : Bool) → row_alone n a true ≡ a
row_true zero a = and_true a
row_true (suc n) a = refl

-- Some units were counted, with these to come.
pub record Going (whole rest : Units) (c : Counted) : Type 0 where
  pub calls : Found (numbers_in whole) c.calls (numbers_in rest)
  pub alone : first_alone 0 whole ≡ row_alone c.calls c.first_alone (first_alone 0 rest)

pub one_more_counted : (whole : Units) (c a new : Counted) (xs : List Unit) (i : ℕ) (u : Unit) → i < length xs → u ≡ get_or xs i u → Going whole (units_of (drop i xs)) c
    → IsCounted (unit_in_front u no_unit) a → new.calls ≡ min (c.calls + a.calls) 2 → new.first_alone ≡ row_alone c.calls c.first_alone a.first_alone
    → Going whole (units_of (drop (i + 1) xs)) new
one_more_counted whole c a new xs i u lt at h one calls alone = record {
  calls = one_more_found (numbers_in whole) c.calls new.calls xs i u lt at h.calls (calls ∙ ap (λ n. min (c.calls + n) 2) one.calls);
  alone =
      h.alone ∙ ap (λ us. row_alone c.calls c.first_alone (first_alone 0 us)) (units_step xs i u lt at)
      ∙ ap (row_alone c.calls c.first_alone) (front_alone u rest)
      ∙ row_row c.calls (numbers_in (unit_in_front u no_unit)) c.first_alone (first_alone 0 (unit_in_front u no_unit)) (first_alone 0 rest)
      ∙ (λ j. row_alone (sym (calls ∙ ap (λ n. min (c.calls + n) 2) one.calls) j) (row_alone c.calls c.first_alone (sym one.alone j)) (first_alone 0 rest))
      ∙ ap (λ b. row_alone new.calls b (first_alone 0 rest)) (sym alone);
}
  where
    rest : Units
    rest = units_of (drop (i + 1) xs)

pub all_counted : (whole : Units) (c : Counted) (xs : List Unit) (i : ℕ) → length xs ≤ i → Going whole (units_of (drop i xs)) c → IsCounted whole c
all_counted whole c xs i le h = record {
  calls = all_found (numbers_in whole) c.calls xs i le h.calls;
  alone = sym (h.alone ∙ ap (λ us. row_alone c.calls c.first_alone (first_alone 0 us)) (units_end xs i le) ∙ row_true c.calls c.first_alone);
}

-- ---- constructs

pub block_counted : (inner behind : Code) (us : Units) (c : Counted) → IsCounted us c → IsCounted (nest_unit a_block inner us behind no_unit) c
block_counted inner behind us c h = let n = h.calls in record { calls = omega arith; alone = h.alone ∙ sym (and_true (first_alone 0 us)) }

pub loop_counted : (inner behind : Code) (us : Units) (body c : Counted) → IsCounted us body → c.calls ≡ body.calls → c.first_alone ≡ loop_alone body.calls body.first_alone
    → IsCounted (nest_unit a_loop inner us behind no_unit) c
loop_counted inner behind us body c h calls alone =
    let n = h.calls in
    record {
      calls = omega arith;
      alone =
          alone ∙ (λ j. nat_lt (h.calls j) 2 && h.alone j) ∙ ap (λ b. b && first_alone 0 us) (loop_few (numbers_in us))
          ∙ ap (λ b. nat_lt (numbers_in us) 2 && b) (sym (and_true (first_alone 0 us)));
    }

pub if_counted : (o : Option Operand) (fa fb behind : Code) (us vs : Units) (a b c : Counted) → IsCounted us a → IsCounted vs b → c.calls ≡ min (a.calls + b.calls) 2
    → c.first_alone ≡ row_alone a.calls a.first_alone b.first_alone → IsCounted (if_unit o fa us fb vs behind no_unit) c
if_counted o fa fb behind us vs a b c ha hb calls alone =
    let n = ha.calls in
    let m = hb.calls in
    record {
      calls = grind arith;
      alone =
          alone ∙ (λ j. row_alone (ha.calls j) (ha.alone j) (hb.alone j)) ∙ row_few (numbers_in us) (first_alone 0 us) (first_alone 0 vs) ∙ sym (alone_row (numbers_in us) (first_alone 0 us) vs)
          ∙ ap (λ b. first_alone 0 us && b) (sym (and_true (first_alone (numbers_in us) vs)))
          ∙ ap (λ m. first_alone 0 us && (first_alone m vs && true)) (sym (zero_on (numbers_in us)));
    }
