-- Pieces and units of statements.
use Rattle.std.proofs.Common.{◌≡◌, ℕ, suc, ◌+◌, ◌<◌, List, [], ◌∷◌, length, Option, Some, None, Bool, true, false, refl, sym, ap, ◌∙◌, arith, length-append}
use Rattle.std.specs.Prelude.{◌||◌, if◌then◌else◌}
use Rattle.std.specs.Option.{is_some}
use Rattle.wa_types.specs.Pausing.{Callee, direct, indirect, calls_of}
use Rattle.wa_types.specs.Syntax.{basic, br_if, br_table, local_get, local_set, local_tee, call, call_indirect, Code, done, plain, branch}
use Rattle.wa_model.specs.declared.flat.Operand.{Operand}
use Rattle.wa_model.specs.declared.flat.Operand.TheVariants.{Local, Const}
use Rattle.run_theory.specs.Flat.{Stmts, no_more, computes, copies, calls, leaps, leaps_if, leaps_by, nests, decides, halts, followed_by, got, all_got, set_to, slots_got, last_of, code_of}
use Rattle.run_theory.specs.FlatFits.{ComputesFit, IsCallCode}
use Rattle.guard_form.specs.Bounds.{unit_count}
use Rattle.guard_form.specs.Grouping.{is_place}
use Rattle.guard_form.specs.Pieces.{Units, no_unit, call_unit, nest_unit, if_unit, call_to, call_total, sole_callee, numbered, holds_call, first_piece, unit_call, units, flat_units}
use Rattle.guard_form.proofs.Counting.{calls_done, calls_then}
use Rattle.guard_form.proofs.Grouped.{has_unit, joins, then_all_got, then_got, then_set, then_slots, then_then}
use Rattle.guard_form.proofs.UnitLemmas.{Some_unit}
use Rattle.flow_rewrite.specs.Statements.{with_rest, one_code, one_place}
use Rattle.flow_rewrite.proofs.StmtLemmas.{if_false}
use Rattle.slim_laws.specs.Parts.{goes_on}
use Rattle.slim_laws.specs.Slim.{Terms}
use Rattle.slim_rewrite.specs.Coming.{calls_in, with_left, CallsFixed, Goes}

-- ---- which sequences have units

pub or_false : (x y : Bool) → (x || y) ≡ false → (x ≡ false) × (y ≡ false)
or_false true y e = cc
or_false false y e = (refl, e)

pub or_none : (x y : Bool) → x ≡ false → y ≡ false → (x || y) ≡ false
or_none true y e f = cc
or_none false y e f = f

pub none_held : (ps : List ℕ) (n : ℕ) (s : Stmts) → holds_call ps n s ≡ false → units ps n s ≡ no_unit
none_held ps n no_more h = refl
none_held ps n (computes op args to rest) h = none_held ps n rest h
none_held ps n (copies to from rest) h = none_held ps n rest h
none_held ps n (calls op stack args to rest) h = by (numbered ps n op) h (none_held ps (suc n) rest)
  where
    by : (o : Option Callee) → (is_some o || holds_call ps (suc n) rest) ≡ false → (holds_call ps (suc n) rest ≡ false → units ps (suc n) rest ≡ no_unit)
        → unit_call o (last_of args stack) to (first_piece ps (suc n) rest) (units ps (suc n) rest) ≡ no_unit
    by None e ih = ih e
    by (Some x) e ih = cc
none_held ps n (leaps l rest) h = none_held ps n rest h
none_held ps n (leaps_if c l rest) h = none_held ps n rest h
none_held ps n (leaps_by o ls l rest) h = none_held ps n rest h
none_held ps n (nests y body rest) h = let o = or_false (holds_call ps n body) (holds_call ps (n + call_total body) rest) h in if_false (holds_call ps n body) _ _ o.0
    ∙ none_held ps (n + call_total body) rest o.1
none_held ps n (decides c a b rest) h =
    let o = or_false (holds_call ps n a || holds_call ps (n + call_total a) b) (holds_call ps (n + call_total a + call_total b) rest) h in
    if_false (holds_call ps n a || holds_call ps (n + call_total a) b) _ _ o.0 ∙ none_held ps (n + call_total a + call_total b) rest o.1
none_held ps n (halts rest) h = none_held ps n rest h

counts : (us : Units) → Some_unit us → 0 < unit_count us
counts no_unit h = absurd h
counts (call_unit slots x to behind rest) h = omega arith
counts (nest_unit s first body behind rest) h = omega arith
counts (if_unit c fa a fb b behind rest) h = omega arith

pub counted : (us : Units) → Some_unit us → 0 < unit_count us
counted us h = counts us h

-- by how many units there are
pub held_by : (ps : List ℕ) (n : ℕ) (s : Stmts) → 0 < unit_count (units ps n s) → holds_call ps n s ≡ true
held_by ps n s lt = by (holds_call ps n s) refl
  where
    by : (b : Bool) → holds_call ps n s ≡ b → holds_call ps n s ≡ true
    by true e = e
    by false e = let z = ap unit_count (none_held ps n s e) in absurd (omega arith)

pub free_by_count : (ps : List ℕ) (n : ℕ) (s : Stmts) → unit_count (units ps n s) ≡ 0 → holds_call ps n s ≡ false
free_by_count ps n s z = by (holds_call ps n s) refl
  where
    by : (b : Bool) → holds_call ps n s ≡ b → holds_call ps n s ≡ false
    by true e = let lt = counts (units ps n s) (has_unit ps n s e) in absurd (omega arith)
    by false e = e

pub some_held : (ps : List ℕ) (n m : ℕ) (a b : Stmts) → 0 < unit_count (units ps n a) + unit_count (units ps m b) → (holds_call ps n a || holds_call ps m b) ≡ true
some_held ps n m a b some = by (holds_call ps n a) refl
  where
    by : (z : Bool) → holds_call ps n a ≡ z → (holds_call ps n a || holds_call ps m b) ≡ true
    by true e = ap (λ y. y || holds_call ps m b) e
    by false e = let z = ap unit_count (none_held ps n a e) in ap (λ y. y || holds_call ps m b) e ∙ held_by ps m b (omega (arith, z, some))

-- ---- calls

-- those of the next piece, of the units behind it and behind these
pub calls_left : (ps : List ℕ) (n k : ℕ) (s : Stmts) → length (calls_of (first_piece ps n s)) + (length (calls_of (flat_units (units ps n s))) + k) ≡ calls_in s + k
calls_left ps n k s =
    let e = ap (λ c. length (calls_of c)) (sym (joins ps n s)) ∙ ap length (calls_then (first_piece ps n s) (flat_units (units ps n s)))
    ∙ length-append (calls_of (first_piece ps n s)) (calls_of (flat_units (units ps n s))) in omega arith

pub none_left : (n : ℕ) → length (calls_of (flat_units no_unit)) + n ≡ n
none_left n = let e = ap length calls_done in omega arith

pub joined_calls : (ps : List ℕ) (n k : ℕ) (s : Stmts) → length (calls_of (followed_by (first_piece ps n s) (flat_units (units ps n s)))) + k ≡ calls_in s + k
joined_calls ps n k s = ap (λ c. length (calls_of c) + k) (joins ps n s)

pub fixed_rest : (t : Terms) (ps : List ℕ) (n k : ℕ) (u s : Stmts) → CallsFixed t ps n k (with_rest u s) → CallsFixed t ps (one_place n u) k s
fixed_rest t ps n k no_more s h = h
fixed_rest t ps n k (computes op args to rest) s h = h
fixed_rest t ps n k (copies to from rest) s h = h
fixed_rest t ps n k (calls op stack args to rest) s h = h.1
fixed_rest t ps n k (leaps l rest) s h = h
fixed_rest t ps n k (leaps_if c l rest) s h = h
fixed_rest t ps n k (leaps_by o ls l rest) s h = h
fixed_rest t ps n k (nests y body rest) s h = h.1
fixed_rest t ps n k (decides c a b rest) s h = h.2
fixed_rest t ps n k (halts rest) s h = h

pub place_with : (n : ℕ) (u : Stmts) → one_place n (with_rest u no_more) ≡ one_place n u
place_with n no_more = refl
place_with n (computes op args to rest) = refl
place_with n (copies to from rest) = refl
place_with n (calls op stack args to rest) = refl
place_with n (leaps l rest) = refl
place_with n (leaps_if c l rest) = refl
place_with n (leaps_by o ls l rest) = refl
place_with n (nests y body rest) = refl
place_with n (decides c a b rest) = refl
place_with n (halts rest) = refl

pub sole : (x : Callee) → sole_callee (plain (call_to x) done) ≡ Some x
sole (direct x) = refl
sole (indirect x) = refl

pub number_is : (ps : List ℕ) (n : ℕ) (x : Callee) → is_place ps n ≡ true → numbered ps n (plain (call_to x) done) ≡ Some x
number_is ps n x e = ap (λ b. if b then sole_callee (plain (call_to x) done) else None) e ∙ sole x

pub no_number : (ps : List ℕ) (n : ℕ) (op : Code) → is_place ps n ≡ false → is_some (numbered ps n op) ≡ false
no_number ps n op e = ap (λ b. is_some (if b then sole_callee op else None)) e

-- ---- a condition behind a piece

then_one : (u : Stmts) (c d : Code) → followed_by (one_code u c) d ≡ one_code u (followed_by c d)
unfolding followed_by
then_one no_more c d = refl
then_one (computes op args to rest) c d =
    then_all_got args (followed_by op (set_to to c)) d ∙ ap (all_got args) (then_then op (set_to to c) d ∙ ap (followed_by op) (then_set to c d))
then_one (copies to from rest) c d = then_got from (plain (local_set to) c) d
then_one (calls op stack args to rest) c d =
    then_slots (last_of args stack) (followed_by op (set_to to c)) d ∙ ap (slots_got (last_of args stack)) (then_then op (set_to to c) d ∙ ap (followed_by op) (then_set to c d))
then_one (leaps l rest) c d = refl
then_one (leaps_if o l rest) c d = then_got o (plain (br_if l) c) d
then_one (leaps_by o ls l rest) c d = then_got o (plain (br_table ls l) c) d
then_one (nests y body rest) c d = refl
then_one (decides o a b rest) c d = then_got o (branch None (code_of a) (code_of b) c) d
then_one (halts rest) c d = refl

pub left_one : (o : Option Operand) (u : Stmts) (c : Code) → with_left o (one_code u c) ≡ one_code u (with_left o c)
left_one None u c = refl
left_one (Some o) u c = then_one u c (got o done)

no_calls : (o : Operand) → calls_of (got o done) ≡ []
unfolding calls_of
no_calls (Local x) = refl
no_calls (Const v) = refl

pub left_calls : (o : Option Operand) (c : Code) → length (calls_of (with_left o c)) ≡ length (calls_of c)
left_calls None c = refl
left_calls (Some o) c =
    let e = ap length (calls_then c (got o done)) in
    let l = length-append (calls_of c) (calls_of (got o done)) in
    let z = ap length (no_calls o) in
    omega arith

pub left_done : (o : Operand) → with_left (Some o) done ≡ got o done
unfolding followed_by
left_done o = refl

-- ---- pieces that come to their end

pub goes_got : (o : Operand) (c : Code) → goes_on (got o c) ≡ goes_on c
goes_got (Local x) c = refl
goes_got (Const v) c = refl

goes_all : (os : List Operand) (c : Code) → goes_on (all_got os c) ≡ goes_on c
goes_all [] c = refl
goes_all (o ∷ os) c = goes_got o (all_got os c) ∙ goes_all os c

goes_slots : (xs : List ℕ) (c : Code) → goes_on (slots_got xs c) ≡ goes_on c
goes_slots [] c = refl
goes_slots (x ∷ xs) c = goes_slots xs c

goes_to : (to : Option ℕ) (c : Code) → goes_on (set_to to c) ≡ goes_on c
goes_to None c = refl
goes_to (Some x) c = refl

goes_op : (locals : ℕ) (op : Code) (to : Option ℕ) (c : Code) → ComputesFit locals op to → goes_on (followed_by op c) ≡ goes_on c
unfolding followed_by
goes_op locals (plain (basic b) done) to c h = refl
goes_op locals (plain (local_get x) done) to c h = refl
goes_op locals (plain (local_set x) done) to c h = refl
goes_op locals (plain (local_tee x) done) to c h = refl
goes_op locals _ to c h = absurd h

goes_call : (op : Code) (c : Code) → IsCallCode op → goes_on (followed_by op c) ≡ goes_on c
unfolding followed_by
goes_call (plain (call x) done) c h = refl
goes_call (plain (call_indirect x) done) c h = refl
goes_call _ c h = absurd h

pub goes_computes : (locals : ℕ) (op : Code) (args : List Operand) (to : Option ℕ) (c : Code) → ComputesFit locals op to → goes_on (all_got args (followed_by op (set_to to c))) ≡ goes_on c
goes_computes locals op args to c h = goes_all args (followed_by op (set_to to c)) ∙ goes_op locals op to (set_to to c) h ∙ goes_to to c

pub goes_copies : (to : ℕ) (from : Operand) (c : Code) → goes_on (got from (plain (local_set to) c)) ≡ goes_on c
goes_copies to from c = goes_got from (plain (local_set to) c)

pub goes_calls : (op : Code) (xs : List ℕ) (to : Option ℕ) (c : Code) → IsCallCode op → goes_on (slots_got xs (followed_by op (set_to to c))) ≡ goes_on c
goes_calls op xs to c h = goes_slots xs (followed_by op (set_to to c)) ∙ goes_call op (set_to to c) h ∙ goes_to to c

pub goes_by : (us : Units) (c d : Code) → goes_on d ≡ goes_on c → Goes us c → Goes us d
goes_by no_unit c d e h = tt
goes_by (call_unit slots x to behind rest) c d e h = e ∙ h
goes_by (nest_unit y first body behind rest) c d e h = e ∙ h
goes_by (if_unit o fa a fb b behind rest) c d e h = e ∙ h

pub goes_done : (us : Units) → Goes us done
goes_done no_unit = tt
goes_done (call_unit slots x to behind rest) = refl
goes_done (nest_unit y first body behind rest) = refl
goes_done (if_unit o fa a fb b behind rest) = refl
