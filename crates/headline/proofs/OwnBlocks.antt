-- A flat function's own block as the one unit of its sequence: the same code, the same calls, and a unit inside where a call stands there.
use Rattle.std.proofs.Common.{◌≡◌, ◌<◌, ℕ, List, Option, Some, None, true, refl, append-nil, arith}
use Rattle.wa_types.specs.Pausing.{Callee, calls_of}
use Rattle.wa_types.specs.Syntax.{a_block, Code, done, nest}
use Rattle.run_theory.specs.Flat.{followed_by, result_got}
use Rattle.guard_form.specs.Functions.{Calls, CallsIn, GuardedFunc}
use Rattle.guard_form.specs.Guarded.{block_unit}
use Rattle.guard_form.specs.Pieces.{Units, no_unit, call_unit, nest_unit, if_unit, any_unit, flat_units, numbers_in}
use Rattle.guard_form.specs.Places.{BodyPlace, Enclosing}
use Rattle.guard_form.proofs.PlacesBelow.{numbers_below}

-- it is the block that the flat function has
pub block_flat : (first : Code) (us : Units) (r : Option ℕ) → nest a_block None (followed_by first (flat_units us)) (result_got r) ≡ followed_by done (flat_units (block_unit first us r))
unfolding followed_by
block_flat first us None = refl
block_flat first us (Some x) = refl

pub block_calls : (first : Code) (us : Units) (r : Option ℕ) → calls_of (followed_by done (flat_units (block_unit first us r))) ≡ calls_of (followed_by first (flat_units us))
unfolding followed_by calls_of
block_calls first us None = append-nil (calls_of (followed_by first (flat_units us)))
block_calls first us (Some x) = append-nil (calls_of (followed_by first (flat_units us)))

-- what gets the result calls nothing, and branches nowhere
pub result_calls : (P : Callee → Type 0) (r : Option ℕ) → Calls P (result_got r)
result_calls P None = tt
result_calls P (Some x) = (tt, tt)

pub result_in : (P : Callee → Type 0) (r : Option ℕ) → CallsIn P (Some 0) (result_got r)
result_in P None = tt
result_in P (Some x) = ((tt, tt), tt)

-- where there is a number, there is a unit
some_unit : (us : Units) → 0 < numbers_in us → any_unit us ≡ true
some_unit no_unit lt = absurd (omega arith)
some_unit (call_unit slots x to behind rest) lt = refl
some_unit (nest_unit s first body behind rest) lt = refl
some_unit (if_unit c fa a fb b behind rest) lt = refl

-- a function with a numbered call has a unit in its own block
pub block_holds : (st : ℕ) (f : GuardedFunc) (first : Code) (us : Units) (r : Option ℕ) (k : ℕ) (slots : List ℕ) (x : Callee) (to : Option ℕ) (behind : Code) (rest : Units) (xs : List Enclosing)
    → numbers_in f.body ≡ numbers_in (block_unit first us r) → BodyPlace st f k (call_unit slots x to behind rest) xs → any_unit us ≡ true
block_holds st f first us r k slots x to behind rest xs e pl = some_unit us (omega (arith, e, numbers_below st f k (call_unit slots x to behind rest) xs pl))
