-- Locals of pairs.
use Rattle.std.proofs.Common.{◌≡◌, ℕ, ◌+◌, List, length, arith}
use Rattle.std.proofs.lemmas.List.{length-map}
use Rattle.wa_types.specs.declared.values.ValType.{ValType}
use Rattle.wa_types.specs.Frames.{Pair}
use Rattle.flat_laws.specs.Flatten.{place}

-- the local of a result
pub result_is : (first number : ℕ) (t : ValType) (slots results : List Pair) (from : ℕ) → from ≡ first + length slots → from + place number t results ≡ first + (length slots + place number t results)
result_is first number t slots results from e = omega arith

pub end_is : (end first : ℕ) (n : ℕ) (pairs : List Pair) → end ≡ first + n → n ≡ length pairs → end ≡ first + length pairs
end_is end first n pairs e f = omega (arith, e, f)

pub ruleset finding = (length-map, end_is, result_is)

pub ruleset naming = (result_is, result_is)
