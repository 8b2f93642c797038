-- The tests of rows that stand one behind another, and counts.
use Rattle.std.specs.Prelude.{◌≡◌, ℕ, min, List, [], ◌∷◌, Bool, false, get_or}
use Rattle.wa_types.specs.declared.operators.NumOp.TheVariants.{I32Or}
use Rattle.wa_types.specs.Syntax.{num, basic, Code, plain}
use Rattle.call_frames.specs.CallTests.{CallRow, at_row}
use Rattle.call_frames.specs.PlainFrames.{is_one_of}

-- the tests of more rows, each joined with what stands
abbrev pub rows_joined : (index : ℕ) → List CallRow → Code → Code
rows_joined index [] next = next
rows_joined index (r ∷ rs) next = at_row index r (plain (basic (num I32Or)) (rows_joined index rs next))

-- which numbers are among these
abbrev pub Tells : List Bool → List ℕ → Type 0
Tells told calls = (j : ℕ) → get_or told j false ≡ is_one_of calls j

-- as a number of 64 bits has it, at most
abbrev pub saturated : ℕ → ℕ
saturated n = min n 18446744073709551615
