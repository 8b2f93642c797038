-- Functions as they were emitted, with asserts, by what tells which calls have a number.
use Rattle.std.specs.Prelude.{◌<◌, ◌^◌, ◌++◌, ℕ, suc, List, [], ◌∷◌, length, Bool, slice_get}
use Rattle.wa_types.specs.Pausing.{is_told}
use Rattle.wa_types.specs.Syntax.{Func}
use Rattle.wasm_encode.specs.Around.{code_entry}
use Rattle.wasm_encode.specs.Locals.{local_count}
use Rattle.assert_rewrite.specs.Testing.{without_number}
use Rattle.assert_laws.specs.EmittedWithAsserts.{asserted_body}
use Rattle.assert_rewrite.specs.declared.asserting.Numbers.{Numbers}

-- a function that was written or stays, with asserts
abbrev pub func_with : Numbers → (written : Bool) → Func → Func
func_with n written f = record f { body = asserted_body (without_number n.which.items n.listed.items n.ignore_indirect) n.state written f.body }

-- functions from this index on, with asserts
abbrev pub funcs_with : Numbers → (index : ℕ) → List Func → List Func
funcs_with n x [] = []
funcs_with n x (f ∷ fs) = func_with n (is_told (slice_get n.which.items x)) f ∷ funcs_with n (suc x) fs

-- their entries
abbrev pub entries_with : Numbers → (index : ℕ) → List Func → List ℕ
entries_with n x [] = []
entries_with n x (f ∷ fs) = code_entry (func_with n (is_told (slice_get n.which.items x)) f) ++ entries_with n (suc x) fs

-- each declares few locals, and its entry is no longer than a `u64` numbers
abbrev pub are_short : Numbers → (index : ℕ) → List Func → Type 0
are_short n x [] = Unit {0}
are_short n x (f ∷ fs) =
    (local_count f.locals < 2 ^ 32) × (length (code_entry (func_with n (is_told (slice_get n.which.items x)) f)) < 2 ^ 64) × are_short n (suc x) fs
