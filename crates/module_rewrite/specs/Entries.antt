-- Functions put as entries of the code section, one by one.
use Rattle.std.specs.Prelude.{◌++◌, ℕ, List}
use Rattle.std.specs.List.{flat_map}
use Rattle.wa_types.specs.View.{func_of}
use Rattle.wa_types.specs.declared.syntax.Func.{Func as FuncValue}
use Rattle.wasm_encode.specs.Around.{code_entry, HoldsEntries}
use Rattle.wasm_encode.specs.declared.held.CodeEntries.{CodeEntries}

-- the entries of these functions
abbrev pub value_entries : List FuncValue → List ℕ
value_entries fs = flat_map (λ f. code_entry (func_of f)) fs

-- these bytes were put behind whatever entries were there
abbrev pub PutsEntries : (more : List ℕ) → (old new : CodeEntries) → Type 0
PutsEntries more old new = (entries : List ℕ) → HoldsEntries old entries → HoldsEntries new (entries ++ more)
