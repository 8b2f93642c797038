-- A module around the entries of its code section, which were written beforehand.
use Rattle.std.specs.Prelude.{◌≡◌, ◌<◌, ◌≤◌, ◌-◌, ◌^◌, ℕ, zero, suc, min, List, [], ◌∷◌, ◌++◌, length, map, if◌then◌else◌, ◌==◌}
use Rattle.std.specs.List.{flat_map}
use Rattle.wa_types.specs.Encoding.{Enc, body_bytes, sized}
use Rattle.leb_numbers.specs.Leb.{shortest}
use Rattle.wa_types.specs.Syntax.{Func, Module}
use Rattle.wasm_encode.specs.declared.EncodeFault.{EncodeFault}
use Rattle.wasm_encode.specs.declared.EncodeFault.TheVariants.{Memory, TooLong}
use Rattle.wasm_encode.specs.declared.held.CodeEntries.{CodeEntries}
use Rattle.wasm_encode.specs.Modules.{FewLocals, known_section}

-- a function as an entry of the code section (standard, section 5.5.13)
abbrev pub code_entry : Func → List ℕ
code_entry f = sized (body_bytes f)

-- those of a module
abbrev pub code_entries : Module → List ℕ
code_entries m = flat_map code_entry m.funcs

-- These are the entries that were put: so many bytes, and where a module may have as many, they are kept. More than that is never kept.
pub record HoldsEntries (v : CodeEntries) (entries : List ℕ) : Type 0 where
  pub len : v.len ≡ min (length entries) (2 ^ 64 - 1)
  pub bytes : length entries ≤ 67108864 → v.bytes.items ≡ entries
  pub kept : length v.bytes.items ≤ 67108864

-- the code section of so many entries that take these bytes; none where there is no entry
abbrev pub code_section : ℕ → List ℕ → List ℕ
code_section zero entries = []
code_section (suc n) entries = 10 ∷ sized (shortest (suc n) ++ entries)

-- the known section of an id, that of code with these entries
unfoldable pub section_around : ℕ → Module → List ℕ → List ℕ
section_around id m entries = if id == 10 then code_section (length m.funcs) entries else known_section id m

-- The other module is this one but for the bodies and locals of its functions. Neither is too large to be counted.
pub record IsAround (m : Module) (p : Module) : Type 0 where
  pub other_funcs : record m { funcs = p.funcs } ≡ p
  pub sorts : map (λ (f : Func). f.sort) p.funcs ≡ map (λ (f : Func). f.sort) m.funcs
  pub locals : FewLocals m
  pub fits : length (Enc p) < 2 ^ 64

-- why a module isn't written: want of memory, or that it has so many bytes, more than 67,108,864
abbrev pub IsUnwritten : Module → EncodeFault → Type 0
IsUnwritten p Memory = Unit {0}
IsUnwritten p (TooLong len) = (len ≡ length (Enc p)) × (67108864 < len)
