-- What is written of a module, place by place.
use Rattle.std.specs.Prelude.{◌<◌, ◌^◌, ℕ, List, [], ◌∷◌, drop, slice_index_or}
use Rattle.std.specs.List.{All}
use Rattle.wa_types.specs.Syntax.{Module}
use Rattle.wa_types.specs.Encoding.{sections, with_customs}
use Rattle.wasm_encode.specs.Locals.{local_count}

-- each function declares fewer than 2^32 locals
abbrev pub FewLocals : Module → Type 0
FewLocals m = All (λ f. local_count f.locals < 2 ^ 32) m.funcs

-- the known section of an id; there is none of id 0, nor behind the last
unfoldable pub known_section : ℕ → Module → List ℕ
known_section id m = slice_index_or ([] ∷ sections m) id []

-- the known sections from an id on, each with the custom sections behind it
unfoldable pub places_from : ℕ → Module → List ℕ
places_from id m = with_customs id (drop id ([] ∷ sections m)) m.customs
