-- A module as its shortest spelling keeps it.
use Rattle.std.specs.Prelude.{ℕ, suc, List, [], ◌∷◌, ◌++◌, map, filter, min, Option, is_some, Bool, true, false, ◌==◌, if◌then◌else◌}
use Rattle.wa_types.specs.Syntax.{Func, Custom, Module}
use Rattle.wa_types.specs.Encoding.{merged}

-- a list has an item
abbrev pub has_some : {X : Type 0} → List X → Bool
has_some [] = false
has_some (x ∷ xs) = true

-- whether each known section is written, in rising id from 1
abbrev pub written_flags : Module → List Bool
written_flags m =
    has_some m.types ∷ has_some m.imports ∷ has_some m.funcs ∷ has_some m.tables ∷ has_some m.memories
    ∷ has_some m.globals ∷ has_some m.exports ∷ is_some m.start ∷ has_some m.elems ∷ has_some m.funcs
    ∷ has_some m.segments ∷ []

-- a custom section at this place
abbrev pub placed_at : ℕ → Custom → Custom
placed_at place c = record c { after = place }

-- those whose place is behind the sections of ids up to this one; 11 is the last
abbrev pub placed_behind : ℕ → List Custom → List Custom
placed_behind id cs = filter (λ c. min c.after 11 == id) cs

-- Custom sections as they are written behind sections of ids from this one on, `last` being the written one below: each at the greatest written
-- id that isn't above its place.
abbrev pub lowered : (id last : ℕ) → List Bool → List Custom → List Custom
lowered id last [] cs = []
lowered id last (written ∷ rest) cs =
    let place = if written then id else last in
    map (placed_at place) (placed_behind id cs) ++ lowered (suc id) place rest cs

-- The runs of one type merged, empty ones left out; custom sections in their written order, at lowered places.
unfoldable pub Norm : Module → Module
Norm m = record m {
  funcs = map (λ (f : Func). record f { locals = merged f.locals }) m.funcs;
  customs = map (placed_at 0) (placed_behind 0 m.customs) ++ lowered 1 0 (written_flags m) m.customs;
}
