-- A module with the memory that it is compared with.
use Rattle.std.specs.Prelude.{List, [], ◌∷◌, ◌++◌, Some}
use Rattle.wa_types.specs.declared.syntax.Limits.{Limits}
use Rattle.wa_types.specs.Syntax.{Module}
use Rattle.wa_types.specs.Modules.{all_memories}

-- one page at least and at most
abbrev pub one_page : Limits
one_page = record { min = 1; max = Some 1 }

-- the memory of a module that has none
abbrev pub added_memories : List Limits → List Limits
added_memories [] = one_page ∷ []
added_memories _ = []

-- The module, with a memory of one page, never more, where it has neither a defined nor an imported one.
unfoldable pub Base : Module → Module
Base m = record m { memories = m.memories ++ added_memories (all_memories m) }
