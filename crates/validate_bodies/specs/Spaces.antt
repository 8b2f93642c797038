-- What stands in a module under each index, as the validator keeps it.
use Rattle.std.specs.Prelude.{◌≡◌, ℕ, ◌+◌, List, [], ◌∷◌, map, length, sum_by, nat_lt, if◌then◌else◌}
use Rattle.wa_types.specs.declared.syntax.Run.{Run}
use Rattle.wa_types.specs.Syntax.{Func, Module}
use Rattle.wa_types.specs.Typing.{GlobalType}
use Rattle.wa_types.specs.Modules.{imported_global, imported, func_sorts, func_imports, all_tables, all_memories, all_globals}
use Rattle.validate_bodies.specs.declared.spaces.GlobalType.{GlobalType as GlobalValue}
use Rattle.validate_bodies.specs.declared.spaces.Spaces.{Spaces}

-- a global type
abbrev pub global_type_of : GlobalValue → GlobalType
global_type_of g = record { ty = g.ty; mutable = g.mutable }

-- the number of locals of runs
abbrev pub total : List Run → ℕ
total runs = sum_by (λ (r : Run). r.count) runs

-- where each run ends, the first beginning at n
unfoldable pub ends_from : ℕ → List Run → List ℕ
ends_from n [] = []
ends_from n (r ∷ rs) = (n + r.count) ∷ ends_from (n + r.count) rs

-- what is kept of that: nothing where the runs are few, so that they are as soon gone through
unfoldable pub ends_of : List Run → List ℕ
ends_of runs = if nat_lt 4 (length runs) then ends_from 0 runs else []

-- These are the index spaces of the module (2.5.1).
pub record SpacesOf (m : Module) (s : Spaces) : Type 0 where
  pub sorts : s.sorts.items ≡ func_sorts m
  pub func_imports : s.func_imports ≡ func_imports m
  pub globals : map global_type_of s.globals.items ≡ all_globals m
  pub global_imports : s.global_imports ≡ length (imported imported_global m)
  pub tables : s.tables ≡ length (all_tables m)
  pub memories : s.memories ≡ length (all_memories m)
  pub ends : map (λ v. v.items) s.ends.items ≡ map (λ (f : Func). ends_of f.locals) m.funcs
