-- The parameters and locals of the functions of a module.
use Rattle.std.specs.Prelude.{ℕ, ◌+◌, List, map, sum_by}
use Rattle.wa_types.specs.declared.syntax.Run.{Run}
use Rattle.wa_types.specs.Syntax.{FuncType, Func, Module}
use Rattle.wa_types.specs.Sizes.{params_of_type}

-- the number of locals that runs declare
abbrev pub counts_of : List Run → ℕ
counts_of runs = sum_by (λ (r : Run). r.count) runs

-- its parameters and locals; a type index out of range has no parameters
abbrev pub func_locals : List FuncType → Func → ℕ
func_locals ts f = params_of_type ts f.sort + counts_of f.locals

-- those of each function
unfoldable pub module_locals : Module → List ℕ
module_locals m = map (func_locals m.types) m.funcs
