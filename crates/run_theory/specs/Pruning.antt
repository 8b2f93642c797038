-- A module whose bodies are pruned.
use Rattle.std.specs.Prelude.{map}
use Rattle.wa_types.specs.Syntax.{Func, Module}
use Rattle.wa_types.specs.Pruned.{pruned}

-- a function with its body pruned
abbrev pub pruned_func : Func → Func
pruned_func f = record { sort = f.sort; locals = f.locals; body = pruned f.body }

-- without the code that can't be reached
abbrev pub pruned_module : Module → Module
pruned_module m = record m { funcs = map pruned_func m.funcs }
