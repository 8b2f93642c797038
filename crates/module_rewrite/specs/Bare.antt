-- Functions and modules without bodies and locals.
use Rattle.std.specs.Prelude.{[], map}
use Rattle.wa_types.specs.Syntax.{Func, Module, done}

-- a function's type alone
abbrev pub bare : Func → Func
bare f = record { sort = f.sort; locals = []; body = done }

-- a module that has of each function its type alone
abbrev pub without_bodies : Module → Module
without_bodies m = record m { funcs = map bare m.funcs }
