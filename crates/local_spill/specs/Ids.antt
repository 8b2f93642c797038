-- The numbers of the parts that a module is given.
use Rattle.std.specs.Prelude.{◌+◌}
use Rattle.local_spill.specs.declared.RuntimeIds.{RuntimeIds}
use Rattle.wa_types.specs.Syntax.{Module}
use Rattle.wa_types.specs.Runtime.{func_space, global_space}

-- behind the module's own globals and functions
abbrev pub ids_behind : Module → RuntimeIds
ids_behind m = record { state = global_space m; address = global_space m + 1; first = func_space m }
