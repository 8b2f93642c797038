use Rattle.std.proofs.Common.{◌≡◌, ◌++◌, take, map}
use Rattle.std.specs.List.{filter_map}
use Rattle.wa_types.specs.declared.syntax.Import.{Import}
use Rattle.wa_types.specs.declared.syntax.Func.{Func}
use Rattle.wa_types.specs.Modules.{imported_func}
use Rattle.validate_bodies.proofs.spaces.all_sorts.Given as goal

abbrev pub invariant-loop-func : goal.invariant-loop-func
invariant-loop-func l = l.sorts.items ≡ filter_map (λ (i : Import). imported_func i.kind) l.imports ++ map (λ (f : Func). f.sort) (take l.func-index l.funcs)
