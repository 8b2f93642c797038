use Rattle.std.proofs.Common.{◌≡◌, take, map}
use Rattle.wa_types.specs.declared.syntax.Func.{Func}
use Rattle.validate_bodies.specs.Spaces.{ends_of}
use Rattle.validate_bodies.proofs.spaces.all_ends.Given as goal

abbrev pub invariant-loop-func : goal.invariant-loop-func
invariant-loop-func l = map (λ w. w.items) l.all.items ≡ map (λ (f : Func). ends_of f.locals.items) (take l.func-index l.funcs)
