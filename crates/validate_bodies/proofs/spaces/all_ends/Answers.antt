use Rattle.std.proofs.Common.{map, []}
use Rattle.wa_types.specs.Syntax.{Func}
use Rattle.wa_types.specs.View.{func_of}
use Rattle.validate_bodies.specs.Spaces.{ends_of}
use Rattle.validate_bodies.proofs.SpaceLemmas.{on_close}
use Rattle.validate_bodies.proofs.spaces.all_ends.Goals as goal

pub returns : goal.returns
returns c =
    on_close (λ (f : Func). ends_of f.locals) func_of [] (map (λ w. w.items) c.loop-func.all.items) c.args.funcs.now c.loop-func.func-index c.loop-func-test.false c.loop-func.invariant
