use Rattle.std.proofs.Common.{ap}
use Rattle.wa_types.specs.View.{code, func_of}
use Rattle.wa_types.specs.Syntax.{Func}
use Rattle.local_spill.proofs.Bodies.{map_one}
use Rattle.local_spill.proofs.adding.push_func.Goals as goal

pub returns : goal.returns
returns c =
    map_one func_of _ _ _ _ c.in_ok-push.ensures.items
    (ap (λ ls. let f : Func = record { sort = c.args.sort; locals = ls; body = code c.args.body.items } in f) c.new.ensures.items)
