use Rattle.std.proofs.Common.{◌∙◌, ◌∷◌}
use Rattle.host_laws.proofs.BadPokes.{none_bad, first_bad, cast_is}
use Rattle.host_laws.proofs.faults.bad_poke.Goals as goal

pub returns-in-None : goal.returns-in-None
returns-in-None c = λ h. none_bad c.args.size (c.args.area ∷ c.args.others.now) c.args.pokes.now c.in-None.ensures

pub returns-in-Some : goal.returns-in-Some
returns-in-Some c = λ h.
    first_bad c.args.size (c.args.area ∷ c.args.others.now) c.args.pokes.now c.in-Some.poke.now c.unwrap_or.result c.in-Some.ensures
    (λ lt. cast_is c.try_from.result c.len.result _ c.unwrap_or.result c.try_from.ensures (c.len.ensures ∙ c.in-Some.poke.now.bytes.ok.0) c.unwrap_or.ensures lt) h
