use Rattle.std.proofs.Common.{◌≡◌, take, map}
use Rattle.wa_types.proofs.parts.copy_each.Given as goal

abbrev pub invariant-loop-part : goal.invariant-loop-part
invariant-loop-part g l = map g.P.Part.view l.out.items ≡ map g.P.Part.view (take l.part-index l.parts)
