use Rattle.std.proofs.Common.{◌≡◌}
use Rattle.wa_types.specs.View.{code}
use Rattle.wa_types.specs.Levels.{whole, to_do}
use Rattle.wa_types.proofs.bodies.copy_body.Given as goal

abbrev pub invariant-left : goal.invariant-left
invariant-left l = whole l.copying ≡ code l.body

abbrev pub decreases-left : goal.decreases-left
decreases-left l = to_do l.copying
