use Rattle.wa_types.specs.Dropping.{to_drop}
use Rattle.wa_types.proofs.drops.drop_body.Given as goal

abbrev pub decreases-left : goal.decreases-left
decreases-left l = to_drop l.begun.items l.body.items
