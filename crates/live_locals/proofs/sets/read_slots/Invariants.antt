use Rattle.std.proofs.Common.{◌≤◌, drop, length}
use Rattle.wa_types.specs.Syntax.{done}
use Rattle.run_theory.specs.Flat.{slots_got}
use Rattle.live_locals.specs.Sets.{TellsAnywhere}
use Rattle.live_locals.proofs.sets.read_slots.Given as goal

abbrev pub invariant-slots : goal.invariant-slots
invariant-slots l = (l.left ≤ length l.slots) × TellsAnywhere l.fn.set l.set (slots_got (drop l.left l.slots) done)

abbrev pub decreases-slots : goal.decreases-slots
decreases-slots l = l.left
