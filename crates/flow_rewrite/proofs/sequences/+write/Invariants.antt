use Rattle.std.proofs.Common.{◌≡◌, drop, length, ◌+◌, ◌*◌}
use Rattle.wa_types.specs.View.{code}
use Rattle.guard_form.specs.Bounds.{unit_count}
use Rattle.guard_form.specs.Pieces.{no_unit}
use Rattle.flow_rewrite.specs.UnitView.{unit_in_front, units_of}
use Rattle.flow_rewrite.specs.Begun.{lead_of}
use Rattle.flow_rewrite.specs.Exits.{exit_of}
use Rattle.flow_rewrite.specs.Fronts.{Walked}
use Rattle.flow_rewrite.proofs.sequences.+write.Given as goal

abbrev pub invariant-write_sequence-loop-unit : goal.invariant-write_sequence-loop-unit
invariant-write_sequence-loop-unit l = Walked l.guards (lead_of l.fn.lead) (exit_of l.spot.exit) l.spot.depth l.spot.number (code l.first) (units_of l.units) l.out.items (lead_of l.lead) l.piece l.next
    (units_of (drop l.unit-index l.units))
    × (l.left + l.unit-index ≡ length l.units)

abbrev pub decreases-write_sequence : goal.decreases-write_sequence
decreases-write_sequence l = 3 * unit_count (units_of l.units.now) + 1

abbrev pub decreases-write_arm : goal.decreases-write_arm
decreases-write_arm l = 3 * unit_count (units_of l.units.now) + 2

abbrev pub decreases-put_unit : goal.decreases-put_unit
decreases-put_unit l = 3 * unit_count (unit_in_front l.unit.now no_unit)
