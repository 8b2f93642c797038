use Rattle.std.proofs.Common.{◌≡◌, reverse, drop}
use Rattle.wa_types.specs.Typing.{all_alike}
use Rattle.validate_bodies.proofs.table.all_alike.Given as goal

abbrev pub invariant-loop-l : goal.invariant-loop-l
invariant-loop-l l = all_alike (reverse l.labels) l.r l.table ≡ all_alike (reverse l.labels) l.r (drop l.l-index l.table)
