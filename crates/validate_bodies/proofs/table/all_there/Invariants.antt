use Rattle.std.proofs.Common.{◌≡◌, reverse, drop}
use Rattle.wa_types.specs.Typing.{all_there}
use Rattle.validate_bodies.proofs.table.all_there.Given as goal

abbrev pub invariant-loop-l : goal.invariant-loop-l
invariant-loop-l l = all_there (reverse l.labels) l.table ≡ all_there (reverse l.labels) (drop l.l-index l.table)
