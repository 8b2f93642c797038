use Rattle.std.proofs.Common.{◌≡◌, ◌++◌, map, drop, Some}
use Rattle.strand_host.specs.declared.plan.StrandPart.{StrandPart}
use Rattle.strand_host.proofs.setup.all_due.Given as goal

abbrev pub invariant-loop-part : goal.invariant-loop-part
invariant-loop-part l = map (λ (s : StrandPart). Some 0) l.parts ≡ l.dues.items ++ map (λ (s : StrandPart). Some 0) (drop l._part-index l.parts)
