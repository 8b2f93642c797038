use Rattle.std.proofs.Common.{◌≡◌, [], take, drop}
use Rattle.strand_host.specs.StrandPlans.{first_overlap}
use Rattle.strand_host.proofs.setup.overlapping.Given as goal

abbrev pub invariant-loop-place : goal.invariant-loop-place
invariant-loop-place l = record {
  at : l.strand ≡ l.place;
  first : first_overlap [] 0 l.areas ≡ first_overlap (take l.place l.areas) l.place (drop l.place l.areas);
}
