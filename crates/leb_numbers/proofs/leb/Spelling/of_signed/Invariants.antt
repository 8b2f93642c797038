use Rattle.std.proofs.Common.{◌≡◌, ◌+◌, ◌-◌, ◌*◌, ◌≤◌, ◌<◌, ◌^◌, ◌++◌, length}
use Rattle.leb_numbers.specs.Leb.{signed_spelled, shortest_signed}
use Rattle.leb_numbers.proofs.leb.Spelling.of_signed.Given as goal

abbrev pub invariant-loop-last : goal.invariant-loop-last
invariant-loop-last l = record {
  written : l.text ++ signed_spelled (10 - length l.text) l.width l.rest ≡ shortest_signed l.bits l.n;
  width : l.width + 7 * length l.text ≡ l.bits;
  some : 1 ≤ l.width;
  fits : l.rest < 2 ^ l.width;
}

abbrev pub decreases-loop-last : goal.decreases-loop-last
decreases-loop-last l = l.width
