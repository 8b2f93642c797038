use Rattle.std.proofs.Common.{◌≡◌, ◌≤◌, length}
use Rattle.slim_rewrite.proofs.StackLemmas.{Setting}
use Rattle.slim_rewrite.proofs.stack.flush.Given as goal

abbrev pub invariant-slots : goal.invariant-slots
invariant-slots l = record {
  setting : Setting l.fn.at.piece.items l.at.piece.items l.fn.at.stack.items l.fn.at.set l.place;
  fits : l.place ≤ length l.fn.at.stack.items;
  stack : l.at.stack.items ≡ l.fn.at.stack.items;
  set : l.at.set ≡ l.fn.at.set;
  places : l.at.places.items ≡ l.fn.at.places.items;
  low : l.at.low ≡ l.fn.at.low;
  floor : l.at.floor ≡ l.fn.at.floor;
  alloc : l.at.alloc ≡ l.fn.at.alloc;
}

abbrev pub decreases-slots : goal.decreases-slots
decreases-slots l = l.place
