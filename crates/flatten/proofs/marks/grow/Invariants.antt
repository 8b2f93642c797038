use Rattle.std.proofs.Common.{◌≡◌, ℕ, ◌+◌, ◌-◌, length}
use Rattle.wa_types.specs.declared.values.ValType.{ValType}
use Rattle.flatten.specs.Numbers.{is_marked, pairs_in}
use Rattle.flatten.proofs.marks.grow.Given as goal

abbrev pub invariant-loop-seen : goal.invariant-loop-seen
invariant-loop-seen l = record {
  same : (n : ℕ) (t : ValType) → is_marked l.seen.items n t ≡ is_marked l.fn.seen.items n t;
  pairs : (n : ℕ) → pairs_in n l.seen.items ≡ pairs_in n l.fn.seen.items;
}

abbrev pub decreases-loop-seen : goal.decreases-loop-seen
decreases-loop-seen l = l.number + 1 - length l.seen.items
