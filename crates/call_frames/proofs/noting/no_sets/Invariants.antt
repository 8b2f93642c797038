use Rattle.std.proofs.Common.{◌≡◌, ◌≤◌, All, Bool, false, length}
use Rattle.std.specs.Prelude.{Vec, replicate}
use Rattle.std.specs.declared.alloc.Global.{Global}
use Rattle.call_frames.proofs.noting.no_sets.Given as goal

abbrev pub invariant-loop-call : goal.invariant-loop-call
invariant-loop-call l = (length l.sets.items ≡ l._call) × (l._call ≤ l.count) × All (λ (set : Vec Bool Global). set.items ≡ replicate l.locals false) l.sets.items
