use Rattle.std.proofs.Common.{nat_eq, take}
use Rattle.std.specs.List.{list_any}
use Rattle.call_frames.specs.CallRows.{numbers_in, row_views}
use Rattle.call_frames.specs.Classes.{Noted}
use Rattle.call_frames.proofs.noting.note_rows.Given as goal

abbrev pub invariant-loop-at : goal.invariant-loop-at
invariant-loop-at l = Noted (λ k. list_any (nat_eq k) (numbers_in (row_views (take l.at l.rows)))) l.local l.fn.sets.items l.sets.items
