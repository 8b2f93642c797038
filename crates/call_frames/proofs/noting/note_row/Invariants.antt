use Rattle.std.proofs.Common.{◌≤◌, nat_eq}
use Rattle.std.specs.List.{list_any}
use Rattle.call_frames.specs.CallRows.{counted}
use Rattle.call_frames.specs.Classes.{Noted}
use Rattle.call_frames.proofs.noting.note_row.Given as goal

abbrev pub invariant-loop-step : goal.invariant-loop-step
invariant-loop-step l = (l.step ≤ l.count) × Noted (λ k. list_any (nat_eq k) (counted l.fn.row.first l.step)) l.local l.fn.sets.items l.sets.items
