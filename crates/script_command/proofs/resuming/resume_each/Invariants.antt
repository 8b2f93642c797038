use Rattle.std.proofs.Common.{map}
use Rattle.snapshot_store.specs.Views.{record_of}
use Rattle.script_command.proofs.PutBack.{Resuming}
use Rattle.script_command.proofs.resuming.resume_each.Given as goal

-- those that are put back, and those to come
abbrev pub invariant-loop-plan : goal.invariant-loop-plan
invariant-loop-plan l = Resuming l.modules l.fn.planned.items l.plan-iterator.rest.items (map record_of l.records) l.resumed.items
