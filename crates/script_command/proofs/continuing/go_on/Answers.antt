-- A script is opened, and goes on.
use Rattle.std.proofs.Common.{refl}
use Rattle.script_command.specs.SnapshotCalls.{continues}
use Rattle.script_command.proofs.PlainOpenings.{told_opening}
use Rattle.script_command.proofs.Statuses.{stop_counts}
use Rattle.script_command.proofs.Steps.{counts_since, does_since, opening_stops, opens_since}
use Rattle.script_command.proofs.continuing.go_on.Goals as goal

pub returns-in-Ok-clause-does : goal.returns-in-Ok-clause-does
returns-in-Ok-clause-does g c =
    does_since continues c.args.script.now c.args.snap.now _ _ _ _ _ _ _ _ _ _ _ _ c.continue_opened.result c.open_plain.ensures.kept c.in-Ok.ensures.stays c.open_plain.ensures.saves
    (c.continue_opened.ensures.does _ (opens_since _ _ _ _ c.open_plain.ensures.kept c.in-Ok.ensures.opened))

pub returns-in-Ok-clause-counts : goal.returns-in-Ok-clause-counts
returns-in-Ok-clause-counts g c = counts_since _ _ _ _ _ _ _ _ _ c.in-Ok.ensures.stays c.open_plain.ensures.saves c.continue_opened.ensures.counts

pub returns-in-Err-clause-does : goal.returns-in-Err-clause-does
returns-in-Err-clause-does g c =
    opening_stops continues _ _ _ _ _ _ _ _ _ _ _ c.open_plain.ensures.kept c.in-Err.stop c.in-Err.ensures.refused

pub returns-in-Err-clause-told : goal.returns-in-Err-clause-told
returns-in-Err-clause-told g c = told_opening _ _ _ _ c.in-Err.stop c.in-Err.ensures.refused

pub returns-in-Err-clause-counts : goal.returns-in-Err-clause-counts
returns-in-Err-clause-counts g c = stop_counts _ _ _ _ _ _ _ _ _ c.in-Err.stop c.open_plain.ensures.saves refl c.in-Err.ensures.refused
