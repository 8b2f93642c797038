-- A snapshot is read, and what was opened goes on from it.
use Rattle.std.proofs.Common.{refl}
use Rattle.script_command.specs.SnapshotCalls.{continues}
use Rattle.script_command.proofs.Steps.{does_kept, no_snapshot_counts, no_snapshot_stops, no_snapshot_told, records_whole}
use Rattle.script_command.proofs.continuing.continue_opened.Goals as goal

pub continue_from-requires-clause-whole : goal.continue_from-requires-clause-whole
continue_from-requires-clause-whole g c = records_whole _ c.in-Ok.ensures.snapshot.spells.fits.programs

pub returns-in-Ok-clause-does : goal.returns-in-Ok-clause-does
returns-in-Ok-clause-does g c = λ name opens.
    does_kept continues name c.args.snap.now (g.V.Vault.files c.args.vault.now) _ _ _ _ _ _ _ _ c.continue_from.result c.fetch_snapshot.ensures.kept
    (c.continue_from.ensures.does _ name c.args.snap.now _ _ _ _ opens c.in-Ok.ensures.snapshot)

pub returns-in-Ok-clause-counts : goal.returns-in-Ok-clause-counts
returns-in-Ok-clause-counts g c = c.continue_from.ensures.counts _ _ _ _ c.in-Ok.ensures.stays c.fetch_snapshot.ensures.saves

pub returns-in-Err-clause-does : goal.returns-in-Err-clause-does
returns-in-Err-clause-does g c = λ name opens.
    no_snapshot_stops name c.args.snap.now _ _ _ _ _ _ _ opens.play _ _ c.fetch_snapshot.ensures.kept c.in-Err.stop c.in-Err.ensures.none

pub returns-in-Err-clause-told : goal.returns-in-Err-clause-told
returns-in-Err-clause-told g c = no_snapshot_told _ _ _ _ c.in-Err.stop c.in-Err.ensures.none

pub returns-in-Err-clause-counts : goal.returns-in-Err-clause-counts
returns-in-Err-clause-counts g c = no_snapshot_counts _ _ _ _ _ _ _ _ c.in-Err.stop c.in-Err.ensures.none c.fetch_snapshot.ensures.once c.fetch_snapshot.ensures.saves refl
