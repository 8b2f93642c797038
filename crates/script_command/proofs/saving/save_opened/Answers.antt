-- What was played is written.
use Rattle.std.proofs.Common.{refl}
use Rattle.snapshot_store.specs.Views.{snapshot_of}
use Rattle.script_command.proofs.Steps.{played_written, put_counts, put_told, written_counts, written_told}
use Rattle.script_command.proofs.saving.save_opened.Goals as goal

pub returns-in-Ok-clause-does : goal.returns-in-Ok-clause-does
returns-in-Ok-clause-does g c = λ f f' opens.
    played_written c.args.request.events c.args.request.script.now c.args.request.snap.now (g.V.Vault.files c.args.vault.now) _ f f' _ _ _ _ _ _ _ _ opens.play (snapshot_of c.in-Ok.snapshot)
    (c.in-Ok.ensures.played _ _ opens) (c.in-Ok.ensures.stays (λ e. cc)) c.write_snapshot.result c.write_snapshot.ensures.writes

pub returns-in-Ok-clause-told : goal.returns-in-Ok-clause-told
returns-in-Ok-clause-told g c = written_told (snapshot_of c.in-Ok.snapshot) _ _ _ _ _ c.write_snapshot.result c.write_snapshot.ensures.writes

pub returns-in-Ok-clause-counts : goal.returns-in-Ok-clause-counts
returns-in-Ok-clause-counts g c = λ f f' fetched.
    written_counts f f' _ _ _ _ (snapshot_of c.in-Ok.snapshot) _ _ _ c.write_snapshot.result c.write_snapshot.ensures.writes fetched (c.in-Ok.ensures.stays (λ e. cc))

pub returns-in-Err-clause-does : goal.returns-in-Err-clause-does
returns-in-Err-clause-does g c = λ f f' opens. c.in-Err.ensures.part _ c.args.request.script.now c.args.request.snap.now f f' _ _ opens

pub returns-in-Err-clause-told : goal.returns-in-Err-clause-told
returns-in-Err-clause-told g c = put_told c.in-Err.stop c.in-Err.ensures.put

pub returns-in-Err-clause-counts : goal.returns-in-Err-clause-counts
returns-in-Err-clause-counts g c = λ f f' fetched. put_counts f f' _ _ _ _ c.in-Err.stop c.in-Err.ensures.put fetched refl c.play_to.ensures.once
