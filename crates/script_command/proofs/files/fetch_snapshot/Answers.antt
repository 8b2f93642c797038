-- The snapshot in a file that was read.
use Rattle.std.proofs.Common.{◌∙◌, Err, List, ap, subst, ℕ}
use Rattle.std.proofs.lemmas.Result.{IfErr-weaker, IfOk-weaker}
use Rattle.snapshot_store.specs.Views.{snapshot_of}
use Rattle.script_command.specs.SnapshotViews.{IsText, NoText}
use Rattle.vault_port.specs.declared.whole.FetchFault.{FetchFault}
use Rattle.vault_port.proofs.Fetching.{read_once}
use Rattle.script_command.proofs.SnapshotFiles.{none_held, snapshot_held}
use Rattle.script_command.proofs.files.fetch_snapshot.Goals as goal

pub returns-in-Ok-clause-snapshot : goal.returns-in-Ok-clause-snapshot
returns-in-Ok-clause-snapshot g c =
    IfOk-weaker c.snapshot_in.result _ _
    (λ s h. snapshot_held c.args.name.now c.in-Ok.bytes.items (g.V.Vault.files c.args.vault.now) (snapshot_of s) c.in-Ok.ensures.whole c.in-Ok.ensures.there
    (subst (λ (b : List ℕ). IsText b (snapshot_of s)) (c.deref.ensures.value ∙ c.shrink_to_fit.ensures.items) h)) c.snapshot_in.ensures.snapshot

pub returns-in-Ok-clause-none : goal.returns-in-Ok-clause-none
returns-in-Ok-clause-none g c =
    IfErr-weaker c.snapshot_in.result _ _
    (λ stop h. none_held c.args.name.now c.in-Ok.bytes.items (g.V.Vault.files c.args.vault.now) _ _ stop (c.in-Ok.ensures.stays (λ e. cc)) c.in-Ok.ensures.whole c.in-Ok.ensures.there
    (subst (λ (b : List ℕ). NoText b stop) (c.deref.ensures.value ∙ c.shrink_to_fit.ensures.items) h)) c.snapshot_in.ensures.none

pub returns-in-Err-Read-clause-once : goal.returns-in-Err-Read-clause-once
returns-in-Err-Read-clause-once g c = read_once _ _ _ _ (c.in-Err-Read.ensures.read (ap (λ (x : FetchFault). Err x) c.in-Err-Read.field-0-is))
