-- What stays of the two files and of the lines, by status.
use Rattle.std.proofs.Common.{◌≡◌, ◌∙◌, ◌⊎◌, Err, None, ap, inr, subst, sym}
use Rattle.vault_port.specs.Told.{Becomes}
use Rattle.vault_port.proofs.Fetching.{read_once}
use Rattle.script_model.specs.Transcript.{Refusal, out_of_memory, refusal_line}
use Rattle.transcript.specs.Printing.{refusal_of}
use Rattle.transcript.specs.Refused.{status_of, Prints}
use Rattle.transcript.proofs.Counts.{put_alone, refused_counts, unread_counts, unsaved_counts}
use Rattle.transform_command.specs.declared.transform.TransformFault.{TransformFault}
use Rattle.transform_command.specs.Refusals.{IsToldRefusal}
use Rattle.transform_command.specs.Manners.{manner_of}
use Rattle.transform_command.proofs.Printed.{memory_any, never_nine, refusal_printed, refused_has_cause}
use Rattle.transform_command.proofs.Transforming.{transformed_is_cut}
use Rattle.transform_command.proofs.command.run_transform.Goals as goal

pub returns-in-Ok-clause-cut : goal.returns-in-Ok-clause-cut
returns-in-Ok-clause-cut g c = λ h. transformed_is_cut (manner_of c.args.settings.now) c.args.input.now c.args.output.now _ _ c.in-Ok.ensures.done

pub returns-in-Err-Memory-clause-prints_memory : goal.returns-in-Err-Memory-clause-prints_memory
returns-in-Err-Memory-clause-prints_memory g c = λ h. memory_any (manner_of c.args.settings.now) _ _ c.args.input.now c.args.output.now _ _ _ _ c.out_of_memory.ensures.printed

pub refuse-requires : goal.refuse-requires
refuse-requires g c = λ nine.
    let told = subst (IsToldRefusal (manner_of c.args.settings.now) (g.V.Vault.files c.args.vault.now) c.args.input.now) c.in-Err-Refused.field-0-is c.in-Err-Refused.ensures.refused in
    never_nine told.0 (sym nine ∙ ap status_of told.2)

pub returns-in-Err-Refused-clause-refused : goal.returns-in-Err-Refused-clause-refused
returns-in-Err-Refused-clause-refused g c = λ h.
    let told = subst (IsToldRefusal (manner_of c.args.settings.now) (g.V.Vault.files c.args.vault.now) c.args.input.now) c.in-Err-Refused.field-0-is c.in-Err-Refused.ensures.refused in
    refused_has_cause (manner_of c.args.settings.now) (g.V.Vault.files c.args.vault.now) c.args.input.now c.refuse.result told.0
    (subst (λ (r : Refusal). (c.refuse.result ≡ status_of r) ⊎ (c.refuse.result ≡ 9)) told.2 c.refuse.ensures.status) h told.1

pub returns-in-Err-Refused-clause-prints_refusal : goal.returns-in-Err-Refused-clause-prints_refusal
returns-in-Err-Refused-clause-prints_refusal g c = λ h.
    let told = subst (IsToldRefusal (manner_of c.args.settings.now) (g.V.Vault.files c.args.vault.now) c.args.input.now) c.in-Err-Refused.field-0-is c.in-Err-Refused.ensures.refused in
    refusal_printed (manner_of c.args.settings.now) (g.V.Vault.files c.args.vault.now) c.args.input.now c.refuse.result told.0
    (g.S.Sink.faults c.args.out.now) (g.S.Sink.faults c.refuse.new.out) (g.S.Sink.taken c.args.out.now) (g.S.Sink.taken c.refuse.new.out)
    (subst (λ (r : Refusal). (c.refuse.result ≡ status_of r) ⊎ (c.refuse.result ≡ 9)) told.2 c.refuse.ensures.status) h told.1
    (subst (λ (r : Refusal). c.refuse.result ≡ status_of r
    → Becomes (g.S.Sink.taken c.args.out.now) (g.S.Sink.taken c.refuse.new.out) (Prints (refusal_line None r) (g.S.Sink.faults c.args.out.now) (g.S.Sink.faults c.refuse.new.out)))
    told.2 c.refuse.ensures.printed)

pub returns-in-Ok-clause-counts : goal.returns-in-Ok-clause-counts
returns-in-Ok-clause-counts g c =
    put_alone c.report.result _ _ _ _ _ _ (c.in-Ok.ensures.fetches_stay (λ e. cc)) (c.in-Ok.ensures.saves_stay (λ e. cc)) c.report.ensures.once c.report.ensures.stays

pub returns-in-Err-Memory-clause-counts : goal.returns-in-Err-Memory-clause-counts
returns-in-Err-Memory-clause-counts g c =
    refused_counts c.out_of_memory.result _ _ _ _ _ _ out_of_memory (c.in-Err-Memory.ensures.fetches_stay (λ e. let f = c.in-Err-Memory.field-0-is in cc)) (c.in-Err-Memory.ensures.saves_stay (λ e. let f = c.in-Err-Memory.field-0-is in cc))
    (inr c.out_of_memory.ensures.status) c.out_of_memory.ensures.once

pub returns-in-Err-Read-clause-counts : goal.returns-in-Err-Read-clause-counts
returns-in-Err-Read-clause-counts g c =
    unread_counts c.refuse_read.result _ _ _ _ _ _ (read_once _ _ _ _ (c.in-Err-Read.ensures.read (ap (λ (x : TransformFault). Err x) c.in-Err-Read.field-0-is)))
    (c.in-Err-Read.ensures.saves_stay (λ e. let f = c.in-Err-Read.field-0-is in cc)) c.refuse_read.ensures.status c.refuse_read.ensures.once

pub returns-in-Err-Refused-clause-counts : goal.returns-in-Err-Refused-clause-counts
returns-in-Err-Refused-clause-counts g c =
    refused_counts c.refuse.result _ _ _ _ _ _ (refusal_of c.in-Err-Refused.kind) (c.in-Err-Refused.ensures.fetches_stay (λ e. let f = c.in-Err-Refused.field-0-is in cc)) (c.in-Err-Refused.ensures.saves_stay (λ e. let f = c.in-Err-Refused.field-0-is in cc))
    c.refuse.ensures.status c.refuse.ensures.once

pub returns-in-Err-Write-clause-counts : goal.returns-in-Err-Write-clause-counts
returns-in-Err-Write-clause-counts g c =
    unsaved_counts c.refuse_write.result _ _ _ _ _ _ (c.in-Err-Write.ensures.fetches_stay (λ e. let f = c.in-Err-Write.field-0-is in cc))
    (c.in-Err-Write.ensures.write (ap (λ (x : TransformFault). Err x) c.in-Err-Write.field-0-is)) c.refuse_write.ensures.status c.refuse_write.ensures.once
