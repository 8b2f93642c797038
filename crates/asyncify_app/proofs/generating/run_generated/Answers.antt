use Rattle.std.proofs.Common.{Err, ap, inr}
use Rattle.wa_types.specs.Encoding.{Enc}
use Rattle.script_model.specs.Transcript.{out_of_memory}
use Rattle.transcript.proofs.Counts.{put_alone, refused_counts, unsaved_counts}
use Rattle.gen_module.specs.Generated.{generated}
use Rattle.asyncify_app.specs.declared.writing.GenFault.{GenFault}
use Rattle.asyncify_app.proofs.Telling.{all_held, lines_less, lines_memory, lines_printed, memory_any, refusal_memory}
use Rattle.asyncify_app.proofs.generating.run_generated.Goals as goal

pub returns-in-Ok-clause-cut : goal.returns-in-Ok-clause-cut
returns-in-Ok-clause-cut g c = λ h. all_held c.args.output.now (Enc (generated c.args.number)) _ _ c.in-Ok.ensures.done

pub returns-in-Ok-clause-prints_done : goal.returns-in-Ok-clause-prints_done
returns-in-Ok-clause-prints_done g c = λ h.
    lines_printed c.args.number c.in-Ok.done.bytes c.in-Ok.done.used c.in-Ok.done.value _ _ c.in-Ok.ensures.bytes c.in-Ok.ensures.played (c.report.ensures.printed h)

pub returns-in-Ok-clause-prints_less : goal.returns-in-Ok-clause-prints_less
returns-in-Ok-clause-prints_less g c = λ h.
    lines_less c.args.number c.in-Ok.done.bytes c.in-Ok.done.used c.in-Ok.done.value _ _ c.in-Ok.ensures.bytes c.in-Ok.ensures.played (c.report.ensures.less h)

pub returns-in-Ok-clause-prints_memory : goal.returns-in-Ok-clause-prints_memory
returns-in-Ok-clause-prints_memory g c = λ h.
    lines_memory c.args.number c.in-Ok.done.bytes c.in-Ok.done.used c.in-Ok.done.value c.args.output.now _ _ _ _ c.in-Ok.ensures.bytes c.in-Ok.ensures.played (c.report.ensures.memory h)

pub returns-in-Err-Write-clause-prints_memory : goal.returns-in-Err-Write-clause-prints_memory
returns-in-Err-Write-clause-prints_memory g c = λ h. refusal_memory c.args.number c.args.output.now _ _ _ _ (c.refuse_write.ensures.memory h)

pub returns-in-Err-Memory-clause-prints_memory : goal.returns-in-Err-Memory-clause-prints_memory
returns-in-Err-Memory-clause-prints_memory g c = λ h. memory_any c.args.number c.args.output.now _ _ _ _ c.out_of_memory.ensures.printed

pub returns-in-Ok-clause-counts : goal.returns-in-Ok-clause-counts
returns-in-Ok-clause-counts g c = put_alone c.report.result _ _ _ _ _ _ c.write_and_play.ensures.fetch_faults (c.in-Ok.ensures.stays (λ e. cc)) c.report.ensures.once c.report.ensures.stays

pub returns-in-Err-Write-clause-counts : goal.returns-in-Err-Write-clause-counts
returns-in-Err-Write-clause-counts g c =
    unsaved_counts c.refuse_write.result _ _ _ _ _ _ c.write_and_play.ensures.fetch_faults (c.in-Err-Write.ensures.write (ap (λ (x : GenFault). Err x) c.in-Err-Write.field-0-is))
    c.refuse_write.ensures.status c.refuse_write.ensures.once

pub returns-in-Err-Memory-clause-counts : goal.returns-in-Err-Memory-clause-counts
returns-in-Err-Memory-clause-counts g c =
    refused_counts c.out_of_memory.result _ _ _ _ _ _ out_of_memory c.write_and_play.ensures.fetch_faults (c.in-Err-Memory.ensures.stays (λ e. let f = c.in-Err-Memory.field-0-is in cc))
    (inr c.out_of_memory.ensures.status) c.out_of_memory.ensures.once
