use Rattle.std.proofs.Common.{◌∙◌, ◌++◌, ap, subst, sym}
use Rattle.std.proofs.lemmas.Result.{on_ok_weaker}
use Rattle.snapshot_store.specs.Views.{parts_of, record_of}
use Rattle.snapshot_store.specs.Snapshots.{PartsFit, RecordFits, parts_bytes, record_bytes}
use Rattle.snapshot_store.proofs.Written.{paused_put}
use Rattle.snapshot_store.proofs.writing.put_record.Goals as goal

pub returns-in_ok-put_u64-in-Paused-clause-puts : goal.returns-in_ok-put_u64-in-Paused-clause-puts
returns-in_ok-put_u64-in-Paused-clause-puts c =
    on_ok_weaker c.put_parts.result
    (λ e.
    paused_put c.in-Paused.due (parts_of c.in-Paused.parts) c.in-Paused.memory.items c.args.out.now.items c.put_byte-in-Paused.new.out.items c.put_u64.new.out.items c.put_parts.new.out.items
    c.in_ok-put_byte-in-Paused.ensures c.in_ok-put_u64-in-Paused.ensures.puts
    (e ∙ ap (λ memory. c.put_u64.new.out.items ++ parts_bytes (parts_of c.in-Paused.parts) memory) c.as_slice.ensures.value)
    ∙ ap (λ program. c.args.out.now.items ++ record_bytes (record_of program)) (sym c.in-Paused.is))
    c.put_parts.ensures.puts

pub returns-in_ok-put_u64-in-Paused-clause-fits : goal.returns-in_ok-put_u64-in-Paused-clause-fits
returns-in_ok-put_u64-in-Paused-clause-fits c =
    on_ok_weaker c.put_parts.result
    (λ fits. subst RecordFits (ap record_of (sym c.in-Paused.is)) (c.in_ok-put_u64-in-Paused.ensures.fits, subst (PartsFit (parts_of c.in-Paused.parts)) c.as_slice.ensures.value fits))
    c.put_parts.ensures.fits
