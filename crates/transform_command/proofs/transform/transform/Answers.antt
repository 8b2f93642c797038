-- What the two files have to do with the module that was read.
use Rattle.std.proofs.Common.{subst}
use Rattle.transform_command.specs.Manners.{manner_of}
use Rattle.module_files.specs.Faults.{IsToldFault}
use Rattle.transform_command.specs.SourceRefusals.{IsRefusedAs}
use Rattle.transform_command.proofs.Transforming.{transformed, cut_short, counted, saved_bytes, refused_for, held}
use Rattle.transform_command.proofs.transform.transform.Goals as goal

pub returns-in-Err-Refused-clause-refused : goal.returns-in-Err-Refused-clause-refused
returns-in-Err-Refused-clause-refused g c =
    let h = subst (IsToldFault (IsRefusedAs (manner_of c.args.settings.now)) (g.V.Vault.files c.args.vault.now) c.args.input.now) c.in-Err-Refused.field-0-is c.in-Err-Refused.ensures.refused in
    (h.2.0, refused_for (manner_of c.args.settings.now) c.args.input.now h.0 _ h.2.0 h.1 h.2.1, h.2.2)

pub returns-in-Ok-save_whole-clause-done : goal.returns-in-Ok-save_whole-clause-done
returns-in-Ok-save_whole-clause-done g c =
    let w = c.in-Ok.ensures.done in
    transformed (manner_of c.args.settings.now) c.args.input.now c.args.output.now w.0 c.in-Ok.written.text.items c.in-Ok.written.functions
    c.in-Ok.written.instrumented _ _ _ c.rewrite.ensures.kept w.1 w.2 (rw c.deref.ensures at c.in-Ok-save_whole.ensures.saved)

pub returns-in-Ok-save_whole-clause-counts : goal.returns-in-Ok-save_whole-clause-counts
returns-in-Ok-save_whole-clause-counts g c =
    let w = c.in-Ok.ensures.done in
    counted (manner_of c.args.settings.now) c.args.input.now w.0 c.in-Ok.written.text.items c.in-Ok.written.functions
    c.in-Ok.written.instrumented _ _ c.len.ensures.value w.1 w.2

pub returns-in-Ok-save_whole-clause-bytes : goal.returns-in-Ok-save_whole-clause-bytes
returns-in-Ok-save_whole-clause-bytes g c =
    saved_bytes c.args.output.now c.in-Ok.written.text.items _ _ _ c.len.ensures.value (rw c.deref.ensures at c.in-Ok-save_whole.ensures.saved)

pub returns-in-Err-Write-clause-cut : goal.returns-in-Err-Write-clause-cut
returns-in-Err-Write-clause-cut g c =
    let w = c.in-Ok.ensures.done in
    cut_short (manner_of c.args.settings.now) c.args.input.now c.args.output.now w.0 c.in-Ok.written.text.items c.in-Ok.written.functions
    c.in-Ok.written.instrumented _ _ _ c.rewrite.ensures.kept w.1 w.2 (rw c.deref.ensures at c.in-Err-Write.ensures.cut)

pub returns-clause-cut : goal.returns-clause-cut
returns-clause-cut g c =
    let w = c.in-Ok.ensures.done in
    cut_short (manner_of c.args.settings.now) c.args.input.now c.args.output.now w.0 c.in-Ok.written.text.items c.in-Ok.written.functions
    c.in-Ok.written.instrumented _ _ _ c.rewrite.ensures.kept w.1 w.2 (rw c.deref.ensures at c.in-Err-Memory-save_whole.ensures.cut)

pub returns-in-Err-Write-clause-source : goal.returns-in-Err-Write-clause-source
returns-in-Err-Write-clause-source g c = λ h.
    let w = c.in-Ok.ensures.done in
    held (manner_of c.args.settings.now) c.args.input.now w.0 c.in-Ok.written.text.items c.in-Ok.written.functions c.in-Ok.written.instrumented _ w.1 w.2
