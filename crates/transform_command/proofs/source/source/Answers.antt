-- A module that was read is that of the file, and so is what it is refused for.
use Rattle.std.proofs.Common.{subst}
use Rattle.std.proofs.lemmas.Result.{IfErr-weaker, IfOk-weaker}
use Rattle.wa_types.specs.ModuleBounds.{source_bounds}
use Rattle.wa_types.specs.View.{module_of}
use Rattle.wasm_reader.specs.Answers.{IsAccepted}
use Rattle.module_files.specs.Faults.{IsToldFault, IsUnread}
use Rattle.module_files.proofs.Told.{told_fault, told_so}
use Rattle.transform_command.specs.SourceRefusals.{IsRefusedUnwritten}
use Rattle.transform_command.proofs.Accepted.{unread_refused}
use Rattle.transform_command.proofs.source.source.Goals as goal

pub returns-in-Ok-clause-source : goal.returns-in-Ok-clause-source
returns-in-Ok-clause-source g c =
    let h = c.in-Ok.ensures.ok in
    let read = subst (λ b. IsAccepted b h.bytes (module_of c.in-Ok.«module»)) c.source.ensures h.accepted in
    IfOk-weaker c.valid_source.result _ _ (λ valid is. record { bytes = h.bytes; holds = h.holds; are_bytes = h.are_bytes; source = is }) (c.valid_source.ensures.source h.bytes read)

pub returns-in-Ok-clause-refused : goal.returns-in-Ok-clause-refused
returns-in-Ok-clause-refused g c =
    let h = c.in-Ok.ensures.ok in
    let read = subst (λ b. IsAccepted b h.bytes (module_of c.in-Ok.«module»)) c.source.ensures h.accepted in
    IfErr-weaker c.valid_source.result _ _
    (λ fault why how. told_fault (IsRefusedUnwritten how) (g.V.Vault.files c.args.vault.now) c.args.name.now h.bytes fault h.holds (why how))
    (c.valid_source.ensures.refused h.bytes read)

pub returns-in-Err-clause-refused : goal.returns-in-Err-clause-refused
returns-in-Err-clause-refused g c = λ how.
    told_so (IsUnread source_bounds) (IsRefusedUnwritten how) (g.V.Vault.files c.args.vault.now) c.args.name.now c.in-Err.fault (unread_refused how)
    (subst (λ b. IsToldFault (IsUnread b) (g.V.Vault.files c.args.vault.now) c.args.name.now c.in-Err.fault) c.source.ensures c.in-Err.ensures.refused)
