-- A module that was read is that of the file, and so is what it is refused for.
use Rattle.std.proofs.Common.{subst, sym}
use Rattle.std.proofs.lemmas.Result.{IfErr-weaker, IfOk-weaker}
use Rattle.wa_types.specs.ModuleBounds.{prepared_bounds}
use Rattle.wa_types.specs.View.{module_of}
use Rattle.wasm_reader.specs.Answers.{IsAccepted}
use Rattle.module_files.specs.Faults.{IsInvalid, IsToldFault, IsUnread}
use Rattle.module_files.proofs.Told.{fault_so, told_fault, told_so}
use Rattle.script_setup.specs.Prepared.{IsUnprepared}
use Rattle.script_setup.proofs.Fronts.{content_told, invalid_unprepared, unread_unprepared}
use Rattle.script_setup.proofs.modules.fetch_prepared.Goals as goal

pub returns-in-Ok-clause-prepared : goal.returns-in-Ok-clause-prepared
returns-in-Ok-clause-prepared g c =
    let h = c.in-Ok.ensures.ok in
    let read = subst (λ b. IsAccepted b h.bytes (module_of c.in-Ok.«module»)) c.prepared.ensures h.accepted in
    IfOk-weaker c.valid_module.result _ _
    (λ valid is. (h.bytes, h.holds, record { read = subst (λ m. IsAccepted prepared_bounds h.bytes (module_of m)) (sym is.0) read; valid = is.1 })) c.valid_module.ensures.valid

pub returns-in-Ok-clause-refused : goal.returns-in-Ok-clause-refused
returns-in-Ok-clause-refused g c =
    let h = c.in-Ok.ensures.ok in
    let read = subst (λ b. IsAccepted b h.bytes (module_of c.in-Ok.«module»)) c.prepared.ensures h.accepted in
    IfErr-weaker c.valid_module.result _ _
    (λ fault why. told_fault IsUnprepared (g.V.Vault.files c.args.vault.now) c.args.name.now h.bytes fault h.holds
    (fault_so (IsInvalid (module_of c.in-Ok.«module»)) (IsUnprepared h.bytes) fault (invalid_unprepared h.bytes (module_of c.in-Ok.«module») read) why)) c.valid_module.ensures.refused

pub returns-in-Ok-clause-content : goal.returns-in-Ok-clause-content
returns-in-Ok-clause-content g c =
    IfErr-weaker c.valid_module.result _ _ (λ fault. content_told c.args.name.now (g.V.Vault.files c.args.vault.now) fault) (returns-in-Ok-clause-refused g c)

pub returns-in-Err-clause-refused : goal.returns-in-Err-clause-refused
returns-in-Err-clause-refused g c =
    told_so (IsUnread prepared_bounds) IsUnprepared (g.V.Vault.files c.args.vault.now) c.args.name.now c.in-Err.fault unread_unprepared
    (subst (λ b. IsToldFault (IsUnread b) (g.V.Vault.files c.args.vault.now) c.args.name.now c.in-Err.fault) c.prepared.ensures c.in-Err.ensures.refused)

pub returns-in-Err-clause-content : goal.returns-in-Err-clause-content
returns-in-Err-clause-content g c = content_told c.args.name.now (g.V.Vault.files c.args.vault.now) c.in-Err.fault (returns-in-Err-clause-refused g c)
