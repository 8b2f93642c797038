-- What a file is refused for is told of its bytes.
use Rattle.std.proofs.Common.{subst}
use Rattle.wasm_reader.specs.Held as H
use Rattle.module_files.specs.Faults.{IsUnread}
use Rattle.module_files.proofs.Told.{told_fault}
use Rattle.module_files.proofs.reading.read_module.Goals as goal

pub returns-in-Err-Refused-clause-refused : goal.returns-in-Err-Refused-clause-refused
returns-in-Err-Refused-clause-refused g c =
    let h = subst (H.IsToldFault c.args.bounds (g.V.Vault.files c.args.vault.now) c.args.name.now) c.in-Err-Refused.field-0-is c.in-Err-Refused.ensures.refused in
    told_fault (IsUnread c.args.bounds) (g.V.Vault.files c.args.vault.now) c.args.name.now h.0 c.refused.result h.1 (c.refused.ensures.told c.args.bounds h.0 h.2)
