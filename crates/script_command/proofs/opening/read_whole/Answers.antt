-- The script in a file, or why there is none.
use Rattle.script_reader.specs.Views.{script_of}
use Rattle.std.proofs.Common.{Err, ap, inl, refl, subst, sym}
use Rattle.module_files.specs.Faults.{IsToldFault}
use Rattle.module_files.specs.declared.fault.FileFault.{FileFault}
use Rattle.script_setup.specs.Scripts.{IsNoScript}
use Rattle.script_command.specs.Views.{BlamesScript}
use Rattle.script_command.proofs.Openings.{stops_unread}
use Rattle.script_command.proofs.Scripts.{has_script}
use Rattle.script_command.proofs.opening.read_whole.Goals as goal

pub returns-in-Ok-clause-script : goal.returns-in-Ok-clause-script
returns-in-Ok-clause-script g c = has_script _ _ (script_of c.in-Ok.whole) c.in-Ok.ensures.script

pub returns-in-Err-Memory-clause-refused : goal.returns-in-Err-Memory-clause-refused
returns-in-Err-Memory-clause-refused g c = inl (c.in-Err-Memory.ensures.stays (λ e. let f = c.in-Err-Memory.field-0-is in cc))

pub returns-in-Err-Read-clause-refused : goal.returns-in-Err-Read-clause-refused
returns-in-Err-Read-clause-refused g c =
    stops_unread _ _ _ _ _ c.args.script.now c.unread.result refl (c.in-Err-Read.ensures.read (ap (λ (x : FileFault). Err x) c.in-Err-Read.field-0-is)) c.unread.ensures

pub returns-in-Err-Refused-clause-refused : goal.returns-in-Err-Refused-clause-refused
returns-in-Err-Refused-clause-refused g c =
    let h = subst (IsToldFault IsNoScript (g.V.Vault.files c.args.vault.now) c.args.script.now) c.in-Err-Refused.field-0-is c.in-Err-Refused.ensures.refused in
    subst (BlamesScript (g.V.Vault.files c.args.vault.now) (g.V.Vault.fetch_faults c.args.vault.now) (g.V.Vault.fetch_faults c.fetch_script.new.vault) c.args.script.now) (sym c.refused.ensures)
    (inl ((h.0, h.1, h.2, refl), c.in-Err-Refused.ensures.stays (λ e. let f = c.in-Err-Refused.field-0-is in cc)))
