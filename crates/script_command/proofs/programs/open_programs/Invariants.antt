use Rattle.std.proofs.Common.{◌≡◌, map}
use Rattle.script_reader.specs.Views.{program_of}
use Rattle.script_command.specs.Views.{box_names_of}
use Rattle.script_command.proofs.Openings.{SoFar}
use Rattle.script_command.proofs.programs.open_programs.Given as goal

-- those that are opened, and those to come; the files are as they were
abbrev pub invariant-loop-text : goal.invariant-loop-text
invariant-loop-text g l = record {
  so_far : SoFar l.way (box_names_of l.mailboxes) (g.V.Vault.files l.fn.vault) l.programs (map program_of l.text-iterator.rest.items) (map program_of l.fn.texts.items);
  kept : g.V.Vault.files l.vault ≡ g.V.Vault.files l.fn.vault;
  steady : g.V.Vault.fetch_faults l.vault ≡ g.V.Vault.fetch_faults l.fn.vault;
  saves : g.V.Vault.save_faults l.vault ≡ g.V.Vault.save_faults l.fn.vault;
}
