use Rattle.std.proofs.Common.{length, ◌≡◌, ◌-◌, ◌≤◌}
use Rattle.vault_port.specs.Told.{Becomes}
use Rattle.vault_port.proofs.Pieces.{HasFront}
use Rattle.vault_port.proofs.whole.save_whole.Given as goal

abbrev pub invariant-saving : goal.invariant-saving
invariant-saving g l =
    record {
      within : l.done ≤ length l.bytes;
      front : Becomes (g.V.Vault.files l.fn.vault) (g.V.Vault.files l.vault) (HasFront l.name l.bytes l.done);
      steady : g.V.Vault.save_faults l.vault ≡ g.V.Vault.save_faults l.fn.vault;
      fetches : g.V.Vault.fetch_faults l.vault ≡ g.V.Vault.fetch_faults l.fn.vault;
    }

abbrev pub decreases-saving : goal.decreases-saving
decreases-saving g l = length l.bytes - l.done
