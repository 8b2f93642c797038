use Rattle.std.proofs.Common.{◌≡◌, ◌≤◌, ◌-◌, vec_len}
use Rattle.vault_port.specs.Told.{WhereTold}
use Rattle.vault_port.specs.Files.{bytes_of, HoldsFront}
use Rattle.vault_port.proofs.whole.fetch_whole.Given as goal

abbrev pub invariant-fetching : goal.invariant-fetching
invariant-fetching g l =
    record {
      read : WhereTold (g.V.Vault.files l.fn.vault) (λ all. HoldsFront (bytes_of all l.name) l.done l.bytes.items);
      within : l.done ≤ vec_len l.bytes;
      bound : vec_len l.bytes ≤ l.limit;
      kept : g.V.Vault.files l.vault ≡ g.V.Vault.files l.fn.vault;
      steady : g.V.Vault.fetch_faults l.vault ≡ g.V.Vault.fetch_faults l.fn.vault;
      saves : g.V.Vault.save_faults l.vault ≡ g.V.Vault.save_faults l.fn.vault;
    }

abbrev pub decreases-fetching : goal.decreases-fetching
decreases-fetching g l = l.limit - l.done
