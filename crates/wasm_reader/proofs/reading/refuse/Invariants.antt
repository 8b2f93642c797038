use Rattle.std.proofs.Common.{◌≡◌, ◌≤◌, ◌<◌, ◌+◌, ◌-◌, length}
use Rattle.vault_port.specs.Files.{bytes_of}
use Rattle.vault_port.specs.Told.{WhereTold}
use Rattle.wasm_reader.proofs.reading.refuse.Given as goal

abbrev pub invariant-fetching : goal.invariant-fetching
invariant-fetching g l =
    record {
      within : l.done ≤ l.most + 1;
      since : l.fn.done ≤ l.done;
      far : WhereTold (g.V.Vault.files l.fn.vault) (λ all. l.done ≤ length (bytes_of all l.name));
      room : 0 < length l.buffer;
      kept : g.V.Vault.files l.vault ≡ g.V.Vault.files l.fn.vault;
      steady : g.V.Vault.fetch_faults l.vault ≡ g.V.Vault.fetch_faults l.fn.vault;
      saves : g.V.Vault.save_faults l.vault ≡ g.V.Vault.save_faults l.fn.vault;
    }

abbrev pub decreases-fetching : goal.decreases-fetching
decreases-fetching g l = l.most + 1 - l.done
