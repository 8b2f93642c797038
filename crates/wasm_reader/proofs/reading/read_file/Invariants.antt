use Rattle.std.proofs.Common.{◌≡◌, ◌≤◌, ◌<◌, ◌^◌, ◌-◌, All, None, length}
use Rattle.wasm_reader.specs.FilePieces.{IsFront}
use Rattle.wasm_reader.proofs.reading.read_file.Given as goal

abbrev pub invariant-fetching : goal.invariant-fetching
invariant-fetching g l =
    record {
      going : l.reader.fault ≡ None;
      bounds : l.reader.bounds ≡ l.fn.bounds;
      most : l.most ≡ l.fn.bounds.file;
      low : l.most < 2 ^ 32;
      done : l.done ≡ length l.reader.bytes;
      few : l.done ≤ l.most;
      front : IsFront (g.V.Vault.files l.fn.vault) l.name l.reader.bytes;
      are_bytes : All (λ b. b < 2 ^ 8) l.reader.bytes;
      room : length l.buffer.items ≡ 65536;
      kept : g.V.Vault.files l.vault ≡ g.V.Vault.files l.fn.vault;
      steady : g.V.Vault.fetch_faults l.vault ≡ g.V.Vault.fetch_faults l.fn.vault;
      saves : g.V.Vault.save_faults l.vault ≡ g.V.Vault.save_faults l.fn.vault;
    }

abbrev pub decreases-fetching : goal.decreases-fetching
decreases-fetching g l = l.most - l.done
