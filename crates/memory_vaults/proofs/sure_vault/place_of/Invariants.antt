use Rattle.std.proofs.Common.{◌≡◌, take, None}
use Rattle.memory_vaults.specs.InMemory.{files_of}
use Rattle.memory_vaults.proofs.sure_vault.place_of.Given as goal

abbrev pub invariant-loop-place : goal.invariant-loop-place
invariant-loop-place l = files_of (take l.place l.files) l.name ≡ None
