-- What the vaults and sinks in memory hold.
use Rattle.std.specs.Prelude.{ℕ, ◌<◌, ◌≡◌, List, [], ◌∷◌, length, take, slice_index_or, Some, None, if◌then◌else◌}
use Rattle.std.specs.Str.{bytes_eq}
use Rattle.vault_port.specs.Files.{Files}
use Rattle.memory_vaults.specs.declared.sure_vault.NamedFile.{NamedFile}
use Rattle.memory_vaults.specs.declared.sure_vault.SureVault.{SureVault}
use Rattle.memory_vaults.specs.declared.mem_vault.MemVault.{MemVault}
use Rattle.memory_vaults.specs.declared.mem_sink.SureSink.{SureSink}
use Rattle.memory_vaults.specs.declared.mem_sink.MemSink.{MemSink}
use Rattle.memory_vaults.specs.declared.schedule.Schedule.{Schedule}
use Rattle.memory_vaults.specs.declared.sure_system.SureDisk.{SureDisk}
use Rattle.memory_vaults.specs.declared.sure_system.SureOut.{SureOut}

-- what a list of files holds under each name: the first file of that name
abbrev pub files_of : List NamedFile → Files
files_of [] name = None
files_of (file ∷ files) name = if bytes_eq file.name name then Some file.bytes.items else files_of files name

-- the file at this place has the name, and none before it
pub record IsFirstOf (files : List NamedFile) (name : List ℕ) (place : ℕ) : Type 0 where
  pub within : place < length files
  pub found : (file : NamedFile) → (slice_index_or files place file).name ≡ name
  pub first : files_of (take place files) name ≡ None

-- the files of a SureVault
abbrev pub sure_files : SureVault → Files
sure_files vault = files_of vault.files.items

-- the files of a MemVault
abbrev pub mem_files : MemVault → Files
mem_files vault = sure_files vault.kept

-- which of its calls fail
abbrev pub vault_schedule : MemVault → Schedule
vault_schedule vault = vault.schedule

-- how many fetches have failed
abbrev pub failed_fetches : MemVault → ℕ
failed_fetches vault = vault.fetch_faults

-- how many saves have failed
abbrev pub failed_saves : MemVault → ℕ
failed_saves vault = vault.save_faults

-- the bytes that a SureSink has taken
abbrev pub sure_bytes : SureSink → List ℕ
sure_bytes sink = sink.bytes.items

-- the bytes that a MemSink has taken
abbrev pub mem_bytes : MemSink → List ℕ
mem_bytes sink = sure_bytes sink.kept

-- which of its calls fail
abbrev pub sink_schedule : MemSink → Schedule
sink_schedule sink = sink.schedule

-- how many have failed
abbrev pub failed_puts : MemSink → ℕ
failed_puts sink = sink.faults

-- the files of a SureDisk
abbrev pub disk_files : SureDisk → Files
disk_files disk = sure_files disk.vault

-- how many cuts and writes have failed
abbrev pub failed_changes : SureDisk → ℕ
failed_changes disk = disk.failed

-- the bytes that a SureOut has taken
abbrev pub out_bytes : SureOut → List ℕ
out_bytes out = sure_bytes out.sink

-- how many writes have failed
abbrev pub failed_writes : SureOut → ℕ
failed_writes out = out.failed
