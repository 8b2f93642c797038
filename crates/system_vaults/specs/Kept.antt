-- What the vault over a disk and the sink over an output stand on.
use Rattle.system_vaults.specs.declared.file_vault.FileVault.{FileVault}
use Rattle.system_vaults.specs.declared.out_sink.OutSink.{OutSink}

-- the disk of a FileVault
abbrev pub disk_of : {D : Type 0} → FileVault D → D
disk_of vault = vault.disk

-- the output of an OutSink
abbrev pub out_of : {O : Type 0} → OutSink O → O
out_of sink = sink.out
