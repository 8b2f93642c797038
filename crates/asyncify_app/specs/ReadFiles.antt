-- Which file a command read, or should have read.
use Rattle.std.specs.Prelude.{◌≡◌, ◌⊎◌, ℕ, List, Option, Some, None}
use Rattle.vault_port.specs.Files.{Files}
use Rattle.script_model.specs.Command.{transform}
use Rattle.script_model.specs.Spelled.{Spelled, rewrites, hosts, runs, generates, saves, continues}
use Rattle.script_command.specs.declared.way.Way.TheVariants.{Host, Run}
use Rattle.script_command.specs.Playing.{IsRead}
use Rattle.script_command.specs.PlainScripts as S

-- the source, the script, the module of a program that is reached, or the snapshot to go on from
abbrev pub IsReadBy : Option Spelled → Files → List ℕ → Type 0
IsReadBy None files name = ⊥
IsReadBy (Some (rewrites (transform settings input output))) files name = name ≡ input
IsReadBy (Some (hosts script)) files name = IsRead Host (Some files) script name
IsReadBy (Some (runs script)) files name = IsRead Run (Some files) script name
IsReadBy (Some (generates number output)) files name = ⊥
IsReadBy (Some (saves script events snap)) files name = S.IsRead (Some files) script name
IsReadBy (Some (continues script snap)) files name = S.IsRead (Some files) script name ⊎ (S.Play (Some files) script × (name ≡ snap))

-- a file that is read isn't there
abbrev pub ReadsAbsent : Option Spelled → Files → Type 0
ReadsAbsent words files = (name : List ℕ) × IsReadBy words files name × (files name ≡ None)
