-- A script has one answer.
use Rattle.std.specs.Prelude.{◌≡◌, ℕ, List, Some}
use Rattle.vault_port.specs.Files.{Files}
use Rattle.script_command.specs.declared.way.Way.{Way}
use Rattle.script_command.specs.Playing.{Cause, IsRefused, Play}

-- Where the files are told, a script whose programs are all set up isn't refused,
abbrev pub PlayedIsNotRefused : Type 0
PlayedIsNotRefused = (way : Way) (files : Files) (name : List ℕ) (cause : Cause) → Play way (Some files) name → IsRefused way (Some files) name cause → ⊥

-- and one that is refused is refused for one cause: the number of the program, the line and its rule, the offset, the name are the same.
abbrev pub CausesAreOne : Type 0
CausesAreOne = (way : Way) (files : Files) (name : List ℕ) (c d : Cause) → IsRefused way (Some files) name c → IsRefused way (Some files) name d → c ≡ d
