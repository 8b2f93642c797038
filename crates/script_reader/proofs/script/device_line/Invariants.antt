use Rattle.std.proofs.Common.{◌≡◌, drop}
use Rattle.script_reader.proofs.FirstLines.{devices, first_line}
use Rattle.script_reader.proofs.script.device_line.Given as goal

-- the programs so far have no such line
abbrev pub invariant-loop-program : goal.invariant-loop-program
invariant-loop-program l = first_line devices (drop l.program-index l.script.programs.items) ≡ first_line devices l.script.programs.items
