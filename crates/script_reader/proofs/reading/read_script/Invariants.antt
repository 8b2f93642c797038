use Rattle.std.proofs.Common.{◌≡◌, ◌+◌, ◌≤◌, suc, length}
use Rattle.std.specs.Str.Lines.{lines}
use Rattle.script_model.specs.ScriptText.{script_text}
use Rattle.script_reader.specs.Drafts.{read_on}
use Rattle.script_reader.specs.Views.{reading_of}
use Rattle.script_reader.proofs.reading.read_script.Given as goal

-- going on with the lines that are left comes to the script; lines are no more than bytes
abbrev pub invariant-loop-rest : goal.invariant-loop-rest
invariant-loop-rest l = record {
  reads : read_on (suc l.line) (lines l.rest) (reading_of l.reading) ≡ script_text l.fn.bytes;
  few : l.line + length l.rest ≤ length l.fn.bytes;
}

abbrev pub decreases-loop-rest : goal.decreases-loop-rest
decreases-loop-rest l = length l.rest
