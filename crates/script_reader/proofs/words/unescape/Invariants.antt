use Rattle.std.proofs.Common.{◌≡◌, length, Some}
use Rattle.script_model.specs.ScriptLines.{both}
use Rattle.script_reader.proofs.Texts.{unescaped}
use Rattle.script_reader.proofs.words.unescape.Given as goal

-- what is left stands behind what was read
abbrev pub invariant-loop-rest : goal.invariant-loop-rest
invariant-loop-rest l = both (Some l.text.items) (unescaped l.rest) ≡ unescaped l.fn.word

abbrev pub decreases-loop-rest : goal.decreases-loop-rest
decreases-loop-rest l = length l.rest
