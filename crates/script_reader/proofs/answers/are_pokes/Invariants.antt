use Rattle.std.proofs.Common.{◌≡◌, length, None, Some}
use Rattle.script_model.specs.ScriptLines.{pokes_in}
use Rattle.script_reader.specs.ReadingParts.{triples}
use Rattle.script_reader.proofs.answers.are_pokes.Given as goal

abbrev pub invariant-loop-rest : goal.invariant-loop-rest
invariant-loop-rest l = record {
  yes : pokes_in l.rest ≡ Some (triples l.rest) → pokes_in l.fn.words ≡ Some (triples l.fn.words);
  no : pokes_in l.rest ≡ None → pokes_in l.fn.words ≡ None;
}

abbrev pub decreases-loop-rest : goal.decreases-loop-rest
decreases-loop-rest l = length l.rest
