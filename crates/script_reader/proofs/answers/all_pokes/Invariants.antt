use Rattle.std.proofs.Common.{◌≡◌, length, map}
use Rattle.script_model.specs.ScriptLines.{all_pokes}
use Rattle.wa_model.specs.View.{poke_of}
use Rattle.script_reader.specs.ReadingParts.{triples}
use Rattle.script_reader.proofs.Sequences.{appended}
use Rattle.script_reader.proofs.answers.all_pokes.Given as goal

abbrev pub invariant-loop-rest : goal.invariant-loop-rest
invariant-loop-rest l = appended (map poke_of l.pokes.items) (all_pokes (triples l.rest)) ≡ all_pokes (triples l.fn.words)

abbrev pub decreases-loop-rest : goal.decreases-loop-rest
decreases-loop-rest l = length l.rest
