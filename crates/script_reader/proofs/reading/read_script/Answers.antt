-- A line more is read, or the first fault is told.
use Rattle.std.proofs.Common.{arith, ap, ◌∙◌}
use Rattle.std.specs.Str.Lines.{lines}
use Rattle.script_model.specs.ScriptText.{script_text}
use Rattle.script_reader.specs.Drafts.{read_on}
use Rattle.script_reader.specs.Views.{reading_of, script_of}
use Rattle.script_reader.proofs.Told.{reads_text}
use Rattle.script_reader.proofs.Steps.{handed_on, line_read, line_fails}
use Rattle.script_reader.proofs.reading.read_script.Goals as goal

pub loop-rest-init : goal.loop-rest-init
loop-rest-init c = record {
  reads = ap (read_on 1 (lines c.args.bytes.now)) c.nothing_read-reading.ensures ∙ reads_text c.args.bytes.now;
  few = omega arith;
}

pub returns-in_err-read_line : goal.returns-in_err-read_line
returns-in_err-read_line c =
    handed_on script_of c.from_residual.result c.in_err-read_line.field-0.0 (script_text c.args.bytes.now) c.from_residual.ensures.1
    (line_fails c.loop-rest.line c.loop-rest.rest.now c.first_line.result.0.now c.first_line.result.1.now c.first_line.ensures.lines (reading_of c.loop-rest.reading)
    (script_text c.args.bytes.now) c.loop-rest.invariant.reads c.in_err-read_line.field-0.0 c.in_err-read_line.ensures)

pub loop-rest-preserved : goal.loop-rest-preserved
loop-rest-preserved c = record {
  reads =
      line_read c.loop-rest.line c.loop-rest.rest.now c.first_line.result.0.now c.first_line.result.1.now c.first_line.ensures.lines (reading_of c.loop-rest.reading)
      (script_text c.args.bytes.now) c.loop-rest.invariant.reads (reading_of c.read_line.new.reading) c.in_ok-read_line.ensures;
  few = omega (arith, c.loop-rest.invariant.few, c.first_line.ensures.shorter);
}
