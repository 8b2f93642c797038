use Rattle.std.proofs.Common.{sym, ap, ◌∙◌}
use Rattle.script_reader.specs.Reading.{begins_plainly}
use Rattle.script_reader.proofs.Numerals.{parsed, not_parsed}
use Rattle.script_reader.proofs.numbers.read_number.Goals as goal

pub returns-then-not-begins_plainly : goal.returns-then-not-begins_plainly
returns-then-not-begins_plainly c = not_parsed c.args.word.now (ap begins_plainly (sym c.as_bytes.ensures.value) ∙ sym c.begins_plainly.ensures ∙ c.if-not-begins_plainly.true)

pub returns : goal.returns
returns c =
    c.ok.ensures.value ∙ parsed c.args.word.now c.parse.result
    (ap begins_plainly (sym c.as_bytes.ensures.value) ∙ sym c.begins_plainly.ensures ∙ c.if-not-begins_plainly.false) c.parse.ensures.value.0
