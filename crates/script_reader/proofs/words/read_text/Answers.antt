use Rattle.std.proofs.Common.{◌∙◌}
use Rattle.script_reader.proofs.Texts.{text_told, text_refused}
use Rattle.script_reader.proofs.words.read_text.Goals as goal

pub returns-in_ok-new-in-Ok : goal.returns-in_ok-new-in-Ok
returns-in_ok-new-in-Ok c = text_told c.args.bytes.now c.in_ok-new-in-Ok.field-0 c.in-Ok.ensures.cases.1 (c.in_ok-new-in-Ok.ensures ∙ c.in-Ok.ensures.cases.0)

pub returns-in-Err : goal.returns-in-Err
returns-in-Err c = text_refused c.args.bytes.now c.in-Err.ensures.cases.0
