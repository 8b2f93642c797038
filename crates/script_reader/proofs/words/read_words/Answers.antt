use Rattle.script_reader.proofs.Pieces.{line_read, line_refused}
use Rattle.script_reader.proofs.words.read_words.Goals as goal

pub returns-in-Ok : goal.returns-in-Ok
returns-in-Ok c = line_read c.text_words.result c.args.line.now c.in-Ok.ensures.cases.1 c.text_words.ensures

pub returns-in-Err : goal.returns-in-Err
returns-in-Err c = line_refused c.args.line.now c.in-Err.ensures.cases.0
