use Rattle.std.proofs.Common.{true}
use Rattle.wasm_grammar.proofs.Marking.{code_noted, flat_noted}
use Rattle.wasm_grammar.proofs.notes.note_code.Goals as goal

pub returns-then-opens_level : goal.returns-then-opens_level
returns-then-opens_level c =
    code_noted c.args.bounds.now c.args.op c.args.at c.args.level c.args.marks.now c.note_op.new.self c.note_level.new.self true
    (c.note_op.ensures c.args.bounds.now) c.if-opens_level.ensures c.note_level.ensures

pub returns-else-opens_level : goal.returns-else-opens_level
returns-else-opens_level c =
    flat_noted c.args.bounds.now c.args.op c.args.at c.args.level c.args.marks.now c.note_op.new.self (c.note_op.ensures c.args.bounds.now) c.if-opens_level.ensures
