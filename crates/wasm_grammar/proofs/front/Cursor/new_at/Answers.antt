use Rattle.wasm_grammar.proofs.Cursors.{first_place}
use Rattle.wasm_grammar.proofs.front.Cursor.new_at.Goals as goal

pub returns : goal.returns
returns c = first_place c.args.first c.args.bytes.now
