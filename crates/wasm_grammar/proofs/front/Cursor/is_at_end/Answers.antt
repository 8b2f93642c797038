use Rattle.wasm_grammar.proofs.Cursors.{at_end, not_at_end}
use Rattle.wasm_grammar.proofs.front.Cursor.is_at_end.Goals as goal

pub returns : goal.returns
returns c = (at_end _ _ _ _ c.self.view_is, not_at_end _ _ _ _ c.self.view_is c.self.invariant)
