use Rattle.std.proofs.Common.{ap, sym}
use Rattle.wasm_grammar.specs.Goals.{goal_of}
use Rattle.wasm_grammar.specs.Ends.{owes_none}
use Rattle.wasm_grammar.proofs.stack.owes_none.Goals as goal

pub returns-in-Sections : goal.returns-in-Sections
returns-in-Sections c = sym (ap (λ g. owes_none (goal_of g)) c.in-Sections.is)
