use Rattle.std.proofs.Common.{sym, ◌∙◌}
use Rattle.wasm_grammar.proofs.Marking.{types_noted}
use Rattle.wasm_grammar.proofs.notes.note_types.Goals as goal

pub returns-then-are_params : goal.returns-then-are_params
returns-then-are_params c = λ gs e. types_noted c.args.bounds.now gs c.args.value c.args.marks.now c.note_parameters.new.self (sym c.if-are_params.true ∙ e) c.note_parameters.ensures
