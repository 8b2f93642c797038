use Rattle.std.proofs.Common.{sym, ◌∙◌, subst}
use Rattle.wasm_grammar.specs.Goals.{kind_of}
use Rattle.file_laws.specs.Showing.{Noted, count_shown}
use Rattle.wasm_grammar.proofs.notes.note_count.Goals as goal

pub returns-in-ValueTypes : goal.returns-in-ValueTypes
returns-in-ValueTypes c = λ gs e.
    subst (λ k. Noted c.args.bounds.now (count_shown (kind_of k) gs c.args.value) c.args.marks.now c.note_types.new.marks) (sym c.in-ValueTypes.is)
    (c.note_types.ensures gs (c.awaits_results.ensures ∙ e))
