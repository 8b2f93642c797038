use Rattle.std.proofs.Common.{sym, subst}
use Rattle.wasm_grammar.specs.Goals.{kind_of}
use Rattle.file_laws.specs.Showing.{Noted, entry_shown}
use Rattle.wasm_grammar.proofs.notes.note_entry.Goals as goal

pub returns-in-Globals : goal.returns-in-Globals
returns-in-Globals c = subst (λ k. Noted c.args.bounds.now (entry_shown (kind_of k) c.args.value c.args.at) c.args.marks.now c.note_type.new.self) (sym c.in-Globals.is)
    (c.note_type.ensures c.args.bounds.now)

pub returns-in-ValueTypes : goal.returns-in-ValueTypes
returns-in-ValueTypes c =
    subst (λ k. Noted c.args.bounds.now (entry_shown (kind_of k) c.args.value c.args.at) c.args.marks.now c.note_type-in-ValueTypes.new.self) (sym c.in-ValueTypes.is)
    (c.note_type-in-ValueTypes.ensures c.args.bounds.now)
