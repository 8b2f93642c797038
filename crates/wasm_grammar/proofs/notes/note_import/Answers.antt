use Rattle.std.proofs.Common.{sym, subst, cond, nat_eq}
use Rattle.file_laws.specs.Showing.{Noted, functions_seen, nothing_seen}
use Rattle.wasm_grammar.proofs.notes.note_import.Goals as goal

pub returns-then-value-eq0 : goal.returns-then-value-eq0
returns-then-value-eq0 c = λ b.
    subst (λ z. Noted b (cond (nat_eq z 0) (functions_seen 1) nothing_seen) c.args.marks.now c.note_functions.new.self) (sym c.if-value-eq0.true) (c.note_functions.ensures b)
