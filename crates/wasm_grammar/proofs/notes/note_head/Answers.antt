use Rattle.std.proofs.Common.{sym, subst, cond, nat_eq}
use Rattle.file_laws.specs.Showing.{Noted, functions_seen, nothing_seen}
use Rattle.wasm_grammar.proofs.notes.note_head.Goals as goal

pub returns-then-id-eq3 : goal.returns-then-id-eq3
returns-then-id-eq3 c = λ b.
    subst (λ z. Noted b (cond (nat_eq z 3) (functions_seen c.args.value) nothing_seen) c.args.marks.now c.note_functions.new.self) (sym c.if-id-eq3.true) (c.note_functions.ensures b)
