use Rattle.std.proofs.Common.{inl, inr, ◌∷◌, ap, ◌∙◌, drop, arith}
use Rattle.wasm_build.proofs.PieceParts.{first_byte, section_none}
use Rattle.wasm_build.proofs.builder.Builder.section.Goals as goal

pub returns-then-bytes-lt1-clause-steps : goal.returns-then-bytes-lt1-clause-steps
returns-then-bytes-lt1-clause-steps c = section_none c.args.self.now c.args.first c.args.bytes.now c.requires c.if-bytes-lt1.true

pub single-requires-clause-id : goal.single-requires-clause-id
single-requires-clause-id c = inl (first_byte c.args.bytes.now c.if-bytes-lt1.false ∙ ap (λ z. z ∷ drop 1 c.args.bytes.now) c.in-0.is)

pub single-requires-in-8-clause-id : goal.single-requires-in-8-clause-id
single-requires-in-8-clause-id c = inr (first_byte c.args.bytes.now c.if-bytes-lt1.false ∙ ap (λ z. z ∷ drop 1 c.args.bytes.now) c.in-8.is)

pub code-requires-clause-id : goal.code-requires-clause-id
code-requires-clause-id c = first_byte c.args.bytes.now c.if-bytes-lt1.false ∙ ap (λ z. z ∷ drop 1 c.args.bytes.now) c.in-10.is

pub vector-requires-clause-id : goal.vector-requires-clause-id
vector-requires-clause-id c = first_byte c.args.bytes.now c.if-bytes-lt1.false

pub vector-requires-clause-other : goal.vector-requires-clause-other
vector-requires-clause-other c = record { not_custom = λ h. omega arith; not_start = λ h. omega arith; not_code = λ h. omega arith }
