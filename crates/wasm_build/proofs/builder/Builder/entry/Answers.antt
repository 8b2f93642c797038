use Rattle.std.proofs.Common.{◌≡◌, ◌-◌, refl, ap, ◌∙◌, arith, length}
use Rattle.wasm_grammar.specs.Places.{Place}
use Rattle.wasm_build.specs.BuildsPieces.{stage_before}
use Rattle.wasm_build.proofs.PieceParts.{entry_built, entry_waits}
use Rattle.wasm_build.proofs.builder.Builder.entry.Goals as goal

pub returns-in-Ok-clause-steps : goal.returns-in-Ok-clause-steps
returns-in-Ok-clause-steps c =
    let n : c.saturating_sub.result ≡ c.args.left - 1 = omega arith in
    entry_built c.args.self.now _ c.args.kind c.args.left c.args.first c.args.bytes.now _ c.entry.new.input c.requires c.new_at-input.ensures _ _ refl c.in-Ok.ensures.built
    (ap (λ z. length c.args.bytes.now - length z) c.rest.ensures) (omega (arith, c.in-Ok.ensures.left, ap (λ (z : Place). length z.left) c.new_at-input.ensures))
    (c.before_entries-self.ensures ∙ ap (stage_before c.args.kind) n)

pub returns-in-Err-NotSpelled-clause-steps : goal.returns-in-Err-NotSpelled-clause-steps
returns-in-Err-NotSpelled-clause-steps c =
    entry_waits c.args.self.now _ c.args.kind c.args.left c.args.first c.args.bytes.now _ c.entry.new.input c.requires c.new_at-input.ensures
    (record c.args.self.now { sections = c.entry.new.self }) _ c.in-Err-NotSpelled.field-0-is c.in-Err-NotSpelled.ensures.built refl
    c.in-Err-NotSpelled.ensures.kept
