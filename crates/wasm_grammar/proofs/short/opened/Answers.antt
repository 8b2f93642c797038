use Rattle.std.proofs.Common.{◌≡◌, true, false, sym, ◌∙◌, subst, arith}
use Rattle.wa_types.specs.Opcodes.{is_block_type, is_float_type}
use Rattle.wasm_grammar.proofs.ShortItems.{opens_block, opens_loop, opens_if}
use Rattle.wasm_grammar.proofs.short.opened.Goals as goal

pub returns-in-2-clause-opens : goal.returns-in-2-clause-opens
returns-in-2-clause-opens c =
    let some = c.if-saturating_sub-lt3.false in
    let room = c.saturating_sub.ensures in
    opens_block c.args.bytes.now.all c.args.at c.args.stop (omega (arith, some, room)) c.requires.stop (sym c.at-op.ensures ∙ c.in-2.is)
    (subst (λ z. is_block_type z ≡ true) c.at-ty.ensures c.if-not-is_block_type.ensures.0) (subst (λ z. is_float_type z ≡ false) c.at-ty.ensures c.if-not-is_block_type.ensures.1)

pub returns-in-3-clause-opens : goal.returns-in-3-clause-opens
returns-in-3-clause-opens c =
    let some = c.if-saturating_sub-lt3.false in
    let room = c.saturating_sub.ensures in
    opens_loop c.args.bytes.now.all c.args.at c.args.stop (omega (arith, some, room)) c.requires.stop (sym c.at-op.ensures ∙ c.in-3.is)
    (subst (λ z. is_block_type z ≡ true) c.at-ty.ensures c.if-not-is_block_type.ensures.0) (subst (λ z. is_float_type z ≡ false) c.at-ty.ensures c.if-not-is_block_type.ensures.1)

pub returns-in-4-clause-opens : goal.returns-in-4-clause-opens
returns-in-4-clause-opens c =
    let some = c.if-saturating_sub-lt3.false in
    let room = c.saturating_sub.ensures in
    opens_if c.args.bytes.now.all c.args.at c.args.stop (omega (arith, some, room)) c.requires.stop (sym c.at-op.ensures ∙ c.in-4.is)
    (subst (λ z. is_block_type z ≡ true) c.at-ty.ensures c.if-not-is_block_type.ensures.0) (subst (λ z. is_float_type z ≡ false) c.at-ty.ensures c.if-not-is_block_type.ensures.1)
