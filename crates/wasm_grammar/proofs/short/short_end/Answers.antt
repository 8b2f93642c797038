use Rattle.std.proofs.Common.{◌≡◌, Some, get_or, false, ap, ◌∙◌, subst, arith}
use Rattle.wa_types.specs.Opcodes.{follows, is_float_op}
use Rattle.wasm_grammar.specs.Forms.{form_of}
use Rattle.wasm_grammar.specs.Passing.{Passes}
use Rattle.wasm_grammar.proofs.ShortItems.{some_both, passes_nothing, passes_index, passes_access, passes_constant}
use Rattle.wasm_grammar.proofs.short.short_end.Goals as goal

pub returns-in-Nothing-clause-passes : goal.returns-in-Nothing-clause-passes
returns-in-Nothing-clause-passes c =
    let some = c.if-saturating_sub-lt3.false in
    let room = c.saturating_sub.ensures in
    passes_nothing c.args.bytes.now.all c.args.at c.args.stop (omega (arith, some, room)) c.requires.stop
    (subst (λ z. Some (form_of z) ≡ follows (get_or c.args.bytes.now.all c.args.at 0)) c.in-Nothing.is (c.in_ok-immediate_form.ensures ∙ ap follows c.at-op.ensures))
    (subst (λ z. is_float_op z ≡ false) c.at-op.ensures c.if-not-is_integer_op.ensures)

pub returns-in-Index-clause-passes : goal.returns-in-Index-clause-passes
returns-in-Index-clause-passes c =
    some_both c.behind_number.result _ _ (λ end. Passes c.args.bytes.now.all c.args.at end c.args.stop)
    (λ end h short. passes_index c.args.bytes.now.all c.args.at end c.args.stop h.0 h.1 c.requires.stop
    (subst (λ z. Some (form_of z) ≡ follows (get_or c.args.bytes.now.all c.args.at 0)) c.in-Index.is (c.in_ok-immediate_form.ensures ∙ ap follows c.at-op.ensures))
    (subst (λ z. is_float_op z ≡ false) c.at-op.ensures c.if-not-is_integer_op.ensures) short)
    c.behind_number.ensures.ahead c.behind_number.ensures.short

pub returns-in-Constant32-clause-passes : goal.returns-in-Constant32-clause-passes
returns-in-Constant32-clause-passes c =
    some_both c.behind_number-in-Constant32.result _ _ (λ end. Passes c.args.bytes.now.all c.args.at end c.args.stop)
    (λ end h short. passes_constant 32 c.args.bytes.now.all c.args.at end c.args.stop (omega arith) h.0 h.1 c.requires.stop
    (subst (λ z. Some (form_of z) ≡ follows (get_or c.args.bytes.now.all c.args.at 0)) c.in-Constant32.is (c.in_ok-immediate_form.ensures ∙ ap follows c.at-op.ensures))
    (subst (λ z. is_float_op z ≡ false) c.at-op.ensures c.if-not-is_integer_op.ensures) short)
    c.behind_number-in-Constant32.ensures.ahead c.behind_number-in-Constant32.ensures.short

pub returns-in-Constant64-clause-passes : goal.returns-in-Constant64-clause-passes
returns-in-Constant64-clause-passes c =
    some_both c.behind_number-in-Constant64.result _ _ (λ end. Passes c.args.bytes.now.all c.args.at end c.args.stop)
    (λ end h short. passes_constant 64 c.args.bytes.now.all c.args.at end c.args.stop (omega arith) h.0 h.1 c.requires.stop
    (subst (λ z. Some (form_of z) ≡ follows (get_or c.args.bytes.now.all c.args.at 0)) c.in-Constant64.is (c.in_ok-immediate_form.ensures ∙ ap follows c.at-op.ensures))
    (subst (λ z. is_float_op z ≡ false) c.at-op.ensures c.if-not-is_integer_op.ensures) short)
    c.behind_number-in-Constant64.ensures.ahead c.behind_number-in-Constant64.ensures.short

pub returns-in-Access-clause-passes : goal.returns-in-Access-clause-passes
returns-in-Access-clause-passes c =
    some_both c.behind_numbers.result _ _ (λ end. Passes c.args.bytes.now.all c.args.at end c.args.stop)
    (λ end h short. passes_access c.args.bytes.now.all c.args.at end c.args.stop h.1 c.requires.stop
    (subst (λ z. Some (form_of z) ≡ follows (get_or c.args.bytes.now.all c.args.at 0)) c.in-Access.is (c.in_ok-immediate_form.ensures ∙ ap follows c.at-op.ensures))
    (subst (λ z. is_float_op z ≡ false) c.at-op.ensures c.if-not-is_integer_op.ensures) short)
    c.behind_numbers.ensures.ahead c.behind_numbers.ensures.short
