use Rattle.std.proofs.Common.{ap, sym, ◌∙◌}
use Rattle.std.specs.Prelude.{◌||◌, slice_get}
use Rattle.wa_types.specs.Pausing.{is_told}
use Rattle.flow_rewrite.specs.Numbering.{gets_number}
use Rattle.flow_rewrite.proofs.NumberingLemmas.{call_callee, indirect_callee, no_callee}
use Rattle.flow_rewrite.proofs.numbering.gets_number.Goals as goal

pub returns-then-is_told : goal.returns-then-is_told
returns-then-is_told c =
    c.if-is_told.true ∙ sym (ap (λ b. b || is_told (slice_get c.args.which.now c.in-Call.func)) (sym c.is_told.ensures ∙ c.if-is_told.true))
    ∙ sym (ap (gets_number c.args.which.now c.args.listed.now c.args.ignore_indirect) (call_callee c.args.op.now c.in-Call.func c.in-Call.is))

pub returns-else-is_told : goal.returns-else-is_told
returns-else-is_told c =
    c.is_told-else-is_told.ensures ∙ sym (ap (λ b. b || is_told (slice_get c.args.which.now c.in-Call.func)) (sym c.is_told.ensures ∙ c.if-is_told.false))
    ∙ sym (ap (gets_number c.args.which.now c.args.listed.now c.args.ignore_indirect) (call_callee c.args.op.now c.in-Call.func c.in-Call.is))

pub returns-in-CallIndirect : goal.returns-in-CallIndirect
returns-in-CallIndirect c = sym (ap (gets_number c.args.which.now c.args.listed.now c.args.ignore_indirect) (indirect_callee c.args.op.now c.in-CallIndirect.field-0 c.in-CallIndirect.is))

pub returns-in_default : goal.returns-in_default
returns-in_default c = sym (ap (gets_number c.args.which.now c.args.listed.now c.args.ignore_indirect) (no_callee c.args.op.now c.in_default.not-Call c.in_default.not-CallIndirect))
