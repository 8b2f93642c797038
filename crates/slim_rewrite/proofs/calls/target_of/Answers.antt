use Rattle.std.proofs.Common.{ap, sym}
use Rattle.guard_form.specs.Pieces.{sole_callee}
use Rattle.flow_rewrite.proofs.NumberingLemmas.{no_callee}
use Rattle.slim_rewrite.proofs.CallLemmas.{call_front, indirect_front}
use Rattle.slim_rewrite.proofs.calls.target_of.Goals as goal

pub returns-in-Call-clause-calls : goal.returns-in-Call-clause-calls
returns-in-Call-clause-calls c = call_front c.args.op.now c.in-Call.func c.in-Call.is

pub returns-in-Call-clause-sole : goal.returns-in-Call-clause-sole
returns-in-Call-clause-sole c = sym (ap sole_callee (call_front c.args.op.now c.in-Call.func c.in-Call.is))

pub returns-in-CallIndirect-clause-calls : goal.returns-in-CallIndirect-clause-calls
returns-in-CallIndirect-clause-calls c = indirect_front c.args.op.now c.in-CallIndirect.sort c.in-CallIndirect.is

pub returns-in-CallIndirect-clause-sole : goal.returns-in-CallIndirect-clause-sole
returns-in-CallIndirect-clause-sole c = sym (ap sole_callee (indirect_front c.args.op.now c.in-CallIndirect.sort c.in-CallIndirect.is))

pub returns-in_default-clause-sole : goal.returns-in_default-clause-sole
returns-in_default-clause-sole c = sym (no_callee c.args.op.now c.in_default.not-Call c.in_default.not-CallIndirect)
