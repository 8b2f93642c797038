use Rattle.std.proofs.Common.{refl, arith}
use Rattle.wa_types.proofs.Ranges.{all_from}
use Rattle.wa_types.proofs.OperatorLemmas.{opcode_in}
use Rattle.wa_types.proofs.operators.NumOp.of_opcode.Goals as goal

pub returns-in-69-to-90-clause-names : goal.returns-in-69-to-90-clause-names
unfolding all_from
returns-in-69-to-90-clause-names c = λ n e. opcode_in _ 69 69 22 c.args.op (omega arith) (omega arith) refl n e

pub returns-in-103-to-138-clause-names : goal.returns-in-103-to-138-clause-names
unfolding all_from
returns-in-103-to-138-clause-names c = λ n e. opcode_in _ 81 103 36 c.args.op (omega arith) (omega arith) refl n e

pub returns-in-192-to-196-clause-names : goal.returns-in-192-to-196-clause-names
unfolding all_from
returns-in-192-to-196-clause-names c = λ n e. opcode_in _ 131 192 5 c.args.op (omega arith) (omega arith) refl n e
