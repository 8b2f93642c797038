use Rattle.std.proofs.Common.{refl, arith}
use Rattle.wa_types.proofs.Ranges.{all_from}
use Rattle.wasm_grammar.proofs.WholeOpcodes.{no_float}
use Rattle.wasm_grammar.proofs.short.is_integer_op.Goals as goal

pub returns-in-0-to-41 : goal.returns-in-0-to-41
unfolding all_from
returns-in-0-to-41 c = no_float 0 42 c.args.op (omega arith) (omega arith) refl

pub returns-in-44-to-55 : goal.returns-in-44-to-55
unfolding all_from
returns-in-44-to-55 c = no_float 44 12 c.args.op (omega arith) (omega arith) refl

pub returns-in-58-to-66 : goal.returns-in-58-to-66
unfolding all_from
returns-in-58-to-66 c = no_float 58 9 c.args.op (omega arith) (omega arith) refl

pub returns-in-69-to-90 : goal.returns-in-69-to-90
unfolding all_from
returns-in-69-to-90 c = no_float 69 22 c.args.op (omega arith) (omega arith) refl

pub returns-in-103-to-138 : goal.returns-in-103-to-138
unfolding all_from
returns-in-103-to-138 c = no_float 103 36 c.args.op (omega arith) (omega arith) refl
