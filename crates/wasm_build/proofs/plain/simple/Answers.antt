use Rattle.std.proofs.Common.{lit<, refl}
use Rattle.wa_types.specs.View.{in_front}
use Rattle.wasm_build.proofs.PlainNames.{named_simple, names_operator}
use Rattle.wasm_build.proofs.plain.simple.Goals as goal

pub returns-in-0 : goal.returns-in-0
unfolding in_front
returns-in-0 c = named_simple _ _ 0 c.in-0.is (lit< tt) refl

pub returns-in-1 : goal.returns-in-1
unfolding in_front
returns-in-1 c = named_simple _ _ 1 c.in-1.is (lit< tt) refl

pub returns-in-15 : goal.returns-in-15
unfolding in_front
returns-in-15 c = named_simple _ _ 15 c.in-15.is (lit< tt) refl

pub returns-in-26 : goal.returns-in-26
unfolding in_front
returns-in-26 c = named_simple _ _ 26 c.in-26.is (lit< tt) refl

pub returns-in-27 : goal.returns-in-27
unfolding in_front
returns-in-27 c = named_simple _ _ 27 c.in-27.is (lit< tt) refl

pub returns-in_ok-of_opcode-in_default : goal.returns-in_ok-of_opcode-in_default
returns-in_ok-of_opcode-in_default c = names_operator _ _ (c.of_opcode.ensures.names _ c.in_ok-of_opcode-in_default.was)
