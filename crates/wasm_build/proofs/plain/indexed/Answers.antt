use Rattle.std.proofs.Common.{refl}
use Rattle.wa_types.specs.View.{in_front}
use Rattle.wasm_build.proofs.PlainNames.{named_index}
use Rattle.wasm_build.proofs.plain.indexed.Goals as goal

pub returns-in-12 : goal.returns-in-12
unfolding in_front
returns-in-12 c = named_index _ _ 12 _ c.in-12.is refl

pub returns-in-13 : goal.returns-in-13
unfolding in_front
returns-in-13 c = named_index _ _ 13 _ c.in-13.is refl

pub returns-in-16 : goal.returns-in-16
unfolding in_front
returns-in-16 c = named_index _ _ 16 _ c.in-16.is refl

pub returns-in-32 : goal.returns-in-32
unfolding in_front
returns-in-32 c = named_index _ _ 32 _ c.in-32.is refl

pub returns-in-33 : goal.returns-in-33
unfolding in_front
returns-in-33 c = named_index _ _ 33 _ c.in-33.is refl

pub returns-in-34 : goal.returns-in-34
unfolding in_front
returns-in-34 c = named_index _ _ 34 _ c.in-34.is refl

pub returns-in-35 : goal.returns-in-35
unfolding in_front
returns-in-35 c = named_index _ _ 35 _ c.in-35.is refl

pub returns-in-36 : goal.returns-in-36
unfolding in_front
returns-in-36 c = named_index _ _ 36 _ c.in-36.is refl
