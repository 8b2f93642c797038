use Rattle.std.proofs.Common.{refl}
use Rattle.wasm_build.proofs.PieceParts.{vector_none, vector_step, vector_waits, vector_waits_on}
use Rattle.wasm_build.proofs.builder.Builder.vector.Goals as goal

pub returns-in_default-clause-steps : goal.returns-in_default-clause-steps
returns-in_default-clause-steps c = λ first.
    vector_none c.args.self.now first c.args.id c.args.bytes.now c.requires.stage c.requires.id _ _ c.requires.other c.of.ensures c.in_default.is

pub returns-in_default-number-clause-steps : goal.returns-in_default-number-clause-steps
returns-in_default-number-clause-steps c = λ first.
    vector_waits c.args.self.now first c.args.id c.args.bytes.now c.requires.stage c.requires.id c.in-Some.kind c.of.ensures c.in-Some.is c.in_default-number.ensures.none

pub returns-in_default-number-2-clause-steps : goal.returns-in_default-number-2-clause-steps
returns-in_default-number-2-clause-steps c = λ first.
    vector_waits_on c.args.self.now first c.args.id c.args.bytes.now c.requires.stage c.requires.id c.in-Some.kind c.in-Some-number._size c.number.new.at c.of.ensures c.in-Some.is
    c.in-Some-number.ensures.some c.number.ensures.within c.in_default-number-2.ensures.none

pub returns-clause-steps : goal.returns-clause-steps
returns-clause-steps c = λ first.
    vector_step c.args.self.now first c.args.id c.args.bytes.now c.requires.stage c.requires.id c.in-Some.kind _ c.in-Some-number._size c.number.new.at c.in-Some-number-2.count
    c.number-2.new.at c.of.ensures c.in-Some.is c.in-Some-number.ensures.some c.in-Some-number-2.ensures.some c.number-2.ensures.within c.before_entries-self.ensures refl
