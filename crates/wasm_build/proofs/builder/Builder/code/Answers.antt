use Rattle.std.proofs.Common.{refl}
use Rattle.wasm_build.proofs.PieceParts.{code_step, code_waits, count_waits}
use Rattle.wasm_build.proofs.builder.Builder.code.Goals as goal

pub returns-in_default-clause-steps : goal.returns-in_default-clause-steps
returns-in_default-clause-steps c = λ first. code_waits c.args.self.now first c.args.bytes.now c.requires.stage c.requires.id c.in_default.ensures.none

pub returns-in_default-number-clause-steps : goal.returns-in_default-number-clause-steps
returns-in_default-number-clause-steps c = λ first.
    count_waits c.args.self.now first c.args.bytes.now c.requires.stage c.requires.id c.in-Some._size c.number.new.at
    c.in-Some.ensures.some c.number.ensures.within c.in_default-number.ensures.none

pub returns-clause-steps : goal.returns-clause-steps
returns-clause-steps c = λ first.
    code_step c.args.self.now first c.args.bytes.now c.requires.stage c.requires.id _ c.in-Some._size c.number.new.at c.in-Some-number._count c.number-2.new.at
    c.in-Some.ensures.some c.in-Some-number.ensures.some c.number-2.ensures.within c.behind_body-self.ensures refl
