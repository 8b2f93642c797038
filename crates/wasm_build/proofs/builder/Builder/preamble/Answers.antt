use Rattle.std.proofs.Common.{refl}
use Rattle.wasm_build.proofs.PieceParts.{preamble_step, preamble_waits}
use Rattle.wasm_build.proofs.builder.Builder.preamble.Goals as goal

pub returns-clause-steps : goal.returns-clause-steps
returns-clause-steps c = λ first. preamble_step c.args.self.now _ first c.args.bytes.now c.requires c.if-bytes-lt8.false refl refl

pub returns-then-bytes-lt8-clause-steps : goal.returns-then-bytes-lt8-clause-steps
returns-then-bytes-lt8-clause-steps c = λ first. preamble_waits c.args.self.now first c.args.bytes.now c.requires c.if-bytes-lt8.true
