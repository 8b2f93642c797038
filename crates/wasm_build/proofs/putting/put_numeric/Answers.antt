use Rattle.wasm_build.proofs.putting.put_numeric.Goals as goal

pub returns-in-Some-clause-puts : goal.returns-in-Some-clause-puts
returns-in-Some-clause-puts c = c.put_number.ensures c.args.op _ (c.of_opcode.ensures.names _ c.in-Some.is)
