use Rattle.wasm_validate.proofs.valid.Valid.proved.Goals as goal

pub invariant_of-result : goal.invariant_of-result
invariant_of-result c = (c.requires.valid, c.requires.sizes, c.in_ok-spaces.ensures)
