use Rattle.wasm_encode.proofs.ModuleLemmas.{code_fits}
use Rattle.wasm_encode.proofs.module.known_len.Goals as goal

pub section_len-requires-in-10-clause-fits : goal.section_len-requires-in-10-clause-fits
section_len-requires-in-10-clause-fits c = code_fits c.args.module.now c.args.id c.deref-in-10.result.now c.in-10.is c.deref-in-10.ensures.value c.requires.locals c.requires.fits
