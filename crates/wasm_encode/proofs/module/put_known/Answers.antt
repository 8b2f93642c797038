use Rattle.wasm_encode.proofs.ModuleLemmas.{code_fits}
use Rattle.wasm_encode.proofs.module.put_known.Goals as goal

pub put_section-requires-in-10-clause-fits : goal.put_section-requires-in-10-clause-fits
put_section-requires-in-10-clause-fits c = code_fits c.args.module.now c.args.id c.deref-in-10.result.now c.in-10.is c.deref-in-10.ensures.value c.requires.locals c.requires.fits
