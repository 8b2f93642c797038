use Rattle.std.proofs.Common.{subst, sym}
use Rattle.vault_port.proofs.Telling.{OnErr_by}
use Rattle.wa_types.specs.View.{module_of}
use Rattle.wasm_encode.specs.Modules.{FewLocals}
use Rattle.asyncify_app.proofs.GeneratedSizes.{few_locals, short_as}
use Rattle.asyncify_app.proofs.Telling.{held_as}
use Rattle.asyncify_app.proofs.generating.write_and_play.Goals as goal

pub write_module-requires-clause-locals : goal.write_module-requires-clause-locals
write_module-requires-clause-locals g c = subst FewLocals (sym c.in_ok-module.ensures) (few_locals c.args.number)

pub write_module-requires-clause-short : goal.write_module-requires-clause-short
write_module-requires-clause-short g c = short_as c.args.number (module_of c.in_ok-module.module) c.in_ok-module.ensures c.requires.most

pub play_generated-requires : goal.play_generated-requires
play_generated-requires g c = (c.args.number, c.requires.least, c.requires.most, c.in_ok-module.ensures)

pub returns-in_err-played-clause-cut : goal.returns-in_err-played-clause-cut
returns-in_err-played-clause-cut g c = OnErr_by _ (held_as c.args.number (module_of c.in_ok-module.module) c.args.output.now _ _ c.in_ok-module.ensures c.in_ok-bytes.ensures.done)

pub returns-clause-played : goal.returns-clause-played
returns-clause-played g c = c.in_ok-played.ensures c.args.number c.requires.least c.requires.most c.in_ok-module.ensures
