use Rattle.std.proofs.Common.{ap, ◌∙◌}
use Rattle.wa_model.specs.Protocol.{index_of}
use Rattle.pause_host.proofs.Parts.{found_same}
use Rattle.pause_host.proofs.setting.exported_as.Goals as goal

pub returns-in-Some : goal.returns-in-Some
returns-in-Some c = ap index_of (c.in-Some.ensures ∙ found_same c.args.name.now c.args.exports.now)

pub returns-in-None : goal.returns-in-None
returns-in-None c = ap index_of (c.in-None.ensures ∙ found_same c.args.name.now c.args.exports.now)
