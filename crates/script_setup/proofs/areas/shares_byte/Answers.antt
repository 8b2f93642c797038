use Rattle.std.proofs.Common.{◌∙◌, sym}
use Rattle.wa_model.specs.Blocking.{overlap}
use Rattle.script_setup.specs.SetUpRules.{shares_byte}
use Rattle.script_setup.specs.Views.{earlier_areas}
use Rattle.script_setup.proofs.StrandLoops.{or_second, shares_any}
use Rattle.script_setup.proofs.areas.shares_byte.Goals as goal

pub returns-else-first : goal.returns-else-first
returns-else-first c =
    or_second (overlap c.args.own.at c.args.own.len c.args.area.at c.args.area.len) (shares_byte (earlier_areas c.args.earlier.now) c.args.area) c.overlap-first.result
    c.shares_further-further.result c.overlap-first.ensures c.if-first.false (c.shares_further-further.ensures ∙ sym (shares_any c.args.earlier.now c.args.area))
