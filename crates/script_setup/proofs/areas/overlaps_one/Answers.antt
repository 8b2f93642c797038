use Rattle.std.proofs.Common.{◌∙◌}
use Rattle.std.specs.List.{list_any}
use Rattle.script_reader.specs.declared.script.StrandText.{StrandText}
use Rattle.script_reader.specs.Views.{show_of}
use Rattle.script_setup.specs.SetUpRules.{overlaps}
use Rattle.script_setup.proofs.StrandLoops.{or_first, or_second, overlaps_any}
use Rattle.script_setup.proofs.areas.overlaps_one.Goals as goal

pub returns-then-own : goal.returns-then-own
returns-then-own c =
    overlaps_any c.args.area c.args.strands.now (show_of c.args.show.now)
    ∙ or_first (overlaps c.args.area (show_of c.args.show.now)) (list_any (λ (x : StrandText). overlaps x.area (show_of c.args.show.now)) c.args.strands.now) c.overlaps-own.result
    c.overlaps-own.ensures c.if-own.true

pub returns-else-own : goal.returns-else-own
returns-else-own c =
    overlaps_any c.args.area c.args.strands.now (show_of c.args.show.now)
    ∙ or_second (overlaps c.args.area (show_of c.args.show.now)) (list_any (λ (x : StrandText). overlaps x.area (show_of c.args.show.now)) c.args.strands.now) c.overlaps-own.result
    c.overlaps_further-further.result c.overlaps-own.ensures c.if-own.false c.overlaps_further-further.ensures
