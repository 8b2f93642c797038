-- The ranges of memory that lines show, one after another.
use Rattle.std.proofs.Common.{refl}
use Rattle.script_reader.specs.declared.script.ShowText.{ShowText}
use Rattle.script_reader.specs.Views.{show_of}
use Rattle.script_setup.proofs.Gathered.{map_all}
use Rattle.script_command.specs.StrandStages.{range_look}
use Rattle.world_hosting.specs.Worlds.{look_at}
use Rattle.script_command.proofs.GatheredStrands.{made_next}
use Rattle.script_command.proofs.strand_planning.shown_ranges.Goals as goal

pub loop-show-preserved : goal.loop-show-preserved
loop-show-preserved c =
    made_next range_look (λ (s : ShowText). look_at (show_of s)) c.loop-show.ranges.items c.push.new.self.items _ c.args.shows.now c.loop-show.show-index (record { line = 0; at = 0; len = 0 })
    c.in_ok-push.ensures.items refl c.loop-show-test.true c.loop-show.invariant

pub returns : goal.returns
returns c = map_all look_at show_of _ c.args.shows.now c.loop-show.show-index c.loop-show-test.false c.loop-show.invariant
