use Rattle.std.proofs.Common.{◌≡◌, map, take}
use Rattle.script_reader.specs.declared.script.ShowText.{ShowText}
use Rattle.script_reader.specs.Views.{show_of}
use Rattle.script_command.specs.StrandStages.{range_look}
use Rattle.world_hosting.specs.Worlds.{look_at}
use Rattle.script_command.proofs.strand_planning.shown_ranges.Given as goal

abbrev pub invariant-loop-show : goal.invariant-loop-show
invariant-loop-show l = map range_look l.ranges.items ≡ map (λ (s : ShowText). look_at (show_of s)) (take l.show-index l.shows)
