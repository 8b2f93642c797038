use Rattle.std.proofs.Common.{map, sym, ◌∙◌}
use Rattle.script_reader.specs.Views.{show_of, strand_of}
use Rattle.script_setup.specs.SetUpRules.{overlaps_one}
use Rattle.script_setup.proofs.Told.{position_map}
use Rattle.script_setup.proofs.areas.first_overlap.Goals as goal

pub returns : goal.returns
returns c = position_map (overlaps_one c.args.area (map strand_of c.args.strands.now)) show_of c.args.shows.now ∙ sym c.overlapping-place.ensures
