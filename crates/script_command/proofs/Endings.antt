-- What is run ends as its originals do.
use Rattle.world_hosting.proofs.Endings.{told_ends}
use Rattle.script_command.specs.Completeness.{BoundedProgramsAreWhole}
use Rattle.script_command.specs.Playing.{boxes_in}
use Rattle.script_command.specs.declared.way.Way.TheVariants.{Run}
use Rattle.script_command.proofs.Runs.{have_no_strand, in_range, sources_of}

pub bounded_programs_whole : BoundedProgramsAreWhole
bounded_programs_whole files name play none =
    let have = sources_of files (boxes_in play.whole) play.parts play.stages.each (in_range files name play) (have_no_strand Run files name play none) in (
      have.sources,
      have.are_sources,
      λ old new text told number o a there at calm. told_ends have.sources play.parts _ _ _ told.lines number o a have.rewritten told.world there at calm,
    )
