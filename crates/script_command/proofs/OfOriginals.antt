-- What is told is of the originals of what is played.
use Rattle.std.proofs.Common.{◌≡◌, ℕ, List, Option, None}
use Rattle.vault_port.specs.Files.{Files}
use Rattle.script_model.specs.Script.{strand_line}
use Rattle.event_order.specs.Left.{Counted}
use Rattle.world_hosting.specs.Worlds.{AreTold}
use Rattle.script_command.specs.declared.way.Way.{Way}
use Rattle.script_command.specs.declared.way.Way.TheVariants.{Host, Run}
use Rattle.script_command.specs.Playing.{Play, boxes_in, detaches_in}
use Rattle.script_command.specs.OfOriginals.{OfOriginals}
use Rattle.world_hosting.proofs.Endings.{told_ends}
use Rattle.world_hosting.proofs.Originals.{told_of_originals}
use Rattle.script_command.specs.OfOriginals.{RunsOriginals}
use Rattle.script_command.proofs.Runs.{have_no_strand, in_range, same_imports, sources_of, text_of_originals}
use Rattle.script_command.proofs.Hosted.{hosts_of_originals}

-- the programs' originals, with their world and their ends
runs_originals : (files : Option Files) (name : List ℕ) (play : Play Run files name) (none : strand_line play.whole ≡ None) (old new : List Counted) (text : List ℕ)
    (told : AreTold play.parts (detaches_in play.whole) old new text) → RunsOriginals files name play old new text told
runs_originals files name play none old new text told =
    let have = sources_of files (boxes_in play.whole) play.parts play.stages.each (in_range files name play) (have_no_strand Run files name play none) in
    record {
      sources = have.sources;
      are_sources = have.are_sources;
      world = λ calm. (
        told_of_originals have.sources play.parts _ _ _ told.lines have.rewritten told.world calm,
        text_of_originals have.sources play.parts text told.lines (same_imports have.sources play.parts have.rewritten) told.text_is,
      );
      ends = λ number o a there at calm. told_ends have.sources play.parts _ _ _ told.lines number o a have.rewritten told.world there at calm;
    }

pub of_originals : (way : Way) (files : Option Files) (name : List ℕ) (play : Play way files name) (none : strand_line play.whole ≡ None) (old new : List Counted) (text : List ℕ)
    (told : AreTold play.parts (detaches_in play.whole) old new text) → OfOriginals way files name play old new text told
of_originals Run files name play none old new text told = runs_originals files name play none old new text told
of_originals Host files name play none old new text told = λ sources hosted orderly. hosts_of_originals files name play sources hosted old new text told orderly
