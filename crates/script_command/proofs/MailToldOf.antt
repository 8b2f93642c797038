-- What is told of a script with mailboxes is of the originals of what is played.
use Rattle.std.proofs.Common.{◌≡◌, ℕ, List, Option, None}
use Rattle.vault_port.specs.Files.{Files}
use Rattle.script_model.specs.Script.{strand_line}
use Rattle.event_order.specs.Left.{Counted}
use Rattle.mail_laws.proofs.MailOriginals.{mail_worlds_untold}
use Rattle.world_hosting.specs.MailCounts.{event_count}
use Rattle.world_hosting.specs.Worlds.{world_programs}
use Rattle.world_hosting.proofs.MailCounting.{mail_faults_counted}
use Rattle.world_hosting.proofs.MailLogs.{mail_devices_logged}
use Rattle.world_hosting.proofs.MailOriginals.{mail_told_ends, mail_told_of_originals}
use Rattle.script_command.specs.declared.way.Way.{Way}
use Rattle.script_command.specs.declared.way.Way.TheVariants.{Host, Run}
use Rattle.script_command.specs.HostedOriginals.{hosted_originals}
use Rattle.script_command.specs.MailTold.{HostsMailOriginals, IsMailToldOf, IsMailTranscript, OfMailOriginals, RunsMailOriginals, boxes_of}
use Rattle.script_command.specs.Playing.{Play, detaches_in}
use Rattle.script_command.proofs.Hosted as H
use Rattle.script_command.proofs.Runs.{have_no_strand, in_range, same_imports, sources_of, text_by_originals}

-- the programs' originals, with their world and their ends
runs_originals : (files : Option Files) (name : List ℕ) (play : Play Run files name) (none : strand_line play.whole ≡ None) (old new : List Counted) (text : List ℕ) (told : IsMailTranscript play old new text)
    → RunsMailOriginals files name play old new text told
runs_originals files name play none old new text told =
    let have = sources_of files (boxes_of play) play.parts play.stages.each (in_range files name play) (have_no_strand Run files name play none) in
    record {
      sources = have.sources;
      are_sources = have.are_sources;
      world = λ calm. (
        mail_told_of_originals have.sources play.parts _ _ _ _ told.lines have.rewritten told.world calm,
        text_by_originals have.sources play.parts text (event_count told.lines) told.lines (same_imports have.sources play.parts have.rewritten) told.text_is,
      );
      ends = λ number o w a there held at far. mail_told_ends have.sources play.parts _ _ _ _ told.lines number o w a have.rewritten told.world there held at far;
    }

-- what is hosted, with the world of its originals
hosts_originals : (files : Option Files) (name : List ℕ) (play : Play Host files name) (old new : List Counted) (text : List ℕ) (told : IsMailTranscript play old new text)
    → HostsMailOriginals files name play old new text told
hosts_originals files name play old new text told = λ sources hosted orderly. (
  mail_worlds_untold (hosted_originals sources play.parts) (world_programs play.parts) _ _ _ _ told.lines (H.all_stand_in files (boxes_of play) sources play.parts play.stages.each hosted)
      (H.all_may_run sources play.parts hosted) told.world orderly,
  text_by_originals sources play.parts text (event_count told.lines) told.lines (H.same_imports sources play.parts hosted) told.text_is,
)

of_originals : (way : Way) (files : Option Files) (name : List ℕ) (play : Play way files name) (none : strand_line play.whole ≡ None) (old new : List Counted) (text : List ℕ) (told : IsMailTranscript play old new text)
    → OfMailOriginals way files name play old new text told
of_originals Run files name play none old new text told = runs_originals files name play none old new text told
of_originals Host files name play none old new text told = hosts_originals files name play old new text told

pub mail_told_of : (way : Way) (files : Option Files) (name : List ℕ) (play : Play way files name) (none : strand_line play.whole ≡ None) (old new : List Counted) (text : List ℕ) → IsMailTranscript play old new text
    → IsMailToldOf play old new text
mail_told_of way files name play none old new text told = record {
  told = told;
  originals = of_originals way files name play none old new text told;
  logs = mail_devices_logged play.parts (detaches_in play.whole) (boxes_of play) old new text told;
  faults = mail_faults_counted play.parts (detaches_in play.whole) (boxes_of play) old new text told;
}
