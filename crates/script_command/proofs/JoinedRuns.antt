-- What is saved and gone on with is one run of the originals.
use Rattle.std.proofs.Common.{arith, ◌≡◌, ℕ, List, ◌++◌, length, map, Option, Some, All, sym, ap, ◌∙◌, subst}
use Rattle.std.specs.Prelude.{slice_get}
use Rattle.std.specs.List.{AllZip}
use Rattle.vault_port.specs.Files.{Files}
use Rattle.wa_model.specs.Outside.{Line}
use Rattle.world_model.specs.World.{Actor, Original}
use Rattle.script_model.specs.Script.{Script}
use Rattle.script_model.specs.Transcript.{Names, Transcript, event_lines}
use Rattle.snapshot_store.specs.Snapshots.{Snapshot, SnapText, snapshot_bytes}
use Rattle.snapshot_store.proofs.Splits.{one_snapshot}
use Rattle.joined_worlds.specs.JoinedOriginals.{AreOrderly}
use Rattle.joined_worlds.proofs.JoinedLaw.{joined_law}
use Rattle.wasm_reader.specs.Held.{Holds}
use Rattle.world_laws.specs.Originals.{met}
use Rattle.world_laws.specs.Snapshots.{IsSnapshotOf}
use Rattle.many_host.specs.Calls.{devices_of}
use Rattle.many_host.specs.Turns.{behind}
use Rattle.many_host.proofs.Numbers.{sum_behind}
use Rattle.world_hosting.specs.OriginalRuns.{originals_for}
use Rattle.world_hosting.specs.Worlds.{Part, part_names, turn_count, world_programs}
use Rattle.world_hosting.proofs.TurnCounts.{turns_append}
use Rattle.script_command.specs.Playing.{HasScript, IsStage, Play, boxes_in, detaches_in}
use Rattle.script_command.specs.RunOriginals.{IsSource, original_names}
use Rattle.script_command.specs.declared.way.Way.TheVariants.{Run}
use Rattle.script_command.proofs.OneOriginal.{some_bytes}
use Rattle.script_command.proofs.NoStrands.{unsaved_strands}
use Rattle.script_command.proofs.Runs.{as_many, have_no_strand, in_range, same_imports, same_names}
use Rattle.script_command.proofs.WholeScripts.{one_script}
use Rattle.script_command.specs.SnapshotCalls.{Call}
use Rattle.script_command.specs.JoinedRuns.{GoesOnWith, IsOneRun, JoinedRunsAreOfOriginals, StayOff}
use Rattle.script_command.proofs.GoingOver.{GoOver, HasAlike, all_may_run, each_orderly, go_over, texts_of}
use Rattle.script_command.proofs.JoinedTexts.{names_by_texts, text_joined}
use Rattle.script_command.proofs.OtherDevices.{WorldOver, world_over}
use Rattle.script_command.proofs.PlayedTurns.{turns_played}
use Rattle.script_command.proofs.Unbinding.{unbound_from}

module _ (most : ℕ) (c c' : Call) (text text' : List ℕ) (h : GoesOnWith most c c' text text') where
  abbrev play : Play Run c.files c.script
  play = h.saved.1.play.run

  abbrev play' : Play Run c'.files c'.script
  play' = h.continued.0.play.run

  abbrev xs : List Part
  xs = play.parts

  abbrev ys : List Part
  ys = play'.parts

  -- ---- one script

  has : HasScript (Some h.files) c.script play.whole
  has = subst (λ (f : Option Files). HasScript f c.script play.whole) h.first play.of_script

  held' : Holds (Some h.files') c'.script play'.of_script.bytes
  held' = subst (λ (f : Option Files). Holds f c'.script play'.of_script.bytes) h.second play'.of_script.holds

  has' : HasScript (Some h.files) c.script play'.whole
  has' = record {
    bytes = play'.of_script.bytes;
    holds = sym h.alike.script ∙ ap h.files' (sym h.script) ∙ held';
    script = play'.of_script.script;
  }

  one : play'.whole ≡ play.whole
  one = one_script h.files c.script play'.whole play.whole has' has

  texts : texts_of ys ≡ texts_of xs
  texts = play'.stages.texts_are ∙ ap (λ (s : Script). s.programs) one ∙ sym play.stages.texts_are

  are : GoOver h.files xs ys
  are =
      go_over h.files h.files' (boxes_in play.whole) xs ys texts (subst (All (HasAlike h.files h.files')) (sym play.stages.texts_are) h.alike.modules) (in_range c.files c.script play)
      (have_no_strand Run c.files c.script play (unsaved_strands play.whole h.saved.1.play.none))
      (subst (λ (f : Option Files). All (IsStage Run (boxes_in play.whole) f) xs) h.first play.stages.each)
      (subst (λ (s : Script). All (IsStage Run (boxes_in s) (Some h.files')) ys) one (subst (λ (f : Option Files). All (IsStage Run (boxes_in play'.whole) f) ys) h.second play'.stages.each))

  abbrev originals : List Original
  originals = originals_for are.sources xs

  -- ---- one snapshot

  abbrev s : Snapshot
  s = h.saved.0

  abbrev s' : Snapshot
  s' = h.continued.0.snapshot

  same_snapshot : s ≡ s'
  same_snapshot =
      let there : Holds (Some h.files') c'.snap h.continued.0.holds.bytes = subst (λ (f : Option Files). Holds f c'.snap h.continued.0.holds.bytes) h.second h.continued.0.holds.holds in
      let same : h.continued.0.holds.bytes ≡ snapshot_bytes s = some_bytes h.continued.0.holds.bytes (snapshot_bytes s) (sym there ∙ h.snap) in
      one_snapshot (snapshot_bytes s) s s' h.saved.2 (subst (λ (bs : List ℕ). SnapText bs s') same h.continued.0.holds.spells)

  -- ---- one world

  abbrev lines : List Line
  lines = h.saved.1.told.lines

  abbrev more : List Line
  more = h.continued.0.told.lines

  goes : WorldOver h.continued.0.told.world (detaches_in play.whole) (devices_of c.devices')
  goes =
      world_over h.continued.0.told.world (detaches_in play.whole) (ap detaches_in one) (unbound_from play'.whole ys s'.programs h.continued.0.play.none play'.stages.texts_are)
      (devices_of c.devices')

  calm : StayOff originals h.saved.1.told.world.actors h.saved.1.told.world.now h.continued.0.told.world.actors
      → AreOrderly originals h.saved.1.told.world.actors h.saved.1.told.world.now goes.over.actors
  calm off i o x b d eo ex eb ed before split =
      each_orderly are.sources xs are.rewritten i o eo (before ++ met d) (off i o x b d eo ex eb (subst (λ (acts : List Actor). slice_get acts i ≡ Some d) goes.actors ed) before split)

  -- ---- one text

  turns : turn_count lines ≡ s.events
  turns =
      let world = h.saved.1.told.world in
      let count = world.count in
      let played = turns_played (world_programs xs) (detaches_in play.whole) world.count world.actors (devices_of c.devices) lines world.now (devices_of c.devices') world.starts world.played in
      let number = world.numbered in
      omega (arith, played, number)

  all_turns : behind s'.events (turn_count more) ≡ turn_count (lines ++ more)
  all_turns =
      let sum = sum_behind s'.events (turn_count more) in
      let events = ap (λ (z : Snapshot). z.events) same_snapshot in
      let first = turns in
      let parts = turns_append lines more in
      omega (arith, sum, events, first, parts)

  names : map part_names xs ≡ original_names are.sources xs
  names = same_names are.sources xs (same_imports are.sources xs are.rewritten)

  names' : map part_names ys ≡ original_names are.sources xs
  names' = same_names are.sources ys are.names ∙ names_by_texts are.sources xs ys texts

  joined_text : text ++ text' ≡ Transcript (original_names are.sources xs) (length are.sources) (turn_count (lines ++ more)) (lines ++ more)
  joined_text =
      text_joined (original_names are.sources xs) (length are.sources) (turn_count (lines ++ more)) text text' lines more
      (h.saved.1.told.text_is ∙ ap (λ (ns : List Names). event_lines ns lines) names)
      (h.continued.0.told.text_is ∙ ap (λ (ns : List Names). Transcript ns (length ys) (behind s'.events (turn_count more)) more) names'
      ∙ ap (λ (n : ℕ). Transcript (original_names are.sources xs) n (behind s'.events (turn_count more)) more) (as_many are.sources ys are.names)
      ∙ ap (λ (n : ℕ). Transcript (original_names are.sources xs) (length are.sources) n more) all_turns)

  one_run : IsOneRun h
  one_run = record {
    sources = are.sources;
    are_sources = subst (λ (f : Option Files). AllZip (IsSource f) are.sources xs) (sym h.first) are.are_sources;
    one = λ off. (
      goes.end,
      joined_law originals (world_programs xs) (world_programs ys) (detaches_in play.whole) (devices_of c.devices) (devices_of c.devices') goes.end s.events lines more s' are.over
          (all_may_run are.sources xs are.rewritten) h.saved.1.told.world
          (subst (λ (z : Snapshot). IsSnapshotOf (world_programs xs) h.saved.1.told.world.actors h.saved.1.told.world.now s.events z) same_snapshot h.saved.1.told.is) goes.over (calm off),
      λ same. goes.same (sym same),
      joined_text,
    );
  }

pub joined_runs : JoinedRunsAreOfOriginals
joined_runs most c c' text text' h = one_run most c c' text text' h
