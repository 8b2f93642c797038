-- A snapshot that was saved suits its script's programs, so that a call over it goes on.
use Rattle.std.proofs.Common.{arith, ◌≡◌, ◌≤◌, ◌<◌, ◌⊎◌, inl, inr, ℕ, List, [], ◌∷◌, map, Option, Some, true, All, refl, sym, ap, ◌∙◌, subst}
use Rattle.std.proofs.lemmas.List.Elements.{All-nil, All-cons, All-head, All-tail}
use Rattle.vault_port.specs.Files.{Files}
use Rattle.wa_types.specs.Validity.{Valid}
use Rattle.script_setup.specs.SetUpRules.{named_entry}
use Rattle.script_setup.proofs.GlobalTypes.{given_by_rules}
use Rattle.script_setup.proofs.WithoutStrands.{funcs_alone}
use Rattle.snapshot_store.specs.Snapshots.{snapshot_bytes}
use Rattle.world_laws.specs.AloneLines.{Unbound}
use Rattle.pause_host.proofs.Making.{set_up_fine}
use Rattle.many_host.specs.Calls.{devices_of}
use Rattle.many_host.specs.Saving.{CanBeSaved}
use Rattle.world_hosting.specs.SnapshotsSuit.{IsSetUp}
use Rattle.world_hosting.specs.Worlds.{FitsPlan, HasRanges, Part, world_program, world_programs}
use Rattle.world_hosting.proofs.SavedPrograms.{snapshots_suit}
use Rattle.world_hosting.proofs.ScriptPrograms.{scripts_fit_plans}
use Rattle.script_command.specs.declared.way.Way.TheVariants.{Run}
use Rattle.script_command.specs.PlainScripts.{Play}
use Rattle.script_command.specs.Playing.{HasScript, IsStage, boxes_in, detaches_in}
use Rattle.script_command.specs.SavedSnapshots.{FindsSaved, SavedSnapshotsAreTaken, SavedSnapshotsSuit}
use Rattle.script_command.specs.SnapshotCalls.{Call, continues}
use Rattle.script_command.specs.SnapshotTelling.{Cause, HoldsSnapshot, IsCause, IsRefused, long, programs_of, unfit, unplayed, unread, unwritten}
use Rattle.script_command.proofs.GoingOver.{HasAlike, texts_of}
use Rattle.script_command.proofs.NoStrands.{HasNoStrand, unsaved_strands}
use Rattle.script_command.proofs.Runs.{have_no_strand, in_range}
use Rattle.script_command.proofs.SnapshotAnswering.{continue_passes}
use Rattle.script_command.proofs.Unbinding.{unbound_programs}

-- ---- programs that are set up

stage_set : (files : Option Files) (boxes : List (List ℕ)) (x : Part) → IsStage Run boxes files x → FitsPlan x.text → HasRanges x.text → HasNoStrand x.text → IsSetUp (world_program x)
stage_set files boxes x stage fits ranges none =
    let valid : Valid x.source = stage.module_is.3.2.rewrites.parts.valid_rewritten in
    let given = given_by_rules true boxes x.source x.text x.given stage.set_up in
    let fine = set_up_fine x.source valid x.text.area (map named_entry x.text.entries) x.given.funcs (funcs_alone x.text none true boxes x.source x.given stage.set_up) in
    record {
      valid = valid;
      exports = fine.exports;
      area = fine.area_fits;
      globals = given.globals;
      entries = fine.entries;
      few_steps = fits.few_steps;
      answers = ranges.answers;
    }

stages_set : (files : Option Files) (boxes : List (List ℕ)) (xs : List Part) → All (IsStage Run boxes files) xs → All FitsPlan (texts_of xs) → All HasRanges (texts_of xs) → All HasNoStrand (texts_of xs)
    → All IsSetUp (world_programs xs)
stages_set files boxes [] stages fits ranges none = All-nil IsSetUp
stages_set files boxes (x ∷ xs) stages fits ranges none =
    All-cons IsSetUp (world_program x) (world_programs xs)
    (stage_set files boxes x (All-head (IsStage Run boxes files) x xs stages) (All-head FitsPlan x.text (texts_of xs) fits) (All-head HasRanges x.text (texts_of xs) ranges)
    (All-head HasNoStrand x.text (texts_of xs) none))
    (stages_set files boxes xs (All-tail (IsStage Run boxes files) x xs stages) (All-tail FitsPlan x.text (texts_of xs) fits) (All-tail HasRanges x.text (texts_of xs) ranges)
    (All-tail HasNoStrand x.text (texts_of xs) none))

programs_set : (files : Option Files) (name : List ℕ) (play : Play files name) → All IsSetUp (programs_of play)
programs_set files name play =
    let script = play.run.of_script.script in
    stages_set files (boxes_in play.run.whole) play.run.parts play.run.stages.each
    (subst (All FitsPlan) (sym play.run.stages.texts_are) (scripts_fit_plans play.run.of_script.bytes play.run.whole script.few script.text)) (in_range files name play.run)
    (have_no_strand Run files name play.run (unsaved_strands play.run.whole play.none))

all_saved : (xs : List Part) → All Unbound (world_programs xs) → All CanBeSaved (world_programs xs)
all_saved [] h = All-nil CanBeSaved
all_saved (x ∷ xs) h =
    All-cons CanBeSaved (world_program x) (world_programs xs) (refl, All-head Unbound (world_program x) (world_programs xs) h)
    (all_saved xs (All-tail Unbound (world_program x) (world_programs xs) h))

-- ---- what was saved

early : (events most : ℕ) {X : Type 0} → most ≤ 1000000000 → (events ≡ most) ⊎ ((events < most) × X) → events < 4611686018427387904
early events most few enough = elim enough [ inl e ↦ omega (arith, e, few) | inr e ↦ let below = e.0 in omega (arith, below, few) ]

pub saved_suits : SavedSnapshotsSuit
saved_suits most c text saved few =
    snapshots_suit 0 (programs_of saved.1.play) (detaches_in saved.1.play.run.whole) (devices_of c.devices) (devices_of c.devices') saved.0.events saved.1.told.lines saved.0
    (programs_set c.files c.script saved.1.play) (all_saved saved.1.play.run.parts (unbound_programs c.files c.script saved.1.play)) (early saved.0.events most few saved.1.told.enough)
    saved.1.told.world saved.1.told.is

-- ---- the same script over other files

stage_over : (files files' : Files) (boxes : List (List ℕ)) (x : Part) → files' x.text.path ≡ files x.text.path → IsStage Run boxes (Some files) x → IsStage Run boxes (Some files') x
stage_over files files' boxes x there stage =
    let m = stage.module_is in
    record { module_is = (m.0, m.1, there ∙ m.2, m.3, m.4); set_up = stage.set_up }

stages_over : (files files' : Files) (boxes : List (List ℕ)) (xs : List Part) → All (HasAlike files files') (texts_of xs) → All (IsStage Run boxes (Some files)) xs → All (IsStage Run boxes (Some files')) xs
stages_over files files' boxes [] there stages = All-nil (IsStage Run boxes (Some files'))
stages_over files files' boxes (x ∷ xs) there stages =
    All-cons (IsStage Run boxes (Some files')) x xs
    (stage_over files files' boxes x (All-head (HasAlike files files') x.text (texts_of xs) there) (All-head (IsStage Run boxes (Some files)) x xs stages))
    (stages_over files files' boxes xs (All-tail (HasAlike files files') x.text (texts_of xs) there) (All-tail (IsStage Run boxes (Some files)) x xs stages))

module _ (most : ℕ) (c c' : Call) (text : List ℕ) (h : FindsSaved most c c' text) where
  abbrev play : Play c.files c.script
  play = h.saved.1.play

  abbrev has : HasScript (Some h.files) c.script play.run.whole
  has = subst (λ (f : Option Files). HasScript f c.script play.run.whole) h.first play.run.of_script

  abbrev play' : Play (Some h.files') c'.script
  play' = record {
    run = record {
      whole = play.run.whole;
      of_script = record { bytes = has.bytes; holds = ap h.files' h.script ∙ h.alike.script ∙ has.holds; script = has.script };
      parts = play.run.parts;
      stages = record {
        texts_are = play.run.stages.texts_are;
        each = stages_over h.files h.files' (boxes_in play.run.whole) play.run.parts (subst (All (HasAlike h.files h.files')) (sym play.run.stages.texts_are) h.alike.modules)
            (subst (λ (f : Option Files). All (IsStage Run (boxes_in play.run.whole) f) play.run.parts) h.first play.run.stages.each);
      };
    };
    none = play.none;
  }

  holds : HoldsSnapshot (Some h.files') c'.snap (programs_of play') h.saved.0
  holds = record { bytes = snapshot_bytes h.saved.0; holds = h.snap; few = h.saved.3; spells = h.saved.2; suits = saved_suits most c text h.saved h.few }

  never_refused : (cause : Cause) → IsRefused continues (Some h.files') c'.script c'.snap cause → ⊥
  never_refused cause refused = continue_passes h.files' c'.script c'.snap cause play' h.saved.0 holds refused

  never_for : (cause : Cause) → IsRefused continues c'.files c'.script c'.snap cause → ⊥
  never_for cause refused = never_refused cause (subst (λ (f : Option Files). IsRefused continues f c'.script c'.snap cause) h.second refused)

  unread_alone : (cause : Cause) (text' : List ℕ) → IsCause continues c' cause text' → (read : List ℕ) × (cause ≡ unread read)
  unread_alone (unread read) text' is = (read, refl)
  unread_alone (unplayed cause) text' is = absurd (never_for (unplayed cause) is.0)
  unread_alone (long found) text' is = absurd (never_for (long found) is.0)
  unread_alone unwritten text' is = absurd is.0
  unread_alone unfit text' is = absurd (never_for unfit is.0)

pub saved_are_taken : SavedSnapshotsAreTaken
saved_are_taken most c c' text h =
    ((play' most c c' text h, h.saved.0, holds most c c' text h), never_refused most c c' text h, unread_alone most c c' text h)
