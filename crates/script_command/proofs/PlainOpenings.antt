-- A script without devices that is opened, or why it isn't.
use Rattle.std.proofs.Common.{◌≡◌, inl, inr, ℕ, List, map, Option, Some, None, refl, sym, ◌∙◌, subst}
use Rattle.vault_port.specs.Files.{Files}
use Rattle.script_model.specs.Script.{Script, strand_line, unsaved_line}
use Rattle.transcript.specs.Printing.{refusal_of}
use Rattle.script_reader.specs.declared.script.Script.{Script as ScriptValue}
use Rattle.script_reader.specs.Views.{program_of, script_of}
use Rattle.script_command.specs.declared.opening.Opened.{Opened}
use Rattle.script_command.specs.declared.stop.Stop.{Stop}
use Rattle.transcript.specs.declared.refusals.RefusalKind.TheVariants as K
use Rattle.script_command.specs.declared.way.Way.TheVariants.{Run}
use Rattle.script_command.specs.Playing as P
use Rattle.script_command.specs.Playing.{HasScript, bad_line, bad_module, bad_script}
use Rattle.script_command.specs.Views.{AreOpened, BlamesPrograms, BlamesScript, CanPlay, IsReady, box_names_of}
use Rattle.script_command.proofs.NoStrands.{plainly_ready, unsaved_strands}
use Rattle.script_command.proofs.Openings.{stops_so}
use Rattle.script_command.proofs.Scripts.{same_detaches, script_blamed}
use Rattle.script_command.proofs.Statuses.{refused_content, stop_told}
use Rattle.script_setup.specs.Prepared.{IsOfContent}
use Rattle.script_command.specs.PlainScripts.{Cause, IsUnplayed, HasNoUnsaved, has_unsaved, not_run, refusal_for}
use Rattle.script_command.specs.SnapshotViews.{Blames, IsToldStop, Opens, refused_for}

-- ---- what is opened

pub opens_plain : (files : Option Files) (name : List ℕ) (whole : ScriptValue) → HasScript files name (script_of whole) → unsaved_line (script_of whole) ≡ None → (mid : Option Files) (o : Opened) → mid ≡ files
    → o.detaches.items ≡ whole.detaches.items → AreOpened Run (box_names_of whole.mailboxes.items) mid (map program_of whole.programs.items) o.programs → Opens files name o
opens_plain files name whole has none mid o same taken are =
    let here : AreOpened Run (box_names_of whole.mailboxes.items) files (map program_of whole.programs.items) o.programs =
    subst (λ (all : Option Files). AreOpened Run (box_names_of whole.mailboxes.items) all (map program_of whole.programs.items) o.programs) same are in
    record {
      play = record { run = record { whole = script_of whole; of_script = has; parts = _; stages = here.stages }; none = none };
      parts_are = refl;
      detaches_are = same_detaches whole.detaches.items ∙ sym taken;
    }

-- it can be played: a script without such lines has no `strand` line
pub plays_plain : (whole : Script) (o : Opened) → unsaved_line whole ≡ None → o.strand ≡ strand_line whole → IsReady o → CanPlay o
plays_plain whole o none first ready = plainly_ready o ready (first ∙ unsaved_strands whole none)

-- ---- why it isn't

module _ (files : Option Files) (name : List ℕ) (f h : ℕ) where
  pub script_named : (stop : Stop) → BlamesScript files f h name stop → Blames files f h name stop
  script_named stop b = stops_so files f h _ _ _ _ stop (λ r none. (not_run (bad_script (refusal_of r.kind)), (none.0, none.1, none.2), none.3, refl)) (λ read own. inl own) b

  pub unsaved_named : (whole : Script) (line : ℕ) (stop : Stop) → h ≡ f → HasScript files name whole → unsaved_line whole ≡ Some line → stop ≡ refused_for (K.Script line 18) → Blames files f h name stop
  unsaved_named whole line stop same has first is =
      subst (Blames files f h name) (sym is) (inl ((has_unsaved line, record { whole = whole; of_script = has; first = first }, refl, refl), same))

  -- what it isn't run for, behind its lines
  behind_it : HasNoUnsaved files name → (cause : P.Cause) → P.IsRefused Run files name cause → IsUnplayed files name (not_run cause)
  behind_it none (bad_script r) b = b
  behind_it none (bad_module number r) b = (b, none)
  behind_it none (bad_line line rule) b = (b, none)

  pub programs_named : (mid : Option Files) (g : ℕ) (whole : Script) (stop : Stop) → mid ≡ files → g ≡ f → HasScript files name whole → unsaved_line whole ≡ None
      → BlamesPrograms Run (P.boxes_in whole) mid g h whole.programs stop → Blames files f h name stop
  programs_named mid g whole stop same still has none b =
      let named : HasNoUnsaved files name = record { whole = whole; of_script = has; none = none } in
      stops_so files f h _ _ _ _ stop (λ r told. (not_run told.0, behind_it named told.0 told.1, told.2.0, told.2.1)) (λ read is. inr (is, named))
      (script_blamed Run files name f h mid g whole stop same still has b)

unplayed_content : (files : Option Files) (name : List ℕ) (cause : Cause) → IsUnplayed files name cause → IsOfContent (refusal_for cause)
unplayed_content files name (has_unsaved line) b = tt
unplayed_content files name (not_run (bad_script r)) b = refused_content Run files name (bad_script r) b
unplayed_content files name (not_run (bad_module number r)) b = refused_content Run files name (bad_module number r) b.0
unplayed_content files name (not_run (bad_line line rule)) b = tt

-- what is told of it isn't that memory is wanting
pub told_opening : (files : Option Files) (f h : ℕ) (name : List ℕ) (stop : Stop) → Blames files f h name stop → IsToldStop stop
told_opening files f h name stop b = stop_told _ _ files f h stop (λ r told. subst IsOfContent (sym told.3) (unplayed_content files name told.0 told.1)) b
