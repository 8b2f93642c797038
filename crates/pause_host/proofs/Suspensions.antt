-- An answer line that pauses at an import.
use Rattle.std.proofs.Common.{arith, ◌≡◌, ◌≤◌, ℕ, zero, suc, Option, Some, None, false, refl, sym, ap, ◌∙◌}
use Rattle.std.specs.Prelude.{slice_get}
use Rattle.std.specs.Option.{option_map, option_to_list}
use Rattle.std.proofs.lemmas.Option.{slice_get-map}
use Rattle.wa_model.specs.declared.answers.Answer.{Answer as AnswerValue}
use Rattle.wa_model.specs.declared.answers.AnswerLine.{AnswerLine as LineValue}
use Rattle.wa_model.specs.declared.events.End.{End}
use Rattle.wa_model.specs.Blocking.{fault_of}
use Rattle.wa_model.specs.View.{answer_of, answer_line_of}
use Rattle.world_model.specs.World as W
use Rattle.world_model.specs.World.{import_names}
use Rattle.pause_host.specs.declared.stages.EntryCall.{EntryCall}
use Rattle.pause_host.specs.declared.stages.HostImport.{HostImport}
use Rattle.pause_host.specs.declared.stages.Pause.{Pause}
use Rattle.pause_host.specs.declared.stages.Setting.{Setting}
use Rattle.pause_host.specs.declared.stages.Stage.{Stage}
use Rattle.pause_host.specs.declared.stages.Stage.TheVariants.{Pausing}
use Rattle.pause_host.specs.declared.stages.Task.TheVariants as T
use Rattle.pause_host.specs.Moves.{IsSetting}
use Rattle.pause_host.specs.Suspending.{Suspends}
use Rattle.pause_host.specs.Views.{stage_after}

-- what comes to a pause passed its tests, and has ticks
pausing_then : (o : Option End) (ticks : ℕ) (e : EntryCall) (i : ℕ) (a : AnswerValue) (pause : Pause) → Pausing pause ≡ stage_after o ticks (T.Entry e) i a
    → (o ≡ None) × (1 ≤ ticks) × (pause ≡ record { entry = e; import = i; answer = a })
pausing_then (Some end) ticks e i a pause h = cc
pausing_then None zero e i a pause h = cc
pausing_then None (suc ticks) e i a pause h = (refl, omega arith, cc)

never_pauses : (o : Option End) (ticks : ℕ) (e : EntryCall) (i : ℕ) (a : AnswerValue) (stage : Stage) → stage ≡ stage_after o ticks (T.Entry e) i a → ((pause : Pause) → stage ≡ Pausing pause → ⊥)
    → o ≡ None → 1 ≤ ticks → ⊥
never_pauses (Some end) ticks e i a stage h other none some = cc
never_pauses None zero e i a stage h other none some = omega arith
never_pauses None (suc ticks) e i a stage h other none some = other _ h

module _ (w : W.Program) (x : Setting) (is : IsSetting w x) (called : HostImport) (import size : ℕ) (line : LineValue) (at : slice_get x.imports.items import ≡ Some called) where
  named : slice_get (import_names w.source) import ≡ Some called.name
  named =
      ap (λ ns. slice_get ns import) is.names ∙ slice_get-map (λ (i : HostImport). i.name) x.imports.items import
      ∙ ap (option_map (λ (i : HostImport). i.name)) at

  -- it names another import
  pub names_other : (called.name ≡ line.import → ⊥) → Suspends w import size (answer_line_of line) → ⊥
  names_other differ s = let same : Some called.name ≡ Some line.import = sym named ∙ s.names in differ (cc)

  module _ (e : EntryCall) (stage : Stage)
      (is_stage : stage ≡ stage_after (fault_of (option_to_list called.result) size w.plan false import (answer_of line.answer)) line.answer.ticks (T.Entry e) import line.answer) where
    -- it pauses
    pub suspends : (pause : Pause) → stage ≡ Pausing pause → called.name ≡ line.import
        → (pause.entry ≡ e) × (pause.import ≡ import) × (pause.answer ≡ line.answer) × Suspends w import size (answer_line_of line)
    suspends pause pausing name =
        let p = pausing_then _ line.answer.ticks e import line.answer pause (sym pausing ∙ is_stage) in (
          ap (λ (z : Pause). z.entry) p.2,
          ap (λ (z : Pause). z.import) p.2,
          ap (λ (z : Pause). z.answer) p.2,
          record {
            pauses = p.1;
            names = named ∙ ap Some name;
            passes = ap (λ rs. fault_of rs size w.plan false import (answer_of line.answer)) (is.results import called at) ∙ p.0;
          },
        )

    -- it doesn't
    pub suspends_none : ((pause : Pause) → stage ≡ Pausing pause → ⊥) → Suspends w import size (answer_line_of line) → ⊥
    suspends_none other s =
        never_pauses _ line.answer.ticks e import line.answer stage is_stage other
        (ap (λ rs. fault_of rs size w.plan false import (answer_of line.answer)) (sym (is.results import called at)) ∙ s.passes) s.pauses
