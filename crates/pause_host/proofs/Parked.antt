-- A program that is parked, and the value that it is sent.
use Rattle.std.proofs.Common.{◌≡◌, ◌++◌, ℕ, suc, length, List, [], ◌∷◌, Some, None, Bool, true, refl, sym, ap, ◌∙◌, subst, arith}
use Rattle.std.proofs.lemmas.List.Elements.{All-nil}
use Rattle.wa_types.specs.declared.values.Value.TheVariants as V
use Rattle.wa_model.specs.declared.answers.Said.TheVariants as S
use Rattle.wa_model.specs.Outside.{Answer, Event, called, answered, paused, parked, returned, ended, shown}
use Rattle.wa_model.specs.Blocking.{Note}
use Rattle.wa_model.specs.Plan.{Entry, Outcome, given}
use Rattle.wa_model.specs.Protocol.{Held, Phase, calling, call_again, rewinds}
use Rattle.wa_model.specs.View.{answer_of}
use Rattle.world_model.specs.World as W
use Rattle.world_laws.specs.Originals.{new_calls}
use Rattle.run_laws.specs.FittingStates.{HeldFits, PhaseTyped}
use Rattle.run_laws.specs.Ranges.{PokeInside}
use Rattle.interp.specs.declared.instance.Instance.{Instance}
use Rattle.interp.specs.Host.{store_in}
use Rattle.mail_laws.specs.Mailboxes.{mailed}
use Rattle.mail_laws.specs.MailWorld as M
use Rattle.mail_laws.specs.MailWorld.{pauses}
use Rattle.mail_laws.proofs.UnreadAnswers.{unread_answers, unread_value}
use Rattle.host_laws.specs.Places.{stands}
use Rattle.pause_host.specs.declared.program.Program.{Program}
use Rattle.pause_host.specs.declared.program.State.TheVariants.{Live}
use Rattle.pause_host.specs.declared.stages.Pause.{Pause}
use Rattle.pause_host.specs.declared.stages.Stage.TheVariants as St
use Rattle.pause_host.specs.Views.{entry_of, exports_in, is_pause, left_of}
use Rattle.pause_host.specs.Programs.{FollowsAt, Follows, RunsCode, ends_in_pause, begins_paused, is_at_pause, place_of}

-- ---- notes that end in a pause

same_pause : (e : Event) → is_pause e ≡ M.is_pause e
same_pause (called c) = refl
same_pause (answered v) = refl
same_pause (paused ticks used) = refl
same_pause (returned entry v) = refl
same_pause (ended how) = refl
same_pause (parked used) = refl
same_pause (shown at bytes) = refl

pauses_last : (b : Bool) (x : Note) (xs : List Note) → ends_in_pause b (x ∷ xs) ≡ true → pauses (x ∷ xs) ≡ true
pauses_last b x [] e = sym (same_pause x.event) ∙ e
pauses_last b x (y ∷ ys) e = pauses_last (is_pause x.event) y ys e

pauses_then : (b : Bool) (n : ℕ) (notes : List Note) → new_calls notes ≡ suc n → ends_in_pause b notes ≡ true → pauses notes ≡ true
pauses_then b n [] calls e = absurd (omega (arith, calls))
pauses_then b n (x ∷ xs) calls e = pauses_last b x xs e

-- ---- the value that it is sent

-- the phase of a call of the host, and the answer of one that rewinds
abbrev phase_at : Phase → Held → Phase
phase_at other (calling ph s g args th l) = ph
phase_at other _ = other

abbrev answer_at : Answer → Phase → Answer
answer_at other (rewinds e n a s) = a
answer_at other _ = other

module _ (w : W.Program) (notes : List Note) (os : List Outcome) (x : Program) (i : Instance) (pause pause' : Pause) (value : ℕ)
    (state : x.state ≡ Live i (St.Paused pause)) (entry : pause'.entry ≡ pause.entry) (import : pause'.import ≡ pause.import)
    (answer : given (answer_of pause'.answer) ≡ mailed (Some (V.I32 value)) 1) (calls : new_calls notes ≡ suc (length os))
    (f : Follows w notes (os ++ mailed (Some (V.I32 0)) 1 ∷ []) x) where
  abbrev sent : ℕ → Answer
  sent v = record { said = S.Value (Some (V.I32 v)); pokes = []; ticks = 1 }

  abbrev at : Entry → ℕ → Answer → Held
  at e n a = calling (rewinds e n a (store_in i)) (store_in i) (exports_in x.setting.exports).start_rewind (V.I32 x.setting.area.at ∷ []) call_again (left_of x.left)

  abbrev here : Held
  here = at (entry_of pause.entry) pause.import (answer_of pause.answer)

  old : FollowsAt w notes (os ++ mailed (Some (V.I32 0)) 1 ∷ []) x (stands [] here)
  old = subst (λ s. FollowsAt w notes (os ++ mailed (Some (V.I32 0)) 1 ∷ []) x (place_of x s)) state f.at

  pauses_here : pauses notes ≡ true
  pauses_here = pauses_then (begins_paused w.origin) (length os) notes calls (sym f.paused ∙ ap is_at_pause state)

  -- until then its answer was a zero
  zero_there : answer_of pause.answer ≡ sent 0
  zero_there = ap (λ h. answer_at (sent 0) (phase_at (rewinds (entry_of pause.entry) pause.import (sent 0) (store_in i)) h)) (unread_value w notes os 0 x.steps_left here pauses_here calls old.told)

  new_there : sent value ≡ answer_of pause'.answer
  new_there = cc

  -- with the value it goes on as if it had been there from the beginning
  abbrev x' : Program
  x' = record x { receive = None; state = Live i (St.Paused pause') }

  place_is : stands [] (at (entry_of pause.entry) pause.import (sent value)) ≡ place_of x' x'.state
  place_is = λ j. stands [] (at (entry_of (sym entry j)) (sym import j) (new_there j))

  pub settled : Follows w notes (os ++ mailed (Some (V.I32 value)) 1 ∷ []) x'
  settled = record {
    at = subst (FollowsAt w notes (os ++ mailed (Some (V.I32 value)) 1 ∷ []) x') place_is
        (record {
          source = old.source;
          sizes = old.sizes;
          setting = old.setting;
          globals = old.globals;
          pokes = old.pokes;
          given = old.given;
          fits = fits_now;
          holds = (old.holds.0, (old.holds.1.0, All-nil (PokeInside (length (store_in i).memory))));
          few_steps = old.few_steps;
          told = unread_answers w notes os 0 value x.steps_left here pauses_here calls old.told;
        });
    code = subst (RunsCode w.source) state f.code;
    paused = sym (ap is_at_pause state) ∙ f.paused;
  }
    where
      fits_now : HeldFits w.source (at (entry_of pause.entry) pause.import (sent value))
      fits_now =
          let typed : PhaseTyped w.source (rewinds (entry_of pause.entry) pause.import (sent 0) (store_in i)) =
          subst (λ a. PhaseTyped w.source (rewinds (entry_of pause.entry) pause.import a (store_in i))) zero_there old.fits.2 in
          (old.fits.0, old.fits.1, typed, old.fits.3, old.fits.4)
