-- What the place of a stage says of what waits in the instance.
use Rattle.std.proofs.Common.{◌≡◌, ℕ, ◌-◌, List, [], ◌∷◌, Option, Bool, true, false, cond, refl, sym, ap, subst, append-nil, arith}
use Rattle.std.specs.Option.{option_to_list}
use Rattle.wa_types.specs.declared.values.Value.{Value}
use Rattle.wa_types.specs.declared.values.Value.TheVariants as V
use Rattle.wa_types.specs.declared.values.Trap.TheVariants as Trap
use Rattle.wa_types.specs.Syntax.{Module}
use Rattle.wa_model.specs.declared.answers.Said.{Said}
use Rattle.wa_model.specs.declared.answers.Said.TheVariants as SV
use Rattle.wa_model.specs.declared.events.End.TheVariants as E
use Rattle.wa_model.specs.declared.events.Event.TheVariants as EV
use Rattle.wa_model.specs.Outside.{answered, ended}
use Rattle.wa_model.specs.View.{answer_of, event_of}
use Rattle.wa_model.specs.Store.{Store}
use Rattle.wa_model.specs.Configuration.{Activation, Configuration}
use Rattle.run_theory.specs.Fitting.{types_of, StoreFits}
use Rattle.wa_model.specs.Blocking.{Note, note, Left, Task, resumed, the_start, an_entry, done_notes, import_traps}
use Rattle.wa_model.specs.Protocol.{exports_of, is_running, Held, busy, calling, give_zero, over, held_on, with_words}
use Rattle.world_model.specs.World.{Program}
use Rattle.run_laws.specs.FittingStates.{HeldFits}
use Rattle.interp.specs.declared.turns.Turn.{Turn}
use Rattle.interp.specs.Instance as I
use Rattle.interp.specs.Instance.{Waits, Awaits, Resumes, Turns}
use Rattle.host_laws.specs.Places.{Place, stands, nowhere, goes_on}
use Rattle.host_laws.proofs.Stretches.{nowhere_on}
use Rattle.pause_host.specs.Mailing.{MailSupply}
use Rattle.pause_host.specs.declared.stages.Moved.{Moved}
use Rattle.pause_host.specs.declared.stages.Pause.{Pause}
use Rattle.pause_host.specs.declared.stages.Stage.TheVariants as S
use Rattle.pause_host.specs.declared.stages.Task as TV
use Rattle.pause_host.specs.declared.stages.Task.TheVariants as T
use Rattle.pause_host.specs.Holding.{is_held}
use Rattle.pause_host.specs.Views.{entry_of, stage_told, with_asker, answering, giving, pausing, unwinding, place_in}
use Rattle.pause_host.specs.Moves.{ComesFrom, PlaceFits, TaskTurn, runs_on, IsTask}
use Rattle.pause_host.proofs.Fronts.{awaits_from}

module _ (w : Program) where
  abbrev p : Module
  p = w.source

  -- ---- an answer is told

  abbrev Place_of : Store → TV.Task → Waits → Left → Said → Store → Place
  Place_of s task waits l said s' = with_asker nowhere s task waits (answering l said s')

  told_next : (from : Place) (left : ℕ) (m : Moved) (supply : MailSupply) (l : Left) (said : Said) (s' : Store) (waits : Waits) (behind : List Note) (h : Held)
      → from ≡ stands (note (answered said) s' ∷ behind) h → m.event ≡ EV.Answered said
      → place_in (exports_of p) w.plan.area l s' waits m.stage ≡ stands behind h → ComesFrom w from left 0 m supply supply l s' waits
  told_next from left m supply l said s' waits behind h is ev place =
      subst (λ z. ComesFrom w z left 0 m supply supply l s' waits) (sym is)
      (record {
        note = note (answered said) s';
        event_is = ap event_of (sym ev);
        store_is = refl;
        tells = record { outcomes = []; takes = (refl, refl); within = omega arith; lands = goes_on [] behind h (nowhere_on p w.plan h) (append-nil (note (answered said) s' ∷ behind)) refl place };
      })

  -- behind a trap comes the end
  trap_next : (from : Place) (left : ℕ) (m : Moved) (supply : MailSupply) (l : Left) (s' : Store) (waits : Waits) → from ≡ stands (import_traps s') (over s') → m.event ≡ EV.Answered SV.Trap
      → m.stage ≡ S.Ending (E.Trapped Trap.Import) → ComesFrom w from left 0 m supply supply l s' waits
  trap_next from left m supply l s' waits is ev st =
      told_next from left m supply l SV.Trap s' waits (note (ended (E.Trapped Trap.Import)) s' ∷ []) (over s') is ev (ap (place_in (exports_of p) w.plan.area l s' waits) st)

  pub tell_comes : (s : Store) (task : TV.Task) (waits : Waits) (left : ℕ) (m : Moved) (supply : MailSupply) (l : Left) (said : Said) (s' : Store)
      → PlaceFits w (Place_of s task waits l said s')
      → m.event ≡ EV.Answered said → m.stage ≡ stage_told task said
      → ComesFrom w (Place_of s task waits l said s') left 0 m supply supply l s' waits
  tell_comes s T.Outermost I.outermost left m supply l (SV.Value v) s' f ev st =
      told_next (Place_of s T.Outermost I.outermost l (SV.Value v) s') left m supply l (SV.Value v) s' I.outermost (done_notes s' l.entries) (held_on s' l l.entries) refl ev
      (ap (place_in (exports_of p) w.plan.area l s' I.outermost) st)
  tell_comes s T.Start (I.inside here under) left m supply l (SV.Value v) s' f ev st =
      told_next (Place_of s T.Start (I.inside here under) l (SV.Value v) s') left m supply l (SV.Value v) s' (I.inside here under) []
      (busy (is_running the_start) (resumed (record { store = s'; here = here; under = under }) s' (option_to_list v)) l) refl ev
      (ap (place_in (exports_of p) w.plan.area l s' (I.inside here under)) st)
  tell_comes s (T.Entry e) (I.inside here under) left m supply l (SV.Value v) s' f ev st =
      told_next (Place_of s (T.Entry e) (I.inside here under) l (SV.Value v) s') left m supply l (SV.Value v) s' (I.inside here under) []
      (busy (is_running (an_entry (entry_of e))) (resumed (record { store = s'; here = here; under = under }) s' (option_to_list v)) l) refl ev
      (ap (place_in (exports_of p) w.plan.area l s' (I.inside here under)) st)
  tell_comes s T.Outermost I.outermost left m supply l SV.Trap s' f ev st =
      trap_next (Place_of s T.Outermost I.outermost l SV.Trap s') left m supply l s' I.outermost refl ev st
  tell_comes s T.Start (I.inside here under) left m supply l SV.Trap s' f ev st =
      trap_next (Place_of s T.Start (I.inside here under) l SV.Trap s') left m supply l s' (I.inside here under) refl ev st
  tell_comes s (T.Entry e) (I.inside here under) left m supply l SV.Trap s' f ev st =
      trap_next (Place_of s (T.Entry e) (I.inside here under) l SV.Trap s') left m supply l s' (I.inside here under) refl ev st
  tell_comes s T.Outermost I.nothing left m supply l said s' f ev st = absurd f
  tell_comes s T.Outermost (I.inside here under) left m supply l said s' f ev st = absurd f
  tell_comes s T.Start I.nothing left m supply l said s' f ev st = absurd f
  tell_comes s T.Start I.outermost left m supply l said s' f ev st = absurd f
  tell_comes s (T.Entry e) I.nothing left m supply l said s' f ev st = absurd f
  tell_comes s (T.Entry e) I.outermost left m supply l said s' f ev st = absurd f

  -- its pokes lie inside where the program stands
  pub answer_inside : (b : Bool) (at : Place) → PlaceFits w (cond b at nowhere) → b ≡ true
  answer_inside true at f = refl
  answer_inside false at f = absurd f

  -- ---- a value is given

  -- the place, and what waits there for the value
  pub record Gives (task : TV.Task) (t : Task) (waits : Waits) (l : Left) (value : Option Value) (s : Store) : Type 0 where
    pub here : Activation
    pub under : List Activation
    pub waits_is : waits ≡ I.inside here under
    pub place_is : with_asker nowhere s task waits (giving l value s) ≡ stands [] (busy (is_running t) (resumed (record { store = s; here = here; under = under }) s (option_to_list value)) l)
    pub fits : HeldFits p (busy (is_running t) (resumed (record { store = s; here = here; under = under }) s (option_to_list value)) l)

  pub gives : (task : TV.Task) (t : Task) (waits : Waits) (l : Left) (value : Option Value) (s : Store) → IsTask task t → PlaceFits w (with_asker nowhere s task waits (giving l value s))
      → Gives task t waits l value s
  gives T.Start t (I.inside here under) l value s is f =
      subst (λ z. Gives T.Start z (I.inside here under) l value s) (sym is) (record { here = here; under = under; waits_is = refl; place_is = refl; fits = f })
  gives (T.Entry e) t (I.inside here under) l value s is f =
      subst (λ z. Gives (T.Entry e) z (I.inside here under) l value s) (sym is) (record { here = here; under = under; waits_is = refl; place_is = refl; fits = f })
  gives T.Start t I.nothing l value s is f = absurd f
  gives T.Start t I.outermost l value s is f = absurd f
  gives (T.Entry e) t I.nothing l value s is f = absurd f
  gives (T.Entry e) t I.outermost l value s is f = absurd f
  gives T.Outermost t waits l value s is f = absurd is

  -- the interpreter's conditions
  pub gives_store : (task : TV.Task) (t : Task) (waits : Waits) (l : Left) (value : Option Value) (s : Store) → Gives task t waits l value s → StoreFits p s
  gives_store task t waits l value s g = g.fits.1.store

  pub gives_awaits : (task : TV.Task) (t : Task) (waits : Waits) (l : Left) (value : Option Value) (s : Store) (g : Gives task t waits l value s)
      → Awaits p g.fits.0 (types_of (option_to_list value)) waits
  gives_awaits task t waits l value s g =
      subst (Awaits p g.fits.0 (types_of (option_to_list value))) (sym g.waits_is) (awaits_from p g.fits.0 s s g.here g.under (option_to_list value) g.fits.1)

  -- and its turn
  pub gives_turn : (task : TV.Task) (t : Task) (waits : Waits) (l : Left) (value : Option Value) (s : Store) (g : Gives task t waits l value s) (left used : ℕ) (turn : Turn) (s' : Store)
      (w' : Waits) → Resumes p s waits value left used turn s' w'
      → TaskTurn w (busy (is_running t) (resumed (record { store = s; here = g.here; under = g.under }) s (option_to_list value)) l) l t left used turn s' w'
  gives_turn task t waits l value s g left used turn s' w' h =
      let c : Configuration = resumed (record { store = s; here = g.here; under = g.under }) s (option_to_list value) in
      let turns : Turns p c left used turn s' w' = subst (λ z. Resumes p s z value left used turn s' w') g.waits_is h in
      let all : left ≡ left - 0 = omega arith in
      runs_on c 0 used (nowhere_on p w.plan (busy (is_running t) c l)) (omega arith) (omega arith) (subst (λ n. Turns p c n used turn s' w') all turns)

  -- ---- a pause

  pub record Pauses (pause : Pause) (waits : Waits) (l : Left) (s : Store) : Type 0 where
    pub held : is_held w.plan.area s ≡ true
    pub here : Activation
    pub under : List Activation
    pub waits_is : waits ≡ I.inside here under
    pub place_is : pausing (exports_of p) w.plan.area l (entry_of pause.entry) pause.import (answer_of pause.answer) s waits
        ≡ stands [] (calling (unwinding pause) (with_words s w.plan.area) (exports_of p).start_unwind (V.I32 w.plan.area.at ∷ []) (give_zero (record { store = s; here = here; under = under })) l)
    pub fits : HeldFits p (calling (unwinding pause) (with_words s w.plan.area) (exports_of p).start_unwind (V.I32 w.plan.area.at ∷ [])
        (give_zero (record { store = s; here = here; under = under })) l)

  pub pauses : (pause : Pause) (waits : Waits) (l : Left) (s : Store) → PlaceFits w (pausing (exports_of p) w.plan.area l (entry_of pause.entry) pause.import
      (answer_of pause.answer) s waits) → Pauses pause waits l s
  pauses pause (I.inside here under) l s f = by (is_held w.plan.area s) refl f
    where
      at : Place
      at = stands [] (calling (unwinding pause) (with_words s w.plan.area) (exports_of p).start_unwind (V.I32 w.plan.area.at ∷ [])
          (give_zero (record { store = s; here = here; under = under })) l)

      by : (b : Bool) → is_held w.plan.area s ≡ b → PlaceFits w (cond b at nowhere) → Pauses pause (I.inside here under) l s
      by true e k = record { held = e; here = here; under = under; waits_is = refl; place_is = ap (λ z. cond z at nowhere) e; fits = k }
      by false e k = absurd k
  pauses pause I.nothing l s f = absurd f
  pauses pause I.outermost l s f = absurd f
