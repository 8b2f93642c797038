-- Events behind parts of the way to them.
use Rattle.std.proofs.Common.{◌≡◌, ◌≤◌, ℕ, ◌+◌, ◌-◌, ◌++◌, List, [], ◌∷◌, refl, sym, ap, ◌∙◌, subst, arith}
use Rattle.wa_types.specs.Syntax.{Module}
use Rattle.wa_types.specs.Validity.{Valid}
use Rattle.wa_model.specs.declared.events.End.{End}
use Rattle.wa_model.specs.declared.events.End.TheVariants as E
use Rattle.wa_model.specs.declared.events.Event.TheVariants as V
use Rattle.wa_model.specs.Outside.{ended}
use Rattle.wa_model.specs.View.{event_of}
use Rattle.wa_model.specs.Store.{Store}
use Rattle.wa_model.specs.Plan.{Outcome, Plan}
use Rattle.wa_model.specs.Blocking.{Note, note, Left}
use Rattle.wa_model.specs.Protocol.{Held, free, starting, busy, calling, aside, entering, over, exports_of, store_held}
use Rattle.world_model.specs.World.{Program}
use Rattle.interp.specs.Instance.{Waits}
use Rattle.run_laws.specs.FittingStates.{HeldFits, ExportsTyped}
use Rattle.run_laws.proofs.ProtocolStopping.{protocol_states_stay}
use Rattle.host_laws.specs.Stretch.{meeting, Stretch, IsSpent}
use Rattle.host_laws.specs.Places.{Place, stands, has_ended, Lands, goes_on, ends, spends}
use Rattle.host_laws.proofs.Stretches.{compose}
use Rattle.pause_host.specs.Mailing.{MailSupply}
use Rattle.pause_host.specs.declared.stages.Moved.{Moved}
use Rattle.pause_host.specs.declared.stages.Stage.TheVariants as S
use Rattle.pause_host.specs.Views.{place_in}
use Rattle.pause_host.specs.Moves.{Comes, ComesFrom, EndsAt, at_over, at_spent}

module _ (w : Program) where
  -- the end is told
  pub ends_come : (h : Held) (left used : ℕ) (how : End) (s : Store) (m : Moved) (supply : MailSupply) (l : Left) (waits : Waits) → EndsAt w h left used how s
      → m.event ≡ V.Ended how → m.stage ≡ S.Ended how → Comes w h left used m supply supply l s waits
  ends_come h left used how s m supply l waits (at_over stretch within) e st = record {
    note = note (ended how) s;
    event_is = ap event_of (sym e);
    store_is = refl;
    tells = record {
      outcomes = [];
      takes = (refl, refl);
      within = within;
      lands = ends how (note (ended how) s ∷ []) s stretch refl refl (ap (place_in (exports_of w.source) w.plan.area l s waits) st);
    };
  }
  ends_come h left used how s m supply l waits (at_spent h' stretch within same spent is) e st = record {
    note = note (ended (E.StepsSpent w.steps)) (store_held h');
    event_is = ap ended (sym is) ∙ ap event_of (sym e);
    store_is = same;
    tells = record {
      outcomes = [];
      takes = (refl, refl);
      within = within;
      lands = spends h' stretch refl spent refl (ap (place_in (exports_of w.source) w.plan.area l s waits) st ∙ ap has_ended is);
    };
  }

  -- behind a stretch, whose notes come first
  lands_behind : (h h1 : Held) (ready : List Note) (os : List Outcome) (u left0 left1 used1 used : ℕ) (x : Note) (to : Place) → Stretch w.source w.plan h [] ready u h1 → left1 ≡ left0 - u
      → used ≡ u + used1
      → Lands w.source w.plan w.steps ready h1 os left1 x used1 to → Lands w.source w.plan w.steps [] h os left0 x used to
  lands_behind h h1 ready os u left0 left1 used1 used x to first l e (goes_on made tail h' stretch is_x more to_is) =
      goes_on (ready ++ made) tail h' (subst (λ n. Stretch w.source w.plan h os (ready ++ made) n h') (sym e) (compose w.source w.plan h h1 h' [] os ready made u used1 first stretch)) is_x more to_is
  lands_behind h h1 ready os u left0 left1 used1 used x to first l e (ends how made s stretch is_x end_is to_is) =
      ends how (ready ++ made) s (subst (λ n. Stretch w.source w.plan h os (ready ++ made) n (over s)) (sym e)
      (compose w.source w.plan h h1 (over s) [] os ready made u used1 first stretch)) is_x end_is to_is
  lands_behind h h1 ready os u left0 left1 used1 used x to first l e (spends h' stretch none spent is_x to_is) =
      let short : left1 - used1 ≡ left0 - used = omega arith in
      spends h'
      (subst (λ n. Stretch w.source w.plan h os [] n h') (sym e)
      (subst (λ xs. Stretch w.source w.plan h os (xs ++ []) (u + used1) h') none (compose w.source w.plan h h1 h' [] os ready [] u used1 first stretch)))
      refl (subst (λ n. IsSpent w.source w.plan n h') short spent) is_x to_is

  pub comes_behind : (h h1 : Held) (ready : List Note) (u left0 left1 used1 used : ℕ) (m : Moved) (supply supply' : MailSupply) (l : Left) (s : Store) (waits : Waits)
      → Stretch w.source w.plan h [] ready u h1
      → u ≤ left0 → left1 ≡ left0 - u → used ≡ u + used1 → ComesFrom w (stands ready h1) left1 used1 m supply supply' l s waits → Comes w h left0 used m supply supply' l s waits
  comes_behind h h1 ready u left0 left1 used1 used m supply supply' l s waits first le l1 e c = record {
    note = c.note;
    event_is = c.event_is;
    store_is = c.store_is;
    tells = record {
      outcomes = c.tells.outcomes;
      takes = c.tells.takes;
      within = omega (arith, c.tells.within);
      lands = lands_behind h h1 ready c.tells.outcomes u left0 left1 used1 used c.note (place_in (exports_of w.source) w.plan.area l s waits m.stage) first l1 e c.tells.lands;
    };
  }

-- ---- what fits stays fitting

pub fits_meeting : (p : Module) (os : List Outcome) (h : Held) → HeldFits p h → HeldFits p (meeting os h)
fits_meeting p os (free s l) f = f
fits_meeting p os (starting x s l) f = f
fits_meeting p os (busy ph c l) f = f
fits_meeting p os (calling ph s x args th l) f = f
fits_meeting p os (aside ph c th l) f = f
fits_meeting p os (entering ph e s l) f = f
fits_meeting p os (over s) f = f

meeting_fits : (p : Module) (os : List Outcome) (h : Held) → HeldFits p (meeting os h) → HeldFits p h
meeting_fits p os (free s l) f = f
meeting_fits p os (starting x s l) f = f
meeting_fits p os (busy ph c l) f = f
meeting_fits p os (calling ph s x args th l) f = f
meeting_fits p os (aside ph c th l) f = f
meeting_fits p os (entering ph e s l) f = f
meeting_fits p os (over s) f = f

pub fits_on : (p : Module) (plan : Plan) (h h' : Held) (os : List Outcome) (notes : List Note) (n : ℕ) → Valid p → ExportsTyped p → Stretch p plan h os notes n h' → HeldFits p h → HeldFits p h'
fits_on p plan h h' os notes n v ex stretch f =
    meeting_fits p [] h' (protocol_states_stay p plan (meeting (os ++ []) h) (meeting [] h') n notes v ex (fits_meeting p (os ++ []) h f) (stretch []))
