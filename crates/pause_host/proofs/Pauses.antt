-- Unwinding and rewinding, by the turns of the interpreter.
use Rattle.std.proofs.Common.{◌≡◌, ◌≤◌, ◌<◌, ℕ, suc, ◌+◌, ◌-◌, List, [], ◌∷◌, length, Option, Some, None, Bool, true, false, cond, nat_le, refl, sym, ap, ◌∙◌, subst, arith}
use Rattle.std.proofs.lemmas.Bool.{leb-true, leb-false}
use Rattle.std.specs.Prelude.{nat_eq}
use Rattle.std.specs.Option.{option_to_list}
use Rattle.wa_types.specs.declared.values.Value.{Value}
use Rattle.wa_types.specs.declared.values.Value.TheVariants as V
use Rattle.wa_types.specs.declared.values.Trap.{Trap}
use Rattle.wa_types.specs.declared.values.Trap.TheVariants as TrapV
use Rattle.wa_types.specs.Syntax.{Func, Module}
use Rattle.wa_types.specs.Modules.{defined_at}
use Rattle.wa_model.specs.declared.answers.Said.{Said}
use Rattle.wa_model.specs.declared.answers.Said.TheVariants as SV
use Rattle.wa_model.specs.declared.events.Call.{Call as CallValue}
use Rattle.wa_model.specs.declared.events.End.{End}
use Rattle.wa_model.specs.declared.events.End.TheVariants as E
use Rattle.wa_model.specs.declared.events.Event.TheVariants as EV
use Rattle.wa_model.specs.Outside.{Answer, paused, ended}
use Rattle.wa_model.specs.View.{answer_of, event_of}
use Rattle.wa_model.specs.Machine.{goes, stays, moves, CostsMore}
use Rattle.wa_model.specs.Store.{Store}
use Rattle.wa_model.specs.Configuration.{Activation, Configuration}
use Rattle.wa_model.specs.Step.{asks, returns, entered}
use Rattle.wa_model.specs.Plan.{Entry, Outcome}
use Rattle.wa_model.specs.Blocking.{Note, note, Left, with_outcomes, resumed, poked, an_entry}
use Rattle.wa_model.specs.Protocol.{Exports, exports_of, Phase, is_running, give_zero, test_unwound, pause_there, call_again, test_rewound, give_answer, Held, busy, calling, entering, over, trap_end, is_state, zeros_of, used_of, answer_note, held_resumed, busy_step, busy_enters}
use Rattle.world_model.specs.World.{Program}
use Rattle.interp.specs.declared.turns.Turn.{Turn}
use Rattle.interp.specs.declared.turns.Turn.TheVariants.{Returned, Trapped, Waiting, StepsSpent}
use Rattle.interp.specs.Instance.{Waits, inside, Turns, Calls, CallsAs}
use Rattle.host_laws.specs.Stretch.{Stretch, IsSpent, meeting}
use Rattle.host_laws.specs.Places.{stands, goes_on}
use Rattle.host_laws.proofs.Stretches.{compose}
use Rattle.pause_host.specs.Mailing.{MailSupply}
use Rattle.pause_host.specs.declared.stages.Moved.{Moved}
use Rattle.pause_host.specs.declared.stages.Pause.{Pause}
use Rattle.pause_host.specs.declared.stages.Stage.TheVariants as S
use Rattle.pause_host.specs.declared.stages.Task.TheVariants as T
use Rattle.pause_host.specs.Views.{entry_of, unwinding, rewinding, place_in, stage_told}
use Rattle.pause_host.specs.Moves.{Comes, EndsAt, at_over, at_spent, Returns}
use Rattle.pause_host.proofs.Ways.{returns_by, asks_by, busy_last, busy_trapped, busy_spent, returned_by}

-- ---- calls from outside

-- a call of a defined function: its cost is more than is left, or it runs
pub data CallsIn (p : Module) (s : Store) (x : ℕ) (args : List Value) (g : Func) (left used : ℕ) (t : Turn) (s' : Store) (w' : Waits) : Type 0 where
  too_dear : left ≤ length args → used ≡ 0 → t ≡ StepsSpent → s' ≡ s → CallsIn p s x args g left used t s' w'
  it_enters : suc (length args) ≤ left → (more : ℕ) → used ≡ suc (length args) + more → Turns p (entered s [] args x g) (left - suc (length args)) more t s' w' → CallsIn p s x args g left used t s' w'

pub calls_in : (p : Module) (s : Store) (x : ℕ) (args : List Value) (g : Func) (left used : ℕ) (t : Turn) (s' : Store) (w' : Waits) → defined_at p x ≡ Some g
    → Calls p s x args left used t s' w' → CallsIn p s x args g left used t s' w'
calls_in p s x args g left used t s' w' there h = by_cost (nat_le left (length args)) refl (subst (λ o. CallsAs p s x args (nat_le left (length args)) o left used t s' w') there h)
  where
    by_cost : (b : Bool) → nat_le left (length args) ≡ b → CallsAs p s x args b (Some g) left used t s' w' → CallsIn p s x args g left used t s' w'
    by_cost true e k = too_dear (leb-true left (length args) e) k.cost k.turn_is k.store_is
    by_cost false e k = it_enters (let lt : length args < left = leb-false left (length args) e in omega arith) k.more k.cost k.turns

module _ (w : Program) where
  abbrev p : Module
  p = w.source

  abbrev x : Exports
  x = exports_of w.source

  -- the program ends behind a stretch
  pub ends_behind : (h h1 : Held) (u left0 left1 used1 used : ℕ) (how : End) (s : Store) → Stretch p w.plan h [] [] u h1 → u ≤ left0 → left1 ≡ left0 - u → used ≡ u + used1
      → EndsAt w h1 left1 used1 how s → EndsAt w h left0 used how s
  ends_behind h h1 u left0 left1 used1 used how s first le l1 e (at_over stretch within) =
      at_over (subst (λ n. Stretch p w.plan h [] (note (ended how) s ∷ []) n (over s)) (sym e) (compose p w.plan h h1 (over s) [] [] [] (note (ended how) s ∷ []) u used1 first stretch)) (omega arith)
  ends_behind h h1 u left0 left1 used1 used how s first le l1 e (at_spent h' stretch within same spent is) =
      let short : left1 - used1 ≡ left0 - used = omega arith in
      at_spent h' (subst (λ n. Stretch p w.plan h [] [] n h') (sym e) (compose p w.plan h h1 h' [] [] [] [] u used1 first stretch)) (omega arith) same
      (subst (λ n. IsSpent p w.plan n h') short spent) is

  -- ---- turns in a phase

  pub turn_trapped : (ph : Phase) (l : Left) (c : Configuration) (left used : ℕ) (t : Trap) (s' : Store) (w' : Waits) → Turns p c left used (Trapped t) s' w'
      → EndsAt w (busy ph c l) left used (trap_end w.plan.area ph t s') s'
  turn_trapped ph l c left used t s' w' h = busy_trapped w ph l c left used t s' h.0

  pub turn_spent : (ph : Phase) (l : Left) (c : Configuration) (left used : ℕ) (s' : Store) (w' : Waits) → Turns p c left used StepsSpent s' w'
      → EndsAt w (busy ph c l) left used (E.StepsSpent w.steps) s'
  turn_spent ph l c left used s' w' h = busy_spent w ph l c left used h.0.at (E.StepsSpent w.steps) s' h.0.store_is refl h.0.ends

  -- the entry returned while the stack unwinds
  pub unwound : (pause : Pause) (l : Left) (c : Configuration) (left used : ℕ) (v : Option Value) (s' : Store) (w' : Waits) → Turns p c left used (Returned v) s' w'
      → Stretch p w.plan (busy (unwinding pause) c l) [] [] used (calling (unwinding pause) s' x.get_state [] test_unwound l) × (used ≤ left)
  unwound pause l c left used v s' w' h =
      let r = returns_by p c left used (option_to_list v) s' h.0 in
      (busy_last w (unwinding pause) l c left used (λ k. returns k (option_to_list v) s') [] [] (calling (unwinding pause) s' x.get_state [] test_unwound l) r (λ k more. refl), r.within)

  -- an import is called while the stack unwinds
  pub unwound_asked : (pause : Pause) (l : Left) (c : Configuration) (left used : ℕ) (call : CallValue) (s' : Store) (w' : Waits) → Turns p c left used (Waiting call) s' w'
      → EndsAt w (busy (unwinding pause) c l) left used (E.Broken 1) s'
  unwound_asked pause l c left used call s' w' h =
      let r = asks_by p c left used call.import call.args.items h.at h.ends in
      subst (EndsAt w (busy (unwinding pause) c l) left used (E.Broken 1)) h.store_is
      (at_over (busy_last w (unwinding pause) l c left used (λ k. asks k call.import call.args.items h.at) [] (note (ended (E.Broken 1)) h.at.store ∷ []) (over h.at.store) r
      (λ k more. refl)) r.within)

  -- ---- the entry is called again

  entered_goes : (ph : Phase) (e : Entry) (s : Store) (l : Left) (g : Func) → defined_at p e.func ≡ Some g
      → Stretch p w.plan (entering ph e s l) [] [] (suc (length e.args)) (busy ph (entered s [] e.args e.func g) l)
  entered_goes ph e s l g there = λ more. moves (ap (busy_enters ph e s (with_outcomes l more)) there) stays (omega arith) refl

  enters_dear : (n : ℕ) (ph : Phase) (e : Entry) (s : Store) (l : Left) (o : Option Func) → n ≤ length e.args → CostsMore n (busy_enters ph e s l o)
  enters_dear n ph e s l None h = tt
  enters_dear n ph e s l (Some g) h = h

  again_dear : (ph : Phase) (e : Entry) (s : Store) (l : Left) (left used : ℕ) (s' : Store) → left ≤ length e.args → used ≡ 0 → s' ≡ s
      → EndsAt w (entering ph e s l) left used (E.StepsSpent w.steps) s'
  again_dear ph e s l left used s' dear e0 same =
      let short : left - 0 ≡ left = omega arith in
      subst (λ n. EndsAt w (entering ph e s l) left n (E.StepsSpent w.steps) s') (sym e0)
      (at_spent (entering ph e s l) (λ more. stays) (omega arith) (sym same)
      (record { goes_on = refl; dearer = λ more. enters_dear (left - 0) ph e s (with_outcomes l more) (defined_at p e.func) (subst (λ n. n ≤ length e.args) (sym short) dear) }) refl)

  module _ (pause : Pause) (since : Store) (s : Store) (l : Left) (g : Func) (left used : ℕ) (s' : Store) (w' : Waits) (there : defined_at p pause.entry.func ≡ Some g) where
    abbrev e : Entry
    e = entry_of pause.entry

    abbrev ph : Phase
    ph = rewinding pause since

    abbrev from : Held
    from = entering ph e s l

    abbrev c0 : Configuration
    c0 = entered s [] e.args e.func g

    abbrev Again : Turn → Type 0
    Again t = CallsIn p s e.func e.args g left used t s' w'

    behind_again : (more : ℕ) (how : End) → suc (length e.args) ≤ left → used ≡ suc (length e.args) + more → EndsAt w (busy ph c0 l) (left - suc (length e.args)) more how s'
        → EndsAt w from left used how s'
    behind_again more how le u h = ends_behind from (busy ph c0 l) (suc (length e.args)) left (left - suc (length e.args)) more used how s' (entered_goes ph e s l g there) le refl u h

    pub again_returned : (v : Option Value) → Again (Returned v) → EndsAt w from left used (E.Broken 5) s'
    again_returned v (too_dear le u t same) = cc
    again_returned v (it_enters le more u h) =
        let r = returns_by p c0 (left - suc (length e.args)) more (option_to_list v) s' h.0 in
        behind_again more (E.Broken 5) le u
        (at_over (busy_last w ph l c0 (left - suc (length e.args)) more (λ k. returns k (option_to_list v) s') [] (note (ended (E.Broken 5)) s' ∷ []) (over s') r (λ k os. refl)) r.within)

    pub again_trapped : (t : Trap) → Again (Trapped t) → EndsAt w from left used (trap_end w.plan.area ph t s') s'
    again_trapped t (too_dear le u is same) = cc
    again_trapped t (it_enters le more u h) = behind_again more (trap_end w.plan.area ph t s') le u (turn_trapped ph l c0 (left - suc (length e.args)) more t s' w' h)

    pub again_spent : Again StepsSpent → EndsAt w from left used (E.StepsSpent w.steps) s'
    again_spent (too_dear le u is same) = again_dear ph e s l left used s' le u same
    again_spent (it_enters le more u h) = behind_again more (E.StepsSpent w.steps) le u (turn_spent ph l c0 (left - suc (length e.args)) more s' w' h)

    asked_step : (call : CallValue) (d : Configuration) (b : Bool) → nat_eq call.import pause.import ≡ b → (k : ℕ) (os : List Outcome)
        → busy_step p x w.plan ph (with_outcomes l os) (asks k call.import call.args.items d)
        ≡ cond b (goes k [] (calling ph d.store x.get_state [] (test_rewound d) (with_outcomes l os))) (goes k (note (ended (E.Broken 3)) d.store ∷ []) (over d.store))
    asked_step call d b is k os =
        ap (λ z. cond z (goes k [] (calling ph d.store x.get_state [] (test_rewound d) (with_outcomes l os))) (goes k (note (ended (E.Broken 3)) d.store ∷ []) (over d.store))) is

    pub again_other : (call : CallValue) → nat_eq call.import pause.import ≡ false → Again (Waiting call) → EndsAt w from left used (E.Broken 3) s'
    again_other call ne (too_dear le u is same) = cc
    again_other call ne (it_enters le more u h) =
        let r = asks_by p c0 (left - suc (length e.args)) more call.import call.args.items h.at h.ends in
        behind_again more (E.Broken 3) le u
        (subst (EndsAt w (busy ph c0 l) (left - suc (length e.args)) more (E.Broken 3)) h.store_is
        (at_over
        (busy_last w ph l c0 (left - suc (length e.args)) more (λ k. asks k call.import call.args.items h.at) [] (note (ended (E.Broken 3)) h.at.store ∷ []) (over h.at.store) r
        (λ k os. asked_step call h.at false ne k os))
        r.within))

    -- the suspended import is called
    pub again_asked : (call : CallValue) → nat_eq call.import pause.import ≡ true → Again (Waiting call)
        → (here : Activation) × (under : List Activation) × (w' ≡ inside here under)
        × Stretch p w.plan from [] [] used (calling ph s' x.get_state [] (test_rewound (record { store = s'; here = here; under = under })) l) × (used ≤ left)
    again_asked call eq (too_dear le u is same) = cc
    again_asked call eq (it_enters le more u h) =
        let r = asks_by p c0 (left - suc (length e.args)) more call.import call.args.items h.at h.ends in
        let to : Store → Held = λ z. calling ph z x.get_state [] (test_rewound (record { store = z; here = h.at.here; under = h.at.under })) l in
        let go : Stretch p w.plan (busy ph c0 l) [] [] more (to h.at.store) =
        busy_last w ph l c0 (left - suc (length e.args)) more (λ k. asks k call.import call.args.items h.at) [] [] (to h.at.store) r (λ k os. asked_step call h.at true eq k os) in (
          h.at.here,
          h.at.under,
          h.waits,
          subst (λ n. Stretch p w.plan from [] [] n (to s')) (sym u)
              (compose p w.plan from (busy ph c0 l) (to s') [] [] [] [] (suc (length e.args)) more (entered_goes ph e s l g there)
              (subst (λ z. Stretch p w.plan (busy ph c0 l) [] [] more (to z)) h.store_is go)),
          omega (arith, r.within),
        )

  -- ---- exports that returned

  module _ (pause : Pause) (l : Left) (s : Store) (left used : ℕ) (vs : List Value) (s' : Store) where
    -- asyncify_start_unwind: the call is given a zero
    pub started_unwind : (from : Store) (here : Activation) (under : List Activation) (f : ℕ) (args : List Value) → Returns p s f args left used vs s'
        → Stretch p w.plan (calling (unwinding pause) s f args (give_zero (record { store = from; here = here; under = under })) l) [] [] used
        (busy (unwinding pause) (resumed (record { store = s'; here = here; under = under }) s' (zeros_of p pause.import)) l)
    started_unwind from here under f args r =
        returned_by w (unwinding pause) s f args (give_zero (record { store = from; here = here; under = under })) l left used vs s' []
        (busy (unwinding pause) (resumed (record { store = s'; here = here; under = under }) s' (zeros_of p pause.import)) l) r (λ k more. refl)

    -- asyncify_get_state, when the entry has returned
    pub state_unwound : (f : ℕ) (args : List Value) → is_state 1 vs ≡ true → Returns p s f args left used vs s'
        → Stretch p w.plan (calling (unwinding pause) s f args test_unwound l) [] [] used (calling (unwinding pause) s' x.stop_unwind [] pause_there l)
    state_unwound f args is r =
        returned_by w (unwinding pause) s f args test_unwound l left used vs s' [] (calling (unwinding pause) s' x.stop_unwind [] pause_there l) r
        (λ k more. ap (λ b. cond b (goes k [] (calling (unwinding pause) s' x.stop_unwind [] pause_there (with_outcomes l more))) (goes k (note (ended (E.Broken 2)) s' ∷ []) (over s'))) is)

    pub state_not_unwound : (f : ℕ) (args : List Value) → is_state 1 vs ≡ false → Returns p s f args left used vs s'
        → EndsAt w (calling (unwinding pause) s f args test_unwound l) left used (E.Broken 2) s'
    state_not_unwound f args is r =
        at_over
        (returned_by w (unwinding pause) s f args test_unwound l left used vs s' (note (ended (E.Broken 2)) s' ∷ []) (over s') r
        (λ k more. ap (λ b. cond b (goes k [] (calling (unwinding pause) s' x.stop_unwind [] pause_there (with_outcomes l more))) (goes k (note (ended (E.Broken 2)) s' ∷ []) (over s'))) is))
        r.within

    -- asyncify_stop_unwind: the program is paused
    pub stopped_unwind : (f : ℕ) (args : List Value) (m : Moved) (used_now : ℕ) (supply : MailSupply) (waits : Waits) → used_now ≡ used_of s' w.plan.area
        → m.event ≡ EV.Paused pause.answer.ticks used_now → m.stage ≡ S.Paused pause
        → Returns p s f args left used vs s' → Comes w (calling (unwinding pause) s f args pause_there l) left used m supply supply l s' waits
    stopped_unwind f args m used_now supply waits is_used e st r = record {
      note = note (paused pause.answer.ticks (used_of s' w.plan.area)) s';
      event_is = ap (λ n. paused pause.answer.ticks n) (sym is_used) ∙ ap event_of (sym e);
      store_is = refl;
      tells = record {
        outcomes = [];
        takes = (refl, refl);
        within = r.within;
        lands = goes_on (note (paused pause.answer.ticks (used_of s' w.plan.area)) s' ∷ []) []
            (calling (rewinding pause s') s' x.start_rewind (V.I32 w.plan.area.at ∷ []) call_again l)
            (returned_by w (unwinding pause) s f args pause_there l left used vs s' (note (paused pause.answer.ticks (used_of s' w.plan.area)) s' ∷ [])
            (calling (rewinding pause s') s' x.start_rewind (V.I32 w.plan.area.at ∷ []) call_again l) r (λ k more. refl))
            refl refl (ap (place_in x w.plan.area l s' waits) st);
      };
    }

    -- asyncify_start_rewind: the entry is called again
    pub started_rewind : (since : Store) (f : ℕ) (args : List Value) → Returns p s f args left used vs s'
        → Stretch p w.plan (calling (rewinding pause since) s f args call_again l) [] [] used (entering (rewinding pause since) (entry_of pause.entry) s' l)
    started_rewind since f args r =
        returned_by w (rewinding pause since) s f args call_again l left used vs s' [] (entering (rewinding pause since) (entry_of pause.entry) s' l) r (λ k more. refl)

    -- asyncify_get_state, at the suspended import
    pub state_rewound : (since : Store) (c : Configuration) (f : ℕ) (args : List Value) → is_state 2 vs ≡ true → Returns p s f args left used vs s'
        → Stretch p w.plan (calling (rewinding pause since) s f args (test_rewound c) l) [] [] used (calling (rewinding pause since) s' x.stop_rewind [] (give_answer c) l)
    state_rewound since c f args is r =
        returned_by w (rewinding pause since) s f args (test_rewound c) l left used vs s' [] (calling (rewinding pause since) s' x.stop_rewind [] (give_answer c) l) r
        (λ k more. ap (λ b. cond b (goes k [] (calling (rewinding pause since) s' x.stop_rewind [] (give_answer c) (with_outcomes l more))) (goes k (note (ended (E.Broken 4)) s' ∷ []) (over s'))) is)

    pub state_not_rewound : (since : Store) (c : Configuration) (f : ℕ) (args : List Value) → is_state 2 vs ≡ false → Returns p s f args left used vs s'
        → EndsAt w (calling (rewinding pause since) s f args (test_rewound c) l) left used (E.Broken 4) s'
    state_not_rewound since c f args is r =
        at_over
        (returned_by w (rewinding pause since) s f args (test_rewound c) l left used vs s' (note (ended (E.Broken 4)) s' ∷ []) (over s') r
        (λ k more. ap (λ b. cond b (goes k [] (calling (rewinding pause since) s' x.stop_rewind [] (give_answer c) (with_outcomes l more))) (goes k (note (ended (E.Broken 4)) s' ∷ []) (over s'))) is))
        r.within

    -- where the program stands behind what was told
    record ToldLeads (said : Said) (since at after : Store) (here : Activation) (under : List Activation) : Type 0 where
      behind : List Note
      to : Held
      leads : (k : ℕ) (more : List Outcome) → held_resumed k (entry_of pause.entry) said since (record { store = at; here = here; under = under }) (with_outcomes l more) after
          ≡ goes k (answer_note said after since ∷ behind) (meeting more to)
      place : place_in x w.plan.area l after (inside here under) (stage_told (T.Entry pause.entry) said) ≡ stands behind to

    told_leads : (said : Said) (since at after : Store) (here : Activation) (under : List Activation) → ToldLeads said since at after here under
    told_leads (SV.Value v) since at after here under = record {
      behind = [];
      to = busy (is_running (an_entry (entry_of pause.entry))) (resumed (record { store = after; here = here; under = under }) after (option_to_list v)) l;
      leads = λ k more. refl;
      place = refl;
    }
    told_leads SV.Trap since at after here under =
        record { behind = note (ended (E.Trapped TrapV.Import)) after ∷ []; to = over after; leads = λ k more. refl; place = refl }

    -- asyncify_stop_rewind: the answer is told
    pub stopped_rewind : (since at now : Store) (here : Activation) (under : List Activation) (f : ℕ) (args : List Value) (m : Moved) (supply : MailSupply) (waits : Waits)
        → now ≡ poked s' (answer_of pause.answer).pokes
        → waits ≡ inside here under → m.event ≡ EV.Answered pause.answer.said → m.stage ≡ stage_told (T.Entry pause.entry) pause.answer.said → Returns p s f args left used vs s'
        → Comes w (calling (rewinding pause since) s f args (give_answer (record { store = at; here = here; under = under })) l) left used m supply supply l now waits
    stopped_rewind since at now here under f args m supply waits is_now is_waits e st r =
        let a : Answer = answer_of pause.answer in
        let after : Store = poked s' a.pokes in
        let on : ToldLeads a.said since at after here under = told_leads a.said since at after here under in
        subst (λ z. Comes w (calling (rewinding pause since) s f args (give_answer (record { store = at; here = here; under = under })) l) left used m supply supply l z waits) (sym is_now)
        (record {
          note = answer_note a.said after since;
          event_is = ap event_of (sym e);
          store_is = refl;
          tells = record {
            outcomes = [];
            takes = (refl, refl);
            within = r.within;
            lands = goes_on (answer_note a.said after since ∷ on.behind) on.behind on.to
                (returned_by w (rewinding pause since) s f args (give_answer (record { store = at; here = here; under = under })) l left used vs s'
                (answer_note a.said after since ∷ on.behind) on.to r on.leads)
                refl refl (ap (λ z. place_in x w.plan.area l after z m.stage) is_waits ∙ ap (place_in x w.plan.area l after (inside here under)) st ∙ on.place);
          };
        })
