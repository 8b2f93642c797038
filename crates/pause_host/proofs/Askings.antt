-- New calls of imports, and where their outcomes lead.
use Rattle.std.proofs.Common.{◌≡◌, ◌≤◌, ℕ, zero, suc, List, [], ◌∷◌, length, Option, Some, None, true, false, cond, refl, sym, ap, ◌∙◌, subst, append-nil, arith}
use Rattle.std.specs.Option.{option_to_list}
use Rattle.wa_types.specs.declared.values.Value.TheVariants as V
use Rattle.wa_types.specs.Syntax.{Module}
use Rattle.wa_types.specs.Modules.{func_type_at}
use Rattle.wa_model.specs.declared.answers.Answer.{Answer as AnswerValue}
use Rattle.wa_model.specs.declared.answers.Said.{Said}
use Rattle.wa_model.specs.declared.answers.Said.TheVariants as SV
use Rattle.wa_model.specs.declared.events.Call.{Call as CallValue}
use Rattle.wa_model.specs.declared.events.End.{End}
use Rattle.wa_model.specs.declared.events.Event.TheVariants as EV
use Rattle.wa_model.specs.Outside.{Answer, Poke, answered, ended}
use Rattle.wa_model.specs.View.{answer_of, call_of, event_of}
use Rattle.wa_model.specs.Machine.{Turn, goes, Leads, stays, moves}
use Rattle.wa_model.specs.Store.{Store}
use Rattle.wa_model.specs.Plan.{Outcome, given, refused}
use Rattle.wa_model.specs.Blocking.{Note, note, call_note, Left, with_outcomes, Asker, resumed, the_start, an_entry, store_at, stack_at, in_start, fault_of, pause_of, poked, done_notes, import_traps}
use Rattle.wa_model.specs.Protocol.{Exports, exports_of, is_running, Held, busy, over, calling, unwinds, give_zero, with_words, held_on, held_given, held_pauses, held_asked, held_tested, protocol}
use Rattle.world_model.specs.World.{Program}
use Rattle.run_theory.proofs.Runs.{leads_on}
use Rattle.run_laws.proofs.Host.{fault_pokes}
use Rattle.run_laws.proofs.StandingPauses.{fault_outside}
use Rattle.interp.specs.Instance as I
use Rattle.interp.specs.Instance.{Waits}
use Rattle.host_laws.specs.Stretch.{meeting}
use Rattle.host_laws.specs.Places.{stands, nowhere, goes_on}
use Rattle.host_laws.proofs.Stretches.{on_last}
use Rattle.pause_host.specs.declared.stages.Moved.{Moved}
use Rattle.pause_host.specs.declared.stages.Stage.TheVariants as S
use Rattle.pause_host.specs.declared.stages.Task.{Task}
use Rattle.pause_host.specs.declared.stages.Task.TheVariants as T
use Rattle.pause_host.specs.Views.{entry_of, with_asker, answering, place_in, starts, stage_after}
use Rattle.pause_host.specs.Mailing.{MailAnswers, MailSupply}
use Rattle.pause_host.specs.Moves.{Comes, Asks, IsAsking}
use Rattle.pause_host.specs.Holding.{HoldsArea, PokesInside, are_inside, is_held}
use Rattle.pause_host.proofs.Holding.{held_true, inside_true}

-- who waits stands at the instance's store
pub asking_store : (task : Task) (waits : Waits) (s : Store) (who : Asker) → IsAsking task waits s who → store_at who ≡ s
asking_store T.Outermost I.outermost s who h = ap store_at h
asking_store T.Outermost I.nothing s who h = absurd h
asking_store T.Outermost (I.inside here under) s who h = absurd h
asking_store T.Start (I.inside here under) s who h = ap store_at h
asking_store T.Start I.outermost s who h = absurd h
asking_store T.Start I.nothing s who h = absurd h
asking_store (T.Entry e) (I.inside here under) s who h = ap store_at h
asking_store (T.Entry e) I.outermost s who h = absurd h
asking_store (T.Entry e) I.nothing s who h = absurd h

pub asking_start : (task : Task) (waits : Waits) (s : Store) (who : Asker) → IsAsking task waits s who → in_start who ≡ starts task
asking_start T.Outermost I.outermost s who h = ap in_start h
asking_start T.Outermost I.nothing s who h = absurd h
asking_start T.Outermost (I.inside here under) s who h = absurd h
asking_start T.Start (I.inside here under) s who h = ap in_start h
asking_start T.Start I.outermost s who h = absurd h
asking_start T.Start I.nothing s who h = absurd h
asking_start (T.Entry e) (I.inside here under) s who h = ap in_start h
asking_start (T.Entry e) I.outermost s who h = absurd h
asking_start (T.Entry e) I.nothing s who h = absurd h

-- where an answer leads that is told next
record GivenLeads (w : Program) (l : Left) (said : Said) (pokes : List Poke) (task : Task) (waits : Waits) (s : Store) (who : Asker) : Type 0 where
  behind : List Note
  to : Held
  place : with_asker nowhere s task waits (answering l said (poked s pokes)) ≡ stands behind to
  leads : (k : ℕ) (y : Note) (more : List Outcome) → held_given k y said (poked (store_at who) pokes) (with_outcomes l more) who ≡ goes k (y ∷ behind) (meeting more to)

-- a trap is told, and the end
trap_leads : (w : Program) (l : Left) (pokes : List Poke) (task : Task) (waits : Waits) (s : Store) (who : Asker) → store_at who ≡ s
    → with_asker nowhere s task waits (answering l SV.Trap (poked s pokes)) ≡ stands (import_traps (poked s pokes)) (over (poked s pokes)) → GivenLeads w l SV.Trap pokes task waits s who
trap_leads w l pokes task waits s who at place = record {
  behind = import_traps (poked s pokes);
  to = over (poked s pokes);
  place = place;
  leads = λ k y more. ap (λ z. goes k (y ∷ import_traps (poked z pokes)) (over (poked z pokes))) at;
}

given_leads : (w : Program) (l : Left) (said : Said) (pokes : List Poke) (task : Task) (waits : Waits) (s : Store) (who : Asker) → IsAsking task waits s who
    → GivenLeads w l said pokes task waits s who
given_leads w l (SV.Value v) pokes T.Outermost I.outermost s who h =
    let s' : Store = poked s pokes in
    subst (GivenLeads w l (SV.Value v) pokes T.Outermost I.outermost s) (sym h)
    (record {
      behind = note (answered (SV.Value v)) s' ∷ done_notes s' l.entries;
      to = held_on s' l l.entries;
      place = refl;
      leads = λ k y more. ap (goes k (y ∷ note (answered (SV.Value v)) s' ∷ done_notes s' l.entries)) (on_last s' l l.entries more);
    })
given_leads w l SV.Trap pokes T.Outermost I.outermost s who h = trap_leads w l pokes T.Outermost I.outermost s who (asking_store T.Outermost I.outermost s who h) refl
given_leads w l said pokes T.Outermost I.nothing s who h = absurd h
given_leads w l said pokes T.Outermost (I.inside here under) s who h = absurd h
given_leads w l (SV.Value v) pokes T.Start (I.inside here under) s who h =
    let s' : Store = poked s pokes in
    subst (GivenLeads w l (SV.Value v) pokes T.Start (I.inside here under) s) (sym h)
    (record {
      behind = note (answered (SV.Value v)) s' ∷ [];
      to = busy (is_running the_start) (resumed (record { store = s'; here = here; under = under }) s' (option_to_list v)) l;
      place = refl;
      leads = λ k y more. refl;
    })
given_leads w l SV.Trap pokes T.Start (I.inside here under) s who h = trap_leads w l pokes T.Start (I.inside here under) s who (asking_store T.Start (I.inside here under) s who h) refl
given_leads w l said pokes T.Start I.outermost s who h = absurd h
given_leads w l said pokes T.Start I.nothing s who h = absurd h
given_leads w l (SV.Value v) pokes (T.Entry e) (I.inside here under) s who h =
    let s' : Store = poked s pokes in
    subst (GivenLeads w l (SV.Value v) pokes (T.Entry e) (I.inside here under) s) (sym h)
    (record {
      behind = note (answered (SV.Value v)) s' ∷ [];
      to = busy (is_running (an_entry (entry_of e))) (resumed (record { store = s'; here = here; under = under }) s' (option_to_list v)) l;
      place = refl;
      leads = λ k y more. refl;
    })
given_leads w l SV.Trap pokes (T.Entry e) (I.inside here under) s who h =
    trap_leads w l pokes (T.Entry e) (I.inside here under) s who (asking_store (T.Entry e) (I.inside here under) s who h) refl
given_leads w l said pokes (T.Entry e) I.outermost s who h = absurd h
given_leads w l said pokes (T.Entry e) I.nothing s who h = absurd h

-- where one leads that pauses
record PauseLeads (w : Program) (l : Left) (import ticks : ℕ) (answer : AnswerValue) (task : Task) (waits : Waits) (s : Store) (who : Asker) : Type 0 where
  to : Held
  place : place_in (exports_of w.source) w.plan.area l s waits (stage_after None (suc ticks) task import answer) ≡ stands [] to
  leads : (k : ℕ) (y : Note) (more : List Outcome) → held_pauses (exports_of w.source) w.plan k y import (answer_of answer) (with_outcomes l more) who ≡ goes k (y ∷ []) (meeting more to)

pause_leads : (w : Program) (l : Left) (import ticks : ℕ) (answer : AnswerValue) (task : Task) (waits : Waits) (s : Store) (who : Asker) → IsAsking task waits s who → in_start who ≡ false
    → is_held w.plan.area s ≡ true → PauseLeads w l import ticks answer task waits s who
pause_leads w l import ticks answer (T.Entry e) (I.inside here under) s who h out held =
    subst (PauseLeads w l import ticks answer (T.Entry e) (I.inside here under) s) (sym h)
    (record {
      to = calling (unwinds (entry_of e) import (answer_of answer)) (with_words s w.plan.area) (exports_of w.source).start_unwind (V.I32 w.plan.area.at ∷ [])
          (give_zero (record { store = s; here = here; under = under })) l;
      place = ap (λ b. cond b (stands [] (calling (unwinds (entry_of e) import (answer_of answer)) (with_words s w.plan.area) (exports_of w.source).start_unwind (V.I32 w.plan.area.at ∷ [])
          (give_zero (record { store = s; here = here; under = under })) l)) nowhere) held;
      leads = λ k y more. refl;
    })
pause_leads w l import ticks answer (T.Entry e) I.outermost s who h out held = absurd h
pause_leads w l import ticks answer (T.Entry e) I.nothing s who h out held = absurd h
pause_leads w l import ticks answer T.Start waits s who h out held = let z : true ≡ false = sym (asking_start T.Start waits s who h) ∙ out in cc
pause_leads w l import ticks answer T.Outermost waits s who h out held = let z : true ≡ false = sym (asking_start T.Outermost waits s who h) ∙ out in cc

module _ (w : Program) (h : Held) (l : Left) (left used : ℕ) (call : CallValue) (who : Asker) (task : Task) (waits : Waits) (s : Store)
    (a0 : Asks w h used call.import call.args.items who l) (within : used ≤ left) (asking : IsAsking task waits s who) (room : HoldsArea w.plan.area s) where
  abbrev p : Module
  p = w.source

  abbrev x : Exports
  x = exports_of w.source

  abbrev next : Held → Turn Held Note
  next = protocol p x w.plan

  abbrev told : Option ℕ → Note
  told pause = call_note call.import call.args.items (store_at who) (stack_at p who) pause

  -- the moves up to the call, and the call's
  asks_lead : (os : List Outcome) (notes : List Note) (t : Held) → held_asked p x w.plan a0.k call.import call.args.items who (with_outcomes l os) os ≡ goes a0.k notes t
      → Leads next (meeting os h) used notes t
  asks_lead os notes t mv =
      subst (λ n. Leads next (meeting os h) n notes t) (sym a0.used_is)
      (leads_on Held Note next (meeting os h) (meeting os a0.at) t a0.cost (suc a0.k) [] notes (a0.first os) (moves (a0.asked os ∙ mv) stays (omega arith) (sym (append-nil notes))))

  -- a call is told, and the rest of what it makes is ready
  told_call : (m : Moved) (supply supply' : MailSupply) (o : Outcome) (pause : Option ℕ) (behind : List Note) (h' : Held) → m.event ≡ EV.Called call
      → MailAnswers w (call_of call) supply o supply'
      → ((more : List Outcome) → held_asked p x w.plan a0.k call.import call.args.items who (with_outcomes l (o ∷ more)) (o ∷ more) ≡ goes a0.k (told pause ∷ behind) (meeting more h'))
      → place_in x w.plan.area l s waits m.stage ≡ stands behind h' → Comes w h left used m supply supply' l s waits
  told_call m supply supply' o pause behind h' e meets mv place = record {
    note = told pause;
    event_is = ap event_of (sym e);
    store_is = asking_store task waits s who asking;
    tells = record {
      outcomes = o ∷ [];
      takes = (o, refl, meets);
      within = within;
      lands = goes_on (told pause ∷ behind) behind h' (λ more. asks_lead (o ∷ more) (told pause ∷ behind) (meeting more h') (mv more)) refl refl place;
    };
  }

  -- the outcome is the end
  pub told_refused : (m : Moved) (supply supply' : MailSupply) (end : End) → m.event ≡ EV.Called call → m.stage ≡ S.Ending end
      → MailAnswers w (call_of call) supply (refused end) supply' → Comes w h left used m supply supply' l s waits
  told_refused m supply supply' end e st meets =
      told_call m supply supply' (refused end) None (note (ended end) (store_at who) ∷ []) (over (store_at who)) e meets (λ more. refl)
      (ap (place_in x w.plan.area l s waits) st ∙ ap (λ z. stands (note (ended end) z ∷ []) (over z)) (sym (asking_store task waits s who asking)))

  module _ (m : Moved) (supply supply' : MailSupply) (answer : AnswerValue) (e : m.event ≡ EV.Called call)
      (meets : MailAnswers w (call_of call) supply (given (answer_of answer)) supply') where
    abbrev a : Answer
    a = answer_of answer

    abbrev fault : Option End
    fault = fault_of (func_type_at p call.import).results (length (store_at who).memory) w.plan (in_start who) call.import a

    tested_is : (more : List Outcome) (o : Option End) (pause : Option ℕ) → fault ≡ o → pause_of a.ticks ≡ pause
        → held_asked p x w.plan a0.k call.import call.args.items who (with_outcomes l (given a ∷ more)) (given a ∷ more)
        ≡ held_tested p x w.plan a0.k call.import call.args.items who (with_outcomes l more) a o pause
    tested_is more o pause f t =
        ap (λ z. held_tested p x w.plan a0.k call.import call.args.items who (with_outcomes l more) a z (pause_of a.ticks)) f
        ∙ ap (held_tested p x w.plan a0.k call.import call.args.items who (with_outcomes l more) a o) t

    -- it fails a test
    told_fault : (end : End) → fault ≡ Some end → m.stage ≡ S.Ending end → Comes w h left used m supply supply' l s waits
    told_fault end f st =
        told_call m supply supply' (given a) None (note (ended end) (store_at who) ∷ []) (over (store_at who)) e meets (λ more. tested_is more (Some end) (pause_of a.ticks) f refl)
        (ap (place_in x w.plan.area l s waits) st ∙ ap (λ z. stands (note (ended end) z ∷ []) (over z)) (sym (asking_store task waits s who asking)))

    -- it is told next
    told_given : fault ≡ None → a.ticks ≡ 0 → m.stage ≡ S.Answering task answer → Comes w h left used m supply supply' l s waits
    told_given f t st =
        let g : GivenLeads w l a.said a.pokes task waits s who = given_leads w l a.said a.pokes task waits s who asking in
        let size : length (store_at who).memory ≡ length s.memory = ap (λ (z : Store). length z.memory) (asking_store task waits s who asking) in
        let pokes : PokesInside (length (store_at who).memory) a.pokes =
        fault_pokes (func_type_at p call.import).results (length (store_at who).memory) w.plan (in_start who) call.import a f in
        let inside : are_inside (length s.memory) a.pokes ≡ true = inside_true (length s.memory) a.pokes (subst (λ n. PokesInside n a.pokes) size pokes) in
        told_call m supply supply' (given a) None g.behind g.to e meets (λ more. tested_is more None None f (ap pause_of t) ∙ g.leads a0.k (told None) more)
        (ap (place_in x w.plan.area l s waits) st ∙ ap (λ b. cond b (with_asker nowhere s task waits (answering l a.said (poked s a.pokes))) nowhere) inside ∙ g.place)

    -- it pauses the program
    told_pause : (ticks : ℕ) → fault ≡ None → a.ticks ≡ suc ticks → m.stage ≡ stage_after None (suc ticks) task call.import answer → Comes w h left used m supply supply' l s waits
    told_pause ticks f t st =
        let out : in_start who ≡ false = fault_outside (func_type_at p call.import).results (length (store_at who).memory) w.plan (in_start who) call.import a ticks t f in
        let g : PauseLeads w l call.import ticks answer task waits s who = pause_leads w l call.import ticks answer task waits s who asking out (held_true w.plan.area s room) in
        told_call m supply supply' (given a) (Some (suc ticks)) [] g.to e meets (λ more. tested_is more None (Some (suc ticks)) f (ap pause_of t) ∙ g.leads a0.k (told (Some (suc ticks))) more)
        (ap (place_in x w.plan.area l s waits) st ∙ g.place)

    pub told_answer : m.stage ≡ stage_after fault answer.ticks task call.import answer → Comes w h left used m supply supply' l s waits
    told_answer st = by_fault fault refl answer.ticks refl st
      where
        by_fault : (o : Option End) → fault ≡ o → (n : ℕ) → a.ticks ≡ n → m.stage ≡ stage_after o n task call.import answer → Comes w h left used m supply supply' l s waits
        by_fault (Some end) f n t st = told_fault end f st
        by_fault None f zero t st = told_given f t st
        by_fault None f (suc ticks) t st = told_pause ticks f t st
