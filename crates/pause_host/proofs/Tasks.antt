-- The start function and entries, by the turns of the interpreter.
use Rattle.std.proofs.Common.{◌≡◌, ◌≤◌, ◌<◌, ℕ, suc, ◌+◌, ◌-◌, List, [], ◌∷◌, length, Option, Some, None, Bool, true, false, cond, nat_le, refl, sym, ap, ◌∙◌, subst, append-nil, arith}
use Rattle.std.proofs.lemmas.Bool.{leb-true, leb-false, lt-ltb}
use Rattle.std.specs.Prelude.{nat_lt, slice_get}
use Rattle.std.specs.Option.{option_to_list}
use Rattle.wa_types.specs.declared.values.Value.{Value}
use Rattle.wa_types.specs.declared.values.Trap.{Trap}
use Rattle.wa_types.specs.Syntax.{Func, Module}
use Rattle.wa_types.specs.Modules.{defined_at, func_imports, func_sorts}
use Rattle.wa_model.specs.declared.events.Call.{Call as CallValue}
use Rattle.wa_model.specs.declared.events.End.TheVariants as E
use Rattle.wa_model.specs.declared.events.Event.TheVariants as EV
use Rattle.wa_model.specs.Outside.{returned, ended}
use Rattle.wa_model.specs.View.{event_of}
use Rattle.wa_model.specs.Machine.{Turn as Move, stops, goes, Leads, stays, moves, CostsMore}
use Rattle.wa_model.specs.Store.{Store}
use Rattle.wa_model.specs.Configuration.{Configuration}
use Rattle.wa_model.specs.Step.{returns, entered}
use Rattle.wa_model.specs.Plan.{Entry, Outcome}
use Rattle.wa_model.specs.Blocking.{Note, note, Left, with_outcomes, inside, outermost, Task, the_start, an_entry, done_notes, value_of_results, next_entry}
use Rattle.wa_model.specs.Protocol.{Exports, exports_of, is_running, Held, free, starting, busy, over, held_on, held_asked, held_start, held_next, busy_enters, busy_step, protocol}
use Rattle.world_model.specs.World.{Program}
use Rattle.run_theory.proofs.Runs.{leads_on}
use Rattle.run_theory.proofs.FittingNames.{not_defined}
use Rattle.interp.specs.declared.turns.Turn.{Turn}
use Rattle.interp.specs.declared.turns.Turn.TheVariants.{Returned, Trapped, Waiting, StepsSpent}
use Rattle.interp.specs.Instance as I
use Rattle.interp.specs.Instance.{Waits, Turns, Calls, CallsAs, IsCall}
use Rattle.host_laws.specs.Stretch.{meeting, Stretch}
use Rattle.host_laws.specs.Places.{stands, goes_on, ends}
use Rattle.host_laws.proofs.Stretches.{compose, on_last, nowhere_on}
use Rattle.pause_host.specs.Mailing.{MailSupply}
use Rattle.pause_host.specs.declared.stages.Moved.{Moved}
use Rattle.pause_host.specs.declared.stages.Stage.TheVariants as S
use Rattle.pause_host.specs.Views.{place_in, free_place}
use Rattle.pause_host.specs.Hosting.{AsksOnly}
use Rattle.pause_host.specs.Moves.{Comes, ComesFrom, EndsAt, at_spent, Asks, TaskTurn, runs_on, too_dear}
use Rattle.pause_host.proofs.Ways.{returns_by, asks_by, busy_last, busy_goes, asked_dear}
use Rattle.pause_host.proofs.Pauses.{CallsIn, calls_in, ends_behind, turn_trapped, turn_spent}
use Rattle.pause_host.proofs.Pauses as Q

value_back : (v : Option Value) → value_of_results (option_to_list v) ≡ v
value_back None = refl
value_back (Some v) = refl

module _ (w : Program) where
  abbrev p : Module
  p = w.source

  abbrev x : Exports
  x = exports_of w.source

  abbrev next : Held → Move Held Note
  next = protocol p x w.plan

  -- ---- what a turn of a task leads to

  module _ (h : Held) (l : Left) (t : Task) (left used : ℕ) (s : Store) (waits : Waits) where
    abbrev Ran : Turn → Type 0
    Ran turn = TaskTurn w h l t left used turn s waits

    pub task_trapped : (trap : Trap) → Ran (Trapped trap) → EndsAt w h left used (E.Trapped trap) s
    task_trapped trap (runs_on c u more go le e h1) = ends_behind w h (busy (is_running t) c l) u left (left - u) more used (E.Trapped trap) s go le refl e
        (turn_trapped w (is_running t) l c (left - u) more trap s waits h1)
    task_trapped trap (too_dear is h1) = cc

    pub task_spent : Ran StepsSpent → EndsAt w h left used (E.StepsSpent w.steps) s
    task_spent (runs_on c u more go le e h1) = ends_behind w h (busy (is_running t) c l) u left (left - u) more used (E.StepsSpent w.steps) s go le refl e
        (turn_spent w (is_running t) l c (left - u) more s waits h1)
    task_spent (too_dear is h1) = h1

    -- it calls an import
    pub task_asks : (call : CallValue) → Ran (Waiting call)
        → (at : Configuration) × (at.store ≡ s) × (waits ≡ I.inside at.here at.under) × Asks w h used call.import call.args.items (inside t at) l × (used ≤ left)
    task_asks call (too_dear is h1) = cc
    task_asks call (runs_on c u more go le e h1) =
        let r = asks_by p c (left - u) more call.import call.args.items h1.at h1.ends in (
          h1.at,
          h1.store_is,
          h1.waits,
          record {
            k = r.k;
            at = busy (is_running t) r.at l;
            cost = u + r.cost;
            first = λ os.
                leads_on Held Note next (meeting os h) (meeting os (busy (is_running t) c l)) (meeting os (busy (is_running t) r.at l)) u r.cost [] [] (go os)
                (busy_goes w (is_running t) l c r.at r.cost r.runs os);
            there = refl;
            asked = λ os. ap (busy_step p x w.plan (is_running t) (with_outcomes l os)) r.next_is;
            used_is = omega (arith, r.used_is);
          },
          omega (arith, r.within),
        )

  -- an entry returned
  pub entry_returned : (h : Held) (l l' : Left) (e : Entry) (left used : ℕ) (v : Option Value) (s : Store) (waits : Waits) (m : Moved) (supply : MailSupply) → l' ≡ next_entry l
      → m.event ≡ EV.Returned l.number v → m.stage ≡ S.Free
      → TaskTurn w h l (an_entry e) left used (Returned v) s waits → Comes w h left used m supply supply l' s waits
  entry_returned h l l' e left used v s waits m supply nl ev st (too_dear is h1) = cc
  entry_returned h l l' e left used v s waits m supply nl ev st (runs_on c u more go le eu h1) =
      let r = returns_by p c (left - u) more (option_to_list v) s h1.0 in
      let y : Note = note (returned l.number (value_of_results (option_to_list v))) s in
      let behind : List Note = done_notes s l.entries in
      let to : Held = held_on s (next_entry l) l.entries in
      let first : Stretch p w.plan (busy (is_running (an_entry e)) c l) [] (y ∷ behind) more to =
      busy_last w (is_running (an_entry e)) l c (left - u) more (λ k. returns k (option_to_list v) s) [] (y ∷ behind) to r (λ k os. ap (goes k (y ∷ behind)) (on_last s (next_entry l) l.entries os)) in
      record {
        note = y;
        event_is = ap (returned l.number) (value_back v) ∙ ap event_of (sym ev);
        store_is = refl;
        tells = record {
          outcomes = [];
          takes = (refl, refl);
          within = omega (arith, r.within);
          lands = goes_on (y ∷ behind) behind to
              (subst (λ n. Stretch p w.plan h [] (y ∷ behind) n to) (sym eu) (compose p w.plan h (busy (is_running (an_entry e)) c l) to [] [] [] (y ∷ behind) u more go first))
              refl refl (ap (place_in x w.plan.area l' s waits) st ∙ ap (λ z. free_place z s) nl);
        };
      }

  -- the start function returned
  pub start_returned : (h : Held) (l : Left) (left used : ℕ) (v : Option Value) (s : Store) (waits : Waits) → TaskTurn w h l the_start left used (Returned v) s waits
      → Stretch p w.plan h [] (done_notes s l.entries) used (held_on s l l.entries) × (used ≤ left)
  start_returned h l left used v s waits (too_dear is h1) = cc
  start_returned h l left used v s waits (runs_on c u more go le eu h1) =
      let r = returns_by p c (left - u) more (option_to_list v) s h1.0 in
      let to : Held = held_on s l l.entries in
      let first : Stretch p w.plan (busy (is_running the_start) c l) [] (done_notes s l.entries) more to =
      busy_last w (is_running the_start) l c (left - u) more (λ k. returns k (option_to_list v) s) [] (done_notes s l.entries) to r
      (λ k os. ap (goes k (done_notes s l.entries)) (on_last s l l.entries os)) in (
        subst (λ n. Stretch p w.plan h [] (done_notes s l.entries) n to) (sym eu) (compose p w.plan h (busy (is_running the_start) c l) to [] [] [] (done_notes s l.entries) u more go first),
        omega (arith, r.within),
      )

  -- ---- calls

  -- the next entry is called
  pub entry_turn : (l l' : Left) (e : Entry) (es : List Entry) (g : Func) (s : Store) (left used : ℕ) (t : Turn) (s' : Store) (w' : Waits) → l.entries ≡ e ∷ es
      → l' ≡ record { number = l.number; entries = es; outcomes = [] }
      → l.outcomes ≡ [] → defined_at p e.func ≡ Some g → Calls p s e.func e.args left used t s' w' → TaskTurn w (free s l) l' (an_entry e) left used t s' w'
  entry_turn l l' e es g s left used t s' w' is l_is none there h = by_case (calls_in p s e.func e.args g left used t s' w' there h)
    where
      enters_now : (os : List Outcome) → next (meeting os (free s l)) ≡ busy_enters (is_running (an_entry e)) e s (record { number = l.number; entries = es; outcomes = os }) (defined_at p e.func)
      enters_now os = ap (held_next p s (with_outcomes l os)) is

      to : (os : List Outcome) → next (meeting os (free s l)) ≡ goes (length e.args) [] (meeting os (busy (is_running (an_entry e)) (entered s [] e.args e.func g) l'))
      to os =
          enters_now os ∙ ap (busy_enters (is_running (an_entry e)) e s (record { number = l.number; entries = es; outcomes = os })) there
          ∙ ap (λ z. goes (length e.args) [] (busy (is_running (an_entry e)) (entered s [] e.args e.func g) (with_outcomes z os))) (sym l_is)

      go : Stretch p w.plan (free s l) [] [] (suc (length e.args)) (busy (is_running (an_entry e)) (entered s [] e.args e.func g) l')
      go = λ os. moves (to os) stays (omega arith) refl

      by_case : CallsIn p s e.func e.args g left used t s' w' → TaskTurn w (free s l) l' (an_entry e) left used t s' w'
      by_case (Q.it_enters le more u k) = runs_on (entered s [] e.args e.func g) (suc (length e.args)) more go le u k
      by_case (Q.too_dear le u is_spent same) =
          let short : left - 0 ≡ left = omega arith in
          too_dear is_spent
          (subst (λ n. EndsAt w (free s l) left n (E.StepsSpent w.steps) s') (sym u)
          (at_spent (free s l) (nowhere_on p w.plan (free s l)) (omega arith) (sym same)
          (record { goes_on = refl; dearer = λ os. subst (CostsMore (left - 0)) (sym (to os)) (subst (λ n. n ≤ length e.args) (sym short) le) }) refl))

  -- the start function is called
  pub start_turn : (l : Left) (f : ℕ) (g : Func) (s : Store) (left used : ℕ) (t : Turn) (s' : Store) (w' : Waits) → defined_at p f ≡ Some g → Calls p s f [] left used t s' w'
      → TaskTurn w (starting f s l) l the_start left used t s' w'
  start_turn l f g s left used t s' w' there h = by_case (calls_in p s f [] g left used t s' w' there h)
    where
      to : (os : List Outcome) → next (meeting os (starting f s l)) ≡ goes 0 [] (meeting os (busy (is_running the_start) (entered s [] [] f g) l))
      to os = ap (held_start p x w.plan f s (with_outcomes l os)) there

      go : Stretch p w.plan (starting f s l) [] [] 1 (busy (is_running the_start) (entered s [] [] f g) l)
      go = λ os. moves (to os) stays (omega arith) refl

      by_case : CallsIn p s f [] g left used t s' w' → TaskTurn w (starting f s l) l the_start left used t s' w'
      by_case (Q.it_enters le more u k) = runs_on (entered s [] [] f g) 1 more go le u k
      by_case (Q.too_dear le u is_spent same) =
          let short : left - 0 ≡ left = omega arith in
          too_dear is_spent
          (subst (λ n. EndsAt w (starting f s l) left n (E.StepsSpent w.steps) s') (sym u)
          (at_spent (starting f s l) (nowhere_on p w.plan (starting f s l)) (omega arith) (sym same)
          (record { goes_on = refl; dearer = λ os. subst (CostsMore (left - 0)) (sym (to os)) (subst (λ n. n ≤ 0) (sym short) le) }) refl))

  -- ---- a start function that is an import

  -- one that is there and isn't an import is defined
  pub start_defined : (f : ℕ) → f < length (func_sorts p) → func_imports p ≤ f → (g : Func) × (defined_at p f ≡ Some g)
  start_defined f lt le = by_option (defined_at p f) refl
    where
      by_option : (o : Option Func) → defined_at p f ≡ o → (g : Func) × (defined_at p f ≡ Some g)
      by_option (Some g) e = (g, e)
      by_option None e = let no : f < func_imports p = not_defined p f lt e in let z : ⊥ = omega arith in absurd z

  none_defined : (f : ℕ) → f < func_imports p → defined_at p f ≡ None
  none_defined f lt = by_test (nat_lt f (func_imports p)) (lt-ltb f (func_imports p) lt)
    where
      by_test : (b : Bool) → b ≡ true → cond b None (slice_get p.funcs (f - func_imports p)) ≡ None
      by_test true e = refl
      by_test false e = cc

  start_move : (l : Left) (f : ℕ) (s : Store) (os : List Outcome) → f < func_imports p → next (meeting os (starting f s l)) ≡ held_asked p x w.plan 0 f [] (outermost s) (with_outcomes l os) os
  start_move l f s os lt =
      ap (held_start p x w.plan f s (with_outcomes l os)) (none_defined f lt) ∙ by_test (nat_lt f (func_imports p)) (lt-ltb f (func_imports p) lt)
    where
      by_test : (b : Bool) → b ≡ true → cond b (held_asked p x w.plan 0 f [] (outermost s) (with_outcomes l os) os) stops ≡ held_asked p x w.plan 0 f [] (outermost s) (with_outcomes l os) os
      by_test true e = refl
      by_test false e = cc

  module _ (l : Left) (f : ℕ) (s : Store) (left used : ℕ) (s' : Store) (w' : Waits) (lt : f < func_imports p) where
    abbrev Asked : Bool → Turn → Type 0
    Asked b t = CallsAs p s f [] b None left used t s' w'

    called_as : (t : Turn) → Calls p s f [] left used t s' w' → Asked (nat_le left 0) t
    called_as t h = subst (λ o. CallsAs p s f [] (nat_le left 0) o left used t s' w') (none_defined f lt) h

    pub import_asks : (call : CallValue) → Calls p s f [] left used (Waiting call) s' w'
        → (s' ≡ s) × (w' ≡ I.outermost) × Asks w (starting f s l) used call.import call.args.items (outermost s) l × (used ≤ left)
    import_asks call h = by_cost (nat_le left 0) refl (called_as (Waiting call) h)
      where
        by_cost : (b : Bool) → nat_le left 0 ≡ b → Asked b (Waiting call) → (s' ≡ s) × (w' ≡ I.outermost) × Asks w (starting f s l) used call.import call.args.items (outermost s) l × (used ≤ left)
        by_cost true e k = let z : Waiting call ≡ StepsSpent = k.turn_is in cc
        by_cost false e k =
            let some : 0 < left = leb-false left 0 e in
            let enough : 1 ≤ left = omega arith in (
              k.store_is,
              k.waits,
              record {
                k = 0;
                at = starting f s l;
                cost = 0;
                first = nowhere_on p w.plan (starting f s l);
                there = tt;
                asked = λ os.
                    start_move l f s os lt
                    ∙ ap (λ i. held_asked p x w.plan 0 i [] (outermost s) (with_outcomes l os) os) (sym k.call.0)
                    ∙ ap (λ vs. held_asked p x w.plan 0 call.import vs (outermost s) (with_outcomes l os) os) (sym k.call.1);
                used_is = omega (arith, k.cost);
              },
              omega (arith, k.cost),
            )

    -- it doesn't return or trap
    pub import_stops : (t : Turn) → Calls p s f [] left used t s' w' → AsksOnly (func_imports p) t
    import_stops t h = by_cost (nat_le left 0) (called_as t h)
      where
        by_call : (u : Turn) → IsCall u f [] → AsksOnly (func_imports p) u
        by_call (Returned v) k = k
        by_call (Trapped trap) k = k
        by_call (Waiting call) k = subst (λ (n : ℕ). n < func_imports p) (sym k.0) lt
        by_call StepsSpent k = tt

        by_cost : (b : Bool) → Asked b t → AsksOnly (func_imports p) t
        by_cost true k = subst (AsksOnly (func_imports p)) (sym k.turn_is) tt
        by_cost false k = by_call t k.call

    pub import_spent : Calls p s f [] left used StepsSpent s' w' → EndsAt w (starting f s l) left used (E.StepsSpent w.steps) s'
    import_spent h = by_cost (nat_le left 0) refl (called_as StepsSpent h)
      where
        by_cost : (b : Bool) → nat_le left 0 ≡ b → Asked b StepsSpent → EndsAt w (starting f s l) left used (E.StepsSpent w.steps) s'
        by_cost false e k = absurd k.call
        by_cost true e k =
            let zero_left : left ≤ 0 = leb-true left 0 e in
            let none : left - 0 ≤ 0 = omega arith in
            subst (λ n. EndsAt w (starting f s l) left n (E.StepsSpent w.steps) s') (sym k.cost)
            (at_spent (starting f s l) (nowhere_on p w.plan (starting f s l)) (omega arith) (sym k.store_is)
            (record { goes_on = refl; dearer = λ os. subst (CostsMore (left - 0)) (sym (start_move l f s os lt)) (asked_dear w (left - 0) 0 f [] (outermost s) (with_outcomes l os) os none) }) refl)

  -- ---- all entries have returned

  pub done_comes : (l : Left) (s : Store) (left : ℕ) (m : Moved) (supply : MailSupply) (l' : Left) (waits : Waits) → l.entries ≡ [] → m.event ≡ EV.Ended E.Done → m.stage ≡ S.Ended E.Done
      → ComesFrom w (free_place l s) left 0 m supply supply l' s waits
  done_comes l s left m supply l' waits none ev st =
      subst (λ es. ComesFrom w (stands (done_notes s es) (held_on s l es)) left 0 m supply supply l' s waits) (sym none)
      (record {
        note = note (ended E.Done) s;
        event_is = ap event_of (sym ev);
        store_is = refl;
        tells = record { outcomes = []; takes = (refl, refl); within = omega arith; lands = ends E.Done [] s (nowhere_on p w.plan (over s)) refl refl (ap (place_in x w.plan.area l' s waits) st) };
      })
