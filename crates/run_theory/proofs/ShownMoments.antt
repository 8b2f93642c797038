-- Moments of the run whose moves show their pauses are moments of the run with blocking imports.
use Rattle.std.proofs.Common.{◌≡◌, ℕ, suc, ◌+◌, ◌-◌, ◌≤◌, ◌<◌, List, [], ◌∷◌, ◌++◌, Option, Some, None, refl, sym, ap, ◌∙◌, subst, arith, length, take, append_assoc, append-nil, ◌⊎◌, inl, inr}
use Rattle.std.specs.Prelude.{nat_lt, if◌then◌else◌, Bool, true, false, All, slice_get}
use Rattle.wa_types.specs.declared.values.ValType.{ValType}
use Rattle.wa_types.specs.declared.values.Value.{Value}
use Rattle.wa_types.specs.Syntax.{Func, Module}
use Rattle.wa_types.specs.Modules.{func_imports, func_type_at, defined_at}
use Rattle.wa_types.specs.Frames.{Suspended}
use Rattle.wa_model.specs.declared.answers.Said.{Said}
use Rattle.wa_model.specs.declared.answers.Said.TheVariants as S
use Rattle.wa_model.specs.declared.events.End.{End}
use Rattle.wa_model.specs.declared.events.End.TheVariants.{UnwindTrap}
use Rattle.wa_model.specs.Outside.{Answer, Event, ended}
use Rattle.wa_model.specs.Machine.{Turn, stops, goes, Ran, after, run, Leads, stays, moves}
use Rattle.wa_model.specs.Store.{Store}
use Rattle.wa_model.specs.Step.{Next, steps, asks, returns, traps, stuck, step}
use Rattle.wa_model.specs.Plan.{Entry, Plan, Outcome, given, refused, OutcomeFits, IsRefusal}
use Rattle.wa_model.specs.Blocking.{Note, note, events_of, fault_of, Task, the_start, an_entry, Left, with_outcomes, Asker}
use Rattle.wa_model.specs.Blocking.{inside, outermost, store_at, in_start, State, between, begins, runs, halts, done_notes, on_to, next_entry, task_back, call_note, poked, pause_of}
use Rattle.wa_model.specs.Blocking.{stack_at, go_on, tested, asked, by_step, enters, enter_next, start_called, blocking, store_of}
use Rattle.wa_model.specs.Behaves.{unless_pause, without_pauses}
use Rattle.wa_model.specs.Expected.{pause_note, trap_note}
use Rattle.std.specs.List.{cons_option}
use Rattle.run_theory.proofs.Runs.{leads_run, leads_stopped, one_move}
use Rattle.run_theory.proofs.ShownRuns.{pause_shown, shown_move, blocking_shown}
use Rattle.run_theory.proofs.TestedEnds.{EndIs, fault_is}

-- ---- a run with blocking imports makes no Paused and no UnwindTrap

abbrev pub Honest : List Note → Type 0
Honest [] = Unit {0}
Honest (x ∷ xs) = (unless_pause x.event ≡ Some x.event) × Honest xs

abbrev Honest_end : Option End → Type 0
Honest_end = EndIs (λ e. unless_pause (ended e) ≡ Some (ended e))

-- the outcomes left are in their ranges
abbrev pub Lawful : State → Type 0
Lawful (between s l) = All OutcomeFits l.outcomes
Lawful (begins x s l) = All OutcomeFits l.outcomes
Lawful (runs task c l) = All OutcomeFits l.outcomes
Lawful (halts s) = Unit {0}

abbrev Honest_turn : Turn State Note → Type 0
Honest_turn stops = Unit {0}
Honest_turn (goes k es t) = Honest es × Lawful t

refusal_honest : (e : End) → IsRefusal e → unless_pause (ended e) ≡ Some (ended e)
refusal_honest (UnwindTrap trap used len) h = absurd h
refusal_honest _ h = refl

end_honest : (e : End) (s : Store) → unless_pause (ended e) ≡ Some (ended e) → Honest (note (ended e) s ∷ [])
end_honest e s h = (h, tt)

fault_honest : (results : List ValType) (size : ℕ) (plan : Plan) (start : Bool) (import : ℕ) (a : Answer) → Honest_end (fault_of results size plan start import a)
fault_honest results size plan start import a =
    fault_is (λ e. unless_pause (ended e) ≡ Some (ended e)) (record { value = λ i v. refl; poke = λ at len. refl; start = λ i. refl }) results size plan start import a (λ h. refl)

done_honest : (s : Store) (es : List Entry) → Honest (done_notes s es)
done_honest s [] = (refl, tt)
done_honest s (e ∷ es) = tt

on_lawful : (s : Store) (l : Left) (es : List Entry) → All OutcomeFits l.outcomes → Lawful (on_to s l es)
on_lawful s l [] h = tt
on_lawful s l (e ∷ es) h = h

back_honest : (k : ℕ) (task : Task) (results : List Value) (s : Store) (l : Left) → All OutcomeFits l.outcomes → Honest_turn (task_back k task results s l)
back_honest k the_start results s l h = (done_honest s l.entries, on_lawful s l l.entries h)
back_honest k (an_entry e) results s l h = ((refl, done_honest s l.entries), on_lawful s (next_entry l) l.entries h)

go_on_honest : (k : ℕ) (x : Note) (said : Said) (s : Store) (l : Left) (w : Asker) → unless_pause x.event ≡ Some x.event → All OutcomeFits l.outcomes → Honest_turn (go_on k x said s l w)
go_on_honest k x (S.Value v) s l (inside task c) e h = ((e, (refl, tt)), h)
go_on_honest k x (S.Value v) s l (outermost old) e h = ((e, (refl, done_honest s l.entries)), on_lawful s l l.entries h)
go_on_honest k x S.Trap s l w e h = ((e, (refl, (refl, tt))), tt)

tested_honest : (m : Module) (k import : ℕ) (args : List Value) (w : Asker) (l : Left) (a : Answer) (o : Option End) → Honest_end o → All OutcomeFits l.outcomes
    → Honest_turn (tested m k import args w l a o)
tested_honest m k import args w l a (Some e) he h = ((refl, end_honest e (store_at w) he), tt)
tested_honest m k import args w l a None he h = go_on_honest k (call_note import args (store_at w) (stack_at m w) (pause_of a.ticks)) a.said (poked (store_at w) a.pokes) l w refl h

first_fits : (o : Outcome) (os : List Outcome) → All OutcomeFits (o ∷ os) → OutcomeFits o
first_fits o os h = let lt : 0 < length (o ∷ os) = omega arith in h 0 o lt

others_fit : (o : Outcome) (os : List Outcome) → All OutcomeFits (o ∷ os) → All OutcomeFits os
others_fit o os h = λ k d lt. let more : suc k < length (o ∷ os) = omega arith in h (suc k) d more

asked_honest : (m : Module) (plan : Plan) (k import : ℕ) (args : List Value) (w : Asker) (l : Left) (os : List Outcome) → All OutcomeFits os → Honest_turn (asked m plan k import args w l os)
asked_honest m plan k import args w l [] h = ((refl, tt), tt)
asked_honest m plan k import args w l (refused e ∷ os) h = ((refl, end_honest e (store_at w) (refusal_honest e (first_fits (refused e) os h))), tt)
asked_honest m plan k import args w l (given a ∷ os) h =
    tested_honest m k import args w (with_outcomes l os) a (fault_of (func_type_at m import).results (length (store_at w).memory) plan (in_start w) import a)
    (fault_honest (func_type_at m import).results (length (store_at w).memory) plan (in_start w) import a) (others_fit (given a) os h)

step_honest : (m : Module) (plan : Plan) (task : Task) (l : Left) (o : Next) → All OutcomeFits l.outcomes → Honest_turn (by_step m plan task l o)
step_honest m plan task l (steps k d) h = (tt, h)
step_honest m plan task l (asks k import args d) h = asked_honest m plan k import args (inside task d) l l.outcomes h
step_honest m plan task l (returns k results s) h = back_honest k task results s l h
step_honest m plan task l (traps k trap s) h = ((refl, tt), tt)
step_honest m plan task l stuck h = tt

enters_honest : (e : Entry) (s : Store) (l : Left) (o : Option Func) → All OutcomeFits l.outcomes → Honest_turn (enters e s l o)
enters_honest e s l None h = tt
enters_honest e s l (Some f) h = (tt, h)

next_honest : (m : Module) (s : Store) (l : Left) (es : List Entry) → All OutcomeFits l.outcomes → Honest_turn (enter_next m s l es)
next_honest m s l [] h = tt
next_honest m s l (e ∷ es) h = enters_honest e s (record { number = l.number; entries = es; outcomes = l.outcomes }) (defined_at m e.func) h

start_honest : (m : Module) (plan : Plan) (x : ℕ) (s : Store) (l : Left) (o : Option Func) → All OutcomeFits l.outcomes → Honest_turn (start_called m plan x s l o)
start_honest m plan x s l (Some f) h = (tt, h)
start_honest m plan x s l None h = by_import (nat_lt x (func_imports m))
  where
    by_import : (b : Bool) → Honest_turn (if b then asked m plan 0 x [] (outermost s) l l.outcomes else stops)
    by_import true = asked_honest m plan 0 x [] (outermost s) l l.outcomes h
    by_import false = tt

pub honest_blocking : (m : Module) (plan : Plan) (s : State) → Lawful s → Honest_turn (blocking m plan s)
honest_blocking m plan (between s l) h = next_honest m s l l.entries h
honest_blocking m plan (begins x s l) h = start_honest m plan x s l (defined_at m x) h
honest_blocking m plan (runs task c l) h = step_honest m plan task l (step m c) h
honest_blocking m plan (halts s) h = tt

-- ---- events without their pauses

abbrev events_shown : List Note → List Event
events_shown xs = without_pauses (events_of xs)

honest_on : (xs ys : List Note) → Honest xs → events_shown (xs ++ ys) ≡ events_of xs ++ events_shown ys
honest_on [] ys h = refl
honest_on (x ∷ xs) ys h = ap (λ o. cons_option o (events_shown (xs ++ ys))) h.0 ∙ ap (λ es. x.event ∷ es) (honest_on xs ys h.1)

one_honest : (x : Note) (ys : List Note) → unless_pause x.event ≡ Some x.event → events_shown (x ∷ ys) ≡ x.event ∷ events_shown ys
one_honest x ys h = ap (λ o. cons_option o (events_shown ys)) h

events_append : (xs ys : List Note) → events_of (xs ++ ys) ≡ events_of xs ++ events_of ys
events_append [] ys = refl
events_append (x ∷ xs) ys = ap (λ es. x.event ∷ es) (events_append xs ys)

-- ---- lists

got_behind : (xs zs : List Note) (z : Note) → slice_get (xs ++ z ∷ zs) (length xs) ≡ Some z
got_behind [] zs z = refl
got_behind (x ∷ xs) zs z = got_behind xs zs z

taken_behind : (xs zs : List Note) (z : Note) → take (suc (length xs)) (xs ++ z ∷ zs) ≡ xs ++ z ∷ []
taken_behind [] zs z = refl
taken_behind (x ∷ xs) zs z = ap (λ ys. x ∷ ys) (taken_behind xs zs z)

shown_append : (xs ys : List Note) → events_shown (xs ++ ys) ≡ events_shown xs ++ events_shown ys
shown_append [] ys = refl
shown_append (x ∷ xs) ys = by_event (unless_pause x.event) (shown_append xs ys)
  where
    by_event : (o : Option Event) → events_shown (xs ++ ys) ≡ events_shown xs ++ events_shown ys → cons_option o (events_shown (xs ++ ys)) ≡ cons_option o (events_shown xs) ++ events_shown ys
    by_event None h = h
    by_event (Some e) h = ap (λ es. e ∷ es) h

honest_up_to : (xs ys : List Note) (x : Note) → Honest (xs ++ x ∷ ys) → events_shown (xs ++ x ∷ []) ≡ events_of (xs ++ x ∷ [])
honest_up_to [] ys x h = one_honest x [] h.0
honest_up_to (y ∷ xs) ys x h = one_honest y (xs ++ x ∷ []) h.0 ∙ ap (λ es. y.event ∷ es) (honest_up_to xs ys x h.1)

module _ (room fit : List Suspended → ℕ) (len : ℕ) (m : Module) (plan : Plan) where
  abbrev nb : State → Turn State Note
  nb = blocking m plan

  abbrev ne : State → Turn State Note
  ne = blocking_shown room fit len m plan

  -- What a stretch of the shown run is in the run with blocking imports: a stretch with the same events, pauses aside, or
  -- one up to a call at which the shown run ends.
  pub data Trace (s : State) (cost : ℕ) (es : List Note) (at : State) : Type 0 where
    kept : (fs : List Note) → Leads nb s cost fs at → events_shown es ≡ events_of fs → Lawful at → Trace s cost es at
    cut : (c k : ℕ) (x : Note) (fs xs : List Note) (s1 t : State) → Leads nb s c fs s1 → nb s1 ≡ goes k (x ∷ xs) t → cost ≡ c + suc k → events_shown es ≡ events_of (fs ++ x ∷ [])
        → at ≡ halts x.store → Trace s cost es at

  -- a move in front
  traced : (s t at : State) (k n : ℕ) (xs es1 es2 : List Note) → nb s ≡ goes k xs t → events_shown (es1 ++ es2) ≡ events_of xs ++ events_shown es2 → Trace t n es2 at
      → Trace s (suc k + n) (es1 ++ es2) at
  traced s t at k n xs es1 es2 e same (kept fs l ev law) =
      kept (xs ++ fs) (moves e l refl refl) (same ∙ ap (λ es. events_of xs ++ es) ev ∙ sym (events_append xs fs)) law
  traced s t at k n xs es1 es2 e same (cut c j x fs ys s1 u l e1 sum ev halt) =
      cut (suc k + c) j x (xs ++ fs) ys s1 u (moves e l refl refl) e1 (omega arith)
      (same ∙ ap (λ es. events_of xs ++ es) ev ∙ sym (events_append xs (fs ++ x ∷ [])) ∙ ap events_of (sym (append_assoc xs fs (x ∷ [])))) halt

  -- how one move shows
  pub data Shows (k : ℕ) (xs : List Note) (t : State) : Turn State Note → Type 0 where
    as_it_is : Shows k xs t (goes k xs t)
    with_pause : (x : Note) (ys : List Note) (ticks used : ℕ) → xs ≡ x ∷ ys → Shows k xs t (goes k (x ∷ pause_note ticks used x.store x.stack ∷ ys) t)
    with_trap : (x : Note) (ys : List Note) (used : ℕ) → xs ≡ x ∷ ys → Shows k xs t (goes k (x ∷ trap_note used len x.store ∷ []) (halts x.store))

  shows : (k : ℕ) (xs : List Note) (t : State) → Shows k xs t (shown_move room fit len (goes k xs t))
  shows k [] t = as_it_is
  shows k (x ∷ xs) t = by_pause x.pause
    where
      by_pause : (o : Option ℕ) → Shows k (x ∷ xs) t (pause_shown room fit len k x xs t o)
      by_pause None = as_it_is
      by_pause (Some ticks) = by_room (nat_lt len (room x.stack))
        where
          by_room : (b : Bool) → Shows k (x ∷ xs) t (if b then goes k (x ∷ trap_note (fit x.stack) len x.store ∷ []) (halts x.store)
              else goes k (x ∷ pause_note ticks (room x.stack) x.store x.stack ∷ xs) t)
          by_room true = with_trap x xs (fit x.stack) refl
          by_room false = with_pause x xs ticks (room x.stack) refl

  pub trace : (s at : State) (cost : ℕ) (es : List Note) → Lawful s → Leads ne s cost es at → Trace s cost es at
  trace s at cost es law stays = kept [] stays refl law
  trace s at cost es law (moves {t = t1} {k = k1} {n = n1} {es = es1} {fs = es2} e l em eg) =
      by_turn (λ h. trace t1 at n1 es2 h l) (nb s) refl (honest_blocking m plan s law)
    where
      cast : Trace s (suc k1 + n1) (es1 ++ es2) at → Trace s cost es at
      cast t = subst (λ c. Trace s c es at) (sym em) (subst (λ xs. Trace s (suc k1 + n1) xs at) (sym eg) t)

      by_shows : (k : ℕ) (xs : List Note) (t : State) (o : Turn State Note) → (Lawful t1 → Trace t1 n1 es2 at) → nb s ≡ goes k xs t → Honest xs → Lawful t → Shows k xs t o
          → o ≡ goes k1 es1 t1 → Trace s cost es at
      by_shows k xs t o ih q h lt as_it_is p =
          let same_k : k ≡ k1 = cc in
          let same_es : xs ≡ es1 = cc in
          let same_t : t ≡ t1 = cc in
          let q' : nb s ≡ goes k1 xs t1 = q ∙ ap (λ j. goes j xs t) same_k ∙ ap (λ u. goes k1 xs u) same_t in
          cast (traced s t1 at k1 n1 xs es1 es2 q' (sym (ap (λ ys. events_shown (ys ++ es2)) same_es) ∙ honest_on xs es2 h) (ih (subst Lawful same_t lt)))
      by_shows k xs t o ih q h lt (with_pause x ys ticks used split) p =
          let same_k : k ≡ k1 = cc in
          let same_es : x ∷ pause_note ticks used x.store x.stack ∷ ys ≡ es1 = cc in
          let same_t : t ≡ t1 = cc in
          let q' : nb s ≡ goes k1 xs t1 = q ∙ ap (λ j. goes j xs t) same_k ∙ ap (λ u. goes k1 xs u) same_t in
          let hx : Honest (x ∷ ys) = subst Honest split h in
          cast (traced s t1 at k1 n1 xs es1 es2 q'
          (sym (ap (λ zs. events_shown (zs ++ es2)) same_es) ∙ one_honest x (pause_note ticks used x.store x.stack ∷ (ys ++ es2)) hx.0 ∙ ap (λ zs. x.event ∷ zs) (honest_on ys es2 hx.1)
          ∙ ap (λ zs. events_of zs ++ events_shown es2) (sym split))
          (ih (subst Lawful same_t lt)))
      by_shows k xs t o ih q h lt (with_trap x ys used split) p =
          let same_k : k ≡ k1 = cc in
          let same_es : x ∷ trap_note used len x.store ∷ [] ≡ es1 = cc in
          let same_t : halts x.store ≡ t1 = cc in
          let halted : Leads ne (halts x.store) n1 es2 at = subst (λ u. Leads ne u n1 es2 at) (sym same_t) l in
          let none = leads_stopped State Note ne (halts x.store) at n1 es2 refl halted in
          let hx : Honest (x ∷ ys) = subst Honest split h in
          let zero = none.0 in
          cast (cut 0 k x [] ys s t stays (q ∙ ap (λ zs. goes k zs t) split) (omega arith)
          (sym (ap (λ zs. events_shown (zs ++ es2)) same_es) ∙ ap (λ zs. events_shown (x ∷ trap_note used len x.store ∷ zs)) none.2 ∙ one_honest x (trap_note used len x.store ∷ []) hx.0)
          (sym none.1))

      by_turn : (Lawful t1 → Trace t1 n1 es2 at) → (o : Turn State Note) → nb s ≡ o → Honest_turn o → Trace s cost es at
      by_turn ih stops q h = let z : stops ≡ goes k1 es1 t1 = sym (ap (shown_move room fit len) q) ∙ e in cc
      by_turn ih (goes k xs t) q h = by_shows k xs t (shown_move room fit len (goes k xs t)) ih q h.0 h.1 (shows k xs t) (sym (ap (shown_move room fit len) q) ∙ e)

  -- A moment of the run with blocking imports from a state, with notes made before, at which these events have been made.
  abbrev pub Block_moment : List Note → State → ℕ → List Event → Store → Type 0
  Block_moment e0 s n events at =
      ((j : ℕ) × (j ≤ n) × (events ≡ events_of (e0 ++ (run nb j s).events)) × (at ≡ store_of (run nb j s).last))
      ⊎ ((i : ℕ) × (z : Note) × (slice_get (e0 ++ (run nb n s).events) i ≡ Some z) × (events ≡ events_of (take (suc i) (e0 ++ (run nb n s).events))) × (at ≡ z.store))

  -- at a note of the move behind a stretch
  at_note : (e0 fs ys zs : List Note) (s s1 t : State) (n c k : ℕ) (z : Note) → Leads nb s c fs s1 → nb s1 ≡ goes k (ys ++ z ∷ zs) t → c + suc k ≤ n
      → Block_moment e0 s n (events_of e0 ++ events_of (fs ++ (ys ++ z ∷ []))) z.store
  at_note e0 fs ys zs s s1 t n c k z l e le =
      let more : List Note = (run nb (n - c - suc k) t).events in
      let sum : n ≡ c + (n - c) = omega arith in
      let sum' : n - c ≡ suc (k + (n - c - suc k)) = omega arith in
      let first : (run nb n s).events ≡ fs ++ (run nb (n - c) s1).events = ap (λ j. (run nb j s).events) sum ∙ ap (λ r. r.events) (leads_run State Note nb s s1 c (n - c) fs l) in
      let second : (run nb (n - c) s1).events ≡ (ys ++ z ∷ zs) ++ more = ap (λ j. (run nb j s1).events) sum' ∙ ap (λ r. r.events) (one_move State Note nb k (n - c - suc k) (ys ++ z ∷ zs) s1 t e) in
      let all : e0 ++ (run nb n s).events ≡ (e0 ++ (fs ++ ys)) ++ z ∷ (zs ++ more) =
      ap (λ xs. e0 ++ xs) (first ∙ ap (λ xs. fs ++ xs) (second ∙ append_assoc ys (z ∷ zs) more) ∙ sym (append_assoc fs ys (z ∷ (zs ++ more)))) ∙ sym (append_assoc e0 (fs ++ ys) (z ∷ (zs ++ more))) in
      inr (
        length (e0 ++ (fs ++ ys)),
        z,
        ap (λ xs. slice_get xs (length (e0 ++ (fs ++ ys)))) all ∙ got_behind (e0 ++ (fs ++ ys)) (zs ++ more) z,
        sym (events_append e0 (fs ++ (ys ++ z ∷ [])))
            ∙ ap events_of (sym (append_assoc e0 (fs ++ ys) (z ∷ []) ∙ ap (λ xs. e0 ++ xs) (append_assoc fs ys (z ∷ []))) ∙ sym (taken_behind (e0 ++ (fs ++ ys)) (zs ++ more) z)
            ∙ sym (ap (take (suc (length (e0 ++ (fs ++ ys))))) all)),
        refl,
      )

  -- where the shown run stands
  pub state_moment : (e0 : List Note) (s at : State) (n cost : ℕ) (es : List Note) → Lawful s → Leads ne s cost es at → cost ≤ n → Block_moment e0 s n (events_of e0 ++ events_shown es) (store_of at)
  state_moment e0 s at n cost es law l le = by_trace (trace s at cost es law l)
    where
      by_trace : Trace s cost es at → Block_moment e0 s n (events_of e0 ++ events_shown es) (store_of at)
      by_trace (kept fs lb ev law') =
          let z : cost ≡ cost + 0 = omega arith in
          let r : run nb cost s ≡ after fs (run nb 0 at) = ap (λ j. run nb j s) z ∙ leads_run State Note nb s at cost 0 fs lb in
          inl (
            cost,
            le,
            ap (λ xs. events_of e0 ++ xs) (ev ∙ ap events_of (sym (append-nil fs)) ∙ ap (λ (q : Ran State Note). events_of q.events) (sym r)) ∙ sym (events_append e0 (run nb cost s).events),
            ap (λ (q : Ran State Note). store_of q.last) (sym r),
          )
      by_trace (cut c k x fs xs s1 t lb e sum ev halt) =
          let b = at_note e0 fs [] xs s s1 t n c k x lb e (omega arith) in
          subst (λ es. Block_moment e0 s n es (store_of at)) (ap (λ es. events_of e0 ++ es) (sym ev))
          (subst (λ st. Block_moment e0 s n (events_of e0 ++ events_of (fs ++ x ∷ [])) (store_of st)) (sym halt) b)

  -- one of the notes that the shown run makes
  pub event_moment : (e0 : List Note) (s at a' : State) (n cost k : ℕ) (es es1 es2 : List Note) (x : Note) → Lawful s → Leads ne s cost es at → ne at ≡ goes k (es1 ++ x ∷ es2) a'
      → cost + suc k ≤ n → Block_moment e0 s n (events_of e0 ++ events_shown (es ++ (es1 ++ x ∷ []))) x.store
  event_moment e0 s at a' n cost k es es1 es2 x law l e le = by_trace (trace s at cost es law l)
    where
      Goal : List Note → Store → Type 0
      Goal made st = Block_moment e0 s n (events_of e0 ++ events_shown (es ++ made)) st

      by_shows : (fs : List Note) → Leads nb s cost fs at → events_shown es ≡ events_of fs → (j : ℕ) (xs : List Note) (t : State) (o : Turn State Note) → nb at ≡ goes j xs t → Honest xs
          → Shows j xs t o → o ≡ goes k (es1 ++ x ∷ es2) a' → Goal (es1 ++ x ∷ []) x.store
      by_shows fs lb ev j xs t o q h as_it_is p =
          let same_k : j ≡ k = cc in
          let same_es : xs ≡ es1 ++ x ∷ es2 = cc in
          let b = at_note e0 fs es1 es2 s at t n cost j x lb (q ∙ ap (λ ys. goes j ys t) same_es) (omega arith) in
          subst (λ ws. Block_moment e0 s n (events_of e0 ++ ws) x.store)
          (events_append fs (es1 ++ x ∷ []) ∙ ap (λ ws. ws ++ events_of (es1 ++ x ∷ [])) (sym ev) ∙ ap (λ ws. events_shown es ++ ws) (sym (honest_up_to es1 es2 x (subst Honest same_es h)))
          ∙ sym (shown_append es (es1 ++ x ∷ [])))
          b
      by_shows fs lb ev j xs t o q h (with_pause y ys ticks used split) p =
          let same_k : j ≡ k = cc in
          let same_es : y ∷ pause_note ticks used y.store y.stack ∷ ys ≡ es1 ++ x ∷ es2 = cc in
          let hy : Honest (y ∷ ys) = subst Honest split h in
          by_place es1 same_es hy (q ∙ ap (λ ws. goes j ws t) split) (omega arith)
        where
          by_place : (es1 : List Note) → y ∷ pause_note ticks used y.store y.stack ∷ ys ≡ es1 ++ x ∷ es2 → Honest (y ∷ ys) → nb at ≡ goes j (y ∷ ys) t → cost + suc j ≤ n → Goal (es1 ++ x ∷ []) x.store
          by_place [] r hy q' le' =
              let same : y ≡ x = cc in
              let b = at_note e0 fs [] ys s at t n cost j y lb q' le' in
              subst (λ w. Goal (w ∷ []) w.store) same
              (subst (λ ws. Block_moment e0 s n (events_of e0 ++ ws) y.store) (events_append fs (y ∷ []) ∙ ap (λ ws. ws ++ y.event ∷ []) (sym ev)
              ∙ ap (λ ws. events_shown es ++ ws) (sym (one_honest y [] hy.0)) ∙ sym (shown_append es (y ∷ []))) b)
          by_place (a ∷ []) r hy q' le' =
              let first : y ≡ a = cc in
              let same : pause_note ticks used y.store y.stack ≡ x = cc in
              let b = at_note e0 fs [] ys s at t n cost j y lb q' le' in
              subst (λ w. Goal (w ∷ x ∷ []) x.store) first
              (subst (λ w. Goal (y ∷ w ∷ []) w.store) same
              (subst (λ ws. Block_moment e0 s n (events_of e0 ++ ws) y.store)
              (events_append fs (y ∷ []) ∙ ap (λ ws. ws ++ y.event ∷ []) (sym ev) ∙ ap (λ ws. events_shown es ++ ws) (sym (one_honest y (pause_note ticks used y.store y.stack ∷ []) hy.0))
              ∙ sym (shown_append es (y ∷ pause_note ticks used y.store y.stack ∷ []))) b))
          by_place (a ∷ c ∷ es3) r hy q' le' =
              let first : y ≡ a = cc in
              let second : pause_note ticks used y.store y.stack ≡ c = cc in
              let rest : ys ≡ es3 ++ x ∷ es2 = cc in
              let hr : Honest (es3 ++ x ∷ es2) = subst Honest rest hy.1 in
              let b = at_note e0 fs (y ∷ es3) es2 s at t n cost j x lb (q' ∙ ap (λ ws. goes j (y ∷ ws) t) rest) le' in
              subst (λ w. Goal (w ∷ c ∷ (es3 ++ x ∷ [])) x.store) first
              (subst (λ w. Goal (y ∷ w ∷ (es3 ++ x ∷ [])) x.store) second
              (subst (λ ws. Block_moment e0 s n (events_of e0 ++ ws) x.store)
              (events_append fs (y ∷ (es3 ++ x ∷ [])) ∙ ap (λ ws. ws ++ y.event ∷ events_of (es3 ++ x ∷ [])) (sym ev)
              ∙ ap (λ ws. events_shown es ++ (y.event ∷ ws)) (sym (honest_up_to es3 es2 x hr))
              ∙ ap (λ ws. events_shown es ++ ws) (sym (one_honest y (pause_note ticks used y.store y.stack ∷ (es3 ++ x ∷ [])) hy.0))
              ∙ sym (shown_append es (y ∷ pause_note ticks used y.store y.stack ∷ (es3 ++ x ∷ [])))) b))
      by_shows fs lb ev j xs t o q h (with_trap y ys used split) p =
          let same_k : j ≡ k = cc in
          let same_es : y ∷ trap_note used len y.store ∷ [] ≡ es1 ++ x ∷ es2 = cc in
          let hy : Honest (y ∷ ys) = subst Honest split h in
          by_place es1 same_es hy (q ∙ ap (λ ws. goes j ws t) split) (omega arith)
        where
          by_place : (es1 : List Note) → y ∷ trap_note used len y.store ∷ [] ≡ es1 ++ x ∷ es2 → Honest (y ∷ ys) → nb at ≡ goes j (y ∷ ys) t → cost + suc j ≤ n → Goal (es1 ++ x ∷ []) x.store
          by_place [] r hy q' le' =
              let same : y ≡ x = cc in
              let b = at_note e0 fs [] ys s at t n cost j y lb q' le' in
              subst (λ w. Goal (w ∷ []) w.store) same
              (subst (λ ws. Block_moment e0 s n (events_of e0 ++ ws) y.store) (events_append fs (y ∷ []) ∙ ap (λ ws. ws ++ y.event ∷ []) (sym ev)
              ∙ ap (λ ws. events_shown es ++ ws) (sym (one_honest y [] hy.0)) ∙ sym (shown_append es (y ∷ []))) b)
          by_place (a ∷ []) r hy q' le' =
              let first : y ≡ a = cc in
              let same : trap_note used len y.store ≡ x = cc in
              let b = at_note e0 fs [] ys s at t n cost j y lb q' le' in
              subst (λ w. Goal (w ∷ x ∷ []) x.store) first
              (subst (λ w. Goal (y ∷ w ∷ []) w.store) same
              (subst (λ ws. Block_moment e0 s n (events_of e0 ++ ws) y.store)
              (events_append fs (y ∷ []) ∙ ap (λ ws. ws ++ y.event ∷ []) (sym ev) ∙ ap (λ ws. events_shown es ++ ws) (sym (one_honest y (trap_note used len y.store ∷ []) hy.0))
              ∙ sym (shown_append es (y ∷ trap_note used len y.store ∷ []))) b))
          by_place (a ∷ c ∷ []) r hy q' le' = cc
          by_place (a ∷ c ∷ d ∷ es3) r hy q' le' = cc

      by_turn : (fs : List Note) → Leads nb s cost fs at → events_shown es ≡ events_of fs → (o : Turn State Note) → nb at ≡ o → Honest_turn o → Goal (es1 ++ x ∷ []) x.store
      by_turn fs lb ev stops q h = let z : stops ≡ goes k (es1 ++ x ∷ es2) a' = sym (ap (shown_move room fit len) q) ∙ e in cc
      by_turn fs lb ev (goes j xs t) q h = by_shows fs lb ev j xs t (shown_move room fit len (goes j xs t)) q h.0 (shows j xs t) (sym (ap (shown_move room fit len) q) ∙ e)

      by_trace : Trace s cost es at → Goal (es1 ++ x ∷ []) x.store
      by_trace (kept fs lb ev law') = by_turn fs lb ev (nb at) refl (honest_blocking m plan at law')
      by_trace (cut c j y fs ys s1 t lb eb sum ev halt) = let z : stops ≡ goes k (es1 ++ x ∷ es2) a' = sym (ap ne halt) ∙ e in cc
