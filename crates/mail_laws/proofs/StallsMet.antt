-- In a run with blocking imports an end `Stalled` is the outcome of a call, which no call of a world meets.
use Rattle.std.proofs.Common.{◌≡◌, ℕ, zero, suc, ◌-◌, List, [], ◌∷◌, ◌++◌, length, take, map, Option, Some, None, Bool, true, false, All, slice_get, slice_set, refl, sym, subst}
use Rattle.std.specs.Prelude.{nat_lt, MatchBool, if◌then◌else◌}
use Rattle.std.specs.List.{AllZip, find, list_any}
use Rattle.std.specs.Option.{unwrap_or}
use Rattle.std.proofs.lemmas.List.Elements.{All-nil, All-cons, All-head, All-tail}
use Rattle.wa_types.specs.declared.values.Value.{Value}
use Rattle.wa_types.specs.Base.{Base}
use Rattle.wa_types.specs.Frames.{Suspended, Fit, Room}
use Rattle.wa_types.specs.Modules.{defined_at, func_imports, func_type_at}
use Rattle.wa_types.specs.Pausing.{Settings}
use Rattle.wa_types.specs.Syntax.{Func, Module}
use Rattle.wa_types.specs.Validity.{same_name}
use Rattle.wa_model.specs.declared.answers.Detach.{Detach}
use Rattle.wa_model.specs.declared.answers.Said.{Said}
use Rattle.wa_model.specs.declared.answers.Said.TheVariants as SV
use Rattle.wa_model.specs.declared.events.End.{End}
use Rattle.wa_model.specs.declared.events.End.TheVariants.{OtherImport, Stalled}
use Rattle.wa_model.specs.Outside.{Answer, AnswerLine, Call, Event, Line, answered, called, ended, parked, paused, returned, shown as was_shown}
use Rattle.wa_model.specs.Machine.{Ran, Turn, after, goes, pay, run, run_with, still, stops}
use Rattle.wa_model.specs.Store.{Store}
use Rattle.wa_model.specs.Step.{Next, asks, returns, step, steps, stuck, traps}
use Rattle.wa_model.specs.Plan.{Entry, IsRefusal, Outcome, OutcomeFits, Plan, given, refused}
use Rattle.wa_model.specs.Instantiation.{Opening, fails_as, opening, opens}
use Rattle.wa_model.specs.Blocking.{Asker, Blocking, Left, Note, State, Task, all_left, an_entry, asked, begins, begun, between, blocking, by_step, call_note, done_notes, enter_next, enters, fault_of}
use Rattle.wa_model.specs.Blocking.{go_on, halts, in_start, inside, next_entry, on_to, outermost, pause_of, poked, runs, stack_at, start_called, store_at, task_back, tested, the_start, with_outcomes}
use Rattle.wa_model.specs.Behaves.{expected_notes}
use Rattle.wa_model.specs.Expected.{pause_note, shown, shown_at, trap_note}
use Rattle.world_model.specs.World.{MeetsBound as UnboxedBound}
use Rattle.world_model.specs.World.{BlockingStory, MeetsLine, Original, Program, base_names, behind_turn, call_in, import_names, name_at, spent, turn_of, whole}
use Rattle.world_laws.proofs.Places.{all_at}
use Rattle.world_laws.proofs.Turns.{turn_parts}
use Rattle.mail_laws.specs.Mailboxes.{CallsMeet, Mailbox, Meets, MeetsBound, MeetsNamed, Midst, NoteMeets, Shared, is_box}
use Rattle.mail_laws.specs.MailWorld.{Actor, Plays, StartsOriginal, StoryOrCut, TakesTurn, a_stall, a_turn, begun_event, nobody, sharing, unblocked, waits, wake, woken}
use Rattle.mail_laws.specs.Played.{Played}
use Rattle.mail_laws.specs.Stalling.{BlockingWorldsStallLast, is_stalled, note_stalls, stalls}
use Rattle.mail_laws.proofs.Beginnings.{fails_calm}
use Rattle.mail_laws.proofs.CallsInRange.{box_fits, unboxed_fits}
use Rattle.mail_laws.proofs.OpenMoves.{Tame, TameEnd, fault_tame}
use Rattle.mail_laws.proofs.Stalling.{both_false, stalls_last}

-- ---- notes whose ends come of these outcomes

-- A note that is no call tells no such end; a call takes an outcome, and where that is none, the rest is so.
abbrev Takes : Option Call → Bool → List Outcome → (List Outcome → Type 0) → Type 0
Takes None stalled os rest = (stalled ≡ false) × rest os
Takes (Some c) stalled [] rest = Unit {0}
Takes (Some c) stalled (o ∷ os) rest = Tame o → rest os

abbrev Refused : List Note → List Outcome → Type 0
Refused [] os = Unit {0}
Refused (x ∷ xs) os = Takes (call_in x.event) (stalls x.event) os (λ o. Refused xs o)

on_takes : (A B : List Outcome → Type 0) → ((os : List Outcome) → A os → B os) → (c : Option Call) (stalled : Bool) (os : List Outcome) → Takes c stalled os A → Takes c stalled os B
on_takes A B f None stalled os h = (h.0, f os h.1)
on_takes A B f (Some c) stalled [] h = tt
on_takes A B f (Some c) stalled (o ∷ os) h = λ t. f os (h t)

-- ---- a run with blocking imports

-- what this state makes of notes that follow
abbrev Follow : State → List Note → Type 0
Follow (between s l) fs = Refused fs l.outcomes
Follow (begins x s l) fs = Refused fs l.outcomes
Follow (runs task c l) fs = Refused fs l.outcomes
Follow (halts s) fs = fs ≡ []

none_follows : (s : State) → Follow s []
none_follows (between s l) = tt
none_follows (begins x s l) = tt
none_follows (runs task c l) = tt
none_follows (halts s) = refl

abbrev Turns : List Outcome → Turn State Note → Type 0
Turns os stops = Unit {0}
Turns os (goes k es t) = (fs : List Note) → Follow t fs → Refused (es ++ fs) os

-- notes behind which nothing comes
at_end : (es : List Note) (os : List Outcome) → Refused (es ++ []) os → (fs : List Note) → fs ≡ [] → Refused (es ++ fs) os
at_end es os h fs e = subst (λ (l : List Note). Refused (es ++ l) os) (sym e) h

module _ (m : Module) (plan : Plan) where
  done_so : (s : Store) (l : Left) (es : List Entry) (fs : List Note) → Follow (on_to s l es) fs → Refused (done_notes s es ++ fs) l.outcomes
  done_so s l [] fs e = (refl, subst (λ (g : List Note). Refused g l.outcomes) (sym e) tt)
  done_so s l (x ∷ es) fs h = h

  back_so : (k : ℕ) (task : Task) (results : List Value) (s : Store) (l : Left) → Turns l.outcomes (task_back k task results s l)
  back_so k the_start results s l = λ fs h. done_so s l l.entries fs h
  back_so k (an_entry e) results s l = λ fs h. (refl, done_so s (next_entry l) l.entries fs h)

  go_on_so : (k import : ℕ) (args : List Value) (at : Store) (stack : List Suspended) (pause : Option ℕ) (said : Said) (s : Store) (l : Left) (who : Asker) (o : Outcome)
      → Turns (o ∷ l.outcomes) (go_on k (call_note import args at stack pause) said s l who)
  go_on_so k import args at stack pause (SV.Value v) s l (inside task c) o = λ fs h t. (refl, h)
  go_on_so k import args at stack pause (SV.Value v) s l (outermost old) o = λ fs h t. (refl, done_so s l l.entries fs h)
  go_on_so k import args at stack pause SV.Trap s l who o = λ fs e t. (refl, (refl, subst (λ (g : List Note). Refused g l.outcomes) (sym e) tt))

  tested_so : (k import : ℕ) (args : List Value) (who : Asker) (l : Left) (a : Answer) (o : Outcome) (fault : Option End) → TameEnd fault
      → Turns (o ∷ l.outcomes) (tested m k import args who l a fault)
  tested_so k import args who l a o (Some e) tame = λ fs is t. (tame, subst (λ (g : List Note). Refused g l.outcomes) (sym is) tt)
  tested_so k import args who l a o None tame = go_on_so k import args (store_at who) (stack_at m who) (pause_of a.ticks) a.said (poked (store_at who) a.pokes) l who o

  asked_so : (k import : ℕ) (args : List Value) (who : Asker) (l : Left) (os : List Outcome) → Turns os (asked m plan k import args who l os)
  asked_so k import args who l [] = λ fs e. tt
  asked_so k import args who l (refused e ∷ os) = λ fs is t. (t, subst (λ (g : List Note). Refused g os) (sym is) tt)
  asked_so k import args who l (given a ∷ os) =
      tested_so k import args who (with_outcomes l os) a (given a) (fault_of (func_type_at m import).results (length (store_at who).memory) plan (in_start who) import a)
      (fault_tame (func_type_at m import).results (length (store_at who).memory) plan (in_start who) import a)

  step_so : (task : Task) (l : Left) (o : Next) → Turns l.outcomes (by_step m plan task l o)
  step_so task l (steps k d) = λ fs h. h
  step_so task l (asks k import args d) = asked_so k import args (inside task d) l l.outcomes
  step_so task l (returns k results s) = back_so k task results s l
  step_so task l (traps k trap s) = λ fs e. (refl, subst (λ (g : List Note). Refused g l.outcomes) (sym e) tt)
  step_so task l stuck = tt

  enters_so : (e : Entry) (s : Store) (l : Left) (o : Option Func) → Turns l.outcomes (enters e s l o)
  enters_so e s l None = tt
  enters_so e s l (Some f) = λ fs h. h

  next_so : (s : Store) (l : Left) (es : List Entry) → Turns l.outcomes (enter_next m s l es)
  next_so s l [] = tt
  next_so s l (e ∷ es) = enters_so e s (record { number = l.number; entries = es; outcomes = l.outcomes }) (defined_at m e.func)

  start_so : (x : ℕ) (s : Store) (l : Left) (o : Option Func) → Turns l.outcomes (start_called m plan x s l o)
  start_so x s l (Some f) = λ fs h. h
  start_so x s l None = by_import (nat_lt x (func_imports m))
    where
      by_import : (b : Bool) → Turns l.outcomes (if b then asked m plan 0 x [] (outermost s) l l.outcomes else stops)
      by_import true = asked_so 0 x [] (outermost s) l l.outcomes
      by_import false = tt

  -- a turn that can be paid, and what follows it
  paid : (count n : ℕ) (s : State) (os : List Outcome) (o : Turn State Note) → Turns os o → ((k : ℕ) (t : State) → Follow t (run_with (blocking m plan) count k t).events)
      → Refused (pay (run_with (blocking m plan) count) n s o).events os
  paid count n s os stops h on = tt
  paid count n s os (goes k es t) h on = by_cost (nat_lt k n)
    where
      by_cost : (b : Bool) → Refused (if b then after es (run_with (blocking m plan) count (n - suc k) t) else still s).events os
      by_cost true = h (run_with (blocking m plan) count (n - suc k) t).events (on (n - suc k) t)
      by_cost false = tt

  -- a run from a state may follow it
  run_so : (count n : ℕ) (s : State) → Follow s (run_with (blocking m plan) count n s).events
  run_so zero n s = none_follows s
  run_so (suc count) n (halts s) = refl
  run_so (suc count) n (between s l) = paid count n (between s l) l.outcomes (enter_next m s l l.entries) (next_so s l l.entries) (λ k t. run_so count k t)
  run_so (suc count) n (begins x s l) =
      paid count n (begins x s l) l.outcomes (start_called m plan x s l (defined_at m x)) (start_so x s l (defined_at m x)) (λ k t. run_so count k t)
  run_so (suc count) n (runs task c l) = paid count n (runs task c l) l.outcomes (by_step m plan task l (step m c)) (step_so task l (step m c)) (λ k t. run_so count k t)

  begun_so : (start : Option ℕ) (l : Left) (o : Opening) → ((e : End) → o ≡ fails_as e → is_stalled e ≡ false) → (fs : List Note) → Follow (begun start l o).last fs
      → Refused ((begun start l o).events ++ fs) l.outcomes
  begun_so start l (fails_as e) calm fs is = (calm e refl, subst (λ (g : List Note). Refused g l.outcomes) (sym is) tt)
  begun_so None l (opens s) calm fs h = done_so s l l.entries fs h
  begun_so (Some x) l (opens s) calm fs h = h

blocking_so : (m : Module) (plan : Plan) (os : List Outcome) (n : ℕ) → Refused (Blocking m plan os n).events os
blocking_so m plan os n =
    let b : Module = Base m in
    let first : Ran State Note = begun b.start (all_left plan os) (opening b plan.globals) in
    begun_so b plan b.start (all_left plan os) (opening b plan.globals) (λ e eo. fails_calm b plan.globals e eo) (run (blocking b plan) n first.last).events (run_so b plan n n first.last)

-- ---- what is made of such notes

module _ (traps_there : List Suspended → Bool) (room used : List Suspended → ℕ) (len : ℕ) where
  shown_so : (xs : List Note) (os : List Outcome) → Refused xs os → Refused (shown traps_there room used len xs) os
  shown_so [] os h = tt
  shown_so (x ∷ xs) os h = by_pause x.pause (λ o g. shown_so xs o g)
    where
      front : (zs : List Note) → ((o : List Outcome) → Refused xs o → Refused zs o) → Refused (x ∷ zs) os
      front zs f = on_takes (λ o. Refused xs o) (λ o. Refused zs o) f (call_in x.event) (stalls x.event) os h

      by_pause : (p : Option ℕ) → ((o : List Outcome) → Refused xs o → Refused (shown traps_there room used len xs) o)
          → Refused (shown_at traps_there room used len x p (shown traps_there room used len xs)) os
      by_pause None on = front (shown traps_there room used len xs) on
      by_pause (Some ticks) on = by_room (traps_there x.stack)
        where
          by_room : (b : Bool)
              → Refused (x ∷ (if b then trap_note (used x.stack) len x.store ∷ [] else pause_note ticks (room x.stack) x.store x.stack ∷ shown traps_there room used len xs)) os
          by_room true = front (trap_note (used x.stack) len x.store ∷ []) (λ o g. (refl, tt))
          by_room false = front (pause_note ticks (room x.stack) x.store x.stack ∷ shown traps_there room used len xs) (λ o g. (refl, on o g))

expected_so : (s : Settings) (w : Program) (os : List Outcome) (n : ℕ) → Refused (expected_notes w.source s w.plan os n) os
expected_so s w os n =
    shown_so (λ stack. nat_lt w.plan.area.len (Room w.source s.policy stack)) (Room w.source s.policy) (λ stack. Fit w.source s.policy stack w.plan.area.len) w.plan.area.len
    (Blocking w.source w.plan os n).events os (blocking_so w.source w.plan os n)

taken_so : (j : ℕ) (xs : List Note) (os : List Outcome) → Refused xs os → Refused (take j xs) os
taken_so zero xs os h = tt
taken_so (suc j) [] os h = tt
taken_so (suc j) (x ∷ xs) os h = on_takes (λ o. Refused xs o) (λ o. Refused (take j xs) o) (λ o g. taken_so j xs o g) (call_in x.event) (stalls x.event) os h

front_so : (xs ys : List Note) (os : List Outcome) → Refused (xs ++ ys) os → Refused xs os
front_so [] ys os h = tt
front_so (x ∷ xs) ys os h = on_takes (λ o. Refused (xs ++ ys) o) (λ o. Refused xs o) (λ o g. front_so xs ys o g) (call_in x.event) (stalls x.event) os h

one_more_so : (xs : List Note) (y : Note) (os : List Outcome) → call_in y.event ≡ None → stalls y.event ≡ false → Refused xs os → Refused (xs ++ y ∷ []) os
one_more_so [] y os none calm h = subst (λ (c : Option Call). Takes c (stalls y.event) os (λ o. Unit {0})) (sym none) (calm, tt)
one_more_so (x ∷ xs) y os none calm h =
    on_takes (λ o. Refused xs o) (λ o. Refused (xs ++ y ∷ []) o) (λ o g. one_more_so xs y o none calm g) (call_in x.event) (stalls x.event) os h

story_so : (s : Settings) (w : Program) (os : List Outcome) (notes : List Note) → BlockingStory s w os notes → Refused notes os
story_so s w os notes (whole x before _ e split end) = subst (λ (l : List Note). Refused l os) (sym e) (expected_so s w os w.steps)
story_so s w os notes (spent j before _ at is le live never moment e) =
    subst (λ (l : List Note). Refused l os) (sym e)
    (one_more_so before _ os refl refl (subst (λ (l : List Note). Refused l os) (sym is) (taken_so j (expected_notes w.source s w.plan os w.steps) os (expected_so s w os w.steps))))

cut_so : (s : Settings) (w : Program) (os : List Outcome) (notes : List Note) → StoryOrCut s w os notes → Refused notes os
cut_so s w os notes (unblocked story) = story_so s w os notes story
cut_so s w os notes (waits cost rest le is p) = front_so notes rest os (subst (λ (l : List Note). Refused l os) is (expected_so s w os cost))

-- ---- no call meets such an outcome

refusal_calm : (e : End) → IsRefusal e → is_stalled e ≡ false
refusal_calm (Stalled i) h = absurd h
refusal_calm _ h = refl

fits_tame : (o : Outcome) → OutcomeFits o → Tame o
fits_tame (given a) h = tt
fits_tame (refused e) h = refusal_calm e h

meets_tame : (w : Program) (import : ℕ) (args : List Value) (lines : List AnswerLine) (z : Midst) (o : Outcome) (lines' : List AnswerLine) (z' : Midst)
    → Meets w import args lines z o lines' z' → Tame o
meets_tame w import args lines z o lines' z' h = by_bound (unwrap_or (slice_get w.binds import) None) refl h
  where
    line : (ls : List AnswerLine) → MeetsLine import (name_at (import_names w.source) import) ls o lines' → Tame o
    line [] g = subst Tame (sym g.0) refl
    line (l ∷ ls) g = by (same_name l.import (name_at (import_names w.source) import)) g
      where
        by : (b : Bool) → MatchBool b ((o ≡ given l.answer) × (lines' ≡ ls)) ((o ≡ refused (OtherImport import l.import)) × (lines' ≡ l ∷ ls)) → Tame o
        by true g = subst Tame (sym g.0) tt
        by false g = subst Tame (sym g.0) refl

    by_found : (name : List ℕ) → unwrap_or (slice_get w.binds import) None ≡ Some name → (found : Option Mailbox)
        → MeetsNamed import (name_at (base_names w.source) import) name args found z o z' → Tame o
    by_found name e None g =
        fits_tame o (unboxed_fits w import args [] z.devices o [] g.0
        (subst (λ (b : Option (List ℕ)). UnboxedBound w.source import args b [] z.devices o [] g.0) (sym e) (g.1, refl)) (All-nil _)).0
    by_found name e (Some b) g = fits_tame o (box_fits import name args b z o z' g)

    by_bound : (b : Option (List ℕ)) → unwrap_or (slice_get w.binds import) None ≡ b → MeetsBound w.source import args b lines z o lines' z' → Tame o
    by_bound None e g = line lines g.0
    by_bound (Some name) e g = by_found name e (find (is_box name) z.boxes) g.0

call_calm : (e : Event) (c : Call) → call_in e ≡ Some c → stalls e ≡ false
call_calm (called d) c h = refl
call_calm (ended how) c h = absurd cc
call_calm (paused t u) c h = refl
call_calm (answered s) c h = refl
call_calm (parked u) c h = refl
call_calm (returned i v) c h = refl
call_calm (was_shown i v) c h = refl

-- a turn whose calls meet outcomes of a world tells no such end, and what is left is so too
calls_so : (w : Program) (xs ys : List Note) (os : List Outcome) (lines : List AnswerLine) (z : Midst) (os' : List Outcome) (lines' : List AnswerLine) (z' : Midst)
    → Refused (xs ++ ys) os → CallsMeet w xs os lines z os' lines' z' → (list_any note_stalls xs ≡ false) × Refused ys os'
calls_so w [] ys os lines z os' lines' z' r h = (refl, subst (Refused ys) (sym h.0) r)
calls_so w (x ∷ xs) ys os lines z os' lines' z' r h = by (call_in x.event) refl (λ o l y g k. calls_so w xs ys o l y os' lines' z' g k) r h
  where
    by : (c : Option Call) → call_in x.event ≡ c
        → ((o : List Outcome) (l : List AnswerLine) (y : Midst) → Refused (xs ++ ys) o → CallsMeet w xs o l y os' lines' z' → (list_any note_stalls xs ≡ false) × Refused ys os')
        → Takes c (stalls x.event) os (λ o. Refused (xs ++ ys) o) → NoteMeets w c os lines z (λ o l y. CallsMeet w xs o l y os' lines' z')
        → (list_any note_stalls (x ∷ xs) ≡ false) × Refused ys os'
    by None e on r h = let behind = on os lines z r.1 h in (both_false (stalls x.event) (list_any note_stalls xs) r.0 behind.0, behind.1)
    by (Some c) e on r h =
        let taken : Takes (Some c) (stalls x.event) (h.0 ∷ h.1) (λ o. Refused (xs ++ ys) o) =
        subst (λ (l : List Outcome). Takes (Some c) (stalls x.event) l (λ o. Refused (xs ++ ys) o)) h.4 r in
        let behind = on h.1 h.2 h.3 (taken (meets_tame w c.import c.args lines z h.0 h.2 h.3 h.5)) h.6 in
        (both_false (stalls x.event) (list_any note_stalls xs) (call_calm x.event c e) behind.0, behind.1)

-- ---- worlds

abbrev Pending : Actor → Type 0
Pending a = Refused a.notes a.outcomes

set_so : (acts : List Actor) (i : ℕ) (b : Actor) → All Pending acts → Pending b → All Pending (slice_set acts i b)
set_so [] i b h g = All-nil Pending
set_so (a ∷ acts) zero b h g = All-cons Pending b acts g (All-tail Pending a acts h)
set_so (a ∷ acts) (suc i) b h g = All-cons Pending a (slice_set acts i b) (All-head Pending a acts h) (set_so acts i b (All-tail Pending a acts h) g)

woken_so : (due : ℕ) (is : List ℕ) (acts : List Actor) → All Pending acts → All Pending (wake due is acts)
woken_so due [] acts h = h
woken_so due (i ∷ is) acts h =
    woken_so due is (slice_set acts i (woken due (unwrap_or (slice_get acts i) nobody))) (set_so acts i (woken due (unwrap_or (slice_get acts i) nobody)) h (by (slice_get acts i) refl))
  where
    by : (o : Option Actor) → slice_get acts i ≡ o → Pending (woken due (unwrap_or o nobody))
    by None e = tt
    by (Some a) e = all_at Pending acts i a h e

module _ (ws : List Program) (detaches : List Detach) (number : ℕ) (actors actors' : List Actor) (sh sh' : Shared) (lines : List Line) (pending : All Pending actors) where
  turn_so : (t : TakesTurn ws detaches number actors sh lines actors' sh') → (list_any note_stalls (turn_of t.a.notes) ≡ false) × Refused (behind_turn t.a.notes) t.outcomes
  turn_so t =
      calls_so t.w (turn_of t.a.notes) (behind_turn t.a.notes) t.a.outcomes t.a.answers (begun_event number detaches sh) t.outcomes t.answers t.behind
      (subst (λ (l : List Note). Refused l t.a.outcomes) (sym (turn_parts t.a.notes)) (all_at Pending actors t.i t.a pending t.next.there)) t.calls

  play_so : Plays ws detaches number actors sh lines actors' sh' → All Pending actors'
  play_so (a_turn t) =
      subst (All Pending) (sym t.after) (woken_so (suc t.a.due) t.behind.settled (slice_set actors t.i _) (set_so actors t.i _ pending (turn_so t).1))
  play_so (a_stall s) = subst (All Pending) (sym s.after) (set_so actors s.i (record s.a { parked = None }) pending (all_at Pending actors s.i s.a pending s.there))

played_so : (ws : List Program) (detaches : List Detach) (number count : ℕ) (actors last : List Actor) (sh sh' : Shared) (lines : List Line) → All Pending actors
    → Played ws detaches number count actors sh lines last sh' → All Pending last
played_so ws detaches number zero actors last sh sh' lines h p = subst (All Pending) (sym p.1) h
played_so ws detaches number (suc count) actors last sh sh' lines h p =
    played_so ws detaches (suc number) count p.2 last p.3 sh' p.1 (play_so ws detaches number actors p.2 sh p.3 p.0 h p.4) p.5

starts_so : (os : List Original) (acts : List Actor) → AllZip StartsOriginal os acts → All Pending acts
starts_so [] [] z = All-nil Pending
starts_so [] (a ∷ acts) z = absurd z
starts_so (o ∷ os) [] z = absurd z
starts_so (o ∷ os) (a ∷ acts) z = let st = z.0 in All-cons Pending a acts (cut_so o.settings o.program a.outcomes a.notes st.story) (starts_so os acts z.1)

pub blocking_worlds_stall_last : BlockingWorldsStallLast
blocking_worlds_stall_last os detaches boxes ds count lines more actors now actors' sh sh' starts played play =
    let ws : List Program = map (λ (o : Original). o.program) os in
    let pending = played_so ws detaches 1 count actors now (sharing boxes ds) sh lines (starts_so os actors starts) played in
    stalls_last ws detaches (suc count) now actors' sh sh' more play (λ t. (turn_so ws detaches (suc count) now actors' sh sh' more pending t).0)
