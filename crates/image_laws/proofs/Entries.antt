-- Along a run with blocking imports the entry that runs is the one of its number, and those behind it are left.
use Rattle.std.proofs.Common.{List, [], ap, drop, length, refl, subst, suc, zero, ℕ, ◌∷◌, ◌≡◌, Option, Some, None, Bool, true, false}
use Rattle.std.specs.Prelude.{if◌then◌else◌, nat_lt, slice_get}
use Rattle.wa_types.specs.Base.{Base}
use Rattle.wa_types.specs.Modules.{defined_at, func_imports, func_type_at}
use Rattle.wa_types.specs.Syntax.{Func, Module}
use Rattle.wa_types.specs.declared.values.Value.{Value}
use Rattle.wa_model.specs.Blocking.{Asker, Left, Note, State, Task, all_left, an_entry, asked, begins, begun, between, blocking, by_step, enter_next, enters, fault_of, go_on, halts, in_start, inside, next_entry, call_note, on_to, outermost, pause_of, poked, runs, stack_at, start_called, store_at, task_back, tested, the_start, with_outcomes}
use Rattle.wa_model.specs.Instantiation.{Opening, fails_as, opening, opens}
use Rattle.run_theory.specs.DeterminedRuns.{start_of}
use Rattle.wa_model.specs.Machine.{Leads, Turn, goes, moves, stays, stops}
use Rattle.wa_model.specs.Outside.{Answer}
use Rattle.wa_model.specs.Plan.{Entry, Outcome, Plan, given, refused}
use Rattle.wa_model.specs.Step.{Next, asks, returns, step, steps, stuck, traps}
use Rattle.wa_model.specs.Store.{Store}
use Rattle.wa_model.specs.declared.answers.Said.{Said}
use Rattle.wa_model.specs.declared.answers.Said.TheVariants as S
use Rattle.wa_model.specs.declared.events.End.{End}
use Rattle.image_laws.specs.HeldPauses.{EntryIsNumbered}

module _ (m : Module) (plan : Plan) where
  abbrev Behind : Left → Type 0
  Behind l = l.entries ≡ drop l.number plan.entries

  abbrev At : Task → Left → Type 0
  At the_start l = Behind l
  At (an_entry e) l = (slice_get plan.entries l.number ≡ Some e) × (l.entries ≡ drop (suc l.number) plan.entries)

  abbrev StandsAt : State → Type 0
  StandsAt (between s l) = Behind l
  StandsAt (begins x s l) = Behind l
  StandsAt (runs task c l) = At task l
  StandsAt (halts s) = Unit {0}

  abbrev GoesAt : Turn State Note → Type 0
  GoesAt stops = Unit {0}
  GoesAt (goes k es t) = StandsAt t

  same_outcomes : (task : Task) (l : Left) (os : List Outcome) → At task l → At task (with_outcomes l os)
  same_outcomes the_start l os h = h
  same_outcomes (an_entry e) l os h = h

  on_at : (s : Store) (l : Left) (es : List Entry) → Behind l → StandsAt (on_to s l es)
  on_at s l [] h = tt
  on_at s l (e ∷ es) h = h

  abbrev AskedAt : Asker → Left → Type 0
  AskedAt (inside task c) l = At task l
  AskedAt (outermost s) l = Behind l

  go_on_at : (k : ℕ) (x : Note) (said : Said) (s : Store) (l : Left) (w : Asker) → AskedAt w l → GoesAt (go_on k x said s l w)
  go_on_at k x (S.Value v) s l (inside task c) h = h
  go_on_at k x (S.Value v) s l (outermost old) h = on_at s l l.entries h
  go_on_at k x S.Trap s l w h = tt

  outcomes_at : (w : Asker) (l : Left) (os : List Outcome) → AskedAt w l → AskedAt w (with_outcomes l os)
  outcomes_at (inside task c) l os h = same_outcomes task l os h
  outcomes_at (outermost s) l os h = h

  tested_at : (k i : ℕ) (args : List Value) (w : Asker) (l : Left) (a : Answer) (o : Option End) → AskedAt w l → GoesAt (tested m k i args w l a o)
  tested_at k i args w l a (Some e) h = tt
  tested_at k i args w l a None h = go_on_at k (call_note i args (store_at w) (stack_at m w) (pause_of a.ticks)) a.said (poked (store_at w) a.pokes) l w h

  asked_at : (k i : ℕ) (args : List Value) (w : Asker) (l : Left) (os : List Outcome) → AskedAt w l → GoesAt (asked m plan k i args w l os)
  asked_at k i args w l [] h = tt
  asked_at k i args w l (refused e ∷ os) h = tt
  asked_at k i args w l (given a ∷ os) h =
      tested_at k i args w (with_outcomes l os) a (fault_of (func_type_at m i).results (length (store_at w).memory) plan (in_start w) i a) (outcomes_at w l os h)

  back_at : (k : ℕ) (task : Task) (vs : List Value) (s : Store) (l : Left) → At task l → GoesAt (task_back k task vs s l)
  back_at k the_start vs s l h = on_at s l l.entries h
  back_at k (an_entry e) vs s l h = on_at s (next_entry l) l.entries h.1

  step_at : (task : Task) (l : Left) (o : Next) → At task l → GoesAt (by_step m plan task l o)
  step_at task l (steps k d) h = h
  step_at task l (asks k i args d) h = asked_at k i args (inside task d) l l.outcomes h
  step_at task l (returns k vs s) h = back_at k task vs s l h
  step_at task l (traps k t s) h = tt
  step_at task l stuck h = tt

  first_left : (xs : List Entry) (k : ℕ) (e : Entry) (es : List Entry) → e ∷ es ≡ drop k xs → (slice_get xs k ≡ Some e) × (es ≡ drop (suc k) xs)
  first_left [] zero e es q = cc
  first_left [] (suc k) e es q = cc
  first_left (x ∷ xs) zero e es q = let a : x ≡ e = cc in let b : es ≡ xs = cc in (ap (λ z. Some z) a, b)
  first_left (x ∷ xs) (suc k) e es q = first_left xs k e es q

  next_at : (s : Store) (l : Left) (es : List Entry) → es ≡ drop l.number plan.entries → GoesAt (enter_next m s l es)
  next_at s l [] h = tt
  next_at s l (e ∷ es) h = by (defined_at m e.func)
    where
      by : (o : Option Func) → GoesAt (enters e s (record { number = l.number; entries = es; outcomes = l.outcomes }) o)
      by None = tt
      by (Some f) = first_left plan.entries l.number e es h

  start_at : (x : ℕ) (s : Store) (l : Left) (o : Option Func) → Behind l → GoesAt (start_called m plan x s l o)
  start_at x s l (Some f) h = h
  start_at x s l None h = by (nat_lt x (func_imports m))
    where
      by : (b : Bool) → GoesAt (if b then asked m plan 0 x [] (outermost s) l l.outcomes else stops)
      by true = asked_at 0 x [] (outermost s) l l.outcomes h
      by false = tt

  move_at : (a : State) → StandsAt a → GoesAt (blocking m plan a)
  move_at (between s l) h = next_at s l l.entries h
  move_at (begins x s l) h = start_at x s l (defined_at m x) h
  move_at (runs task c l) h = step_at task l (step m c) h
  move_at (halts s) h = tt

  pub leads_at : (a t : State) (n : ℕ) (es : List Note) → StandsAt a → Leads (blocking m plan) a n es t → StandsAt t
  leads_at a t _ _ h stays = h
  leads_at a t n es h (moves {t = u} {k = k} {n = n1} {es = es1} {fs = fs} e rest em eg) = leads_at u t n1 fs (subst GoesAt e (move_at a h)) rest

  pub begun_at : (start : Option ℕ) (os : List Outcome) (o : Opening) → StandsAt (begun start (all_left plan os) o).last
  begun_at start os (fails_as e) = tt
  begun_at None os (opens s) = on_at s (all_left plan os) plan.entries refl
  begun_at (Some x) os (opens s) = refl

pub entry_is_numbered : EntryIsNumbered
entry_is_numbered m s plan os x at =
    leads_at (Base m) plan (start_of m plan os).last (runs (an_entry x.entry) x.calls x.left) x.cost x.notes
    (begun_at (Base m) plan (Base m).start os (opening (Base m) plan.globals)) at.leads
