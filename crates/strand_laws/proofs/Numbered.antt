-- Where `call_indirect` isn't ignored, each pause of the original's strands finds its activations at numbered calls.
use Rattle.std.proofs.Common.{All, Bool, Contains, List, None, Option, Some, [], ap, arith, cond, drop, false, length, ltb, map, not, refl, subst, suc, sym, true, zero, inl, inr, ℕ, ◌||◌, ◌+◌, ◌≤◌, ◌∙◌, ◌∷◌, ◌≡◌, ◌⊎◌}
use Rattle.std.proofs.lemmas.List.Elements.{All-append, All-cons, All-head, All-nil, All-tail}
use Rattle.std.specs.Option.{option_to_list}
use Rattle.std.specs.Prelude.{if◌then◌else◌, nat_lt, slice_get}
use Rattle.wa_types.specs.Base.{Base}
use Rattle.wa_types.specs.Frames.{Suspended}
use Rattle.wa_types.specs.Modules.{defined_at, func_imports, func_type_at}
use Rattle.wa_types.specs.Pausing.{Callee, Listed, MayPause, Numbered, Settings, TellsMayPause, calls_in, calls_indirectly, calls_listed, calls_pausing, direct, has_number, indirect, is_told, places_from}
use Rattle.wa_types.specs.Syntax.{Func, Module}
use Rattle.wa_types.specs.declared.values.ValType.{ValType}
use Rattle.wa_types.specs.declared.values.Value.{Value}
use Rattle.wa_model.specs.Behaves.{PauseNumbered, StandsNumbered}
use Rattle.wa_model.specs.Blocking.{Asker, Left, Note, State, Task, all_left, an_entry, asked, bad_pause, bad_poke, begins, begun, between, blocking, by_step, call_note, done_notes, enter_next, enters, fault_of, go_on, halts, import_traps, in_start, inside, is_start, is_unlisted, next_entry, no_store, note, on_to, or_else, outermost, pause_of, poked, resumed, runs, stack_at, start_called, started, store_at, task_back, tested, the_start, with_outcomes}
use Rattle.wa_model.specs.Configuration.{Configuration, stack_of, suspended}
use Rattle.wa_model.specs.Expected.{pause_note, trap_note}
use Rattle.wa_model.specs.Instantiation.{Opening, fails_as, opening, opens}
use Rattle.run_theory.specs.LawfulStacks.{Chained, LeadsTo}
use Rattle.wa_model.specs.Machine.{Ran, Turn, after, goes, still, stops}
use Rattle.wa_model.specs.Outside.{Answer, Event, answered, called, ended, parked, paused, returned, shown}
use Rattle.wa_model.specs.Plan.{Entry, Outcome, Plan, given, refused}
use Rattle.wa_model.specs.Step.{Next, asks, entered, returns, step, steps, stuck, traps}
use Rattle.wa_model.specs.Store.{Store}
use Rattle.wa_model.specs.declared.answers.Said.{Said}
use Rattle.wa_model.specs.declared.answers.Said.TheVariants as S
use Rattle.wa_model.specs.declared.events.End.{End}
use Rattle.wa_model.specs.declared.events.End.TheVariants.{Trapped}
use Rattle.wa_types.specs.declared.values.Trap.TheVariants.{Import}
use Rattle.headline.specs.Told.{answer_notes}
use Rattle.run_theory.proofs.Invariants.{TurnKeeps, after_keeps}
use Rattle.run_laws.proofs.StandingPauses.{stack_chained}
use Rattle.run_laws.proofs.StandingStates.{ConfigurationAt, NextAt, WaitingAt}
use Rattle.run_laws.proofs.StandingSteps.{body_stands, step_stands, waited_stands}
use Rattle.strand_laws.specs.Strands.{Space, Strand, StrandProgram, Strung, beginnings, first_outcomes, lifted, on, plan_of, space_of, strand_at, strung, strung_asked, strung_from, strung_loom, strung_next, strung_pauses, strung_starts, strung_store, strung_tested, strung_wakes, told_on, waits}
use Rattle.strand_laws.specs.Woven.{Loom, Ready, Thread, Told, Woven, woven_run, awake, ends_strand, finished, first_ready, last_event, move_of, moved, put, ready_if, sooner, standing, standing_now, told_by, weave, weave_on, woven, woven_by}
use Rattle.strand_laws.proofs.WovenRuns.{stands_none}
use Rattle.strand_laws.specs.EmittedStrands.{StrandPausesAtNumbers}

-- ---- a chained stack stands at numbered calls

stands_later : (n k : ℕ) (xs : List ℕ) → Contains xs k → Contains (n ∷ xs) k
stands_later n k xs h = let lt = h.1 in (suc h.0, omega arith, h.2)

place_listed : {X : Type 0} (test : X → Bool) (n : ℕ) (xs : List X) (i : ℕ) (x : X) → slice_get xs i ≡ Some x → test x ≡ true → Contains (places_from test n xs) (n + i)
place_listed test n [] i x e h = cc
place_listed {X} test n (y ∷ xs) zero x e h =
    let z : y ≡ x = cc in
    let passes : test y ≡ true = ap test z ∙ h in
    let here : n + 0 ≡ n = omega arith in
    subst (λ (b : Bool). Contains (cond b (n ∷ places_from test (suc n) xs) (places_from test (suc n) xs)) (n + 0)) (sym passes)
    (subst (λ (k : ℕ). Contains (n ∷ places_from test (suc n) xs) k) (sym here) (0, omega arith, refl))
place_listed {X} test n (y ∷ xs) (suc i) x e h =
    let more : suc n + i ≡ n + suc i = omega arith in
    by_test (test y) (subst (λ (k : ℕ). Contains (places_from test (suc n) xs) k) more (place_listed test (suc n) xs i x e h))
  where
    by_test : (b : Bool) → Contains (places_from test (suc n) xs) (n + suc i) → Contains (cond b (n ∷ places_from test (suc n) xs) (places_from test (suc n) xs)) (n + suc i)
    by_test true k = stands_later n (n + suc i) (places_from test (suc n) xs) k
    by_test false k = k

base_chained : (m : Module) (table : List (Option ℕ)) (root x : ℕ) (stack : List Suspended) → Chained (Base m) table root x stack → Chained m table root x stack
unfolding Base
base_chained m table root x [] h = h
base_chained m table root x (a ∷ stack) h = (h.0, h.1, h.2, h.3, base_leads m table h.1 a.operands x h.4, base_chained m table root a.func stack h.5)
  where
    base_leads : (m : Module) (table : List (Option ℕ)) (c : Callee) (ops : List Value) (x : ℕ) → LeadsTo (Base m) table c ops x → LeadsTo m table c ops x
    base_leads m table (direct y) ops x h = h
    base_leads m table (indirect sort) ops x h = h

unlisted_no : (listed : List Bool) (import : ℕ) → is_unlisted (Some listed) import ≡ false → slice_get listed import ≡ Some true
unlisted_no listed import e = by_told (slice_get listed import) e
  where
    by_told : (o : Option Bool) → not (is_told o) ≡ false → o ≡ Some true
    by_told None e = cc
    by_told (Some true) e = refl
    by_told (Some false) e = cc

or_else_last : (a b : Option End) → or_else a b ≡ None → b ≡ None
or_else_last None b e = e
or_else_last (Some x) b e = cc

pause_listed : (in_start unlisted : Bool) (import ticks : ℕ) → bad_pause in_start unlisted import (suc ticks) ≡ None → unlisted ≡ false
pause_listed true unlisted import ticks e = cc
pause_listed false true import ticks e = cc
pause_listed false false import ticks e = refl

pause_some : (n t : ℕ) → pause_of n ≡ Some t → (k : ℕ) × (n ≡ suc k)
pause_some zero t e = cc
pause_some (suc k) t e = (k, refl)

fault_listed : (results : List ValType) (size : ℕ) (plan : Plan) (in_start : Bool) (import : ℕ) (a : Answer) (listed : List Bool) (ticks : ℕ)
    → plan.listed ≡ Some listed → a.ticks ≡ suc ticks → fault_of results size plan in_start import a ≡ None
    → slice_get listed import ≡ Some true
fault_listed results size plan in_start import a listed ticks l t e =
    let last = or_else_last (bad_poke size (plan.area ∷ plan.others) a.pokes) _ (or_else_last _ _ e) in
    let at = subst (λ (n : ℕ). bad_pause in_start (is_unlisted plan.listed import) import n ≡ None) t last in
    unlisted_no listed import (ap (λ (o : Option (List Bool)). is_unlisted o import) (sym l) ∙ pause_listed in_start (is_unlisted plan.listed import) import ticks at)

module _ (m : Module) (s : Settings) (which : List Bool) (tells : TellsMayPause m s which) (counted : s.ignore_indirect ≡ false) (table : List (Option ℕ)) where
  abbrev b : Module
  b = Base m

  -- a listed import, or a function that may pause
  abbrev Pauses : ℕ → Type 0
  Pauses x = (slice_get (Listed m s) x ≡ Some true) ⊎ (slice_get which x ≡ Some true)

  pauses_numbered : (x : ℕ) → Pauses x → has_number m s which (direct x) ≡ true
  pauses_numbered x (inl e) = ap (λ (o : Option Bool). is_told o || is_told (slice_get which x)) e
  pauses_numbered x (inr e) = by_first (is_told (slice_get (Listed m s) x)) e
    where
      by_first : (b : Bool) → slice_get which x ≡ Some true → (b || is_told (slice_get which x)) ≡ true
      by_first true e = refl
      by_first false e = ap is_told e

  goes_numbered : (c : Callee) (ops : List Value) (x : ℕ) → LeadsTo m table c ops x → Pauses x → has_number m s which c ≡ true
  goes_numbered (direct y) ops x g p = subst (λ (z : ℕ). has_number m s which (direct z) ≡ true) (sym g) (pauses_numbered x p)
  goes_numbered (indirect sort) ops x g p = ap not counted

  caller_pauses : (c : Callee) (ops : List Value) (x fn : ℕ) (f : Func) (place : ℕ) → LeadsTo m table c ops x → Pauses x
      → defined_at m fn ≡ Some f → slice_get (calls_in f) place ≡ Some c → MayPause m s fn
  caller_pauses (direct y) ops x fn f place g (inl e) is at = calls_listed fn f place y is at (ap (slice_get (Listed m s)) g ∙ e)
  caller_pauses (direct y) ops x fn f place g (inr e) is at = calls_pausing fn f place y is at ((tells.each y).0 (ap (slice_get which) g ∙ e))
  caller_pauses (indirect sort) ops x fn f place g p is at = calls_indirectly fn f place sort is at counted

  chain_numbered : (root x : ℕ) (stack : List Suspended) → Pauses x → Chained m table root x stack → All (StandsNumbered m s which) stack
  chain_numbered root x [] p h = All-nil (StandsNumbered m s which)
  chain_numbered root x (a ∷ stack) p h =
      let f = h.0 in
      let c = h.1 in
      let told : slice_get which a.func ≡ Some true = (tells.each a.func).1 (caller_pauses c a.operands x a.func f a.place h.4 p h.2 h.3) in
      let from_zero : 0 + a.place ≡ a.place = omega arith in
      let number : Contains (Numbered m s which f) a.place =
      subst (λ (k : ℕ). Contains (Numbered m s which f) k) from_zero (place_listed (has_number m s which) 0 (calls_in f) a.place c h.3 (goes_numbered c a.operands x h.4 p)) in
      All-cons (StandsNumbered m s which) a stack (record { instrumented = told; numbered = (f, h.2, number) }) (chain_numbered root a.func stack (inr told) h.5)

  waiting_numbered : (root import : ℕ) (d : Configuration) → WaitingAt b table root import d → slice_get (Listed m s) import ≡ Some true → All (StandsNumbered m s which) (stack_of b d)
  waiting_numbered root import d h e =
      chain_numbered root import (map (suspended b) (d.here ∷ d.under)) (inl e)
      (base_chained m table root import (map (suspended b) (d.here ∷ d.under)) (stack_chained b table root import (d.here ∷ d.under) h.stack))

  -- ---- notes and states

  abbrev Num : Note → Type 0
  Num x = PauseNumbered m s which x.stack x.pause

  abbrev Now : Strung → Type 0
  Now (on (between t l)) = t.table ≡ table
  Now (on (begins x t l)) = t.table ≡ table
  Now (on (runs task c l)) = (root : ℕ) × ConfigurationAt b table root c
  Now (on (halts t)) = t.table ≡ table
  Now (waits task c a l) = (root : ℕ) × (import : ℕ) × WaitingAt b table root import c

  -- a strand that waits may not have begun
  abbrev Rest : Strung → Type 0
  Rest (on (between t l)) = Unit {0}
  Rest (on (begins x t l)) = t.table ≡ table
  Rest (on (runs task c l)) = (root : ℕ) × ConfigurationAt b table root c
  Rest (on (halts t)) = t.table ≡ table
  Rest (waits task c a l) = (root : ℕ) × (import : ℕ) × WaitingAt b table root import c

  rests : (x : Strung) → Now x → Rest x
  rests (on (between t l)) h = tt
  rests (on (begins x t l)) h = h
  rests (on (runs task c l)) h = h
  rests (on (halts t)) h = h
  rests (waits task c a l) h = h

  store_now : (x : Strung) → Now x → (strung_store x).table ≡ table
  store_now (on (between t l)) h = h
  store_now (on (begins x t l)) h = h
  store_now (on (runs task c l)) h = h.1.same
  store_now (on (halts t)) h = h
  store_now (waits task c a l) h = h.2.same

  one : (x : Note) → Num x → All Num (x ∷ [])
  one x h = All-cons Num x [] h (All-nil Num)

  two : (x y : Note) → Num x → Num y → All Num (x ∷ y ∷ [])
  two x y h k = All-cons Num x (y ∷ []) h (one y k)

  traps_num : (t : Store) → All Num (import_traps t)
  traps_num t = two (note (answered S.Trap) t) (note (ended (Trapped Import)) t) tt tt

  done_num : (t : Store) (es : List Entry) → All Num (done_notes t es)
  done_num t [] = one (note (ended _) t) tt
  done_num t (e ∷ es) = All-nil Num

  on_now : (t : Store) (l : Left) (es : List Entry) → t.table ≡ table → Now (on (on_to t l es))
  on_now t l [] h = h
  on_now t l (e ∷ es) h = h

  -- ---- a move with blocking imports

  abbrev Moves : Turn State Note → Type 0
  Moves stops = Unit {0}
  Moves (goes k es t) = All Num es × Now (on t)

  back_num : (k : ℕ) (task : Task) (results : List Value) (t : Store) (l : Left) → t.table ≡ table → Moves (task_back k task results t l)
  back_num k the_start results t l h = (done_num t l.entries, on_now t l l.entries h)
  back_num k (an_entry e) results t l h = (All-cons Num (note (returned l.number _) t) (done_notes t l.entries) tt (done_num t l.entries), on_now t (next_entry l) l.entries h)

  resumes : (root import : ℕ) (c : Configuration) (t : Store) (vs : List Value) → WaitingAt b table root import c → t.table ≡ table → ConfigurationAt b table root (resumed c t vs)
  resumes root import c t vs w e =
      let cs = w.stack in
      let few : length (c.here ∷ c.under) ≤ 4096 = w.few in
      record { same = e; here = waited_stands b cs.0 c.here.func c.here.code c.here.labels cs.2; under = cs.3; few = few }

  abbrev AskerNow : ℕ → Asker → Type 0
  AskerNow import (inside task c) = (root : ℕ) × WaitingAt b table root import c
  AskerNow import (outermost t) = t.table ≡ table

  asker_table : (import : ℕ) (who : Asker) → AskerNow import who → (store_at who).table ≡ table
  asker_table import (inside task c) h = h.1.same
  asker_table import (outermost t) h = h

  asker_numbered : (import : ℕ) (who : Asker) → AskerNow import who → slice_get (Listed m s) import ≡ Some true → All (StandsNumbered m s which) (stack_at b who)
  asker_numbered import (inside task c) h e = waiting_numbered h.0 import c h.1 e
  asker_numbered import (outermost t) h e = All-nil (StandsNumbered m s which)

  pause_num : (import : ℕ) (who : Asker) → AskerNow import who → (p : Option ℕ) → ((t : ℕ) → p ≡ Some t → slice_get (Listed m s) import ≡ Some true) → PauseNumbered m s which (stack_at b who) p
  pause_num import who h None f = tt
  pause_num import who h (Some t) f = asker_numbered import who h (f t refl)

  go_on_num : (k import : ℕ) (x : Note) (said : Said) (t : Store) (l : Left) (who : Asker) → Num x → t.table ≡ table → AskerNow import who → Moves (go_on k x said t l who)
  go_on_num k import x (S.Value v) t l (inside task c) nx e h = (two x (note (answered (S.Value v)) t) nx tt, (h.0, resumes h.0 import c t (option_to_list v) h.1 e))
  go_on_num k import x (S.Value v) t l (outermost old) nx e h = (
    All-cons Num x (note (answered (S.Value v)) t ∷ done_notes t l.entries) nx (All-cons Num (note (answered (S.Value v)) t) (done_notes t l.entries) tt (done_num t l.entries)),
    on_now t l l.entries e,
  )
  go_on_num k import x S.Trap t l who nx e h = (All-cons Num x (import_traps t) nx (traps_num t), e)

  module _ (plan : Plan) (listed : plan.listed ≡ Some (Listed m s)) where
    told_so : (import : ℕ) (results : List ValType) (size : ℕ) (st : Bool) (a : Answer) (o : Option End) → fault_of results size plan st import a ≡ o → o ≡ None → (p : Option ℕ)
        → pause_of a.ticks ≡ p
        → (t : ℕ) → p ≡ Some t → slice_get (Listed m s) import ≡ Some true
    told_so import results size st a o eo none p ep t e =
        let q = pause_some a.ticks t (ep ∙ e) in
        fault_listed results size plan st import a (Listed m s) q.0 listed q.1 (eo ∙ none)

    tested_num : (k import : ℕ) (args : List Value) (who : Asker) (l : Left) (a : Answer) (o : Option End) → AskerNow import who
        → (o ≡ None → (t : ℕ) → pause_of a.ticks ≡ Some t → slice_get (Listed m s) import ≡ Some true) → Moves (tested b k import args who l a o)
    tested_num k import args who l a (Some e) h f =
        (two (call_note import args (store_at who) (stack_at b who) None) (note (ended e) (store_at who)) tt tt, asker_table import who h)
    tested_num k import args who l a None h f =
        go_on_num k import (call_note import args (store_at who) (stack_at b who) (pause_of a.ticks)) a.said (poked (store_at who) a.pokes) l who
        (pause_num import who h (pause_of a.ticks) (f refl)) (asker_table import who h) h

    asked_num : (k import : ℕ) (args : List Value) (who : Asker) (l : Left) (os : List Outcome) → AskerNow import who → Moves (asked b plan k import args who l os)
    asked_num k import args who l [] h = (one (call_note import args (store_at who) (stack_at b who) None) tt, asker_table import who h)
    asked_num k import args who l (refused e ∷ os) h =
        (two (call_note import args (store_at who) (stack_at b who) None) (note (ended e) (store_at who)) tt tt, asker_table import who h)
    asked_num k import args who l (given a ∷ os) h =
        tested_num k import args who (with_outcomes l os) a (fault_of (func_type_at b import).results (length (store_at who).memory) plan (in_start who) import a) h
        (λ none t e. told_so import (func_type_at b import).results (length (store_at who).memory) (in_start who) a _ refl none _ refl t e)

    step_num : (task : Task) (l : Left) (root : ℕ) (o : Next) → NextAt b table root o → Moves (by_step b plan task l o)
    step_num task l root (steps k d) n = (All-nil Num, (root, n))
    step_num task l root (asks k import args d) n = asked_num k import args (inside task d) l l.outcomes (root, n)
    step_num task l root (returns k results t) n = back_num k task results t l n
    step_num task l root (traps k trap t) n = (one (note (ended _) t) tt, n)
    step_num task l root stuck n = tt

    entered_now : (x : ℕ) (t : Store) (args : List Value) (f : Func) → t.table ≡ table → defined_at b x ≡ Some f → ConfigurationAt b table x (entered t [] args x f)
    entered_now x t args f e there = record { same = e; here = body_stands b x f there; under = refl; few = omega arith }

    enters_num : (e : Entry) (t : Store) (l : Left) (o : Option Func) → t.table ≡ table → defined_at b e.func ≡ o → Moves (enters e t l o)
    enters_num e t l None h there = tt
    enters_num e t l (Some f) h there = (All-nil Num, (e.func, entered_now e.func t e.args f h there))

    next_num : (t : Store) (l : Left) (es : List Entry) → t.table ≡ table → Moves (enter_next b t l es)
    next_num t l [] h = tt
    next_num t l (e ∷ es) h = enters_num e t (record { number = l.number; entries = es; outcomes = l.outcomes }) (defined_at b e.func) h refl

    start_num : (x : ℕ) (t : Store) (l : Left) (o : Option Func) → t.table ≡ table → defined_at b x ≡ o → Moves (start_called b plan x t l o)
    start_num x t l (Some f) h there = (All-nil Num, (x, entered_now x t [] f h there))
    start_num x t l None h there = by_import (ltb x (func_imports b))
      where
        by_import : (c : Bool) → Moves (cond c (asked b plan 0 x [] (outermost t) l l.outcomes) stops)
        by_import true = asked_num 0 x [] (outermost t) l l.outcomes h
        by_import false = tt

    turn_num : (t : State) → Now (on t) → Moves (blocking b plan t)
    turn_num (between t l) h = next_num t l l.entries h
    turn_num (begins x t l) h = start_num x t l (defined_at b x) h refl
    turn_num (runs task c l) h = step_num task l h.0 (step b c) (step_stands b table h.0 c h.1)
    turn_num (halts t) h = tt

    -- ---- a move of a strand

    abbrev Strides : Turn Strung Note → Type 0
    Strides stops = Unit {0}
    Strides (goes k es x) = All Num es × Now x

    lift_num : (o : Turn State Note) → Moves o → Strides (lifted o)
    lift_num stops h = tt
    lift_num (goes k es t) h = h

    module _ (sp : Space) where
      pauses_num : (k : ℕ) (x : Note) (ticks root import : ℕ) (task : Task) (d : Configuration) (a : Answer) (l : Left) → Num x → x.stack ≡ stack_of b d → x.store ≡ d.store
          → WaitingAt b table root import d
          → Strides (strung_pauses sp k x ticks task d a l)
      pauses_num k x ticks root import task d a l nx es et w = by_room (nat_lt sp.len (sp.room x.stack))
        where
          by_room : (c : Bool) → All Num (x ∷ (if c then trap_note (sp.fit x.stack) sp.len x.store ∷ [] else pause_note ticks (sp.room x.stack) x.store x.stack ∷ []))
              × Now (if c then on (halts d.store) else waits task d a l)
          by_room true = (two x (trap_note (sp.fit x.stack) sp.len x.store) nx tt, w.same)
          by_room false = (two x (pause_note ticks (sp.room x.stack) x.store x.stack) nx tt, (root, import, w))

      tests_num : (plain : Turn State Note) → Moves plain → (k root import : ℕ) (args : List Value) (task : Task) (d : Configuration) (l : Left) (a : Answer) (o : Option End) (p : Option ℕ)
          → WaitingAt b table root import d → (o ≡ None → (t : ℕ) → p ≡ Some t → slice_get (Listed m s) import ≡ Some true) → Strides (strung_tested b sp plain k import args task d l a o p)
      tests_num plain h k root import args task d l a None (Some ticks) w f =
          pauses_num k (call_note import args d.store (stack_at b (inside task d)) (Some ticks)) ticks root import task d a l (waiting_numbered root import d w (f refl ticks refl)) refl refl w
      tests_num plain h k root import args task d l a None None w f = lift_num plain h
      tests_num plain h k root import args task d l a (Some e) None w f = lift_num plain h
      tests_num plain h k root import args task d l a (Some e) (Some ticks) w f = lift_num plain h

      asks_num : (plain : Turn State Note) → Moves plain → (k root import : ℕ) (args : List Value) (task : Task) (d : Configuration) (l : Left) (os : List Outcome) → WaitingAt b table root import d
          → Strides (strung_asked b plan sp plain k import args task d l os)
      asks_num plain h k root import args task d l [] w = lift_num plain h
      asks_num plain h k root import args task d l (refused e ∷ os) w = lift_num plain h
      asks_num plain h k root import args task d l (given a ∷ os) w =
          tests_num plain h k root import args task d (with_outcomes l os) a _ _ w
          (λ none t e. told_so import (func_type_at b import).results (length d.store.memory) (is_start task) a _ refl none _ refl t e)

      nexts_num : (plain : Turn State Note) → Moves plain → (task : Task) (l : Left) (root : ℕ) (o : Next) → NextAt b table root o → Strides (strung_next b plan sp plain task l o)
      nexts_num plain h task l root (steps k d) n = lift_num plain h
      nexts_num plain h task l root (asks k import args d) n = asks_num plain h k root import args task d l l.outcomes n
      nexts_num plain h task l root (returns k results t) n = lift_num plain h
      nexts_num plain h task l root (traps k trap t) n = lift_num plain h
      nexts_num plain h task l root stuck n = lift_num plain h

      strung_num : (x : Strung) → Now x → Strides (strung b plan sp x)
      strung_num (on (between t l)) h = lift_num (blocking b plan (between t l)) (turn_num (between t l) h)
      strung_num (on (begins x t l)) h = lift_num (blocking b plan (begins x t l)) (turn_num (begins x t l) h)
      strung_num (on (runs task c l)) h =
          nexts_num (blocking b plan (runs task c l)) (turn_num (runs task c l) h) task l h.0 (step b c) (step_stands b table h.0 c h.1)
      strung_num (on (halts t)) h = tt
      strung_num (waits task c a l) h = tt

  -- a turn begins
  wakes_num : (t : Store) (x : Strung) → t.table ≡ table → Rest x → All Num (strung_wakes t x).events × Now (strung_wakes t x).last
  wakes_num t (waits task c a l) e h = said_num task c l (poked t a.pokes) h e a.said
    where
      said_num : (task : Task) (c : Configuration) (l : Left) (u : Store) → (root : ℕ) × (import : ℕ) × WaitingAt b table root import c → u.table ≡ table → (said : Said)
          → All Num (answer_notes said u) × Now (on (told_on said task c u l))
      said_num task c l u h e (S.Value v) = (one (note (answered (S.Value v)) u) tt, (h.0, resumes h.0 h.1 c u (option_to_list v) h.2 e))
      said_num task c l u h e S.Trap = (traps_num u, e)
  wakes_num t (on (between old l)) e h = (done_num t l.entries, on_now t l l.entries e)
  wakes_num t (on (begins x u l)) e h = (All-nil Num, h)
  wakes_num t (on (runs task c l)) e h = (All-nil Num, h)
  wakes_num t (on (halts u)) e h = (All-nil Num, h)

  -- ---- what is woven

  abbrev NumTold : Told → Type 0
  NumTold t = PauseNumbered m s which t.note.stack t.note.pause

  told_num : (i : ℕ) (es : List Note) → All Num es → All NumTold (told_by i es)
  told_num i [] h = All-nil NumTold
  told_num i (x ∷ es) h = All-cons NumTold (record { strand = i; note = x }) (told_by i es) (All-head Num x es h) (told_num i es (All-tail Num x es h))

  abbrev RestAt : Option Strung → Type 0
  RestAt None = Unit {0}
  RestAt (Some x) = Rest x

  abbrev AllRest : List (Thread Strung) → Type 0
  AllRest [] = Unit {0}
  AllRest (t ∷ ts) = RestAt t.at × AllRest ts

  abbrev NowAt : Option (Ready Strung) → Type 0
  NowAt None = Unit {0}
  NowAt (Some r) = Now r.at

  abbrev RestReady : Option (Ready Strung) → Type 0
  RestReady None = Unit {0}
  RestReady (Some r) = Rest r.at

  abbrev Inv : Woven Strung → Type 0
  Inv w = AllRest w.threads × NowAt (standing_now w)

  put_rest : (i due : ℕ) (x : Option Strung) (ts : List (Thread Strung)) → RestAt x → AllRest ts → AllRest (put i due x ts)
  put_rest i due x [] h g = tt
  put_rest zero due x (t ∷ ts) h g = (h, g.1)
  put_rest (suc i) due x (t ∷ ts) h g = (g.0, put_rest i due x ts h g.1)

  put_now : (k i due : ℕ) (x : Strung) (ts : List (Thread Strung)) → Now x → NowAt (standing k (slice_get (put i due (Some x) ts) i))
  put_now k i due x [] h = tt
  put_now k zero due x (t ∷ ts) h = h
  put_now k (suc i) due x (t ∷ ts) h = put_now k i due x ts h

  sooner_rest : (o p : Option (Ready Strung)) → RestReady o → RestReady p → RestReady (sooner o p)
  sooner_rest None p h g = g
  sooner_rest (Some a) None h g = h
  sooner_rest (Some a) (Some b) h g = by_due (nat_lt b.due a.due)
    where
      by_due : (c : Bool) → RestReady (if c then Some b else Some a)
      by_due true = g
      by_due false = h

  ready_rest : (i due : ℕ) (x : Option Strung) → RestAt x → RestReady (ready_if i due x)
  ready_rest i due None h = tt
  ready_rest i due (Some x) h = h

  first_rest : (i : ℕ) (ts : List (Thread Strung)) → AllRest ts → RestReady (first_ready i ts)
  first_rest i [] h = tt
  first_rest i (t ∷ ts) h = sooner_rest (ready_if i t.due t.at) (first_ready (suc i) ts) (ready_rest i t.due t.at h.0) (first_rest (suc i) ts h.1)

  module _ (g : StrandProgram) (source : g.source ≡ m) where
    abbrev loom : Loom Strung
    loom = record {
      next = λ i t. strung b (plan_of g (strand_at g i)) (space_of s m (strand_at g i)) t;
      wakes = strung_wakes;
      store = strung_store;
      starts = strung_starts;
    }

    abbrev RanNum : Ran (Woven Strung) Told → Type 0
    RanNum r = All NumTold r.events × Inv r.last

    finished_num : (ts : List (Thread Strung)) → AllRest ts → RanNum (still (finished ts))
    finished_num ts h = (All-nil NumTold, (h, subst NowAt (sym (stands_none loom ts)) tt))

    after_num : (es : List Told) (r : Ran (Woven Strung) Told) → All NumTold es → RanNum r → RanNum (after es r)
    after_num es r h k = (All-append NumTold es r.events h k.0, k.1)

    by_num : (again : Store → List (Thread Strung) → Ran (Woven Strung) Told) → ((t : Store) (ts : List (Thread Strung)) → t.table ≡ table → AllRest ts → RanNum (again t ts))
        → (st : Bool) (i due : ℕ) (es : List Note) (x : Strung) (ts : List (Thread Strung)) (e : Option Event) → All Num es → Now x → AllRest ts
        → RanNum (woven_by loom again st i due es x ts e)
    by_num again ok st i due es x ts (Some (paused ticks used)) h k rest =
        after_num (told_by i es) (again (strung_store x) (put i (due + ticks) (Some x) ts)) (told_num i es h)
        (ok (strung_store x) (put i (due + ticks) (Some x) ts) (store_now x k) (put_rest i (due + ticks) (Some x) ts (rests x k) rest))
    by_num again ok st i due es x ts (Some (ended how)) h k rest = by_end (ends_strand st how)
      where
        by_end : (c : Bool) → RanNum (after (told_by i es) (if c then again (strung_store x) (put i due None ts) else still (finished (put i due None ts))))
        by_end true =
            after_num (told_by i es) (again (strung_store x) (put i due None ts)) (told_num i es h) (ok (strung_store x) (put i due None ts) (store_now x k) (put_rest i due None ts tt rest))
        by_end false = after_num (told_by i es) (still (finished (put i due None ts))) (told_num i es h) (finished_num (put i due None ts) (put_rest i due None ts tt rest))
    by_num again ok st i due es x ts None h k rest = (told_num i es h, (put_rest i due (Some x) ts (rests x k) rest, put_now i i due x ts k))
    by_num again ok st i due es x ts (Some (called c)) h k rest = (told_num i es h, (put_rest i due (Some x) ts (rests x k) rest, put_now i i due x ts k))
    by_num again ok st i due es x ts (Some (parked used)) h k rest = (told_num i es h, (put_rest i due (Some x) ts (rests x k) rest, put_now i i due x ts k))
    by_num again ok st i due es x ts (Some (answered v)) h k rest = (told_num i es h, (put_rest i due (Some x) ts (rests x k) rest, put_now i i due x ts k))
    by_num again ok st i due es x ts (Some (returned n v)) h k rest = (told_num i es h, (put_rest i due (Some x) ts (rests x k) rest, put_now i i due x ts k))
    by_num again ok st i due es x ts (Some (shown at bytes)) h k rest = (told_num i es h, (put_rest i due (Some x) ts (rests x k) rest, put_now i i due x ts k))

    awake_num : (again : Store → List (Thread Strung) → Ran (Woven Strung) Told) → ((t : Store) (ts : List (Thread Strung)) → t.table ≡ table → AllRest ts → RanNum (again t ts)) → (t : Store)
        (ts : List (Thread Strung)) (o : Option (Ready Strung)) → t.table ≡ table → AllRest ts → RestReady o → RanNum (awake loom again t ts o)
    awake_num again ok t ts None e h k = finished_num ts h
    awake_num again ok t ts (Some r) e h k =
        let w = wakes_num t r.at e k in
        by_num again ok false r.strand r.due (strung_wakes t r.at).events (strung_wakes t r.at).last ts (last_event (strung_wakes t r.at).events) w.0 w.1 h

    weave_num : (most : ℕ) (t : Store) (ts : List (Thread Strung)) → t.table ≡ table → AllRest ts → RanNum (weave_on loom most t ts)
    weave_num zero t ts e h = finished_num ts h
    weave_num (suc most) t ts e h = awake_num (weave_on loom most) (weave_num most) t ts (first_ready 0 ts) e h (first_rest 0 ts h)

    woven_num : (st : Bool) (i due : ℕ) (es : List Note) (x : Strung) (ts : List (Thread Strung)) → All Num es → Now x → AllRest ts → RanNum (woven loom st i due es x ts)
    woven_num st i due es x ts h k rest = by_num (weave_on loom (suc (length ts))) (weave_num (suc (length ts))) st i due es x ts (last_event es) h k rest

    module _ (listed : g.listed ≡ Some (Listed m s)) where
      abbrev Keeps : Turn (Woven Strung) Told → Type 0
      Keeps t = TurnKeeps (weave loom) Inv NumTold t

      moved_num : (st : Bool) (i due : ℕ) (ts : List (Thread Strung)) (o : Turn Strung Note) → AllRest ts → Strides (plan_of g (strand_at g i)) listed o → Keeps (moved loom st i due ts o)
      moved_num st i due ts stops h k = tt
      moved_num st i due ts (goes j es x) h k = woven_num st i due es x ts k.0 k.1 h

      move_num : (i : ℕ) (ts : List (Thread Strung)) (o : Option (Ready Strung)) → AllRest ts → NowAt o → Keeps (move_of loom i ts o)
      move_num i ts None h k = tt
      move_num i ts (Some r) h k =
          moved_num (strung_starts r.at) i r.due ts (strung b (plan_of g (strand_at g i)) (space_of s m (strand_at g i)) r.at) h
          (strung_num (plan_of g (strand_at g i)) listed (space_of s m (strand_at g i)) r.at k)

      turns_num : (w : Woven Strung) → Inv w → Keeps (weave loom w)
      turns_num w h = move_num w.now w.threads (standing_now w) h.0 h.1

      begun_rest : (ss : List Strand) (oss : List (List Outcome)) → AllRest (map (λ (x : Strung). record { due = 0; at = Some x }) (beginnings (λ l. on (between no_store l)) g ss oss))
      begun_rest [] oss = tt
      begun_rest (x ∷ ss) [] = tt
      begun_rest (x ∷ ss) (os ∷ oss) = (tt, begun_rest ss oss)

      run_num : (oss : List (List Outcome)) (n : ℕ) (r : Ran State Note) → All Num r.events → Now (on r.last)
          → All NumTold (woven_run loom n (strung_from r) (beginnings (λ l. on (between no_store l)) g (drop 1 g.strands) (drop 1 oss))).events
      run_num oss n r h k =
          let others = beginnings (λ l. on (between no_store l)) g (drop 1 g.strands) (drop 1 oss) in
          let threads : List (Thread Strung) = map (λ (x : Strung). record { due = 0; at = Some x }) (on r.last ∷ others) in
          (after_keeps (weave loom) Inv NumTold turns_num n (woven loom true 0 0 r.events (on r.last) threads)
          (woven_num true 0 0 r.events (on r.last) threads h k (rests (on r.last) k, begun_rest (drop 1 g.strands) (drop 1 oss)))).0

-- ---- whole runs

pub pauses_at_numbers : StrandPausesAtNumbers
pauses_at_numbers s which g oss n tells counted listed = by_opening (opening (Base g.source) g.globals)
  where
    left : Left
    left = all_left (plan_of g (strand_at g 0)) (first_outcomes oss)

    by_opening : (o : Opening) → All (λ (t : Told). PauseNumbered g.source s which t.note.stack t.note.pause)
        (woven_run (strung_loom s g) n (strung_from (begun (Base g.source).start left o)) (beginnings (λ l. on (between no_store l)) g (drop 1 g.strands) (drop 1 oss))).events
    by_opening (fails_as e) =
        run_num g.source s which tells counted no_store.table g refl listed oss n (begun (Base g.source).start left (fails_as e))
        (one g.source s which tells counted no_store.table (note (ended e) no_store) tt) refl
    by_opening (opens t) = by_start (Base g.source).start
      where
        by_start : (o : Option ℕ) → All (λ (t : Told). PauseNumbered g.source s which t.note.stack t.note.pause)
            (woven_run (strung_loom s g) n (strung_from (started t left o)) (beginnings (λ l. on (between no_store l)) g (drop 1 g.strands) (drop 1 oss))).events
        by_start None =
            run_num g.source s which tells counted t.table g refl listed oss n (started t left None) (done_num g.source s which tells counted t.table t left.entries)
            (on_now g.source s which tells counted t.table t left left.entries refl)
        by_start (Some x) = run_num g.source s which tells counted t.table g refl listed oss n (started t left (Some x)) (All-nil _) refl
