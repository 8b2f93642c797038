-- At each call of an import the stack is chained; each activation that a pause suspends stands at a numbered call, where
-- `call_indirect` isn't ignored.
use Rattle.std.proofs.Common.{drop, take, ◌<◌, ltb-true, ◌≡◌, ◌⊎◌, inl, inr, ℕ, zero, suc, ◌+◌, ◌≤◌, Bool, true, false, cond, ltb, not, ◌||◌, List, [], ◌∷◌, ◌++◌, length, map, Option, Some, None, All, Contains, refl, sym, ap, ◌∙◌, subst, arith, length-append}
use Rattle.std.proofs.lemmas.List.{length-map}
use Rattle.std.specs.Prelude.{slice_get}
use Rattle.std.proofs.lemmas.List.Elements.{All-nil, All-cons, All-head, All-tail, All-weaker}
use Rattle.wa_types.specs.declared.values.Value.{Value}
use Rattle.wa_types.specs.declared.values.ValType.{ValType}
use Rattle.wa_types.specs.Base.{Base}
use Rattle.wa_types.specs.Frames.{Suspended}
use Rattle.wa_types.specs.Pruned.{pruned}
use Rattle.wa_types.specs.Pausing.{Callee, direct, indirect, calls_of, calls_in, Settings, Listed, MayPause, calls_listed, calls_indirectly, calls_pausing, TellsMayPause, is_told, has_number, places_from, Numbered}
use Rattle.wa_types.specs.Syntax.{Func, Module}
use Rattle.wa_types.specs.Modules.{func_imports, func_type_at, defined_at}
use Rattle.wa_model.specs.declared.answers.Said.{Said}
use Rattle.wa_model.specs.declared.answers.Said.TheVariants as S
use Rattle.wa_model.specs.declared.events.End.{End}
use Rattle.wa_model.specs.Outside.{Answer, Event, called, answered, paused, parked, returned, ended, shown}
use Rattle.wa_model.specs.Machine.{Turn, stops, Ran}
use Rattle.wa_model.specs.Store.{Store}
use Rattle.wa_model.specs.Configuration.{Activation, call_count, calls_behind, calls_outside, place_of, suspended}
use Rattle.wa_model.specs.Step.{Next, steps, asks, returns, traps, stuck, entered, step}
use Rattle.wa_model.specs.Plan.{Entry, Plan, Outcome, given, refused}
use Rattle.wa_model.specs.Instantiation.{Opening, fails_as, opens, opening}
use Rattle.wa_model.specs.Blocking.{Note, call_note, bad_poke, bad_pause, is_unlisted, or_else, fault_of, pause_of, poked, done_notes, Task, the_start, an_entry, Left, with_outcomes, Asker, inside, outermost, store_at, stack_at, in_start, State, between, begins, runs, halts, on_to, next_entry, task_back, go_on, tested, asked, by_step, enters, enter_next, start_called, blocking, all_left, started, begun, continued, Blocking}
use Rattle.wa_model.specs.Behaves.{StandsNumbered, PauseNumbered}
use Rattle.run_theory.specs.LawfulStacks.{LeadsTo, Chained}
use Rattle.run_laws.specs.Standing.{IsRoot, CallChained, StacksChained, PauseTold, PausesTold, ListedNumbered, CallsAtNumbers, PausesAtNumbers, IsHeeded, PauseHeeded, HeededAtNumbers, onward, returned_by, EntryStack, PausesOfEntries}
use Rattle.run_laws.proofs.StandingStates.{calls_from, CallersAt, ConfigurationAt, WaitingAt, NextAt}
use Rattle.run_laws.proofs.Counted.{behind_all, AllAt, at_place, all_of, TurnCounts, after_counts}
use Rattle.run_laws.proofs.StandingSteps.{body_stands, waited_stands, step_stands}

-- ---- places

got_behind : {X : Type 0} (xs : List X) (x : X) (ys : List X) → slice_get (xs ++ x ∷ ys) (length xs) ≡ Some x
got_behind [] x ys = refl
got_behind (y ∷ xs) x ys = got_behind xs x ys

-- the place of a call that an activation waits at
place_is : (m : Module) (a : Activation) (f : Func) (before : List Callee) (c : Callee) → defined_at m a.func ≡ Some f → calls_in f ≡ before ++ c ∷ calls_from a.code a.labels
    → slice_get (calls_in f) (place_of (defined_at m a.func) a.code a.labels) ≡ Some c
place_is m a f before c is e =
    let rest = calls_from a.code a.labels in
    let count : length rest ≡ call_count a.code + calls_outside a.labels =
    length-append (calls_of (pruned a.code)) (calls_behind a.labels) in
    let all : length (calls_in f) ≡ length before + suc (length rest) = ap length e ∙ length-append before (c ∷ rest) in
    let place : place_of (Some f) a.code a.labels ≡ length before = omega arith in
    ap (λ (o : Option Func). slice_get (calls_in f) (place_of o a.code a.labels)) is
    ∙ ap (λ (n : ℕ). slice_get (calls_in f) n) place
    ∙ ap (λ (xs : List Callee). slice_get xs (length before)) e
    ∙ got_behind before c rest

-- a place of an item that passes is listed
stands_first : (n : ℕ) (xs : List ℕ) → Contains (n ∷ xs) n
stands_first n xs = (0, omega arith, refl)

stands_later : (n k : ℕ) (xs : List ℕ) → Contains xs k → Contains (n ∷ xs) k
stands_later n k xs h = let lt = h.1 in (suc h.0, omega arith, h.2)

place_listed : {X : Type 0} (test : X → Bool) (n : ℕ) (xs : List X) (i : ℕ) (x : X) → slice_get xs i ≡ Some x → test x ≡ true → Contains (places_from test n xs) (n + i)
place_listed test n [] i x e h = cc
place_listed {X} test n (y ∷ xs) zero x e h =
    let z : y ≡ x = cc in
    let passes : test y ≡ true = ap test z ∙ h in
    let here : n + 0 ≡ n = omega arith in
    subst (λ (b : Bool). Contains (cond b (n ∷ places_from test (suc n) xs) (places_from test (suc n) xs)) (n + 0)) (sym passes)
    (subst (λ (k : ℕ). Contains (n ∷ places_from test (suc n) xs) k) (sym here) (stands_first n (places_from test (suc n) xs)))
place_listed {X} test n (y ∷ xs) (suc i) x e h =
    let more : suc n + i ≡ n + suc i = omega arith in
    by_test (test y) (subst (λ (k : ℕ). Contains (places_from test (suc n) xs) k) more (place_listed test (suc n) xs i x e h))
  where
    by_test : (b : Bool) → Contains (places_from test (suc n) xs) (n + suc i) → Contains (cond b (n ∷ places_from test (suc n) xs) (places_from test (suc n) xs)) (n + suc i)
    by_test true k = stands_later n (n + suc i) (places_from test (suc n) xs) k
    by_test false k = k

-- ---- chained stacks

pub stack_chained : (m : Module) (table : List (Option ℕ)) (root x : ℕ) (stack : List Activation) → CallersAt m table root x stack → Chained m table root x (map (suspended m) stack)
stack_chained m table root x [] h = h
stack_chained m table root x (a ∷ stack) h =
    let w = h.2 in
    (w.0, h.0, w.2, place_is m a w.0 w.1 h.0 w.2 w.3, h.1, stack_chained m table root a.func stack h.3)

module _ (m : Module) (s : Settings) (which : List Bool) (tells : TellsMayPause m s which) (counted : s.ignore_indirect ≡ false) (table : List (Option ℕ)) (root : ℕ) where
  -- a listed import, or a function that may pause
  abbrev Pauses : ℕ → Type 0
  Pauses x = (slice_get (Listed m s) x ≡ Some true) ⊎ (slice_get which x ≡ Some true)

  pauses_numbered : (x : ℕ) → Pauses x → has_number m s which (direct x) ≡ true
  pauses_numbered x (inl e) = ap (λ (o : Option Bool). is_told o || is_told (slice_get which x)) e
  pauses_numbered x (inr e) = by_first (is_told (slice_get (Listed m s) x)) e
    where
      by_first : (b : Bool) → slice_get which x ≡ Some true → (b || is_told (slice_get which x)) ≡ true
      by_first true e = refl
      by_first false e = ap is_told e

  goes_numbered : (c : Callee) (ops : List Value) (x : ℕ) → LeadsTo m table c ops x → Pauses x → has_number m s which c ≡ true
  goes_numbered (direct y) ops x g p = subst (λ (z : ℕ). has_number m s which (direct z) ≡ true) (sym g) (pauses_numbered x p)
  goes_numbered (indirect sort) ops x g p = ap not counted

  caller_pauses : (c : Callee) (ops : List Value) (x fn : ℕ) (f : Func) (place : ℕ) → LeadsTo m table c ops x → Pauses x
      → defined_at m fn ≡ Some f → slice_get (calls_in f) place ≡ Some c → MayPause m s fn
  caller_pauses (direct y) ops x fn f place g (inl e) is at = calls_listed fn f place y is at (ap (slice_get (Listed m s)) g ∙ e)
  caller_pauses (direct y) ops x fn f place g (inr e) is at = calls_pausing fn f place y is at ((tells.each y).0 (ap (slice_get which) g ∙ e))
  caller_pauses (indirect sort) ops x fn f place g p is at = calls_indirectly fn f place sort is at counted

  -- a chained stack that waits for what may pause stands at numbered calls
  chain_numbered : (x : ℕ) (stack : List Suspended) → Pauses x → Chained m table root x stack → All (StandsNumbered m s which) stack
  chain_numbered x [] p h = All-nil (StandsNumbered m s which)
  chain_numbered x (a ∷ stack) p h =
      let f = h.0 in
      let c = h.1 in
      let told : slice_get which a.func ≡ Some true = (tells.each a.func).1 (caller_pauses c a.operands x a.func f a.place h.4 p h.2 h.3) in
      let from_zero : 0 + a.place ≡ a.place = omega arith in
      let number : Contains (Numbered m s which f) a.place =
      subst (λ (k : ℕ). Contains (Numbered m s which f) k) from_zero (place_listed (has_number m s which) 0 (calls_in f) a.place c h.3 (goes_numbered c a.operands x h.4 p)) in
      All-cons (StandsNumbered m s which) a stack (record { instrumented = told; numbered = (f, h.2, number) }) (chain_numbered a.func stack (inr told) h.5)

-- ---- what an answer that pauses was tested for

unlisted_no : (listed : List Bool) (import : ℕ) → is_unlisted (Some listed) import ≡ false → slice_get listed import ≡ Some true
unlisted_no listed import e = by_told (slice_get listed import) e
  where
    by_told : (o : Option Bool) → not (is_told o) ≡ false → o ≡ Some true
    by_told None e = cc
    by_told (Some true) e = refl
    by_told (Some false) e = cc

or_else_last : (a b : Option End) → or_else a b ≡ None → b ≡ None
or_else_last None b e = e
or_else_last (Some x) b e = cc

pause_listed : (in_start unlisted : Bool) (import ticks : ℕ) → bad_pause in_start unlisted import (suc ticks) ≡ None → unlisted ≡ false
pause_listed true unlisted import ticks e = cc
pause_listed false true import ticks e = cc
pause_listed false false import ticks e = refl

fault_listed : (results : List ValType) (size : ℕ) (plan : Plan) (in_start : Bool) (import : ℕ) (a : Answer) (listed : List Bool) (ticks : ℕ)
    → plan.listed ≡ Some listed → a.ticks ≡ suc ticks → fault_of results size plan in_start import a ≡ None
    → slice_get listed import ≡ Some true
fault_listed results size plan in_start import a listed ticks l t e =
    let last = or_else_last (bad_poke size (plan.area ∷ plan.others) a.pokes) _ (or_else_last _ _ e) in
    let at = subst (λ (n : ℕ). bad_pause in_start (is_unlisted plan.listed import) import n ≡ None) t last in
    unlisted_no listed import (ap (λ (o : Option (List Bool)). is_unlisted o import) (sym l) ∙ pause_listed in_start (is_unlisted plan.listed import) import ticks at)

-- a pause isn't inside the start function
pause_outside : (in_start unlisted : Bool) (import ticks : ℕ) → bad_pause in_start unlisted import (suc ticks) ≡ None → in_start ≡ false
pause_outside true unlisted import ticks e = cc
pause_outside false unlisted import ticks e = refl

pub fault_outside : (results : List ValType) (size : ℕ) (plan : Plan) (in_start : Bool) (import : ℕ) (a : Answer) (ticks : ℕ)
    → a.ticks ≡ suc ticks → fault_of results size plan in_start import a ≡ None → in_start ≡ false
fault_outside results size plan in_start import a ticks t e =
    let last = or_else_last (bad_poke size (plan.area ∷ plan.others) a.pokes) _ (or_else_last _ _ e) in
    pause_outside in_start (is_unlisted plan.listed import) import ticks (subst (λ (n : ℕ). bad_pause in_start (is_unlisted plan.listed import) import n ≡ None) t last)

-- ---- the machine

some_same : {X : Type 0} (x y : X) → Some x ≡ Some y → x ≡ y
some_same x y e = cc

-- the first of the entries that are left
first_left : (xs : List Entry) (k : ℕ) (e : Entry) (es : List Entry) → e ∷ es ≡ drop k xs → (slice_get xs k ≡ Some e) × (es ≡ drop (suc k) xs)
first_left [] zero e es h = absurd (none_left h)
  where
    none_left : e ∷ es ≡ [] → ⊥
    none_left h = cc
first_left [] (suc k) e es h = absurd (none_left h)
  where
    none_left : e ∷ es ≡ [] → ⊥
    none_left h = cc
first_left (x ∷ xs) zero e es h = (ap Some (sym (head_same e x es xs h)), tail_same e x es xs h)
  where
    head_same : (e x : Entry) (es xs : List Entry) → e ∷ es ≡ x ∷ xs → e ≡ x
    head_same e x es xs h = cc

    tail_same : (e x : Entry) (es xs : List Entry) → e ∷ es ≡ x ∷ xs → es ≡ xs
    tail_same e x es xs h = cc
first_left (x ∷ xs) (suc k) e es h = first_left xs k e es h

note_onward : Note → ℕ → ℕ
note_onward x k = onward x.event k

module _ (b : Module) (plan : Plan) where
  -- the function that the host called: at a pause that of an entry
  abbrev RootNow : ℕ → Option ℕ → ℕ → Type 0
  RootNow k None x = (b.start ≡ Some x) ⊎ ((e : Entry) × (slice_get plan.entries k ≡ Some e) × (e.func ≡ x))
  RootNow k (Some ticks) x = (e : Entry) × (slice_get plan.entries k ≡ Some e) × (e.func ≡ x)

  abbrev CallAt : ℕ → Event → Option ℕ → Store → List Suspended → Type 0
  CallAt k (called c) pause s stack = (root : ℕ) × RootNow k pause root × Chained b s.table root c.import stack × (length stack ≤ 4096) × (c.import < func_imports b)
  CallAt k _ pause s stack = Unit {0}

  -- a note, where so many entries have returned
  abbrev NoteAt : ℕ → Note → Type 0
  NoteAt k x = CallAt k x.event x.pause x.store x.stack × PauseTold plan x.event x.pause

  abbrev TaskRoot : ℕ → Task → ℕ → Type 0
  TaskRoot k the_start x = b.start ≡ Some x
  TaskRoot k (an_entry e) x = (slice_get plan.entries k ≡ Some e) × (e.func ≡ x)

  abbrev behind : Task → ℕ → ℕ
  behind the_start k = k
  behind (an_entry e) k = suc k

  abbrev behind_asker : Asker → ℕ → ℕ
  behind_asker (inside task c) k = behind task k
  behind_asker (outermost s) k = k

  -- the entries that are left
  abbrev EntriesAt : ℕ → Left → Type 0
  EntriesAt k l = l.entries ≡ drop k plan.entries

  module _ (table : List (Option ℕ)) where
    abbrev StateAt : ℕ → State → Type 0
    StateAt k (between s l) = (s.table ≡ table) × EntriesAt k l
    StateAt k (begins x s l) = (s.table ≡ table) × (b.start ≡ Some x) × EntriesAt k l
    StateAt k (runs task c l) = (root : ℕ) × TaskRoot k task root × ConfigurationAt b table root c × EntriesAt (behind task k) l
    StateAt k (halts s) = s.table ≡ table

    -- what waits for an import
    abbrev AskerAt : ℕ → ℕ → Asker → Type 0
    AskerAt k import (inside task c) = (root : ℕ) × TaskRoot k task root × WaitingAt b table root import c
    AskerAt k import (outermost s) = (s.table ≡ table) × (b.start ≡ Some import) × (import < func_imports b)

    abbrev TurnAt : ℕ → Turn State Note → Type 0
    TurnAt k t = TurnCounts (blocking b plan) note_onward NoteAt StateAt k t

    abbrev Notes : ℕ → List Note → Type 0
    Notes k xs = AllAt note_onward NoteAt k xs

    done_on : (k : ℕ) (s : Store) (l : Left) (es : List Entry) → s.table ≡ table → EntriesAt k l
        → Notes k (done_notes s es) × StateAt (behind_all note_onward NoteAt k (done_notes s es)) (on_to s l es)
    unfolding note_onward
    done_on k s l [] e h = (((tt, tt), tt), e)
    done_on k s l (x ∷ es) e h = (tt, (e, h))

    back_at : (k j : ℕ) (task : Task) (results : List Value) (s : Store) (l : Left) → s.table ≡ table → EntriesAt (behind task k) l → TurnAt k (task_back j task results s l)
    unfolding note_onward
    back_at k j the_start results s l e h = done_on k s l l.entries e h
    back_at k j (an_entry x) results s l e h = let d = done_on (suc k) s (next_entry l) l.entries e h in (((tt, tt), d.0), d.1)

    asker_table : (k import : ℕ) (who : Asker) → AskerAt k import who → (store_at who).table ≡ table
    asker_table k import (inside task c) h = h.2.same
    asker_table k import (outermost s) h = h.0

    asker_root : (k : ℕ) (task : Task) (x : ℕ) → TaskRoot k task x → RootNow k None x
    asker_root k the_start x h = inl h
    asker_root k (an_entry e) x h = inr (e, h.0, h.1)

    -- the stack just before a call of an import
    asker_chained : (k import : ℕ) (args : List Value) (who : Asker) → AskerAt k import who → CallAt k (called (record { import = import; args = args })) None (store_at who) (stack_at b who)
    asker_chained k import args (inside task c) h =
        let stack = c.here ∷ c.under in
        let count : length (map (suspended b) stack) ≡ length stack = length-map stack (suspended b) in (
          h.0,
          asker_root k task h.0 h.1,
          subst (λ (t : List (Option ℕ)). Chained b t h.0 import (map (suspended b) stack)) (sym h.2.same) (stack_chained b table h.0 import stack h.2.stack),
          subst (λ (n : ℕ). n ≤ 4096) (sym count) h.2.few,
          h.2.imported,
        )
    asker_chained k import args (outermost s) h = (import, inl h.1, refl, omega arith, h.2)

    -- an answer that pauses is none to the start function
    pause_chained : (k import ticks : ℕ) (args : List Value) (who : Asker) → AskerAt k import who → ((t : ℕ) → ticks ≡ suc t → in_start who ≡ false)
        → CallAt k (called (record { import = import; args = args })) (pause_of ticks) (store_at who) (stack_at b who)
    unfolding asker_chained
    pause_chained k import zero args who h out = asker_chained k import args who h
    pause_chained k import (suc t) args (outermost s) h out = let bad : true ≡ false = out t refl in cc
    pause_chained k import (suc t) args (inside the_start c) h out = let bad : true ≡ false = out t refl in cc
    pause_chained k import (suc t) args (inside (an_entry e) c) h out =
        let chained = asker_chained k import args (inside (an_entry e) c) h in (h.0, (e, h.1.0, h.1.1), chained.2, chained.3, chained.4)

    go_on_at : (k j import : ℕ) (args : List Value) (st : List Suspended) (at : Store) (pause : Option ℕ) (said : Said) (s : Store) (l : Left) (who : Asker)
        → NoteAt k (call_note import args at st pause)
        → s.table ≡ table → EntriesAt (behind_asker who k) l → AskerAt k import who → TurnAt k (go_on j (call_note import args at st pause) said s l who)
    unfolding note_onward
    go_on_at k j import args st at pause (S.Value v) s l (inside task c) nx e h w =
        let cs = w.2.stack in
        let few : length (c.here ∷ c.under) ≤ 4096 = w.2.few in (
          (nx, ((tt, tt), tt)),
          (w.0, w.1, record { same = e; here = waited_stands b cs.0 c.here.func c.here.code c.here.labels cs.2; under = cs.3; few = few }, h),
        )
    go_on_at k j import args st at pause (S.Value v) s l (outermost old) nx e h w = let d = done_on k s l l.entries e h in ((nx, ((tt, tt), d.0)), d.1)
    go_on_at k j import args st at pause S.Trap s l who nx e h w = ((nx, ((tt, tt), ((tt, tt), tt))), e)

    pause_at : (import ticks : ℕ) (args : List Value) → ((listed : List Bool) (t : ℕ) → plan.listed ≡ Some listed → ticks ≡ suc t → slice_get listed import ≡ Some true)
        → PauseTold plan (called (record { import = import; args = args })) (pause_of ticks)
    pause_at import zero args told = tt
    pause_at import (suc t) args told = λ listed e. told listed t e refl

    tested_at : (k j import : ℕ) (args : List Value) (who : Asker) (l : Left) (a : Answer) (o : Option End) → EntriesAt (behind_asker who k) l → AskerAt k import who
        → ((listed : List Bool) (t : ℕ) → o ≡ None → plan.listed ≡ Some listed → a.ticks ≡ suc t → slice_get listed import ≡ Some true)
        → ((t : ℕ) → o ≡ None → a.ticks ≡ suc t → in_start who ≡ false) → TurnAt k (tested b j import args who l a o)
    unfolding note_onward
    tested_at k j import args who l a (Some e) h w told out = (((asker_chained k import args who w, tt), ((tt, tt), tt)), asker_table k import who w)
    tested_at k j import args who l a None h w told out =
        go_on_at k j import args (stack_at b who) (store_at who) (pause_of a.ticks) a.said (poked (store_at who) a.pokes) l who
        (pause_chained k import a.ticks args who w (λ t z. out t refl z), pause_at import a.ticks args (λ listed t e z. told listed t refl e z)) (asker_table k import who w) h w

    asked_at : (k j import : ℕ) (args : List Value) (who : Asker) (l : Left) (os : List Outcome) → EntriesAt (behind_asker who k) l
        → AskerAt k import who → TurnAt k (asked b plan j import args who l os)
    unfolding note_onward
    asked_at k j import args who l [] h w = (((asker_chained k import args who w, tt), tt), asker_table k import who w)
    asked_at k j import args who l (refused e ∷ os) h w = (((asker_chained k import args who w, tt), ((tt, tt), tt)), asker_table k import who w)
    asked_at k j import args who l (given a ∷ os) h w =
        let results = (func_type_at b import).results in
        let size = length (store_at who).memory in
        tested_at k j import args who (with_outcomes l os) a (fault_of results size plan (in_start who) import a) h w
        (λ listed t none e more. fault_listed results size plan (in_start who) import a listed t e more none) (λ t none more. fault_outside results size plan (in_start who) import a t more none)

    step_turn_at : (k : ℕ) (task : Task) (l : Left) (root : ℕ) (o : Next) → TaskRoot k task root → EntriesAt (behind task k) l → NextAt b table root o → TurnAt k (by_step b plan task l o)
    unfolding note_onward
    step_turn_at k task l root (steps j d) r h n = (tt, (root, r, n, h))
    step_turn_at k task l root (asks j import args d) r h n = asked_at k j import args (inside task d) l l.outcomes h (root, r, n)
    step_turn_at k task l root (returns j results s) r h n = back_at k j task results s l n h
    step_turn_at k task l root (traps j trap s) r h n = (((tt, tt), tt), n)
    step_turn_at k task l root stuck r h n = tt

    entered_at : (x : ℕ) (s : Store) (args : List Value) (f : Func) → s.table ≡ table → defined_at b x ≡ Some f → ConfigurationAt b table x (entered s [] args x f)
    entered_at x s args f e there = record { same = e; here = body_stands b x f there; under = refl; few = omega arith }

    enters_at : (k : ℕ) (x : Entry) (s : Store) (l : Left) (o : Option Func) → s.table ≡ table → slice_get plan.entries k ≡ Some x
        → EntriesAt (suc k) l → defined_at b x.func ≡ o → TurnAt k (enters x s l o)
    enters_at k x s l None e r h there = tt
    enters_at k x s l (Some f) e r h there = (tt, (x.func, (r, refl), entered_at x.func s x.args f e there, h))

    next_at : (k : ℕ) (s : Store) (l : Left) (es : List Entry) → s.table ≡ table → es ≡ drop k plan.entries → TurnAt k (enter_next b s l es)
    next_at k s l [] e h = tt
    next_at k s l (x ∷ es) e h =
        let first = first_left plan.entries k x es h in
        enters_at k x s (record { number = l.number; entries = es; outcomes = l.outcomes }) (defined_at b x.func) e first.0 first.1 refl

    start_at : (k x : ℕ) (s : Store) (l : Left) (o : Option Func) → s.table ≡ table → b.start ≡ Some x → EntriesAt k l → defined_at b x ≡ o → TurnAt k (start_called b plan x s l o)
    start_at k x s l (Some f) e r h there = (tt, (x, r, entered_at x s [] f e there, h))
    start_at k x s l None e r h there = by_import (ltb x (func_imports b)) refl
      where
        by_import : (t : Bool) → ltb x (func_imports b) ≡ t → TurnAt k (cond t (asked b plan 0 x [] (outermost s) l l.outcomes) stops)
        by_import true z = asked_at k 0 x [] (outermost s) l l.outcomes h (e, r, ltb-true x (func_imports b) z)
        by_import false z = tt

    turn_at : (k : ℕ) (t : State) → StateAt k t → TurnAt k (blocking b plan t)
    turn_at k (between s l) h = next_at k s l l.entries h.0 h.1
    turn_at k (begins x s l) h = start_at k x s l (defined_at b x) h.0 h.1 h.2 refl
    turn_at k (runs task c l) h = step_turn_at k task l h.0 (step b c) h.1 h.3 (step_stands b table h.0 c h.2)
    turn_at k (halts s) h = tt

    ran_at : (r : Ran State Note) (n : ℕ) → Notes 0 r.events → StateAt (behind_all note_onward NoteAt 0 r.events) r.last → Notes 0 (continued b plan n r).events
    ran_at r n h k = after_counts (blocking b plan) note_onward NoteAt StateAt turn_at n 0 r (h, k)

  begun_at : (l : Left) (o : Opening) (n : ℕ) → EntriesAt 0 l → AllAt note_onward NoteAt 0 (continued b plan n (begun b.start l o)).events
  unfolding note_onward
  begun_at l (fails_as e) n h = ran_at [] (begun b.start l (fails_as e)) n ((tt, tt), tt) refl
  begun_at l (opens s) n h = by_start b.start refl
    where
      by_start : (o : Option ℕ) → b.start ≡ o → AllAt note_onward NoteAt 0 (continued b plan n (started s l o)).events
      by_start None r = let d = done_on s.table 0 s l l.entries refl h in ran_at s.table (started s l None) n d.0 d.1
      by_start (Some x) r = ran_at s.table (started s l (Some x)) n tt (refl, r, h)

-- ---- a module with the memory that it is compared with has the same functions

base_chained : (m : Module) (table : List (Option ℕ)) (root x : ℕ) (stack : List Suspended) → Chained (Base m) table root x stack → Chained m table root x stack
unfolding Base
base_chained m table root x [] h = h
base_chained m table root x (a ∷ stack) h = (h.0, h.1, h.2, h.3, base_leads m table h.1 a.operands x h.4, base_chained m table root a.func stack h.5)
  where
    base_leads : (m : Module) (table : List (Option ℕ)) (c : Callee) (ops : List Value) (x : ℕ) → LeadsTo (Base m) table c ops x → LeadsTo m table c ops x
    base_leads m table (direct y) ops x h = h
    base_leads m table (indirect sort) ops x h = h

base_start : (m : Module) → (Base m).start ≡ m.start
unfolding Base
base_start m = refl

base_imports : (m : Module) → func_imports (Base m) ≡ func_imports m
unfolding Base
base_imports m = refl

-- ---- whole runs

counted : (m : Module) (plan : Plan) (os : List Outcome) (n : ℕ) → AllAt note_onward (NoteAt (Base m) plan) 0 (Blocking m plan os n).events
counted m plan os n = begun_at (Base m) plan (all_left plan os) (opening (Base m) plan.globals) n refl

abbrev Whole : Module → Plan → Note → Type 0
Whole m plan x = CallChained m (IsRoot m plan) x.event x.store x.stack × PauseTold plan x.event x.pause

listed_entry : (xs : List Entry) (k : ℕ) (e : Entry) → slice_get xs k ≡ Some e → Contains xs e
listed_entry [] k e h = cc
listed_entry (x ∷ xs) zero e h = (0, omega arith, some_same x e h)
listed_entry (x ∷ xs) (suc k) e h = let r = listed_entry xs k e h in (suc (r.0), more r.0 (length xs) r.1, r.2)
  where
    more : (i n : ℕ) → i < n → suc i < suc n
    more i n h = omega (arith, h)

root_of : (m : Module) (plan : Plan) (k : ℕ) (pause : Option ℕ) (x : ℕ) → RootNow (Base m) plan k pause x → IsRoot m plan x
root_of m plan k None x (inl e) = inl (sym (base_start m) ∙ e)
root_of m plan k None x (inr h) = inr (h.0, listed_entry plan.entries k h.0 h.1, h.2)
root_of m plan k (Some ticks) x h = inr (h.0, listed_entry plan.entries k h.0 h.1, h.2)

whole_of : (m : Module) (plan : Plan) (k : ℕ) (e : Event) (pause : Option ℕ) (s : Store) (stack : List Suspended) → CallAt (Base m) plan k e pause s stack → CallChained m (IsRoot m plan) e s stack
whole_of m plan k (called c) pause s stack h = (h.0, root_of m plan k pause h.0 h.1, base_chained m s.table h.0 c.import stack h.2, h.3)
whole_of m plan k (answered said) pause s stack h = tt
whole_of m plan k (paused ticks used) pause s stack h = tt
whole_of m plan k (returned entry value) pause s stack h = tt
whole_of m plan k (ended how) pause s stack h = tt
whole_of m plan k (parked used) pause s stack h = tt
whole_of m plan k (shown at bytes) pause s stack h = tt

whole_in : (m : Module) (plan : Plan) (os : List Outcome) (n : ℕ) → All (Whole m plan) (Blocking m plan os n).events
whole_in m plan os n =
    all_of note_onward (NoteAt (Base m) plan) (Whole m plan) (λ k x h. (whole_of m plan k x.event x.pause x.store x.stack h.0, h.1)) 0 (Blocking m plan os n).events (counted m plan os n)

pub stacks_chained : StacksChained
stacks_chained m plan os n = All-weaker (Whole m plan) (λ (x : Note). CallChained m (IsRoot m plan) x.event x.store x.stack) (λ x h. h.0) (Blocking m plan os n).events (whole_in m plan os n)

pub pauses_told : PausesTold
pauses_told m plan os n = All-weaker (Whole m plan) (λ (x : Note). PauseTold plan x.event x.pause) (λ x h. h.1) (Blocking m plan os n).events (whole_in m plan os n)

-- the number that the proof counts is that of the entries that have returned
same_number : (m : Module) (plan : Plan) (k : ℕ) (xs : List Note) → behind_all note_onward (NoteAt (Base m) plan) k xs ≡ returned_by k xs
unfolding note_onward
same_number m plan k [] = refl
same_number m plan k (x ∷ xs) = same_number m plan (onward x.event k) xs

pub pauses_of_entries : PausesOfEntries
pauses_of_entries m plan os n i ticks x at pauses =
    let events = (Blocking m plan os n).events in
    let h = at_place note_onward (NoteAt (Base m) plan) 0 events i x (counted m plan os n) at in
    subst (λ k. EntryStack m plan k x) (same_number m plan 0 (take i events)) (entry_stack x.event refl x.pause pauses _ h.0 h.1)
  where
    entry_stack : (e : Event) → x.event ≡ e → (p : Option ℕ) → p ≡ Some ticks → (k : ℕ) → CallAt (Base m) plan k e p x.store x.stack → PauseTold plan e p → EntryStack m plan k x
    entry_stack e is None z k h t = cc
    entry_stack (called c) is (Some t) z k h told =
        let entry = h.1 in
        record {
          entry = entry.0;
          at = entry.1;
          call = c;
          is = is;
          imported = subst (λ n. c.import < n) (base_imports m) h.4;
          few = h.3;
          chained = subst (λ r. Chained m x.store.table r c.import x.stack) (sym entry.2) (base_chained m x.store.table h.0 c.import x.stack h.2);
        }
    entry_stack (answered said) is (Some t) z k h told = absurd told
    entry_stack (paused ticks used) is (Some t) z k h told = absurd told
    entry_stack (returned entry value) is (Some t) z k h told = absurd told
    entry_stack (ended how) is (Some t) z k h told = absurd told
    entry_stack (parked used) is (Some t) z k h told = absurd told
    entry_stack (shown at bytes) is (Some t) z k h told = absurd told

module _ (m : Module) (s : Settings) (which : List Bool) (plan : Plan) (tells : TellsMayPause m s which) (counted : s.ignore_indirect ≡ false) where
  call_numbered : (e : Event) (at : Store) (stack : List Suspended) → CallChained m (IsRoot m plan) e at stack → ListedNumbered m s which e stack
  call_numbered (called c) at stack h = λ listed. chain_numbered m s which tells counted at.table h.0 c.import stack (inl listed) h.2
  call_numbered (answered said) at stack h = tt
  call_numbered (paused ticks used) at stack h = tt
  call_numbered (returned entry value) at stack h = tt
  call_numbered (ended how) at stack h = tt
  call_numbered (parked used) at stack h = tt
  call_numbered (shown place bytes) at stack h = tt

  pause_numbered : plan.listed ≡ Some (Listed m s) → (e : Event) (stack : List Suspended) (pause : Option ℕ)
      → ListedNumbered m s which e stack → PauseTold plan e pause → PauseNumbered m s which stack pause
  pause_numbered l e stack None h k = tt
  pause_numbered l (called c) stack (Some ticks) h k = h (k (Listed m s) l)
  pause_numbered l (answered said) stack (Some ticks) h k = absurd k
  pause_numbered l (paused t used) stack (Some ticks) h k = absurd k
  pause_numbered l (returned entry value) stack (Some ticks) h k = absurd k
  pause_numbered l (ended how) stack (Some ticks) h k = absurd k
  pause_numbered l (parked used) stack (Some ticks) h k = absurd k
  pause_numbered l (shown at bytes) stack (Some ticks) h k = absurd k

pub calls_at_numbers : CallsAtNumbers
calls_at_numbers m s which plan os n tells counted =
    All-weaker (Whole m plan) (λ (x : Note). ListedNumbered m s which x.event x.stack) (λ x h. call_numbered m s which plan tells counted x.event x.store x.stack h.0)
    (Blocking m plan os n).events (whole_in m plan os n)

pub pauses_at_numbers : PausesAtNumbers
pauses_at_numbers m s which plan os n tells counted listed =
    All-weaker (Whole m plan) (λ (x : Note). PauseNumbered m s which x.stack x.pause)
    (λ x h. pause_numbered m s which plan tells counted listed x.event x.stack x.pause (call_numbered m s which plan tells counted x.event x.store x.stack h.0) h.1)
    (Blocking m plan os n).events (whole_in m plan os n)

module _ (m : Module) (s : Settings) (which : List Bool) (tells : TellsMayPause m s which) (table : List (Option ℕ)) (root : ℕ) where
  heeded_numbered : (c : Callee) (ops : List Value) (x : ℕ) → LeadsTo m table c ops x
      → (slice_get (Listed m s) x ≡ Some true) ⊎ (slice_get which x ≡ Some true)
      → ((sort : ℕ) → c ≡ indirect sort → s.ignore_indirect ≡ false) → has_number m s which c ≡ true
  heeded_numbered (direct y) ops x g (inl e) i = ap (λ (o : Option Bool). is_told o || is_told (slice_get which y)) (ap (slice_get (Listed m s)) g ∙ e)
  heeded_numbered (direct y) ops x g (inr e) i = by_first (is_told (slice_get (Listed m s) y)) (ap (slice_get which) g ∙ e)
    where
      by_first : (b : Bool) → slice_get which y ≡ Some true → (b || is_told (slice_get which y)) ≡ true
      by_first true e = refl
      by_first false e = ap is_told e
  heeded_numbered (indirect sort) ops x g p i = ap not (i sort refl)

  heeded_pauses : (c : Callee) (ops : List Value) (x fn : ℕ) (f : Func) (place : ℕ) → LeadsTo m table c ops x
      → (slice_get (Listed m s) x ≡ Some true) ⊎ (slice_get which x ≡ Some true)
      → ((sort : ℕ) → c ≡ indirect sort → s.ignore_indirect ≡ false)
      → defined_at m fn ≡ Some f → slice_get (calls_in f) place ≡ Some c → MayPause m s fn
  heeded_pauses (direct y) ops x fn f place g (inl e) i is at = calls_listed fn f place y is at (ap (slice_get (Listed m s)) g ∙ e)
  heeded_pauses (direct y) ops x fn f place g (inr e) i is at = calls_pausing fn f place y is at ((tells.each y).0 (ap (slice_get which) g ∙ e))
  heeded_pauses (indirect sort) ops x fn f place g p i is at = calls_indirectly fn f place sort is at (i sort refl)

  chain_heeded : (x : ℕ) (stack : List Suspended) → (slice_get (Listed m s) x ≡ Some true) ⊎ (slice_get which x ≡ Some true)
      → Chained m table root x stack → All (IsHeeded m s) stack → All (StandsNumbered m s which) stack
  chain_heeded x [] p h heeds = All-nil (StandsNumbered m s which)
  chain_heeded x (a ∷ stack) p h heeds =
      let f = h.0 in
      let c = h.1 in
      let here : IsHeeded m s a = All-head (IsHeeded m s) a stack heeds in
      let i : (sort : ℕ) → c ≡ indirect sort → s.ignore_indirect ≡ false = λ sort e. here f sort h.2 (h.3 ∙ ap Some e) in
      let told : slice_get which a.func ≡ Some true = (tells.each a.func).1 (heeded_pauses c a.operands x a.func f a.place h.4 p i h.2 h.3) in
      let from_zero : 0 + a.place ≡ a.place = omega arith in
      let number : Contains (Numbered m s which f) a.place =
      subst (λ (k : ℕ). Contains (Numbered m s which f) k) from_zero (place_listed (has_number m s which) 0 (calls_in f) a.place c h.3 (heeded_numbered c a.operands x h.4 p i)) in
      All-cons (StandsNumbered m s which) a stack (record { instrumented = told; numbered = (f, h.2, number) }) (chain_heeded a.func stack (inr told) h.5 (All-tail (IsHeeded m s) a stack heeds))

module _ (m : Module) (s : Settings) (which : List Bool) (plan : Plan) (tells : TellsMayPause m s which) where
  pause_heeded : plan.listed ≡ Some (Listed m s) → (e : Event) (at : Store) (stack : List Suspended) (pause : Option ℕ)
      → CallChained m (IsRoot m plan) e at stack → PauseTold plan e pause → PauseHeeded m s stack pause → PauseNumbered m s which stack pause
  pause_heeded l e at stack None h k d = tt
  pause_heeded l (called c) at stack (Some ticks) h k d = chain_heeded m s which tells at.table h.0 c.import stack (inl (k (Listed m s) l)) h.2 d
  pause_heeded l (answered said) at stack (Some ticks) h k d = absurd k
  pause_heeded l (paused t used) at stack (Some ticks) h k d = absurd k
  pause_heeded l (returned entry value) at stack (Some ticks) h k d = absurd k
  pause_heeded l (ended how) at stack (Some ticks) h k d = absurd k
  pause_heeded l (parked used) at stack (Some ticks) h k d = absurd k
  pause_heeded l (shown at' bytes) at stack (Some ticks) h k d = absurd k

both_weaker : {X : Type 0} (P Q R : X → Type 0) → ((x : X) → P x → Q x → R x) → (xs : List X) → All P xs → All Q xs → All R xs
both_weaker P Q R f [] ps qs = All-nil R
both_weaker P Q R f (x ∷ xs) ps qs = All-cons R x xs (f x (All-head P x xs ps) (All-head Q x xs qs)) (both_weaker P Q R f xs (All-tail P x xs ps) (All-tail Q x xs qs))

pub heeded_at_numbers : HeededAtNumbers
heeded_at_numbers m s which plan os n tells listed heeds =
    both_weaker (Whole m plan) (λ (x : Note). PauseHeeded m s x.stack x.pause) (λ (x : Note). PauseNumbered m s which x.stack x.pause)
    (λ x h d. pause_heeded m s which plan tells listed x.event x.store x.stack x.pause h.0 h.1 d)
    (Blocking m plan os n).events (whole_in m plan os n) heeds
