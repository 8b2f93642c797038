-- While no call pauses, a module with more parts behind its own goes under the protocol as the module goes whose imports block.
use Rattle.std.proofs.Common.{◌≡◌, ℕ, zero, suc, ◌-◌, ◌<◌, ◌++◌, List, [], ◌∷◌, map, Option, Some, None, Bool, true, false, refl, sym, ap, ◌∙◌, subst, length}
use Rattle.std.specs.Prelude.{nat_lt, if◌then◌else◌}
use Rattle.std.proofs.lemmas.List.{map-append}
use Rattle.wa_types.specs.declared.values.ValType.{ValType}
use Rattle.wa_types.specs.declared.values.Value.{Value}
use Rattle.wa_types.specs.declared.values.Trap.{Trap}
use Rattle.wa_types.specs.declared.syntax.Export.{Export}
use Rattle.wa_types.specs.Syntax.{FuncType, Func, GlobalDef, Module}
use Rattle.wa_types.specs.Modules.{func_imports, func_type_at, defined_at}
use Rattle.wa_model.specs.declared.answers.Said.{Said}
use Rattle.wa_model.specs.declared.answers.Said.TheVariants as S
use Rattle.wa_model.specs.declared.events.End.{End}
use Rattle.wa_model.specs.declared.events.End.TheVariants.{Done, Trapped, NoAnswer, OtherImport, DeviceFault, NoDevice}
use Rattle.wa_model.specs.Outside.{Poke, Answer, answered, returned, ended}
use Rattle.wa_model.specs.Machine.{Turn, stops, goes, Ran, after, still, pay, run_with}
use Rattle.wa_model.specs.Store.{Store}
use Rattle.wa_model.specs.Configuration.{Activation, place_of, suspended}
use Rattle.wa_model.specs.Step.{Next, steps, asks, returns, traps, stuck, entered, step}
use Rattle.wa_model.specs.Plan.{Entry, Plan, Outcome, given, refused, OutcomeFits, IsRefusal}
use Rattle.wa_model.specs.Blocking.{Note, note, call_note, bad_value, bad_poke, is_unlisted, bad_pause, or_else, fault_of, pause_of, poked, Task, the_start, an_entry, Left}
use Rattle.wa_model.specs.Blocking.{with_outcomes, Asker, inside, outermost, store_at, stack_at, in_start, State, between, begins, runs, halts, done_notes, import_traps, on_to, value_of_results}
use Rattle.wa_model.specs.Blocking.{next_entry, task_back, go_on, ends_at_call, tested, asked, by_step, enters, enter_next, start_called, blocking}
use Rattle.wa_model.specs.Protocol.{Exports, Held, free, starting, busy, over, is_running, held_on, held_back, held_given, held_tested, held_asked, busy_step, busy_enters, held_next}
use Rattle.wa_model.specs.Protocol.{held_start, protocol}
use Rattle.wa_model.specs.Behaves.{unless_pause}
use Rattle.run_theory.specs.Growth.{grown_module, Spaces, spaces_of, Each, ActNamed, StoreNamed, ConfigNamed, grown_store, grown_config}
use Rattle.run_theory.proofs.GrownSteps.{ModuleNamed, defined_stays, defined_below, func_type_stays, entered_named, step_stays, Stays}
use Rattle.run_theory.proofs.GrownInstances.{each_append, each_split}
use Rattle.run_theory.proofs.TestedEnds.{EndIs, fault_is}

-- ---- notes

-- no stack is suspended where a call pauses
abbrev pub SuspendsNone : Note → Type 0
SuspendsNone x = (ticks : ℕ) → x.pause ≡ Some ticks → x.stack ≡ []

-- A note of a run that doesn't pause.
pub record IsPlainNote (count : ℕ) (x : Note) : Type 0 where
  pub event : unless_pause x.event ≡ Some x.event
  pub pause : x.pause ≡ None
  pub since : x.since ≡ None
  pub globals : length x.store.globals ≡ count

-- ---- the ends of answers

abbrev PlainFault : Option End → Type 0
PlainFault = EndIs (λ e. unless_pause (ended e) ≡ Some (ended e))

fault_plain : (results : List ValType) (size : ℕ) (plan : Plan) (start : Bool) (import : ℕ) (a : Answer) → PlainFault (fault_of results size plan start import a)
fault_plain results size plan start import a =
    fault_is (λ e. unless_pause (ended e) ≡ Some (ended e)) (record { value = λ i v. refl; poke = λ at len. refl; start = λ i. refl }) results size plan start import a (λ h. refl)

second_none : (a b : Option End) → or_else a b ≡ None → b ≡ None
second_none None b e = e
second_none (Some x) b e = cc

-- inside the start function no answer pauses
start_pause : (unlisted : Bool) (import ticks : ℕ) → bad_pause true unlisted import ticks ≡ None → ticks ≡ 0
start_pause unlisted import zero e = refl
start_pause unlisted import (suc ticks) e = cc

no_pause_in_start : (results : List ValType) (size : ℕ) (plan : Plan) (import : ℕ) (a : Answer) → fault_of results size plan true import a ≡ None → a.ticks ≡ 0
no_pause_in_start results size plan import a e =
    start_pause (is_unlisted plan.listed import) import a.ticks
    (second_none (bad_poke size (plan.area ∷ plan.others) a.pokes) (bad_pause true (is_unlisted plan.listed import) import a.ticks)
    (second_none (bad_value results import a.said)
    (or_else (bad_poke size (plan.area ∷ plan.others) a.pokes) (bad_pause true (is_unlisted plan.listed import) import a.ticks)) e))

refusal_plain : (e : End) → IsRefusal e → unless_pause (ended e) ≡ Some (ended e)
refusal_plain (NoAnswer i) h = refl
refusal_plain (OtherImport c d) h = refl
refusal_plain (DeviceFault i) h = refl
refusal_plain (NoDevice i) h = refl
refusal_plain _ h = absurd h

pub end_plain : (e : End) → unless_pause (ended e) ≡ Some (ended e) → unless_pause (ended e) ≡ Some (ended e)
end_plain e h = h

-- ---- states

abbrev pub EntryThere : Module → Entry → Type 0
EntryThere m e = (f : Func) × (defined_at m e.func ≡ Some f)

pub record LeftNamed (m : Module) (l : Left) : Type 0 where
  pub entries : Each (EntryThere m) l.entries
  pub outcomes : Each OutcomeFits l.outcomes

abbrev pub StateNamed : Module → State → Type 0
StateNamed m (between s l) = StoreNamed (spaces_of m) s × LeftNamed m l
StateNamed m (begins x s l) = (x < (spaces_of m).funcs) × StoreNamed (spaces_of m) s × LeftNamed m l
StateNamed m (runs task c l) = ConfigNamed (spaces_of m) c × LeftNamed m l
StateNamed m (halts s) = StoreNamed (spaces_of m) s

abbrev AskerNamed : Module → Asker → Type 0
AskerNamed m (inside task c) = ConfigNamed (spaces_of m) c
AskerNamed m (outermost s) = StoreNamed (spaces_of m) s

module _ (more : List Value) where
  abbrev pub grown_note : Note → Note
  grown_note x = record { event = x.event; store = grown_store more x.store; stack = x.stack; pause = x.pause; since = x.since }

  abbrev pub held_of : State → Held
  held_of (between s l) = free (grown_store more s) l
  held_of (begins x s l) = starting x (grown_store more s) l
  held_of (runs task c l) = busy (is_running task) (grown_config more c) l
  held_of (halts s) = over (grown_store more s)

  abbrev grown_asker : Asker → Asker
  grown_asker (inside task c) = inside task (grown_config more c)
  grown_asker (outermost s) = outermost (grown_store more s)

  abbrev pub held_ran : Ran State Note → Ran Held Note
  held_ran r = record { events = map grown_note r.events; last = held_of r.last }

  store_is : (w : Asker) → store_at (grown_asker w) ≡ grown_store more (store_at w)
  store_is (inside task c) = refl
  store_is (outermost s) = refl

  in_start_is : (w : Asker) → in_start (grown_asker w) ≡ in_start w
  in_start_is (inside task c) = refl
  in_start_is (outermost s) = refl

asker_store : (m : Module) (w : Asker) → AskerNamed m w → StoreNamed (spaces_of m) (store_at w)
asker_store m (inside task c) h = h.store
asker_store m (outermost s) h = h

module _ (m : Module) (ts : List FuncType) (fs : List Func) (gs : List GlobalDef) (es : List Export) (ok : ModuleNamed m) (more : List Value) (plan : Plan) (ex : Exports) where
  abbrev p : Module
  p = grown_module m ts fs gs es

  abbrev n : Spaces
  n = spaces_of m

  abbrev big : Store → Store
  big s = grown_store more s

  abbrev Plain : List Note → Type 0
  Plain xs = Each (IsPlainNote n.globals) xs

  -- The turn of the protocol that goes with a turn of the module alone, unless a stack is suspended.
  abbrev InStep : Turn State Note → Turn Held Note → Type 0
  InStep stops o' = o' ≡ stops
  InStep (goes k xs t) o' =
      (xs' : List Note) × (t' : Held) × (o' ≡ goes k xs' t')
      × (Each SuspendsNone xs → (xs' ≡ map (grown_note more) xs) × (t' ≡ held_of more t) × StateNamed m t × Plain xs)

  by_held : (o : Turn State Note) (o' o2 : Turn Held Note) → o' ≡ o2 → InStep o o2 → InStep o o'
  by_held o o' o2 e h = subst (InStep o) (sym e) h

  by_turn : (o o1 : Turn State Note) (o' : Turn Held Note) → o ≡ o1 → InStep o1 o' → InStep o o'
  by_turn o o1 o' e h = subst (λ x. InStep x o') (sym e) h

  -- ---- stacks

  suspended_same : (a : Activation) → ActNamed n a → suspended p a ≡ suspended m a
  suspended_same a h =
      ap (λ o. record { func = a.func; place = place_of o a.code a.labels; locals = a.locals; operands = a.taken ++ a.operands }) (defined_stays m ts fs gs es a.func h.func)

  all_suspended : (acts : List Activation) → Each (ActNamed n) acts → map (suspended p) acts ≡ map (suspended m) acts
  all_suspended [] h = refl
  all_suspended (a ∷ acts) h = ap (λ x. x ∷ map (suspended p) acts) (suspended_same a h.0) ∙ ap (λ xs. suspended m a ∷ xs) (all_suspended acts h.1)

  stack_same : (w : Asker) → AskerNamed m w → stack_at p (grown_asker more w) ≡ stack_at m w
  stack_same (inside task c) h = all_suspended (c.here ∷ c.under) (h.here, h.under)
  stack_same (outermost s) h = refl

  abbrev call_before : ℕ → List Value → Asker → Option ℕ → Note
  call_before import args w pause = call_note import args (store_at w) (stack_at m w) pause

  abbrev call_behind : ℕ → List Value → Asker → Option ℕ → Note
  call_behind import args w pause = call_note import args (store_at (grown_asker more w)) (stack_at p (grown_asker more w)) pause

  note_is : (import : ℕ) (args : List Value) (w : Asker) (pause : Option ℕ) → AskerNamed m w → call_behind import args w pause ≡ grown_note more (call_before import args w pause)
  note_is import args w pause h =
      ap (λ s. call_note import args s (stack_at p (grown_asker more w)) pause) (store_is more w)
      ∙ ap (λ stack. call_note import args (big (store_at w)) stack pause) (stack_same w h)

  plain_call : (import : ℕ) (args : List Value) (w : Asker) → AskerNamed m w → IsPlainNote n.globals (call_before import args w None)
  plain_call import args w h = let so = asker_store m w h in record { event = refl; pause = refl; since = refl; globals = so.globals }

  plain_end : (e : End) (s : Store) → unless_pause (ended e) ≡ Some (ended e) → StoreNamed n s → IsPlainNote n.globals (note (ended e) s)
  plain_end e s h so = record { event = end_plain e h; pause = refl; since = refl; globals = so.globals }

  -- ---- what comes behind the last entry

  ends_in_step : (k : ℕ) (xs xs' : List Note) (s s' : Store) (l : Left) (ens : List Entry) → (Each SuspendsNone xs → (xs' ≡ map (grown_note more) xs) × Plain xs) → s' ≡ big s
      → StoreNamed n s → LeftNamed m l
      → InStep (goes k (xs ++ done_notes s ens) (on_to s l ens)) (goes k (xs' ++ done_notes s' ens) (held_on s' l ens))
  ends_in_step k xs xs' s s' l [] h es' so lo = (
    xs' ++ note (ended Done) s' ∷ [],
    over s',
    refl,
    λ idle.
        let r = h (each_split SuspendsNone xs (note (ended Done) s ∷ []) idle).0 in (
          ap (λ ys. ys ++ note (ended Done) s' ∷ []) r.0 ∙ ap (λ st. map (grown_note more) xs ++ note (ended Done) st ∷ []) es' ∙ sym (map-append (grown_note more) xs (note (ended Done) s ∷ [])),
          ap over es',
          so,
          each_append (IsPlainNote n.globals) xs (note (ended Done) s ∷ []) r.1 (plain_end Done s refl so, tt),
        ),
  )
  ends_in_step k xs xs' s s' l (e ∷ ens) h es' so lo = (
    xs' ++ [],
    free s' l,
    refl,
    λ idle.
        let r = h (each_split SuspendsNone xs [] idle).0 in (
          ap (λ ys. ys ++ []) r.0 ∙ sym (map-append (grown_note more) xs []),
          ap (λ st. free st l) es',
          (so, lo),
          each_append (IsPlainNote n.globals) xs [] r.1 tt,
        ),
  )

  back_in_step : (k : ℕ) (task : Task) (results : List Value) (s : Store) (l : Left) → StoreNamed n s → LeftNamed m l → InStep (task_back k task results s l) (held_back k task results (big s) l)
  back_in_step k the_start results s l so lo = ends_in_step k [] [] s (big s) l l.entries (λ idle. (refl, tt)) refl so lo
  back_in_step k (an_entry e) results s l so lo =
      ends_in_step k (note (returned l.number (value_of_results results)) s ∷ []) (note (returned l.number (value_of_results results)) (big s) ∷ []) s (big s) (next_entry l) l.entries
      (λ idle. (refl, (record { event = refl; pause = refl; since = refl; globals = so.globals }, tt))) refl so (record { entries = lo.entries; outcomes = lo.outcomes })

  -- ---- calls of imports

  call_ends : (k import : ℕ) (args : List Value) (w : Asker) (e : End) → AskerNamed m w → unless_pause (ended e) ≡ Some (ended e)
      → InStep (ends_at_call k (call_before import args w None) e) (goes k (call_behind import args w None ∷ note (ended e) (call_behind import args w None).store ∷ [])
      (over (call_behind import args w None).store))
  call_ends k import args w e h plain = (
    call_behind import args w None ∷ note (ended e) (call_behind import args w None).store ∷ [],
    over (call_behind import args w None).store,
    refl,
    λ idle. (
      ap (λ (x : Note). x ∷ note (ended e) x.store ∷ []) (note_is import args w None h),
      ap over (store_is more w),
      asker_store m w h,
      (plain_call import args w h, (plain_end e (store_at w) plain (asker_store m w h), tt)),
    ),
  )

  -- the answer is given at once
  given_in_step : (k import : ℕ) (args : List Value) (w : Asker) (l : Left) (said : Said) (pokes : List Poke) → AskerNamed m w → LeftNamed m l
      → InStep (go_on k (call_before import args w None) said (poked (store_at w) pokes) l w)
      (held_given k (call_behind import args w None) said (poked (store_at (grown_asker more w)) pokes) l (grown_asker more w))
  given_in_step k import args (inside task c) l (S.Value v) pokes h lo = (
    _,
    _,
    refl,
    λ idle. (
      ap (λ x. x ∷ note (answered (S.Value v)) (poked (big c.store) pokes) ∷ []) (note_is import args (inside task c) None h),
      refl,
      (record { store = record { globals = (h.store).globals; table = (h.store).table }; here = record { func = (h.here).func; code = (h.here).code; labels = (h.here).labels }; under = h.under }, lo),
      (plain_call import args (inside task c) h, (record { event = refl; pause = refl; since = refl; globals = (h.store).globals }, tt)),
    ),
  )
  given_in_step k import args (outermost s) l (S.Value v) pokes h lo =
      ends_in_step k (call_before import args (outermost s) None ∷ note (answered (S.Value v)) (poked s pokes) ∷ [])
      (call_behind import args (outermost s) None ∷ note (answered (S.Value v)) (poked (big s) pokes) ∷ []) (poked s pokes) (poked (big s) pokes) l l.entries
      (λ idle. (refl, (plain_call import args (outermost s) h, (record { event = refl; pause = refl; since = refl; globals = h.globals }, tt))))
      refl (record { globals = h.globals; table = h.table }) lo
  given_in_step k import args (inside task c) l S.Trap pokes h lo = (
    _,
    _,
    refl,
    λ idle. (
      ap (λ x. x ∷ import_traps (poked (big c.store) pokes)) (note_is import args (inside task c) None h),
      refl,
      record { globals = (h.store).globals; table = (h.store).table },
      (plain_call import args (inside task c) h, (record { event = refl; pause = refl; since = refl; globals = (h.store).globals }, (record { event = refl; pause = refl; since = refl; globals = (h.store).globals }, tt))),
    ),
  )
  given_in_step k import args (outermost s) l S.Trap pokes h lo = (
    _,
    _,
    refl,
    λ idle. (
      ap (λ x. x ∷ import_traps (poked (big s) pokes)) (note_is import args (outermost s) None h),
      refl,
      record { globals = (h).globals; table = (h).table },
      (plain_call import args (outermost s) h, (record { event = refl; pause = refl; since = refl; globals = (h).globals }, (record { event = refl; pause = refl; since = refl; globals = (h).globals }, tt))),
    ),
  )

  -- an answer that pauses suspends a stack
  pauses_in_step : (k import ticks : ℕ) (args : List Value) (w : Asker) (l : Left) (a : Answer) (said : Said) → (in_start w ≡ true → ⊥)
      → InStep (go_on k (call_before import args w (Some (suc ticks))) said (poked (store_at w) a.pokes) l w) (held_tested p ex plan k import args (grown_asker more w) l a None (Some (suc ticks)))
  pauses_in_step k import ticks args (inside (an_entry e) c) l a (S.Value v) h = (_, _, refl, λ idle. absurd (let z = (idle.0) (suc ticks) refl in cc))
  pauses_in_step k import ticks args (inside (an_entry e) c) l a S.Trap h = (_, _, refl, λ idle. absurd (let z = (idle.0) (suc ticks) refl in cc))
  pauses_in_step k import ticks args (inside the_start c) l a said h = absurd (h refl)
  pauses_in_step k import ticks args (outermost s) l a said h = absurd (h refl)

  tested_in_step : (k import : ℕ) (args : List Value) (w : Asker) (l : Left) (a : Answer) (o : Option End) → AskerNamed m w → LeftNamed m l → PlainFault o
      → (o ≡ None → in_start w ≡ true → a.ticks ≡ 0)
      → InStep (tested m k import args w l a o) (held_tested p ex plan k import args (grown_asker more w) l a o (pause_of a.ticks))
  tested_in_step k import args w l a (Some e) h lo plain start = call_ends k import args w e h plain
  tested_in_step k import args w l a None h lo plain start = by_ticks a.ticks refl
    where
      turn : Option ℕ → Turn State Note
      turn pause = go_on k (call_before import args w pause) a.said (poked (store_at w) a.pokes) l w

      held : Option ℕ → Turn Held Note
      held pause = held_tested p ex plan k import args (grown_asker more w) l a None pause

      by_ticks : (t : ℕ) → a.ticks ≡ t → InStep (turn (pause_of a.ticks)) (held (pause_of a.ticks))
      by_ticks zero e =
          by_turn (turn (pause_of a.ticks)) (turn None) (held (pause_of a.ticks)) (ap (λ t. turn (pause_of t)) e)
          (by_held (turn None) (held (pause_of a.ticks)) (held None) (ap (λ t. held (pause_of t)) e) (given_in_step k import args w l a.said a.pokes h lo))
      by_ticks (suc t) e =
          by_turn (turn (pause_of a.ticks)) (turn (Some (suc t))) (held (pause_of a.ticks)) (ap (λ t. turn (pause_of t)) e)
          (by_held (turn (Some (suc t))) (held (pause_of a.ticks)) (held (Some (suc t))) (ap (λ t. held (pause_of t)) e)
          (pauses_in_step k import t args w l a a.said (λ s. let z = start refl s in let bad : suc t ≡ 0 = sym e ∙ z in cc)))

  asked_in_step : (k import : ℕ) (args : List Value) (w : Asker) (l : Left) (os : List Outcome) → import < n.funcs → AskerNamed m w → LeftNamed m l → Each OutcomeFits os
      → InStep (asked m plan k import args w l os) (held_asked p ex plan k import args (grown_asker more w) l os)
  asked_in_step k import args w l [] i h lo oo = (
    _,
    _,
    refl,
    λ idle. (
      ap (λ x. x ∷ []) (note_is import args w None h),
      ap over (store_is more w),
      asker_store m w h,
      (plain_call import args w h, tt),
    ),
  )
  asked_in_step k import args w l (refused e ∷ os) i h lo oo = call_ends k import args w e h (refusal_plain e oo.0)
  asked_in_step k import args w l (given a ∷ os) i h lo oo =
      let after : Left = with_outcomes l os in
      let test : List ValType → ℕ → Bool → Option End = λ results size start. fault_of results size plan start import a in
      let to : Option End → Turn Held Note = λ o. held_tested p ex plan k import args (grown_asker more w) after a o (pause_of a.ticks) in
      let results : List ValType = (func_type_at m import).results in
      let size : ℕ = length (store_at w).memory in
      by_held (tested m k import args w after a (test results size (in_start w))) (to (test (func_type_at p import).results (length (store_at (grown_asker more w)).memory)
      (in_start (grown_asker more w)))) (to (test results size (in_start w)))
      (ap (λ (t : FuncType). to (test t.results (length (store_at (grown_asker more w)).memory) (in_start (grown_asker more w)))) (func_type_stays m ts fs gs es ok import i)
      ∙ ap (λ (s : Store). to (test results (length s.memory) (in_start (grown_asker more w)))) (store_is more w)
      ∙ ap (λ b. to (test results size b)) (in_start_is more w))
      (tested_in_step k import args w after a (test results size (in_start w)) h (record { entries = lo.entries; outcomes = oo.1 }) (fault_plain results size plan (in_start w) import a)
      (λ none s. no_pause_in_start results size plan import a (ap (λ b. test results size b) (sym s) ∙ none)))

  -- ---- turns

  went : (k : ℕ) (t : State) → StateNamed m t → InStep (goes k [] t) (goes k [] (held_of more t))
  went k t h = ([], held_of more t, refl, λ idle. (refl, refl, h, tt))

  trapped : (k : ℕ) (trap : Trap) (s : Store) → StoreNamed n s → InStep (goes k (note (ended (Trapped trap)) s ∷ []) (halts s)) (goes k (note (ended (Trapped trap)) (big s) ∷ []) (over (big s)))
  trapped k trap s h = (note (ended (Trapped trap)) (big s) ∷ [], over (big s), refl, λ idle. (refl, refl, h, (plain_end (Trapped trap) s refl h, tt)))

  step_in_step : (task : Task) (l : Left) (o o' : Next) → Stays more n o o' → LeftNamed m l → InStep (by_step m plan task l o) (busy_step p ex plan (is_running task) l o')
  step_in_step task l (steps k d) o' h lo = by_held (goes k [] (runs task d l)) _ _ (ap (busy_step p ex plan (is_running task) l) h.0) (went k (runs task d l) (h.1, lo))
  step_in_step task l (asks k import args d) o' h lo = by_held (asked m plan k import args (inside task d) l l.outcomes) _ _ (ap (busy_step p ex plan (is_running task) l) h.0)
      (asked_in_step k import args (inside task d) l l.outcomes (h.1).0 (h.1).1 lo lo.outcomes)
  step_in_step task l (returns k results s) o' h lo = by_held (task_back k task results s l) _ _ (ap (busy_step p ex plan (is_running task) l) h.0) (back_in_step k task results s l h.1 lo)
  step_in_step task l (traps k trap s) o' h lo = by_held (goes k (note (ended (Trapped trap)) s ∷ []) (halts s)) _ _ (ap (busy_step p ex plan (is_running task) l) h.0) (trapped k trap s h.1)
  step_in_step task l stuck o' h lo = ap (busy_step p ex plan (is_running task) l) h.0

  enter_in_step : (s : Store) (l : Left) (ens : List Entry) → StoreNamed n s → Each (EntryThere m) ens → Each OutcomeFits l.outcomes → InStep (enter_next m s l ens) (held_next p (big s) l ens)
  enter_in_step s l [] so eo oo = refl
  enter_in_step s l (e ∷ ens) so eo oo =
      let f : Func = (eo.0).0 in
      let there : defined_at m e.func ≡ Some f = (eo.0).1 in
      let left : Left = record { number = l.number; entries = ens; outcomes = l.outcomes } in
      by_turn _ (enters e s left (Some f)) _ (ap (enters e s left) there)
      (by_held (enters e s left (Some f)) _ (busy_enters (is_running (an_entry e)) e (big s) left (Some f))
      (ap (busy_enters (is_running (an_entry e)) e (big s) left) (defined_stays m ts fs gs es e.func (defined_below m ts fs gs es ok e.func f there) ∙ there))
      (went (length e.args) (runs (an_entry e) (entered s [] e.args e.func f) left) (entered_named m ts fs gs es ok s [] e.args e.func f so tt there, record { entries = eo.1; outcomes = oo })))

  start_in_step : (x : ℕ) (s : Store) (l : Left) (o : Option Func) → defined_at m x ≡ o → x < n.funcs → StoreNamed n s → LeftNamed m l
      → InStep (start_called m plan x s l o) (held_start p ex plan x (big s) l o)
  start_in_step x s l (Some f) e i so lo = went 0 (runs the_start (entered s [] [] x f) l) (entered_named m ts fs gs es ok s [] [] x f so tt e, lo)
  start_in_step x s l None e i so lo = by_import (nat_lt x (func_imports m)) (asked_in_step 0 x [] (outermost s) l l.outcomes i so lo lo.outcomes)
    where
      by_import : (b : Bool) → InStep (asked m plan 0 x [] (outermost s) l l.outcomes) (held_asked p ex plan 0 x [] (outermost (big s)) l l.outcomes)
          → InStep (if b then asked m plan 0 x [] (outermost s) l l.outcomes else stops) (if b then held_asked p ex plan 0 x [] (outermost (big s)) l l.outcomes else stops)
      by_import true h = h
      by_import false h = refl

  turn_in_step : (s : State) → StateNamed m s → InStep (blocking m plan s) (protocol p ex plan (held_of more s))
  turn_in_step (between s l) h = enter_in_step s l l.entries h.0 (h.1).entries (h.1).outcomes
  turn_in_step (begins x s l) h = by_held (start_called m plan x s l (defined_at m x)) _ _ (ap (held_start p ex plan x (big s) l) (defined_stays m ts fs gs es x h.0))
      (start_in_step x s l (defined_at m x) refl h.0 h.1 h.2)
  turn_in_step (runs task c l) h = step_in_step task l (step m c) (step p (grown_config more c)) (step_stays m ts fs gs es ok more c h.0) h.1
  turn_in_step (halts s) h = refl

  -- ---- runs

  -- the runs go together, and the notes are plain
  abbrev Together : Ran State Note → Ran Held Note → Type 0
  Together r r' = (r' ≡ held_ran more r) × StateNamed m r.last × Plain r.events

  paid_together : (most k : ℕ) (s : State) (o : Turn State Note) (o' : Turn Held Note) → InStep o o' → StateNamed m s
      → ((left : ℕ) (t : State) → StateNamed m t → Each SuspendsNone (run_with (blocking m plan) most left t).events
      → Together (run_with (blocking m plan) most left t) (run_with (protocol p ex plan) most left (held_of more t)))
      → Each SuspendsNone (pay (run_with (blocking m plan) most) k s o).events
      → Together (pay (run_with (blocking m plan) most) k s o) (pay (run_with (protocol p ex plan) most) k (held_of more s) o')
  paid_together most k s stops o' h so ih idle = (ap (pay (run_with (protocol p ex plan) most) k (held_of more s)) h, so, tt)
  paid_together most k s (goes j xs t) o' h so ih idle =
      let r = by_cost (nat_lt j k) idle in (ap (pay (run_with (protocol p ex plan) most) k (held_of more s)) h.2 ∙ r.0, r.1, r.2)
    where
      on : Ran State Note
      on = run_with (blocking m plan) most (k - suc j) t

      by_cost : (b : Bool) → Each SuspendsNone (if b then after xs on else still s).events
          → Together (if b then after xs on else still s) (if b then after h.0 (run_with (protocol p ex plan) most (k - suc j) h.1) else still (held_of more s))
      by_cost false idle = (refl, so, tt)
      by_cost true idle =
          let parts = each_split SuspendsNone xs on.events idle in
          let now = (h.3) parts.0 in
          let rest = ih (k - suc j) t now.2 parts.1 in (
            ap (λ ys. after ys (run_with (protocol p ex plan) most (k - suc j) h.1)) now.0
                ∙ ap (λ u. after (map (grown_note more) xs) (run_with (protocol p ex plan) most (k - suc j) u)) now.1
                ∙ ap (after (map (grown_note more) xs)) rest.0
                ∙ ap (λ ys. record { events = ys; last = held_of more on.last }) (sym (map-append (grown_note more) xs on.events)),
            rest.1,
            each_append (IsPlainNote n.globals) xs on.events now.3 rest.2,
          )

  pub runs_together : (most k : ℕ) (s : State) → StateNamed m s → Each SuspendsNone (run_with (blocking m plan) most k s).events
      → Together (run_with (blocking m plan) most k s) (run_with (protocol p ex plan) most k (held_of more s))
  runs_together zero k s so idle = (refl, so, tt)
  runs_together (suc most) k s so idle =
      paid_together most k s (blocking m plan s) (protocol p ex plan (held_of more s)) (turn_in_step s so) so (λ left t h i. runs_together most left t h i) idle
