-- Runs with blocking imports stay in range.
use Rattle.std.proofs.Common.{◌≡◌, ℕ, ◌+◌, Bool, true, false, cond, ltb, List, [], ◌∷◌, length, Option, Some, None, All, refl, sym, subst, arith, ◌*◌}
use Rattle.std.specs.Option.{option_to_list}
use Rattle.std.proofs.lemmas.List.Elements.{All-nil, All-cons, All-head, All-tail, All-append}
use Rattle.wa_types.specs.declared.values.Value.{Value}
use Rattle.wa_types.specs.Sizes.{CodeFits, FuncFits, SegmentFits}
use Rattle.wa_types.specs.Syntax.{Func, Segment, Module}
use Rattle.wa_types.specs.Base.{Base}
use Rattle.wa_types.specs.Memory.{page_size}
use Rattle.wa_types.specs.Modules.{all_memories, func_imports, func_type_at, defined_at}
use Rattle.wa_types.specs.declared.values.Trap.TheVariants.{Import}
use Rattle.wa_model.specs.declared.answers.Said.{Said}
use Rattle.wa_model.specs.declared.answers.Said.TheVariants as S
use Rattle.wa_model.specs.declared.events.End.{End}
use Rattle.wa_model.specs.declared.events.End.TheVariants.{Trapped}
use Rattle.wa_model.specs.Outside.{Answer, answered, returned, ended}
use Rattle.wa_model.specs.Machine.{Turn, stops}
use Rattle.wa_model.specs.Store.{Store}
use Rattle.wa_model.specs.Step.{Next, steps, asks, returns, traps, stuck, step}
use Rattle.wa_model.specs.Plan.{Entry, Plan, Outcome, given, refused, SaidFits, AnswerFits, OutcomeFits}
use Rattle.wa_model.specs.Instantiation.{Opening, fails_as, opens, opening, least_of}
use Rattle.wa_model.specs.Blocking.{continued, Note, note, call_note, fault_of, pause_of, poked, done_notes, import_traps, value_of_results, Task, the_start, an_entry, Left, with_outcomes, Asker, inside, outermost, store_at, stack_at, in_start, State, between, begins, runs, halts, on_to, next_entry, task_back, go_on, ends_at_call, tested, asked, by_step, enters, enter_next, start_called, blocking, no_store, all_left, started, begun, Blocking, store_of}
use Rattle.run_laws.specs.Ranges.{CodesIn, WellFormedIn, ValuesIn, byte_in, StoreIn, NextIn, EndIn, NoteIn, EntryIn, LeftIn, TaskIn, AskerIn, StateIn, PokeInside, OpeningIn, BlockingIn, BlockingHoldsArea, BlockingMemoryGrows, BlockingLater}
use Rattle.run_laws.proofs.Acts.{none_in}
use Rattle.run_laws.proofs.Steps.{func_in, entered_in, step_in}
use Rattle.run_laws.proofs.Openings.{openings_in}
use Rattle.run_laws.proofs.Host.{store_lower, store_whole, poked_store_in, FaultIn, fault_in, fault_pokes, refusal_in, note_in, call_note_in, one_note, two_notes, done_in, stack_in, asker_store, ticks_in, result_in, optional_in, resumed_in, waits_in}
use Rattle.run_theory.proofs.Invariants.{TurnKeeps, RanKeeps, after_keeps, leads_keeps, later_keeps}

-- a store as an answer leaves it
pub answered_in : (low : ℕ) (s : Store) (a : Answer) → AnswerFits a → All (PokeInside (length s.memory)) a.pokes → StoreIn low s → StoreIn low (poked s a.pokes)
answered_in low s a f k ok = store_lower low (length s.memory) (poked s a.pokes) ok.memory.least (poked_store_in (length s.memory) s a f k (store_whole low s ok))

pub left_outcomes : (l : Left) (o : Outcome) (os : List Outcome) → All EntryIn l.entries → All OutcomeFits (o ∷ os) → LeftIn (with_outcomes l os)
left_outcomes l o os h k = record { entries = h; outcomes = All-tail OutcomeFits o os k }

pub left_entries : (l : Left) (e : Entry) (es : List Entry) → All EntryIn (e ∷ es) → All OutcomeFits l.outcomes → LeftIn (record { number = l.number; entries = es; outcomes = l.outcomes })
left_entries l e es h k = record { entries = All-tail EntryIn e es h; outcomes = k }

on_in : (low : ℕ) (s : Store) (l : Left) (es : List Entry) → StoreIn low s → LeftIn l → StateIn low (on_to s l es)
on_in low s l [] ok h = ok
on_in low s l (e ∷ es) ok h = (ok, h)

pub import_traps_in : (low : ℕ) (s : Store) → StoreIn low s → All (NoteIn low) (import_traps s)
import_traps_in low s ok = two_notes low _ _ (note_in low (answered S.Trap) s tt ok) (note_in low (ended (Trapped Import)) s tt ok)

module _ (m : Module) (w : CodesIn m) (plan : Plan) (low : ℕ) where
  abbrev TurnIn : Turn State Note → Type 0
  TurnIn t = TurnKeeps (blocking m plan) (StateIn low) (NoteIn low) t

  back_in : (k : ℕ) (task : Task) (results : List Value) (s : Store) (l : Left) → ValuesIn results → StoreIn low s → LeftIn l → TurnIn (task_back k task results s l)
  back_in k the_start results s l vs ok h = (done_in low s l.entries ok, on_in low s l l.entries ok h)
  back_in k (an_entry e) results s l vs ok h =
      let next : LeftIn (next_entry l) = record { entries = h.entries; outcomes = h.outcomes } in (
        All-cons (NoteIn low) _ _ (note_in low (returned l.number (value_of_results results)) s (result_in results vs) ok) (done_in low s l.entries ok),
        on_in low s (next_entry l) l.entries ok next,
      )

  go_on_in : (k : ℕ) (x : Note) (said : Said) (s : Store) (l : Left) (who : Asker) → NoteIn low x → SaidFits said → StoreIn low s → LeftIn l → AskerIn low who → TurnIn (go_on k x said s l who)
  go_on_in k x (S.Value v) s l (inside task c) nx f ok h wh = (
    two_notes low x _ nx (note_in low (answered (S.Value v)) s f ok),
    (wh.0, resumed_in low c s (option_to_list v) (waits_in low c wh.1) ok (optional_in v f), h),
  )
  go_on_in k x (S.Value v) s l (outermost old) nx f ok h wh = (
    All-append (NoteIn low) (x ∷ note (answered (S.Value v)) s ∷ []) (done_notes s l.entries) (two_notes low x _ nx (note_in low (answered (S.Value v)) s f ok)) (done_in low s l.entries ok),
    on_in low s l l.entries ok h,
  )
  go_on_in k x S.Trap s l who nx f ok h wh = (All-cons (NoteIn low) x (import_traps s) nx (import_traps_in low s ok), ok)

  ends_in : (k : ℕ) (x : Note) (e : End) → NoteIn low x → EndIn e → TurnIn (ends_at_call k x e)
  ends_in k x e nx h = (two_notes low x _ nx (note_in low (ended e) x.store h nx.store), nx.store)

  tested_in : (k import : ℕ) (args : List Value) (who : Asker) (l : Left) (a : Answer) (o : Option End) → ValuesIn args → AskerIn low who → LeftIn l
      → AnswerFits a → FaultIn o → (o ≡ None → All (PokeInside (length (store_at who).memory)) a.pokes)
      → TurnIn (tested m k import args who l a o)
  tested_in k import args who l a (Some e) va wh h f bad on =
      ends_in k (call_note import args (store_at who) (stack_at m who) None) e
      (call_note_in low import args (store_at who) (stack_at m who) None va (asker_store low who wh) (stack_in low m who wh) tt) bad
  tested_in k import args who l a None va wh h f bad on =
      let ok = asker_store low who wh in
      go_on_in k (call_note import args (store_at who) (stack_at m who) (pause_of a.ticks)) a.said (poked (store_at who) a.pokes) l who
      (call_note_in low import args (store_at who) (stack_at m who) (pause_of a.ticks) va ok (stack_in low m who wh) (ticks_in a.ticks f.ticks)) f.said
      (answered_in low (store_at who) a f (on refl) ok) h wh

  asked_in : (k import : ℕ) (args : List Value) (who : Asker) (l : Left) (os : List Outcome) → ValuesIn args → AskerIn low who
      → All EntryIn l.entries → All OutcomeFits os → TurnIn (asked m plan k import args who l os)
  asked_in k import args who l [] va wh h fs =
      let ok = asker_store low who wh in
      (one_note low _ (call_note_in low import args (store_at who) (stack_at m who) None va ok (stack_in low m who wh) tt), ok)
  asked_in k import args who l (refused e ∷ os) va wh h fs =
      ends_in k (call_note import args (store_at who) (stack_at m who) None) e
      (call_note_in low import args (store_at who) (stack_at m who) None va (asker_store low who wh) (stack_in low m who wh) tt) (refusal_in e (All-head OutcomeFits (refused e) os fs))
  asked_in k import args who l (given a ∷ os) va wh h fs =
      let f : AnswerFits a = All-head OutcomeFits (given a) os fs in
      let results = (func_type_at m import).results in
      let size = length (store_at who).memory in
      tested_in k import args who (with_outcomes l os) a (fault_of results size plan (in_start who) import a) va wh (left_outcomes l (given a) os h fs) f
      (fault_in results size plan (in_start who) import a f) (fault_pokes results size plan (in_start who) import a)

  step_turn : (task : Task) (l : Left) (o : Next) → TaskIn task → LeftIn l → NextIn low o → TurnIn (by_step m plan task l o)
  step_turn task l (steps k d) th h ok = (All-nil (NoteIn low), (th, ok, h))
  step_turn task l (asks k import args d) th h ok = asked_in k import args (inside task d) l l.outcomes ok.0 (th, ok.1) h.entries h.outcomes
  step_turn task l (returns k results s) th h ok = back_in k task results s l ok.0 ok.1 h
  step_turn task l (traps k trap s) th h ok = (one_note low _ (note_in low (ended (Trapped trap)) s tt ok), ok)
  step_turn task l stuck th h ok = tt

  enters_in : (e : Entry) (s : Store) (l : Left) (o : Option Func) → EntryIn e → StoreIn low s → LeftIn l → ((f : Func) → o ≡ Some f → CodeFits f.body) → TurnIn (enters e s l o)
  enters_in e s l None eh ok h ff = tt
  enters_in e s l (Some f) eh ok h ff = (All-nil (NoteIn low), (eh, entered_in low s [] e.args e.func f ok (All-nil _) eh (ff f refl), h))

  next_in : (s : Store) (l : Left) (es : List Entry) → StoreIn low s → All EntryIn es → All OutcomeFits l.outcomes → TurnIn (enter_next m s l es)
  next_in s l [] ok h k = tt
  next_in s l (e ∷ es) ok h k =
      enters_in e s (record { number = l.number; entries = es; outcomes = l.outcomes }) (defined_at m e.func) (All-head EntryIn e es h) ok (left_entries l e es h k) (func_in m w e.func)

  start_in : (x : ℕ) (s : Store) (l : Left) (o : Option Func) → StoreIn low s → LeftIn l → ((f : Func) → o ≡ Some f → CodeFits f.body) → TurnIn (start_called m plan x s l o)
  start_in x s l (Some f) ok h ff = (All-nil (NoteIn low), (tt, entered_in low s [] [] x f ok (All-nil _) none_in (ff f refl), h))
  start_in x s l None ok h ff = by_import (ltb x (func_imports m))
    where
      by_import : (b : Bool) → TurnIn (cond b (asked m plan 0 x [] (outermost s) l l.outcomes) stops)
      by_import true = asked_in 0 x [] (outermost s) l l.outcomes none_in ok h.entries h.outcomes
      by_import false = tt

  -- one move of the machine
  pub turn_in : (s : State) → StateIn low s → TurnIn (blocking m plan s)
  turn_in (between s l) h = next_in s l l.entries h.0 h.1.entries h.1.outcomes
  turn_in (begins x s l) h = start_in x s l (defined_at m x) h.0 h.1 (func_in m w x)
  turn_in (runs task c l) h = step_turn task l (step m c) h.0 h.2 (step_in low m w c h.1)
  turn_in (halts s) h = tt

-- ---- whole runs

well_formed_segments : (ss : List Segment) → All SegmentFits ss → All (λ (s : Segment). All byte_in s.bytes) ss
well_formed_segments [] h = All-nil (λ (s : Segment). All byte_in s.bytes)
well_formed_segments (s ∷ ss) h = All-cons (λ (s : Segment). All byte_in s.bytes) s ss (All-head SegmentFits s ss h).bytes (well_formed_segments ss (All-tail SegmentFits s ss h))

well_formed_funcs : (fs : List Func) → All FuncFits fs → All (λ (f : Func). CodeFits f.body) fs
well_formed_funcs [] h = All-nil (λ (f : Func). CodeFits f.body)
well_formed_funcs (f ∷ fs) h = All-cons (λ (f : Func). CodeFits f.body) f fs (All-head FuncFits f fs h).body (well_formed_funcs fs (All-tail FuncFits f fs h))

pub well_formed_in : WellFormedIn
well_formed_in m w = record { funcs = well_formed_funcs m.funcs w.funcs; globals = w.globals; segments = well_formed_segments m.segments w.segments }

-- the memory that is added holds no constants
pub base_codes : (m : Module) → CodesIn m → CodesIn (Base m)
unfolding Base
base_codes m w = record { funcs = w.funcs; globals = w.globals; segments = w.segments }

pub no_store_in : StoreIn 0 no_store
no_store_in = record { globals = none_in; memory = record { each = All-nil byte_in; pages = record { whole = omega arith; bounded = omega arith }; least = omega arith } }

pub whole_store : (low : ℕ) (t : State) → StateIn low t → StoreIn low (store_of t)
whole_store low (between s l) h = h.0
whole_store low (begins x s l) h = h.0
whole_store low (runs task c l) h = h.1.store
whole_store low (halts s) h = h

-- as long as its memory is
state_whole : (t : State) → StateIn 0 t → StateIn (length (store_of t).memory) t
state_whole (between s l) h = (store_whole 0 s h.0, h.1)
state_whole (begins x s l) h = (store_whole 0 s h.0, h.1)
state_whole (runs task c l) h = (h.0, record { store = store_whole 0 c.store h.1.store; here = h.1.here; under = h.1.under }, h.2)
state_whole (halts s) h = store_whole 0 s h

started_in : (low : ℕ) (s : Store) (l : Left) (start : Option ℕ) → StoreIn low s → LeftIn l → All (NoteIn low) (started s l start).events × StateIn low (started s l start).last
started_in low s l None h k = (done_in low s l.entries h, on_in low s l l.entries h k)
started_in low s l (Some x) h k = (All-nil (NoteIn low), (h, k))

begun_in : (low : ℕ) (start : Option ℕ) (l : Left) (o : Opening) → OpeningIn low o → LeftIn l → All (NoteIn 0) (begun start l o).events × StateIn 0 (begun start l o).last
begun_in low start l (fails_as e) h k = (one_note 0 _ (note_in 0 (ended e) no_store h no_store_in), no_store_in)
begun_in low start l (opens s) h k = started_in 0 s l start (store_lower 0 low s (omega arith) h) k

pub blocking_in : BlockingIn
blocking_in m plan os n w p fs =
    let b = base_codes m w in
    let first = begun_in _ (Base m).start (all_left plan os) (opening (Base m) plan.globals) (openings_in (Base m) plan.globals b p.globals) (record { entries = p.entries; outcomes = fs }) in
    after_keeps (blocking (Base m) plan) (StateIn 0) (NoteIn 0) (turn_in (Base m) b plan 0) n (begun (Base m).start (all_left plan os) (opening (Base m) plan.globals)) first

pub blocking_area : BlockingHoldsArea
blocking_area m plan os n s w p area fs e =
    let b = base_codes m w in
    let low = plan.area.at + plan.area.len in
    let l = all_left plan os in
    let size = least_of (all_memories (Base m)) * page_size in
    let opened : StoreIn size s = subst (OpeningIn size) e (openings_in (Base m) plan.globals b p.globals) in
    let first = started_in low s l (Base m).start (store_lower low size s area.inside opened) (record { entries = p.entries; outcomes = fs }) in
    let r = after_keeps (blocking (Base m) plan) (StateIn low) (NoteIn low) (turn_in (Base m) b plan low) n (started s l (Base m).start) first in
    subst (λ (o : Opening). RanKeeps (blocking (Base m) plan) (StateIn low) (NoteIn low) (continued (Base m) plan n (begun (Base m).start l o))) (sym e) r

pub blocking_grows : BlockingMemoryGrows
blocking_grows m plan s t n es w h l =
    let low = length (store_of s).memory in
    leads_keeps (blocking m plan) (StateIn low) (NoteIn low) (turn_in m w plan low) s t n es (state_whole s h) l

pub blocking_later : BlockingLater
blocking_later m plan os n more w p fs =
    let b = base_codes m w in
    let o = opening (Base m) plan.globals in
    let start = begun (Base m).start (all_left plan os) o in
    let first = begun_in _ (Base m).start (all_left plan os) o (openings_in (Base m) plan.globals b p.globals) (record { entries = p.entries; outcomes = fs }) in
    let r = after_keeps (blocking (Base m) plan) (StateIn 0) (NoteIn 0) (turn_in (Base m) b plan 0) n start first in
    let low = length (store_of (Blocking m plan os n).last).memory in
    let more_in = later_keeps (blocking (Base m) plan) (StateIn low) (NoteIn low) (turn_in (Base m) b plan low) n more start (state_whole (Blocking m plan os n).last r.1) in
    (more_in.0, more_in.1, more_in.2, whole_store low (Blocking m plan os (n + more)).last more_in.3)
