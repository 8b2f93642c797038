-- A module and what runs see of it make the same runs, with blocking imports and under the protocol.
use Rattle.std.proofs.Common.{◌≡◌, ℕ, zero, suc, ◌-◌, List, [], ◌∷◌, map, Option, Some, None, refl, ap, ◌∙◌, length}
use Rattle.std.specs.Prelude.{nat_lt, if◌then◌else◌}
use Rattle.std.specs.Option.{option_map}
use Rattle.wa_types.specs.declared.values.Value.{Value}
use Rattle.wa_types.specs.Syntax.{FuncType, Func, Module}
use Rattle.wa_types.specs.Base.{Base}
use Rattle.wa_types.specs.Modules.{func_imports, func_type_at, defined_at}
use Rattle.wa_model.specs.declared.events.End.{End}
use Rattle.wa_model.specs.Outside.{Answer}
use Rattle.wa_model.specs.Machine.{Turn, stops, goes, Ran, after, still, pay, run_with, run}
use Rattle.wa_model.specs.Store.{Store}
use Rattle.wa_model.specs.Step.{Next, steps, asks, returns, traps, stuck, zero_of, step}
use Rattle.wa_model.specs.Plan.{Entry, Plan, Outcome, given, refused}
use Rattle.wa_model.specs.Instantiation.{opening}
use Rattle.wa_model.specs.Blocking.{Note, call_note, ends_at_call, go_on, pause_of, poked, fault_of, resumed, Task, the_start, an_entry, Left, with_outcomes, Asker, inside, outermost}
use Rattle.wa_model.specs.Blocking.{store_at, stack_at, in_start, State, between, begins, runs, halts, tested, asked, by_step, enters, enter_next, start_called, blocking, all_left, begun}
use Rattle.wa_model.specs.Blocking.{continued}
use Rattle.wa_model.specs.Protocol.{Exports, exports_of, Phase, is_running, unwinds, rewinds, Then, give_zero, test_unwound, pause_there, call_again, test_rewound, give_answer, Held, free}
use Rattle.wa_model.specs.Protocol.{starting, busy, calling, aside, entering, over, held_given, held_ends, held_pauses, held_tested, held_asked, busy_step, aside_back, aside_step}
use Rattle.wa_model.specs.Protocol.{busy_enters, held_next, aside_called, held_start, protocol, held_begun, held_continued}
use Rattle.norm_laws.specs.Bare.{one_by_one, bare}
use Rattle.norm_laws.specs.Norms.{BareSteps, BareBlocking, BareProtocol}
use Rattle.norm_laws.proofs.BareSteps.{entered_same, types_same, defined_same, stack_same, step_same}

-- ---- machines with the same moves

module _ {S E : Type 0} (next next' : S → Turn S E) (same : (s : S) → next s ≡ next' s) where
  run_with_same : (count n : ℕ) (s : S) → run_with next count n s ≡ run_with next' count n s
  run_with_same zero n s = refl
  run_with_same (suc count) n s = by_turn (run_with_same count) (next s) ∙ ap (pay (run_with next' count) n s) (same s)
    where
      by_turn : ((n : ℕ) (s : S) → run_with next count n s ≡ run_with next' count n s) → (t : Turn S E) → pay (run_with next count) n s t ≡ pay (run_with next' count) n s t
      by_turn more stops = refl
      by_turn more (goes k es t) = ap (λ r. if nat_lt k n then after es r else still s) (more (n - suc k) t)

  run_same : (n : ℕ) (s : S) → run next n s ≡ run next' n s
  run_same n s = run_with_same n n s

module _ (m : Module) (plan : Plan) where
  stack_at_same : (w : Asker) → stack_at (bare m) w ≡ stack_at m w
  stack_at_same (inside task c) = stack_same m c
  stack_at_same (outermost s) = refl

  -- ---- blocking imports

  tested_same : (k import : ℕ) (args : List Value) (w : Asker) (l : Left) (a : Answer) (o : Option End) → tested (bare m) k import args w l a o ≡ tested m k import args w l a o
  tested_same k import args w l a (Some e) = ap (λ st. ends_at_call k (call_note import args (store_at w) st None) e) (stack_at_same w)
  tested_same k import args w l a None = ap (λ st. go_on k (call_note import args (store_at w) st (pause_of a.ticks)) a.said (poked (store_at w) a.pokes) l w) (stack_at_same w)

  asked_same : (k import : ℕ) (args : List Value) (w : Asker) (l : Left) (os : List Outcome) → asked (bare m) plan k import args w l os ≡ asked m plan k import args w l os
  asked_same k import args w l [] = ap (λ st. goes k (call_note import args (store_at w) st None ∷ []) (halts (store_at w))) (stack_at_same w)
  asked_same k import args w l (refused e ∷ os) = ap (λ st. ends_at_call k (call_note import args (store_at w) st None) e) (stack_at_same w)
  asked_same k import args w l (given a ∷ os) =
      ap (λ (t : FuncType). tested (bare m) k import args w (with_outcomes l os) a (fault_of t.results (length (store_at w).memory) plan (in_start w) import a)) (types_same m import)
      ∙ tested_same k import args w (with_outcomes l os) a (fault_of (func_type_at m import).results (length (store_at w).memory) plan (in_start w) import a)

  by_step_same : (task : Task) (l : Left) (o : Next) → by_step (bare m) plan task l o ≡ by_step m plan task l o
  by_step_same task l (steps k d) = refl
  by_step_same task l (asks k import args d) = asked_same k import args (inside task d) l l.outcomes
  by_step_same task l (returns k results s) = refl
  by_step_same task l (traps k trap s) = refl
  by_step_same task l stuck = refl

  enters_same : (e : Entry) (s : Store) (l : Left) (o : Option Func) → enters e s l (option_map one_by_one o) ≡ enters e s l o
  enters_same e s l None = refl
  enters_same e s l (Some f) = ap (λ c. goes (length e.args) [] (runs (an_entry e) c l)) (entered_same s [] e.args e.func f)

  enter_next_same : (s : Store) (l : Left) (es : List Entry) → enter_next (bare m) s l es ≡ enter_next m s l es
  enter_next_same s l [] = refl
  enter_next_same s l (e ∷ es) =
      let left : Left = record { number = l.number; entries = es; outcomes = l.outcomes } in
      ap (enters e s left) (defined_same m e.func) ∙ enters_same e s left (defined_at m e.func)

  start_same : (x : ℕ) (s : Store) (l : Left) (o : Option Func) → start_called (bare m) plan x s l (option_map one_by_one o) ≡ start_called m plan x s l o
  start_same x s l (Some f) = ap (λ c. goes 0 [] (runs the_start c l)) (entered_same s [] [] x f)
  start_same x s l None = ap (λ t. if nat_lt x (func_imports m) then t else stops) (asked_same 0 x [] (outermost s) l l.outcomes)

  blocking_same : (s : State) → blocking (bare m) plan s ≡ blocking m plan s
  blocking_same (between s l) = enter_next_same s l l.entries
  blocking_same (begins x s l) = ap (start_called (bare m) plan x s l) (defined_same m x) ∙ start_same x s l (defined_at m x)
  blocking_same (runs task c l) = ap (by_step (bare m) plan task l) (step_same m c) ∙ by_step_same task l (step m c)
  blocking_same (halts s) = refl

  continued_same : (n : ℕ) (r : Ran State Note) → continued (bare m) plan n r ≡ continued m plan n r
  continued_same n r = ap (after r.events) (run_same (blocking (bare m) plan) (blocking m plan) blocking_same n r.last)

  -- ---- the protocol

  module _ (x : Exports) where
    held_tested_same : (k import : ℕ) (args : List Value) (w : Asker) (l : Left) (a : Answer) (o : Option End) (pause : Option ℕ)
        → held_tested (bare m) x plan k import args w l a o pause ≡ held_tested m x plan k import args w l a o pause
    held_tested_same k import args w l a (Some e) pause = ap (λ st. held_ends k (call_note import args (store_at w) st None) e) (stack_at_same w)
    held_tested_same k import args w l a None None = ap (λ st. held_given k (call_note import args (store_at w) st None) a.said (poked (store_at w) a.pokes) l w) (stack_at_same w)
    held_tested_same k import args w l a None (Some ticks) = ap (λ st. held_pauses x plan k (call_note import args (store_at w) st (Some ticks)) import a l w) (stack_at_same w)

    held_asked_same : (k import : ℕ) (args : List Value) (w : Asker) (l : Left) (os : List Outcome) → held_asked (bare m) x plan k import args w l os ≡ held_asked m x plan k import args w l os
    held_asked_same k import args w l [] = ap (λ st. goes k (call_note import args (store_at w) st None ∷ []) (over (store_at w))) (stack_at_same w)
    held_asked_same k import args w l (refused e ∷ os) = ap (λ st. held_ends k (call_note import args (store_at w) st None) e) (stack_at_same w)
    held_asked_same k import args w l (given a ∷ os) =
        ap (λ (t : FuncType). held_tested (bare m) x plan k import args w (with_outcomes l os) a (fault_of t.results (length (store_at w).memory) plan (in_start w) import a) (pause_of a.ticks))
        (types_same m import)
        ∙ held_tested_same k import args w (with_outcomes l os) a (fault_of (func_type_at m import).results (length (store_at w).memory) plan (in_start w) import a) (pause_of a.ticks)

    busy_step_same : (ph : Phase) (l : Left) (o : Next) → busy_step (bare m) x plan ph l o ≡ busy_step m x plan ph l o
    busy_step_same ph l (steps k d) = refl
    busy_step_same (is_running task) l (asks k import args d) = held_asked_same k import args (inside task d) l l.outcomes
    busy_step_same (unwinds e i a) l (asks k import args d) = refl
    busy_step_same (rewinds e i a sp) l (asks k import args d) = refl
    busy_step_same (is_running task) l (returns k results s) = refl
    busy_step_same (unwinds e i a) l (returns k results s) = refl
    busy_step_same (rewinds e i a sp) l (returns k results s) = refl
    busy_step_same ph l (traps k trap s) = refl
    busy_step_same ph l stuck = refl

    aside_back_same : (k : ℕ) (ph : Phase) (th : Then) (l : Left) (results : List Value) (s : Store) → aside_back (bare m) x plan k ph th l results s ≡ aside_back m x plan k ph th l results s
    aside_back_same k (unwinds e i a) (give_zero c) l results s = ap (λ (t : FuncType). goes k [] (busy (unwinds e i a) (resumed c s (map zero_of t.results)) l)) (types_same m i)
    aside_back_same k (unwinds e i a) test_unwound l results s = refl
    aside_back_same k (unwinds e i a) pause_there l results s = refl
    aside_back_same k (rewinds e i a sp) call_again l results s = refl
    aside_back_same k (rewinds e i a sp) (test_rewound c) l results s = refl
    aside_back_same k (rewinds e i a sp) (give_answer c) l results s = refl
    aside_back_same k _ _ l results s = refl

    aside_step_same : (ph : Phase) (th : Then) (l : Left) (o : Next) → aside_step (bare m) x plan ph th l o ≡ aside_step m x plan ph th l o
    aside_step_same ph th l (steps k d) = refl
    aside_step_same ph th l (asks k import args d) = refl
    aside_step_same ph th l (returns k results s) = aside_back_same k ph th l results s
    aside_step_same ph th l (traps k trap s) = refl
    aside_step_same ph th l stuck = refl

    busy_enters_same : (ph : Phase) (e : Entry) (s : Store) (l : Left) (o : Option Func) → busy_enters ph e s l (option_map one_by_one o) ≡ busy_enters ph e s l o
    busy_enters_same ph e s l None = refl
    busy_enters_same ph e s l (Some f) = ap (λ c. goes (length e.args) [] (busy ph c l)) (entered_same s [] e.args e.func f)

    enters_at : (ph : Phase) (e : Entry) (s : Store) (l : Left) → busy_enters ph e s l (defined_at (bare m) e.func) ≡ busy_enters ph e s l (defined_at m e.func)
    enters_at ph e s l = ap (busy_enters ph e s l) (defined_same m e.func) ∙ busy_enters_same ph e s l (defined_at m e.func)

    held_next_same : (s : Store) (l : Left) (es : List Entry) → held_next (bare m) s l es ≡ held_next m s l es
    held_next_same s l [] = refl
    held_next_same s l (e ∷ es) = enters_at (is_running (an_entry e)) e s (record { number = l.number; entries = es; outcomes = l.outcomes })

    aside_called_same : (ph : Phase) (s : Store) (f : ℕ) (args : List Value) (th : Then) (l : Left) (o : Option Func)
        → aside_called ph s f args th l (option_map one_by_one o) ≡ aside_called ph s f args th l o
    aside_called_same ph s f args th l None = refl
    aside_called_same ph s f args th l (Some g) = ap (λ c. goes (length args) [] (aside ph c th l)) (entered_same s [] args f g)

    held_start_same : (f : ℕ) (s : Store) (l : Left) (o : Option Func) → held_start (bare m) x plan f s l (option_map one_by_one o) ≡ held_start m x plan f s l o
    held_start_same f s l (Some g) = ap (λ c. goes 0 [] (busy (is_running the_start) c l)) (entered_same s [] [] f g)
    held_start_same f s l None = ap (λ t. if nat_lt f (func_imports m) then t else stops) (held_asked_same 0 f [] (outermost s) l l.outcomes)

    protocol_same : (t : Held) → protocol (bare m) x plan t ≡ protocol m x plan t
    protocol_same (free s l) = held_next_same s l l.entries
    protocol_same (starting f s l) = ap (held_start (bare m) x plan f s l) (defined_same m f) ∙ held_start_same f s l (defined_at m f)
    protocol_same (busy ph c l) = ap (busy_step (bare m) x plan ph l) (step_same m c) ∙ busy_step_same ph l (step m c)
    protocol_same (calling ph s f args th l) = ap (aside_called ph s f args th l) (defined_same m f) ∙ aside_called_same ph s f args th l (defined_at m f)
    protocol_same (aside ph c th l) = ap (aside_step (bare m) x plan ph th l) (step_same m c) ∙ aside_step_same ph th l (step m c)
    protocol_same (entering ph e s l) = enters_at ph e s l
    protocol_same (over s) = refl

  held_continued_same : (n : ℕ) (r : Ran Held Note) → held_continued (bare m) plan n r ≡ held_continued m plan n r
  held_continued_same n r = ap (after r.events) (run_same (protocol (bare m) (exports_of m) plan) (protocol m (exports_of m) plan) (protocol_same (exports_of m)) n r.last)

-- ---- whole runs

pub bare_steps : BareSteps
bare_steps = step_same

pub bare_blocking : BareBlocking
unfolding Base
bare_blocking m plan os n = continued_same (Base m) plan n (begun (Base m).start (all_left plan os) (opening (Base m) plan.globals))

pub bare_protocol : BareProtocol
bare_protocol p plan os n = held_continued_same p plan n (held_begun p.start (all_left plan os) (opening p plan.globals))
