-- Along runs with blocking imports each activation stands at a spot; so the stack at each call is lawful.
use Rattle.std.proofs.Common.{arith, ◌≡◌, ℕ, suc, List, [], ◌∷◌, ◌++◌, map, length, drop, Option, Some, None, Bool, true, false, cond, ltb, All, refl, sym, ap, ◌∙◌, subst}
use Rattle.std.specs.Prelude.{slice_get, nat_eq, if◌then◌else◌}
use Rattle.std.specs.Option.{option_to_list}
use Rattle.std.proofs.lemmas.Bool.{and_parts, eqb-true}
use Rattle.std.proofs.lemmas.List.Elements.{All-nil, All-cons, All-head, All-tail, All-append, All-weaker}
use Rattle.wa_types.specs.declared.values.ValType.{ValType}
use Rattle.wa_types.specs.declared.values.Value.{Value}
use Rattle.wa_types.specs.Encoding.{same_type}
use Rattle.wa_types.specs.Base.{Base}
use Rattle.wa_types.specs.Frames.{Suspended}
use Rattle.wa_types.specs.Pruned.{is_last, pruned}
use Rattle.wa_types.specs.Pausing.{Callee, callee, calls_in}
use Rattle.wa_types.specs.Syntax.{Code, done, plain, nest, branch, FuncType, Func, Module}
use Rattle.wa_types.specs.Typing.{Around, listed, label, sig, type_of, Types}
use Rattle.wa_types.specs.Points.{after, unless_last, if_call, call_points, func_call_points}
use Rattle.wa_types.specs.Validity.{is_empty_type, start_fits, Valid}
use Rattle.wa_types.specs.Modules.{imported, imported_global, func_imports, func_types, func_type_at, or_empty, locals_of, around, defined_at}
use Rattle.wa_types.proofs.PointLemmas.{takes_after, passes}
use Rattle.wa_types.proofs.TypingLemmas.{pruned_types}
use Rattle.wa_types.specs.declared.values.Trap.TheVariants.{Import}
use Rattle.wa_model.specs.declared.answers.Said.{Said}
use Rattle.wa_model.specs.declared.answers.Said.TheVariants as S
use Rattle.wa_model.specs.Operate.{are_of}
use Rattle.wa_model.specs.declared.events.End.{End}
use Rattle.wa_model.specs.declared.events.End.TheVariants.{Trapped}
use Rattle.wa_model.specs.Outside.{Answer, answered, ended}
use Rattle.wa_model.specs.Machine.{Turn, stops}
use Rattle.wa_model.specs.Store.{Store}
use Rattle.wa_model.specs.Configuration.{Activation, place_of, suspended}
use Rattle.wa_model.specs.Step.{Next, steps, asks, returns, traps, stuck, step}
use Rattle.wa_model.specs.Plan.{Entry, EntryFits, Plan, Outcome, given, refused, Fits}
use Rattle.wa_model.specs.Instantiation.{Opening, fails_as, opens, opening}
use Rattle.wa_model.specs.Blocking.{Note, note, call_note, answers, bad_value, or_else, fault_of, pause_of, poked, done_notes, import_traps, Task, the_start, an_entry, Left, with_outcomes, Asker, inside, outermost, store_at, stack_at, in_start, State, between, begins, runs, halts, on_to, next_entry, task_back, go_on, tested, asked, by_step, enters, enter_next, start_called, blocking, all_left, started, begun, continued, Blocking}
use Rattle.run_theory.specs.Fitting.{types_of, results_of, global_types, StoreFits}
use Rattle.run_theory.specs.LawfulStacks.{SuspendedIn, LawfulActivation}
use Rattle.run_theory.proofs.Invariants.{TurnKeeps, RanKeeps, after_keeps}
use Rattle.run_theory.proofs.FittingNames.{same_true, results_are}
use Rattle.run_theory.proofs.FittingSteps.{body_typed}
use Rattle.run_theory.proofs.FittingOpenings.{openings_fit}
use Rattle.run_theory.proofs.BaseValid.{base_valid, base_wider}
use Rattle.run_theory.proofs.WiderTyping.{Wider, takes_wider}
use Rattle.run_laws.specs.FittingStates.{SaidTyped}
use Rattle.run_laws.specs.Ranges.{NoteIn}
use Rattle.run_laws.proofs.BlockingRuns.{well_formed_in, blocking_in}
use Rattle.run_laws.proofs.ProtocolRuns.{fits_in}
use Rattle.run_laws.specs.Lawful.{StacksAreLawful, StandsBehind, CodeStandsBehind}
use Rattle.run_laws.proofs.SpotPlaces.{at_call}
use Rattle.run_laws.proofs.SpotSteps.{WaitsAtSpot, CallersAtSpots, ConfigurationAtSpots, WaitingAtSpots, NextAtSpots, goes_on_behind, entered_spot, steps_spot}

-- ---- suspended activations

-- A suspended activation at a call, over operands of the types of its point.
pub record ActAtPoint (m : Module) (a : Suspended) : Type 0 where
  pub func : Func
  pub defined : defined_at m a.func ≡ Some func
  pub call : Callee
  pub place : slice_get (calls_in func) a.place ≡ Some call
  pub locals : types_of a.locals ≡ locals_of m func
  pub operands : slice_get (func_call_points m func) a.place ≡ Some (types_of a.operands)

at_point : (m : Module) (fn : ℕ) (a : Activation) → WaitsAtSpot m fn a → ActAtPoint m (suspended m a)
at_point m fn a w =
    let k = at_call m w.func w.results a.labels w.call a.code w.own w.below w.callee w.callee_is w.spot in
    let here : place_of (defined_at m a.func) a.code a.labels ≡ place_of (Some w.func) a.code a.labels = ap (λ o. place_of o a.code a.labels) w.func_is in
    record {
      func = w.func;
      defined = w.func_is;
      call = w.callee;
      place = ap (slice_get (calls_in w.func)) here ∙ k.callee;
      locals = w.locals_fit;
      operands = ap (slice_get (func_call_points m w.func)) here ∙ k.operands ∙ ap (λ ts. Some ts) (sym w.before);
    }

stack_points : (m : Module) (fn : ℕ) (stack : List Activation) → CallersAtSpots m fn stack → All (ActAtPoint m) (map (suspended m) stack)
stack_points m fn [] h = All-nil (ActAtPoint m)
stack_points m fn (a ∷ stack) h = All-cons (ActAtPoint m) (suspended m a) (map (suspended m) stack) (at_point m fn a h.0) (stack_points m a.func stack h.1)

stack_behind : (m : Module) (fn : ℕ) (stack : List Activation) → CallersAtSpots m fn stack → All (StandsBehind m) stack
stack_behind m fn [] h = All-nil (StandsBehind m)
stack_behind m fn (a ∷ stack) h =
    let w = h.0 in
    let k = at_call m w.func w.results a.labels w.call a.code w.own w.below w.callee w.callee_is w.spot in
    All-cons (StandsBehind m) a stack (w.func, w.func_is, k.behind) (stack_behind m a.func stack h.1)

-- ---- values that are given

-- an answer that passes its test has the types of the results
pub answer_typed : (results : List ValType) (value : Option Value) → answers results value ≡ true → types_of (option_to_list value) ≡ results
answer_typed [] None e = refl
answer_typed [] (Some v) e = cc
answer_typed (t ∷ []) None e = cc
answer_typed (t ∷ []) (Some v) e = ap (λ u. u ∷ []) (sym (same_true t (type_of v) e))
answer_typed (t ∷ u ∷ ts) value e = cc

pub or_else_first : (a b : Option End) → or_else a b ≡ None → a ≡ None
or_else_first None b e = refl
or_else_first (Some x) b e = cc

pub test_passed : (b : Bool) (e : End) → (if b then None else Some e) ≡ None → b ≡ true
test_passed true e h = refl
test_passed false e h = cc

-- what passes its test is said of the import's result
pub said_typed : (m : Module) (import : ℕ) (results : List ValType) (said : Said) → results_of m import ≡ results → bad_value results import said ≡ None → SaidTyped m import said
said_typed m import results (S.Value v) e passed = answer_typed results v (test_passed (answers results v) _ passed) ∙ sym e
said_typed m import results S.Trap e passed = tt

pub listed_typed : (types : List ValType) (values : List Value) → are_of types values ≡ true → types_of values ≡ types
listed_typed [] [] e = refl
listed_typed [] (v ∷ values) e = cc
listed_typed (t ∷ types) [] e = cc
listed_typed (t ∷ types) (v ∷ values) e =
    let b = and_parts (same_type t (type_of v)) (are_of types values) e in ap (λ u. u ∷ types_of values) (sym (same_true t (type_of v) b.0)) ∙ ap (λ ts. t ∷ ts) (listed_typed types values b.1)

-- the start function takes nothing
pub start_takes_none : (m : Module) (x : ℕ) → Valid m → m.start ≡ Some x → (func_type_at m x).params ≡ []
start_takes_none m x v e = by_type (slice_get (func_types m) x) (ap (λ o. start_fits o (func_types m)) (sym e) ∙ v.start)
  where
    no_items : (ts : List ValType) → nat_eq (length ts) 0 ≡ true → ts ≡ []
    no_items [] h = refl
    no_items (t ∷ ts) h = let z : suc (length ts) ≡ 0 = eqb-true (suc (length ts)) 0 h in absurd (omega (arith, z))

    by_type : (o : Option FuncType) → is_empty_type o ≡ true → (or_empty o).params ≡ []
    by_type None h = cc
    by_type (Some t) h = no_items t.params (and_parts (nat_eq (length t.params) 0) (nat_eq (length t.results) 0) h).0

-- ---- the machine

module _ (b : Module) (v : Valid b) (plan : Plan) where
  abbrev EntryTyped : Entry → Type 0
  EntryTyped e = types_of e.args ≡ (func_type_at b e.func).params

  abbrev LeftTyped : Left → Type 0
  LeftTyped l = All EntryTyped l.entries

  abbrev StateAtSpots : State → Type 0
  StateAtSpots (between s l) = StoreFits b s × LeftTyped l
  StateAtSpots (begins x s l) = StoreFits b s × ((func_type_at b x).params ≡ []) × LeftTyped l
  StateAtSpots (runs task c l) = ConfigurationAtSpots b c × LeftTyped l
  StateAtSpots (halts s) = Unit {0}

  abbrev NoteAtPoints : Note → Type 0
  NoteAtPoints x = All (ActAtPoint b) x.stack

  abbrev TurnAtSpots : Turn State Note → Type 0
  TurnAtSpots t = TurnKeeps (blocking b plan) StateAtSpots NoteAtPoints t

  abbrev AskerAtSpots : ℕ → Asker → Type 0
  AskerAtSpots import (inside task c) = WaitingAtSpots b import c
  AskerAtSpots import (outermost s) = StoreFits b s

  none : All (ActAtPoint b) []
  none = All-nil (ActAtPoint b)

  one : (x : Note) → NoteAtPoints x → All NoteAtPoints (x ∷ [])
  one x h = All-cons NoteAtPoints x [] h (All-nil NoteAtPoints)

  two : (x y : Note) → NoteAtPoints x → NoteAtPoints y → All NoteAtPoints (x ∷ y ∷ [])
  two x y h k = All-cons NoteAtPoints x (y ∷ []) h (one y k)

  done_points : (s : Store) (es : List Entry) → All NoteAtPoints (done_notes s es)
  done_points s [] = one _ none
  done_points s (e ∷ es) = All-nil NoteAtPoints

  on_spots : (s : Store) (l : Left) (es : List Entry) → StoreFits b s → LeftTyped l → StateAtSpots (on_to s l es)
  on_spots s l [] so h = tt
  on_spots s l (e ∷ es) so h = (so, h)

  back_spots : (k : ℕ) (task : Task) (results : List Value) (s : Store) (l : Left) → StoreFits b s → LeftTyped l → TurnAtSpots (task_back k task results s l)
  back_spots k the_start results s l so h = (done_points s l.entries, on_spots s l l.entries so h)
  back_spots k (an_entry e) results s l so h = (All-cons NoteAtPoints _ _ none (done_points s l.entries), on_spots s (next_entry l) l.entries so h)

  asker_store : (import : ℕ) (who : Asker) → AskerAtSpots import who → StoreFits b (store_at who)
  asker_store import (inside task c) w = w.store
  asker_store import (outermost s) w = w

  asker_points : (import : ℕ) (who : Asker) → AskerAtSpots import who → All (ActAtPoint b) (stack_at b who)
  asker_points import (inside task c) w = stack_points b import (c.here ∷ c.under) w.waits
  asker_points import (outermost s) w = none

  go_on_spots : (k import : ℕ) (x : Note) (said : Said) (s : Store) (l : Left) (who : Asker) → NoteAtPoints x → StoreFits b s → SaidTyped b import said
      → LeftTyped l → AskerAtSpots import who → TurnAtSpots (go_on k x said s l who)
  go_on_spots k import x (S.Value value) s l (inside task c) nx so e h w =
      let stack = w.waits in
      (two x _ nx none, (record { store = so; here = goes_on_behind b import c.here (option_to_list value) stack.0 e; under = stack.1 }, h))
  go_on_spots k import x (S.Value value) s l (outermost old) nx so e h w =
      (All-append NoteAtPoints (x ∷ note (answered (S.Value value)) s ∷ []) (done_notes s l.entries) (two x _ nx none) (done_points s l.entries), on_spots s l l.entries so h)
  go_on_spots k import x S.Trap s l who nx so e h w =
      (All-cons NoteAtPoints x (import_traps s) nx (two (note (answered S.Trap) s) (note (ended (Trapped Import)) s) none none), tt)

  poked_fits : (s : Store) (a : Answer) → StoreFits b s → StoreFits b (poked s a.pokes)
  poked_fits s a so = record { globals = so.globals; table = so.table }

  tested_spots : (k import : ℕ) (args : List Value) (who : Asker) (l : Left) (a : Answer) (o : Option End) → LeftTyped l → AskerAtSpots import who
      → (o ≡ None → SaidTyped b import a.said) → TurnAtSpots (tested b k import args who l a o)
  tested_spots k import args who l a (Some e) h w typed = (two _ _ (asker_points import who w) none, tt)
  tested_spots k import args who l a None h w typed =
      go_on_spots k import (call_note import args (store_at who) (stack_at b who) (pause_of a.ticks)) a.said (poked (store_at who) a.pokes) l who
      (asker_points import who w) (poked_fits (store_at who) a (asker_store import who w)) (typed refl) h w

  asked_spots : (k import : ℕ) (args : List Value) (who : Asker) (l : Left) (os : List Outcome) → LeftTyped l → AskerAtSpots import who → TurnAtSpots (asked b plan k import args who l os)
  asked_spots k import args who l [] h w = (one _ (asker_points import who w), tt)
  asked_spots k import args who l (refused e ∷ os) h w = (two _ _ (asker_points import who w) none, tt)
  asked_spots k import args who l (given a ∷ os) h w =
      let results : List ValType = (func_type_at b import).results in
      tested_spots k import args who (with_outcomes l os) a (fault_of results (length (store_at who).memory) plan (in_start who) import a) h w
      (λ passed. said_typed b import results a.said (results_are b v import) (or_else_first _ _ passed))

  step_spots : (task : Task) (l : Left) (o : Next) → LeftTyped l → NextAtSpots b o → TurnAtSpots (by_step b plan task l o)
  step_spots task l (steps k d) h n = (All-nil NoteAtPoints, (n, h))
  step_spots task l (asks k import args d) h n = asked_spots k import args (inside task d) l l.outcomes h n
  step_spots task l (returns k results s) h n = back_spots k task results s l n h
  step_spots task l (traps k trap s) h n = (one _ none, tt)
  step_spots task l stuck h n = tt

  enters_spots : (x : Entry) (s : Store) (l : Left) (o : Option Func) → StoreFits b s → EntryTyped x → LeftTyped l → defined_at b x.func ≡ o → TurnAtSpots (enters x s l o)
  enters_spots x s l None so e h there = tt
  enters_spots x s l (Some f) so e h there = (All-nil NoteAtPoints, (entered_spot b v s so [] x.args x.func f there e tt, h))

  next_spots : (s : Store) (l : Left) (es : List Entry) → StoreFits b s → All EntryTyped es → TurnAtSpots (enter_next b s l es)
  next_spots s l [] so h = tt
  next_spots s l (x ∷ es) so h =
      enters_spots x s (record { number = l.number; entries = es; outcomes = l.outcomes }) (defined_at b x.func) so (All-head EntryTyped x es h) (All-tail EntryTyped x es h) refl

  start_spots : (x : ℕ) (s : Store) (l : Left) (o : Option Func) → StoreFits b s → (func_type_at b x).params ≡ [] → LeftTyped l → defined_at b x ≡ o → TurnAtSpots (start_called b plan x s l o)
  start_spots x s l (Some f) so e h there = (All-nil NoteAtPoints, (entered_spot b v s so [] [] x f there (sym e) tt, h))
  start_spots x s l None so e h there = by_import (ltb x (func_imports b))
    where
      by_import : (t : Bool) → TurnAtSpots (cond t (asked b plan 0 x [] (outermost s) l l.outcomes) stops)
      by_import true = asked_spots 0 x [] (outermost s) l l.outcomes h so
      by_import false = tt

  turn_spots : (t : State) → StateAtSpots t → TurnAtSpots (blocking b plan t)
  turn_spots (between s l) h = next_spots s l l.entries h.0 h.1
  turn_spots (begins x s l) h = start_spots x s l (defined_at b x) h.0 h.1 h.2 refl
  turn_spots (runs task c l) h = step_spots task l (step b c) h.1 (steps_spot b c v h.0)
  turn_spots (halts s) h = tt

  begun_spots : (l : Left) (o : Opening) (start : Option ℕ) (n : ℕ) → LeftTyped l → ((s : Store) → o ≡ opens s → StoreFits b s) → ((x : ℕ) → start ≡ Some x → (func_type_at b x).params ≡ [])
      → RanKeeps (blocking b plan) StateAtSpots NoteAtPoints (continued b plan n (begun start l o))
  begun_spots l (fails_as e) start n h so st = after_keeps (blocking b plan) StateAtSpots NoteAtPoints turn_spots n (begun start l (fails_as e)) (one _ none, tt)
  begun_spots l (opens s) start n h so st = by_start start st
    where
      by_start : (o : Option ℕ) → ((x : ℕ) → o ≡ Some x → (func_type_at b x).params ≡ []) → RanKeeps (blocking b plan) StateAtSpots NoteAtPoints (continued b plan n (started s l o))
      by_start None r = after_keeps (blocking b plan) StateAtSpots NoteAtPoints turn_spots n (started s l None) (done_points s l.entries, on_spots s l l.entries (so s refl) h)
      by_start (Some x) r = after_keeps (blocking b plan) StateAtSpots NoteAtPoints turn_spots n (started s l (Some x)) (All-nil NoteAtPoints, (so s refl, r x refl, h))

-- ---- whole runs

pub base_globals : (m : Module) → imported imported_global (Base m) ≡ imported imported_global m
unfolding Base
base_globals m = refl

pub base_type : (m : Module) (x : ℕ) → func_type_at (Base m) x ≡ func_type_at m x
unfolding Base
base_type m x = refl

pub base_defined : (m : Module) (x : ℕ) → defined_at (Base m) x ≡ defined_at m x
unfolding Base
base_defined m x = refl

base_locals : (m : Module) (f : Func) → locals_of (Base m) f ≡ locals_of m f
unfolding Base
base_locals m f = refl

whole_run : (m : Module) (plan : Plan) (os : List Outcome) (n : ℕ) (v : Valid m) → Fits m plan
    → RanKeeps (blocking (Base m) plan) (StateAtSpots (Base m) (base_valid m v) plan) (NoteAtPoints (Base m) (base_valid m v) plan) (Blocking m plan os n)
whole_run m plan os n v fits =
    let b : Module = Base m in
    let vb = base_valid m v in
    let globals : types_of plan.globals ≡ global_types (imported imported_global b) = listed_typed _ plan.globals fits.globals.typed ∙ ap global_types (sym (base_globals m)) in
    begun_spots b vb plan (all_left plan os) (opening b plan.globals) b.start n
    (All-weaker (EntryFits m) (EntryTyped b vb plan) (λ e h. entry_typed m e h) plan.entries fits.entries)
    (λ s e. openings_fit b plan.globals s vb globals e) (λ x e. start_takes_none b x vb e)
  where
    entry_typed : (m : Module) (e : Entry) → EntryFits m e → types_of e.args ≡ (func_type_at (Base m) e.func).params
    entry_typed m e h = listed_typed (func_type_at m e.func).params e.args h.args.typed ∙ ap (λ (t : FuncType). t.params) (sym (base_type m e.func))

-- ---- operands at calls, in the module without the memory

points_same : (c d : Around) (w : Wider c d) (ls : List (Option ValType)) (k : Code) (outs under ops : List ValType)
    → Types c ls k outs ops → call_points c ls k under ops ≡ call_points d ls k under ops
unfolding call_points Types
points_same c d w ls done outs under ops t = refl
points_same c d w ls (plain p rest) outs under ops t = by_last (is_last p) refl (points_same c d w ls rest outs under t.0 t.2)
  where
    by_last : (b : Bool) → is_last p ≡ b → call_points c ls rest under t.0 ≡ call_points d ls rest under t.0
        → if_call (callee p) (ops ++ under) ++ unless_last b (call_points c ls rest under (after (sig c ls p) ops)) ≡ if_call (callee p) (ops ++ under) ++ unless_last b
        (call_points d ls rest under (after (sig d ls p) ops))
    by_last true e h = refl
    by_last false e h =
        let left = takes_after (sig c ls p) ops t.0 (passes c ls p e) t.1 in
        let right = takes_after (sig d ls p) ops t.0 (passes d ls p e) (takes_wider c d w ops t.0 ls p t.1) in
        ap (λ xs. if_call (callee p) (ops ++ under) ++ xs) (ap (call_points c ls rest under) (sym left) ∙ h ∙ ap (call_points d ls rest under) right)
points_same c d w ls (nest s r body rest) outs under ops t =
    ap (λ xs. xs ++ call_points c ls rest under (listed r ++ ops)) (points_same c d w (label s r ∷ ls) body (listed r) (ops ++ under) [] t.0)
    ∙ ap (λ xs. call_points d (label s r ∷ ls) body (ops ++ under) [] ++ xs) (points_same c d w ls rest outs under (listed r ++ ops) t.1)
points_same c d w ls (branch r a b rest) outs under ops t =
    let e : t.0 ≡ drop 1 ops = sym (ap (drop 1) t.1) in
    let behind = subst (λ xs. Types c ls rest outs (listed r ++ xs)) e t.4 in
    ap (λ xs. xs ++ (call_points c (r ∷ ls) b (drop 1 ops ++ under) [] ++ call_points c ls rest under (listed r ++ drop 1 ops))) (points_same c d w (r ∷ ls) a (listed r) (drop 1 ops ++ under) [] t.2)
    ∙ ap (λ xs. call_points d (r ∷ ls) a (drop 1 ops ++ under) [] ++ (xs ++ call_points c ls rest under (listed r ++ drop 1 ops)))
    (points_same c d w (r ∷ ls) b (listed r) (drop 1 ops ++ under) [] t.3)
    ∙ ap (λ xs. call_points d (r ∷ ls) a (drop 1 ops ++ under) [] ++ (call_points d (r ∷ ls) b (drop 1 ops ++ under) [] ++ xs)) (points_same c d w ls rest outs under (listed r ++ drop 1 ops) behind)

func_points_same : (m : Module) (v : Valid m) (x : ℕ) (f : Func) → defined_at m x ≡ Some f → func_call_points m f ≡ func_call_points (Base m) f
func_points_same m v x f is =
    let c : Around = around m f in
    let d : Around = around (Base m) f in
    let w = base_wider m f in
    points_same c d w (c.result ∷ []) (pruned f.body) (listed c.result) [] [] (pruned_types c (c.result ∷ []) f.body (listed c.result) [] (body_typed m v x f is))
    ∙ ap (λ r. call_points d (r ∷ []) (pruned f.body) [] []) (sym w.result)

-- ---- lawful stacks

both : {X : Type 0} (P Q R : X → Type 0) → ((x : X) → P x → Q x → R x) → (xs : List X) → All P xs → All Q xs → All R xs
both P Q R f [] h k = All-nil R
both P Q R f (x ∷ xs) h k = All-cons R x xs (f x (All-head P x xs h) (All-head Q x xs k)) (both P Q R f xs (All-tail P x xs h) (All-tail Q x xs k))

lawful : (m : Module) (v : Valid m) (a : Suspended) → ActAtPoint (Base m) a → SuspendedIn a → LawfulActivation m a
lawful m v a p r =
    let is : defined_at m a.func ≡ Some p.func = sym (base_defined m a.func) ∙ p.defined in
    record {
      func = p.func;
      defined = is;
      call = p.call;
      place = p.place;
      locals = p.locals ∙ base_locals m p.func;
      operands = ap (λ xs. slice_get xs a.place) (func_points_same m v a.func p.func is) ∙ p.operands;
      values = r;
    }

pub stacks_lawful : StacksAreLawful
stacks_lawful m plan os n sizes v fits outcomes =
    let b : Module = Base m in
    let points = (whole_run m plan os n v fits).0 in
    let ranges = (blocking_in m plan os n (well_formed_in m sizes) (fits_in m plan fits) outcomes).0 in
    both (NoteAtPoints b (base_valid m v) plan) (NoteIn 0) (λ (x : Note). All (LawfulActivation m) x.stack)
    (λ x p r. both (ActAtPoint b) SuspendedIn (LawfulActivation m) (λ a q s. lawful m v a q s) x.stack p r.stack) (Blocking m plan os n).events points ranges

base_behind : (m : Module) (a : Activation) → StandsBehind (Base m) a → StandsBehind m a
base_behind m a h = (h.0, sym (base_defined m a.func) ∙ h.1, h.2)

pub code_stands_behind : CodeStandsBehind
code_stands_behind m plan os n task c d l k import args v fits at next =
    let b : Module = Base m in
    let vb = base_valid m v in
    let here = subst (StateAtSpots b vb plan) at (whole_run m plan os n v fits).1 in
    let waits = subst (NextAtSpots b) next (steps_spot b c vb here.0) in
    All-weaker (StandsBehind b) (StandsBehind m) (base_behind m) (d.here ∷ d.under) (stack_behind b import (d.here ∷ d.under) waits.waits)
