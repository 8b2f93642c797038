-- A module and the one whose bodies are pruned make the same runs: both go in step.
use Rattle.std.proofs.Common.{◌≡◌, ℕ, zero, suc, ◌+◌, ◌-◌, List, [], ◌∷◌, ◌++◌, map, Option, Some, None, Bool, true, false, refl, ap, ◌∙◌, length, take, drop, reverse}
use Rattle.std.specs.Prelude.{nat_lt, if◌then◌else◌, slice_get, unwrap_or}
use Rattle.std.specs.Option.{option_map}
use Rattle.wa_types.specs.declared.values.Value.{Value}
use Rattle.wa_types.specs.declared.values.Value.TheVariants as V
use Rattle.wa_types.specs.declared.values.Trap.TheVariants.{StackExhausted, TypeMismatch}
use Rattle.wa_types.specs.Syntax.{basic, local_get, local_set, local_tee, br, br_if, br_table, return, unreachable, call, call_indirect, a_block, a_loop, Code, done, plain, nest, branch}
use Rattle.wa_types.specs.Syntax.{FuncType, Func, Module}
use Rattle.wa_types.specs.Pruned.{is_last, pruned}
use Rattle.wa_types.specs.Modules.{imported, imported_func, func_imports, func_type_at, type_at, or_empty, defined_at}
use Rattle.wa_types.specs.Pausing.{calls_of, calls_in}
use Rattle.wa_model.specs.declared.answers.Said.{Said}
use Rattle.wa_model.specs.declared.answers.Said.TheVariants as S
use Rattle.wa_model.specs.declared.events.End.{End}
use Rattle.wa_model.specs.Outside.{Answer, answered, returned}
use Rattle.wa_model.specs.Machine.{Turn, stops, goes, Ran, after, run}
use Rattle.wa_model.specs.Store.{choose, Store, Did, works, fails, lacks, takes, extra_cost, act}
use Rattle.wa_model.specs.Configuration.{Label, block_label, loop_label, Activation, Configuration, running, waiting, call_count, calls_behind, calls_outside, place_of, suspended, stack_of}
use Rattle.wa_model.specs.Step.{Next, steps, asks, returns, traps, stuck, result_count, leave, jump, finish, did, with_top, with_number, arity_of, entered, invoke, param_count}
use Rattle.wa_model.specs.Step.{same_func_type, through, memory_max, step_at, step}
use Rattle.wa_model.specs.Plan.{Entry, Plan, Outcome, given, refused}
use Rattle.run_theory.specs.Pruning.{pruned_func, pruned_module}
use Rattle.wa_model.specs.Blocking.{Note, note, value_of_results, fault_of, Task, the_start, an_entry, Left, with_outcomes, Asker, inside, outermost, store_at, stack_at, in_start, State}
use Rattle.wa_model.specs.Blocking.{between, begins, runs, halts, on_to, next_entry, task_back, go_on, tested, asked, by_step, enters, enter_next, start_called, blocking, poked, call_note}
use Rattle.wa_model.specs.Blocking.{pause_of, done_notes, all_left, begun, continued, blocking_run}
use Rattle.wa_model.specs.Instantiation.{Opening, fails_as, opens, opening}
use Rattle.run_theory.proofs.Runs.{turned, mapped, run_mapped}

-- pruning again changes nothing
pub pruned_twice : (c : Code) → pruned (pruned c) ≡ pruned c
unfolding pruned
pruned_twice done = refl
pruned_twice (plain p rest) = by_last (is_last p) refl (pruned_twice rest)
  where
    by_last : (b : Bool) → is_last p ≡ b → pruned (pruned rest) ≡ pruned rest → plain p (if is_last p then done else pruned (if is_last p then done else pruned rest))
        ≡ plain p (if is_last p then done else pruned rest)
    by_last true e h = rw e
    by_last false e h = rw e (ap (plain p) h)
pruned_twice (nest s r body rest) = ap (λ x. nest s r x (pruned (pruned rest))) (pruned_twice body) ∙ ap (nest s r (pruned body)) (pruned_twice rest)
pruned_twice (branch r a b rest) =
    ap (λ x. branch r x (pruned (pruned b)) (pruned (pruned rest))) (pruned_twice a)
    ∙ ap (λ x. branch r (pruned a) x (pruned (pruned rest))) (pruned_twice b)
    ∙ ap (branch r (pruned a) (pruned b)) (pruned_twice rest)

-- ---- configurations with their code pruned

abbrev pub pruned_label : Label → Label
pruned_label (block_label h arity rest skipped) = block_label h arity (pruned rest) (pruned skipped)
pruned_label (loop_label h body rest) = loop_label h (pruned body) (pruned rest)

abbrev pub pruned_act : Activation → Activation
pruned_act a = waiting a.func a.locals a.operands a.taken (pruned a.code) (map pruned_label a.labels)

abbrev pub pruned_config : Configuration → Configuration
pruned_config c = record { store = c.store; here = pruned_act c.here; under = map pruned_act c.under }

abbrev pub pruned_next : Next → Next
pruned_next (steps k d) = steps k (pruned_config d)
pruned_next (asks k import args d) = asks k import args (pruned_config d)
pruned_next (returns k values s) = returns k values s
pruned_next (traps k trap s) = traps k trap s
pruned_next stuck = stuck

-- ---- what stands in the module

length_map : {X Y : Type 0} (f : X → Y) (xs : List X) → length (map f xs) ≡ length xs
length_map f [] = refl
length_map f (x ∷ xs) = ap suc (length_map f xs)

sorts_same : (fs : List Func) → map (λ (f : Func). f.sort) (map pruned_func fs) ≡ map (λ (f : Func). f.sort) fs
sorts_same [] = refl
sorts_same (f ∷ fs) = ap (λ xs. f.sort ∷ xs) (sorts_same fs)

got_pruned : (fs : List Func) (i : ℕ) → slice_get (map pruned_func fs) i ≡ option_map pruned_func (slice_get fs i)
got_pruned [] i = refl
got_pruned (f ∷ fs) zero = refl
got_pruned (f ∷ fs) (suc i) = got_pruned fs i

module _ (m : Module) where
  types_same : (x : ℕ) → func_type_at (pruned_module m) x ≡ func_type_at m x
  types_same x = ap (λ sorts. or_empty (slice_get (map (type_at m) (imported imported_func m ++ sorts)) x)) (sorts_same m.funcs)

  defined_pruned : (x : ℕ) → defined_at (pruned_module m) x ≡ option_map pruned_func (defined_at m x)
  defined_pruned x = by_import (nat_lt x (func_imports m))
    where
      by_import : (b : Bool) → (if b then None else slice_get (map pruned_func m.funcs) (x - func_imports m)) ≡ option_map pruned_func (if b then None else slice_get m.funcs (x - func_imports m))
      by_import true = refl
      by_import false = got_pruned m.funcs (x - func_imports m)

  -- ---- places and stacks

  count_same : (c : Code) → call_count (pruned c) ≡ call_count c
  count_same c = ap (λ x. length (calls_of x)) (pruned_twice c)

  behind_same : (labels : List Label) → calls_behind (map pruned_label labels) ≡ calls_behind labels
  behind_same [] = refl
  behind_same (block_label h arity rest skipped ∷ labels) =
      ap (λ x. calls_of x ++ (calls_of (pruned (pruned rest)) ++ calls_behind (map pruned_label labels))) (pruned_twice skipped)
      ∙ ap (λ x. calls_of (pruned skipped) ++ (calls_of x ++ calls_behind (map pruned_label labels))) (pruned_twice rest)
      ∙ ap (λ x. calls_of (pruned skipped) ++ (calls_of (pruned rest) ++ x)) (behind_same labels)
  behind_same (loop_label h body rest ∷ labels) =
      ap (λ x. calls_of x ++ calls_behind (map pruned_label labels)) (pruned_twice rest) ∙ ap (λ x. calls_of (pruned rest) ++ x) (behind_same labels)

  outside_same : (labels : List Label) → calls_outside (map pruned_label labels) ≡ calls_outside labels
  outside_same labels = ap length (behind_same labels)

  place_same : (o : Option Func) (c : Code) (labels : List Label) → place_of (option_map pruned_func o) (pruned c) (map pruned_label labels) ≡ place_of o c labels
  place_same None c labels = refl
  place_same (Some f) c labels =
      ap (λ n. n - suc (call_count (pruned c) + calls_outside (map pruned_label labels))) (count_same f.body)
      ∙ ap (λ n. length (calls_in f) - suc (n + calls_outside (map pruned_label labels))) (count_same c)
      ∙ ap (λ n. length (calls_in f) - suc (call_count c + n)) (outside_same labels)

  suspended_same : (a : Activation) → suspended (pruned_module m) (pruned_act a) ≡ suspended m a
  suspended_same a =
      ap (λ n. record { func = a.func; place = n; locals = a.locals; operands = a.taken ++ a.operands })
      (ap (λ o. place_of o (pruned a.code) (map pruned_label a.labels)) (defined_pruned a.func) ∙ place_same (defined_at m a.func) a.code a.labels)

  all_suspended : (acts : List Activation) → map (suspended (pruned_module m)) (map pruned_act acts) ≡ map (suspended m) acts
  all_suspended [] = refl
  all_suspended (a ∷ acts) = ap (λ x. x ∷ map (suspended (pruned_module m)) (map pruned_act acts)) (suspended_same a) ∙ ap (λ xs. suspended m a ∷ xs) (all_suspended acts)

  stack_same : (c : Configuration) → stack_of (pruned_module m) (pruned_config c) ≡ stack_of m c
  stack_same c = all_suspended (c.here ∷ c.under)

  -- ---- steps

  leaves_pruned : (k : ℕ) (s : Store) (ops : List Value) (arity : ℕ) (under : List Activation) → leave k s ops arity (map pruned_act under) ≡ pruned_next (leave k s ops arity under)
  leaves_pruned k s ops arity [] = refl
  leaves_pruned k s ops arity (a ∷ under) = refl

  leaves_here : (k : ℕ) (s : Store) (fn : ℕ) (ops : List Value) (under : List Activation)
      → leave k s ops (result_count (pruned_module m) fn) (map pruned_act under) ≡ pruned_next (leave k s ops (result_count m fn) under)
  leaves_here k s fn ops under = ap (λ (t : FuncType). leave k s ops (length t.results) (map pruned_act under)) (types_same fn) ∙ leaves_pruned k s ops (result_count m fn) under

  jumps_pruned : (k : ℕ) (s : Store) (fn : ℕ) (under : List Activation) (ls ops : List Value) (labels : List Label) (l : ℕ)
      → jump k (pruned_module m) s fn (map pruned_act under) ls ops (map pruned_label labels) l ≡ pruned_next (jump k m s fn under ls ops labels l)
  jumps_pruned k s fn under ls ops [] l = leaves_here k s fn ops under
  jumps_pruned k s fn under ls ops (block_label h arity rest skipped ∷ labels) zero = refl
  jumps_pruned k s fn under ls ops (loop_label h body rest ∷ labels) zero = refl
  jumps_pruned k s fn under ls ops (block_label h arity rest skipped ∷ labels) (suc l) = jumps_pruned k s fn under ls ops labels l
  jumps_pruned k s fn under ls ops (loop_label h body rest ∷ labels) (suc l) = jumps_pruned k s fn under ls ops labels l

  finishes_pruned : (s : Store) (fn : ℕ) (under : List Activation) (ls ops : List Value) (labels : List Label)
      → finish (pruned_module m) s fn (map pruned_act under) ls ops (map pruned_label labels) ≡ pruned_next (finish m s fn under ls ops labels)
  finishes_pruned s fn under ls ops [] = leaves_here 0 s fn ops under
  finishes_pruned s fn under ls ops (block_label h arity rest skipped ∷ labels) = refl
  finishes_pruned s fn under ls ops (loop_label h body rest ∷ labels) = refl

  did_pruned : (k fn : ℕ) (under : List Activation) (ls : List Value) (labels : List Label) (rest : Code) (s : Store) (ops : List Value) (d : Did)
      → did k fn (map pruned_act under) ls (map pruned_label labels) (pruned rest) s ops d ≡ pruned_next (did k fn under ls labels rest s ops d)
  did_pruned k fn under ls labels rest s ops (works s' results) = refl
  did_pruned k fn under ls labels rest s ops (fails trap) = refl
  did_pruned k fn under ls labels rest s ops lacks = refl

  top_pruned : (ops : List Value) (on on' : Value → List Value → Next) → ((v : Value) (below : List Value) → on' v below ≡ pruned_next (on v below)) → with_top ops on' ≡ pruned_next (with_top ops on)
  top_pruned [] on on' h = refl
  top_pruned (v ∷ ops) on on' h = h v ops

  number_pruned : (ops : List Value) (on on' : ℕ → List Value → Next) → ((n : ℕ) (below : List Value) → on' n below ≡ pruned_next (on n below)) → with_number ops on' ≡ pruned_next (with_number ops on)
  number_pruned [] on on' h = refl
  number_pruned (V.I32 n ∷ ops) on on' h = h n ops
  number_pruned (V.I64 n ∷ ops) on on' h = refl

  chooses_pruned : (n : ℕ) (x y x' y' : Next) → x' ≡ pruned_next x → y' ≡ pruned_next y → choose n x' y' ≡ pruned_next (choose n x y)
  chooses_pruned zero x y x' y' e f = f
  chooses_pruned (suc n) x y x' y' e f = e

  invokes_pruned : (s : Store) (fn : ℕ) (under : List Activation) (ls own ops : List Value) (rest : Code) (labels : List Label) (params x : ℕ) (o : Option Func)
      → invoke (pruned_module m) s fn (map pruned_act under) ls own ops (pruned rest) (map pruned_label labels) params x (option_map pruned_func o)
      ≡ pruned_next (invoke m s fn under ls own ops rest labels params x o)
  invokes_pruned s fn under ls own ops rest labels params x (Some f) =
      ap (λ n. if nat_lt (n + 1) 4096 then steps params (pruned_config (to f)) else traps params StackExhausted s) (length_map pruned_act under) ∙ by_room (nat_lt (length under + 1) 4096)
    where
      to : Func → Configuration
      to f = entered s (waiting fn ls (drop params ops) (own ++ take params ops) rest labels ∷ under) (reverse (take params ops)) x f

      by_room : (b : Bool) → (if b then steps params (pruned_config (to f)) else traps params StackExhausted s) ≡ pruned_next (if b then steps params (to f) else traps params StackExhausted s)
      by_room true = refl
      by_room false = refl
  invokes_pruned s fn under ls own ops rest labels params x None = by_import (nat_lt x (func_imports m))
    where
      waits : Configuration
      waits = record { store = s; here = waiting fn ls (drop params ops) (own ++ take params ops) rest labels; under = under }

      by_import : (b : Bool) → (if b then asks params x (reverse (take params ops)) (pruned_config waits) else stuck)
          ≡ pruned_next (if b then asks params x (reverse (take params ops)) waits else stuck)
      by_import true = refl
      by_import false = refl

  invokes_at : (s : Store) (fn : ℕ) (under : List Activation) (ls own ops : List Value) (rest : Code) (labels : List Label) (params x : ℕ)
      → invoke (pruned_module m) s fn (map pruned_act under) ls own ops (pruned rest) (map pruned_label labels) params x (defined_at (pruned_module m) x)
      ≡ pruned_next (invoke m s fn under ls own ops rest labels params x (defined_at m x))
  invokes_at s fn under ls own ops rest labels params x =
      ap (invoke (pruned_module m) s fn (map pruned_act under) ls own ops (pruned rest) (map pruned_label labels) params x) (defined_pruned x)
      ∙ invokes_pruned s fn under ls own ops rest labels params x (defined_at m x)

  through_pruned : (s : Store) (fn : ℕ) (under : List Activation) (ls own ops : List Value) (rest : Code) (labels : List Label) (sort : ℕ) (o : Option (Option ℕ))
      → through (pruned_module m) s fn (map pruned_act under) ls own ops (pruned rest) (map pruned_label labels) sort o ≡ pruned_next (through m s fn under ls own ops rest labels sort o)
  through_pruned s fn under ls own ops rest labels sort None = refl
  through_pruned s fn under ls own ops rest labels sort (Some None) = refl
  through_pruned s fn under ls own ops rest labels sort (Some (Some x)) =
      ap (λ t. by_type' (same_func_type t (type_at m sort))) (types_same x) ∙ by_type (same_func_type (func_type_at m x) (type_at m sort))
    where
      n : ℕ
      n = param_count (type_at m sort)

      by_type' : Bool → Next
      by_type' b = if b then invoke (pruned_module m) s fn (map pruned_act under) ls own ops (pruned rest) (map pruned_label labels) n x (defined_at (pruned_module m) x) else traps n TypeMismatch s

      by_type : (b : Bool) → by_type' b ≡ pruned_next (if b then invoke m s fn under ls own ops rest labels n x (defined_at m x) else traps n TypeMismatch s)
      by_type true = invokes_at s fn under ls own ops rest labels n x
      by_type false = refl

  step_at_pruned : (s : Store) (fn : ℕ) (under : List Activation) (ls ops : List Value) (labels : List Label) (c : Code)
      → step_at (pruned_module m) s fn (map pruned_act under) ls ops (map pruned_label labels) (pruned c) ≡ pruned_next (step_at m s fn under ls ops labels c)
  unfolding pruned
  step_at_pruned s fn under ls ops labels done = finishes_pruned s fn under ls ops labels
  step_at_pruned s fn under ls ops labels (plain (basic b) rest) = did_pruned (extra_cost b (take (takes b) ops)) fn under ls labels rest s (drop (takes b) ops) (act (memory_max m) b s (take (takes b) ops))
  step_at_pruned s fn under ls ops labels (plain (local_get x) rest) = refl
  step_at_pruned s fn under ls ops labels (plain (local_set x) rest) = top_pruned ops _ _ (λ v below. refl)
  step_at_pruned s fn under ls ops labels (plain (local_tee x) rest) = top_pruned ops _ _ (λ v below. refl)
  step_at_pruned s fn under ls ops labels (plain (br l) rest) = jumps_pruned 0 s fn under ls ops labels l
  step_at_pruned s fn under ls ops labels (plain (br_if l) rest) =
      number_pruned ops _ _ (λ n below. chooses_pruned n (jump 0 m s fn under ls below labels l) (steps 0 (running s fn under ls below rest labels)) _ _
      (jumps_pruned 0 s fn under ls below labels l) refl)
  step_at_pruned s fn under ls ops labels (plain (br_table targets last) rest) =
      number_pruned ops _ _ (λ n below. jumps_pruned (length targets + 1) s fn under ls below labels (unwrap_or (slice_get targets n) last))
  step_at_pruned s fn under ls ops labels (plain return rest) = leaves_here 0 s fn ops under
  step_at_pruned s fn under ls ops labels (plain unreachable rest) = refl
  step_at_pruned s fn under ls ops labels (plain (call x) rest) =
      ap (λ t. invoke (pruned_module m) s fn (map pruned_act under) ls [] ops (pruned rest) (map pruned_label labels) (param_count t) x (defined_at (pruned_module m) x)) (types_same x)
      ∙ invokes_at s fn under ls [] ops rest labels (param_count (func_type_at m x)) x
  step_at_pruned s fn under ls ops labels (plain (call_indirect sort) rest) =
      number_pruned ops _ _ (λ n below. through_pruned s fn under ls (V.I32 n ∷ []) below rest labels sort (slice_get s.table n))
  step_at_pruned s fn under ls ops labels (nest a_block r body rest) = refl
  step_at_pruned s fn under ls ops labels (nest a_loop r body rest) = refl
  step_at_pruned s fn under ls ops labels (branch r a b rest) = number_pruned ops _ _ (λ n below. by_arm n below)
    where
      first : List Value → Configuration
      first below = running s fn under ls below a (block_label (length below) (arity_of r) rest b ∷ labels)

      second : List Value → Configuration
      second below = running s fn under ls below b (block_label (length below) (arity_of r) rest done ∷ labels)

      by_arm : (n : ℕ) (below : List Value) → steps 0 (choose n (pruned_config (first below))
          (running s fn (map pruned_act under) ls below (pruned b) (block_label (length below) (arity_of r) (pruned rest) done ∷ map pruned_label labels)))
          ≡ pruned_next (steps 0 (choose n (first below) (second below)))
      by_arm zero below = refl
      by_arm (suc n) below = refl

  pub step_pruned : (c : Configuration) → step (pruned_module m) (pruned_config c) ≡ pruned_next (step m c)
  step_pruned c = step_at_pruned c.store c.here.func c.under c.here.locals c.here.operands c.here.labels c.here.code

-- ---- runs with blocking imports

abbrev pub pruned_state : State → State
pruned_state (between s l) = between s l
pruned_state (begins x s l) = begins x s l
pruned_state (runs task c l) = runs task (pruned_config c) l
pruned_state (halts s) = halts s

abbrev pruned_asker : Asker → Asker
pruned_asker (inside task c) = inside task (pruned_config c)
pruned_asker (outermost s) = outermost s

abbrev pruned_turn : Turn State Note → Turn State Note
pruned_turn t = turned pruned_state t

store_at_same : (w : Asker) → store_at (pruned_asker w) ≡ store_at w
store_at_same (inside task c) = refl
store_at_same (outermost s) = refl

in_start_same : (w : Asker) → in_start (pruned_asker w) ≡ in_start w
in_start_same (inside task c) = refl
in_start_same (outermost s) = refl

on_to_pruned : (s : Store) (l : Left) (es : List Entry) → on_to s l es ≡ pruned_state (on_to s l es)
on_to_pruned s l [] = refl
on_to_pruned s l (e ∷ es) = refl

goes_pruned : (k : ℕ) (notes : List Note) (s : Store) (l : Left) (es : List Entry) → goes k notes (on_to s l es) ≡ pruned_turn (goes k notes (on_to s l es))
goes_pruned k notes s l es = ap (goes k notes) (on_to_pruned s l es)

task_back_pruned : (k : ℕ) (task : Task) (results : List Value) (s : Store) (l : Left) → task_back k task results s l ≡ pruned_turn (task_back k task results s l)
task_back_pruned k the_start results s l = ap (goes k (done_notes s l.entries)) (on_to_pruned s l l.entries)
task_back_pruned k (an_entry e) results s l = goes_pruned k (note (returned l.number (value_of_results results)) s ∷ done_notes s l.entries) s (next_entry l) l.entries

go_on_pruned : (k : ℕ) (x : Note) (said : Said) (s : Store) (l : Left) (w : Asker) → go_on k x said s l (pruned_asker w) ≡ pruned_turn (go_on k x said s l w)
go_on_pruned k x (S.Value v) s l (inside task c) = refl
go_on_pruned k x (S.Value v) s l (outermost old) = goes_pruned k (x ∷ note (answered (S.Value v)) s ∷ done_notes s l.entries) s l l.entries
go_on_pruned k x S.Trap s l w = refl

module _ (m : Module) (plan : Plan) where
  abbrev p : Module
  p = pruned_module m

  stack_at_same : (w : Asker) → stack_at p (pruned_asker w) ≡ stack_at m w
  stack_at_same (inside task c) = stack_same m c
  stack_at_same (outermost s) = refl

  tested_pruned : (k import : ℕ) (args : List Value) (w : Asker) (l : Left) (a : Answer) (o : Option End) → tested p k import args (pruned_asker w) l a o ≡ pruned_turn (tested m k import args w l a o)
  tested_pruned k import args w l a (Some e) = rw (store_at_same w, stack_at_same w) refl
  tested_pruned k import args w l a None = rw (store_at_same w, stack_at_same w) (go_on_pruned k (call_note import args (store_at w) (stack_at m w) (pause_of a.ticks)) a.said
      (poked (store_at w) a.pokes) l w)

  asked_pruned : (k import : ℕ) (args : List Value) (w : Asker) (l : Left) (os : List Outcome) → asked p plan k import args (pruned_asker w) l os ≡ pruned_turn (asked m plan k import args w l os)
  asked_pruned k import args w l [] = rw (store_at_same w, stack_at_same w) refl
  asked_pruned k import args w l (refused e ∷ os) = rw (store_at_same w, stack_at_same w) refl
  asked_pruned k import args w l (given a ∷ os) =
      ap (λ (t : FuncType). tested p k import args (pruned_asker w) (with_outcomes l os) a
      (fault_of t.results (length (store_at (pruned_asker w)).memory) plan (in_start (pruned_asker w)) import a)) (types_same m import)
      ∙ ap (λ (s : Store). tested p k import args (pruned_asker w) (with_outcomes l os) a
      (fault_of (func_type_at m import).results (length s.memory) plan (in_start (pruned_asker w)) import a)) (store_at_same w)
      ∙ ap (λ b. tested p k import args (pruned_asker w) (with_outcomes l os) a (fault_of (func_type_at m import).results (length (store_at w).memory) plan b import a)) (in_start_same w)
      ∙ tested_pruned k import args w (with_outcomes l os) a (fault_of (func_type_at m import).results (length (store_at w).memory) plan (in_start w) import a)

  by_step_pruned : (task : Task) (l : Left) (o : Next) → by_step p plan task l (pruned_next o) ≡ pruned_turn (by_step m plan task l o)
  by_step_pruned task l (steps k d) = refl
  by_step_pruned task l (asks k import args d) = asked_pruned k import args (inside task d) l l.outcomes
  by_step_pruned task l (returns k results s) = task_back_pruned k task results s l
  by_step_pruned task l (traps k trap s) = refl
  by_step_pruned task l stuck = refl

  enters_pruned : (e : Entry) (s : Store) (l : Left) (o : Option Func) → enters e s l (option_map pruned_func o) ≡ pruned_turn (enters e s l o)
  enters_pruned e s l None = refl
  enters_pruned e s l (Some f) = refl

  enter_next_pruned : (s : Store) (l : Left) (es : List Entry) → enter_next p s l es ≡ pruned_turn (enter_next m s l es)
  enter_next_pruned s l [] = refl
  enter_next_pruned s l (e ∷ es) = ap (enters e s (record { number = l.number; entries = es; outcomes = l.outcomes })) (defined_pruned m e.func)
      ∙ enters_pruned e s (record { number = l.number; entries = es; outcomes = l.outcomes }) (defined_at m e.func)

  start_pruned : (x : ℕ) (s : Store) (l : Left) (o : Option Func) → start_called p plan x s l (option_map pruned_func o) ≡ pruned_turn (start_called m plan x s l o)
  start_pruned x s l (Some f) = refl
  start_pruned x s l None = by_import (nat_lt x (func_imports m))
    where
      by_import : (b : Bool) → (if b then asked p plan 0 x [] (outermost s) l l.outcomes else stops) ≡ pruned_turn (if b then asked m plan 0 x [] (outermost s) l l.outcomes else stops)
      by_import true = asked_pruned 0 x [] (outermost s) l l.outcomes
      by_import false = refl

  blocking_pruned : (s : State) → blocking p plan (pruned_state s) ≡ turned pruned_state (blocking m plan s)
  blocking_pruned (between s l) = enter_next_pruned s l l.entries
  blocking_pruned (begins x s l) = ap (start_called p plan x s l) (defined_pruned m x) ∙ start_pruned x s l (defined_at m x)
  blocking_pruned (runs task c l) = ap (by_step p plan task l) (step_pruned m c) ∙ by_step_pruned task l (step m c)
  blocking_pruned (halts s) = refl

  begun_pruned : (start : Option ℕ) (l : Left) (o : Opening) → (begun start l o).last ≡ pruned_state (begun start l o).last
  begun_pruned start l (fails_as e) = refl
  begun_pruned None l (opens s) = on_to_pruned s l l.entries
  begun_pruned (Some x) l (opens s) = refl

  continued_pruned : (n : ℕ) (r : Ran State Note) → r.last ≡ pruned_state r.last → continued p plan n r ≡ mapped pruned_state (continued m plan n r)
  continued_pruned n r e =
      ap (λ s. after r.events (run (blocking p plan) n s)) e
      ∙ ap (after r.events) (run_mapped State State Note (blocking m plan) (blocking p plan) pruned_state blocking_pruned n n r.last)

  pub blocking_run_pruned : (os : List Outcome) (n : ℕ) → blocking_run p plan os n ≡ mapped pruned_state (blocking_run m plan os n)
  blocking_run_pruned os n = continued_pruned n (begun m.start (all_left plan os) (opening m plan.globals)) (begun_pruned m.start (all_left plan os) (opening m plan.globals))
