-- Where a run with blocking imports tells a call that pauses, it stands before that call.
use Rattle.std.proofs.Common.{arith, ◌≡◌, ◌≤◌, ◌+◌, ℕ, zero, suc, List, [], ◌∷◌, ◌++◌, length, Option, Some, None, Bool, true, false, refl, sym, ap, ◌∙◌, subst, append_assoc, length-append, ◌⊎◌, inl, inr}
use Rattle.std.specs.Option.{option_to_list}
use Rattle.std.specs.Prelude.{nat_lt, if◌then◌else◌, slice_get}
use Rattle.wa_types.specs.declared.values.Value.{Value}
use Rattle.wa_types.specs.Syntax.{Func, Module}
use Rattle.wa_types.specs.Modules.{func_imports, func_type_at, defined_at}
use Rattle.wa_model.specs.declared.answers.Said.{Said}
use Rattle.wa_model.specs.declared.answers.Said.TheVariants as S
use Rattle.wa_model.specs.declared.events.End.{End}
use Rattle.wa_model.specs.declared.events.End.TheVariants.{Done, Trapped}
use Rattle.wa_types.specs.declared.values.Trap.TheVariants.{Import}
use Rattle.wa_model.specs.Outside.{Answer, answered, ended, returned}
use Rattle.wa_model.specs.Machine.{Turn, stops, goes, Leads, stays, moves}
use Rattle.wa_model.specs.Store.{Store}
use Rattle.wa_model.specs.Configuration.{Configuration, stack_of}
use Rattle.wa_model.specs.Step.{Next, entered, steps, asks, returns, traps, stuck, step}
use Rattle.wa_model.specs.Plan.{Entry, Plan, Outcome, given, refused}
use Rattle.wa_model.specs.Blocking.{Asker, Left, Note, State, Task, an_entry, asked, begins, between, blocking, by_step, call_note, done_notes, enter_next, enters, fault_of, go_on, halts, import_traps, in_start, inside, next_entry, note, on_to, outermost, pause_of, poked, resumed, runs, stack_at, start_called, store_at, task_back, tested, the_start, value_of_results, with_outcomes}
use Rattle.run_laws.proofs.StandingPauses.{fault_outside}

-- The state stands before a call that pauses so, which is told at this place of the move.
pub record AtCall (m : Module) (plan : Plan) (a : State) (k i : ℕ) (x : Note) (ticks : ℕ) : Type 0 where
  pub entry : Entry
  pub calls : Configuration
  pub left : Left
  pub import : ℕ
  pub args : List Value
  pub waits : Configuration
  pub answer : Answer
  pub outcomes : List Outcome
  pub stands : a ≡ runs (an_entry entry) calls left
  pub asks_there : step m calls ≡ asks k import args waits
  pub outcome : left.outcomes ≡ given answer ∷ outcomes
  pub passes : fault_of (func_type_at m import).results (length waits.store.memory) plan false import answer ≡ None
  pub pauses : pause_of answer.ticks ≡ Some ticks
  pub first : i ≡ 0
  pub told : x ≡ call_note import args waits.store (stack_of m waits) (Some ticks)

none_some : {A : Type 0} (n : ℕ) → None ≡ Some n → A
none_some n e = cc

some_note : (x y : Note) → Some x ≡ Some y → x ≡ y
some_note x y e = cc

-- notes that tell no pause
abbrev NonePauses : List Note → Type 0
NonePauses es = (i : ℕ) (x : Note) → slice_get es i ≡ Some x → x.pause ≡ None

none_of : NonePauses []
none_of i x e = cc

one_none : (y : Note) (es : List Note) → y.pause ≡ None → NonePauses es → NonePauses (y ∷ es)
one_none y es h none zero x e = ap (λ (z : Note). z.pause) (sym (some_note y x e)) ∙ h
one_none y es h none (suc i) x e = none i x e

done_none : (s : Store) (es : List Entry) → NonePauses (done_notes s es)
done_none s [] = one_none (note (ended Done) s) [] refl none_of
done_none s (e ∷ es) = none_of

-- behind a call no other note pauses
first_at : (y : Note) (es : List Note) (i : ℕ) (x : Note) (ticks : ℕ) → NonePauses es → slice_get (y ∷ es) i ≡ Some x → x.pause ≡ Some ticks → (i ≡ 0) × (x ≡ y)
first_at y es zero x ticks none at e = (refl, sym (some_note y x at))
first_at y es (suc i) x ticks none at e = none_some ticks (sym (none i x at) ∙ e)

some_ticks : (n ticks : ℕ) → pause_of n ≡ Some ticks → (k : ℕ) × (n ≡ suc k)
some_ticks zero ticks e = cc
some_ticks (suc n) ticks e = (n, refl)

-- a place in two lists
abbrev pub In : List Note → List Note → ℕ → Note → Type 0
In xs ys i x = (slice_get xs i ≡ Some x) ⊎ ((j : ℕ) × (i ≡ length xs + j) × (slice_get ys j ≡ Some x))

pub in_two : (xs ys : List Note) (i : ℕ) (x : Note) → slice_get (xs ++ ys) i ≡ Some x → In xs ys i x
in_two [] ys i x at = inr (i, omega arith, at)
in_two (z ∷ xs) ys zero x at = inl at
in_two (z ∷ xs) ys (suc i) x at = by (in_two xs ys i x at)
  where
    by : In xs ys i x → In (z ∷ xs) ys (suc i) x
    by (inl h) = inl h
    by (inr h) = inr (h.0, omega (arith, h.1), h.2)

module _ (m : Module) (plan : Plan) where
  -- the move of a call tells the pause of this answer, outside the start function
  record Asks (k import : ℕ) (args : List Value) (w : Asker) (os : List Outcome) (j i : ℕ) (x : Note) (ticks : ℕ) : Type 0 where
    answer : Answer
    outcomes : List Outcome
    outcome : os ≡ given answer ∷ outcomes
    outside : in_start w ≡ false
    passes : fault_of (func_type_at m import).results (length (store_at w).memory) plan (in_start w) import answer ≡ None
    pauses : pause_of answer.ticks ≡ Some ticks
    first : i ≡ 0
    cost : j ≡ k
    told : x ≡ call_note import args (store_at w) (stack_at m w) (Some ticks)

  abbrev AskTold : (k import : ℕ) → List Value → Asker → List Outcome → Turn State Note → Type 0
  AskTold k import args w os stops = Unit {0}
  AskTold k import args w os (goes j es u) = (i : ℕ) (x : Note) (ticks : ℕ) → slice_get es i ≡ Some x → x.pause ≡ Some ticks → Asks k import args w os j i x ticks

  none_told : (k import : ℕ) (args : List Value) (w : Asker) (os : List Outcome) (j : ℕ) (es : List Note) (u : State) → NonePauses es → AskTold k import args w os (goes j es u)
  none_told k import args w os j es u none i x ticks at e = none_some ticks (sym (none i x at) ∙ e)

  call_told : (k import : ℕ) (args : List Value) (w : Asker) (answer : Answer) (os : List Outcome) (es : List Note) (u : State)
      → fault_of (func_type_at m import).results (length (store_at w).memory) plan (in_start w) import answer ≡ None → NonePauses es
      → AskTold k import args w (given answer ∷ os) (goes k (call_note import args (store_at w) (stack_at m w) (pause_of answer.ticks) ∷ es) u)
  call_told k import args w answer os es u passes none i x ticks at e =
      let f = first_at (call_note import args (store_at w) (stack_at m w) (pause_of answer.ticks)) es i x ticks none at e in
      let p : pause_of answer.ticks ≡ Some ticks = ap (λ (z : Note). z.pause) (sym f.1) ∙ e in
      let n = some_ticks answer.ticks ticks p in
      record {
        answer = answer;
        outcomes = os;
        outcome = refl;
        outside = fault_outside (func_type_at m import).results (length (store_at w).memory) plan (in_start w) import answer n.0 n.1 passes;
        passes = passes;
        pauses = p;
        first = f.0;
        cost = refl;
        told = f.1 ∙ ap (call_note import args (store_at w) (stack_at m w)) p;
      }

  go_on_told : (k import : ℕ) (args : List Value) (w : Asker) (l : Left) (answer : Answer) (os : List Outcome) (said : Said) (s : Store)
      → fault_of (func_type_at m import).results (length (store_at w).memory) plan (in_start w) import answer ≡ None
      → AskTold k import args w (given answer ∷ os) (go_on k (call_note import args (store_at w) (stack_at m w) (pause_of answer.ticks)) said s l w)
  go_on_told k import args (inside task c) l answer os (S.Value v) s passes =
      call_told k import args (inside task c) answer os (note (answered (S.Value v)) s ∷ []) (runs task (resumed c s (option_to_list v)) l) passes (one_none (note (answered (S.Value v)) s) [] refl none_of)
  go_on_told k import args (outermost old) l answer os (S.Value v) s passes =
      call_told k import args (outermost old) answer os (note (answered (S.Value v)) s ∷ done_notes s l.entries) (on_to s l l.entries) passes
      (one_none (note (answered (S.Value v)) s) (done_notes s l.entries) refl (done_none s l.entries))
  go_on_told k import args w l answer os S.Trap s passes =
      call_told k import args w answer os (import_traps s) (halts s) passes
      (one_none (note (answered S.Trap) s) (note (ended (Trapped Import)) s ∷ []) refl (one_none (note (ended (Trapped Import)) s) [] refl none_of))

  tested_told : (k import : ℕ) (args : List Value) (w : Asker) (l : Left) (answer : Answer) (os : List Outcome) (o : Option End)
      → fault_of (func_type_at m import).results (length (store_at w).memory) plan (in_start w) import answer ≡ o → AskTold k import args w (given answer ∷ os) (tested m k import args w l answer o)
  tested_told k import args w l answer os (Some e) fault =
      none_told k import args w (given answer ∷ os) k (call_note import args (store_at w) (stack_at m w) None ∷ note (ended e) (store_at w) ∷ []) (halts (store_at w))
      (one_none (call_note import args (store_at w) (stack_at m w) None) (note (ended e) (store_at w) ∷ []) refl (one_none (note (ended e) (store_at w)) [] refl none_of))
  tested_told k import args w l answer os None fault = go_on_told k import args w l answer os answer.said (poked (store_at w) answer.pokes) fault

  asked_told : (k import : ℕ) (args : List Value) (w : Asker) (l : Left) (os : List Outcome) → AskTold k import args w os (asked m plan k import args w l os)
  asked_told k import args w l [] =
      none_told k import args w [] k (call_note import args (store_at w) (stack_at m w) None ∷ []) (halts (store_at w))
      (one_none (call_note import args (store_at w) (stack_at m w) None) [] refl none_of)
  asked_told k import args w l (refused e ∷ os) =
      none_told k import args w (refused e ∷ os) k (call_note import args (store_at w) (stack_at m w) None ∷ note (ended e) (store_at w) ∷ []) (halts (store_at w))
      (one_none (call_note import args (store_at w) (stack_at m w) None) (note (ended e) (store_at w) ∷ []) refl (one_none (note (ended e) (store_at w)) [] refl none_of))
  asked_told k import args w l (given a ∷ os) =
      tested_told k import args w (with_outcomes l os) a os (fault_of (func_type_at m import).results (length (store_at w).memory) plan (in_start w) import a) refl

  abbrev TurnTold : State → Turn State Note → Type 0
  TurnTold a stops = Unit {0}
  TurnTold a (goes k es u) = (i : ℕ) (x : Note) (ticks : ℕ) → slice_get es i ≡ Some x → x.pause ≡ Some ticks → AtCall m plan a k i x ticks

  plain_told : (a : State) (k : ℕ) (es : List Note) (u : State) → NonePauses es → TurnTold a (goes k es u)
  plain_told a k es u none i x ticks at e = none_some ticks (sym (none i x at) ∙ e)

  apart : {A : Type 0} → true ≡ false → A
  apart e = cc

  -- a call from running code
  inside_told : (task : Task) (c : Configuration) (l : Left) (k import : ℕ) (args : List Value) (d : Configuration) (o : Turn State Note) → step m c ≡ asks k import args d
      → AskTold k import args (inside task d) l.outcomes o → TurnTold (runs task c l) o
  inside_told task c l k import args d stops is h = tt
  inside_told the_start c l k import args d (goes j es u) is h = λ i x ticks at e. let z : Asks k import args (inside the_start d) l.outcomes j i x ticks = h i x ticks at e in apart z.outside
  inside_told (an_entry entry) c l k import args d (goes j es u) is h =
      λ i x ticks at e.
      let z : Asks k import args (inside (an_entry entry) d) l.outcomes j i x ticks = h i x ticks at e in
      record {
        entry = entry;
        calls = c;
        left = l;
        import = import;
        args = args;
        waits = d;
        answer = z.answer;
        outcomes = z.outcomes;
        stands = refl;
        asks_there = is ∙ ap (λ (n : ℕ). asks n import args d) (sym z.cost);
        outcome = z.outcome;
        passes = z.passes;
        pauses = z.pauses;
        first = z.first;
        told = z.told;
      }

  outer_told : (a : State) (k import : ℕ) (args : List Value) (s : Store) (os : List Outcome) (o : Turn State Note) → AskTold k import args (outermost s) os o → TurnTold a o
  outer_told a k import args s os stops h = tt
  outer_told a k import args s os (goes j es u) h = λ i x ticks at e. let z : Asks k import args (outermost s) os j i x ticks = h i x ticks at e in apart z.outside

  back_told : (a : State) (k : ℕ) (task : Task) (vs : List Value) (s : Store) (l : Left) → TurnTold a (task_back k task vs s l)
  back_told a k the_start vs s l = plain_told a k (done_notes s l.entries) (on_to s l l.entries) (done_none s l.entries)
  back_told a k (an_entry e) vs s l =
      plain_told a k (note (returned l.number (value_of_results vs)) s ∷ done_notes s l.entries) (on_to s (next_entry l) l.entries)
      (one_none (note (returned l.number (value_of_results vs)) s) (done_notes s l.entries) refl (done_none s l.entries))

  step_told : (task : Task) (c : Configuration) (l : Left) (o : Next) → step m c ≡ o → TurnTold (runs task c l) (by_step m plan task l o)
  step_told task c l (steps k d) is = plain_told (runs task c l) k [] (runs task d l) none_of
  step_told task c l (asks k import args d) is =
      inside_told task c l k import args d (asked m plan k import args (inside task d) l l.outcomes) is (asked_told k import args (inside task d) l l.outcomes)
  step_told task c l (returns k vs s) is = back_told (runs task c l) k task vs s l
  step_told task c l (traps k t s) is = plain_told (runs task c l) k (note (ended (Trapped t)) s ∷ []) (halts s) (one_none (note (ended (Trapped t)) s) [] refl none_of)
  step_told task c l stuck is = tt

  enters_told : (a : State) (e : Entry) (s : Store) (l : Left) (o : Option Func) → TurnTold a (enters e s l o)
  enters_told a e s l None = tt
  enters_told a e s l (Some f) = plain_told a (length e.args) [] (runs (an_entry e) (entered s [] e.args e.func f) l) none_of

  next_told : (a : State) (s : Store) (l : Left) (es : List Entry) → TurnTold a (enter_next m s l es)
  next_told a s l [] = tt
  next_told a s l (e ∷ es) = enters_told a e s (record { number = l.number; entries = es; outcomes = l.outcomes }) (defined_at m e.func)

  start_told : (a : State) (x : ℕ) (s : Store) (l : Left) (o : Option Func) → TurnTold a (start_called m plan x s l o)
  start_told a x s l (Some f) = plain_told a 0 [] (runs the_start (entered s [] [] x f) l) none_of
  start_told a x s l None = by (nat_lt x (func_imports m))
    where
      by : (b : Bool) → TurnTold a (if b then asked m plan 0 x [] (outermost s) l l.outcomes else stops)
      by true = outer_told a 0 x [] s l.outcomes (asked m plan 0 x [] (outermost s) l l.outcomes) (asked_told 0 x [] (outermost s) l l.outcomes)
      by false = tt

  turn_told : (a : State) → TurnTold a (blocking m plan a)
  turn_told (between s l) = next_told (between s l) s l l.entries
  turn_told (begins x s l) = start_told (begins x s l) x s l (defined_at m x)
  turn_told (runs task c l) = step_told task c l (step m c) refl
  turn_told (halts s) = tt

  -- ---- along a run

  -- It comes to a state before that call, with the notes before it.
  pub record Found (a : State) (n : ℕ) (es : List Note) (i : ℕ) (x : Note) (ticks : ℕ) : Type 0 where
    pub cost : ℕ
    pub before : List Note
    pub behind : List Note
    pub at : State
    pub own_cost : ℕ
    pub leads : Leads (blocking m plan) a cost before at
    pub call : AtCall m plan at own_cost 0 x ticks
    pub within : cost + suc own_cost ≤ n
    pub place : i ≡ length before
    pub split : es ≡ before ++ x ∷ behind

  -- a list by its first note
  first_split : (es : List Note) (i : ℕ) (x : Note) → i ≡ 0 → slice_get es i ≡ Some x → (rest : List Note) × (es ≡ x ∷ rest)
  first_split [] i x z at = cc
  first_split (y ∷ es) zero x z at = (es, ap (λ (w : Note). w ∷ es) (some_note y x at))
  first_split (y ∷ es) (suc i) x z at = let no_way : ⊥ = omega arith in absurd no_way

  pub found : (a t : State) (n : ℕ) (es : List Note) → Leads (blocking m plan) a n es t → (i : ℕ) (x : Note) (ticks : ℕ) → slice_get es i ≡ Some x → x.pause ≡ Some ticks → Found a n es i x ticks
  found a t n es stays i x ticks at e = cc
  found a t n es (moves {t = u} {k = k} {n = n1} {es = es1} {fs = fs} is rest em eg) i x ticks at e =
      by (λ j at'. found u t n1 fs rest j x ticks at' e) (in_two es1 fs i x (ap (λ (ys : List Note). slice_get ys i) (sym eg) ∙ at))
    where
      here : slice_get es1 i ≡ Some x → AtCall m plan a k i x ticks
      here at' = let told : TurnTold a (goes k es1 u) = subst (TurnTold a) is (turn_told a) in told i x ticks at' e

      by : ((j : ℕ) → slice_get fs j ≡ Some x → Found u n1 fs j x ticks) → In es1 fs i x → Found a n es i x ticks
      by on (inl at') =
          let c = here at' in
          let r = first_split es1 i x c.first at' in
          record {
            cost = 0;
            before = [];
            behind = r.0 ++ fs;
            at = a;
            own_cost = k;
            leads = stays;
            call = subst (λ (j : ℕ). AtCall m plan a k j x ticks) c.first c;
            within = omega (arith, em);
            place = c.first;
            split = eg ∙ ap (λ (ys : List Note). ys ++ fs) r.1;
          }
      by on (inr w) =
          let f = on w.0 w.2 in
          record {
            cost = suc k + f.cost;
            before = es1 ++ f.before;
            behind = f.behind;
            at = f.at;
            own_cost = f.own_cost;
            leads = moves is f.leads refl refl;
            call = f.call;
            within = omega (arith, em, f.within);
            place = omega (arith, w.1, f.place, length-append es1 f.before);
            split = eg ∙ ap (λ (ys : List Note). es1 ++ ys) f.split ∙ sym (append_assoc es1 f.before (x ∷ f.behind));
          }
