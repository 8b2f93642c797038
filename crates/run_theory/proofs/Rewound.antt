-- When a run under the protocol rewinds: behind a pause alone; and how often a rewound entry calls an import: once.
use Rattle.std.proofs.Common.{◌≡◌, ℕ, ◌+◌, ◌-◌, ◌≤◌, List, [], ◌∷◌, ◌++◌, Option, Some, None, Bool, true, false, refl, sym, ap, ◌∙◌, subst, ⊎_elim, arith}
use Rattle.std.specs.Prelude.{nat_eq, nat_lt, if◌then◌else◌}
use Rattle.std.proofs.lemmas.Bool.{cases_lt}
use Rattle.wa_types.specs.declared.values.Value.{Value}
use Rattle.wa_types.specs.Modules.{defined_at, func_imports, func_type_at}
use Rattle.wa_types.specs.Syntax.{Func, Module}
use Rattle.wa_model.specs.declared.answers.Said.{Said}
use Rattle.wa_model.specs.declared.answers.Said.TheVariants as S
use Rattle.wa_model.specs.declared.events.End.{End}
use Rattle.wa_model.specs.Behaves.{MakesCall, RewindsTo, last_called, then_called}
use Rattle.wa_model.specs.Blocking.{Asker, Left, Note, Task, an_entry, call_note, events_of, fault_of, in_start, inside, next_entry, outermost, pause_of, poked, stack_at, store_at, the_start, with_outcomes}
use Rattle.wa_model.specs.Configuration.{Configuration}
use Rattle.wa_model.specs.Instantiation.{Opening, fails_as, opens, opening}
use Rattle.wa_model.specs.Machine.{Leads, Turn, goes, moves, run, stays, stops}
use Rattle.wa_model.specs.Outside.{Answer, Call, Event, answered, called, ended, paused, parked, returned, shown}
use Rattle.wa_model.specs.Plan.{Entry, Outcome, Plan, given, refused}
use Rattle.wa_model.specs.Protocol.{Exports, Held, Phase, Protocol, Then, aside, aside_back, aside_called, aside_step, broken, busy, busy_enters, busy_step, call_again, calling, entering, exports_of, free, give_answer, give_zero, held_asked, held_back, held_begun, held_given, held_next, held_on, held_pauses, held_resumed, held_start, held_tested, is_running, is_state, over, pause_there, protocol, rewinds, starting, test_rewound, test_unwound, unwinds}
use Rattle.wa_model.specs.Step.{Next, asks, returns, step, steps, stuck, traps}
use Rattle.wa_model.specs.Store.{Store}
use Rattle.run_theory.specs.DeterminedRuns.{held_start_of}
use Rattle.run_theory.proofs.Runs.{leads_beyond, leads_on, leads_one, run_is_run}

-- ---- the call that is told last

pub last_on : (before : Option Call) (xs ys : List Event) → last_called before (xs ++ ys) ≡ last_called (last_called before xs) ys
last_on before [] ys = refl
last_on before (e ∷ xs) ys = last_on (then_called before e) xs ys

-- what is told doesn't depend on the call before
told_anyway : (before : Option Call) (xs : List Event) (c : Call) → last_called None xs ≡ Some c → last_called before xs ≡ Some c
told_anyway before [] c h = cc
told_anyway before (called d ∷ xs) c h = h
told_anyway before (answered v ∷ xs) c h = told_anyway before xs c h
told_anyway before (paused t u ∷ xs) c h = told_anyway before xs c h
told_anyway before (returned i v ∷ xs) c h = told_anyway before xs c h
told_anyway before (ended how ∷ xs) c h = told_anyway before xs c h
told_anyway before (parked used ∷ xs) c h = told_anyway before xs c h
told_anyway before (shown at bytes ∷ xs) c h = told_anyway before xs c h

makes_too : (before : Option Call) (xs : List Event) (o : Next) → MakesCall (last_called None xs) o → MakesCall (last_called before xs) o
makes_too before xs (steps k d) h = tt
makes_too before xs (asks k i args d) h = told_anyway before xs (record { import = i; args = args }) h
makes_too before xs (returns k vs s) h = tt
makes_too before xs (traps k t s) h = tt
makes_too before xs stuck h = tt

-- so a call that later events tell is told by all
pub rewinds_too : (p : Module) (before : Option Call) (xs : List Event) (h : Held) → RewindsTo p (last_called None xs) h → RewindsTo p (last_called before xs) h
rewinds_too p before xs (free s l) r = tt
rewinds_too p before xs (starting f s l) r = tt
rewinds_too p before xs (busy (is_running task) c l) r = tt
rewinds_too p before xs (busy (unwinds e i a) c l) r = tt
rewinds_too p before xs (busy (rewinds e i a sp) c l) r = makes_too before xs (step p c) r
rewinds_too p before xs (calling ph s f args th l) r = tt
rewinds_too p before xs (aside ph c th l) r = tt
rewinds_too p before xs (entering ph e s l) r = tt
rewinds_too p before xs (over s) r = tt

-- ---- a run that doesn't rewind

abbrev not_rewinding : Phase → Type 0
not_rewinding (rewinds e i a at_pause) = ⊥
not_rewinding _ = Unit {0}

-- no entry is being rewound
abbrev pub Forwards : Held → Type 0
Forwards (busy ph c l) = not_rewinding ph
Forwards (calling ph s f args th l) = not_rewinding ph
Forwards (aside ph c th l) = not_rewinding ph
Forwards (entering ph e s l) = not_rewinding ph
Forwards _ = Unit {0}

abbrev pub NoPause : Event → Type 0
NoPause (paused ticks used) = ⊥
NoPause _ = Unit {0}

-- no note tells a pause
abbrev pub NonePaused : List Note → Type 0
NonePaused [] = Unit {0}
NonePaused (x ∷ xs) = NoPause x.event × NonePaused xs

pub forwards_asks : (p : Module) (told : Option Call) (h : Held) → Forwards h → RewindsTo p told h
forwards_asks p told (free s l) f = tt
forwards_asks p told (starting x s l) f = tt
forwards_asks p told (busy (is_running task) c l) f = tt
forwards_asks p told (busy (unwinds e i a) c l) f = tt
forwards_asks p told (busy (rewinds e i a sp) c l) f = absurd f
forwards_asks p told (calling ph s x args th l) f = tt
forwards_asks p told (aside ph c th l) f = tt
forwards_asks p told (entering ph e s l) f = tt
forwards_asks p told (over s) f = tt

none_first : (xs ys : List Note) → NonePaused (xs ++ ys) → NonePaused xs
none_first [] ys h = tt
none_first (x ∷ xs) ys h = (h.0, none_first xs ys h.1)

none_second : (xs ys : List Note) → NonePaused (xs ++ ys) → NonePaused ys
none_second [] ys h = h
none_second (x ∷ xs) ys h = none_second xs ys h.1

module _ (p : Module) (x : Exports) (plan : Plan) where
  abbrev pr : Held → Turn Held Note
  pr = protocol p x plan

  -- a turn that tells no pause goes on forwards
  abbrev TurnForwards : Turn Held Note → Type 0
  TurnForwards stops = Unit {0}
  TurnForwards (goes k es t) = NonePaused es → Forwards t

  on_forwards : (s : Store) (l : Left) (es : List Entry) → Forwards (held_on s l es)
  on_forwards s l [] = tt
  on_forwards s l (e ∷ es) = tt

  given_forwards : (k : ℕ) (y : Note) (said : Said) (s : Store) (l : Left) (w : Asker) → TurnForwards (held_given k y said s l w)
  given_forwards k y (S.Value v) s l (inside task c) = λ none. tt
  given_forwards k y (S.Value v) s l (outermost old) = λ none. on_forwards s l l.entries
  given_forwards k y S.Trap s l w = λ none. tt

  pauses_forwards : (k : ℕ) (y : Note) (import : ℕ) (a : Answer) (l : Left) (w : Asker) → TurnForwards (held_pauses x plan k y import a l w)
  pauses_forwards k y import a l (inside (an_entry e) c) = λ none. tt
  pauses_forwards k y import a l (inside the_start c) = tt
  pauses_forwards k y import a l (outermost old) = tt

  tested_forwards : (k import : ℕ) (args : List Value) (w : Asker) (l : Left) (a : Answer) (o : Option End) (pause : Option ℕ)
      → TurnForwards (held_tested p x plan k import args w l a o pause)
  tested_forwards k import args w l a (Some e) pause = λ none. tt
  tested_forwards k import args w l a None None = given_forwards k (call_note import args (store_at w) (stack_at p w) None) a.said (poked (store_at w) a.pokes) l w
  tested_forwards k import args w l a None (Some ticks) = pauses_forwards k (call_note import args (store_at w) (stack_at p w) (Some ticks)) import a l w

  asked_forwards : (k import : ℕ) (args : List Value) (w : Asker) (l : Left) (os : List Outcome) → TurnForwards (held_asked p x plan k import args w l os)
  asked_forwards k import args w l [] = λ none. tt
  asked_forwards k import args w l (refused e ∷ os) = λ none. tt
  asked_forwards k import args w l (given a ∷ os) =
      tested_forwards k import args w (with_outcomes l os) a
      (fault_of (func_type_at p import).results (Rattle.std.specs.Prelude.length (store_at w).memory) plan (in_start w) import a) (pause_of a.ticks)

  back_forwards : (k : ℕ) (task : Task) (vs : List Value) (s : Store) (l : Left) → TurnForwards (held_back k task vs s l)
  back_forwards k the_start vs s l = λ none. on_forwards s l l.entries
  back_forwards k (an_entry e) vs s l = λ none. on_forwards s (next_entry l) l.entries

  step_forwards : (ph : Phase) (l : Left) (o : Next) → not_rewinding ph → TurnForwards (busy_step p x plan ph l o)
  step_forwards (is_running task) l (steps k d) h = λ none. tt
  step_forwards (is_running task) l (asks k i args d) h = asked_forwards k i args (inside task d) l l.outcomes
  step_forwards (is_running task) l (returns k vs s) h = back_forwards k task vs s l
  step_forwards (is_running task) l (traps k t s) h = λ none. tt
  step_forwards (is_running task) l stuck h = tt
  step_forwards (unwinds e i a) l (steps k d) h = λ none. tt
  step_forwards (unwinds e i a) l (asks k im args d) h = λ none. tt
  step_forwards (unwinds e i a) l (returns k vs s) h = λ none. tt
  step_forwards (unwinds e i a) l (traps k t s) h = λ none. tt
  step_forwards (unwinds e i a) l stuck h = tt
  step_forwards (rewinds e i a sp) l o h = absurd h

  export_forwards : (k : ℕ) (ph : Phase) (th : Then) (l : Left) (vs : List Value) (s : Store) → not_rewinding ph → TurnForwards (aside_back p x plan k ph th l vs s)
  export_forwards k (is_running task) th l vs s h = tt
  export_forwards k (unwinds e i a) (give_zero c) l vs s h = λ none. tt
  export_forwards k (unwinds e i a) test_unwound l vs s h = by_state (is_state 1 vs)
    where
      by_state : (b : Bool) → TurnForwards (if b then goes k [] (calling (unwinds e i a) s x.stop_unwind [] pause_there l) else broken k 2 s)
      by_state true = λ none. tt
      by_state false = λ none. tt
  export_forwards k (unwinds e i a) pause_there l vs s h = λ none. absurd none.0
  export_forwards k (unwinds e i a) call_again l vs s h = tt
  export_forwards k (unwinds e i a) (test_rewound c) l vs s h = tt
  export_forwards k (unwinds e i a) (give_answer c) l vs s h = tt
  export_forwards k (rewinds e i a sp) th l vs s h = absurd h

  aside_forwards : (ph : Phase) (th : Then) (l : Left) (o : Next) → not_rewinding ph → TurnForwards (aside_step p x plan ph th l o)
  aside_forwards ph th l (steps k d) h = λ none. h
  aside_forwards ph th l (asks k i args d) h = λ none. tt
  aside_forwards ph th l (returns k vs s) h = export_forwards k ph th l vs s h
  aside_forwards ph th l (traps k t s) h = λ none. tt
  aside_forwards ph th l stuck h = tt

  enters_forwards : (ph : Phase) (e : Entry) (s : Store) (l : Left) (o : Option Func) → not_rewinding ph → TurnForwards (busy_enters ph e s l o)
  enters_forwards ph e s l None h = tt
  enters_forwards ph e s l (Some f) h = λ none. h

  called_forwards : (ph : Phase) (s : Store) (f : ℕ) (args : List Value) (th : Then) (l : Left) (o : Option Func) → not_rewinding ph → TurnForwards (aside_called ph s f args th l o)
  called_forwards ph s f args th l None h = tt
  called_forwards ph s f args th l (Some g) h = λ none. h

  next_forwards : (s : Store) (l : Left) (es : List Entry) → TurnForwards (held_next p s l es)
  next_forwards s l [] = tt
  next_forwards s l (e ∷ es) = enters_forwards (is_running (an_entry e)) e s (record { number = l.number; entries = es; outcomes = l.outcomes }) (defined_at p e.func) tt

  start_forwards : (f : ℕ) (s : Store) (l : Left) (o : Option Func) → TurnForwards (held_start p x plan f s l o)
  start_forwards f s l (Some g) = λ none. tt
  start_forwards f s l None = by_import (nat_lt f (func_imports p))
    where
      by_import : (b : Bool) → TurnForwards (if b then held_asked p x plan 0 f [] (outermost s) l l.outcomes else stops)
      by_import true = asked_forwards 0 f [] (outermost s) l l.outcomes
      by_import false = tt

  turn_forwards : (h : Held) → Forwards h → TurnForwards (protocol p x plan h)
  turn_forwards (free s l) f = next_forwards s l l.entries
  turn_forwards (starting y s l) f = start_forwards y s l (defined_at p y)
  turn_forwards (busy ph c l) f = step_forwards ph l (step p c) f
  turn_forwards (calling ph s y args th l) f = called_forwards ph s y args th l (defined_at p y) f
  turn_forwards (aside ph c th l) f = aside_forwards ph th l (step p c) f
  turn_forwards (entering ph e s l) f = enters_forwards ph e s l (defined_at p e.func) f
  turn_forwards (over s) f = tt

  pub leads_forwards : (b to : Held) (n : ℕ) (es : List Note) → Leads (protocol p x plan) b n es to → Forwards b → NonePaused es → Forwards to
  leads_forwards b _ _ _ stays f none = f
  leads_forwards b to n gs (moves {t = t} {k = k} {n = n1} {es = es} {fs = fs} e rest em eg) f none =
      let all = subst NonePaused eg none in
      leads_forwards t to n1 fs rest (subst TurnForwards e (turn_forwards b f) (none_first es fs all)) (none_second es fs all)

  -- A RUN WITHOUT PAUSES goes forwards
  pub run_forwards : (n : ℕ) (b : Held) → Forwards b → NonePaused (run (protocol p x plan) n b).events → Forwards (run (protocol p x plan) n b).last
  run_forwards n b f none =
      let le : n ≤ n = omega arith in
      let r = run_is_run Held Note (protocol p x plan) n n b le in
      leads_forwards b (run (protocol p x plan) n b).last r.cost (run (protocol p x plan) n b).events r.leads f none

  -- so in front of its first event
  pub silent_forwards : (n : ℕ) (b : Held) → Forwards b → (run (protocol p x plan) n b).events ≡ [] → Forwards (run (protocol p x plan) n b).last
  silent_forwards n b f e = run_forwards n b f (subst NonePaused (sym e) tt)

  -- ---- behind the call of a rewound entry

  -- the host tests that the module rewinds, or gives the answer
  abbrev behind_call : Then → Type 0
  behind_call (test_rewound c) = Unit {0}
  behind_call (give_answer c) = Unit {0}
  behind_call _ = ⊥

  abbrev Past : Held → Type 0
  Past (calling ph s f args th l) = behind_call th
  Past (aside ph c th l) = behind_call th
  Past _ = ⊥

  past_asks : (told : Option Call) (h : Held) → Past h → RewindsTo p told h
  past_asks told (free s l) f = tt
  past_asks told (starting y s l) f = tt
  past_asks told (busy ph c l) f = absurd f
  past_asks told (calling ph s y args th l) f = tt
  past_asks told (aside ph c th l) f = tt
  past_asks told (entering ph e s l) f = tt
  past_asks told (over s) f = tt

  -- a turn without an event stays there
  abbrev TurnPast : Turn Held Note → Type 0
  TurnPast stops = Unit {0}
  TurnPast (goes k es t) = es ≡ [] → Past t

  resumed_past : (k : ℕ) (e : Entry) (said : Said) (sp : Store) (c : Configuration) (l : Left) (s : Store) → TurnPast (held_resumed k e said sp c l s)
  resumed_past k e (S.Value v) sp c l s = λ none. cc
  resumed_past k e S.Trap sp c l s = λ none. cc

  export_past : (k : ℕ) (ph : Phase) (th : Then) (l : Left) (vs : List Value) (s : Store) → behind_call th → TurnPast (aside_back p x plan k ph th l vs s)
  export_past k (is_running task) th l vs s h = tt
  export_past k (unwinds e i a) (give_zero c) l vs s h = absurd h
  export_past k (unwinds e i a) test_unwound l vs s h = absurd h
  export_past k (unwinds e i a) pause_there l vs s h = absurd h
  export_past k (unwinds e i a) call_again l vs s h = absurd h
  export_past k (unwinds e i a) (test_rewound c) l vs s h = tt
  export_past k (unwinds e i a) (give_answer c) l vs s h = tt
  export_past k (rewinds e i a sp) (give_zero c) l vs s h = absurd h
  export_past k (rewinds e i a sp) test_unwound l vs s h = absurd h
  export_past k (rewinds e i a sp) pause_there l vs s h = absurd h
  export_past k (rewinds e i a sp) call_again l vs s h = absurd h
  export_past k (rewinds e i a sp) (test_rewound c) l vs s h = by_state (is_state 2 vs)
    where
      by_state : (b : Bool) → TurnPast (if b then goes k [] (calling (rewinds e i a sp) s x.stop_rewind [] (give_answer c) l) else broken k 4 s)
      by_state true = λ none. tt
      by_state false = λ none. cc
  export_past k (rewinds e i a sp) (give_answer c) l vs s h = resumed_past k e a.said sp c l (poked s a.pokes)

  aside_past : (ph : Phase) (th : Then) (l : Left) (o : Next) → behind_call th → TurnPast (aside_step p x plan ph th l o)
  aside_past ph th l (steps k d) h = λ none. h
  aside_past ph th l (asks k i args d) h = λ none. cc
  aside_past ph th l (returns k vs s) h = export_past k ph th l vs s h
  aside_past ph th l (traps k t s) h = λ none. cc
  aside_past ph th l stuck h = tt

  called_past : (ph : Phase) (s : Store) (f : ℕ) (args : List Value) (th : Then) (l : Left) (o : Option Func) → behind_call th → TurnPast (aside_called ph s f args th l o)
  called_past ph s f args th l None h = tt
  called_past ph s f args th l (Some g) h = λ none. h

  turn_past : (h : Held) → Past h → TurnPast (protocol p x plan h)
  turn_past (free s l) f = absurd f
  turn_past (starting y s l) f = absurd f
  turn_past (busy ph c l) f = absurd f
  turn_past (calling ph s y args th l) f = called_past ph s y args th l (defined_at p y) f
  turn_past (aside ph c th l) f = aside_past ph th l (step p c) f
  turn_past (entering ph e s l) f = absurd f
  turn_past (over s) f = absurd f

  left_none : (xs ys : List Note) → [] ≡ xs ++ ys → (xs ≡ []) × (ys ≡ [])
  left_none [] ys e = (refl, sym e)
  left_none (v ∷ xs) ys e = cc

  leads_past : (b to : Held) (n : ℕ) (es : List Note) → Leads (protocol p x plan) b n es to → es ≡ [] → Past b → Past to
  leads_past b _ _ _ stays none f = f
  leads_past b to n gs (moves {t = t} {k = k} {n = n1} {es = es} {fs = fs} e rest em eg) none f =
      let both = left_none es fs (sym none ∙ eg) in
      leads_past t to n1 fs rest both.1 (subst TurnPast e (turn_past b f) both.0)

  -- ---- the only call

  module _ (e : Entry) (i : ℕ) (a : Answer) (sp : Store) (c d : Configuration) (l : Left) (count : ℕ) (args : List Value) (is : step p c ≡ asks count i args d) where
    abbrev Calls : Held
    Calls = busy (rewinds e i a sp) c l

    abbrev the_call : Call
    the_call = record { import = i; args = args }

    eq_self : (n : ℕ) → nat_eq n n ≡ true
    eq_self n = grind arith

    calls_so : MakesCall (Some the_call) (step p c)
    calls_so = subst (MakesCall (Some the_call)) (sym is) refl

    goes_past : protocol p x plan (busy (rewinds e i a sp) c l) ≡ goes count [] (calling (rewinds e i a sp) d.store x.get_state [] (test_rewound d) l)
    goes_past =
        ap (busy_step p x plan (rewinds e i a sp) l) is
        ∙ ap (λ b. if b then goes count [] (calling (rewinds e i a sp) d.store x.get_state [] (test_rewound d) l) else broken count 3 d.store) (eq_self i)

    -- behind it
    behind : (to : Held) (n : ℕ) (es : List Note) → Leads (protocol p x plan) (busy (rewinds e i a sp) c l) n es to → es ≡ [] → RewindsTo p (Some the_call) to
    behind _ _ _ stays none = calls_so
    behind to n gs (moves {t = t} {k = k} {n = n1} {es = es} {fs = fs} q rest em eg) none =
        let both = left_none es fs (sym none ∙ eg) in
        past_asks (Some the_call) to (leads_past t to n1 fs rest both.1 (subst TurnPast q (subst TurnPast (sym goes_past) (λ none. tt)) both.0))

    -- in front of it nothing is called
    not_past : (n : ℕ) (es : List Note) (b : Held) → Leads (protocol p x plan) b n es (busy (rewinds e i a sp) c l) → es ≡ [] → Past b → ⊥
    not_past n es b ld none f = leads_past b (busy (rewinds e i a sp) c l) n es ld none f

    abbrev TurnCalls : Turn Held Note → Type 0
    TurnCalls stops = Unit {0}
    TurnCalls (goes k es t) = es ≡ [] → Past t

    call_past : (e2 : Entry) (i2 : ℕ) (a2 : Answer) (sp2 : Store) (l2 : Left) (k i3 : ℕ) (args2 : List Value) (d2 : Configuration)
        → TurnCalls (busy_step p x plan (rewinds e2 i2 a2 sp2) l2 (asks k i3 args2 d2))
    call_past e2 i2 a2 sp2 l2 k i3 args2 d2 = by_import (nat_eq i3 i2)
      where
        by_import : (b : Bool) → TurnCalls (if b then goes k [] (calling (rewinds e2 i2 a2 sp2) d2.store x.get_state [] (test_rewound d2) l2) else broken k 3 d2.store)
        by_import true = λ none. tt
        by_import false = λ none. cc

    before_call : (e2 : Entry) (i2 : ℕ) (a2 : Answer) (sp2 : Store) (c2 : Configuration) (l2 : Left) (n : ℕ) (es : List Note)
        → Leads (protocol p x plan) (busy (rewinds e2 i2 a2 sp2) c2 l2) n es (busy (rewinds e i a sp) c l) → es ≡ [] → MakesCall (Some the_call) (step p c2)
    before_call e2 i2 a2 sp2 c2 l2 n es ld none = by_next (step p c2) refl
      where
        at_call : (k i3 : ℕ) (args2 : List Value) (d2 : Configuration) → step p c2 ≡ asks k i3 args2 d2 → (to : Held) (n : ℕ) (es : List Note)
            → Leads (protocol p x plan) (busy (rewinds e2 i2 a2 sp2) c2 l2) n es to → to ≡ busy (rewinds e i a sp) c l → es ≡ [] → MakesCall (Some the_call) (step p c2)
        at_call k i3 args2 d2 q to _ _ stays same none =
            let z : c2 ≡ c = cc in
            subst (λ y. MakesCall (Some the_call) (step p y)) (sym z) calls_so
        at_call k i3 args2 d2 q to n gs (moves {t = t} {k = k1} {n = n1} {es = es1} {fs = fs} e1 rest em eg) same none =
            let both = left_none es1 fs (sym none ∙ eg) in
            let past : Past t = subst TurnCalls (sym (ap (busy_step p x plan (rewinds e2 i2 a2 sp2) l2) q) ∙ e1) (call_past e2 i2 a2 sp2 l2 k i3 args2 d2) both.0 in
            absurd (not_past n1 fs t (subst (λ y. Leads (protocol p x plan) t n1 fs y) same rest) both.1 past)

        by_next : (o : Next) → step p c2 ≡ o → MakesCall (Some the_call) (step p c2)
        by_next (steps k d2) q = subst (MakesCall (Some the_call)) (sym q) tt
        by_next (asks k i3 args2 d2) q = at_call k i3 args2 d2 q (busy (rewinds e i a sp) c l) n es ld refl none
        by_next (returns k vs s) q = subst (MakesCall (Some the_call)) (sym q) tt
        by_next (traps k t s) q = subst (MakesCall (Some the_call)) (sym q) tt
        by_next stuck q = subst (MakesCall (Some the_call)) (sym q) tt

    in_front : (b : Held) (n : ℕ) (es : List Note) → Leads (protocol p x plan) b n es (busy (rewinds e i a sp) c l) → es ≡ [] → RewindsTo p (Some the_call) b
    in_front (free s l2) n es ld none = tt
    in_front (starting y s l2) n es ld none = tt
    in_front (busy (is_running task) c2 l2) n es ld none = tt
    in_front (busy (unwinds e2 i2 a2) c2 l2) n es ld none = tt
    in_front (busy (rewinds e2 i2 a2 sp2) c2 l2) n es ld none = before_call e2 i2 a2 sp2 c2 l2 n es ld none
    in_front (calling ph s y args2 th l2) n es ld none = tt
    in_front (aside ph c2 th l2) n es ld none = tt
    in_front (entering ph e2 s l2) n es ld none = tt
    in_front (over s) n es ld none = tt

    -- A REWOUND ENTRY CALLS ONCE: on the way to its call of an import and behind it, as long as nothing is told, this is the only one
    pub rewinds_once : (b : Held) (n : ℕ) → Leads (protocol p x plan) b n [] (busy (rewinds e i a sp) c l) → (j : ℕ) → (run (protocol p x plan) j b).events ≡ []
        → RewindsTo p (Some (record { import = i; args = args })) (run (protocol p x plan) j b).last
    rewinds_once b n ld j none =
        let le : j ≤ j = omega arith in
        let r = run_is_run Held Note (protocol p x plan) j j b le in
        let to : Held = (run (protocol p x plan) j b).last in
        let made : Leads (protocol p x plan) b r.cost [] to = subst (λ es. Leads (protocol p x plan) b r.cost es to) none r.leads in
        ⊎_elim
        (λ later.
        let on = leads_beyond Held Note (protocol p x plan) b (busy (rewinds e i a sp) c l) to n r.cost [] [] ld made (omega arith) in
        let z : n + (r.cost - n) ≡ r.cost = omega arith in
        let whole = subst (λ k. Leads (protocol p x plan) b k on.0 to) z (leads_on Held Note (protocol p x plan) b (busy (rewinds e i a sp) c l) to n (r.cost - n) [] on.0 ld on.1) in
        behind to (r.cost - n) on.0 on.1 (leads_one Held Note (protocol p x plan) b to to r.cost on.0 [] whole made).0)
        (λ sooner.
        let on = leads_beyond Held Note (protocol p x plan) b to (busy (rewinds e i a sp) c l) r.cost n [] [] made ld (omega arith) in
        let z : r.cost + (n - r.cost) ≡ n = omega arith in
        let whole = subst (λ k. Leads (protocol p x plan) b k on.0 (busy (rewinds e i a sp) c l)) z
        (leads_on Held Note (protocol p x plan) b to (busy (rewinds e i a sp) c l) r.cost (n - r.cost) [] on.0 made on.1) in
        in_front to (n - r.cost) on.0 on.1 (leads_one Held Note (protocol p x plan) b (busy (rewinds e i a sp) c l) (busy (rewinds e i a sp) c l) n on.0 [] whole ld).0)
        (cases_lt n r.cost)

-- ---- whole runs

begun_forwards : (start : Option ℕ) (l : Left) (o : Opening) → Forwards (held_begun start l o).last
begun_forwards start l (fails_as e) = tt
begun_forwards None l (opens s) = by_entries l.entries
  where
    by_entries : (es : List Entry) → Forwards (held_on s l es)
    by_entries [] = tt
    by_entries (e ∷ es) = tt
begun_forwards (Some f) l (opens s) = tt

start_forwards_all : (p : Module) (plan : Plan) (os : List Outcome) → Forwards (held_start_of p plan os).last
start_forwards_all p plan os = begun_forwards p.start (Rattle.wa_model.specs.Blocking.all_left plan os) (opening p plan.globals)

-- a run that tells no pause never rewinds
pub protocol_forwards : (p : Module) (plan : Plan) (os : List Outcome) (n : ℕ) → NonePaused (Protocol p plan os n).events → Forwards (Protocol p plan os n).last
protocol_forwards p plan os n none =
    run_forwards p (exports_of p) plan n (held_start_of p plan os).last (start_forwards_all p plan os)
    (none_second (held_start_of p plan os).events (run (protocol p (exports_of p) plan) n (held_start_of p plan os).last).events none)
