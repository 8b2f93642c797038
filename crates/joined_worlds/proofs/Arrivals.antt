-- A run under the protocol comes to a rewind's begin by the note of a pause, and not otherwise.
use Rattle.std.proofs.Common.{◌≡◌, ◌⊎◌, inl, inr, ℕ, List, [], ◌∷◌, ◌++◌, length, Option, Some, None, Bool, true, false, refl, sym, ap, ◌∙◌, subst, append_assoc}
use Rattle.std.specs.Prelude.{nat_lt, nat_eq, if◌then◌else◌}
use Rattle.wa_types.specs.declared.values.Value.{Value}
use Rattle.wa_types.specs.Syntax.{Func, Module}
use Rattle.wa_types.specs.Modules.{func_imports, func_type_at, defined_at}
use Rattle.wa_model.specs.declared.answers.Said.{Said}
use Rattle.wa_model.specs.declared.answers.Said.TheVariants as S
use Rattle.wa_model.specs.declared.events.End.{End}
use Rattle.wa_model.specs.Outside.{Answer, paused}
use Rattle.wa_model.specs.Machine.{Turn, stops, goes, Leads, stays, moves}
use Rattle.wa_model.specs.Store.{Store}
use Rattle.wa_model.specs.Configuration.{Configuration}
use Rattle.wa_model.specs.Step.{Next, steps, asks, returns, traps, stuck, step}
use Rattle.wa_model.specs.Plan.{Entry, Plan, Outcome, given, refused}
use Rattle.wa_model.specs.Blocking.{Asker, Left, Note, Task, an_entry, call_note, done_notes, fault_of, in_start, inside, next_entry, note, outermost, pause_of, poked, stack_at, store_at, the_start, with_outcomes}
use Rattle.wa_model.specs.Protocol.{Exports, Held, Phase, Then, aside, aside_back, aside_called, aside_step, broken, busy, busy_enters, busy_step, call_again, calling, entering, free, give_answer, give_zero, held_asked, held_back, held_given, held_next, held_on, held_pauses, held_resumed, held_start, held_tested, is_running, is_state, over, pause_there, protocol, rewinds, starting, test_rewound, test_unwound, unwinds}

abbrev rewinds_in : Phase → Bool
rewinds_in (rewinds e i a sp) = true
rewinds_in ph = false

abbrev calls_again : Then → Bool
calls_again call_again = true
calls_again th = false

-- a rewind is to begin
abbrev pub at_rewind : Held → Bool
at_rewind (calling ph s f args th l) = if rewinds_in ph then calls_again th else false
at_rewind t = false

-- the note of a pause alone
abbrev pub IsPauseNote : List Note → Type 0
IsPauseNote es = (ticks used : ℕ) × (s : Store) × (es ≡ note (paused ticks used) s ∷ [])

abbrev Arrives : List Note → Held → Type 0
Arrives es t = at_rewind t ≡ true → IsPauseNote es

abbrev TurnArrives : Turn Held Note → Type 0
TurnArrives stops = Unit {0}
TurnArrives (goes k es t) = Arrives es t

never : {A : Type 0} → false ≡ true → A
never e = cc

module _ (p : Module) (x : Exports) (plan : Plan) where
  on_arrives : (es : List Note) (s : Store) (l : Left) (xs : List Entry) → Arrives es (held_on s l xs)
  on_arrives es s l [] = never
  on_arrives es s l (e ∷ xs) = never

  back_arrives : (k : ℕ) (task : Task) (results : List Value) (s : Store) (l : Left) → TurnArrives (held_back k task results s l)
  back_arrives k the_start results s l = on_arrives (done_notes s l.entries) s l l.entries
  back_arrives k (an_entry e) results s l = on_arrives _ s (next_entry l) l.entries

  given_arrives : (k : ℕ) (y : Note) (said : Said) (s : Store) (l : Left) (who : Asker) → TurnArrives (held_given k y said s l who)
  given_arrives k y (S.Value v) s l (inside task c) = never
  given_arrives k y (S.Value v) s l (outermost old) = on_arrives _ s l l.entries
  given_arrives k y S.Trap s l who = never

  pauses_arrive : (k : ℕ) (y : Note) (import : ℕ) (a : Answer) (l : Left) (who : Asker) → TurnArrives (held_pauses x plan k y import a l who)
  pauses_arrive k y import a l (inside (an_entry e) c) = never
  pauses_arrive k y import a l (inside the_start c) = tt
  pauses_arrive k y import a l (outermost s) = tt

  tested_arrives : (k import : ℕ) (args : List Value) (who : Asker) (l : Left) (a : Answer) (o : Option End) (pause : Option ℕ) → TurnArrives (held_tested p x plan k import args who l a o pause)
  tested_arrives k import args who l a (Some e) pause = never
  tested_arrives k import args who l a None None = given_arrives k (call_note import args (store_at who) (stack_at p who) None) a.said (poked (store_at who) a.pokes) l who
  tested_arrives k import args who l a None (Some ticks) = pauses_arrive k (call_note import args (store_at who) (stack_at p who) (Some ticks)) import a l who

  asked_arrives : (k import : ℕ) (args : List Value) (who : Asker) (l : Left) (os : List Outcome) → TurnArrives (held_asked p x plan k import args who l os)
  asked_arrives k import args who l [] = never
  asked_arrives k import args who l (refused e ∷ os) = never
  asked_arrives k import args who l (given a ∷ os) =
      tested_arrives k import args who (with_outcomes l os) a (fault_of (func_type_at p import).results (length (store_at who).memory) plan (in_start who) import a) (pause_of a.ticks)

  busy_arrives : (ph : Phase) (l : Left) (o : Next) → TurnArrives (busy_step p x plan ph l o)
  busy_arrives (is_running task) l (steps k d) = never
  busy_arrives (unwinds e i a) l (steps k d) = never
  busy_arrives (rewinds e i a sp) l (steps k d) = never
  busy_arrives (is_running task) l (asks k import args d) = asked_arrives k import args (inside task d) l l.outcomes
  busy_arrives (unwinds e i a) l (asks k import args d) = never
  busy_arrives (rewinds e i a sp) l (asks k import args d) = by_import (nat_eq import i)
    where
      by_import : (b : Bool) → TurnArrives (if b then goes k [] (calling (rewinds e i a sp) d.store x.get_state [] (test_rewound d) l) else broken k 3 d.store)
      by_import true = never
      by_import false = never
  busy_arrives (is_running task) l (returns k results s) = back_arrives k task results s l
  busy_arrives (unwinds e i a) l (returns k results s) = never
  busy_arrives (rewinds e i a sp) l (returns k results s) = never
  busy_arrives (is_running task) l (traps k trap s) = never
  busy_arrives (unwinds e i a) l (traps k trap s) = never
  busy_arrives (rewinds e i a sp) l (traps k trap s) = never
  busy_arrives (is_running task) l stuck = tt
  busy_arrives (unwinds e i a) l stuck = tt
  busy_arrives (rewinds e i a sp) l stuck = tt

  resumed_arrives : (k : ℕ) (e : Entry) (said : Said) (sp : Store) (c : Configuration) (l : Left) (s : Store) → TurnArrives (held_resumed k e said sp c l s)
  resumed_arrives k e (S.Value v) sp c l s = never
  resumed_arrives k e S.Trap sp c l s = never

  aside_back_arrives : (k : ℕ) (ph : Phase) (th : Then) (l : Left) (results : List Value) (s : Store) → TurnArrives (aside_back p x plan k ph th l results s)
  aside_back_arrives k (unwinds e i a) (give_zero c) l results s = never
  aside_back_arrives k (unwinds e i a) test_unwound l results s = by_state (is_state 1 results)
    where
      by_state : (b : Bool) → TurnArrives (if b then goes k [] (calling (unwinds e i a) s x.stop_unwind [] pause_there l) else broken k 2 s)
      by_state true = never
      by_state false = never
  aside_back_arrives k (unwinds e i a) pause_there l results s = λ h. (a.ticks, _, s, refl)
  aside_back_arrives k (rewinds e i a sp) call_again l results s = never
  aside_back_arrives k (rewinds e i a sp) (test_rewound c) l results s = by_state (is_state 2 results)
    where
      by_state : (b : Bool) → TurnArrives (if b then goes k [] (calling (rewinds e i a sp) s x.stop_rewind [] (give_answer c) l) else broken k 4 s)
      by_state true = never
      by_state false = never
  aside_back_arrives k (rewinds e i a sp) (give_answer c) l results s = resumed_arrives k e a.said sp c l (poked s a.pokes)
  aside_back_arrives k (is_running task) th l results s = tt
  aside_back_arrives k (unwinds e i a) call_again l results s = tt
  aside_back_arrives k (unwinds e i a) (test_rewound c) l results s = tt
  aside_back_arrives k (unwinds e i a) (give_answer c) l results s = tt
  aside_back_arrives k (rewinds e i a sp) (give_zero c) l results s = tt
  aside_back_arrives k (rewinds e i a sp) test_unwound l results s = tt
  aside_back_arrives k (rewinds e i a sp) pause_there l results s = tt

  aside_arrives : (ph : Phase) (th : Then) (l : Left) (o : Next) → TurnArrives (aside_step p x plan ph th l o)
  aside_arrives ph th l (steps k d) = never
  aside_arrives ph th l (asks k import args d) = never
  aside_arrives ph th l (returns k results s) = aside_back_arrives k ph th l results s
  aside_arrives ph th l (traps k trap s) = never
  aside_arrives ph th l stuck = tt

  enters_arrives : (ph : Phase) (e : Entry) (s : Store) (l : Left) (o : Option Func) → TurnArrives (busy_enters ph e s l o)
  enters_arrives ph e s l None = tt
  enters_arrives ph e s l (Some f) = never

  next_arrives : (s : Store) (l : Left) (es : List Entry) → TurnArrives (held_next p s l es)
  next_arrives s l [] = tt
  next_arrives s l (e ∷ es) = enters_arrives (is_running (an_entry e)) e s (record { number = l.number; entries = es; outcomes = l.outcomes }) (defined_at p e.func)

  called_arrives : (ph : Phase) (s : Store) (f : ℕ) (args : List Value) (th : Then) (l : Left) (o : Option Func) → TurnArrives (aside_called ph s f args th l o)
  called_arrives ph s f args th l None = tt
  called_arrives ph s f args th l (Some g) = never

  start_arrives : (f : ℕ) (s : Store) (l : Left) (o : Option Func) → TurnArrives (held_start p x plan f s l o)
  start_arrives f s l (Some g) = never
  start_arrives f s l None = by_import (nat_lt f (func_imports p))
    where
      by_import : (b : Bool) → TurnArrives (if b then held_asked p x plan 0 f [] (outermost s) l l.outcomes else stops)
      by_import true = asked_arrives 0 f [] (outermost s) l l.outcomes
      by_import false = tt

  turn_arrives : (t : Held) → TurnArrives (protocol p x plan t)
  turn_arrives (free s l) = next_arrives s l l.entries
  turn_arrives (starting f s l) = start_arrives f s l (defined_at p f)
  turn_arrives (busy ph c l) = busy_arrives ph l (step p c)
  turn_arrives (calling ph s f args th l) = called_arrives ph s f args th l (defined_at p f)
  turn_arrives (aside ph c th l) = aside_arrives ph th l (step p c)
  turn_arrives (entering ph e s l) = enters_arrives ph e s l (defined_at p e.func)
  turn_arrives (over s) = tt

  -- Moves that lead there are none, or the last one tells a pause.
  abbrev pub ComesBy : Held → ℕ → List Note → Held → Type 0
  ComesBy s n es t = ((n ≡ 0) × (s ≡ t) × (es ≡ [])) ⊎ ((front : List Note) × (ticks used : ℕ) × (at : Store) × (es ≡ front ++ note (paused ticks used) at ∷ []))

  pub arrives : (s t : Held) (n : ℕ) (es : List Note) → at_rewind t ≡ true → Leads (protocol p x plan) s n es t → ComesBy s n es t
  arrives s t n es h stays = inl (refl, refl, refl)
  arrives s t n es h (moves {t = u} {k = k} {n = n1} {es = es1} {fs = fs} e rest em eg) = by (arrives u t n1 fs h rest)
    where
      by : ComesBy u n1 fs t → ComesBy s n es t
      by (inl z) =
          let here : TurnArrives (goes k es1 u) = subst TurnArrives e (turn_arrives s) in
          let w = here (ap at_rewind z.1 ∙ h) in
          inr ([], w.0, w.1, w.2, eg ∙ ap (λ (ys : List Note). es1 ++ ys) z.2 ∙ ap (λ (ys : List Note). ys ++ []) w.3)
      by (inr w) =
          inr (es1 ++ w.0, w.1, w.2, w.3, eg ∙ ap (λ (ys : List Note). es1 ++ ys) w.4 ∙ sym (append_assoc es1 w.0 (note (paused w.1 w.2) w.3 ∷ [])))
