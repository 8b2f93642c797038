-- A strand's moves: an end leaves nothing to do, only a pause leads to where the stack is rewound, and none leads back into the start function.
use Rattle.std.proofs.Common.{◌≡◌, ℕ, List, [], ◌∷◌, Option, Some, None, Bool, true, false, refl}
use Rattle.std.specs.Prelude.{if◌then◌else◌, nat_eq, nat_lt, length}
use Rattle.wa_types.specs.declared.values.Value.{Value}
use Rattle.wa_types.specs.Modules.{defined_at, func_imports, func_type_at}
use Rattle.wa_types.specs.Syntax.{Func, Module}
use Rattle.wa_model.specs.declared.answers.Said.{Said}
use Rattle.wa_model.specs.declared.answers.Said.TheVariants as S
use Rattle.wa_model.specs.declared.events.End.{End}
use Rattle.wa_model.specs.Outside.{Answer, Event, answered, ended, paused, returned}
use Rattle.wa_model.specs.Blocking.{Asker, Left, Note, Task, an_entry, call_note, done_notes, fault_of, in_start, inside, is_start, next_entry, note, outermost, pause_of, poked, stack_at, store_at, the_start}
use Rattle.wa_model.specs.Blocking.{value_of_results, with_outcomes}
use Rattle.wa_model.specs.Configuration.{Configuration}
use Rattle.wa_model.specs.Machine.{Turn, goes, stops}
use Rattle.wa_model.specs.Plan.{Entry, Outcome, Plan, given, refused}
use Rattle.wa_model.specs.Protocol.{Exports, Held, Phase, Then, aside, aside_back, aside_called, aside_step, busy, busy_enters, busy_step, call_again, calling, entering, free, give_answer}
use Rattle.wa_model.specs.Protocol.{give_zero, held_asked, held_back, held_given, held_next, held_on, held_pauses, held_resumed, held_start, held_tested, is_running, is_state, over}
use Rattle.wa_model.specs.Protocol.{pause_there, protocol, rewinds, starting, store_held, test_rewound, test_unwound, unwinds}
use Rattle.wa_model.specs.Step.{Next, asks, returns, step, steps, stuck, traps}
use Rattle.wa_model.specs.Store.{Store}
use Rattle.host_laws.specs.Stretch.{is_over}
use Rattle.strand_laws.specs.Strands.{held_starts}
use Rattle.strand_laws.specs.Woven.{last_event}
use Rattle.strand_host.specs.Standing.{is_at_pause, is_in_start, is_start_phase}

-- where a move leads, by the last event that it makes
abbrev pub Settles : Option Event → Held → Type 0
Settles (Some (ended how)) h = is_over h ≡ true
Settles (Some (paused ticks used)) h = Unit {0}
Settles _ h = is_at_pause h ≡ false

-- an end has the store that is left
abbrev pub HasStore : Event → Store → Held → Type 0
HasStore (ended how) s h = s ≡ store_held h
HasStore _ s h = Unit {0}

-- the last of these, if it is one
abbrev pub LastStore : List Note → Held → Type 0
LastStore [] h = Unit {0}
LastStore (x ∷ []) h = HasStore x.event x.store h
LastStore (x ∷ y ∷ ys) h = LastStore (y ∷ ys) h

-- and it stays behind the start function
abbrev pub MoveSo : (in_start : Bool) → Turn Held Note → Type 0
MoveSo b stops = Unit {0}
MoveSo b (goes k es h) = Settles (last_event es) h × (b ≡ false → is_in_start h ≡ false) × LastStore es h

module _ (b : Bool) (k : ℕ) (s : Store) (l : Left) where
  done_so : (es : List Entry) → MoveSo b (goes k (done_notes s es) (held_on s l es))
  done_so [] = (refl, λ e. refl, refl)
  done_so (e ∷ es) = (refl, λ q. refl, tt)

  returned_so : (n : ℕ) (v : Option Value) (es : List Entry) → MoveSo b (goes k (note (returned n v) s ∷ done_notes s es) (held_on s l es))
  returned_so n v [] = (refl, λ e. refl, refl)
  returned_so n v (e ∷ es) = (refl, λ q. refl, tt)

  answered_so : (y : Note) (v : Said) (es : List Entry) → MoveSo b (goes k (y ∷ note (answered v) s ∷ done_notes s es) (held_on s l es))
  answered_so y v [] = (refl, λ e. refl, refl)
  answered_so y v (e ∷ es) = (refl, λ q. refl, tt)

module _ (p : Module) (x : Exports) (plan : Plan) where
  given_so : (k : ℕ) (y : Note) (said : Said) (s : Store) (l : Left) (w : Asker) → MoveSo (in_start w) (held_given k y said s l w)
  given_so k y (S.Value v) s l (inside task c) = (refl, λ e. e, tt)
  given_so k y (S.Value v) s l (outermost old) = answered_so true k s l y (S.Value v) l.entries
  given_so k y S.Trap s l w = (refl, λ e. refl, refl)

  pauses_so : (b : Bool) (k i : ℕ) (args : List Value) (s : Store) (st : _) (o : Option ℕ) (a : Answer) (l : Left) (w : Asker) → MoveSo b (held_pauses x plan k (call_note i args s st o) i a l w)
  pauses_so b k i args s st o a l (inside (an_entry e) c) = (refl, λ q. refl, tt)
  pauses_so b k i args s st o a l (inside the_start c) = tt
  pauses_so b k i args s st o a l (outermost t) = tt

  tested_so : (k i : ℕ) (args : List Value) (w : Asker) (l : Left) (a : Answer) (o : Option End) (t : Option ℕ) → MoveSo (in_start w) (held_tested p x plan k i args w l a o t)
  tested_so k i args w l a (Some e) t = (refl, λ q. refl, refl)
  tested_so k i args w l a None None = given_so k _ a.said (poked (store_at w) a.pokes) l w
  tested_so k i args w l a None (Some ticks) = pauses_so (in_start w) k i args (store_at w) (stack_at p w) (Some ticks) a l w

  asked_so : (k i : ℕ) (args : List Value) (w : Asker) (l : Left) (os : List Outcome) → MoveSo (in_start w) (held_asked p x plan k i args w l os)
  asked_so k i args w l [] = (refl, λ q. refl, tt)
  asked_so k i args w l (refused e ∷ os) = (refl, λ q. refl, refl)
  asked_so k i args w l (given a ∷ os) =
      tested_so k i args w (with_outcomes l os) a (fault_of (func_type_at p i).results (length (store_at w).memory) plan (in_start w) i a) (pause_of a.ticks)

  back_so : (b : Bool) (k : ℕ) (task : Task) (vs : List Value) (s : Store) (l : Left) → MoveSo b (held_back k task vs s l)
  back_so b k the_start vs s l = done_so b k s l l.entries
  back_so b k (an_entry e) vs s l = returned_so b k s (next_entry l) l.number (value_of_results vs) l.entries

  either_so : (b t : Bool) (m n : Turn Held Note) → MoveSo b m → MoveSo b n → MoveSo b (if t then m else n)
  either_so b true m n h q = h
  either_so b false m n h q = q

  busy_so : (ph : Phase) (l : Left) (o : Next) → MoveSo (is_start_phase ph) (busy_step p x plan ph l o)
  busy_so (is_running task) l (steps k d) = (refl, λ e. e, tt)
  busy_so (unwinds e i a) l (steps k d) = (refl, λ q. refl, tt)
  busy_so (rewinds e i a sp) l (steps k d) = (refl, λ q. refl, tt)
  busy_so (is_running task) l (asks k i args d) = asked_so k i args (inside task d) l l.outcomes
  busy_so (unwinds e i a) l (asks k j args d) = (refl, λ q. refl, refl)
  busy_so (rewinds e i a sp) l (asks k j args d) = either_so false (nat_eq j i) _ _ (refl, λ q. refl, tt) (refl, λ q. refl, refl)
  busy_so (is_running task) l (returns k vs s) = back_so (is_start task) k task vs s l
  busy_so (unwinds e i a) l (returns k vs s) = (refl, λ q. refl, tt)
  busy_so (rewinds e i a sp) l (returns k vs s) = (refl, λ q. refl, refl)
  busy_so ph l (traps k t s) = (refl, λ q. refl, refl)
  busy_so ph l stuck = tt

  resumed_so : (k : ℕ) (e : Entry) (said : Said) (sp : Store) (c : Configuration) (l : Left) (s : Store) → MoveSo false (held_resumed k e said sp c l s)
  resumed_so k e (S.Value v) sp c l s = (refl, λ q. refl, tt)
  resumed_so k e S.Trap sp c l s = (refl, λ q. refl, refl)

  aside_back_so : (k : ℕ) (ph : Phase) (th : Then) (l : Left) (vs : List Value) (s : Store) → MoveSo false (aside_back p x plan k ph th l vs s)
  aside_back_so k (unwinds e i a) (give_zero c) l vs s = (refl, λ q. refl, tt)
  aside_back_so k (unwinds e i a) test_unwound l vs s = either_so false (is_state 1 vs) _ _ (refl, λ q. refl, tt) (refl, λ q. refl, refl)
  aside_back_so k (unwinds e i a) pause_there l vs s = (tt, λ q. refl, tt)
  aside_back_so k (unwinds e i a) call_again l vs s = tt
  aside_back_so k (unwinds e i a) (test_rewound c) l vs s = tt
  aside_back_so k (unwinds e i a) (give_answer c) l vs s = tt
  aside_back_so k (rewinds e i a sp) call_again l vs s = (refl, λ q. refl, tt)
  aside_back_so k (rewinds e i a sp) (test_rewound c) l vs s = either_so false (is_state 2 vs) _ _ (refl, λ q. refl, tt) (refl, λ q. refl, refl)
  aside_back_so k (rewinds e i a sp) (give_answer c) l vs s = resumed_so k e a.said sp c l (poked s a.pokes)
  aside_back_so k (rewinds e i a sp) (give_zero c) l vs s = tt
  aside_back_so k (rewinds e i a sp) test_unwound l vs s = tt
  aside_back_so k (rewinds e i a sp) pause_there l vs s = tt
  aside_back_so k (is_running task) th l vs s = tt

  aside_so : (ph : Phase) (th : Then) (l : Left) (o : Next) → MoveSo false (aside_step p x plan ph th l o)
  aside_so ph th l (steps k d) = (refl, λ q. refl, tt)
  aside_so ph th l (asks k i args d) = (refl, λ q. refl, refl)
  aside_so ph th l (returns k vs s) = aside_back_so k ph th l vs s
  aside_so ph th l (traps k t s) = (refl, λ q. refl, refl)
  aside_so ph th l stuck = tt

  enters_so : (ph : Phase) (e : Entry) (s : Store) (l : Left) (f : Option Func) → MoveSo (is_start_phase ph) (busy_enters ph e s l f)
  enters_so ph e s l None = tt
  enters_so ph e s l (Some f) = (refl, λ q. q, tt)

  next_so : (s : Store) (l : Left) (es : List Entry) → MoveSo false (held_next p s l es)
  next_so s l [] = tt
  next_so s l (e ∷ es) = enters_so (is_running (an_entry e)) e s (record { number = l.number; entries = es; outcomes = l.outcomes }) (defined_at p e.func)

  called_so : (ph : Phase) (s : Store) (f : ℕ) (args : List Value) (th : Then) (l : Left) (o : Option Func) → MoveSo false (aside_called ph s f args th l o)
  called_so ph s f args th l None = tt
  called_so ph s f args th l (Some g) = (refl, λ q. refl, tt)

  start_so : (f : ℕ) (s : Store) (l : Left) (o : Option Func) → MoveSo true (held_start p x plan f s l o)
  start_so f s l (Some g) = (refl, λ q. q, tt)
  start_so f s l None = either_so true (nat_lt f (func_imports p)) _ _ (asked_so 0 f [] (outermost s) l l.outcomes) tt

  pub move_so : (h : Held) → MoveSo (is_in_start h) (protocol p x plan h)
  move_so (free s l) = next_so s l l.entries
  move_so (starting f s l) = start_so f s l (defined_at p f)
  move_so (busy ph c l) = busy_so ph l (step p c)
  move_so (calling ph s f args th l) = called_so ph s f args th l (defined_at p f)
  move_so (aside ph c th l) = aside_so ph th l (step p c)
  move_so (entering ph e s l) = enters_so ph e s l (defined_at p e.func)
  move_so (over s) = tt

-- what is behind the start function doesn't stand in it
pub not_starts : (h : Held) → is_in_start h ≡ false → held_starts h ≡ false
not_starts (free s l) e = refl
not_starts (starting f s l) e = e
not_starts (busy (is_running task) c l) e = e
not_starts (busy (unwinds y i a) c l) e = refl
not_starts (busy (rewinds y i a sp) c l) e = refl
not_starts (calling ph s f args th l) e = refl
not_starts (aside ph c th l) e = refl
not_starts (entering ph y s l) e = refl
not_starts (over s) e = refl
