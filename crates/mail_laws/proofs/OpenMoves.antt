-- A move under the protocol is one whatever outcomes are left, or it asks for the next.
use Rattle.std.proofs.Common.{zero, suc, ◌≡◌, ℕ, ◌⊎◌, inl, inr, List, [], ◌∷◌, ◌++◌, length, Option, Some, None, Bool, true, false, refl}
use Rattle.std.specs.Prelude.{nat_lt, nat_eq, if◌then◌else◌}
use Rattle.wa_types.specs.declared.values.Value.{Value}
use Rattle.wa_types.specs.Syntax.{Func, Module}
use Rattle.wa_types.specs.Modules.{func_imports, func_type_at, defined_at}
use Rattle.wa_types.specs.declared.values.ValType.{ValType}
use Rattle.wa_types.specs.declared.values.Trap.{Trap}
use Rattle.wa_model.specs.Machine.{Turn, stops, goes}
use Rattle.wa_model.specs.Store.{Store}
use Rattle.wa_model.specs.Step.{Next, steps, asks, returns, traps, stuck, step}
use Rattle.wa_model.specs.declared.answers.Said.TheVariants as S
use Rattle.wa_model.specs.declared.events.End.{End}
use Rattle.wa_model.specs.declared.events.End.TheVariants.{StepsSpent, BadAnswer, BadPoke}
use Rattle.wa_model.specs.Outside.{Call, Answer, called, answered, returned, ended, Poke, Event}
use Rattle.wa_model.specs.Plan.{Entry, Plan, Outcome, given, refused}
use Rattle.wa_model.specs.Blocking.{Note, note, call_note, value_of_results, fault_of, pause_of, poked, done_notes, Task, the_start, an_entry, Left, with_outcomes, Asker, inside, outermost, store_at}
use Rattle.wa_model.specs.Blocking.{stack_at, in_start, next_entry, answers, or_else, bad_value, bad_poke, poke_fits, bad_pause, is_unlisted}
use Rattle.wa_model.specs.Protocol.{Exports, Phase, is_running, unwinds, rewinds, Then, give_zero, test_unwound, pause_there, call_again, test_rewound, give_answer, Held, free, starting, busy, calling}
use Rattle.wa_model.specs.Protocol.{aside, entering, over, broken, held_on, held_back, held_given, held_tested, held_asked, held_resumed, busy_step, is_state, aside_back, aside_step, busy_enters, held_next}
use Rattle.wa_model.specs.Protocol.{aside_called, held_start, protocol, store_held, trap_end}
use Rattle.wa_model.specs.declared.answers.Area.{Area}
use Rattle.run_theory.proofs.Runs.{turned}
use Rattle.world_model.specs.World.{call_in, ends_turn, is_end, unless_over}
use Rattle.host_laws.specs.Stretch.{meeting as with_more}
use Rattle.mail_laws.specs.Stalling.{is_stalled, stalls}
use Rattle.mail_laws.specs.MailWorld.{is_pause}

-- all isn't over
abbrev pub NotOver : Held → Type 0
NotOver (free s l) = Unit {0}
NotOver (starting f s l) = Unit {0}
NotOver (busy ph c l) = Unit {0}
NotOver (calling ph s f args th l) = Unit {0}
NotOver (aside ph c th l) = Unit {0}
NotOver (entering ph e s l) = Unit {0}
NotOver (over s) = ⊥

-- no call, and nothing that ends a turn
abbrev pub Plain : List Note → Type 0
Plain [] = Unit {0}
Plain (x ∷ xs) = (ends_turn x.event ≡ false) × (call_in x.event ≡ None) × Plain xs

-- an end, and not that of a program that waits for good
abbrev pub IsTame : Event → Type 0
IsTame e = (is_end e ≡ true) × (stalls e ≡ false)

-- the same of what ends a call
abbrev pub TameEnd : Option End → Type 0
TameEnd None = Unit {0}
TameEnd (Some e) = is_stalled e ≡ false

-- and of an outcome
abbrev pub Tame : Outcome → Type 0
Tame (given a) = Unit {0}
Tame (refused e) = is_stalled e ≡ false

or_tame : (a b : Option End) → TameEnd a → TameEnd b → TameEnd (or_else a b)
or_tame None b h k = k
or_tame (Some e) b h k = h

value_tame : (results : List ValType) (import : ℕ) (y : Rattle.wa_model.specs.declared.answers.Said.Said) → TameEnd (bad_value results import y)
value_tame results import S.Trap = tt
value_tame results import (S.Value v) = by (answers results v)
  where
    by : (b : Bool) → TameEnd (if b then None else Some (BadAnswer import v))
    by true = tt
    by false = refl

poke_tame : (size : ℕ) (areas : List Area) (ps : List Poke) → TameEnd (bad_poke size areas ps)
poke_tame size areas [] = tt
poke_tame size areas (p ∷ ps) = by (poke_fits size areas p) (poke_tame size areas ps)
  where
    by : (b : Bool) → TameEnd (bad_poke size areas ps) → TameEnd (if b then bad_poke size areas ps else Some (BadPoke p.at (length p.bytes)))
    by true on = on
    by false on = refl

pause_tame : (start unlisted : Bool) (import ticks : ℕ) → TameEnd (bad_pause start unlisted import ticks)
pause_tame start unlisted import zero = tt
pause_tame true unlisted import (suc ticks) = refl
pause_tame false true import (suc ticks) = refl
pause_tame false false import (suc ticks) = tt

pub fault_tame : (results : List ValType) (size : ℕ) (plan : Plan) (start : Bool) (import : ℕ) (a : Answer) → TameEnd (fault_of results size plan start import a)
fault_tame results size plan start import a =
    or_tame (bad_value results import a.said) (or_else (bad_poke size (plan.area ∷ plan.others) a.pokes) (bad_pause start (is_unlisted plan.listed import) import a.ticks))
    (value_tame results import a.said)
    (or_tame (bad_poke size (plan.area ∷ plan.others) a.pokes) (bad_pause start (is_unlisted plan.listed import) import a.ticks) (poke_tame size (plan.area ∷ plan.others) a.pokes)
    (pause_tame start (is_unlisted plan.listed import) import a.ticks))

-- what the notes of a move, behind a call's, say of where it leads
pub data Leaves (es : List Note) (u : Held) : Type 0 where
  on_it_goes : Plain es → NotOver u → Leaves es u
  it_pauses : (x : Note) → es ≡ x ∷ [] → is_pause x.event ≡ true → NotOver u → Leaves es u
  it_ends : (xs : List Note) (x : Note) (s : Store) → es ≡ xs ++ x ∷ [] → Plain xs → IsTame x.event → u ≡ over s → Leaves es u

abbrev pub Fine : Turn Held Note → Type 0
Fine stops = Unit {0}
Fine (goes k es u) = Leaves es u

pub record Goes (f : List Outcome → Turn Held Note) : Type 0 where
  pub turn : Turn Held Note
  pub same : (more : List Outcome) → f more ≡ turned (with_more more) turn
  pub fine : Fine turn

-- a turn that begins with this call's note
abbrev pub CallFine : Call → Turn Held Note → Type 0
CallFine c stops = Unit {0}
CallFine c (goes k fs u) = (y : Note) × (es : List Note) × (fs ≡ y ∷ es) × (y.event ≡ called c) × Leaves es u

pub record Answers (c : Call) (f : List Outcome → Turn Held Note) : Type 0 where
  pub turn : Turn Held Note
  pub same : (more : List Outcome) → f more ≡ turned (with_more more) turn
  pub fine : CallFine c turn

pub spent_is : (n : ℕ) (more : List Outcome) (h : Held) → NotOver h → unless_over n (with_more more h) ≡ note (ended (StepsSpent n)) (store_held h) ∷ []
spent_is n more (free s l) o = refl
spent_is n more (starting f s l) o = refl
spent_is n more (busy ph c l) o = refl
spent_is n more (calling ph s f args th l) o = refl
spent_is n more (aside ph c th l) o = refl
spent_is n more (entering ph e s l) o = refl
spent_is n more (over s) o = absurd o

module _ (p : Module) (x : Exports) (plan : Plan) where
  pub record Asks (f : List Outcome → Turn Held Note) : Type 0 where
    pub k : ℕ
    pub import : ℕ
    pub args : List Value
    pub who : Asker
    pub l : Left
    pub same : (more : List Outcome) → f more ≡ held_asked p x plan k import args who l more

  abbrev pub Kind : (List Outcome → Turn Held Note) → Type 0
  Kind f = Goes f ⊎ Asks f

  broken_goes : (k rule : ℕ) (s : Store) → Goes (λ (more : List Outcome). broken k rule s)
  broken_goes k rule s = record { turn = broken k rule s; same = λ more. refl; fine = it_ends [] _ s refl tt (refl, refl) refl }

  stuck_goes : Goes (λ (more : List Outcome). stops)
  stuck_goes = record { turn = stops; same = λ more. refl; fine = tt }

  end_goes : (k : ℕ) (e : End) (s : Store) → is_stalled e ≡ false → Goes (λ (more : List Outcome). goes k (note (ended e) s ∷ []) (over s))
  end_goes k e s calm = record { turn = goes k (note (ended e) s ∷ []) (over s); same = λ more. refl; fine = it_ends [] _ s refl tt (refl, calm) refl }

  trap_calm : (ph : Phase) (trap : Trap) (s : Store) → is_stalled (trap_end plan.area ph trap s) ≡ false
  trap_calm (is_running task) trap s = refl
  trap_calm (unwinds e i a) trap s = refl
  trap_calm (rewinds e i a sp) trap s = refl

  -- behind some notes the next entry, or Done
  on_goes : (k : ℕ) (xs : List Note) (s : Store) (l : Left) (es : List Entry) → Plain xs → Goes (λ (more : List Outcome). goes k (xs ++ done_notes s es) (held_on s (with_outcomes l more) es))
  on_goes k xs s l [] pl = record { turn = goes k (xs ++ done_notes s []) (over s); same = λ more. refl; fine = it_ends xs _ s refl pl (refl, refl) refl }
  on_goes k xs s l (e ∷ es) pl =
      record { turn = goes k (xs ++ []) (free s l); same = λ more. refl; fine = on_it_goes (plain_nil xs pl) tt }
    where
      plain_nil : (xs : List Note) → Plain xs → Plain (xs ++ [])
      plain_nil [] pl = tt
      plain_nil (x ∷ xs) pl = (pl.0, pl.1, plain_nil xs pl.2)

  back_goes : (k : ℕ) (task : Task) (results : List Value) (s : Store) (l : Left) → Goes (λ (more : List Outcome). held_back k task results s (with_outcomes l more))
  back_goes k the_start results s l = on_goes k [] s l l.entries tt
  back_goes k (an_entry e) results s l = on_goes k (note (returned l.number (value_of_results results)) s ∷ []) s (next_entry l) l.entries (refl, refl, tt)

  busy_kind : (ph : Phase) (l : Left) (o : Next) → Kind (λ (more : List Outcome). busy_step p x plan ph (with_outcomes l more) o)
  busy_kind (is_running task) l (steps k d) = inl (record { turn = goes k [] (busy (is_running task) d l); same = λ more. refl; fine = on_it_goes tt tt })
  busy_kind (unwinds e i a) l (steps k d) = inl (record { turn = goes k [] (busy (unwinds e i a) d l); same = λ more. refl; fine = on_it_goes tt tt })
  busy_kind (rewinds e i a sp) l (steps k d) = inl (record { turn = goes k [] (busy (rewinds e i a sp) d l); same = λ more. refl; fine = on_it_goes tt tt })
  busy_kind (is_running task) l (asks k import args d) = inr (record { k = k; import = import; args = args; who = inside task d; l = l; same = same })
    where
      same : (more : List Outcome) → held_asked p x plan k import args (inside task d) (with_outcomes l more) more ≡ held_asked p x plan k import args (inside task d) l more
      same [] = refl
      same (refused e ∷ more) = refl
      same (given a ∷ more) = refl
  busy_kind (unwinds e i a) l (asks k import args d) = inl (broken_goes k 1 _)
  busy_kind (rewinds e i a sp) l (asks k import args d) = inl (by_import (nat_eq import i))
    where
      by_import : (b : Bool) → Goes (λ (more : List Outcome).
          if b then goes k [] (calling (rewinds e i a sp) d.store x.get_state [] (test_rewound d) (with_outcomes l more)) else broken k 3 d.store)
      by_import true = record { turn = goes k [] (calling (rewinds e i a sp) d.store x.get_state [] (test_rewound d) l); same = λ more. refl; fine = on_it_goes tt tt }
      by_import false = broken_goes k 3 d.store
  busy_kind (is_running task) l (returns k results s) = inl (back_goes k task results s l)
  busy_kind (unwinds e i a) l (returns k results s) = inl (record { turn = goes k [] (calling (unwinds e i a) s x.get_state [] test_unwound l); same = λ more. refl; fine = on_it_goes tt tt })
  busy_kind (rewinds e i a sp) l (returns k results s) = inl (broken_goes k 5 s)
  busy_kind (is_running task) l (traps k trap s) = inl (end_goes k _ s refl)
  busy_kind (unwinds e i a) l (traps k trap s) = inl (end_goes k _ s refl)
  busy_kind (rewinds e i a sp) l (traps k trap s) = inl (end_goes k _ s refl)
  busy_kind (is_running task) l stuck = inl stuck_goes
  busy_kind (unwinds e i a) l stuck = inl stuck_goes
  busy_kind (rewinds e i a sp) l stuck = inl stuck_goes

  back_aside : (k : ℕ) (ph : Phase) (th : Then) (l : Left) (results : List Value) (s : Store) → Goes (λ (more : List Outcome). aside_back p x plan k ph th (with_outcomes l more) results s)
  back_aside k (unwinds e i a) (give_zero c) l results s =
      record { turn = aside_back p x plan k (unwinds e i a) (give_zero c) l results s; same = λ more. refl; fine = on_it_goes tt tt }
  back_aside k (unwinds e i a) test_unwound l results s = by_state (is_state 1 results)
    where
      by_state : (b : Bool) → Goes (λ (more : List Outcome). if b then goes k [] (calling (unwinds e i a) s x.stop_unwind [] pause_there (with_outcomes l more)) else broken k 2 s)
      by_state true = record { turn = goes k [] (calling (unwinds e i a) s x.stop_unwind [] pause_there l); same = λ more. refl; fine = on_it_goes tt tt }
      by_state false = broken_goes k 2 s
  back_aside k (unwinds e i a) pause_there l results s =
      record { turn = aside_back p x plan k (unwinds e i a) pause_there l results s; same = λ more. refl; fine = it_pauses _ refl refl tt }
  back_aside k (rewinds e i a sp) call_again l results s =
      record { turn = goes k [] (entering (rewinds e i a sp) e s l); same = λ more. refl; fine = on_it_goes tt tt }
  back_aside k (rewinds e i a sp) (test_rewound c) l results s = by_state (is_state 2 results)
    where
      by_state : (b : Bool) → Goes (λ (more : List Outcome). if b then goes k [] (calling (rewinds e i a sp) s x.stop_rewind [] (give_answer c) (with_outcomes l more)) else broken k 4 s)
      by_state true = record { turn = goes k [] (calling (rewinds e i a sp) s x.stop_rewind [] (give_answer c) l); same = λ more. refl; fine = on_it_goes tt tt }
      by_state false = broken_goes k 4 s
  back_aside k (rewinds e i a sp) (give_answer c) l results s = by_said a.said
    where
      by_said : (y : Rattle.wa_model.specs.declared.answers.Said.Said) → Goes (λ (more : List Outcome). held_resumed k e y sp c (with_outcomes l more) (poked s a.pokes))
      by_said S.Trap = record { turn = held_resumed k e S.Trap sp c l (poked s a.pokes); same = λ more. refl; fine = it_ends (_ ∷ []) _ _ refl (refl, refl, tt) (refl, refl) refl }
      by_said (S.Value v) = record { turn = held_resumed k e (S.Value v) sp c l (poked s a.pokes); same = λ more. refl; fine = on_it_goes (refl, refl, tt) tt }
  back_aside k (is_running task) th l results s = stuck_goes
  back_aside k (unwinds e i a) call_again l results s = stuck_goes
  back_aside k (unwinds e i a) (test_rewound c) l results s = stuck_goes
  back_aside k (unwinds e i a) (give_answer c) l results s = stuck_goes
  back_aside k (rewinds e i a sp) (give_zero c) l results s = stuck_goes
  back_aside k (rewinds e i a sp) test_unwound l results s = stuck_goes
  back_aside k (rewinds e i a sp) pause_there l results s = stuck_goes

  aside_goes : (ph : Phase) (th : Then) (l : Left) (o : Next) → Goes (λ (more : List Outcome). aside_step p x plan ph th (with_outcomes l more) o)
  aside_goes ph th l (steps k d) = record { turn = goes k [] (aside ph d th l); same = λ more. refl; fine = on_it_goes tt tt }
  aside_goes ph th l (asks k import args d) = broken_goes k 6 _
  aside_goes ph th l (returns k results s) = back_aside k ph th l results s
  aside_goes ph th l (traps k trap s) = end_goes k (trap_end plan.area ph trap s) s (trap_calm ph trap s)
  aside_goes ph th l stuck = stuck_goes

  enters_goes : (ph : Phase) (e : Entry) (s : Store) (l : Left) (o : Option Func) → Goes (λ (more : List Outcome). busy_enters ph e s (with_outcomes l more) o)
  enters_goes ph e s l None = stuck_goes
  enters_goes ph e s l (Some f) = record { turn = busy_enters ph e s l (Some f); same = λ more. refl; fine = on_it_goes tt tt }

  next_goes : (s : Store) (l : Left) (es : List Entry) → Goes (λ (more : List Outcome). held_next p s (with_outcomes l more) es)
  next_goes s l [] = stuck_goes
  next_goes s l (e ∷ es) = enters_goes (is_running (an_entry e)) e s (record { number = l.number; entries = es; outcomes = l.outcomes }) (defined_at p e.func)

  called_goes : (ph : Phase) (s : Store) (f : ℕ) (args : List Value) (th : Then) (l : Left) (o : Option Func) → Goes (λ (more : List Outcome). aside_called ph s f args th (with_outcomes l more) o)
  called_goes ph s f args th l None = stuck_goes
  called_goes ph s f args th l (Some g) = record { turn = aside_called ph s f args th l (Some g); same = λ more. refl; fine = on_it_goes tt tt }

  start_kind : (f : ℕ) (s : Store) (l : Left) (o : Option Func) → Kind (λ (more : List Outcome). held_start p x plan f s (with_outcomes l more) o)
  start_kind f s l (Some g) = inl (record { turn = held_start p x plan f s l (Some g); same = λ more. refl; fine = on_it_goes tt tt })
  start_kind f s l None = by_import (nat_lt f (func_imports p))
    where
      same : (more : List Outcome) → held_asked p x plan 0 f [] (outermost s) (with_outcomes l more) more ≡ held_asked p x plan 0 f [] (outermost s) l more
      same [] = refl
      same (refused e ∷ more) = refl
      same (given a ∷ more) = refl

      by_import : (b : Bool) → Kind (λ (more : List Outcome). if b then held_asked p x plan 0 f [] (outermost s) (with_outcomes l more) more else stops)
      by_import true = inr (record { k = 0; import = f; args = []; who = outermost s; l = l; same = same })
      by_import false = inl stuck_goes

  -- each move
  pub kind : (h : Held) → Kind (λ (more : List Outcome). protocol p x plan (with_more more h))
  kind (free s l) = inl (next_goes s l l.entries)
  kind (starting f s l) = start_kind f s l (defined_at p f)
  kind (busy ph c l) = busy_kind ph l (step p c)
  kind (calling ph s f args th l) = inl (called_goes ph s f args th l (defined_at p f))
  kind (aside ph c th l) = inl (aside_goes ph th l (step p c))
  kind (entering ph e s l) = inl (enters_goes ph e s l (defined_at p e.func))
  kind (over s) = inl stuck_goes

  -- ---- a call that is answered

  abbrev the_call : ℕ → List Value → Call
  the_call import args = record { import = import; args = args }

  abbrev AskedWith : (k import : ℕ) → List Value → Asker → Left → Outcome → Type 0
  AskedWith k import args who l o = Answers (the_call import args) (λ (more : List Outcome). held_asked p x plan k import args who l (o ∷ more))

  given_answers : (k import : ℕ) (args : List Value) (who : Asker) (l : Left) (pause : Option ℕ) (y : Rattle.wa_model.specs.declared.answers.Said.Said) (s : Store)
      → Answers (the_call import args) (λ (more : List Outcome). held_given k (call_note import args (store_at who) (stack_at p who) pause) y s (with_outcomes l more) who)
  given_answers k import args who l pause S.Trap s =
      record { turn = held_given k (call_note import args (store_at who) (stack_at p who) pause) S.Trap s l who; same = λ more. refl; fine = (_, _, refl, refl, it_ends (_ ∷ []) _ _ refl (refl, refl, tt) (refl, refl) refl) }
  given_answers k import args (inside task c) l pause (S.Value v) s =
      record {
        turn = held_given k (call_note import args c.store (stack_at p (inside task c)) pause) (S.Value v) s l (inside task c);
        same = λ more. refl;
        fine = (_, _, refl, refl, on_it_goes (refl, refl, tt) tt);
      }
  given_answers k import args (outermost old) l pause (S.Value v) s = by_entries l.entries
    where
      y : Note
      y = call_note import args old [] pause

      by_entries : (es : List Entry) → Answers (the_call import args) (λ (more : List Outcome). goes k (y ∷ note (answered (S.Value v)) s ∷ done_notes s es) (held_on s (with_outcomes l more) es))
      by_entries [] =
          record {
            turn = goes k (y ∷ note (answered (S.Value v)) s ∷ done_notes s []) (over s);
            same = λ more. refl;
            fine = (y, note (answered (S.Value v)) s ∷ done_notes s [], refl, refl, it_ends (note (answered (S.Value v)) s ∷ []) _ s refl (refl, refl, tt) (refl, refl) refl);
          }
      by_entries (e ∷ es) =
          record {
            turn = goes k (y ∷ note (answered (S.Value v)) s ∷ []) (free s l);
            same = λ more. refl;
            fine = (y, note (answered (S.Value v)) s ∷ [], refl, refl, on_it_goes (refl, refl, tt) tt);
          }

  tested_answers : (k import : ℕ) (args : List Value) (who : Asker) (l : Left) (a : Answer) (o : Option End) (pause : Option ℕ) → TameEnd o
      → Answers (the_call import args) (λ (more : List Outcome). held_tested p x plan k import args who (with_outcomes l more) a o pause)
  tested_answers k import args who l a (Some e) pause h =
      record { turn = held_tested p x plan k import args who l a (Some e) pause; same = λ more. refl; fine = (_, _, refl, refl, it_ends [] _ _ refl tt (refl, h) refl) }
  tested_answers k import args who l a None None h = given_answers k import args who l None a.said (poked (store_at who) a.pokes)
  tested_answers k import args (inside (an_entry e) c) l a None (Some ticks) h =
      record { turn = held_tested p x plan k import args (inside (an_entry e) c) l a None (Some ticks); same = λ more. refl; fine = (_, [], refl, refl, on_it_goes tt tt) }
  tested_answers k import args (inside the_start c) l a None (Some ticks) h = record { turn = stops; same = λ more. refl; fine = tt }
  tested_answers k import args (outermost s) l a None (Some ticks) h = record { turn = stops; same = λ more. refl; fine = tt }

  pub asked_with : (k import : ℕ) (args : List Value) (who : Asker) (l : Left) (o : Outcome) → Tame o → AskedWith k import args who l o
  asked_with k import args who l (refused e) h =
      record { turn = held_asked p x plan k import args who l (refused e ∷ []); same = λ more. refl; fine = (_, _, refl, refl, it_ends [] _ _ refl tt (refl, h) refl) }
  asked_with k import args who l (given a) h =
      tested_answers k import args who l a (fault_of (func_type_at p import).results (length (store_at who).memory) plan (in_start who) import a) (pause_of a.ticks)
      (fault_tame (func_type_at p import).results (length (store_at who).memory) plan (in_start who) import a)
