-- Along a run under the protocol the entry that runs is the one of its number, and those behind it are left; the table is that of instantiation; and
-- the answer of a pause is the last one that was met.
use Rattle.std.proofs.Common.{◌≡◌, ◌≤◌, ℕ, zero, suc, ◌+◌, Bool, true, false, cond, List, [], ◌∷◌, ◌++◌, length, drop, Option, Some, None, refl, sym, ap, ◌∙◌, subst, append_assoc, length-append, arith}
use Rattle.std.specs.Prelude.{nat_eq, nat_lt, slice_get}
use Rattle.wa_types.specs.declared.values.Value.{Value}
use Rattle.wa_types.specs.Modules.{defined_at, func_imports, func_type_at}
use Rattle.wa_types.specs.Syntax.{Func, Module}
use Rattle.wa_model.specs.declared.answers.Said.{Said}
use Rattle.wa_model.specs.declared.answers.Said.TheVariants as SV
use Rattle.wa_model.specs.declared.events.End.{End}
use Rattle.wa_model.specs.Outside.{Answer}
use Rattle.wa_model.specs.Machine.{Turn, stops, goes, Leads, stays, moves}
use Rattle.wa_model.specs.Store.{Store}
use Rattle.wa_model.specs.Configuration.{Configuration}
use Rattle.wa_model.specs.Step.{Next, steps, asks, returns, traps, stuck, step}
use Rattle.wa_model.specs.Plan.{Entry, Plan, Outcome, given, refused}
use Rattle.wa_model.specs.Instantiation.{Opening, fails_as, opens}
use Rattle.wa_model.specs.Blocking.{Note, call_note, fault_of, pause_of, poked, Task, the_start, an_entry, Left, with_outcomes, Asker, inside, outermost, store_at, stack_at, in_start, next_entry, all_left}
use Rattle.wa_model.specs.Protocol.{Exports, Phase, is_running, unwinds, rewinds, Then, give_zero, test_unwound, pause_there, call_again, test_rewound, give_answer, Held, free, starting, busy, calling, aside, entering, over, protocol, broken, held_on, held_back, held_given, held_resumed, held_pauses, held_tested, held_asked, busy_step, is_state, aside_back, aside_step, busy_enters, held_next, aside_called, held_start, held_begun}
use Rattle.many_host.proofs.KeptTables.{NextKept, step_kept}

-- the first of those that are left
first_left : (xs : List Entry) (k : ℕ) (e : Entry) (es : List Entry) → e ∷ es ≡ drop k xs → (slice_get xs k ≡ Some e) × (es ≡ drop (suc k) xs)
first_left [] zero e es q = cc
first_left [] (suc k) e es q = cc
first_left (x ∷ xs) zero e es q = let a : x ≡ e = cc in let b : es ≡ xs = cc in (ap (λ z. Some z) a, b)
first_left (x ∷ xs) (suc k) e es q = first_left xs k e es q

-- ---- what holds wherever a run stands

module _ (plan : Plan) (table : List (Option ℕ)) (all : List Outcome) where
  -- the entries from the next one on are left
  abbrev Behind : Left → Type 0
  Behind l = l.entries ≡ drop l.number plan.entries

  -- the entry that runs
  abbrev pub Running : Entry → Left → Type 0
  Running e l = (slice_get plan.entries l.number ≡ Some e) × (l.entries ≡ drop (suc l.number) plan.entries)

  abbrev TaskAt : Task → Left → Type 0
  TaskAt the_start l = Behind l
  TaskAt (an_entry e) l = Running e l

  -- of all outcomes these are left, and no more were met than was paid
  abbrev Took : ℕ → List Outcome → Type 0
  Took n os = (done : List Outcome) × (all ≡ done ++ os) × (length done ≤ n)

  -- the last one met gave this answer
  abbrev pub TookLast : ℕ → Answer → List Outcome → Type 0
  TookLast n a os = (done : List Outcome) × (all ≡ done ++ given a ∷ os) × (suc (length done) ≤ n)

  abbrev PhaseAt : ℕ → Phase → Left → Type 0
  PhaseAt n (is_running task) l = TaskAt task l × Took n l.outcomes
  PhaseAt n (unwinds e i a) l = Running e l × TookLast n a l.outcomes
  PhaseAt n (rewinds e i a since) l = Running e l × TookLast n a l.outcomes

  abbrev pub HeldAt : ℕ → Held → Type 0
  HeldAt n (free s l) = (s.table ≡ table) × Behind l × Took n l.outcomes
  HeldAt n (starting f s l) = (s.table ≡ table) × Behind l × Took n l.outcomes
  HeldAt n (busy ph c l) = (c.store.table ≡ table) × PhaseAt n ph l
  HeldAt n (calling ph s f args th l) = (s.table ≡ table) × PhaseAt n ph l
  HeldAt n (aside ph c th l) = (c.store.table ≡ table) × PhaseAt n ph l
  HeldAt n (entering ph e s l) = (s.table ≡ table) × PhaseAt n ph l
  HeldAt n (over s) = Unit {0}

  abbrev TurnAt : ℕ → Turn Held Note → Type 0
  TurnAt n stops = Unit {0}
  TurnAt n (goes k es t) = HeldAt (n + suc k) t

  -- ---- once more is paid

  took_later : (n m : ℕ) (os : List Outcome) → n ≤ m → Took n os → Took m os
  took_later n m os le h = (h.0, h.1, omega (arith, le, h.2))

  last_later : (n m : ℕ) (a : Answer) (os : List Outcome) → n ≤ m → TookLast n a os → TookLast m a os
  last_later n m a os le h = (h.0, h.1, omega (arith, le, h.2))

  phase_later : (n m : ℕ) (ph : Phase) (l : Left) → n ≤ m → PhaseAt n ph l → PhaseAt m ph l
  phase_later n m (is_running task) l le h = (h.0, took_later n m l.outcomes le h.1)
  phase_later n m (unwinds e i a) l le h = (h.0, last_later n m a l.outcomes le h.1)
  phase_later n m (rewinds e i a since) l le h = (h.0, last_later n m a l.outcomes le h.1)

  -- the answer of a pause was met
  last_took : (n : ℕ) (a : Answer) (os : List Outcome) → TookLast n a os → Took n os
  last_took n a os h =
      (h.0 ++ given a ∷ [], h.1 ∙ sym (append_assoc h.0 (given a ∷ []) os), (let more = length-append h.0 (given a ∷ []) in omega (arith, more, h.2)))

  module _ (p : Module) (x : Exports) where
    paid : (n k : ℕ) → n ≤ n + suc k
    paid n k = omega arith

    abbrev AskerAt : Asker → Left → Type 0
    AskerAt (inside task c) l = TaskAt task l × (c.store.table ≡ table)
    AskerAt (outermost s) l = Behind l × (s.table ≡ table)

    -- other outcomes are left
    left_with : (w : Asker) (l : Left) (os : List Outcome) → AskerAt w l → AskerAt w (with_outcomes l os)
    left_with (inside the_start c) l os h = h
    left_with (inside (an_entry e) c) l os h = h
    left_with (outermost s) l os h = h

    asker_table : (w : Asker) (l : Left) → AskerAt w l → (store_at w).table ≡ table
    asker_table (inside task c) l h = h.1
    asker_table (outermost s) l h = h.1

    on_at : (n : ℕ) (s : Store) (l : Left) (es : List Entry) → s.table ≡ table → Behind l → Took n l.outcomes → HeldAt n (held_on s l es)
    on_at n s l [] e h t = tt
    on_at n s l (y ∷ ys) e h t = (e, h, t)

    back_at : (n k : ℕ) (task : Task) (vs : List Value) (s : Store) (l : Left) → s.table ≡ table → TaskAt task l → Took n l.outcomes → TurnAt n (held_back k task vs s l)
    back_at n k the_start vs s l e h t = on_at (n + suc k) s l l.entries e h (took_later n (n + suc k) l.outcomes (paid n k) t)
    back_at n k (an_entry y) vs s l e h t = on_at (n + suc k) s (next_entry l) l.entries e h.1 (took_later n (n + suc k) l.outcomes (paid n k) t)

    given_at : (n k : ℕ) (y : Note) (said : Said) (s : Store) (l : Left) (w : Asker) → s.table ≡ table → AskerAt w l → Took (n + suc k) l.outcomes → TurnAt n (held_given k y said s l w)
    given_at n k y (SV.Value v) s l (inside task c) e h t = (e, (h.0, t))
    given_at n k y (SV.Value v) s l (outermost old) e h t = on_at (n + suc k) s l l.entries e h.0 t
    given_at n k y SV.Trap s l w e h t = tt

    resumed_at : (n k : ℕ) (y : Entry) (said : Said) (since : Store) (c : Configuration) (l : Left) (s : Store) → s.table ≡ table → Running y l → Took (n + suc k) l.outcomes
        → TurnAt n (held_resumed k y said since c l s)
    resumed_at n k y (SV.Value v) since c l s e h t = (e, (h, t))
    resumed_at n k y SV.Trap since c l s e h t = tt

    pauses_at : (n k : ℕ) (y : Note) (import : ℕ) (a : Answer) (l : Left) (w : Asker) → AskerAt w l → TookLast (n + suc k) a l.outcomes → TurnAt n (held_pauses x plan k y import a l w)
    pauses_at n k y import a l (inside (an_entry e) c) h t = (h.1, (h.0, t))
    pauses_at n k y import a l (inside the_start c) h t = tt
    pauses_at n k y import a l (outermost s) h t = tt

    tested_at : (n k import : ℕ) (args : List Value) (w : Asker) (l : Left) (a : Answer) (o : Option End) (pause : Option ℕ) → AskerAt w l → TookLast (n + suc k) a l.outcomes
        → TurnAt n (held_tested p x plan k import args w l a o pause)
    tested_at n k import args w l a (Some e) pause h t = tt
    tested_at n k import args w l a None None h t =
        given_at n k (call_note import args (store_at w) (stack_at p w) None) a.said (poked (store_at w) a.pokes) l w (asker_table w l h) h (last_took (n + suc k) a l.outcomes t)
    tested_at n k import args w l a None (Some ticks) h t = pauses_at n k (call_note import args (store_at w) (stack_at p w) (Some ticks)) import a l w h t

    asked_at : (n k import : ℕ) (args : List Value) (w : Asker) (l : Left) (os : List Outcome) → AskerAt w l → Took n os → TurnAt n (held_asked p x plan k import args w l os)
    asked_at n k import args w l [] h t = tt
    asked_at n k import args w l (refused e ∷ os) h t = tt
    asked_at n k import args w l (given a ∷ os) h t =
        tested_at n k import args w (with_outcomes l os) a (fault_of (func_type_at p import).results (length (store_at w).memory) plan (in_start w) import a) (pause_of a.ticks) (left_with w l os h)
        (t.0, t.1, omega (arith, t.2))

    busy_at : (n : ℕ) (ph : Phase) (l : Left) (o : Next) → PhaseAt n ph l → NextKept table o → TurnAt n (busy_step p x plan ph l o)
    busy_at n ph l (steps k d) h e = (e, phase_later n (n + suc k) ph l (paid n k) h)
    busy_at n (is_running task) l (asks k import args d) h e = asked_at n k import args (inside task d) l l.outcomes (h.0, e) h.1
    busy_at n (unwinds y i a) l (asks k import args d) h e = tt
    busy_at n (rewinds y i a since) l (asks k import args d) h e = by_import (nat_eq import i)
      where
        by_import : (b : Bool) → TurnAt n (cond b (goes k [] (calling (rewinds y i a since) d.store x.get_state [] (test_rewound d) l)) (broken k 3 d.store))
        by_import true = (e, phase_later n (n + suc k) (rewinds y i a since) l (paid n k) h)
        by_import false = tt
    busy_at n (is_running task) l (returns k vs s) h e = back_at n k task vs s l e h.0 h.1
    busy_at n (unwinds y i a) l (returns k vs s) h e = (e, phase_later n (n + suc k) (unwinds y i a) l (paid n k) h)
    busy_at n (rewinds y i a since) l (returns k vs s) h e = tt
    busy_at n ph l (traps k trap s) h e = tt
    busy_at n ph l stuck h e = tt

    aside_back_at : (n k : ℕ) (ph : Phase) (th : Then) (l : Left) (vs : List Value) (s : Store) → PhaseAt n ph l → s.table ≡ table → TurnAt n (aside_back p x plan k ph th l vs s)
    aside_back_at n k (unwinds y i a) (give_zero c) l vs s h e = (e, phase_later n (n + suc k) (unwinds y i a) l (paid n k) h)
    aside_back_at n k (unwinds y i a) test_unwound l vs s h e = by_state (is_state 1 vs)
      where
        by_state : (b : Bool) → TurnAt n (cond b (goes k [] (calling (unwinds y i a) s x.stop_unwind [] pause_there l)) (broken k 2 s))
        by_state true = (e, phase_later n (n + suc k) (unwinds y i a) l (paid n k) h)
        by_state false = tt
    aside_back_at n k (unwinds y i a) pause_there l vs s h e = (e, phase_later n (n + suc k) (rewinds y i a s) l (paid n k) h)
    aside_back_at n k (rewinds y i a since) call_again l vs s h e = (e, phase_later n (n + suc k) (rewinds y i a since) l (paid n k) h)
    aside_back_at n k (rewinds y i a since) (test_rewound c) l vs s h e = by_state (is_state 2 vs)
      where
        by_state : (b : Bool) → TurnAt n (cond b (goes k [] (calling (rewinds y i a since) s x.stop_rewind [] (give_answer c) l)) (broken k 4 s))
        by_state true = (e, phase_later n (n + suc k) (rewinds y i a since) l (paid n k) h)
        by_state false = tt
    aside_back_at n k (rewinds y i a since) (give_answer c) l vs s h e =
        resumed_at n k y a.said since c l (poked s a.pokes) e h.0 (took_later n (n + suc k) l.outcomes (paid n k) (last_took n a l.outcomes h.1))
    aside_back_at n k _ _ l vs s h e = tt

    aside_at : (n : ℕ) (ph : Phase) (th : Then) (l : Left) (o : Next) → PhaseAt n ph l → NextKept table o → TurnAt n (aside_step p x plan ph th l o)
    aside_at n ph th l (steps k d) h e = (e, phase_later n (n + suc k) ph l (paid n k) h)
    aside_at n ph th l (asks k import args d) h e = tt
    aside_at n ph th l (returns k vs s) h e = aside_back_at n k ph th l vs s h e
    aside_at n ph th l (traps k trap s) h e = tt
    aside_at n ph th l stuck h e = tt

    enters_at : (n : ℕ) (ph : Phase) (y : Entry) (s : Store) (l : Left) (o : Option Func) → s.table ≡ table → PhaseAt n ph l → TurnAt n (busy_enters ph y s l o)
    enters_at n ph y s l None e h = tt
    enters_at n ph y s l (Some f) e h = (e, phase_later n (n + suc _) ph l (paid n _) h)

    next_at : (n : ℕ) (s : Store) (l : Left) (es : List Entry) → s.table ≡ table → es ≡ drop l.number plan.entries → Took n l.outcomes → TurnAt n (held_next p s l es)
    next_at n s l [] e h t = tt
    next_at n s l (y ∷ ys) e h t =
        enters_at n (is_running (an_entry y)) y s (record { number = l.number; entries = ys; outcomes = l.outcomes }) (defined_at p y.func) e (first_left plan.entries l.number y ys h, t)

    called_at : (n : ℕ) (ph : Phase) (s : Store) (f : ℕ) (args : List Value) (th : Then) (l : Left) (o : Option Func) → s.table ≡ table → PhaseAt n ph l → TurnAt n (aside_called ph s f args th l o)
    called_at n ph s f args th l None e h = tt
    called_at n ph s f args th l (Some g) e h = (e, phase_later n (n + suc (length args)) ph l (paid n (length args)) h)

    start_at : (n f : ℕ) (s : Store) (l : Left) (o : Option Func) → s.table ≡ table → Behind l → Took n l.outcomes → TurnAt n (held_start p x plan f s l o)
    start_at n f s l (Some g) e h t = (e, (h, took_later n (n + suc 0) l.outcomes (paid n 0) t))
    start_at n f s l None e h t = by_import (nat_lt f (func_imports p))
      where
        by_import : (b : Bool) → TurnAt n (cond b (held_asked p x plan 0 f [] (outermost s) l l.outcomes) stops)
        by_import true = asked_at n 0 f [] (outermost s) l l.outcomes (h, e) t
        by_import false = tt

    turn_at : (n : ℕ) (h : Held) → HeldAt n h → TurnAt n (protocol p x plan h)
    turn_at n (free s l) h = next_at n s l l.entries h.0 h.1 h.2
    turn_at n (starting f s l) h = start_at n f s l (defined_at p f) h.0 h.1 h.2
    turn_at n (busy ph c l) h = busy_at n ph l (step p c) h.1 (step_kept table p c h.0)
    turn_at n (calling ph s f args th l) h = called_at n ph s f args th l (defined_at p f) h.0 h.1
    turn_at n (aside ph c th l) h = aside_at n ph th l (step p c) h.1 (step_kept table p c h.0)
    turn_at n (entering ph y s l) h = enters_at n ph y s l (defined_at p y.func) h.0 h.1
    turn_at n (over s) h = tt

    -- along moves
    pub leads_at : (n m : ℕ) (s t : Held) (es : List Note) → HeldAt n s → Leads (protocol p x plan) s m es t → HeldAt (n + m) t
    leads_at n _ s t _ h stays = let z : n ≡ n + 0 = omega arith in subst (λ (k : ℕ). HeldAt k t) z h
    leads_at n m s u es h (moves {t = t} {k = k} {n = j} {fs = fs} e rest em eg) =
        let z : n + suc k + j ≡ n + m = omega (arith, em) in
        subst (λ (i : ℕ). HeldAt i u) z (leads_at (n + suc k) j t u fs (subst (TurnAt n) e (turn_at n s h)) rest)

  -- ---- where it begins

  pub begun_at : (start : Option ℕ) (o : Opening) → ((s : Store) → o ≡ opens s → s.table ≡ table) → HeldAt 0 (held_begun start (all_left plan all) o).last
  begun_at start (fails_as e) same = tt
  begun_at None (opens s) same = by plan.entries refl
    where
      by : (es : List Entry) → plan.entries ≡ es → HeldAt 0 (held_on s (all_left plan all) es)
      by [] e = tt
      by (y ∷ ys) e = (same s refl, refl, ([], refl, omega arith))
  begun_at (Some f) (opens s) same = (same s refl, refl, ([], refl, omega arith))
