-- Behind the pause of a receive a run stands for every value: the moves up to there don't read it.
use Rattle.std.proofs.Common.{arith, ◌≡◌, ◌<◌, ◌≤◌, ◌+◌, ◌⊎◌, inl, inr, ℕ, suc, List, [], ◌∷◌, ◌++◌, length, Option, Some, None, Bool, true, false, if◌then◌else◌, refl, sym, ap, ◌∙◌, subst}
use Rattle.std.proofs.Common.{append_assoc, append-nil}
use Rattle.std.specs.Prelude.{nat_lt, nat_eq}
use Rattle.wa_types.specs.declared.values.Value.{Value}
use Rattle.wa_types.specs.declared.values.Value.TheVariants as V
use Rattle.wa_types.specs.Syntax.{Func, Module}
use Rattle.wa_types.specs.Modules.{func_imports, func_type_at, defined_at}
use Rattle.wa_model.specs.Machine.{Turn, stops, goes, Leads, stays, moves}
use Rattle.wa_model.specs.Store.{Store}
use Rattle.wa_model.specs.Step.{Next, steps, asks, returns, traps, stuck, step}
use Rattle.wa_model.specs.declared.answers.Said.TheVariants as S
use Rattle.wa_model.specs.declared.answers.Said.{Said}
use Rattle.wa_model.specs.declared.events.End.{End}
use Rattle.wa_model.specs.Outside.{Call, Answer, Event, called, answered, paused, parked, returned, ended, shown}
use Rattle.wa_model.specs.Plan.{Entry, Plan, Outcome, given, refused}
use Rattle.wa_model.specs.Instantiation.{Opening, fails_as, opens, opening}
use Rattle.wa_model.specs.Blocking.{Note, note, call_note, fault_of, pause_of, poked, done_notes, Task, the_start, an_entry, Left, with_outcomes, Asker, inside, outermost, store_at, stack_at, in_start}
use Rattle.wa_model.specs.Blocking.{next_entry, all_left}
use Rattle.wa_model.specs.Protocol.{Exports, exports_of, is_running, unwinds, rewinds, Then, give_zero, test_unwound, pause_there, call_again, test_rewound, give_answer, Held, free, starting, busy, calling}
use Rattle.wa_model.specs.Protocol.{aside, entering, over, broken, held_on, held_given, held_tested, held_asked, held_begun, busy_step, is_state, aside_back, aside_step, busy_enters, held_next, aside_called}
use Rattle.wa_model.specs.Protocol.{held_start, protocol}
use Rattle.run_theory.proofs.Runs.{turned}
use Rattle.world_model.specs.World.{Origin, at_pause, at_start, call_in, gone, is_end, Program}
use Rattle.world_laws.specs.Originals.{one_if, new_calls}
use Rattle.world_laws.proofs.Counting.{calls_on}
use Rattle.host_laws.specs.Stretch.{meeting, Stretch}
use Rattle.host_laws.specs.Stories.{Made, opened_at, opened_from}
use Rattle.mail_laws.specs.MailWorld.{is_pause, pauses}
use Rattle.mail_laws.specs.Mailboxes.{mailed}
use Rattle.mail_laws.specs.Unread.{with_value, UnreadAnswers}
use Rattle.mail_laws.specs.Stalling.{is_stalled}
use Rattle.mail_laws.proofs.WholeTurns.{pauses_behind}
use Rattle.mail_laws.proofs.OpenMoves.{Tame, Plain, Leaves, on_it_goes, it_pauses, it_ends, Fine, CallFine, Kind, kind, asked_with}
use Rattle.mail_laws.proofs.Tales.{answer_of, Unwinding, unwound, Rewinding, re_code, re_call, re_export, re_entry, rewound, Unwinds, u_stops, u_on, u_ends, u_pauses, unwinding_moves, Receives, r_stops}
use Rattle.mail_laws.proofs.Tales.{r_ends, r_unwinds, receives}

-- ---- notes

abbrev NoPause : List Note → Type 0
NoPause [] = Unit {0}
NoPause (x ∷ xs) = (is_pause x.event ≡ false) × NoPause xs

no_pause_on : (xs ys : List Note) → NoPause xs → NoPause ys → NoPause (xs ++ ys)
no_pause_on [] ys h k = k
no_pause_on (x ∷ xs) ys h k = (h.0, no_pause_on xs ys h.1 k)

no_pause_last : (xs : List Note) → NoPause xs → pauses xs ≡ false
no_pause_last [] h = refl
no_pause_last (x ∷ []) h = h.0
no_pause_last (x ∷ y ∷ ys) h = no_pause_last (y ∷ ys) h.1

some_on : (xs ys : List Note) → 0 < length ys → 0 < length (xs ++ ys)
some_on [] ys h = h
some_on (x ∷ xs) ys h = omega arith

call_counts : (y : Note) (c : Call) → y.event ≡ called c → one_if (call_in y.event) ≡ 1
call_counts y c e = ap (λ (v : Event). one_if (call_in v)) e

call_no_pause : (y : Note) (c : Call) → y.event ≡ called c → is_pause y.event ≡ false
call_no_pause y c e = ap is_pause e

end_no_pause : (e : Event) → is_end e ≡ true → (is_pause e ≡ false) × (one_if (call_in e) ≡ 0)
end_no_pause (paused t u) h = absurd cc
end_no_pause (ended how) h = (refl, refl)
end_no_pause (called c) h = absurd cc
end_no_pause (answered c) h = absurd cc
end_no_pause (parked u) h = absurd cc
end_no_pause (returned i v) h = absurd cc
end_no_pause (shown i v) h = absurd cc

pause_no_call : (e : Event) → is_pause e ≡ true → one_if (call_in e) ≡ 0
pause_no_call (paused t u) h = refl
pause_no_call (ended how) h = absurd cc
pause_no_call (called c) h = absurd cc
pause_no_call (answered c) h = absurd cc
pause_no_call (parked u) h = absurd cc
pause_no_call (returned i v) h = absurd cc
pause_no_call (shown i v) h = absurd cc

plain_calls : (xs : List Note) → Plain xs → new_calls xs ≡ 0
plain_calls [] h = refl
plain_calls (x ∷ xs) h = let one : one_if (call_in x.event) ≡ 0 = ap one_if h.1 in let ih = plain_calls xs h.2 in omega (arith, one, ih)

leaves_calls : (es : List Note) (u : Held) → Leaves es u → new_calls es ≡ 0
leaves_calls es u (on_it_goes pl n) = plain_calls es pl
leaves_calls es u (it_pauses x e is n) = let z = pause_no_call x.event is in ap new_calls e ∙ omega (arith, z)
leaves_calls es u (it_ends xs x s e pl is eu) =
    let z = (end_no_pause x.event is.0).1 in let p = plain_calls xs pl in ap new_calls e ∙ calls_on xs (x ∷ []) ∙ omega (arith, z, p)

-- ---- turns that are equal

goes_cost : {k j : ℕ} {es fs : List Note} {u v : Held} → goes k es u ≡ goes j fs v → k ≡ j
goes_cost e = cc

goes_notes : {k j : ℕ} {es fs : List Note} {u v : Held} → goes k es u ≡ goes j fs v → es ≡ fs
goes_notes e = cc

goes_to : {k j : ℕ} {es fs : List Note} {u v : Held} → goes k es u ≡ goes j fs v → u ≡ v
goes_to e = cc

stops_not : {k : ℕ} {es : List Note} {u : Held} → stops ≡ goes k es u → ⊥
stops_not e = cc

module _ (p : Module) (x : Exports) (plan : Plan) where
  abbrev next : Held → Turn Held Note
  next = protocol p x plan

  abbrev Goes_to : Held → ℕ → List Note → Held → Type 0
  Goes_to h cost notes t = Leads next h cost notes t

  -- a first move
  first : (h t v : Held) (k n cost : ℕ) (es fs notes : List Note) → next h ≡ goes k es v → Goes_to v n fs t → cost ≡ suc k + n → notes ≡ es ++ fs → Goes_to h cost notes t
  first h t v k n cost es fs notes e rest c g = moves e rest c g

  -- ---- a program that runs

  abbrev Unpaused : Held → Type 0
  Unpaused (free s l) = Unit {0}
  Unpaused (starting f s l) = Unit {0}
  Unpaused (busy (is_running task) c l) = Unit {0}
  Unpaused (over s) = Unit {0}
  Unpaused _ = ⊥

  abbrev TurnRuns : Turn Held Note → Type 0
  TurnRuns stops = Unit {0}
  TurnRuns (goes k es u) = (Unpaused u × NoPause es) ⊎ (0 < new_calls es)

  on_runs : (k : ℕ) (xs : List Note) (s : Store) (l : Left) (es : List Entry) → NoPause xs → TurnRuns (goes k (xs ++ done_notes s es) (held_on s l es))
  on_runs k xs s l [] h = inl (tt, no_pause_on xs (done_notes s []) h (refl, tt))
  on_runs k xs s l (e ∷ es) h = inl (tt, no_pause_on xs [] h tt)

  given_runs : (k import : ℕ) (args : List Value) (who : Asker) (l : Left) (pause : Option ℕ) (y : Said) (s : Store)
      → TurnRuns (held_given k (call_note import args (store_at who) (stack_at p who) pause) y s l who)
  given_runs k import args who l pause S.Trap s = inr (omega arith)
  given_runs k import args (inside task c) l pause (S.Value v) s = inr (omega arith)
  given_runs k import args (outermost old) l pause (S.Value v) s = inr (omega arith)

  tested_runs : (k import : ℕ) (args : List Value) (who : Asker) (l : Left) (a : Answer) (o : Option End) (pause : Option ℕ) → TurnRuns (held_tested p x plan k import args who l a o pause)
  tested_runs k import args who l a (Some e) pause = inr (omega arith)
  tested_runs k import args who l a None None = given_runs k import args who l None a.said (poked (store_at who) a.pokes)
  tested_runs k import args (inside (an_entry e) c) l a None (Some ticks) = inr (omega arith)
  tested_runs k import args (inside the_start c) l a None (Some ticks) = tt
  tested_runs k import args (outermost s) l a None (Some ticks) = tt

  asked_runs : (k import : ℕ) (args : List Value) (who : Asker) (l : Left) (os : List Outcome) → TurnRuns (held_asked p x plan k import args who l os)
  asked_runs k import args who l [] = inr (omega arith)
  asked_runs k import args who l (refused e ∷ os) = inr (omega arith)
  asked_runs k import args who l (given a ∷ os) =
      tested_runs k import args who (with_outcomes l os) a (fault_of (func_type_at p import).results (length (store_at who).memory) plan (in_start who) import a) (pause_of a.ticks)

  busy_runs : (task : Task) (l : Left) (o : Next) → TurnRuns (busy_step p x plan (is_running task) l o)
  busy_runs task l (steps k d) = inl (tt, tt)
  busy_runs task l (asks k import args d) = asked_runs k import args (inside task d) l l.outcomes
  busy_runs the_start l (returns k results s) = on_runs k [] s l l.entries tt
  busy_runs (an_entry e) l (returns k results s) = on_runs k (note (returned l.number (Rattle.wa_model.specs.Blocking.value_of_results results)) s ∷ []) s (next_entry l) l.entries (refl, tt)
  busy_runs task l (traps k trap s) = inl (tt, (refl, tt))
  busy_runs task l stuck = tt

  enters_runs : (e : Entry) (s : Store) (l : Left) (o : Option Func) → TurnRuns (busy_enters (is_running (an_entry e)) e s l o)
  enters_runs e s l None = tt
  enters_runs e s l (Some f) = inl (tt, tt)

  next_runs : (s : Store) (l : Left) (es : List Entry) → TurnRuns (held_next p s l es)
  next_runs s l [] = tt
  next_runs s l (e ∷ es) = enters_runs e s (record { number = l.number; entries = es; outcomes = l.outcomes }) (defined_at p e.func)

  start_runs : (f : ℕ) (s : Store) (l : Left) (o : Option Func) → TurnRuns (held_start p x plan f s l o)
  start_runs f s l (Some g) = inl (tt, tt)
  start_runs f s l None = by_import (nat_lt f (func_imports p))
    where
      by_import : (b : Bool) → TurnRuns (if b then held_asked p x plan 0 f [] (outermost s) l l.outcomes else stops)
      by_import true = asked_runs 0 f [] (outermost s) l l.outcomes
      by_import false = tt

  move_runs : (h : Held) → Unpaused h → TurnRuns (next h)
  move_runs (free s l) u = next_runs s l l.entries
  move_runs (starting f s l) u = start_runs f s l (defined_at p f)
  move_runs (busy (is_running task) c l) u = busy_runs task l (step p c)
  move_runs (busy (unwinds e i a) c l) u = absurd u
  move_runs (busy (rewinds e i a sp) c l) u = absurd u
  move_runs (calling ph s f args th l) u = absurd u
  move_runs (aside ph c th l) u = absurd u
  move_runs (entering ph e s l) u = absurd u
  move_runs (over s) u = tt

  -- it doesn't pause without a call
  runs_on : (h t : Held) (cost : ℕ) (notes : List Note) → Unpaused h → Goes_to h cost notes t → NoPause notes ⊎ (0 < new_calls notes)
  runs_on h _ _ _ u stays = inl tt
  runs_on h t cost notes u (moves {t = v} {k = k} {n = n} {es = es} {fs = fs} e rest c g) = by (λ w. runs_on v t n fs w rest) (subst TurnRuns e (move_runs h u))
    where
      by : (Unpaused v → NoPause fs ⊎ (0 < new_calls fs)) → (Unpaused v × NoPause es) ⊎ (0 < new_calls es) → NoPause notes ⊎ (0 < new_calls notes)
      by on (inr some) = inr (let s = ap new_calls g ∙ calls_on es fs in omega (arith, s, some))
      by on (inl w) = both (on w.0)
        where
          both : NoPause fs ⊎ (0 < new_calls fs) → NoPause notes ⊎ (0 < new_calls notes)
          both (inl none) = inl (subst NoPause (sym g) (no_pause_on es fs w.1 none))
          both (inr some) = inr (let s = ap new_calls g ∙ calls_on es fs in omega (arith, s, some))

  -- ---- a pause that is rewound

  abbrev Out : Turn Held Note → Type 0
  Out stops = ⊥
  Out (goes k es u) = Unpaused u × NoPause es × (0 < length es)

  data Rewinds (f : ℕ → List Outcome → Turn Held Note) : Type 0 where
    w_stops : ((v : ℕ) (more : List Outcome) → f v more ≡ stops) → Rewinds f
    w_on : (k : ℕ) (r : Rewinding) → ((v : ℕ) (more : List Outcome) → f v more ≡ goes k [] (meeting more (rewound r v))) → Rewinds f
    w_out : ((v : ℕ) (more : List Outcome) → Out (f v more)) → Rewinds f

  code_rewinds : (e : Entry) (i : ℕ) (sp : Store) (l : Left) (o : Next) → Rewinds (λ (v : ℕ) (more : List Outcome). busy_step p x plan (rewinds e i (answer_of v) sp) (with_outcomes l more) o)
  code_rewinds e i sp l (steps k d) = w_on k (re_code e i sp d l) (λ v more. refl)
  code_rewinds e i sp l (asks k import args d) = by_import (nat_eq import i)
    where
      by_import : (b : Bool) → Rewinds (λ (v : ℕ) (more : List Outcome).
          if b then goes k [] (calling (rewinds e i (answer_of v) sp) d.store x.get_state [] (test_rewound d) (with_outcomes l more)) else broken k 3 d.store)
      by_import true = w_on k (re_call e i sp d.store x.get_state [] (test_rewound d) l) (λ v more. refl)
      by_import false = w_out (λ v more. (tt, (refl, tt), omega arith))
  code_rewinds e i sp l (returns k results s) = w_out (λ v more. (tt, (refl, tt), omega arith))
  code_rewinds e i sp l (traps k trap s) = w_out (λ v more. (tt, (refl, tt), omega arith))
  code_rewinds e i sp l stuck = w_stops (λ v more. refl)

  called_rewinds : (e : Entry) (i : ℕ) (sp s : Store) (f : ℕ) (args : List Value) (th : Then) (l : Left) (o : Option Func)
      → Rewinds (λ (v : ℕ) (more : List Outcome). aside_called (rewinds e i (answer_of v) sp) s f args th (with_outcomes l more) o)
  called_rewinds e i sp s f args th l None = w_stops (λ v more. refl)
  called_rewinds e i sp s f args th l (Some g) = w_on (length args) (re_export e i sp _ th l) (λ v more. refl)

  back_rewinds : (k : ℕ) (e : Entry) (i : ℕ) (sp : Store) (th : Then) (l : Left) (results : List Value) (s : Store)
      → Rewinds (λ (v : ℕ) (more : List Outcome). aside_back p x plan k (rewinds e i (answer_of v) sp) th (with_outcomes l more) results s)
  back_rewinds k e i sp call_again l results s = w_on k (re_entry e i sp e s l) (λ v more. refl)
  back_rewinds k e i sp (test_rewound c) l results s = by_state (is_state 2 results)
    where
      by_state : (b : Bool) → Rewinds (λ (v : ℕ) (more : List Outcome).
          if b then goes k [] (calling (rewinds e i (answer_of v) sp) s x.stop_rewind [] (give_answer c) (with_outcomes l more)) else broken k 4 s)
      by_state true = w_on k (re_call e i sp s x.stop_rewind [] (give_answer c) l) (λ v more. refl)
      by_state false = w_out (λ v more. (tt, (refl, tt), omega arith))
  back_rewinds k e i sp (give_answer c) l results s = w_out (λ v more. (tt, (refl, tt), omega arith))
  back_rewinds k e i sp (give_zero c) l results s = w_stops (λ v more. refl)
  back_rewinds k e i sp test_unwound l results s = w_stops (λ v more. refl)
  back_rewinds k e i sp pause_there l results s = w_stops (λ v more. refl)

  export_rewinds : (e : Entry) (i : ℕ) (sp : Store) (th : Then) (l : Left) (o : Next)
      → Rewinds (λ (v : ℕ) (more : List Outcome). aside_step p x plan (rewinds e i (answer_of v) sp) th (with_outcomes l more) o)
  export_rewinds e i sp th l (steps k d) = w_on k (re_export e i sp d th l) (λ v more. refl)
  export_rewinds e i sp th l (asks k import args d) = w_out (λ v more. (tt, (refl, tt), omega arith))
  export_rewinds e i sp th l (returns k results s) = back_rewinds k e i sp th l results s
  export_rewinds e i sp th l (traps k trap s) = w_out (λ v more. (tt, (refl, tt), omega arith))
  export_rewinds e i sp th l stuck = w_stops (λ v more. refl)

  entry_rewinds : (e : Entry) (i : ℕ) (sp : Store) (again : Entry) (s : Store) (l : Left) (o : Option Func)
      → Rewinds (λ (v : ℕ) (more : List Outcome). busy_enters (rewinds e i (answer_of v) sp) again s (with_outcomes l more) o)
  entry_rewinds e i sp again s l None = w_stops (λ v more. refl)
  entry_rewinds e i sp again s l (Some f) = w_on (length again.args) (re_code e i sp _ l) (λ v more. refl)

  rewinding_moves : (r : Rewinding) → Rewinds (λ (v : ℕ) (more : List Outcome). next (meeting more (rewound r v)))
  rewinding_moves (re_code e i sp c l) = code_rewinds e i sp l (step p c)
  rewinding_moves (re_call e i sp s f args th l) = called_rewinds e i sp s f args th l (defined_at p f)
  rewinding_moves (re_export e i sp c th l) = export_rewinds e i sp th l (step p c)
  rewinding_moves (re_entry e i sp again s l) = entry_rewinds e i sp again s l (defined_at p again.func)

  module _ (u v : ℕ) (more : List Outcome) where
    -- it is rewound still, for the other value too, or notes were made behind which there is no pause without a call
    data Stays (r : Rewinding) (t : Held) (cost : ℕ) (notes : List Note) : Type 0 where
      still : (r' : Rewinding) → notes ≡ [] → t ≡ meeting more (rewound r' u) → Goes_to (meeting more (rewound r v)) cost notes (meeting more (rewound r' v)) → Stays r t cost notes
      told_more : 0 < length notes → NoPause notes ⊎ (0 < new_calls notes) → Stays r t cost notes

    rewinds_on : (r : Rewinding) (h t : Held) (cost : ℕ) (notes : List Note) → h ≡ meeting more (rewound r u) → Goes_to h cost notes t → Stays r t cost notes
    rewinds_on r h _ _ _ is stays = still r refl is stays
    rewinds_on r h t cost notes is (moves {t = w} {k = k} {n = n} {es = es} {fs = fs} e rest c g) = by_move (λ r' i. rewinds_on r' w t n fs i rest) (rewinding_moves r)
      where
        here : next (meeting more (rewound r u)) ≡ goes k es w
        here = ap next (sym is) ∙ e

        by_move : ((r' : Rewinding) → w ≡ meeting more (rewound r' u) → Stays r' t n fs) → Rewinds (λ (v : ℕ) (more : List Outcome). next (meeting more (rewound r v))) → Stays r t cost notes
        by_move on (w_stops f) = absurd (stops_not (sym (f u more) ∙ here))
        by_move on (w_on j r' f) = by_rest (on r' (sym (goes_to same)))
          where
            same : goes j [] (meeting more (rewound r' u)) ≡ goes k es w
            same = sym (f u more) ∙ here

            by_rest : Stays r' t n fs → Stays r t cost notes
            by_rest (still r2 none at l) =
                still r2 (g ∙ (λ q. sym (goes_notes same) q ++ none q)) at
                (first (meeting more (rewound r v)) (meeting more (rewound r2 v)) (meeting more (rewound r' v)) j n cost [] fs notes (f v more) l (c ∙ ap (λ (y : ℕ). suc y + n) (sym (goes_cost same)))
                (g ∙ ap (λ (y : List Note). y ++ fs) (sym (goes_notes same))))
            by_rest (told_more some way) = told_more (subst (λ (ys : List Note). 0 < length ys) (sym is_fs) some) (subst (λ (ys : List Note). NoPause ys ⊎ (0 < new_calls ys)) (sym is_fs) way)
              where
                is_fs : notes ≡ fs
                is_fs = g ∙ ap (λ (y : List Note). y ++ fs) (sym (goes_notes same))
        by_move on (w_out f) = by_out (subst Out here (f u more))
          where
            by_out : Unpaused w × NoPause es × (0 < length es) → Stays r t cost notes
            by_out o = told_more (subst (λ (ys : List Note). 0 < length ys) (sym g) (longer es fs o.2)) (by_rest (runs_on w t n fs o.0 rest))
              where
                longer : (xs ys : List Note) → 0 < length xs → 0 < length (xs ++ ys)
                longer [] ys some = let never : ⊥ = omega (arith, some) in absurd never
                longer (y ∷ xs) ys some = omega arith

                by_rest : NoPause fs ⊎ (0 < new_calls fs) → NoPause notes ⊎ (0 < new_calls notes)
                by_rest (inl none) = inl (subst NoPause (sym g) (no_pause_on es fs o.1 none))
                by_rest (inr some) = inr (let s = ap new_calls g ∙ calls_on es fs in omega (arith, s, some))

    -- ---- a pause that unwinds

    abbrev BadBehind : List Note → Type 0
    BadBehind notes = ((y : Note) → is_pause y.event ≡ false → pauses (y ∷ notes) ≡ false) ⊎ (0 < new_calls notes)

    -- it stands behind its pause, for the other value too, or the notes don't end with a pause, or call again
    data Comes (h' : Held) (t : Held) (cost : ℕ) (notes : List Note) : Type 0 where
      comes : (r : Rewinding) → t ≡ meeting more (rewound r u) → Goes_to h' cost notes (meeting more (rewound r v)) → Comes h' t cost notes
      fails : BadBehind notes → Comes h' t cost notes

    over_stays : (h t : Held) (s : Store) (cost : ℕ) (notes : List Note) → h ≡ over s → Goes_to h cost notes t → notes ≡ []
    over_stays h _ s _ _ is stays = refl
    over_stays h t s cost notes is (moves e rest c g) = absurd (stops_not (ap next (sym is) ∙ e))

    unwinds_on : (w : Unwinding) (h t : Held) (cost : ℕ) (notes : List Note) → h ≡ meeting more (unwound w u) → Goes_to h cost notes t → Comes (meeting more (unwound w v)) t cost notes
    unwinds_on w h _ _ _ is stays = fails (inl (λ y e. e))
    unwinds_on w h t cost notes is (moves {t = z} {k = k} {n = n} {es = es} {fs = fs} e rest c g) = by_move (λ w' i. unwinds_on w' z t n fs i rest) (unwinding_moves p x plan 0 w)
      where
        here : next (meeting more (unwound w u)) ≡ goes k es z
        here = ap next (sym is) ∙ e

        by_move : ((w' : Unwinding) → z ≡ meeting more (unwound w' u) → Comes (meeting more (unwound w' v)) t n fs) → Unwinds (λ (v : ℕ) (more : List Outcome). next (meeting more (unwound w v)))
            → Comes (meeting more (unwound w v)) t cost notes
        by_move on (u_stops f) = absurd (stops_not (sym (f u more) ∙ here))
        by_move on (u_on j w' f) = by_rest (on w' (sym (goes_to same)))
          where
            same : goes j [] (meeting more (unwound w' u)) ≡ goes k es z
            same = sym (f u more) ∙ here

            is_fs : notes ≡ fs
            is_fs = g ∙ ap (λ (y : List Note). y ++ fs) (sym (goes_notes same))

            by_rest : Comes (meeting more (unwound w' v)) t n fs → Comes (meeting more (unwound w v)) t cost notes
            by_rest (comes r at l) =
                comes r at (first (meeting more (unwound w v)) (meeting more (rewound r v)) (meeting more (unwound w' v)) j n cost [] fs notes (f v more) l (c ∙ ap (λ (y : ℕ). suc y + n) (sym (goes_cost same))) is_fs)
            by_rest (fails bad) = fails (subst BadBehind (sym is_fs) bad)
        by_move on (u_ends j y s end_y f) =
            let same : goes j (y ∷ []) (over s) ≡ goes k es z = sym (f u more) ∙ here in
            let none : fs ≡ [] = over_stays z t s n fs (sym (goes_to same)) rest in
            let all : notes ≡ y ∷ [] = g ∙ (λ q. sym (goes_notes same) q ++ none q) in
            fails (inl (λ x0 e0. ap (λ (ys : List Note). pauses (x0 ∷ ys)) all ∙ (end_no_pause y.event end_y.0).0))
        by_move on (u_pauses j y r pause_y f) = by_rest (rewinds_on r z t n fs (sym (goes_to same)) rest)
          where
            same : goes j (y ∷ []) (meeting more (rewound r u)) ≡ goes k es z
            same = sym (f u more) ∙ here

            all : notes ≡ y ∷ fs
            all = g ∙ ap (λ (ys : List Note). ys ++ fs) (sym (goes_notes same))

            by_rest : Stays r t n fs → Comes (meeting more (unwound w v)) t cost notes
            by_rest (still r2 none at l) =
                comes r2 at (first (meeting more (unwound w v)) (meeting more (rewound r2 v)) (meeting more (rewound r v)) j n cost (y ∷ []) fs notes (f v more) l (c ∙ ap (λ (q : ℕ). suc q + n) (sym (goes_cost same))) all)
            by_rest (told_more some (inl none)) =
                fails (inl (λ x0 e0. ap (λ (ys : List Note). pauses (x0 ∷ ys)) all ∙ pauses_behind (x0 ∷ y ∷ []) fs some ∙ no_pause_last fs none))
            by_rest (told_more some (inr calls)) = fails (inr (let z0 = ap new_calls all in omega (arith, z0, calls)))

    -- ---- up to the call

    abbrev a_u : Outcome
    a_u = mailed (Some (V.I32 u)) 1

    abbrev a_v : Outcome
    a_v = mailed (Some (V.I32 v)) 1

    data Walked (os : List Outcome) (h : Held) (t : Held) (cost : ℕ) (notes : List Note) : Type 0 where
      few : new_calls notes ≤ length os → Walked os h t cost notes
      there : (r : Rewinding) → t ≡ meeting more (rewound r u) → Goes_to (meeting (os ++ a_v ∷ more) h) cost notes (meeting more (rewound r v)) → Walked os h t cost notes
      no_pause : 0 < length notes → pauses notes ≡ false → Walked os h t cost notes
      many : suc (length os) < new_calls notes → Walked os h t cost notes

    -- behind a move that both make
    behind : (os os' : List Outcome) (h h1 t : Held) (k n cost : ℕ) (es fs notes : List Note) → length os ≡ new_calls es + length os' → next (meeting (os ++ a_v ∷ more) h) ≡ goes k es (meeting (os' ++ a_v ∷ more) h1)
        → cost ≡ suc k + n → notes ≡ es ++ fs → Walked os' h1 t n fs → Walked os h t cost notes
    behind os os' h h1 t k n cost es fs notes len too c g (few le) = few (let s = ap new_calls g ∙ calls_on es fs in omega (arith, s, le, len))
    behind os os' h h1 t k n cost es fs notes len too c g (there r at l) =
        there r at (first (meeting (os ++ a_v ∷ more) h) (meeting more (rewound r v)) (meeting (os' ++ a_v ∷ more) h1) k n cost es fs notes too l c g)
    behind os os' h h1 t k n cost es fs notes len too c g (no_pause some is) =
        no_pause (subst (λ (ys : List Note). 0 < length ys) (sym g) (some_on es fs some)) (ap pauses g ∙ pauses_behind es fs some ∙ is)
    behind os os' h h1 t k n cost es fs notes len too c g (many lt) = many (let s = ap new_calls g ∙ calls_on es fs in omega (arith, s, lt, len))

    walk : (os : List Outcome) (h h0 t : Held) (cost : ℕ) (notes : List Note) → h0 ≡ meeting (os ++ a_u ∷ more) h → Goes_to h0 cost notes t → Walked os h t cost notes
    walk os h h0 _ _ _ is stays = few (omega arith)
    walk os h h0 t cost notes is (moves {t = z} {k = k} {n = n} {es = es} {fs = fs} e rest c g) = by_kind (λ os' h1 i. walk os' h1 z t n fs i rest) (kind p x plan h)
      where
        here : next (meeting (os ++ a_u ∷ more) h) ≡ goes k es z
        here = ap next (sym is) ∙ e

        On : Type 0
        On = (os' : List Outcome) (h1 : Held) → z ≡ meeting (os' ++ a_u ∷ more) h1 → Walked os' h1 t n fs

        by_goes : ((os' : List Outcome) (h1 : Held) → z ≡ meeting (os' ++ a_u ∷ more) h1 → Walked os' h1 t n fs) → (o : Turn Held Note) → Fine o
            → ((ms : List Outcome) → next (meeting ms h) ≡ turned (meeting ms) o) → Walked os h t cost notes
        by_goes on stops fine same = absurd (stops_not (sym (same (os ++ a_u ∷ more)) ∙ here))
        by_goes on (goes j fs1 h1) fine same =
            let eq : goes j fs1 (meeting (os ++ a_u ∷ more) h1) ≡ goes k es z = sym (same (os ++ a_u ∷ more)) ∙ here in
            behind os os h h1 t j n cost fs1 fs notes (let q = leaves_calls fs1 h1 fine in omega (arith, q)) (same (os ++ a_v ∷ more)) (c ∙ ap (λ (y : ℕ). suc y + n) (sym (goes_cost eq)))
            (g ∙ ap (λ (ys : List Note). ys ++ fs) (sym (goes_notes eq))) (on os h1 (sym (goes_to eq)))

        by_answer : ((os' : List Outcome) (h1 : Held) → z ≡ meeting (os' ++ a_u ∷ more) h1 → Walked os' h1 t n fs) → (o1 : Outcome) (os1 : List Outcome) → os ≡ o1 ∷ os1 → (call : Call) (o : Turn Held Note)
            → CallFine call o → ((ms : List Outcome) → next (meeting (o1 ∷ ms) h) ≡ turned (meeting ms) o) → Walked os h t cost notes
        by_answer on o1 os1 eo call stops fine same =
            absurd (stops_not (sym (same (os1 ++ a_u ∷ more)) ∙ ap (λ (q : List Outcome). next (meeting (q ++ a_u ∷ more) h)) (sym eo) ∙ here))
        by_answer on o1 os1 eo call (goes j fs1 h1) fine same =
            let eq : goes j fs1 (meeting (os1 ++ a_u ∷ more) h1) ≡ goes k es z =
            sym (same (os1 ++ a_u ∷ more)) ∙ ap (λ (q : List Outcome). next (meeting (q ++ a_u ∷ more) h)) (sym eo) ∙ here in
            let one = call_counts fine.0 call fine.3 in
            let rest_calls = leaves_calls fine.1 h1 fine.4 in
            let all : new_calls fs1 ≡ 1 = ap new_calls fine.2 ∙ omega (arith, one, rest_calls) in
            let len : length os ≡ suc (length os1) = ap length eo in
            behind os os1 h h1 t j n cost fs1 fs notes (omega (arith, all, len)) (ap (λ (q : List Outcome). next (meeting (q ++ a_v ∷ more) h)) eo ∙ same (os1 ++ a_v ∷ more))
            (c ∙ ap (λ (y : ℕ). suc y + n) (sym (goes_cost eq)))
            (g ∙ ap (λ (ys : List Note). ys ++ fs) (sym (goes_notes eq))) (on os1 h1 (sym (goes_to eq)))

        by_receive : (none : os ≡ []) → (call : Call) (f : ℕ → List Outcome → Turn Held Note) → ((a : ℕ) → next (meeting (mailed (Some (V.I32 a)) 1 ∷ more) h) ≡ f a more) → Receives p x plan 0 u call f
            → Walked os h t cost notes
        by_receive none call f same (r_stops q) =
            absurd (stops_not (sym (q more) ∙ sym (same u) ∙ ap (λ (l : List Outcome). next (meeting (l ++ a_u ∷ more) h)) (sym none) ∙ here))
        by_receive none call f same (r_ends j y1 y2 s called_y end_y q too) =
            let eq : goes j (y1 ∷ y2 ∷ []) (over s) ≡ goes k es z = sym (q more) ∙ sym (same u) ∙ ap (λ (l : List Outcome). next (meeting (l ++ a_u ∷ more) h)) (sym none) ∙ here in
            let quiet : fs ≡ [] = over_stays z t s n fs (sym (goes_to eq)) rest in
            let all : notes ≡ y1 ∷ y2 ∷ [] = g ∙ (λ i0. sym (goes_notes eq) i0 ++ quiet i0) in
            no_pause (subst (λ (ys : List Note). 0 < length ys) (sym all) (omega arith)) (ap pauses all ∙ (end_no_pause y2.event end_y.0).0)
        by_receive none call f same (r_unwinds j y w called_y q) = by_rest (unwinds_on w z t n fs (sym (goes_to eq)) rest)
          where
            eq : goes j (y ∷ []) (meeting more (unwound w u)) ≡ goes k es z
            eq = sym (q u more) ∙ sym (same u) ∙ ap (λ (l : List Outcome). next (meeting (l ++ a_u ∷ more) h)) (sym none) ∙ here

            all : notes ≡ y ∷ fs
            all = g ∙ ap (λ (ys : List Note). ys ++ fs) (sym (goes_notes eq))

            too : next (meeting (os ++ a_v ∷ more) h) ≡ goes j (y ∷ []) (meeting more (unwound w v))
            too = ap (λ (l : List Outcome). next (meeting (l ++ a_v ∷ more) h)) none ∙ same v ∙ q v more

            by_rest : Comes (meeting more (unwound w v)) t n fs → Walked os h t cost notes
            by_rest (comes r at l) =
                there r at (first (meeting (os ++ a_v ∷ more) h) (meeting more (rewound r v)) (meeting more (unwound w v)) j n cost (y ∷ []) fs notes too l (c ∙ ap (λ (m : ℕ). suc m + n) (sym (goes_cost eq))) all)
            by_rest (fails (inl bad)) =
                no_pause (subst (λ (ys : List Note). 0 < length ys) (sym all) (omega arith)) (ap pauses all ∙ bad y (call_no_pause y call called_y))
            by_rest (fails (inr calls)) =
                let one = call_counts y call called_y in let s = ap new_calls all in let len : length os ≡ 0 = ap length none in many (omega (arith, one, s, calls, len))

        by_kind : ((os' : List Outcome) (h1 : Held) → z ≡ meeting (os' ++ a_u ∷ more) h1 → Walked os' h1 t n fs) → Kind p x plan (λ (ms : List Outcome). next (meeting ms h)) → Walked os h t cost notes
        by_kind on (inl y) = by_goes on y.turn y.fine y.same
        by_kind on (inr a) = by_os os refl
          where
            by_outcome : (o1 : Outcome) (os1 : List Outcome) → os ≡ o1 ∷ os1 → Tame o1 → Walked os h t cost notes
            by_outcome o1 os1 eo tame =
                let r = asked_with p x plan a.k a.import a.args a.who a.l o1 tame in
                by_answer on o1 os1 eo (record { import = a.import; args = a.args }) r.turn r.fine (λ ms. a.same (o1 ∷ ms) ∙ r.same ms)

            by_end : (e1 : End) (os1 : List Outcome) → os ≡ refused e1 ∷ os1 → (b : Bool) → is_stalled e1 ≡ b → Walked os h t cost notes
            by_end e1 os1 eo false tame = by_outcome (refused e1) os1 eo tame
            by_end e1 os1 eo true wild =
                let eq = sym (a.same (refused e1 ∷ (os1 ++ a_u ∷ more))) ∙ ap (λ (q : List Outcome). next (meeting (q ++ a_u ∷ more) h)) (sym eo) ∙ here in
                let quiet : fs ≡ [] = over_stays z t _ n fs (sym (goes_to eq)) rest in
                let all : notes ≡ call_note a.import a.args (store_at a.who) (stack_at p a.who) None ∷ note (ended e1) (store_at a.who) ∷ [] = g ∙ (λ i0. sym (goes_notes eq) i0 ++ quiet i0) in
                no_pause (subst (λ (ys : List Note). 0 < length ys) (sym all) (omega arith)) (ap pauses all)

            by_os : (os1 : List Outcome) → os ≡ os1 → Walked os h t cost notes
            by_os [] eo =
                by_receive eo (record { import = a.import; args = a.args }) (λ (b : ℕ) (ms : List Outcome). held_asked p x plan a.k a.import a.args a.who a.l (mailed (Some (V.I32 b)) 1 ∷ ms))
                (λ b. a.same (mailed (Some (V.I32 b)) 1 ∷ more)) (receives p x plan 0 u a.k a.import a.args a.who a.l)
            by_os (given b ∷ os1) eo = by_outcome (given b) os1 eo tt
            by_os (refused e1 ∷ os1) eo = by_end e1 os1 eo (is_stalled e1) refl

-- ---- the law

opened_calls : (start : Option ℕ) (l : Left) (o : Opening) → new_calls (held_begun start l o).events ≡ 0
opened_calls start l (fails_as e) = refl
opened_calls None l (opens s) = by_entries l.entries
  where
    by_entries : (es : List Entry) → new_calls (done_notes s es) ≡ 0
    by_entries [] = refl
    by_entries (e ∷ es) = refl
opened_calls (Some f) l (opens s) = refl

begun_calls : (p : Module) (plan : Plan) (o : Origin) → new_calls (opened_from p plan o).events ≡ 0
begun_calls p plan at_start = opened_calls p.start (all_left plan []) (opening p plan.globals)
begun_calls p plan gone = refl
begun_calls p plan (at_pause x) = refl

value_phase : (v : ℕ) (more : List Outcome) (h : Held) → with_value v (meeting more h) ≡ meeting more (with_value v h)
value_phase v more (free s l) = refl
value_phase v more (starting f s l) = refl
value_phase v more (busy ph c l) = refl
value_phase v more (calling ph s f args th l) = refl
value_phase v more (aside ph c th l) = refl
value_phase v more (entering ph e s l) = refl
value_phase v more (over s) = refl

value_there : (u v : ℕ) (more : List Outcome) (r : Rewinding) → with_value v (meeting more (rewound r u)) ≡ meeting more (rewound r v)
value_there u v more (re_code e i sp c l) = refl
value_there u v more (re_call e i sp s f args th l) = refl
value_there u v more (re_export e i sp c th l) = refl
value_there u v more (re_entry e i sp again s l) = refl

-- Where such a run stands: behind the call whose answer is this value, and behind the same call for any other value.
pub record StandsUnread (w : Program) (os : List Outcome) (u v cost : ℕ) (notes : List Note) (more : List Outcome) (h : Held) : Type 0 where
  pub place : Rewinding
  pub this : meeting more h ≡ meeting more (rewound place u)
  pub other : Leads (protocol w.source (exports_of w.source) w.plan) (meeting (os ++ mailed (Some (V.I32 v)) 1 ∷ more) (opened_at w).last) cost notes (meeting more (rewound place v))

stands_unread : (w : Program) (notes : List Note) (os : List Outcome) (u v left : ℕ) (h : Held) → pauses notes ≡ true → new_calls notes ≡ suc (length os)
    → (at : Made w notes [] (os ++ mailed (Some (V.I32 u)) 1 ∷ []) left h) (more : List Outcome) → StandsUnread w os u v at.used at.behind more h
stands_unread w notes os u v left h paused_last calls at more =
    by (walk w.source (exports_of w.source) w.plan u v more os (opened_at w).last (meeting ((os ++ mailed (Some (V.I32 u)) 1 ∷ []) ++ more) (opened_at w).last)
    (meeting more h) at.used at.behind (ap (λ (q : List Outcome). meeting q (opened_at w).last) (append_assoc os (mailed (Some (V.I32 u)) 1 ∷ []) more)) (at.stretch more))
  where
    made : notes ≡ (opened_at w).events ++ at.behind
    made = sym (append-nil notes) ∙ at.made

    counted : new_calls at.behind ≡ suc (length os)
    counted =
        let z = begun_calls w.source w.plan w.origin in
        let s = ap new_calls made ∙ calls_on (opened_at w).events at.behind in
        omega (arith, z, s, calls)

    by : Walked w.source (exports_of w.source) w.plan u v more os (opened_at w).last (meeting more h) at.used at.behind → StandsUnread w os u v at.used at.behind more h
    by (few le) = let never : ⊥ = omega (arith, le, counted) in absurd never
    by (many lt) = let never : ⊥ = omega (arith, lt, counted) in absurd never
    by (no_pause s is) =
        let bad : true ≡ false = sym paused_last ∙ ap pauses made ∙ pauses_behind (opened_at w).events at.behind s ∙ is in absurd cc
    by (there r e l) = record { place = r; this = e; other = l }

pub unread_answers : UnreadAnswers
unread_answers w notes os u v left h paused_last calls at =
    record { behind = at.behind; made = at.made; used = at.used; steps = at.steps; stretch = stretch }
  where
    stretch : Stretch w.source w.plan (opened_at w).last (os ++ mailed (Some (V.I32 v)) 1 ∷ []) at.behind at.used (with_value v h)
    stretch more =
        let k = stands_unread w notes os u v left h paused_last calls at more in
        subst (λ (q : List Outcome). Leads (protocol w.source (exports_of w.source) w.plan) (meeting q (opened_at w).last) at.used at.behind (meeting more (with_value v h)))
        (sym (append_assoc os (mailed (Some (V.I32 v)) 1 ∷ []) more))
        (subst (λ (q : Held). Leads (protocol w.source (exports_of w.source) w.plan) (meeting (os ++ mailed (Some (V.I32 v)) 1 ∷ more) (opened_at w).last) at.used at.behind q)
        (sym (value_there u v more k.place) ∙ ap (with_value v) (sym k.this) ∙ value_phase v more h) k.other)

-- Where it stands the answer of its pause is this value.
pub unread_value : (w : Program) (notes : List Note) (os : List Outcome) (u left : ℕ) (h : Held) → pauses notes ≡ true → new_calls notes ≡ suc (length os)
    → Made w notes [] (os ++ mailed (Some (V.I32 u)) 1 ∷ []) left h → meeting [] h ≡ meeting [] (with_value u h)
unread_value w notes os u left h paused_last calls at =
    let k = stands_unread w notes os u u left h paused_last calls at [] in
    k.this ∙ sym (value_there u u [] k.place) ∙ ap (with_value u) (sym k.this) ∙ value_phase u [] h
