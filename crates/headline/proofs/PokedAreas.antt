-- Where an outcome pokes the area, a run under the plan ends at the call that meets it; up to there it is that of the emptied plan.
use Rattle.std.proofs.Common.{◌≡◌, ℕ, zero, suc, ◌≤◌, List, [], ◌∷◌, ◌++◌, length, Option, Some, None, Bool, true, false, All, refl, sym, ap, ◌∙◌, subst, arith, ◌⊎◌, inl, inr}
use Rattle.std.specs.Prelude.{if◌then◌else◌, nat_lt}
use Rattle.std.specs.Option.{option_to_list}
use Rattle.std.proofs.lemmas.List.Elements.{All-head, All-tail}
use Rattle.wa_types.specs.Base.{Base}
use Rattle.wa_types.specs.Modules.{func_imports, func_type_at, defined_at}
use Rattle.wa_types.specs.Syntax.{Func, Module}
use Rattle.wa_types.specs.declared.values.ValType.{ValType}
use Rattle.wa_types.specs.declared.values.Value.{Value}
use Rattle.wa_types.specs.declared.values.Trap.TheVariants.{Import}
use Rattle.wa_model.specs.declared.answers.Area.{Area}
use Rattle.wa_model.specs.declared.answers.Said.{Said}
use Rattle.wa_model.specs.declared.answers.Said.TheVariants as SV
use Rattle.wa_model.specs.declared.events.End.{End}
use Rattle.wa_model.specs.declared.events.End.TheVariants.{BadAnswer, BadPoke, Trapped}
use Rattle.wa_model.specs.Outside.{Answer, Event, Poke, answered, ended}
use Rattle.wa_model.specs.Machine.{Turn, stops, Ran, after, run}
use Rattle.wa_model.specs.Plan.{Entry, Plan, Outcome, given, refused}
use Rattle.wa_model.specs.Instantiation.{Opening, fails_as, opens, opening}
use Rattle.wa_model.specs.Store.{Store}
use Rattle.wa_model.specs.Step.{Next, steps, asks, returns, traps, stuck, step}
use Rattle.wa_model.specs.Blocking.{Note, note, call_note, answers, bad_value, bad_poke, bad_pause, fault_of, is_unlisted, or_else, pause_of, poked, poke_fits, resumed, Task, the_start, an_entry, Left, with_outcomes, Asker, inside, outermost, store_at, stack_at, in_start, State, between, begins, runs, halts, on_to, go_on, tested, asked, task_back, by_step, done_notes, next_entry, enters, enter_next, start_called, blocking, begun, all_left, store_of, Blocking}
use Rattle.wa_model.specs.Protocol.{Exports, exports_of, is_running, unwinds, rewinds, Held, free, starting, busy, calling, aside, entering, over, held_on, held_back, held_given, held_tested, held_asked, busy_step, busy_enters, held_next, held_start, protocol, held_begun, store_held, Protocol}
use Rattle.headline.proofs.EmptyAreas.{emptied, nowhere}
use Rattle.headline.proofs.SamePlans.{Calm, none_paused, same_fault}
use Rattle.headline.proofs.ReachedCall.{calls, Fork, told, GoesAt, TurnAt, TurnParts, RunAt, after_at, run_at}

-- ---- the end at the call

abbrev is_bad_answer : End → Bool
is_bad_answer (BadAnswer i v) = true
is_bad_answer _ = false

bad_poke_is : (size : ℕ) (areas : List Area) (ps : List Poke) (e : End) → bad_poke size areas ps ≡ Some e → is_bad_answer e ≡ false
bad_poke_is size areas [] e h = cc
bad_poke_is size areas (p ∷ ps) e h = by (poke_fits size areas p) (λ q. bad_poke_is size areas ps e q) h
  where
    by : (b : Bool) → (bad_poke size areas ps ≡ Some e → is_bad_answer e ≡ false) → (if b then bad_poke size areas ps else Some (BadPoke p.at (length p.bytes))) ≡ Some e → is_bad_answer e ≡ false
    by true ih q = ih q
    by false ih q = let z : BadPoke p.at (length p.bytes) ≡ e = cc in ap is_bad_answer (sym z)

done_calls : (s : Store) (es : List Entry) → calls (done_notes s es) ≡ 0
done_calls s [] = refl
done_calls s (e ∷ es) = refl

module _ (plan : Plan) (bad : Answer) (rest : List Outcome) (unpaused : bad.ticks ≡ 0) (poking : (size : ℕ) → bad_poke size (plan.area ∷ plan.others) bad.pokes ≡ None → ⊥) where
  abbrev by_answer : Bool → End → Option End → Option End
  by_answer true e o = Some e
  by_answer false e o = o

  abbrev pub why : Event → (size : ℕ) → Option End
  why (ended how) size = by_answer (is_bad_answer how) how (bad_poke size (plan.area ∷ plan.others) bad.pokes)
  why _ size = bad_poke size (plan.area ∷ plan.others) bad.pokes

  -- so many outcomes are left in front of it
  pub record Before (k : ℕ) (os : List Outcome) : Type 0 where
    pub us : List Outcome
    pub is : os ≡ us ++ (given bad ∷ rest)
    pub calm : All (Calm plan) us
    pub count : length us ≡ k

  no_pause : (start u : Bool) (i t : ℕ) → t ≡ 0 → bad_pause start u i t ≡ None
  no_pause start u i zero e = refl
  no_pause start u i (suc t) e = cc

  -- what both plans make of its tests
  record Tests (types : List ValType) (size : ℕ) (i : ℕ) (o o' : Option End) : Type 0 where
    e : End
    first : o ≡ Some e
    second : ((how : End) × (o' ≡ Some how) × (why (ended how) size ≡ Some e)) ⊎ ((o' ≡ None) × (bad_poke size (plan.area ∷ plan.others) bad.pokes ≡ Some e))

  tests : (types : List ValType) (size : ℕ) (start : Bool) (i : ℕ) → Tests types size i (fault_of types size plan start i bad) (fault_of types size (emptied plan) start i bad)
  tests types size start i =
      subst (λ z. Tests types size i (or_else (bad_value types i bad.said) (or_else (bad_poke size (plan.area ∷ plan.others) bad.pokes) z))
      (fault_of types size (emptied plan) start i bad)) (sym (no_pause start (is_unlisted plan.listed i) i bad.ticks unpaused))
      (subst (λ z. Tests types size i (or_else (bad_value types i bad.said) (or_else (bad_poke size (plan.area ∷ plan.others) bad.pokes) None))
      (or_else (bad_value types i bad.said) (or_else (bad_poke size (nowhere ∷ plan.others) bad.pokes) z)))
      (sym (no_pause start (is_unlisted (Some []) i) i bad.ticks unpaused))
      (by_said bad.said (bad_poke size (plan.area ∷ plan.others) bad.pokes) refl (bad_poke size (nowhere ∷ plan.others) bad.pokes) refl))
    where
      by : (v : Option Value) (b : Bool) (pa : Option End) → bad_poke size (plan.area ∷ plan.others) bad.pokes ≡ pa → (pe : Option End) → bad_poke size (nowhere ∷ plan.others) bad.pokes ≡ pe
          → Tests types size i (or_else (if b then None else Some (BadAnswer i v)) (or_else pa None)) (or_else (if b then None else Some (BadAnswer i v)) (or_else pe None))
      by v b None ea pe ee = absurd (poking size ea)
      by v false (Some e) ea pe ee = record { e = BadAnswer i v; first = refl; second = inl (BadAnswer i v, refl, refl) }
      by v true (Some e) ea None ee = record { e = e; first = refl; second = inr (refl, ea) }
      by v true (Some e) ea (Some how) ee = record {
        e = e;
        first = refl;
        second = inl (how, refl, ap (λ b. by_answer b how (bad_poke size (plan.area ∷ plan.others) bad.pokes)) (bad_poke_is size (nowhere ∷ plan.others) bad.pokes how ee) ∙ ea);
      }

      by_said : (said : Said) (pa : Option End) → bad_poke size (plan.area ∷ plan.others) bad.pokes ≡ pa → (pe : Option End) → bad_poke size (nowhere ∷ plan.others) bad.pokes ≡ pe
          → Tests types size i (or_else (bad_value types i said) (or_else pa None)) (or_else (bad_value types i said) (or_else pe None))
      by_said (SV.Value v) = by v (answers types v)
      by_said SV.Trap = by None true

  -- ---- the machine whose imports block

  module _ (m : Module) where
    abbrev pub At : ℕ → State → Type 0
    At k (between s l) = Before k l.outcomes
    At k (begins x s l) = Before k l.outcomes
    At k (runs task c l) = Before k l.outcomes
    At k (halts s) = Unit {0}

    abbrev G : ℕ → Turn State Note → Type 0
    G = GoesAt State store_of (blocking m plan) (blocking m (emptied plan)) At why

    abbrev T : ℕ → Turn State Note → Turn State Note → Type 0
    T = TurnAt State store_of (blocking m plan) (blocking m (emptied plan)) At why

    abbrev TP : Turn State Note → Turn State Note → Type 0
    TP = TurnParts State store_of (blocking m plan) (blocking m (emptied plan)) At why

    on_at : (k : ℕ) (s : Store) (l : Left) (es : List Entry) → Before k l.outcomes → At k (on_to s l es)
    on_at k s l [] h = tt
    on_at k s l (e ∷ es) h = h

    go_on_at : (k c : ℕ) (i : ℕ) (args : List Value) (o : Option ℕ) (said : Said) (s : Store) (l : Left) (w : Asker) → Before k l.outcomes
        → G (suc k) (go_on c (call_note i args (store_at w) (stack_at m w) o) said s l w)
    go_on_at k c i args o (SV.Value v) s l (inside task d) h = (k, omega arith, h)
    go_on_at k c i args o (SV.Value v) s l (outermost old) h = let none = done_calls s l.entries in (k, omega arith, on_at k s l l.entries h)
    go_on_at k c i args o SV.Trap s l w h = (k, omega arith, tt)

    tested_at : (k c i : ℕ) (args : List Value) (w : Asker) (l : Left) (a : Answer) (o : Option End) → Before k l.outcomes → G (suc k) (tested m c i args w l a o)
    tested_at k c i args w l a (Some e) h = (k, omega arith, tt)
    tested_at k c i args w l a None h = go_on_at k c i args (pause_of a.ticks) a.said (poked (store_at w) a.pokes) l w h

    parts_at : (c i : ℕ) (args : List Value) (w : Asker) (l : Left) (types : List ValType) (o o' : Option End) → Tests types (length (store_at w).memory) i o o'
        → TP (tested m c i args w l bad o) (tested m c i args w l bad o')
    parts_at c i args w l types o o' t =
        subst (λ z. TP (tested m c i args w l bad z) (tested m c i args w l bad o')) (sym t.first) (by_second t.second)
      where
        by_second : ((how : End) × (o' ≡ Some how) × (why (ended how) (length (store_at w).memory) ≡ Some t.e)) ⊎ ((o' ≡ None)
            × (bad_poke (length (store_at w).memory) (plan.area ∷ plan.others) bad.pokes ≡ Some t.e))
            → TP (tested m c i args w l bad (Some t.e)) (tested m c i args w l bad o')
        by_second (inl h) = subst (λ z. TP (tested m c i args w l bad (Some t.e)) (tested m c i args w l bad z)) (sym h.1) (record {
          k = c;
          call = record { import = i; args = args };
          e = t.e;
          x = call_note i args (store_at w) (stack_at m w) None;
          next = note (ended h.0) (store_at w);
          rest = [];
          u = halts (store_at w);
          t = halts (store_at w);
          first = refl;
          second = refl;
          is = refl;
          cause = h.2;
          over = refl;
          there = refl;
        })
        by_second (inr h) =
            subst (λ z. TP (tested m c i args w l bad (Some t.e)) (tested m c i args w l bad z)) (sym h.0)
            (subst (λ z. TP (tested m c i args w l bad (Some t.e)) (go_on c (call_note i args (store_at w) (stack_at m w) z) bad.said (poked (store_at w) bad.pokes) l w))
            (sym (none_paused plan bad.ticks unpaused)) (by w bad.said h.1))
          where
            by : (w : Asker) (said : Said) → bad_poke (length (store_at w).memory) (plan.area ∷ plan.others) bad.pokes ≡ Some t.e
                → TP (tested m c i args w l bad (Some t.e)) (go_on c (call_note i args (store_at w) (stack_at m w) None) said (poked (store_at w) bad.pokes) l w)
            by (inside task d) (SV.Value v) q = record {
              k = c;
              call = record { import = i; args = args };
              e = t.e;
              x = call_note i args d.store (stack_at m (inside task d)) None;
              next = note (answered (SV.Value v)) (poked d.store bad.pokes);
              rest = [];
              u = halts d.store;
              t = runs task (resumed d (poked d.store bad.pokes) (option_to_list v)) l;
              first = refl;
              second = refl;
              is = refl;
              cause = q;
              over = refl;
              there = refl;
            }
            by (outermost s) (SV.Value v) q = record {
              k = c;
              call = record { import = i; args = args };
              e = t.e;
              x = call_note i args s (stack_at m (outermost s)) None;
              next = note (answered (SV.Value v)) (poked s bad.pokes);
              rest = done_notes (poked s bad.pokes) l.entries;
              u = halts s;
              t = on_to (poked s bad.pokes) l l.entries;
              first = refl;
              second = refl;
              is = refl;
              cause = q;
              over = refl;
              there = refl;
            }
            by w SV.Trap q = record {
              k = c;
              call = record { import = i; args = args };
              e = t.e;
              x = call_note i args (store_at w) (stack_at m w) None;
              next = note (answered SV.Trap) (poked (store_at w) bad.pokes);
              rest = note (ended (Trapped Import)) (poked (store_at w) bad.pokes) ∷ [];
              u = halts (store_at w);
              t = halts (poked (store_at w) bad.pokes);
              first = refl;
              second = refl;
              is = refl;
              cause = q;
              over = refl;
              there = refl;
            }

    asked_by : (k c i : ℕ) (args : List Value) (w : Asker) (l : Left) (us : List Outcome) → All (Calm plan) us → length us ≡ k
        → T k (asked m plan c i args w l (us ++ (given bad ∷ rest))) (asked m (emptied plan) c i args w l (us ++ (given bad ∷ rest)))
    asked_by k c i args w l [] h n =
        let types = (func_type_at m i).results in
        inr (
          sym n,
          parts_at c i args w (with_outcomes l rest) types (fault_of types (length (store_at w).memory) plan (in_start w) i bad)
              (fault_of types (length (store_at w).memory) (emptied plan) (in_start w) i bad) (tests types (length (store_at w).memory) (in_start w) i),
        )
    asked_by k c i args w l (refused e ∷ us) h n = inl (refl, (length us, omega (arith, n), tt))
    asked_by k c i args w l (given a ∷ us) h n =
        let types = (func_type_at m i).results in
        let size = length (store_at w).memory in
        let left : Before (length us) (us ++ (given bad ∷ rest)) = record { us = us; is = refl; calm = All-tail (Calm plan) (given a) us h; count = refl } in
        inl (
          ap (tested m c i args w (with_outcomes l (us ++ (given bad ∷ rest))) a) (same_fault plan types size (in_start w) i a (All-head (Calm plan) (given a) us h)),
          subst (λ j. G j (tested m c i args w (with_outcomes l (us ++ (given bad ∷ rest))) a (fault_of types size plan (in_start w) i a))) n
              (tested_at (length us) c i args w (with_outcomes l (us ++ (given bad ∷ rest))) a (fault_of types size plan (in_start w) i a) left),
        )

    asked_at : (k c i : ℕ) (args : List Value) (w : Asker) (l : Left) → Before k l.outcomes → T k (asked m plan c i args w l l.outcomes) (asked m (emptied plan) c i args w l l.outcomes)
    asked_at k c i args w l b = subst (λ os. T k (asked m plan c i args w l os) (asked m (emptied plan) c i args w l os)) (sym b.is) (asked_by k c i args w l b.us b.calm b.count)

    back_at : (k c : ℕ) (task : Task) (vs : List Value) (s : Store) (l : Left) → Before k l.outcomes → G k (task_back c task vs s l)
    back_at k c the_start vs s l h = let none = done_calls s l.entries in (k, omega arith, on_at k s l l.entries h)
    back_at k c (an_entry e) vs s l h = let none = done_calls s l.entries in (k, omega arith, on_at k s (next_entry l) l.entries h)

    step_at : (k : ℕ) (task : Task) (l : Left) (o : Next) → Before k l.outcomes → T k (by_step m plan task l o) (by_step m (emptied plan) task l o)
    step_at k task l (steps c d) h = inl (refl, (k, omega arith, h))
    step_at k task l (asks c i args d) h = asked_at k c i args (inside task d) l h
    step_at k task l (returns c vs s) h = inl (refl, back_at k c task vs s l h)
    step_at k task l (traps c t s) h = inl (refl, (k, omega arith, tt))
    step_at k task l stuck h = inl (refl, tt)

    enters_at : (k : ℕ) (e : Entry) (s : Store) (l : Left) (o : Option Func) → Before k l.outcomes → G k (enters e s l o)
    enters_at k e s l None h = tt
    enters_at k e s l (Some f) h = (k, omega arith, h)

    next_at : (k : ℕ) (s : Store) (l : Left) (es : List Entry) → Before k l.outcomes → G k (enter_next m s l es)
    next_at k s l [] h = tt
    next_at k s l (e ∷ es) h = enters_at k e s (record { number = l.number; entries = es; outcomes = l.outcomes }) (defined_at m e.func) h

    start_at : (k x : ℕ) (s : Store) (l : Left) (o : Option Func) → Before k l.outcomes → T k (start_called m plan x s l o) (start_called m (emptied plan) x s l o)
    start_at k x s l (Some f) h = inl (refl, (k, omega arith, h))
    start_at k x s l None h = by (nat_lt x (func_imports m))
      where
        by : (b : Bool) → T k (if b then asked m plan 0 x [] (outermost s) l l.outcomes else stops) (if b then asked m (emptied plan) 0 x [] (outermost s) l l.outcomes else stops)
        by true = asked_at k 0 x [] (outermost s) l h
        by false = inl (refl, tt)

    turn_at : (k : ℕ) (t : State) → At k t → T k (blocking m plan t) (blocking m (emptied plan) t)
    turn_at k (between s l) h = inl (refl, next_at k s l l.entries h)
    turn_at k (begins x s l) h = start_at k x s l (defined_at m x) h
    turn_at k (runs task c l) h = step_at k task l (step m c) h
    turn_at k (halts s) h = inl (refl, tt)

    abbrev pub R : ℕ → Ran State Note → Ran State Note → Type 0
    R = RunAt State store_of (blocking m plan) (blocking m (emptied plan)) At why

    begun_at : (k n : ℕ) (start : Option ℕ) (l : Left) (o : Opening) → Before k l.outcomes → (calls (begun start l o).events ≡ 0) × At k (begun start l o).last
    begun_at k n start l (fails_as e) h = (refl, tt)
    begun_at k n None l (opens s) h = (done_calls s l.entries, on_at k s l l.entries h)
    begun_at k n (Some x) l (opens s) h = (refl, h)

    pub run_from : (k n : ℕ) (start : Option ℕ) (l : Left) (o : Opening) → Before k l.outcomes
        → R k (after (begun start l o).events (run (blocking m plan) n (begun start l o).last)) (after (begun start l o).events (run (blocking m (emptied plan)) n (begun start l o).last))
    run_from k n start l o h =
        let b = begun_at k n start l o h in
        let none = b.0 in
        after_at State store_of (blocking m plan) (blocking m (emptied plan)) At why (begun start l o).events k k (run (blocking m plan) n (begun start l o).last)
        (run (blocking m (emptied plan)) n (begun start l o).last) (omega arith)
        (run_at State store_of (blocking m plan) (blocking m (emptied plan)) At why turn_at n k (begun start l o).last b.1)

  -- ---- the machine of the protocol

  module _ (p : Module) (x : Exports) where
    -- the program runs: nothing unwinds or rewinds
    abbrev pub HeldAt : ℕ → Held → Type 0
    HeldAt k (free s l) = Before k l.outcomes
    HeldAt k (starting f s l) = Before k l.outcomes
    HeldAt k (busy (is_running task) c l) = Before k l.outcomes
    HeldAt k (over s) = Unit {0}
    HeldAt k _ = ⊥

    abbrev GH : ℕ → Turn Held Note → Type 0
    GH = GoesAt Held store_held (protocol p x plan) (protocol p x (emptied plan)) HeldAt why

    abbrev TH : ℕ → Turn Held Note → Turn Held Note → Type 0
    TH = TurnAt Held store_held (protocol p x plan) (protocol p x (emptied plan)) HeldAt why

    abbrev TPH : Turn Held Note → Turn Held Note → Type 0
    TPH = TurnParts Held store_held (protocol p x plan) (protocol p x (emptied plan)) HeldAt why

    held_on_at : (k : ℕ) (s : Store) (l : Left) (es : List Entry) → Before k l.outcomes → HeldAt k (held_on s l es)
    held_on_at k s l [] h = tt
    held_on_at k s l (e ∷ es) h = h

    given_at : (k c : ℕ) (i : ℕ) (args : List Value) (said : Said) (s : Store) (l : Left) (w : Asker) → Before k l.outcomes
        → GH (suc k) (held_given c (call_note i args (store_at w) (stack_at p w) None) said s l w)
    given_at k c i args (SV.Value v) s l (inside task d) h = (k, omega arith, h)
    given_at k c i args (SV.Value v) s l (outermost old) h = let none = done_calls s l.entries in (k, omega arith, held_on_at k s l l.entries h)
    given_at k c i args SV.Trap s l w h = (k, omega arith, tt)

    held_tested_at : (k c i : ℕ) (args : List Value) (w : Asker) (l : Left) (a : Answer) (o o' : Option End) → o ≡ o' → a.ticks ≡ 0 → Before k l.outcomes
        → (held_tested p x plan c i args w l a o (pause_of a.ticks) ≡ held_tested p x (emptied plan) c i args w l a o' (pause_of a.ticks))
        × GH (suc k) (held_tested p x plan c i args w l a o (pause_of a.ticks))
    held_tested_at k c i args w l a o o' e none h =
        subst (λ t. (held_tested p x plan c i args w l a o t ≡ held_tested p x (emptied plan) c i args w l a o' t) × GH (suc k) (held_tested p x plan c i args w l a o t))
        (sym (none_paused plan a.ticks none))
        (subst (λ z. (held_tested p x plan c i args w l a o None ≡ held_tested p x (emptied plan) c i args w l a z None) × GH (suc k) (held_tested p x plan c i args w l a o None)) e (by o))
      where
        by : (o : Option End) → (held_tested p x plan c i args w l a o None ≡ held_tested p x (emptied plan) c i args w l a o None) × GH (suc k) (held_tested p x plan c i args w l a o None)
        by (Some e) = (refl, (k, omega arith, tt))
        by None = (refl, given_at k c i args a.said (poked (store_at w) a.pokes) l w h)

    held_parts_at : (c i : ℕ) (args : List Value) (w : Asker) (l : Left) (types : List ValType) (o o' : Option End) → Tests types (length (store_at w).memory) i o o'
        → TPH (held_tested p x plan c i args w l bad o (pause_of bad.ticks)) (held_tested p x (emptied plan) c i args w l bad o' (pause_of bad.ticks))
    held_parts_at c i args w l types o o' t =
        subst (λ n. TPH (held_tested p x plan c i args w l bad o n) (held_tested p x (emptied plan) c i args w l bad o' n)) (sym (none_paused plan bad.ticks unpaused))
        (subst (λ z. TPH (held_tested p x plan c i args w l bad z None) (held_tested p x (emptied plan) c i args w l bad o' None)) (sym t.first) (by_second t.second))
      where
        by_second : ((how : End) × (o' ≡ Some how) × (why (ended how) (length (store_at w).memory) ≡ Some t.e)) ⊎ ((o' ≡ None)
            × (bad_poke (length (store_at w).memory) (plan.area ∷ plan.others) bad.pokes ≡ Some t.e))
            → TPH (held_tested p x plan c i args w l bad (Some t.e) None) (held_tested p x (emptied plan) c i args w l bad o' None)
        by_second (inl h) = subst (λ z. TPH (held_tested p x plan c i args w l bad (Some t.e) None) (held_tested p x (emptied plan) c i args w l bad z None)) (sym h.1) (record {
          k = c;
          call = record { import = i; args = args };
          e = t.e;
          x = call_note i args (store_at w) (stack_at p w) None;
          next = note (ended h.0) (store_at w);
          rest = [];
          u = over (store_at w);
          t = over (store_at w);
          first = refl;
          second = refl;
          is = refl;
          cause = h.2;
          over = refl;
          there = refl;
        })
        by_second (inr h) =
            subst (λ z. TPH (held_tested p x plan c i args w l bad (Some t.e) None) (held_tested p x (emptied plan) c i args w l bad z None)) (sym h.0) (by w bad.said h.1)
          where
            by : (w : Asker) (said : Said) → bad_poke (length (store_at w).memory) (plan.area ∷ plan.others) bad.pokes ≡ Some t.e
                → TPH (held_tested p x plan c i args w l bad (Some t.e) None) (held_given c (call_note i args (store_at w) (stack_at p w) None) said (poked (store_at w) bad.pokes) l w)
            by (inside task d) (SV.Value v) q = record {
              k = c;
              call = record { import = i; args = args };
              e = t.e;
              x = call_note i args d.store (stack_at p (inside task d)) None;
              next = note (answered (SV.Value v)) (poked d.store bad.pokes);
              rest = [];
              u = over d.store;
              t = busy (is_running task) (resumed d (poked d.store bad.pokes) (option_to_list v)) l;
              first = refl;
              second = refl;
              is = refl;
              cause = q;
              over = refl;
              there = refl;
            }
            by (outermost s) (SV.Value v) q = record {
              k = c;
              call = record { import = i; args = args };
              e = t.e;
              x = call_note i args s (stack_at p (outermost s)) None;
              next = note (answered (SV.Value v)) (poked s bad.pokes);
              rest = done_notes (poked s bad.pokes) l.entries;
              u = over s;
              t = held_on (poked s bad.pokes) l l.entries;
              first = refl;
              second = refl;
              is = refl;
              cause = q;
              over = refl;
              there = refl;
            }
            by w SV.Trap q = record {
              k = c;
              call = record { import = i; args = args };
              e = t.e;
              x = call_note i args (store_at w) (stack_at p w) None;
              next = note (answered SV.Trap) (poked (store_at w) bad.pokes);
              rest = note (ended (Trapped Import)) (poked (store_at w) bad.pokes) ∷ [];
              u = over (store_at w);
              t = over (poked (store_at w) bad.pokes);
              first = refl;
              second = refl;
              is = refl;
              cause = q;
              over = refl;
              there = refl;
            }

    held_asked_by : (k c i : ℕ) (args : List Value) (w : Asker) (l : Left) (us : List Outcome) → All (Calm plan) us → length us ≡ k
        → TH k (held_asked p x plan c i args w l (us ++ (given bad ∷ rest))) (held_asked p x (emptied plan) c i args w l (us ++ (given bad ∷ rest)))
    held_asked_by k c i args w l [] h n =
        let types = (func_type_at p i).results in
        inr (
          sym n,
          held_parts_at c i args w (with_outcomes l rest) types (fault_of types (length (store_at w).memory) plan (in_start w) i bad)
              (fault_of types (length (store_at w).memory) (emptied plan) (in_start w) i bad) (tests types (length (store_at w).memory) (in_start w) i),
        )
    held_asked_by k c i args w l (refused e ∷ us) h n = inl (refl, (length us, omega (arith, n), tt))
    held_asked_by k c i args w l (given a ∷ us) h n =
        let types = (func_type_at p i).results in
        let size = length (store_at w).memory in
        let first = All-head (Calm plan) (given a) us h in
        let left : Before (length us) (us ++ (given bad ∷ rest)) = record { us = us; is = refl; calm = All-tail (Calm plan) (given a) us h; count = refl } in
        let r = held_tested_at (length us) c i args w (with_outcomes l (us ++ (given bad ∷ rest))) a (fault_of types size plan (in_start w) i a)
        (fault_of types size (emptied plan) (in_start w) i a) (same_fault plan types size (in_start w) i a first) first.0 left in
        inl (
          r.0,
          subst (λ j. GH j (held_tested p x plan c i args w (with_outcomes l (us ++ (given bad ∷ rest))) a (fault_of types size plan (in_start w) i a) (pause_of a.ticks))) n r.1,
        )

    held_asked_at : (k c i : ℕ) (args : List Value) (w : Asker) (l : Left) → Before k l.outcomes
        → TH k (held_asked p x plan c i args w l l.outcomes) (held_asked p x (emptied plan) c i args w l l.outcomes)
    held_asked_at k c i args w l b = subst (λ os. TH k (held_asked p x plan c i args w l os) (held_asked p x (emptied plan) c i args w l os)) (sym b.is) (held_asked_by k c i args w l b.us b.calm b.count)

    held_back_at : (k c : ℕ) (task : Task) (vs : List Value) (s : Store) (l : Left) → Before k l.outcomes → GH k (held_back c task vs s l)
    held_back_at k c the_start vs s l h = let none = done_calls s l.entries in (k, omega arith, held_on_at k s l l.entries h)
    held_back_at k c (an_entry e) vs s l h = let none = done_calls s l.entries in (k, omega arith, held_on_at k s (next_entry l) l.entries h)

    busy_at : (k : ℕ) (task : Task) (l : Left) (o : Next) → Before k l.outcomes → TH k (busy_step p x plan (is_running task) l o) (busy_step p x (emptied plan) (is_running task) l o)
    busy_at k task l (steps c d) h = inl (refl, (k, omega arith, h))
    busy_at k task l (asks c i args d) h = held_asked_at k c i args (inside task d) l h
    busy_at k task l (returns c vs s) h = inl (refl, held_back_at k c task vs s l h)
    busy_at k task l (traps c t s) h = inl (refl, (k, omega arith, tt))
    busy_at k task l stuck h = inl (refl, tt)

    busy_enters_at : (k : ℕ) (e : Entry) (s : Store) (l : Left) (o : Option Func) → Before k l.outcomes → GH k (busy_enters (is_running (an_entry e)) e s l o)
    busy_enters_at k e s l None h = tt
    busy_enters_at k e s l (Some f) h = (k, omega arith, h)

    held_next_at : (k : ℕ) (s : Store) (l : Left) (es : List Entry) → Before k l.outcomes → GH k (held_next p s l es)
    held_next_at k s l [] h = tt
    held_next_at k s l (e ∷ es) h = busy_enters_at k e s (record { number = l.number; entries = es; outcomes = l.outcomes }) (defined_at p e.func) h

    held_start_at : (k f : ℕ) (s : Store) (l : Left) (o : Option Func) → Before k l.outcomes → TH k (held_start p x plan f s l o) (held_start p x (emptied plan) f s l o)
    held_start_at k f s l (Some g) h = inl (refl, (k, omega arith, h))
    held_start_at k f s l None h = by (nat_lt f (func_imports p))
      where
        by : (b : Bool) → TH k (if b then held_asked p x plan 0 f [] (outermost s) l l.outcomes else stops) (if b then held_asked p x (emptied plan) 0 f [] (outermost s) l l.outcomes else stops)
        by true = held_asked_at k 0 f [] (outermost s) l h
        by false = inl (refl, tt)

    held_at : (k : ℕ) (t : Held) → HeldAt k t → TH k (protocol p x plan t) (protocol p x (emptied plan) t)
    held_at k (free s l) h = inl (refl, held_next_at k s l l.entries h)
    held_at k (starting f s l) h = held_start_at k f s l (defined_at p f) h
    held_at k (busy (is_running task) c l) h = busy_at k task l (step p c) h
    held_at k (busy (unwinds e i a) c l) h = absurd h
    held_at k (busy (rewinds e i a sp) c l) h = absurd h
    held_at k (calling ph s f args th l) h = absurd h
    held_at k (aside ph c th l) h = absurd h
    held_at k (entering ph e s l) h = absurd h
    held_at k (over s) h = inl (refl, tt)

    abbrev pub RH : ℕ → Ran Held Note → Ran Held Note → Type 0
    RH = RunAt Held store_held (protocol p x plan) (protocol p x (emptied plan)) HeldAt why

    held_begun_at : (k : ℕ) (start : Option ℕ) (l : Left) (o : Opening) → Before k l.outcomes → (calls (held_begun start l o).events ≡ 0) × HeldAt k (held_begun start l o).last
    held_begun_at k start l (fails_as e) h = (refl, tt)
    held_begun_at k None l (opens s) h = (done_calls s l.entries, held_on_at k s l l.entries h)
    held_begun_at k (Some f) l (opens s) h = (refl, h)

    pub held_from : (k n : ℕ) (start : Option ℕ) (l : Left) (o : Opening) → Before k l.outcomes
        → RH k (after (held_begun start l o).events (run (protocol p x plan) n (held_begun start l o).last))
        (after (held_begun start l o).events (run (protocol p x (emptied plan)) n (held_begun start l o).last))
    held_from k n start l o h =
        let b = held_begun_at k start l o h in
        let none = b.0 in
        after_at Held store_held (protocol p x plan) (protocol p x (emptied plan)) HeldAt why (held_begun start l o).events k k (run (protocol p x plan) n (held_begun start l o).last)
        (run (protocol p x (emptied plan)) n (held_begun start l o).last) (omega arith)
        (run_at Held store_held (protocol p x plan) (protocol p x (emptied plan)) HeldAt why held_at n k (held_begun start l o).last b.1)

  -- ---- whole runs

  abbrev pub Cases : {S : Type 0} → ℕ → Ran S Note → Ran S Note → (S → Store) → Type 0
  Cases k r r' store = ((r ≡ r') × (calls r'.events ≤ k)) ⊎ Fork why k r.events r'.events (store r.last)

  pub blocking_at : (m : Module) (us os : List Outcome) (n : ℕ) → os ≡ us ++ (given bad ∷ rest) → All (Calm plan) us
      → Cases (length us) (Blocking m plan os n) (Blocking m (emptied plan) os n) store_of
  blocking_at m us os n is calm =
      told State store_of (blocking (Base m) plan) (blocking (Base m) (emptied plan)) (At (Base m)) why (length us) (Blocking m plan os n) (Blocking m (emptied plan) os n)
      (run_from (Base m) (length us) n (Base m).start (all_left plan os) (opening (Base m) plan.globals) (record { us = us; is = is; calm = calm; count = refl }))

  pub protocol_at : (p : Module) (us os : List Outcome) (n : ℕ) → os ≡ us ++ (given bad ∷ rest) → All (Calm plan) us
      → Cases (length us) (Protocol p plan os n) (Protocol p (emptied plan) os n) store_held
  protocol_at p us os n is calm =
      told Held store_held (protocol p (exports_of p) plan) (protocol p (exports_of p) (emptied plan)) (HeldAt p (exports_of p)) why (length us) (Protocol p plan os n)
      (Protocol p (emptied plan) os n)
      (held_from p (exports_of p) (length us) n p.start (all_left plan os) (opening p plan.globals) (record { us = us; is = is; calm = calm; count = refl }))
