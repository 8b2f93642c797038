-- Where no outcome pauses or pokes the area, runs don't depend on area and list.
use Rattle.std.proofs.Common.{◌≡◌, ℕ, zero, suc, ◌+◌, ◌-◌, List, [], ◌∷◌, ◌++◌, length, Option, Some, None, Bool, true, false, All, refl, sym, ap, ◌∙◌, subst, ◌⊎◌, inl, inr}
use Rattle.std.specs.Prelude.{if◌then◌else◌, nat_le, nat_lt, not, ◌&&◌}
use Rattle.std.specs.List.{list_all}
use Rattle.std.proofs.lemmas.List.Elements.{All-nil, All-cons, All-head, All-tail}
use Rattle.wa_types.specs.Base.{Base}
use Rattle.wa_types.specs.Modules.{func_imports, func_type_at, defined_at}
use Rattle.wa_types.specs.Syntax.{Func, Module}
use Rattle.wa_types.specs.declared.values.ValType.{ValType}
use Rattle.wa_types.specs.declared.values.Value.{Value}
use Rattle.wa_model.specs.declared.answers.Area.{Area}
use Rattle.wa_model.specs.declared.answers.Said.{Said}
use Rattle.wa_model.specs.declared.answers.Said.TheVariants as SV
use Rattle.wa_model.specs.declared.events.End.{End}
use Rattle.wa_model.specs.declared.events.End.TheVariants.{BadPoke}
use Rattle.wa_model.specs.Outside.{Answer, Poke}
use Rattle.wa_model.specs.Machine.{Turn, stops, goes, Ran, after, still, pay, run_with, run}
use Rattle.wa_model.specs.Plan.{Entry, Plan, Outcome, given, refused}
use Rattle.wa_model.specs.Instantiation.{Opening, fails_as, opens, opening}
use Rattle.wa_model.specs.Store.{Store}
use Rattle.wa_model.specs.Step.{Next, steps, asks, returns, traps, stuck, step}
use Rattle.wa_model.specs.Blocking.{Note, call_note, bad_value, bad_poke, bad_pause, fault_of, is_off, is_unlisted, or_else, overlap, pause_of, poked, poke_fits, Task, the_start, an_entry, Left, with_outcomes, Asker, inside, outermost, store_at, stack_at, in_start, State, between, begins, runs, halts, on_to, go_on, tested, asked, task_back, by_step, enters, enter_next, start_called, blocking, begun, all_left, Blocking}
use Rattle.wa_model.specs.Protocol.{Exports, exports_of, is_running, unwinds, rewinds, Held, free, starting, busy, calling, aside, entering, over, held_on, held_back, held_given, held_tested, held_asked, busy_step, busy_enters, held_next, held_start, protocol, held_begun, Protocol}
use Rattle.wa_model.specs.Behaves.{NoTicks}
use Rattle.headline.proofs.EmptyAreas.{emptied, nowhere, off_nowhere}

-- its pokes lie off a range
abbrev pub PokesOff : Area → Outcome → Type 0
PokesOff area (given a) = All (λ (p : Poke). overlap p.at (length p.bytes) area.at area.len ≡ false) a.pokes
PokesOff area (refused e) = Unit {0}

-- ---- machines that move alike where something is kept

module _ (S : Type 0) (f g : S → Turn S Note) (Inv : S → Type 0) where
  abbrev pub Kept : Turn S Note → Type 0
  Kept stops = Unit {0}
  Kept (goes k es t) = Inv t

  pub record SameTurn (s : S) : Type 0 where
    pub same : f s ≡ g s
    pub kept : Kept (f s)

  module _ (each : (s : S) → Inv s → SameTurn s) where
    same_pay : (count n : ℕ) (s : S) (o : Turn S Note) → ((k : ℕ) (t : S) → Inv t → run_with f count k t ≡ run_with g count k t) → Kept o
        → pay (run_with f count) n s o ≡ pay (run_with g count) n s o
    same_pay count n s stops ih h = refl
    same_pay count n s (goes k es t) ih h = by (nat_lt k n)
      where
        by : (b : Bool) → (if b then after es (run_with f count (n - suc k) t) else still s) ≡ (if b then after es (run_with g count (n - suc k) t) else still s)
        by true = ap (after es) (ih (n - suc k) t h)
        by false = refl

    same_run_with : (count n : ℕ) (s : S) → Inv s → run_with f count n s ≡ run_with g count n s
    same_run_with zero n s h = refl
    same_run_with (suc count) n s h =
        let e = each s h in
        same_pay count n s (f s) (λ k t i. same_run_with count k t i) e.kept ∙ ap (pay (run_with g count) n s) e.same

    pub same_run : (n : ℕ) (s : S) → Inv s → run f n s ≡ run g n s
    same_run n s h = same_run_with n n s h

module _ (plan : Plan) where
  -- the outcomes left don't pause, and don't poke the area
  abbrev pub Calm : Outcome → Type 0
  Calm o = NoTicks o × PokesOff plan.area o

  abbrev Q : Left → Type 0
  Q l = All Calm l.outcomes

  -- ---- tests

  same_pokes : (size : ℕ) (ps : List Poke) → All (λ (p : Poke). overlap p.at (length p.bytes) plan.area.at plan.area.len ≡ false) ps
      → bad_poke size (plan.area ∷ plan.others) ps ≡ bad_poke size (nowhere ∷ plan.others) ps
  same_pokes size [] h = refl
  same_pokes size (p ∷ ps) h =
      let off = All-head (λ (p : Poke). overlap p.at (length p.bytes) plan.area.at plan.area.len ≡ false) p ps h in
      let fit : poke_fits size (plan.area ∷ plan.others) p ≡ poke_fits size (nowhere ∷ plan.others) p =
      ap (λ b. nat_le (p.at + length p.bytes) size && (not b && list_all (is_off p) plan.others)) (off ∙ sym (off_nowhere p.at (length p.bytes))) in
      ap (λ b. if b then bad_poke size (plan.area ∷ plan.others) ps else Some (BadPoke p.at (length p.bytes))) fit
      ∙ ap (λ o. if poke_fits size (nowhere ∷ plan.others) p then o else Some (BadPoke p.at (length p.bytes)))
      (same_pokes size ps (All-tail (λ (p : Poke). overlap p.at (length p.bytes) plan.area.at plan.area.len ≡ false) p ps h))

  pub same_pause : (start : Bool) (i t : ℕ) (u u' : Bool) → t ≡ 0 → bad_pause start u i t ≡ bad_pause start u' i t
  same_pause start i zero u u' e = refl
  same_pause start i (suc t) u u' e = cc

  pub same_fault : (types : List ValType) (size : ℕ) (start : Bool) (i : ℕ) (a : Answer) → Calm (given a) → fault_of types size plan start i a ≡ fault_of types size (emptied plan) start i a
  same_fault types size start i a h =
      ap (λ o. or_else (bad_value types i a.said) (or_else o (bad_pause start (is_unlisted plan.listed i) i a.ticks))) (same_pokes size a.pokes h.1)
      ∙ ap (λ o. or_else (bad_value types i a.said) (or_else (bad_poke size (nowhere ∷ plan.others) a.pokes) o))
      (same_pause start i a.ticks (is_unlisted plan.listed i) (is_unlisted (Some []) i) h.0)

  pub none_paused : (t : ℕ) → t ≡ 0 → pause_of t ≡ None
  none_paused zero e = refl
  none_paused (suc t) e = cc

  -- ---- the machine whose imports block

  module _ (m : Module) where
    abbrev Inv : State → Type 0
    Inv (between s l) = Q l
    Inv (begins x s l) = Q l
    Inv (runs task c l) = Q l
    Inv (halts s) = Unit {0}

    abbrev K : Turn State Note → Type 0
    K = Kept State (blocking m plan) (blocking m (emptied plan)) Inv

    abbrev Same : Turn State Note → Turn State Note → Type 0
    Same o o' = (o ≡ o') × K o

    on_kept : (s : Store) (l : Left) (es : List Entry) → Q l → Inv (on_to s l es)
    on_kept s l [] h = tt
    on_kept s l (e ∷ es) h = h

    go_on_kept : (k : ℕ) (x : Note) (said : Said) (s : Store) (l : Left) (w : Asker) → Q l → K (go_on k x said s l w)
    go_on_kept k x (SV.Value v) s l (inside task c) h = h
    go_on_kept k x (SV.Value v) s l (outermost old) h = on_kept s l l.entries h
    go_on_kept k x SV.Trap s l w h = tt

    tested_kept : (k i : ℕ) (args : List Value) (w : Asker) (l : Left) (a : Answer) (o : Option End) → Q l → K (tested m k i args w l a o)
    tested_kept k i args w l a (Some e) h = tt
    tested_kept k i args w l a None h = go_on_kept k (call_note i args (store_at w) (stack_at m w) (pause_of a.ticks)) a.said (poked (store_at w) a.pokes) l w h

    asked_same : (k i : ℕ) (args : List Value) (w : Asker) (l : Left) (os : List Outcome) → All Calm os → Same (asked m plan k i args w l os) (asked m (emptied plan) k i args w l os)
    asked_same k i args w l [] h = (refl, tt)
    asked_same k i args w l (refused e ∷ os) h = (refl, tt)
    asked_same k i args w l (given a ∷ os) h =
        let types = (func_type_at m i).results in
        let size = length (store_at w).memory in (
          ap (tested m k i args w (with_outcomes l os) a) (same_fault types size (in_start w) i a (All-head Calm (given a) os h)),
          tested_kept k i args w (with_outcomes l os) a (fault_of types size plan (in_start w) i a) (All-tail Calm (given a) os h),
        )

    back_kept : (k : ℕ) (task : Task) (vs : List Value) (s : Store) (l : Left) → Q l → K (task_back k task vs s l)
    back_kept k the_start vs s l h = on_kept s l l.entries h
    back_kept k (an_entry e) vs s l h = on_kept s (Rattle.wa_model.specs.Blocking.next_entry l) l.entries h

    step_same : (task : Task) (l : Left) (o : Next) → Q l → Same (by_step m plan task l o) (by_step m (emptied plan) task l o)
    step_same task l (steps k d) h = (refl, h)
    step_same task l (asks k i args d) h = asked_same k i args (inside task d) l l.outcomes h
    step_same task l (returns k vs s) h = (refl, back_kept k task vs s l h)
    step_same task l (traps k t s) h = (refl, tt)
    step_same task l stuck h = (refl, tt)

    enters_kept : (e : Entry) (s : Store) (l : Left) (o : Option Func) → Q l → K (enters e s l o)
    enters_kept e s l None h = tt
    enters_kept e s l (Some f) h = h

    next_kept : (s : Store) (l : Left) (es : List Entry) → Q l → K (enter_next m s l es)
    next_kept s l [] h = tt
    next_kept s l (e ∷ es) h = enters_kept e s (record { number = l.number; entries = es; outcomes = l.outcomes }) (defined_at m e.func) h

    start_same : (x : ℕ) (s : Store) (l : Left) (o : Option Func) → Q l → Same (start_called m plan x s l o) (start_called m (emptied plan) x s l o)
    start_same x s l (Some f) h = (refl, h)
    start_same x s l None h = by (nat_lt x (func_imports m))
      where
        by : (b : Bool) → Same (if b then asked m plan 0 x [] (outermost s) l l.outcomes else stops) (if b then asked m (emptied plan) 0 x [] (outermost s) l l.outcomes else stops)
        by true = asked_same 0 x [] (outermost s) l l.outcomes h
        by false = (refl, tt)

    turn_same : (t : State) → Inv t → SameTurn State (blocking m plan) (blocking m (emptied plan)) Inv t
    turn_same (between s l) h = record { same = refl; kept = next_kept s l l.entries h }
    turn_same (begins x s l) h = let r = start_same x s l (defined_at m x) h in record { same = r.0; kept = r.1 }
    turn_same (runs task c l) h = let r = step_same task l (step m c) h in record { same = r.0; kept = r.1 }
    turn_same (halts s) h = record { same = refl; kept = tt }

    begun_kept : (start : Option ℕ) (l : Left) (o : Opening) → Q l → Inv (begun start l o).last
    begun_kept start l (fails_as e) h = tt
    begun_kept None l (opens s) h = on_kept s l l.entries h
    begun_kept (Some x) l (opens s) h = h

    pub blocking_same : (n : ℕ) (r : Ran State Note) → Inv r.last → after r.events (run (blocking m plan) n r.last) ≡ after r.events (run (blocking m (emptied plan)) n r.last)
    blocking_same n r h = ap (after r.events) (same_run State (blocking m plan) (blocking m (emptied plan)) Inv turn_same n r.last h)

  -- ---- the machine of the protocol

  module _ (p : Module) (x : Exports) where
    -- the program runs: nothing unwinds or rewinds
    abbrev InvHeld : Held → Type 0
    InvHeld (free s l) = Q l
    InvHeld (starting f s l) = Q l
    InvHeld (busy (is_running task) c l) = Q l
    InvHeld (over s) = Unit {0}
    InvHeld _ = ⊥

    abbrev KH : Turn Held Note → Type 0
    KH = Kept Held (protocol p x plan) (protocol p x (emptied plan)) InvHeld

    abbrev SameH : Turn Held Note → Turn Held Note → Type 0
    SameH o o' = (o ≡ o') × KH o

    held_on_kept : (s : Store) (l : Left) (es : List Entry) → Q l → InvHeld (held_on s l es)
    held_on_kept s l [] h = tt
    held_on_kept s l (e ∷ es) h = h

    given_kept : (k : ℕ) (n : Note) (said : Said) (s : Store) (l : Left) (w : Asker) → Q l → KH (held_given k n said s l w)
    given_kept k n (SV.Value v) s l (inside task c) h = h
    given_kept k n (SV.Value v) s l (outermost old) h = held_on_kept s l l.entries h
    given_kept k n SV.Trap s l w h = tt

    held_tested_same : (k i : ℕ) (args : List Value) (w : Asker) (l : Left) (a : Answer) (o o' : Option End) → o ≡ o' → a.ticks ≡ 0 → Q l
        → SameH (held_tested p x plan k i args w l a o (pause_of a.ticks)) (held_tested p x (emptied plan) k i args w l a o' (pause_of a.ticks))
    held_tested_same k i args w l a o o' e none h =
        subst (λ t. SameH (held_tested p x plan k i args w l a o t) (held_tested p x (emptied plan) k i args w l a o' t)) (sym (none_paused a.ticks none))
        (subst (λ z. SameH (held_tested p x plan k i args w l a o None) (held_tested p x (emptied plan) k i args w l a z None)) e (by o))
      where
        by : (o : Option End) → SameH (held_tested p x plan k i args w l a o None) (held_tested p x (emptied plan) k i args w l a o None)
        by (Some e) = (refl, tt)
        by None = (refl, given_kept k (call_note i args (store_at w) (stack_at p w) None) a.said (poked (store_at w) a.pokes) l w h)

    held_asked_same : (k i : ℕ) (args : List Value) (w : Asker) (l : Left) (os : List Outcome) → All Calm os → SameH (held_asked p x plan k i args w l os) (held_asked p x (emptied plan) k i args w l os)
    held_asked_same k i args w l [] h = (refl, tt)
    held_asked_same k i args w l (refused e ∷ os) h = (refl, tt)
    held_asked_same k i args w l (given a ∷ os) h =
        let types = (func_type_at p i).results in
        let size = length (store_at w).memory in
        let first = All-head Calm (given a) os h in
        held_tested_same k i args w (with_outcomes l os) a (fault_of types size plan (in_start w) i a) (fault_of types size (emptied plan) (in_start w) i a)
        (same_fault types size (in_start w) i a first) first.0 (All-tail Calm (given a) os h)

    held_back_kept : (k : ℕ) (task : Task) (vs : List Value) (s : Store) (l : Left) → Q l → KH (held_back k task vs s l)
    held_back_kept k the_start vs s l h = held_on_kept s l l.entries h
    held_back_kept k (an_entry e) vs s l h = held_on_kept s (Rattle.wa_model.specs.Blocking.next_entry l) l.entries h

    busy_same : (task : Task) (l : Left) (o : Next) → Q l → SameH (busy_step p x plan (is_running task) l o) (busy_step p x (emptied plan) (is_running task) l o)
    busy_same task l (steps k d) h = (refl, h)
    busy_same task l (asks k i args d) h = held_asked_same k i args (inside task d) l l.outcomes h
    busy_same task l (returns k vs s) h = (refl, held_back_kept k task vs s l h)
    busy_same task l (traps k t s) h = (refl, tt)
    busy_same task l stuck h = (refl, tt)

    busy_enters_kept : (task : Task) (e : Entry) (s : Store) (l : Left) (o : Option Func) → Q l → KH (busy_enters (is_running task) e s l o)
    busy_enters_kept task e s l None h = tt
    busy_enters_kept task e s l (Some f) h = h

    held_next_kept : (s : Store) (l : Left) (es : List Entry) → Q l → KH (held_next p s l es)
    held_next_kept s l [] h = tt
    held_next_kept s l (e ∷ es) h = busy_enters_kept (an_entry e) e s (record { number = l.number; entries = es; outcomes = l.outcomes }) (defined_at p e.func) h

    held_start_same : (f : ℕ) (s : Store) (l : Left) (o : Option Func) → Q l → SameH (held_start p x plan f s l o) (held_start p x (emptied plan) f s l o)
    held_start_same f s l (Some g) h = (refl, h)
    held_start_same f s l None h = by (nat_lt f (func_imports p))
      where
        by : (b : Bool) → SameH (if b then held_asked p x plan 0 f [] (outermost s) l l.outcomes else stops) (if b then held_asked p x (emptied plan) 0 f [] (outermost s) l l.outcomes else stops)
        by true = held_asked_same 0 f [] (outermost s) l l.outcomes h
        by false = (refl, tt)

    held_same : (t : Held) → InvHeld t → SameTurn Held (protocol p x plan) (protocol p x (emptied plan)) InvHeld t
    held_same (free s l) h = record { same = refl; kept = held_next_kept s l l.entries h }
    held_same (starting f s l) h = let r = held_start_same f s l (defined_at p f) h in record { same = r.0; kept = r.1 }
    held_same (busy (is_running task) c l) h = let r = busy_same task l (step p c) h in record { same = r.0; kept = r.1 }
    held_same (busy (unwinds e i a) c l) h = absurd h
    held_same (busy (rewinds e i a sp) c l) h = absurd h
    held_same (calling ph s f args th l) h = absurd h
    held_same (aside ph c th l) h = absurd h
    held_same (entering ph e s l) h = absurd h
    held_same (over s) h = record { same = refl; kept = tt }

    held_begun_kept : (start : Option ℕ) (l : Left) (o : Opening) → Q l → InvHeld (held_begun start l o).last
    held_begun_kept start l (fails_as e) h = tt
    held_begun_kept None l (opens s) h = held_on_kept s l l.entries h
    held_begun_kept (Some f) l (opens s) h = h

    pub protocol_same : (n : ℕ) (r : Ran Held Note) → InvHeld r.last → after r.events (run (protocol p x plan) n r.last) ≡ after r.events (run (protocol p x (emptied plan)) n r.last)
    protocol_same n r h = ap (after r.events) (same_run Held (protocol p x plan) (protocol p x (emptied plan)) InvHeld held_same n r.last h)

-- ---- whole runs

pub same_blocking : (m : Module) (plan : Plan) (os : List Outcome) (n : ℕ) → All (Calm plan) os → Blocking m plan os n ≡ Blocking m (emptied plan) os n
same_blocking m plan os n calm =
    blocking_same plan (Base m) n (begun (Base m).start (all_left plan os) (opening (Base m) plan.globals))
    (begun_kept plan (Base m) (Base m).start (all_left plan os) (opening (Base m) plan.globals) calm)

pub same_protocol : (p : Module) (plan : Plan) (os : List Outcome) (n : ℕ) → All (Calm plan) os → Protocol p plan os n ≡ Protocol p (emptied plan) os n
same_protocol p plan os n calm =
    protocol_same plan p (exports_of p) n (held_begun p.start (all_left plan os) (opening p plan.globals))
    (held_begun_kept plan p (exports_of p) p.start (all_left plan os) (opening p plan.globals) calm)

-- ---- the first outcome that pokes the area, where there is one

-- there is such a one behind others
pub record Poking (plan : Plan) (os : List Outcome) : Type 0 where
  pub us : List Outcome
  pub bad : Answer
  pub rest : List Outcome
  pub is : os ≡ us ++ (given bad ∷ rest)
  pub calm : All (Calm plan) us
  pub unpaused : bad.ticks ≡ 0
  pub poking : (size : ℕ) → bad_poke size (plan.area ∷ plan.others) bad.pokes ≡ None → ⊥

pokes_or : (area : Area) (others : List Area) (ps : List Poke)
    → (All (λ (p : Poke). overlap p.at (length p.bytes) area.at area.len ≡ false) ps) ⊎ ((size : ℕ) → bad_poke size (area ∷ others) ps ≡ None → ⊥)
pokes_or area others [] = inl (All-nil (λ (p : Poke). overlap p.at (length p.bytes) area.at area.len ≡ false))
pokes_or area others (p ∷ ps) = by (overlap p.at (length p.bytes) area.at area.len) refl (pokes_or area others ps)
  where
    still_none : (size : ℕ) → (b : Bool) → (if b then bad_poke size (area ∷ others) ps else Some (BadPoke p.at (length p.bytes))) ≡ None → bad_poke size (area ∷ others) ps ≡ None
    still_none size true e = e
    still_none size false e = cc

    never_fits : (size : ℕ) (b : Bool) → (if b && (not true && list_all (is_off p) others) then bad_poke size (area ∷ others) ps else Some (BadPoke p.at (length p.bytes))) ≡ None → ⊥
    never_fits size true e = cc
    never_fits size false e = cc

    by : (o : Bool) → overlap p.at (length p.bytes) area.at area.len ≡ o
        → (All (λ (p : Poke). overlap p.at (length p.bytes) area.at area.len ≡ false) ps) ⊎ ((size : ℕ) → bad_poke size (area ∷ others) ps ≡ None → ⊥)
        → (All (λ (p : Poke). overlap p.at (length p.bytes) area.at area.len ≡ false) (p ∷ ps)) ⊎ ((size : ℕ) → bad_poke size (area ∷ others) (p ∷ ps) ≡ None → ⊥)
    by true e r =
        inr (λ size h. never_fits size (nat_le (p.at + length p.bytes) size)
        (ap (λ b. if nat_le (p.at + length p.bytes) size && (not b && list_all (is_off p) others) then bad_poke size (area ∷ others) ps else Some (BadPoke p.at (length p.bytes))) (sym e) ∙ h))
    by false e (inl h) = inl (All-cons (λ (p : Poke). overlap p.at (length p.bytes) area.at area.len ≡ false) p ps e h)
    by false e (inr never) = inr (λ size h. never size (still_none size (poke_fits size (area ∷ others) p) h))

pub find_poking : (plan : Plan) (os : List Outcome) → All NoTicks os → All (Calm plan) os ⊎ Poking plan os
find_poking plan [] h = inl (All-nil (Calm plan))
find_poking plan (o ∷ os) h = by o (All-head NoTicks o os h) (find_poking plan os (All-tail NoTicks o os h))
  where
    on : (o : Outcome) → Calm plan o → All (Calm plan) os ⊎ Poking plan os → All (Calm plan) (o ∷ os) ⊎ Poking plan (o ∷ os)
    on o c (inl r) = inl (All-cons (Calm plan) o os c r)
    on o c (inr p) = inr (record {
      us = o ∷ p.us;
      bad = p.bad;
      rest = p.rest;
      is = ap (λ zs. o ∷ zs) p.is;
      calm = All-cons (Calm plan) o p.us c p.calm;
      unpaused = p.unpaused;
      poking = p.poking;
    })

    by : (o : Outcome) → NoTicks o → All (Calm plan) os ⊎ Poking plan os → All (Calm plan) (o ∷ os) ⊎ Poking plan (o ∷ os)
    by (refused e) t r = on (refused e) (t, tt) r
    by (given a) t r = by_pokes (pokes_or plan.area plan.others a.pokes)
      where
        by_pokes : (All (λ (p : Poke). overlap p.at (length p.bytes) plan.area.at plan.area.len ≡ false) a.pokes) ⊎ ((size : ℕ) → bad_poke size (plan.area ∷ plan.others) a.pokes ≡ None → ⊥)
            → All (Calm plan) (given a ∷ os) ⊎ Poking plan (given a ∷ os)
        by_pokes (inl h) = on (given a) (t, h) r
        by_pokes (inr never) = inr (record { us = []; bad = a; rest = os; is = refl; calm = All-nil (Calm plan); unpaused = t; poking = never })
