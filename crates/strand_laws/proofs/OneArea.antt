-- A plan whose area stands among the further ranges too tests as one without them, and so runs alike.
use Rattle.std.proofs.Common.{◌≡◌, ℕ, ◌+◌, List, [], ◌∷◌, length, Option, Some, None, Bool, true, false, refl, ap, ◌∙◌}
use Rattle.std.specs.Prelude.{◌&&◌, if◌then◌else◌, nat_le, nat_lt}
use Rattle.wa_types.specs.Base.{Base}
use Rattle.wa_types.specs.Modules.{defined_at, func_imports, func_type_at}
use Rattle.wa_types.specs.Syntax.{Func, Module}
use Rattle.wa_types.specs.declared.values.ValType.{ValType}
use Rattle.wa_types.specs.declared.values.Value.{Value}
use Rattle.wa_model.specs.declared.answers.Area.{Area}
use Rattle.wa_model.specs.declared.events.End.{End}
use Rattle.wa_model.specs.declared.events.End.TheVariants.{BadPoke}
use Rattle.wa_model.specs.Outside.{Answer, Poke}
use Rattle.wa_model.specs.Machine.{Ran, Turn, after, goes, stops}
use Rattle.wa_model.specs.Plan.{Entry, Outcome, Plan, given, refused}
use Rattle.wa_model.specs.Instantiation.{opening}
use Rattle.wa_model.specs.Store.{Store}
use Rattle.wa_model.specs.Step.{Next, asks, returns, step, steps, stuck, traps}
use Rattle.wa_model.specs.Blocking.{Asker, Blocking, Left, Note, State, Task, all_left, an_entry, asked, bad_pause, bad_poke, bad_value, begins, begun, between, blocking, by_step, fault_of, halts, in_start, inside, is_off, is_unlisted}
use Rattle.wa_model.specs.Blocking.{or_else, outermost, pause_of, poke_fits, runs, start_called, store_at, tested, the_start, with_outcomes}
use Rattle.wa_model.specs.Protocol.{Exports, Held, Phase, Protocol, Then, aside, aside_back, aside_step, busy, busy_step, call_again, calling, entering, exports_of, free, give_answer, give_zero, held_asked, held_begun}
use Rattle.wa_model.specs.Protocol.{held_start, held_tested, is_running, over, pause_there, protocol, rewinds, starting, test_rewound, test_unwound, unwinds}
use Rattle.headline.proofs.SamePlans.{Kept, same_run}

-- a turn that keeps nothing
nothing_kept : (S : Type 0) (f g : S → Turn S Note) (o : Turn S Note) → Kept S f g (λ t. Unit {0}) o
nothing_kept S f g stops = tt
nothing_kept S f g (goes k es t) = tt

module _ (globals : List Value) (entries : List Entry) (area : Area) (listed : Option (List Bool)) where
  abbrev once : Plan
  once = record { globals = globals; entries = entries; area = area; others = []; listed = listed }

  abbrev twice : Plan
  twice = record { globals = globals; entries = entries; area = area; others = area ∷ []; listed = listed }

  -- ---- tests

  same_fit : (size : ℕ) (p : Poke) → poke_fits size (area ∷ area ∷ []) p ≡ poke_fits size (area ∷ []) p
  same_fit size p = ap (λ b. nat_le (p.at + length p.bytes) size && b) (by (is_off p area))
    where
      by : (o : Bool) → (o && (o && true)) ≡ (o && true)
      by true = refl
      by false = refl

  same_pokes : (size : ℕ) (ps : List Poke) → bad_poke size (area ∷ area ∷ []) ps ≡ bad_poke size (area ∷ []) ps
  same_pokes size [] = refl
  same_pokes size (p ∷ ps) =
      ap (λ b. if b then bad_poke size (area ∷ area ∷ []) ps else Some (BadPoke p.at (length p.bytes))) (same_fit size p)
      ∙ ap (λ o. if poke_fits size (area ∷ []) p then o else Some (BadPoke p.at (length p.bytes))) (same_pokes size ps)

  same_fault : (types : List ValType) (size : ℕ) (start : Bool) (i : ℕ) (a : Answer) → fault_of types size twice start i a ≡ fault_of types size once start i a
  same_fault types size start i a =
      ap (λ o. or_else (bad_value types i a.said) (or_else o (bad_pause start (is_unlisted listed i) i a.ticks))) (same_pokes size a.pokes)

  -- ---- with blocking imports

  module _ (m : Module) where
    asked_same : (k i : ℕ) (args : List Value) (w : Asker) (l : Left) (os : List Outcome) → asked m twice k i args w l os ≡ asked m once k i args w l os
    asked_same k i args w l [] = refl
    asked_same k i args w l (refused e ∷ os) = refl
    asked_same k i args w l (given a ∷ os) =
        ap (tested m k i args w (with_outcomes l os) a) (same_fault (func_type_at m i).results (length (store_at w).memory) (in_start w) i a)

    step_same : (task : Task) (l : Left) (o : Next) → by_step m twice task l o ≡ by_step m once task l o
    step_same task l (steps k d) = refl
    step_same task l (asks k i args d) = asked_same k i args (inside task d) l l.outcomes
    step_same task l (returns k vs s) = refl
    step_same task l (traps k t s) = refl
    step_same task l stuck = refl

    start_same : (x : ℕ) (s : Store) (l : Left) (o : Option Func) → start_called m twice x s l o ≡ start_called m once x s l o
    start_same x s l (Some f) = refl
    start_same x s l None = ap (λ o. if nat_lt x (func_imports m) then o else stops) (asked_same 0 x [] (outermost s) l l.outcomes)

    turn_same : (t : State) → blocking m twice t ≡ blocking m once t
    turn_same (between s l) = refl
    turn_same (begins x s l) = start_same x s l (defined_at m x)
    turn_same (runs task c l) = step_same task l (step m c)
    turn_same (halts s) = refl

  pub blocking_same : (m : Module) (os : List Outcome) (n : ℕ) → Blocking m twice os n ≡ Blocking m once os n
  blocking_same m os n =
      let r : Ran State Note = begun (Base m).start (all_left twice os) (opening (Base m) globals) in
      ap (after r.events)
      (same_run State (blocking (Base m) twice) (blocking (Base m) once) (λ t. Unit {0})
      (λ t h. record { same = turn_same (Base m) t; kept = nothing_kept State (blocking (Base m) twice) (blocking (Base m) once) (blocking (Base m) twice t) }) n r.last tt)

  -- ---- under the protocol

  module _ (p : Module) (x : Exports) where
    held_tested_same : (k i : ℕ) (args : List Value) (w : Asker) (l : Left) (a : Answer) (o : Option End) (pause : Option ℕ)
        → held_tested p x twice k i args w l a o pause ≡ held_tested p x once k i args w l a o pause
    held_tested_same k i args w l a (Some e) pause = refl
    held_tested_same k i args w l a None None = refl
    held_tested_same k i args (inside the_start c) l a None (Some ticks) = refl
    held_tested_same k i args (inside (an_entry e) c) l a None (Some ticks) = refl
    held_tested_same k i args (outermost s) l a None (Some ticks) = refl

    held_asked_same : (k i : ℕ) (args : List Value) (w : Asker) (l : Left) (os : List Outcome) → held_asked p x twice k i args w l os ≡ held_asked p x once k i args w l os
    held_asked_same k i args w l [] = refl
    held_asked_same k i args w l (refused e ∷ os) = refl
    held_asked_same k i args w l (given a ∷ os) =
        ap (λ o. held_tested p x twice k i args w (with_outcomes l os) a o (pause_of a.ticks)) (same_fault (func_type_at p i).results (length (store_at w).memory) (in_start w) i a)
        ∙ held_tested_same k i args w (with_outcomes l os) a (fault_of (func_type_at p i).results (length (store_at w).memory) once (in_start w) i a) (pause_of a.ticks)

    busy_same : (ph : Phase) (l : Left) (o : Next) → busy_step p x twice ph l o ≡ busy_step p x once ph l o
    busy_same (is_running task) l (steps k d) = refl
    busy_same (is_running task) l (asks k i args d) = held_asked_same k i args (inside task d) l l.outcomes
    busy_same (is_running task) l (returns k vs s) = refl
    busy_same (is_running task) l (traps k t s) = refl
    busy_same (is_running task) l stuck = refl
    busy_same (unwinds e i a) l (steps k d) = refl
    busy_same (unwinds e i a) l (asks k j args d) = refl
    busy_same (unwinds e i a) l (returns k vs s) = refl
    busy_same (unwinds e i a) l (traps k t s) = refl
    busy_same (unwinds e i a) l stuck = refl
    busy_same (rewinds e i a sp) l (steps k d) = refl
    busy_same (rewinds e i a sp) l (asks k j args d) = refl
    busy_same (rewinds e i a sp) l (returns k vs s) = refl
    busy_same (rewinds e i a sp) l (traps k t s) = refl
    busy_same (rewinds e i a sp) l stuck = refl

    back_same : (k : ℕ) (ph : Phase) (th : Then) (l : Left) (vs : List Value) (s : Store) → aside_back p x twice k ph th l vs s ≡ aside_back p x once k ph th l vs s
    back_same k (is_running task) th l vs s = refl
    back_same k (unwinds e i a) (give_zero c) l vs s = refl
    back_same k (unwinds e i a) test_unwound l vs s = refl
    back_same k (unwinds e i a) pause_there l vs s = refl
    back_same k (unwinds e i a) call_again l vs s = refl
    back_same k (unwinds e i a) (test_rewound c) l vs s = refl
    back_same k (unwinds e i a) (give_answer c) l vs s = refl
    back_same k (rewinds e i a sp) (give_zero c) l vs s = refl
    back_same k (rewinds e i a sp) test_unwound l vs s = refl
    back_same k (rewinds e i a sp) pause_there l vs s = refl
    back_same k (rewinds e i a sp) call_again l vs s = refl
    back_same k (rewinds e i a sp) (test_rewound c) l vs s = refl
    back_same k (rewinds e i a sp) (give_answer c) l vs s = refl

    aside_same : (ph : Phase) (th : Then) (l : Left) (o : Next) → aside_step p x twice ph th l o ≡ aside_step p x once ph th l o
    aside_same ph th l (steps k d) = refl
    aside_same ph th l (asks k i args d) = refl
    aside_same ph th l (returns k vs s) = back_same k ph th l vs s
    aside_same ph th l (traps k t s) = refl
    aside_same ph th l stuck = refl

    held_start_same : (f : ℕ) (s : Store) (l : Left) (o : Option Func) → held_start p x twice f s l o ≡ held_start p x once f s l o
    held_start_same f s l (Some g) = refl
    held_start_same f s l None = ap (λ o. if nat_lt f (func_imports p) then o else stops) (held_asked_same 0 f [] (outermost s) l l.outcomes)

    held_same : (h : Held) → protocol p x twice h ≡ protocol p x once h
    held_same (free s l) = refl
    held_same (starting f s l) = held_start_same f s l (defined_at p f)
    held_same (busy ph c l) = busy_same ph l (step p c)
    held_same (calling ph s f args th l) = refl
    held_same (aside ph c th l) = aside_same ph th l (step p c)
    held_same (entering ph e s l) = refl
    held_same (over s) = refl

  pub protocol_same : (p : Module) (os : List Outcome) (n : ℕ) → Protocol p twice os n ≡ Protocol p once os n
  protocol_same p os n =
      let x : Exports = exports_of p in
      let r : Ran Held Note = held_begun p.start (all_left twice os) (opening p globals) in
      ap (after r.events)
      (same_run Held (protocol p x twice) (protocol p x once) (λ h. Unit {0})
      (λ h u. record { same = held_same p x h; kept = nothing_kept Held (protocol p x twice) (protocol p x once) (protocol p x twice h) }) n r.last tt)
