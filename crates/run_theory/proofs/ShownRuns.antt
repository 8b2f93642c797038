-- The run with blocking imports whose moves show their pauses makes the expected notes.
use Rattle.std.proofs.Common.{◌≡◌, ℕ, zero, suc, ◌+◌, ◌-◌, ◌≤◌, List, [], ◌∷◌, ◌++◌, Option, Some, None, refl, sym, ap, ◌∙◌, ⊎_elim, arith, length}
use Rattle.std.specs.Prelude.{nat_lt, if◌then◌else◌, Bool, true, false}
use Rattle.std.proofs.lemmas.Bool.{cases_lt}
use Rattle.wa_types.specs.Syntax.{Func, Module}
use Rattle.wa_types.specs.Modules.{func_imports, func_type_at, defined_at}
use Rattle.wa_types.specs.Frames.{Suspended}
use Rattle.wa_types.specs.declared.values.Value.{Value}
use Rattle.wa_model.specs.declared.answers.Said.{Said}
use Rattle.wa_model.specs.declared.answers.Said.TheVariants as S
use Rattle.wa_model.specs.declared.events.End.{End}
use Rattle.wa_model.specs.Outside.{Answer}
use Rattle.wa_model.specs.Machine.{Turn, stops, goes, Ran, run}
use Rattle.wa_model.specs.Store.{Store}
use Rattle.wa_model.specs.Step.{Next, steps, asks, returns, traps, stuck, step}
use Rattle.wa_model.specs.Plan.{Entry, Plan, Outcome, given, refused}
use Rattle.wa_model.specs.Blocking.{Note, fault_of, Task, the_start, an_entry, Left, with_outcomes, Asker, inside, outermost, store_at, in_start, State, between, begins, runs, halts}
use Rattle.wa_model.specs.Blocking.{done_notes, task_back, call_note, poked, pause_of, stack_at, go_on, tested, asked, by_step, enters, enter_next, start_called, blocking}
use Rattle.wa_model.specs.Expected.{pause_note, trap_note}
use Rattle.run_theory.specs.Shown.{shown_within_at as shown_at, shown_within as shown}
use Rattle.run_theory.proofs.Runs.{one_move, too_dear, no_move}

module _ (room fit : List Suspended → ℕ) (len : ℕ) where
  -- a move with its pause shown; where the frames don't fit the run ends there
  abbrev pub pause_shown : ℕ → Note → List Note → State → Option ℕ → Turn State Note
  pause_shown k x xs t None = goes k (x ∷ xs) t
  pause_shown k x xs t (Some ticks) =
      if nat_lt len (room x.stack)
      then goes k (x ∷ trap_note (fit x.stack) len x.store ∷ []) (halts x.store)
      else goes k (x ∷ pause_note ticks (room x.stack) x.store x.stack ∷ xs) t

  abbrev pub shown_move : Turn State Note → Turn State Note
  shown_move stops = stops
  shown_move (goes k [] t) = goes k [] t
  shown_move (goes k (x ∷ xs) t) = pause_shown k x xs t x.pause

  -- the machine with blocking imports whose moves show their pauses
  abbrev pub blocking_shown : Module → Plan → State → Turn State Note
  blocking_shown m plan s = shown_move (blocking m plan s)

-- no pause behind the first note
abbrev pub Plain_notes : List Note → Type 0
Plain_notes [] = Unit {0}
Plain_notes (x ∷ xs) = (x.pause ≡ None) × Plain_notes xs

abbrev pub Plain_tail : List Note → Type 0
Plain_tail [] = Unit {0}
Plain_tail (x ∷ xs) = Plain_notes xs

abbrev pub Plain_turn : Turn State Note → Type 0
Plain_turn stops = Unit {0}
Plain_turn (goes k es t) = Plain_tail es

plain_done : (s : Store) (es : List Entry) → Plain_notes (done_notes s es)
plain_done s [] = (refl, tt)
plain_done s (e ∷ es) = tt

tail_of : (xs : List Note) → Plain_notes xs → Plain_tail xs
tail_of [] h = tt
tail_of (x ∷ xs) h = h.1

plain_back : (k : ℕ) (task : Task) (results : List Value) (s : Store) (l : Left) → Plain_turn (task_back k task results s l)
plain_back k the_start results s l = tail_of (done_notes s l.entries) (plain_done s l.entries)
plain_back k (an_entry e) results s l = plain_done s l.entries

plain_go_on : (k : ℕ) (x : Note) (said : Said) (s : Store) (l : Left) (w : Asker) → Plain_turn (go_on k x said s l w)
plain_go_on k x (S.Value v) s l (inside task c) = (refl, tt)
plain_go_on k x (S.Value v) s l (outermost old) = (refl, plain_done s l.entries)
plain_go_on k x S.Trap s l w = (refl, (refl, tt))

plain_tested : (m : Module) (k import : ℕ) (args : List Value) (w : Asker) (l : Left) (a : Answer) (o : Option End) → Plain_turn (tested m k import args w l a o)
plain_tested m k import args w l a (Some e) = (refl, tt)
plain_tested m k import args w l a None = plain_go_on k (call_note import args (store_at w) (stack_at m w) (pause_of a.ticks)) a.said (poked (store_at w) a.pokes) l w

plain_asked : (m : Module) (plan : Plan) (k import : ℕ) (args : List Value) (w : Asker) (l : Left) (os : List Outcome) → Plain_turn (asked m plan k import args w l os)
plain_asked m plan k import args w l [] = tt
plain_asked m plan k import args w l (refused e ∷ os) = (refl, tt)
plain_asked m plan k import args w l (given a ∷ os) = plain_tested m k import args w (with_outcomes l os) a
    (fault_of (func_type_at m import).results (length (store_at w).memory) plan (in_start w) import a)

plain_step : (m : Module) (plan : Plan) (task : Task) (l : Left) (o : Next) → Plain_turn (by_step m plan task l o)
plain_step m plan task l (steps k d) = tt
plain_step m plan task l (asks k import args d) = plain_asked m plan k import args (inside task d) l l.outcomes
plain_step m plan task l (returns k results s) = plain_back k task results s l
plain_step m plan task l (traps k t s) = tt
plain_step m plan task l stuck = tt

plain_enters : (e : Entry) (s : Store) (l : Left) (o : Option Func) → Plain_turn (enters e s l o)
plain_enters e s l None = tt
plain_enters e s l (Some f) = tt

plain_next : (m : Module) (s : Store) (l : Left) (es : List Entry) → Plain_turn (enter_next m s l es)
plain_next m s l [] = tt
plain_next m s l (e ∷ es) = plain_enters e s (record { number = l.number; entries = es; outcomes = l.outcomes }) (defined_at m e.func)

plain_start : (m : Module) (plan : Plan) (x : ℕ) (s : Store) (l : Left) (o : Option Func) → Plain_turn (start_called m plan x s l o)
plain_start m plan x s l (Some f) = tt
plain_start m plan x s l None = by_import (nat_lt x (func_imports m))
  where
    by_import : (b : Bool) → Plain_turn (if b then asked m plan 0 x [] (outermost s) l l.outcomes else stops)
    by_import true = plain_asked m plan 0 x [] (outermost s) l l.outcomes
    by_import false = tt

pub plain_blocking : (m : Module) (plan : Plan) (s : State) → Plain_turn (blocking m plan s)
plain_blocking m plan (between s l) = plain_next m s l l.entries
plain_blocking m plan (begins x s l) = plain_start m plan x s l (defined_at m x)
plain_blocking m plan (runs task c l) = plain_step m plan task l (step m c)
plain_blocking m plan (halts s) = tt

module _ (room fit : List Suspended → ℕ) (len : ℕ) (m : Module) (plan : Plan) where
  abbrev sh : List Note → List Note
  sh = shown room fit len

  abbrev nb : State → Turn State Note
  nb = blocking m plan

  abbrev ne : State → Turn State Note
  ne = blocking_shown room fit len m plan

  shown_plain : (xs ys : List Note) → Plain_notes xs → sh (xs ++ ys) ≡ xs ++ sh ys
  shown_plain [] ys h = refl
  shown_plain (x ∷ xs) ys h = ap (λ o. shown_at room fit len x o (sh (xs ++ ys))) h.0 ∙ ap (λ r. x ∷ r) (shown_plain xs ys h.1)

  halted : (n : ℕ) (s : Store) → (run ne n (halts s)).events ≡ []
  halted n s = ap (λ r. r.events) (no_move State Note ne n (halts s) refl)

  pub shown_run : (fuel n : ℕ) (s : State) → n ≤ fuel → (run ne n s).events ≡ sh (run nb n s).events
  shown_run zero n s le = let z : n ≡ 0 = omega arith in ap (λ k. (run ne k s).events) z ∙ sym (ap (λ k. sh (run nb k s).events) z)
  shown_run (suc fuel) n s le = by_turn (λ n' s' h. shown_run fuel n' s' h) (nb s) refl (plain_blocking m plan s)
    where
      by_turn : ((n' : ℕ) (s' : State) → n' ≤ fuel → (run ne n' s').events ≡ sh (run nb n' s').events) → (o : Turn State Note) → nb s ≡ o → Plain_turn o → (run ne n s).events ≡ sh (run nb n s).events
      by_turn ih stops e h = ap (λ r. r.events) (no_move State Note ne n s (ap (shown_move room fit len) e)) ∙ sym (ap (λ r. sh r.events) (no_move State Note nb n s e))
      by_turn ih (goes k es t) e h =
          ⊎_elim
          (λ lt.
          ap (λ r. r.events) (few k es t e (omega arith)) ∙ sym (ap (λ r. sh r.events) (too_dear State Note nb k n es s t e (omega arith))))
          (λ ge.
          let z : n ≡ suc (k + (n - suc k)) = omega arith in
          let eb : (run nb n s).events ≡ es ++ (run nb (n - suc k) t).events = ap (λ j. (run nb j s).events) z ∙ ap (λ r. r.events) (one_move State Note nb k (n - suc k) es s t e) in
          by_events es e h z eb (ih (n - suc k) t (omega arith)))
          (cases_lt n (suc k))
        where
          still : Ran State Note
          still = record { events = []; last = s }

          few : (k : ℕ) (es : List Note) (t : State) → nb s ≡ goes k es t → n ≤ k → run ne n s ≡ record { events = []; last = s }
          few k [] t e le = too_dear State Note ne k n [] s t (ap (shown_move room fit len) e) le
          few k (x ∷ xs) t e le = by_pause x.pause refl
            where
              by_pause : (o : Option ℕ) → x.pause ≡ o → run ne n s ≡ record { events = []; last = s }
              by_pause None q = too_dear State Note ne k n (x ∷ xs) s t (ap (shown_move room fit len) e ∙ ap (pause_shown room fit len k x xs t) q) le
              by_pause (Some ticks) q = by_room (nat_lt len (room x.stack)) refl
                where
                  mv : ne s ≡ pause_shown room fit len k x xs t (Some ticks)
                  mv = ap (shown_move room fit len) e ∙ ap (pause_shown room fit len k x xs t) q

                  by_room : (b : Bool) → nat_lt len (room x.stack) ≡ b → run ne n s ≡ record { events = []; last = s }
                  by_room true b = too_dear State Note ne k n (x ∷ trap_note (fit x.stack) len x.store ∷ []) s (halts x.store) (mv
                      ∙ ap (λ b. if b then goes k (x ∷ trap_note (fit x.stack) len x.store ∷ []) (halts x.store) else goes k (x ∷ pause_note ticks (room x.stack) x.store x.stack ∷ xs) t) b)
                      le
                  by_room false b = too_dear State Note ne k n (x ∷ pause_note ticks (room x.stack) x.store x.stack ∷ xs) s t (mv
                      ∙ ap (λ b. if b then goes k (x ∷ trap_note (fit x.stack) len x.store ∷ []) (halts x.store) else goes k (x ∷ pause_note ticks (room x.stack) x.store x.stack ∷ xs) t) b)
                      le

          -- a paid move of the shown machine
          paid : (fs : List Note) (u : State) → ne s ≡ goes k fs u → n ≡ suc (k + (n - suc k)) → (run ne n s).events ≡ fs ++ (run ne (n - suc k) u).events
          paid fs u mv z = ap (λ j. (run ne j s).events) z ∙ ap (λ r. r.events) (one_move State Note ne k (n - suc k) fs s u mv)

          by_events : (es : List Note) → nb s ≡ goes k es t → Plain_tail es → n ≡ suc (k + (n - suc k)) → (run nb n s).events ≡ es ++ (run nb (n - suc k) t).events
              → (run ne (n - suc k) t).events ≡ sh (run nb (n - suc k) t).events → (run ne n s).events ≡ sh (run nb n s).events
          by_events [] e h z eb ih = paid [] t (ap (shown_move room fit len) e) z ∙ ih ∙ sym (ap sh eb)
          by_events (x ∷ xs) e h z eb ih = by_pause x.pause refl
            where
              rest : List Note
              rest = (run nb (n - suc k) t).events

              by_pause : (o : Option ℕ) → x.pause ≡ o → (run ne n s).events ≡ sh (run nb n s).events
              by_pause None q =
                  paid (x ∷ xs) t (ap (shown_move room fit len) e ∙ ap (pause_shown room fit len k x xs t) q) z
                  ∙ ap (λ r. x ∷ xs ++ r) ih
                  ∙ ap (λ r. x ∷ r) (sym (shown_plain xs rest h))
                  ∙ sym (ap sh eb ∙ ap (λ o. shown_at room fit len x o (sh (xs ++ rest))) q)
              by_pause (Some ticks) q = by_room (nat_lt len (room x.stack)) refl
                where
                  mv : ne s ≡ pause_shown room fit len k x xs t (Some ticks)
                  mv = ap (shown_move room fit len) e ∙ ap (pause_shown room fit len k x xs t) q

                  cut_note : List Note
                  cut_note = trap_note (fit x.stack) len x.store ∷ []

                  old_is : sh (run nb n s).events ≡ shown_at room fit len x (Some ticks) (sh (xs ++ rest))
                  old_is = ap sh eb ∙ ap (λ o. shown_at room fit len x o (sh (xs ++ rest))) q

                  by_room : (b : Bool) → nat_lt len (room x.stack) ≡ b → (run ne n s).events ≡ sh (run nb n s).events
                  by_room true b =
                      paid (x ∷ cut_note) (halts x.store) (mv ∙ ap (λ b. if b then goes k (x ∷ cut_note) (halts x.store) else goes k (x ∷ pause_note ticks (room x.stack) x.store x.stack ∷ xs) t) b) z
                      ∙ ap (λ r. x ∷ cut_note ++ r) (halted (n - suc k) x.store)
                      ∙ sym (old_is ∙ ap (λ b. x ∷ (if b then cut_note else pause_note ticks (room x.stack) x.store x.stack ∷ sh (xs ++ rest))) b)
                  by_room false b =
                      paid (x ∷ pause_note ticks (room x.stack) x.store x.stack ∷ xs) t (mv
                      ∙ ap (λ b. if b then goes k (x ∷ cut_note) (halts x.store) else goes k (x ∷ pause_note ticks (room x.stack) x.store x.stack ∷ xs) t) b) z
                      ∙ ap (λ r. x ∷ pause_note ticks (room x.stack) x.store x.stack ∷ xs ++ r) ih
                      ∙ ap (λ r. x ∷ pause_note ticks (room x.stack) x.store x.stack ∷ r) (sym (shown_plain xs rest h))
                      ∙ sym (old_is ∙ ap (λ b. x ∷ (if b then cut_note else pause_note ticks (room x.stack) x.store x.stack ∷ sh (xs ++ rest))) b)
