-- What a run under the protocol still tells, and that until it pauses at a receive that isn't answered it doesn't read the answer.
use Rattle.std.proofs.Common.{subst, arith, ◌≡◌, ◌≤◌, ◌-◌, ℕ, zero, suc, List, [], ◌∷◌, ◌++◌, length, Option, Some, None, Bool, true, false, refl, sym, ap, ◌∙◌, append_assoc}
use Rattle.std.specs.Prelude.{nat_lt, if◌then◌else◌}
use Rattle.wa_types.specs.declared.values.Value.{Value}
use Rattle.wa_types.specs.declared.values.Value.TheVariants as V
use Rattle.wa_types.specs.declared.values.ValType.{ValType}
use Rattle.wa_types.specs.declared.values.ValType.TheVariants as T
use Rattle.wa_types.specs.Syntax.{Func, Module}
use Rattle.wa_types.specs.Modules.{func_type_at, defined_at}
use Rattle.wa_model.specs.Machine.{Turn, stops, goes, Ran, after, still, pay, run_with}
use Rattle.wa_model.specs.Store.{Store}
use Rattle.wa_model.specs.Configuration.{Configuration}
use Rattle.wa_model.specs.Step.{Next, steps, asks, returns, traps, stuck, entered, step}
use Rattle.wa_model.specs.declared.answers.Said.TheVariants as S
use Rattle.wa_model.specs.declared.events.End.{End}
use Rattle.wa_model.specs.declared.events.End.TheVariants.{StepsSpent, BadAnswer}
use Rattle.wa_model.specs.Outside.{Call, Answer, called, paused, ended}
use Rattle.wa_model.specs.Plan.{Entry, Plan, Outcome}
use Rattle.wa_model.specs.Blocking.{Note, note, call_note, or_else, bad_pause, is_unlisted, fault_of, the_start, an_entry, Left, with_outcomes, Asker, inside, outermost, store_at, stack_at, in_start}
use Rattle.wa_model.specs.Blocking.{resumed}
use Rattle.wa_model.specs.Protocol.{Exports, unwinds, rewinds, Then, give_zero, test_unwound, pause_there, call_again, test_rewound, give_answer, Held, busy, calling, aside, entering, over, broken, zeros_of}
use Rattle.wa_model.specs.Protocol.{used_of, with_words, held_tested, held_asked, busy_step, is_state, aside_back, aside_step, aside_called, protocol}
use Rattle.world_model.specs.World.{unless_over}
use Rattle.host_laws.specs.Stretch.{meeting as with_more}
use Rattle.mail_laws.specs.MailWorld.{is_pause}
use Rattle.mail_laws.specs.Mailboxes.{mailed}
use Rattle.mail_laws.specs.Replays.{wrong_in, wrong_value}
use Rattle.mail_laws.proofs.OpenMoves.{IsTame, TameEnd, fault_tame, NotOver}

-- the answer of a receive at an empty mailbox
abbrev pub answer_of : ℕ → Answer
answer_of v = record { said = S.Value (Some (V.I32 v)); pokes = []; ticks = 1 }

-- a pause that unwinds, behind which this import's call will be answered
pub data Unwinding : Type 0 where
  in_code : (e : Entry) → (i : ℕ) → (c : Configuration) → (l : Left) → Unwinding
  at_export : (e : Entry) → (i : ℕ) → (s : Store) → (f : ℕ) → (args : List Value) → (th : Then) → (l : Left) → Unwinding
  in_export : (e : Entry) → (i : ℕ) → (c : Configuration) → (th : Then) → (l : Left) → Unwinding

-- by this
abbrev pub unwound : Unwinding → ℕ → Held
unwound (in_code e i c l) v = busy (unwinds e i (answer_of v)) c l
unwound (at_export e i s f args th l) v = calling (unwinds e i (answer_of v)) s f args th l
unwound (in_export e i c th l) v = aside (unwinds e i (answer_of v)) c th l

abbrev store_in : Unwinding → Store
store_in (in_code e i c l) = c.store
store_in (at_export e i s f args th l) = s
store_in (in_export e i c th l) = c.store

unwound_spent : (n v : ℕ) (more : List Outcome) (u : Unwinding) → unless_over n (with_more more (unwound u v)) ≡ note (ended (StepsSpent n)) (store_in u) ∷ []
unwound_spent n v more (in_code e i c l) = refl
unwound_spent n v more (at_export e i s f args th l) = refl
unwound_spent n v more (in_export e i c th l) = refl

-- a pause that is rewound, behind which the call will be answered
pub data Rewinding : Type 0 where
  re_code : (e : Entry) → (i : ℕ) → (sp : Store) → (c : Configuration) → (l : Left) → Rewinding
  re_call : (e : Entry) → (i : ℕ) → (sp s : Store) → (f : ℕ) → (args : List Value) → (th : Then) → (l : Left) → Rewinding
  re_export : (e : Entry) → (i : ℕ) → (sp : Store) → (c : Configuration) → (th : Then) → (l : Left) → Rewinding
  re_entry : (e : Entry) → (i : ℕ) → (sp : Store) → (again : Entry) → (s : Store) → (l : Left) → Rewinding

-- by this
abbrev pub rewound : Rewinding → ℕ → Held
rewound (re_code e i sp c l) v = busy (rewinds e i (answer_of v) sp) c l
rewound (re_call e i sp s f args th l) v = calling (rewinds e i (answer_of v) sp) s f args th l
rewound (re_export e i sp c th l) v = aside (rewinds e i (answer_of v) sp) c th l
rewound (re_entry e i sp again s l) v = entering (rewinds e i (answer_of v) sp) again s l

rewound_not_over : (r : Rewinding) (v : ℕ) → NotOver (rewound r v)
rewound_not_over (re_code e i sp c l) v = tt
rewound_not_over (re_call e i sp s f args th l) v = tt
rewound_not_over (re_export e i sp c th l) v = tt
rewound_not_over (re_entry e i sp again s l) v = tt

-- a move of it, for every answer and whatever outcomes are left
pub data Unwinds (f : ℕ → List Outcome → Turn Held Note) : Type 0 where
  u_stops : ((v : ℕ) (more : List Outcome) → f v more ≡ stops) → Unwinds f
  u_on : (k : ℕ) (u : Unwinding) → ((v : ℕ) (more : List Outcome) → f v more ≡ goes k [] (with_more more (unwound u v))) → Unwinds f
  u_ends : (k : ℕ) (x : Note) (s : Store) → IsTame x.event → ((v : ℕ) (more : List Outcome) → f v more ≡ goes k (x ∷ []) (over s)) → Unwinds f
  u_pauses : (k : ℕ) (x : Note) (r : Rewinding) → is_pause x.event ≡ true → ((v : ℕ) (more : List Outcome) → f v more ≡ goes k (x ∷ []) (with_more more (rewound r v))) → Unwinds f

module _ (p : Module) (x : Exports) (plan : Plan) (most : ℕ) where
  abbrev next : Held → Turn Held Note
  next = protocol p x plan

  -- ---- tales

  -- the notes that are to come, with so many moves and steps
  abbrev pub tale : (count n : ℕ) → Held → List Note
  tale count n h = (run_with next count n h).events ++ unless_over most (run_with next count n h).last

  tale_of : Ran Held Note → List Note
  tale_of r = r.events ++ unless_over most r.last

  pub tale_stops : (count n : ℕ) (h : Held) → next h ≡ stops → tale (suc count) n h ≡ unless_over most h
  tale_stops count n h e = ap (λ (o : Turn Held Note). (pay (run_with next count) n h o).events ++ unless_over most (pay (run_with next count) n h o).last) e

  pub tale_dear : (count n : ℕ) (h : Held) (k : ℕ) (es : List Note) (u : Held) → next h ≡ goes k es u → nat_lt k n ≡ false → tale (suc count) n h ≡ unless_over most h
  tale_dear count n h k es u e dear =
      ap (λ (o : Turn Held Note). (pay (run_with next count) n h o).events ++ unless_over most (pay (run_with next count) n h o).last) e
      ∙ ap (λ (b : Bool). (if b then after es (run_with next count (n - suc k) u) else still h).events ++ unless_over most (if b then after es (run_with next count (n - suc k) u) else still h).last) dear

  pub tale_goes : (count n : ℕ) (h : Held) (k : ℕ) (es : List Note) (u : Held) → next h ≡ goes k es u → nat_lt k n ≡ true → tale (suc count) n h ≡ es ++ tale count (n - suc k) u
  tale_goes count n h k es u e paid =
      ap (λ (o : Turn Held Note). (pay (run_with next count) n h o).events ++ unless_over most (pay (run_with next count) n h o).last) e
      ∙ ap (λ (b : Bool). (if b then after es (run_with next count (n - suc k) u) else still h).events ++ unless_over most (if b then after es (run_with next count (n - suc k) u) else still h).last) paid
      ∙ append_assoc es (run_with next count (n - suc k) u).events (unless_over most (run_with next count (n - suc k) u).last)

  pub tale_over : (count n : ℕ) (s : Store) → tale count n (over s) ≡ []
  tale_over zero n s = refl
  tale_over (suc count) n s = refl

  -- ---- unwinding

  code_unwinds : (e : Entry) (i : ℕ) (l : Left) (o : Next) → Unwinds (λ (v : ℕ) (more : List Outcome). busy_step p x plan (unwinds e i (answer_of v)) (with_outcomes l more) o)
  code_unwinds e i l (steps k d) = u_on k (in_code e i d l) (λ v more. refl)
  code_unwinds e i l (asks k import args d) = u_ends k _ _ (refl, refl) (λ v more. refl)
  code_unwinds e i l (returns k results s) = u_on k (at_export e i s x.get_state [] test_unwound l) (λ v more. refl)
  code_unwinds e i l (traps k trap s) = u_ends k _ s (refl, refl) (λ v more. refl)
  code_unwinds e i l stuck = u_stops (λ v more. refl)

  called_unwinds : (e : Entry) (i : ℕ) (s : Store) (f : ℕ) (args : List Value) (th : Then) (l : Left) (o : Option Func)
      → Unwinds (λ (v : ℕ) (more : List Outcome). aside_called (unwinds e i (answer_of v)) s f args th (with_outcomes l more) o)
  called_unwinds e i s f args th l None = u_stops (λ v more. refl)
  called_unwinds e i s f args th l (Some g) = u_on (length args) (in_export e i (entered s [] args f g) th l) (λ v more. refl)

  back_unwinds : (k : ℕ) (e : Entry) (i : ℕ) (th : Then) (l : Left) (results : List Value) (s : Store)
      → Unwinds (λ (v : ℕ) (more : List Outcome). aside_back p x plan k (unwinds e i (answer_of v)) th (with_outcomes l more) results s)
  back_unwinds k e i (give_zero c) l results s = u_on k (in_code e i (resumed c s (zeros_of p i)) l) (λ v more. refl)
  back_unwinds k e i test_unwound l results s = by_state (is_state 1 results)
    where
      by_state : (b : Bool)
          → Unwinds (λ (v : ℕ) (more : List Outcome). if b then goes k [] (calling (unwinds e i (answer_of v)) s x.stop_unwind [] pause_there (with_outcomes l more)) else broken k 2 s)
      by_state true = u_on k (at_export e i s x.stop_unwind [] pause_there l) (λ v more. refl)
      by_state false = u_ends k _ s (refl, refl) (λ v more. refl)
  back_unwinds k e i pause_there l results s =
      u_pauses k (note (paused 1 (used_of s plan.area)) s) (re_call e i s s x.start_rewind (V.I32 plan.area.at ∷ []) call_again l) refl (λ v more. refl)
  back_unwinds k e i call_again l results s = u_stops (λ v more. refl)
  back_unwinds k e i (test_rewound c) l results s = u_stops (λ v more. refl)
  back_unwinds k e i (give_answer c) l results s = u_stops (λ v more. refl)

  export_unwinds : (e : Entry) (i : ℕ) (th : Then) (l : Left) (o : Next) → Unwinds (λ (v : ℕ) (more : List Outcome). aside_step p x plan (unwinds e i (answer_of v)) th (with_outcomes l more) o)
  export_unwinds e i th l (steps k d) = u_on k (in_export e i d th l) (λ v more. refl)
  export_unwinds e i th l (asks k import args d) = u_ends k _ _ (refl, refl) (λ v more. refl)
  export_unwinds e i th l (returns k results s) = back_unwinds k e i th l results s
  export_unwinds e i th l (traps k trap s) = u_ends k _ s (refl, refl) (λ v more. refl)
  export_unwinds e i th l stuck = u_stops (λ v more. refl)

  pub unwinding_moves : (u : Unwinding) → Unwinds (λ (v : ℕ) (more : List Outcome). next (with_more more (unwound u v)))
  unwinding_moves (in_code e i c l) = code_unwinds e i l (step p c)
  unwinding_moves (at_export e i s f args th l) = called_unwinds e i s f args th l (defined_at p f)
  unwinding_moves (in_export e i c th l) = export_unwinds e i th l (step p c)

  -- What it tells for every answer, and whatever outcomes are left: an end, or its pause and what the answer leads to.
  pub data Unread (f : ℕ → List Outcome → List Note) (limit : ℕ) : Type 0 where
    then_ends : (y : Note) → IsTame y.event → ((v : ℕ) (more : List Outcome) → f v more ≡ y ∷ []) → Unread f limit
    then_pauses : (y : Note) (r : ℕ → Held) (count n : ℕ) → is_pause y.event ≡ true → ((v : ℕ) → NotOver (r v)) → count ≤ limit
        → ((v : ℕ) (more : List Outcome) → f v more ≡ y ∷ tale count n (with_more more (r v))) → Unread f limit

  pub unread : (count n : ℕ) (u : Unwinding) → Unread (λ (v : ℕ) (more : List Outcome). tale count n (with_more more (unwound u v))) count
  unread zero n u = then_ends (note (ended (StepsSpent most)) (store_in u)) (refl, refl) (λ v more. unwound_spent most v more u)
  unread (suc count) n u = by_move (λ m w. unread count m w) (unwinding_moves u)
    where
      spent : ((v : ℕ) (more : List Outcome) → tale (suc count) n (with_more more (unwound u v)) ≡ unless_over most (with_more more (unwound u v)))
          → Unread (λ (v : ℕ) (more : List Outcome). tale (suc count) n (with_more more (unwound u v))) (suc count)
      spent is = then_ends (note (ended (StepsSpent most)) (store_in u)) (refl, refl) (λ v more. is v more ∙ unwound_spent most v more u)

      on_by : (m : ℕ) (w : Unwinding) → ((v : ℕ) (more : List Outcome) → tale (suc count) n (with_more more (unwound u v)) ≡ tale count m (with_more more (unwound w v)))
          → Unread (λ (v : ℕ) (more : List Outcome). tale count m (with_more more (unwound w v))) count
          → Unread (λ (v : ℕ) (more : List Outcome). tale (suc count) n (with_more more (unwound u v))) (suc count)
      on_by m w is (then_ends y e f) = then_ends y e (λ v more. is v more ∙ f v more)
      on_by m w is (then_pauses y r c2 n2 e o le f) = then_pauses y r c2 n2 e o (omega (arith, le)) (λ v more. is v more ∙ f v more)

      by_move : ((m : ℕ) (w : Unwinding) → Unread (λ (v : ℕ) (more : List Outcome). tale count m (with_more more (unwound w v))) count)
          → Unwinds (λ (v : ℕ) (more : List Outcome). next (with_more more (unwound u v)))
          → Unread (λ (v : ℕ) (more : List Outcome). tale (suc count) n (with_more more (unwound u v))) (suc count)
      by_move on (u_stops f) = spent (λ v more. tale_stops count n (with_more more (unwound u v)) (f v more))
      by_move on (u_on k w f) = by_cost (nat_lt k n) refl
        where
          by_cost : (b : Bool) → nat_lt k n ≡ b → Unread (λ (v : ℕ) (more : List Outcome). tale (suc count) n (with_more more (unwound u v))) (suc count)
          by_cost true paid = on_by (n - suc k) w (λ v more. tale_goes count n (with_more more (unwound u v)) k [] (with_more more (unwound w v)) (f v more) paid) (on (n - suc k) w)
          by_cost false dear = spent (λ v more. tale_dear count n (with_more more (unwound u v)) k [] (with_more more (unwound w v)) (f v more) dear)
      by_move on (u_ends k y s e f) = by_cost (nat_lt k n) refl
        where
          by_cost : (b : Bool) → nat_lt k n ≡ b → Unread (λ (v : ℕ) (more : List Outcome). tale (suc count) n (with_more more (unwound u v))) (suc count)
          by_cost true paid =
              then_ends y e (λ v more. tale_goes count n (with_more more (unwound u v)) k (y ∷ []) (over s) (f v more) paid
              ∙ ap (λ (l : List Note). y ∷ l) (tale_over count (n - suc k) s))
          by_cost false dear = spent (λ v more. tale_dear count n (with_more more (unwound u v)) k (y ∷ []) (over s) (f v more) dear)
      by_move on (u_pauses k y r e f) = by_cost (nat_lt k n) refl
        where
          by_cost : (b : Bool) → nat_lt k n ≡ b → Unread (λ (v : ℕ) (more : List Outcome). tale (suc count) n (with_more more (unwound u v))) (suc count)
          by_cost true paid =
              then_pauses y (rewound r) count (n - suc k) e (rewound_not_over r) (omega arith)
              (λ v more. tale_goes count n (with_more more (unwound u v)) k (y ∷ []) (with_more more (rewound r v)) (f v more) paid)
          by_cost false dear = spent (λ v more. tale_dear count n (with_more more (unwound u v)) k (y ∷ []) (with_more more (rewound r v)) (f v more) dear)

  -- ---- a call that makes such a receive

  -- it ends for another value too, by the same note where both tell one value of a wrong type, or none
  pub record EndsToo (f : ℕ → List Outcome → Turn Held Note) (k : ℕ) (y z : Note) (s : Store) (v : ℕ) : Type 0 where
    pub other : Note
    pub made : (more : List Outcome) → f v more ≡ goes k (y ∷ other ∷ []) (over s)
    pub same : wrong_in other.event ≡ wrong_in z.event → other ≡ z

  -- for this value where it ends, and else for every one
  pub data Receives (a : ℕ) (c : Call) (f : ℕ → List Outcome → Turn Held Note) : Type 0 where
    r_stops : ((more : List Outcome) → f a more ≡ stops) → Receives a c f
    r_ends : (k : ℕ) (y z : Note) (s : Store) → y.event ≡ called c → IsTame z.event → ((more : List Outcome) → f a more ≡ goes k (y ∷ z ∷ []) (over s))
        → ((v : ℕ) → EndsToo f k y z s v) → Receives a c f
    r_unwinds : (k : ℕ) (y : Note) (u : Unwinding) → y.event ≡ called c → ((v : ℕ) (more : List Outcome) → f v more ≡ goes k (y ∷ []) (with_more more (unwound u v))) → Receives a c f

  same_fault : (results : List ValType) (size : ℕ) (start : Bool) (import a v : ℕ) → fault_of results size plan start import (answer_of a) ≡ None
      → fault_of results size plan start import (answer_of v) ≡ None
  same_fault [] size start import a v e = absurd cc
  same_fault (t ∷ []) size start import a v e = by_type (Rattle.wa_types.specs.Encoding.same_type t T.I32) e
    where
      by_type : (b : Bool) → or_else (if b then None else Some (BadAnswer import (Some (V.I32 a)))) (bad_pause start (is_unlisted plan.listed import) import 1) ≡ None
          → or_else (if b then None else Some (BadAnswer import (Some (V.I32 v)))) (bad_pause start (is_unlisted plan.listed import) import 1) ≡ None
      by_type true h = h
      by_type false h = absurd cc
  same_fault (t ∷ t2 ∷ ts) size start import a v e = absurd cc

  end_too : (results : List ValType) (size : ℕ) (start : Bool) (import a v : ℕ) (e : End) → fault_of results size plan start import (answer_of a) ≡ Some e
      → (d : End) × (fault_of results size plan start import (answer_of v) ≡ Some d) × (wrong_value d ≡ wrong_value e → d ≡ e)
  end_too results size start import a v e is = by_results results is
    where
      one : (d : End) → Some d ≡ Some e → d ≡ e
      one d h = cc

      number : (x y : Option Value) → Some x ≡ Some y → x ≡ y
      number x y h = cc

      wrong : Some (BadAnswer import (Some (V.I32 a))) ≡ Some e → wrong_value (BadAnswer import (Some (V.I32 v))) ≡ wrong_value e → BadAnswer import (Some (V.I32 v)) ≡ e
      wrong h q =
          let d = one (BadAnswer import (Some (V.I32 a))) h in
          ap (λ (x : Option Value). BadAnswer import x) (number (Some (V.I32 v)) (Some (V.I32 a)) (q ∙ ap wrong_value (sym d))) ∙ d

      by_type : (b : Bool) → or_else (if b then None else Some (BadAnswer import (Some (V.I32 a)))) (bad_pause start (is_unlisted plan.listed import) import 1) ≡ Some e
          → (d : End) × (or_else (if b then None else Some (BadAnswer import (Some (V.I32 v)))) (bad_pause start (is_unlisted plan.listed import) import 1) ≡ Some d)
          × (wrong_value d ≡ wrong_value e → d ≡ e)
      by_type true h = (e, h, λ q. refl)
      by_type false h = (BadAnswer import (Some (V.I32 v)), refl, λ q. wrong h q)

      by_results : (ts : List ValType) → fault_of ts size plan start import (answer_of a) ≡ Some e
          → (d : End) × (fault_of ts size plan start import (answer_of v) ≡ Some d) × (wrong_value d ≡ wrong_value e → d ≡ e)
      by_results [] h = (BadAnswer import (Some (V.I32 v)), refl, λ q. wrong h q)
      by_results (t ∷ []) h = by_type (Rattle.wa_types.specs.Encoding.same_type t T.I32) h
      by_results (t ∷ t2 ∷ ts) h = (BadAnswer import (Some (V.I32 v)), refl, λ q. wrong h q)

  pub receives : (a k import : ℕ) (args : List Value) (who : Asker) (l : Left)
      → Receives a (record { import = import; args = args }) (λ (v : ℕ) (more : List Outcome). held_asked p x plan k import args who l (mailed (Some (V.I32 v)) 1 ∷ more))
  receives a k import args who l = by_fault (fault a) refl
    where
      fault : ℕ → Option End
      fault v = fault_of (func_type_at p import).results (length (store_at who).memory) plan (in_start who) import (answer_of v)

      f : ℕ → List Outcome → Turn Held Note
      f v more = held_asked p x plan k import args who l (mailed (Some (V.I32 v)) 1 ∷ more)

      tested : (v : ℕ) (more : List Outcome) (o : Option End) → fault v ≡ o → f v more ≡ held_tested p x plan k import args who (with_outcomes l more) (answer_of v) o (Some 1)
      tested v more o e = ap (λ (q : Option End). held_tested p x plan k import args who (with_outcomes l more) (answer_of v) q (Some 1)) e

      by_who : (w : Asker) → ((v : ℕ) (more : List Outcome) → f v more ≡ held_tested p x plan k import args w (with_outcomes l more) (answer_of v) None (Some 1))
          → Receives a (record { import = import; args = args }) f
      by_who (inside (an_entry e) c) t =
          r_unwinds k (call_note import args c.store (stack_at p (inside (an_entry e) c)) (Some 1))
          (at_export e import (with_words c.store plan.area) x.start_unwind (V.I32 plan.area.at ∷ []) (give_zero c) l) refl t
      by_who (inside the_start c) t = r_stops (λ more. t a more)
      by_who (outermost s) t = r_stops (λ more. t a more)

      by_fault : (o : Option End) → fault a ≡ o → Receives a (record { import = import; args = args }) f
      by_fault (Some e) is =
          let y : Note = call_note import args (store_at who) (stack_at p who) None in r_ends k y (note (ended e) y.store) y.store refl
          (refl, subst TameEnd is (fault_tame (func_type_at p import).results (length (store_at who).memory) plan (in_start who) import (answer_of a))) (λ more. tested a more (Some e) is)
          (λ v.
          let d = end_too (func_type_at p import).results (length (store_at who).memory) (in_start who) import a v e is in
          record { other = note (ended d.0) y.store; made = λ more. tested v more (Some d.0) d.1; same = λ q. ap (λ (x : End). note (ended x) y.store) (d.2 q) })
      by_fault None is =
          by_who who (λ v more. tested v more None (same_fault (func_type_at p import).results (length (store_at who).memory) (in_start who) import a v is))
