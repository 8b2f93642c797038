-- Watched moves: what the protocol shows inside them, and how they are made.
use Rattle.std.proofs.Common.{◌≡◌, ℕ, suc, ◌+◌, ◌-◌, ◌≤◌, List, [], ◌∷◌, ◌++◌, length, Option, Some, None, Bool, true, false, refl, sym, ap, ◌∙◌, subst, arith, ⊎_elim}
use Rattle.std.specs.Prelude.{nat_eq, if◌then◌else◌}
use Rattle.std.proofs.lemmas.Bool.{cases_lt}
use Rattle.wa_types.specs.declared.values.Value.{Value}
use Rattle.wa_types.specs.Syntax.{Func, Module}
use Rattle.wa_types.specs.Modules.{defined_at}
use Rattle.wa_model.specs.declared.answers.Area.{Area}
use Rattle.wa_model.specs.declared.answers.Said.{Said}
use Rattle.wa_model.specs.declared.answers.Said.TheVariants as S
use Rattle.wa_model.specs.Outside.{Answer}
use Rattle.wa_model.specs.Machine.{Turn, goes, Ran, after, run, Leads, stays, moves}
use Rattle.wa_model.specs.Store.{Store}
use Rattle.wa_model.specs.Configuration.{Configuration}
use Rattle.wa_model.specs.Step.{Next, steps, asks, returns, traps, stuck, entered, step}
use Rattle.wa_model.specs.Plan.{Entry, Plan}
use Rattle.wa_model.specs.Blocking.{Note, poked, resumed, Left}
use Rattle.wa_model.specs.Expected.{SameEnd}
use Rattle.run_theory.specs.Alone.{alone_next, alone}
use Rattle.wa_model.specs.Protocol.{Exports, Phase, is_running, unwinds, rewinds, Then, give_zero, test_unwound, pause_there, call_again, test_rewound, give_answer, Held, free, starting, busy, calling, aside, entering, over, broken, held_resumed, is_state, zeros_of, busy_step, aside_back, aside_step, busy_enters, aside_called, protocol, store_held}
use Rattle.run_theory.proofs.Runs.{one_move, too_dear, leads_on}
use Rattle.frame_laws.specs.Stretches.{GoesKeeping}
use Rattle.guard_runs.specs.UnseenMoves.{kept_held, turn_if, watched, GoesUnseen, EachInstant}
use Rattle.run_theory.specs.Keeping.{keeps}
use Rattle.run_laws.proofs.Keeping.{same_refl, same_on, NextKeeps, step_keeps}

module _ (g : ℕ) (area : Area) (p : Module) (x : Exports) (plan : Plan) where
  abbrev Same : Store → Store → Type 0
  Same s t = SameEnd g area s t

  next_keeps : (c : Configuration) → keeps g area c ≡ true → NextKeeps g area c.store (step p c)
  next_keeps c h = step_keeps g area p c.store c.here.func c.under c.here.locals c.here.operands c.here.labels c.here.code h

  -- a move without an event that leaves the store, or what comes next does
  abbrev no_notes : List Note
  no_notes = []

  to_held : (s t : Store) (h b : Held) (k k2 : ℕ) → store_held h ≡ t → Same s t → goes k2 no_notes h ≡ goes k no_notes b → Same s (store_held b)
  to_held s t h b k k2 e st q =
      let z : h ≡ b = cc in
      subst (λ u. Same s u) (sym e ∙ ap store_held z) st

  busy_unwinds : (e : Entry) (i : ℕ) (a : Answer) (l : Left) (s : Store) (o : Next) (k : ℕ) (b : Held) → NextKeeps g area s o
      → busy_step p x plan (unwinds e i a) l o ≡ goes k [] b → Same s (store_held b)
  busy_unwinds e i a l s (steps j d) k b h q = to_held s d.store (busy (unwinds e i a) d l) b k j refl h q
  busy_unwinds e i a l s (asks j im args d) k b h q = cc
  busy_unwinds e i a l s (returns j vs t) k b h q = to_held s t (calling (unwinds e i a) t x.get_state [] test_unwound l) b k j refl h q
  busy_unwinds e i a l s (traps j tr t) k b h q = cc
  busy_unwinds e i a l s stuck k b h q = cc

  busy_rewinds : (e : Entry) (i : ℕ) (a : Answer) (sp : Store) (l : Left) (s : Store) (o : Next) (k : ℕ) (b : Held) → NextKeeps g area s o
      → busy_step p x plan (rewinds e i a sp) l o ≡ goes k [] b → Same s (store_held b)
  busy_rewinds e i a sp l s (steps j d) k b h q = to_held s d.store (busy (rewinds e i a sp) d l) b k j refl h q
  busy_rewinds e i a sp l s (asks j im args d) k b h q = by_import (nat_eq im i) q
    where
      by_import : (t : Bool) → (if t then goes j [] (calling (rewinds e i a sp) d.store x.get_state [] (test_rewound d) l) else broken j 3 d.store) ≡ goes k [] b
          → Same s (store_held b)
      by_import true q = to_held s d.store (calling (rewinds e i a sp) d.store x.get_state [] (test_rewound d) l) b k j refl h q
      by_import false q = cc
  busy_rewinds e i a sp l s (returns j vs t) k b h q = cc
  busy_rewinds e i a sp l s (traps j tr t) k b h q = cc
  busy_rewinds e i a sp l s stuck k b h q = cc

  -- what is said is told in the move that gives it
  resumed_tells : (j : ℕ) (e : Entry) (said : Said) (sp : Store) (c : Configuration) (l : Left) (t : Store) (k : ℕ) (b : Held) → held_resumed j e said sp c l t ≡ goes k [] b → ⊥
  resumed_tells j e (S.Value v) sp c l t k b q = cc
  resumed_tells j e S.Trap sp c l t k b q = cc

  back_keeps : (ph : Phase) (th : Then) (l : Left) (vs : List Value) (s t : Store) (j k : ℕ) (b : Held) → Same s t → aside_back p x plan j ph th l vs t ≡ goes k [] b
      → Same s (store_held b)
  back_keeps (unwinds e i a) (give_zero c) l vs s t j k b h q = to_held s t (busy (unwinds e i a) (resumed c t (zeros_of p i)) l) b k j refl h q
  back_keeps (unwinds e i a) test_unwound l vs s t j k b h q = by_state (is_state 1 vs) q
    where
      by_state : (z : Bool) → (if z then goes j [] (calling (unwinds e i a) t x.stop_unwind [] pause_there l) else broken j 2 t) ≡ goes k [] b → Same s (store_held b)
      by_state true q = to_held s t (calling (unwinds e i a) t x.stop_unwind [] pause_there l) b k j refl h q
      by_state false q = cc
  back_keeps (unwinds e i a) pause_there l vs s t j k b h q = cc
  back_keeps (rewinds e i a sp) call_again l vs s t j k b h q = to_held s t (entering (rewinds e i a sp) e t l) b k j refl h q
  back_keeps (rewinds e i a sp) (test_rewound c) l vs s t j k b h q = by_state (is_state 2 vs) q
    where
      by_state : (z : Bool) → (if z then goes j [] (calling (rewinds e i a sp) t x.stop_rewind [] (give_answer c) l) else broken j 4 t) ≡ goes k [] b → Same s (store_held b)
      by_state true q = to_held s t (calling (rewinds e i a sp) t x.stop_rewind [] (give_answer c) l) b k j refl h q
      by_state false q = cc
  back_keeps (rewinds e i a sp) (give_answer c) l vs s t j k b h q = absurd (resumed_tells j e a.said sp c l (poked t a.pokes) k b q)
  back_keeps _ _ l vs s t j k b h q = cc

  aside_keeps : (ph : Phase) (th : Then) (l : Left) (s : Store) (o : Next) (k : ℕ) (b : Held) → NextKeeps g area s o → aside_step p x plan ph th l o ≡ goes k [] b
      → Same s (store_held b)
  aside_keeps ph th l s (steps j d) k b h q = to_held s d.store (aside ph d th l) b k j refl h q
  aside_keeps ph th l s (asks j im args d) k b h q = cc
  aside_keeps ph th l s (returns j vs t) k b h q = back_keeps ph th l vs s t j k b h q
  aside_keeps ph th l s (traps j tr t) k b h q = cc
  aside_keeps ph th l s stuck k b h q = cc

  called_keeps : (ph : Phase) (s : Store) (f : ℕ) (args : List Value) (th : Then) (l : Left) (o : Option Func) (k : ℕ) (b : Held) → aside_called ph s f args th l o ≡ goes k [] b
      → Same s (store_held b)
  called_keeps ph s f args th l None k b q = cc
  called_keeps ph s f args th l (Some fn) k b q = to_held s s (aside ph (entered s [] args f fn) th l) b k (length args) refl (same_refl g area s) q

  enters_keeps : (ph : Phase) (e : Entry) (s : Store) (l : Left) (o : Option Func) (k : ℕ) (b : Held) → busy_enters ph e s l o ≡ goes k [] b → Same s (store_held b)
  enters_keeps ph e s l None k b q = cc
  enters_keeps ph e s l (Some fn) k b q = to_held s s (busy ph (entered s [] e.args e.func fn) l) b k (length e.args) refl (same_refl g area s) q

  move_keeps : (a : Held) (k : ℕ) (b : Held) → kept_held g area a ≡ true → protocol p x plan a ≡ goes k [] b → Same (store_held a) (store_held b)
  move_keeps (free s l) k b h q = cc
  move_keeps (starting f s l) k b h q = cc
  move_keeps (busy (is_running task) c l) k b h q = cc
  move_keeps (busy (unwinds e i a) c l) k b h q = busy_unwinds e i a l c.store (step p c) k b (next_keeps c h) q
  move_keeps (busy (rewinds e i a sp) c l) k b h q = busy_rewinds e i a sp l c.store (step p c) k b (next_keeps c h) q
  move_keeps (calling ph s f args th l) k b h q = called_keeps ph s f args th l (defined_at p f) k b q
  move_keeps (aside ph c th l) k b h q = aside_keeps ph th l c.store (step p c) k b (next_keeps c h) q
  move_keeps (entering ph e s l) k b h q = enters_keeps ph e s l (defined_at p e.func) k b q
  move_keeps (over s) k b h q = cc

  turned : (b : Bool) (o : Turn Held Note) (k : ℕ) (es : List Note) (d : Held) → turn_if b o ≡ goes k es d → (b ≡ true) × (o ≡ goes k es d)
  turned true o k es d q = (refl, q)
  turned false o k es d q = cc

  nil_left : (xs ys : List Note) → [] ≡ xs ++ ys → xs ≡ []
  nil_left [] ys e = refl
  nil_left (v ∷ xs) ys e = cc

  nil_right : (xs ys : List Note) → [] ≡ xs ++ ys → ys ≡ []
  nil_right [] ys e = sym e
  nil_right (v ∷ xs) ys e = cc

  inside : (a b : Held) (n : ℕ) (es : List Note) → Leads (watched g area p x plan) a n es b → es ≡ [] → (j : ℕ) → j ≤ n
      → ((run (protocol p x plan) j a).events ≡ []) × Same (store_held a) (store_held (run (protocol p x plan) j a).last)
  inside a b _ _ stays none j le =
      let z : j ≡ 0 = omega arith in
      subst (λ i. ((run (protocol p x plan) i a).events ≡ []) × Same (store_held a) (store_held (run (protocol p x plan) i a).last)) (sym z) (refl, same_refl g area (store_held a))
  inside a b n _ (moves {t = t} {k = k} {n = n1} {es = es1} {fs = fs} e rest em eg) none j le =
      let q = turned (kept_held g area a) (protocol p x plan a) k es1 t e in
      let e1 = nil_left es1 fs (sym none ∙ eg) in
      let e2 = nil_right es1 fs (sym none ∙ eg) in
      let mv : protocol p x plan a ≡ goes k [] t = q.1 ∙ ap (λ xs. goes k xs t) e1 in
      let same = move_keeps a k t q.0 mv in
      ⊎_elim
      (λ few.
      let z = too_dear Held Note (protocol p x plan) k j [] a t mv (omega arith) in
      (ap (λ r. r.events) z, subst (λ (r : Ran Held Note). Same (store_held a) (store_held r.last)) (sym z) (same_refl g area (store_held a))))
      (λ ge.
      let z : j ≡ suc (k + (j - suc k)) = omega arith in
      let once : run (protocol p x plan) j a
      ≡ after [] (run (protocol p x plan) (j - suc k) t) = ap (λ i. run (protocol p x plan) i a) z ∙ one_move Held Note (protocol p x plan) k (j - suc k) [] a t mv in
      let ih = inside t b n1 fs rest e2 (j - suc k) (omega arith) in (
        ap (λ r. r.events) once ∙ ih.0,
        subst (λ (r : Ran Held Note). Same (store_held a) (store_held r.last)) (sym once)
            (same_on g area (store_held a) (store_held t) (store_held (run (protocol p x plan) (j - suc k) t).last) same ih.1),
      ))
      (cases_lt j (suc k))

  plainly : (a b : Held) (n : ℕ) (es : List Note) → Leads (watched g area p x plan) a n es b → Leads (protocol p x plan) a n es b
  plainly a b _ _ stays = stays
  plainly a b n _ (moves {t = t} {k = k} {n = n1} {es = es1} {fs = fs} e rest em eg) = moves (turned (kept_held g area a) (protocol p x plan a) k es1 t e).1 (plainly t b n1 fs rest) em eg

  -- ---- how they are made

  pub record Through (a : Held) (n : ℕ) (b : Held) : Type 0 where
    pub by : GoesUnseen g area p x plan a n b

  pub th_none : (a : Held) → Through a 0 a
  th_none a = record { by = stays }

  pub th_one : (k : ℕ) (a b : Held) → kept_held g area a ≡ true → protocol p x plan a ≡ goes k [] b → Through a (suc k) b
  th_one k a b t e = record { by = moves (ap (λ z. turn_if z (protocol p x plan a)) t ∙ e) stays (omega arith) refl }

  pub th_on : (j k : ℕ) (a b c : Held) → Through a j b → Through b k c → Through a (j + k) c
  th_on j k a b c y z = record { by = leads_on Held Note (watched g area p x plan) a b c j k [] [] y.by z.by }

  step_of : (b : Bool) (o : Next) (k : ℕ) (es : List Note) (d : Configuration) → alone_next b o ≡ goes k es d → (b ≡ true) × (o ≡ steps k d)
  step_of true (steps j c) k es d e = let k' : j ≡ k = cc in let d' : c ≡ d = cc in (refl, cc)
  step_of true (asks j i args c) k es d e = cc
  step_of true (returns j vs s) k es d e = cc
  step_of true (traps j t s) k es d e = cc
  step_of true stuck k es d e = cc
  step_of false o k es d e = cc

  -- a program's own reductions that keep, while the stack unwinds, rewinds, or an export runs
  unwinding_run : (e : Entry) (i : ℕ) (a : Answer) (l : Left) (c d : Configuration) (n : ℕ) (es : List Note) → Leads (alone (keeps g area) p) c n es d
      → Through (busy (unwinds e i a) c l) n (busy (unwinds e i a) d l)
  unwinding_run e i a l c d _ _ stays = th_none (busy (unwinds e i a) c l)
  unwinding_run e i a l c d n _ (moves {t = t} {k = k} {n = n1} {es = es1} {fs = fs} q rest em eg) =
      let w = step_of (keeps g area c) (step p c) k es1 t q in
      let first = th_one k (busy (unwinds e i a) c l) (busy (unwinds e i a) t l) w.0 (ap (busy_step p x plan (unwinds e i a) l) w.1) in
      subst (λ m. Through (busy (unwinds e i a) c l) m (busy (unwinds e i a) d l)) (sym em) (th_on (suc k) n1 _ _ _ first (unwinding_run e i a l t d n1 fs rest))

  rewinding_run : (e : Entry) (i : ℕ) (a : Answer) (sp : Store) (l : Left) (c d : Configuration) (n : ℕ) (es : List Note) → Leads (alone (keeps g area) p) c n es d
      → Through (busy (rewinds e i a sp) c l) n (busy (rewinds e i a sp) d l)
  rewinding_run e i a sp l c d _ _ stays = th_none (busy (rewinds e i a sp) c l)
  rewinding_run e i a sp l c d n _ (moves {t = t} {k = k} {n = n1} {es = es1} {fs = fs} q rest em eg) =
      let w = step_of (keeps g area c) (step p c) k es1 t q in
      let first = th_one k (busy (rewinds e i a sp) c l) (busy (rewinds e i a sp) t l) w.0 (ap (busy_step p x plan (rewinds e i a sp) l) w.1) in
      subst (λ m. Through (busy (rewinds e i a sp) c l) m (busy (rewinds e i a sp) d l)) (sym em) (th_on (suc k) n1 _ _ _ first (rewinding_run e i a sp l t d n1 fs rest))

  aside_run : (ph : Phase) (th : Then) (l : Left) (c d : Configuration) (n : ℕ) (es : List Note) → Leads (alone (keeps g area) p) c n es d
      → Through (aside ph c th l) n (aside ph d th l)
  aside_run ph th l c d _ _ stays = th_none (aside ph c th l)
  aside_run ph th l c d n _ (moves {t = t} {k = k} {n = n1} {es = es1} {fs = fs} q rest em eg) =
      let w = step_of (keeps g area c) (step p c) k es1 t q in
      let first = th_one k (aside ph c th l) (aside ph t th l) w.0 (ap (aside_step p x plan ph th l) w.1) in
      subst (λ m. Through (aside ph c th l) m (aside ph d th l)) (sym em) (th_on (suc k) n1 _ _ _ first (aside_run ph th l t d n1 fs rest))

  -- the same, as calls from other files
  pub in_unwinding : (e : Entry) (i : ℕ) (a : Answer) (l : Left) (c d : Configuration) (n : ℕ) → GoesKeeping g area p c n d
      → Through (busy (unwinds e i a) c l) n (busy (unwinds e i a) d l)
  in_unwinding e i a l c d n h = unwinding_run e i a l c d n [] h

  pub in_rewinding : (e : Entry) (i : ℕ) (a : Answer) (sp : Store) (l : Left) (c d : Configuration) (n : ℕ) → GoesKeeping g area p c n d
      → Through (busy (rewinds e i a sp) c l) n (busy (rewinds e i a sp) d l)
  in_rewinding e i a sp l c d n h = rewinding_run e i a sp l c d n [] h

  pub in_aside : (ph : Phase) (th : Then) (l : Left) (c d : Configuration) (n : ℕ) → GoesKeeping g area p c n d → Through (aside ph c th l) n (aside ph d th l)
  in_aside ph th l c d n h = aside_run ph th l c d n [] h

pub each_instant : EachInstant
each_instant g area p x plan a b n h = (λ j le. inside g area p x plan a b n [] h refl j le, plainly g area p x plan a b n [] h)
