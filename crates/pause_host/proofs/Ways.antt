-- Ends of reductions as stretches of a run under the protocol.
use Rattle.std.proofs.Common.{◌≡◌, ◌≤◌, ℕ, suc, ◌+◌, ◌-◌, ◌++◌, List, [], ◌∷◌, length, Option, Some, None, Bool, true, false, cond, refl, sym, ap, ◌∙◌, subst, append-nil, arith}
use Rattle.std.specs.Prelude.{nat_eq}
use Rattle.wa_types.specs.declared.values.Value.{Value}
use Rattle.wa_types.specs.declared.values.Trap.{Trap}
use Rattle.wa_types.specs.Syntax.{Func, Module}
use Rattle.wa_types.specs.Modules.{defined_at}
use Rattle.wa_model.specs.declared.answers.Said.{Said}
use Rattle.wa_model.specs.declared.answers.Said.TheVariants as SV
use Rattle.wa_model.specs.declared.events.End.{End}
use Rattle.wa_model.specs.declared.events.End.TheVariants as E
use Rattle.wa_model.specs.Outside.{ended}
use Rattle.wa_model.specs.Machine.{Turn, goes, Leads, stays, moves, CostsMore}
use Rattle.wa_model.specs.Store.{Store}
use Rattle.wa_model.specs.Configuration.{Configuration}
use Rattle.wa_model.specs.Step.{Next, steps, asks, returns, traps, stuck, entered, step}
use Rattle.wa_model.specs.Plan.{Entry, Outcome, given, refused}
use Rattle.run_theory.specs.Alone.{Goes, it_returned, it_trapped, it_asks, it_spent, FinishesAt, CostsAbove, EndsAs, by_finish, by_steps}
use Rattle.wa_model.specs.Blocking.{Note, note, call_note, poked, store_at, stack_at, Left, with_outcomes, Asker, inside, outermost, the_start, an_entry}
use Rattle.wa_model.specs.Protocol.{Exports, exports_of, Phase, is_running, unwinds, rewinds, Then, give_zero, test_unwound, pause_there, call_again, test_rewound, give_answer, Held, busy, calling, aside, over, trap_end, held_asked, held_given, held_resumed, held_tested, busy_step, is_state, aside_back, aside_step, aside_called, protocol}
use Rattle.world_model.specs.World.{Program}
use Rattle.run_theory.proofs.Runs.{leads_on}
use Rattle.run_theory.proofs.Alone.{in_busy, in_aside}
use Rattle.host_laws.specs.Stretch.{meeting, Stretch}
use Rattle.pause_host.specs.Moves.{EndsAt, at_over, at_spent, Returns}

-- ---- how reductions end

fin_returns : (o : Next) (cost : ℕ) (vs : List Value) (s : Store) → FinishesAt o cost (it_returned vs s) → (k : ℕ) × (o ≡ returns k vs s) × (cost ≡ suc k)
fin_returns (steps k d) cost vs s h = absurd h
fin_returns (asks k i args d) cost vs s h = absurd (no_asks h.1)
  where
    no_asks : it_returned vs s ≡ it_asks i args d → ⊥
    no_asks e = cc
fin_returns (returns k us r) cost vs s h = let e : it_returned vs s ≡ it_returned us r = h.1 in let a : us ≡ vs = cc in let b : r ≡ s = cc in (k, cc, h.0)
fin_returns (traps k t r) cost vs s h = let e : it_returned vs s ≡ it_trapped t r = h.1 in cc
fin_returns stuck cost vs s h = absurd h

fin_traps : (o : Next) (cost : ℕ) (t : Trap) (s : Store) → FinishesAt o cost (it_trapped t s) → (k : ℕ) × (o ≡ traps k t s) × (cost ≡ suc k)
fin_traps (steps k d) cost t s h = absurd h
fin_traps (asks k i args d) cost t s h = let e : it_trapped t s ≡ it_asks i args d = h.1 in cc
fin_traps (returns k us r) cost t s h = let e : it_trapped t s ≡ it_returned us r = h.1 in cc
fin_traps (traps k u r) cost t s h = let e : it_trapped t s ≡ it_trapped u r = h.1 in let a : u ≡ t = cc in let b : r ≡ s = cc in (k, cc, h.0)
fin_traps stuck cost t s h = absurd h

fin_asks : (o : Next) (cost i : ℕ) (args : List Value) (d : Configuration) → FinishesAt o cost (it_asks i args d) → (k : ℕ) × (o ≡ asks k i args d) × (cost ≡ suc k)
fin_asks (steps k e) cost i args d h = absurd h
fin_asks (asks k j brgs e) cost i args d h = let z : it_asks i args d ≡ it_asks j brgs e = h.1 in let a : j ≡ i = cc in let b : brgs ≡ args = cc in let f : e ≡ d = cc in (k, cc, h.0)
fin_asks (returns k us r) cost i args d h = let z : it_asks i args d ≡ it_returned us r = h.1 in cc
fin_asks (traps k u r) cost i args d h = let z : it_asks i args d ≡ it_trapped u r = h.1 in cc
fin_asks stuck cost i args d h = absurd h

fin_spent : (o : Next) (cost : ℕ) (d : Configuration) → FinishesAt o cost (it_spent d) → ⊥
fin_spent (steps k e) cost d h = absurd h
fin_spent (asks k j brgs e) cost d h = let z : it_spent d ≡ it_asks j brgs e = h.1 in cc
fin_spent (returns k us r) cost d h = let z : it_spent d ≡ it_returned us r = h.1 in cc
fin_spent (traps k u r) cost d h = let z : it_spent d ≡ it_trapped u r = h.1 in cc
fin_spent stuck cost d h = absurd h

-- reductions that lead to one of these
pub record Last (p : Module) (c : Configuration) (left used : ℕ) (o : ℕ → Next) : Type 0 where
  pub at : Configuration
  pub cost : ℕ
  pub k : ℕ
  pub runs : Goes p c cost at
  pub next_is : step p at ≡ o k
  pub used_is : used ≡ cost + suc k
  pub within : used ≤ left

-- .. or to where the next costs more than is left
pub record LeftShort (p : Module) (c : Configuration) (left used : ℕ) (d : Configuration) : Type 0 where
  pub runs : Goes p c used d
  pub within : used ≤ left
  pub dearer : CostsAbove (step p d) (left - used)

module _ (p : Module) (c : Configuration) (left used : ℕ) where
  pub returns_by : (vs : List Value) (s : Store) → EndsAs p c left used (it_returned vs s) → Last p c left used (λ k. returns k vs s)
  returns_by vs s (by_finish j k d g f u le) =
      let r = fin_returns (step p d) k vs s f in record { at = d; cost = j; k = r.0; runs = g; next_is = r.1; used_is = u ∙ ap (λ n. j + n) r.2; within = le }
  returns_by vs s (by_steps more d g e l a) = let z : it_returned vs s ≡ it_spent d = e in cc

  pub traps_by : (t : Trap) (s : Store) → EndsAs p c left used (it_trapped t s) → Last p c left used (λ k. traps k t s)
  traps_by t s (by_finish j k d g f u le) =
      let r = fin_traps (step p d) k t s f in record { at = d; cost = j; k = r.0; runs = g; next_is = r.1; used_is = u ∙ ap (λ n. j + n) r.2; within = le }
  traps_by t s (by_steps more d g e l a) = let z : it_trapped t s ≡ it_spent d = e in cc

  pub asks_by : (i : ℕ) (args : List Value) (e : Configuration) → EndsAs p c left used (it_asks i args e) → Last p c left used (λ k. asks k i args e)
  asks_by i args e (by_finish j k d g f u le) =
      let r = fin_asks (step p d) k i args e f in record { at = d; cost = j; k = r.0; runs = g; next_is = r.1; used_is = u ∙ ap (λ n. j + n) r.2; within = le }
  asks_by i args e (by_steps more d g z l a) = let y : it_asks i args e ≡ it_spent d = z in cc

  pub spent_by : (d : Configuration) → EndsAs p c left used (it_spent d) → LeftShort p c left used d
  spent_by d (by_finish j k e g f u le) = absurd (fin_spent (step p e) k d f)
  spent_by d (by_steps more e g z l a) =
      let y : it_spent d ≡ it_spent e = z in
      let same : e ≡ d = cc in
      let more_is : more ≡ left - used = omega (arith, l) in
      record {
        runs = subst (λ x. Goes p c used x) same g;
        within = omega (arith, l);
        dearer = subst (λ n. CostsAbove (step p d) n) more_is (subst (λ x. CostsAbove (step p x) more) same a);
      }

-- ---- moves that cost more than is left

module _ (w : Program) where
  abbrev p : Module
  p = w.source

  abbrev x : Exports
  x = exports_of w.source

  given_dear : (n k : ℕ) (y : Note) (said : Said) (s : Store) (l : Left) (who : Asker) → n ≤ k → CostsMore n (held_given k y said s l who)
  given_dear n k y (SV.Value v) s l (inside task c) h = h
  given_dear n k y (SV.Value v) s l (outermost old) h = h
  given_dear n k y SV.Trap s l who h = h

  resumed_dear : (n k : ℕ) (e : Entry) (said : Said) (sp : Store) (c : Configuration) (l : Left) (s : Store) → n ≤ k → CostsMore n (held_resumed k e said sp c l s)
  resumed_dear n k e (SV.Value v) sp c l s h = h
  resumed_dear n k e SV.Trap sp c l s h = h

  pub asked_dear : (n k import : ℕ) (args : List Value) (who : Asker) (l : Left) (os : List Outcome) → n ≤ k → CostsMore n (held_asked p x w.plan k import args who l os)
  asked_dear n k import args who l [] h = h
  asked_dear n k import args who l (refused e ∷ os) h = h
  asked_dear n k import args who l (given a ∷ os) h = tested who _ _
    where
      tested : (who' : Asker) (o : Option End) (pause : Option ℕ) → CostsMore n (held_tested p x w.plan k import args who' (with_outcomes l os) a o pause)
      tested who' (Some e) pause = h
      tested who' None None = given_dear n k (call_note import args (store_at who') (stack_at p who') None) a.said (poked (store_at who') a.pokes) (with_outcomes l os) who' h
      tested (inside (an_entry e) c) None (Some t) = h
      tested (inside the_start c) None (Some t) = tt
      tested (outermost s) None (Some t) = tt

  busy_dear : (n : ℕ) (ph : Phase) (l : Left) (o : Next) → CostsAbove o n → CostsMore n (busy_step p x w.plan ph l o)
  busy_dear n (is_running task) l (steps k d) h = h
  busy_dear n (is_running task) l (asks k i args d) h = asked_dear n k i args (inside task d) l l.outcomes h
  busy_dear n (is_running the_start) l (returns k vs s) h = h
  busy_dear n (is_running (an_entry e)) l (returns k vs s) h = h
  busy_dear n (is_running task) l (traps k t s) h = h
  busy_dear n (unwinds e i a) l (steps k d) h = h
  busy_dear n (unwinds e i a) l (asks k j args d) h = h
  busy_dear n (unwinds e i a) l (returns k vs s) h = h
  busy_dear n (unwinds e i a) l (traps k t s) h = h
  busy_dear n (rewinds e i a sp) l (steps k d) h = h
  busy_dear n (rewinds e i a sp) l (asks k j args d) h = by_import (nat_eq j i)
    where
      by_import : (b : Bool) → CostsMore n (cond b (goes k [] (calling (rewinds e i a sp) d.store x.get_state [] (test_rewound d) l)) (goes k (note (ended (E.Broken 3)) d.store ∷ []) (over d.store)))
      by_import true = h
      by_import false = h
  busy_dear n (rewinds e i a sp) l (returns k vs s) h = h
  busy_dear n (rewinds e i a sp) l (traps k t s) h = h
  busy_dear n ph l stuck h = absurd h

  back_dear : (n k : ℕ) (ph : Phase) (th : Then) (l : Left) (vs : List Value) (s : Store) → n ≤ k → CostsMore n (aside_back p x w.plan k ph th l vs s)
  back_dear n k (unwinds e i a) (give_zero c) l vs s h = h
  back_dear n k (unwinds e i a) test_unwound l vs s h = by_state (is_state 1 vs)
    where
      by_state : (b : Bool) → CostsMore n (cond b (goes k [] (calling (unwinds e i a) s x.stop_unwind [] pause_there l)) (goes k (note (ended (E.Broken 2)) s ∷ []) (over s)))
      by_state true = h
      by_state false = h
  back_dear n k (unwinds e i a) pause_there l vs s h = h
  back_dear n k (rewinds e i a sp) call_again l vs s h = h
  back_dear n k (rewinds e i a sp) (test_rewound c) l vs s h = by_state (is_state 2 vs)
    where
      by_state : (b : Bool) → CostsMore n (cond b (goes k [] (calling (rewinds e i a sp) s x.stop_rewind [] (give_answer c) l)) (goes k (note (ended (E.Broken 4)) s ∷ []) (over s)))
      by_state true = h
      by_state false = h
  back_dear n k (rewinds e i a sp) (give_answer c) l vs s h = resumed_dear n k e a.said sp c l (poked s a.pokes) h
  back_dear n k (is_running task) th l vs s h = tt
  back_dear n k (unwinds e i a) call_again l vs s h = tt
  back_dear n k (unwinds e i a) (test_rewound c) l vs s h = tt
  back_dear n k (unwinds e i a) (give_answer c) l vs s h = tt
  back_dear n k (rewinds e i a sp) (give_zero c) l vs s h = tt
  back_dear n k (rewinds e i a sp) test_unwound l vs s h = tt
  back_dear n k (rewinds e i a sp) pause_there l vs s h = tt

  aside_dear : (n : ℕ) (ph : Phase) (th : Then) (l : Left) (o : Next) → CostsAbove o n → CostsMore n (aside_step p x w.plan ph th l o)
  aside_dear n ph th l (steps k d) h = h
  aside_dear n ph th l (asks k i args d) h = h
  aside_dear n ph th l (returns k vs s) h = back_dear n k ph th l vs s h
  aside_dear n ph th l (traps k t s) h = h
  aside_dear n ph th l stuck h = absurd h

  called_dear : (n : ℕ) (ph : Phase) (s : Store) (f : ℕ) (args : List Value) (th : Then) (l : Left) (o : Option Func) → n ≤ length args → CostsMore n (aside_called ph s f args th l o)
  called_dear n ph s f args th l None h = tt
  called_dear n ph s f args th l (Some g) h = h

  -- ---- stretches

  abbrev next : Held → Turn Held Note
  next = protocol p x w.plan

  -- one move behind a stretch without notes
  pub one_behind : (h h1 h2 : Held) (os : List Outcome) (es : List Note) (u k used : ℕ) → Stretch p w.plan h [] [] u h1
      → ((more : List Outcome) → next (meeting (os ++ more) h1) ≡ goes k es (meeting more h2)) → used ≡ u + suc k → Stretch p w.plan h os es used h2
  one_behind h h1 h2 os es u k used first mv e = λ more.
      subst (λ n. Leads next (meeting (os ++ more) h) n es (meeting more h2)) (sym e)
      (leads_on Held Note next (meeting (os ++ more) h) (meeting (os ++ more) h1) (meeting more h2) u (suc k) [] es (first (os ++ more)) (moves (mv more) stays (omega arith) (sym (append-nil es))))

  pub busy_goes : (ph : Phase) (l : Left) (c d : Configuration) (n : ℕ) → Goes p c n d → Stretch p w.plan (busy ph c l) [] [] n (busy ph d l)
  busy_goes ph l c d n g = λ more. in_busy (λ c. true) p w.plan x ph (with_outcomes l more) c d n (record { by = g })

  pub aside_goes : (ph : Phase) (th : Then) (l : Left) (c d : Configuration) (n : ℕ) → Goes p c n d → Stretch p w.plan (aside ph c th l) [] [] n (aside ph d th l)
  aside_goes ph th l c d n g = λ more. in_aside (λ c. true) p w.plan x ph th (with_outcomes l more) c d n (record { by = g })

  -- reductions of a phase, and the move that they lead to
  pub busy_last : (ph : Phase) (l : Left) (c : Configuration) (left used : ℕ) (o : ℕ → Next) (os : List Outcome) (es : List Note) (t : Held) → Last p c left used o
      → ((k : ℕ) (more : List Outcome) → busy_step p x w.plan ph (with_outcomes l (os ++ more)) (o k) ≡ goes k es (meeting more t)) → Stretch p w.plan (busy ph c l) os es used t
  busy_last ph l c left used o os es t r mv =
      one_behind (busy ph c l) (busy ph r.at l) t os es r.cost r.k used (busy_goes ph l c r.at r.cost r.runs)
      (λ more. ap (busy_step p x w.plan ph (with_outcomes l (os ++ more))) r.next_is ∙ mv r.k more) r.used_is

  -- a trap, and steps that don't reach
  pub busy_trapped : (ph : Phase) (l : Left) (c : Configuration) (left used : ℕ) (t : Trap) (s : Store) → EndsAs p c left used (it_trapped t s)
      → EndsAt w (busy ph c l) left used (trap_end w.plan.area ph t s) s
  busy_trapped ph l c left used t s e =
      let r = traps_by p c left used t s e in
      at_over (busy_last ph l c left used (λ k. traps k t s) [] (note (ended (trap_end w.plan.area ph t s)) s ∷ []) (over s) r (λ k more. by_phase ph k more)) r.within
    where
      by_phase : (ph' : Phase) (k : ℕ) (more : List Outcome)
          → busy_step p x w.plan ph' (with_outcomes l ([] ++ more)) (traps k t s) ≡ goes k (note (ended (trap_end w.plan.area ph' t s)) s ∷ []) (meeting more (over s))
      by_phase (is_running task) k more = refl
      by_phase (unwinds e i a) k more = refl
      by_phase (rewinds e i a sp) k more = refl

  pub busy_spent : (ph : Phase) (l : Left) (c : Configuration) (left used : ℕ) (d : Configuration) (how : End) (s : Store) → d.store ≡ s → how ≡ E.StepsSpent w.steps
      → EndsAs p c left used (it_spent d) → EndsAt w (busy ph c l) left used how s
  busy_spent ph l c left used d how s same is e =
      let r = spent_by p c left used d e in
      at_spent (busy ph d l) (busy_goes ph l c d used r.runs) r.within same
      (record { goes_on = refl; dearer = λ more. busy_dear (left - used) ph (with_outcomes l more) (step p d) r.dearer }) is

  -- ---- exports

  pub called_goes : (ph : Phase) (s : Store) (f : ℕ) (args : List Value) (th : Then) (l : Left) (g : Func) → defined_at p f ≡ Some g
      → Stretch p w.plan (calling ph s f args th l) [] [] (suc (length args)) (aside ph (entered s [] args f g) th l)
  called_goes ph s f args th l g there = λ more. moves (ap (aside_called ph s f args th (with_outcomes l more)) there) stays (omega arith) refl

  two : (h h1 h2 : Held) (u v used : ℕ) → Stretch p w.plan h [] [] u h1 → Stretch p w.plan h1 [] [] v h2 → used ≡ u + v → Stretch p w.plan h [] [] used h2
  two h h1 h2 u v used a b e = λ more.
      subst (λ n. Leads next (meeting more h) n [] (meeting more h2)) (sym e)
      (leads_on Held Note next (meeting more h) (meeting more h1) (meeting more h2) u v [] [] (a more) (b more))

  -- an export that is called runs, up to some move
  called_last : (ph : Phase) (s : Store) (f : ℕ) (args : List Value) (th : Then) (l : Left) (g : Func) (left used more_used : ℕ) (o : ℕ → Next) (os : List Outcome) (es : List Note) (t : Held)
      → defined_at p f ≡ Some g → Last p (entered s [] args f g) left more_used o → used ≡ suc (length args) + more_used
      → ((k : ℕ) (more : List Outcome) → aside_step p x w.plan ph th (with_outcomes l (os ++ more)) (o k) ≡ goes k es (meeting more t)) → Stretch p w.plan (calling ph s f args th l) os es used t
  called_last ph s f args th l g left used more_used o os es t there r e mv =
      one_behind (calling ph s f args th l) (aside ph r.at th l) t os es (suc (length args) + r.cost) r.k used
      (two (calling ph s f args th l) (aside ph (entered s [] args f g) th l) (aside ph r.at th l) (suc (length args)) r.cost (suc (length args) + r.cost)
      (called_goes ph s f args th l g there) (aside_goes ph th l (entered s [] args f g) r.at r.cost r.runs) refl)
      (λ more. ap (aside_step p x w.plan ph th (with_outcomes l (os ++ more))) r.next_is ∙ mv r.k more) (omega (arith, r.used_is))

  -- one that returned leads to what the host does then
  pub returned_by : (ph : Phase) (s : Store) (f : ℕ) (args : List Value) (th : Then) (l : Left) (left used : ℕ) (vs : List Value) (s' : Store) (es : List Note) (t : Held)
      → Returns p s f args left used vs s' → ((k : ℕ) (more : List Outcome) → aside_back p x w.plan k ph th (with_outcomes l more) vs s' ≡ goes k es (meeting more t))
      → Stretch p w.plan (calling ph s f args th l) [] es used t
  returned_by ph s f args th l left used vs s' es t r mv =
      called_last ph s f args th l r.func (r.cost + suc r.k) used (r.cost + suc r.k) (λ k. returns k vs s') [] es t r.there
      (record { at = r.last; cost = r.cost; k = r.k; runs = r.runs; next_is = r.returns_then; used_is = refl; within = omega arith }) r.used_is (λ k more. mv k more)

  pub export_trapped : (ph : Phase) (s : Store) (f : ℕ) (args : List Value) (th : Then) (l : Left) (g : Func) (left used more : ℕ) (t : Trap) (s' : Store) → defined_at p f ≡ Some g
      → suc (length args) ≤ left
      → used ≡ suc (length args) + more → EndsAs p (entered s [] args f g) (left - suc (length args)) more (it_trapped t s')
      → EndsAt w (calling ph s f args th l) left used (trap_end w.plan.area ph t s') s'
  export_trapped ph s f args th l g left used more t s' there enough e h =
      let r = traps_by p (entered s [] args f g) (left - suc (length args)) more t s' h in
      at_over
      (called_last ph s f args th l g (left - suc (length args)) used more (λ k. traps k t s') [] (note (ended (trap_end w.plan.area ph t s')) s' ∷ []) (over s') there r e (λ k more. refl))
      (omega (arith, r.within))

  pub export_asked : (ph : Phase) (s : Store) (f : ℕ) (args : List Value) (th : Then) (l : Left) (g : Func) (left used more i : ℕ) (brgs : List Value) (d : Configuration) (s' : Store)
      → defined_at p f ≡ Some g → suc (length args) ≤ left
      → used ≡ suc (length args) + more → d.store ≡ s' → EndsAs p (entered s [] args f g) (left - suc (length args)) more (it_asks i brgs d)
      → EndsAt w (calling ph s f args th l) left used (E.Broken 6) s'
  export_asked ph s f args th l g left used more i brgs d s' there enough e same h =
      let r = asks_by p (entered s [] args f g) (left - suc (length args)) more i brgs d h in
      subst (λ z. EndsAt w (calling ph s f args th l) left used (E.Broken 6) z) same
      (at_over
      (called_last ph s f args th l g (left - suc (length args)) used more (λ k. asks k i brgs d) [] (note (ended (E.Broken 6)) d.store ∷ []) (over d.store) there r e (λ k more. refl))
      (omega (arith, r.within)))

  pub export_spent : (ph : Phase) (s : Store) (f : ℕ) (args : List Value) (th : Then) (l : Left) (g : Func) (left used more : ℕ) (d : Configuration) (s' : Store) → defined_at p f ≡ Some g
      → suc (length args) ≤ left
      → used ≡ suc (length args) + more → d.store ≡ s' → EndsAs p (entered s [] args f g) (left - suc (length args)) more (it_spent d)
      → EndsAt w (calling ph s f args th l) left used (E.StepsSpent w.steps) s'
  export_spent ph s f args th l g left used more d s' there enough e same h =
      let r = spent_by p (entered s [] args f g) (left - suc (length args)) more d h in
      let within : used ≤ left = omega (arith, r.within) in
      let short : (left - suc (length args)) - more ≡ left - used = omega arith in
      at_spent (aside ph d th l)
      (two (calling ph s f args th l) (aside ph (entered s [] args f g) th l) (aside ph d th l) (suc (length args)) more used
      (called_goes ph s f args th l g there) (aside_goes ph th l (entered s [] args f g) d more r.runs) e)
      within same
      (record { goes_on = refl; dearer = λ os. aside_dear (left - used) ph th (with_outcomes l os) (step p d) (subst (λ n. CostsAbove (step p d) n) short r.dearer) }) refl

  pub export_dear : (ph : Phase) (s : Store) (f : ℕ) (args : List Value) (th : Then) (l : Left) (left used : ℕ) (s' : Store) → left ≤ length args → used ≡ 0 → s' ≡ s
      → EndsAt w (calling ph s f args th l) left used (E.StepsSpent w.steps) s'
  export_dear ph s f args th l left used s' dear e same =
      let short : left - 0 ≡ left = omega arith in
      subst (λ n. EndsAt w (calling ph s f args th l) left n (E.StepsSpent w.steps) s') (sym e)
      (at_spent (calling ph s f args th l) (λ more. stays) (omega arith) (sym same)
      (record { goes_on = refl; dearer = λ more. called_dear (left - 0) ph s f args th (with_outcomes l more) (defined_at p f) (subst (λ n. n ≤ length args) (sym short) dear) }) refl)
