-- At each cost B stands as A does at some moment of no greater cost, at which A has made the same events.
use Rattle.std.proofs.Common.{◌≡◌, ℕ, zero, suc, ◌+◌, ◌-◌, ◌≤◌, List, [], ◌∷◌, ◌++◌, refl, sym, ap, ◌∙◌, subst, ⊎_elim, arith, append_assoc, append-nil}
use Rattle.std.proofs.lemmas.Bool.{cases_lt}
use Rattle.wa_model.specs.Machine.{Turn, stops, goes, Ran, after, run, Leads, stays, moves}
use Rattle.run_theory.proofs.Runs.{leads_run}
use Rattle.run_theory.proofs.Follow.{Alike, alike_on, On_way, not_yet, all_made, up_to, Match, Follows}

module _ (SA SB EA EB : Type 0) (na : SA → Turn SA EA) (nb : SB → Turn SB EB) (R : (n spare : ℕ) → SA → SB → Type 0) (Q : EA → EB → Type 0) (dear : List EA → ℕ) (Sees : SA → SB → Type 0)
    (Sees_at : List EA → EA → SB → Type 0) where
  abbrev M : (n spare k : ℕ) → List EA → SA → SA → SB → Type 0
  M = Match SA SB EA EB na nb R Q dear Sees Sees_at

  abbrev Way : (k : ℕ) → List EA → SA → SA → ℕ → Ran SB EB → Type 0
  Way = On_way SA SB EA EB na nb R Q dear Sees Sees_at

  -- a moment of A within a cost of n: where it stands, or one of the events of its next move
  pub data Moment (n : ℕ) (a : SA) (r : Ran SB EB) : Type 0 where
    at_state : (cost : ℕ) (es : List EA) (at : SA) → Leads na a cost es at → cost ≤ n → Alike Q es r.events → Sees at r.last → Moment n a r
    at_event : (cost k : ℕ) (es es1 es2 : List EA) (x : EA) (at a' : SA) → Leads na a cost es at → na at ≡ goes k (es1 ++ x ∷ es2) a' → cost + suc k ≤ n
        → Alike Q (es ++ (es1 ++ x ∷ [])) r.events → Sees_at es1 x r.last → Moment n a r

  module _ (f : Follows SA SB EA EB na nb R Q dear Sees Sees_at) where
    alike_none : (es : List EB) → es ≡ [] → Alike Q [] es
    alike_none es e = let P : List EB → Type 0 = Alike Q [] in subst P (sym e) tt

    later : (k n : ℕ) (es : List EA) (a a' : SA) (fs : List EB) (r s : Ran SB EB) → na a ≡ goes k es a' → suc k ≤ n → Alike Q es fs → r ≡ after fs s → Moment (n - suc k) a' s → Moment n a r
    later k n es a a' fs r s e le al er (at_state cost es1 at l within al1 sees) =
        at_state (suc k + cost) (es ++ es1) at (moves e l refl refl) (omega arith)
        (subst (λ q. Alike Q (es ++ es1) q.events) (sym er) (alike_on Q es es1 fs s.events al al1))
        (subst (λ q. Sees at q.last) (sym er) sees)
    later k n es a a' fs r s e le al er (at_event cost j es1 es2 es3 x at b l eb within al1 sees) =
        at_event (suc k + cost) j (es ++ es1) es2 es3 x at b (moves e l refl refl) eb (omega arith)
        (subst (λ q. Alike Q ((es ++ es1) ++ (es2 ++ x ∷ [])) q.events) (sym er)
        (subst (λ xs. Alike Q xs (fs ++ s.events)) (sym (append_assoc es es1 (es2 ++ x ∷ []))) (alike_on Q es (es1 ++ (es2 ++ x ∷ [])) fs s.events al al1)))
        (subst (λ q. Sees_at es2 x q.last) (sym er) sees)

    on_the_way : (n k : ℕ) (es : List EA) (a a' : SA) (b : SB) → na a ≡ goes k es a' → suc k ≤ n → Way k es a a' n (run nb n b) → Moment n a (run nb n b)
    on_the_way n k es a a' b e enough (not_yet none sees) = at_state 0 [] a stays (omega arith) (alike_none (run nb n b).events none) sees
    on_the_way n k es a a' b e enough (all_made le al sees) =
        at_state (suc k) (es ++ []) a' (moves e stays (omega arith) refl) enough (subst (λ xs. Alike Q xs (run nb n b).events) (sym (append-nil es)) al) sees
    on_the_way n k es a a' b e enough (up_to es1 es2 x le split al sees) =
        at_event 0 k [] es1 es2 x a a' stays (e ∙ ap (λ xs. goes k xs a') split) (omega arith) al sees

    pub moment : (fuel n spare : ℕ) (a : SA) (b : SB) → R n spare a b → n ≤ fuel → Moment n a (run nb n b)
    moment fuel n spare a b r le = by_fuel fuel n spare a b r le
      where
        at_stop : (n spare : ℕ) (a : SA) (b : SB) → R n spare a b → na a ≡ stops → Moment n a (run nb n b)
        at_stop n spare a b r e = let w = f.stop n spare a b r e n (omega arith) in at_state 0 [] a stays (omega arith) (alike_none (run nb n b).events w.0) w.1

        at_slow : (n spare k : ℕ) (es : List EA) (a a' : SA) (b : SB) → R n spare a b → na a ≡ goes k es a' → n ≤ k → Moment n a (run nb n b)
        at_slow n spare k es a a' b r e few = let w = f.slow n spare k es a' a b r e few n (omega arith) in at_state 0 [] a stays (omega arith) (alike_none (run nb n b).events w.0) w.1

        by_turn : (fuel n spare : ℕ) (a : SA) (b : SB) → R n spare a b → n ≤ suc fuel → ((n' spare' : ℕ) (a' : SA) (b' : SB) → R n' spare' a' b' → n' ≤ fuel → Moment n' a' (run nb n' b'))
            → (o : Turn SA EA) → na a ≡ o → Moment n a (run nb n b)
        by_turn fuel n spare a b r le ih stops e = at_stop n spare a b r e
        by_turn fuel n spare a b r le ih (goes k es a') e =
            ⊎_elim
            (λ few. at_slow n spare k es a a' b r e (omega arith))
            (λ enough.
            let mt : M n spare k es a a' b = f.move n spare a b k es a' r e enough in
            let pos = mt.no_less in
            ⊎_elim
            (λ lt. on_the_way n k es a a' b e enough (mt.on_way n lt))
            (λ ge.
            let z : n ≡ mt.cost + (n - mt.cost) = omega arith in
            let same : run nb n b ≡ after mt.events (run nb (n - mt.cost) mt.to) = ap (λ m. run nb m b) z ∙ leads_run SB EB nb b mt.to mt.cost (n - mt.cost) mt.events mt.leads in
            let mo = ih (n - mt.cost) mt.left a' mt.to (f.less (n - suc k) (n - mt.cost) mt.left a' mt.to mt.rel (omega arith)) (omega arith) in
            later k n es a a' mt.events (run nb n b) (run nb (n - mt.cost) mt.to) e enough mt.alike same (cheaper (n - mt.cost) (n - suc k) a' (run nb (n - mt.cost) mt.to) (omega arith) mo))
            (cases_lt n mt.cost))
            (cases_lt n (suc k))
          where
            cheaper : (n m : ℕ) (a : SA) (r : Ran SB EB) → n ≤ m → Moment n a r → Moment m a r
            cheaper n m a r le (at_state cost es at l within al sees) = at_state cost es at l (omega arith) al sees
            cheaper n m a r le (at_event cost k es es1 es2 x at b l e within al sees) = at_event cost k es es1 es2 x at b l e (omega arith) al sees

        by_zero : (n spare : ℕ) (a : SA) (b : SB) → R n spare a b → n ≤ 0 → (o : Turn SA EA) → na a ≡ o → Moment n a (run nb n b)
        by_zero n spare a b r le stops e = at_stop n spare a b r e
        by_zero n spare a b r le (goes k es a') e = at_slow n spare k es a a' b r e (omega arith)

        by_fuel : (fuel n spare : ℕ) (a : SA) (b : SB) → R n spare a b → n ≤ fuel → Moment n a (run nb n b)
        by_fuel zero n spare a b r le = by_zero n spare a b r le (na a) refl
        by_fuel (suc fuel) n spare a b r le = by_turn fuel n spare a b r le (λ n' spare' a' b' r' h. by_fuel fuel n' spare' a' b' r' h) (na a) refl
