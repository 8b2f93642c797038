-- The reductions from a configuration end in one way.
use Rattle.std.proofs.Common.{◌≡◌, ℕ, ◌+◌, ◌-◌, ◌≤◌, ◌<◌, List, [], refl, sym, ap, ◌∙◌, subst, arith, true, ⊎_elim}
use Rattle.std.proofs.lemmas.Bool.{cases_lt}
use Rattle.wa_types.specs.Syntax.{Module}
use Rattle.wa_model.specs.Machine.{Turn, stops, goes, Leads}
use Rattle.wa_model.specs.Configuration.{Configuration}
use Rattle.wa_model.specs.Step.{Next, steps, asks, returns, traps, stuck, step}
use Rattle.wa_model.specs.Blocking.{Note}
use Rattle.run_theory.specs.Alone.{alone_next, alone, Goes, Finish, it_spent, FinishesAt, CostsAbove, EndsAs, by_finish, by_steps}
use Rattle.run_theory.proofs.Runs.{leads_beyond, leads_stopped, leads_first, leads_nowhere}

-- nothing goes on where an end stands next
stops_there : (o : Next) (k : ℕ) (end : Finish) → FinishesAt o k end → alone_next true o ≡ stops
stops_there (steps k d) j end h = absurd h
stops_there (asks k import args d) j end h = refl
stops_there (returns k values s) j end h = refl
stops_there (traps k trap s) j end h = refl
stops_there stuck j end h = absurd h

-- one end stands next, at one cost
one_finish : (o : Next) (j k : ℕ) (a b : Finish) → FinishesAt o j a → FinishesAt o k b → (j ≡ k) × (a ≡ b)
one_finish (steps n d) j k a b x y = absurd x
one_finish (asks n import args d) j k a b x y = (x.0 ∙ sym y.0, x.1 ∙ sym y.1)
one_finish (returns n values s) j k a b x y = (x.0 ∙ sym y.0, x.1 ∙ sym y.1)
one_finish (traps n trap s) j k a b x y = (x.0 ∙ sym y.0, x.1 ∙ sym y.1)
one_finish stuck j k a b x y = absurd x

-- an end that can be paid isn't above what is left
paid_finish : (o : Next) (j more : ℕ) (a : Finish) → FinishesAt o j a → CostsAbove o more → more < j
paid_finish (steps n d) j more a x y = absurd x
paid_finish (asks n import args d) j more a x y = let e = x.0 in omega arith
paid_finish (returns n values s) j more a x y = let e = x.0 in omega arith
paid_finish (traps n trap s) j more a x y = let e = x.0 in omega arith
paid_finish stuck j more a x y = absurd x

-- a move that is above what is left
dear_move : (o : Next) (k more : ℕ) (fs : List Note) (u : Configuration) → alone_next true o ≡ goes k fs u → CostsAbove o more → more ≤ k
dear_move (steps n d) k more fs u e y = let p : goes n [] d ≡ goes k fs u = e in let q : n ≡ k = cc in omega arith
dear_move (asks n import args d) k more fs u e y = cc
dear_move (returns n values s) k more fs u e y = cc
dear_move (traps n trap s) k more fs u e y = cc
dear_move stuck k more fs u e y = cc

module _ (m : Module) (c : Configuration) where
  abbrev next : Configuration → Turn Configuration Note
  next = alone (λ d. true) m

  beyond : (d e : Configuration) (j n : ℕ) → Goes m c j d → Goes m c n e → j ≤ n → (gs : List Note) × Leads next d (n - j) gs e
  beyond d e j n x y le = leads_beyond Configuration Note next c d e j n [] [] x y le

  -- an end and a want of steps don't stand in one run
  never_both : (left j k used more : ℕ) (d e : Configuration) (end : Finish) → Goes m c j d → FinishesAt (step m d) k end → j + k ≤ left → Goes m c used e → left ≡ used + more
      → CostsAbove (step m e) more → ⊥
  never_both left j k used more d e end x f le y split above =
      ⊎_elim
      (λ lt.
      let b = beyond d e j used x y (omega arith) in
      let s = leads_stopped Configuration Note next d e (used - j) b.0 (stops_there (step m d) k end f) b.1 in
      let z = s.0 in omega arith)
      (λ ge.
      let b = beyond e d used j y x (omega arith) in
      ⊎_elim
      (λ zero.
      let same = leads_nowhere Configuration Note next e d (j - used) b.0 b.1 (omega arith) in
      let p = paid_finish (step m d) k more end f (subst (λ w. CostsAbove (step m w) more) same above) in
      omega arith)
      (λ pos.
      let r = leads_first Configuration Note next e d (j - used) b.0 b.1 (omega arith) in
      let q = dear_move (step m e) r.0 more r.1 r.2 r.3 above in
      let w = r.4 in omega arith)
      (cases_lt (j - used) 1))
      (cases_lt j used)

  pub ends_once : (left used used' : ℕ) (end end' : Finish) → EndsAs m c left used end → EndsAs m c left used' end' → (used ≡ used') × (end ≡ end')
  ends_once left used used' end end' (by_finish j k d x f sum le) (by_finish j' k' d' x' f' sum' le') =
      ⊎_elim
      (λ lt.
      let b = beyond d d' j j' x x' (omega arith) in
      let s = leads_stopped Configuration Note next d d' (j' - j) b.0 (stops_there (step m d) k end f) b.1 in
      let z = s.0 in let w : ⊥ = omega arith in absurd w)
      (λ ge.
      let b = beyond d' d j' j x' x (omega arith) in
      let s = leads_stopped Configuration Note next d' d (j - j') b.0 (stops_there (step m d') k' end' f') b.1 in
      let z = s.0 in
      let o = one_finish (step m d) k k' end end' f (subst (λ w. FinishesAt (step m w) k' end') s.1 f') in
      let same_k = o.0 in
      (omega arith, o.1))
      (cases_lt j j')
  ends_once left used used' end end' (by_finish j k d x f sum le) (by_steps more e y is_spent split above) =
      absurd (never_both left j k used' more d e end x f (omega arith) y split above)
  ends_once left used used' end end' (by_steps more e y is_spent split above) (by_finish j k d x f sum le) =
      absurd (never_both left j k used more d e end' x f (omega arith) y split above)
  ends_once left used used' end end' (by_steps more d x a split above) (by_steps more' d' x' a' split' above') =
      ⊎_elim
      (λ lt.
      let b = beyond d d' used used' x x' (omega arith) in
      let r = leads_first Configuration Note next d d' (used' - used) b.0 b.1 (omega arith) in
      let q = dear_move (step m d) r.0 more r.1 r.2 r.3 above in
      let w = r.4 in let z : ⊥ = omega arith in absurd z)
      (λ ge.
      let b = beyond d' d used' used x' x (omega arith) in
      ⊎_elim
      (λ zero.
      let same = leads_nowhere Configuration Note next d' d (used - used') b.0 b.1 (omega arith) in
      (omega arith, a ∙ ap (λ w. it_spent w) (sym same) ∙ sym a'))
      (λ pos.
      let r = leads_first Configuration Note next d' d (used - used') b.0 b.1 (omega arith) in
      let q = dear_move (step m d') r.0 more' r.1 r.2 r.3 above' in
      let w = r.4 in let z : ⊥ = omega arith in absurd z)
      (cases_lt (used - used') 1))
      (cases_lt used used')
