-- Laws of runs, for any machine.
use Rattle.std.proofs.Common.{◌≡◌, ℕ, zero, suc, ◌+◌, ◌-◌, ◌≤◌, ◌<◌, List, [], ◌++◌, refl, sym, ap, ◌∙◌, subst, ⊎_elim, arith, append_assoc, append-nil}
use Rattle.std.proofs.lemmas.Bool.{cases_lt}
use Rattle.std.specs.Prelude.{nat_lt, if◌then◌else◌, Bool, true, false}
use Rattle.wa_model.specs.Behaves.{IsPrefix}
use Rattle.wa_model.specs.Machine.{Turn, stops, goes, Ran, after, still, pay, run_with, run, Leads, stays, moves, CostsMore, IsRun}

pub lt_true : (k n : ℕ) → k < n → nat_lt k n ≡ true
lt_true k n h = grind arith

pub lt_false : (k n : ℕ) → n ≤ k → nat_lt k n ≡ false
lt_false k n h = grind arith

-- a turn and a run with their states mapped
abbrev pub turned : {S T E : Type 0} → (S → T) → Turn S E → Turn T E
turned f stops = stops
turned f (goes k es t) = goes k es (f t)

abbrev pub mapped : {S T E : Type 0} → (S → T) → Ran S E → Ran T E
mapped f r = record { events = r.events; last = f r.last }

module _ (S E : Type 0) (next : S → Turn S E) where
  -- a turn that is paid, and one that is not
  paid : (go : ℕ → S → Ran S E) (k n : ℕ) (es : List E) (s t : S) → k < n → pay go n s (goes k es t) ≡ after es (go (n - suc k) t)
  paid go k n es s t h = let e = lt_true k n h in rw e

  unpaid : (go : ℕ → S → Ran S E) (k n : ℕ) (es : List E) (s t : S) → n ≤ k → pay go n s (goes k es t) ≡ still s
  unpaid go k n es s t h = let e = lt_false k n h in rw e

  none_paid : (go : ℕ → S → Ran S E) (s : S) (o : Turn S E) → pay go 0 s o ≡ still s
  none_paid go s stops = refl
  none_paid go s (goes k es t) = unpaid go k 0 es s t (omega arith)

  same_pay : (f g : ℕ → S → Ran S E) (n : ℕ) (s : S) (o : Turn S E) → ((m : ℕ) (t : S) → m < n → f m t ≡ g m t) → pay f n s o ≡ pay g n s o
  same_pay f g n s stops h = refl
  same_pay f g n s (goes k es t) h = go (nat_lt k n) refl
    where
      go : (b : Bool) → nat_lt k n ≡ b → (if b then after es (f (n - suc k) t) else still s) ≡ (if b then after es (g (n - suc k) t) else still s)
      go true e = let lt : k < n = grind arith in ap (after es) (h (n - suc k) t (omega arith))
      go false e = refl

  -- the number of moves that may be made doesn't matter where it is at least the cost
  same_moves : (a b n : ℕ) (s : S) → n ≤ a → n ≤ b → run_with next a n s ≡ run_with next b n s
  same_moves zero zero n s ha hb = refl
  same_moves zero (suc b) n s ha hb =
      let z : 0 ≡ n = omega arith in
      subst (λ m. still s ≡ pay (run_with next b) m s (next s)) z (sym (none_paid (run_with next b) s (next s)))
  same_moves (suc a) zero n s ha hb =
      let z : 0 ≡ n = omega arith in
      subst (λ m. pay (run_with next a) m s (next s) ≡ still s) z (none_paid (run_with next a) s (next s))
  same_moves (suc a) (suc b) n s ha hb = same_pay (run_with next a) (run_with next b) n s (next s) (λ m t h. same_moves a b m t (omega arith) (omega arith))

  pub one_move : (k n : ℕ) (es : List E) (s t : S) → next s ≡ goes k es t → run next (suc (k + n)) s ≡ after es (run next n t)
  one_move k n es s t e =
      ap (pay (run_with next (k + n)) (suc (k + n)) s) e
      ∙ paid (run_with next (k + n)) k (suc (k + n)) es s t (omega arith)
      ∙ (let z : suc (k + n) - suc k ≡ n = omega arith in
      ap (λ m. after es (run_with next (k + n) m t)) z
      ∙ ap (after es) (same_moves (k + n) n n t (omega arith) (omega arith)))

  pub too_dear : (k n : ℕ) (es : List E) (s t : S) → next s ≡ goes k es t → n ≤ k → run next n s ≡ still s
  too_dear k zero es s t e le = refl
  too_dear k (suc n) es s t e le = ap (pay (run_with next n) (suc n) s) e ∙ unpaid (run_with next n) k (suc n) es s t le

  pub no_move : (n : ℕ) (s : S) → next s ≡ stops → run next n s ≡ still s
  no_move zero s e = refl
  no_move (suc n) s e = ap (pay (run_with next n) (suc n) s) e

  pub leads_run : (s t : S) (k n : ℕ) (es : List E) → Leads next s k es t → run next (k + n) s ≡ after es (run next n t)
  leads_run s t k n es stays = let e : 0 + n ≡ n = omega arith in ap (λ m. run next m s) e
  leads_run s t k n es (moves {t = mid} {k = k1} {n = n1} {m = m} {es = es1} {fs = fs} e l em eg) =
      let z : k + n ≡ suc (k1 + (n1 + n)) = omega arith in
      ap (λ m. run next m s) z
      ∙ one_move k1 (n1 + n) es1 s mid e
      ∙ ap (after es1) (leads_run mid t n1 n fs l)
      ∙ ap (λ xs. record { events = xs; last = (run next n t).last }) (sym (append_assoc es1 fs (run next n t).events) ∙ ap (λ xs. xs ++ (run next n t).events) (sym eg))

  pub leads_on : (s t u : S) (k n : ℕ) (es fs : List E) → Leads next s k es t → Leads next t n fs u → Leads next s (k + n) (es ++ fs) u
  leads_on s t u k n es fs stays r = let e : n ≡ 0 + n = omega arith in subst (λ m. Leads next s m fs u) e r
  leads_on s t u k n es fs (moves {t = mid} {k = k1} {n = n1} {es = es1} {fs = fs1} e l em eg) r =
      moves e (leads_on mid t u n1 n fs1 fs l r) (omega arith) (ap (λ xs. xs ++ fs) eg ∙ append_assoc es1 fs1 fs)

  -- a longer run makes the same events, and then more
  pub prefix_on : (es xs ys : List E) → IsPrefix xs ys → IsPrefix (es ++ xs) (es ++ ys)
  prefix_on es xs ys h = (h.0, ap (λ zs. es ++ zs) h.1 ∙ sym (append_assoc es xs h.0))

  prefix_of_none : (xs ys : List E) → xs ≡ [] → IsPrefix xs ys
  prefix_of_none xs ys e = (ys, ap (λ zs. zs ++ ys) (sym e))

  pub prefix_of_longer : (fuel n more : ℕ) (s : S) → n ≤ fuel → IsPrefix (run next n s).events (run next (n + more) s).events
  prefix_of_longer zero n more s le =
      let z : n ≡ 0 = omega arith in prefix_of_none (run next n s).events (run next (n + more) s).events (ap (λ k. (run next k s).events) z)
  prefix_of_longer (suc fuel) n more s le = by_turn (λ n' t h. prefix_of_longer fuel n' more t h) (next s) refl
    where
      by_turn : ((n' : ℕ) (t : S) → n' ≤ fuel → IsPrefix (run next n' t).events (run next (n' + more) t).events) → (o : Turn S E) → next s ≡ o
          → IsPrefix (run next n s).events (run next (n + more) s).events
      by_turn ih stops e = prefix_of_none (run next n s).events (run next (n + more) s).events (ap (λ r. r.events) (no_move n s e))
      by_turn ih (goes k es t) e =
          ⊎_elim
          (λ lt. prefix_of_none (run next n s).events (run next (n + more) s).events (ap (λ r. r.events) (too_dear k n es s t e (omega arith))))
          (λ ge.
          let z : n ≡ suc (k + (n - suc k)) = omega arith in
          let z' : n + more ≡ suc (k + (n - suc k + more)) = omega arith in
          let a : (run next n s).events ≡ es ++ (run next (n - suc k) t).events = ap (λ j. (run next j s).events) z ∙ ap (λ r. r.events) (one_move k (n - suc k) es s t e) in
          let b : (run next (n + more) s).events ≡ es ++ (run next (n - suc k + more) t).events = ap (λ j. (run next j s).events) z' ∙ ap (λ r. r.events) (one_move k (n - suc k + more) es s t e) in
          rw (a, b) (prefix_on es (run next (n - suc k) t).events (run next (n - suc k + more) t).events (ih (n - suc k) t (omega arith))))
          (cases_lt n (suc k))

  -- stretches of one cost are one
  pub leads_one : (s t u : S) (n : ℕ) (es fs : List E) → Leads next s n es t → Leads next s n fs u → (es ≡ fs) × (t ≡ u)
  leads_one s t u n es fs a b =
      let ra : run next (n + 0) s ≡ after es (run next 0 t) = leads_run s t n 0 es a in
      let rb : run next (n + 0) s ≡ after fs (run next 0 u) = leads_run s u n 0 fs b in
      let both : after es (run next 0 t) ≡ after fs (run next 0 u) = sym ra ∙ rb in
      (sym (append-nil es) ∙ ap (λ r. r.events) both ∙ append-nil fs, ap (λ r. r.last) both)

  -- a longer stretch goes on from where a shorter one leads
  pub leads_beyond : (s t u : S) (j n : ℕ) (es fs : List E) → Leads next s j es t → Leads next s n fs u → j ≤ n → (gs : List E) × Leads next t (n - j) gs u
  leads_beyond s t u j n es fs stays r le = let z : n ≡ n - 0 = omega arith in (fs, subst (λ k. Leads next s k fs u) z r)
  leads_beyond s t u j n es fs (moves e l em eg) stays le = let z : ⊥ = omega arith in absurd z
  leads_beyond s t u j n es fs (moves {t = t1} {k = k1} {n = n1} {es = es1} {fs = fs1} e l em eg) (moves {t = t2} {k = k2} {n = n2} {es = es2} {fs = fs2} e' l' em' eg') le =
      let same : goes k1 es1 t1 ≡ goes k2 es2 t2 = sym e ∙ e' in
      let same_k : k1 ≡ k2 = cc in
      let same_t : t2 ≡ t1 = cc in
      let on = leads_beyond t1 t u n1 n2 fs1 fs2 l (subst (λ x. Leads next x n2 fs2 u) same_t l') (omega arith) in
      let z : n2 - n1 ≡ n - j = omega arith in
      (on.0, subst (λ k. Leads next t k on.0 u) z on.1)

  -- where nothing goes on a stretch ends
  pub leads_stopped : (s t : S) (n : ℕ) (es : List E) → next s ≡ stops → Leads next s n es t → (n ≡ 0) × (s ≡ t) × (es ≡ [])
  leads_stopped s t n es e stays = (refl, refl, refl)
  leads_stopped s t n es e (moves {t = t1} {k = k1} {es = es1} e' l em eg) = let z : stops ≡ goes k1 es1 t1 = sym e ∙ e' in cc

  -- a stretch that costs something begins with a move that is no dearer
  pub leads_first : (s t : S) (n : ℕ) (es : List E) → Leads next s n es t → 0 < n → (k : ℕ) × (fs : List E) × (u : S) × (next s ≡ goes k fs u) × (suc k ≤ n)
  leads_first s t n es stays pos = let z : ⊥ = omega arith in absurd z
  leads_first s t n es (moves {t = t1} {k = k1} {es = es1} e l em eg) pos = (k1, es1, t1, e, omega arith)

  -- a stretch that costs nothing stays
  pub leads_nowhere : (s t : S) (n : ℕ) (es : List E) → Leads next s n es t → n ≡ 0 → s ≡ t
  leads_nowhere s t n es stays z = refl
  leads_nowhere s t n es (moves e l em eg) z = let w : ⊥ = omega arith in absurd w

  runs_still : (n : ℕ) (s : S) → CostsMore n (next s) → IsRun next n s (still s)
  runs_still n s h = let z : n ≡ n - 0 = omega arith in record { cost = 0; within = omega arith; leads = stays; dearer = subst (λ k. CostsMore k (next s)) z h }

  dearer_by : (n : ℕ) (o o' : Turn S E) → o ≡ o' → CostsMore n o' → CostsMore n o
  dearer_by n o o' e h = subst (CostsMore n) (sym e) h

  pub run_is_run : (fuel n : ℕ) (s : S) → n ≤ fuel → IsRun next n s (run next n s)
  run_is_run fuel n s le = by_fuel fuel n s le
    where
      poor : (n : ℕ) (s : S) (o : Turn S E) → next s ≡ o → n ≡ 0 → IsRun next n s (run next n s)
      poor n s o e z = subst (IsRun next n s) (sym (ap (λ k. run next k s) z)) (runs_still n s (dearer_by n (next s) o e (none_left o)))
        where
          none_left : (o : Turn S E) → CostsMore n o
          none_left stops = tt
          none_left (goes k es t) = omega arith

      by_turn : (fuel n : ℕ) (s : S) → n ≤ suc fuel → ((n' : ℕ) (t : S) → n' ≤ fuel → IsRun next n' t (run next n' t)) → (o : Turn S E) → next s ≡ o → IsRun next n s (run next n s)
      by_turn fuel n s le ih stops e = subst (IsRun next n s) (sym (no_move n s e)) (runs_still n s (dearer_by n (next s) stops e tt))
      by_turn fuel n s le ih (goes k es t) e =
          ⊎_elim
          (λ lt. let few : n ≤ k = omega arith in subst (IsRun next n s) (sym (too_dear k n es s t e few)) (runs_still n s (dearer_by n (next s) (goes k es t) e few)))
          (λ ge.
          let z : n ≡ suc (k + (n - suc k)) = omega arith in
          let r : run next n s ≡ after es (run next (n - suc k) t) = ap (λ j. run next j s) z ∙ one_move k (n - suc k) es s t e in
          let on = ih (n - suc k) t (omega arith) in
          let within = on.within in
          let left : n - suc k - on.cost ≡ n - (suc k + on.cost) = omega arith in
          subst (IsRun next n s) (sym r) (record {
            cost = suc k + on.cost;
            within = omega arith;
            leads = moves e on.leads refl refl;
            dearer = subst (λ j. CostsMore j (next (run next (n - suc k) t).last)) left on.dearer;
          }))
          (cases_lt n (suc k))

      by_fuel : (fuel n : ℕ) (s : S) → n ≤ fuel → IsRun next n s (run next n s)
      by_fuel zero n s le = poor n s (next s) refl (omega arith)
      by_fuel (suc fuel) n s le = by_turn fuel n s le (λ n' t h. by_fuel fuel n' t h) (next s) refl

-- a machine whose moves are those of another, its states mapped
pub run_mapped : (S T E : Type 0) (na : S → Turn S E) (nb : T → Turn T E) (f : S → T) → ((s : S) → nb (f s) ≡ turned f (na s)) → (most n : ℕ) (s : S)
    → run_with nb most n (f s) ≡ mapped f (run_with na most n s)
run_mapped S T E na nb f h zero n s = refl
run_mapped S T E na nb f h (suc most) n s = ap (pay (run_with nb most) n (f s)) (h s) ∙ by_turn (λ n t. run_mapped S T E na nb f h most n t) (na s)
  where
    by_turn : ((n : ℕ) (t : S) → run_with nb most n (f t) ≡ mapped f (run_with na most n t)) → (o : Turn S E) → pay (run_with nb most) n (f s) (turned f o) ≡ mapped f (pay (run_with na most) n s o)
    by_turn ih stops = refl
    by_turn ih (goes k es t) = by_cost (nat_lt k n)
      where
        by_cost : (b : Bool) → (if b then after es (run_with nb most (n - suc k) (f t)) else still (f s)) ≡ mapped f (if b then after es (run_with na most (n - suc k) t) else still s)
        by_cost true = ap (after es) (ih (n - suc k) t)
        by_cost false = refl
