-- Moves of a machine, with what holds of each state on the way.
use Rattle.std.proofs.Common.{◌≡◌, ℕ, suc, ◌+◌, ◌-◌, List, [], ◌++◌, sym, ap, ◌∙◌, subst, ⊎_elim, arith, append_assoc}
use Rattle.std.proofs.lemmas.Bool.{cases_lt}
use Rattle.wa_model.specs.Machine.{Turn, goes, stops, Ran, after, run, Leads, stays, moves}
use Rattle.run_theory.proofs.Runs.{no_move, one_move, too_dear}

pub data Path {S E : Type 0} (next : S → Turn S E) (Q : S → Type 0) : S → ℕ → List E → S → Type 0 where
  at_end : {s : S} → Path next Q s 0 [] s
  on_way : {s t u : S} {k n m : ℕ} {es fs gs : List E} → Q s → next s ≡ goes k es t → Path next Q t n fs u → m ≡ suc k + n → gs ≡ es ++ fs → Path next Q s m gs u

module _ {S E : Type 0} (next : S → Turn S E) (Q : S → Type 0) where
  pub path_leads : (s u : S) (n : ℕ) (es : List E) → Path next Q s n es u → Leads next s n es u
  path_leads s u n es at_end = stays
  path_leads s u m gs (on_way {t = t} {n = n} {fs = fs} h e rest em eg) = moves e (path_leads t u n fs rest) em eg

  pub path_on : (s t u : S) (k n : ℕ) (es fs : List E) → Path next Q s k es t → Path next Q t n fs u → Path next Q s (k + n) (es ++ fs) u
  path_on s t u k n es fs at_end r = let e : n ≡ 0 + n = omega arith in subst (λ m. Path next Q s m fs u) e r
  path_on s t u k n es fs (on_way {t = mid} {n = n1} {es = es1} {fs = fs1} h e rest em eg) r =
      on_way h e (path_on mid t u n1 n fs1 fs rest r) (omega arith) (ap (λ xs. xs ++ fs) eg ∙ append_assoc es1 fs1 fs)

  -- a run stands on the way, or at the end where nothing goes on
  pub path_keeps : (s u : S) (m : ℕ) (es : List E) → Path next Q s m es u → Q u → next u ≡ stops → (n : ℕ) → Q (run next n s).last
  path_keeps s u m es at_end q e n = subst (λ (r : Ran S E). Q r.last) (sym (no_move S E next n s e)) q
  path_keeps s u m gs (on_way {t = t} {k = k} {n = n1} {es = es} {fs = fs} h e rest em eg) q stop n =
      ⊎_elim
      (λ lt. subst (λ (r : Ran S E). Q r.last) (sym (too_dear S E next k n es s t e (omega arith))) h)
      (λ ge.
      let z : n ≡ suc (k + (n - suc k)) = omega arith in
      let same : run next n s ≡ after es (run next (n - suc k) t) = ap (λ j. run next j s) z ∙ one_move S E next k (n - suc k) es s t e in
      subst (λ (r : Ran S E). Q r.last) (sym same) (path_keeps t u n1 fs rest q stop (n - suc k)))
      (cases_lt n (suc k))
