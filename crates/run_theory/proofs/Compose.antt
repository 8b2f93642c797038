-- Two machines that follow one another in turn.
use Rattle.std.proofs.Common.{◌≡◌, ℕ, suc, ◌+◌, ◌-◌, ◌≤◌, List, [], ◌∷◌, ◌++◌, refl, ap, ◌∙◌, subst, ⊎_elim, arith}
use Rattle.std.proofs.lemmas.Bool.{cases_lt}
use Rattle.wa_model.specs.Machine.{Turn, run, Leads, stays, moves}
use Rattle.run_theory.proofs.Runs.{one_move, too_dear}
use Rattle.run_theory.proofs.Follow.{Begins, Alike}

-- what is made within a stretch begins what the stretch makes
begins_self : {A : Type 0} (xs : List A) → Begins (λ x y. x ≡ y) xs []
begins_self xs = tt

begins_front : {A : Type 0} (es xs ys : List A) → Begins (λ x y. x ≡ y) xs ys → Begins (λ x y. x ≡ y) (es ++ xs) (es ++ ys)
begins_front [] xs ys h = h
begins_front (e ∷ es) xs ys h = (refl, begins_front es xs ys h)

pub leads_begins : (S E : Type 0) (next : S → Turn S E) (s t : S) (k m : ℕ) (es : List E) → Leads next s k es t → m ≤ k → Begins (λ x y. x ≡ y) es (run next m s).events
leads_begins S E next s t k m es stays le = let z : m ≡ 0 = omega arith in let e : (run next m s).events ≡ [] = ap (λ n. (run next n s).events) z in rw e tt
leads_begins S E next s t k m es (moves {t = mid} {k = k1} {n = n1} {es = es1} {fs = fs} e l em eg) le =
    ⊎_elim
    (λ lt. let z : (run next m s).events ≡ [] = ap (λ r. r.events) (too_dear S E next k1 m es1 s mid e (omega arith)) in rw z tt)
    (λ ge.
    let n : m ≡ suc (k1 + (m - suc k1)) = omega arith in
    let z : (run next m s).events ≡ es1 ++ (run next (m - suc k1) mid).events = ap (λ j. (run next j s).events) n ∙ ap (λ r. r.events) (one_move S E next k1 (m - suc k1) es1 s mid e) in
    rw (z, eg) (begins_front es1 fs (run next (m - suc k1) mid).events (leads_begins S E next mid t n1 (m - suc k1) fs l (omega arith))))
    (cases_lt m (suc k1))

-- so within a stretch whose events are alike A's, what B has made begins A's
pub early : {A B : Type 0} (Q : A → B → Type 0) (es : List A) (fs ys : List B) → Alike Q es fs → Begins (λ x y. x ≡ y) fs ys → Begins Q es ys
early Q es fs [] al h = tt
early Q [] [] (y ∷ ys) al h = h
early Q [] (f ∷ fs) (y ∷ ys) al h = absurd al
early Q (e ∷ es) [] (y ∷ ys) al h = absurd al
early Q (e ∷ es) (f ∷ fs) (y ∷ ys) al h = (subst (Q e) h.0 al.0, early Q es fs ys al.1 h.1)
