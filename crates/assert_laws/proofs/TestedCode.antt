-- Code beside its code with asserts.
use Rattle.std.proofs.Common.{◌≡◌, ℕ, ◌++◌, List, [], ◌∷◌, Option, Some, None, Bool, true, false, refl, sym, ap, subst}
use Rattle.std.specs.Prelude.{if◌then◌else◌}
use Rattle.wa_types.specs.Pausing.{Callee, callee, callee_onto, calls_of}
use Rattle.wa_types.specs.Pruned.{is_last, pruned}
use Rattle.wa_types.specs.Syntax.{Code, done, plain, nest, branch}
use Rattle.guard_form.specs.Asserts.{any_callee, tested_behind, asserted, asserted_reached}
use Rattle.assert_laws.specs.Beside.{Tested, at_done, at_plain, at_last, at_nest, at_branch, AllTested, AssertedIsTested, ReachedIsTested}

pub asserted_law : AssertedIsTested
unfolding asserted
asserted_law tests st done = at_done
asserted_law tests st (plain p rest) = at_plain p (asserted_law tests st rest)
asserted_law tests st (nest y r body rest) = at_nest y r (asserted_law tests st body) (asserted_law tests st rest)
asserted_law tests st (branch r a b rest) = at_branch r (asserted_law tests st a) (asserted_law tests st b) (asserted_law tests st rest)

-- the calls in front of others
all_first : (tests : Callee → Bool) (xs ys : List Callee) → AllTested tests (xs ++ ys) → AllTested tests xs × AllTested tests ys
all_first tests [] ys h = (tt, h)
all_first tests (x ∷ xs) ys h = let r = all_first tests xs ys h.1 in ((h.0, r.0), r.1)

-- what is wanted behind any callee is wanted behind one that is tested
behind_any : (tests : Callee → Bool) (st : ℕ) (o : Option Callee) (cs : List Callee) (rest : Code) → AllTested tests (callee_onto o cs)
    → (tested_behind tests st o rest ≡ tested_behind any_callee st o rest) × AllTested tests cs
behind_any tests st None cs rest h = (refl, h)
behind_any tests st (Some x) cs rest h = (ap (λ b. if b then tested_behind any_callee st (Some x) rest else rest) h.0, h.1)

pub reached_law : ReachedIsTested
unfolding pruned calls_of asserted_reached
reached_law tests st done h = at_done
reached_law tests st (plain p rest) h = by (is_last p) refl h (λ g. reached_law tests st rest g)
  where
    by : (b : Bool) → is_last p ≡ b → AllTested tests (callee_onto (callee p) (calls_of (if is_last p then done else pruned rest)))
        → (AllTested tests (calls_of (pruned rest)) → Tested tests st rest (asserted_reached st rest))
        → Tested tests st (plain p rest) (plain p (if is_last p then rest else tested_behind any_callee st (callee p) (asserted_reached st rest)))
    by true e g ih =
        at_last p rest (if is_last p then rest else tested_behind any_callee st (callee p) (asserted_reached st rest)) e
        (ap (λ b. calls_of (if b then rest else tested_behind any_callee st (callee p) (asserted_reached st rest))) e)
    by false e g ih =
        let g2 = subst (λ b. AllTested tests (callee_onto (callee p) (calls_of (if b then done else pruned rest)))) e g in
        let w = behind_any tests st (callee p) (calls_of (pruned rest)) (asserted_reached st rest) g2 in
        subst (λ b. Tested tests st (plain p rest) (plain p (if b then rest else tested_behind any_callee st (callee p) (asserted_reached st rest)))) (sym e)
        (subst (λ c. Tested tests st (plain p rest) (plain p c)) w.0 (at_plain p (ih w.1)))
reached_law tests st (nest y r body rest) h =
    let g = all_first tests (calls_of (pruned body)) (calls_of (pruned rest)) h in
    at_nest y r (reached_law tests st body g.0) (reached_law tests st rest g.1)
reached_law tests st (branch r a b rest) h =
    let g = all_first tests (calls_of (pruned a) ++ calls_of (pruned b)) (calls_of (pruned rest)) h in
    let g2 = all_first tests (calls_of (pruned a)) (calls_of (pruned b)) g.0 in
    at_branch r (reached_law tests st a g2.0) (reached_law tests st b g2.1) (reached_law tests st rest g.1)
