-- Programs whose steps reach for all that their originals do.
use Rattle.std.proofs.Common.{arith, ◌≡◌, ◌≤◌, ◌<◌, ◌+◌, ◌*◌, ◌-◌, ℕ, zero, suc, List, [], ◌∷◌, ◌++◌, length, take, Some, true, false, All, refl, sym, ap, ◌∙◌, subst, ⊎_elim, append-nil, length-append}
use Rattle.std.specs.Prelude.{slice_get}
use Rattle.std.specs.List.{sum_by}
use Rattle.std.proofs.lemmas.Bool.{cases_lt}
use Rattle.std.proofs.lemmas.List.Elements.{All-head, All-tail}
use Rattle.wa_types.specs.Syntax.{Module}
use Rattle.wa_types.specs.Frames.{Suspended}
use Rattle.wa_types.specs.Bounds.{Bound, activation_bound}
use Rattle.wa_model.specs.Blocking.{Note, Blocking}
use Rattle.wa_model.specs.Behaves.{pause_stacks, expected_notes}
use Rattle.world_model.specs.World.{is_end, BlockingStory, whole, spent}
use Rattle.run_laws.proofs.Growing.{expected_grow}
use Rattle.run_laws.proofs.Ending.{expected_end_last}
use Rattle.world_laws.specs.Bounded.{BoundedAreWhole}

bound_above : (m : Module) (c n : ℕ) (pauses : List (List Suspended)) → Bound m c pauses ≤ n → c ≤ n
bound_above m c n pauses le = above (sum_by (λ (stack : List Suspended). 256 + sum_by (activation_bound m) stack) pauses) le
  where
    above : (more : ℕ) → 256 * (c + 1) + more ≤ n → c ≤ n
    above more h = omega arith

got_first : (xs ys : List Note) (i : ℕ) (x : Note) → slice_get xs i ≡ Some x → slice_get (xs ++ ys) i ≡ Some x
got_first [] ys i x e = cc
got_first (y ∷ xs) ys zero x e = e
got_first (y ∷ xs) ys (suc i) x e = got_first xs ys i x e

no_end_before : (xs : List Note) (j i : ℕ) (x : Note) → slice_get xs i ≡ Some x → i < j → is_end x.event ≡ true → All (λ (y : Note). is_end y.event ≡ false) (take j xs) → ⊥
no_end_before [] j i x e lt h all = cc
no_end_before (y ∷ xs) zero i x e lt h all = omega arith
no_end_before (y ∷ xs) (suc j) zero x e lt h all =
    let same : y ≡ x = some_same y x e in
    let f : is_end y.event ≡ false = All-head (λ (y : Note). is_end y.event ≡ false) y (take j xs) all in
    let bad : true ≡ false = sym h ∙ ap (λ (z : Note). is_end z.event) (sym same) ∙ f in
    cc
  where
    some_same : (a b : Note) → Some a ≡ Some b → a ≡ b
    some_same a b e = cc
no_end_before (y ∷ xs) (suc j) (suc i) x e lt h all = no_end_before xs j i x e (omega arith) h (All-tail (λ (y : Note). is_end y.event ≡ false) y (take j xs) all)

none_left : (xs : List Note) → length xs ≡ 0 → xs ≡ []
none_left [] e = refl
none_left (x ∷ xs) e = let no_way : ⊥ = omega arith in absurd no_way

pub bounded_are_whole : BoundedAreWhole
bounded_are_whole s w os notes cost i x story there ends bound = by_story story
  where
    E : ℕ → List Note
    E k = expected_notes w.source s w.plan os k

    le : cost ≤ w.steps
    le = bound_above w.source cost w.steps (pause_stacks (Blocking w.source w.plan os cost).events) bound

    split : (rest : List Note) × (expected_notes w.source s w.plan os w.steps ≡ expected_notes w.source s w.plan os cost ++ rest)
    split =
        let g = expected_grow w.source s w.plan os cost (w.steps - cost) in
        let z : w.steps ≡ cost + (w.steps - cost) = omega (arith, le) in
        (g.0, ap (λ (k : ℕ). expected_notes w.source s w.plan os k) z ∙ g.1)

    at_end : slice_get (expected_notes w.source s w.plan os w.steps) i ≡ Some x
    at_end = ap (λ (ns : List Note). slice_get ns i) split.1 ∙ got_first (expected_notes w.source s w.plan os cost) split.0 i x there

    len : length (expected_notes w.source s w.plan os cost) ≡ suc i
    len = expected_end_last w.source s w.plan os cost i x there ends

    same : expected_notes w.source s w.plan os w.steps ≡ expected_notes w.source s w.plan os cost
    same =
        let all = expected_end_last w.source s w.plan os w.steps i x at_end ends in
        let parts = ap length split.1 ∙ length-append (expected_notes w.source s w.plan os cost) split.0 in
        let none : split.0 ≡ [] = none_left split.0 (omega (arith, all, parts, len)) in
        split.1 ∙ ap (λ (ns : List Note). expected_notes w.source s w.plan os cost ++ ns) none ∙ append-nil (expected_notes w.source s w.plan os cost)

    by_story : BlockingStory s w os notes → notes ≡ expected_notes w.source s w.plan os cost
    by_story (whole y before ns e f g) = e ∙ same
    by_story (spent j before ns at e f lives uncertain moment g) =
        absurd (⊎_elim
        (λ lt. no_end_before (expected_notes w.source s w.plan os w.steps) j i x at_end lt ends (subst (All (λ (y : Note). is_end y.event ≡ false)) e lives))
        (λ ge. uncertain (cost, omega (arith, ge, len), bound))
        (cases_lt i j))
