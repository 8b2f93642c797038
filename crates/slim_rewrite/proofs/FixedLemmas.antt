-- What calls fix.
use Rattle.std.proofs.Common.{◌≡◌, ℕ, zero, suc, ◌+◌, ◌-◌, ◌<◌, List, [], ◌∷◌, ◌++◌, length, Some, Bool, true, false, refl, sym, ap, ◌∙◌, subst, arith, length-append}
use Rattle.std.specs.Prelude.{slice_get}
use Rattle.run_theory.specs.Flat.{Stmts, no_more, computes, copies, calls, leaps, leaps_if, leaps_by, nests, decides, halts}
use Rattle.run_theory.specs.FlatFits.{StmtsFit}
use Rattle.guard_form.specs.Grouping.{is_place}
use Rattle.guard_form.specs.Pieces.{call_total}
use Rattle.guard_form.proofs.PlacesOfCalls.{total_is}
use Rattle.flat_laws.specs.FlatModule.{stacks_in}
use Rattle.slim_laws.specs.Slim.{Free, Held, Terms}
use Rattle.slim_rewrite.specs.Coming.{calls_in, CallsFixed, FixedFor}
use Rattle.slim_laws.specs.SlimModule.{fixed_at, fixed_where, locals_below}

-- ---- lists

left_get : (xs ys : List (List ℕ)) (i : ℕ) (z : List ℕ) → slice_get xs i ≡ Some z → slice_get (xs ++ ys) i ≡ Some z
left_get [] ys i z e = cc
left_get (x ∷ xs) ys zero z e = e
left_get (x ∷ xs) ys (suc i) z e = left_get xs ys i z e

right_get : (xs ys : List (List ℕ)) (n i : ℕ) → n ≡ length xs + i → slice_get (xs ++ ys) n ≡ slice_get ys i
right_get [] ys n i e = let z : n ≡ i = omega arith in ap (slice_get ys) z
right_get (x ∷ xs) ys zero i e = absurd (omega arith)
right_get (x ∷ xs) ys (suc n) i e = right_get xs ys n i (omega arith)

held_both : (f : Free) (xs ys : List ℕ) → Held f xs → Held f ys → Held f (xs ++ ys)
held_both f [] ys h k = k
held_both f (x ∷ xs) ys h k = (h.0, held_both f xs ys h.1 k)

held_below : (f : Free) (n : ℕ) → ((y : ℕ) → y < n → f y ≡ false) → Held f (locals_below n)
held_below f zero h = tt
held_below f (suc n) h = (h n (omega arith), held_below f n (λ y lt. h y (omega arith)))

pub stacks_count : (s : Stmts) → length (stacks_in s) ≡ call_total s
unfolding stacks_in
stacks_count no_more = refl
stacks_count (computes op args to rest) = stacks_count rest
stacks_count (copies to from rest) = stacks_count rest
stacks_count (calls op stack args to rest) = let h = stacks_count rest in omega arith
stacks_count (leaps l rest) = stacks_count rest
stacks_count (leaps_if c l rest) = stacks_count rest
stacks_count (leaps_by c ls l rest) = stacks_count rest
stacks_count (nests y body rest) = let a = stacks_count body in let b = stacks_count rest in let e = length-append (stacks_in body) (stacks_in rest) in omega arith
stacks_count (decides c x y rest) =
    let a = stacks_count x in let b = stacks_count y in let d = stacks_count rest in
    let e = length-append (stacks_in x) (stacks_in y ++ stacks_in rest) in let f = length-append (stacks_in y) (stacks_in rest) in omega arith
stacks_count (halts rest) = stacks_count rest

-- ---- calls

module _ (ps : List ℕ) (own : ℕ) (t : Terms) (stacks : List (List ℕ)) (fixed : (j : ℕ) → t.fixed j ≡ fixed_at ps own stacks j) (own_free : (y : ℕ) → y < own → t.slot y ≡ false) where
  fixed_one : (b : Bool) (stack : List ℕ) (k : ℕ) → t.fixed k ≡ fixed_where b own (Some stack) → FixedFor t b stack k
  fixed_one true stack k e = λ f others held. subst (Held f) (sym e) (held_both f (locals_below own) stack (held_below f own (λ y lt. others y (own_free y lt))) held)
  fixed_one false stack k e = e

  abbrev At : (n : ℕ) → List (List ℕ) → Type 0
  At n xs = (i : ℕ) (z : List ℕ) → slice_get xs i ≡ Some z → slice_get stacks (n + i) ≡ Some z

  at_left : (n : ℕ) (xs ys : List (List ℕ)) → At n (xs ++ ys) → At n xs
  at_left n xs ys h i z e = h i z (left_get xs ys i z e)

  at_right : (n k : ℕ) (xs ys : List (List ℕ)) → k ≡ n + length xs → At n (xs ++ ys) → At k ys
  at_right n k xs ys e h i z q =
      let w : n + (length xs + i) ≡ k + i = omega arith in
      sym (ap (slice_get stacks) w) ∙ h (length xs + i) z (right_get xs ys (length xs + i) i refl ∙ q)

  pub all_fixed : (locals labels n k : ℕ) (s : Stmts) → StmtsFit locals labels s → length stacks ≡ n + (call_total s + k) → At n (stacks_in s) → CallsFixed t ps n k s
  unfolding stacks_in
  all_fixed locals labels n k no_more fit len at = tt
  all_fixed locals labels n k (computes op args to rest) fit len at = all_fixed locals labels n k rest fit.4 len at
  all_fixed locals labels n k (copies to from rest) fit len at = all_fixed locals labels n k rest fit.2 len at
  all_fixed locals labels n k (calls op stack args to rest) fit len at =
      let c = total_is locals labels rest fit.5 in
      let w : length stacks - suc (calls_in rest + k) ≡ n = omega arith in
      let z : n + 0 ≡ n = omega arith in
      let v : n + 1 ≡ suc n = omega arith in (
        fixed_one (is_place ps n) stack (calls_in rest + k)
            (fixed (calls_in rest + k) ∙ ap (λ i. fixed_where (is_place ps i) own (slice_get stacks i)) w
            ∙ ap (fixed_where (is_place ps n) own) (sym (ap (slice_get stacks) z) ∙ at 0 stack refl)),
        all_fixed locals labels (suc n) k rest fit.5 (omega arith) (at_right n (suc n) (stack ∷ []) (stacks_in rest) (sym v) at),
      )
  all_fixed locals labels n k (leaps l rest) fit len at = all_fixed locals labels n k rest fit.1 len at
  all_fixed locals labels n k (leaps_if c l rest) fit len at = all_fixed locals labels n k rest fit.2 len at
  all_fixed locals labels n k (leaps_by c ls l rest) fit len at = all_fixed locals labels n k rest fit.3 len at
  all_fixed locals labels n k (nests y body rest) fit len at =
      let c = total_is locals labels rest fit.1 in
      let b = stacks_count body in (
        all_fixed locals (suc labels) n (calls_in rest + k) body fit.0 (omega arith) (at_left n (stacks_in body) (stacks_in rest) at),
        all_fixed locals labels (n + call_total body) k rest fit.1 (omega arith) (at_right n (n + call_total body) (stacks_in body) (stacks_in rest) (omega arith) at),
      )
  all_fixed locals labels n k (decides o a b rest) fit len at =
      let c = total_is locals labels rest fit.3 in
      let d = total_is locals (suc labels) b fit.2 in
      let ca = stacks_count a in let cb = stacks_count b in
      let behind : At (n + call_total a) (stacks_in b ++ stacks_in rest) = at_right n (n + call_total a) (stacks_in a) (stacks_in b ++ stacks_in rest) (omega arith) at in (
        all_fixed locals (suc labels) n (calls_in b + (calls_in rest + k)) a fit.1 (omega arith) (at_left n (stacks_in a) (stacks_in b ++ stacks_in rest) at),
        all_fixed locals (suc labels) (n + call_total a) (calls_in rest + k) b fit.2 (omega arith) (at_left (n + call_total a) (stacks_in b) (stacks_in rest) behind),
        all_fixed locals labels (n + call_total a + call_total b) k rest fit.3 (omega arith)
            (at_right (n + call_total a) (n + call_total a + call_total b) (stacks_in b) (stacks_in rest) (omega arith) behind),
      )
  all_fixed locals labels n k (halts rest) fit len at = all_fixed locals labels n k rest fit len at
