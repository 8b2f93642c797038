-- What is read first, with what several worlds tell together.
use Rattle.std.proofs.Common.{◌≡◌, ◌∙◌, ℕ, zero, suc, ◌<◌, ◌≤◌, List, [], ◌∷◌, length, Bool, true, false, not, ◌&&◌, ◌||◌, refl, ap, sym, arith}
use Rattle.std.specs.Prelude.{nat_eq}
use Rattle.std.specs.List.{list_any}
use Rattle.wa_types.specs.Syntax.{Plain, basic, local_get, local_set, local_tee, br, br_if, br_table, return, unreachable, call, call_indirect, a_block, a_loop, Code, done, plain, nest, branch}
use Rattle.wa_types.specs.Liveness.{told_at, live_plain, live}
use Rattle.live_locals.specs.Nests.{joined, in_some, told_in_some, NoneAbove}

four : (a b c d : Bool) → ((a || b) || (c || d)) ≡ ((a || c) || (b || d))
four true b c d = refl
four false true true d = refl
four false true false d = refl
four false false c d = refl

shared : (t a b : Bool) → (t || (a || b)) ≡ ((t || a) || (t || b))
shared true a b = refl
shared false a b = refl

masked : (t a b : Bool) → (t && (a || b)) ≡ ((t && a) || (t && b))
masked true a b = refl
masked false a b = refl

told_joined : (cs ds : List Bool) (l : ℕ) → length cs ≡ length ds → told_at (joined cs ds) l ≡ (told_at cs l || told_at ds l)
told_joined [] [] zero e = refl
told_joined [] [] (suc l) e = refl
told_joined [] (b ∷ ds) l e = absurd (omega (arith, e))
told_joined (a ∷ cs) [] l e = absurd (omega (arith, e))
told_joined (a ∷ cs) (b ∷ ds) zero e = refl
told_joined (a ∷ cs) (b ∷ ds) (suc l) e = told_joined cs ds l (omega (arith, e))

any_joined : (cs ds : List Bool) (ls : List ℕ) → length cs ≡ length ds → list_any (told_at (joined cs ds)) ls ≡ (list_any (told_at cs) ls || list_any (told_at ds) ls)
any_joined cs ds [] e = refl
any_joined cs ds (l ∷ ls) e =
    (λ i. told_joined cs ds l e i || any_joined cs ds ls e i) ∙ four (told_at cs l) (told_at ds l) (list_any (told_at cs) ls) (list_any (told_at ds) ls)

plain_joined : (x : ℕ) (cs ds : List Bool) (p : Plain) (a b : Bool) → length cs ≡ length ds → live_plain x (joined cs ds) p (a || b) ≡ (live_plain x cs p a || live_plain x ds p b)
plain_joined x cs ds (basic c) a b e = refl
plain_joined x cs ds (local_get y) a b e = shared (nat_eq x y) a b
plain_joined x cs ds (local_set y) a b e = masked (not (nat_eq x y)) a b
plain_joined x cs ds (local_tee y) a b e = masked (not (nat_eq x y)) a b
plain_joined x cs ds (br l) a b e = told_joined cs ds l e
plain_joined x cs ds (br_if l) a b e = ap (λ t. t || (a || b)) (told_joined cs ds l e) ∙ four (told_at cs l) (told_at ds l) a b
plain_joined x cs ds (br_table ls l) a b e = any_joined cs ds (l ∷ ls) e
plain_joined x cs ds return a b e = refl
plain_joined x cs ds unreachable a b e = refl
plain_joined x cs ds (call y) a b e = refl
plain_joined x cs ds (call_indirect y) a b e = refl

-- What is read first where two lists are told together is what is read first with one or the other.
live_joined : (x : ℕ) (cs ds : List Bool) (a b : Bool) (k : Code) → length cs ≡ length ds → live x (joined cs ds) (a || b) k ≡ (live x cs a k || live x ds b k)
unfolding live
live_joined x cs ds a b done e = refl
live_joined x cs ds a b (plain p rest) e =
    ap (live_plain x (joined cs ds) p) (live_joined x cs ds a b rest e) ∙ plain_joined x cs ds p (live x cs a rest) (live x ds b rest) e
live_joined x cs ds a b (nest a_block r body rest) e =
    let k = live x cs a rest in let m = live x ds b rest in
    ap (λ t. live x (t ∷ joined cs ds) t body) (live_joined x cs ds a b rest e) ∙ live_joined x (k ∷ cs) (m ∷ ds) k m body (omega (arith, e))
live_joined x cs ds a b (nest a_loop r body rest) e =
    let k = live x cs a rest in let m = live x ds b rest in
    ap (λ t. live x (false ∷ joined cs ds) t body) (live_joined x cs ds a b rest e) ∙ live_joined x (false ∷ cs) (false ∷ ds) k m body (omega (arith, e))
live_joined x cs ds a b (branch r p q rest) e =
    let k = live x cs a rest in let m = live x ds b rest in
    ap (λ t. live x (t ∷ joined cs ds) t p || live x (t ∷ joined cs ds) t q) (live_joined x cs ds a b rest e)
    ∙ (λ i. live_joined x (k ∷ cs) (m ∷ ds) k m p (omega (arith, e)) i || live_joined x (k ∷ cs) (m ∷ ds) k m q (omega (arith, e)) i)
    ∙ four (live x (k ∷ cs) k p) (live x (m ∷ ds) m p) (live x (k ∷ cs) k q) (live x (m ∷ ds) m q)

joined_long : (cs ds : List Bool) → length cs ≡ length ds → length (joined cs ds) ≡ length cs
joined_long [] ds e = refl
joined_long (c ∷ cs) [] e = absurd (omega (arith, e))
joined_long (c ∷ cs) (d ∷ ds) e = ap suc (joined_long cs ds (omega (arith, e)))

module _ (told : ℕ → List Bool) (long : (i : ℕ) → length (told i) ≡ length (told 0)) where
  some_long : (ws : List ℕ) → length (told_in_some ws told) ≡ length (told 0)
  some_long [] = refl
  some_long (w ∷ ws) = joined_long (told_in_some ws told) (told w) (some_long ws ∙ sym (long w)) ∙ some_long ws

  -- what is read first where the worlds are told together
  pub live_in_some : (x : ℕ) (out : ℕ → Bool) (k : Code) (ws : List ℕ) → live x (told_in_some ws told) (in_some ws out) k ≡ in_some ws (λ i. live x (told i) (out i) k)
  live_in_some x out k [] = refl
  live_in_some x out k (w ∷ ws) =
      live_joined x (told_in_some ws told) (told w) (in_some ws out) (out w) k (some_long ws ∙ sym (long w)) ∙ ap (λ b. b || live x (told w) (out w) k) (live_in_some x out k ws)

  -- world 0 adds nothing
  pub told_again : (ws : List ℕ) → joined (told_in_some ws told) (told 0) ≡ told_in_some ws told
  told_again ws = first ws ∙ refl
    where
      twice : (cs : List Bool) → joined cs cs ≡ cs
      twice [] = refl
      twice (true ∷ cs) = ap (λ z. true ∷ z) (twice cs)
      twice (false ∷ cs) = ap (λ z. false ∷ z) (twice cs)

      put : (a b c : Bool) → (a || c) ≡ a → ((a || b) || c) ≡ (a || b)
      put true b c e = refl
      put false true c e = refl
      put false false c e = e

      onto : (cs ds es : List Bool) → joined cs es ≡ cs → length cs ≡ length es → joined (joined cs ds) es ≡ joined cs ds
      onto [] ds es e n = refl
      onto (c ∷ cs) [] es e n = refl
      onto (c ∷ cs) (d ∷ ds) [] e n = absurd (omega (arith, n))
      onto (c ∷ cs) (d ∷ ds) (f ∷ es) e n = (λ i. put c d f (ap head e) i ∷ onto cs ds es (ap tail e) (omega (arith, n)) i)
        where
          head : List Bool → Bool
          head [] = false
          head (b ∷ bs) = b

          tail : List Bool → List Bool
          tail [] = []
          tail (b ∷ bs) = bs

      first : (vs : List ℕ) → joined (told_in_some vs told) (told 0) ≡ told_in_some vs told
      first [] = twice (told 0)
      first (v ∷ vs) = onto (told_in_some vs told) (told v) (told 0) (first vs) (some_long vs)

pub some_again : (out : ℕ → Bool) (ws : List ℕ) → (in_some ws out || out 0) ≡ in_some ws out
some_again out [] = same (out 0)
  where
    same : (a : Bool) → (a || a) ≡ a
    same true = refl
    same false = refl
some_again out (w ∷ ws) = put (in_some ws out) (out w) (out 0) (some_again out ws)
  where
    put : (a b c : Bool) → (a || c) ≡ a → ((a || b) || c) ≡ (a || b)
    put true b c e = refl
    put false true c e = refl
    put false false c e = e

-- one more answer in front
pub told_cons : (f : ℕ → Bool) (told : ℕ → List Bool) (ws : List ℕ) → told_in_some ws (λ i. f i ∷ told i) ≡ in_some ws f ∷ told_in_some ws told
told_cons f told [] = refl
told_cons f told (w ∷ ws) = ap (λ z. joined z (f w ∷ told w)) (told_cons f told ws)

module _ (n : ℕ) (small : n < 64) where
  pub some_same : (f g : ℕ → Bool) → ((i : ℕ) → i < 64 → f i ≡ g i) → (ws : List ℕ) → NoneAbove n ws → in_some ws f ≡ in_some ws g
  some_same f g h [] u = h 0 (omega arith)
  some_same f g h (w ∷ ws) u = let a = u.0 in (λ i. some_same f g h ws u.1 i || h w (omega (arith, a, small)) i)

pub none_in_some : (n : ℕ) (f : ℕ → Bool) → ((i : ℕ) → i ≤ n → f i ≡ false) → (ws : List ℕ) → NoneAbove n ws → in_some ws f ≡ false
none_in_some n f h [] u = h 0 (omega arith)
none_in_some n f h (w ∷ ws) u = (λ i. none_in_some n f h ws u.1 i || h w u.0 i)

pub up_more : (n m : ℕ) (ws : List ℕ) → n ≤ m → NoneAbove n ws → NoneAbove m ws
up_more n m [] le u = tt
up_more n m (w ∷ ws) le u = let a = u.0 in (omega (arith, a, le), up_more n m ws le u.1)
