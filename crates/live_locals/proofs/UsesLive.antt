-- An own local is read first from the same calls on in code and in what is left of it by its accesses.
use Rattle.std.proofs.Common.{◌≡◌, ◌∙◌, ℕ, zero, suc, ◌<◌, List, [], ◌∷◌, ◌++◌, None, Bool, true, false, not, ◌&&◌, ◌||◌, refl, sym, ap, arith}
use Rattle.std.specs.Prelude.{nat_eq, nat_lt}
use Rattle.std.specs.List.{list_any}
use Rattle.std.proofs.lemmas.Bool.{ne_eqb, ltb-false}
use Rattle.wa_types.specs.Pausing.{callee}
use Rattle.wa_types.specs.Syntax.{Plain, basic, local_get, local_set, local_tee, br, br_if, br_table, return, unreachable, call, call_indirect, Shape, a_block, a_loop, Code, done, plain, nest, branch}
use Rattle.wa_types.specs.Liveness.{live, live_plain, shape_live, told_at}
use Rattle.frame_sizes.specs.Lives.{lives, label_live, if_called}
use Rattle.flat_laws.specs.OwnUses.{keep_if, uses, uses_plain}

module _ (first y : ℕ) (own_local : y < first) where
  -- the same is told for each label
  abbrev SameTold : (tos tos2 : List Bool) → Type 0
  SameTold tos tos2 = (l : ℕ) → told_at tos2 l ≡ told_at tos l

  same_more : (b : Bool) (tos tos2 : List Bool) → SameTold tos tos2 → SameTold (b ∷ tos) (b ∷ tos2)
  same_more b tos tos2 h zero = refl
  same_more b tos tos2 h (suc l) = h l

  same_any : (tos tos2 : List Bool) (ls : List ℕ) → SameTold tos tos2 → list_any (told_at tos2) ls ≡ list_any (told_at tos) ls
  same_any tos tos2 [] h = refl
  same_any tos tos2 (l ∷ ls) h = ap (λ b. b || list_any (told_at tos2) ls) (h l) ∙ ap (λ b. told_at tos l || b) (same_any tos tos2 ls h)

  -- another local is no own one
  other : (z : ℕ) → nat_lt z first ≡ false → nat_eq y z ≡ false
  other z e = let g = ltb-false z first e in ne_eqb y z (λ q. absurd (omega (arith, own_local, g, q)))

  get_live : (z : ℕ) (b : Bool) (tos tos2 : List Bool) (out k : Bool) (rest : Code) → nat_lt z first ≡ b → live y tos2 out rest ≡ k → live y tos2 out (keep_if b (local_get z) rest) ≡ (nat_eq y z || k)
  unfolding live
  get_live z true tos tos2 out k rest q e = ap (λ c. nat_eq y z || c) e
  get_live z false tos tos2 out k rest q e = e ∙ sym (ap (λ c. c || k) (other z q))

  set_live : (z : ℕ) (b : Bool) (tos tos2 : List Bool) (out k : Bool) (rest : Code) → nat_lt z first ≡ b → live y tos2 out rest ≡ k
      → live y tos2 out (keep_if b (local_set z) rest) ≡ (not (nat_eq y z) && k)
  unfolding live
  set_live z true tos tos2 out k rest q e = ap (λ c. not (nat_eq y z) && c) e
  set_live z false tos tos2 out k rest q e = e ∙ sym (ap (λ c. not c && k) (other z q))

  plain_live : (own : ℕ) (p : Plain) (tos tos2 : List Bool) (out k : Bool) (rest : Code) → SameTold tos tos2 → told_at tos own ≡ false → live y tos2 out rest ≡ k
      → live y tos2 out (uses_plain first own p rest) ≡ live_plain y tos p k
  unfolding live
  plain_live own (basic b) tos tos2 out k rest h o e = e
  plain_live own (local_get z) tos tos2 out k rest h o e = get_live z (nat_lt z first) tos tos2 out k rest refl e
  plain_live own (local_set z) tos tos2 out k rest h o e = set_live z (nat_lt z first) tos tos2 out k rest refl e
  plain_live own (local_tee z) tos tos2 out k rest h o e = set_live z (nat_lt z first) tos tos2 out k rest refl e
  plain_live own (br l) tos tos2 out k rest h o e = h l
  plain_live own (br_if l) tos tos2 out k rest h o e = ap (λ c. c || live y tos2 out rest) (h l) ∙ ap (λ c. told_at tos l || c) e
  plain_live own (br_table ls l) tos tos2 out k rest h o e = same_any tos tos2 (l ∷ ls) h
  plain_live own return tos tos2 out k rest h o e = h own ∙ o
  plain_live own unreachable tos tos2 out k rest h o e = refl
  plain_live own (call g) tos tos2 out k rest h o e = e
  plain_live own (call_indirect t) tos tos2 out k rest h o e = e

  pub uses_live : (own : ℕ) (k : Code) (tos tos2 : List Bool) (out : Bool) → SameTold tos tos2 → told_at tos own ≡ false → live y tos2 out (uses first own k) ≡ live y tos out k
  unfolding live uses
  uses_live own done tos tos2 out h o = refl
  uses_live own (plain p rest) tos tos2 out h o = plain_live own p tos tos2 out (live y tos out rest) (uses first own rest) h o (uses_live own rest tos tos2 out h o)
  uses_live own (nest s r body rest) tos tos2 out h o =
      let k : Bool = live y tos out rest in
      ap (λ c. live y (shape_live s c ∷ tos2) c (uses first (suc own) body)) (uses_live own rest tos tos2 out h o)
      ∙ uses_live (suc own) body (shape_live s k ∷ tos) (shape_live s k ∷ tos2) k (same_more (shape_live s k) tos tos2 h) o
  uses_live own (branch r a b rest) tos tos2 out h o =
      let k : Bool = live y tos out rest in
      ap (λ c. live y (c ∷ tos2) c (uses first (suc own) a) || live y (c ∷ tos2) c (uses first (suc own) b)) (uses_live own rest tos tos2 out h o)
      ∙ ap (λ c. c || live y (k ∷ tos2) k (uses first (suc own) b)) (uses_live (suc own) a (k ∷ tos) (k ∷ tos2) k (same_more k tos tos2 h) o)
      ∙ ap (λ c. live y (k ∷ tos) k a || c) (uses_live (suc own) b (k ∷ tos) (k ∷ tos2) k (same_more k tos tos2 h) o)

  -- ---- at each call

  keep_lives : (b : Bool) (p : Plain) (tos : List Bool) (out : Bool) (rest : Code) → callee p ≡ None → lives y tos out (keep_if b p rest) ≡ lives y tos out rest
  unfolding lives
  keep_lives true p tos out rest e = ap (λ c. if_called c (live y tos out rest) (lives y tos out rest)) e
  keep_lives false p tos out rest e = refl

  plain_lives : (own : ℕ) (p : Plain) (tos tos2 : List Bool) (out k : Bool) (bs : List Bool) (rest : Code) → live y tos2 out rest ≡ k → lives y tos2 out rest ≡ bs
      → lives y tos2 out (uses_plain first own p rest) ≡ if_called (callee p) k bs
  unfolding lives
  plain_lives own (basic b) tos tos2 out k bs rest e f = f
  plain_lives own (local_get z) tos tos2 out k bs rest e f = keep_lives (nat_lt z first) (local_get z) tos2 out rest refl ∙ f
  plain_lives own (local_set z) tos tos2 out k bs rest e f = keep_lives (nat_lt z first) (local_set z) tos2 out rest refl ∙ f
  plain_lives own (local_tee z) tos tos2 out k bs rest e f = keep_lives (nat_lt z first) (local_set z) tos2 out rest refl ∙ f
  plain_lives own (br l) tos tos2 out k bs rest e f = f
  plain_lives own (br_if l) tos tos2 out k bs rest e f = f
  plain_lives own (br_table ls l) tos tos2 out k bs rest e f = f
  plain_lives own return tos tos2 out k bs rest e f = f
  plain_lives own unreachable tos tos2 out k bs rest e f = f
  plain_lives own (call g) tos tos2 out k bs rest e f = ap (λ c. c ∷ lives y tos2 out rest) e ∙ ap (λ xs. k ∷ xs) f
  plain_lives own (call_indirect t) tos tos2 out k bs rest e f = ap (λ c. c ∷ lives y tos2 out rest) e ∙ ap (λ xs. k ∷ xs) f

  label_same : (own : ℕ) (s : Shape) (body : Code) (tos tos2 : List Bool) (k : Bool) → SameTold tos tos2 → told_at tos own ≡ false
      → label_live y s tos2 k (uses first (suc own) body) ≡ label_live y s tos k body
  label_same own a_block body tos tos2 k h o = refl
  label_same own a_loop body tos tos2 k h o = uses_live (suc own) body (false ∷ tos) (false ∷ tos2) k (same_more false tos tos2 h) o

  pub uses_lives : (own : ℕ) (k : Code) (tos tos2 : List Bool) (out : Bool) → SameTold tos tos2 → told_at tos own ≡ false → lives y tos2 out (uses first own k) ≡ lives y tos out k
  unfolding lives uses
  uses_lives own done tos tos2 out h o = refl
  uses_lives own (plain p rest) tos tos2 out h o =
      plain_lives own p tos tos2 out (live y tos out rest) (lives y tos out rest) (uses first own rest) (uses_live own rest tos tos2 out h o) (uses_lives own rest tos tos2 out h o)
  uses_lives own (nest s r body rest) tos tos2 out h o =
      let k : Bool = live y tos out rest in
      let b : Bool = label_live y s tos k body in
      ap (λ c. lives y (label_live y s tos2 c (uses first (suc own) body) ∷ tos2) c (uses first (suc own) body) ++ lives y tos2 out (uses first own rest)) (uses_live own rest tos tos2 out h o)
      ∙ ap (λ c. lives y (c ∷ tos2) k (uses first (suc own) body) ++ lives y tos2 out (uses first own rest)) (label_same own s body tos tos2 k h o)
      ∙ ap (λ xs. xs ++ lives y tos2 out (uses first own rest)) (uses_lives (suc own) body (b ∷ tos) (b ∷ tos2) k (same_more b tos tos2 h) o)
      ∙ ap (λ xs. lives y (b ∷ tos) k body ++ xs) (uses_lives own rest tos tos2 out h o)
  uses_lives own (branch r a b rest) tos tos2 out h o =
      let k : Bool = live y tos out rest in
      ap (λ c. lives y (c ∷ tos2) c (uses first (suc own) a) ++ (lives y (c ∷ tos2) c (uses first (suc own) b) ++ lives y tos2 out (uses first own rest))) (uses_live own rest tos tos2 out h o)
      ∙ ap (λ xs. xs ++ (lives y (k ∷ tos2) k (uses first (suc own) b) ++ lives y tos2 out (uses first own rest))) (uses_lives (suc own) a (k ∷ tos) (k ∷ tos2) k (same_more k tos tos2 h) o)
      ∙ ap (λ xs. lives y (k ∷ tos) k a ++ (xs ++ lives y tos2 out (uses first own rest))) (uses_lives (suc own) b (k ∷ tos) (k ∷ tos2) k (same_more k tos tos2 h) o)
      ∙ ap (λ xs. lives y (k ∷ tos) k a ++ (lives y (k ∷ tos) k b ++ xs)) (uses_lives own rest tos tos2 out h o)
