-- What a call takes weighs no more than its function.
use Rattle.std.proofs.Common.{◌≡◌, ℕ, zero, suc, ◌+◌, ◌≤◌, ◌⊎◌, inl, inr, List, [], ◌∷◌, ◌++◌, length, Some, refl, ap, arith}
use Rattle.std.specs.Prelude.{slice_get}
use Rattle.wa_types.specs.Base.{Base}
use Rattle.wa_types.specs.Bounds.{Weight, code_weight, plain_weight}
use Rattle.wa_types.specs.Modules.{around, func_type_at, type_at}
use Rattle.wa_types.specs.Pausing.{Callee, callee, callee_onto, calls_in, calls_of, direct, indirect}
use Rattle.wa_types.specs.Pruned.{pruned}
use Rattle.wa_types.specs.Syntax.{Code, Func, Module, Plain, basic, br, br_if, br_table, branch, call, call_indirect, done, local_get, local_set, local_tee, nest, plain, return, unreachable}
use Rattle.headline.proofs.PlaceSlots.{args_of}

either_got : (xs ys : List Callee) (i : ℕ) (x : Callee) → slice_get (xs ++ ys) i ≡ Some x → ((j : ℕ) × (slice_get xs j ≡ Some x)) ⊎ ((j : ℕ) × (slice_get ys j ≡ Some x))
either_got [] ys i x e = inr (i, e)
either_got (z ∷ xs) ys zero x e = inl (0, e)
either_got (z ∷ xs) ys (suc i) x e = elim (either_got xs ys i x e) [ inl h ↦ inl (suc h.0, h.1) | inr h ↦ inr h ]

module _ (m : Module) where
  abbrev weight : Callee → ℕ
  weight (direct x) = length (func_type_at m x).params
  weight (indirect t) = suc (length (type_at m t).params)

  same_callee : (x y : Callee) → Some x ≡ Some y → weight x ≡ weight y
  same_callee x y e = let z : x ≡ y = cc in ap weight z

  call_weighs : (code : Code) (i : ℕ) (x : Callee) → slice_get (calls_of code) i ≡ Some x → weight x ≤ code_weight m code
  unfolding calls_of code_weight
  call_weighs done i x e = cc
  call_weighs (plain p rest) i x e = by p i e (λ j h. call_weighs rest j x h)
    where
      onto : (y : Callee) (w : ℕ) (i : ℕ) → weight y ≤ w → slice_get (y ∷ calls_of rest) i ≡ Some x → ((j : ℕ) → slice_get (calls_of rest) j ≡ Some x → weight x ≤ code_weight m rest)
          → weight x ≤ w + code_weight m rest
      onto y w zero le e ih = let z = same_callee y x e in omega arith
      onto y w (suc i) le e ih = let h = ih i e in omega arith

      by : (p : Plain) (i : ℕ) → slice_get (callee_onto (callee p) (calls_of rest)) i ≡ Some x → ((j : ℕ) → slice_get (calls_of rest) j ≡ Some x → weight x ≤ code_weight m rest)
          → weight x ≤ plain_weight m p + code_weight m rest
      by (basic b) i e ih = let h = ih i e in omega arith
      by (local_get y) i e ih = let h = ih i e in omega arith
      by (local_set y) i e ih = let h = ih i e in omega arith
      by (local_tee y) i e ih = let h = ih i e in omega arith
      by (br l) i e ih = let h = ih i e in omega arith
      by (br_if l) i e ih = let h = ih i e in omega arith
      by (br_table ts l) i e ih = let h = ih i e in omega arith
      by return i e ih = let h = ih i e in omega arith
      by unreachable i e ih = let h = ih i e in omega arith
      by (call y) i e ih = onto (direct y) (1 + length (func_type_at m y).params) i (omega arith) e ih
      by (call_indirect t) i e ih = onto (indirect t) (1 + length (type_at m t).params) i (omega arith) e ih
  call_weighs (nest s r body rest) i x e = by (either_got (calls_of body) (calls_of rest) i x e) (λ j h. call_weighs body j x h) (λ j h. call_weighs rest j x h)
    where
      by : ((j : ℕ) × (slice_get (calls_of body) j ≡ Some x)) ⊎ ((j : ℕ) × (slice_get (calls_of rest) j ≡ Some x)) → ((j : ℕ) → slice_get (calls_of body) j ≡ Some x → weight x ≤ code_weight m body)
          → ((j : ℕ) → slice_get (calls_of rest) j ≡ Some x → weight x ≤ code_weight m rest) → weight x ≤ 1 + code_weight m body + code_weight m rest
      by (inl h) ib ir = let k = ib h.0 h.1 in omega arith
      by (inr h) ib ir = let k = ir h.0 h.1 in omega arith
  call_weighs (branch r a b rest) i x e = by (either_got (calls_of a ++ calls_of b) (calls_of rest) i x e) (λ j h. call_weighs a j x h) (λ j h. call_weighs b j x h) (λ j h. call_weighs rest j x h)
    where
      by_arm : ((j : ℕ) × (slice_get (calls_of a) j ≡ Some x)) ⊎ ((j : ℕ) × (slice_get (calls_of b) j ≡ Some x)) → ((j : ℕ) → slice_get (calls_of a) j ≡ Some x → weight x ≤ code_weight m a)
          → ((j : ℕ) → slice_get (calls_of b) j ≡ Some x → weight x ≤ code_weight m b) → weight x ≤ 1 + code_weight m a + code_weight m b + code_weight m rest
      by_arm (inl h) ia ib = let k = ia h.0 h.1 in omega arith
      by_arm (inr h) ia ib = let k = ib h.0 h.1 in omega arith

      by : ((j : ℕ) × (slice_get (calls_of a ++ calls_of b) j ≡ Some x)) ⊎ ((j : ℕ) × (slice_get (calls_of rest) j ≡ Some x))
          → ((j : ℕ) → slice_get (calls_of a) j ≡ Some x → weight x ≤ code_weight m a)
          → ((j : ℕ) → slice_get (calls_of b) j ≡ Some x → weight x ≤ code_weight m b) → ((j : ℕ) → slice_get (calls_of rest) j ≡ Some x → weight x ≤ code_weight m rest)
          → weight x ≤ 1 + code_weight m a + code_weight m b + code_weight m rest
      by (inl h) ia ib ir = by_arm (either_got (calls_of a) (calls_of b) h.0 x h.1) ia ib
      by (inr h) ia ib ir = let k = ir h.0 h.1 in omega arith

-- the same where the module has the memory that it is compared with
base_args : (m : Module) (f : Func) (x : Callee) → args_of (around (Base m) f) x ≡ weight m x
unfolding Base
base_args m f (direct x) = refl
base_args m f (indirect t) = refl

pub args_weigh : (m : Module) (f : Func) (i : ℕ) (x : Callee) → slice_get (calls_in f) i ≡ Some x → args_of (around (Base m) f) x ≤ Weight m f
args_weigh m f i x e = let h = call_weighs m (pruned f.body) i x e in let z = base_args m f x in omega arith
