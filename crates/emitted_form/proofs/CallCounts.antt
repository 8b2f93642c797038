-- How many numbered calls a function has, and how many locals they save.
use Rattle.std.proofs.Common.{◌≡◌, ◌∙◌, ℕ, zero, suc, ◌+◌, ◌*◌, ◌<◌, ◌≤◌, List, [], ◌∷◌, ◌++◌, length, Option, Some, None, Bool, true, false, sym, ap, subst, arith, length-append}
use Rattle.std.specs.Prelude.{slice_get, not, if◌then◌else◌}
use Rattle.std.proofs.lemmas.List.Sums.{sum_by-cons}
use Rattle.wa_types.specs.Bounds.{code_weight}
use Rattle.wa_types.specs.Frames.{Count, Pair, Place, Saved, SlotPairs, is_on_stack, named_places, place_onto, slot_places}
use Rattle.wa_types.specs.Liveness.{is_live_after}
use Rattle.wa_types.specs.Modules.{defined_at, locals_of}
use Rattle.wa_types.specs.Pausing.{Callee, direct, indirect, Listed, MayPause, calls_listed, calls_indirectly, calls_pausing, Numbered, Settings, TellsMayPause, callee, callee_onto, calls_in, calls_of, has_number, is_told, places_from, save_live}
use Rattle.wa_types.specs.Points.{func_call_points}
use Rattle.wa_types.specs.Pruned.{pruned}
use Rattle.wa_types.specs.Syntax.{Code, done, plain, nest, branch, Func, Module}
use Rattle.wa_types.specs.declared.values.ValType.{ValType}
use Rattle.wa_types.proofs.SlotLemmas.{or_left, or_right}
use Rattle.wa_model.specs.Rewrites.{instructions_and_labels}
use Rattle.emitted_form.proofs.SizesBy.{code_weighs}
use Rattle.emitted_form.proofs.EmittedSo.{numbered_few}
use Rattle.emitted_form.specs.LiveParts.{saved_total}

-- ---- calls

calls_few : (c : Code) → length (calls_of c) ≤ instructions_and_labels c
unfolding calls_of instructions_and_labels
calls_few done = omega arith
calls_few (plain p rest) = let ih = calls_few rest in let e = by (callee p) in omega (arith, ih, e)
  where
    by : (o : Option Callee) → length (callee_onto o (calls_of rest)) ≤ 1 + length (calls_of rest)
    by None = omega arith
    by (Some x) = omega arith
calls_few (nest s r body rest) =
    let a = calls_few body in let b = calls_few rest in let n = length-append (calls_of body) (calls_of rest) in omega (arith, a, b, n)
calls_few (branch r x y rest) =
    let a = calls_few x in let b = calls_few y in let d = calls_few rest in
    let n = length-append (calls_of x ++ calls_of y) (calls_of rest) in let k = length-append (calls_of x) (calls_of y) in omega (arith, a, b, d, n, k)

-- each is an instruction of the pruned body
pub numbers_few : (m : Module) (s : Settings) (which : List Bool) (f : Func) → length (Numbered m s which f) ≤ code_weight m (pruned f.body)
numbers_few m s which f =
    let a = numbered_few (has_number m s which) 0 (calls_in f) in
    let b = calls_few (pruned f.body) in
    let c = code_weighs m (pruned f.body) in omega (arith, a, b, c)

-- where one passes there are some
some_place : {X : Type 0} (test : X → Bool) (n : ℕ) (xs : List X) (i : ℕ) (x : X) → slice_get xs i ≡ Some x → test x ≡ true → 0 < length (places_from test n xs)
some_place test n [] i x e h = cc
some_place test n (y ∷ xs) zero x e h =
    let z : y ≡ x = cc in
    let t : test y ≡ true = ap test z ∙ h in
    subst (λ (b : Bool). 0 < length (if b then n ∷ places_from test (suc n) xs else places_from test (suc n) xs)) (sym t) (omega arith)
some_place test n (y ∷ xs) (suc i) x e h = by (test y) (some_place test (suc n) xs i x e h)
  where
    by : (b : Bool) → 0 < length (places_from test (suc n) xs) → 0 < length (if b then n ∷ places_from test (suc n) xs else places_from test (suc n) xs)
    by true ih = omega arith
    by false ih = ih

module _ (m : Module) (s : Settings) (which : List Bool) (tells : TellsMayPause m s which) where
  same_func : (x : ℕ) (f g : Func) → defined_at m x ≡ Some f → defined_at m x ≡ Some g → g ≡ f
  same_func x f g e h = let z : Some g ≡ Some f = sym h ∙ e in cc

  at_place : (x : ℕ) (f g : Func) (place : ℕ) (c : Callee) → defined_at m x ≡ Some f → defined_at m x ≡ Some g → slice_get (calls_in g) place ≡ Some c → has_number m s which c ≡ true
      → 0 < length (Numbered m s which f)
  at_place x f g place c is there at yes_ =
      subst (λ (h : Func). 0 < length (Numbered m s which h)) (same_func x f g is there) (some_place (has_number m s which) 0 (calls_in g) place c at yes_)

  pausing_calls : (x : ℕ) (f : Func) → defined_at m x ≡ Some f → MayPause m s x → 0 < length (Numbered m s which f)
  pausing_calls _ f is (calls_listed x g place i there at listed) =
      at_place x f g place (direct i) is there at (or_left (is_told (slice_get (Listed m s) i)) (is_told (slice_get which i)) (ap is_told listed))
  pausing_calls _ f is (calls_indirectly x g place sort there at counted) = at_place x f g place (indirect sort) is there at (ap not counted)
  pausing_calls _ f is (calls_pausing x g place y there at may) =
      at_place x f g place (direct y) is there at (or_right (is_told (slice_get (Listed m s) y)) (is_told (slice_get which y)) (ap is_told ((tells.each y).1 may)))

  is_true : (o : Option Bool) → is_told o ≡ true → o ≡ Some true
  is_true None e = cc
  is_true (Some b) e = ap Some e

  -- a told function has a numbered call
  pub told_calls : (x : ℕ) (f : Func) → defined_at m x ≡ Some f → is_told (slice_get which x) ≡ true → 0 < length (Numbered m s which f)
  told_calls x f is told = pausing_calls x f is ((tells.each x).0 (is_true (slice_get which x) told))

-- ---- saved locals

onto_few : (b : Bool) (x : ℕ) (t : ValType) (ps : List Place) → length (place_onto b x t ps) ≤ suc (length ps)
onto_few true x t ps = omega arith
onto_few false x t ps = omega arith

named_few : (keep : ℕ → Bool) (x : ℕ) (ts : List ValType) → length (named_places keep x ts) ≤ length ts
named_few keep x [] = omega arith
named_few keep x (t ∷ ts) = let a = onto_few (keep x) x t (named_places keep (suc x) ts) in let b = named_few keep (suc x) ts in omega (arith, a, b)

slots_few : (keep : Pair → Bool) (x : ℕ) (ps : List Pair) → length (slot_places keep x ps) ≤ length ps
slots_few keep x [] = omega arith
slots_few keep x (p ∷ ps) = let a = onto_few (keep p) x p.ty (slot_places keep (suc x) ps) in let b = slots_few keep (suc x) ps in omega (arith, a, b)

-- they are own locals and slots
pub saved_few : (m : Module) (f : Func) (place : ℕ) → length (Saved m save_live f place) ≤ length (locals_of m f) + length (SlotPairs m f)
saved_few m f place =
    let a = named_few (is_live_after f place) 0 (locals_of m f) in
    let b = slots_few (is_on_stack (slice_get (func_call_points m f) place)) (length (locals_of m f)) (SlotPairs m f) in
    let c = length-append (named_places (is_live_after f place) 0 (locals_of m f)) (slot_places (is_on_stack (slice_get (func_call_points m f) place)) (length (locals_of m f)) (SlotPairs m f)) in
    omega (arith, a, b, c)

pub total_few : (m : Module) (f : Func) (ps : List ℕ) → Count m f ≤ 50000 → saved_total m f ps ≤ 50000 * length ps
total_few m f [] few = omega arith
total_few m f (p ∷ ps) few =
    let a = sum_by-cons (λ (place : ℕ). length (Saved m save_live f place)) p ps in
    let b = saved_few m f p in
    let c = total_few m f ps few in omega (arith, a, b, c, few)
