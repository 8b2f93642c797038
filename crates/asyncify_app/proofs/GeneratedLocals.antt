-- The functions of generated modules have few locals, rewritten too.
use Rattle.std.proofs.Common.{arith, ◌≡◌, ℕ, zero, suc, ◌+◌, ◌%◌, ◌≤◌, List, [], ◌∷◌, Some, None, refl, length, All}
use Rattle.std.specs.Prelude.{slice_get}
use Rattle.std.proofs.lemmas.List.Elements.{All-nil, All-cons, All-append}
use Rattle.wa_types.specs.Counts.{count_of}
use Rattle.wa_types.specs.Frames.{Count}
use Rattle.wa_types.specs.Modules.{locals_of}
use Rattle.wa_types.specs.Pruned.{pruned}
use Rattle.wa_types.specs.Syntax.{Func}
use Rattle.slot_laws.proofs.Few.{slots_are_few}
use Rattle.emitted_form.proofs.FitsBy.{one_of_all}
use Rattle.local_spill.specs.Reserved.{reserved_at}
use Rattle.gen_module.specs.Generated.{first_code, func_by, func_with, generated, generated_func, generated_funcs}
use Rattle.gen_module.proofs.GeneratedModules.{is_valid}

-- what holds of each form of function holds of all
module _ (P : Func → Type 0) (first : P (func_with [] first_code)) (others : (i r : ℕ) → P (func_by i r)) where
  one : (i : ℕ) → P (generated_func i)
  one zero = first
  one (suc i) = others (suc i) (suc i % 3)

  pub each : (n : ℕ) → All P (generated_funcs n)
  each zero = All-nil P
  each (suc n) = All-append P (generated_funcs n) (generated_func n ∷ []) (each n) (All-cons P (generated_func n) [] (one n) (All-nil P))

all_from : {X : Type 0} (P : X → Type 0) (xs : List X) → ((i : ℕ) (x : X) → slice_get xs i ≡ Some x → P x) → All P xs
all_from P [] h = All-nil P
all_from P (x ∷ xs) h = All-cons P x xs (h 0 x refl) (all_from P xs (λ i y e. h (suc i) y e))

-- ---- locals

abbrev IsSmall : ℕ → Func → Type 0
IsSmall n f = length (locals_of (generated n) f) + count_of (pruned f.body) ≤ 100

first_small : (n : ℕ) → IsSmall n (func_with [] first_code)
unfolding generated count_of pruned
first_small n = omega arith

by_small : (n i r : ℕ) → IsSmall n (func_by i r)
unfolding generated count_of pruned
by_small n i zero = omega arith
by_small n i (suc zero) = omega arith
by_small n i (suc (suc k)) = omega arith

all_small : (n : ℕ) → All (IsSmall n) (generated n).funcs
unfolding generated
all_small n = each (IsSmall n) (first_small n) (by_small n) n

pub few_locals : (n : ℕ) → All (λ (f : Func). Count (generated n) f ≤ 50000) (generated n).funcs
few_locals n = all_from (λ (f : Func). Count (generated n) f ≤ 50000) (generated n).funcs one_few
  where
    one_few : (i : ℕ) (f : Func) → slice_get (generated n).funcs i ≡ Some f → Count (generated n) f ≤ 50000
    one_few i f e =
        let small = one_of_all (IsSmall n) (generated n).funcs i f (all_small n) e in
        let few = slots_are_few (generated n) i f (is_valid n) e in omega (arith, small, few)

-- ---- names

pub none_reserved : (n : ℕ) → reserved_at (generated n) ≡ None
unfolding generated
none_reserved n = refl
