-- Generated modules are valid, and small.
use Rattle.std.proofs.Common.{arith, ◌≡◌, ◌∙◌, ◌≤◌, ℕ, zero, suc, ◌%◌, ◌^◌, List, [], ◌∷◌, Some, ap, refl, subst, length, All, true, lt-ltb, add-one}
use Rattle.std.specs.Prelude.{slice_get, replicate}
use Rattle.std.proofs.lemmas.List.{length-append, length-map}
use Rattle.std.proofs.lemmas.List.Elements.{All-nil, All-cons, All-head, All-tail, All-append}
use Rattle.wa_types.specs.Syntax.{Func, GlobalDef}
use Rattle.wa_types.specs.Typing.{Typed}
use Rattle.wa_types.specs.Modules.{around}
use Rattle.wa_types.specs.Validity.{Valid, types_there, funcs_there, all_below}
use Rattle.wa_types.specs.Sizes.{StrictSizeRule, FuncSizes, TypeSizes, ElemSizes, SegmentSizes, code_lists, params_at_index, all_sorts, code_items, code_params}
use Rattle.gen_module.specs.Generated.{one_to_one, func_by, generated_func, generated_funcs, generated}
use Rattle.gen_module.proofs.GeneratedTypes.{all_sorts as sorts_are_zero, all_typed}

got_in : {X : Type 0} (P : X → Type 0) (xs : List X) (i : ℕ) (x : X) → All P xs → slice_get xs i ≡ Some x → P x
got_in P [] i x all e = cc
got_in P (y ∷ ys) zero x all e = let z : y ≡ x = cc in subst P z (All-head P y ys all)
got_in P (y ∷ ys) (suc i) x all e = got_in P ys i x (All-tail P y ys all) e

zeros_below : (n : ℕ) → all_below 1 (replicate n 0) ≡ true
zeros_below zero = refl
zeros_below (suc n) = zeros_below n

sorts_there : (n : ℕ) → types_there (generated n) ≡ true
unfolding generated
sorts_there n = ap (all_below 1) (sorts_are_zero n) ∙ zeros_below (suc n)

pub func_count : (n : ℕ) → length (generated_funcs n) ≡ n
func_count zero = refl
func_count (suc n) = rw (length-append (generated_funcs n) (generated_func n ∷ []), func_count n) (add-one n)

exported_there : (n : ℕ) → funcs_there (generated n) ≡ true
unfolding generated
exported_there n = rw (length-map (generated_funcs n) (λ (f : Func). f.sort), func_count n, lt-ltb n (suc n) (omega arith)) refl

pub is_valid : (n : ℕ) → Valid (generated n)
unfolding generated
is_valid n = record {
  types = refl;
  sorts = sorts_there n;
  bodies = λ i f e. got_in (λ (g : Func). Typed (around (generated n) g) g.body) (generated_funcs n) i f (all_typed n n (omega arith)) e;
  limits = refl;
  single = refl;
  constants = refl;
  globals = refl;
  tables = refl;
  memories = refl;
  funcs = exported_there n;
  start = refl;
  names = refl;
}

-- ---- sizes

-- a call of a generated module takes one parameter at most
params_few : (ss : List ℕ) (x : ℕ) → params_at_index (one_to_one ∷ []) ss x ≤ 1
params_few [] x = omega arith
params_few (zero ∷ ss) zero = omega arith
params_few (suc s ∷ ss) zero = omega arith
params_few (s ∷ ss) (suc x) = params_few ss x

by_small : (n i r : ℕ) → FuncSizes (2 ^ 31) (2 ^ 31) (generated n) (func_by i r)
unfolding generated code_items code_params
by_small n i zero = let few = params_few (all_sorts (generated n)) i in record {
  runs = omega arith;
  labels =
      ((tt {0}, (tt {0}, (tt {0}, (tt {0}, (tt {0}, tt {0}))))), (tt {0}, tt {0}));
  total = omega arith;
}
by_small n i (suc zero) = let few = params_few (all_sorts (generated n)) i in record { runs = omega arith; labels = (tt {0}, (tt {0}, (tt {0}, (tt {0}, tt {0})))); total = omega arith }
by_small n i (suc (suc k)) = let few = params_few (all_sorts (generated n)) i in record {
  runs = omega arith;
  labels =
      (tt {0}, ((tt {0}, (tt {0}, tt {0})), (tt {0}, tt {0}), (tt {0}, (tt {0}, tt {0}))));
  total = omega arith;
}

func_small : (n i : ℕ) → FuncSizes (2 ^ 31) (2 ^ 31) (generated n) (generated_func i)
unfolding generated code_items code_params
func_small n zero = record { runs = omega arith; labels = (tt {0}, (tt {0}, (tt {0}, (tt {0}, tt {0})))); total = omega arith }
func_small n (suc i) = by_small n (suc i) (suc i % 3)

all_small : (n k : ℕ) → All (FuncSizes (2 ^ 31) (2 ^ 31) (generated n)) (generated_funcs k)
all_small n zero = All-nil (FuncSizes (2 ^ 31) (2 ^ 31) (generated n))
all_small n (suc k) = All-append (FuncSizes (2 ^ 31) (2 ^ 31) (generated n)) (generated_funcs k) (generated_func k ∷ []) (all_small n k)
    (All-cons (FuncSizes (2 ^ 31) (2 ^ 31) (generated n)) (generated_func k) [] (func_small n k) (All-nil (FuncSizes (2 ^ 31) (2 ^ 31) (generated n))))

pub is_small : (n : ℕ) → n ≤ 4000 → StrictSizeRule (generated n)
unfolding generated
is_small n h = record {
  types = omega arith;
  each_type = All-cons (TypeSizes (2 ^ 31)) one_to_one [] (record { params = omega arith; results = omega arith }) (All-nil (TypeSizes (2 ^ 31)));
  imports = omega arith;
  funcs = let count = func_count n in omega arith;
  tables = omega arith;
  memories = omega arith;
  globals = omega arith;
  exports = omega arith;
  elems = omega arith;
  segments = omega arith;
  each_func = all_small n n;
  each_global = All-nil (λ (g : GlobalDef). code_lists (2 ^ 31) g.init);
  each_elem = All-nil (ElemSizes (2 ^ 31));
  each_segment = All-nil (SegmentSizes (2 ^ 31));
}
