-- Generated functions have their types.
use Rattle.std.proofs.Common.{arith, ◌≡◌, ◌∙◌, ◌<◌, ◌≤◌, ℕ, zero, suc, ◌+◌, ◌%◌, List, [], ◌∷◌, ◌++◌, Some, ap, refl, map, All, add-one}
use Rattle.std.specs.Prelude.{slice_get, replicate}
use Rattle.std.proofs.lemmas.List.{map-append, replicate-append-replicate}
use Rattle.std.specs.Option.{option_map}
use Rattle.std.proofs.lemmas.Option.{slice_get-map}
use Rattle.std.proofs.lemmas.List.Elements.{All-nil, All-cons, All-append}
use Rattle.wa_types.specs.declared.values.ValType.TheVariants.{I32}
use Rattle.wa_types.specs.Syntax.{Func}
use Rattle.wa_types.specs.Typing.{Around, Types, Typed}
use Rattle.wa_types.specs.Modules.{func_sorts, func_types, type_at, around}
use Rattle.gen_module.specs.Generated.{one_to_one, first_code, adding, deciding, looping, func_by, generated_func, generated_funcs, generated}

by_sort : (i r : ℕ) → (func_by i r).sort ≡ 0
by_sort i zero = refl
by_sort i (suc zero) = refl
by_sort i (suc (suc k)) = refl

pub func_sort : (i : ℕ) → (generated_func i).sort ≡ 0
func_sort zero = refl
func_sort (suc i) = by_sort (suc i) (suc i % 3)

abbrev sorts_of : List Func → List ℕ
sorts_of fs = map (λ (f : Func). f.sort) fs

sorts : (n : ℕ) → sorts_of (generated_funcs n) ≡ replicate n 0
sorts zero = refl
sorts (suc n) = rw (map-append (λ (f : Func). f.sort) (generated_funcs n) (generated_func n ∷ []), func_sort n, sorts n) (replicate-append-replicate {A = ℕ} n 1 0
    ∙ ap (λ (k : ℕ). replicate {A = ℕ} k 0) (add-one n))

zeros : (n x : ℕ) → x < n → slice_get {X = ℕ} (replicate n 0) x ≡ Some 0
zeros zero x h = absurd (omega arith)
zeros (suc n) zero h = refl
zeros (suc n) (suc x) h = zeros n x (omega arith)

pub all_sorts : (n : ℕ) → func_sorts (generated n) ≡ replicate (suc n) 0
unfolding generated
all_sorts n = ap (λ (ss : List ℕ). 0 ∷ ss) (sorts n)

-- each function up to n has the one type
pub type_there : (n x : ℕ) → x ≤ n → slice_get (func_types (generated n)) x ≡ Some one_to_one
unfolding generated
type_there n x h = slice_get-map (type_at (generated n)) (func_sorts (generated n)) x ∙ ap (λ (ss : List ℕ). option_map (type_at (generated n)) (slice_get ss x)) (all_sorts n)
    ∙ ap (option_map (type_at (generated n))) (zeros (suc n) x (omega arith))

pub next_funcs : (i : ℕ) → generated_funcs (i + 1) ≡ generated_funcs i ++ generated_func i ∷ []
next_funcs i = ap generated_funcs (add-one i)

-- ---- each function's type, where it calls a function up to n

-- what is asked of a context: the function that is called has the one type, and so have the locals
first_typed : (c : Around) → slice_get c.funcs 0 ≡ Some one_to_one → slice_get c.locals 0 ≡ Some I32 → Types c (Some I32 ∷ []) first_code (I32 ∷ []) []
unfolding Types
first_typed c f l = rw (l, f) (_, (_, refl, refl), (_, (_, refl, refl), (_, (_, refl, refl), (_, (_, refl, refl), refl))))

adding_typed : (c : Around) (i : ℕ) → slice_get c.funcs i ≡ Some one_to_one → slice_get c.locals 0 ≡ Some I32 → Types c (Some I32 ∷ []) (adding i) (I32 ∷ []) []
unfolding Types
adding_typed c i f l = rw (l, f) (_, (_, refl, refl), (_, (_, refl, refl), (_, (_, refl, refl), (_, (_, refl, refl), refl))))

deciding_typed : (c : Around) (i : ℕ) → slice_get c.funcs i ≡ Some one_to_one → slice_get c.locals 0 ≡ Some I32 → Types c (Some I32 ∷ []) (deciding i) (I32 ∷ []) []
unfolding Types
deciding_typed c i f l = rw (l, f) (_, (_, refl, refl), (_, refl, (_, (_, refl, refl), (_, (_, refl, refl), refl)), (_, (_, refl, refl), refl), (_, (_, refl, refl), (_, (_, refl, refl), refl))))

looping_typed : (c : Around) (i : ℕ) → slice_get c.funcs i ≡ Some one_to_one → slice_get c.locals 0 ≡ Some I32 → slice_get c.locals 1 ≡ Some I32 → Types c (Some I32 ∷ []) (looping i) (I32 ∷ []) []
unfolding Types
looping_typed c i f l k = rw (l, k, f) ((_, (_, refl, refl), (_, (_, refl, refl), (_, (_, refl, refl), (_, (_, refl, refl), (_, (_, refl, refl), refl))))), (_, (_, refl, refl), refl))

-- ---- in the generated module

abbrev IsTyped : ℕ → Func → Type 0
IsTyped n f = Typed (around (generated n) f) f.body

by_typed : (n i r : ℕ) → i ≤ n → IsTyped n (func_by i r)
unfolding generated
by_typed n i zero h = looping_typed (around (generated n) (func_by i 0)) i (type_there n i h) refl refl
by_typed n i (suc zero) h = adding_typed (around (generated n) (func_by i 1)) i (type_there n i h) refl
by_typed n i (suc (suc k)) h = deciding_typed (around (generated n) (func_by i (suc (suc k)))) i (type_there n i h) refl

func_typed : (n i : ℕ) → i ≤ n → IsTyped n (generated_func i)
unfolding generated
func_typed n zero h = first_typed (around (generated n) (generated_func 0)) (type_there n 0 h) refl
func_typed n (suc i) h = by_typed n (suc i) (suc i % 3) h

pub all_typed : (n k : ℕ) → k ≤ n → All (IsTyped n) (generated_funcs k)
all_typed n zero h = All-nil (IsTyped n)
all_typed n (suc k) h = All-append (IsTyped n) (generated_funcs k) (generated_func k ∷ []) (all_typed n k (omega arith))
    (All-cons (IsTyped n) (generated_func k) [] (func_typed n k (omega arith)) (All-nil (IsTyped n)))
