-- Values and their types in lists; the types of functions of a valid module.
use Rattle.std.proofs.Common.{arith, ◌≡◌, ℕ, zero, suc, ◌+◌, ◌-◌, ◌<◌, ◌≤◌, List, [], ◌∷◌, ◌++◌, map, reverse, Option, Some, None, Bool, true, false, refl, sym, ap, ◌∙◌, subst, length, take}
use Rattle.std.proofs.Common.{drop, length-append}
use Rattle.std.specs.Prelude.{nat_lt, nat_le, if◌then◌else◌, slice_get, slice_set}
use Rattle.std.specs.Option.{option_map}
use Rattle.std.specs.List.{list_all}
use Rattle.std.proofs.lemmas.Bool.{ltb-true, ltb-false, leb-true, and_parts}
use Rattle.std.proofs.lemmas.List.{length-map, map-append, take-map, drop-map, reverse-append}
use Rattle.std.proofs.lemmas.Option.{slice_get-map, slice_get_within}
use Rattle.std.proofs.Math.Seq.{take-append_seam, drop-append_seam}
use Rattle.wa_types.specs.declared.values.ValType.{ValType}
use Rattle.wa_types.specs.declared.values.ValType.TheVariants.{I32, I64}
use Rattle.wa_types.specs.declared.values.Value.{Value}
use Rattle.wa_types.specs.Encoding.{same_type}
use Rattle.wa_types.specs.Syntax.{FuncType, Func, Module}
use Rattle.wa_types.specs.Typing.{listed, type_of}
use Rattle.wa_types.specs.Validity.{Valid}
use Rattle.wa_types.specs.Modules.{imported, imported_func, func_imports, func_sorts, func_types, func_type_at, type_at, or_empty, defined_at}
use Rattle.wa_model.specs.Store.{value_at}
use Rattle.wa_model.specs.Step.{keep, result_count, arity_of, same_types, same_func_type, zero_of}
use Rattle.run_theory.specs.Fitting.{types_of, results_of}

-- ---- values

-- operands of joined types are split where the types are joined
pub split_types : (ps below : List ValType) (ops : List Value) → types_of ops ≡ ps ++ below
    → (types_of (take (length ps) ops) ≡ ps) × (types_of (drop (length ps) ops) ≡ below)
split_types ps below ops e = (
  sym (take-map type_of (length ps) ops) ∙ ap (take (length ps)) e ∙ take-append_seam ps below,
  sym (drop-map type_of (length ps) ops) ∙ ap (drop (length ps)) e ∙ drop-append_seam ps below,
)

-- the lowest operands, as many as there are types below
pub kept_types : (front below : List ValType) (h : ℕ) (ops : List Value) → types_of ops ≡ front ++ below → h ≡ length below → types_of (keep h ops) ≡ below
kept_types front below h ops e eh =
    let n : length ops ≡ length front + length below = sym (length-map ops type_of) ∙ ap length e ∙ length-append front below in
    let k : length ops - h ≡ length front = omega arith in
    ap (λ j. types_of (drop j ops)) k ∙ (split_types front below ops e).1

pub arity_is : (r : Option ValType) → arity_of r ≡ length (listed r)
arity_is None = refl
arity_is (Some t) = refl

-- a branch's values, and the operands that it leaves
pub carried_types : (r : Option ValType) (more front below : List ValType) (h arity : ℕ) (ops : List Value)
    → types_of ops ≡ listed r ++ more → types_of ops ≡ front ++ below → h ≡ length below → arity ≡ arity_of r
    → types_of (take arity ops ++ keep h ops) ≡ listed r ++ below
carried_types r more front below h arity ops e f eh ea =
    map-append type_of (take arity ops) (keep h ops)
    ∙ ap (λ xs. xs ++ types_of (keep h ops)) (ap (λ k. types_of (take k ops)) (ea ∙ arity_is r) ∙ (split_types (listed r) more ops e).0)
    ∙ ap (λ ys. listed r ++ ys) (kept_types front below h ops f eh)

pub reversed_types : (xs : List Value) → types_of (reverse xs) ≡ reverse (types_of xs)
reversed_types [] = refl
reversed_types (x ∷ xs) =
    ap types_of (reverse-append (x ∷ []) xs) ∙ map-append type_of (reverse xs) (x ∷ []) ∙ ap (λ ys. ys ++ type_of x ∷ []) (reversed_types xs)
    ∙ sym (reverse-append (type_of x ∷ []) (types_of xs))

pub value_typed : (ls : List Value) (x : ℕ) (t : ValType) → slice_get (types_of ls) x ≡ Some t → type_of (value_at ls x) ≡ t
value_typed [] x t e = cc
value_typed (v ∷ ls) zero t e = cc
value_typed (v ∷ ls) (suc x) t e = value_typed ls x t e

pub set_typed : (ls : List Value) (x : ℕ) (v : Value) → slice_get (types_of ls) x ≡ Some (type_of v) → types_of (slice_set ls x v) ≡ types_of ls
set_typed [] x v e = cc
set_typed (w ∷ ls) zero v e = let z : type_of w ≡ type_of v = cc in ap (λ t. t ∷ types_of ls) (sym z)
set_typed (w ∷ ls) (suc x) v e = ap (λ ts. type_of w ∷ ts) (set_typed ls x v e)

pub zeros_typed : (ts : List ValType) → types_of (map zero_of ts) ≡ ts
zeros_typed [] = refl
zeros_typed (I32 ∷ ts) = ap (λ us. I32 ∷ us) (zeros_typed ts)
zeros_typed (I64 ∷ ts) = ap (λ us. I64 ∷ us) (zeros_typed ts)

-- ---- types of functions

pub same_true : (t u : ValType) → same_type t u ≡ true → t ≡ u
same_true I32 I32 e = refl
same_true I64 I64 e = refl
same_true I32 I64 e = cc
same_true I64 I32 e = cc

lists_true : (ts us : List ValType) → same_types ts us ≡ true → ts ≡ us
lists_true [] [] e = refl
lists_true [] (u ∷ us) e = cc
lists_true (t ∷ ts) [] e = cc
lists_true (t ∷ ts) (u ∷ us) e =
    let b = and_parts (same_type t u) (same_types ts us) e in
    ap (λ x. x ∷ ts) (same_true t u b.0) ∙ ap (λ xs. u ∷ xs) (lists_true ts us b.1)

pub func_types_true : (t u : FuncType) → same_func_type t u ≡ true → t ≡ u
func_types_true t u e =
    let b = and_parts (same_types t.params u.params) (same_types t.results u.results) e in
    ap (λ (ps : List ValType). record { params = ps; results = t.results }) (lists_true t.params u.params b.0)
    ∙ ap (λ (rs : List ValType). record { params = u.params; results = rs }) (lists_true t.results u.results b.1)

all_got : {X : Type 0} (p : X → Bool) (xs : List X) (i : ℕ) (x : X) → list_all p xs ≡ true → slice_get xs i ≡ Some x → p x ≡ true
all_got p [] i x h e = cc
all_got p (y ∷ ys) zero x h e = let z : y ≡ x = cc in subst (λ v. p v ≡ true) z (and_parts (p y) (list_all p ys) h).0
all_got p (y ∷ ys) (suc i) x h e = all_got p ys i x (and_parts (p y) (list_all p ys) h).1 e

-- a list of one element at most is what stands first
pub one_listed : (rs : List ValType) → length rs ≤ 1 → listed (slice_get rs 0) ≡ rs
one_listed [] h = refl
one_listed (r ∷ []) h = refl
one_listed (r ∷ s ∷ rs) h = absurd (omega arith)

pub one_reversed : (rs : List ValType) → length rs ≤ 1 → reverse rs ≡ rs
one_reversed [] h = refl
one_reversed (r ∷ []) h = refl
one_reversed (r ∷ s ∷ rs) h = absurd (omega arith)

module _ (m : Module) (v : Valid m) where
  -- types have one result at most
  pub type_small : (sort : ℕ) → length (type_at m sort).results ≤ 1
  type_small sort = go (slice_get m.types sort) refl
    where
      go : (o : Option FuncType) → slice_get m.types sort ≡ o → length (or_empty o).results ≤ 1
      go None e = omega arith
      go (Some t) e = leb-true (length t.results) 1 (all_got (λ (t : FuncType). nat_le (length t.results) 1) m.types sort t v.types e)

  pub func_type_small : (x : ℕ) → length (func_type_at m x).results ≤ 1
  func_type_small x = subst (λ o. length (or_empty o).results ≤ 1) (sym (slice_get-map (type_at m) (func_sorts m) x)) (go (slice_get (func_sorts m) x))
    where
      go : (o : Option ℕ) → length (or_empty (option_map (type_at m) o)).results ≤ 1
      go None = omega arith
      go (Some sort) = type_small sort

  pub results_are : (x : ℕ) → results_of m x ≡ (func_type_at m x).results
  results_are x = one_listed (func_type_at m x).results (func_type_small x)

  pub count_is : (x : ℕ) → result_count m x ≡ length (results_of m x)
  count_is x = ap length (sym (results_are x))

-- ---- functions by index

abbrev sorts_of : List Func → List ℕ
sorts_of fs = map (λ (f : Func). f.sort) fs

behind : (xs ys : List ℕ) (i : ℕ) → length xs ≤ i → slice_get (xs ++ ys) i ≡ slice_get ys (i - length xs)
behind [] ys i h = let e : i ≡ i - 0 = omega arith in ap (slice_get ys) e
behind (x ∷ xs) ys zero h = absurd (omega arith)
behind (x ∷ xs) ys (suc i) h = let e : i - length xs ≡ suc i - suc (length xs) = omega arith in behind xs ys i (omega arith) ∙ ap (slice_get ys) e

there : {X : Type 0} (xs : List X) (i : ℕ) → i < length xs → slice_get xs i ≡ None → ⊥
there [] i h e = absurd (omega arith)
there (x ∷ xs) zero h e = cc
there (x ∷ xs) (suc i) h e = there xs i (omega arith) e

module _ (m : Module) where
  -- the type of a defined function
  pub defined_type : (x : ℕ) (f : Func) → defined_at m x ≡ Some f → func_type_at m x ≡ type_at m f.sort
  defined_type x f = by_import (nat_lt x (func_imports m)) refl
    where
      by_import : (b : Bool) → nat_lt x (func_imports m) ≡ b → (if b then None else slice_get m.funcs (x - func_imports m)) ≡ Some f → func_type_at m x ≡ type_at m f.sort
      by_import true z e = cc
      by_import false z e =
          ap or_empty (slice_get-map (type_at m) (func_sorts m) x)
          ∙ ap (λ o. or_empty (option_map (type_at m) o)) (behind (imported imported_func m) (sorts_of m.funcs) x (ltb-false x (func_imports m) z))
          ∙ ap (λ o. or_empty (option_map (type_at m) o)) (slice_get-map (λ (f : Func). f.sort) m.funcs (x - func_imports m))
          ∙ ap (λ o. or_empty (option_map (type_at m) (option_map (λ (f : Func). f.sort) o))) e

  -- a function that is there and isn't defined is imported
  pub not_defined : (x : ℕ) → x < length (func_sorts m) → defined_at m x ≡ None → x < func_imports m
  not_defined x h = by_import (nat_lt x (func_imports m)) refl
    where
      by_import : (b : Bool) → nat_lt x (func_imports m) ≡ b → (if b then None else slice_get m.funcs (x - func_imports m)) ≡ None → x < func_imports m
      by_import true z e = ltb-true x (func_imports m) z
      by_import false z e =
          let le = ltb-false x (func_imports m) z in
          let n : length (func_sorts m) ≡ func_imports m + length m.funcs = length-append (imported imported_func m) (sorts_of m.funcs)
          ∙ ap (λ k. func_imports m + k) (length-map m.funcs (λ (f : Func). f.sort)) in
          absurd (there m.funcs (x - func_imports m) (omega arith) e)

  -- a function that is found is there
  pub func_found : (x : ℕ) (t : FuncType) → slice_get (func_types m) x ≡ Some t → (x < length (func_sorts m)) × (func_type_at m x ≡ t)
  func_found x t e = (subst (λ k. x < k) (length-map (func_sorts m) (type_at m)) (slice_get_within (func_types m) x t e), ap or_empty e)
