-- Values beside others, one by one.
use Rattle.std.proofs.Common.{arith, ◌≡◌, ◌<◌, ◌++◌, ℕ, suc, List, [], ◌∷◌, map, length, Some, Bool, false, refl, sym, ap, ◌∙◌}
use Rattle.std.specs.Prelude.{slice_get}
use Rattle.std.specs.Option.{option_map}
use Rattle.std.proofs.lemmas.List.{map-append}
use Rattle.std.proofs.lemmas.Option.{slice_get-map, slice_get_within}
use Rattle.wa_types.specs.declared.syntax.GlobalDef.{GlobalDef as GlobalValue}
use Rattle.wa_types.specs.declared.values.Value.{Value}
use Rattle.wa_types.specs.Modules.{global_type}
use Rattle.wa_types.specs.Typing.{GlobalType, type_of}
use Rattle.wa_types.specs.View.{global_of}
use Rattle.run_theory.specs.Fitting.{types_of}
use Rattle.pause_host.specs.Thawing.{SameConstants}

-- ---- types

pub types_all : (these those : List Value) → length these ≡ length those → ((k : ℕ) → k < length these → option_map type_of (slice_get those k) ≡ option_map type_of (slice_get these k))
    → types_of those ≡ types_of these
types_all [] [] e h = refl
types_all [] (y ∷ ys) e h = absurd (omega arith)
types_all (x ∷ xs) [] e h = absurd (omega arith)
types_all (x ∷ xs) (y ∷ ys) e h =
    let first : Some (type_of y) ≡ Some (type_of x) = h 0 (omega arith) in
    let same : type_of y ≡ type_of x = cc in
    ap (λ t. t ∷ types_of ys) same ∙ ap (λ ts. type_of x ∷ ts) (types_all xs ys (omega arith) (λ k lt. h (suc k) (omega arith)))

pub types_differ : (these those : List Value) (i : ℕ) (x y : Value) → slice_get these i ≡ Some x → slice_get those i ≡ Some y → (type_of y ≡ type_of x → ⊥) → types_of those ≡ types_of these → ⊥
types_differ these those i x y at there differ e =
    let same : Some (type_of y) ≡ Some (type_of x) =
    sym (ap (option_map type_of) there) ∙ sym (slice_get-map type_of those i) ∙ ap (λ ts. slice_get ts i) e ∙ slice_get-map type_of these i ∙ ap (option_map type_of) at in
    differ (cc)

-- ---- constants

pub constants_all : (mutables : List Bool) (opened values : List Value) → length mutables ≡ length values
    → ((k : ℕ) → k < length values → slice_get mutables k ≡ Some false → slice_get values k ≡ slice_get opened k) → SameConstants mutables opened values
constants_all mutables opened values many h i m = let lt = slice_get_within mutables i false m in h i (omega arith) m

pub constants_differ : (mutables : List Bool) (opened values : List Value) (i : ℕ) (x y : Value) → slice_get mutables i ≡ Some false → slice_get values i ≡ Some x → slice_get opened i ≡ Some y
    → (x ≡ y → ⊥) → SameConstants mutables opened values → ⊥
constants_differ mutables opened values i x y m at there differ s = let same : Some x ≡ Some y = sym at ∙ s i m ∙ there in differ (cc)

-- ---- which are mutable

defined_mutable : (gs : List GlobalValue) → map (λ (g : GlobalType). g.mutable) (map global_type (map global_of gs)) ≡ map (λ (g : GlobalValue). g.mutable) gs
defined_mutable [] = refl
defined_mutable (g ∷ gs) = ap (λ ms. g.mutable ∷ ms) (defined_mutable gs)

pub mutables_are : (imports : List GlobalType) (gs : List GlobalValue)
    → map (λ (g : GlobalType). g.mutable) imports ++ map (λ (g : GlobalValue). g.mutable) gs ≡ map (λ (g : GlobalType). g.mutable) (imports ++ map global_type (map global_of gs))
mutables_are imports gs =
    ap (λ ms. map (λ (g : GlobalType). g.mutable) imports ++ ms) (sym (defined_mutable gs))
    ∙ sym (map-append (λ (g : GlobalType). g.mutable) imports (map global_type (map global_of gs)))
