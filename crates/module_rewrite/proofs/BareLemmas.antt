-- Functions without bodies and locals.
use Rattle.std.proofs.Common.{◌≡◌, ◌∙◌, ℕ, ◌+◌, ◌<◌, ◌^◌, List, [], ◌∷◌, ◌++◌, length, get_or, map, take, All, refl, sym, ap, subst, arith}
use Rattle.std.proofs.lemmas.List.{get_or-map, length-map, map_more, map-append}
use Rattle.wa_types.specs.declared.syntax.Func.{Func as FuncValue}
use Rattle.wa_types.specs.Syntax.{Func, Module}
use Rattle.wa_types.specs.View.{code, func_of, onto}
use Rattle.wasm_encode.specs.Around.{IsAround}
use Rattle.wasm_encode.specs.Locals.{local_count}
use Rattle.module_rewrite.specs.Bare.{bare, without_bodies}

bare_is : (f w : FuncValue) → w.sort ≡ f.sort → w.locals.items ≡ [] → w.body.items ≡ [] → func_of w ≡ bare (func_of f)
unfolding code onto
bare_is f w s l b = λ i. record { sort = s i; locals = l i; body = code (b i) }

-- one function more
pub bare_next : (fs : List FuncValue) (i : ℕ) (f : FuncValue) (out new : List FuncValue) (w : FuncValue) → i < length fs → f ≡ get_or fs i f → w.sort ≡ f.sort → w.locals.items ≡ []
    → w.body.items ≡ [] → new ≡ out ++ w ∷ [] → map func_of out ≡ map bare (map func_of (take i fs)) → map func_of new ≡ map bare (map func_of (take (i + 1) fs))
bare_next fs i f out new w lt at s l b e before =
    ap (map func_of) e ∙ map-append func_of out (w ∷ []) ∙ (λ j. before j ++ bare_is f w s l b j ∷ [])
    ∙ sym (ap (map bare) (map_more func_of fs i f lt ∙ ap (λ g. map func_of (take i fs) ++ func_of g ∷ []) (sym at))
    ∙ map-append bare (map func_of (take i fs)) (func_of f ∷ []))

same_sorts : (fs : List Func) → map (λ (f : Func). f.sort) (map bare fs) ≡ map (λ (f : Func). f.sort) fs
same_sorts [] = refl
same_sorts (f ∷ fs) = ap (λ ks. f.sort ∷ ks) (same_sorts fs)

none_many : (fs : List Func) → All (λ (f : Func). local_count f.locals < 2 ^ 32) (map bare fs)
none_many fs k d lt =
    let count = length-map fs bare in
    subst (λ (f : Func). local_count f.locals < 2 ^ 32) (sym (get_or-map bare fs k d d (omega (arith, count, lt)))) (let none : local_count [] < 2 ^ 32 = omega arith in none)

-- what stands around a module's functions stands around their types
pub bare_around : (m p q : Module) → q ≡ without_bodies m → IsAround m p → IsAround q p
bare_around m p q e h = subst (λ (x : Module). IsAround x p) (sym e) (record {
  other_funcs = h.other_funcs;
  sorts = h.sorts ∙ sym (same_sorts m.funcs);
  locals = none_many m.funcs;
  fits = h.fits;
})
