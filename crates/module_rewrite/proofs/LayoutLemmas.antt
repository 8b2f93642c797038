-- The frames of functions, put one after the other.
use Rattle.std.proofs.Common.{◌≡◌, ◌∙◌, ℕ, zero, suc, ◌+◌, ◌<◌, ◌≤◌, List, [], ◌∷◌, ◌++◌, length, get_or, drop, Some, Bool, true, false, refl, sym, ap, subst, arith, append_assoc}
use Rattle.std.specs.Prelude.{slice_get}
use Rattle.std.proofs.lemmas.List.{append-nil, drop_all}
use Rattle.std.proofs.lemmas.Option.{slice_get-get_or}
use Rattle.wa_types.specs.Frames.{Count}
use Rattle.wa_types.specs.Modules.{func_imports}
use Rattle.wa_types.specs.Pausing.{Settings, is_told}
use Rattle.wa_types.specs.Syntax.{Func, Module}
use Rattle.flat_laws.proofs.FlatModules.{dropped_at}
use Rattle.flatten.specs.Whole.{NonePasses}
use Rattle.func_rewrite.specs.Frames.{FramesOf}
use Rattle.module_rewrite.specs.Layouts.{LaidOut}
use Rattle.module_rewrite.specs.declared.layouts.FuncLayout.{FuncLayout}
use Rattle.module_rewrite.proofs.TakenFuncs.{drop_at, Here}
use Rattle.module_rewrite.proofs.WholeLemmas.{passes_at}

module _ (m : Module) (s : Settings) (which : List Bool) where
  abbrev n : ℕ
  n = func_imports m

  abbrev ws : List Bool
  ws = drop n which

  -- These are the frames of so many functions.
  pub record Laid (i : ℕ) (ls : List FuncLayout) : Type 0 where
    pub so_far : (rest : List FuncLayout) → LaidOut m s which (n + i) (drop i ws) (drop i m.funcs) rest → LaidOut m s which n ws m.funcs (ls ++ rest)

  pub laid_first : (ls : List FuncLayout) → ls ≡ [] → Laid 0 ls
  laid_first ls e =
      let z : n + 0 ≡ n = omega arith in
      record { so_far = λ rest h. subst (λ xs. LaidOut m s which n ws m.funcs (xs ++ rest)) (sym e) (subst (λ k. LaidOut m s which k ws m.funcs rest) z h) }

  pub laid_end : (i : ℕ) (ls : List FuncLayout) → Laid i ls → length m.funcs ≤ i → LaidOut m s which n ws m.funcs ls
  laid_end i ls g le =
      let none : drop i m.funcs ≡ [] = drop_all i m.funcs le in
      subst (LaidOut m s which n ws m.funcs) (append-nil ls) (g.so_far [] (subst (λ fs. LaidOut m s which (n + i) (drop i ws) fs []) (sym none) (nothing (n + i) (drop i ws))))
    where
      nothing : (x : ℕ) (us : List Bool) → LaidOut m s which x us [] []
      nothing x [] = refl
      nothing x (u ∷ us) = refl

  module _ (i at : ℕ) (ls : List FuncLayout) (g : Laid i ls) (f : Func) (p : Here m which i at f) where
    here_f : drop i m.funcs ≡ f ∷ drop (i + 1) m.funcs
    here_f = drop_at m.funcs i f p.is

    bit : (b : Bool) → get_or which at false ≡ b → slice_get which (n + i) ≡ Some b
    bit b e = ap (slice_get which) (sym p.place) ∙ slice_get-get_or which at false (omega (arith, p.many, p.within, p.place)) ∙ ap (λ c. Some c) e

    here_w : (b : Bool) → get_or which at false ≡ b → drop i ws ≡ b ∷ drop (i + 1) ws
    here_w b e = drop_at ws i b (dropped_at n i which ∙ bit b e)

    next_x : suc (n + i) ≡ n + (i + 1)
    next_x = omega arith

    pub laid_skip : get_or which at false ≡ false → Laid (i + 1) ls
    laid_skip e = record {
      so_far = λ rest h. g.so_far rest
          (subst (λ us. LaidOut m s which (n + i) us (drop i m.funcs) rest) (sym (here_w false e))
          (subst (λ fs. LaidOut m s which (n + i) (false ∷ drop (i + 1) ws) fs rest) (sym here_f) (subst (λ k. LaidOut m s which k (drop (i + 1) ws) (drop (i + 1) m.funcs) rest) (sym next_x) h)));
    }

    pub laid_put : get_or which at false ≡ true → (l : FuncLayout) (new : List FuncLayout) → l.func ≡ n + i → FramesOf m s which f l.calls.items → new ≡ ls ++ l ∷ [] → Laid (i + 1) new
    laid_put e l new x frames en = record {
      so_far = λ rest r.
          subst (LaidOut m s which n ws m.funcs) (sym (append_assoc ls (l ∷ []) rest) ∙ ap (λ xs. xs ++ rest) (sym en))
          (g.so_far (l ∷ rest)
          (subst (λ us. LaidOut m s which (n + i) us (drop i m.funcs) (l ∷ rest)) (sym (here_w true e))
          (subst (λ fs. LaidOut m s which (n + i) (true ∷ drop (i + 1) ws) fs (l ∷ rest)) (sym here_f)
          (x, frames, subst (λ k. LaidOut m s which k (drop (i + 1) ws) (drop (i + 1) m.funcs) rest) (sym next_x) r))));
    }

    -- it hasn't too many locals
    pub few_here : get_or which at false ≡ true → NonePasses m ws m.funcs → (h : Func) → slice_get m.funcs i ≡ Some h → Count m h ≤ 50000
    few_here e few h is = passes_at m ws m.funcs i h few is (ap is_told (dropped_at n i which ∙ bit true e))
