-- Functions that a rewritten module exports under names of the original's.
use Rattle.std.proofs.Common.{◌≡◌, ℕ, suc, ◌<◌, List, [], ◌∷◌, ◌++◌, map, Option, Some, None, Bool, true, false, cond, ◌||◌, refl, sym, ap, ◌∙◌, subst, arith, Contains}
use Rattle.std.specs.List.{filter_map, cons_option, find, list_any}
use Rattle.std.specs.Option.{option_or}
use Rattle.std.specs.Str.{bytes_eq}
use Rattle.std.proofs.lemmas.List.Folds.{find-append}
use Rattle.std.proofs.lemmas.Slice.Eq.{bytes_eq-Decides}
use Rattle.wa_types.specs.declared.syntax.Export.{Export}
use Rattle.wa_types.specs.declared.syntax.Space.{Space}
use Rattle.wa_types.specs.declared.syntax.Space.TheVariants as Sp
use Rattle.wa_types.specs.Runtime.{runtime_exports}
use Rattle.wa_types.specs.Validity.{same_name, same_space}
use Rattle.run_theory.specs.Growth.{Each}
use Rattle.host_laws.proofs.MetLines.{same_bytes}
use Rattle.host_setup.specs.SetUp.{Needed, needed, is_five, is_func, func_in}

abbrev pub named : List ℕ → Export → Bool
named name e = same_name e.name name

-- ---- none of the five

left_no : (a b : Bool) → (a || b) ≡ false → a ≡ false
left_no true b h = h
left_no false b h = refl

right_no : (a b : Bool) → (a || b) ≡ false → b ≡ false
right_no true b h = cc
right_no false b h = h

no_name : (e name k : List ℕ) → e ≡ k → bytes_eq name k ≡ false → same_name e name ≡ false
no_name e name k same h = same_bytes e name ∙ by (bytes_eq e name) refl where
  by : (b : Bool) → bytes_eq e name ≡ b → b ≡ false
  by false z = refl
  by true z =
      let is : name ≡ k = sym ((bytes_eq-Decides e name).0 z) ∙ same in
      let yes : bytes_eq name k ≡ true = (bytes_eq-Decides name k).1 is in
      let clash : true ≡ false = sym yes ∙ h in
      cc

none_named : (name : List ℕ) (es : List Export) (ns : List Needed) → map (λ (e : Export). e.name) es ≡ map (λ (n : Needed). n.name) ns → list_any (λ (n : Needed). bytes_eq name n.name) ns ≡ false
    → find (named name) es ≡ None
none_named name [] ns same h = refl
none_named name (e ∷ es) [] same h = cc
none_named name (e ∷ es) (k ∷ ns) same h =
    let head : e.name ≡ k.name = cc in
    let rest : map (λ (e : Export). e.name) es ≡ map (λ (n : Needed). n.name) ns = cc in
    ap (λ (b : Bool). cond b (Some e) (find (named name) es)) (no_name e.name name k.name head (left_no (bytes_eq name k.name) (list_any (λ (n : Needed). bytes_eq name n.name) ns) h))
    ∙ none_named name es ns rest (right_no (bytes_eq name k.name) (list_any (λ (n : Needed). bytes_eq name n.name) ns) h)

none_of_five : (name : List ℕ) (first : ℕ) → is_five name ≡ false → find (named name) (runtime_exports first) ≡ None
none_of_five name first h = none_named name (runtime_exports first) needed refl h

-- ---- an export that is found

pub record Found (name : List ℕ) (es : List Export) (x : ℕ) : Type 0 where
  pub export : Export
  pub found : find (named name) es ≡ Some export
  pub space : export.space ≡ Sp.Func
  pub index : export.index ≡ x

found_in : (name : List ℕ) (es : List Export) (x : ℕ) (o : Option Export) → find (named name) es ≡ o → func_in o ≡ Some x → Found name es x
found_in name es x None is e = cc
found_in name es x (Some y) is e = by y.space refl e where
  by : (s : Space) → y.space ≡ s → (cond (is_func s) (Some y.index) None) ≡ Some x → Found name es x
  by Sp.Func z k =
      let same : y.index ≡ x = cc in
      record { export = y; found = is; space = z; index = same }
  by Sp.Table z k = cc
  by Sp.Memory z k = cc
  by Sp.Global z k = cc

-- one under another name than the five is the original's
pub found_original : (name : List ℕ) (es : List Export) (first x : ℕ) → is_five name ≡ false → func_in (find (named name) (es ++ runtime_exports first)) ≡ Some x → Found name es x
found_original name es first x other e = found_in name es x (find (named name) es) refl (sym (ap func_in (find-append (named name) es (runtime_exports first) ∙ by (find (named name) es))) ∙ e) where
  by : (o : Option Export) → option_or o (find (named name) (runtime_exports first)) ≡ o
  by None = none_of_five name first other
  by (Some y) = refl

-- it is one of them
pub contains_found : (q : Export → Bool) (es : List Export) (y : Export) → find q es ≡ Some y → Contains es y
contains_found q [] y e = cc
contains_found q (z ∷ es) y e = by (q z) e (contains_found q es y) where
  by : (b : Bool) → cond b (Some z) (find q es) ≡ Some y → (find q es ≡ Some y → Contains es y) → Contains (z ∷ es) y
  by true k rest =
      let same : z ≡ y = cc in
      (0, omega arith, same)
  by false k rest = let c = rest k in (suc c.0, omega (arith, c.1), c.2)

-- ---- indices

abbrev index_in : Export → Option ℕ
index_in e = cond (same_space e.space Sp.Func) (Some e.index) None

pub below_found : (q : Export → Bool) (n : ℕ) (es : List Export) (rest : List ℕ) (y : Export) → Each (λ x. x < n) (filter_map index_in es ++ rest) → find q es ≡ Some y
    → y.space ≡ Sp.Func → y.index < n
below_found q n [] rest y h e s = cc
below_found q n (z ∷ es) rest y h e s = by (q z) e (first (same_space z.space Sp.Func) h) (λ h' e'. below_found q n es rest y h' e' s) where
  first : (b : Bool) → Each (λ x. x < n) (cons_option (cond b (Some z.index) None) (filter_map index_in es) ++ rest) → (b ≡ true → z.index < n) × Each (λ x. x < n) (filter_map index_in es ++ rest)
  first true k = (λ _. k.0, k.1)
  first false k = (λ z. cc, k)

  by : (b : Bool) → cond b (Some z) (find q es) ≡ Some y → (same_space z.space Sp.Func ≡ true → z.index < n) × Each (λ x. x < n) (filter_map index_in es ++ rest)
      → (Each (λ x. x < n) (filter_map index_in es ++ rest) → find q es ≡ Some y → y.index < n) → y.index < n
  by true k f more =
      let same : z ≡ y = cc in
      let is : same_space z.space Sp.Func ≡ true = ap (λ (v : Export). same_space v.space Sp.Func) same ∙ ap (λ (v : Space). same_space v Sp.Func) s in
      subst (λ (v : Export). v.index < n) same (f.0 is)
  by false k f more = more f.1 k
