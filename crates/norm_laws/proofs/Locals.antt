-- Runs of locals: merging keeps the locals, and merges once.
use Rattle.std.proofs.Common.{◌≡◌, ℕ, ◌+◌, ◌++◌, List, [], ◌∷◌, map, Bool, true, false, refl, sym, ap, ◌∙◌, append_assoc, arith, eqb-true}
use Rattle.std.proofs.lemmas.Bool.{eqb-false, ne_eqb}
use Rattle.std.specs.Prelude.{replicate, if◌then◌else◌, ◌==◌}
use Rattle.std.proofs.lemmas.List.{replicate-append-replicate}
use Rattle.wa_types.specs.declared.values.ValType.{ValType}
use Rattle.wa_types.specs.declared.values.ValType.TheVariants.{I32, I64}
use Rattle.wa_types.specs.declared.syntax.Run.{Run}
use Rattle.wa_types.specs.Encoding.{same_type, run_onto, merged}
use Rattle.wa_types.specs.Modules.{declared_locals}
use Rattle.run_theory.specs.FlatFits.{one_run}

same_is : (t u : ValType) → same_type t u ≡ true → t ≡ u
same_is I32 I32 e = refl
same_is I64 I64 e = refl
same_is I32 I64 e = cc
same_is I64 I32 e = cc

onto_keeps : (r : Run) (rs : List Run) → declared_locals (run_onto r rs) ≡ replicate r.count r.ty ++ declared_locals rs
onto_keeps r [] = refl
onto_keeps r (s ∷ rest) = by_type (same_type r.ty s.ty) refl
  where
    by_type : (b : Bool) → same_type r.ty s.ty ≡ b
        → declared_locals (if b then (record { count = r.count + s.count; ty = r.ty }) ∷ rest else r ∷ s ∷ rest) ≡ replicate r.count r.ty ++ (replicate s.count s.ty ++ declared_locals rest)
    by_type true e =
        ap (λ xs. xs ++ declared_locals rest) (sym (replicate-append-replicate r.count s.count r.ty))
        ∙ append_assoc (replicate r.count r.ty) (replicate s.count r.ty) (declared_locals rest)
        ∙ ap (λ t. replicate r.count r.ty ++ (replicate s.count t ++ declared_locals rest)) (same_is r.ty s.ty e)
    by_type false e = refl

pub merged_keeps : (rs : List Run) → declared_locals (merged rs) ≡ declared_locals rs
merged_keeps [] = refl
merged_keeps (r ∷ rest) = by_count (r.count == 0) refl (merged_keeps rest)
  where
    by_count : (b : Bool) → (r.count == 0) ≡ b → declared_locals (merged rest) ≡ declared_locals rest
        → declared_locals (if b then merged rest else run_onto r (merged rest)) ≡ replicate r.count r.ty ++ declared_locals rest
    by_count true e more = more ∙ ap (λ n. replicate n r.ty ++ declared_locals rest) (sym (eqb-true r.count 0 e))
    by_count false e more = onto_keeps r (merged rest) ∙ ap (λ xs. replicate r.count r.ty ++ xs) more

pub one_by_one_keeps : (ts : List ValType) → declared_locals (map one_run ts) ≡ ts
one_by_one_keeps [] = refl
one_by_one_keeps (t ∷ ts) = ap (λ xs. t ∷ xs) (one_by_one_keeps ts)

-- ---- merged once

StartsOther : ValType → List Run → Type 0
StartsOther t [] = Unit {0}
StartsOther t (s ∷ rest) = same_type t s.ty ≡ false

-- no run is empty, and adjacent ones differ in type
Apart : List Run → Type 0
Apart [] = Unit {0}
Apart (r ∷ rest) = ((r.count == 0) ≡ false) × StartsOther r.ty rest × Apart rest

onto_apart : (r : Run) (rs : List Run) → (r.count == 0) ≡ false → Apart rs → Apart (run_onto r rs)
unfolding Apart StartsOther
onto_apart r [] e h = (e, tt, tt)
onto_apart r (s ∷ rest) e h = by_type (same_type r.ty s.ty) refl
  where
    more : (a b : ℕ) → (a == 0) ≡ false → ((a + b) == 0) ≡ false
    more a b e = ne_eqb (a + b) 0 (λ z. eqb-false a 0 e (omega (arith, z)))

    other : (xs : List Run) (t u : ValType) → t ≡ u → StartsOther u xs → StartsOther t xs
    other [] t u e k = tt
    other (x ∷ xs) t u e k = ap (λ v. same_type v x.ty) e ∙ k

    by_type : (b : Bool) → same_type r.ty s.ty ≡ b → Apart (if b then (record { count = r.count + s.count; ty = r.ty }) ∷ rest else r ∷ s ∷ rest)
    by_type true k = (more r.count s.count e, other rest r.ty s.ty (same_is r.ty s.ty k) h.1, h.2)
    by_type false k = (e, k, h)

merged_apart : (rs : List Run) → Apart (merged rs)
unfolding Apart
merged_apart [] = tt
merged_apart (r ∷ rest) = by_count (r.count == 0) refl (merged_apart rest)
  where
    by_count : (b : Bool) → (r.count == 0) ≡ b → Apart (merged rest) → Apart (if b then merged rest else run_onto r (merged rest))
    by_count true e more = more
    by_count false e more = onto_apart r (merged rest) e more

apart_stays : (rs : List Run) → Apart rs → merged rs ≡ rs
unfolding Apart StartsOther
apart_stays [] h = refl
apart_stays (r ∷ rest) h =
    ap (λ b. if b then merged rest else run_onto r (merged rest)) h.0 ∙ ap (run_onto r) (apart_stays rest h.2) ∙ in_front rest h.1
  where
    in_front : (xs : List Run) → StartsOther r.ty xs → run_onto r xs ≡ r ∷ xs
    in_front [] k = refl
    in_front (s ∷ xs) k = ap (λ b. if b then (record { count = r.count + s.count; ty = r.ty }) ∷ xs else r ∷ s ∷ xs) k

pub merged_once : (rs : List Run) → merged (merged rs) ≡ merged rs
merged_once rs = apart_stays (merged rs) (merged_apart rs)
