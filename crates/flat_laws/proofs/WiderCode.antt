-- Flat code is the same where more stands around the body.
use Rattle.std.proofs.Common.{◌≡◌, ◌∙◌, List, [], ◌∷◌, ◌++◌, drop, length, reverse, suc, Option, Bool, true, false, refl, sym, ap, subst}
use Rattle.std.proofs.lemmas.List.{append_assoc}
use Rattle.std.specs.Prelude.{slice_get}
use Rattle.wa_types.specs.declared.values.ValType.{ValType}
use Rattle.wa_types.specs.Syntax.{Plain, basic, local_get, local_set, local_tee, br, br_if, br_table, return, unreachable, call, call_indirect, Code, done, plain, nest, branch, FuncType}
use Rattle.wa_types.specs.Pruned.{is_last}
use Rattle.wa_types.specs.Typing.{Around, listed, sig, Takes, label, Types}
use Rattle.wa_types.specs.Points.{after, unless_last, points}
use Rattle.wa_types.specs.Modules.{or_empty}
use Rattle.run_theory.specs.Flat.{Stmts, calls, nests, decides}
use Rattle.wa_model.specs.declared.flat.Operand.TheVariants.{Local}
use Rattle.run_theory.proofs.WiderTyping.{Wider, takes_wider}
use Rattle.flat_laws.specs.Flatten.{Names, slots, top, top_of, arrive, flat, flat_plain}
use Rattle.wa_types.proofs.PointLemmas.{takes_after, passes}
use Rattle.flat_laws.proofs.OperandTypes.{after_all}

module _ (c d : Around) (w : Wider c d) where
  -- ---- points

  after_both : (ls : List (Option ValType)) (p : Plain) (own mids : List ValType) → is_last p ≡ false → Takes (sig c ls p) own mids → (after (sig d ls p) own ≡ mids) × (after (sig c ls p) own ≡ mids)
  after_both ls p own mids e t =
      (sym (takes_after (sig d ls p) own mids (passes d ls p e) (takes_wider c d w own mids ls p t)), sym (takes_after (sig c ls p) own mids (passes c ls p e) t))

  pub points_wider : (ls : List (Option ValType)) (code : Code) (outs own under : List ValType) → Types c ls code outs own → points d ls code under own ≡ points c ls code under own
  unfolding points Types
  points_wider ls done outs own under t = refl
  points_wider ls (plain p rest) outs own under t = ap (λ ps. (own ++ under) ∷ ps) (by (is_last p) refl (points_wider ls rest outs t.0 under t.2))
    where
      by : (b : Bool) → is_last p ≡ b → points d ls rest under t.0 ≡ points c ls rest under t.0
          → unless_last b (points d ls rest under (after (sig d ls p) own)) ≡ unless_last b (points c ls rest under (after (sig c ls p) own))
      by true e ih = refl
      by false e ih = let a = after_both ls p own t.0 e t.1 in ap (points d ls rest under) a.0 ∙ ih ∙ ap (points c ls rest under) (sym a.1)
  points_wider ls (nest s r body rest) outs own under t =
      let a = points_wider (label s r ∷ ls) body (listed r) [] (own ++ under) t.0 in
      let b = points_wider ls rest outs (listed r ++ own) under t.1 in
      ap (λ ps. (own ++ under) ∷ (ps ++ points d ls rest under (listed r ++ own))) a
      ∙ ap (λ ps. (own ++ under) ∷ (points c (label s r ∷ ls) body (own ++ under) [] ++ ps)) b
  points_wider ls (branch r x y rest) outs own under t =
      let e : drop 1 own ≡ t.0 = ap (drop 1) t.1 in
      let a = points_wider (r ∷ ls) x (listed r) [] (t.0 ++ under) t.2 in
      let b = points_wider (r ∷ ls) y (listed r) [] (t.0 ++ under) t.3 in
      let g = points_wider ls rest outs (listed r ++ t.0) under t.4 in
      ap (λ ps. (own ++ under) ∷ ps)
      (subst (λ k. points d (r ∷ ls) x (k ++ under) [] ++ (points d (r ∷ ls) y (k ++ under) [] ++ points d ls rest under (listed r ++ k))
      ≡ points c (r ∷ ls) x (k ++ under) [] ++ (points c (r ∷ ls) y (k ++ under) [] ++ points c ls rest under (listed r ++ k))) (sym e)
      (ap (λ ps. ps ++ (points d (r ∷ ls) y (t.0 ++ under) [] ++ points d ls rest under (listed r ++ t.0))) a
      ∙ ap (λ ps. points c (r ∷ ls) x (t.0 ++ under) [] ++ (ps ++ points d ls rest under (listed r ++ t.0))) b
      ∙ ap (λ ps. points c (r ∷ ls) x (t.0 ++ under) [] ++ (points c (r ∷ ls) y (t.0 ++ under) [] ++ ps)) g))

  -- ---- flat code, where the types of functions and of indices are the same

  module _ (funcs : d.funcs ≡ c.funcs) (types : d.types ≡ c.types) (n : Names) where
    plain_wider : (ls : List (Option ValType)) (ops behind : List ValType) (p : Plain) (rest : Stmts) → flat_plain n d ls ops behind p rest ≡ flat_plain n c ls ops behind p rest
    plain_wider ls ops behind (basic b) rest = refl
    plain_wider ls ops behind (local_get x) rest = refl
    plain_wider ls ops behind (local_set x) rest = refl
    plain_wider ls ops behind (local_tee x) rest = refl
    plain_wider ls ops behind (br l) rest = refl
    plain_wider ls ops behind (br_if l) rest = refl
    plain_wider ls ops behind (br_table ts l) rest = refl
    plain_wider ls ops behind return rest = refl
    plain_wider ls ops behind unreachable rest = refl
    plain_wider ls ops behind (call x) rest =
        ap (λ fs. let t : FuncType = or_empty (slice_get fs x) in calls (plain (call x) done) (reverse (slots n ops)) (length t.params) (top_of n (length t.results) behind) rest) funcs
    plain_wider ls ops behind (call_indirect x) rest =
        ap (λ ts. let t : FuncType = or_empty (slice_get ts x) in calls (plain (call_indirect x) done) (reverse (slots n ops)) (suc (length t.params)) (top_of n (length t.results) behind) rest) types

    -- behind a last instruction nothing stands
    last_wider : (ls : List (Option ValType)) (ops b1 b2 : List ValType) (p : Plain) (r1 r2 : Stmts) → is_last p ≡ true → flat_plain n d ls ops b1 p r1 ≡ flat_plain n c ls ops b2 p r2
    last_wider ls ops b1 b2 (br l) r1 r2 e = refl
    last_wider ls ops b1 b2 (br_table ts l) r1 r2 e = refl
    last_wider ls ops b1 b2 return r1 r2 e = refl
    last_wider ls ops b1 b2 unreachable r1 r2 e = refl
    last_wider ls ops b1 b2 (basic b) r1 r2 e = cc
    last_wider ls ops b1 b2 (local_get x) r1 r2 e = cc
    last_wider ls ops b1 b2 (local_set x) r1 r2 e = cc
    last_wider ls ops b1 b2 (local_tee x) r1 r2 e = cc
    last_wider ls ops b1 b2 (br_if l) r1 r2 e = cc
    last_wider ls ops b1 b2 (call x) r1 r2 e = cc
    last_wider ls ops b1 b2 (call_indirect x) r1 r2 e = cc

    pub flat_wider : (ls : List (Option ValType)) (code : Code) (outs own low : List ValType) → Types c ls code outs own → flat n d ls code (own ++ low) ≡ flat n c ls code (own ++ low)
    unfolding flat Types
    flat_wider ls done outs own low t = refl
    flat_wider ls (plain p rest) outs own low t = by (is_last p) refl (flat_wider ls rest outs t.0 low t.2)
      where
        by : (b : Bool) → is_last p ≡ b → flat n d ls rest (t.0 ++ low) ≡ flat n c ls rest (t.0 ++ low)
            → flat_plain n d ls (own ++ low) (after (sig d ls p) (own ++ low)) p (flat n d ls rest (after (sig d ls p) (own ++ low)))
            ≡ flat_plain n c ls (own ++ low) (after (sig c ls p) (own ++ low)) p (flat n c ls rest (after (sig c ls p) (own ++ low)))
        by true e ih = last_wider ls (own ++ low) (after (sig d ls p) (own ++ low)) (after (sig c ls p) (own ++ low)) p (flat n d ls rest (after (sig d ls p) (own ++ low)))
            (flat n c ls rest (after (sig c ls p) (own ++ low))) e
        by false e ih =
            ap (λ behind. flat_plain n d ls (own ++ low) behind p (flat n d ls rest behind)) (after_all d ls p own t.0 low (own ++ low) e (takes_wider c d w own t.0 ls p t.1) refl)
            ∙ ap (flat_plain n d ls (own ++ low) (t.0 ++ low) p) ih
            ∙ plain_wider ls (own ++ low) (t.0 ++ low) p (flat n c ls rest (t.0 ++ low))
            ∙ ap (λ behind. flat_plain n c ls (own ++ low) behind p (flat n c ls rest behind)) (sym (after_all c ls p own t.0 low (own ++ low) e t.1 refl))
    flat_wider ls (nest s r body rest) outs own low t =
        let assoc : (listed r ++ own) ++ low ≡ listed r ++ (own ++ low) = append_assoc (listed r) own low in
        let a = flat_wider (label s r ∷ ls) body (listed r) [] (own ++ low) t.0 in
        let b = subst (λ ops. flat n d ls rest ops ≡ flat n c ls rest ops) assoc (flat_wider ls rest outs (listed r ++ own) low t.1) in
        ap (λ k. nests s k (arrive n (length ls) (label s r) (own ++ low) (flat n d ls rest (listed r ++ (own ++ low))))) a
        ∙ ap (λ k. nests s (flat n c (label s r ∷ ls) body (own ++ low)) (arrive n (length ls) (label s r) (own ++ low) k)) b
    flat_wider ls (branch r x y rest) outs own low t =
        let ops : List ValType = t.0 ++ low in
        let e : drop 1 (own ++ low) ≡ ops = ap (λ z. drop 1 (z ++ low)) t.1 in
        let assoc : (listed r ++ t.0) ++ low ≡ listed r ++ ops = append_assoc (listed r) t.0 low in
        let a = flat_wider (r ∷ ls) x (listed r) [] ops t.2 in
        let b = flat_wider (r ∷ ls) y (listed r) [] ops t.3 in
        let g = subst (λ os. flat n d ls rest os ≡ flat n c ls rest os) assoc (flat_wider ls rest outs (listed r ++ t.0) low t.4) in
        subst (λ os. decides (Local (top n (own ++ low))) (flat n d (r ∷ ls) x os) (flat n d (r ∷ ls) y os) (arrive n (length ls) r os (flat n d ls rest (listed r ++ os)))
        ≡ decides (Local (top n (own ++ low))) (flat n c (r ∷ ls) x os) (flat n c (r ∷ ls) y os) (arrive n (length ls) r os (flat n c ls rest (listed r ++ os)))) (sym e)
        (ap (λ k. decides (Local (top n (own ++ low))) k (flat n d (r ∷ ls) y ops) (arrive n (length ls) r ops (flat n d ls rest (listed r ++ ops)))) a
        ∙ ap (λ k. decides (Local (top n (own ++ low))) (flat n c (r ∷ ls) x ops) k (arrive n (length ls) r ops (flat n d ls rest (listed r ++ ops)))) b
        ∙ ap (λ k. decides (Local (top n (own ++ low))) (flat n c (r ∷ ls) x ops) (flat n c (r ∷ ls) y ops) (arrive n (length ls) r ops k)) g)
