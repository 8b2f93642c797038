-- A walk's operands are those of a point: each step leads from points of what lies ahead to points of the whole.
use Rattle.std.proofs.Common.{◌++◌, List, [], ◌∷◌, drop, Option, inl, inr, refl, sym, ap, subst}
use Rattle.wa_types.specs.declared.values.ValType.{ValType}
use Rattle.wa_types.specs.Syntax.{Code, done, plain, nest, branch}
use Rattle.wa_types.specs.Typing.{Around, Types}
use Rattle.wa_types.specs.Points.{Unless, AtPoint}
use Rattle.slot_laws.specs.WalkPoints.{Walked, at_outset, behind_plain, behind_nest, behind_branch, into_nest, into_arm, into_else, WalksStandAtPoints}

here : (c : Around) (ls : List (Option ValType)) (code : Code) (own under : List ValType) → AtPoint c ls code under own (own ++ under)
unfolding AtPoint
here c ls done own under = refl
here c ls (plain p rest) own under = inl refl
here c ls (nest s r body rest) own under = inl refl
here c ls (branch r a b rest) own under = inl refl

module _ (c : Around) (start : Code) where
  ahead : (ls : List (Option ValType)) (code : Code) (own under all : List ValType) → Walked c start ls code own under → AtPoint c ls code under own all → AtPoint c (c.result ∷ []) start [] [] all
  unfolding AtPoint Types
  ahead _ _ _ _ all at_outset at = at
  ahead ls rest _ under all (behind_plain {own} p new w goes t) at =
      ahead ls (plain p rest) own under all w
      (inr (t.0, t.1, subst (λ b. Unless b (AtPoint c ls rest under t.0 all)) (sym goes) (subst (λ xs. AtPoint c ls rest under xs all) (sym t.2) at)))
  ahead ls rest _ under all (behind_nest {own} s r body new w t) at =
      ahead ls (nest s r body rest) own under all w (inr (inr (subst (λ xs. AtPoint c ls rest under xs all) (sym t.1) at)))
  ahead ls rest _ under all (behind_branch {own} r a b new w t) at =
      ahead ls (branch r a b rest) own under all w (inr (t.0, t.1, inr (inr (subst (λ xs. AtPoint c ls rest under xs all) (sym t.4) at))))
  ahead _ body _ _ all (into_nest {ls} {own} {under} s r rest w) at = ahead ls (nest s r body rest) own under all w (inr (inl at))
  ahead _ a _ _ all (into_arm {ls} {own} {under} r b rest new w t) at =
      ahead ls (branch r a b rest) own under all w (inr (t.0, t.1, inl (subst (λ xs. AtPoint c (r ∷ ls) a (xs ++ under) [] all) (ap (drop 1) t.1) at)))
  ahead _ b _ _ all (into_else {ls} {own} {under} r a rest new w t) at =
      ahead ls (branch r a b rest) own under all w (inr (t.0, t.1, inr (inl (subst (λ xs. AtPoint c (r ∷ ls) b (xs ++ under) [] all) (ap (drop 1) t.1) at))))

pub walks_at_points : WalksStandAtPoints
walks_at_points c start ls code own under w = ahead c start ls code own under (own ++ under) w (here c ls code own under)
