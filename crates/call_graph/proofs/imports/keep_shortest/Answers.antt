use Rattle.std.proofs.Common.{rules, ◌≡◌, nat_eq, sym, ap, subst, ◌∙◌}
use Rattle.std.specs.List.{dedup, starts_with}
use Rattle.std.proofs.lemmas.Fn.{dedup_same}
use Rattle.call_graph.specs.Index.{any_begins, Apart}
use Rattle.call_graph.proofs.Beginnings.{any_moved, longer, shortest_apart, shortest_begin}
use Rattle.call_graph.proofs.imports.keep_shortest.Goals as goal

pub returns-clause-apart : goal.returns-clause-apart
returns-clause-apart c =
    let kept = dedup_same _ longer _ (λ x y b f' x' y' k. search rules) _ _ c.dedup_by.ensures.filtered in
    subst Apart (sym kept) (shortest_apart _ c.in_ok-sort.ensures.sorted)

pub returns-clause-any : goal.returns-clause-any
returns-clause-any c = λ name.
    let kept = dedup_same _ longer _ (λ x y b f' x' y' k. search rules) _ _ c.dedup_by.ensures.filtered in
    ap (λ l. any_begins l name) kept ∙ shortest_begin name _ ∙ any_moved (λ t. starts_with nat_eq name t.now) _ _ c.in_ok-sort.ensures.permutation
