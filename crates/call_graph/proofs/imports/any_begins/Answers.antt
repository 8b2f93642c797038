use Rattle.std.proofs.Common.{arith, rules, of_calls, ◌-◌, ◌∙◌}
use Rattle.std.proofs.lemmas.List.Sorted.{IsPartitionPoint-from_clause}
use Rattle.call_graph.proofs.Beginnings.{is_upto, parted, last_begins, none_begins}
use Rattle.call_graph.proofs.imports.any_begins.Goals as goal

pub returns-then-count-eq0 : goal.returns-then-count-eq0
returns-then-count-eq0 c =
    let name = c.args.name.now in
    let texts = c.args.texts.now in
    let point = IsPartitionPoint-from_clause (is_upto name) texts _ c.partition_point-count.ensures.partitioned (parted name texts c.requires) (λ a r f k. search (rules, of_calls)) in
    none_begins name texts _ c.if-count-eq0.true point.1

pub returns : goal.returns
returns c =
    let name = c.args.name.now in
    let texts = c.args.texts.now in
    let point = IsPartitionPoint-from_clause (is_upto name) texts _ c.partition_point-count.ensures.partitioned (parted name texts c.requires) (λ a r f k. search (rules, of_calls)) in
    c.begins_with.ensures
    ∙ last_begins name _ texts c.partition_point-count.result (c.partition_point-count.result - 1) c.requires (omega (arith, c.if-count-eq0.false)) c.partition_point-count.ensures.bound point.0 point.1
