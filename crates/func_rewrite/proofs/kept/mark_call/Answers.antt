use Rattle.std.specs.Prelude.{nat_eq}
use Rattle.std.specs.List.{list_any}
use Rattle.std.proofs.Common.{sym, ◌∙◌, get_or, false}
use Rattle.guard_form.specs.Grouping.{is_place}
use Rattle.func_rewrite.proofs.MarkLemmas.{marked_where, unmarked_where}
use Rattle.func_rewrite.proofs.kept.mark_call.Goals as goal

pub returns-then-is_numbered : goal.returns-then-is_numbered
returns-then-is_numbered c = λ x. marked_where _ _ (is_place c.args.numbers.now c.args.place) (list_any (nat_eq x) c.args.stack.now) (sym c.is_numbered.ensures ∙ c.if-is_numbered.true)
    (c.mark_stack.ensures x)

pub returns-else-is_numbered : goal.returns-else-is_numbered
returns-else-is_numbered c = λ x. unmarked_where (get_or c.args.kept.now x false) (is_place c.args.numbers.now c.args.place) (list_any (nat_eq x) c.args.stack.now)
    (sym c.is_numbered.ensures ∙ c.if-is_numbered.false)
