use Rattle.std.proofs.Common.{ap, refl, ◌∙◌, ◌∷◌, []}
use Rattle.wa_types.specs.Syntax.{br_table, plain}
use Rattle.wa_types.specs.View.{onto}
use Rattle.wa_types.proofs.ViewLemmas.{in_br_table}
use Rattle.flow_rewrite.proofs.PutLemmas.{put_one}
use Rattle.slim_rewrite.proofs.BranchLemmas.{table_ended}
use Rattle.slim_rewrite.proofs.branches.put_br_table.Goals as goal

pub returns : goal.returns
returns c = λ e.
    table_ended c.args.at.now c.take.new.at c.take.new.at (c.args.index ∷ []) c.requires (c.in_ok-take.ensures c.if-not-branch.false) c.push.new.self c.args.index c.args.labels.now c.args.last refl
    (λ rest. put_one _ _ _ _ c.in_ok-push.ensures.items (in_br_table _ c.args.last) rest
    ∙ ap (λ xs. onto c.take.new.at.piece.items (plain (br_table xs c.args.last) rest)) c.in_ok-labels.ensures.items)
