use Rattle.live_locals.specs.Sets.{told_by}
use Rattle.wa_types.specs.Syntax.{br_table, done, plain}
use Rattle.live_locals.proofs.SetLemmas.{to_labels}
use Rattle.live_locals.proofs.StepLemmas.{operand_then}
use Rattle.live_locals.proofs.steps.pass_br_table.Goals as goal

pub returns : goal.returns
returns c = operand_then (told_by c.args.tos.now) c.args.index (plain (br_table c.args.labels.now c.args.last) done) c.args.set.now c.join_label.new.set c.read_operand.new.set
    (to_labels (told_by c.args.tos.now) c.args.labels.now c.args.last c.args.set.now c.empty.new.set c.join_labels.new.set c.join_label.new.set
    (c.empty.ensures (told_by c.args.tos.now)) c.join_labels.ensures c.join_label.ensures) c.read_operand.ensures
