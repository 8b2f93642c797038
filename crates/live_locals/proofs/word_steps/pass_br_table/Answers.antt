use Rattle.wa_types.specs.Syntax.{br_table, done, plain}
use Rattle.live_locals.proofs.SetLemmas.{to_labels}
use Rattle.live_locals.proofs.StepLemmas.{operand_then}
use Rattle.live_locals.specs.Words.{world, told_in}
use Rattle.live_locals.proofs.word_steps.pass_br_table.Goals as goal

pub returns : goal.returns
returns c = λ i il. operand_then (told_in i c.args.outer.now c.args.inner.now) c.args.index (plain (br_table c.args.labels.now c.args.last) done) (world i c.args.set.now)
    (world i c.join_label.new.set) (world i c.read_operand.new.set)
    (to_labels (told_in i c.args.outer.now c.args.inner.now) c.args.labels.now c.args.last (world i c.args.set.now) (world i c.empty.new.set) (world i c.join_labels.new.set)
    (world i c.join_label.new.set)
    (c.empty.ensures i il (told_in i c.args.outer.now c.args.inner.now)) (c.join_labels.ensures i il) (c.join_label.ensures i il)) (c.read_operand.ensures i il)
