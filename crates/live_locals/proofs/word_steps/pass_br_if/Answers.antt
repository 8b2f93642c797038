use Rattle.wa_types.specs.Syntax.{br_if, done, plain}
use Rattle.live_locals.proofs.SetLemmas.{maybe_to_label}
use Rattle.live_locals.proofs.StepLemmas.{operand_then}
use Rattle.live_locals.specs.Words.{world, told_in}
use Rattle.live_locals.proofs.word_steps.pass_br_if.Goals as goal

pub returns : goal.returns
returns c = λ i il. operand_then (told_in i c.args.outer.now c.args.inner.now) c.args.cond (plain (br_if c.args.label) done) (world i c.args.set.now) (world i c.join_label.new.set)
    (world i c.read_operand.new.set)
    (maybe_to_label (told_in i c.args.outer.now c.args.inner.now) c.args.label (world i c.args.set.now) (world i c.join_label.new.set) (c.join_label.ensures i il)) (c.read_operand.ensures i il)
