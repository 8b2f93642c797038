use Rattle.live_locals.specs.Sets.{told_by}
use Rattle.wa_types.specs.Syntax.{br_if, done, plain}
use Rattle.live_locals.proofs.SetLemmas.{maybe_to_label}
use Rattle.live_locals.proofs.StepLemmas.{operand_then}
use Rattle.live_locals.proofs.steps.pass_br_if.Goals as goal

pub returns : goal.returns
returns c = operand_then (told_by c.args.tos.now) c.args.cond (plain (br_if c.args.label) done) c.args.set.now c.join_label.new.set c.read_operand.new.set
    (maybe_to_label (told_by c.args.tos.now) c.args.label c.args.set.now c.join_label.new.set c.join_label.ensures) c.read_operand.ensures
