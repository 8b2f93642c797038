use Rattle.live_locals.proofs.SetLemmas.{to_label}
use Rattle.live_locals.specs.Words.{world, told_in}
use Rattle.live_locals.proofs.word_steps.pass_br.Goals as goal

pub returns : goal.returns
returns c = λ i il. to_label (told_in i c.args.outer.now c.args.inner.now) c.args.label (world i c.args.set.now) (world i c.empty.new.set) (world i c.join_label.new.set)
    (c.empty.ensures i il (told_in i c.args.outer.now c.args.inner.now)) (c.join_label.ensures i il)
