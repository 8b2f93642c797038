use Rattle.live_locals.specs.Sets.{told_by}
use Rattle.live_locals.proofs.SetLemmas.{to_label}
use Rattle.live_locals.proofs.steps.pass_br.Goals as goal

pub returns : goal.returns
returns c = to_label (told_by c.args.tos.now) c.args.label c.args.set.now c.empty.new.set c.join_label.new.set (c.empty.ensures (told_by c.args.tos.now)) c.join_label.ensures
