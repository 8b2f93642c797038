use Rattle.std.proofs.lemmas.Result.{on_ok_weaker}
use Rattle.wa_types.specs.View.{code}
use Rattle.guard_form.specs.Guarded.{raised}
use Rattle.flow_rewrite.proofs.PieceLemmas.{put_whole}
use Rattle.flow_rewrite.proofs.labels.put_raised.Goals as goal

pub returns : goal.returns
returns c = on_ok_weaker c.raise_onto.result (put_whole _ _ (raised 0 c.args.by (code c.args.body.now))) c.raise_onto.ensures
