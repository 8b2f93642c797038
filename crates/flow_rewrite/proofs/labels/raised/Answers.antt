use Rattle.wa_types.specs.View.{code}
use Rattle.flow_rewrite.proofs.RaiseLemmas.{raised_none}
use Rattle.flow_rewrite.proofs.labels.raised.Goals as goal

pub returns : goal.returns
returns c = raised_none c.args.inside c.args.by _ _ (code c.args.body.now) c.in_ok-out.ensures.items c.in_ok-raise_onto.ensures
