use Rattle.script_setup.proofs.Bound.{put_found}
use Rattle.script_setup.proofs.binding.put_place.Goals as goal

pub returns : goal.returns
returns c = put_found c.args.places.now c.insert.new.self c.as_str.result.now c.args.bind.now.import c.args.place c.as_str.ensures c.in_ok-insert.ensures.updates
