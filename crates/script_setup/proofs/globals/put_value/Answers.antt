use Rattle.script_setup.proofs.GlobalTables.{put_told}
use Rattle.script_setup.proofs.globals.put_value.Goals as goal

pub returns : goal.returns
returns c = put_told c.args.values.now c.insert.new.self c.as_str.result.now c.args.global.now.name c.args.global.now.value c.as_str.ensures c.in_ok-insert.ensures.updates
