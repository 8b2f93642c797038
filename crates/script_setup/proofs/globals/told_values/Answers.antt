use Rattle.script_setup.specs.Tables.{value_in}
use Rattle.script_setup.proofs.GlobalTables.{all_values, next_values}
use Rattle.script_setup.proofs.globals.told_values.Goals as goal

pub loop-global-preserved : goal.loop-global-preserved
loop-global-preserved c =
    next_values (value_in c.loop-global.values) (value_in c.put_value.new.values) c.args.globals.now c.loop-global.global-index c.global-item.result c.loop-global-test.true c.global-item.is
    c.loop-global.invariant
    c.in_ok-put_value.ensures

pub returns : goal.returns
returns c = all_values (value_in c.loop-global.values) c.args.globals.now c.loop-global.global-index c.loop-global-test.false c.loop-global.invariant
