use Rattle.host_setup.specs.Views.{named_in}
use Rattle.host_setup.proofs.Found.{next_export}
use Rattle.host_setup.proofs.exports.by_name.Goals as goal

pub loop-export-preserved : goal.loop-export-preserved
loop-export-preserved c =
    next_export (named_in c.loop-export.names)
    (named_in c.put_export.new.names) c.args.exports.now c.loop-export.export-index c.export-item.result c.loop-export-test.true c.export-item.is c.loop-export.invariant
    c.in_ok-put_export.ensures
