-- The counts of what never fails stand at 0.
use Rattle.std.proofs.Common.{refl}
use Rattle.memory_vaults.specs.InMemory.{sure_files}
use Rattle.asyncify_app.proofs.AbsentFiles.{absent_only_where_missing, none_failed}
use Rattle.checks.proofs.sure_commands.over_sure.Goals as goal

pub returns-clause-no_write_fault : goal.returns-clause-no_write_fault
returns-clause-no_write_fault g c = λ e. none_failed (c.asyncify.ensures.write_fault e)

pub returns-clause-no_sink_fault : goal.returns-clause-no_sink_fault
returns-clause-no_sink_fault g c = λ e. none_failed (c.asyncify.ensures.sink_fault e)

pub returns-clause-absent : goal.returns-clause-absent
returns-clause-absent g c = λ e. absent_only_where_missing _ (sure_files c.args.vault.now) refl refl refl c.asyncify.result e c.asyncify.ensures.one_end
