use Rattle.wa_types.specs.View.{module_of}
use Rattle.call_graph.specs.Settings.{settings_of}
use Rattle.module_rewrite.proofs.TakenFuncs.{Going}
use Rattle.module_rewrite.proofs.pass.rewrite_funcs.Given as goal

abbrev pub invariant-loop-index : goal.invariant-loop-index
invariant-loop-index g l = Going (module_of l.fn.pass.valid.now) (settings_of l.fn.pass.settings.now) l.fn.pass.which.now l.index (g.S.FuncSink.holds l.sink)
