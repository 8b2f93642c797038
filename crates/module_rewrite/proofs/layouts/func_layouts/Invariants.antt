use Rattle.wa_types.specs.View.{module_of}
use Rattle.call_graph.specs.Settings.{settings_of}
use Rattle.module_rewrite.proofs.LayoutLemmas.{Laid}
use Rattle.module_rewrite.proofs.layouts.func_layouts.Given as goal

abbrev pub invariant-loop-index : goal.invariant-loop-index
invariant-loop-index l = Laid (module_of l.fn.pass.valid.now) (settings_of l.fn.pass.settings.now) l.fn.pass.which.now l.index l.layouts.items
