use Rattle.std.proofs.Common.{ap, ◌∙◌}
use Rattle.std.specs.List.{filter_map}
use Rattle.std.proofs.lemmas.Result.{IfOk-weaker}
use Rattle.wa_types.specs.declared.syntax.Import.{Import}
use Rattle.wa_types.specs.declared.syntax.Module.{Module as ModuleValue}
use Rattle.wa_types.specs.Modules.{imported_func}
use Rattle.wa_types.specs.Pausing.{listed_import}
use Rattle.call_graph.specs.Settings.{choice_of}
use Rattle.call_graph.proofs.imports.listed_imports.Goals as goal

pub returns : goal.returns
returns c =
    IfOk-weaker c.marks_of.result _ _ (λ v h. h (choice_of c.args.settings.now.choice) c.in_ok-index.ensures.names
    ∙ ap (filter_map (λ (i : Import). listed_import (choice_of c.args.settings.now.choice) i (imported_func i.kind))) (c.deref.ensures.value
    ∙ ap (λ (m : ModuleValue). m.imports.items) c.module.ensures.same)) c.marks_of.ensures
