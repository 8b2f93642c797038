use Rattle.std.proofs.Common.{◌∙◌, ◌||◌, Bool, ap}
use Rattle.std.proofs.lemmas.Result.{IfOk-weaker}
use Rattle.clap.specs.declared.builder.command.Command.TheViews.{out-Command}
use Rattle.command_words.proofs.shapes.with_arg.Goals as goal

pub returns-clause-shape : goal.returns-clause-shape
returns-clause-shape c = IfOk-weaker c.arg.result _ _ (λ r h. h.shape c.requires) c.arg.ensures

pub returns-clause-local : goal.returns-clause-local
returns-clause-local c = IfOk-weaker c.arg.result _ _ (λ r h. h.globals ∙ ap (λ (x : Bool). (out-Command c.args.line).has_globals || x) c.requires) c.arg.ensures
