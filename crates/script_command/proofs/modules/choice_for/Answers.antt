-- A LIST that is one, or none.
use Rattle.std.proofs.Common.{ap, sym, ◌∙◌}
use Rattle.std.proofs.lemmas.Result.{IfOk-weaker}
use Rattle.script_model.specs.Command.{choice_said}
use Rattle.script_command.proofs.Choices.{is_list, said_list}
use Rattle.script_command.proofs.modules.choice_for.Goals as goal

pub listed_choice-requires : goal.listed_choice-requires
listed_choice-requires c = is_list c.in-Some.text c.args.ignore_imports c.requires.0 (ap (λ l. choice_said l c.args.ignore_imports) (sym c.in-Some.is) ∙ c.requires.1)

pub returns-in-Some : goal.returns-in-Some
returns-in-Some c =
    let is = c.in-Some.is in
    let same = said_list c.in-Some.text c.args.ignore_imports c.requires.0 (ap (λ l. choice_said l c.args.ignore_imports) (sym is) ∙ c.requires.1) in
    IfOk-weaker c.listed_choice.result _ _ (λ choice e. ap (λ l. choice_said l c.args.ignore_imports) is ∙ same ∙ e) c.listed_choice.ensures
