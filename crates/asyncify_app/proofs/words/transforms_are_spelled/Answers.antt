use Rattle.asyncify_app.proofs.Rewriting.{rewriting_is_command}
use Rattle.asyncify_app.proofs.words.transforms_are_spelled.Goals as goal

pub returns : goal.returns
returns c = rewriting_is_command
