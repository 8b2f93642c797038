use Rattle.std.proofs.Common.{◌≡◌, ◌∙◌, IfOk, ap, false, subst}
use Rattle.std.proofs.lemmas.Result.{IfOk-weaker}
use Rattle.clap.specs.Simple.{app_of, with_subcommand}
use Rattle.clap.specs.Words.{shape_of}
use Rattle.clap.specs.declared.builder.command.Command.TheViews.{out-Command}
use Rattle.command_words.proofs.line.with_command.Goals as goal

pub returns : goal.returns
returns c = λ shape is.
    let command = c.in_ok-command.field-0 in
    let local : (out-Command command).has_globals ≡ false = subst (λ r. IfOk r (λ s. (out-Command s).has_globals ≡ false)) c.in_ok-command.was c.requires in
    let shaped : shape_of command ≡ shape = subst (λ r. IfOk r (λ s. shape_of s ≡ shape)) c.in_ok-command.was is in
    IfOk-weaker c.subcommand.result _ _ (λ r h. h.shape local ∙ ap (with_subcommand (app_of c.args.line)) shaped) c.subcommand.ensures
