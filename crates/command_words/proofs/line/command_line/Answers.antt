-- The line is made of its six commands.
use Rattle.std.proofs.Common.{◌∙◌, ap, codes}
use Rattle.std.proofs.lemmas.Result.{IfOk-weaker}
use Rattle.clap.specs.Simple.{App, with_subcommand}
use Rattle.command_words.specs.Grammar.{command_shape, continue_words, gen_words, save_words, transform_words}
use Rattle.command_words.specs.Scripts.{script_shape}
use Rattle.command_words.proofs.line.command_line.Goals as goal

pub returns : goal.returns
returns c =
    let transform = command_shape transform_words in
    let host = script_shape (codes "host") in
    let run = script_shape (codes "run") in
    let gen = command_shape gen_words in
    let save = command_shape save_words in
    let last = command_shape continue_words in
    let first = c.in_ok-line.ensures transform c.transform_line.ensures.shape ∙ ap (λ (a : App). with_subcommand a transform) c.bare_line.ensures in
    let second = c.in_ok-line-2.ensures host c.script_line.ensures.shape ∙ ap (λ (a : App). with_subcommand a host) first in
    let third = c.in_ok-line-3.ensures run c.script_line-2.ensures.shape ∙ ap (λ (a : App). with_subcommand a run) second in
    let fourth = c.in_ok-line-4.ensures gen c.gen_line.ensures.shape ∙ ap (λ (a : App). with_subcommand a gen) third in
    let fifth = c.in_ok-line-5.ensures save c.save_line.ensures.shape ∙ ap (λ (a : App). with_subcommand a save) fourth in
    IfOk-weaker c.with_command-6.result _ _ (λ r h. h ∙ ap (λ (a : App). with_subcommand a last) fifth) (c.with_command-6.ensures last c.continue_line.ensures.shape)
