-- A flag is `true` or `false` in the matches.
use Rattle.std.proofs.Common.{◌∙◌, ap, sym, ⊎_elim}
use Rattle.clap.specs.Words.{found_of}
use Rattle.clap.proofs.WalkLemmas.{one_text-rows}
use Rattle.command_words.specs.Grammar.{is_true}
use Rattle.command_words.proofs.matches.flag_at.Goals as goal

pub returns : goal.returns
returns c =
    let f = found_of c.args.matches.now in
    let id = c.args.id.now in
    ⊎_elim (λ e. c.get_flag.ensures.value (one_text-rows f id ∙ e) ∙ sym (ap is_true e)) (λ e. c.get_flag.ensures.other (one_text-rows f id ∙ e) ∙ sym (ap is_true e))
