use Rattle.std.proofs.Common.{◌∙◌}
use Rattle.live_frames.proofs.WordSteps.{few_words}
use Rattle.live_frames.proofs.words.by_words.Goals as goal

pub returns : goal.returns
returns c = c.have_rows.ensures ∙ few_words c.args.calls.now c.words_behind-words.result c.words_behind-words.ensures c.if-words-gt1000.false
