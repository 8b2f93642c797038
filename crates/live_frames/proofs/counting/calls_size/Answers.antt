use Rattle.std.proofs.Common.{ap, sym, ◌∙◌}
use Rattle.call_frames.specs.PlainFrames.{rows_size}
use Rattle.live_frames.specs.Rows.{saturated}
use Rattle.live_frames.proofs.CountSteps.{by_rows_size, by_words_size}
use Rattle.live_frames.proofs.WordSteps.{words_few}
use Rattle.live_frames.proofs.counting.calls_size.Goals as goal

pub returns-then-by_words : goal.returns-then-by_words
returns-then-by_words c =
    let e = sym c.by_words.ensures ∙ c.if-by_words.true in by_words_size c.args.calls.now c.words_behind.result e c.words_behind.ensures (words_few c.args.calls.now e)

pub returns : goal.returns
returns c =
    by_rows_size c.args.calls.now c.rows_size.result (sym c.by_words.ensures ∙ c.if-by_words.false) (c.rows_size.ensures ∙ ap (λ rs. saturated (rows_size rs)) (sym c.rows.ensures.rows))
