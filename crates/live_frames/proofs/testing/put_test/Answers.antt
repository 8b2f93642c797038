use Rattle.std.proofs.Common.{ap, sym, ◌∙◌}
use Rattle.std.proofs.lemmas.Result.{on_ok_weaker}
use Rattle.wa_types.specs.View.{onto}
use Rattle.call_frames.specs.PlainFrames.{at_rows}
use Rattle.live_frames.proofs.WordSteps.{rows_put, words_put, words_few}
use Rattle.live_frames.proofs.testing.put_test.Goals as goal

pub put_words-requires : goal.put_words-requires
put_words-requires c = words_few c.args.calls.now (sym c.by_words.ensures ∙ c.if-by_words.true)

pub returns-then-by_words : goal.returns-then-by_words
returns-then-by_words c =
    on_ok_weaker c.put_words.result (λ h. words_put _ _ c.args.index c.args.calls.now (sym c.by_words.ensures ∙ c.if-by_words.true) h) c.put_words.ensures

pub returns : goal.returns
returns c = on_ok_weaker c.put_rows.result (λ h. rows_put _ _ c.args.index c.args.calls.now (sym c.by_words.ensures ∙ c.if-by_words.false) (λ rest. h rest ∙ ap (λ rs. onto c.args.out.now.items (at_rows c.args.index rs rest)) (sym c.rows.ensures.rows))) c.put_rows.ensures
