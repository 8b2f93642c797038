use Rattle.std.proofs.Common.{false, get_or, ap, sym, ◌∙◌, arith}
use Rattle.std.proofs.lemmas.Result.{on_ok_weaker}
use Rattle.call_frames.specs.PlainFrames.{is_one_of}
use Rattle.local_spill.proofs.PutLemmas.{put_one, const_is}
use Rattle.live_frames.proofs.WordSteps.{word_is, words_first, words_last, words_next}
use Rattle.live_frames.proofs.words.put_words.Goals as goal

pub loop-left-init : goal.loop-left-init
loop-left-init c = (
  omega (arith, c.words_behind-left.ensures),
  words_first c.args.out.now.items c.push.new.self.items c.args.index c.args.calls.now c.word_from.result c.words_behind-left.result
      (word_is c.deref.result.now c.args.calls.now 0 c.word_from.result (λ j. ap (λ t. get_or t j false) c.deref.ensures.value ∙ c.in_ok-told.ensures.calls j ∙ ap (λ ks. is_one_of ks j) (sym c.rows.ensures.numbers)) c.word_from.ensures)
      c.words_behind-left.ensures (put_one _ _ _ _ c.in_ok-push.ensures.items (const_is _)),
)

pub loop-left-preserved : goal.loop-left-preserved
loop-left-preserved c = (
  omega (arith, c.loop-left-test.true, c.loop-left.invariant.0),
  words_next c.args.out.now.items c.loop-left.out.items c.put_word.new.out.items c.args.index c.args.calls.now c.loop-left.word c.loop-left.left c.word_from-in-loop-left.result
      (omega (arith, c.loop-left-test.true))
      (word_is c.deref-in-loop-left.result.now c.args.calls.now c.loop-left.word c.word_from-in-loop-left.result
      (λ j. ap (λ t. get_or t j false) c.deref-in-loop-left.ensures.value ∙ c.in_ok-told.ensures.calls j ∙ ap (λ ks. is_one_of ks j) (sym c.rows.ensures.numbers)) c.word_from-in-loop-left.ensures)
      c.in_ok-put_word.ensures c.loop-left.invariant.1,
)

pub returns : goal.returns
returns c =
    on_ok_weaker c.put_bit_taken.result
    (λ h. words_last c.args.out.now.items c.loop-left.out.items c.put_bit_taken.new.out.items c.args.index c.args.calls.now c.loop-left.word c.loop-left.left
    (omega (arith, c.loop-left-test.false)) h c.loop-left.invariant.1)
    c.put_bit_taken.ensures
