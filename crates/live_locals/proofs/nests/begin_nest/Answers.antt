use Rattle.std.proofs.Common.{◌∙◌, ap, length, reverse, sym}
use Rattle.std.proofs.lemmas.Result.{IfOk-weaker}
use Rattle.run_theory.specs.Flat.{no_more, code_of}
use Rattle.run_theory.specs.FlatView.{stmt_in_front}
use Rattle.live_locals.proofs.WordPasses.{words_size, put_back_words}
use Rattle.live_locals.proofs.NestLemmas.{at_begun, on_ok}
use Rattle.live_locals.proofs.nests.begin_nest.Goals as goal

pub returns-clause-rest : goal.returns-clause-rest
returns-clause-rest c = on_ok c.enter_known.result _ (λ body is. (at_begun c.args.tos.now c.args.set.now c.in_ok-words.words.items c.deref_mut.result.now c.pass_stmt.new.set c.deref-3.result.now
    c.new-inner.result.items c.pass_stmt.new.inner.items c.args.stmt.now c.new-inside.result.items c.pass_stmt.new.heads.items (reverse c.args.heads.now.items)
    (reverse c.skip_heads.new.heads.items) (reverse c.put_heads.new.heads.items) (reverse c.take_head.new.heads.items) c.in_ok-reach.reach.items c.deref-2.result.now c.len.result
    c.saturating_sub.result c.in_ok-words.ensures c.deref_mut.ensures.value c.new-inner.ensures.items c.new-inside.ensures.items c.in_ok-pass_stmt.ensures.passed c.in_ok-pass_stmt.ensures.heads
    (c.deref-3.ensures.value ∙ put_back_words c.pass_stmt.new.set c.in_ok-words.words.items c.in_ok-words.words.len
    (words_size c.args.tos.now c.new-inner.result.items c.deref_mut.result.now c.pass_stmt.new.set (code_of (stmt_in_front c.args.stmt.now no_more)) c.in_ok-pass_stmt.ensures.passed.tells
    ∙ ap length c.deref_mut.ensures.value) (sym c.in_ok-words.words.ok.0))
    c.in_ok-reach.ensures c.deref-2.ensures.value (c.len.ensures ∙ c.pass_stmt.new.heads.ok.0) c.saturating_sub.ensures c.skip_heads.ensures c.in_ok-put_heads.ensures c.take_head.ensures.rest
    body is).1)

pub returns-clause-inside : goal.returns-clause-inside
returns-clause-inside c = IfOk-weaker c.enter_known.result _ _ (λ n h body is. (
  c.deref-2.result.now,
  c.deref-3.result.now,
  (at_begun c.args.tos.now c.args.set.now c.in_ok-words.words.items
      c.deref_mut.result.now c.pass_stmt.new.set c.deref-3.result.now
      c.new-inner.result.items c.pass_stmt.new.inner.items c.args.stmt.now c.new-inside.result.items c.pass_stmt.new.heads.items (reverse c.args.heads.now.items)
      (reverse c.skip_heads.new.heads.items) (reverse c.put_heads.new.heads.items) (reverse c.take_head.new.heads.items) c.in_ok-reach.reach.items c.deref-2.result.now c.len.result
      c.saturating_sub.result c.in_ok-words.ensures c.deref_mut.ensures.value c.new-inner.ensures.items c.new-inside.ensures.items c.in_ok-pass_stmt.ensures.passed c.in_ok-pass_stmt.ensures.heads
      (c.deref-3.ensures.value ∙ put_back_words c.pass_stmt.new.set c.in_ok-words.words.items c.in_ok-words.words.len
      (words_size c.args.tos.now c.new-inner.result.items c.deref_mut.result.now c.pass_stmt.new.set (code_of (stmt_in_front c.args.stmt.now no_more)) c.in_ok-pass_stmt.ensures.passed.tells
      ∙ ap length c.deref_mut.ensures.value) (sym c.in_ok-words.words.ok.0))
      c.in_ok-reach.ensures c.deref-2.ensures.value (c.len.ensures ∙ c.pass_stmt.new.heads.ok.0) c.saturating_sub.ensures c.skip_heads.ensures c.in_ok-put_heads.ensures c.take_head.ensures.rest
      body is).0,
  h,
)) c.enter_known.ensures
