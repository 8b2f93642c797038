use Rattle.std.proofs.Common.{◌≡◌, arith, [], ◌∷◌, ◌++◌, ◌+◌, ◌∙◌, ap, drop, false, length, replicate, subst, sym, take}
use Rattle.std.proofs.lemmas.List.{length-replicate}
use Rattle.std.proofs.lemmas.Result.{IfOk-weaker}
use Rattle.run_theory.specs.FlatView.{flat_func_of, stmts}
use Rattle.guard_form.specs.Pieces.{call_total}
use Rattle.live_locals.specs.Keeping.{Stands}
use Rattle.live_locals.proofs.SetLemmas.{put_back}
use Rattle.live_locals.proofs.WholeLemmas.{all_numbered, numbers_few, rows_live, stands_first, whole_countable}
use Rattle.live_locals.proofs.calls.live_rows.Goals as goal

pub overflow_cast-numbers : goal.overflow_cast-numbers
overflow_cast-numbers c = let n = numbers_few c.args.numbers.now (flat_func_of c.args.func.now).body c.requires.rises c.requires.calls in omega (arith, n, c.requires.few)

pub put_body_rows-requires : goal.put_body_rows-requires
put_body_rows-requires c =
    let len = c.in_ok-set.set.len in
    let told_long : length c.read_told.new.set ≡ length c.in_ok-set.set.items = (c.read_told.ensures (λ z. [])).size ∙ ap length c.deref_mut.ensures.value in
    let back = put_back c.read_told.new.set c.in_ok-set.set.items len told_long (sym c.in_ok-set.set.ok.0) in
    let start = c.in_ok-keeping.ensures in
    let ns = c.args.numbers.now in record {
      calls = whole_countable ns (length c.args.func.now.locals.items) 1 c.count_calls-count.result (stmts c.args.func.now.body.items) (stmts c.deref-3.result.now)
          (ap stmts c.deref-3.ensures.value) c.requires.fits.statements c.requires.rises
          (c.count_calls-count.ensures ∙ ap (λ xs. 0 + call_total (stmts xs)) (c.deref-2.ensures.value ∙ sym c.deref-3.ensures.value));
      nest = λ low. absurd (omega (arith, low));
      there = stands_first c.len-2.result (length ns) c.in_ok-keeping.keeping start.left start.since start.rows ns c.count_calls-count.result (length c.deref_mut-2.result.now)
          (ap length (c.deref_mut-2.ensures.value ∙ back) ∙ told_long ∙ ap length c.in_ok-set.ensures ∙ length-replicate c.len.result false ∙ c.len.ensures ∙ sym c.len-2.ensures)
          (sym (all_numbered ns c.count_calls-count.result (stmts c.args.func.now.body.items) (stmts c.deref-2.result.now) (ap stmts c.deref-2.ensures.value) c.requires.rises c.requires.calls
          c.count_calls-count.ensures));
    }

pub settle_all-requires : goal.settle_all-requires
settle_all-requires c =
    let len = c.in_ok-set.set.len in
    let told_long : length c.read_told.new.set ≡ length c.in_ok-set.set.items = (c.read_told.ensures (λ z. [])).size ∙ ap length c.deref_mut.ensures.value in
    let back = put_back c.read_told.new.set c.in_ok-set.set.items len told_long (sym c.in_ok-set.set.ok.0) in
    let old = take len (c.read_told.new.set ++ drop (length c.read_told.new.set) c.in_ok-set.set.items) in
    let long = c.in_ok-put_body_rows.ensures.passed.tells.size in
    let lent = c.deref-4.ensures.value ∙ put_back c.put_body_rows.new.set old len (long ∙ ap length c.deref_mut-2.ensures.value) (ap length back ∙ told_long ∙ sym c.in_ok-set.set.ok.0) in
    subst (λ k. Stands k c.put_body_rows.new.keeping) (sym (ap length lent ∙ long)) c.in_ok-put_body_rows.ensures.rows.there.stands

pub returns : goal.returns
returns c =
    let len = c.in_ok-set.set.len in
    let told_long : length c.read_told.new.set ≡ length c.in_ok-set.set.items = (c.read_told.ensures (λ z. [])).size ∙ ap length c.deref_mut.ensures.value in
    let back = put_back c.read_told.new.set c.in_ok-set.set.items len told_long (sym c.in_ok-set.set.ok.0) in
    let old = take len (c.read_told.new.set ++ drop (length c.read_told.new.set) c.in_ok-set.set.items) in
    let long = c.in_ok-put_body_rows.ensures.passed.tells.size in
    let lent = c.deref-4.ensures.value ∙ put_back c.put_body_rows.new.set old len (long ∙ ap length c.deref_mut-2.ensures.value) (ap length back ∙ told_long ∙ sym c.in_ok-set.set.ok.0) in
    let start = c.in_ok-keeping.ensures in
    let v = c.in_ok-copied.field-0 in
    IfOk-weaker c.all_told.result _ _
    (λ rows is.
    rows_live (flat_func_of c.args.func.now) c.args.numbers.now v c.deref_mut.result.now c.read_told.new.set c.deref_mut-2.result.now c.put_body_rows.new.set c.deref-4.result.now
    (stmts c.deref-3.result.now) (stmts c.deref-2.result.now) c.count_calls-count.result c.in_ok-put_body_rows.field-0 (length c.args.numbers.now) c.len-2.result c.push.new.self.items
    c.in_ok-keeping.keeping c.put_body_rows.new.keeping c.settle_all.new.keeping rows.items
    c.requires.fits.statements c.requires.rises c.requires.calls
    (c.deref_mut.ensures.value ∙ c.in_ok-set.ensures ∙ ap (λ n. replicate n false) (c.len.ensures ∙ c.args.func.now.locals.ok.0)) c.read_told.ensures
    (c.deref_mut-2.ensures.value ∙ back) (c.in_ok-copied.ensures ∙ c.deref.ensures.value ∙ sym c.deref_mut-2.ensures.value)
    (c.in_ok-push.ensures.items ∙ ap (λ ts. ts ++ v ∷ []) c.new-tos.ensures.items)
    (ap stmts c.deref-3.ensures.value) (ap stmts c.deref-2.ensures.value) c.count_calls-count.ensures (c.len-2.ensures ∙ c.args.func.now.locals.ok.0) start.left start.since start.rows
    c.in_ok-put_body_rows.ensures.rows long lent c.in_ok-settle_all.ensures is)
    c.all_told.ensures
