use Rattle.std.proofs.Common.{◌+◌, ◌-◌, suc, nat_eq, reverse, ap, arith, eqb-true, refl, subst, sym, ◌∙◌}
use Rattle.call_frames.specs.CallRows.{AreRows, numbers_in, row_views}
use Rattle.call_frames.specs.declared.rows.Row.{Row}
use Rattle.call_frames.proofs.LaterRows.{NoneNext, apart_rows, last_fits, last_put, longer_numbers, longer_rows, none_at_all, none_next}
use Rattle.call_frames.proofs.rows.put_before.Goals as goal
use Rattle.call_frames.proofs.rows.put_before.Goals.{then-count-gt0+else-follows, else-count-gt0}

pub overflow_add-more-then-follows : goal.overflow_add-more-then-follows
overflow_add-more-then-follows c =
    let l = c.len-count.ensures ∙ c.args.rows.now.ok.0 in
    let is = c.index-next.ensures in
    let fits = last_fits c.args.rows.now.items (c.len-count.result - 1) c.args.first c.args.more c.index-next.result.now c.index-next.result.now (omega (arith, l, c.if-count-gt0.true)) c.requires.rows in
    let f = ap (λ (r : Row). r.first) is in
    let m = ap (λ (r : Row). r.more) is in
    let q = eqb-true c.index-next.result.now.first (suc (c.args.first + c.args.more)) (sym c.follows.ensures ∙ c.if-follows.true) in
    omega (arith, fits, f, m, q)

pub returns-then-follows-clause-numbers : goal.returns-then-follows-clause-numbers
returns-then-follows-clause-numbers c =
    let l = c.len-count.ensures ∙ c.args.rows.now.ok.0 in
    let is = c.index-next.ensures in
    let m = ap (λ (r : Row). r.more) is in
    longer_numbers c.args.rows.now.items (c.len-count.result - 1) c.args.first c.args.more c.index-next.result.now _ (omega (arith, l, c.if-count-gt0.true)) refl (omega (arith, m))
    (ap (λ (r : Row). nat_eq r.first (suc (c.args.first + c.args.more))) (sym is) ∙ sym c.follows.ensures ∙ c.if-follows.true)

pub returns-then-follows-clause-rows : goal.returns-then-follows-clause-rows
returns-then-follows-clause-rows c =
    let l = c.len-count.ensures ∙ c.args.rows.now.ok.0 in
    let is = c.index-next.ensures in
    let m = ap (λ (r : Row). r.more) is in
    longer_rows c.args.rows.now.items (c.len-count.result - 1) c.args.first c.args.more c.index-next.result.now _ (omega (arith, l, c.if-count-gt0.true)) refl (omega (arith, m))
    (ap (λ (r : Row). nat_eq r.first (suc (c.args.first + c.args.more))) (sym is) ∙ sym c.follows.ensures ∙ c.if-follows.true) c.requires.rows

pub returns-clause-numbers : goal.returns-clause-numbers
returns-clause-numbers c = ap (λ rs. numbers_in (row_views (reverse rs))) c.in_ok-push.ensures.items ∙ ap (λ rs. numbers_in (row_views rs)) (last_put c.args.rows.now.items _)

pub returns-clause-rows : goal.returns-clause-rows
returns-clause-rows c =
    let l = c.len-count.ensures ∙ c.args.rows.now.ok.0 in
    let none : NoneNext c.args.first c.args.more (reverse c.args.rows.now.items) = elim c.if-count-gt0.branch [
      | then-count-gt0+else-follows w ↦
          none_next c.args.rows.now.items (c.len-count.result - 1) c.args.first c.args.more w.index-next.result.now w.index-next.result.now (omega (arith, l, w.if-count-gt0.true))
          (ap (λ (r : Row). nat_eq r.first (suc (c.args.first + c.args.more))) (sym w.index-next.ensures) ∙ sym w.follows.ensures ∙ w.if-follows.false)
      | else-count-gt0 w ↦ none_at_all c.args.first c.args.more c.args.rows.now.items (omega (arith, l, w.if-count-gt0.false))
    ] in
    subst AreRows (sym (ap reverse c.in_ok-push.ensures.items ∙ last_put c.args.rows.now.items _)) (apart_rows c.args.first c.args.more (reverse c.args.rows.now.items) none c.requires.fit c.requires.rows)
