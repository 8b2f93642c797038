use Rattle.std.proofs.Common.{◌+◌, ◌-◌, suc, nat_eq, ap, arith, subst, sym, ◌∙◌}
use Rattle.call_frames.specs.CallRows.{AreRows, numbers_in, row_views}
use Rattle.call_frames.specs.declared.rows.Row.{Row}
use Rattle.call_frames.proofs.RowLemmas.{NoneFollowed, apart_numbers, apart_rows, longer_numbers, longer_rows, none_last, none_there}
use Rattle.call_frames.proofs.rows.put_behind.Goals as goal
use Rattle.call_frames.proofs.rows.put_behind.Goals.{then-count-gt0+else-follows, else-count-gt0}

pub returns-then-follows-clause-numbers : goal.returns-then-follows-clause-numbers
returns-then-follows-clause-numbers c =
    let l = c.len-count.ensures ∙ c.args.rows.now.ok.0 in
    let is = c.index-last.ensures in
    let m = ap (λ (r : Row). r.more) is in
    longer_numbers c.args.rows.now.items (c.len-count.result - 1) c.args.call c.index-last.result.now _ (omega (arith, l, c.if-count-gt0.true)) (ap (λ (r : Row). r.first) is) (omega (arith, m))
    (ap (λ (r : Row). nat_eq c.args.call (suc (r.first + r.more))) (sym is) ∙ sym c.follows.ensures ∙ c.if-follows.true)

pub returns-then-follows-clause-rows : goal.returns-then-follows-clause-rows
returns-then-follows-clause-rows c =
    let l = c.len-count.ensures ∙ c.args.rows.now.ok.0 in
    let is = c.index-last.ensures in
    let m = ap (λ (r : Row). r.more) is in
    longer_rows c.args.rows.now.items (c.len-count.result - 1) c.args.call c.index-last.result.now _ (omega (arith, l, c.if-count-gt0.true)) (ap (λ (r : Row). r.first) is) (omega (arith, m))
    (ap (λ (r : Row). nat_eq c.args.call (suc (r.first + r.more))) (sym is) ∙ sym c.follows.ensures ∙ c.if-follows.true) c.ranges.call.fits

pub returns-clause-numbers : goal.returns-clause-numbers
returns-clause-numbers c = ap (λ rs. numbers_in (row_views rs)) c.in_ok-push.ensures.items ∙ apart_numbers c.args.rows.now.items c.args.call

pub returns-clause-rows : goal.returns-clause-rows
returns-clause-rows c h =
    let l = c.len-count.ensures ∙ c.args.rows.now.ok.0 in
    let none : NoneFollowed c.args.rows.now.items c.args.call = elim c.if-count-gt0.branch [
      | then-count-gt0+else-follows w ↦
          none_last c.args.rows.now.items (c.len-count.result - 1) c.args.call w.index-last.result.now (omega (arith, l, w.if-count-gt0.true))
          (ap (λ (r : Row). nat_eq c.args.call (suc (r.first + r.more))) (sym w.index-last.ensures) ∙ sym w.follows.ensures ∙ w.if-follows.false)
      | else-count-gt0 w ↦ none_there c.args.rows.now.items c.args.call (omega (arith, l, w.if-count-gt0.false))
    ] in
    subst AreRows (sym c.in_ok-push.ensures.items) (apart_rows c.args.rows.now.items c.args.call none c.ranges.call.fits h)
