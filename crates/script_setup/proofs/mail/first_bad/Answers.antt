use Rattle.std.proofs.Common.{arith, ◌∙◌, ◌||◌, ap, not}
use Rattle.std.specs.Str.{bytes_eq}
use Rattle.script_setup.specs.MailNames.{has_name, is_found_bad}
use Rattle.script_setup.proofs.Misbound.{bound_next, from_last, line_next, none_bad, none_bound}
use Rattle.script_setup.proofs.mail.first_bad.Goals as goal

pub loop-left-init : goal.loop-left-init
loop-left-init c = record {
  within = omega arith;
  bound = none_bound c.args.binds.now c.new-bound.result c.new-bound.ensures.empty;
  line = none_bad c.args.binds.now (is_found_bad c.args.boxes.now c.args.unfit.now);
}

pub loop-left-preserved : goal.loop-left-preserved
loop-left-preserved c = record {
  within = omega (arith, c.loop-left.invariant.within);
  bound =
      bound_next c.args.binds.now c.loop-left.left c.loop-left-test.true c.index-binds-left.result c.loop-left.invariant.within c.index-binds-left.is (has_name c.loop-left.bound)
      (has_name c.put_name.new.names) c.loop-left.invariant.bound
      (λ name. c.in_ok-wins.ensures.names name ∙ ap (λ n. has_name c.loop-left.bound name || bytes_eq name n) c.as_str.ensures);
  line =
      line_next c.args.binds.now c.loop-left.left c.loop-left-test.true c.index-binds-left.result c.loop-left.invariant.within c.index-binds-left.is
      (is_found_bad c.args.boxes.now c.args.unfit.now) c.in_ok-wins.wins (has_name c.loop-left.bound) c.loop-left.line c.bad_line-line.result c.loop-left.invariant.bound
      (c.in_ok-wins.ensures.is_new ∙ ap (λ n. not (has_name c.loop-left.bound n)) c.as_str.ensures) c.loop-left.invariant.line c.bad_line-line.ensures;
}

pub returns : goal.returns
returns c = c.loop-left.invariant.line ∙ from_last (is_found_bad c.args.boxes.now c.args.unfit.now) c.args.binds.now c.loop-left.left c.loop-left-test.false
