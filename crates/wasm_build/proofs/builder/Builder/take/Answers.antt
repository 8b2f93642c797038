use Rattle.std.proofs.Common.{◌-◌, arith, length, length-drop, drop}
use Rattle.std.proofs.lemmas.List.{take_all}
use Rattle.std.proofs.lemmas.Result.{err_from_is_err_and}
use Rattle.wasm_build.proofs.PieceParts.{step_fits, takes_none, takes_more, takes_all, takes_lost}
use Rattle.wasm_build.proofs.builder.Builder.take.Goals as goal

pub loop-more-init : goal.loop-more-init
loop-more-init c = record { within = omega arith; comes = takes_none c.args.self.now c.args.first c.args.bytes.now }

pub loop-more-preserved : goal.loop-more-preserved
loop-more-preserved c =
    let v = c.loop-more.invariant.within in
    let s = take_all (length c.args.bytes.now - c.loop-more.used) (drop c.loop-more.used c.args.bytes.now) (omega (arith, length-drop c.loop-more.used c.args.bytes.now)) in
    record {
      within = step_fits c.args.bytes.now _ c.loop-more.used c.in-Some.more c.in_ok-more.field-0 c.in-Some.is s v c.in_ok-more.ensures.within;
      comes = takes_more c.args.self.now c.loop-more.self c.step.new.self c.args.first c.loop-more.used c.in-Some.more c.args.bytes.now _ _ c.in-Some.is s c.loop-more.invariant.comes
          c.in_ok-more.ensures.steps;
    }

pub returns-clause-takes : goal.returns-clause-takes
returns-clause-takes c =
    let s = take_all (length c.args.bytes.now - c.loop-more.used) (drop c.loop-more.used c.args.bytes.now) (omega (arith, length-drop c.loop-more.used c.args.bytes.now)) in
    takes_all c.args.self.now c.loop-more.self c.step.new.self c.args.first c.loop-more.used c.args.bytes.now _ _ c.in_default.is s c.loop-more.invariant.comes c.in_ok-more.ensures.steps

pub returns-in_err-more-clause-takes : goal.returns-in_err-more-clause-takes
returns-in_err-more-clause-takes c =
    let s = take_all (length c.args.bytes.now - c.loop-more.used) (drop c.loop-more.used c.args.bytes.now) (omega (arith, length-drop c.loop-more.used c.args.bytes.now)) in
    let p = err_from_is_err_and c.from_residual.result c.from_residual.ensures.1 in
    takes_lost c.args.self.now c.loop-more.self c.step.new.self c.args.first c.loop-more.used c.args.bytes.now _ _ p.1 p.2 s c.loop-more.invariant.comes c.in_err-more.ensures.steps
