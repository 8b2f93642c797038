use Rattle.std.proofs.lemmas.Result.{on_ok_weaker}
use Rattle.run_theory.specs.Flat.{last_of}
use Rattle.guard_form.specs.Grouping.{is_place}
use Rattle.live_locals.proofs.KeepingLemmas.{call_taken}
use Rattle.live_locals.proofs.keeping.put_call.Goals as goal

pub settle_taken-requires : goal.settle_taken-requires
settle_taken-requires c = c.in_ok-keep_call.ensures.stands

pub returns : goal.returns
returns c =
    let stack = c.args.stack.now in
    on_ok_weaker c.settle_taken.result
    (λ h. call_taken c.args.set.now (is_place c.args.numbers.now c.args.place) stack (last_of c.args.args stack) c.args.keeping.now c.keep_call.new.keeping c.settle_taken.new.keeping
    c.in_ok-keep_call.ensures h) c.settle_taken.ensures
