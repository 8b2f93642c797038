use Rattle.std.proofs.Common.{ap, ◌∙◌}
use Rattle.call_frames.specs.Views.{class_parts}
use Rattle.call_frames.proofs.FoundClasses.{sets_next}
use Rattle.call_frames.proofs.finding.classes_of.Goals as goal

pub loop-call-preserved : goal.loop-call-preserved
loop-call-preserved c =
    let types = c.args.types.now in
    let sets = c.args.sets.now in
    let i = c.loop-call.call in
    let old = class_parts c.loop-call.classes.items in
    let new = class_parts c.put_call.new.classes.items in
    let more = c.in_ok-put_call.ensures.more in
    let e = c.deref.ensures.value ∙ ap (λ v. v.items) c.index-sets-call.is in (
      sets_next types sets i _ c.deref.result.now old new c.loop-call-test.true e c.loop-call.invariant.0 more.keeps,
      more.index,
      c.in_ok-put_call.ensures.small,
    )
