use Rattle.std.proofs.Common.{◌⊎◌, ◌≡◌, ◌+◌, ◌-◌, ◌∙◌, inl, inr, arith, length, nat_eq}
use Rattle.std.specs.List.{list_any}
use Rattle.call_frames.specs.CallRows.{counted}
use Rattle.call_frames.proofs.NotedSets.{above_still, row_end, row_first, row_next}
use Rattle.call_frames.proofs.noting.note_row.Goals as goal

pub loop-step-init : goal.loop-step-init
loop-step-init c = (omega arith, row_first c.args.local c.args.row.first c.args.sets.now.items)

pub note_call-requires : goal.note_call-requires
note_call-requires c =
    let room = c.saturating_sub.ensures in
    let len = c.len.ensures ∙ c.args.sets.now.ok.0 in
    let size = c.loop-step.invariant.1.size in record {
      call = omega (arith, room, len, size, c.lesser-count.ensures.second, c.loop-step-test.true);
      local = above_still c.args.local (λ k. list_any (nat_eq k) (counted c.args.row.first c.loop-step.step)) c.args.sets.now.items c.loop-step.sets.items c.loop-step.invariant.1 c.requires;
    }

pub loop-step-preserved : goal.loop-step-preserved
loop-step-preserved c = (
  omega (arith, c.loop-step-test.true),
  row_next c.args.local c.args.row.first c.loop-step.step c.args.sets.now.items c.loop-step.sets.items c.note_call.new.sets.items c.loop-step.invariant.1 c.note_call.ensures,
)

pub returns : goal.returns
returns c =
    let count = c.lesser-count.result in
    let room = c.saturating_sub.ensures in
    let len = c.len.ensures ∙ c.args.sets.now.ok.0 in
    let one : (count ≡ c.args.row.more + 1) ⊎ (count ≡ length c.args.sets.now.items - c.args.row.first) = elim c.lesser-count.ensures.one [
      | inl e ↦ inl (omega (arith, e))
      | inr e ↦ inr (omega (arith, e, room, len))
    ] in
    row_end c.args.local c.args.row count c.loop-step.step c.args.sets.now.items c.loop-step.sets.items c.loop-step.invariant.0 (omega (arith, c.loop-step-test.false))
    (omega (arith, c.lesser-count.ensures.first)) one c.loop-step.invariant.1
