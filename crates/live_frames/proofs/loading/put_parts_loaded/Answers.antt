use Rattle.std.proofs.Common.{◌≡◌, ◌∙◌, ℕ, get_or, length, ◌<◌, ◌≤◌, ◌+◌, ◌-◌, ◌∷◌, [], ap, arith, drop, subst, sym, take}
use Rattle.call_frames.specs.FrameParts.{parts_loaded}
use Rattle.call_frames.specs.PlainFrames.{parts_of}
use Rattle.local_spill.specs.Putting.{Puts}
use Rattle.call_frames.specs.declared.frames.KeptPart.{KeptPart}
use Rattle.call_frames.specs.Classes.{part_fields}
use Rattle.call_frames.specs.Views.{part_view, part_views}
use Rattle.live_frames.proofs.FieldSteps.{few_at, shared_bytes, shared_next, shared_small}
use Rattle.live_frames.proofs.PutSteps.{part_loaded_end, part_loaded_step, part_same}
use Rattle.live_frames.proofs.loading.put_parts_loaded.Goals as goal

pub shared_in-offset-requires : goal.shared_in-offset-requires
shared_in-offset-requires c =
    let left = c.loop-left.left in
    subst (λ (p : KeptPart). part_fields (part_view p) ≤ 50000) (sym c.index-parts-left.is)
    (few_at c.args.parts.now (left - 1) c.index-parts-left.result c.requires.few.each (omega (arith, c.loop-left-test.true, c.loop-left.invariant.0)))

pub overflow_sub-offset : goal.overflow_sub-offset
overflow_sub-offset c =
    let left = c.loop-left.left in
    let back : left ≡ (left - 1) + 1 = omega (arith, c.loop-left-test.true) in
    let lt : left - 1 < length c.args.parts.now = omega (arith, c.loop-left-test.true, c.loop-left.invariant.0) in
    let o = c.loop-left.invariant.1 ∙ ap (λ n. shared_bytes c.args.index (part_views (take n c.args.parts.now))) back in
    let n = shared_next c.args.index c.args.parts.now (left - 1) c.index-parts-left.result lt in
    let e = ap (λ p. shared_bytes c.args.index (part_view p ∷ [])) c.index-parts-left.is in
    let s = c.shared_in-offset.ensures.size c.args.index in
    omega (arith, o, n, e, s)

pub put_part_loaded-requires-clause-few : goal.put_part_loaded-requires-clause-few
put_part_loaded-requires-clause-few c =
    let left = c.loop-left.left in
    subst (λ (p : KeptPart). part_fields (part_view p) ≤ 50000) (sym c.index-parts-left.is)
    (few_at c.args.parts.now (left - 1) c.index-parts-left.result c.requires.few.each (omega (arith, c.loop-left-test.true, c.loop-left.invariant.0)))

pub put_part_loaded-requires-clause-offset : goal.put_part_loaded-requires-clause-offset
put_part_loaded-requires-clause-offset c =
    let m = shared_small c.args.index c.args.parts.now c.loop-left.left c.requires.few in
    omega (arith, m, c.loop-left.invariant.1)

pub loop-left-preserved : goal.loop-left-preserved
loop-left-preserved c =
    let left = c.loop-left.left in
    let back : left ≡ (left - 1) + 1 = omega (arith, c.loop-left-test.true) in
    let lt : left - 1 < length c.args.parts.now = omega (arith, c.loop-left-test.true, c.loop-left.invariant.0) in
    let o = c.loop-left.invariant.1 ∙ ap (λ n. shared_bytes c.args.index (part_views (take n c.args.parts.now))) back in
    let n = shared_next c.args.index c.args.parts.now (left - 1) c.index-parts-left.result lt in
    let e = ap (λ p. shared_bytes c.args.index (part_view p ∷ [])) c.index-parts-left.is in
    let s = c.shared_in-offset.ensures.size c.args.index in
    let off : ℕ = c.loop-left.offset - c.shared_in-offset.result in
    let above : c.loop-left.offset ≡ off + shared_bytes c.args.index (part_view (get_or c.args.parts.now (left - 1) c.index-parts-left.result) ∷ []) = omega (arith, o, n, e, s) in (
      omega (arith, c.loop-left.invariant.0),
      omega (arith, o, n, e, s),
      part_loaded_step c.args.out.now.items c.loop-left.out.items c.put_part_loaded.new.out.items c.args.index c.args.scratch c.args.parts.now (left - 1)
          c.index-parts-left.result lt off c.loop-left.offset above
          (subst (λ k. Puts c.args.out.now.items c.loop-left.out.items (parts_loaded c.args.scratch c.loop-left.offset (parts_of c.args.index (part_views (drop k c.args.parts.now))))) back
          c.loop-left.invariant.2)
          (part_same _ _ (λ p. parts_loaded c.args.scratch off (parts_of c.args.index (p ∷ []))) _ c.index-parts-left.result (sym c.index-parts-left.is) c.in_ok-put_part_loaded.ensures),
    )

pub returns : goal.returns
returns c =
    part_loaded_end _ _ c.args.index c.args.scratch c.loop-left.offset c.args.parts.now c.loop-left.left (omega (arith, c.loop-left-test.false)) c.loop-left.invariant.1 c.loop-left.invariant.2
