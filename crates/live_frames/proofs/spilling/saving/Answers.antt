use Rattle.std.proofs.Common.{◌+◌, ap, ◌∙◌}
use Rattle.wa_types.specs.declared.values.Value.TheVariants as V
use Rattle.wa_types.specs.Syntax.{const, basic, plain}
use Rattle.call_frames.specs.FrameParts.{parts_stored}
use Rattle.call_frames.specs.PlainFrames.{own_weights, parts_of, weights_added}
use Rattle.local_spill.proofs.PutLemmas.{put_first, put_on}
use Rattle.call_frames.specs.Views.{part_views}
use Rattle.live_frames.proofs.FieldSteps.{shared_bytes}
use Rattle.live_frames.proofs.PutSteps.{put_same}
use Rattle.live_frames.proofs.WholeCodes.{saved_with}
use Rattle.live_frames.proofs.spilling.saving.Goals as goal

pub returns : goal.returns
returns c count rest =
    let base = c.args.base in
    let sp = base + 1 in
    let size = c.shared_of-shared.ensures.size base ∙ ap (λ ps. shared_bytes base (part_views ps)) c.deref.ensures.value in
    let sizes = put_same _ _ (λ ps next. plain (basic (const (V.I32 (c.shared_of-shared.result + 4)))) (weights_added base (own_weights (part_views ps)) next)) _ _
    c.deref-2.ensures.value c.in_ok-put_size.ensures in
    let parts = put_same _ _ (λ ps. parts_stored sp 0 (parts_of base (part_views ps))) _ _ c.deref-3.ensures.value c.in_ok-put_parts_stored.ensures in
    put_first _ _ _ c.new-out.ensures.items
    (put_on _ _ _ _ _ (put_on _ _ _ _ _ (put_on _ _ _ _ _ (put_on _ _ _ _ _
    sizes c.in_ok-put_room_test.ensures) parts) c.in_ok-put_stored.ensures) c.in_ok-put_location_raised.ensures) rest
    ∙ ap (λ n. saved_with base c.args.address (part_views c.args.parts.now.parts.items) n rest) size
