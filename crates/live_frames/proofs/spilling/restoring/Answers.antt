use Rattle.std.proofs.Common.{◌+◌, ap, ◌∙◌}
use Rattle.call_frames.specs.FrameParts.{parts_loaded}
use Rattle.call_frames.specs.PlainFrames.{parts_of}
use Rattle.local_spill.proofs.PutLemmas.{put_first, put_on}
use Rattle.call_frames.specs.Views.{part_views}
use Rattle.live_frames.proofs.FieldSteps.{shared_bytes}
use Rattle.live_frames.proofs.PutSteps.{put_same}
use Rattle.live_frames.proofs.WholeCodes.{restored_with}
use Rattle.live_frames.proofs.spilling.restoring.Goals as goal

pub returns : goal.returns
returns c count rest =
    let base = c.args.base in
    let sp = base + 1 in
    let size = c.shared_of-shared.ensures.size base ∙ ap (λ ps. shared_bytes base (part_views ps)) c.deref.ensures.value in
    let parts = put_same _ _ (λ ps. parts_loaded sp 0 (parts_of base (part_views ps))) _ _ c.deref-2.ensures.value c.in_ok-put_parts_loaded.ensures in
    put_first _ _ _ c.new-out.ensures.items
    (put_on _ _ _ _ _ (put_on _ _ _ _ _ (put_on _ _ _ _ _
    c.in_ok-put_location_noted.ensures c.in_ok-put_index_loaded.ensures) parts) c.in_ok-put_location_lowered.ensures) rest
    ∙ ap (λ n. restored_with base c.args.address (part_views c.args.parts.now.parts.items) n rest) size
