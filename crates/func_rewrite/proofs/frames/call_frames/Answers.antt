use Rattle.func_rewrite.proofs.FrameLemmas.{frames_next}
use Rattle.func_rewrite.proofs.frames.call_frames.Goals as goal

pub loop-index-preserved : goal.loop-index-preserved
loop-index-preserved c = frames_next c.args.saved.now c.loop-index.index c.loop-index.frames.items _ _ c.in_ok-push.ensures.items
    (record { index = c.in_ok-layout.ensures.index; places = c.in_ok-layout.ensures.places; size = c.in_ok-layout.ensures.size; sized = c.in_ok-layout.ensures.saved }) c.loop-index.invariant
