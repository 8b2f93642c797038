use Rattle.std.proofs.Common.{ap, ◌∙◌}
use Rattle.wa_types.specs.Syntax.{done}
use Rattle.frame_laws.specs.Layout.{loads}
use Rattle.call_frames.specs.FrameParts.{scratch_lowered}
use Rattle.local_spill.proofs.PutLemmas.{put_on, put_first, whole}
use Rattle.call_frames.specs.Views.{fields_of}
use Rattle.live_frames.proofs.loading.class_loaded.Goals as goal

pub returns : goal.returns
returns c =
    whole _ _ (put_first _ _ _ c.new-out.ensures.items (put_on _ _ _ _ _ c.in_ok-put_scratch_moved.ensures c.in_ok-put_fields_loaded.ensures))
    ∙ ap (λ n. scratch_lowered c.args.scratch n (loads c.args.scratch c.args.offset (fields_of c.args.fields.now) done)) c.size_of.ensures.size
