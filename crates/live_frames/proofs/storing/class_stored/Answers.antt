use Rattle.std.proofs.Common.{ap, ◌∙◌}
use Rattle.wa_types.specs.Syntax.{done}
use Rattle.frame_laws.specs.Layout.{stores}
use Rattle.call_frames.specs.FrameParts.{scratch_raised}
use Rattle.local_spill.proofs.PutLemmas.{put_on, put_first, whole}
use Rattle.call_frames.specs.Views.{fields_of}
use Rattle.live_frames.proofs.storing.class_stored.Goals as goal

pub returns : goal.returns
returns c =
    whole _ _ (put_first _ _ _ c.new-out.ensures.items (put_on _ _ _ _ _ c.in_ok-put_fields_stored.ensures c.in_ok-put_scratch_moved.ensures))
    ∙ ap (λ n. stores c.args.scratch c.args.offset (fields_of c.args.fields.now) (scratch_raised c.args.scratch n done)) c.size_of.ensures.size
