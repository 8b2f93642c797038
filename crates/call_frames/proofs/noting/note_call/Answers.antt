use Rattle.std.proofs.Common.{Bool, ◌<◌, ◌∙◌, ap, length, subst, sym, true}
use Rattle.std.specs.Prelude.{Vec, slice_set}
use Rattle.std.specs.declared.alloc.Global.{Global}
use Rattle.call_frames.proofs.NotedSets.{low_at, noted_one}
use Rattle.call_frames.proofs.noting.note_call.Goals as goal

pub put_told-requires : goal.put_told-requires
put_told-requires c =
    subst (λ (s : Vec Bool Global). c.args.local < length s.items) (sym c.index_mut.ensures.value)
    (low_at c.args.local c.args.call c.args.sets.now.items c.index_mut.result.now c.requires.call c.requires.local)

pub returns : goal.returns
returns c =
    noted_one c.args.local c.args.call c.args.sets.now.items c.index_mut.result.now c.put_told.new.set c.requires.call c.requires.local
    (c.put_told.ensures ∙ ap (λ (s : Vec Bool Global). slice_set s.items c.args.local true) c.index_mut.ensures.value)
