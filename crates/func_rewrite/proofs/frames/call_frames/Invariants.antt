use Rattle.func_rewrite.specs.WrittenFrames.{AllFrames}
use Rattle.func_rewrite.proofs.frames.call_frames.Given as goal

abbrev pub invariant-loop-index : goal.invariant-loop-index
invariant-loop-index l = AllFrames l.saved l.index l.frames.items
