use Rattle.std.proofs.Common.{take}
use Rattle.live_locals.specs.LiveAt.{lists_of}
use Rattle.func_rewrite.specs.Layouts.{SetFrames}
use Rattle.func_rewrite.proofs.layouts.set_layouts.Given as goal

abbrev pub invariant-loop-index : goal.invariant-loop-index
invariant-loop-index l = SetFrames l.locals 0 (lists_of (take l.index l.sets)) l.layouts.items
