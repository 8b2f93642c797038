-- The definitions compute what a module rewritten by hand does, and wrong rewritings of it.
use Rattle.std.proofs.Common.{refl}
use Rattle.wa_types.specs.Pruned.{pruned}
use Rattle.wa_types.specs.Base.{Base}
use Rattle.wa_types.specs.Pausing.{calls_of}
use Rattle.wa_types.specs.Points.{points}
use Rattle.wa_types.specs.Runtime.{with_runtime}
use Rattle.run_laws.specs.RewrittenByHand.{RightIsExpected, OperandLost, WrittenBehind, RaisedEarly, DummyStored, FramesCutNumbers}

pub right_is_expected : RightIsExpected
unfolding with_runtime pruned calls_of points Base
right_is_expected = record { fits = refl; events = refl; short = refl; trap = refl; frame = refl }

pub operand_lost : OperandLost
unfolding with_runtime
operand_lost = refl

pub written_behind : WrittenBehind
unfolding with_runtime pruned calls_of points Base
written_behind = record { events = refl; bytes = refl; right = refl }

pub raised_early : RaisedEarly
unfolding with_runtime
raised_early = refl

pub dummy_stored : DummyStored
unfolding with_runtime pruned calls_of points Base
dummy_stored = record { events = refl; frame = refl }

pub frames_cut_numbers : FramesCutNumbers
unfolding with_runtime pruned calls_of points Base
frames_cut_numbers = record { blocking = refl; protocol = refl }
