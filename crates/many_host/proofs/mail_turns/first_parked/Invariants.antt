use Rattle.std.proofs.Common.{◌≡◌, All, None, take}
use Rattle.pause_host.specs.Programs.{parked_in}
use Rattle.many_host.specs.declared.hosted.Hosted.{Hosted}
use Rattle.many_host.proofs.mail_turns.first_parked.Given as goal

abbrev pub invariant-loop-i : goal.invariant-loop-i
invariant-loop-i l = All (λ (x : Hosted). parked_in x.program ≡ None) (take l.i l.fn.programs)
