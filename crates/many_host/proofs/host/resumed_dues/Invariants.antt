use Rattle.std.proofs.Common.{◌≡◌, take}
use Rattle.many_host.specs.Hosts.{dues_left}
use Rattle.many_host.proofs.host.resumed_dues.Given as goal

-- those of the ticks so far
abbrev pub invariant-loop-i : goal.invariant-loop-i
invariant-loop-i l = l.left.items ≡ dues_left (take l.i l.dues) (take l.i l.ended)
