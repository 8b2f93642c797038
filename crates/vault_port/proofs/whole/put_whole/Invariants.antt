use Rattle.std.proofs.Common.{◌≡◌, ◌-◌, ◌≤◌, length, take}
use Rattle.vault_port.specs.Told.{Becomes}
use Rattle.vault_port.specs.Taken.{Appends}
use Rattle.vault_port.proofs.whole.put_whole.Given as goal

abbrev pub invariant-putting : goal.invariant-putting
invariant-putting g l =
    record {
      within : l.done ≤ length l.bytes;
      taken : Becomes (g.S.Sink.taken l.fn.out) (g.S.Sink.taken l.out) (Appends (take l.done l.bytes));
      steady : g.S.Sink.faults l.out ≡ g.S.Sink.faults l.fn.out;
    }

abbrev pub decreases-putting : goal.decreases-putting
decreases-putting g l = length l.bytes - l.done
