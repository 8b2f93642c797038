use Rattle.std.proofs.Common.{◌≡◌, ◌-◌, List, length}
use Rattle.wa_model.specs.declared.answers.Detach.{Detach}
use Rattle.strand_host.specs.StrandStanding.{AreInRange}
use Rattle.world_hosting.specs.Counts.{counted}
use Rattle.script_command.specs.StrandParts.{BeginsStrands}
use Rattle.script_command.specs.StrandWorldsTold.{NamedStrands}
use Rattle.script_command.proofs.StrandsPrinted.{HasStrandsPrinted}
use Rattle.script_command.proofs.strand_telling.tell_strand_lines.Given as goal

abbrev pub invariant-telling : goal.invariant-telling
invariant-telling g l = record {
  told : (programs : List NamedStrands) (detaches : List Detach) → BeginsStrands programs detaches l.fn.host l.names
      → (t : HasStrandsPrinted programs detaches (counted (λ z. (goal.Device-dyn g z).seen z.1) (λ z. (goal.Device-dyn g z).faults z.1) l.fn.devices) l.host
      (counted (λ z. (goal.Device-dyn g z).seen z.1) (λ z. (goal.Device-dyn g z).faults z.1) l.devices) (g.S.Sink.taken l.fn.out) (g.S.Sink.taken l.out))
      × (length t.told.lines ≡ l._told);
  range : AreInRange l.host.turns;
  same_list : l.devices.list.ghost_name ≡ l.fn.devices.list.ghost_name;
  steady : g.S.Sink.faults l.out ≡ g.S.Sink.faults l.fn.out;
}

abbrev pub decreases-telling : goal.decreases-telling
decreases-telling g l = 340282366920938463463374607431768211455 - l._told
