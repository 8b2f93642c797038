use Rattle.std.proofs.Common.{◌≡◌, ℕ, List, length}
use Rattle.wa_model.specs.declared.answers.Detach.{Detach}
use Rattle.world_model.specs.World.{Program}
use Rattle.many_host.specs.Standing.{InRange}
use Rattle.world_hosting.specs.Counts.{counted}
use Rattle.world_hosting.specs.Parted.{Begins}
use Rattle.world_hosting.specs.Saved.{HasPrinted}
use Rattle.world_hosting.specs.Worlds.{Part}
use Rattle.world_hosting.proofs.telling.tell_lines.Given as goal

abbrev pub invariant-telling : goal.invariant-telling
invariant-telling g l = record {
  told : (earlier : ℕ) (programs : List Program) (parts : List Part) (detaches : List Detach) → Begins earlier programs parts detaches l.fn.host l.names
      → (t : HasPrinted earlier programs parts detaches (counted (λ z. (goal.Device-dyn g z).seen z.1) (λ z. (goal.Device-dyn g z).faults z.1) l.fn.devices) l.host
      (counted (λ z. (goal.Device-dyn g z).seen z.1) (λ z. (goal.Device-dyn g z).faults z.1) l.devices) (g.S.Sink.taken l.fn.out) (g.S.Sink.taken l.out))
      × (length t.told.lines ≡ l._told);
  range : InRange l.host.turns;
  same_list : l.devices.list.ghost_name ≡ l.fn.devices.list.ghost_name;
  steady : g.S.Sink.faults l.out ≡ g.S.Sink.faults l.fn.out;
}
