use Rattle.std.proofs.Common.{ap}
use Rattle.many_host.specs.Calls.{devices_of}
use Rattle.snapshot_store.specs.Snapshots.{Snapshot}
use Rattle.snapshot_store.specs.Views.{snapshot_of}
use Rattle.world_hosting.specs.Counts.{counted}
use Rattle.world_hosting.specs.Worlds.{world_programs}
use Rattle.world_hosting.proofs.Printed.{cut_so_far, none_left_out}
use Rattle.world_hosting.proofs.UpToEvents.{can_be_saved, saved, stops_few}
use Rattle.world_hosting.proofs.saving.save_lines.Goals as goal

pub returns-in-Err-clause-part : goal.returns-in-Err-clause-part
returns-in-Err-clause-part g c = λ parts detaches b. c.in-Err.ensures.part 0 (world_programs parts) parts detaches b

pub snapshot-requires-clause-tells : goal.snapshot-requires-clause-tells
snapshot-requires-clause-tells g c =
    let b = c.requires.begins in
    let t = c.in_default.ensures.told b.earlier b.programs b.parts b.detaches b.begins in (
      devices_of (counted (λ z. (goal.Device-dyn g z).seen z.1) (λ z. (goal.Device-dyn g z).faults z.1) c.tell_events.new.devices),
      record {
        begun = b.earlier;
        programs = b.programs;
        detaches = b.detaches;
        devices = devices_of (counted (λ z. (goal.Device-dyn g z).seen z.1) (λ z. (goal.Device-dyn g z).faults z.1) c.args.devices.now);
        lines = t.told.lines;
        stands = t.told.host;
      },
    )

pub returns-in-Ok-clause-told : goal.returns-in-Ok-clause-told
returns-in-Ok-clause-told g c = λ parts detaches b unbound.
    let t = c.in_default.ensures.told 0 (world_programs parts) parts detaches b in
    let ds = devices_of (counted (λ z. (goal.Device-dyn g z).seen z.1) (λ z. (goal.Device-dyn g z).faults z.1) c.args.devices.now) in
    let es = devices_of (counted (λ z. (goal.Device-dyn g z).seen z.1) (λ z. (goal.Device-dyn g z).faults z.1) c.tell_events.new.devices) in
    saved parts detaches c.args.most _ _ c.tell_events.new.host _ _ t c.in_default.ensures.stops (snapshot_of c.in-Ok.snapshot) (ap (λ (z : Snapshot). z.events) c.in-Ok.ensures.is)
    (c.in-Ok.ensures.saved 0 (world_programs parts) detaches ds es t.told.lines t.told.host (can_be_saved parts unbound))

pub returns-in-Err-snapshot-clause-part : goal.returns-in-Err-snapshot-clause-part
returns-in-Err-snapshot-clause-part g c = λ parts detaches b.
    let t = c.in_default.ensures.told 0 (world_programs parts) parts detaches b in
    cut_so_far 0 (world_programs parts) parts detaches _ c.tell_events.new.host _ _ _ t _ (none_left_out _ _ _) c.args.most (stops_few c.args.most c.tell_events.new.host c.in_default.ensures.stops)
