use Rattle.world_laws.specs.Snapshots.{From, from_records}
use Rattle.world_hosting.specs.Worlds.{world_programs}
use Rattle.world_hosting.proofs.Printed.{none_printed}
use Rattle.world_hosting.proofs.PutBackAll.{all_early, begins_at, begins_none}
use Rattle.world_hosting.proofs.continuing.continue_programs.Goals as goal

pub host_resumed-requires-clause-early : goal.host_resumed-requires-clause-early
host_resumed-requires-clause-early g c = let h = c.requires.resumed in all_early h.0 h.1 c.args.resumed.items h.2

pub returns-in-Ok-clause-told : goal.returns-in-Ok-clause-told
returns-in-Ok-clause-told g c = λ parts s e h.
    c.tell_hosting.ensures.told s.events (From s (world_programs parts)) parts c.args.detaches.items
    (begins_at parts s c.args.events c.args.detaches.items c.in-Ok.hosting.host c.in-Ok.hosting.names.items e (c.in-Ok.ensures.begins parts s.programs h))

pub returns-in-Ok-clause-part : goal.returns-in-Ok-clause-part
returns-in-Ok-clause-part g c = λ parts s e h.
    c.tell_hosting.ensures.part s.events (From s (world_programs parts)) parts c.args.detaches.items
    (begins_at parts s c.args.events c.args.detaches.items c.in-Ok.hosting.host c.in-Ok.hosting.names.items e (c.in-Ok.ensures.begins parts s.programs h))

pub returns-in-Err-clause-part : goal.returns-in-Err-clause-part
returns-in-Err-clause-part g c = λ parts s e h.
    none_printed s.events (From s (world_programs parts)) parts c.args.detaches.items _ (begins_none s.events parts s.programs c.args.resumed.items c.args.detaches.items _ h) _

pub tell_hosting-requires-clause-begins : goal.tell_hosting-requires-clause-begins
tell_hosting-requires-clause-begins g c =
    let h = c.requires.resumed in
    record {
      earlier = c.args.events;
      programs = from_records (world_programs h.0) h.1;
      parts = h.0;
      detaches = c.args.detaches.items;
      begins = c.in-Ok.ensures.begins h.0 h.1 h.2;
    }
