use Rattle.world_hosting.specs.Parted.{shows_from}
use Rattle.world_hosting.specs.Worlds.{world_programs}
use Rattle.world_hosting.proofs.Begun.{begins_nothing}
use Rattle.world_hosting.proofs.Printed.{none_printed}
use Rattle.world_hosting.proofs.SetUp.{are_set_up}
use Rattle.world_hosting.proofs.telling.host_programs.Goals as goal

pub returns-in-Ok-clause-told : goal.returns-in-Ok-clause-told
returns-in-Ok-clause-told g c = λ parts h. c.tell_hosting.ensures.told 0 (world_programs parts) parts c.args.detaches.items (c.in-Ok.ensures.begins parts h)

pub returns-in-Ok-clause-part : goal.returns-in-Ok-clause-part
returns-in-Ok-clause-part g c = λ parts h. c.tell_hosting.ensures.part 0 (world_programs parts) parts c.args.detaches.items (c.in-Ok.ensures.begins parts h)

pub returns-in-Err-clause-part : goal.returns-in-Err-clause-part
returns-in-Err-clause-part g c = λ parts h.
    none_printed 0 (world_programs parts) parts c.args.detaches.items _
    (begins_nothing (world_programs parts) (shows_from 0 c.args.staged.items) _ c.args.detaches.items _ (are_set_up parts c.args.staged.items h)) _

pub tell_hosting-requires-clause-begins : goal.tell_hosting-requires-clause-begins
tell_hosting-requires-clause-begins g c =
    let h = c.requires.staged in
    record { earlier = 0; programs = world_programs h.0; parts = h.0; detaches = c.args.detaches.items; begins = c.in-Ok.ensures.begins h.0 h.1 }
