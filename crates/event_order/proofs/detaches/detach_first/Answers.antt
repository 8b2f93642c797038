use Rattle.std.proofs.lemmas.Option.{slice_get_within}
use Rattle.event_order.proofs.Outs.{out_none, without_none, without_first}
use Rattle.event_order.proofs.detaches.detach_first.Goals as goal

pub returns-in_default-clause-devices : goal.returns-in_default-clause-devices
returns-in_default-clause-devices g c = out_none c.args.name.now _ c.in_default.ensures

pub returns-in_default-clause-counts : goal.returns-in_default-clause-counts
returns-in_default-clause-counts g c = without_none c.args.name.now _ _ c.in_default.ensures

pub detach-requires : goal.detach-requires
detach-requires g c = slice_get_within _ _ _ c.in-Some.ensures.there

pub returns-clause-counts : goal.returns-clause-counts
returns-clause-counts g c = without_first c.args.name.now _ _ _ c.in-Some.place c.in-Some.ensures c.detach.ensures.boxes
