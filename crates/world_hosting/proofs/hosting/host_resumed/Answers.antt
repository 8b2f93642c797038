use Rattle.world_laws.specs.Snapshots.{from_records}
use Rattle.world_hosting.specs.Worlds.{world_programs}
use Rattle.world_hosting.proofs.PutBackAll.{as_wide, early_dues, parted_resumed, resumed_names}
use Rattle.world_hosting.proofs.hosting.host_resumed.Goals as goal

pub returns-clause-begins : goal.returns-clause-begins
returns-clause-begins c = λ parts records h. record {
  wide = as_wide parts records c.args.resumed.items h;
  told = λ ds. c.in_ok-host.ensures.told (from_records (world_programs parts) records) ds
      (parted_resumed c.args.resumed.items c.in_ok-staged.field-0 c.in_ok-programs.field-0 c.in_ok-staged.ensures c.in_ok-programs.ensures parts records h);
  begun = c.in_ok-host.ensures.begun;
  names_are = resumed_names c.args.resumed.items c.in_ok-staged.field-0 c.in_ok-programs.field-0 c.in_ok-staged.ensures c.in_ok-programs.ensures parts records h;
}

pub resumed-requires-clause-early : goal.resumed-requires-clause-early
resumed-requires-clause-early c = early_dues c.args.resumed.items c.in_ok-staged.field-0 c.in_ok-staged.ensures c.requires.early
