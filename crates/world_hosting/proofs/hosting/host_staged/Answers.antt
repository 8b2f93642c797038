use Rattle.std.proofs.lemmas.List.{length-map}
use Rattle.world_hosting.specs.Worlds.{world_program, world_programs}
use Rattle.world_hosting.proofs.SetUp.{parted_names, parted_none_wait, parted_set_up}
use Rattle.world_hosting.proofs.hosting.host_staged.Goals as goal

pub returns-clause-begins : goal.returns-clause-begins
returns-clause-begins c = λ parts h. record {
  wide = length-map parts world_program;
  told = λ ds. c.in_ok-host.ensures.told (world_programs parts) ds (parted_set_up parts c.args.staged.items c.in_ok-programs.field-0 h c.in_ok-programs.ensures);
  begun = c.in_ok-host.ensures.begun;
  names_are = parted_names parts c.args.staged.items c.in_ok-programs.field-0 h c.in_ok-programs.ensures;
}

pub returns-clause-mail : goal.returns-clause-mail
returns-clause-mail c = λ parts boxes h. record {
  told = λ ds.
      c.in_ok-host.ensures.mail (world_programs parts) ds boxes (parted_set_up parts c.args.staged.items c.in_ok-programs.field-0 h c.in_ok-programs.ensures)
      (parted_none_wait parts c.args.staged.items c.in_ok-programs.field-0 h c.in_ok-programs.ensures);
  begun = c.in_ok-host.ensures.begun;
  names_are = parted_names parts c.args.staged.items c.in_ok-programs.field-0 h c.in_ok-programs.ensures;
}
