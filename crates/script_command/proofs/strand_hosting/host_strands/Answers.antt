use Rattle.script_command.specs.StrandWorldsTold.{strand_worlds}
use Rattle.script_command.proofs.StrandsSetUp.{names_each, parted_names, parted_set_up}
use Rattle.script_command.proofs.strand_hosting.host_strands.Goals as goal

pub returns-clause-begins : goal.returns-clause-begins
returns-clause-begins c = λ programs h. record {
  told = λ ds. c.in_ok-host.ensures.told (strand_worlds programs) ds (parted_set_up programs c.args.staged.items c.in_ok-programs.field-0 h c.in_ok-programs.ensures);
  begun = c.in_ok-host.ensures.begun;
  names_are = parted_names programs c.args.staged.items c.in_ok-programs.field-0 h c.in_ok-programs.ensures;
  named = names_each programs c.args.staged.items h;
}
