use Rattle.std.proofs.Common.{sym, map}
use Rattle.script_reader.specs.Views.{global_of}
use Rattle.script_setup.proofs.globals.global_values.Goals as goal

pub returns : goal.returns
returns c = sym (c.in_ok-list.ensures (map global_of c.args.globals.now) c.in_ok-values.ensures)
