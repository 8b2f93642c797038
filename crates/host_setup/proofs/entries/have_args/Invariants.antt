use Rattle.std.proofs.Common.{◌≡◌, map, take}
use Rattle.wa_types.specs.View.{module_of}
use Rattle.host_setup.specs.declared.entries.Entry.{Entry}
use Rattle.host_setup.specs.SetUp.{are_args, entry_func}
use Rattle.host_setup.proofs.entries.have_args.Given as goal

abbrev pub invariant-loop-i : goal.invariant-loop-i
invariant-loop-i l = l.tests.items ≡ map (λ (e : Entry). are_args (module_of l.«module») e.args.items (entry_func (module_of l.«module») e.name)) (take l.i l.entries)
