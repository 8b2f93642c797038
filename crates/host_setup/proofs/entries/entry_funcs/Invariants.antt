use Rattle.std.proofs.Common.{◌≡◌, map, take}
use Rattle.wa_types.specs.Syntax.{Module}
use Rattle.host_setup.specs.declared.entries.Entry.{Entry}
use Rattle.host_setup.specs.SetUp.{entry_func}
use Rattle.host_setup.specs.Views.{IsTableOf}
use Rattle.host_setup.proofs.entries.entry_funcs.Given as goal

abbrev pub invariant-loop-entry : goal.invariant-loop-entry
invariant-loop-entry l = (p : Module) → IsTableOf l.names p.exports → l.funcs.items ≡ map (λ (e : Entry). entry_func p e.name) (take l.entry-index l.entries)
