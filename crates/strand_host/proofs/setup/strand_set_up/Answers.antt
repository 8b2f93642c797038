use Rattle.std.proofs.Common.{map, subst}
use Rattle.wa_types.specs.View.{module_of}
use Rattle.host_setup.specs.SetUp.{set_up}
use Rattle.host_setup.specs.Views.{Blames, entry_of}
use Rattle.strand_host.specs.StrandPlans.{set_up_of}
use Rattle.strand_host.proofs.setup.strand_set_up.Goals as goal

pub returns-in-Err : goal.returns-in-Err
returns-in-Err c =
    c.setup_fault.ensures (set_up_of (module_of c.args.valid.now) c.args.part.now)
    (subst (λ es. Blames c.in-Err.fault (set_up (module_of c.args.valid.now) c.args.part.now.area (map entry_of es))) c.deref.ensures.value c.in-Err.ensures)
