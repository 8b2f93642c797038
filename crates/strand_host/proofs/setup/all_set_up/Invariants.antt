use Rattle.std.proofs.Common.{◌≡◌}
use Rattle.wa_types.specs.View.{module_of}
use Rattle.strand_host.specs.StrandSetups.{items_of}
use Rattle.strand_host.proofs.SetupLoops.{Sofar}
use Rattle.strand_host.proofs.setup.all_set_up.Given as goal

abbrev pub invariant-loop-part : goal.invariant-loop-part
invariant-loop-part l = record {
  at : l.strand ≡ l.part-index;
  sofar : Sofar (module_of l.valid) l.parts l.part-index l.strand (items_of l.all.items);
}
