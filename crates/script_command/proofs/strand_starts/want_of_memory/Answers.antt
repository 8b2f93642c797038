use Rattle.std.proofs.Common.{subst}
use Rattle.std.specs.Prelude.{Err, map}
use Rattle.pause_host.specs.Programs.{source_of}
use Rattle.strand_host.specs.declared.plan.StrandFault.{StrandFault}
use Rattle.strand_host.specs.declared.plan.StrandPart.{StrandPart}
use Rattle.strand_host.specs.StrandPlans.{parts_of}
use Rattle.strand_host.specs.StrandPrograms.{SetsUpStrands}
use Rattle.script_command.proofs.PlansOfStrands.{fault_of_none, none_overlaps}
use Rattle.script_command.proofs.strand_starts.want_of_memory.Goals as goal

pub want_of_setup-requires : goal.want_of_setup-requires
want_of_setup-requires c =
    let r = c.requires in
    fault_of_none (source_of r.0.plan) (parts_of r.0) r.1.funcs _ _ r.1.all (subst (λ (f : StrandFault). SetsUpStrands r.0 (Err f)) c.in-Setup.is r.2)

pub unreachable-requires : goal.unreachable-requires
unreachable-requires c =
    let r = c.requires in
    none_overlaps (map (λ (s : StrandPart). s.area) (parts_of r.0)) _ r.1.apart (subst (λ (f : StrandFault). SetsUpStrands r.0 (Err f)) c.in-Overlap.is r.2).1
