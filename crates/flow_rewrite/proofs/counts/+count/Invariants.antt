use Rattle.std.proofs.Common.{drop}
use Rattle.flow_rewrite.specs.UnitView.{units_of}
use Rattle.flow_rewrite.proofs.AloneLemmas.{Going}
use Rattle.flow_rewrite.proofs.counts.+count.Given as goal

abbrev pub invariant-count_among-loop-unit : goal.invariant-count_among-loop-unit
invariant-count_among-loop-unit l = Going (units_of l.units) (units_of (drop l.unit-index l.units)) l.found
