use Rattle.std.proofs.Common.{◌≡◌, take, map}
use Rattle.guard_form.specs.Guarded.{raise}
use Rattle.flow_rewrite.proofs.labels.raise_each.Given as goal

abbrev pub invariant-loop-label : goal.invariant-loop-label
invariant-loop-label l = l.out.items ≡ map (raise l.inside l.by) (take l.label-index l.labels)
