use Rattle.std.proofs.Common.{◌≡◌, ◌++◌, map}
use Rattle.world_hosting.proofs.hosting.time_programs.Given as goal

-- those that are parted, and those to come
abbrev pub invariant-loop-one : goal.invariant-loop-one
invariant-loop-one l = record {
  staged : l.timed.staged.items ++ map (λ z. z.staged) l.one-iterator.rest.items ≡ map (λ z. z.staged) l.fn.resumed.items;
  dues : l.timed.dues.items ++ map (λ z. z.due) l.one-iterator.rest.items ≡ map (λ z. z.due) l.fn.resumed.items;
  ended : l.timed.ended.items ++ map (λ z. z.ended) l.one-iterator.rest.items ≡ map (λ z. z.ended) l.fn.resumed.items;
}
