use Rattle.std.proofs.Common.{◌≡◌, ◌++◌, length, map}
use Rattle.world_hosting.specs.Parted.{shows_from}
use Rattle.world_hosting.proofs.parting.part_programs.Given as goal

-- those that are parted, and those to come
abbrev pub invariant-loop-one : goal.invariant-loop-one
invariant-loop-one l = record {
  programs : l.programs.items ++ map (λ s. s.program) l.one-iterator.rest.items ≡ map (λ s. s.program) l.fn.staged.items;
  names : l.names.items ++ map (λ s. s.names) l.one-iterator.rest.items ≡ map (λ s. s.names) l.fn.staged.items;
  shows : l.shows.items ++ shows_from (length l.names.items) l.one-iterator.rest.items ≡ shows_from 0 l.fn.staged.items;
}
