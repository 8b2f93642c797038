use Rattle.std.proofs.Common.{◌≡◌, ◌++◌, length, map}
use Rattle.script_command.specs.StrandParts.{ranges_from}
use Rattle.script_command.proofs.strand_parting.part_strands.Given as goal

-- those that are parted, and those to come
abbrev pub invariant-loop-one : goal.invariant-loop-one
invariant-loop-one l = record {
  programs : l.programs.items ++ map (λ s. s.program) l.one-iterator.rest.items ≡ map (λ s. s.program) l.fn.staged.items;
  names : l.names.items ++ map (λ s. s.names) l.one-iterator.rest.items ≡ map (λ s. s.names) l.fn.staged.items;
  shows : l.shows.items ++ ranges_from (length l.names.items) l.one-iterator.rest.items ≡ ranges_from 0 l.fn.staged.items;
}
