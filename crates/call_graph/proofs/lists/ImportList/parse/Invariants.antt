use Rattle.std.proofs.Common.{◌≡◌, length, map, take, Ok}
use Rattle.wa_types.specs.Pausing.{entries_of}
use Rattle.call_graph.specs.Entries.{entry_of}
use Rattle.call_graph.proofs.ParseLemmas.{parts}
use Rattle.call_graph.proofs.lists.ImportList.parse.Given as goal

abbrev pub invariant-loop-piece : goal.invariant-loop-piece
invariant-loop-piece l = entries_of (take (length l.yielded) (parts l.fn.text)) ≡ Ok (map entry_of l.entries.items)
