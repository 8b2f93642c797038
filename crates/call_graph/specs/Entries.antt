-- Entries of lists, of the program's values.
use Rattle.std.specs.Prelude.{ℕ, List, Bool}
use Rattle.std.specs.List.{list_any}
use Rattle.wa_types.specs.Pausing.{Entry as PlainEntry, beginning, exactly, names}
use Rattle.call_graph.specs.declared.lists.Entry.{Entry}
use Rattle.call_graph.specs.declared.lists.Entry.TheVariants.{Beginning, Exactly}

-- an entry
abbrev pub entry_of : Entry → PlainEntry
entry_of (Beginning text) = beginning text
entry_of (Exactly text) = exactly text

-- one of the entries names this
abbrev pub any_names : List Entry → List ℕ → Bool
any_names entries name = list_any (λ (e : Entry). names (entry_of e) name) entries
