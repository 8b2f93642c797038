-- What reading a list of imports answers.
use Rattle.std.specs.Prelude.{◌≡◌, ℕ, List, ◌∷◌, ◌++◌, Option, Some, None, Result, Ok, Err}
use denote.Ref.{Bor}
use Rattle.wa_types.specs.Pausing.{Entry as PlainEntry, ListError, empty_entry, star_inside, no_dot}
use Rattle.call_graph.specs.declared.lists.Entry.{Entry}
use Rattle.call_graph.specs.declared.lists.ListFault.{ListFault}
use Rattle.call_graph.specs.declared.lists.ListFault.TheVariants.{Memory, EmptyEntry, NoDot, StarInside}
use Rattle.call_graph.specs.Entries.{entry_of}

-- The fault says so, or that there is no memory.
abbrev pub Blames : {X : Type 0} → ListFault → Result X ListError → Type 0
Blames Memory r = Unit {0}
Blames EmptyEntry r = r ≡ Err empty_entry
Blames NoDot r = r ≡ Err no_dot
Blames StarInside r = r ≡ Err star_inside

-- What was read is what the text spells.
abbrev pub Parses : Result (List PlainEntry) ListFault → Result (List PlainEntry) ListError → Type 0
Parses (Ok entries) r = r ≡ Ok entries
Parses (Err fault) r = Blames fault r

-- an entry that was read is the one that is spelled, and a fault is one of it
abbrev pub Reads : Result Entry ListFault → Result PlainEntry ListError → Type 0
Reads (Ok e) r = r ≡ Ok (entry_of e)
Reads (Err fault) r = Blames fault r

-- The text is this name, a dot and what is answered, or doesn't begin with the name and a dot.
abbrev pub IsBehind : List ℕ → List ℕ → Option (Bor (List ℕ)) → Type 0
IsBehind text name (Some rest) = text ≡ name ++ 46 ∷ rest.now
IsBehind text name None = (rest : List ℕ) → text ≡ name ++ 46 ∷ rest → ⊥
