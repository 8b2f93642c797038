-- The set-up of each strand of a program, from that of all its entries in a row.
use Rattle.std.specs.Prelude.{◌≡◌, ℕ, List, [], ◌∷◌, length, map, take, drop, Ok}
use Rattle.wa_types.specs.Syntax.{Module}
use Rattle.wa_model.specs.declared.answers.Area.{Area}
use Rattle.script_model.specs.Script.{EntryText, ProgramText, StrandText}
use Rattle.host_setup.specs.SetUp.{set_up}
use Rattle.script_setup.specs.SetUpRules.{asked_area, entries_in, named_entry}

-- Each strand is set up with its own area: the first with this area and these entries, whose functions come first in `funcs`, and the further ones behind it.
abbrev pub EachSetUp : Module → Area → List EntryText → List StrandText → (funcs : List ℕ) → Type 0
EachSetUp p area es [] funcs = set_up p area (map named_entry es) ≡ Ok funcs
EachSetUp p area es (s ∷ ss) funcs = (set_up p area (map named_entry es) ≡ Ok (take (length es) funcs)) × EachSetUp p s.area s.entries ss (drop (length es) funcs)

-- A program that is set up by the area that is asked and the entries of all its strands is set up strand by strand.
abbrev pub StrandsAreSetUp : Type 0
StrandsAreSetUp = (p : Module) (t : ProgramText) (funcs : List ℕ) → set_up p (asked_area p t).area (map named_entry (entries_in t)) ≡ Ok funcs → EachSetUp p t.area t.entries t.strands funcs
