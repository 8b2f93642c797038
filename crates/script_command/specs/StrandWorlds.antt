-- A script's programs with strands, as a world has them.
use Rattle.std.specs.Prelude.{ℕ, List, [], ◌∷◌, length, drop, map}
use Rattle.wa_model.specs.declared.answers.Area.{Area}
use Rattle.wa_model.specs.Outside.{AnswerLine}
use Rattle.wa_types.specs.Syntax.{Module}
use Rattle.script_model.specs.Script.{EntryText, ProgramText, StrandText}
use Rattle.script_model.specs.Transcript.{Names}
use Rattle.pause_host.specs.Settings.{calls_of}
use Rattle.script_setup.specs.Bindings.{bindings}
use Rattle.script_setup.specs.SetUpRules.{named_entry, program_names, strand_names}
use Rattle.strand_laws.specs.Strands.{Strand}
use Rattle.strand_laws.specs.StrandWorld.{StrandsInWorld}
use Rattle.world_hosting.specs.Worlds.{Part, look_at}

-- a strand of this area, whose entries call these functions
abbrev pub strand_of : Area → List EntryText → (funcs : List ℕ) → Strand
strand_of area es funcs = record { area = area; entries = calls_of (map named_entry es) funcs }

-- A strand of this area and these entries, and those behind it: the functions are those of the entries of all, in order.
abbrev pub strands_from : Area → List EntryText → List StrandText → (funcs : List ℕ) → List Strand
strands_from area es [] funcs = strand_of area es funcs ∷ []
strands_from area es (s ∷ ss) funcs = strand_of area es funcs ∷ strands_from s.area s.entries ss (drop (length es) funcs)

-- the strands of a program whose entries are of these functions
abbrev pub strands_in : ProgramText → (funcs : List ℕ) → List Strand
strands_in t funcs = strands_from t.area t.entries t.strands funcs

-- the answer lines of each of its strands
abbrev pub answers_in : ProgramText → List (List AnswerLine)
answers_in t = t.answers ∷ map (λ (s : StrandText). s.answers) t.strands

-- the program with strands of a world that it is
abbrev pub part_strands : Part → StrandsInWorld
part_strands x = record {
  program = record { source = x.source; globals = x.given.globals; listed = x.listed; strands = strands_in x.text x.given.funcs };
  steps = x.text.steps;
  answers = answers_in x.text;
  binds = bindings x.source x.text.binds;
  looks = map look_at x.text.shows;
}

-- the names of each strand's lines, of a program of this text over this module
abbrev pub strand_names_of : Module → ProgramText → List Names
strand_names_of p t = program_names p t ∷ map (strand_names p) t.strands

-- the same of a program of a script
abbrev pub strand_names_in : Part → List Names
strand_names_in x = strand_names_of x.source x.text
