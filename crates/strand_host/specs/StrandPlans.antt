-- What a program with strands is made of, and as which program of a world.
use Rattle.std.specs.Prelude.{◌≡◌, ◌≤◌, ◌<◌, ◌^◌, ℕ, zero, suc, ◌++◌, if◌then◌else◌, Bool, List, [], ◌∷◌, length, map, Option, Some, None, All, Result, Ok}
use Rattle.std.specs.List.{list_any}
use Rattle.std.specs.Option.{option_map}
use Rattle.wa_model.specs.declared.answers.Area.{Area}
use Rattle.wa_model.specs.Outside.{AnswerLine}
use Rattle.wa_model.specs.View.{answer_line_of}
use Rattle.wa_types.specs.Syntax.{Module}
use Rattle.world_model.specs.World.{Look}
use Rattle.wa_model.specs.Blocking.{overlap}
use Rattle.host_setup.specs.declared.faults.SetupFault.{SetupFault}
use Rattle.host_setup.specs.SetUp.{Fault, NamedEntry, set_up}
use Rattle.host_setup.specs.Views as S
use Rattle.pause_host.specs.declared.plan.Plan.{Plan}
use Rattle.pause_host.specs.Moves.{HasShortPokes}
use Rattle.pause_host.specs.Programs.{IsPlan, source_of}
use Rattle.pause_host.specs.Settings.{calls_of}
use Rattle.strand_laws.specs.StrandWorld.{StrandsInWorld}
use Rattle.strand_laws.specs.Strands.{Strand}
use Rattle.strand_host.specs.declared.plan.StrandPart.{StrandPart}
use Rattle.strand_host.specs.declared.plan.StrandPlan.{StrandPlan}

-- the plan's own part is the first strand's
abbrev pub first_part : Plan → StrandPart
first_part x = record { area = x.area; entries = x.entries; answers = x.answers }

-- the parts of all strands
abbrev pub parts_of : StrandPlan → List StrandPart
parts_of x = first_part x.plan ∷ x.strands.items

-- the entries of a strand
abbrev pub entries_of : StrandPart → List NamedEntry
entries_of s = map S.entry_of s.entries.items

-- its answer lines
abbrev pub lines_of : StrandPart → List AnswerLine
lines_of s = map answer_line_of s.answers.items

-- What is asked of a further strand: its entries are numbered in 32 bits, and the pokes of its answer lines are short.
pub record IsPart (s : StrandPart) : Type 0 where
  pub entries : length s.entries.items < 2 ^ 32
  pub pokes : All HasShortPokes (lines_of s)

-- What is asked of a plan with strands: the plan of the first is one, there are 16 strands at most, and so are the others.
pub record IsStrandPlan (x : StrandPlan) : Type 0 where
  pub plan : IsPlan x.plan
  pub few : length x.strands.items ≤ 15
  pub strands : All IsPart x.strands.items

-- strands whose entries are of these functions
abbrev pub strands_with : List StrandPart → List (List ℕ) → List Strand
strands_with [] funcs = []
strands_with (s ∷ ss) [] = []
strands_with (s ∷ ss) (fs ∷ fss) = record { area = s.area; entries = calls_of (entries_of s) fs } ∷ strands_with ss fss

-- the program of a world that a plan with strands is, where its entries are of these functions, these looks come after its end and its imports are
-- bound so
abbrev pub world_strands : StrandPlan → List (List ℕ) → List Look → List (Option (List ℕ)) → StrandsInWorld
world_strands x funcs looks binds = record {
  program = record {
    source = source_of x.plan;
    globals = x.plan.globals.items;
    listed = option_map (λ v. v.items) x.plan.listed;
    strands = strands_with (parts_of x) funcs;
  };
  steps = x.plan.steps;
  answers = map lines_of (parts_of x);
  binds = binds;
  looks = looks;
}

-- what comes of setting up a strand
abbrev pub set_up_of : Module → StrandPart → Result (List ℕ) Fault
set_up_of p s = set_up p s.area (entries_of s)

-- each strand is set up, with these functions of its entries
abbrev pub AllSetUp : Module → List StrandPart → List (List ℕ) → Type 0
AllSetUp p [] funcs = funcs ≡ []
AllSetUp p (s ∷ ss) [] = ⊥
AllSetUp p (s ∷ ss) (fs ∷ fss) = (set_up_of p s ≡ Ok fs) × AllSetUp p ss fss

-- The strand of this number has this fault, and those before it are set up.
abbrev pub FailsFirst : Module → List StrandPart → (strand : ℕ) → SetupFault → Type 0
FailsFirst p [] strand fault = ⊥
FailsFirst p (s ∷ ss) zero fault = S.Blames fault (set_up_of p s)
FailsFirst p (s ∷ ss) (suc strand) fault = ((funcs : List ℕ) × (set_up_of p s ≡ Ok funcs)) × FailsFirst p ss strand fault

-- ---- areas

-- two areas share a byte
abbrev pub areas_overlap : Area → Area → Bool
areas_overlap a b = overlap a.at a.len b.at b.len

-- an area shares a byte with one of these
abbrev pub overlaps_one : List Area → Area → Bool
overlaps_one earlier a = list_any (λ (b : Area). areas_overlap b a) earlier

-- the first of these areas that shares a byte with an earlier one, or with one of those before, where the first has this number
abbrev pub first_overlap : (before : List Area) → (number : ℕ) → List Area → Option ℕ
first_overlap before i [] = None
first_overlap before i (a ∷ rest) = if overlaps_one before a then Some i else first_overlap (before ++ a ∷ []) (suc i) rest

-- no two areas share a byte
abbrev pub AreasApart : List Area → Type 0
AreasApart areas = first_overlap [] 0 areas ≡ None

-- the strand of this number is the first whose area shares a byte with that of an earlier one
abbrev pub OverlapsFirst : List Area → (strand : ℕ) → Type 0
OverlapsFirst areas strand = first_overlap [] 0 areas ≡ Some strand
