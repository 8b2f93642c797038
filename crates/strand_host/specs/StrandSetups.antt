-- What setting up strands answers, part by part.
use Rattle.std.specs.Prelude.{◌≡◌, ℕ, List, [], ◌∷◌, length, map, Option, Some, None, Result, Ok, Err}
use Rattle.std.specs.Global.{Vec}
use Rattle.wa_types.specs.Syntax.{Module}
use Rattle.wa_types.specs.Validity.{Valid}
use Rattle.wa_model.specs.declared.answers.Area.{Area}
use Rattle.host_setup.specs.SetUp.{Fault}
use Rattle.host_setup.specs.Views.{Blames}
use Rattle.pause_host.specs.Programs.{source_of}
use Rattle.pause_host.specs.Settings.{MakesSetting, calls_of}
use Rattle.pause_host.specs.Views.{left_of}
use Rattle.pause_host.specs.declared.stages.Setting.{Setting}
use Rattle.pause_host.specs.declared.stages.Stage.TheVariants as Stage
use Rattle.strand_host.specs.declared.plan.StrandFault.{StrandFault}
use Rattle.strand_host.specs.declared.plan.StrandFault.TheVariants.{Memory, Overlap, Setup}
use Rattle.strand_host.specs.declared.plan.StrandPart.{StrandPart}
use Rattle.strand_host.specs.declared.plan.StrandPlan.{StrandPlan}
use Rattle.strand_host.specs.declared.setup.Parted.{Parted}
use Rattle.strand_host.specs.declared.strands.Strand.{Strand}
use Rattle.strand_host.specs.StrandPlans.{AllSetUp, AreasApart, FailsFirst, OverlapsFirst, entries_of, parts_of}

-- the area of a strand
abbrev pub area_of : StrandPart → Area
area_of s = s.area

-- the items of each
abbrev pub items_of : List (Vec ℕ) → List (List ℕ)
items_of vs = map (λ (v : Vec ℕ). v.items) vs

-- a fault of this strand says why it can't be set up, or that memory is wanting
abbrev pub BlamesStrand : Result (List ℕ) Fault → (strand : ℕ) → StrandFault → Type 0
BlamesStrand told i Memory = Unit {0}
BlamesStrand told i (Setup strand fault) = (strand ≡ i) × Blames fault told
BlamesStrand told i (Overlap strand) = ⊥

-- the functions of this strand's entries, or its fault
abbrev pub SetsUpOne : Result (List ℕ) Fault → (strand : ℕ) → Result (Vec ℕ) StrandFault → Type 0
SetsUpOne told i (Ok funcs) = told ≡ Ok funcs.items
SetsUpOne told i (Err fault) = BlamesStrand told i fault

-- the first fault of strands, or that memory is wanting
abbrev pub BlamesFirst : Module → List StrandPart → StrandFault → Type 0
BlamesFirst p parts Memory = Unit {0}
BlamesFirst p parts (Setup strand fault) = FailsFirst p parts strand fault
BlamesFirst p parts (Overlap strand) = ⊥

-- the functions of the entries of all strands, or the first fault
abbrev pub SetsUpAll : Module → List StrandPart → Result (Vec (Vec ℕ)) StrandFault → Type 0
SetsUpAll p parts (Ok funcs) = AllSetUp p parts (items_of funcs.items)
SetsUpAll p parts (Err fault) = BlamesFirst p parts fault

-- there are as many functions as entries, of each strand
abbrev pub AllOfLength : List StrandPart → List (List ℕ) → Type 0
AllOfLength [] [] = Unit {0}
AllOfLength (s ∷ ss) (fs ∷ fss) = (length fs ≡ length s.entries.items) × AllOfLength ss fss
AllOfLength _ _ = ⊥

-- a strand at its start, whose entries are of these functions
pub record IsAtStart (s : StrandPart) (funcs : List ℕ) (x : Strand) : Type 0 where
  pub area : x.area ≡ s.area
  pub left : left_of x.left ≡ record { number = 0; entries = calls_of (entries_of s) funcs; outcomes = [] }
  pub answers : x.left.answers.items ≡ s.answers.items
  pub stage : x.stage ≡ Stage.Free

-- so are all
abbrev pub AreAtStart : List StrandPart → List (List ℕ) → List (Option Strand) → Type 0
AreAtStart [] [] xs = xs ≡ []
AreAtStart (s ∷ ss) (fs ∷ fss) (Some x ∷ xs) = IsAtStart s fs x × AreAtStart ss fss xs
AreAtStart _ _ _ = ⊥

-- A program's strands at their start, none of whose areas overlaps another; the setting has that of each as a range that answers leave alone.
pub record IsParted (x : StrandPlan) (y : Parted) : Type 0 where
  pub lawful : Valid (source_of x.plan)
  pub funcs : List (List ℕ)
  pub all : AllSetUp (source_of x.plan) (parts_of x) funcs
  pub apart : AreasApart (map area_of (parts_of x))
  pub valid : y.valid ≡ x.plan.module
  pub globals : y.globals ≡ x.plan.globals
  pub made : Setting
  pub makes : MakesSetting (source_of x.plan) x.plan.listed x.plan.binds x.plan.area x.plan.steps made
  pub setting : y.setting ≡ record made { others = y.setting.others }
  pub others : y.setting.others.items ≡ map area_of (parts_of x)
  pub steps : y.steps_left ≡ x.plan.steps
  pub dues : y.dues.items ≡ map (λ (s : StrandPart). Some 0) (parts_of x)
  pub strands : AreAtStart (parts_of x) funcs y.strands.items

-- that, or the first fault
abbrev pub SetsUpParted : StrandPlan → Result Parted StrandFault → Type 0
SetsUpParted x (Ok y) = IsParted x y
SetsUpParted x (Err (Overlap strand)) =
    ((funcs : List (List ℕ)) × AllSetUp (source_of x.plan) (parts_of x) funcs) × OverlapsFirst (map area_of (parts_of x)) strand
SetsUpParted x (Err fault) = BlamesFirst (source_of x.plan) (parts_of x) fault
