-- What a host of several programs with strands has told.
use Rattle.std.specs.Prelude.{◌≡◌, ℕ, List, [], ◌∷◌, ◌++◌, Option, Some, None, nat_lt, if◌then◌else◌, MatchOption}
use Rattle.wa_model.specs.declared.answers.Detach.{Detach}
use Rattle.world_model.specs.World.{Device}
use Rattle.event_order.specs.declared.shows.Show.{Show}
use Rattle.event_order.specs.Left.{Counted}
use Rattle.strand_laws.specs.StrandWorld.{ProtocolStrandWorld, StrandLine, StrandsInWorld}
use Rattle.strand_laws.specs.ToldStrands.{ProgramTeller}
use Rattle.strand_host.specs.declared.host.StrandHost.{StrandHost}
use Rattle.strand_host.specs.declared.program.State.{State}
use Rattle.strand_host.specs.declared.program.State.TheVariants.{Failed, Over, Runs}
use Rattle.strand_host.specs.declared.program.StrandProgram.{StrandProgram}
use Rattle.strand_host.specs.declared.turn_taking.StrandLine.{StrandLine as LineValue}
use Rattle.strand_host.specs.StrandCalls.{strand_line_of}
use Rattle.strand_host.specs.StrandPrograms.{FollowsStrands, due_at, memory_of}
use Rattle.strand_host.specs.StrandStanding.{AllStrandsStart, AreTelling, StrandsStanding, TellsStrandLine, hosted_of}
use Rattle.strand_host.specs.StrandTelling.{IsToldSo}

-- ---- programs

-- the sooner of two ticks, where there is another
abbrev pub sooner_due : ℕ → Option ℕ → ℕ
sooner_due due None = due
sooner_due due (Some other) = if nat_lt other due then other else due

-- the least tick at which one is due; none where all have ended
abbrev pub least_due : List (Option ℕ) → Option ℕ
least_due [] = None
least_due (None ∷ dues) = least_due dues
least_due (Some due ∷ dues) = Some (sooner_due due (least_due dues))

-- by where a program stands: none is due behind its end, and the strand whose turn goes on was due before all
abbrev pub due_by : List (Option ℕ) → State → Option ℕ
due_by dues (Over instance) = None
due_by dues Failed = None
due_by dues (Runs instance going) = due_at going.number dues
due_by dues _ = least_due dues

-- when a program is due
abbrev pub due_in : StrandProgram → Option ℕ
due_in x = due_by x.dues.items x.state

-- a program's strands have told so much, and it is due as they are
abbrev pub follows : StrandProgram → StrandsInWorld → ProgramTeller → Type 0
follows x g t = FollowsStrands g t x × IsToldSo g t (due_in x)

-- Programs of a world with strands that are set up, of which none was advanced, with what is shown behind their ends.
abbrev pub AreSetUpStrands : List StrandsInWorld → List Show → List StrandProgram → Type 0
AreSetUpStrands gs shows xs = AllStrandsStart (λ x g t. FollowsStrands g t x) shows gs xs

-- ---- a host

-- The host has told these lines of a world of the programs: so many whole turns, and the beginning of the next; these devices were there at first,
-- and these are now.
abbrev pub StrandHostTold : List StrandsInWorld → List Detach → List Device → List StrandLine → StrandHost → List Device → Type 0
StrandHostTold gs detaches ds lines h ds' = StrandsStanding follows due_in memory_of gs detaches ds lines (hosted_of h.turns) ds' h.turns.stage

-- It has told lines of some world.
abbrev pub StrandHostTells : StrandHost → List Device → Type 0
StrandHostTells h ds' = AreTelling follows due_in memory_of (hosted_of h.turns) ds' h.turns.stage

-- It told one line more, with what its call met and took; or there is none, and what was told is a whole run of the world, which leaves these devices,
-- as they were.
abbrev pub StrandHostNext : List StrandsInWorld → List Detach → List Device → List StrandLine → List ProgramTeller → (old left new : List Counted) → StrandHost → List Device → Option LineValue
    → Type 0
StrandHostNext gs detaches ds lines tellers old left new h ds' result =
    MatchOption result (ProtocolStrandWorld gs detaches ds lines ds' × (new ≡ old))
    (λ line. TellsStrandLine follows due_in memory_of gs detaches ds lines tellers left new (strand_line_of line) (hosted_of h.turns) ds' h.turns.stage)

-- ---- laws

-- The lines that a host has told are the first lines of a run of the world.
abbrev pub ToldStrandLinesBegin : Type 0
ToldStrandLinesBegin =
    (gs : List StrandsInWorld) (detaches : List Detach) (ds ds' : List Device) (lines : List StrandLine) (h : StrandHost) → StrandHostTold gs detaches ds lines h ds'
    → (more : List StrandLine) × (last : List Device) × ProtocolStrandWorld gs detaches ds (lines ++ more) last
