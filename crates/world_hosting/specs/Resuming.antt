-- Programs that stand for the records of a snapshot, as those of the world that goes on from it.
use Rattle.std.specs.Prelude.{◌≡◌, ℕ, List, [], map, Option, Bool, true, false, Ok}
use Rattle.wa_model.specs.View.{answer_line_of}
use Rattle.world_model.specs.World.{Look}
use Rattle.event_order.specs.declared.shows.Show.{Show}
use Rattle.event_order.specs.Looks.{looks_of}
use Rattle.host_setup.specs.SetUp.{set_up}
use Rattle.many_host.specs.Hosts.{IsResumed}
use Rattle.pause_host.specs.declared.plan.Plan.{Plan}
use Rattle.pause_host.specs.declared.program.Program.{Program}
use Rattle.pause_host.specs.Programs.{BindsAs, Follows, lines_left, named_entries, source_of, world_program}
use Rattle.pause_host.specs.Thawing.{Thaws}
use Rattle.snapshot_store.specs.Snapshots.{ProgramRecord, fresh, over, paused}
use Rattle.world_laws.specs.Snapshots.{from_record}

-- The program stands for a record of a plan whose entries are of these functions: it is a new one, due at 0; it is put back with the record's
-- parts and memory, and due at its tick; or it is marked as one that has ended.
abbrev pub StandsFor : Plan → (funcs : List ℕ) → List Look → List (Option (List ℕ)) → ProgramRecord → Program → (due : ℕ) → (marked : Bool) → Type 0
StandsFor x funcs looks binds fresh program due marked =
    Follows (world_program x funcs looks binds) [] [] program × (lines_left program ≡ map answer_line_of x.answers.items) × (due ≡ 0) × (marked ≡ false)
StandsFor x funcs looks binds (paused tick parts memory) program due marked = Thaws x parts memory (Ok program) × (due ≡ tick) × (marked ≡ false)
StandsFor x funcs looks binds over program due marked = marked ≡ true

-- Such a program is that of the world which begins as its record has it.
abbrev pub RecordsAreResumed : Type 0
RecordsAreResumed =
    (x : Plan) (funcs : List ℕ) (shows : List Show) (i : ℕ) (binds : List (Option (List ℕ))) (r : ProgramRecord) (program : Program) (due : ℕ) (marked : Bool)
    → set_up (source_of x) x.area (named_entries x) ≡ Ok funcs → BindsAs x binds → StandsFor x funcs (looks_of i shows) binds r program due marked
    → IsResumed (from_record (world_program x funcs (looks_of i shows) binds) r) shows i program due marked
