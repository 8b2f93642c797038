-- Programs that stand for records go on as the world's.
use Rattle.std.proofs.Common.{◌≡◌, ◌-◌, ℕ, List, [], map, Option, Some, Bool, false, Result, Ok, refl, sym, ap, ◌∙◌, subst}
use Rattle.std.specs.Prelude.{MatchBool, is_none, slice_get}
use Rattle.wa_model.specs.Outside.{Answer}
use Rattle.wa_model.specs.Plan.{Entry}
use Rattle.wa_model.specs.View.{answer_line_of}
use Rattle.world_model.specs.World as W
use Rattle.world_model.specs.World.{Halt, Look, answers_from, due_from, gone}
use Rattle.event_order.specs.Looks.{looks_of}
use Rattle.host_setup.specs.SetUp.{Fault, set_up}
use Rattle.many_host.specs.Turns.{is_gone}
use Rattle.pause_host.specs.declared.plan.Plan.{Plan}
use Rattle.pause_host.specs.declared.program.Program.{Program}
use Rattle.pause_host.specs.Programs.{BindsAs, Follows, lines_left, named_entries, source_of, world_program}
use Rattle.pause_host.specs.Settings.{calls_of}
use Rattle.pause_host.specs.Thawing.{PartsSuit, halt_of, halted_program}
use Rattle.snapshot_store.specs.Snapshots.{PausedParts, ProgramRecord, fresh, over, paused}
use Rattle.world_laws.specs.Snapshots.{answer_in, from_record, halt_at, table_made}
use Rattle.world_hosting.specs.Continued.{GoesOn}
use Rattle.world_hosting.specs.Resuming.{RecordsAreResumed, StandsFor}

-- what is asked of a program that isn't marked
abbrev Goes : W.Program → Program → (due : ℕ) → Type 0
Goes w program due = (is_gone w ≡ false) × Follows w [] [] program × (lines_left program ≡ answers_from w.answers w.origin) × (due ≡ due_from w.origin)

unmarked : (w : W.Program) (program : Program) (due : ℕ) (marked : Bool) → marked ≡ false → Goes w program due → GoesOn w program due marked
unmarked w program due marked is goes = subst (λ (b : Bool). MatchBool b (w.origin ≡ gone) (Goes w program due)) (sym is) goes

-- a pause by its answer and its table
abbrev halt_with : (due : ℕ) → PausedParts → (memory : List ℕ) → Answer → List (Option ℕ) → Halt
halt_with due parts memory answer table = record {
  due = due;
  used = parts.steps_used;
  taken = parts.answers;
  entry = parts.entry;
  import = parts.import;
  answer = answer;
  store = record { globals = parts.globals; memory = memory; table = table };
}

-- the pause of a plan's parts is that of the record
halt_is : (x : Plan) (parts : PausedParts) (memory : List ℕ) (suits : PartsSuit x parts) (due : ℕ) (funcs : List ℕ) (looks : List Look) (binds : List (Option (List ℕ)))
    → halt_of x parts memory suits due ≡ halt_at (world_program x funcs looks binds) due parts memory
halt_is x parts memory suits due funcs looks binds =
    let last = suits.answer in
    let globals = suits.globals in
    let opened = globals.opened in
    ap (λ (a : Answer). halt_with due parts memory a opened.table) (sym (ap answer_in last.there))
    ∙ ap (halt_with due parts memory (answer_in (slice_get (map answer_line_of x.answers.items) (parts.answers - 1)))) (sym (ap table_made globals.is_opened))

none_is : (o : Option Entry) (e : Entry) → o ≡ Some e → is_none o ≡ false
none_is o e h = ap is_none h

-- a program that stands for a record goes on as the world's
pub goes_on : (x : Plan) (funcs : List ℕ) (looks : List Look) (binds : List (Option (List ℕ))) (r : ProgramRecord) (program : Program) (due : ℕ) (marked : Bool)
    → set_up (source_of x) x.area (named_entries x) ≡ Ok funcs → BindsAs x binds → StandsFor x funcs looks binds r program due marked
    → GoesOn (from_record (world_program x funcs looks binds) r) program due marked
goes_on x funcs looks binds fresh program due marked set bound h =
    unmarked (from_record (world_program x funcs looks binds) fresh) program due marked h.3 (refl, h.0, h.1, h.2)
goes_on x funcs looks binds (paused tick parts memory) program due marked set bound h =
    let suits = h.0.0 in
    let stands = h.0.1 in
    let same : stands.funcs ≡ funcs = one_funcs stands.funcs funcs (sym stands.is_set_up ∙ set) in
    let goes : Follows (halted_program x (halt_of x parts memory suits tick) stands.funcs looks binds) [] [] program = h.0.2 tick looks binds bound in
    let follows : Follows (halted_program x (halt_at (world_program x funcs looks binds) tick parts memory) funcs looks binds) [] [] program =
    subst (λ (z : Halt). Follows (halted_program x z funcs looks binds) [] [] program) (halt_is x parts memory suits tick funcs looks binds)
    (subst (λ (fs : List ℕ). Follows (halted_program x (halt_of x parts memory suits tick) fs looks binds) [] [] program) same goes) in
    let entry : slice_get (calls_of (named_entries x) funcs) parts.entry ≡ Some stands.entry =
    subst (λ (fs : List ℕ). slice_get (calls_of (named_entries x) fs) parts.entry ≡ Some stands.entry) same stands.entry_is in
    unmarked (from_record (world_program x funcs looks binds) (paused tick parts memory)) program due marked h.2
    (none_is (slice_get (calls_of (named_entries x) funcs) parts.entry) stands.entry entry, follows, stands.lines, h.1)
  where
    one_funcs : (a b : List ℕ) → ◌≡◌ {A = Result (List ℕ) Fault} (Ok a) (Ok b) → a ≡ b
    one_funcs a b e = cc
goes_on x funcs looks binds over program due marked set bound h =
    subst (λ (b : Bool). MatchBool b (gone ≡ gone) (Goes (from_record (world_program x funcs looks binds) over) program due)) (sym h) refl

pub records_are_resumed : RecordsAreResumed
records_are_resumed x funcs shows i binds r program due marked set bound h = (refl, goes_on x funcs (looks_of i shows) binds r program due marked set bound h)
