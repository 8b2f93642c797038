-- What is answered, as plain data.
use Rattle.std.specs.Prelude.{◌≡◌, ◌⊎◌, ◌≤◌, ◌++◌, ℕ, List, [], ◌∷◌, length, map, All, Option, None, Result, Ok, Err}
use Rattle.std.specs.List.{AllZip}
use Rattle.vault_port.specs.Counts.{FailsAtMostOnce}
use Rattle.vault_port.specs.Files.{Files, CannotRead}
use Rattle.wa_types.specs.Modules.{imported, imported_global}
use Rattle.wa_types.specs.Syntax.{Module}
use Rattle.wa_types.specs.View.{module_of}
use Rattle.wa_types.specs.declared.syntax.Module.{Module as ModuleValue}
use Rattle.run_theory.specs.Fitting.{global_types, types_of}
use Rattle.script_model.specs.Script.{ProgramText, ScriptFault, breaks, strand_line}
use Rattle.script_model.specs.Transcript.{read_fault}
use Rattle.transcript.specs.Printing.{refusal_of}
use Rattle.transcript.specs.declared.refusals.Refusal.{Refusal as RefusalValue}
use Rattle.script_setup.specs.Scripts.{IsNoScript}
use Rattle.wasm_reader.specs.Held.{Holds}
use Rattle.module_files.specs.declared.fault.FileFault.{FileFault}
use Rattle.module_files.specs.declared.fault.FileFault.TheVariants as F
use Rattle.script_reader.specs.Views.{mailbox_of, program_of}
use Rattle.script_reader.specs.declared.script.MailboxText.{MailboxText}
use Rattle.host_setup.specs.SetUp.{set_up}
use Rattle.host_setup.specs.Views.{entry_of as named_entry_of}
use Rattle.script_setup.specs.declared.setting.SetUp.{SetUp as SetUpValue}
use Rattle.script_setup.specs.SetUpRules.{SetUp, asked_area, box_names, entries_in, named_entry, overlap_line}
use Rattle.script_setup.specs.Views.{set_up_of}
use Rattle.world_hosting.specs.Worlds.{FitsPlan, IsListing, Part}
use Rattle.world_hosting.specs.Views.{Suits, listing}
use Rattle.script_command.specs.declared.way.Way.{Way}
use Rattle.script_command.specs.declared.modules.Loaded.{Loaded}
use Rattle.script_command.specs.declared.programs.Planned.{Planned}
use Rattle.script_command.specs.declared.programs.Programs.{Programs}
use Rattle.script_command.specs.declared.opening.Opened.{Opened}
use Rattle.script_command.specs.declared.stop.Stop.{Stop}
use Rattle.script_command.specs.declared.stop.Stop.TheVariants.{Memory, Refused, Sink}
use Rattle.script_command.specs.Ends.{program_of_cause}
use Rattle.script_command.specs.Playing.{AreStages, BreaksRule, Cause, IsBadModule, IsModule, IsReached, IsRead, IsRefused, IsStage, Play, bad_line, bad_module, bad_script, detaches_in, refusal_of_cause}

-- a module of a program of this text, which is told of each function import whether it is listed where it is told at all
pub record Loads (way : Way) (files : Option Files) (t : ProgramText) (l : Loaded) : Type 0 where
  pub module_is : IsModule way files t (module_of l.valid) (listing l.listed)
  pub listing : IsListing (module_of l.valid) (listing l.listed)

-- a refusal, for which a program's module is refused
abbrev pub IsBadModuleFor : Way → Option Files → ProgramText → FileFault → Type 0
IsBadModuleFor way files t (F.Refused kind) = IsBadModule way files t (refusal_of kind)
IsBadModuleFor way files t _ = Unit {0}

-- ---- programs

-- the names of mailboxes
abbrev pub box_names_of : List MailboxText → List (List ℕ)
box_names_of mailboxes = box_names (map mailbox_of mailboxes)

-- the part of a script that is planned over a module
abbrev pub part_of : ModuleValue → Planned → Part
part_of v p = record { source = module_of v; listed = listing p.listed; text = program_of p.text; given = set_up_of p.given }

-- the parts of a script, one a module
abbrev pub parts_of : List ModuleValue → List Planned → List Part
parts_of [] ps = []
parts_of (v ∷ vs) [] = []
parts_of (v ∷ vs) (p ∷ ps) = part_of v p ∷ parts_of vs ps

-- What is planned over a module can be staged without further strands: its text fits a plan, each function import is told to be listed or not where that is
-- told at all, and what it is given suits it.
pub record CanStage (v : ModuleValue) (p : Planned) : Type 0 where
  pub fits : FitsPlan (program_of p.text)
  pub listing : IsListing (module_of v) (listing p.listed)
  pub suits : Suits (module_of v) (program_of p.text) p.given

-- What a program is given suits it and all its strands: the functions are those of the entries of all, no two of whose areas share a byte, and the
-- values have the types of its imported globals.
pub record SuitsStrands (p : Module) (t : ProgramText) (x : SetUpValue) : Type 0 where
  pub entries : map named_entry_of x.entries.items ≡ map named_entry (entries_in t)
  pub funcs : set_up p (asked_area p t).area (map named_entry (entries_in t)) ≡ Ok x.funcs.items
  pub apart : overlap_line (t.area ∷ []) t.strands ≡ None
  pub globals : types_of x.globals.items ≡ global_types (imported imported_global p)

-- What is planned over a module can be opened: the same of all its strands.
pub record CanOpen (v : ModuleValue) (p : Planned) : Type 0 where
  pub fits : FitsPlan (program_of p.text)
  pub listing : IsListing (module_of v) (listing p.listed)
  pub suits : SuitsStrands (module_of v) (program_of p.text) p.given

-- it has no further strand
abbrev pub IsAlone : Planned → Type 0
IsAlone p = (program_of p.text).strands ≡ []

-- The programs are those of these texts, each set up over its module.
pub record AreOpened (way : Way) (boxes : List (List ℕ)) (files : Option Files) (texts : List ProgramText) (ps : Programs) : Type 0 where
  pub stages : AreStages way boxes files texts (parts_of ps.modules.items ps.planned.items)
  pub each : AllZip CanOpen ps.modules.items ps.planned.items

-- They are one more, that of this text, set up over its module.
pub record OpensNext (way : Way) (boxes : List (List ℕ)) (files : Option Files) (t : ProgramText) (old new : Programs) : Type 0 where
  pub valid : ModuleValue
  pub planned : Planned
  pub modules_are : new.modules.items ≡ old.modules.items ++ valid ∷ []
  pub planned_are : new.planned.items ≡ old.planned.items ++ planned ∷ []
  pub text_is : program_of planned.text ≡ t
  pub stage : IsStage way boxes files (part_of valid planned)
  pub can : CanOpen valid planned

-- ---- scripts

-- What a script opens: what it plays, the devices that it takes out, its mailboxes, and its first `strand` line.
pub record Opens (way : Way) (files : Option Files) (name : List ℕ) (o : Opened) : Type 0 where
  pub play : Play way files name
  pub parts_are : play.parts ≡ parts_of o.programs.modules.items o.programs.planned.items
  pub detaches_are : detaches_in play.whole ≡ o.detaches.items
  pub mailboxes_are : play.whole.mailboxes ≡ map mailbox_of o.mailboxes.items
  pub strand_is : strand_line play.whole ≡ o.strand

-- .. which is ready: there are few programs, each can be opened over its module, and none has a further strand where no `strand` line is told
pub record IsReady (o : Opened) : Type 0 where
  pub few : length o.programs.planned.items ≤ 16
  pub each : AllZip CanOpen o.programs.modules.items o.programs.planned.items
  pub alone : o.strand ≡ None → All IsAlone o.programs.planned.items

-- .. which can be played without strands: each can be staged over its module
pub record CanPlay (o : Opened) : Type 0 where
  pub few : length o.programs.planned.items ≤ 16
  pub each : AllZip CanStage o.programs.modules.items o.programs.planned.items

-- ---- why nothing is opened

-- the refusal tells that this file couldn't be read
abbrev pub TellsUnread : (name : List ℕ) → RefusalValue → Type 0
TellsUnread name r = (r.program ≡ None) × (refusal_of r.kind ≡ read_fault name)

-- a file of this name couldn't be read
abbrev pub IsUnread : (name : List ℕ) → Stop → Type 0
IsUnread name Memory = Unit {0}
IsUnread name Sink = ⊥
IsUnread name (Refused r) = TellsUnread name r

-- Memory is wanting; what is refused has this; or a file that is read couldn't be. A fetch has failed in the last case alone, also where memory
-- was wanting behind that, and then once.
abbrev pub StopsFor : (RefusalValue → Type 0) → (IsTried : List ℕ → Type 0) → Option Files → (faults faults' : ℕ) → Stop → Type 0
StopsFor R IsTried files faults faults' Memory = FailsAtMostOnce faults faults'
StopsFor R IsTried files faults faults' Sink = ⊥
StopsFor R IsTried files faults faults' (Refused r) =
    (R r × (faults' ≡ faults)) ⊎ ((read : List ℕ) × IsTried read × CannotRead files read faults faults' × TellsUnread read r)

-- the refusal tells a cause, and the program that it names
abbrev pub TellsCause : Cause → RefusalValue → Type 0
TellsCause cause r = (r.program ≡ program_of_cause cause) × (refusal_of r.kind ≡ refusal_of_cause cause)

-- a line breaks a set-up rule, or memory is wanting
abbrev pub BlamesLine : Result SetUp ScriptFault → Stop → Type 0
BlamesLine told Memory = Unit {0}
BlamesLine told Sink = ⊥
BlamesLine told (Refused r) = (line : ℕ) × (rule : ℕ) × (told ≡ Err (breaks line rule)) × TellsCause (bad_line line rule) r

-- a program of this number and text is refused for this
abbrev pub IsRefusedNext : Way → (boxes : List (List ℕ)) → Option Files → (number : ℕ) → ProgramText → Cause → Type 0
IsRefusedNext way boxes files number t (bad_script r) = ⊥
IsRefusedNext way boxes files number t (bad_module n r) = (n ≡ number) × IsBadModule way files t r
IsRefusedNext way boxes files number t (bad_line line rule) = BreaksRule way boxes files t line rule

-- why it isn't set up
abbrev pub BlamesNext : Way → (boxes : List (List ℕ)) → Option Files → (faults faults' number : ℕ) → ProgramText → Stop → Type 0
BlamesNext way boxes files faults faults' number t stop =
    StopsFor (λ r. (cause : Cause) × IsRefusedNext way boxes files number t cause × TellsCause cause r) (λ read. read ≡ t.path) files faults faults' stop

-- .. why the first of these that isn't can't be
abbrev pub BlamesPrograms : Way → (boxes : List (List ℕ)) → Option Files → (faults faults' : ℕ) → List ProgramText → Stop → Type 0
BlamesPrograms way boxes files faults faults' texts stop = (number : ℕ) × (t : ProgramText) × IsReached way boxes files texts number t × BlamesNext way boxes files faults faults' number t stop

-- why there is no script in the file
abbrev pub BlamesScript : Option Files → (faults faults' : ℕ) → (name : List ℕ) → Stop → Type 0
BlamesScript files faults faults' name stop =
    StopsFor (λ r. (bytes : List ℕ) × Holds files name bytes × IsNoScript bytes (refusal_of r.kind) × (r.program ≡ None)) (λ read. read ≡ name) files faults faults' stop

-- why a script isn't opened
abbrev pub Blames : Way → Option Files → (faults faults' : ℕ) → (name : List ℕ) → Stop → Type 0
Blames way files faults faults' name stop =
    StopsFor (λ r. (cause : Cause) × IsRefused way files name cause × TellsCause cause r) (IsRead way files name) files faults faults' stop
