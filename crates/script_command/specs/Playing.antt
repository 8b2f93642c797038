-- What a script plays: its programs, each over a module that is taken as it is or over an original that is rewritten first.
use Rattle.std.specs.Prelude.{◌≡◌, ◌⊎◌, ℕ, List, ◌∷◌, ◌++◌, length, map, All, Option, Some, None, Bool, true, false, if◌then◌else◌, Ok, Err}
use Rattle.std.specs.Option.{option_map}
use Rattle.vault_port.specs.Files.{Files}
use Rattle.wa_types.specs.Pausing.{Choice, Policy, Settings, save_all, save_live}
use Rattle.wa_types.specs.Syntax.{Module}
use Rattle.script_model.specs.Command.{choice_said}
use Rattle.wa_model.specs.declared.answers.Detach.{Detach}
use Rattle.script_model.specs.Script.{DetachText, ProgramText, Script, breaks}
use Rattle.script_model.specs.Transcript.{Refusal, script}
use Rattle.script_setup.specs.Prepared.{IsPrepared, IsUnprepared}
use Rattle.script_setup.specs.Scripts.{IsScript, IsNoScript}
use Rattle.wasm_reader.specs.Held.{Holds}
use Rattle.transform_command.specs.Running.{RunsAs}
use Rattle.transform_command.specs.Manners.{plainly}
use Rattle.transform_command.specs.SourceRefusals.{IsRefusedUnwritten}
use Rattle.script_setup.specs.SetUpRules.{box_names, set_up_rules}
use Rattle.world_hosting.specs.Worlds.{Part}
use Rattle.script_command.specs.declared.way.Way.{Way}
use Rattle.script_command.specs.declared.way.Way.TheVariants.{Host, Run}

-- ---- the script

-- the file holds this script
pub record HasScript (files : Option Files) (name : List ℕ) (whole : Script) : Type 0 where
  pub bytes : List ℕ
  pub holds : Holds files name bytes
  pub script : IsScript bytes whole

-- ---- a program's module

-- frames save all locals, or with `save live` those that are live
abbrev pub policy_for : (live : Bool) → Policy
policy_for live = if live then save_live else save_all

-- The settings by which an original is rewritten to be run: those of its LIST are listed, or none where imports are ignored, or
-- each; calls through the table are never ignored, and frames save what the program's lines say.
abbrev pub settings_for : ProgramText → Option Settings
settings_for t = option_map (λ (c : Choice). record { choice = c; ignore_indirect = false; policy = policy_for t.policy_live }) (choice_said t.list t.ignore_imports)

-- it is said which imports are listed
abbrev pub HasChoice : ProgramText → Type 0
HasChoice t = (c : Choice) × (choice_said t.list t.ignore_imports ≡ Some c)

-- the module is the original that these bytes spell, rewritten, and these of its function imports are listed
abbrev pub RunsFor : ProgramText → List ℕ → List Bool → Module → Type 0
RunsFor t bytes listed p = (s : Settings) × (settings_for t ≡ Some s) × RunsAs s bytes listed p

-- the bytes are no original that can be rewritten, for this
abbrev pub IsBadOriginal : ProgramText → List ℕ → Refusal → Type 0
IsBadOriginal t bytes r = (s : Settings) × (settings_for t ≡ Some s) × IsRefusedUnwritten (plainly s) bytes r

-- the program's module: as its file spells it, and then no list is told; or the original of its file, rewritten
abbrev pub IsModule : Way → Option Files → ProgramText → Module → Option (List Bool) → Type 0
IsModule Host files t p listed = (bytes : List ℕ) × Holds files t.path bytes × IsPrepared bytes p × (listed ≡ None)
IsModule Run files t p listed = (bytes : List ℕ) × (l : List Bool) × Holds files t.path bytes × RunsFor t bytes l p × (listed ≡ Some l)

-- its file is refused for this
abbrev pub IsBadModule : Way → Option Files → ProgramText → Refusal → Type 0
IsBadModule Host files t r = (bytes : List ℕ) × Holds files t.path bytes × IsUnprepared bytes r
IsBadModule Run files t r = (bytes : List ℕ) × Holds files t.path bytes × IsBadOriginal t bytes r

-- ---- what is played

-- the names of a script's mailboxes
abbrev pub boxes_in : Script → List (List ℕ)
boxes_in s = box_names s.mailboxes

-- `run` alone asks that no memory is shown that overlaps an area
abbrev pub asks_all : Way → Bool
asks_all Host = false
asks_all Run = true

-- A program of a script with mailboxes of these names, set up over its module.
pub record IsStage (way : Way) (boxes : List (List ℕ)) (files : Option Files) (x : Part) : Type 0 where
  pub module_is : IsModule way files x.text x.source x.listed
  pub set_up : set_up_rules (asks_all way) boxes x.source x.text ≡ Ok x.given

-- the programs of these texts, in order, each set up over its module
pub record AreStages (way : Way) (boxes : List (List ℕ)) (files : Option Files) (texts : List ProgramText) (parts : List Part) : Type 0 where
  pub texts_are : map (λ (x : Part). x.text) parts ≡ texts
  pub each : All (IsStage way boxes files) parts

-- A script, and its programs, all set up.
pub record Play (way : Way) (files : Option Files) (name : List ℕ) : Type 0 where
  pub whole : Script
  pub of_script : HasScript files name whole
  pub parts : List Part
  pub stages : AreStages way (boxes_in whole) files whole.programs parts

-- a device that is taken out
abbrev pub detach_for : DetachText → Detach
detach_for d = record { device = d.device; before = d.before }

-- the devices that a script takes out
abbrev pub detaches_in : Script → List Detach
detaches_in s = map detach_for s.detaches

-- ---- why nothing is played

-- One of these programs has this number and text, and those before it are set up.
pub record IsReached (way : Way) (boxes : List (List ℕ)) (files : Option Files) (texts : List ProgramText) (number : ℕ) (t : ProgramText) : Type 0 where
  pub before : List ProgramText
  pub behind : List ProgramText
  pub parted : texts ≡ before ++ t ∷ behind
  pub number_is : number ≡ length before
  pub parts : List Part
  pub stages : AreStages way boxes files before parts

-- It is one of the script's.
pub record Reaches (way : Way) (files : Option Files) (name : List ℕ) (number : ℕ) (t : ProgramText) : Type 0 where
  pub whole : Script
  pub of_script : HasScript files name whole
  pub reached : IsReached way (boxes_in whole) files whole.programs number t

-- the script is refused; the module of a program of this number is; or a line of a program breaks a set-up rule
pub data Cause : Type 0 where
  bad_script : (refusal : Refusal) → Cause
  bad_module : (number : ℕ) → (refusal : Refusal) → Cause
  bad_line : (line rule : ℕ) → Cause

-- what is told of a cause
abbrev pub refusal_of_cause : Cause → Refusal
refusal_of_cause (bad_script r) = r
refusal_of_cause (bad_module number r) = r
refusal_of_cause (bad_line line rule) = script line rule

-- a line of the program's text breaks a rule over its module
abbrev pub BreaksRule : Way → (boxes : List (List ℕ)) → Option Files → ProgramText → (line rule : ℕ) → Type 0
BreaksRule way boxes files t line rule = (p : Module) × (listed : Option (List Bool)) × IsModule way files t p listed × (set_up_rules (asks_all way) boxes p t ≡ Err (breaks line rule))

-- Each stands behind those before it.
abbrev pub IsRefused : Way → Option Files → (name : List ℕ) → Cause → Type 0
IsRefused way files name (bad_script r) = (bytes : List ℕ) × Holds files name bytes × IsNoScript bytes r
IsRefused way files name (bad_module number r) = (t : ProgramText) × Reaches way files name number t × IsBadModule way files t r
IsRefused way files name (bad_line line rule) = (number : ℕ) × (t : ProgramText) × (r : Reaches way files name number t) × BreaksRule way (boxes_in r.whole) files t line rule

-- a file that is read: the script, or the module of a program that is reached
abbrev pub IsRead : Way → Option Files → (name : List ℕ) → (read : List ℕ) → Type 0
IsRead way files name read = (read ≡ name) ⊎ ((number : ℕ) × (t : ProgramText) × Reaches way files name number t × (read ≡ t.path))
