-- The programs of a script without `device`, `mailbox` and `strand` lines are bound to no device, wherever they go on from.
use Rattle.std.proofs.Common.{◌≡◌, ◌++◌, ℕ, List, [], ◌∷◌, Option, Some, None, refl, ap, ◌∙◌}
use Rattle.std.specs.Prelude.{All, slice_get}
use Rattle.std.specs.List.{flat_map}
use Rattle.std.specs.Option.{option_map}
use Rattle.std.proofs.lemmas.List.Elements.{All-cons, All-head, All-nil, All-tail}
use Rattle.vault_port.specs.Files.{Files}
use Rattle.world_model.specs.World.{Program}
use Rattle.script_model.specs.Script.{BindText, ProgramText, Script, device_line, lesser_line, mailbox_line, strand_line, unsaved_line}
use Rattle.snapshot_store.specs.Snapshots.{ProgramRecord}
use Rattle.world_laws.specs.AloneLines.{Unbound}
use Rattle.world_laws.specs.Snapshots.{from_record, from_records}
use Rattle.world_hosting.specs.Worlds.{Part, world_program, world_programs}
use Rattle.world_hosting.proofs.Alone.{unbound_without_lines}
use Rattle.script_command.specs.PlainScripts.{Play}
use Rattle.script_command.specs.SnapshotTelling.{programs_of}
use Rattle.script_command.proofs.GoingOver.{texts_of}

-- the lines of these texts
abbrev lines_in : List ProgramText → List BindText
lines_in ts = flat_map (λ (t : ProgramText). t.binds) ts

-- where the first stands
abbrev first_line : List ProgramText → Option ℕ
first_line ts = option_map (λ (b : BindText). b.line) (slice_get (lines_in ts) 0)

-- no line is first
none_first : (bs cs : List BindText) → option_map (λ (b : BindText). b.line) (slice_get (bs ++ cs) 0) ≡ None → (bs ≡ []) × (option_map (λ (b : BindText). b.line) (slice_get cs 0) ≡ None)
none_first [] cs e = (refl, e)
none_first (b ∷ bs) cs e = cc

all_unbound : (xs : List Part) → first_line (texts_of xs) ≡ None → All Unbound (world_programs xs)
all_unbound [] e = All-nil Unbound
all_unbound (x ∷ xs) e =
    let first = none_first x.text.binds (lines_in (texts_of xs)) e in
    All-cons Unbound (world_program x) (world_programs xs) (unbound_without_lines x first.0) (all_unbound xs first.1)

-- none of two lines is told
neither : (a b : Option ℕ) → lesser_line a b ≡ None → a ≡ None
neither None b e = refl
neither (Some a) None e = cc
neither (Some a) (Some b) e = cc

no_devices : (whole : Script) → unsaved_line whole ≡ None → device_line whole ≡ None
no_devices whole e = neither (device_line whole) (lesser_line (mailbox_line whole) (strand_line whole)) e

-- from their start on
pub unbound_programs : (files : Option Files) (name : List ℕ) (play : Play files name) → All Unbound (programs_of play)
unbound_programs files name play = all_unbound play.run.parts (ap first_line play.run.stages.texts_are ∙ no_devices play.run.whole play.none)

still_unbound : (ws : List Program) (rs : List ProgramRecord) → All Unbound ws → All Unbound (from_records ws rs)
still_unbound [] rs h = All-nil Unbound
still_unbound (w ∷ ws) [] h = All-nil Unbound
still_unbound (w ∷ ws) (r ∷ rs) h =
    All-cons Unbound (from_record w r) (from_records ws rs) (All-head Unbound w ws h) (still_unbound ws rs (All-tail Unbound w ws h))

-- and from their records
pub unbound_from : (whole : Script) (xs : List Part) (rs : List ProgramRecord) → unsaved_line whole ≡ None → texts_of xs ≡ whole.programs → All Unbound (from_records (world_programs xs) rs)
unbound_from whole xs rs none texts = still_unbound (world_programs xs) rs (all_unbound xs (ap first_line texts ∙ no_devices whole none))
