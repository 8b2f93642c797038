-- Scripts as the program has them, as plain data.
use Rattle.std.specs.Prelude.{◌≡◌, ℕ, [], ◌∷◌, ◌++◌, List, Option, Some, None, Result, Ok, Err, map}
use Rattle.std.specs.Option.{option_map}
use Rattle.wa_model.specs.declared.answers.Detach.{Detach}
use Rattle.wa_model.specs.View.{answer_line_of}
use Rattle.script_model.specs.ScriptText.{AreaText}
use Rattle.script_model.specs.Script as T
use Rattle.script_reader.specs.declared.faults.ScriptFault.{ScriptFault}
use Rattle.script_reader.specs.declared.faults.ScriptFault.TheVariants.{Memory, Rule, TooMany}
use Rattle.script_reader.specs.declared.script.GlobalText.{GlobalText}
use Rattle.script_reader.specs.declared.script.BindText.{BindText}
use Rattle.script_reader.specs.declared.script.EntryText.{EntryText}
use Rattle.script_reader.specs.declared.script.ShowText.{ShowText}
use Rattle.script_reader.specs.declared.script.StrandText.{StrandText}
use Rattle.script_reader.specs.declared.script.ProgramText.{ProgramText}
use Rattle.script_reader.specs.declared.script.Script.{Script}
use Rattle.script_reader.specs.declared.drafts.Draft.{Draft}
use Rattle.script_reader.specs.declared.drafts.AreaLine.{AreaLine}
use Rattle.script_reader.specs.declared.reading.Reading.{Reading}
use Rattle.script_reader.specs.Drafts as D
pub use Rattle.script_reader.specs.MailboxNames.{mailbox_of}

-- a line of globals
abbrev pub global_of : GlobalText → T.GlobalText
global_of g = record { line = g.line; name = g.name; value = g.value }

-- a line of a device
abbrev pub bind_of : BindText → T.BindText
bind_of b = record { line = b.line; import = b.import; device = b.device }

-- a line of an entry
abbrev pub entry_of : EntryText → T.EntryText
entry_of e = record { line = e.line; name = e.name; args = e.args.items }

-- a line of shown memory
abbrev pub show_of : ShowText → T.ShowText
show_of s = record { line = s.line; at = s.at; len = s.len }

-- a device that is taken out
abbrev pub detach_of : Detach → T.DetachText
detach_of d = record { device = d.device; before = d.before }

-- a further strand
abbrev pub strand_of : StrandText → T.StrandText
strand_of s = record { line = s.line; area = s.area; entries = map entry_of s.entries.items; answers = map answer_line_of s.answers.items }

-- a program
abbrev pub program_of : ProgramText → T.ProgramText
program_of p = record {
  line = p.line;
  path = p.path;
  list = p.list;
  ignore_imports = p.ignore_imports;
  policy_live = p.policy_live;
  area = p.area;
  area_line = p.area_line;
  steps = p.steps;
  globals = map global_of p.globals.items;
  binds = map bind_of p.binds.items;
  entries = map entry_of p.entries.items;
  answers = map answer_line_of p.answers.items;
  shows = map show_of p.shows.items;
  strands = map strand_of p.strands.items;
}

-- a script
abbrev pub script_of : Script → T.Script
script_of s = record { programs = map program_of s.programs.items; detaches = map detach_of s.detaches.items; mailboxes = map mailbox_of s.mailboxes.items }

-- ---- while lines are read

-- an area with its line
abbrev pub area_of : AreaLine → AreaText
area_of a = record { line = a.line; area = a.area }

-- a program, as far as it is told
abbrev pub draft_of : Draft → D.Draft
draft_of d = record {
  line = d.line;
  path = d.path;
  list = d.list;
  ignore_imports = d.ignore_imports;
  policy_live = d.policy_live;
  area = option_map area_of d.area;
  steps = d.steps;
  globals = map global_of d.globals.items;
  binds = map bind_of d.binds.items;
  entries = map entry_of d.entries.items;
  answers = map answer_line_of d.answers.items;
  shows = map show_of d.shows.items;
  strands = map strand_of d.strands.items;
}

-- the programs, unless one at this line lacks its area
abbrev pub programs_of : Option ℕ → List ProgramText → Result (List T.ProgramText) T.ScriptFault
programs_of None programs = Ok (map program_of programs)
programs_of (Some line) programs = Err (T.breaks line 7)

-- what is known of a script so far
abbrev pub reading_of : Reading → D.Reading
reading_of r = record { programs = programs_of r.missing r.programs.items; count = r.count; current = option_map draft_of r.current; detached = map detach_of r.detaches.items; mailboxes = r.mailboxes }

-- ---- answers

-- The fault says why, or that memory is wanting.
abbrev pub Blames : {Y : Type 0} → ScriptFault → Result Y T.ScriptFault → Type 0
Blames Memory told = Unit {0}
Blames (Rule line rule) told = told ≡ Err (T.breaks line rule)
Blames (TooMany found) told = told ≡ Err (T.too_many found)

-- What was read is what is told, or the fault tells why there is none.
abbrev pub Reads : {X Y : Type 0} → (X → Y) → Result X ScriptFault → Result Y T.ScriptFault → Type 0
Reads view (Ok x) told = told ≡ Ok (view x)
Reads view (Err fault) told = Blames fault told

-- programs and one more, or the fault of the one that lacks its area, whose line this is
abbrev pub finished_as : List T.ProgramText → Result ProgramText ℕ → Result (List T.ProgramText) T.ScriptFault
finished_as programs (Ok p) = Ok (programs ++ program_of p ∷ [])
finished_as programs (Err line) = Err (T.breaks line 7)
