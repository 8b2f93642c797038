-- Set-ups and their faults as the program has them.
use Rattle.std.specs.Prelude.{◌≡◌, ℕ, List, map, Result, Ok, Err, slice_get}
use Rattle.std.specs.Option.{option_map, unwrap_or}
use Rattle.wa_model.specs.declared.answers.Area.{Area}
use Rattle.script_model.specs.ScriptText.{AreaText}
use Rattle.script_model.specs.Script as T
use Rattle.host_setup.specs.declared.faults.SetupFault.{SetupFault}
use Rattle.host_setup.specs.declared.faults.SetupFault.TheVariants as S
use Rattle.script_reader.specs.declared.script.StrandText.{StrandText}
use Rattle.script_setup.specs.declared.areas.AreaText.{AreaText as AreaValue}
use Rattle.script_setup.specs.declared.fault.RuleFault.{RuleFault}
use Rattle.script_setup.specs.declared.fault.RuleFault.TheVariants.{Memory, Rule}
use Rattle.script_setup.specs.declared.setting.Broken.{Broken}
use Rattle.script_setup.specs.declared.setting.SetUp.{SetUp as SetUpValue}
use Rattle.script_setup.specs.SetUpRules.{SetUp, entry_line}

-- what a program is given
abbrev pub set_up_of : SetUpValue → SetUp
set_up_of s = record { funcs = s.funcs.items; globals = s.globals.items }

-- an area with its line
abbrev pub area_text_of : AreaValue → AreaText
area_text_of a = record { line = a.line; area = a.area }

-- the areas of strands
abbrev pub earlier_areas : List StrandText → List Area
earlier_areas ss = map (λ (s : StrandText). s.area) ss

-- the line of the entry at this place of these
abbrev pub line_among : List T.EntryText → ℕ → ℕ
line_among es i = unwrap_or (option_map (λ (e : T.EntryText). e.line) (slice_get es i)) 0

-- a line and the rule that it breaks
abbrev pub broken_of : Broken → T.ScriptFault
broken_of b = T.breaks b.line b.rule

-- The fault says why, or that memory is wanting.
abbrev pub Blames : {Y : Type 0} → RuleFault → Result Y T.ScriptFault → Type 0
Blames Memory told = Unit {0}
Blames (Rule line rule) told = told ≡ Err (T.breaks line rule)

-- What was made is what is told, or the fault tells why there is none.
abbrev pub Reads : {X Y : Type 0} → (X → Y) → Result X RuleFault → Result Y T.ScriptFault → Type 0
Reads view (Ok x) told = told ≡ Ok (view x)
Reads view (Err fault) told = Blames fault told

-- what is answered for a fault of the module's set-up, of which this area was asked
abbrev pub rule_fault : (asked : AreaText) → T.ProgramText → SetupFault → RuleFault
rule_fault asked t S.Memory = Memory
rule_fault asked t S.AreaBad = Rule asked.line 9
rule_fault asked t (S.NoExports name) = Rule t.line 10
rule_fault asked t (S.EntryMissing entry) = Rule (entry_line t entry) 11
rule_fault asked t (S.EntryIsImport entry) = Rule (entry_line t entry) 12
rule_fault asked t (S.ArgTypes entry) = Rule (entry_line t entry) 13
