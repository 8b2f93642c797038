-- A program over its module, once it keeps the set-up rules.
use Rattle.std.proofs.Common.{Err, refl, subst, sym}
use Rattle.wa_types.specs.View.{module_of}
use Rattle.script_reader.specs.Views.{program_of}
use Rattle.script_setup.specs.SetUpRules.{set_up_rules}
use Rattle.script_model.specs.Script.{breaks}
use Rattle.script_setup.specs.Views.{Blames}
use Rattle.script_setup.specs.declared.fault.RuleFault.{RuleFault}
use Rattle.script_command.specs.Playing.{asks_all}
use Rattle.script_command.specs.Views.{BlamesLine, box_names_of}
use Rattle.script_command.proofs.Openings.{plans_next, memory_blamed, rules_asked}
use Rattle.script_command.proofs.programs.plan_program.Goals as goal

pub set_up_program-requires : goal.set_up_program-requires
set_up_program-requires c = c.requires.fits.all

pub returns-in-Ok-clause-opened : goal.returns-in-Ok-clause-opened
returns-in-Ok-clause-opened c = λ files is.
    plans_next c.args.way (box_names_of c.args.mailboxes.now) files c.args.loaded c.args.text c.in-Ok.given c.asks_all.result c.asks_all.ensures c.requires.fits c.requires.listing is c.in-Ok.ensures.made c.in-Ok.ensures.entries
    c.args.programs.now c.put_program.new.programs c.put_program.result c.put_program.ensures.modules c.put_program.ensures.planned

pub returns-in-Ok-clause-refused : goal.returns-in-Ok-clause-refused
returns-in-Ok-clause-refused c = memory_blamed (set_up_rules _ (box_names_of c.args.mailboxes.now) (module_of c.args.loaded.valid) (program_of c.args.text)) c.put_program.result c.put_program.ensures.memory

pub returns-clause-refused : goal.returns-clause-refused
returns-clause-refused c =
    let broken = subst (λ (f : RuleFault). Blames f (set_up_rules c.asks_all.result (box_names_of c.args.mailboxes.now) (module_of c.args.loaded.valid) (program_of c.args.text))) c.in-Err-Rule.field-0-is c.in-Err-Rule.ensures.made in
    subst (BlamesLine (set_up_rules (asks_all c.args.way) (box_names_of c.args.mailboxes.now) (module_of c.args.loaded.valid) (program_of c.args.text))) (sym c.refused.ensures)
    (c.in-Err-Rule.line, c.in-Err-Rule.rule, rules_asked c.asks_all.result (asks_all c.args.way) (box_names_of c.args.mailboxes.now) (module_of c.args.loaded.valid) (program_of c.args.text) (Err (breaks c.in-Err-Rule.line c.in-Err-Rule.rule)) c.asks_all.ensures broken, (refl, refl))
