use Rattle.wa_types.specs.View.{module_of}
use Rattle.script_reader.specs.Views.{program_of}
use Rattle.script_setup.proofs.Told.{blames_on}
use Rattle.script_setup.proofs.setting.set_up_program.Goals as goal

pub returns-in-Err-clause-made : goal.returns-in-Err-clause-made
returns-in-Err-clause-made c = blames_on c.args.runs _ (module_of c.args.valid.now) (program_of c.args.text.now) c.in-Err.fault _ c.in-Err.ensures
