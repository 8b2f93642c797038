use Rattle.wa_types.specs.View.{module_of}
use Rattle.script_reader.specs.Views.{program_of}
use Rattle.script_setup.specs.Views.{set_up_of}
use Rattle.world_hosting.specs.Views.{listing}
use Rattle.world_hosting.specs.Worlds.{part}
use Rattle.world_hosting.proofs.resuming.resume_program.Goals as goal

pub returns-in-Ok : goal.returns-in-Ok
returns-in-Ok c = c.resume_planned.ensures (part (module_of c.args.valid.now) (listing c.args.listed) (program_of c.args.text) (set_up_of c.args.given)) c.in-Ok.ensures
