use Rattle.std.proofs.Common.{sym, ◌∙◌}
use Rattle.script_setup.specs.Tables.{types_in}
use Rattle.script_setup.proofs.Told.{bad_global_found}
use Rattle.script_setup.proofs.globals.bad_global.Goals as goal

pub returns : goal.returns
returns c = sym (c.unlawful-place.ensures ∙ bad_global_found c.args.imports.now (types_in c.in_ok-types.types) c.args.globals.now c.in_ok-types.ensures)
