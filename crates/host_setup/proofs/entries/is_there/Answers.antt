use Rattle.std.proofs.Common.{◌∙◌, ap}
use Rattle.wa_types.specs.View.{module_of}
use Rattle.host_setup.specs.SetUp.{is_defined_as}
use Rattle.host_setup.proofs.entries.is_there.Goals as goal

pub returns : goal.returns
returns c =
    c.is_defined_as.ensures
    ∙ ap (is_defined_as (module_of c.args.«module».now) (record { params = c.args.ty.params.now; results = c.args.ty.results.now }))
    (c.func_named-func.ensures (module_of c.args.«module».now) c.requires.names)
