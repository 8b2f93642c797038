use Rattle.std.proofs.Common.{arith, ◌∙◌, map}
use Rattle.wa_types.specs.View.{module_of}
use Rattle.wa_types.specs.Modules.{func_imports}
use Rattle.host_setup.specs.SetUp.{entry_funcs, have_args}
use Rattle.host_setup.specs.Views.{entry_of}
use Rattle.host_setup.proofs.Positions.{same_answer, length_funcs}
use Rattle.host_setup.proofs.entries.with_exports.Goals as goal

pub with_functions-requires-clause-funcs : goal.with_functions-requires-clause-funcs
with_functions-requires-clause-funcs c =
    let same = c.deref-2.ensures.value ∙ c.in_ok-funcs.ensures (module_of c.args.«module».now) c.requires.names in
    omega (arith, length_funcs c.deref-2.result.now (module_of c.args.«module».now) c.args.entries.now same, c.requires.few)

pub returns : goal.returns
returns c =
    let p = module_of c.args.«module».now in
    let es = map entry_of c.args.entries.now in
    same_answer c.with_functions.result c.args.imports (func_imports p) c.deref-2.result.now (entry_funcs p es) c.deref-3.result.now (have_args p es)
    (c.deref-2.ensures.value ∙ c.in_ok-funcs.ensures p c.requires.names) (c.deref-3.ensures.value ∙ c.in_ok-have_args.ensures) c.requires.imports c.with_functions.ensures
