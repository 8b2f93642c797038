use Rattle.std.proofs.Common.{◌≡◌, IfErr, sym, subst}
use Rattle.wa_types.specs.Modules.{imported, imported_global}
use Rattle.wa_types.specs.View.{module_of}
use Rattle.wa_model.specs.Instantiation.{opening, opens}
use Rattle.run_theory.specs.Fitting.{types_of, global_types, StoreFits}
use Rattle.run_theory.proofs.FittingOpenings.{openings_fit}
use Rattle.interp_state.specs.Faults.{FailsAs}
use Rattle.interp.specs.Host.{code_in, store_in}
use Rattle.interp.proofs.FittingTurns.{both_ok}
use Rattle.interp_state.proofs.RoomLemmas.{all_few}
use Rattle.interp.proofs.instance.Instance.make.Goals as goal

pub returns-clause-err : goal.returns-clause-err
returns-clause-err c =
    subst (λ m. IfErr c.of.result (FailsAs (opening (module_of m) c.args.globals.now))) c.module.ensures.same c.of.ensures.err

pub of-requires-clause-few : goal.of-requires-clause-few
of-requires-clause-few c = all_few (module_of c.module.result.now) c.module.result.now.funcs.items c.module.ensures.sizes.each_func

pub returns-clause-fits : goal.returns-clause-fits
returns-clause-fits c = λ typed_globals.
    let m = module_of c.module.result.now in
    let globals = c.args.globals.now in
    let typed = subst (λ v. types_of globals ≡ global_types (imported imported_global (module_of v))) (sym c.module.ensures.same) typed_globals in
    both_ok c.of.result (λ i. code_in i ≡ m) (λ i. opening m globals ≡ opens (store_in i)) (λ i. StoreFits (code_in i) (store_in i))
    (λ i is_code is_store. subst (λ n. StoreFits n (store_in i)) (sym is_code) (openings_fit m globals (store_in i) c.module.ensures.valid typed is_store))
    c.of.ensures.code c.of.ensures.store
