use Rattle.std.proofs.Common.{◌≡◌, None, map, sym, subst}
use Rattle.wa_types.specs.declared.syntax.Module.{Module as ModuleValue}
use Rattle.wa_types.specs.Modules.{all_globals, all_tables}
use Rattle.wa_types.specs.View.{module_of}
use Rattle.wa_model.specs.Instantiation.{elem_piece, first_out, least_of}
use Rattle.run_theory.specs.Fitting.{types_of, global_types, StoreFits}
use Rattle.interp_state.specs.Making.{restored_store}
use Rattle.interp.specs.Host.{code_in, store_in}
use Rattle.interp.proofs.FittingTurns.{both_ok}
use Rattle.interp.proofs.RestoreLemmas.{restorable_whole, restored_fits}
use Rattle.interp_state.proofs.RoomLemmas.{all_few}
use Rattle.interp.proofs.instance.Instance.restore.Goals as goal

pub restored-requires-clause-few : goal.restored-requires-clause-few
restored-requires-clause-few c = all_few (module_of c.module.result.now) c.module.result.now.funcs.items c.module.ensures.sizes.each_func

pub restored-requires-clause-elems : goal.restored-requires-clause-elems
restored-requires-clause-elems c =
    let globals = c.args.globals.now in
    subst (λ (v : ModuleValue). first_out (least_of (all_tables (module_of v))) 0 (map (elem_piece globals) (module_of v).elems) ≡ None) (sym c.module.ensures.same) c.requires.elems

pub restored-requires-clause-memory : goal.restored-requires-clause-memory
restored-requires-clause-memory c = restorable_whole (module_of c.args.valid.now) c.args.memory.now c.requires.memory

pub returns-clause-fits : goal.returns-clause-fits
returns-clause-fits c =
    let m = module_of c.module.result.now in
    let globals = c.args.globals.now in
    let memory = c.args.memory.now in
    let typed = subst (λ (v : ModuleValue). types_of globals ≡ global_types (all_globals (module_of v))) (sym c.module.ensures.same) c.requires.globals in
    both_ok c.restored.result (λ i. code_in i ≡ m) (λ i. store_in i ≡ restored_store m globals memory) (λ i. StoreFits (code_in i) (store_in i))
    (λ i is_code is_store. subst (λ n. StoreFits n (store_in i)) (sym is_code) (subst (StoreFits m) (sym is_store) (restored_fits m globals memory c.module.ensures.valid typed)))
    c.restored.ensures.code c.restored.ensures.store
