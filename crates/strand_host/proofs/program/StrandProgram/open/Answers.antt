use Rattle.std.proofs.Common.{sym, ap, ◌∙◌, subst}
use Rattle.wa_types.specs.Modules.{imported, imported_global}
use Rattle.wa_types.specs.View.{module_of}
use Rattle.wa_model.specs.Instantiation.{opening}
use Rattle.run_theory.specs.Fitting.{StoreFits, global_types, types_of}
use Rattle.interp.specs.Host.{store_in}
use Rattle.interp_state.specs.Faults.{FailsAs}
use Rattle.strand_host.specs.StrandPrograms.{stock_of}
use Rattle.strand_host.proofs.program.StrandProgram.open.Goals as goal

pub returns-in-Ok-clause-next : goal.returns-in-Ok-clause-next
returns-in-Ok-clause-next g c = λ gw t at.
    let x = stock_of c.args.self.now in
    let p = module_of c.args.self.now.valid.now in
    let i = c.in-Ok.instance in
    c.opened.ensures.next gw t (record {
      fresh = at;
      code = c.in-Ok.ensures.code;
      store = ap (opening p) (sym c.deref.ensures.value) ∙ c.in-Ok.ensures.store;
      fits = subst (λ m. StoreFits m (store_in i)) (c.in-Ok.ensures.code ∙ sym at.is.source)
          (c.in-Ok.ensures.fits (ap types_of c.deref.ensures.value ∙ at.is.globals_fit ∙ ap (λ m. global_types (imported imported_global m)) at.is.source));
    })

pub returns-in-Err-clause-next : goal.returns-in-Err-clause-next
returns-in-Err-clause-next g c = λ gw t at.
    let p = module_of c.args.self.now.valid.now in
    c.not_opened.ensures.next gw t _ _ (subst (λ gs. FailsAs (opening p gs) c.in-Err.fault) c.deref.ensures.value c.in-Err.ensures.err) at

pub opened-requires-clause-goes : goal.opened-requires-clause-goes
opened-requires-clause-goes g c =
    let h = c.requires.goes in
    let at = h.2 in
    let p = module_of c.args.self.now.valid.now in
    let i = c.in-Ok.instance in (
      h.0,
      h.1,
      record {
        fresh = at;
        code = c.in-Ok.ensures.code;
        store = ap (opening p) (sym c.deref.ensures.value) ∙ c.in-Ok.ensures.store;
        fits = subst (λ m. StoreFits m (store_in i)) (c.in-Ok.ensures.code ∙ sym at.is.source)
            (c.in-Ok.ensures.fits (ap types_of c.deref.ensures.value ∙ at.is.globals_fit ∙ ap (λ m. global_types (imported imported_global m)) at.is.source));
      },
    )
