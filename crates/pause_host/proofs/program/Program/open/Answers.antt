use Rattle.std.proofs.Common.{sym, ap, ◌∙◌, subst}
use Rattle.wa_types.specs.View.{module_of}
use Rattle.wa_model.specs.Instantiation.{opening}
use Rattle.interp_state.specs.Faults.{FailsAs}
use Rattle.pause_host.proofs.program.Program.open.Goals as goal

pub returns-in-Ok-clause-next : goal.returns-in-Ok-clause-next
returns-in-Ok-clause-next g c = λ w notes os f.
    let p = module_of c.args.self.now.valid.now in
    c.opened.ensures.next w notes os c.in-Ok.ensures.code (ap (opening p) (sym c.deref.ensures.value) ∙ c.in-Ok.ensures.store) f

pub returns-in-Err-clause-next : goal.returns-in-Err-clause-next
returns-in-Err-clause-next g c = λ w notes os f.
    let p = module_of c.args.self.now.valid.now in
    c.not_opened.ensures.next w notes os _ _ _ (subst (λ g. FailsAs (opening p g) c.in-Err.fault) c.deref.ensures.value c.in-Err.ensures.err) f

pub opened-requires-clause-code : goal.opened-requires-clause-code
opened-requires-clause-code g c = c.in-Ok.ensures.code

pub opened-requires-clause-store : goal.opened-requires-clause-store
opened-requires-clause-store g c = ap (opening (module_of c.args.self.now.valid.now)) (sym c.deref.ensures.value) ∙ c.in-Ok.ensures.store

pub opened-requires-clause-goes : goal.opened-requires-clause-goes
opened-requires-clause-goes g c = c.requires
