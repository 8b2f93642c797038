use Rattle.std.proofs.Common.{◌∙◌, sym, ap, not}
use Rattle.wa_types.specs.Modules.{imported_func}
use Rattle.wa_types.specs.View.{module_of}
use Rattle.script_setup.specs.SetUpRules.{is_unfit}
use Rattle.script_setup.proofs.Misbound.{unfit_put}
use Rattle.script_setup.proofs.mail.put_unfit.Goals as goal

pub returns-in_ok-insert-in-Func : goal.returns-in_ok-insert-in-Func
returns-in_ok-insert-in-Func c =
    unfit_put (module_of c.args.«module».now) c.args.names.now c.insert.new.self c.args.import.now c.in_ok-joined-in-Func.joined
    (ap (λ k. is_unfit (module_of c.args.«module».now) (imported_func k)) c.in-Func.is ∙ ap not (sym c.is_mail_sort.ensures ∙ c.if-is_mail_sort.false))
    c.in_ok-joined-in-Func.ensures c.in_ok-insert-in-Func.ensures.updates
