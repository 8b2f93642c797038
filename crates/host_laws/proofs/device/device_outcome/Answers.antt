use Rattle.std.proofs.Common.{Err, ap, inr, ◌∙◌, refl}
use Rattle.std.proofs.lemmas.Result.{IfOk-weaker}
use Rattle.device_port.specs.declared.device.DeviceFail.{DeviceFail}
use Rattle.host_laws.specs.Answering.{outcome_of}
use Rattle.host_laws.specs.Supplies.{none_failed, one_failed}
use Rattle.host_laws.proofs.device.device_outcome.Goals as goal

pub returns-in-Ok-clause-counts : goal.returns-in-Ok-clause-counts
returns-in-Ok-clause-counts g c = none_failed (λ e. cc) c.in-Ok.ensures.steady

pub returns-in-Err-clause-counts : goal.returns-in-Err-clause-counts
returns-in-Err-clause-counts g c =
    IfOk-weaker c.failed.result _ _
    (λ met so. one_failed _ c.in-Some.place refl c.in-Some.ensures (ap outcome_of so.0) c.ask.ensures.rising
    (c.ask.ensures.fault (c.in-Err.is ∙ ap (λ (f : DeviceFail). Err f) so.1)))
    c.failed.ensures

pub returns-in-Err-clause-once : goal.returns-in-Err-clause-once
returns-in-Err-clause-once g c = λ e. inr (c.in-Some.place, c.ask.ensures.rising)
