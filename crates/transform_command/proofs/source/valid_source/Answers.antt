-- What was read, free of reserved names and valid is a source; else it is refused for a name, or for its first fault.
use Rattle.std.proofs.Common.{◌∙◌, sym, refl}
use Rattle.std.proofs.lemmas.Result.{IfErr-weaker, IfOk-weaker}
use Rattle.wa_types.specs.View.{module_of}
use Rattle.module_files.specs.Faults.{IsInvalid}
use Rattle.module_files.proofs.Told.{fault_so}
use Rattle.transform_command.specs.Sources.{reserved}
use Rattle.transform_command.specs.SourceRefusals.{IsRefusedUnwritten}
use Rattle.transform_command.proofs.Accepted.{invalid_refused, made_source}
use Rattle.transform_command.proofs.source.valid_source.Goals as goal

pub returns-clause-source : goal.returns-clause-source
returns-clause-source c = λ bytes read.
    IfOk-weaker c.valid_module.result _ _ (λ valid is. made_source bytes c.args.«module» valid is.0 read (sym c.reserved.ensures ∙ c.in_default.is) is.1) c.valid_module.ensures.valid

pub returns-clause-refused : goal.returns-clause-refused
returns-clause-refused c = λ bytes read.
    IfErr-weaker c.valid_module.result _ _
    (λ fault why how.
    fault_so (IsInvalid (module_of c.args.«module»)) (IsRefusedUnwritten how bytes) fault
    (invalid_refused how bytes (module_of c.args.«module») (record { read = read; free = sym c.reserved.ensures ∙ c.in_default.is })) why)
    c.valid_module.ensures.refused

pub returns-in-Some-clause-refused : goal.returns-in-Some-clause-refused
returns-in-Some-clause-refused c = λ bytes read how.
    (reserved c.in_ok-name.name, (module_of c.args.«module», c.in-Some.at, read, sym c.reserved.ensures ∙ c.in-Some.is, c.in_ok-name.ensures), tt, refl)
