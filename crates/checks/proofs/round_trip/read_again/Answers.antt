-- What was written spells the module in its written form, so that is what is read.
use Rattle.std.proofs.Common.{◌∙◌, subst}
use Rattle.std.proofs.lemmas.Result.{err_from_is_err_and}
use Rattle.wa_types.specs.Encoding.{Enc}
use Rattle.wa_types.specs.View.{module_of}
use Rattle.wasm_reader.specs.Answers.{IsAccepted, IsRefused}
use Rattle.checks.proofs.RoundTrips.{read_back, told_whole, told_of_written}
use Rattle.checks.proofs.round_trip.read_again.Goals as goal

pub returns-in_err-bytes-clause-refused : goal.returns-in_err-bytes-clause-refused
returns-in_err-bytes-clause-refused c =
    let p = err_from_is_err_and c.from_residual.result c.from_residual.ensures.1 in
    told_of_written (Enc (module_of c.args.module.now)) c.from_residual.result c.in_err-bytes.field-0.0 p.0 (λ len e. (c.in_err-bytes.ensures.too_long len).0 (cc)) p.1 p.2

pub returns-in_err-read-clause-whole : goal.returns-in_err-read-clause-whole
returns-in_err-read-clause-whole c =
    let p = err_from_is_err_and c.from_residual-in_err-read.result c.from_residual-in_err-read.ensures.1 in
    told_whole (module_of c.args.module.now) c.deref.result.now c.from_residual-in_err-read.result c.in_err-read.field-0.0 p.0 c.requires.well_formed c.requires.locals (c.deref.ensures
    ∙ c.in_ok-bytes.ensures.ok) c.in_ok-bytes.ensures.short
    (subst (λ b. IsRefused b c.deref.result.now c.in_err-read.field-0.0) c.prepared.ensures c.in_err-read.ensures.refused) p.1 p.2

pub returns-clause-same : goal.returns-clause-same
returns-clause-same c =
    read_back (module_of c.args.module.now) (module_of c.in_ok-read.field-0) c.deref.result.now c.requires.well_formed c.requires.locals (c.deref.ensures
    ∙ c.in_ok-bytes.ensures.ok) c.in_ok-bytes.ensures.short
    (subst (λ b. IsAccepted b c.deref.result.now (module_of c.in_ok-read.field-0)) c.prepared.ensures c.in_ok-read.ensures.ok)
