-- What is accepted has few locals, and is written in few bytes.
use Rattle.std.proofs.Common.{subst, arith}
use Rattle.std.proofs.lemmas.Result.{err_from_is_err_and}
use Rattle.wa_types.specs.View.{module_of}
use Rattle.wasm_reader.specs.Answers.{IsAccepted}
use Rattle.checks.proofs.RoundTrips.{few_locals, few_bytes, rewritten, told_of_source}
use Rattle.checks.proofs.round_trip.rewrite.Goals as goal

pub encode-requires-clause-locals : goal.encode-requires-clause-locals
encode-requires-clause-locals c =
    few_locals c.args.bytes.now (module_of c.in_ok-module.module) (subst (λ b. IsAccepted b c.args.bytes.now (module_of c.in_ok-module.module)) c.prepared.ensures c.in_ok-module.ensures.ok)

pub returns-in_err-encode-clause-refused : goal.returns-in_err-encode-clause-refused
returns-in_err-encode-clause-refused c =
    let p = err_from_is_err_and c.from_residual-in_err-encode.result c.from_residual-in_err-encode.ensures.1 in
    let few = few_bytes c.args.bytes.now (module_of c.in_ok-module.module) (subst (λ b. IsAccepted b c.args.bytes.now (module_of c.in_ok-module.module)) c.prepared.ensures
    c.in_ok-module.ensures.ok) in
    told_of_source c.args.bytes.now c.from_residual-in_err-encode.result c.in_err-encode.field-0.0 p.0 (λ len e. let w = (c.in_err-encode.ensures.too_long len).0 (cc) in omega (arith, w, few)) p.1 p.2

pub returns-clause-written : goal.returns-clause-written
returns-clause-written c =
    rewritten c.args.bytes.now c.in_ok-encode.field-0.items (module_of c.in_ok-module.module) (λ i. omega (arith, c.type_inv.bytes i))
    (subst (λ b. IsAccepted b c.args.bytes.now (module_of c.in_ok-module.module)) c.prepared.ensures c.in_ok-module.ensures.ok) c.in_ok-encode.ensures.ok
