use Rattle.std.proofs.Common.{refl, ◌∙◌, arith}
use Rattle.std.proofs.lemmas.Result.{err_from_is_err_and}
use Rattle.wasm_build.proofs.PieceParts.{same_item, body_waits, body_built, body_lost}
use Rattle.wasm_build.proofs.builder.Builder.body.Goals as goal

pub returns-in_default-clause-steps : goal.returns-in_default-clause-steps
returns-in_default-clause-steps c = body_waits c.args.self.now c.args.read c.args.first c.args.bytes.now c.requires c.in_default.ensures.none

pub returns-clause-steps : goal.returns-clause-steps
returns-clause-steps c =
    body_built c.args.self.now _ c.args.read c.args.first c.in-Some.end c.index-sort.result.now c.args.bytes.now _ _
    c.in_ok-locals.field-0 c.push.new.self.items c.requires c.in-Some.ensures.some.2 c.in-Some.ensures.some.1 c.new_at-input.ensures c.in_ok-locals.ensures.built
    (c.index-sort.ensures ∙ same_item c.args.self.now.sections.sorts.items c.args.read _ 0 (let n = c.if-read-len.false in omega (arith, n)))
    c.in_ok-push.ensures.items refl c.behind_body-self.ensures

pub returns-in_err-locals-clause-steps : goal.returns-in_err-locals-clause-steps
returns-in_err-locals-clause-steps c =
    let p = err_from_is_err_and c.from_residual.result c.from_residual.ensures.1 in
    body_lost c.args.self.now _ c.args.read c.args.first c.in-Some.end c.args.bytes.now _ _ _ c.requires
    c.in-Some.ensures.some.2 c.in-Some.ensures.some.1 c.new_at-input.ensures p.1 p.2 c.in_err-locals.ensures.built
