use Rattle.std.proofs.Common.{ap, sym}
use Rattle.wa_types.specs.Validity.{all_below}
use Rattle.wasm_validate.proofs.ExpressionLemmas.{no_single, single_got}
use Rattle.wasm_validate.proofs.indices.gets_below.Goals as goal

pub returns-then-body-ne1 : goal.returns-then-body-ne1
returns-then-body-ne1 c = let o = no_single c.args.body.now c.if-body-ne1.true in sym (ap (all_below c.args.limit) o.got)

pub returns-in_default : goal.returns-in_default
returns-in_default c = sym (ap (all_below c.args.limit) (single_got c.args.body.now c.index-body-0.result c.if-body-ne1.false c.index-body-0.is c.in_default.not-GlobalGet))
