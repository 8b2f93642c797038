use Rattle.std.proofs.Common.{ap, sym, map, ◌∙◌}
use Rattle.wa_types.specs.Validity.{is_constant}
use Rattle.validate_bodies.specs.Spaces.{global_type_of}
use Rattle.wasm_validate.proofs.ExpressionLemmas.{no_single, single_other, single_get}
use Rattle.wasm_validate.proofs.outside.is_constant.Goals as goal

pub returns-then-body-ne1 : goal.returns-then-body-ne1
returns-then-body-ne1 c = let o = no_single c.args.body.now c.if-body-ne1.true in sym (o.constant (map global_type_of c.args.globals.now) c.args.ty)

pub returns-in-GlobalGet : goal.returns-in-GlobalGet
returns-in-GlobalGet c =
    c.is_constant_of.ensures ∙ sym (ap (is_constant (map global_type_of c.args.globals.now) c.args.ty)
    (single_get c.args.body.now c.index-body-0.result _ c.if-body-ne1.false c.index-body-0.is c.in-GlobalGet.is))

pub returns-in_default : goal.returns-in_default
returns-in_default c =
    let o = single_other c.args.body.now c.index-body-0.result c.if-body-ne1.false c.index-body-0.is c.in_default.not-Const c.in_default.not-GlobalGet in
    sym (o.constant (map global_type_of c.args.globals.now) c.args.ty)
