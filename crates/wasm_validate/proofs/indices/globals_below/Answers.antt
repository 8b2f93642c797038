use Rattle.std.proofs.Common.{sym, ◌∙◌}
use Rattle.wa_types.specs.declared.syntax.Space.TheVariants.{Global}
use Rattle.wa_types.specs.Validity.{all_below}
use Rattle.wasm_validate.specs.Outside.{exported_in}
use Rattle.wasm_validate.proofs.OutsideLemmas.{in_globals, in_elems, in_segments, expressions_below, four_second, four_third, four_fourth}
use Rattle.wasm_validate.proofs.indices.globals_below.Goals as goal

pub returns-then-not-all_get_below : goal.returns-then-not-all_get_below
returns-then-not-all_get_below c =
    four_second (all_below c.args.limit (exported_in Global c.args.exports.now)) (in_globals c.args.limit c.args.globals.now c.args.elems.now c.args.segments.now)
    (in_elems c.args.limit c.args.globals.now c.args.elems.now c.args.segments.now)
    (in_segments c.args.limit c.args.globals.now c.args.elems.now c.args.segments.now) c.if-not-exported_below.ensures c.if-not-all_get_below.ensures
    ∙ sym (expressions_below c.args.limit c.args.globals.now c.args.elems.now c.args.segments.now (exported_in Global c.args.exports.now))

pub returns-then-not-all_get_below-2 : goal.returns-then-not-all_get_below-2
returns-then-not-all_get_below-2 c =
    four_third (all_below c.args.limit (exported_in Global c.args.exports.now)) (in_globals c.args.limit c.args.globals.now c.args.elems.now c.args.segments.now)
    (in_elems c.args.limit c.args.globals.now c.args.elems.now c.args.segments.now)
    (in_segments c.args.limit c.args.globals.now c.args.elems.now c.args.segments.now) c.if-not-exported_below.ensures c.if-not-all_get_below.ensures c.if-not-all_get_below-2.ensures
    ∙ sym (expressions_below c.args.limit c.args.globals.now c.args.elems.now c.args.segments.now (exported_in Global c.args.exports.now))

pub returns : goal.returns
returns c =
    four_fourth (all_below c.args.limit (exported_in Global c.args.exports.now)) (in_globals c.args.limit c.args.globals.now c.args.elems.now c.args.segments.now)
    (in_elems c.args.limit c.args.globals.now c.args.elems.now c.args.segments.now)
    (in_segments c.args.limit c.args.globals.now c.args.elems.now c.args.segments.now) _ c.if-not-exported_below.ensures c.if-not-all_get_below.ensures c.if-not-all_get_below-2.ensures
    c.all_get_below-3.ensures
    ∙ sym (expressions_below c.args.limit c.args.globals.now c.args.elems.now c.args.segments.now (exported_in Global c.args.exports.now))
