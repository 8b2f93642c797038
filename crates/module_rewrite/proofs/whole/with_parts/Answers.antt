use Rattle.std.proofs.Common.{ap, ◌∙◌, sym, subst}
use Rattle.wa_types.specs.Sizes.{SizeRule}
use Rattle.wa_types.specs.Validity.{Valid}
use Rattle.wa_types.specs.View.{module_of}
use Rattle.module_rewrite.proofs.whole.with_parts.Goals as goal

pub proved-requires-clause-valid : goal.proved-requires-clause-valid
proved-requires-clause-valid c = subst Valid (sym c.in-Ok.ensures.added) c.requires.valid

pub proved-requires-clause-sizes : goal.proved-requires-clause-sizes
proved-requires-clause-sizes c = subst SizeRule (sym c.in-Ok.ensures.added) c.requires.sizes

pub unreachable-requires : goal.unreachable-requires
unreachable-requires c =
    let w = (c.in-Err-Reserved.ensures.reserved c.in-Err-Reserved.field-0-0).0 (cc) in
    absurd (let bad = sym c.requires.free ∙ w in cc)
