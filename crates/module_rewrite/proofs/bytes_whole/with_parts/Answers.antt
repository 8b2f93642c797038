use Rattle.std.proofs.Common.{◌∙◌, sym}
use Rattle.module_rewrite.proofs.bytes_whole.with_parts.Goals as goal

pub unreachable-requires : goal.unreachable-requires
unreachable-requires c =
    let w = (c.in-Err-Reserved.ensures.reserved c.in-Err-Reserved.field-0-0).0 (cc) in
    absurd (let bad = sym c.requires.free ∙ w in cc)
