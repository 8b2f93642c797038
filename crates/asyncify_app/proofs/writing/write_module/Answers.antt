use Rattle.std.proofs.Common.{arith}
use Rattle.asyncify_app.proofs.writing.write_module.Goals as goal

pub unreachable-requires : goal.unreachable-requires
unreachable-requires g c =
    let long = (c.in-Err-TooLong.ensures.too_long c.in-Err-TooLong.field-0-0).0 (cc) in omega (arith, long.0, c.requires.short)
