use Rattle.std.proofs.Common.{rules}
use Rattle.wa_ops.proofs.BitCounts.{iclz_is, ictz_is, ipopcnt_is}
use Rattle.wa_ops.proofs.unary.Goals as goal

pub returns-in-I32Clz-I32 : goal.returns-in-I32Clz-I32
returns-in-I32Clz-I32 c = search (rules, iclz_is)

pub returns-in-I32Ctz-I32 : goal.returns-in-I32Ctz-I32
returns-in-I32Ctz-I32 c = search (rules, ictz_is)

pub returns-in-I32Popcnt-I32 : goal.returns-in-I32Popcnt-I32
returns-in-I32Popcnt-I32 c = search (rules, ipopcnt_is)

pub returns-in-I64Clz-I64 : goal.returns-in-I64Clz-I64
returns-in-I64Clz-I64 c = search (rules, iclz_is)

pub returns-in-I64Ctz-I64 : goal.returns-in-I64Ctz-I64
returns-in-I64Ctz-I64 c = search (rules, ictz_is)

pub returns-in-I64Popcnt-I64 : goal.returns-in-I64Popcnt-I64
returns-in-I64Popcnt-I64 c = search (rules, ipopcnt_is)
