use Rattle.std.proofs.Common.{sym, subst, arith}
use Rattle.wa_types.specs.Begun.{an_unsigned}
use Rattle.wasm_grammar.specs.Items.{FrontIs}
use Rattle.wasm_grammar.proofs.ItemFronts.{unsigned_whole, unsigned_unread}
use Rattle.wasm_grammar.proofs.items.unsigned.Goals as goal

pub returns-in-Ok : goal.returns-in-Ok
returns-in-Ok c = unsigned_whole c.args.bytes.now c.in-Ok.value c.read_u32.new.at (λ i. omega (arith, c.type_inv.bytes i)) (sym c.in-Ok.ensures.exact)

pub returns-in-Err : goal.returns-in-Err
returns-in-Err c = subst (FrontIs an_unsigned c.args.bytes.now) (sym c.unread.ensures) (unsigned_unread c.args.bytes.now c.read_u32.new.at c.in-Err.fault (sym c.in-Err.ensures.exact))
