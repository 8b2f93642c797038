use Rattle.std.proofs.Common.{sym, subst, arith}
use Rattle.wa_types.specs.Begun.{a_signed}
use Rattle.wasm_grammar.specs.Items.{FrontIs}
use Rattle.wasm_grammar.proofs.ItemFronts.{signed_whole, signed_unread}
use Rattle.wasm_grammar.proofs.items.signed32.Goals as goal

pub returns-in-Ok : goal.returns-in-Ok
returns-in-Ok c = signed_whole 32 c.args.bytes.now _ 0 c.read_s32.new.at (λ i. omega (arith, c.type_inv.bytes i)) (sym c.in-Ok.ensures.exact)

pub returns-in-Err : goal.returns-in-Err
returns-in-Err c = subst (FrontIs (a_signed 32) c.args.bytes.now) (sym c.unread.ensures) (signed_unread 32 c.args.bytes.now c.read_s32.new.at c.in-Err.fault (sym c.in-Err.ensures.exact))
