use Rattle.std.proofs.Common.{eqb-true, sym, ◌∙◌}
use Rattle.script_model.specs.ScriptLines.{hex_bytes}
use Rattle.script_reader.proofs.Sequences.{byte_step, no_byte, one_digit, no_digit}
use Rattle.script_reader.proofs.bytes.hex_bytes.Goals as goal

pub loop-rest-preserved : goal.loop-rest-preserved
loop-rest-preserved c =
    byte_step c.loop-rest.bytes.items c.put_byte.new.bytes.items c.in-Some.byte c.loop-rest.rest.now
    (hex_bytes c.args.digits.now) c.in-len2-up.len_at_least c.in-Some.ensures c.in_ok-put_byte.ensures c.loop-rest.invariant

pub returns-in_default-joined_digits : goal.returns-in_default-joined_digits
returns-in_default-joined_digits c =
    no_byte c.loop-rest.bytes.items c.loop-rest.rest.now (hex_bytes c.args.digits.now) c.in-len2-up.len_at_least
    (sym c.in_default-joined_digits.is ∙ c.joined_digits.ensures) c.loop-rest.invariant

pub returns-then-not-is_empty : goal.returns-then-not-is_empty
returns-then-not-is_empty c =
    one_digit c.loop-rest.bytes.items c.loop-rest.rest.now (hex_bytes c.args.digits.now) c.in_default.len_below (sym c.is_empty.ensures ∙ c.if-not-is_empty.true) c.loop-rest.invariant

pub returns : goal.returns
returns c = no_digit c.loop-rest.bytes.items c.loop-rest.rest.now (hex_bytes c.args.digits.now) (eqb-true _ 0 (sym c.is_empty.ensures ∙ c.if-not-is_empty.false)) c.loop-rest.invariant
