use Rattle.std.proofs.Common.{sym, ◌∙◌}
use Rattle.std.proofs.lemmas.Bool.{ne_eqb}
use Rattle.script_reader.proofs.Texts.{unescaped, all_read, byte_read, cut_read, none_read, plain_read}
use Rattle.script_reader.proofs.words.unescape.Goals as goal

pub returns-in_default-joined_digits : goal.returns-in_default-joined_digits
returns-in_default-joined_digits c =
    none_read c.loop-rest.text.items c.loop-rest.rest.now (unescaped c.args.word.now) c.in-len1-up.len_at_least c.if-first-ne37.false c.in-len2-up.len_at_least
    (sym c.in_default-joined_digits.is ∙ c.joined_digits.ensures) c.loop-rest.invariant

pub loop-rest-preserved : goal.loop-rest-preserved
loop-rest-preserved c =
    byte_read c.loop-rest.text.items c.put_byte-in-len1-up.new.bytes.items c.in-Some.byte c.loop-rest.rest.now (unescaped c.args.word.now) c.in-len1-up.len_at_least c.if-first-ne37.false
    c.in-len2-up.len_at_least c.in-Some.ensures c.in_ok-put_byte-2.ensures c.loop-rest.invariant

pub loop-rest-preserved-then-first-ne37 : goal.loop-rest-preserved-then-first-ne37
loop-rest-preserved-then-first-ne37 c =
    plain_read c.loop-rest.text.items c.put_byte.new.bytes.items c.loop-rest.rest.now (unescaped c.args.word.now) c.in-len1-up.len_at_least (ne_eqb _ _ c.if-first-ne37.true)
    c.in_ok-put_byte.ensures c.loop-rest.invariant

pub returns-in_default-behind : goal.returns-in_default-behind
returns-in_default-behind c =
    cut_read c.loop-rest.text.items c.loop-rest.rest.now (unescaped c.args.word.now) c.in-len1-up.len_at_least c.if-first-ne37.false
    c.in_default-behind.len_below c.loop-rest.invariant

pub returns : goal.returns
returns c = all_read c.loop-rest.text.items c.loop-rest.rest.now (unescaped c.args.word.now) c.in_default.len_below c.loop-rest.invariant
