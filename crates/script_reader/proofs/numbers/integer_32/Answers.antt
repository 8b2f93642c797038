use Rattle.std.proofs.Common.{arith, ◌∙◌, None}
use Rattle.std.proofs.lemmas.Str.Pattern.{strip_prefix_char}
use Rattle.script_reader.proofs.Numerals.{unsigned_is}
use Rattle.script_reader.proofs.numbers.integer_32.Goals as goal

pub returns-in-None : goal.returns-in-None
returns-in-None c = c.u32_in.ensures ∙ unsigned_is 32 c.args.digits.now (strip_prefix_char 45 c.args.digits.now None c.in-None.ensures.cases (omega arith))
