use Rattle.std.proofs.Common.{arith, ◌∙◌, None}
use Rattle.std.proofs.lemmas.Str.Pattern.{strip_prefix_char}
use Rattle.script_reader.proofs.Numerals.{unsigned_is}
use Rattle.script_reader.proofs.numbers.integer_64.Goals as goal

pub returns-in-None : goal.returns-in-None
returns-in-None c = c.number_within-in-None.ensures ∙ unsigned_is 64 c.args.digits.now (strip_prefix_char 45 c.args.digits.now None c.in-None.ensures.cases (omega arith))
