use Rattle.std.proofs.Common.{◌∙◌, sym}
use Rattle.live_locals.proofs.WordLemmas.{bit_max}
use Rattle.live_locals.proofs.levels.everywhere.Goals as goal

pub returns-then-told : goal.returns-then-told
returns-then-told c = λ i il. bit_max i il ∙ sym c.if-told.true
