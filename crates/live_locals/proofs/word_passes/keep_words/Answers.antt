use Rattle.std.proofs.Common.{inr, refl}
use Rattle.live_locals.proofs.word_passes.keep_words.Goals as goal

pub returns-in_ok-copied : goal.returns-in_ok-copied
returns-in_ok-copied c = inr (c.in_ok-copied.field-0, c.in_ok-copied.ensures, refl)
