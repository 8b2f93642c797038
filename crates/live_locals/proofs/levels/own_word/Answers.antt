use Rattle.live_locals.proofs.LevelLemmas.{own_bits}
use Rattle.live_locals.proofs.levels.own_word.Goals as goal

pub returns-then-level-lt63 : goal.returns-then-level-lt63
returns-then-level-lt63 c = λ i il. own_bits c.args.level _ i c.own_bit.ensures
