use Rattle.live_locals.proofs.LevelLemmas.{left_none, left_some}
use Rattle.live_locals.proofs.levels.left.Goals as goal

pub returns-then-word-eq0 : goal.returns-then-word-eq0
returns-then-word-eq0 c = λ i il. left_none c.args.word c.args.own i c.ranges.own.fits c.if-word-eq0.true il

pub returns-else-word-eq0 : goal.returns-else-word-eq0
returns-else-word-eq0 c = λ i il. left_some c.args.word c.args.own i c.if-word-eq0.false
