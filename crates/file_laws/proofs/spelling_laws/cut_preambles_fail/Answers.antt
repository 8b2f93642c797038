use Rattle.file_laws.proofs.CutPreambles.{empty_spelled, cut_fails}
use Rattle.file_laws.proofs.spelling_laws.cut_preambles_fail.Goals as goal

pub returns-clause-whole : goal.returns-clause-whole
returns-clause-whole c = empty_spelled

pub returns-clause-cut : goal.returns-clause-cut
returns-clause-cut c = cut_fails
