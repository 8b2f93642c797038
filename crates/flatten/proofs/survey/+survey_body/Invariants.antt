use Rattle.std.proofs.Common.{drop, ◌+◌, ◌*◌}
use Rattle.wa_types.specs.Syntax.{done}
use Rattle.wa_types.specs.Sizes.{code_items}
use Rattle.wa_types.specs.View.{code, in_front}
use Rattle.flatten.proofs.SurveyedLemmas.{Went}
use Rattle.flatten.proofs.survey.+survey_body.Given as goal

abbrev pub invariant-survey_body-loop-instr : goal.invariant-survey_body-loop-instr
invariant-survey_body-loop-instr l = Went l.fn.typing l.typing (code l.body) (code (drop l.instr-index l.body)) l.fn.found l.found

abbrev pub decreases-survey_body : goal.decreases-survey_body
decreases-survey_body l = 3 * code_items (code l.body.now) + 2

abbrev pub decreases-survey_instr : goal.decreases-survey_instr
decreases-survey_instr l = 3 * code_items (in_front l.instr.now done) + 1

abbrev pub decreases-survey_nest : goal.decreases-survey_nest
decreases-survey_nest l = 3 * code_items (in_front l.instr.now done)

abbrev pub decreases-survey_arms : goal.decreases-survey_arms
decreases-survey_arms l = 3 * code_items (in_front l.instr.now done)
