use Rattle.guard_runs.proofs.Meets as M
use Rattle.guard_runs.proofs.small_module.small_module_pauses.Goals as goal

pub returns-clause-paired : goal.returns-clause-paired
returns-clause-paired c = M.paired

pub returns-clause-begins : goal.returns-clause-begins
returns-clause-begins c = M.begins

pub returns-clause-runtime : goal.returns-clause-runtime
returns-clause-runtime c = M.runtime

pub returns-clause-ready : goal.returns-clause-ready
returns-clause-ready c = M.ready

pub returns-clause-fits : goal.returns-clause-fits
returns-clause-fits c = M.fits

pub returns-clause-pauses : goal.returns-clause-pauses
returns-clause-pauses c = M.pauses

pub returns-clause-answers : goal.returns-clause-answers
returns-clause-answers c = M.answers
