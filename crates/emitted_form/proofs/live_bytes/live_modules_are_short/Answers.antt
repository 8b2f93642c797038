use Rattle.emitted_form.proofs.LiveLength.{few_law, short_law}
use Rattle.emitted_form.proofs.live_bytes.live_modules_are_short.Goals as goal

pub returns-clause-locals : goal.returns-clause-locals
returns-clause-locals c = few_law

pub returns-clause-bytes : goal.returns-clause-bytes
returns-clause-bytes c = short_law
