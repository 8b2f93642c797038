use Rattle.emitted_form.proofs.EmittedLength.{emitted_few, emitted_short}
use Rattle.emitted_form.proofs.emitted_bytes.emitted_modules_are_short.Goals as goal

pub returns-clause-locals : goal.returns-clause-locals
returns-clause-locals c = λ m s which pieces v slim strict few. emitted_few m s which pieces v slim strict few

pub returns-clause-bytes : goal.returns-clause-bytes
returns-clause-bytes c = λ m s which pieces v slim strict few n l. emitted_short m s which pieces v slim strict few n l
