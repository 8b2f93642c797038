use Rattle.std.proofs.Common.{arith}
use Rattle.file_laws.proofs.FileWriting.{written_spells}
use Rattle.emitted_form.specs.Emitted.{asyncified}
use Rattle.emitted_form.proofs.EmittedFits.{emitted_fits}
use Rattle.emitted_form.proofs.EmittedLength.{emitted_few}
use Rattle.emitted_form.proofs.emitted_bytes.emitted_modules_are_spelled.Goals as goal

pub returns-clause-numbers : goal.returns-clause-numbers
returns-clause-numbers c = λ m s which pieces v slim w strict few. emitted_fits m s which pieces v slim w strict few

pub returns-clause-spelled : goal.returns-clause-spelled
returns-clause-spelled c = λ m s which pieces v slim w strict few l.
    written_spells (asyncified m s which pieces) (emitted_fits m s which pieces v slim w strict few) (emitted_few m s which pieces v slim strict few) (omega (arith, l))
