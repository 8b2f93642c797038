use Rattle.many_host.proofs.WorldBegun.{begun_begins, told_begins, told_whole}
use Rattle.many_host.proofs.told_notes.told_notes_are_of_a_world.Goals as goal

pub returns-clause-turns : goal.returns-clause-turns
returns-clause-turns c = told_begins

pub returns-clause-begun : goal.returns-clause-begun
returns-clause-begun c = begun_begins

pub returns-clause-whole : goal.returns-clause-whole
returns-clause-whole c = told_whole
