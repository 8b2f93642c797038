use Rattle.file_laws.proofs.FileReads.{spelled_begun, begun_beginning}
use Rattle.file_laws.proofs.spelling_laws.beginnings_are_begun.Goals as goal

pub returns-clause-spelled : goal.returns-clause-spelled
returns-clause-spelled c = spelled_begun

pub returns-clause-beginnings : goal.returns-clause-beginnings
returns-clause-beginnings c = begun_beginning
