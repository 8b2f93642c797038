use Rattle.mail_laws.proofs.Prepared.{all_told_is_world, told_is_world}
use Rattle.mail_laws.proofs.told_laws.told_turns_are_worlds.Goals as goal

pub returns-clause-played : goal.returns-clause-played
returns-clause-played c = told_is_world

pub returns-clause-whole : goal.returns-clause-whole
returns-clause-whole c = all_told_is_world
