use Rattle.mail_laws.proofs.Played.{next_event, played_is_whole}
use Rattle.mail_laws.proofs.PlayedParts.{no_event_yet, whole_is_played}
use Rattle.mail_laws.proofs.event_laws.runs_with_mail_are_played.Goals as goal

pub returns-clause-first : goal.returns-clause-first
returns-clause-first c = no_event_yet

pub returns-clause-next : goal.returns-clause-next
returns-clause-next c = next_event

pub returns-clause-whole : goal.returns-clause-whole
returns-clause-whole c = played_is_whole

pub returns-clause-played : goal.returns-clause-played
returns-clause-played c = whole_is_played
