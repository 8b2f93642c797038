use Rattle.image_laws.proofs.ExampleHolds.{hand_written_dont, hand_written_holds}
use Rattle.image_laws.proofs.held_pauses.stores_hold_a_pause.Goals as goal

pub returns-clause-written : goal.returns-clause-written
returns-clause-written c = hand_written_holds

pub returns-clause-others : goal.returns-clause-others
returns-clause-others c = hand_written_dont
