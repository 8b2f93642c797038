use Rattle.image_laws.proofs.ExampleBack.{hand_written_comes_back}
use Rattle.image_laws.proofs.held_pauses.hand_written_store_comes_back.Goals as goal

pub returns : goal.returns
returns c = hand_written_comes_back
