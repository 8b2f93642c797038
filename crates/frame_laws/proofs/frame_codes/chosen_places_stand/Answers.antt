use Rattle.frame_laws.proofs.ChosenPlaces.{chosen_law}
use Rattle.frame_laws.proofs.frame_codes.chosen_places_stand.Goals as goal

pub returns : goal.returns
returns c = chosen_law
