use Rattle.guard_form.proofs.Counting.{numbers_law}
use Rattle.guard_form.proofs.PlacesOfCalls.{places_count, places_law}
use Rattle.guard_form.proofs.written_form.numbers_are_places.Goals as goal

pub returns-clause-places : goal.returns-clause-places
returns-clause-places c = numbers_law

pub returns-clause-numbered : goal.returns-clause-numbered
returns-clause-numbered c = places_law

pub returns-clause-counted : goal.returns-clause-counted
returns-clause-counted c = places_count
