use Rattle.leb_numbers.proofs.UnsignedReads.{again, one_form, takes}
use Rattle.leb_numbers.proofs.UnsignedSpelling.{shortest_spells, shortest_least}
use Rattle.leb_numbers.proofs.leb.unsigned_spelling_laws.Goals as goal

pub returns : goal.returns
returns c = record {
  read_is_spelled = takes;
  spelled_is_read = again;
  one_form = one_form;
  shortest_spells = shortest_spells;
  none_is_shorter = shortest_least;
}
