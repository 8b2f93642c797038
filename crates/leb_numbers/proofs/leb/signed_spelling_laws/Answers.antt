use Rattle.leb_numbers.proofs.SignedReads.{again, one_form, takes}
use Rattle.leb_numbers.proofs.SignedSpelling.{shortest_signed_spells, shortest_signed_least}
use Rattle.leb_numbers.proofs.leb.signed_spelling_laws.Goals as goal

pub returns : goal.returns
returns c = record {
  read_is_spelled = takes;
  spelled_is_read = again;
  one_form = one_form;
  shortest_spells = shortest_signed_spells;
  none_is_shorter = shortest_signed_least;
}
