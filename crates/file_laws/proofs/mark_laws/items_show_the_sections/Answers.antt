use Rattle.file_laws.proofs.Judged.{judged}
use Rattle.file_laws.proofs.mark_laws.items_show_the_sections.Goals as goal

pub returns : goal.returns
returns c = judged
