-- The parts of a strand's line, joined.
use Rattle.std.proofs.Common.{◌∙◌}
use Rattle.wa_model.specs.View.{line_of}
use Rattle.transcript.specs.Printing.{names_of}
use Rattle.transcript.specs.StrandLines.{strand_event_line}
use Rattle.transcript.proofs.Joined.{four}
use Rattle.transcript.proofs.StrandTexts.{of_program}
use Rattle.transcript.proofs.strands.strand_line.Goals as goal

pub returns-clause-is : goal.returns-clause-is
unfolding strand_event_line
returns-clause-is c = four _ _ _ _ _ _ _ _ _ c.new-text.ensures.items c.in_ok-put_number.ensures c.in_ok-put_teller.ensures c.in_ok-put_event.ensures c.in_ok-put.ensures

pub returns-clause-first : goal.returns-clause-first
returns-clause-first c = λ first. returns-clause-is c ∙ of_program (names_of c.args.names.now) (line_of c.args.line.now.line) c.args.line.now.strand first
