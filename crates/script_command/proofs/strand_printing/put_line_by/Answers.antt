use Rattle.std.proofs.Common.{subst}
use Rattle.std.specs.Prelude.{OnErr, OnOk}
use Rattle.vault_port.specs.Taken.{Appends, AppendsLess}
use Rattle.vault_port.specs.Told.{Becomes}
use Rattle.script_model.specs.Transcript.{Names}
use Rattle.transcript.specs.StrandLines.{strand_event_line}
use Rattle.transcript.proofs.LineTexts.{own_names}
use Rattle.strand_host.specs.StrandCalls.{strand_line_of}
use Rattle.script_command.specs.StrandTranscripts.{program_line}
use Rattle.script_command.proofs.strand_printing.put_line_by.Goals as goal

pub returns-clause-printed : goal.returns-clause-printed
returns-clause-printed g c =
    subst (λ (n : Names). OnOk c.put_own_line.result (Becomes (g.S.Sink.taken c.args.out.now) (g.S.Sink.taken c.put_own_line.new.out) (Appends (strand_event_line n (program_line (strand_line_of c.args.line)) c.args.line.strand))))
    (own_names c.args.names.now c.args.line.strand c.in-Some.own.now c.in-Some.ensures.lookup.0 c.in-Some.ensures.lookup.1) c.put_own_line.ensures.printed

pub returns-clause-less : goal.returns-clause-less
returns-clause-less g c =
    subst (λ (n : Names). OnErr c.put_own_line.result (Becomes (g.S.Sink.taken c.args.out.now) (g.S.Sink.taken c.put_own_line.new.out) (AppendsLess (strand_event_line n (program_line (strand_line_of c.args.line)) c.args.line.strand))))
    (own_names c.args.names.now c.args.line.strand c.in-Some.own.now c.in-Some.ensures.lookup.0 c.in-Some.ensures.lookup.1) c.put_own_line.ensures.less
