use Rattle.std.proofs.Common.{subst}
use Rattle.std.specs.Prelude.{OnErr, OnOk}
use Rattle.vault_port.specs.Taken.{Appends, AppendsLess}
use Rattle.vault_port.specs.Told.{Becomes}
use Rattle.script_model.specs.Transcript.{Names, event_line}
use Rattle.wa_model.specs.View.{line_of}
use Rattle.transcript.proofs.LineTexts.{own_names}
use Rattle.transcript.proofs.lines.put_line.Goals as goal

pub returns-clause-printed : goal.returns-clause-printed
returns-clause-printed g c =
    subst (λ (n : Names). OnOk c.put_own_line.result (Becomes (g.S.Sink.taken c.args.out.now) (g.S.Sink.taken c.put_own_line.new.out) (Appends (event_line n (line_of c.args.line.now)))))
    (own_names c.args.names.now c.args.line.now.program c.in-Some.own.now c.in-Some.ensures.lookup.0 c.in-Some.ensures.lookup.1) c.put_own_line.ensures.printed

pub returns-clause-less : goal.returns-clause-less
returns-clause-less g c =
    subst (λ (n : Names). OnErr c.put_own_line.result (Becomes (g.S.Sink.taken c.args.out.now) (g.S.Sink.taken c.put_own_line.new.out) (AppendsLess (event_line n (line_of c.args.line.now)))))
    (own_names c.args.names.now c.args.line.now.program c.in-Some.own.now c.in-Some.ensures.lookup.0 c.in-Some.ensures.lookup.1) c.put_own_line.ensures.less
