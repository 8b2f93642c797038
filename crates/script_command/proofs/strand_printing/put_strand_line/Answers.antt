use Rattle.std.proofs.Common.{ap, length, map, subst, List, ◌∙◌}
use Rattle.std.proofs.lemmas.Bool.{lt-ltb}
use Rattle.std.specs.Prelude.{OnErr, OnOk}
use Rattle.vault_port.specs.Taken.{Appends, AppendsLess}
use Rattle.vault_port.specs.Told.{Becomes}
use Rattle.script_model.specs.Transcript.{Names, names_at}
use Rattle.transcript.specs.Printing.{names_of}
use Rattle.transcript.specs.StrandLines.{strand_event_line}
use Rattle.strand_host.specs.StrandCalls.{strand_line_of}
use Rattle.script_command.specs.StrandTranscripts.{program_line}
use Rattle.script_command.proofs.StrandTexts.{no_place, own_long, program_within, strands_named}
use Rattle.script_command.proofs.strand_printing.put_strand_line.Goals as goal

pub returns-clause-printed : goal.returns-clause-printed
returns-clause-printed g c =
    subst (λ (ns : List Names). OnOk c.put_line_by.result (Becomes (g.S.Sink.taken c.args.out.now) (g.S.Sink.taken c.put_line_by.new.out)
    (Appends (strand_event_line (names_at ns c.args.line.strand) (program_line (strand_line_of c.args.line)) c.args.line.strand))))
    (ap (map names_of) c.deref.ensures.value ∙ strands_named c.args.names.now c.args.line.program c.in-Some.own.now c.in-Some.ensures.lookup.0 c.in-Some.ensures.lookup.1) c.put_line_by.ensures.printed

pub returns-clause-less : goal.returns-clause-less
returns-clause-less g c =
    subst (λ (ns : List Names). OnErr c.put_line_by.result (Becomes (g.S.Sink.taken c.args.out.now) (g.S.Sink.taken c.put_line_by.new.out)
    (AppendsLess (strand_event_line (names_at ns c.args.line.strand) (program_line (strand_line_of c.args.line)) c.args.line.strand))))
    (ap (map names_of) c.deref.ensures.value ∙ strands_named c.args.names.now c.args.line.program c.in-Some.own.now c.in-Some.ensures.lookup.0 c.in-Some.ensures.lookup.1) c.put_line_by.ensures.less

pub put_line_by-requires : goal.put_line_by-requires
put_line_by-requires g c =
    own_long c.args.names.now c.args.line.program c.args.line.strand c.in-Some.own.now c.in-Some.ensures.lookup.0 c.in-Some.ensures.lookup.1 c.requires _ c.deref.ensures.value

pub unreachable-requires : goal.unreachable-requires
unreachable-requires g c =
    no_place (c.in-None.ensures.lookup.0 ∙ lt-ltb c.args.line.program (length c.args.names.now) (program_within c.args.names.now c.args.line.program c.args.line.strand c.requires))
