-- A snapshot that doesn't suit the programs: of too many events, or of other programs.
use Rattle.std.proofs.Common.{arith}
use Rattle.std.proofs.lemmas.List.{length-map}
use Rattle.snapshot_store.specs.Views.{record_of, snapshot_of}
use Rattle.script_command.proofs.PutBack.{suits_long}
use Rattle.script_command.proofs.resuming.resume_all.Goals as goal

pub returns-then-snapshot-ge-EVENTS_BOUND-clause-unfit : goal.returns-then-snapshot-ge-EVENTS_BOUND-clause-unfit
returns-then-snapshot-ge-EVENTS_BOUND-clause-unfit c = λ e suits.
    let few = suits.events in
    absurd (omega (arith, few, c.if-snapshot-ge-EVENTS_BOUND.true))

pub returns-then-len-clause-unfit : goal.returns-then-len-clause-unfit
returns-then-len-clause-unfit c = λ e suits.
    let many = suits_long c.args.modules.now c.args.planned.items (snapshot_of c.args.snapshot) c.requires.can suits in
    let records = length-map c.args.snapshot.programs.items record_of in
    absurd (c.if-len.true (omega (arith, many, records, c.len.ensures, c.len-2.ensures, c.args.planned.ok.0, c.args.snapshot.programs.ok.0)))
