use Rattle.std.proofs.Common.{List, sym, ◌∙◌, subst}
use Rattle.std.specs.Prelude.{IsSome}
use Rattle.std.proofs.lemmas.Option.{same_Some, slice_get_within}
use Rattle.mailbox_device.specs.declared.mailbox.Settled.{Settled}
use Rattle.pause_host.specs.Programs.{parked_in}
use Rattle.many_host.specs.MailStanding.{AreParked, HaveGot}
use Rattle.many_host.specs.declared.hosted.Hosted.{Hosted}
use Rattle.many_host.proofs.TurnPlaces.{stands_at}
use Rattle.many_host.proofs.mail_turns.Turns+Hosted.+settle_sent.Goals as goal

pub returns-clause-got : goal.returns-clause-got
returns-clause-got t c =
    let xs = c.args.self.now.programs.items in
    let s : Settled = record { program = c.in-Some.program; value = c.in-Some.value } in
    let parked = subst (λ (ss : List Settled). AreParked ss xs) c.in-Some.ensures.first c.requires.parked in
    let within = slice_get_within xs c.in-Some.program parked.0 parked.1 in
    let x = c.index_mut.result.now in
    let there = stands_at xs c.in-Some.program x within c.index_mut.ensures.value in
    let same = same_Some parked.0 x (sym parked.1 ∙ there) in
    subst (λ (ss : List Settled). HaveGot ss xs c.settle_sent.new.self.programs.items) (sym c.in-Some.ensures.first) (
      x,
      record { program = c.settle.new.self },
      there,
      record {
        parked = subst (λ (v : Hosted). IsSome (parked_in v.program)) same parked.2;
        follows = c.settle.ensures.follows;
        awake = c.settle.ensures.awake.0;
        memory_is = c.settle.ensures.kept.0;
        lines = c.settle.ensures.kept.1;
      },
      c.settle_sent.ensures.got,
    )
