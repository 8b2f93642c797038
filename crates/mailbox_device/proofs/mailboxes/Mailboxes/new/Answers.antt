use Rattle.std.proofs.Common.{sym, ◌∙◌}
use Rattle.std.proofs.lemmas.List.{length-map}
use Rattle.mailbox_device.specs.Mail.{Box, names_of}
use Rattle.mailbox_device.proofs.NotedPlaces.{one_more_made, one_more_noted}
use Rattle.mailbox_device.proofs.Orderly.{all_made}
use Rattle.mailbox_device.proofs.mailboxes.Mailboxes.new.Goals as goal

pub loop-name-preserved : goal.loop-name-preserved
loop-name-preserved c = (
  one_more_made c.loop-name.boxes.items c.push.new.self.items c.new.result c.in-Some.name c.loop-name.name-iterator.rest.items c.next.new.self.rest.items c.args.names.items
      c.in_ok-push.ensures.items c.new.ensures c.in-Some.ensures.steps.0 c.loop-name.invariant.0,
  one_more_noted c.note_place.new.places c.loop-name.boxes.items c.push.new.self.items c.new.result c.in-Some.name c.as_str.result.now
      (c.in_ok-note_place.ensures (names_of c.loop-name.boxes.items) c.loop-name.invariant.1
      (c.len-in-loop-name.ensures ∙ c.loop-name.boxes.ok.0 ∙ sym (length-map c.loop-name.boxes.items (λ (b : Box). b.name))))
      c.in_ok-push.ensures.items c.new.ensures c.as_str.ensures,
)

pub returns-clause-orderly : goal.returns-clause-orderly
returns-clause-orderly c =
    all_made _ c.args.names.items c.loop-name.name-iterator.rest.items (sym c.loop-name.name-iterator.rest.ok.0 ∙ c.in-None.ensures.steps.0) c.loop-name.invariant.0

pub invariant_of-result : goal.invariant_of-result
invariant_of-result c = record {
  found = c.loop-name.invariant.1;
  orderly = all_made _ c.args.names.items c.loop-name.name-iterator.rest.items (sym c.loop-name.name-iterator.rest.ok.0 ∙ c.in-None.ensures.steps.0) c.loop-name.invariant.0;
}
