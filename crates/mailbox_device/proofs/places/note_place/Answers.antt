use Rattle.std.proofs.Common.{sym, ◌∙◌}
use Rattle.mailbox_device.proofs.NotedPlaces.{there_already, put_there}
use Rattle.mailbox_device.proofs.places.note_place.Goals as goal

pub returns-then-contains_key : goal.returns-then-contains_key
returns-then-contains_key c = λ names tells at. there_already c.args.places.now names c.args.name.now tells (sym c.contains_key.ensures ∙ c.if-contains_key.true)

pub returns : goal.returns
returns c = λ names tells at.
    put_there c.args.places.now c.insert.new.self c.in_ok-name.name c.args.place names c.args.name.now c.in_ok-name.ensures.ok tells at
    (sym c.contains_key.ensures ∙ c.if-contains_key.false) c.in_ok-insert.ensures.updates
