use Rattle.std.proofs.Common.{◌∷◌, ◌++◌, [], ap, ◌∙◌}
use Rattle.script_reader.proofs.DeclaredNames.{one_more}
use Rattle.script_reader.proofs.mailboxes.Mailboxes.put.Goals as goal

-- src/mailboxes.rt:50:5
pub invariant_of-self-2 : goal.invariant_of-self-2
invariant_of-self-2 c =
    one_more c.self.inside.names c.insert.new.self c.self.inside.texts.items c.push_reserved.new.self.items c.args.mailbox c.in_ok-name.name c.self.invariant
    (c.in_ok-name.ensures.ok ∙ c.as_str.ensures) c.in_ok-insert.ensures.updates
    (c.push_reserved.ensures.items ∙ ap (λ xs. xs ++ c.args.mailbox ∷ []) c.in_ok-reserve.ensures.items)
