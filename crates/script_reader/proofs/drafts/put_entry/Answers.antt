use Rattle.std.proofs.Common.{refl}
use Rattle.script_reader.specs.declared.script.EntryText.{EntryText}
use Rattle.script_reader.proofs.LastStrands.{entry_put}
use Rattle.script_reader.proofs.drafts.put_entry.Goals as goal

pub returns-in-Some : goal.returns-in-Some
returns-in-Some c =
    let e : EntryText = record { line = c.args.line; name = c.args.name; args = c.args.args } in
    entry_put c.args.draft.now c.in-Some.strand.now (c.in-Some.ensures.variant.0 refl) c.in-Some.ensures.value c.put.new.items e c.in_ok-put.ensures
