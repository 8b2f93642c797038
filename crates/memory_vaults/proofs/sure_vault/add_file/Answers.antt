use Rattle.memory_vaults.proofs.Shelf.{ChangesOnly_push}
use Rattle.memory_vaults.proofs.sure_vault.add_file.Goals as goal

pub returns-clause-ok : goal.returns-clause-ok
returns-clause-ok c = λ none.
    let held = c.in_ok-extend_from_slice.ensures.items in
    let start = c.new-held.ensures.items in
    rw c.in_ok-push.ensures.items (ChangesOnly_push c.args.files.now.items c.args.name.now c.args.bytes.now _ c.in_ok-new.ensures (rw start at held) none)
