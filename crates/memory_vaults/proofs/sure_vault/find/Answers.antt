use Rattle.memory_vaults.proofs.Shelf.{files_of-at}
use Rattle.memory_vaults.proofs.sure_vault.find.Goals as goal

pub returns : goal.returns
returns c =
    let at = files_of-at c.args.files.now c.args.name.now c.in_ok-place.place c.index-files-place.result c.index-files-place.is c.in_ok-place.ensures in
    let shown = c.as_slice.ensures.value in
    cc
