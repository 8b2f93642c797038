use Rattle.std.proofs.Common.{◌≡◌, false}
use Rattle.std.specs.Str.{bytes_eq}
use Rattle.memory_vaults.proofs.Shelf.{files_of-more}
use Rattle.memory_vaults.proofs.sure_vault.place_of.Goals as goal

pub loop-place-preserved : goal.loop-place-preserved
loop-place-preserved c =
    let differs : bytes_eq c.index-files-place.result.name c.args.name.now ≡ false = rw (← c.as_str.ensures) cc in
    files_of-more c.args.files.now c.args.name.now c.loop-place.place c.index-files-place.result c.loop-place-test.true c.index-files-place.is differs c.loop-place.invariant
