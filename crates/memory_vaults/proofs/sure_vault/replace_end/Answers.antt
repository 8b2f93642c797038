use Rattle.std.proofs.Common.{refl, sym, ap, ◌∙◌, ◌≡◌, ◌++◌, ℕ, List, get_or, set, take}
use Rattle.memory_vaults.specs.declared.sure_vault.NamedFile.{NamedFile}
use Rattle.vault_port.specs.Files.{bytes_of, ChangesOnly}
use Rattle.memory_vaults.specs.InMemory.{files_of, IsFirstOf}
use Rattle.memory_vaults.proofs.Shelf.{ChangesOnly_set, bytes_at}
use Rattle.vault_port.proofs.Telling.{OnErr_by}
use Rattle.memory_vaults.proofs.sure_vault.replace_end.Goals as goal

-- the file at the place, cut and with a piece behind
replaced : (files : List NamedFile) (place from : ℕ) (piece cut : List ℕ) (old new : NamedFile) → old ≡ get_or files place old → new.name ≡ old.name → cut ≡ take from old.bytes.items
    → new.bytes.items ≡ cut ++ piece → (name : List ℕ) → IsFirstOf files name place → ChangesOnly name (take from (bytes_of (files_of files) name) ++ piece) (files_of files)
    (files_of (set files place new))
replaced files place from piece cut old new is same was now name first =
    let held = bytes_at files name place old is first in
    ChangesOnly_set files name _ place old new is same (now ∙ ap (λ front. front ++ piece) (was ∙ ap (take from) (sym held))) first

only_cut : (files : List NamedFile) (place from : ℕ) (old new : NamedFile) → old ≡ get_or files place old → new.name ≡ old.name → new.bytes.items ≡ take from old.bytes.items
    → (name : List ℕ) → IsFirstOf files name place → ChangesOnly name (take from (bytes_of (files_of files) name)) (files_of files) (files_of (set files place new))
only_cut files place from old new is same now name first =
    let held = bytes_at files name place old is first in
    ChangesOnly_set files name _ place old new is same (now ∙ ap (take from) (sym held)) first

pub returns-in_err-extend_from_slice-clause-err : goal.returns-in_err-extend_from_slice-clause-err
returns-in_err-extend_from_slice-clause-err c =
    OnErr_by _ (only_cut c.args.files.now.items c.args.place c.args.from c.index_mut-file.result.now
    (record c.index_mut-file.result.now { bytes = c.extend_from_slice.new.self }) c.index_mut-file.ensures.value refl (c.in_err-extend_from_slice.ensures.items
    ∙ c.truncate.ensures.items))

pub returns-clause-ok : goal.returns-clause-ok
returns-clause-ok c =
    replaced c.args.files.now.items c.args.place c.args.from c.args.piece.now _ c.index_mut-file.result.now _ c.index_mut-file.ensures.value refl c.truncate.ensures.items
    c.in_ok-extend_from_slice.ensures.items
