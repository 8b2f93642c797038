-- Files in a list.
use Rattle.std.proofs.Common.{◌≡◌, ◌≢◌, ◌<◌, ◌+◌, ℕ, Bool, true, false, cond, List, [], ◌∷◌, ◌++◌, length, take, drop, get_or, set, suc, Option, Some, None, refl, sym, ap, ◌∙◌, unwrap_or}
use Rattle.std.specs.Option.{option_or}
use Rattle.std.specs.Str.{bytes_eq}
use Rattle.std.proofs.lemmas.Slice.Eq.{bytes_eq-Decides}
use Rattle.std.proofs.lemmas.List.{take_more, set_split, set-get_or}
use Rattle.memory_vaults.specs.declared.sure_vault.NamedFile.{NamedFile}
use Rattle.vault_port.specs.Files.{bytes_of, ChangesOnly}
use Rattle.memory_vaults.specs.InMemory.{files_of, IsFirstOf}

pick : {A : Type 0} (b : Bool) (x : A) (p q r : Option A) → p ≡ option_or q r → cond b (Some x) p ≡ option_or (cond b (Some x) q) r
pick true x p q r is = refl
pick false x p q r is = is

-- of two lists the first that has the name
pub files_of-append : (xs ys : List NamedFile) (name : List ℕ) → files_of (xs ++ ys) name ≡ option_or (files_of xs name) (files_of ys name)
files_of-append [] ys name = refl
files_of-append (file ∷ xs) ys name =
    pick (bytes_eq file.name name) file.bytes.items _ _ (files_of ys name) (files_of-append xs ys name)

of_test : (b : Bool) → (b ≡ true → ⊥) → b ≡ false
of_test b = elim b as (λ v. (v ≡ true → ⊥) → v ≡ false) [ true ↦ λ no. absurd (no refl) | false ↦ λ no. refl ]

differ : (xs ys : List ℕ) → xs ≢ ys → bytes_eq xs ys ≡ false
differ xs ys differs = of_test (bytes_eq xs ys) (λ same. differs ((bytes_eq-Decides xs ys).0 same))

-- a file of the name, behind others
pub files_of-found : (front rest : List NamedFile) (file : NamedFile) (name : List ℕ) → files_of front name ≡ None → file.name ≡ name → files_of (front ++ file ∷ rest) name ≡ Some file.bytes.items
files_of-found front rest file name none is =
    files_of-append front (file ∷ rest) name ∙ ap (λ o. option_or o (files_of (file ∷ rest) name)) none
    ∙ ap (λ b. cond b (Some file.bytes.items) (files_of rest name)) ((bytes_eq-Decides file.name name).1 is)

-- a file of another name doesn't count
pub files_of-skip : (front rest : List NamedFile) (file : NamedFile) (other : List ℕ) → file.name ≢ other
    → files_of (front ++ file ∷ rest) other ≡ option_or (files_of front other) (files_of rest other)
files_of-skip front rest file other differs =
    files_of-append front (file ∷ rest) other
    ∙ ap (λ b. option_or (files_of front other) (cond b (Some file.bytes.items) (files_of rest other))) (differ file.name other differs)

-- one step of the search
pub files_of-more : (files : List NamedFile) (name : List ℕ) (i : ℕ) (file : NamedFile) → i < length files → file ≡ get_or files i file → bytes_eq file.name name ≡ false
    → files_of (take i files) name ≡ None → files_of (take (i + 1) files) name ≡ None
files_of-more files name i file within is differs none =
    ap (λ front. files_of front name) (take_more files i file within ∙ ap (λ f. take i files ++ f ∷ []) (sym is))
    ∙ files_of-append (take i files) (file ∷ []) name
    ∙ ap (λ o. option_or o (files_of (file ∷ []) name)) none
    ∙ ap (λ b. cond b (Some file.bytes.items) None) differs

-- the list is what stands before a place, what stands there, and the rest
split_at : (files : List NamedFile) (i : ℕ) (file : NamedFile) → i < length files → file ≡ get_or files i file → files ≡ take i files ++ file ∷ drop (suc i) files
split_at files i file within is =
    sym (ap (λ f. set files i f) is ∙ set-get_or files i file) ∙ set_split files i file within

pub files_of-at : (files : List NamedFile) (name : List ℕ) (i : ℕ) (file : NamedFile) → file ≡ get_or files i file → IsFirstOf files name i → files_of files name ≡ Some file.bytes.items
files_of-at files name i file is first =
    ap (λ all. files_of all name) (split_at files i file first.within is)
    ∙ files_of-found (take i files) (drop (suc i) files) file name first.first (ap (λ f. f.name) is ∙ first.found file)

pub bytes_at : (files : List NamedFile) (name : List ℕ) (i : ℕ) (file : NamedFile) → file ≡ get_or files i file → IsFirstOf files name i → bytes_of (files_of files) name ≡ file.bytes.items
bytes_at files name i file is first = ap (λ o. unwrap_or o []) (files_of-at files name i file is first)

-- another content of the first file of a name
pub ChangesOnly_set : (files : List NamedFile) (name bytes : List ℕ) (i : ℕ) (old new : NamedFile) → old ≡ get_or files i old → new.name ≡ old.name → new.bytes.items ≡ bytes
    → IsFirstOf files name i → ChangesOnly name bytes (files_of files) (files_of (set files i new))
ChangesOnly_set files name bytes i old new is same holds first =
    let named : old.name ≡ name = ap (λ f. f.name) is ∙ first.found old in
    let now = set_split files i new first.within in
    record {
      changed = ap (λ all. files_of all name) now ∙ files_of-found (take i files) (drop (suc i) files) new name first.first (same ∙ named) ∙ ap Some holds;
      others = λ other differs.
          ap (λ all. files_of all other) now
          ∙ files_of-skip (take i files) (drop (suc i) files) new other (λ e. differs (sym e ∙ same ∙ named))
          ∙ sym (files_of-skip (take i files) (drop (suc i) files) old other (λ e. differs (sym e ∙ named)))
          ∙ ap (λ all. files_of all other) (sym (split_at files i old first.within is));
    }

none_behind : {A : Type 0} (o : Option A) → option_or o None ≡ o
none_behind None = refl
none_behind (Some x) = refl

-- one more file
pub ChangesOnly_push : (files : List NamedFile) (name bytes : List ℕ) (file : NamedFile) → file.name ≡ name → file.bytes.items ≡ bytes → files_of files name ≡ None
    → ChangesOnly name bytes (files_of files) (files_of (files ++ file ∷ []))
ChangesOnly_push files name bytes file is holds none =
    record {
      changed = files_of-found files [] file name none is ∙ ap Some holds;
      others = λ other differs. files_of-skip files [] file other (λ e. differs (sym e ∙ is)) ∙ none_behind (files_of files other);
    }
