-- Files that are fetched in pieces.
use Rattle.std.proofs.Common.{◌≡◌, ◌⊎◌, ◌<◌, ◌≤◌, ◌+◌, ℕ, List, length, take, Option, Some, None, Result, Ok, Err, refl, sym, ap, ◌∙◌, subst, inl, inr, arith}
use Rattle.std.proofs.lemmas.List.{take_all}
use Rattle.std.specs.Prelude.{◌↔◌, IsErr, IsErrOf}
use Rattle.vault_port.specs.declared.vault.VaultFail.{VaultFail}
use Rattle.vault_port.specs.declared.vault.VaultFail.TheVariants.{Absent, Failed, Memory}
use Rattle.vault_port.specs.Counts.{FailsOnce, FailsAtMostOnce}
use Rattle.vault_port.specs.Told.{WhereTold}
use Rattle.vault_port.specs.Files.{Files, bytes_of, CannotRead, HoldsFront, FetchesMore}

-- what is told of the same files
pub told_at : {A : Type 0} (P : A → Type 0) (o p : Option A) → p ≡ o → WhereTold p P → WhereTold o P
told_at P o p is told = subst (λ q. WhereTold q P) is told

-- a piece behind the first bytes, in a buffer that began as before and then holds what was fetched
front_more : (bytes before room fetched held : List ℕ) (done n : ℕ) → take done room ≡ take done before → held ≡ fetched → HoldsFront bytes done before → FetchesMore bytes done n room fetched
    → HoldsFront bytes (done + n) held
front_more bytes before room fetched held done n same is front more =
    let now : HoldsFront bytes (done + n) fetched = more.more (record { there = front.there; same = same ∙ front.same }) in
    record { there = now.there; same = ap (take (done + n)) is ∙ now.same }

pub told_more : (name before room fetched held : List ℕ) (done n : ℕ) (o p : Option Files) → p ≡ o → take done room ≡ take done before → held ≡ fetched
    → WhereTold o (λ all. HoldsFront (bytes_of all name) done before) → WhereTold p (λ all. FetchesMore (bytes_of all name) done n room fetched)
    → WhereTold o (λ all. HoldsFront (bytes_of all name) (done + n) held)
told_more name before room fetched held done n None p kept same is front more = tt
told_more name before room fetched held done n (Some all) p kept same is front more =
    front_more (bytes_of all name) before room fetched held done n same is front (told_at (λ all. FetchesMore (bytes_of all name) done n room fetched) (Some all) p kept more)

-- the bytes up to the limit are there
all_there : (bytes held : List ℕ) (done limit : ℕ) → HoldsFront bytes done held → done ≤ limit → (done ≡ limit) ⊎ (length bytes ≤ done) → take done held ≡ take limit bytes
all_there bytes held done limit front within (inl is) = front.same ∙ ap (λ k. take k bytes) is
all_there bytes held done limit front within (inr over) = front.same ∙ take_all done bytes over ∙ sym (take_all limit bytes (omega (arith, over, within)))

full_at_limit : (done n k limit : ℕ) → n ≡ 0 → k ≡ done → (done < k) ⊎ (k ≡ limit) → done + n ≡ limit
full_at_limit done n k limit none full (inl less) = omega (arith, full, less)
full_at_limit done n k limit none full (inr is) = omega (arith, none, full, is)

at_end : (bytes room fetched : List ℕ) (done n k limit : ℕ) → length room ≡ k → FetchesMore bytes done n room fetched → (done < k) ⊎ (k ≡ limit) → (n ≡ 0) ⊎ (done + n ≡ limit)
    → (done + n ≡ limit) ⊎ (length bytes ≤ done + n)
at_end bytes room fetched done n k limit long more free (inr is) = inl is
at_end bytes room fetched done n k limit long more free (inl none) =
    elim (more.none none) [ inl full ↦ inl (full_at_limit done n k limit none (sym long ∙ full) free) | inr over ↦ inr (omega (arith, none, over)) ]

-- the fetching ends
pub told_whole : (name before room fetched held all_held : List ℕ) (done n k limit : ℕ) (o p : Option Files) → p ≡ o → take done room ≡ take done before → held ≡ fetched → all_held ≡ take (done + n) held → length room ≡ k
    → WhereTold o (λ all. HoldsFront (bytes_of all name) done before) → WhereTold p (λ all. FetchesMore (bytes_of all name) done n room fetched) → (done < k) ⊎ (k ≡ limit)
    → (n ≡ 0) ⊎ (done + n ≡ limit) → done + n ≤ limit → WhereTold o (λ all. all_held ≡ take limit (bytes_of all name))
told_whole name before room fetched held all_held done n k limit None p kept same is cut long front more free ends within = tt
told_whole name before room fetched held all_held done n k limit (Some all) p kept same is cut long front more free ends within =
    let bytes = bytes_of all name in
    let now : FetchesMore bytes done n room fetched = told_at (λ all. FetchesMore (bytes_of all name) done n room fetched) (Some all) p kept more in
    cut ∙ all_there bytes held (done + n) limit (front_more bytes before room fetched held done n same is front now) within (at_end bytes room fetched done n k limit long now free ends)

-- ---- why a file couldn't be read

none_there : (files : Option Files) (name : List ℕ) (f f' : ℕ) (r : Result ℕ VaultFail) → IsErrOf r Absent
    → WhereTold files (λ all. IsErrOf r Absent ↔ (all name ≡ None)) → (IsErrOf r Absent → files ≡ None → FailsOnce f f')
    → WhereTold files (λ all. IsErrOf r Absent → f' ≡ f) → CannotRead files name f f'
none_there None name f f' r is absent untold stays = inl (untold is refl)
none_there (Some all) name f f' r is absent untold stays = inr (absent.0 is, stays is)

-- a fetch that gave no bytes
pub cannot_read : (files : Option Files) (name : List ℕ) (f f' : ℕ) (r : Result ℕ VaultFail) → IsErr r → (IsErrOf r Memory → ⊥)
    → WhereTold files (λ all. IsErrOf r Absent ↔ (all name ≡ None)) → (IsErrOf r Absent → files ≡ None → FailsOnce f f')
    → WhereTold files (λ all. IsErrOf r Absent → f' ≡ f) → (IsErrOf r Failed → FailsOnce f f') → CannotRead files name f f'
cannot_read files name f f' (Ok n) is memory absent untold stays failed = cc
cannot_read files name f f' (Err Absent) is memory absent untold stays failed = none_there files name f f' (Err Absent) refl absent untold stays
cannot_read files name f f' (Err Failed) is memory absent untold stays failed = inl (failed refl)
cannot_read files name f f' (Err Memory) is memory absent untold stays failed = absurd (memory refl)

-- behind fetches that didn't fail
pub cannot_since : (files mid : Option Files) (name : List ℕ) (f g h : ℕ) → mid ≡ files → g ≡ f → CannotRead mid name g h → CannotRead files name f h
cannot_since files mid name f g h same still why =
    subst (λ (k : ℕ). CannotRead files name k h) still (subst (λ (all : Option Files). CannotRead all name g h) same why)

-- one fetch has failed at most
pub read_once : (files : Option Files) (name : List ℕ) (f f' : ℕ) → CannotRead files name f f' → FailsAtMostOnce f f'
read_once files name f f' why = elim why [ inl failed ↦ inr failed | inr missing ↦ inl missing.1 ]
