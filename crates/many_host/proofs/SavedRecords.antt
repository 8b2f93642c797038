-- Records of programs, one after another.
use Rattle.std.proofs.Common.{arith, ◌≡◌, ◌≤◌, ◌+◌, ℕ, zero, suc, List, [], ◌∷◌, ◌++◌, All, length, take, Option, Some, slice_get, refl, sym, ap, ◌∙◌, subst}
use Rattle.std.proofs.lemmas.List.{take_all}
use Rattle.std.proofs.lemmas.List.Elements.{All-append, All-cons, All-nil}
use Rattle.std.proofs.lemmas.Option.{same_Some}
use Rattle.snapshot_store.specs.Snapshots.{ProgramRecord}
use Rattle.pause_host.specs.Parting.{memory_if}
use Rattle.pause_host.specs.Programs.{memory_at}
use Rattle.pause_host.specs.declared.program.State.{State}
use Rattle.pause_host.specs.declared.program.State.TheVariants.{Failed, Fresh, Live, Lost}
use Rattle.std.specs.Option.{unwrap_or}
use Rattle.many_host.specs.Saving.{HasItsPages, record_for, records_for}
use Rattle.many_host.specs.declared.hosted.Hosted.{Hosted}

records_more : (i : ℕ) (dues : List (Option ℕ)) (xs : List Hosted) (d : Option ℕ) (x : Hosted) → slice_get dues i ≡ Some d → slice_get xs i ≡ Some x
    → records_for (take (suc i) dues) (take (suc i) xs) ≡ records_for (take i dues) (take i xs) ++ record_for d x ∷ []
records_more i [] xs d x ed ex = cc
records_more i (c ∷ dues) [] d x ed ex = cc
records_more zero (c ∷ dues) (y ∷ xs) d x ed ex = λ k. record_for (same_Some c d ed k) (same_Some y x ex k) ∷ []
records_more (suc i) (c ∷ dues) (y ∷ xs) d x ed ex = ap (λ (rs : List ProgramRecord). record_for c y ∷ rs) (records_more i dues xs d x ed ex)

-- as many as there are
pub records_many : (dues : List (Option ℕ)) (xs : List Hosted) → length dues ≡ length xs → length (records_for dues xs) ≡ length xs
records_many [] [] e = refl
records_many [] (x ∷ xs) e = let never : ⊥ = omega (arith, e) in absurd never
records_many (d ∷ dues) [] e = let never : ⊥ = omega (arith, e) in absurd never
records_many (d ∷ dues) (x ∷ xs) e = ap suc (records_many dues xs (omega (arith, e)))

-- one more
pub records_next : (i : ℕ) (dues : List (Option ℕ)) (xs : List Hosted) (rs new : List ProgramRecord) (r : ProgramRecord) (d : Option ℕ) (x : Hosted) → slice_get dues i ≡ Some d
    → slice_get xs i ≡ Some x → rs ≡ records_for (take i dues) (take i xs) → r ≡ record_for d x → new ≡ rs ++ r ∷ [] → new ≡ records_for (take (i + 1) dues) (take (i + 1) xs)
records_next i dues xs rs new r d x ed ex so is more =
    let next : suc i ≡ i + 1 = omega arith in
    more ∙ (λ k. so k ++ is k ∷ []) ∙ sym (records_more i dues xs d x ed ex) ∙ ap (λ n. records_for (take n dues) (take n xs)) next

-- all of them
pub records_all : (i : ℕ) (dues : List (Option ℕ)) (xs : List Hosted) → length xs ≤ i → length dues ≡ length xs → records_for (take i dues) (take i xs) ≡ records_for dues xs
records_all i dues xs le many = λ k. records_for (take_all i dues (omega (arith, le, many)) k) (take_all i xs le k)

-- one more has its pages
pub pages_next : (rs new : List ProgramRecord) (r : ProgramRecord) → All HasItsPages rs → HasItsPages r → new ≡ rs ++ r ∷ [] → All HasItsPages new
pages_next rs new r all one e = subst (All HasItsPages) (sym e) (All-append HasItsPages rs (r ∷ []) all (All-cons HasItsPages r [] one (All-nil HasItsPages)))

-- the bytes of the memory that there is
pub memory_there : (state : State) → unwrap_or (memory_if state) [] ≡ memory_at state
memory_there (Live instance stage) = refl
memory_there Fresh = refl
memory_there (Failed how) = refl
memory_there Lost = refl
