-- What was printed, piece after piece.
use Rattle.std.proofs.Common.{ℕ, ◌++◌, List, Option, Some, None, Result, Ok, Err, sym, ap, ◌∙◌, ◌≡◌, ◌⊎◌, take, length, refl, arith, inl, inr, subst}
use Rattle.std.specs.Prelude.{IsErrOf, OnOk, OnErr, codes}
use Rattle.std.proofs.lemmas.List.{append-nil, take_all}
use Rattle.vault_port.specs.declared.whole.PutFault.{PutFault}
use Rattle.vault_port.specs.declared.whole.PutFault.TheVariants.{Fault}
use Rattle.vault_port.specs.Counts.{FailsOnce}
use Rattle.vault_port.specs.Told.{Becomes}
use Rattle.vault_port.specs.Taken.{Appends, AppendsLess}
use Rattle.vault_port.proofs.Telling.{put_once}
use Rattle.script_model.specs.Transcript.{refusal_line}
use Rattle.transcript.specs.Refused.{EndsInMemory, FailsLast, Prints, PrintsMemory, memory_line}

pub memory_text : memory_line ≡ codes "out of memory\n"
unfolding refusal_line
memory_text = refl

-- the line on memory, whole
pub ends_whole : (p p' : ℕ) (old new : Option (List ℕ)) → p' ≡ p → Becomes old new (Appends memory_line) → Becomes old new (EndsInMemory p p')
ends_whole p p' None None same h = tt
ends_whole p p' (Some x) (Some y) same h = (length memory_line, inl same, h ∙ ap (λ s. x ++ s) (whole memory_line))
  where
    whole : (line : List ℕ) → line ≡ take (length line) line
    whole line = sym (take_all (length line) line (omega arith))
ends_whole p p' None (Some y) same h = h
ends_whole p p' (Some x) None same h = h

-- or less of it
pub ends_less : (p p' : ℕ) (old new : Option (List ℕ)) → (p' ≡ p) ⊎ FailsOnce p p' → Becomes old new (AppendsLess memory_line) → Becomes old new (EndsInMemory p p')
ends_less p p' None None failed h = tt
ends_less p p' (Some x) (Some y) failed h = (h.0, elim failed [ inl same ↦ inl same | inr once ↦ inr (h.1, once) ], h.2)
ends_less p p' None (Some y) failed h = h
ends_less p p' (Some x) None failed h = h

-- as it was put
pub told_memory : {T : Type 0} (r : Result T PutFault) (p p' : ℕ) (old new : Option (List ℕ)) → (IsErrOf r Fault → FailsOnce p p') → ((IsErrOf r Fault → ⊥) → p' ≡ p)
    → OnOk r (Becomes old new (Appends memory_line)) → OnErr r (Becomes old new (AppendsLess memory_line)) → Becomes old new (EndsInMemory p p')
told_memory (Ok x) p p' old new failed stays a b = ends_whole p p' old new (stays (λ e. cc)) a
told_memory (Err fault) p p' old new failed stays a b = ends_less p p' old new (put_once p p' (Err fault) failed stays) b

-- the line on memory alone
pub memory_alone : (line : List ℕ) (p p' : ℕ) (old new : Option (List ℕ)) → Becomes old new (EndsInMemory p p') → Becomes old new (PrintsMemory line p p')
memory_alone line p p' None None h = tt
memory_alone line p p' (Some x) (Some y) h = (0, h.0, h.1, h.2 ∙ ap (λ s. s ++ take h.0 memory_line) (sym (append-nil x)))
memory_alone line p p' None (Some y) h = h
memory_alone line p p' (Some x) None h = h

-- the line on memory behind a part of another line
pub memory_behind : (line : List ℕ) (p q p' : ℕ) (old mid new : Option (List ℕ)) → q ≡ p → Becomes old mid (AppendsLess line) → Becomes mid new (EndsInMemory q p') → Becomes old new (PrintsMemory line p p')
memory_behind line p q p' None None None same g h = tt
memory_behind line p q p' (Some x) (Some y) (Some z) same g h =
    (g.0, h.0, subst (λ (n : ℕ). FailsLast h.0 n p') same h.1, h.2 ∙ ap (λ s. s ++ take h.0 memory_line) g.2)
memory_behind line p q p' None None (Some z) same g h = h
memory_behind line p q p' (Some x) (Some y) None same g h = h
memory_behind line p q p' None (Some y) new same g h = absurd g
memory_behind line p q p' (Some x) None new same g h = absurd g

-- ---- a line that is put, with the count of faults

prints_by : (P : List ℕ → List ℕ → Type 0) (line : List ℕ) (p p' : ℕ) → ((x y : List ℕ) → P x y → Prints line p p' x y) → (old new : Option (List ℕ)) → Becomes old new P
    → Becomes old new (Prints line p p')
prints_by P line p p' f None None h = tt
prints_by P line p p' f (Some x) (Some y) h = f x y h
prints_by P line p p' f None (Some y) h = h
prints_by P line p p' f (Some x) None h = h

pub line_whole : (line : List ℕ) (p p' : ℕ) (old new : Option (List ℕ)) → p' ≡ p → Becomes old new (Appends line) → Becomes old new (Prints line p p')
line_whole line p p' old new same h = prints_by (Appends line) line p p' (λ x y a. inl (a, same)) old new h

pub line_cut : (line : List ℕ) (p p' : ℕ) (old new : Option (List ℕ)) → FailsOnce p p' → Becomes old new (AppendsLess line) → Becomes old new (Prints line p p')
line_cut line p p' old new failed h = prints_by (AppendsLess line) line p p' (λ x y a. inr (a, failed)) old new h
