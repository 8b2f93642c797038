-- What is told, over several calls.
use Rattle.std.proofs.Common.{◌≡◌, ℕ, Result, Ok, Err, OnErr, Option, Some, None, refl, inl, inr}
use Rattle.std.specs.Prelude.{IsErrOf}
use Rattle.vault_port.specs.declared.whole.PutFault.{PutFault}
use Rattle.vault_port.specs.declared.whole.PutFault.TheVariants.{Fault, Memory}
use Rattle.vault_port.specs.Counts.{FailsOnce, FailsAtMostOnce}
use Rattle.vault_port.specs.Told.{WhereTold, Becomes}

-- one change after another
pub Becomes_then : {A : Type 0} (R S T : A → A → Type 0) → ((x y z : A) → R x y → S y z → T x z) → (o p q : Option A) → Becomes o p R → Becomes p q S → Becomes o q T
Becomes_then R S T joins None None None r s = tt
Becomes_then R S T joins None None (Some z) r s = s
Becomes_then R S T joins None (Some y) q r s = absurd r
Becomes_then R S T joins (Some x) None q r s = absurd r
Becomes_then R S T joins (Some x) (Some y) None r s = s
Becomes_then R S T joins (Some x) (Some y) (Some z) r s = joins x y z r s

-- no change
pub Becomes_same : {A : Type 0} (R : A → A → Type 0) → ((x : A) → R x x) → (o : Option A) → Becomes o o R
Becomes_same R same None = tt
Becomes_same R same (Some x) = same x

-- what is told after a change
pub told_since : {A : Type 0} (R : A → A → Type 0) (P : A → Type 0) → ((x y : A) → R x y → P y) → (o p : Option A) → Becomes o p R → WhereTold p P
told_since R P since None None r = tt
told_since R P since None (Some y) r = absurd r
told_since R P since (Some x) None r = tt
told_since R P since (Some x) (Some y) r = since x y r

-- less said of what is told
pub told_weaker : {A : Type 0} (P Q : A → Type 0) → ((x : A) → P x → Q x) → (o : Option A) → WhereTold o P → WhereTold o Q
told_weaker P Q weaker None p = tt
told_weaker P Q weaker (Some x) p = weaker x p

-- a fact holds whatever the result is
pub OnErr_by : {T E P : Type 0} (r : Result T E) → P → OnErr r P
OnErr_by (Ok x) p = tt
OnErr_by (Err e) p = p

-- ---- what a put has done to the count of faults

module _ {T : Type 0} (p p' : ℕ) (r : Result T PutFault) (failed : IsErrOf r Fault → FailsOnce p p') (stays : (IsErrOf r Fault → ⊥) → p' ≡ p) where
  pub put_once : FailsAtMostOnce p p'
  put_once = by r failed stays where
    by : (r : Result T PutFault) → (IsErrOf r Fault → FailsOnce p p') → ((IsErrOf r Fault → ⊥) → p' ≡ p) → FailsAtMostOnce p p'
    by (Ok x) failed stays = inl (stays (λ e. cc))
    by (Err Fault) failed stays = inr (failed refl)
    by (Err Memory) failed stays = inl (stays (λ e. cc))
