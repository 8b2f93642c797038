-- Laws of typing.
use Rattle.std.proofs.Common.{arith, ◌≡◌, ℕ, zero, suc, ◌+◌, ◌-◌, ◌<◌, ◌≤◌, ◌⊎◌, inl, inr, ◌++◌, List, [], ◌∷◌, Option, Bool, true, false, if◌then◌else◌, refl, sym, subst}
use Rattle.wa_types.specs.declared.values.ValType.{ValType}
use Rattle.wa_types.specs.declared.values.ValType.TheVariants.{I32}
use Rattle.wa_types.specs.Syntax.{Plain, Code, done, plain, nest, branch}
use Rattle.wa_types.specs.Pruned.{is_last, pruned}
use Rattle.wa_types.specs.Typing.{Around, Sig, moves, leaves, drops, selects, lacks, late, listed, sig, Takes, label, Types}
use Rattle.wa_types.specs.FirstFault.{mid, size, Meets, UpTo}
use Rattle.wa_types.proofs.SigLemmas.{last_ends}

pruned_plain : (c : Around) (ls : List (Option ValType)) (p : Plain) (rest : Code) (outs ins : List ValType)
    (h : (mids : List ValType) × Takes (sig c ls p) ins mids × Types c ls rest outs mids) → Types c ls (pruned rest) outs h.0 → (b : Bool) → b ≡ is_last p
    → (mids : List ValType) × Takes (sig c ls p) ins mids × Types c ls (if b then done else pruned rest) outs mids
unfolding Types
pruned_plain c ls p rest outs ins h k true e = (outs, last_ends c ls p (sym e) ins h.0 outs h.1, refl)
pruned_plain c ls p rest outs ins h k false e = (h.0, h.1, k)

-- The pruned body of a typed body has the same type.
pub pruned_types : (c : Around) (ls : List (Option ValType)) (k : Code) (outs ins : List ValType) → Types c ls k outs ins → Types c ls (pruned k) outs ins
unfolding Types pruned
pruned_types c ls done outs ins h = h
pruned_types c ls (plain p rest) outs ins h = pruned_plain c ls p rest outs ins h (pruned_types c ls rest outs h.0 h.2) (is_last p) refl
pruned_types c ls (nest s r body rest) outs ins h =
    (pruned_types c (label s r ∷ ls) body (listed r) [] h.0, pruned_types c ls rest outs (listed r ++ ins) h.1)
pruned_types c ls (branch r a b rest) outs ins h =
    (h.0, h.1, pruned_types c (r ∷ ls) a (listed r) [] h.2, pruned_types c (r ∷ ls) b (listed r) [] h.3, pruned_types c ls rest outs (listed r ++ h.0) h.4)

pub upto_zero : (q : ℕ) (c : Around) (ls : List (Option ValType)) (k : Code) (outs ins : List ValType) → UpTo q c ls k outs ins 0
unfolding UpTo
upto_zero q c ls done outs ins = tt
upto_zero q c ls (plain p rest) outs ins = tt
upto_zero q c ls (nest s r body rest) outs ins = tt
upto_zero q c ls (branch r a b rest) outs ins = tt

pub at_upto : (q : ℕ) (c : Around) (ls : List (Option ValType)) (k : Code) (outs ins : List ValType) (m n : ℕ) → m ≡ n → UpTo q c ls k outs ins m → UpTo q c ls k outs ins n
at_upto q c ls k outs ins m n e h = subst (UpTo q c ls k outs ins) e h

-- Typed code has a typing up to each of its places.
pub typed_upto : (q : ℕ) (c : Around) (ls : List (Option ValType)) (k : Code) (outs ins : List ValType) (n : ℕ) → Types c ls k outs ins → UpTo q c ls k outs ins n
unfolding UpTo Types
typed_upto q c ls done outs ins zero h = tt
typed_upto q c ls done outs ins (suc n) h = inr h
typed_upto q c ls (plain p rest) outs ins zero h = tt
typed_upto q c ls (plain p rest) outs ins (suc n) h = inr (h.0, h.1, typed_upto q c ls rest outs h.0 n h.2)
typed_upto q c ls (nest s r body rest) outs ins zero h = tt
typed_upto q c ls (nest s r body rest) outs ins (suc n) h =
    (typed_upto q c (label s r ∷ ls) body (listed r) [] n h.0, typed_upto q c ls rest outs (listed r ++ ins) (n - (size body + 1)) h.1)
typed_upto q c ls (branch r a b rest) outs ins zero h = tt
typed_upto q c ls (branch r a b rest) outs ins (suc n) h =
    inr (
      h.0,
      h.1,
      typed_upto q c (r ∷ ls) a (listed r) [] n h.2,
      typed_upto q c (r ∷ ls) b (listed r) [] (n - (size a + mid b)) h.3,
      typed_upto q c ls rest outs (listed r ++ h.0) (n - (size a + mid b + size b + 1)) h.4,
    )

pub takes_meets : (q : ℕ) (s : Sig) (ins outs : List ValType) → Takes s ins outs → Meets q s ins
takes_meets q (moves ps rs) ins outs h = inr (outs, h)
takes_meets q (leaves ps) ins outs h = inr (outs, h)
takes_meets q drops ins outs h = inr (outs, h)
takes_meets q selects ins outs h = inr (outs, h)
takes_meets q (lacks r) ins outs h = absurd h
takes_meets q (late r ps rs) ins outs h = absurd h

-- fewer rules are asked
meets_fewer : (q p : ℕ) (s : Sig) (ins : List ValType) → p ≤ q → Meets q s ins → Meets p s ins
meets_fewer q p (moves ps rs) ins le (inl h) = inl (omega arith)
meets_fewer q p (moves ps rs) ins le (inr h) = inr h
meets_fewer q p (leaves ps) ins le (inl h) = inl (omega arith)
meets_fewer q p (leaves ps) ins le (inr h) = inr h
meets_fewer q p drops ins le (inl h) = inl (omega arith)
meets_fewer q p drops ins le (inr h) = inr h
meets_fewer q p selects ins le (inl h) = inl (omega arith)
meets_fewer q p selects ins le (inr h) = inr h
meets_fewer q p (lacks r) ins le h = omega arith
meets_fewer q p (late r ps rs) ins le (inl h) = inl (omega arith)
meets_fewer q p (late r ps rs) ins le (inr h) = inr (omega (arith, h.0), h.1)

pub upto_fewer : (q p : ℕ) (c : Around) (ls : List (Option ValType)) (k : Code) (outs ins : List ValType) (n : ℕ) → p ≤ q → UpTo q c ls k outs ins n → UpTo p c ls k outs ins n
unfolding UpTo
upto_fewer q p c ls done outs ins zero le h = tt
upto_fewer q p c ls done outs ins (suc n) le (inl h) = inl (h.0, omega (arith, h.1))
upto_fewer q p c ls done outs ins (suc n) le (inr h) = inr h
upto_fewer q p c ls (plain i rest) outs ins zero le h = tt
upto_fewer q p c ls (plain i rest) outs ins (suc n) le (inl h) = inl (h.0, meets_fewer q p (sig c ls i) ins le h.1)
upto_fewer q p c ls (plain i rest) outs ins (suc n) le (inr h) = inr (h.0, h.1, upto_fewer q p c ls rest outs h.0 n le h.2)
upto_fewer q p c ls (nest s r body rest) outs ins zero le h = tt
upto_fewer q p c ls (nest s r body rest) outs ins (suc n) le h =
    (upto_fewer q p c (label s r ∷ ls) body (listed r) [] n le h.0, upto_fewer q p c ls rest outs (listed r ++ ins) (n - (size body + 1)) le h.1)
upto_fewer q p c ls (branch r a b rest) outs ins zero le h = tt
upto_fewer q p c ls (branch r a b rest) outs ins (suc n) le (inl h) = inl (h.0, meets_fewer q p (moves (I32 ∷ []) []) ins le h.1)
upto_fewer q p c ls (branch r a b rest) outs ins (suc n) le (inr h) =
    inr (
      h.0,
      h.1,
      upto_fewer q p c (r ∷ ls) a (listed r) [] n le h.2,
      upto_fewer q p c (r ∷ ls) b (listed r) [] (n - (size a + mid b)) le h.3,
      upto_fewer q p c ls rest outs (listed r ++ h.0) (n - (size a + mid b + size b + 1)) le h.4,
    )

-- up to an earlier place all rules hold
pub less_on : (m n : ℕ) → (m < n) ⊎ (n ≤ m)
less_on zero zero = inr (omega arith)
less_on zero (suc n) = inl (omega arith)
less_on (suc m) zero = inr (omega arith)
less_on (suc m) (suc n) = elim (less_on m n) [ inl h ↦ inl (omega arith) | inr h ↦ inr (omega arith) ]

pub upto_less : (q p : ℕ) (c : Around) (ls : List (Option ValType)) (k : Code) (outs ins : List ValType) (m n : ℕ) → m < n → UpTo q c ls k outs ins n → UpTo p c ls k outs ins m
unfolding UpTo
upto_less q p c ls k outs ins zero n lt h = upto_zero p c ls k outs ins
upto_less q p c ls done outs ins (suc m) zero lt h = absurd (omega arith)
upto_less q p c ls done outs ins (suc m) (suc n) lt (inl h) = absurd (omega (arith, h.0))
upto_less q p c ls done outs ins (suc m) (suc n) lt (inr h) = inr h
upto_less q p c ls (plain i rest) outs ins (suc m) zero lt h = absurd (omega arith)
upto_less q p c ls (plain i rest) outs ins (suc m) (suc n) lt (inl h) = absurd (omega (arith, h.0))
upto_less q p c ls (plain i rest) outs ins (suc m) (suc n) lt (inr h) = inr (h.0, h.1, upto_less q p c ls rest outs h.0 m n (omega arith) h.2)
upto_less q p c ls (nest s r body rest) outs ins (suc m) zero lt h = absurd (omega arith)
upto_less q p c ls (nest s r body rest) outs ins (suc m) (suc n) lt h = (
  upto_less q p c (label s r ∷ ls) body (listed r) [] m n (omega arith) h.0,
  elim (less_on (m - (size body + 1)) (n - (size body + 1))) [
    | inl l ↦ upto_less q p c ls rest outs (listed r ++ ins) (m - (size body + 1)) (n - (size body + 1)) l h.1
    | inr l ↦ at_upto p c ls rest outs (listed r ++ ins) 0 (m - (size body + 1)) (omega arith) (upto_zero p c ls rest outs (listed r ++ ins))
  ],
)
upto_less q p c ls (branch r a b rest) outs ins (suc m) zero lt h = absurd (omega arith)
upto_less q p c ls (branch r a b rest) outs ins (suc m) (suc n) lt (inl h) = absurd (omega (arith, h.0))
upto_less q p c ls (branch r a b rest) outs ins (suc m) (suc n) lt (inr h) =
    inr (
      h.0,
      h.1,
      upto_less q p c (r ∷ ls) a (listed r) [] m n (omega arith) h.2,
      elim (less_on (m - (size a + mid b)) (n - (size a + mid b))) [
        | inl l ↦ upto_less q p c (r ∷ ls) b (listed r) [] (m - (size a + mid b)) (n - (size a + mid b)) l h.3
        | inr l ↦ at_upto p c (r ∷ ls) b (listed r) [] 0 (m - (size a + mid b)) (omega arith) (upto_zero p c (r ∷ ls) b (listed r) [])
      ],
      elim (less_on (m - (size a + mid b + size b + 1)) (n - (size a + mid b + size b + 1))) [
        | inl l ↦ upto_less q p c ls rest outs (listed r ++ h.0) (m - (size a + mid b + size b + 1)) (n - (size a + mid b + size b + 1)) l h.4
        | inr l ↦ at_upto p c ls rest outs (listed r ++ h.0) 0 (m - (size a + mid b + size b + 1)) (omega arith) (upto_zero p c ls rest outs (listed r ++ h.0))
      ],
    )
