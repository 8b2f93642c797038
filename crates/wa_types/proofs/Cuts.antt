-- Code has a type up to a place exactly where its first items, followed by `unreachable`, are typed.
use Rattle.std.proofs.Common.{arith, ◌≡◌, ℕ, zero, suc, ◌+◌, ◌-◌, inl, inr, ◌++◌, List, [], ◌∷◌, Option, refl, sym, subst}
use Rattle.wa_types.specs.declared.values.ValType.{ValType}
use Rattle.wa_types.specs.Syntax.{unreachable, Code, done, plain, nest, branch}
use Rattle.wa_types.specs.Typing.{Around, Sig, moves, leaves, drops, selects, lacks, late, listed, sig, Takes, label, Types}
use Rattle.wa_types.specs.Rules.{above_all}
use Rattle.wa_types.specs.FirstFault.{mid, size, Meets, UpTo, cut}
use Rattle.wa_types.proofs.SigLemmas.{Lawful, lawful}

-- where all rules hold of an instruction, it takes its operands to some
met : (s : Sig) (ins : List ValType) → Lawful s → Meets above_all s ins → (outs : List ValType) × Takes s ins outs
met (moves ps rs) ins k (inl h) = absurd (omega arith)
met (moves ps rs) ins k (inr h) = h
met (leaves ps) ins k (inl h) = absurd (omega arith)
met (leaves ps) ins k (inr h) = h
met drops ins k (inl h) = absurd (omega arith)
met drops ins k (inr h) = h
met selects ins k (inl h) = absurd (omega arith)
met selects ins k (inr h) = h
met (lacks r) ins k h = absurd (omega (arith, h, k))
met (late r ps rs) ins k (inl h) = absurd (omega arith)
met (late r ps rs) ins k (inr h) = absurd (omega (arith, h.0, k.1))

any_types : (c : Around) (ls : List (Option ValType)) (outs ins : List ValType) → Types c ls (plain unreachable done) outs ins
unfolding Types
any_types c ls outs ins = (outs, (ins, refl), refl)

pub cut_typed : (c : Around) (ls : List (Option ValType)) (k : Code) (outs ins : List ValType) (n : ℕ) → UpTo above_all c ls k outs ins n → Types c ls (cut n k) outs ins
unfolding UpTo Types cut
cut_typed c ls k outs ins zero h = any_types c ls outs ins
cut_typed c ls done outs ins (suc n) (inl h) = absurd (omega (arith, h.1))
cut_typed c ls done outs ins (suc n) (inr h) = h
cut_typed c ls (plain p rest) outs ins (suc n) (inl h) =
    let w = met (sig c ls p) ins (lawful c ls p) h.1 in
    (w.0, w.1, subst (λ (m : ℕ). Types c ls (cut m rest) outs w.0) (sym h.0) (any_types c ls outs w.0))
cut_typed c ls (plain p rest) outs ins (suc n) (inr h) = (h.0, h.1, cut_typed c ls rest outs h.0 n h.2)
cut_typed c ls (nest s r body rest) outs ins (suc n) h =
    (cut_typed c (label s r ∷ ls) body (listed r) [] n h.0, cut_typed c ls rest outs (listed r ++ ins) (n - (size body + 1)) h.1)
cut_typed c ls (branch r a b rest) outs ins (suc n) (inl (e, inl h)) = absurd (omega arith)
cut_typed c ls (branch r a b rest) outs ins (suc n) (inl (e, inr (below, w))) =
    let z : (m : ℕ) → n ≡ 0 → n - m ≡ 0 = λ m f. omega arith in (
      w.0,
      w.1,
      subst (λ (m : ℕ). Types c (r ∷ ls) (cut m a) (listed r) []) (sym e) (any_types c (r ∷ ls) (listed r) []),
      subst (λ (m : ℕ). Types c (r ∷ ls) (cut m b) (listed r) []) (sym (z (size a + mid b) e)) (any_types c (r ∷ ls) (listed r) []),
      subst (λ (m : ℕ). Types c ls (cut m rest) outs (listed r ++ w.0)) (sym (z (size a + mid b + size b + 1) e)) (any_types c ls outs (listed r ++ w.0)),
    )
cut_typed c ls (branch r a b rest) outs ins (suc n) (inr h) = (
  h.0,
  h.1,
  cut_typed c (r ∷ ls) a (listed r) [] n h.2,
  cut_typed c (r ∷ ls) b (listed r) [] (n - (size a + mid b)) h.3,
  cut_typed c ls rest outs (listed r ++ h.0) (n - (size a + mid b + size b + 1)) h.4,
)

pub typed_cut : (q : ℕ) (c : Around) (ls : List (Option ValType)) (k : Code) (outs ins : List ValType) (n : ℕ) → Types c ls (cut n k) outs ins → UpTo q c ls k outs ins n
unfolding UpTo Types cut
typed_cut q c ls done outs ins zero h = tt
typed_cut q c ls (plain p rest) outs ins zero h = tt
typed_cut q c ls (nest s r body rest) outs ins zero h = tt
typed_cut q c ls (branch r a b rest) outs ins zero h = tt
typed_cut q c ls done outs ins (suc n) h = inr h
typed_cut q c ls (plain p rest) outs ins (suc n) h = inr (h.0, h.1, typed_cut q c ls rest outs h.0 n h.2)
typed_cut q c ls (nest s r body rest) outs ins (suc n) h =
    (typed_cut q c (label s r ∷ ls) body (listed r) [] n h.0, typed_cut q c ls rest outs (listed r ++ ins) (n - (size body + 1)) h.1)
typed_cut q c ls (branch r a b rest) outs ins (suc n) h =
    inr (
      h.0,
      h.1,
      typed_cut q c (r ∷ ls) a (listed r) [] n h.2,
      typed_cut q c (r ∷ ls) b (listed r) [] (n - (size a + mid b)) h.3,
      typed_cut q c ls rest outs (listed r ++ h.0) (n - (size a + mid b + size b + 1)) h.4,
    )
