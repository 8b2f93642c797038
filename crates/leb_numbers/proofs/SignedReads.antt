-- Signed numbers: what is read is spelled so, and what is spelled so is read.
use Rattle.std.proofs.Common.{◌≡◌, ℕ, suc, zero-add, ◌+◌, ◌-◌, ◌*◌, ◌<◌, inl, inr, List, [], ◌∷◌, ◌++◌, Ok, Err, refl, ap, sym, ◌∙◌, arith, length, get_or, nat_lt}
use Rattle.std.proofs.lemmas.Bool.{lt-ltb, le-ltb, ltb-true, ltb-false}
use Rattle.leb_numbers.specs.declared.leb.LebFault.TheVariants.{Short, Long}
use Rattle.leb_numbers.proofs.LebAnswers.{ok-injective, pair_eq, above_ok, chosen, same_fronts}
use Rattle.leb_numbers.specs.Leb.{signed_at, IsSigned, Front}

-- what is spelled is read, whatever follows
pub again : (bits : ℕ) (front rest : List ℕ) (n at : ℕ) → IsSigned bits front n → signed_at bits (front ++ rest) at ≡ (Ok n, at + length front)
unfolding signed_at
again bits [] rest n at h = absurd h
again bits (b ∷ bs) rest n at (inl h) =
    rw (lt-ltb _ _ h.0, h.1, h.2) refl
again bits (b ∷ bs) rest n at (inr h) =
    let value : b - 128 + 128 * h.3 ≡ n = omega arith in
    let place : at + 1 + length bs ≡ at + suc (length bs) = omega arith in
    rw (le-ltb _ _ h.0, lt-ltb _ _ h.2, again (bits - 7) bs rest h.3 (at + 1) h.5) (rw (value, place) refl)

-- no spelling begins another
pub one_form : (bits : ℕ) (a b x y : List ℕ) (m n : ℕ) → IsSigned bits a m → IsSigned bits b n → a ++ x ≡ b ++ y → (m ≡ n) × (a ≡ b)
one_form bits a b x y m n h k e =
    let same = sym (again bits a x m 0 h ∙ rw zero-add refl) ∙ ap (λ s. signed_at bits s 0) e ∙ again bits b y n 0 k ∙ rw zero-add refl in
    (ok-injective m n _ refl (ap (λ p. p.0) same), same_fronts a b x y (ap (λ p. p.1) same) e)

-- what is read is spelled so by the bytes in between
pub takes : (bits : ℕ) (bytes : List ℕ) (at n end : ℕ) → ((i : ℕ) → get_or bytes i 0 < 256) → signed_at bits bytes at ≡ (Ok n, end) → Front (λ front. IsSigned bits front n) bytes at end
unfolding signed_at
takes bits [] at n end fits e = absurd (let d : Err Short ≡ Ok n = ap (λ p. p.0) e in cc)
takes bits (b ∷ bs) at n end fits e =
    elim (chosen (nat_lt b 128) _ _ _ e) [
      | inl low ↦
          record {
            front = b ∷ [];
            rest = bs;
            split = refl;
            place = sym (ap (λ p. p.1) low.1);
            spells = inl (ltb-true _ _ low.0, refl, ap (λ p. p.0) low.1);
          }
      | inr high ↦ elim (chosen (nat_lt 7 bits) _ _ _ high.1) [
        | inl many ↦
            let found = above_ok b n _ (ap (λ p. p.0) many.1) in
            let inner : signed_at (bits - 7) bs (at + 1) ≡ (Ok found.0, end) = pair_eq found.1 (ap (λ p. p.1) many.1) in
            let more = takes (bits - 7) bs (at + 1) found.0 end (λ i. fits (suc i)) inner in
            record {
              front = b ∷ more.front;
              rest = more.rest;
              split = ap (λ s. b ∷ s) more.split;
              place = more.place ∙ omega arith;
              spells = inr (ltb-false _ _ high.0, fits 0, ltb-true _ _ many.0, found.0, omega (arith, ltb-false _ _ high.0, found.2), more.spells);
            }
        | inr few ↦ absurd (let d : Err Long ≡ Ok n = ap (λ p. p.0) few.1 in cc)
      ]
    ]
