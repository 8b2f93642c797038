-- Where numbers and parts that stand behind their size end, whatever follows.
use Rattle.std.proofs.Common.{◌≡◌, ℕ, ◌+◌, ◌-◌, ◌^◌, ◌<◌, ◌≤◌, List, [], ◌∷◌, ◌++◌, Result, Ok, Err, ap, sym, ◌∙◌, refl, arith, append_assoc, append-nil, length, length-append, length-drop, drop, nat_lt}
use Rattle.leb_numbers.specs.declared.leb.LebFault.{LebFault}
use Rattle.leb_numbers.specs.declared.leb.LebFault.TheVariants.{Short}
use Rattle.leb_numbers.specs.Leb.{unsigned_at}
use Rattle.file_laws.proofs.NumberReading.{unsigned_stays, unsigned_again}
use Rattle.wasm_grammar.proofs.Cursors.{unsigned_grows, either_grows}
use Rattle.wasm_build.specs.Extents.{NumberAt, NoNumberAt, EndsAt, NoEnd}

past : (bits b : ℕ) (bs : List ℕ) (at : ℕ) → at + 1 ≤ (unsigned_at bits (b ∷ bs) at).1
unfolding unsigned_at
past bits b bs at =
    let more = unsigned_grows (bits - 7) bs (at + 1) in
    either_grows (nat_lt b 128) (at + 1) _ _ (either_grows (nat_lt b (2 ^ bits)) (at + 1) _ _ (omega arith) (omega arith))
    (either_grows (nat_lt 7 bits) (at + 1) _ _ (omega (arith, more)) (omega arith))

-- a number has a byte
read_past : (bits : ℕ) (bytes : List ℕ) (at n end : ℕ) → unsigned_at bits bytes at ≡ (Ok n, end) → at < end
unfolding unsigned_at
read_past bits [] at n end e = absurd (let f : Err Short ≡ Ok n = ap (λ p. p.0) e in cc)
read_past bits (b ∷ bs) at n end e = omega (arith, past bits b bs at, ap (λ p. p.1) e)

ok_is : (m n : ℕ) (r : Result ℕ LebFault) → r ≡ Ok m → r ≡ Ok n → m ≡ n
ok_is m n r e f = cc

not_short : (n : ℕ) (r : Result ℕ LebFault) → r ≡ Ok n → r ≡ Err Short → ⊥
not_short n r e f = cc

not_ok : (n : ℕ) (d : LebFault) → Err d ≡ Ok n → ⊥
not_ok n d e = cc

pub number_at : (bytes : List ℕ) (at n end : ℕ) (r : Result ℕ LebFault) → r ≡ Ok n → (r, end) ≡ unsigned_at 32 (drop at bytes) at → NumberAt bytes at n end
number_at bytes at n end r is exact =
    let read : unsigned_at 32 (drop at bytes) at ≡ (Ok n, end) = sym exact ∙ ap (λ z. (z, end)) is in
    record {
      ahead = read_past 32 (drop at bytes) at n end read;
      is = λ more front rest k e s.
          let stays = unsigned_stays 32 (drop at bytes) more at (not_short n _ (ap (λ p. p.0) read)) in
          let both : (Ok n, end) ≡ (Ok k, at + length front) = sym read ∙ sym stays ∙ ap (λ z. unsigned_at 32 z at) e ∙ unsigned_again 32 front rest k at s in
          (ok_is n k _ refl (ap (λ p. p.0) both), ap (λ p. p.1) both);
    }

pub no_number_at : (bytes : List ℕ) (at end : ℕ) (r : Result ℕ LebFault) (d : LebFault) → r ≡ Err d → (r, end) ≡ unsigned_at 32 (drop at bytes) at → NoNumberAt bytes at
no_number_at bytes at end r d is exact = λ front rest k e s.
    let both : (Err d, end) ≡ (Ok k, at + length front) = ap (λ z. (z, end)) (sym is) ∙ exact ∙ ap (λ z. unsigned_at 32 z at) e ∙ unsigned_again 32 front rest k at s in
    not_ok k d (ap (λ p. p.0) both)

-- what has its size there ends behind it
pub ends_at : (bytes : List ℕ) (at size place end : ℕ) → NumberAt bytes at size place → end ≡ place + size → EndsAt bytes at end
ends_at bytes at size place end number is = λ more front rest k e x.
    let z = x.1 in
    let n = number.is more z.0 (z.1 ++ rest) x.0 (e ∙ ap (λ w. w ++ rest) z.2 ∙ append_assoc z.0 z.1 rest) z.3 in
    omega (arith, is, n.0, n.1, z.4.0, ap length z.2, length-append z.0 z.1)

pub no_size : (bytes : List ℕ) (at : ℕ) → NoNumberAt bytes at → NoEnd bytes at
no_size bytes at never = λ front rest k e x.
    let z = x.1 in
    never z.0 (z.1 ++ rest) x.0 (e ∙ ap (λ w. w ++ rest) z.2 ∙ append_assoc z.0 z.1 rest) z.3

pub no_room : (bytes : List ℕ) (at size place : ℕ) → at ≤ length bytes → NumberAt bytes at size place → length bytes - place < size → NoEnd bytes at
no_room bytes at size place within number few = λ front rest k e x.
    let z = x.1 in
    let n = number.is [] z.0 (z.1 ++ rest) x.0 (append-nil (drop at bytes) ∙ e ∙ ap (λ w. w ++ rest) z.2 ∙ append_assoc z.0 z.1 rest) z.3 in
    let all = ap length e in
    omega (arith, few, within, n.0, n.1, z.4.0, all, ap length z.2, length-append z.0 z.1, length-append front rest, length-drop at bytes)
