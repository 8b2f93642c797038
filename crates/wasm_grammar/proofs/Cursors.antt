-- Numbers at the front of a place.
use Rattle.std.proofs.Common.{◌≡◌, ℕ, ◌+◌, ◌-◌, ◌^◌, ◌<◌, ◌≤◌, List, [], ◌∷◌, ◌++◌, Bool, true, false, cond, Result, Ok, Err, ap, sym, ◌∙◌, subst, arith, length, take, drop, nat_lt, nat_eq, IsTrue, length-drop, length-take-le, append-nil, append_assoc, add-zero}
use Rattle.std.proofs.lemmas.List.{drop_all, drop-drop, take-append-drop}
use Rattle.std.proofs.lemmas.Bool.{eqb-true, eq-eqb}
use Rattle.leb_numbers.specs.declared.leb.LebFault.{LebFault}
use Rattle.leb_numbers.specs.declared.leb.LebFault.TheVariants.{Short}
use Rattle.leb_numbers.specs.Leb.{IsUnsigned, IsSigned, unsigned_at, signed_at}
use Rattle.leb_numbers.proofs.UnsignedReads.{again}
use Rattle.leb_numbers.proofs.SignedReads.{again as signed_again}
use Rattle.file_laws.proofs.Items.{same_cut}
use Rattle.file_laws.proofs.NumberReading.{unsigned_stays, signed_stays}
use Rattle.wasm_grammar.specs.Places.{Place, place_from, place_at, with_more, behind, GivesNumber, Onward}
use Rattle.wasm_grammar.specs.declared.front.NotSpelled.{NotSpelled}

pub first_place : (first : ℕ) (bytes : List ℕ) → place_from first bytes 0 ≡ place_at first bytes
first_place first bytes = λ i. record { at = add-zero first i; left = bytes }

-- a front that ends within the bytes is cut off them
cut : (xs more front rest : List ℕ) → xs ++ more ≡ front ++ rest → length front ≤ length xs → drop (length front) xs ++ more ≡ rest
cut xs more front rest e h =
    let k = length front in
    (same_cut (take k xs) (drop k xs ++ more) front rest (sym (append_assoc (take k xs) (drop k xs) more) ∙ ap (λ z. z ++ more) (take-append-drop k xs) ∙ e) (length-take-le k xs h)).1

passed : (first : ℕ) (bytes front rest more : List ℕ) (at end : ℕ) → drop at bytes ++ more ≡ front ++ rest → end ≡ at + length front → end ≤ length bytes
    → with_more (place_from first bytes end) more ≡ behind (place_from first bytes at) front rest
passed first bytes front rest more at end e f h =
    let left : drop end bytes ++ more ≡ rest = ap (λ k. drop k bytes ++ more) f ∙ ap (λ z. z ++ more) (sym (drop-drop (length front) at bytes))
    ∙ cut (drop at bytes) more front rest e (omega (arith, f, h, length-drop at bytes)) in
    let place : first + end ≡ first + at + length front = omega (arith, f) in
    λ i. record { at = place i; left = left i }

-- What reading a number at a place gives, where the front spells one, whatever follows.
abbrev pub Given : (List ℕ → ℕ → Type 0) → ℕ → List ℕ → ℕ → Result ℕ LebFault → Place → Type 0
Given Spells first bytes end r p =
    (n : ℕ) (front rest more : List ℕ) → p.left ++ more ≡ front ++ rest → Spells front n → (r ≡ Ok n) × (with_more (place_from first bytes end) more ≡ behind p front rest)

-- Where no number is read at a place, none is spelled there unless more bytes follow.
abbrev pub Lost : (List ℕ → ℕ → Type 0) → Place → Type 0
Lost Spells p = (n : ℕ) (front rest more : List ℕ) → p.left ++ more ≡ front ++ rest → Spells front n → more ≡ [] → ⊥

not_both : (n : ℕ) (d : LebFault) → Err d ≡ Ok n → ⊥
not_both n d e = cc

pub unsigned_given : (first bits : ℕ) (bytes : List ℕ) (at end : ℕ) (r : Result ℕ LebFault) (p : Place) → (r ≡ Err Short → ⊥) → end ≤ length bytes → place_from first bytes at ≡ p
    → (r, end) ≡ unsigned_at bits (drop at bytes) at → Given (IsUnsigned bits) first bytes end r p
unsigned_given first bits bytes at end r p some within v f =
    subst (Given (IsUnsigned bits) first bytes end r) v (λ n front rest more e s.
    let stays = unsigned_stays bits (drop at bytes) more at (λ g. some (ap (λ q. q.0) f ∙ g)) in
    let g : (r, end) ≡ (Ok n, at + length front) = f ∙ sym stays ∙ ap (λ z. unsigned_at bits z at) e ∙ again bits front rest n at s in
    (ap (λ q. q.0) g, passed first bytes front rest more at end e (ap (λ q. q.1) g) within))

pub signed_given : (first bits : ℕ) (bytes : List ℕ) (at end : ℕ) (r : Result ℕ LebFault) (p : Place) → (r ≡ Err Short → ⊥) → end ≤ length bytes → place_from first bytes at ≡ p
    → (r, end) ≡ signed_at bits (drop at bytes) at → Given (IsSigned bits) first bytes end r p
signed_given first bits bytes at end r p some within v f =
    subst (Given (IsSigned bits) first bytes end r) v (λ n front rest more e s.
    let stays = signed_stays bits (drop at bytes) more at (λ g. some (ap (λ q. q.0) f ∙ g)) in
    let g : (r, end) ≡ (Ok n, at + length front) = f ∙ sym stays ∙ ap (λ z. signed_at bits z at) e ∙ signed_again bits front rest n at s in
    (ap (λ q. q.0) g, passed first bytes front rest more at end e (ap (λ q. q.1) g) within))

-- nothing follows
alone : (xs front rest more : List ℕ) → xs ++ more ≡ front ++ rest → more ≡ [] → xs ≡ front ++ rest
alone xs front rest more e none = sym (append-nil xs) ∙ ap (λ z. xs ++ z) (sym none) ∙ e

pub unsigned_lost : (first bits : ℕ) (bytes : List ℕ) (at end : ℕ) (d : LebFault) (p : Place) → place_from first bytes at ≡ p → (Err d, end) ≡ unsigned_at bits (drop at bytes) at
    → Lost (IsUnsigned bits) p
unsigned_lost first bits bytes at end d p v f = subst (Lost (IsUnsigned bits)) v (λ n front rest more e s none.
    let g : (Err d, end) ≡ (Ok n, at + length front) = f ∙ ap (λ z. unsigned_at bits z at) (alone (drop at bytes) front rest more e none) ∙ again bits front rest n at s in
    not_both n d (ap (λ q. q.0) g))

pub signed_lost : (first bits : ℕ) (bytes : List ℕ) (at end : ℕ) (d : LebFault) (p : Place) → place_from first bytes at ≡ p → (Err d, end) ≡ signed_at bits (drop at bytes) at
    → Lost (IsSigned bits) p
signed_lost first bits bytes at end d p v f = subst (Lost (IsSigned bits)) v (λ n front rest more e s none.
    let g : (Err d, end) ≡ (Ok n, at + length front) = f ∙ ap (λ z. signed_at bits z at) (alone (drop at bytes) front rest more e none) ∙ signed_again bits front rest n at s in
    not_both n d (ap (λ q. q.0) g))

-- where no number is read
pub lost_gives : {y : NotSpelled} {q : Result ℕ NotSpelled} (n : ℕ) (new : Place) (more : List ℕ) (end : Place) → q ≡ Err y → (more ≡ [] → ⊥) → GivesNumber q n new more end
lost_gives n new more end e f = subst (λ z. GivesNumber z n new more end) (sym e) f

pub some_read : (n : ℕ) → Ok n ≡ Err Short → ⊥
some_read n e = cc

pub either_grows : (b : Bool) (at : ℕ) (x y : Result ℕ LebFault × ℕ) → at ≤ x.1 → at ≤ y.1 → at ≤ (cond b x y).1
either_grows true at x y h k = h
either_grows false at x y h k = k

pub unsigned_grows : (bits : ℕ) (bytes : List ℕ) (at : ℕ) → at ≤ (unsigned_at bits bytes at).1
unfolding unsigned_at
unsigned_grows bits [] at = omega arith
unsigned_grows bits (b ∷ bs) at =
    let more = unsigned_grows (bits - 7) bs (at + 1) in
    either_grows (nat_lt b 128) at _ _ (either_grows (nat_lt b (2 ^ bits)) at _ _ (omega arith) (omega arith)) (either_grows (nat_lt 7 bits) at _ _ (omega (arith, more)) (omega arith))

past : (bits b : ℕ) (bs : List ℕ) (at : ℕ) → at + 1 ≤ (unsigned_at bits (b ∷ bs) at).1
unfolding unsigned_at
past bits b bs at =
    let more = unsigned_grows (bits - 7) bs (at + 1) in
    either_grows (nat_lt b 128) (at + 1) _ _ (either_grows (nat_lt b (2 ^ bits)) (at + 1) _ _ (omega arith) (omega arith))
    (either_grows (nat_lt 7 bits) (at + 1) _ _ (omega (arith, more)) (omega arith))

-- a number has a byte
pub read_past : (bits : ℕ) (bytes : List ℕ) (at n end : ℕ) → unsigned_at bits bytes at ≡ (Ok n, end) → at < end
unfolding unsigned_at
read_past bits [] at n end e = absurd (let f : Err Short ≡ Ok n = ap (λ p. p.0) e in cc)
read_past bits (b ∷ bs) at n end e = omega (arith, past bits b bs at, ap (λ p. p.1) e)

pub unsigned_falls : (first bits : ℕ) (bytes : List ℕ) (at n end : ℕ) (p : Place) → place_from first bytes at ≡ p → (Ok n, end) ≡ unsigned_at bits (drop at bytes) at → end ≤ length bytes
    → length (drop end bytes) < length p.left
unsigned_falls first bits bytes at n end p v f k =
    let some = read_past bits (drop at bytes) at n end (sym f) in
    omega (arith, some, k, length-drop end bytes, length-drop at bytes, ap (λ q. length q.left) v)

signed_grows : (bits : ℕ) (bytes : List ℕ) (at : ℕ) → at ≤ (signed_at bits bytes at).1
unfolding signed_at
signed_grows bits [] at = omega arith
signed_grows bits (b ∷ bs) at =
    let more = signed_grows (bits - 7) bs (at + 1) in
    either_grows (nat_lt b 128) at _ _ (omega arith) (either_grows (nat_lt 7 bits) at _ _ (omega (arith, more)) (omega arith))

-- a later place of the same bytes
pub goes_on : (first : ℕ) (bytes : List ℕ) (at end : ℕ) (p : Place) → place_from first bytes at ≡ p → at ≤ end → end ≤ length bytes → Onward p (place_from first bytes end)
goes_on first bytes at end p v h k =
    subst (λ q. Onward q (place_from first bytes end)) v (record {
      whole = omega (arith, length-drop end bytes, length-drop at bytes);
      left = omega (arith, length-drop end bytes, length-drop at bytes);
    })

pub unsigned_on : (first : ℕ) (bits : ℕ) (bytes : List ℕ) (at end : ℕ) (r : Result ℕ LebFault) (p : Place) → place_from first bytes at ≡ p → (r, end) ≡ unsigned_at bits (drop at bytes) at
    → end ≤ length bytes
    → Onward p (place_from first bytes end)
unsigned_on first bits bytes at end r p v f k =
    let place : end ≡ (unsigned_at bits (drop at bytes) at).1 = ap (λ q. q.1) f in
    goes_on first bytes at end p v (omega (arith, place, unsigned_grows bits (drop at bytes) at)) k

pub signed_on : (first : ℕ) (bits : ℕ) (bytes : List ℕ) (at end : ℕ) (r : Result ℕ LebFault) (p : Place) → place_from first bytes at ≡ p → (r, end) ≡ signed_at bits (drop at bytes) at
    → end ≤ length bytes
    → Onward p (place_from first bytes end)
signed_on first bits bytes at end r p v f k =
    let place : end ≡ (signed_at bits (drop at bytes) at).1 = ap (λ q. q.1) f in
    goes_on first bytes at end p v (omega (arith, place, signed_grows bits (drop at bytes) at)) k

pub at_end : (first : ℕ) (bytes : List ℕ) (at : ℕ) (p : Place) → place_from first bytes at ≡ p → IsTrue (nat_eq at (length bytes)) → p.left ≡ []
at_end first bytes at p v h = ap (λ q. q.left) (sym v) ∙ drop_all at bytes (omega (arith, eqb-true at (length bytes) h))

pub not_at_end : (first : ℕ) (bytes : List ℕ) (at : ℕ) (p : Place) → place_from first bytes at ≡ p → at ≤ length bytes → p.left ≡ [] → IsTrue (nat_eq at (length bytes))
not_at_end first bytes at p v k e = eq-eqb at (length bytes) (omega (arith, length-drop at bytes, ap length (ap (λ q. q.left) v ∙ e)))
