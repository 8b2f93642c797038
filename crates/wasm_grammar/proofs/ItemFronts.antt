-- What stands at the front of bytes is read: numbers, texts and floats.
use Rattle.std.proofs.Common.{◌≡◌, ℕ, suc, ◌+◌, ◌-◌, ◌^◌, ◌<◌, ◌≤◌, ◌⊎◌, inl, inr, List, [], ◌∷◌, ◌++◌, Result, Ok, Err, refl, ap, sym, ◌∙◌, subst, arith, length, length-append, length-take-le, take, drop, get_or, nat_lt, true, false, Bool, cond, IsUtf8, append-nil, append_assoc}
use Rattle.std.proofs.lemmas.List.{take-append-drop}
use Rattle.leb_numbers.specs.declared.leb.LebFault.{LebFault}
use Rattle.leb_numbers.specs.declared.leb.LebFault.TheVariants.{Short, Long, Bits}
use Rattle.leb_numbers.specs.Leb.{unsigned_at, signed_at, last_signed, above}
use Rattle.wa_types.specs.Begun.{Item, a_byte, an_unsigned, a_signed, a_name, a_constant_of, IsItem, IsPart}
use Rattle.file_laws.proofs.NumberReading.{unsigned_stays, signed_stays, unsigned_ends, signed_ends, unsigned_again, signed_again}
use Rattle.leb_numbers.proofs.UnsignedReads.{takes}
use Rattle.leb_numbers.proofs.SignedReads.{takes as signed_takes}
use Rattle.wasm_grammar.specs.Items.{IsWholeItem, IsWrong, IsTold, FrontIs, unread}

above_is_short : (b : ℕ) (r : Result ℕ LebFault) → above b r ≡ Err Short → r ≡ Err Short
above_is_short b (Ok x) e = absurd (cc)
above_is_short b (Err d) e = e

-- a number begins behind what was looked at before
unsigned_begins : (bits : ℕ) (a : List ℕ) (at : ℕ) → at ≤ (unsigned_at bits a at).1
unfolding unsigned_at
unsigned_begins bits [] at = omega arith
unsigned_begins bits (x ∷ a) at =
    let X : Result ℕ LebFault × ℕ = unsigned_at (bits - 7) a (at + 1) in
    let more : at + 1 ≤ X.1 = unsigned_begins (bits - 7) a (at + 1) in
    let P : Bool → Result ℕ LebFault × ℕ = λ t. cond t (Ok x, at + 1) (Err Bits, at + 1) in
    let Q : Bool → Result ℕ LebFault × ℕ = λ t. cond t (above x X.0, X.1) (Err Long, at + 1) in
    let R : Bool → Result ℕ LebFault × ℕ = λ t. cond t (P (nat_lt x (2 ^ bits))) (Q (nat_lt 7 bits)) in
    elim (nat_lt x 128) as (λ t. at ≤ (R t).1) [
      | true ↦ elim (nat_lt x (2 ^ bits)) as (λ t. at ≤ (P t).1) [ true ↦ omega arith | false ↦ omega arith ]
      | false ↦ elim (nat_lt 7 bits) as (λ t. at ≤ (Q t).1) [ true ↦ omega arith | false ↦ omega arith ]
    ]

signed_begins : (bits : ℕ) (a : List ℕ) (at : ℕ) → at ≤ (signed_at bits a at).1
unfolding signed_at
signed_begins bits [] at = omega arith
signed_begins bits (x ∷ a) at =
    let X : Result ℕ LebFault × ℕ = signed_at (bits - 7) a (at + 1) in
    let more : at + 1 ≤ X.1 = signed_begins (bits - 7) a (at + 1) in
    let Q : Bool → Result ℕ LebFault × ℕ = λ t. cond t (above x X.0, X.1) (Err Long, at + 1) in
    let R : Bool → Result ℕ LebFault × ℕ = λ t. cond t (last_signed bits x, at + 1) (Q (nat_lt 7 bits)) in
    elim (nat_lt x 128) as (λ t. at ≤ (R t).1) [
      | true ↦ omega arith
      | false ↦ elim (nat_lt 7 bits) as (λ t. at ≤ (Q t).1) [ true ↦ omega arith | false ↦ omega arith ]
    ]

-- and looks at a byte where there is one
unsigned_looks : (bits : ℕ) (x : ℕ) (a : List ℕ) (at : ℕ) → at < (unsigned_at bits (x ∷ a) at).1
unfolding unsigned_at
unsigned_looks bits x a at =
    let X : Result ℕ LebFault × ℕ = unsigned_at (bits - 7) a (at + 1) in
    let more : at + 1 ≤ X.1 = unsigned_begins (bits - 7) a (at + 1) in
    let P : Bool → Result ℕ LebFault × ℕ = λ t. cond t (Ok x, at + 1) (Err Bits, at + 1) in
    let Q : Bool → Result ℕ LebFault × ℕ = λ t. cond t (above x X.0, X.1) (Err Long, at + 1) in
    let R : Bool → Result ℕ LebFault × ℕ = λ t. cond t (P (nat_lt x (2 ^ bits))) (Q (nat_lt 7 bits)) in
    elim (nat_lt x 128) as (λ t. at < (R t).1) [
      | true ↦ elim (nat_lt x (2 ^ bits)) as (λ t. at < (P t).1) [ true ↦ omega arith | false ↦ omega arith ]
      | false ↦ elim (nat_lt 7 bits) as (λ t. at < (Q t).1) [ true ↦ omega arith | false ↦ omega arith ]
    ]

signed_looks : (bits : ℕ) (x : ℕ) (a : List ℕ) (at : ℕ) → at < (signed_at bits (x ∷ a) at).1
unfolding signed_at
signed_looks bits x a at =
    let X : Result ℕ LebFault × ℕ = signed_at (bits - 7) a (at + 1) in
    let more : at + 1 ≤ X.1 = signed_begins (bits - 7) a (at + 1) in
    let Q : Bool → Result ℕ LebFault × ℕ = λ t. cond t (above x X.0, X.1) (Err Long, at + 1) in
    let R : Bool → Result ℕ LebFault × ℕ = λ t. cond t (last_signed bits x, at + 1) (Q (nat_lt 7 bits)) in
    elim (nat_lt x 128) as (λ t. at < (R t).1) [
      | true ↦ omega arith
      | false ↦ elim (nat_lt 7 bits) as (λ t. at < (Q t).1) [ true ↦ omega arith | false ↦ omega arith ]
    ]

-- what is short, and goes on, looks at more
unsigned_more : (bits : ℕ) (a b : List ℕ) (at : ℕ) → (unsigned_at bits a at).0 ≡ Err Short → 0 < length b → at + length a < (unsigned_at bits (a ++ b) at).1
unfolding unsigned_at
unsigned_more bits [] [] at s h = absurd (omega arith)
unsigned_more bits [] (x ∷ b) at s h = let l = unsigned_looks bits x b at in omega (arith, l)
unsigned_more bits (x ∷ a) b at s h =
    let X : Result ℕ LebFault × ℕ = unsigned_at (bits - 7) a (at + 1) in
    let Y : Result ℕ LebFault × ℕ = unsigned_at (bits - 7) (a ++ b) (at + 1) in
    let more : X.0 ≡ Err Short → at + 1 + length a < Y.1 = λ e. unsigned_more (bits - 7) a b (at + 1) e h in
    let P : Bool → Result ℕ LebFault × ℕ = λ t. cond t (Ok x, at + 1) (Err Bits, at + 1) in
    let Q : Result ℕ LebFault × ℕ → Bool → Result ℕ LebFault × ℕ = λ z t. cond t (above x z.0, z.1) (Err Long, at + 1) in
    let R : Result ℕ LebFault × ℕ → Bool → Result ℕ LebFault × ℕ = λ z t. cond t (P (nat_lt x (2 ^ bits))) (Q z (nat_lt 7 bits)) in
    elim (nat_lt x 128) as (λ t. (R X t).0 ≡ Err Short → at + suc (length a) < (R Y t).1) [
      | true ↦ elim (nat_lt x (2 ^ bits)) as (λ t. (P t).0 ≡ Err Short → at + suc (length a) < (P t).1) [ true ↦ λ e. absurd (cc) | false ↦ λ e. absurd (cc) ]
      | false ↦ elim (nat_lt 7 bits) as (λ t. (Q X t).0 ≡ Err Short → at + suc (length a) < (Q Y t).1) [
        | true ↦ λ e. let m = more (above_is_short x X.0 e) in omega (arith, m)
        | false ↦ λ e. absurd (cc)
      ]
    ] s

-- a last byte is judged
last_judged : (bits b : ℕ) → last_signed bits b ≡ Err Short → ⊥
last_judged bits b = by_half (nat_lt b 64) (nat_lt b (2 ^ (bits - 1))) (nat_lt (b + 2 ^ (bits - 1)) 128) where
  by_half : (x y z : Bool) → cond x (cond y (Ok b) (Err Bits)) (cond z (Err Bits) (Ok (b + 2 ^ bits - 128))) ≡ Err Short → ⊥
  by_half true true z e = cc
  by_half true false z e = cc
  by_half false y true e = cc
  by_half false y false e = cc

signed_more : (bits : ℕ) (a b : List ℕ) (at : ℕ) → (signed_at bits a at).0 ≡ Err Short → 0 < length b → at + length a < (signed_at bits (a ++ b) at).1
unfolding signed_at
signed_more bits [] [] at s h = absurd (omega arith)
signed_more bits [] (x ∷ b) at s h = let l = signed_looks bits x b at in omega (arith, l)
signed_more bits (x ∷ a) b at s h =
    let X : Result ℕ LebFault × ℕ = signed_at (bits - 7) a (at + 1) in
    let Y : Result ℕ LebFault × ℕ = signed_at (bits - 7) (a ++ b) (at + 1) in
    let more : X.0 ≡ Err Short → at + 1 + length a < Y.1 = λ e. signed_more (bits - 7) a b (at + 1) e h in
    let P : Result ℕ LebFault × ℕ = (last_signed bits x, at + 1) in
    let Q : Result ℕ LebFault × ℕ → Bool → Result ℕ LebFault × ℕ = λ z t. cond t (above x z.0, z.1) (Err Long, at + 1) in
    let R : Result ℕ LebFault × ℕ → Bool → Result ℕ LebFault × ℕ = λ z t. cond t P (Q z (nat_lt 7 bits)) in
    elim (nat_lt x 128) as (λ t. (R X t).0 ≡ Err Short → at + suc (length a) < (R Y t).1) [
      | true ↦ λ e. absurd (last_judged bits x e)
      | false ↦ elim (nat_lt 7 bits) as (λ t. (Q X t).0 ≡ Err Short → at + suc (length a) < (Q Y t).1) [
        | true ↦ λ e. let m = more (above_is_short x X.0 e) in omega (arith, m)
        | false ↦ λ e. absurd (cc)
      ]
    ] s

short_or : (r : Result ℕ LebFault) → (r ≡ Err Short) ⊎ (r ≡ Err Short → ⊥)
short_or (Ok v) = inr (λ e. cc)
short_or (Err Short) = inl refl
short_or (Err Long) = inr (λ e. cc)
short_or (Err Bits) = inr (λ e. cc)

errs_same : (d e : LebFault) (r : Result ℕ LebFault) → r ≡ Err d → r ≡ Err e → d ≡ e
errs_same d e r p q = cc

not_ok : (v : ℕ) (d : LebFault) (r : Result ℕ LebFault) → r ≡ Ok v → r ≡ Err d → ⊥
not_ok v d r e f = cc

take_front : (a b : List ℕ) → take (length a) (a ++ b) ≡ a
take_front [] b = refl
take_front (x ∷ a) b = ap (λ z. x ∷ z) (take_front a b)

some_or : (a : List ℕ) → (a ≡ []) ⊎ (0 < length a)
some_or [] = inl refl
some_or (x ∷ a) = inr (omega arith)

-- How a number is read, signed or not.
record IsRead (i : Item) (f : List ℕ → Result ℕ LebFault × ℕ) : Type 0 where
  nothing : (f []).0 ≡ Err Short
  stays : (a b : List ℕ) → ((f a).0 ≡ Err Short → ⊥) → f (a ++ b) ≡ f a
  ends : (a : List ℕ) → (f a).1 ≤ length a
  more : (a b : List ℕ) → (f a).0 ≡ Err Short → 0 < length b → length a < (f (a ++ b)).1
  again : (a b : List ℕ) (v : ℕ) → IsItem i a v → (f (a ++ b)).0 ≡ Ok v
  part : (a : List ℕ) → IsPart i a → (f a).0 ≡ Err Short
  is_part : (a : List ℕ) → (f a).0 ≡ Err Short → IsPart i a

unsigned_is_read : IsRead an_unsigned (λ a. unsigned_at 32 a 0)
unfolding unsigned_at
unsigned_is_read = record {
  nothing = refl;
  stays = λ a b n. unsigned_stays 32 a b 0 n;
  ends = λ a. omega (arith, unsigned_ends 32 a 0);
  more = λ a b s h. let m = unsigned_more 32 a b 0 s h in omega (arith, m);
  again = λ a b v i. ap (λ p. p.0) (unsigned_again 32 a b v 0 i);
  part = λ a p. p;
  is_part = λ a p. p;
}

signed_is_read : (bits : ℕ) → IsRead (a_signed bits) (λ a. signed_at bits a 0)
unfolding signed_at
signed_is_read bits = record {
  nothing = refl;
  stays = λ a b n. signed_stays bits a b 0 n;
  ends = λ a. omega (arith, signed_ends bits a 0);
  more = λ a b s h. let m = signed_more bits a b 0 s h in omega (arith, m);
  again = λ a b v i. ap (λ p. p.0) (signed_again bits a b v 0 i);
  part = λ a p. p;
  is_part = λ a p. p;
}

-- a number that is wrong is so from the last byte looked at
module _ (i : Item) (f : List ℕ → Result ℕ LebFault × ℕ) (r : IsRead i f) (bytes : List ℕ) (used : ℕ) (d : LebFault) (read : f bytes ≡ (Err d, used)) (judged : d ≡ Short → ⊥) where
  fault_is : (f bytes).0 ≡ Err d
  fault_is = ap (λ p. p.0) read

  place_is : (f bytes).1 ≡ used
  place_is = ap (λ p. p.1) read

  within : used ≤ length bytes
  within = omega (arith, r.ends bytes, place_is)

  some : 0 < used
  some = elim (some_or bytes) [
    | inl e ↦ absurd (judged (errs_same d Short (f bytes).0 fault_is (subst (λ z. (f z).0 ≡ Err Short) (sym e) r.nothing)))
    | inr h ↦ omega (arith, r.more [] bytes r.nothing h, place_is)
  ]

  before : IsPart i (take (used - 1) bytes)
  before = elim (short_or (f (take (used - 1) bytes)).0) [
    | inl s ↦ r.is_part _ s
    | inr n ↦
        let same : f bytes ≡ f (take (used - 1) bytes) = ap f (sym (take-append-drop (used - 1) bytes)) ∙ r.stays (take (used - 1) bytes) (drop (used - 1) bytes) n in
        absurd (omega (arith, ap (λ p. p.1) same, place_is, r.ends (take (used - 1) bytes), length-take-le (used - 1) bytes (omega (arith, within)), some))
  ]

  no_part : IsPart i (take used bytes) → ⊥
  no_part p = elim (some_or (drop used bytes)) [
    | inl e ↦
        let all : take used bytes ≡ bytes = sym (append-nil (take used bytes)) ∙ ap (λ z. take used bytes ++ z) (sym e) ∙ take-append-drop used bytes in
        judged (errs_same d Short (f bytes).0 fault_is (subst (λ z. (f z).0 ≡ Err Short) all (r.part _ p)))
    | inr h ↦
        let m : length (take used bytes) < (f bytes).1 = subst (λ z. length (take used bytes) < (f z).1) (take-append-drop used bytes) (r.more (take used bytes) (drop used bytes) (r.part _ p) h) in
        omega (arith, m, place_is, length-take-le used bytes within)
  ]

  no_item : (a b : List ℕ) (v : ℕ) → take used bytes ≡ a ++ b → IsItem i a v → ⊥
  no_item a b v e h =
      let whole : bytes ≡ a ++ (b ++ drop used bytes) = sym (take-append-drop used bytes) ∙ ap (λ z. z ++ drop used bytes) e ∙ append_assoc a b (drop used bytes) in
      not_ok v d (f bytes).0 (ap (λ z. (f z).0) whole ∙ r.again a (b ++ drop used bytes) v h) fault_is

  number_wrong : IsWrong i bytes used
  number_wrong = record { some = some; within = within; before = before; never = record { no_part = no_part; no_item = no_item } }

-- where no number was read
number_unread : (i : Item) (f : List ℕ → Result ℕ LebFault × ℕ) → IsRead i f → (bytes : List ℕ) (used : ℕ) (d : LebFault) → f bytes ≡ (Err d, used) → FrontIs i bytes (unread d used)
number_unread i f r bytes used Short e = r.is_part bytes (ap (λ p. p.0) e)
number_unread i f r bytes used Long e = number_wrong i f r bytes used Long e (λ h. cc)
number_unread i f r bytes used Bits e = number_wrong i f r bytes used Bits e (λ h. cc)

pub unsigned_unread : (bytes : List ℕ) (used : ℕ) (d : LebFault) → unsigned_at 32 bytes 0 ≡ (Err d, used) → FrontIs an_unsigned bytes (unread d used)
unsigned_unread bytes used d e = number_unread an_unsigned (λ a. unsigned_at 32 a 0) unsigned_is_read bytes used d e

pub signed_unread : (bits : ℕ) (bytes : List ℕ) (used : ℕ) (d : LebFault) → signed_at bits bytes 0 ≡ (Err d, used) → FrontIs (a_signed bits) bytes (unread d used)
signed_unread bits bytes used d e = number_unread (a_signed bits) (λ a. signed_at bits a 0) (signed_is_read bits) bytes used d e

-- bytes are bytes
abbrev AreBytes : List ℕ → Type 0
AreBytes bytes = (i : ℕ) → get_or bytes i 0 < 256

item_here : (i : Item) (bytes front rest : List ℕ) (v told used : ℕ) → bytes ≡ front ++ rest → used ≡ 0 + length front → IsItem i front v → IsTold i v told → IsWholeItem i bytes told used
item_here i bytes front rest v told used e l h t =
    let same : take used bytes ≡ front = ap (λ n. take n bytes) (let n : used ≡ length front = omega (arith, l) in n) ∙ ap (take (length front)) e ∙ take_front front rest in
    record {
      within = omega (arith, l, ap length e, length-append front rest);
      value = v;
      is_item = subst (λ z. IsItem i z v) (sym same) h;
      is_told = t;
    }

pub unsigned_whole : (bytes : List ℕ) (v used : ℕ) → AreBytes bytes → unsigned_at 32 bytes 0 ≡ (Ok v, used) → IsWholeItem an_unsigned bytes v used
unsigned_whole bytes v used fits e = let f = takes 32 bytes 0 v used fits e in item_here an_unsigned bytes f.front f.rest v v used f.split f.place f.spells refl

pub signed_whole : (bits : ℕ) (bytes : List ℕ) (v told used : ℕ) → AreBytes bytes → signed_at bits bytes 0 ≡ (Ok v, used) → IsWholeItem (a_signed bits) bytes told used
signed_whole bits bytes v told used fits e = let f = signed_takes bits bytes 0 v used fits e in item_here (a_signed bits) bytes f.front f.rest v told used f.split f.place f.spells tt

pub byte_whole : (b : ℕ) (bs bytes : List ℕ) → bytes ≡ b ∷ bs → IsWholeItem a_byte bytes b 1
byte_whole b bs bytes e = item_here a_byte bytes (b ∷ []) bs b b 1 e (omega arith) refl refl

pub text_whole : (n : ℕ) (bytes : List ℕ) → 0 < n → n ≤ length bytes → IsUtf8 (take n bytes) → IsWholeItem (a_name n) bytes 0 n
text_whole n bytes some l u = record { within = l; value = 0; is_item = (some, length-take-le n bytes l, u, refl); is_told = refl }

pub text_wrong : (n : ℕ) (bytes : List ℕ) → 0 < n → n ≤ length bytes → (IsUtf8 (take n bytes) → ⊥) → IsWrong (a_name n) bytes n
text_wrong n bytes some l never = record {
  some = some;
  within = l;
  before = omega (arith, some, length-take-le (n - 1) bytes (omega (arith, l)));
  never = record {
    no_part = λ p. omega (arith, p, length-take-le n bytes l);
    no_item = λ a b v e h.
        let none : length b ≡ 0 = omega (arith, ap length e, length-append a b, h.1, length-take-le n bytes l) in
        let same : take n bytes ≡ a = elim (some_or b) [ inl f ↦ e ∙ ap (λ z. a ++ z) f ∙ append-nil a | inr m ↦ absurd (omega (arith, m, none)) ] in
        never (subst (λ z. IsUtf8 z) (sym same) h.2);
  };
}

pub float_whole : (n : ℕ) (bytes : List ℕ) → 0 < n → n ≤ length bytes → IsWholeItem (a_constant_of n) bytes 0 n
float_whole n bytes some l = record { within = l; value = 0; is_item = (some, length-take-le n bytes l, refl); is_told = refl }
