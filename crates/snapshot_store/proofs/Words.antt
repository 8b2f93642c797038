-- Numbers at the front of bytes.
use Rattle.std.proofs.Common.{◌≡◌, ℕ, ◌+◌, ◌-◌, ◌<◌, List, ◌∷◌, ◌++◌, length, take, drop, get_or, inl, inr, subst, sym, ◌∙◌, ap, arith, length-drop, drop-cons, add-one}
use Rattle.std.proofs.lemmas.List.{take_all, take-append-drop, drop-drop, length-take-le, get_or-take, get_or-drop, get_or_past}
use Rattle.std.proofs.lemmas.Bool.{cases_lt}
use Rattle.std.proofs.lemmas.Nat.{le_bytes_4, le_bytes_8}
use Rattle.std.specs.Int.{w32, w64, from_le_bytes}
use Rattle.std.specs.Array.{IsFirstChunk}
use Rattle.wa_types.specs.Memory.{bytes_of}

-- the first bytes from a place on, and those behind them
in_two : (bytes word : List ℕ) (at width : ℕ) → IsFirstChunk (drop at bytes) word width → drop at bytes ≡ word ++ drop (at + width) bytes
in_two bytes word at width h =
    sym (take-append-drop width (drop at bytes)) ∙ ap (λ (xs : List ℕ). xs ++ drop width (drop at bytes)) (sym h.same) ∙ ap (λ (xs : List ℕ). word ++ xs) (drop-drop width at bytes)

-- bytes from a place on, as a slice to their end has them
rest_is : (bytes : List ℕ) (at : ℕ) → take (length bytes - at) (drop at bytes) ≡ drop at bytes
rest_is bytes at = take_all (length bytes - at) (drop at bytes) (omega (arith, length-drop at bytes))

abbrev pub rest_of : List ℕ → ℕ → List ℕ
rest_of bytes at = take (length bytes - at) (drop at bytes)

in_front : (bytes word : List ℕ) (at width : ℕ) → IsFirstChunk (rest_of bytes at) word width → IsFirstChunk (drop at bytes) word width
in_front bytes word at width h = subst (λ (xs : List ℕ). IsFirstChunk xs word width) (rest_is bytes at) h

-- bytes of a file are bytes
few_part : (bytes word : List ℕ) (at width : ℕ) → ((i : ℕ) → get_or bytes i 0 < 256) → IsFirstChunk (drop at bytes) word width → (i : ℕ) → get_or word i 0 < 256
few_part bytes word at width few h i = elim (cases_lt i width) [
  | inl l ↦ subst (λ n. n < 256) (sym (ap (λ (xs : List ℕ). get_or xs i 0) h.same ∙ get_or-take width (drop at bytes) i 0 l ∙ get_or-drop at bytes i 0)) (few (at + i))
  | inr l ↦ subst (λ n. n < 256) (sym (get_or_past word i 0 (omega (arith, ap length h.same, length-take-le width (drop at bytes) h.enough)))) (omega arith)
]

pub word_stands : (bytes word : List ℕ) (at n : ℕ) → IsFirstChunk (rest_of bytes at) word 4 → ((i : ℕ) → get_or bytes i 0 < 256) → n ≡ from_le_bytes w32 word
    → drop at bytes ≡ bytes_of 4 n ++ drop (at + 4) bytes
word_stands bytes word at n h few e =
    let h = in_front bytes word at 4 h in
    in_two bytes word at 4 h
    ∙ ap (λ (xs : List ℕ). xs ++ drop (at + 4) bytes) (sym (le_bytes_4 word n (ap length h.same ∙ length-take-le 4 (drop at bytes) h.enough) (few_part bytes word at 4 few h) e))

pub long_stands : (bytes word : List ℕ) (at n : ℕ) → IsFirstChunk (rest_of bytes at) word 8 → ((i : ℕ) → get_or bytes i 0 < 256) → n ≡ from_le_bytes w64 word
    → drop at bytes ≡ bytes_of 8 n ++ drop (at + 8) bytes
long_stands bytes word at n h few e =
    let h = in_front bytes word at 8 h in
    in_two bytes word at 8 h
    ∙ ap (λ (xs : List ℕ). xs ++ drop (at + 8) bytes) (sym (le_bytes_8 word n (ap length h.same ∙ length-take-le 8 (drop at bytes) h.enough) (few_part bytes word at 8 few h) e))

-- the byte at a place, and those behind it
pub byte_here : (bytes : List ℕ) (at n : ℕ) → at < length bytes → get_or bytes at 0 ≡ n → drop at bytes ≡ n ∷ drop (at + 1) bytes
byte_here bytes at n h e = drop-cons bytes at 0 h ∙ (λ i. e i ∷ drop (sym (add-one at) i) bytes)
