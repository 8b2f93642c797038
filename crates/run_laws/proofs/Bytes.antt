-- Memories stay in range: loads, stores, pieces and growth.
use Rattle.std.proofs.Common.{◌≡◌, ℕ, zero, suc, ◌+◌, ◌*◌, ◌/◌, ◌%◌, ◌^◌, ◌<◌, ◌≤◌, Bool, true, false, cond, leb, List, [], ◌∷◌, ◌++◌, length, take, drop, replicate, Option, Some, None, All, refl, sym, ◌∙◌, ap, subst, arith, length-append}
use Rattle.std.specs.Int.{bytes_low_first, byte_at}
use Rattle.std.proofs.lemmas.Nat.{mod_below}
use Rattle.std.proofs.lemmas.Bool.{leb-true}
use Rattle.std.proofs.lemmas.List.{length-replicate}
use Rattle.std.proofs.lemmas.List.Elements.{All-nil, All-cons, All-head, All-tail, All-append, All-take, All-drop, All-replicate}
use Rattle.std.proofs.Math.Nat.{pow-suc, pow-le-pow_right}
use Rattle.wa_types.specs.Memory.{Memory, IsWholePages, page_size, pages_of, page_bound, bytes_of, number_of_bytes, bytes_at, overwritten, with_piece, with_number, copied, filled_with, grown}
use Rattle.wa_types.proofs.MemoryLemmas.{length-overwritten}
use Rattle.run_laws.specs.Ranges.{byte_in, MemoryIn}

-- ---- numbers as bytes

byte_at_in : (i n : ℕ) → byte_at i n < 256
byte_at_in zero n = mod_below n 256 (omega arith)
byte_at_in (suc i) n = mod_below (n / 256 ^ suc i) 256 (omega arith)

low_first_in : (i k n : ℕ) → All byte_in (bytes_low_first i k n)
low_first_in i zero n = All-nil byte_in
low_first_in i (suc k) n = All-cons byte_in (byte_at i n) (bytes_low_first (suc i) k n) (byte_at_in i n) (low_first_in (suc i) k n)

pub bytes_of_in : (width n : ℕ) → All byte_in (bytes_of width n)
bytes_of_in width n = low_first_in 0 width n

spelled_in : (bytes : List ℕ) → All byte_in bytes → number_of_bytes bytes < 256 ^ length bytes
spelled_in [] h = omega arith
spelled_in (b ∷ bytes) h =
    let rest = spelled_in bytes (All-tail byte_in b bytes h) in
    let first : b < 256 = All-head byte_in b bytes h in
    omega (arith, pow-suc 256 (length bytes))

pub length-take-most : {X : Type 0} (n : ℕ) (xs : List X) → length (take n xs) ≤ n
length-take-most zero xs = omega arith
length-take-most (suc n) [] = omega arith
length-take-most (suc n) (x ∷ xs) = let h : length (take n xs) ≤ n = length-take-most n xs in omega arith

-- the number that bytes of a memory spell
pub number_at_in : (bytes : List ℕ) (at width : ℕ) → All byte_in bytes → number_of_bytes (bytes_at bytes at width) < 256 ^ width
number_at_in bytes at width h =
    let part = bytes_at bytes at width in
    let below = spelled_in part (All-take byte_in width (drop at bytes) (All-drop byte_in at bytes h)) in
    let most : 256 ^ length part ≤ 256 ^ width = pow-le-pow_right (let p : 0 < 256 = omega arith in p) (length-take-most width (drop at bytes)) in
    omega arith

-- ---- whole memories

pub same_pages : (xs ys : List ℕ) → length xs ≡ length ys → IsWholePages xs → IsWholePages ys
same_pages xs ys e h = record { whole = ap (λ (n : ℕ). n % page_size) (sym e) ∙ h.whole; bounded = subst (λ (n : ℕ). n ≤ 1024 * page_size) e h.bounded }

pub pages_in : (bytes : List ℕ) → IsWholePages bytes → pages_of bytes < 2 ^ 32
pages_in bytes h = let b : length bytes ≤ 1024 * 65536 = h.bounded in omega arith

pub overwritten_in : (low : ℕ) (bytes : List ℕ) (at : ℕ) (piece : List ℕ) → at + length piece ≤ length bytes → All byte_in piece → MemoryIn low bytes → MemoryIn low (overwritten bytes at piece)
overwritten_in low bytes at piece inside h ok =
    let e = length-overwritten bytes at piece inside in record {
      each =
          All-append byte_in (take at bytes ++ piece) (drop (at + length piece) bytes) (All-append byte_in (take at bytes) piece (All-take byte_in at bytes ok.each) h)
          (All-drop byte_in (at + length piece) bytes ok.each);
      pages = same_pages bytes (overwritten bytes at piece) (sym e) ok.pages;
      least = subst (λ (n : ℕ). low ≤ n) (sym e) ok.least;
    }

-- what an access of memory gives
abbrev pub MemoryGiven : ℕ → Option (List ℕ) → Type 0
MemoryGiven low None = Unit {0}
MemoryGiven low (Some bytes) = MemoryIn low bytes

pub with_piece_in : (low : ℕ) (bytes : List ℕ) (at : ℕ) (piece : List ℕ) → All byte_in piece → MemoryIn low bytes → MemoryGiven low (with_piece bytes at piece)
with_piece_in low bytes at piece h ok = by_place (leb (at + length piece) (length bytes)) refl
  where
    by_place : (b : Bool) → leb (at + length piece) (length bytes) ≡ b → MemoryGiven low (cond b (Some (overwritten bytes at piece)) None)
    by_place true e = overwritten_in low bytes at piece (leb-true _ _ e) h ok
    by_place false e = tt

pub with_number_in : (low : ℕ) (bytes : List ℕ) (at width n : ℕ) → MemoryIn low bytes → MemoryGiven low (with_number bytes at width n)
with_number_in low bytes at width n ok = with_piece_in low bytes at (bytes_of width n) (bytes_of_in width n) ok

pub copied_in : (low : ℕ) (bytes : List ℕ) (to from n : ℕ) → MemoryIn low bytes → MemoryGiven low (copied bytes to from n)
copied_in low bytes to from n ok = by_source (leb (from + n) (length bytes))
  where
    by_source : (b : Bool) → MemoryGiven low (cond b (with_piece bytes to (bytes_at bytes from n)) None)
    by_source true = with_piece_in low bytes to (bytes_at bytes from n) (All-take byte_in n (drop from bytes) (All-drop byte_in from bytes ok.each)) ok
    by_source false = tt

pub filled_in : (low : ℕ) (bytes : List ℕ) (at v n : ℕ) → MemoryIn low bytes → MemoryGiven low (filled_with bytes at (v % 256) n)
filled_in low bytes at v n ok = with_piece_in low bytes at (replicate n (v % 256)) (All-replicate byte_in n (v % 256) (mod_below v 256 (omega arith))) ok

bound_small : (most : Option ℕ) → page_bound most ≤ 1024
bound_small None = omega arith
bound_small (Some most) = omega arith

abbrev pub GrownGiven : ℕ → Option Memory → Type 0
GrownGiven low None = Unit {0}
GrownGiven low (Some m) = MemoryIn low m.bytes

pub grown_in : (low : ℕ) (bytes : List ℕ) (most : Option ℕ) (n : ℕ) → MemoryIn low bytes → GrownGiven low (grown (record { bytes = bytes; max = most }) n)
grown_in low bytes most n ok = by_bound (leb (pages_of bytes + n) (page_bound most)) refl
  where
    longer : length (bytes ++ replicate (n * 65536) 0) ≡ length bytes + n * 65536
    longer = length-append bytes (replicate (n * 65536) 0) ∙ ap (λ (k : ℕ). length bytes + k) (length-replicate (n * 65536) 0)

    by_bound : (b : Bool) → leb (pages_of bytes + n) (page_bound most) ≡ b → GrownGiven low (cond b (Some (record { bytes = bytes ++ replicate (n * page_size) 0; max = most })) None)
    by_bound true e =
        let few : length bytes / 65536 + n ≤ page_bound most = leb-true _ _ e in
        let whole : length bytes % 65536 ≡ 0 = ok.pages.whole in
        let least : low ≤ length bytes = ok.least in record {
          each = All-append byte_in bytes (replicate (n * page_size) 0) ok.each (All-replicate byte_in (n * page_size) 0 (omega arith));
          pages = record { whole = omega (arith, longer); bounded = omega (arith, longer, bound_small most) };
          least = omega (arith, longer);
        }
    by_bound false e = tt
