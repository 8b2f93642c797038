-- Bytes that come in several pieces.
use Rattle.std.proofs.Common.{◌≡◌, ◌⊎◌, ◌≤◌, ◌+◌, ◌-◌, ℕ, List, [], ◌++◌, length, take, drop, Some, refl, sym, ap, ◌∙◌, inl, inr, append_assoc, unwrap_or, length-append, arith}
use Rattle.std.proofs.lemmas.List.{take-append-drop, take-take, drop-take, take_all, take_at, length-take-le, length-drop}
use borrow.Rule.Slice.PartMut.{put_mid, post_of}
use Rattle.vault_port.specs.Files.{Files, bytes_of, ChangesOnly, ChangesAtMost, HoldsFrontAtMost, KeepsOthers, IsFetched, FetchesMore}
use Rattle.vault_port.specs.Taken.{Appends}

pub take-add : (m n : ℕ) (xs : List ℕ) → take (m + n) xs ≡ take m xs ++ take n (drop m xs)
take-add m n xs =
    let whole = take-append-drop m (take (m + n) xs) in
    let front : take m (take (m + n) xs) ≡ take m xs = take-take m (m + n) xs (omega arith) in
    let back : drop m (take (m + n) xs) ≡ take n (drop m xs) = drop-take m n xs in
    cc

-- one piece taken after others
pub Appends_more : (bytes piece : List ℕ) (done n : ℕ) → piece ≡ drop done bytes → (old mid new : List ℕ) → Appends (take done bytes) old mid → Appends (take n piece) mid new
    → Appends (take (done + n) bytes) old new
Appends_more bytes piece done n is old mid new before now =
    let step = take-add done n bytes in
    let joined = append_assoc old (take done bytes) (take n (drop done bytes)) in
    cc

-- the first bytes are written, where there are any, or nothing was done
abbrev pub HasFront : List ℕ → List ℕ → ℕ → Files → Files → Type 0
HasFront name bytes done old new = ChangesOnly name (take done bytes) old new ⊎ ((done ≡ 0) × (new ≡ old))

-- what a file holds
holds : (name bytes : List ℕ) (files : Files) → files name ≡ Some bytes → bytes_of files name ≡ bytes
holds name bytes files is = ap (λ file. unwrap_or file []) is

none_taken : (done : ℕ) (xs ys : List ℕ) → done ≡ 0 → take done xs ≡ take done ys
none_taken done xs ys is = rw is refl

front_is : (name bytes : List ℕ) (done : ℕ) (old new : Files) → HasFront name bytes done old new → take done (bytes_of new name) ≡ take done bytes
front_is name bytes done old new (inl changes) =
    ap (take done) (holds name (take done bytes) new changes.changed) ∙ take-take done done bytes (omega arith)
front_is name bytes done old new (inr same) = none_taken done (bytes_of new name) bytes same.0

others_then : (name : List ℕ) (old mid new : Files) → KeepsOthers name old mid → KeepsOthers name mid new → KeepsOthers name old new
others_then name old mid new first second other differs = second other differs ∙ first other differs

others_since : (name bytes : List ℕ) (done : ℕ) (old mid new : Files) → HasFront name bytes done old mid → KeepsOthers name mid new → KeepsOthers name old new
others_since name bytes done old mid new (inl changes) kept other differs =
    others_then name old mid new changes.others kept other differs
others_since name bytes done old mid new (inr same) kept other differs =
    kept other differs ∙ ap (λ files. files other) same.1

-- one piece saved behind the first bytes
pub HasFront_more : (name bytes piece : List ℕ) (done n : ℕ) → piece ≡ drop done bytes → (old mid new : Files) → HasFront name bytes done old mid
    → ChangesOnly name (take done (bytes_of mid name) ++ take n piece) mid new → ChangesOnly name (take (done + n) bytes) old new
HasFront_more name bytes piece done n rest old mid new front saved =
    let step = take-add done n bytes in
    let is = front_is name bytes done old mid front in
    let joined : take done (bytes_of mid name) ++ take n piece ≡ take (done + n) bytes = cc in
    record {
      changed = saved.changed ∙ ap Some joined;
      others = others_since name bytes done old mid new front saved.others;
    }

-- the file has these first bytes at least
pub HasFront_within : (name bytes : List ℕ) (done : ℕ) → done ≤ length bytes → (old new : Files) → HasFront name bytes done old new → done ≤ length (bytes_of new name)
HasFront_within name bytes done within old new (inl changes) =
    omega (arith, ap length (holds name (take done bytes) new changes.changed), length-take-le done bytes within)
HasFront_within name bytes done within old new (inr same) = omega (arith, same.0)

-- the last piece saved behind the first bytes
pub HasFront_all : (name bytes piece : List ℕ) (done n : ℕ) → piece ≡ drop done bytes → length bytes ≤ done + n → (old mid new : Files) → HasFront name bytes done old mid
    → ChangesOnly name (take done (bytes_of mid name) ++ take n piece) mid new → ChangesOnly name bytes old new
HasFront_all name bytes piece done n rest over old mid new front saved =
    let now = HasFront_more name bytes piece done n rest old mid new front saved in
    record { changed = now.changed ∙ ap Some (take_all (done + n) bytes over); others = now.others }

as_before : (name bytes : List ℕ) (done : ℕ) (old mid new : Files) → HasFront name bytes done old mid → new name ≡ mid name
    → ((n : ℕ) × (new name ≡ Some (take n bytes))) ⊎ (new name ≡ old name)
as_before name bytes done old mid new (inl changes) is = inl (done, is ∙ changes.changed)
as_before name bytes done old mid new (inr same) is = inr (is ∙ ap (λ files. files name) same.1)

-- nothing, or no more than the first bytes, is left of a piece that was refused
pub HasFront_cut : (name bytes : List ℕ) (done : ℕ) (old mid new : Files) → HasFront name bytes done old mid → ChangesAtMost name (take done (bytes_of mid name)) mid new
    → HoldsFrontAtMost name bytes old new
HasFront_cut name bytes done old mid new front cut =
    record {
      changed = elim cut.changed [
        | inl is ↦ inl (done, is ∙ ap Some (front_is name bytes done old mid front))
        | inr same ↦ as_before name bytes done old mid new front same
      ];
      others = others_since name bytes done old mid new front cut.others;
    }

-- one piece fetched behind the first bytes: k is the length of the buffer's part behind them, which was `old`
pub FetchesMore_by : (bytes buffer old new : List ℕ) (done n k : ℕ) → done ≤ length buffer → length old ≡ length buffer - done → IsFetched bytes done n old new
    → FetchesMore bytes done n buffer (put_mid done k buffer new)
FetchesMore_by bytes buffer old new done n k within long fetched =
    record {
      more = λ front. record {
        there = omega (arith, fetched.there, front.there);
        same =
            let first = take done buffer in
            let next = take n (drop done bytes) in
            let rest = drop n old ++ post_of done k buffer in
            let n_next : length next ≡ n = length-take-le n (drop done bytes) (omega (arith, length-drop done bytes, fetched.there)) in
            let n_both : length (first ++ next) ≡ done + n = omega (arith, length-append first next, length-take-le done buffer within) in
            let joined : put_mid done k buffer new ≡ (first ++ next) ++ rest = ap (λ part. first ++ (part ++ post_of done k buffer)) fetched.buffer
            ∙ ap (λ part. first ++ part) (append_assoc next (drop n old) (post_of done k buffer)) ∙ sym (append_assoc first next rest) in
            let cut : take (done + n) ((first ++ next) ++ rest) ≡ first ++ next = take_at (first ++ next) rest (done + n) n_both in
            ap (take (done + n)) joined ∙ cut ∙ ap (λ part. part ++ next) front.same ∙ sym (take-add done n bytes);
      };
      none = λ is. elim (fetched.none is) [ inl empty ↦ inl (omega arith) | inr over ↦ inr over ];
    }
