-- Entries that are put one by one, and counted.
use Rattle.std.proofs.Common.{◌≡◌, ◌∙◌, ℕ, ◌+◌, ◌-◌, ◌<◌, ◌≤◌, ◌^◌, min, List, [], ◌++◌, ap, arith, length, length-append}
use Rattle.leb_numbers.specs.Leb.{shortest}
use Rattle.wa_types.specs.Encoding.{sized}
use Rattle.wasm_encode.specs.declared.held.CodeEntries.{CodeEntries}
use Rattle.wasm_encode.specs.Around.{HoldsEntries}

pub sized_length : (bytes : List ℕ) → length (sized bytes) ≡ length (shortest (length bytes)) + length bytes
sized_length bytes = length-append (shortest (length bytes)) bytes

-- how many bytes there are with an entry more
counted_more : (old new size : ℕ) (es more : List ℕ) → old ≡ min (length es) (2 ^ 64 - 1) → size ≡ length more → new ≡ min (old + size) (2 ^ 64 - 1)
    → new ≡ min (length (es ++ more)) (2 ^ 64 - 1)
counted_more old new size es more before is after = let l = length-append es more in omega (arith, l, before, is, after)

-- there are more than may be kept
pub more_counted : (old new : CodeEntries) (size : ℕ) (es more : List ℕ) → HoldsEntries old es → size ≡ length more → new.len ≡ min (old.len + size) (2 ^ 64 - 1) → 67108864 < new.len
    → new.bytes.items ≡ [] → HoldsEntries new (es ++ more)
more_counted old new size es more h is after past none =
    let counted = counted_more old.len new.len size es more h.len is after in
    let dropped = ap (λ bs. length bs) none in
    record { len = counted; bytes = λ le. absurd (omega (arith, counted, past, le)); kept = omega (arith, dropped) }

-- one more is kept
pub more_kept : (old new : CodeEntries) (size : ℕ) (es more : List ℕ) → HoldsEntries old es → size ≡ length more → new.len ≡ min (old.len + size) (2 ^ 64 - 1) → new.len ≤ 67108864
    → new.bytes.items ≡ old.bytes.items ++ more → HoldsEntries new (es ++ more)
more_kept old new size es more h is after within put =
    record {
      len = counted;
      bytes = here;
      kept = let all = ap (λ bs. length bs) (here (omega (arith, counted, within))) in omega (arith, all, counted, within);
    }
  where
    counted : new.len ≡ min (length (es ++ more)) (2 ^ 64 - 1)
    counted = counted_more old.len new.len size es more h.len is after

    here : length (es ++ more) ≤ 67108864 → new.bytes.items ≡ es ++ more
    here le = let l = length-append es more in put ∙ ap (λ bs. bs ++ more) (h.bytes (omega (arith, l, le)))
