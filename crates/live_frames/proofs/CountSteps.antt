-- How many instructions are counted, loop by loop.
use Rattle.std.proofs.Common.{◌≡◌, ℕ, ◌+◌, ◌*◌, ◌<◌, ◌≤◌, List, [], ◌∷◌, length, drop, get_or, true, false, refl, sym, ap, ◌∙◌, arith}
use Rattle.std.proofs.lemmas.List.{drop_all}
use Rattle.call_frames.specs.CallRows.{row_view, row_views}
use Rattle.call_frames.specs.CallTests.{row_size}
use Rattle.call_frames.specs.declared.rows.Row.{Row}
use Rattle.call_frames.proofs.RowLemmas.{joined_next}
use Rattle.call_frames.specs.PlainFrames.{by_words, calls_size, calls_test_size, joined_size, rows_of, rows_size, words_behind}
use Rattle.live_frames.specs.Rows.{saturated}

-- ---- rows

-- what is counted, with the rows from a place on, is all rows
abbrev pub Counts : (size : ℕ) → (rows : List Row) → (at : ℕ) → Type 0
Counts size rows at = saturated (size + joined_size (row_views (drop at rows))) ≡ saturated (rows_size (row_views rows))

pub counts_first : (rows : List Row) (d : Row) (size : ℕ) → 0 < length rows → size ≡ row_size (row_view (get_or rows 0 d)) → Counts size rows 1
counts_first [] d size lt e = absurd (omega (arith, lt))
counts_first (r ∷ rs) d size lt e = ap (λ n. saturated (n + joined_size (row_views rs))) e

saturated_on : (a b c : ℕ) → saturated (saturated (a + b) + c) ≡ saturated (a + (b + c))
saturated_on a b c = omega arith

pub counts_next : (rows : List Row) (at size more new : ℕ) (d : Row) → at < length rows → more ≡ row_size (row_view (get_or rows at d)) + 1 → new ≡ saturated (size + more)
    → Counts size rows at → Counts new rows (at + 1)
counts_next rows at size more new d lt e n h =
    let rest = joined_size (row_views (drop (at + 1) rows)) in
    ap (λ x. saturated (x + rest)) n ∙ saturated_on size more rest ∙ ap (λ x. saturated (size + (x + rest))) e ∙ ap (λ x. saturated (size + x)) (sym (joined_next rows at d lt)) ∙ h

pub counts_last : (rows : List Row) (at size : ℕ) → length rows ≤ at → size ≤ 18446744073709551615 → Counts size rows at → size ≡ saturated (rows_size (row_views rows))
counts_last rows at size le small h =
    let none = ap (λ rs. joined_size (row_views rs)) (drop_all at rows le) in
    let z : size ≡ saturated (size + joined_size (row_views (drop at rows))) = omega (arith, none, small) in
    z ∙ h

pub no_rows : (rows : List Row) → length rows ≡ 0 → 1 ≡ saturated (rows_size (row_views rows))
no_rows [] e = refl
no_rows (r ∷ rs) e = absurd (omega (arith, e))

-- ---- tests

pub by_words_size : (calls : List ℕ) (n : ℕ) → by_words calls ≡ true → n ≡ words_behind calls → words_behind calls ≤ 1000 → 5 * n + 7 ≡ saturated (calls_size calls)
by_words_size calls n e is few =
    let z : 5 * n + 7 ≡ saturated (calls_test_size true calls) = omega (arith, is, few) in
    z ∙ ap (λ b. saturated (calls_test_size b calls)) (sym e)

pub by_rows_size : (calls : List ℕ) (n : ℕ) → by_words calls ≡ false → n ≡ saturated (rows_size (rows_of calls)) → n ≡ saturated (calls_size calls)
by_rows_size calls n e is = is ∙ ap (λ b. saturated (calls_test_size b calls)) (sym e)
