-- Tests that are put row by row.
use Rattle.std.proofs.Common.{◌≡◌, ℕ, Bool, false, nat_eq, ◌+◌, ◌<◌, ◌≤◌, List, [], ◌∷◌, length, drop, get_or, refl, sym, ap, ◌∙◌, arith}
use Rattle.std.proofs.lemmas.List.{drop_all, drop_more}
use Rattle.wa_types.specs.declared.instrs.Instr.{Instr}
use Rattle.wa_types.specs.declared.operators.NumOp.TheVariants.{I32Or}
use Rattle.wa_types.specs.declared.values.Value.TheVariants as V
use Rattle.wa_types.specs.Syntax.{const, num, basic, Code, plain}
use Rattle.wa_types.specs.View.{onto}
use Rattle.local_spill.specs.Putting.{Puts}
use Rattle.call_frames.specs.CallTests.{CallRow, at_either, at_row, row_test}
use Rattle.call_frames.specs.PlainFrames.{or_rows, at_rows}
use Rattle.call_frames.specs.CallRows.{row_view, row_views}
use Rattle.call_frames.specs.declared.rows.Row.{Row}
use Rattle.live_frames.specs.Rows.{rows_joined}

-- a test joined with those of more rows
pub joined_is : (index : ℕ) (rs : List CallRow) (test : Code → Code) (c : Code) → or_rows index test rs c ≡ test (rows_joined index rs c)
joined_is index [] test c = refl
joined_is index (r ∷ rs) test c = joined_is index rs (at_either test (at_row index r)) c

-- the test of a row, its case told
pub row_put : (old new : List Instr) (index : ℕ) (r : CallRow) (one from_0 : Bool) → nat_eq r.more 0 ≡ one → nat_eq r.first 0 ≡ from_0 → Puts old new (row_test one from_0 index r.first r.more)
    → Puts old new (at_row index r)
row_put old new index r one from_0 e f h rest =
    h rest ∙ ap (λ b. onto old (row_test b from_0 index r.first r.more rest)) (sym e) ∙ ap (λ b. onto old (row_test (nat_eq r.more 0) b index r.first r.more rest)) (sym f)

-- What is put, with the tests of the rows from a place on, is that of all rows.
abbrev pub Owes : (old new : List Instr) → (index : ℕ) → (rows : List Row) → (at : ℕ) → Type 0
Owes old new index rows at = (rest : Code) → onto new (rows_joined index (row_views (drop at rows)) rest) ≡ onto old (at_rows index (row_views rows) rest)

pub row_first : (old new : List Instr) (index : ℕ) (rows : List Row) (d : Row) → 0 < length rows → Puts old new (at_row index (row_view (get_or rows 0 d))) → Owes old new index rows 1
row_first old new index [] d lt h rest = absurd (omega (arith, lt))
row_first old new index (r ∷ rs) d lt h rest = h (rows_joined index (row_views rs) rest) ∙ ap (onto old) (sym (joined_is index (row_views rs) (at_row index (row_view r)) rest))

pub row_next : (old mid mid2 new : List Instr) (index : ℕ) (rows : List Row) (at : ℕ) (d : Row) → at < length rows → Puts mid mid2 (at_row index (row_view (get_or rows at d)))
    → Puts mid2 new (λ c. plain (basic (num I32Or)) c) → Owes old mid index rows at → Owes old new index rows (at + 1)
row_next old mid mid2 new index rows at d lt h o before rest =
    let others : Code = rows_joined index (row_views (drop (at + 1) rows)) rest in
    o others ∙ h (plain (basic (num I32Or)) others) ∙ ap (λ rs. onto mid (rows_joined index (row_views rs) rest)) (sym (drop_more rows at d lt)) ∙ before rest

pub rows_end : (old new : List Instr) (index : ℕ) (rows : List Row) (at : ℕ) → length rows ≤ at → Owes old new index rows at → Puts old new (at_rows index (row_views rows))
rows_end old new index rows at le h rest = ap (λ rs. onto new (rows_joined index (row_views rs) rest)) (sym (drop_all at rows le)) ∙ h rest

pub some_rows : (rows : List Row) (r : Bool) → r ≡ nat_eq (length rows) 0 → r ≡ false → 0 < length rows
some_rows [] r e f = let bad : ⊥ = cc in absurd bad
some_rows (x ∷ xs) r e f = omega arith

pub none_put : (old new : List Instr) (index : ℕ) (rows : List Row) → length rows ≡ 0 → Puts old new (λ c. plain (basic (const (V.I32 0))) c) → Puts old new (at_rows index (row_views rows))
none_put old new index [] e h rest = h rest
none_put old new index (r ∷ rs) e h rest = absurd (omega (arith, e))
