-- How many instructions add sizes, loop by loop.
use Rattle.std.proofs.Common.{◌≡◌, ℕ, ◌+◌, ◌^◌, ◌<◌, ◌≤◌, List, [], ◌∷◌, ◌++◌, sym, ap, ◌∙◌, arith, le-leb}
use Rattle.std.specs.Prelude.{if◌then◌else◌}
use Rattle.std.proofs.lemmas.Bool.{lt-leb}
use Rattle.call_frames.specs.PlainFrames.{calls_size, shorter, WeighedCalls, weights_size}
use Rattle.live_frames.specs.Rows.{saturated}
use Rattle.live_frames.proofs.WeightSteps.{size_split}

-- ---- sums

pub size_more : (ws more all : List WeighedCalls) (size m new : ℕ) → all ≡ ws ++ more → size ≡ saturated (weights_size ws) → m ≡ saturated (weights_size more) → new ≡ saturated (size + m)
    → new ≡ saturated (weights_size all)
size_more ws more all size m new e is im n =
    let s = size_split ws more in
    let w = ap weights_size e in
    omega (arith, s, w, is, im, n)

-- what one row of calls adds, told as of a list
pub size_alone : (ks : List ℕ) (w : WeighedCalls) (m : ℕ) → ks ≡ w.calls → m ≡ saturated (calls_size ks + 3) → m ≡ saturated (weights_size (w ∷ []))
size_alone ks w m e is =
    let z : saturated (calls_size w.calls + 3) ≡ saturated (calls_size w.calls + 3 + 0) = omega arith in
    is ∙ ap (λ xs. saturated (calls_size xs + 3)) e ∙ z

-- ---- the choice

pub digits_taken : (ds ws xs : List WeighedCalls) (d w : ℕ) → xs ≡ ds → weights_size xs < 2 ^ 64 → d ≡ saturated (weights_size xs) → w ≡ saturated (weights_size ws) → d ≤ w → xs ≡ shorter ds ws
digits_taken ds ws xs d w e small dm wm le =
    let n = ap weights_size e in
    e ∙ ap (λ b. if b then ds else ws) (sym (le-leb (weights_size ds) (weights_size ws) (omega (arith, n, small, dm, wm, le))))

pub parts_taken : (ds ws xs : List WeighedCalls) (d w : ℕ) → xs ≡ ds → d ≡ saturated (weights_size xs) → w ≡ saturated (weights_size ws) → w < d → ws ≡ shorter ds ws
parts_taken ds ws xs d w e dm wm lt =
    let n = ap weights_size e in
    ap (λ b. if b then ds else ws) (sym (lt-leb (weights_size ds) (weights_size ws) (omega (arith, n, dm, wm, lt))))
