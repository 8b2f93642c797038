-- What parts and digits add, one more behind.
use Rattle.std.proofs.Common.{◌≡◌, ℕ, zero, suc, ◌+◌, ◌<◌, ◌≤◌, max, List, [], ◌∷◌, ◌++◌, length, take, get_or, refl, sym, ap, ◌∙◌, arith}
use Rattle.std.proofs.lemmas.List.{map_more}
use Rattle.std.specs.Prelude.{if◌then◌else◌}
use Rattle.wa_types.specs.declared.instrs.Instr.{Instr}
use Rattle.wa_types.specs.Syntax.{Code}
use Rattle.wa_types.specs.View.{onto}
use Rattle.local_spill.specs.Putting.{Puts}
use Rattle.frame_laws.specs.Layout.{fields_size}
use Rattle.call_frames.specs.PlainFrames.{SavedPart, at_every, at_these, at_calls, is_one_of, part_weights, weighed, WeighedCalls, weight_at, weights_added, weights_end, weights_size}
use Rattle.call_frames.specs.declared.frames.KeptPart.{KeptPart}
use Rattle.call_frames.specs.Views.{part_view, part_views}
use Rattle.live_frames.specs.declared.digits.Plane.{Plane}
use Rattle.live_frames.specs.Digits.{plane_view, plane_views}

-- what parts add, and what one of them does
abbrev pub weights_in : List KeptPart → List WeighedCalls
weights_in ps = part_weights (part_views ps)

abbrev pub weights_of : KeptPart → List WeighedCalls
weights_of p = part_weights (part_view p ∷ [])

weights_behind : (ps : List SavedPart) (p : SavedPart) → part_weights (ps ++ p ∷ []) ≡ part_weights ps ++ part_weights (p ∷ [])
weights_behind [] p = refl
weights_behind (at_every fs ∷ ps) p = weights_behind ps p
weights_behind (at_these ks fs ∷ ps) p = ap (λ (ws : List WeighedCalls). record { calls = ks; bytes = fields_size fs } ∷ ws) (weights_behind ps p)

pub weights_more : (xs : List KeptPart) (i : ℕ) (d : KeptPart) → i < length xs → weights_in (take (i + 1) xs) ≡ weights_in (take i xs) ++ weights_of (get_or xs i d)
weights_more xs i d lt = ap part_weights (map_more part_view xs i d lt) ∙ weights_behind (part_views (take i xs)) (part_view (get_or xs i d))

pub planes_more : (xs : List Plane) (i : ℕ) (d : Plane) → i < length xs → plane_views (take (i + 1) xs) ≡ plane_views (take i xs) ++ plane_view (get_or xs i d) ∷ []
planes_more xs i d lt = map_more plane_view xs i d lt

pub size_split : (xs ys : List WeighedCalls) → weights_size (xs ++ ys) ≡ weights_size xs + weights_size ys
size_split [] ys = omega arith
size_split (x ∷ xs) ys = let ih = size_split xs ys in omega (arith, ih)

pub end_split : (xs ys : List WeighedCalls) → weights_end (xs ++ ys) ≡ max (weights_end xs) (weights_end ys)
end_split [] ys = omega arith
end_split (x ∷ xs) ys = let ih = end_split xs ys in omega (arith, ih)

pub at_split : (k : ℕ) (xs ys : List WeighedCalls) → weight_at k (xs ++ ys) ≡ weight_at k xs + weight_at k ys
at_split k [] ys = omega arith
at_split k (x ∷ xs) ys =
    let ih = at_split k xs ys in
    let mine = if is_one_of x.calls k then x.bytes else 0 in
    let z : mine + (weight_at k xs + weight_at k ys) ≡ mine + weight_at k xs + weight_at k ys = omega arith in
    ap (λ n. mine + n) ih ∙ z

-- no call of a part is above the end of all parts
pub part_end_within : (xs : List KeptPart) (i : ℕ) (d : KeptPart) → i < length xs → weights_end (weights_of (get_or xs i d)) ≤ weights_end (weights_in xs)
part_end_within [] i d lt = absurd (omega (arith, lt))
part_end_within (x ∷ xs) zero d lt = by (part_view x)
  where
    by : (p : SavedPart) → weights_end (part_weights (p ∷ [])) ≤ weights_end (part_weights (p ∷ part_views xs))
    by (at_every fs) = omega arith
    by (at_these ks fs) = omega arith
part_end_within (x ∷ xs) (suc i) d lt = by (part_view x) (part_end_within xs i d (omega (arith, lt)))
  where
    by : (p : SavedPart) → weights_end (weights_of (get_or xs i d)) ≤ weights_end (weights_in xs) → weights_end (weights_of (get_or xs i d)) ≤ weights_end (part_weights (p ∷ part_views xs))
    by (at_every fs) ih = ih
    by (at_these ks fs) ih = omega (arith, ih)

added_split : (index : ℕ) (xs ys : List WeighedCalls) (c : Code) → weights_added index (xs ++ ys) c ≡ weights_added index xs (weights_added index ys c)
added_split index [] ys c = refl
added_split index (x ∷ xs) ys c = ap (λ z. at_calls index x.calls (weighed x.bytes z)) (added_split index xs ys c)

-- ---- what is put

pub added_step : (old mid new : List Instr) (index : ℕ) (ws more all : List WeighedCalls) → all ≡ ws ++ more → Puts old mid (weights_added index ws) → Puts mid new (weights_added index more)
    → Puts old new (weights_added index all)
added_step old mid new index ws more all e h k rest =
    k rest ∙ h (weights_added index more rest) ∙ ap (onto old) (sym (added_split index ws more rest) ∙ ap (λ xs. weights_added index xs rest) (sym e))

pub added_same : (old new : List Instr) (index : ℕ) (ws all : List WeighedCalls) → ws ≡ all → Puts old new (weights_added index ws) → Puts old new (weights_added index all)
added_same old new index ws all e h rest = h rest ∙ ap (λ xs. onto old (weights_added index xs rest)) e

-- one row of calls
pub alone_put : (old new : List Instr) (index : ℕ) (ks : List ℕ) (w : WeighedCalls) → ks ≡ w.calls → Puts old new (λ c. at_calls index ks (weighed w.bytes c))
    → Puts old new (weights_added index (w ∷ []))
alone_put old new index ks w e h rest = h rest ∙ ap (λ xs. onto old (at_calls index xs (weighed w.bytes rest))) e
