-- The bytes of fields and of parts, one more behind.
use Rattle.std.proofs.Common.{◌≡◌, ℕ, zero, suc, All, ◌+◌, ◌*◌, ◌<◌, ◌≤◌, List, [], ◌∷◌, ◌++◌, length, take, get_or, ap, ◌∙◌, arith, length-take}
use Rattle.std.proofs.lemmas.List.{map_more, length-map}
use Rattle.std.proofs.lemmas.List.Elements.{All-head, All-tail}
use Rattle.wa_types.specs.declared.values.ValType.{ValType}
use Rattle.wa_types.specs.declared.values.ValType.TheVariants.{I32, I64}
use Rattle.wa_types.specs.Frames.{width}
use Rattle.frame_laws.specs.Layout.{FrameField, kept, gap, fields_size}
use Rattle.call_frames.specs.FrameParts.{shared_size}
use Rattle.call_frames.specs.PlainFrames.{SavedPart, at_every, at_these, parts_of}
use Rattle.call_frames.proofs.FieldRows.{join_size}
use Rattle.call_frames.specs.declared.frames.KeptLocal.{KeptLocal}
use Rattle.call_frames.specs.declared.frames.KeptPart.{KeptPart}
use Rattle.call_frames.specs.Classes.{FewParts, part_fields, shared_fields}
use Rattle.call_frames.specs.Views.{kept_field, fields_of, part_view, part_views}

-- ---- sizes

width_most : (t : ValType) → width t ≤ 8
width_most I32 = omega arith
width_most I64 = omega arith

pub size_most : (xs : List KeptLocal) → fields_size (fields_of xs) ≤ 8 * length xs
size_most [] = omega arith
size_most (x ∷ xs) = let e = size_most xs in let w = width_most x.ty in omega arith

-- of the first fields
pub part_most : (xs : List KeptLocal) (i : ℕ) → fields_size (fields_of (take i xs)) ≤ 8 * length xs
part_most xs i = let e = size_most (take i xs) in let l = length-take i xs in grind arith

pub size_step : (xs : List KeptLocal) (i : ℕ) (d : KeptLocal) (off n w : ℕ) → i < length xs → n ≡ off + fields_size (fields_of (take i xs)) → w ≡ width (get_or xs i d).ty
    → n + w ≡ off + fields_size (fields_of (take (i + 1) xs))
size_step xs i d off n w lt o e =
    let k = ap fields_size (map_more kept_field xs i d lt) in
    let j = join_size (fields_of (take i xs)) (kept_field (get_or xs i d) ∷ []) in
    omega arith

-- ---- parts

-- the bytes of parts that all calls keep
abbrev pub shared_bytes : (index : ℕ) → List SavedPart → ℕ
shared_bytes index ps = shared_size (parts_of index ps)

shared_behind : (index : ℕ) (ps : List SavedPart) (p : SavedPart) → shared_bytes index (ps ++ p ∷ []) ≡ shared_bytes index ps + shared_bytes index (p ∷ [])
shared_behind index [] p = omega arith
shared_behind index (at_every fs ∷ ps) p = let ih = shared_behind index ps p in omega (arith, ih)
shared_behind index (at_these ks fs ∷ ps) p = shared_behind index ps p

bytes_most : (fs : List FrameField) → fields_size fs ≤ 8 * length fs
bytes_most [] = omega arith
bytes_most (kept x t ∷ fs) = let ih = bytes_most fs in let w = width_most t in omega (arith, ih, w)
bytes_most (gap t ∷ fs) = let ih = bytes_most fs in let w = width_most t in omega (arith, ih, w)

shared_few : (index : ℕ) (ps : List SavedPart) → shared_bytes index ps ≤ 8 * shared_fields ps
shared_few index [] = omega arith
shared_few index (at_every fs ∷ ps) = let ih = shared_few index ps in let b = bytes_most fs in omega (arith, ih, b)
shared_few index (at_these ks fs ∷ ps) = shared_few index ps

shared_take : (index : ℕ) (ps : List KeptPart) (i : ℕ) → shared_bytes index (part_views (take i ps)) ≤ shared_bytes index (part_views ps)
shared_take index [] zero = omega arith
shared_take index [] (suc i) = omega arith
shared_take index (p ∷ ps) zero = omega arith
shared_take index (p ∷ ps) (suc i) = by (part_view p) (shared_take index ps i)
  where
    by : (q : SavedPart) → shared_bytes index (part_views (take i ps)) ≤ shared_bytes index (part_views ps) → shared_bytes index (q ∷ part_views (take i ps)) ≤ shared_bytes index (q ∷ part_views ps)
    by (at_every fs) ih = omega (arith, ih)
    by (at_these ks fs) ih = ih

-- of the first parts, and of the next one
module _ (index : ℕ) (ps : List KeptPart) (i : ℕ) (d : KeptPart) (lt : i < length ps) where
  pub shared_next : shared_bytes index (part_views (take (i + 1) ps)) ≡ shared_bytes index (part_views (take i ps)) + shared_bytes index (part_view (get_or ps i d) ∷ [])
  shared_next = ap (shared_bytes index) (map_more part_view ps i d lt) ∙ shared_behind index (part_views (take i ps)) (part_view (get_or ps i d))

pub shared_small : (index : ℕ) (ps : List KeptPart) (i : ℕ) → FewParts (part_views ps) → shared_bytes index (part_views (take i ps)) ≤ 400000
shared_small index ps i few = let a = shared_take index ps i in let b = shared_few index (part_views ps) in let c = few.shared in omega (arith, a, b, c)

pub few_at : (ps : List KeptPart) (i : ℕ) (d : KeptPart) → All (λ (p : SavedPart). part_fields p ≤ 50000) (part_views ps) → i < length ps → part_fields (part_view (get_or ps i d)) ≤ 50000
few_at [] i d h lt = absurd (omega (arith, lt))
few_at (p ∷ ps) zero d h lt = All-head (λ (q : SavedPart). part_fields q ≤ 50000) (part_view p) (part_views ps) h
few_at (p ∷ ps) (suc i) d h lt = few_at ps i d (All-tail (λ (q : SavedPart). part_fields q ≤ 50000) (part_view p) (part_views ps) h) (omega (arith, lt))

-- the fields of a part of the program are few
pub every_few : (fields : List KeptLocal) → part_fields (at_every (fields_of fields)) ≤ 50000 → length fields ≤ 50000
every_few fields le = let l = length-map fields kept_field in omega (arith, l, le)
