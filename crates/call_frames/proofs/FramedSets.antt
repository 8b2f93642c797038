-- Parts that keep the sets of calls have what the laws of frames ask.
use Rattle.std.proofs.Common.{◌≡◌, ◌≢◌, ℕ, suc, ◌+◌, ◌*◌, ◌^◌, ◌<◌, ◌≤◌, List, [], ◌∷◌, ◌++◌, length, get_or, Some, Bool, true, false, refl, sym, ap, ◌∙◌, subst, arith, eq-eqb}
use Rattle.std.specs.Prelude.{◌||◌, if◌then◌else◌, slice_get}
use Rattle.wa_types.specs.declared.values.ValType.{ValType}
use Rattle.wa_types.specs.declared.values.ValType.TheVariants.{I32, I64}
use Rattle.wa_types.specs.Frames.{width}
use Rattle.frame_laws.specs.Layout.{FrameField, kept, gap, fields_size, kept_count}
use Rattle.frame_laws.specs.Typed.{FieldsTyped}
use Rattle.call_frames.specs.FrameParts.{fields_at, shared_size, own_size}
use Rattle.call_frames.specs.PlainFrames.{SavedPart, at_every, at_these, is_one_of, call_fields, parts_of, frames_of, FramesSmall}
use Rattle.call_frames.specs.PlainLaws.{CallsSmall, NameCalls, PartsTyped, FieldsSmall, NumbersSmall, PartsSmall}
use Rattle.call_frames.proofs.Codes.{codes_law}
use Rattle.call_frames.proofs.FieldRows.{sizes_at}
use Rattle.call_frames.proofs.PlainBounds.{cost_law, size_law}
use Rattle.call_frames.proofs.PlainTold.{fields_law, tell_law}
use Rattle.call_frames.specs.Classes.{AllBelow, NumbersBelow}
use Rattle.call_frames.specs.Framed.{SetsAreFramed}
use Rattle.call_frames.specs.Views.{kept_where, fields_in, parts_view, told_frames}

-- ---- fields of a set

width_most : (t : ValType) → width t ≤ 8
width_most I32 = omega arith
width_most I64 = omega arith

in_size : (x : ℕ) (set : List Bool) (types : List ValType) → fields_size (fields_in x set types) ≤ 8 * length types
in_size x [] types = omega arith
in_size x (b ∷ bs) [] = omega arith
in_size x (b ∷ bs) (t ∷ ts) = by b (in_size (suc x) bs ts)
  where
    by : (c : Bool) → fields_size (fields_in (suc x) bs ts) ≤ 8 * length ts → fields_size (kept_where c x t (fields_in (suc x) bs ts)) ≤ 8 * suc (length ts)
    by true h = let w = width_most t in omega arith
    by false h = omega arith

in_small : (x : ℕ) (set : List Bool) (types : List ValType) → x + length types ≤ 2 ^ 32 → FieldsSmall (fields_in x set types)
in_small x [] types le = tt
in_small x (b ∷ bs) [] le = tt
in_small x (b ∷ bs) (t ∷ ts) le = by b (in_small (suc x) bs ts (omega (arith, le)))
  where
    by : (c : Bool) → FieldsSmall (fields_in (suc x) bs ts) → FieldsSmall (kept_where c x t (fields_in (suc x) bs ts))
    by true h = (omega (arith, le), h)
    by false h = h

in_typed : (locals : List ValType) (x : ℕ) (set : List Bool) (types : List ValType) → ((i : ℕ) (t : ValType) → slice_get types i ≡ Some t → slice_get locals (x + i) ≡ Some t)
    → FieldsTyped locals (fields_in x set types)
in_typed locals x [] types h = tt
in_typed locals x (b ∷ bs) [] h = tt
in_typed locals x (b ∷ bs) (t ∷ ts) h =
    by b (in_typed locals (suc x) bs ts (λ i u e. let k : suc x + i ≡ x + suc i = omega arith in ap (slice_get locals) k ∙ h (suc i) u e))
  where
    by : (c : Bool) → FieldsTyped locals (fields_in (suc x) bs ts) → FieldsTyped locals (kept_where c x t (fields_in (suc x) bs ts))
    by true k = let z : x + 0 ≡ x = omega arith in (ap (slice_get locals) (sym z) ∙ h 0 t refl, k)
    by false k = k

-- ---- what holds of rows that are put together

-- a property of fields, one by one
pub record EachField (P : List FrameField → Type 0) : Type 0 where
  pub first : (xs ys : List FrameField) → P (xs ++ ys) → P xs
  pub second : (xs ys : List FrameField) → P (xs ++ ys) → P ys

small_first : (xs ys : List FrameField) → FieldsSmall (xs ++ ys) → FieldsSmall xs
small_first [] ys h = tt
small_first (kept x t ∷ xs) ys h = (h.0, small_first xs ys h.1)
small_first (gap t ∷ xs) ys h = small_first xs ys h

small_second : (xs ys : List FrameField) → FieldsSmall (xs ++ ys) → FieldsSmall ys
small_second [] ys h = h
small_second (kept x t ∷ xs) ys h = small_second xs ys h.1
small_second (gap t ∷ xs) ys h = small_second xs ys h

typed_first : (locals : List ValType) (xs ys : List FrameField) → FieldsTyped locals (xs ++ ys) → FieldsTyped locals xs
typed_first locals [] ys h = tt
typed_first locals (kept x t ∷ xs) ys h = (h.0, typed_first locals xs ys h.1)
typed_first locals (gap t ∷ xs) ys h = typed_first locals xs ys h

typed_second : (locals : List ValType) (xs ys : List FrameField) → FieldsTyped locals (xs ++ ys) → FieldsTyped locals ys
typed_second locals [] ys h = h
typed_second locals (kept x t ∷ xs) ys h = typed_second locals xs ys h.1
typed_second locals (gap t ∷ xs) ys h = typed_second locals xs ys h

-- ---- parts

-- of the fields of each part
abbrev PartsHave : (List FrameField → Type 0) → List SavedPart → Type 0
PartsHave P [] = Unit {0}
PartsHave P (at_every fs ∷ ps) = P fs × PartsHave P ps
PartsHave P (at_these ks fs ∷ ps) = P fs × PartsHave P ps

it_is : (j : ℕ) (js : List ℕ) → is_one_of (j ∷ js) j ≡ true
it_is j js = ap (λ b. b || is_one_of js j) (eq-eqb j j refl)

module _ (P : List FrameField → Type 0) (each : EachField P) (n : ℕ) (some : 1 ≤ n) where
  parts_have : (ps : List SavedPart) → NumbersBelow n ps → NameCalls ps → ((k : ℕ) → k < n → P (call_fields k ps)) → PartsHave P ps
  parts_have [] below named h = tt
  parts_have (at_every fs ∷ ps) below named h =
      (each.first fs (call_fields 0 ps) (h 0 some), parts_have ps below named (λ k lt. each.second fs (call_fields k ps) (h k lt)))
  parts_have (at_these [] fs ∷ ps) below named h = absurd (omega (arith, named.0))
  parts_have (at_these (j ∷ js) fs ∷ ps) below named h =
      let own : P (fs ++ call_fields j ps) = subst (λ b. P ((if b then fs else []) ++ call_fields j ps)) (it_is j js) (h j below.0.0) in
      (each.first fs (call_fields j ps) own, parts_have ps below.1 named.1 (λ k lt. each.second (if is_one_of (j ∷ js) k then fs else []) (call_fields k ps) (h k lt)))

numbers_small : (n : ℕ) (ks : List ℕ) → n < 2 ^ 32 → AllBelow n ks → NumbersSmall ks
numbers_small n [] lt h = tt
numbers_small n (k ∷ ks) lt h = (omega (arith, lt, h.0), numbers_small n ks lt h.1)

calls_below : (n : ℕ) (ps : List SavedPart) → n < 2 ^ 32 → NumbersBelow n ps → CallsSmall ps
calls_below n [] lt h = tt
calls_below n (at_every fs ∷ ps) lt h = calls_below n ps lt h
calls_below n (at_these ks fs ∷ ps) lt h = (numbers_small n ks lt h.0, calls_below n ps lt h.1)

-- numbers, fields and sizes
parts_small : (index n shared : ℕ) (ps : List SavedPart) → n < 2 ^ 32 → NumbersBelow n ps → NameCalls ps → PartsHave FieldsSmall ps
    → ((k : ℕ) → k < n → shared + own_size k (parts_of index ps) ≤ 400000) → PartsSmall shared ps
parts_small index n shared [] lt below named small h = tt
parts_small index n shared (at_every fs ∷ ps) lt below named small h = (small.0, parts_small index n shared ps lt below named small.1 h)
parts_small index n shared (at_these [] fs ∷ ps) lt below named small h = absurd (omega (arith, named.0))
parts_small index n shared (at_these (j ∷ js) fs ∷ ps) lt below named small h =
    let own : shared + (fields_size fs + own_size j (parts_of index ps)) ≤ 400000 =
    subst (λ b. shared + ((if b then fields_size fs else 0) + own_size j (parts_of index ps)) ≤ 400000) (it_is j js) (h j below.0.0) in (
      numbers_small n (j ∷ js) lt below.0,
      small.0,
      omega (arith, own),
      parts_small index n shared ps lt below.1 named.1 small.1 (λ k l. omega (arith, h k l)),
    )

typed_parts : (locals : List ValType) (ps : List SavedPart) → PartsHave (FieldsTyped locals) ps → PartsTyped locals ps
typed_parts locals [] h = tt
typed_parts locals (at_every fs ∷ ps) h = (h.0, typed_parts locals ps h.1)
typed_parts locals (at_these ks fs ∷ ps) h = (h.0, typed_parts locals ps h.1)

-- ---- frames

pub framed_law : SetsAreFramed
framed_law types sets base address p cheap some few index adr many =
    let keep = cheap.keep in
    let f = told_frames (length sets) base address p in
    let ps = parts_view p in
    let at : (k : ℕ) → k < length sets → fields_at k (parts_of base ps) ≡ fields_in 0 (get_or sets k []) types = λ k lt. fields_law base k ps ∙ keep.fields k lt in
    let total : (k : ℕ) → k < length sets → shared_size (parts_of base ps) + own_size k (parts_of base ps) ≤ 400000 =
    λ k lt. let e = ap fields_size (at k lt) in let s = sizes_at k (parts_of base ps) in let m = in_size 0 (get_or sets k []) types in omega arith in
    let apart : base ≢ base + 1 = λ e. absurd (omega (arith, e)) in
    let frames : FramesSmall f = λ k lt. let s = sizes_at k (parts_of base ps) in let t = total k lt in omega arith in
    let tell = tell_law f apart (omega (arith, many)) (calls_below (length sets) ps many keep.below) frames in
    let small = parts_have FieldsSmall (record { first = small_first; second = small_second }) (length sets) some ps keep.below keep.named
    (λ k lt. subst FieldsSmall (sym (keep.fields k lt)) (in_small 0 (get_or sets k []) types (omega arith))) in
    record {
      calls = λ k lt. record {
        codes = λ body result. codes_law (frames_of f) k body result tell lt;
        fields = at k lt;
        cost =
            let c = cost_law f k in
            let n = cheap.tests in
            let e = ap kept_count (keep.fields k lt) in
            omega arith;
      };
      size =
          let a = size_law.saving f in
          let b = size_law.restoring f in
          let c = cheap.size in
          omega arith;
      small = record {
        address = adr;
        index = omega arith;
        scratch = omega arith;
        shared = let t = total 0 some in omega arith;
        parts = parts_small base (length sets) (shared_size (parts_of base ps)) ps many keep.below keep.named small total;
      };
      typed = λ c places. record {
        memory = places.memory;
        address = places.address;
        index = places.index;
        scratch = places.scratch;
        parts = typed_parts c.locals ps
            (parts_have (FieldsTyped c.locals) (record { first = typed_first c.locals; second = typed_second c.locals }) (length sets) some ps keep.below keep.named
            (λ k lt. subst (FieldsTyped c.locals) (sym (keep.fields k lt))
            (in_typed c.locals 0 (get_or sets k []) types (λ i t e. let z : i ≡ 0 + i = omega arith in ap (slice_get c.locals) (sym z) ∙ places.first i t e))));
      };
    }
