-- The bytes that a module is written as spell it.
use Rattle.std.proofs.Common.{◌≡◌, ℕ, suc, ◌+◌, ◌<◌, ◌^◌, ◌⊎◌, List, [], ◌∷◌, ◌++◌, map, Option, Some, None, Bool, true, false, refl, ap, sym, ◌∙◌, subst, arith, add-zero, append_assoc, append-nil, length, length-append, All, flat_map, cond, nat_eq, eqb-true, inl, inr, min, option_to_list, sum_by}
use Rattle.std.proofs.lemmas.List.Elements.{All-head, All-tail, All-cons, All-filter}
use Rattle.std.proofs.lemmas.List.Concat.{flat_map-append}
use Rattle.std.proofs.lemmas.List.Sums.{sum_by-cons}
use Rattle.std.specs.List.{AllZip}
use Rattle.std.specs.Option.{is_some}
use Rattle.wa_types.specs.declared.syntax.Run.{Run}
use Rattle.wa_types.specs.declared.syntax.Limits.{Limits}
use Rattle.wa_types.specs.declared.syntax.Export.{Export}
use Rattle.leb_numbers.specs.Leb.{shortest}
use Rattle.wa_types.specs.Encoding.{vector, sized, func_type_bytes, limits_bytes, table_bytes, import_bytes, global_bytes, export_bytes, elem_bytes, segment_bytes, run_onto, same_type, merged, body_bytes, section, start_section, custom_bytes, customs_behind, preamble, sections, with_customs, Enc}
use Rattle.wa_types.specs.Norm.{has_some, written_flags, placed_at, placed_behind, lowered, Norm}
use Rattle.wa_types.specs.Sizes.{CodeFits, LimitsFit, ImportFits, FuncFits, ExportFits, ElemFits, SegmentFits, CustomFits, StartFits, WellFormed}
use Rattle.wa_types.specs.Syntax.{Func, GlobalDef, Custom, Module}
use Rattle.wa_types.specs.Binary.{RawType, RawImport, RawGlobal, RawElem, RawBody, RawSegment, Section, custom, types, imports, functions, tables, memories, globals, exports, start, elements, bodies, segments, section_id}
use Rattle.wa_types.specs.Spells.{◌▸◌, Exactly, Number, Items, Vector, Sized, FunctionType, LimitsOf, TableType, ImportOf, GlobalOf, ExportOf, ElementOf, BodyOf, SegmentOf, SectionOf, Rising, sorts_in, bodies_in}
use Rattle.wa_types.specs.Reading.{IsFuncType, IsImport, IsGlobal, IsElem, IsBody, IsSegment, types_in, imports_in, tables_in, memories_in, globals_in, exports_in, starts_in, elements_in, segments_in, customs_of, IsModule, SpellsModule}
use Rattle.file_laws.proofs.NumberWriting.{shortest_spells}
use Rattle.file_laws.proofs.CodeWriting.{Written, write_vector, number_some, Itself, each_itself, each_length}
use Rattle.file_laws.proofs.EntryWriting.{write_func_type, write_limits, write_table, write_import, write_global, write_export, write_elem, write_segment, BodyFits, merged_func, write_body, name_spelled, func_type_some, limits_some, table_some, import_some, global_some, export_some, elem_some, segment_some, body_some}

-- a section of entries, where there are some
abbrev pub of_entries : {X : Type 0} → (List X → Section) → List X → List Section
of_entries mk [] = []
of_entries mk (x ∷ xs) = mk (x ∷ xs) ∷ []

abbrev pub of_start : Option ℕ → List Section
of_start None = []
of_start (Some x) = start x ∷ []

-- custom sections
abbrev pub as_customs : List Custom → List Section
as_customs cs = map (λ (c : Custom). custom c.name c.bytes) cs

-- known sections of ids from this one on, each with the custom sections behind it
abbrev pub file_from : ℕ → List (List Section) → List Custom → List Section
file_from id [] cs = []
file_from id (s ∷ rest) cs = s ++ (as_customs (placed_behind id cs) ++ file_from (suc id) rest cs)

items_append : (xs ys : List Section) (at : ℕ) (a b : List ℕ) → Items SectionOf xs at a → Items SectionOf ys (at + length a) b → Items SectionOf (xs ++ ys) at (a ++ b)
items_append [] ys at a b h k = subst (Items SectionOf ys at) (sym (ap (λ z. z ++ b) h)) (subst (λ n. Items SectionOf ys n b) (ap (λ z. at + length z) h ∙ add-zero at) k)
items_append (x ∷ xs) ys at a b h k = (
  h.0,
  h.1 ++ b,
  ap (λ z. z ++ b) h.2 ∙ append_assoc h.0 h.1 b,
  h.3,
  items_append xs ys (at + length h.0) h.1 b h.4 (subst (λ n. Items SectionOf ys n b) (omega (arith, ap length h.2, length-append h.0 h.1)) k),
)

-- each known section is spelled at its place
abbrev pub SpelledFrom : (at id : ℕ) → List (List Section) → List (List ℕ) → List Custom → Type 0
SpelledFrom at id [] [] cs = Unit {0}
SpelledFrom at id (s ∷ ss) (b ∷ bs) cs = Items SectionOf s at b × SpelledFrom (at + length b + length (customs_behind id cs)) (suc id) ss bs cs
SpelledFrom at id _ _ cs = ⊥

custom_spelled : (c : Custom) → CustomFits c → length (custom_bytes c) < 2 ^ 32 → (at : ℕ) → SectionOf (custom c.name c.bytes) at (custom_bytes c)
custom_spelled c h l at =
    let n = sized c.name in
    let content = n ++ c.bytes in
    let size = shortest (length content) in
    let len : length size + (length n + length c.bytes) < 2 ^ 32 = omega (arith, l, length-append size content, length-append n c.bytes) in (
      0x00 ∷ [],
      size ++ content,
      refl,
      refl,
      (
        length content,
        (
          size,
          content,
          refl,
          shortest_spells (length content) (omega (arith, len, length-append n c.bytes)),
          (refl, (n, c.bytes, refl, name_spelled c.name h.name (omega (arith, len)) (at + 1 + length size), refl)),
        ),
      ),
    )

customs_spelled : (cs : List Custom) → All CustomFits cs → length (flat_map custom_bytes cs) < 2 ^ 32 → (at : ℕ) → Items SectionOf (as_customs cs) at (flat_map custom_bytes cs)
customs_spelled [] a l at = refl
customs_spelled (c ∷ cs) a l at =
    let b = custom_bytes c in
    let r = flat_map custom_bytes cs in (
      b,
      r,
      refl,
      custom_spelled c (All-head CustomFits c cs a) (omega (arith, l, length-append b r)) at,
      customs_spelled cs (All-tail CustomFits c cs a) (omega (arith, l, length-append b r)) (at + length b),
    )

behind_spelled : (id : ℕ) (cs : List Custom) → All CustomFits cs → length (customs_behind id cs) < 2 ^ 32 → (at : ℕ) → Items SectionOf (as_customs (placed_behind id cs)) at (customs_behind id cs)
behind_spelled id cs a l at = customs_spelled (placed_behind id cs) (All-filter (λ (c : Custom). nat_eq (min c.after 11) id) CustomFits cs a) l at

spelled_from : (id : ℕ) (ss : List (List Section)) (bs : List (List ℕ)) (cs : List Custom) → All CustomFits cs → length (with_customs id bs cs) < 2 ^ 32 → (at : ℕ)
    → SpelledFrom at id ss bs cs → Items SectionOf (file_from id ss cs) at (with_customs id bs cs)
spelled_from id [] [] cs a l at h = refl
spelled_from id [] (b ∷ bs) cs a l at h = absurd h
spelled_from id (s ∷ ss) [] cs a l at h = absurd h
spelled_from id (s ∷ ss) (b ∷ bs) cs a l at h =
    let c = customs_behind id cs in
    let r = with_customs (suc id) bs cs in
    let len : length b + (length c + length r) < 2 ^ 32 = omega (arith, l, length-append (b ++ c) r, length-append b c) in
    subst (Items SectionOf (file_from id (s ∷ ss) cs) at) (sym (append_assoc b c r))
    (items_append s (as_customs (placed_behind id cs) ++ file_from (suc id) ss cs) at b (c ++ r) h.0
    (items_append (as_customs (placed_behind id cs)) (file_from (suc id) ss cs) (at + length b) c r (behind_spelled id cs a (omega (arith, len)) (at + length b))
    (spelled_from (suc id) ss bs cs a (omega (arith, len)) (at + length b + length c) h.1)))

-- a place of a known section: empty, or a section of its id
pub data Slot (id : ℕ) : Bool → List Section → Type 0 where
  vacant : Slot id false []
  filled : (s : Section) → section_id s ≡ id → Slot id true (s ∷ [])

abbrev pub Slots : ℕ → List Bool → List (List Section) → Type 0
Slots id [] [] = Unit {0}
Slots id (w ∷ ws) (s ∷ ss) = Slot id w s × Slots (suc id) ws ss
Slots id _ _ = ⊥

rising_known : (s : Section) (ss : List Section) (last : ℕ) → last < section_id s → Rising (section_id s) ss → Rising last (s ∷ ss)
rising_known (custom name bytes) ss last h r = absurd (omega (arith, h))
rising_known _ ss last h r = (h, r)

customs_known : (s : Section) (ss : List Section) (last : ℕ) → 0 < section_id s → customs_of last (s ∷ ss) ≡ customs_of (section_id s) ss
customs_known (custom name bytes) ss last h = absurd (omega (arith, h))
customs_known _ ss last h = refl

rising_customs : (cs : List Custom) (ss : List Section) (last : ℕ) → Rising last ss → Rising last (as_customs cs ++ ss)
rising_customs [] ss last r = r
rising_customs (c ∷ cs) ss last r = rising_customs cs ss last r

customs_front : (cs : List Custom) (ss : List Section) (last : ℕ) → customs_of last (as_customs cs ++ ss) ≡ map (placed_at last) cs ++ customs_of last ss
customs_front [] ss last = refl
customs_front (c ∷ cs) ss last = ap (λ z. placed_at last c ∷ z) (customs_front cs ss last)

rising_slot : (id : ℕ) (w : Bool) (s : List Section) (ss : List Section) (last : ℕ) → Slot id w s → last < id → ((k : ℕ) → k < suc id → Rising k ss) → Rising last (s ++ ss)
rising_slot id w s ss last vacant h r = r last (omega (arith, h))
rising_slot id w s ss last (filled x e) h r = rising_known x ss last (omega (arith, h, e)) (subst (λ z. Rising z ss) (sym e) (r id (omega arith)))

rising_from : (id : ℕ) (ws : List Bool) (ss : List (List Section)) (cs : List Custom) → Slots id ws ss → (last : ℕ) → last < id → Rising last (file_from id ss cs)
rising_from id [] [] cs h last l = tt
rising_from id [] (s ∷ ss) cs h last l = absurd h
rising_from id (w ∷ ws) [] cs h last l = absurd h
rising_from id (w ∷ ws) (s ∷ ss) cs h last l =
    rising_slot id w s (as_customs (placed_behind id cs) ++ file_from (suc id) ss cs) last h.0 l
    (λ k b. rising_customs (placed_behind id cs) (file_from (suc id) ss cs) k (rising_from (suc id) ws ss cs h.1 k b))

customs_slot : (id : ℕ) (w : Bool) (s ss : List Section) (last : ℕ) → Slot id w s → 0 < id → customs_of last (s ++ ss) ≡ customs_of (cond w id last) ss
customs_slot id w s ss last vacant h = refl
customs_slot id w s ss last (filled x e) h = customs_known x ss last (omega (arith, h, e)) ∙ ap (λ z. customs_of z ss) e

customs_from : (id : ℕ) (ws : List Bool) (ss : List (List Section)) (cs : List Custom) → Slots id ws ss → (last : ℕ) → 0 < id → customs_of last (file_from id ss cs) ≡ lowered id last ws cs
customs_from id [] [] cs h last l = refl
customs_from id [] (s ∷ ss) cs h last l = absurd h
customs_from id (w ∷ ws) [] cs h last l = absurd h
customs_from id (w ∷ ws) (s ∷ ss) cs h last l =
    customs_slot id w s (as_customs (placed_behind id cs) ++ file_from (suc id) ss cs) last h.0 l
    ∙ customs_front (placed_behind id cs) (file_from (suc id) ss cs) (cond w id last)
    ∙ ap (λ z. map (placed_at (cond w id last)) (placed_behind id cs) ++ z) (customs_from (suc id) ws ss cs h.1 (cond w id last) (omega arith))

-- what known sections hold, custom sections aside
module _ {X : Type 0} (g : Section → List X) (none : (name bytes : List ℕ) → g (custom name bytes) ≡ []) where
  front_none : (cs : List Custom) (ss : List Section) → flat_map g (as_customs cs ++ ss) ≡ flat_map g ss
  front_none [] ss = refl
  front_none (c ∷ cs) ss = ap (λ z. z ++ flat_map g (as_customs cs ++ ss)) (none c.name c.bytes) ∙ front_none cs ss

  held_from : (id : ℕ) (ss : List (List Section)) (cs : List Custom) → flat_map g (file_from id ss cs) ≡ flat_map (flat_map g) ss
  held_from id [] cs = refl
  held_from id (s ∷ ss) cs =
      flat_map-append g s (as_customs (placed_behind id cs) ++ file_from (suc id) ss cs)
      ∙ ap (λ z. flat_map g s ++ z) (front_none (placed_behind id cs) (file_from (suc id) ss cs) ∙ held_from (suc id) ss cs)

  held : (cs : List Custom) (ss : List (List Section)) (all : List Custom) → flat_map g (as_customs cs ++ file_from 1 ss all) ≡ flat_map (flat_map g) ss
  held cs ss all = front_none cs (file_from 1 ss all) ∙ held_from 1 ss all

entries_held : {X : Type 0} (g : Section → List X) (mk : List X → Section) → ((xs : List X) → g (mk xs) ≡ xs) → (xs : List X) → flat_map g (of_entries mk xs) ≡ xs
entries_held g mk h [] = refl
entries_held g mk h (x ∷ xs) = append-nil (g (mk (x ∷ xs))) ∙ h (x ∷ xs)

others_held : {X Y : Type 0} (g : Section → List X) (mk : List Y → Section) → ((ys : List Y) → g (mk ys) ≡ []) → (ys : List Y) → flat_map g (of_entries mk ys) ≡ []
others_held g mk h [] = refl
others_held g mk h (y ∷ ys) = append-nil (g (mk (y ∷ ys))) ∙ h (y ∷ ys)

start_other : {X : Type 0} (g : Section → List X) → ((x : ℕ) → g (start x) ≡ []) → (o : Option ℕ) → flat_map g (of_start o) ≡ []
start_other g h None = refl
start_other g h (Some x) = append-nil (g (start x)) ∙ h x

start_held : (o : Option ℕ) → flat_map starts_in (of_start o) ≡ option_to_list o
start_held None = refl
start_held (Some x) = refl

-- what a section's place holds
slot_of : {X Y : Type 0} (R : X → Y → Type 0) (id : ℕ) (mk : List X → Section) → ((xs : List X) → section_id (mk xs) ≡ id) → (xs : List X) (ys : List Y) → AllZip R xs ys
    → Slot id (has_some ys) (of_entries mk xs)
slot_of R id mk h [] [] e = vacant
slot_of R id mk h [] (y ∷ ys) e = absurd e
slot_of R id mk h (x ∷ xs) [] e = absurd e
slot_of R id mk h (x ∷ xs) (y ∷ ys) e = filled (mk (x ∷ xs)) (h (x ∷ xs))

slot_start : (o : Option ℕ) → Slot 8 (is_some o) (of_start o)
slot_start None = vacant
slot_start (Some x) = filled (start x) refl

-- a section of entries is written so
record SectionWritten {X Y : Type 0} (f : X → ℕ → List ℕ → Type 0) (R : X → Y → Type 0) (mk : List X → Section) (ys : List Y) (at : ℕ) (bytes : List ℕ) : Type 0 where
  raws : List X
  spelled : Items SectionOf (of_entries mk raws) at bytes
  means : AllZip R raws ys

same_length : {X Y : Type 0} (R : X → Y → Type 0) (xs : List X) (y : Y) (ys : List Y) (at : ℕ) (mk : List X → Section) (bytes : List ℕ) → AllZip R xs (y ∷ ys) → SectionOf (mk xs) at bytes
    → Items SectionOf (of_entries mk xs) at bytes
same_length R [] y ys at mk bytes e h = absurd e
same_length R (x ∷ xs) y ys at mk bytes e h = (bytes, [], sym (append-nil bytes), h, refl)

write_section : {X Y : Type 0} (f : X → ℕ → List ℕ → Type 0) (R : X → Y → Type 0) (Fits : Y → Type 0) (enc : Y → List ℕ) (mk : List X → Section) (id : ℕ)
    → ((y : Y) → Fits y → length (enc y) < 2 ^ 32 → (at : ℕ) → Written f R y at (enc y)) → ((y : Y) → 0 < length (enc y))
    → ((xs : List X) (at : ℕ) (bytes : List ℕ) → (Exactly (id ∷ []) ▸ Sized (Vector f xs)) at bytes → SectionOf (mk xs) at bytes) → (ys : List Y) → All Fits ys
    → length (section id enc ys) < 2 ^ 32 → (at : ℕ) → SectionWritten f R mk ys at (section id enc ys)
write_section f R Fits enc mk id w some wrap [] a l at = record { raws = []; spelled = refl; means = tt }
write_section f R Fits enc mk id w some wrap (y ∷ ys) a l at =
    let v = vector enc (y ∷ ys) in
    let n = shortest (length v) in
    let len : length n + length v < 2 ^ 32 = omega (arith, l, length-append n v) in
    let s = write_vector f R Fits enc w some (y ∷ ys) a (omega (arith, len)) (at + 1 + length n) in
    record {
      raws = s.raw;
      spelled = same_length R s.raw y ys at mk (id ∷ (n ++ v)) s.means
          (wrap s.raw at (id ∷ (n ++ v)) (id ∷ [], n ++ v, refl, refl, (length v, (n, v, refl, shortest_spells (length v) (omega (arith, len)), (refl, s.spelled)))));
      means = s.means;
    }

write_start : (o : Option ℕ) → StartFits o → length (start_section o) < 2 ^ 32 → (at : ℕ) → Items SectionOf (of_start o) at (start_section o)
write_start None h l at = refl
write_start (Some x) h l at =
    let v = shortest x in
    let n = shortest (length v) in
    let len : length n + length v < 2 ^ 32 = omega (arith, l, length-append n v) in (
      start_section (Some x),
      [],
      sym (append-nil (start_section (Some x))),
      (
        0x08 ∷ [],
        n ++ v,
        refl,
        refl,
        (length v, (n, v, refl, shortest_spells (length v) (omega (arith, len)), (refl, shortest_spells x h))),
      ),
      refl,
    )

-- merged runs have the sum of the runs
run_onto_sum : (r : Run) (rs : List Run) → sum_by (λ (r : Run). r.count) (run_onto r rs) ≡ r.count + sum_by (λ (r : Run). r.count) rs
run_onto_sum r [] = sum_by-cons (λ (r : Run). r.count) r []
run_onto_sum r (s ∷ rest) =
    let f : Run → ℕ = λ r. r.count in
    let both : Run = record { count = r.count + s.count; ty = r.ty } in
    elim (same_type r.ty s.ty) as (λ t. sum_by f (cond t (both ∷ rest) (r ∷ s ∷ rest)) ≡ r.count + sum_by f (s ∷ rest)) [
      | true ↦ omega (arith, sum_by-cons f both rest, sum_by-cons f s rest)
      | false ↦ sum_by-cons f r (s ∷ rest)
    ]

merged_sum : (rs : List Run) → sum_by (λ (r : Run). r.count) (merged rs) ≡ sum_by (λ (r : Run). r.count) rs
merged_sum [] = refl
merged_sum (r ∷ rest) =
    let f : Run → ℕ = λ r. r.count in
    elim (zero_or r.count) [
      | inl e ↦ rw e (merged_sum rest ∙ sym (sum_by-cons f r rest ∙ omega (arith, eqb-true r.count 0 e)))
      | inr e ↦ rw e (run_onto_sum r (merged rest) ∙ ap (λ n. r.count + n) (merged_sum rest) ∙ sym (sum_by-cons f r rest))
    ] where
      zero_or : (n : ℕ) → (nat_eq n 0 ≡ true) ⊎ (nat_eq n 0 ≡ false)
      zero_or n = elim (nat_eq n 0) as (λ t. (t ≡ true) ⊎ (t ≡ false)) [ true ↦ inl refl | false ↦ inr refl ]

below_sum : (n : ℕ) (rs : List Run) → sum_by (λ (r : Run). r.count) rs < n → All (λ (r : Run). r.count < n) rs
below_sum n [] h = λ k d l. absurd (omega (arith, l))
below_sum n (r ∷ rs) h =
    let f : Run → ℕ = λ r. r.count in
    All-cons (λ (r : Run). r.count < n) r rs (omega (arith, h, sum_by-cons f r rs)) (below_sum n rs (omega (arith, h, sum_by-cons f r rs)))

-- a function declares fewer than 2^32 locals
abbrev pub FewLocals : Func → Type 0
FewLocals f = sum_by (λ (r : Run). r.count) f.locals < 2 ^ 32

bodies_fit : (fs : List Func) → All FuncFits fs → All FewLocals fs → All BodyFits fs
bodies_fit [] a b = λ k d l. absurd (omega (arith, l))
bodies_fit (f ∷ fs) a b =
    All-cons BodyFits f fs
    (record { runs = below_sum (2 ^ 32) (merged f.locals) (omega (arith, All-head FewLocals f fs b, merged_sum f.locals)); body = (All-head FuncFits f fs a).body })
    (bodies_fit fs (All-tail FuncFits f fs a) (All-tail FewLocals f fs b))

sorts_fit : (fs : List Func) → All FuncFits fs → All (λ (f : Func). f.sort < 2 ^ 32) fs
sorts_fit [] a = λ k d l. absurd (omega (arith, l))
sorts_fit (f ∷ fs) a = All-cons (λ (f : Func). f.sort < 2 ^ 32) f fs (All-head FuncFits f fs a).sort (sorts_fit fs (All-tail FuncFits f fs a))

each_map : {X Y Z : Type 0} (R : X → Z → Type 0) (h : Y → Z) (xs : List X) (ys : List Y) → AllZip (λ x y. R x (h y)) xs ys → AllZip R xs (map h ys)
each_map R h [] [] e = tt
each_map R h [] (y ∷ ys) e = absurd e
each_map R h (x ∷ xs) [] e = absurd e
each_map R h (x ∷ xs) (y ∷ ys) e = (e.0, each_map R h xs ys e.1)

-- the number that a function's type has
abbrev HasSort : ℕ → Func → Type 0
HasSort n f = n ≡ f.sort

write_sort : (f : Func) → f.sort < 2 ^ 32 → length (shortest f.sort) < 2 ^ 32 → (at : ℕ) → Written Number HasSort f at (shortest f.sort)
write_sort f h l at = record { raw = f.sort; spelled = shortest_spells f.sort h; means = refl }

sorts_are : (ns : List ℕ) (fs : List Func) → AllZip HasSort ns fs → map (λ (f : Func). f.sort) (map merged_func fs) ≡ ns
sorts_are [] [] e = refl
sorts_are [] (f ∷ fs) e = absurd e
sorts_are (n ∷ ns) [] e = absurd e
sorts_are (n ∷ ns) (f ∷ fs) e = λ i. sym e.0 i ∷ sorts_are ns fs e.1 i

-- each known section has fewer bytes than all
abbrev pub BelowFrom : List (List ℕ) → Type 0
BelowFrom [] = Unit {0}
BelowFrom (b ∷ bs) = (length b < 2 ^ 32) × BelowFrom bs

below_from : (id : ℕ) (bs : List (List ℕ)) (cs : List Custom) → length (with_customs id bs cs) < 2 ^ 32 → BelowFrom bs
below_from id [] cs l = tt
below_from id (b ∷ bs) cs l =
    let c = customs_behind id cs in
    let r = with_customs (suc id) bs cs in
    (omega (arith, l, length-append (b ++ c) r, length-append b c), below_from (suc id) bs cs (omega (arith, l, length-append (b ++ c) r, length-append b c)))

-- The known sections of a module, as they are written.
record Known (m : Module) (at : ℕ) : Type 0 where
  raw_types : List RawType
  raw_imports : List RawImport
  raw_functions : List ℕ
  raw_tables : List Limits
  raw_memories : List Limits
  raw_globals : List RawGlobal
  raw_exports : List Export
  raw_elements : List RawElem
  raw_bodies : List RawBody
  raw_segments : List RawSegment
  spelled : SpelledFrom at 1 (of_entries types raw_types ∷ of_entries imports raw_imports ∷ of_entries functions raw_functions ∷ of_entries tables raw_tables
      ∷ of_entries memories raw_memories ∷ of_entries globals raw_globals ∷ of_entries exports raw_exports ∷ of_start m.start ∷ of_entries elements raw_elements
      ∷ of_entries bodies raw_bodies ∷ of_entries segments raw_segments ∷ []) (sections m) m.customs
  is_types : AllZip IsFuncType raw_types m.types
  is_imports : AllZip IsImport raw_imports m.imports
  is_functions : AllZip HasSort raw_functions m.funcs
  is_tables : AllZip Itself raw_tables m.tables
  is_memories : AllZip Itself raw_memories m.memories
  is_globals : AllZip IsGlobal raw_globals m.globals
  is_exports : AllZip Itself raw_exports m.exports
  is_elements : AllZip IsElem raw_elements m.elems
  is_bodies : AllZip (λ raw f. IsBody raw (merged_func f)) raw_bodies m.funcs
  is_segments : AllZip IsSegment raw_segments m.segments

known : (m : Module) (at : ℕ) → WellFormed m → All FewLocals m.funcs → BelowFrom (sections m) → Known m at
known m at w few l =
    let p1 : ℕ = at in
    let s1 = write_section FunctionType IsFuncType (λ t. Unit {0}) func_type_bytes types 1 write_func_type func_type_some (λ xs k bytes h. h) m.types (λ k d l. tt) l.0 p1 in
    let p2 : ℕ = p1 + length (section 1 func_type_bytes m.types) + length (customs_behind 1 m.customs) in
    let s2 = write_section ImportOf IsImport ImportFits import_bytes imports 2 write_import import_some (λ xs k bytes h. h) m.imports w.imports l.1.0 p2 in
    let p3 : ℕ = p2 + length (section 2 import_bytes m.imports) + length (customs_behind 2 m.customs) in
    let s3 = write_section Number HasSort (λ (f : Func). f.sort < 2 ^ 32) (λ (f : Func). shortest f.sort) functions 3 write_sort (λ f. number_some f.sort) (λ xs k bytes h. h) m.funcs
    (sorts_fit m.funcs w.funcs) l.1.1.0 p3 in
    let p4 : ℕ = p3 + length (section 3 (λ (f : Func). shortest f.sort) m.funcs) + length (customs_behind 3 m.customs) in
    let s4 = write_section TableType Itself LimitsFit table_bytes tables 4 write_table table_some (λ xs k bytes h. h) m.tables w.tables l.1.1.1.0 p4 in
    let p5 : ℕ = p4 + length (section 4 table_bytes m.tables) + length (customs_behind 4 m.customs) in
    let s5 = write_section LimitsOf Itself LimitsFit limits_bytes memories 5 write_limits limits_some (λ xs k bytes h. h) m.memories w.memories l.1.1.1.1.0 p5 in
    let p6 : ℕ = p5 + length (section 5 limits_bytes m.memories) + length (customs_behind 5 m.customs) in
    let s6 = write_section GlobalOf IsGlobal (λ (g : GlobalDef). CodeFits g.init) global_bytes globals 6 write_global global_some (λ xs k bytes h. h) m.globals w.globals l.1.1.1.1.1.0 p6 in
    let p7 : ℕ = p6 + length (section 6 global_bytes m.globals) + length (customs_behind 6 m.customs) in
    let s7 = write_section ExportOf Itself ExportFits export_bytes exports 7 write_export export_some (λ xs k bytes h. h) m.exports w.exports l.1.1.1.1.1.1.0 p7 in
    let p8 : ℕ = p7 + length (section 7 export_bytes m.exports) + length (customs_behind 7 m.customs) in
    let s8 = write_start m.start w.start l.1.1.1.1.1.1.1.0 p8 in
    let p9 : ℕ = p8 + length (start_section m.start) + length (customs_behind 8 m.customs) in
    let s9 = write_section ElementOf IsElem ElemFits elem_bytes elements 9 write_elem elem_some (λ xs k bytes h. h) m.elems w.elems l.1.1.1.1.1.1.1.1.0 p9 in
    let p10 : ℕ = p9 + length (section 9 elem_bytes m.elems) + length (customs_behind 9 m.customs) in
    let s10 = write_section BodyOf (λ raw f. IsBody raw (merged_func f)) BodyFits (λ f. sized (body_bytes f)) bodies 10 write_body body_some (λ xs k bytes h. h) m.funcs
    (bodies_fit m.funcs w.funcs few) l.1.1.1.1.1.1.1.1.1.0 p10 in
    let p11 : ℕ = p10 + length (section 10 (λ f. sized (body_bytes f)) m.funcs) + length (customs_behind 10 m.customs) in
    let s11 = write_section SegmentOf IsSegment SegmentFits segment_bytes segments 11 write_segment segment_some (λ xs k bytes h. h) m.segments w.segments l.1.1.1.1.1.1.1.1.1.1.0 p11 in
    record {
      raw_types = s1.raws;
      raw_imports = s2.raws;
      raw_functions = s3.raws;
      raw_tables = s4.raws;
      raw_memories = s5.raws;
      raw_globals = s6.raws;
      raw_exports = s7.raws;
      raw_elements = s9.raws;
      raw_bodies = s10.raws;
      raw_segments = s11.raws;
      spelled = (s1.spelled, (s2.spelled, (s3.spelled, (s4.spelled, (s5.spelled, (s6.spelled, (s7.spelled, (s8, (s9.spelled, (s10.spelled, (s11.spelled, tt)))))))))));
      is_types = s1.means;
      is_imports = s2.means;
      is_functions = s3.means;
      is_tables = s4.means;
      is_memories = s5.means;
      is_globals = s6.means;
      is_exports = s7.means;
      is_elements = s9.means;
      is_bodies = s10.means;
      is_segments = s11.means;
    }

module _ (m : Module) (at : ℕ) (k : Known m at) where
  all_slots : List (List Section)
  all_slots = of_entries types k.raw_types ∷ of_entries imports k.raw_imports ∷ of_entries functions k.raw_functions ∷ of_entries tables k.raw_tables ∷ of_entries memories k.raw_memories
      ∷ of_entries globals k.raw_globals ∷ of_entries exports k.raw_exports ∷ of_start m.start ∷ of_entries elements k.raw_elements ∷ of_entries bodies k.raw_bodies
      ∷ of_entries segments k.raw_segments ∷ []

  all_sections : List Section
  all_sections = as_customs (placed_behind 0 m.customs) ++ file_from 1 all_slots m.customs

  slots_right : Slots 1 (written_flags m) all_slots
  unfolding all_slots
  slots_right = (
    slot_of IsFuncType 1 types (λ xs. refl) k.raw_types m.types k.is_types,
    (
      slot_of IsImport 2 imports (λ xs. refl) k.raw_imports m.imports k.is_imports,
      (
        slot_of HasSort 3 functions (λ xs. refl) k.raw_functions m.funcs k.is_functions,
        (
          slot_of Itself 4 tables (λ xs. refl) k.raw_tables m.tables k.is_tables,
          (
            slot_of Itself 5 memories (λ xs. refl) k.raw_memories m.memories k.is_memories,
            (
              slot_of IsGlobal 6 globals (λ xs. refl) k.raw_globals m.globals k.is_globals,
              (
                slot_of Itself 7 exports (λ xs. refl) k.raw_exports m.exports k.is_exports,
                (
                  slot_start m.start,
                  (
                    slot_of IsElem 9 elements (λ xs. refl) k.raw_elements m.elems k.is_elements,
                    (
                      slot_of (λ raw f. IsBody raw (merged_func f)) 10 bodies (λ xs. refl) k.raw_bodies m.funcs k.is_bodies,
                      (slot_of IsSegment 11 segments (λ xs. refl) k.raw_segments m.segments k.is_segments, tt),
                    ),
                  ),
                ),
              ),
            ),
          ),
        ),
      ),
    ),
  )

  has_types : flat_map types_in all_sections ≡ k.raw_types
  unfolding all_sections all_slots
  has_types = held types_in (λ n b. refl) (placed_behind 0 m.customs) all_slots m.customs
      ∙ rw (
        entries_held types_in types (λ xs. refl) k.raw_types,
        others_held types_in imports (λ ys. refl) k.raw_imports,
        others_held types_in functions (λ ys. refl) k.raw_functions,
        others_held types_in tables (λ ys. refl) k.raw_tables,
        others_held types_in memories (λ ys. refl) k.raw_memories,
        others_held types_in globals (λ ys. refl) k.raw_globals,
        others_held types_in exports (λ ys. refl) k.raw_exports,
        start_other types_in (λ x. refl) m.start,
        others_held types_in elements (λ ys. refl) k.raw_elements,
        others_held types_in bodies (λ ys. refl) k.raw_bodies,
        others_held types_in segments (λ ys. refl) k.raw_segments,
      ) (append-nil k.raw_types)

  has_imports : flat_map imports_in all_sections ≡ k.raw_imports
  unfolding all_sections all_slots
  has_imports = held imports_in (λ n b. refl) (placed_behind 0 m.customs) all_slots m.customs
      ∙ rw (
        others_held imports_in types (λ ys. refl) k.raw_types,
        entries_held imports_in imports (λ xs. refl) k.raw_imports,
        others_held imports_in functions (λ ys. refl) k.raw_functions,
        others_held imports_in tables (λ ys. refl) k.raw_tables,
        others_held imports_in memories (λ ys. refl) k.raw_memories,
        others_held imports_in globals (λ ys. refl) k.raw_globals,
        others_held imports_in exports (λ ys. refl) k.raw_exports,
        start_other imports_in (λ x. refl) m.start,
        others_held imports_in elements (λ ys. refl) k.raw_elements,
        others_held imports_in bodies (λ ys. refl) k.raw_bodies,
        others_held imports_in segments (λ ys. refl) k.raw_segments,
      ) (append-nil k.raw_imports)

  has_functions : flat_map sorts_in all_sections ≡ k.raw_functions
  unfolding all_sections all_slots
  has_functions = held sorts_in (λ n b. refl) (placed_behind 0 m.customs) all_slots m.customs
      ∙ rw (
        others_held sorts_in types (λ ys. refl) k.raw_types,
        others_held sorts_in imports (λ ys. refl) k.raw_imports,
        entries_held sorts_in functions (λ xs. refl) k.raw_functions,
        others_held sorts_in tables (λ ys. refl) k.raw_tables,
        others_held sorts_in memories (λ ys. refl) k.raw_memories,
        others_held sorts_in globals (λ ys. refl) k.raw_globals,
        others_held sorts_in exports (λ ys. refl) k.raw_exports,
        start_other sorts_in (λ x. refl) m.start,
        others_held sorts_in elements (λ ys. refl) k.raw_elements,
        others_held sorts_in bodies (λ ys. refl) k.raw_bodies,
        others_held sorts_in segments (λ ys. refl) k.raw_segments,
      ) (append-nil k.raw_functions)

  has_tables : flat_map tables_in all_sections ≡ k.raw_tables
  unfolding all_sections all_slots
  has_tables = held tables_in (λ n b. refl) (placed_behind 0 m.customs) all_slots m.customs
      ∙ rw (
        others_held tables_in types (λ ys. refl) k.raw_types,
        others_held tables_in imports (λ ys. refl) k.raw_imports,
        others_held tables_in functions (λ ys. refl) k.raw_functions,
        entries_held tables_in tables (λ xs. refl) k.raw_tables,
        others_held tables_in memories (λ ys. refl) k.raw_memories,
        others_held tables_in globals (λ ys. refl) k.raw_globals,
        others_held tables_in exports (λ ys. refl) k.raw_exports,
        start_other tables_in (λ x. refl) m.start,
        others_held tables_in elements (λ ys. refl) k.raw_elements,
        others_held tables_in bodies (λ ys. refl) k.raw_bodies,
        others_held tables_in segments (λ ys. refl) k.raw_segments,
      ) (append-nil k.raw_tables)

  has_memories : flat_map memories_in all_sections ≡ k.raw_memories
  unfolding all_sections all_slots
  has_memories = held memories_in (λ n b. refl) (placed_behind 0 m.customs) all_slots m.customs
      ∙ rw (
        others_held memories_in types (λ ys. refl) k.raw_types,
        others_held memories_in imports (λ ys. refl) k.raw_imports,
        others_held memories_in functions (λ ys. refl) k.raw_functions,
        others_held memories_in tables (λ ys. refl) k.raw_tables,
        entries_held memories_in memories (λ xs. refl) k.raw_memories,
        others_held memories_in globals (λ ys. refl) k.raw_globals,
        others_held memories_in exports (λ ys. refl) k.raw_exports,
        start_other memories_in (λ x. refl) m.start,
        others_held memories_in elements (λ ys. refl) k.raw_elements,
        others_held memories_in bodies (λ ys. refl) k.raw_bodies,
        others_held memories_in segments (λ ys. refl) k.raw_segments,
      ) (append-nil k.raw_memories)

  has_globals : flat_map globals_in all_sections ≡ k.raw_globals
  unfolding all_sections all_slots
  has_globals = held globals_in (λ n b. refl) (placed_behind 0 m.customs) all_slots m.customs
      ∙ rw (
        others_held globals_in types (λ ys. refl) k.raw_types,
        others_held globals_in imports (λ ys. refl) k.raw_imports,
        others_held globals_in functions (λ ys. refl) k.raw_functions,
        others_held globals_in tables (λ ys. refl) k.raw_tables,
        others_held globals_in memories (λ ys. refl) k.raw_memories,
        entries_held globals_in globals (λ xs. refl) k.raw_globals,
        others_held globals_in exports (λ ys. refl) k.raw_exports,
        start_other globals_in (λ x. refl) m.start,
        others_held globals_in elements (λ ys. refl) k.raw_elements,
        others_held globals_in bodies (λ ys. refl) k.raw_bodies,
        others_held globals_in segments (λ ys. refl) k.raw_segments,
      ) (append-nil k.raw_globals)

  has_exports : flat_map exports_in all_sections ≡ k.raw_exports
  unfolding all_sections all_slots
  has_exports = held exports_in (λ n b. refl) (placed_behind 0 m.customs) all_slots m.customs
      ∙ rw (
        others_held exports_in types (λ ys. refl) k.raw_types,
        others_held exports_in imports (λ ys. refl) k.raw_imports,
        others_held exports_in functions (λ ys. refl) k.raw_functions,
        others_held exports_in tables (λ ys. refl) k.raw_tables,
        others_held exports_in memories (λ ys. refl) k.raw_memories,
        others_held exports_in globals (λ ys. refl) k.raw_globals,
        entries_held exports_in exports (λ xs. refl) k.raw_exports,
        start_other exports_in (λ x. refl) m.start,
        others_held exports_in elements (λ ys. refl) k.raw_elements,
        others_held exports_in bodies (λ ys. refl) k.raw_bodies,
        others_held exports_in segments (λ ys. refl) k.raw_segments,
      ) (append-nil k.raw_exports)

  has_elements : flat_map elements_in all_sections ≡ k.raw_elements
  unfolding all_sections all_slots
  has_elements = held elements_in (λ n b. refl) (placed_behind 0 m.customs) all_slots m.customs
      ∙ rw (
        others_held elements_in types (λ ys. refl) k.raw_types,
        others_held elements_in imports (λ ys. refl) k.raw_imports,
        others_held elements_in functions (λ ys. refl) k.raw_functions,
        others_held elements_in tables (λ ys. refl) k.raw_tables,
        others_held elements_in memories (λ ys. refl) k.raw_memories,
        others_held elements_in globals (λ ys. refl) k.raw_globals,
        others_held elements_in exports (λ ys. refl) k.raw_exports,
        start_other elements_in (λ x. refl) m.start,
        entries_held elements_in elements (λ xs. refl) k.raw_elements,
        others_held elements_in bodies (λ ys. refl) k.raw_bodies,
        others_held elements_in segments (λ ys. refl) k.raw_segments,
      )
      (append-nil k.raw_elements)

  has_bodies : flat_map bodies_in all_sections ≡ k.raw_bodies
  unfolding all_sections all_slots
  has_bodies = held bodies_in (λ n b. refl) (placed_behind 0 m.customs) all_slots m.customs
      ∙ rw (
        others_held bodies_in types (λ ys. refl) k.raw_types,
        others_held bodies_in imports (λ ys. refl) k.raw_imports,
        others_held bodies_in functions (λ ys. refl) k.raw_functions,
        others_held bodies_in tables (λ ys. refl) k.raw_tables,
        others_held bodies_in memories (λ ys. refl) k.raw_memories,
        others_held bodies_in globals (λ ys. refl) k.raw_globals,
        others_held bodies_in exports (λ ys. refl) k.raw_exports,
        start_other bodies_in (λ x. refl) m.start,
        others_held bodies_in elements (λ ys. refl) k.raw_elements,
        entries_held bodies_in bodies (λ xs. refl) k.raw_bodies,
        others_held bodies_in segments (λ ys. refl) k.raw_segments,
      ) (append-nil k.raw_bodies)

  has_segments : flat_map segments_in all_sections ≡ k.raw_segments
  unfolding all_sections all_slots
  has_segments = held segments_in (λ n b. refl) (placed_behind 0 m.customs) all_slots m.customs
      ∙ rw (
        others_held segments_in types (λ ys. refl) k.raw_types,
        others_held segments_in imports (λ ys. refl) k.raw_imports,
        others_held segments_in functions (λ ys. refl) k.raw_functions,
        others_held segments_in tables (λ ys. refl) k.raw_tables,
        others_held segments_in memories (λ ys. refl) k.raw_memories,
        others_held segments_in globals (λ ys. refl) k.raw_globals,
        others_held segments_in exports (λ ys. refl) k.raw_exports,
        start_other segments_in (λ x. refl) m.start,
        others_held segments_in elements (λ ys. refl) k.raw_elements,
        others_held segments_in bodies (λ ys. refl) k.raw_bodies,
        entries_held segments_in segments (λ xs. refl) k.raw_segments,
      )
      (append-nil k.raw_segments)

  has_start_x : flat_map starts_in all_sections ≡ option_to_list m.start
  unfolding all_sections all_slots
  has_start_x = held starts_in (λ n b. refl) (placed_behind 0 m.customs) all_slots m.customs
      ∙ rw (
        others_held starts_in types (λ ys. refl) k.raw_types,
        others_held starts_in imports (λ ys. refl) k.raw_imports,
        others_held starts_in functions (λ ys. refl) k.raw_functions,
        others_held starts_in tables (λ ys. refl) k.raw_tables,
        others_held starts_in memories (λ ys. refl) k.raw_memories,
        others_held starts_in globals (λ ys. refl) k.raw_globals,
        others_held starts_in exports (λ ys. refl) k.raw_exports,
        start_held m.start,
        others_held starts_in elements (λ ys. refl) k.raw_elements,
        others_held starts_in bodies (λ ys. refl) k.raw_bodies,
        others_held starts_in segments (λ ys. refl) k.raw_segments,
      ) (append-nil (option_to_list m.start))

  has_customs : customs_of 0 all_sections ≡ map (placed_at 0) (placed_behind 0 m.customs) ++ lowered 1 0 (written_flags m) m.customs
  unfolding all_sections
  has_customs =
      customs_front (placed_behind 0 m.customs) (file_from 1 all_slots m.customs) 0
      ∙ ap (λ z. map (placed_at 0) (placed_behind 0 m.customs) ++ z) (customs_from 1 (written_flags m) all_slots m.customs slots_right 0 (omega arith))

  is_rising : Rising 0 all_sections
  unfolding all_sections
  is_rising = rising_customs (placed_behind 0 m.customs) (file_from 1 all_slots m.customs) 0 (rising_from 1 (written_flags m) all_slots m.customs slots_right 0 (omega arith))

  are_module : IsModule all_sections (Norm m)
  unfolding Norm
  are_module = record {
    types = subst (λ z. AllZip IsFuncType z m.types) (sym has_types) k.is_types;
    imports = subst (λ z. AllZip IsImport z m.imports) (sym has_imports) k.is_imports;
    sorts = sorts_are k.raw_functions m.funcs k.is_functions ∙ sym has_functions;
    funcs = subst (λ z. AllZip IsBody z (map merged_func m.funcs)) (sym has_bodies) (each_map IsBody merged_func k.raw_bodies m.funcs k.is_bodies);
    tables = sym (has_tables ∙ each_itself k.raw_tables m.tables k.is_tables);
    memories = sym (has_memories ∙ each_itself k.raw_memories m.memories k.is_memories);
    globals = subst (λ z. AllZip IsGlobal z m.globals) (sym has_globals) k.is_globals;
    exports = sym (has_exports ∙ each_itself k.raw_exports m.exports k.is_exports);
    start = sym has_start_x;
    elems = subst (λ z. AllZip IsElem z m.elems) (sym has_elements) k.is_elements;
    segments = subst (λ z. AllZip IsSegment z m.segments) (sym has_segments) k.is_segments;
    customs = sym has_customs;
  }

  even : length (flat_map sorts_in all_sections) ≡ length (flat_map bodies_in all_sections)
  even =
      ap length has_functions ∙ each_length HasSort k.raw_functions m.funcs k.is_functions
      ∙ sym (each_length (λ raw f. IsBody raw (merged_func f)) k.raw_bodies m.funcs k.is_bodies) ∙ ap length (sym has_bodies)

  all_spelled : All CustomFits m.customs → length (customs_behind 0 m.customs) < 2 ^ 32 → length (with_customs 1 (sections m) m.customs) < 2 ^ 32
      → at ≡ 8 + length (customs_behind 0 m.customs) → Items SectionOf all_sections 8 (customs_behind 0 m.customs ++ with_customs 1 (sections m) m.customs)
  unfolding all_sections all_slots
  all_spelled a c l e =
      items_append (as_customs (placed_behind 0 m.customs)) (file_from 1 all_slots m.customs) 8 (customs_behind 0 m.customs) (with_customs 1 (sections m) m.customs)
      (behind_spelled 0 m.customs a c 8)
      (subst (λ z. Items SectionOf (file_from 1 all_slots m.customs) z (with_customs 1 (sections m) m.customs)) e (spelled_from 1 all_slots (sections m) m.customs a l at k.spelled))

-- What a module is written as spells it, normalised.
pub written_spells : (m : Module) → WellFormed m → All FewLocals m.funcs → length (Enc m) < 2 ^ 32 → SpellsModule (Enc m) (Norm m)
unfolding Enc
written_spells m w few l =
    let c = customs_behind 0 m.customs in
    let r = with_customs 1 (sections m) m.customs in
    let len : length c + length r < 2 ^ 32 = omega (arith, l, length-append (preamble ++ c) r, length-append preamble c) in
    let fits : length r < 2 ^ 32 = omega (arith, len) in
    let at = 8 + length c in
    let k = known m at w few (below_from 1 (sections m) m.customs fits) in
    record {
      sections = all_sections m at k;
      spells = record {
        parts = (preamble, c ++ r, append_assoc preamble c r, refl, all_spelled m at k w.customs (omega (arith, len)) fits refl);
        order = is_rising m at k;
        counts = even m at k;
      };
      is_module = are_module m at k;
    }
