-- No spelling of a file is shorter than the one that its module is written in.
use Rattle.std.proofs.Common.{◌≡◌, ℕ, zero, suc, ◌+◌, ◌<◌, ◌≤◌, ◌⊎◌, inl, inr, List, [], ◌∷◌, ◌++◌, map, flat_map, length, min, Option, Some, None, option_to_list, refl, ap, sym, subst, arith, length-append, Bool, true, false, cond, nat_eq, eqb-true, filter}
use Rattle.std.proofs.lemmas.Bool.{ne_eqb, eqb-false}
use Rattle.std.specs.List.{AllZip}
use Rattle.wa_types.specs.declared.syntax.Limits.{Limits}
use Rattle.wa_types.specs.declared.syntax.Import.{Import}
use Rattle.wa_types.specs.declared.syntax.Export.{Export}
use Rattle.leb_numbers.specs.Leb.{shortest}
use Rattle.wa_types.specs.Encoding.{Enc, vector, sized, func_type_bytes, limits_bytes, table_bytes, body_bytes, import_bytes, global_bytes, export_bytes, elem_bytes, segment_bytes, section, start_section, custom_bytes, customs_behind, preamble, sections, with_customs}
use Rattle.wa_types.specs.Syntax.{FuncType, Func, GlobalDef, Elem, Segment, Custom, Module}
use Rattle.wa_types.specs.Binary.{Section, custom, types, imports, functions, tables, memories, globals, exports, start, elements, bodies, segments, section_id}
use Rattle.wa_types.specs.Spells.{◌▸◌, Exactly, Number, Items, Vector, Sized, FunctionType, LimitsOf, TableType, ImportOf, GlobalOf, ExportOf, ElementOf, BodyOf, SegmentOf, SectionOf, Rising, sorts_in, bodies_in}
use Rattle.wa_types.specs.Reading.{IsFuncType, IsImport, IsGlobal, IsElem, IsBody, IsSegment, types_in, imports_in, tables_in, memories_in, globals_in, exports_in, starts_in, elements_in, segments_in, customs_of, SpellsModule}
use Rattle.wasm_reader.proofs.ModulesMade.{join_clear}
use Rattle.wasm_reader.proofs.ShortNumbers.{by_test, number_short}
use Rattle.wasm_reader.proofs.ShortCode.{vector_short, Same, each_same, index_short, sized_short}
use Rattle.wasm_reader.proofs.ShortEntries.{text_short, type_short, limits_short, table_short, import_short, global_short, export_short, elem_short, segment_short, body_short}
use Rattle.wasm_reader.proofs.SpelledCodeSizes.{length_split}

-- what a section of entries takes
section_short : {X Y : Type 0} (f : X → ℕ → List ℕ → Type 0) (entry : Y → List ℕ) (R : X → Y → Type 0) → ((x : X) (y : Y) (at : ℕ) (a : List ℕ) → f x at a → R x y → length (entry y) ≤ length a)
    → (xs : List X) (ys : List Y) (id at : ℕ) (a : List ℕ) → (Exactly (id ∷ []) ▸ Sized (Vector f xs)) at a → AllZip R xs ys → length (section id entry ys) ≤ length a
section_short f entry R w xs [] id at a h e = omega arith
section_short f entry R w xs (y ∷ ys) id at a h e =
    let z = h.4.1 in
    let v = vector_short f entry R w xs (y ∷ ys) (at + length h.0 + length z.0) z.1 z.4.1 e in
    let s = sized_short (vector entry (y ∷ ys)) h.4.0 h.1 z.0 z.1 z.2 z.3 z.4.0 (omega (arith, v, z.4.0)) in
    omega (arith, length_split a h.0 h.1 h.2, ap length h.3, s)

-- the lengths of the sections of this id
lengths_of : (id : ℕ) (ss : List Section) (at : ℕ) (a : List ℕ) → Items SectionOf ss at a → ℕ
lengths_of id [] at a h = 0
lengths_of id (s ∷ ss) at a h = cond (nat_eq (section_id s) id) (length h.0) 0 + lengths_of id ss (at + length h.0) h.1 h.4

-- how sections rise
rises : (last : ℕ) (s : Section) (ss : List Section) → Rising last (s ∷ ss) → ((section_id s ≡ 0) × Rising last ss) ⊎ ((last < section_id s) × Rising (section_id s) ss)
rises last (custom n b) ss r = inl (refl, r)
rises last (types xs) ss r = inr r
rises last (imports xs) ss r = inr r
rises last (functions xs) ss r = inr r
rises last (tables xs) ss r = inr r
rises last (memories xs) ss r = inr r
rises last (globals xs) ss r = inr r
rises last (exports xs) ss r = inr r
rises last (start x) ss r = inr r
rises last (elements xs) ss r = inr r
rises last (bodies xs) ss r = inr r
rises last (segments xs) ss r = inr r

onward : (last : ℕ) (s : Section) (ss : List Section) → Rising last (s ∷ ss) → (next : ℕ) × Rising next ss
onward last s ss r = elim (rises last s ss r) [ inl c ↦ (last, c.1) | inr k ↦ (section_id s, k.1) ]

alone : {X : Type 0} (xs ys : List X) → ys ≡ [] → xs ++ ys ≡ xs
alone [] ys e = e
alone (x ∷ xs) ys e = ap (λ z. x ∷ z) (alone xs ys e)

without : {X : Type 0} (xs ys : List X) → xs ≡ [] → xs ++ ys ≡ ys
without xs ys e = ap (λ z. z ++ ys) e

-- behind a section of an id stands no other
none_later : {X : Type 0} (g : Section → List X) (id : ℕ) → 1 ≤ id → ((s : Section) → (section_id s ≡ id → ⊥) → g s ≡ []) → (last : ℕ) (ss : List Section) → id ≤ last → Rising last ss
    → flat_map g ss ≡ []
none_later g id one other last [] l r = refl
none_later g id one other last (s ∷ ss) l r = elim (rises last s ss r) [
  | inl c ↦ join_clear (g s) (flat_map g ss) (other s (λ e. omega (arith, one, e, c.0))) (none_later g id one other last ss l c.1)
  | inr k ↦ join_clear (g s) (flat_map g ss) (other s (λ e. omega (arith, l, e, k.0))) (none_later g id one other (section_id s) ss (omega (arith, l, k.0)) k.1)
]

-- how the sections of one id are written
pub record IsKind {X Y : Type 0} (g : Section → List X) (id : ℕ) (R : X → Y → Type 0) (bytes : List Y → List ℕ) : Type 0 where
  one : 1 ≤ id
  nothing : bytes [] ≡ []
  other : (s : Section) → (section_id s ≡ id → ⊥) → g s ≡ []
  written : (s : Section) (at : ℕ) (a : List ℕ) (ys : List Y) → SectionOf s at a → AllZip R (g s) ys → length (bytes ys) ≤ length a

-- what is written of a kind takes no more than the section of that kind
kind_short : {X Y : Type 0} (g : Section → List X) (id : ℕ) (R : X → Y → Type 0) (bytes : List Y → List ℕ) → IsKind g id R bytes
    → (last : ℕ) (ss : List Section) (at : ℕ) (a : List ℕ) (h : Items SectionOf ss at a) (ys : List Y) → Rising last ss → AllZip R (flat_map g ss) ys → length (bytes ys) ≤ lengths_of id ss at a h
unfolding lengths_of
kind_short g id R bytes k last [] at a h [] r e = omega (arith, ap length k.nothing)
kind_short g id R bytes k last [] at a h (y ∷ ys) r e = absurd e
kind_short g id R bytes k last (s ∷ ss) at a h ys r e = elim (by_test (nat_eq (section_id s) id)) [
  | inl found ↦
      let same = eqb-true (section_id s) id found in
      let none : flat_map g ss ≡ [] = elim (rises last s ss r) [
        | inl c ↦ absurd (omega (arith, k.one, same, c.0))
        | inr n ↦ none_later g id k.one k.other (section_id s) ss (omega (arith, same)) n.1
      ] in
      let w = k.written s at h.0 ys h.3 (subst (λ z. AllZip R z ys) (alone (g s) (flat_map g ss) none) e) in
      omega (arith, w, ap (λ t. cond t (length h.0) 0) found)
  | inr past ↦
      let n = onward last s ss r in
      omega (arith, kind_short g id R bytes k n.0 ss (at + length h.0) h.1 h.4 ys n.1 (subst (λ z. AllZip R z ys) (without (g s) (flat_map g ss) (k.other s (eqb-false (section_id s) id past))) e))
]

-- the kinds
types_other : (s : Section) → (section_id s ≡ 1 → ⊥) → types_in s ≡ []
types_other (types xs) n = absurd (n refl)
types_other _ n = refl

types_written : (s : Section) (at : ℕ) (a : List ℕ) (ys : List FuncType) → SectionOf s at a → AllZip IsFuncType (types_in s) ys → length (section 1 func_type_bytes ys) ≤ length a
types_written (types xs) at a ys h e = section_short FunctionType func_type_bytes IsFuncType type_short xs ys 1 at a h e
types_written _ at a [] h e = omega arith
types_written _ at a (y ∷ ys) h e = absurd e

types_kind : IsKind types_in 1 IsFuncType (section 1 func_type_bytes)
types_kind = record { one = omega arith; nothing = refl; other = types_other; written = types_written }

imports_other : (s : Section) → (section_id s ≡ 2 → ⊥) → imports_in s ≡ []
imports_other (imports xs) n = absurd (n refl)
imports_other _ n = refl

imports_written : (s : Section) (at : ℕ) (a : List ℕ) (ys : List Import) → SectionOf s at a → AllZip IsImport (imports_in s) ys → length (section 2 import_bytes ys) ≤ length a
imports_written (imports xs) at a ys h e = section_short ImportOf import_bytes IsImport import_short xs ys 2 at a h e
imports_written _ at a [] h e = omega arith
imports_written _ at a (y ∷ ys) h e = absurd e

imports_kind : IsKind imports_in 2 IsImport (section 2 import_bytes)
imports_kind = record { one = omega arith; nothing = refl; other = imports_other; written = imports_written }

functions_other : (s : Section) → (section_id s ≡ 3 → ⊥) → sorts_in s ≡ []
functions_other (functions xs) n = absurd (n refl)
functions_other _ n = refl

functions_written : (s : Section) (at : ℕ) (a : List ℕ) (ys : List ℕ) → SectionOf s at a → AllZip Same (sorts_in s) ys → length (section 3 shortest ys) ≤ length a
functions_written (functions xs) at a ys h e = section_short Number shortest Same index_short xs ys 3 at a h e
functions_written _ at a [] h e = omega arith
functions_written _ at a (y ∷ ys) h e = absurd e

functions_kind : IsKind sorts_in 3 Same (section 3 shortest)
functions_kind = record { one = omega arith; nothing = refl; other = functions_other; written = functions_written }

tables_other : (s : Section) → (section_id s ≡ 4 → ⊥) → tables_in s ≡ []
tables_other (tables xs) n = absurd (n refl)
tables_other _ n = refl

tables_written : (s : Section) (at : ℕ) (a : List ℕ) (ys : List Limits) → SectionOf s at a → AllZip Same (tables_in s) ys → length (section 4 table_bytes ys) ≤ length a
tables_written (tables xs) at a ys h e = section_short TableType table_bytes Same table_short xs ys 4 at a h e
tables_written _ at a [] h e = omega arith
tables_written _ at a (y ∷ ys) h e = absurd e

tables_kind : IsKind tables_in 4 Same (section 4 table_bytes)
tables_kind = record { one = omega arith; nothing = refl; other = tables_other; written = tables_written }

memories_other : (s : Section) → (section_id s ≡ 5 → ⊥) → memories_in s ≡ []
memories_other (memories xs) n = absurd (n refl)
memories_other _ n = refl

memories_written : (s : Section) (at : ℕ) (a : List ℕ) (ys : List Limits) → SectionOf s at a → AllZip Same (memories_in s) ys → length (section 5 limits_bytes ys) ≤ length a
memories_written (memories xs) at a ys h e = section_short LimitsOf limits_bytes Same limits_short xs ys 5 at a h e
memories_written _ at a [] h e = omega arith
memories_written _ at a (y ∷ ys) h e = absurd e

memories_kind : IsKind memories_in 5 Same (section 5 limits_bytes)
memories_kind = record { one = omega arith; nothing = refl; other = memories_other; written = memories_written }

globals_other : (s : Section) → (section_id s ≡ 6 → ⊥) → globals_in s ≡ []
globals_other (globals xs) n = absurd (n refl)
globals_other _ n = refl

globals_written : (s : Section) (at : ℕ) (a : List ℕ) (ys : List GlobalDef) → SectionOf s at a → AllZip IsGlobal (globals_in s) ys → length (section 6 global_bytes ys) ≤ length a
globals_written (globals xs) at a ys h e = section_short GlobalOf global_bytes IsGlobal global_short xs ys 6 at a h e
globals_written _ at a [] h e = omega arith
globals_written _ at a (y ∷ ys) h e = absurd e

globals_kind : IsKind globals_in 6 IsGlobal (section 6 global_bytes)
globals_kind = record { one = omega arith; nothing = refl; other = globals_other; written = globals_written }

exports_other : (s : Section) → (section_id s ≡ 7 → ⊥) → exports_in s ≡ []
exports_other (exports xs) n = absurd (n refl)
exports_other _ n = refl

exports_written : (s : Section) (at : ℕ) (a : List ℕ) (ys : List Export) → SectionOf s at a → AllZip Same (exports_in s) ys → length (section 7 export_bytes ys) ≤ length a
exports_written (exports xs) at a ys h e = section_short ExportOf export_bytes Same export_short xs ys 7 at a h e
exports_written _ at a [] h e = omega arith
exports_written _ at a (y ∷ ys) h e = absurd e

exports_kind : IsKind exports_in 7 Same (section 7 export_bytes)
exports_kind = record { one = omega arith; nothing = refl; other = exports_other; written = exports_written }

elements_other : (s : Section) → (section_id s ≡ 9 → ⊥) → elements_in s ≡ []
elements_other (elements xs) n = absurd (n refl)
elements_other _ n = refl

elements_written : (s : Section) (at : ℕ) (a : List ℕ) (ys : List Elem) → SectionOf s at a → AllZip IsElem (elements_in s) ys → length (section 9 elem_bytes ys) ≤ length a
elements_written (elements xs) at a ys h e = section_short ElementOf elem_bytes IsElem elem_short xs ys 9 at a h e
elements_written _ at a [] h e = omega arith
elements_written _ at a (y ∷ ys) h e = absurd e

elements_kind : IsKind elements_in 9 IsElem (section 9 elem_bytes)
elements_kind = record { one = omega arith; nothing = refl; other = elements_other; written = elements_written }

bodies_other : (s : Section) → (section_id s ≡ 10 → ⊥) → bodies_in s ≡ []
bodies_other (bodies xs) n = absurd (n refl)
bodies_other _ n = refl

bodies_written : (s : Section) (at : ℕ) (a : List ℕ) (ys : List Func) → SectionOf s at a → AllZip IsBody (bodies_in s) ys → length (section 10 (λ (f : Func). sized (body_bytes f)) ys) ≤ length a
bodies_written (bodies xs) at a ys h e = section_short BodyOf (λ (f : Func). sized (body_bytes f)) IsBody body_short xs ys 10 at a h e
bodies_written _ at a [] h e = omega arith
bodies_written _ at a (y ∷ ys) h e = absurd e

bodies_kind : IsKind bodies_in 10 IsBody (section 10 (λ (f : Func). sized (body_bytes f)))
bodies_kind = record { one = omega arith; nothing = refl; other = bodies_other; written = bodies_written }

segments_other : (s : Section) → (section_id s ≡ 11 → ⊥) → segments_in s ≡ []
segments_other (segments xs) n = absurd (n refl)
segments_other _ n = refl

segments_written : (s : Section) (at : ℕ) (a : List ℕ) (ys : List Segment) → SectionOf s at a → AllZip IsSegment (segments_in s) ys → length (section 11 segment_bytes ys) ≤ length a
segments_written (segments xs) at a ys h e = section_short SegmentOf segment_bytes IsSegment segment_short xs ys 11 at a h e
segments_written _ at a [] h e = omega arith
segments_written _ at a (y ∷ ys) h e = absurd e

segments_kind : IsKind segments_in 11 IsSegment (section 11 segment_bytes)
segments_kind = record { one = omega arith; nothing = refl; other = segments_other; written = segments_written }

-- the start
start_bytes : List ℕ → List ℕ
start_bytes [] = []
start_bytes (x ∷ xs) = 0x08 ∷ sized (shortest x)

start_other : (s : Section) → (section_id s ≡ 8 → ⊥) → starts_in s ≡ []
start_other (start x) n = absurd (n refl)
start_other _ n = refl

start_written : (s : Section) (at : ℕ) (a : List ℕ) (ys : List ℕ) → SectionOf s at a → AllZip Same (starts_in s) ys → length (start_bytes ys) ≤ length a
unfolding start_bytes
start_written (start x) at a [] h e = absurd e
start_written (start x) at a (y ∷ ys) h e =
    let z = h.4.1 in
    let v = number_short x z.1 z.4.1 in
    let same = ap (λ n. length (shortest n)) e.0 in
    let s = sized_short (shortest y) h.4.0 h.1 z.0 z.1 z.2 z.3 z.4.0 (omega (arith, v, same, z.4.0)) in
    omega (arith, length_split a h.0 h.1 h.2, ap length h.3, s)
start_written _ at a [] h e = omega arith
start_written _ at a (y ∷ ys) h e = absurd e

start_nothing : start_bytes [] ≡ []
unfolding start_bytes
start_nothing = refl

start_kind : IsKind starts_in 8 Same start_bytes
start_kind = record { one = omega arith; nothing = start_nothing; other = start_other; written = start_written }

start_is : (o : Option ℕ) → start_section o ≡ start_bytes (option_to_list o)
unfolding start_bytes
start_is None = refl
start_is (Some x) = refl

-- the custom sections
customs_length : List Custom → ℕ
customs_length cs = length (flat_map custom_bytes cs)

customs_short : (last : ℕ) (ss : List Section) (at : ℕ) (a : List ℕ) (h : Items SectionOf ss at a) → customs_length (customs_of last ss) ≤ lengths_of 0 ss at a h
unfolding lengths_of customs_length
customs_short last [] at a h = omega arith
customs_short last (custom n b ∷ ss) at a h =
    let s = h.3 in
    let z = s.4.1 in
    let v = z.4.1 in
    let c : Custom = record { after = last; name = n; bytes = b } in
    let content : length (sized n ++ b) ≤ s.4.0 = omega (
      arith,
      length_split z.1 v.0 v.1 v.2,
      length-append (sized n) b,
      text_short n (at + length s.0 + length z.0) v.0 v.3,
      ap length v.4,
      z.4.0,
    ) in
    let w = sized_short (sized n ++ b) s.4.0 s.1 z.0 z.1 z.2 z.3 z.4.0 content in
    omega (arith, length-append (custom_bytes c) (flat_map custom_bytes (customs_of last ss)), length_split h.0 s.0 s.1 s.2, ap length s.3, w, customs_short last ss (at + length h.0) h.1 h.4)
customs_short last (types xs ∷ ss) at a h = omega (arith, customs_short 1 ss (at + length h.0) h.1 h.4)
customs_short last (imports xs ∷ ss) at a h = omega (arith, customs_short 2 ss (at + length h.0) h.1 h.4)
customs_short last (functions xs ∷ ss) at a h = omega (arith, customs_short 3 ss (at + length h.0) h.1 h.4)
customs_short last (tables xs ∷ ss) at a h = omega (arith, customs_short 4 ss (at + length h.0) h.1 h.4)
customs_short last (memories xs ∷ ss) at a h = omega (arith, customs_short 5 ss (at + length h.0) h.1 h.4)
customs_short last (globals xs ∷ ss) at a h = omega (arith, customs_short 6 ss (at + length h.0) h.1 h.4)
customs_short last (exports xs ∷ ss) at a h = omega (arith, customs_short 7 ss (at + length h.0) h.1 h.4)
customs_short last (start x ∷ ss) at a h = omega (arith, customs_short 8 ss (at + length h.0) h.1 h.4)
customs_short last (elements xs ∷ ss) at a h = omega (arith, customs_short 9 ss (at + length h.0) h.1 h.4)
customs_short last (bodies xs ∷ ss) at a h = omega (arith, customs_short 10 ss (at + length h.0) h.1 h.4)
customs_short last (segments xs ∷ ss) at a h = omega (arith, customs_short 11 ss (at + length h.0) h.1 h.4)

-- all sections together
all_lengths : (ss : List Section) (at : ℕ) (a : List ℕ) (h : Items SectionOf ss at a)
    → lengths_of 0 ss at a h + lengths_of 1 ss at a h + lengths_of 2 ss at a h + lengths_of 3 ss at a h + lengths_of 4 ss at a h + lengths_of 5 ss at a h + lengths_of 6 ss at a h
    + lengths_of 7 ss at a h + lengths_of 8 ss at a h + lengths_of 9 ss at a h + lengths_of 10 ss at a h + lengths_of 11 ss at a h ≡ length a
unfolding lengths_of
all_lengths [] at a h = omega (arith, ap length h)
all_lengths (custom n b ∷ ss) at a h = omega (arith, length_split a h.0 h.1 h.2, all_lengths ss (at + length h.0) h.1 h.4)
all_lengths (types xs ∷ ss) at a h = omega (arith, length_split a h.0 h.1 h.2, all_lengths ss (at + length h.0) h.1 h.4)
all_lengths (imports xs ∷ ss) at a h = omega (arith, length_split a h.0 h.1 h.2, all_lengths ss (at + length h.0) h.1 h.4)
all_lengths (functions xs ∷ ss) at a h = omega (arith, length_split a h.0 h.1 h.2, all_lengths ss (at + length h.0) h.1 h.4)
all_lengths (tables xs ∷ ss) at a h = omega (arith, length_split a h.0 h.1 h.2, all_lengths ss (at + length h.0) h.1 h.4)
all_lengths (memories xs ∷ ss) at a h = omega (arith, length_split a h.0 h.1 h.2, all_lengths ss (at + length h.0) h.1 h.4)
all_lengths (globals xs ∷ ss) at a h = omega (arith, length_split a h.0 h.1 h.2, all_lengths ss (at + length h.0) h.1 h.4)
all_lengths (exports xs ∷ ss) at a h = omega (arith, length_split a h.0 h.1 h.2, all_lengths ss (at + length h.0) h.1 h.4)
all_lengths (start x ∷ ss) at a h = omega (arith, length_split a h.0 h.1 h.2, all_lengths ss (at + length h.0) h.1 h.4)
all_lengths (elements xs ∷ ss) at a h = omega (arith, length_split a h.0 h.1 h.2, all_lengths ss (at + length h.0) h.1 h.4)
all_lengths (bodies xs ∷ ss) at a h = omega (arith, length_split a h.0 h.1 h.2, all_lengths ss (at + length h.0) h.1 h.4)
all_lengths (segments xs ∷ ss) at a h = omega (arith, length_split a h.0 h.1 h.2, all_lengths ss (at + length h.0) h.1 h.4)

-- each custom section stands behind one id
abbrev place_of : Custom → ℕ
place_of c = min c.after 11

behind_step : (id : ℕ) (c : Custom) (cs : List Custom) → length (customs_behind id (c ∷ cs)) ≡ cond (nat_eq (place_of c) id) (length (custom_bytes c)) 0 + length (customs_behind id cs)
behind_step id c cs = by_place (nat_eq (place_of c) id)
  where
    by_place : (t : Bool) → length (flat_map custom_bytes (cond t (c ∷ filter (λ (d : Custom). nat_eq (place_of d) id) cs) (filter (λ (d : Custom). nat_eq (place_of d) id) cs)))
        ≡ cond t (length (custom_bytes c)) 0 + length (customs_behind id cs)
    by_place true = length-append (custom_bytes c) (customs_behind id cs)
    by_place false = omega arith

-- the custom sections behind ids below n
behind_below : (n : ℕ) → List Custom → ℕ
behind_below zero cs = 0
behind_below (suc n) cs = length (customs_behind n cs) + behind_below n cs

-- one of them, behind ids below n
one_below : (n place length : ℕ) → ℕ
one_below zero place l = 0
one_below (suc n) place l = cond (nat_eq place n) l 0 + one_below n place l

below_step : (n : ℕ) (c : Custom) (cs : List Custom) → behind_below n (c ∷ cs) ≡ one_below n (place_of c) (length (custom_bytes c)) + behind_below n cs
unfolding behind_below one_below
below_step zero c cs = refl
below_step (suc n) c cs = omega (arith, behind_step n c cs, below_step n c cs)

not_below : (n place l : ℕ) → n ≤ place → one_below n place l ≡ 0
unfolding one_below
not_below zero place l h = refl
not_below (suc n) place l h = rw (ne_eqb place n (λ e. omega (arith, h, e)), not_below n place l (omega (arith, h))) refl

once_below : (n place l : ℕ) → one_below n place l ≤ l
unfolding one_below
once_below zero place l = omega arith
once_below (suc n) place l = elim (by_test (nat_eq place n)) [
  | inl same ↦ omega (arith, ap (λ t. cond t l 0) same, not_below n place l (omega (arith, eqb-true place n same)))
  | inr other ↦ omega (arith, ap (λ t. cond t l 0) other, once_below n place l)
]

no_customs : (n : ℕ) → behind_below n [] ≡ 0
unfolding behind_below
no_customs zero = refl
no_customs (suc n) = omega (arith, no_customs n)

behind_short : (n : ℕ) (cs : List Custom) → behind_below n cs ≤ customs_length cs
unfolding behind_below customs_length
behind_short n [] = omega (arith, no_customs n)
behind_short n (c ∷ cs) =
    omega (arith, below_step n c cs, once_below n (place_of c) (length (custom_bytes c)), behind_short n cs, length-append (custom_bytes c) (flat_map custom_bytes cs))

-- the known sections, and the custom ones behind them
total : List (List ℕ) → ℕ
total [] = 0
total (s ∷ ss) = length s + total ss

between : ℕ → List (List ℕ) → List Custom → ℕ
between id [] cs = 0
between id (s ∷ ss) cs = length (customs_behind id cs) + between (suc id) ss cs

with_customs_length : (id : ℕ) (ss : List (List ℕ)) (cs : List Custom) → length (with_customs id ss cs) ≡ total ss + between id ss cs
unfolding total between
with_customs_length id [] cs = refl
with_customs_length id (s ∷ ss) cs =
    omega (arith, length-append (s ++ customs_behind id cs) (with_customs (suc id) ss cs), length-append s (customs_behind id cs), with_customs_length (suc id) ss cs)

enc_length : (m : Module) → length (Enc m) ≡ 8 + total (sections m) + behind_below 12 m.customs
unfolding Enc total between behind_below
enc_length m =
    omega (
      arith,
      length-append (preamble ++ customs_behind 0 m.customs) (with_customs 1 (sections m) m.customs),
      length-append preamble (customs_behind 0 m.customs),
      with_customs_length 1 (sections m) m.customs,
    )

length_map : (fs : List Func) → length (map (λ (f : Func). f.sort) fs) ≡ length fs
length_map [] = refl
length_map (f ∷ fs) = ap suc (length_map fs)

mapped_items : (fs : List Func) → flat_map (λ (f : Func). shortest f.sort) fs ≡ flat_map shortest (map (λ (f : Func). f.sort) fs)
mapped_items [] = refl
mapped_items (f ∷ fs) = ap (λ z. shortest f.sort ++ z) (mapped_items fs)

-- lists that are the same
same_as : {X : Type 0} (xs ys : List X) → ys ≡ xs → AllZip Same xs ys
same_as xs ys e = subst (λ z. AllZip Same xs z) (sym e) (each_same xs)

-- the function section, from the functions' type indices
mapped_section : (fs : List Func) → section 3 (λ (f : Func). shortest f.sort) fs ≡ section 3 shortest (map (λ (f : Func). f.sort) fs)
mapped_section [] = refl
mapped_section (f ∷ fs) = joined (length_map fs) (mapped_items fs)
  where
    joined : length (map (λ (f : Func). f.sort) fs) ≡ length fs → flat_map (λ (f : Func). shortest f.sort) fs ≡ flat_map shortest (map (λ (f : Func). f.sort) fs)
        → section 3 (λ (f : Func). shortest f.sort) (f ∷ fs) ≡ section 3 shortest (map (λ (f : Func). f.sort) (f ∷ fs))
    joined e g = ap (λ z. 3 ∷ sized z) (λ i. shortest (suc (sym e i)) ++ (shortest f.sort ++ g i))

-- The bytes that a module is written as are no more than those that spell it.
pub written_short : (bytes : List ℕ) (m : Module) → SpellsModule bytes m → length (Enc m) ≤ length bytes
unfolding total
written_short bytes m s =
    let p = s.spells.parts in
    let at = 0 + length p.0 in
    let ss = s.sections in
    let i = s.is_module in
    let r = s.spells.order in
    omega (
      arith,
      length_split bytes p.0 p.1 p.2,
      ap length p.3,
      all_lengths ss at p.1 p.4,
      enc_length m,
      behind_short 12 m.customs,
      customs_short 0 ss at p.1 p.4,
      ap customs_length i.customs,
      kind_short types_in 1 IsFuncType (section 1 func_type_bytes) types_kind 0 ss at p.1 p.4 m.types r i.types,
      kind_short imports_in 2 IsImport (section 2 import_bytes) imports_kind 0 ss at p.1 p.4 m.imports r i.imports,
      kind_short sorts_in 3 Same (section 3 shortest) functions_kind 0 ss at p.1 p.4 (map (λ (f : Func). f.sort) m.funcs) r
          (same_as (flat_map sorts_in ss) (map (λ (f : Func). f.sort) m.funcs) i.sorts),
      ap length (mapped_section m.funcs),
      kind_short tables_in 4 Same (section 4 table_bytes) tables_kind 0 ss at p.1 p.4 m.tables r (same_as (flat_map tables_in ss) m.tables i.tables),
      kind_short memories_in 5 Same (section 5 limits_bytes) memories_kind 0 ss at p.1 p.4 m.memories r (same_as (flat_map memories_in ss) m.memories i.memories),
      kind_short globals_in 6 IsGlobal (section 6 global_bytes) globals_kind 0 ss at p.1 p.4 m.globals r i.globals,
      kind_short exports_in 7 Same (section 7 export_bytes) exports_kind 0 ss at p.1 p.4 m.exports r (same_as (flat_map exports_in ss) m.exports i.exports),
      kind_short starts_in 8 Same start_bytes start_kind 0 ss at p.1 p.4 (option_to_list m.start) r (same_as (flat_map starts_in ss) (option_to_list m.start) i.start),
      ap length (start_is m.start),
      kind_short elements_in 9 IsElem (section 9 elem_bytes) elements_kind 0 ss at p.1 p.4 m.elems r i.elems,
      kind_short bodies_in 10 IsBody (section 10 (λ (f : Func). sized (body_bytes f))) bodies_kind 0 ss at p.1 p.4 m.funcs r i.funcs,
      kind_short segments_in 11 IsSegment (section 11 segment_bytes) segments_kind 0 ss at p.1 p.4 m.segments r i.segments,
    )
