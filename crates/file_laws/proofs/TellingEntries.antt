-- What entries show, kind by kind.
use Rattle.std.proofs.Common.{◌≡◌, ℕ, ◌+◌, ◌-◌, List, [], ◌∷◌, ◌++◌, refl, ap, sym, ◌∙◌, subst, arith, append_assoc, append-nil, length, length-append, Bool, true, false, cond, nat_le}
use Rattle.std.specs.List.{flat_map}
use Rattle.wa_types.specs.declared.syntax.Limits.{Limits}
use Rattle.wa_types.specs.declared.syntax.Export.{Export}
use Rattle.wa_types.specs.Encoding.{space_byte, mutable_byte}
use Rattle.wa_types.specs.Binary.{Placed, RawCode, RawType, RawImport, RawGlobal, RawElem, RawRun, RawBody, RawSegment}
use Rattle.wa_types.specs.Begun.{Goal, code, number, name, value_type, mutable, import_kind, space, limits, count, entries, until, name_of, others, where_true, EntryKind, some_types, some_imports, some_functions, some_tables, some_memories, some_globals, some_exports, some_elements, some_bodies, some_segments, some_value_types, some_runs, some_indices, some_bytes}
use Rattle.wa_types.specs.Marks.{float_type, code_floats, code_opens, type_floats, body_floats}
use Rattle.wa_types.specs.ModuleBounds.{ModuleBounds}
use Rattle.wa_types.specs.Spells.{◌▸◌, Exactly, Number, Items, Vector, TextBytes, Text, ValueType, FunctionType, LimitsOf, TableType, GlobalType, ImportKindOf, ImportOf, GlobalOf, ExportOf, Expression, ElementOf, RunOf, BodyOf, SegmentOf}
use Rattle.file_laws.specs.Showing.{Seen, nothing_seen, floats_seen, parameters_seen, size_seen, both, levels, await_results}
use Rattle.file_laws.proofs.Telling.{Tells, Gives, give, tells_until, entry_next, gives_then, gives_as, gives_same, gives_number, gives_numbers, gives_value_type, gives_mutable, gives_space, gives_maximum, gives_limits, gives_name_bytes, gives_text, gives_kind, gives_entry, gives_count, gives_silent, seen_placed, seen_kind, seen_in}
use Rattle.file_laws.proofs.TellingCode.{seen_code, gives_code}

-- goals that hold no code, and no number of results first
pub record Calm (gs : List Goal) : Type 0 where
  pub flat : levels gs ≡ 0
  pub free : await_results gs ≡ false

calm_others : (k : EntryKind) (n : ℕ) (more : List Goal) → Calm more → Calm (others k n ++ more)
unfolding levels
calm_others k n more c = by_test (nat_le n 1) where
  by_test : (t : Bool) → Calm (cond t [] (entries k (n - 1) ∷ []) ++ more)
  by_test true = c
  by_test false = record { flat = (let h = c.flat in omega (arith, h)); free = refl }

count_flat : (k : EntryKind) (gs : List Goal) → levels gs ≡ 0 → levels (count k ∷ gs) ≡ 0
unfolding levels
count_flat k gs h = omega (arith, h)

pub until_flat : (end : ℕ) (gs : List Goal) → levels gs ≡ 0 → levels (until end ∷ gs) ≡ 0
unfolding levels
until_flat end gs h = omega (arith, h)

floats_alone : {X : Type 0} (f : X → List ℕ) (xs : List X) → seen_in (λ x. floats_seen (f x)) xs ≡ floats_seen (flat_map f xs)
floats_alone f [] = refl
floats_alone f (x ∷ xs) = ap (both (floats_seen (f x))) (floats_alone f xs)

-- what stands in each kind of entry
abbrev pub seen_type : RawType → Seen
seen_type t = record { floats_at = type_floats t; opens_at = []; counts = []; params = length t.params ∷ []; sizes = [] }

abbrev pub seen_import : RawImport → Seen
seen_import i = seen_kind i.kind

abbrev pub seen_global : ModuleBounds → RawGlobal → Seen
seen_global b g = both (seen_placed g.ty) (seen_code b 0 g.init)

abbrev pub seen_element : ModuleBounds → RawElem → Seen
seen_element b e = seen_code b 0 e.offset

abbrev pub seen_run : RawRun → Seen
seen_run r = floats_seen (float_type r.ty)

abbrev pub seen_body : ModuleBounds → RawBody → Seen
seen_body b x = record { floats_at = body_floats x; opens_at = code_opens b.nesting 0 x.code; counts = []; params = []; sizes = x.size ∷ [] }

abbrev pub seen_segment : ModuleBounds → RawSegment → Seen
seen_segment b s = seen_code b 0 s.offset

as_bytes : (xs : List ℕ) (at : ℕ) → Items (λ x. Exactly (x ∷ [])) xs at xs
as_bytes [] at = refl
as_bytes (x ∷ xs) at = (x ∷ [], xs, refl, refl, as_bytes xs (at + 1))

module _ (b : ModuleBounds) (last : ℕ) where
  -- an entry of this kind shows this
  abbrev pub Entry : EntryKind → (n : ℕ) → List Goal → (ℕ → List ℕ → Type 0) → Seen → Type 0
  Entry k n more F s = Gives b last (entries k n ∷ more) (others k n ++ more) F s

  value_entry : (n : ℕ) (more : List Goal) (x : Placed) → Entry some_value_types n more (ValueType x) (seen_placed x)
  value_entry n more x at a c t h k =
      gives_entry b last some_value_types n more [] (λ j d. (j ≡ at) × ValueType x j d) x.byte (seen_placed x) (λ j d w. w.1.1.1) (λ j end d w. ap (λ z. where_true z []) w.1.0)
      (λ j d w. ap (λ z. floats_seen (float_type (record { place = z; byte = x.byte }))) w.1.1.0) at a c t (refl, h) k

  pub type_entry : (n : ℕ) (more : List Goal) → Calm more → (x : RawType) → Entry some_types n more (FunctionType x) (seen_type x)
  type_entry n more calm x =
      let rest = others some_types n ++ more in
      let from = entries some_types n ∷ more in
      let V = Vector ValueType x.params in
      let W = Vector ValueType x.results in
      let c = calm_others some_types n more calm in
      let first = both (parameters_seen (length x.params)) (seen_in seen_placed x.params) in
      let second = both nothing_seen (seen_in seen_placed x.results) in
      gives_same b last from rest (FunctionType x) (both nothing_seen (both first second)) (seen_type x)
      (ap (λ z. both (both (parameters_seen (length x.params)) z) (seen_in seen_placed x.results)) (floats_alone float_type x.params)
      ∙ ap (both (both (parameters_seen (length x.params)) (floats_seen (flat_map float_type x.params)))) (floats_alone float_type x.results))
      (gives_then b last from (count some_value_types ∷ count some_value_types ∷ rest) rest (Exactly (0x60 ∷ [])) (V ▸ W) nothing_seen (both first second)
      (gives_entry b last some_types n more (count some_value_types ∷ count some_value_types ∷ []) (Exactly (0x60 ∷ [])) 0x60 nothing_seen (λ at a h. h) (λ at end a h. refl) (λ at a h. refl))
      (gives_then b last (count some_value_types ∷ count some_value_types ∷ rest) (count some_value_types ∷ rest) rest V W first second
      (gives_count b last some_value_types ValueType seen_placed (count some_value_types ∷ rest) (parameters_seen (length x.params)) x.params
      (λ m y. value_entry m (count some_value_types ∷ rest) y) refl)
      (gives_count b last some_value_types ValueType seen_placed rest nothing_seen x.results (λ m y. value_entry m rest y)
      (ap (λ z. cond z (parameters_seen (length x.results)) nothing_seen) c.free))))

  pub import_entry : (n : ℕ) (more : List Goal) (x : RawImport) → Entry some_imports n more (ImportOf x) (seen_import x)
  import_entry n more x =
      let rest = others some_imports n ++ more in
      let from = entries some_imports n ∷ more in
      let v = length x.module_name in
      let tail = name ∷ import_kind ∷ rest in
      gives_then b last from tail rest (Text x.module_name) (Text x.base ▸ ImportKindOf x.kind) nothing_seen (seen_import x)
      (gives_then b last from (name_of v ++ tail) tail (Number v) (TextBytes x.module_name) nothing_seen nothing_seen
      (subst (λ z. Gives b last from z (Number v) nothing_seen) (append_assoc (name_of v) (name ∷ import_kind ∷ []) rest)
      (gives_entry b last some_imports n more (name_of v ++ name ∷ import_kind ∷ []) (Number v) v nothing_seen (λ at a h. h) (λ at end a h. refl) (λ at a h. refl)))
      (gives_name_bytes b last tail x.module_name))
      (gives_then b last tail (import_kind ∷ rest) rest (Text x.base) (ImportKindOf x.kind) nothing_seen (seen_import x) (gives_text b last (import_kind ∷ rest) x.base)
      (gives_kind b last rest x.kind))

  pub export_entry : (n : ℕ) (more : List Goal) (x : Export) → Entry some_exports n more (ExportOf x) nothing_seen
  export_entry n more x =
      let rest = others some_exports n ++ more in
      let from = entries some_exports n ∷ more in
      let v = length x.name in
      let tail = space ∷ number ∷ rest in
      gives_then b last from tail rest (Text x.name) (Exactly (space_byte x.space ∷ []) ▸ Number x.index) nothing_seen nothing_seen
      (gives_then b last from (name_of v ++ tail) tail (Number v) (TextBytes x.name) nothing_seen nothing_seen
      (subst (λ z. Gives b last from z (Number v) nothing_seen) (append_assoc (name_of v) (space ∷ number ∷ []) rest)
      (gives_entry b last some_exports n more (name_of v ++ space ∷ number ∷ []) (Number v) v nothing_seen (λ at a h. h) (λ at end a h. refl) (λ at a h. refl)))
      (gives_name_bytes b last tail x.name))
      (gives_then b last tail (number ∷ rest) rest (Exactly (space_byte x.space ∷ [])) (Number x.index) nothing_seen nothing_seen (gives_space b last (number ∷ rest) x.space)
      (gives_number b last rest x.index))

  pub function_entry : (n : ℕ) (more : List Goal) (x : ℕ) → Entry some_functions n more (Number x) nothing_seen
  function_entry n more x = gives_entry b last some_functions n more [] (Number x) x nothing_seen (λ at a h. h) (λ at end a h. refl) (λ at a h. refl)

  pub table_entry : (n : ℕ) (more : List Goal) (x : Limits) → Entry some_tables n more (TableType x) nothing_seen
  table_entry n more x =
      let rest = others some_tables n ++ more in
      gives_then b last (entries some_tables n ∷ more) (limits ∷ rest) rest (Exactly (0x70 ∷ [])) (LimitsOf x) nothing_seen nothing_seen
      (gives_entry b last some_tables n more (limits ∷ []) (Exactly (0x70 ∷ [])) 0x70 nothing_seen (λ at a h. h) (λ at end a h. refl) (λ at a h. refl)) (gives_limits b last rest x)

  pub memory_entry : (n : ℕ) (more : List Goal) (x : Limits) → Entry some_memories n more (LimitsOf x) nothing_seen
  memory_entry n more x =
      gives_maximum b last (entries some_memories n ∷ more) (others some_memories n ++ more) x.min x.max
      (gives_entry b last some_memories n more (number ∷ []) (Exactly (0x00 ∷ [])) 0x00 nothing_seen (λ at a h. h) (λ at end a h. refl) (λ at a h. refl))
      (gives_entry b last some_memories n more (number ∷ number ∷ []) (Exactly (0x01 ∷ [])) 0x01 nothing_seen (λ at a h. h) (λ at end a h. refl) (λ at a h. refl))

  -- an expression outside of code
  expression : (more : List Goal) (c : RawCode) → levels more ≡ 0 → Gives b last (code false ∷ more) more (Expression c) (seen_code b 0 c)
  expression more c e = gives_same b last (code false ∷ more) more (Expression c) (seen_code b (levels more) c) (seen_code b 0 c) (ap (λ z. seen_code b z c) e) (gives_code b last c false more)

  global_first : (n : ℕ) (more : List Goal) (x : Placed) → Gives b last (entries some_globals n ∷ more) (mutable ∷ code false ∷ (others some_globals n ++ more)) (ValueType x) (seen_placed x)
  global_first n more x at a c t h k =
      gives_entry b last some_globals n more (mutable ∷ code false ∷ []) (λ j d. (j ≡ at) × ValueType x j d) x.byte (seen_placed x) (λ j d w. w.1.1.1)
      (λ j end d w. ap (λ z. where_true z (mutable ∷ code false ∷ [])) w.1.0)
      (λ j d w. ap (λ z. floats_seen (float_type (record { place = z; byte = x.byte }))) w.1.1.0) at a c t (refl, h) k

  pub global_entry : (n : ℕ) (more : List Goal) → Calm more → (x : RawGlobal) → Entry some_globals n more (GlobalOf x) (seen_global b x)
  global_entry n more calm x =
      let rest = others some_globals n ++ more in
      let from = entries some_globals n ∷ more in
      gives_then b last from (code false ∷ rest) rest (GlobalType x.ty x.mutable) (Expression x.init) (seen_placed x.ty) (seen_code b 0 x.init)
      (gives_same b last from (code false ∷ rest) (GlobalType x.ty x.mutable) (both (seen_placed x.ty) nothing_seen) (seen_placed x.ty)
      (λ i. record { floats_at = append-nil (float_type x.ty) i; opens_at = []; counts = []; params = []; sizes = [] })
      (gives_then b last from (mutable ∷ code false ∷ rest) (code false ∷ rest) (ValueType x.ty) (Exactly (mutable_byte x.mutable ∷ [])) (seen_placed x.ty) nothing_seen
      (global_first n more x.ty) (gives_mutable b last (code false ∷ rest) x.mutable)))
      (expression rest x.init (calm_others some_globals n more calm).flat)

  pub element_entry : (n : ℕ) (more : List Goal) → Calm more → (x : RawElem) → Entry some_elements n more (ElementOf x) (seen_element b x)
  element_entry n more calm x =
      let rest = others some_elements n ++ more in
      let from = entries some_elements n ∷ more in
      let back = count some_indices ∷ rest in
      let F = Vector Number x.funcs in
      gives_then b last from (code false ∷ back) rest (Number x.table) (Expression x.offset ▸ F) nothing_seen (seen_element b x)
      (gives_entry b last some_elements n more (code false ∷ count some_indices ∷ []) (Number x.table) x.table nothing_seen (λ at a h. h) (λ at end a h. refl) (λ at a h. refl))
      (gives_same b last (code false ∷ back) rest (Expression x.offset ▸ F) (both (seen_element b x) nothing_seen) (seen_element b x)
      (λ i. record { floats_at = append-nil (code_floats x.offset) i; opens_at = append-nil (code_opens b.nesting 0 x.offset) i; counts = []; params = []; sizes = [] })
      (gives_then b last (code false ∷ back) back rest (Expression x.offset) F (seen_element b x) nothing_seen
      (expression back x.offset (count_flat some_indices rest (calm_others some_elements n more calm).flat)) (gives_numbers b last rest x.funcs)))

  byte_entry : (n : ℕ) (more : List Goal) (x : ℕ) → Entry some_bytes n more (Exactly (x ∷ [])) nothing_seen
  byte_entry n more x = gives_entry b last some_bytes n more [] (Exactly (x ∷ [])) x nothing_seen (λ at a h. h) (λ at end a h. refl) (λ at a h. refl)

  pub segment_entry : (n : ℕ) (more : List Goal) → Calm more → (x : RawSegment) → Entry some_segments n more (SegmentOf x) (seen_segment b x)
  segment_entry n more calm x =
      let rest = others some_segments n ++ more in
      let from = entries some_segments n ∷ more in
      let back = count some_bytes ∷ rest in
      let F = Number (length x.bytes) ▸ Exactly x.bytes in
      gives_then b last from (code false ∷ back) rest (Number x.memory) (Expression x.offset ▸ F) nothing_seen (seen_segment b x)
      (gives_entry b last some_segments n more (code false ∷ count some_bytes ∷ []) (Number x.memory) x.memory nothing_seen (λ at a h. h) (λ at end a h. refl) (λ at a h. refl))
      (gives_same b last (code false ∷ back) rest (Expression x.offset ▸ F) (both (seen_segment b x) nothing_seen) (seen_segment b x)
      (λ i. record { floats_at = append-nil (code_floats x.offset) i; opens_at = append-nil (code_opens b.nesting 0 x.offset) i; counts = []; params = []; sizes = [] })
      (gives_then b last (code false ∷ back) back rest (Expression x.offset) F (seen_segment b x) nothing_seen
      (expression back x.offset (count_flat some_bytes rest (calm_others some_segments n more calm).flat))
      (gives_as b last back rest (Vector (λ y. Exactly (y ∷ [])) x.bytes) F nothing_seen
      (λ at a h. (h.0, h.1, h.2, h.3, subst (Items (λ y. Exactly (y ∷ [])) x.bytes (at + length h.0)) (sym h.4) (as_bytes x.bytes (at + length h.0))))
      (gives_silent b last some_bytes (λ y. Exactly (y ∷ [])) rest x.bytes (λ m y. byte_entry m rest y) refl))))

  run_entry : (n : ℕ) (more : List Goal) (x : RawRun) → Entry some_runs n more (RunOf x) (seen_run x)
  run_entry n more x =
      let rest = others some_runs n ++ more in
      gives_then b last (entries some_runs n ∷ more) (value_type ∷ rest) rest (Number x.count) (ValueType x.ty) nothing_seen (seen_run x)
      (gives_entry b last some_runs n more (value_type ∷ []) (Number x.count) x.count nothing_seen (λ at a h. h) (λ at end a h. refl) (λ at a h. refl)) (gives_value_type b last rest x.ty)

  pub body_entry : (n : ℕ) (more : List Goal) → Calm more → (x : RawBody) → Entry some_bodies n more (BodyOf x) (seen_body b x)
  body_entry n more calm x at a c t h k =
      let rest = others some_bodies n ++ more in
      let p = h.0 in
      let q = h.1 in
      let end = at + length p + x.size in
      let back = code false ∷ until end ∷ rest in
      let V = Vector RunOf x.locals in
      let place : at + length a ≡ at + length p + length q = omega (arith, ap length h.2, length-append p q) in
      let runs : Seen = seen_in seen_run x.locals in
      let held = seen_code b 0 x.code in
      let ends : Tells b last (until end ∷ rest) (at + length p + length q) c t = tells_until b last end rest (at + length p + length q) c t (omega (arith, h.4.0))
      (subst (λ z. Tells b last rest z c t) place k) in
      let inner = gives_then b last (count some_runs ∷ back) back (until end ∷ rest) V (Expression x.code) runs held
      (gives_count b last some_runs RunOf seen_run back nothing_seen x.locals (λ m y. run_entry m back y) refl)
      (expression (until end ∷ rest) x.code (until_flat end rest (calm_others some_bodies n more calm).flat))
      (at + length p) q c t h.4.1 ends in
      let whole = give b last (entries some_bodies n) more (count some_runs ∷ code false ∷ until end ∷ others some_bodies n) at x.size p (q ++ c) (both (both runs held) t) refl h.3
      (entry_next some_bodies n x.size (at + length p)) inner in
      let see : both (size_seen x.size) (both (both runs held) t) ≡ both (seen_body b x) t =
      ap (λ z. both (size_seen x.size) (both (both z held) t)) (floats_alone (λ (r : RawRun). float_type r.ty) x.locals) in
      subst (λ z. Tells b last (entries some_bodies n ∷ more) at z (both (seen_body b x) t)) (sym (append_assoc p q c) ∙ ap (λ z. z ++ c) (sym h.2))
      (subst (Tells b last (entries some_bodies n ∷ more) at (p ++ (q ++ c))) see whole)
