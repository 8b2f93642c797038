-- A module with more parts behind its own opens as it did, with more globals.
use Rattle.std.proofs.Common.{◌≡◌, ℕ, zero, suc, ◌+◌, ◌*◌, ◌<◌, ◌++◌, List, [], ◌∷◌, map, Option, Some, None, Bool, true, false, refl, sym, ap, ◌∙◌, subst, length, take, drop, replicate}
use Rattle.std.proofs.Common.{append_assoc, length-append}
use Rattle.std.specs.Prelude.{nat_lt}
use Rattle.std.proofs.lemmas.Bool.{and_parts}
use Rattle.std.proofs.lemmas.List.{length-map, map-append, get_or_append_left}
use Rattle.wa_types.specs.declared.values.ValType.{ValType}
use Rattle.wa_types.specs.declared.values.Value.{Value}
use Rattle.wa_types.specs.declared.values.Value.TheVariants as V
use Rattle.wa_types.specs.declared.syntax.Export.{Export}
use Rattle.wa_types.specs.Encoding.{same_type}
use Rattle.wa_types.specs.Memory.{page_size}
use Rattle.wa_types.specs.Typing.{GlobalType, type_of}
use Rattle.wa_types.specs.Syntax.{const, global_get, basic, Code, done, plain, FuncType, Func, GlobalDef, Elem, Segment, Module}
use Rattle.wa_types.specs.Modules.{imported, imported_global, global_type, all_globals, all_tables, all_memories}
use Rattle.wa_types.specs.Validity.{got_global}
use Rattle.wa_ops.specs.Operate.{number_of, are_of}
use Rattle.wa_model.specs.Instantiation.{constant_value, all_values, least_of, place_at, Piece, elem_piece, byte_piece, first_out, put_piece, put_pieces, Opening, fails_as, opens}
use Rattle.wa_model.specs.Instantiation.{bytes_checked, elems_checked, filled, opened_by, opening}
use Rattle.wa_model.specs.Behaves.{unless_pause}
use Rattle.wa_model.specs.Outside.{ended}
use Rattle.run_theory.specs.Growth.{grown_module, Spaces, spaces_of, Each, EntryNamed, StoreNamed, grown_store, OpensGrown}
use Rattle.run_theory.proofs.NamedModules.{InstanceNamed}

-- ---- lists

each_take : {X : Type 0} (P : X → Type 0) (k : ℕ) (xs : List X) → Each P xs → Each P (take k xs)
each_take P zero xs h = tt
each_take P (suc k) [] h = tt
each_take P (suc k) (x ∷ xs) h = (h.0, each_take P k xs h.1)

each_drop : {X : Type 0} (P : X → Type 0) (k : ℕ) (xs : List X) → Each P xs → Each P (drop k xs)
each_drop P zero xs h = h
each_drop P (suc k) [] h = tt
each_drop P (suc k) (x ∷ xs) h = each_drop P k xs h.1

pub each_append : {X : Type 0} (P : X → Type 0) (xs ys : List X) → Each P xs → Each P ys → Each P (xs ++ ys)
each_append P [] ys g h = h
each_append P (x ∷ xs) ys g h = (g.0, each_append P xs ys g.1 h)

pub each_split : {X : Type 0} (P : X → Type 0) (xs ys : List X) → Each P (xs ++ ys) → Each P xs × Each P ys
each_split P [] ys h = (tt, h)
each_split P (x ∷ xs) ys h = let r = each_split P xs ys h.1 in ((h.0, r.0), r.1)

pub each_replicate : {X : Type 0} (P : X → Type 0) (k : ℕ) (x : X) → P x → Each P (replicate k x)
each_replicate P zero x h = tt
each_replicate P (suc k) x h = (h, each_replicate P k x h)

-- ---- initialisers and offsets

constant_stays : (values more : List Value) (code : Code) → Each (λ x. x < length values) (got_global code) → constant_value (values ++ more) code ≡ constant_value values code
constant_stays values more (plain (basic (const v)) done) h = refl
constant_stays values more (plain (basic (global_get x)) done) h = get_or_append_left values more (V.I32 0) x h.0
constant_stays values more _ h = refl

elems_stay : (values more : List Value) (es : List Elem) → Each (λ (e : Elem). Each (λ x. x < length values) (got_global e.offset)) es
    → map (elem_piece (values ++ more)) es ≡ map (elem_piece values) es
elems_stay values more [] h = refl
elems_stay values more (e ∷ es) h =
    ap (λ v. record { at = number_of v; items = map (λ x. Some x) e.funcs } ∷ map (elem_piece (values ++ more)) es) (constant_stays values more e.offset h.0)
    ∙ ap (λ ps. elem_piece values e ∷ ps) (elems_stay values more es h.1)

segments_stay : (values more : List Value) (ss : List Segment) → Each (λ (s : Segment). Each (λ x. x < length values) (got_global s.offset)) ss
    → map (byte_piece (values ++ more)) ss ≡ map (byte_piece values) ss
segments_stay values more [] h = refl
segments_stay values more (s ∷ ss) h =
    ap (λ v. record { at = number_of v; items = s.bytes } ∷ map (byte_piece (values ++ more)) ss) (constant_stays values more s.offset h.0)
    ∙ ap (λ ps. byte_piece values s ∷ ps) (segments_stay values more ss h.1)

-- ---- the table

pub entries_named : (f : ℕ) (xs : List ℕ) → Each (λ x. x < f) xs → Each (EntryNamed f) (map (λ x. Some x) xs)
entries_named f [] h = tt
entries_named f (x ∷ xs) h = (h.0, entries_named f xs h.1)

pub table_named : (f : ℕ) (values : List Value) (table : List (Option ℕ)) (es : List Elem) → Each (EntryNamed f) table → Each (λ (e : Elem). Each (λ x. x < f) e.funcs) es
    → Each (EntryNamed f) (put_pieces table (map (elem_piece values) es))
table_named f values table [] t h = t
table_named f values table (e ∷ es) t h =
    let items : List (Option ℕ) = map (λ x. Some x) e.funcs in
    let at : ℕ = place_at values e.offset in
    table_named f values (put_piece table (elem_piece values e)) es
    (each_append (EntryNamed f) (take at table ++ items) (drop (at + length items) table)
    (each_append (EntryNamed f) (take at table) items (each_take (EntryNamed f) at table t) (entries_named f e.funcs h.0))
    (each_drop (EntryNamed f) (at + length items) table t))
    h.1

-- ---- the opening

-- an end that is none of a pause, or a store with more globals
abbrev pub OpeningStays : List Value → Spaces → (o o' : Opening) → Type 0
OpeningStays more n (fails_as e) o' = (o' ≡ fails_as e) × (unless_pause (ended e) ≡ Some (ended e))
OpeningStays more n (opens s) o' = (o' ≡ opens (grown_store more s)) × StoreNamed n s

filled_stays : (more : List Value) (n : Spaces) (globals : List Value) (memory : List ℕ) (table : List (Option ℕ)) (elems : List (Piece (Option ℕ))) (bytes : List (Piece ℕ))
    → length globals ≡ n.globals → Each (EntryNamed n.funcs) (put_pieces table elems)
    → OpeningStays more n (filled globals memory table elems bytes) (filled (globals ++ more) memory table elems bytes)
filled_stays more n globals memory table elems bytes g t = by_elems (first_out (length table) 0 elems)
  where
    by_bytes : (o : Option ℕ) → OpeningStays more n (bytes_checked globals memory table elems bytes o) (bytes_checked (globals ++ more) memory table elems bytes o)
    by_bytes (Some i) = (refl, refl)
    by_bytes None = (refl, record { globals = g; table = t })

    by_elems : (o : Option ℕ) → OpeningStays more n (elems_checked globals memory table elems bytes o) (elems_checked (globals ++ more) memory table elems bytes o)
    by_elems (Some i) = (refl, refl)
    by_elems None = by_bytes (first_out (length memory) 0 bytes)

same_length : (ts : List ValType) (vs : List Value) → are_of ts vs ≡ true → length vs ≡ length ts
same_length [] [] h = refl
same_length (t ∷ ts) (v ∷ vs) h = ap suc (same_length ts vs (and_parts (same_type t (type_of v)) (are_of ts vs) h).1)
same_length [] (v ∷ vs) h = cc
same_length (t ∷ ts) [] h = cc

module _ (m : Module) (ts : List FuncType) (fs : List Func) (gs : List GlobalDef) (es : List Export) (imports : List Value) where
  -- the values of the globals behind the module's own
  abbrev pub more_values : List Value
  more_values = map (λ (g : GlobalDef). constant_value imports g.init) gs

  values_are : all_values imports (grown_module m ts fs gs es) ≡ all_values imports m ++ more_values
  values_are =
      ap (λ vs. imports ++ vs) (map-append (λ (g : GlobalDef). constant_value imports g.init) m.globals gs)
      ∙ sym (append_assoc imports (map (λ (g : GlobalDef). constant_value imports g.init) m.globals) more_values)

  values_count : are_of (map (λ (g : GlobalType). g.ty) (imported imported_global m)) imports ≡ true → length (all_values imports m) ≡ length (all_globals m)
  values_count h =
      length-append imports (map (λ (g : GlobalDef). constant_value imports g.init) m.globals)
      ∙ ap (λ k. k + length (map (λ (g : GlobalDef). constant_value imports g.init) m.globals)) (same_length (map (λ (g : GlobalType). g.ty) (imported imported_global m)) imports h
      ∙ length-map (imported imported_global m) (λ (g : GlobalType). g.ty))
      ∙ ap (λ k. length (imported imported_global m) + k) (length-map m.globals (λ (g : GlobalDef). constant_value imports g.init) ∙ sym (length-map m.globals global_type))
      ∙ sym (length-append (imported imported_global m) (map global_type m.globals))

  pub opening_stays : are_of (map (λ (g : GlobalType). g.ty) (imported imported_global m)) imports ≡ true → InstanceNamed m
      → OpeningStays more_values (spaces_of m) (opening m imports) (opening (grown_module m ts fs gs es) imports)
  opening_stays h named = by_limits (nat_lt 1024 pages) (nat_lt 100000 entries)
    where
      pages : ℕ
      pages = least_of (all_memories m)

      entries : ℕ
      entries = least_of (all_tables m)

      values : List Value
      values = all_values imports m

      count : length values ≡ length (all_globals m)
      count = values_count h

      filled_by : (globals at_elems at_segments : List Value) → Opening
      filled_by globals at_elems at_segments =
          filled globals (replicate (pages * page_size) 0) (replicate entries None) (map (elem_piece at_elems) m.elems) (map (byte_piece at_segments) m.segments)

      big : List Value
      big = all_values imports (grown_module m ts fs gs es)

      same : filled_by big big big ≡ filled_by (values ++ more_values) values values
      same =
          ap (λ vs. filled_by vs vs vs) values_are
          ∙ ap (λ ps. filled (values ++ more_values) (replicate (pages * page_size) 0) (replicate entries None) ps (map (byte_piece (values ++ more_values)) m.segments))
          (elems_stay values more_values m.elems (subst (λ k. Each (λ (e : Elem). Each (λ x. x < k) (got_global e.offset)) m.elems) (sym count) named.elem_offsets))
          ∙ ap (λ ps. filled (values ++ more_values) (replicate (pages * page_size) 0) (replicate entries None) (map (elem_piece values) m.elems) ps)
          (segments_stay values more_values m.segments (subst (λ k. Each (λ (s : Segment). Each (λ x. x < k) (got_global s.offset)) m.segments) (sym count) named.segment_offsets))

      table : Each (EntryNamed (spaces_of m).funcs) (put_pieces (replicate entries None) (map (elem_piece values) m.elems))
      table = table_named (spaces_of m).funcs values (replicate entries None) m.elems (each_replicate (EntryNamed (spaces_of m).funcs) entries None tt) named.elem_funcs

      whole : OpeningStays more_values (spaces_of m) (filled_by values values values) (filled_by big big big)
      whole =
          subst (OpeningStays more_values (spaces_of m) (filled_by values values values)) (sym same)
          (filled_stays more_values (spaces_of m) values (replicate (pages * page_size) 0) (replicate entries None) (map (elem_piece values) m.elems) (map (byte_piece values) m.segments) count table)

      by_limits : (a b : Bool) → OpeningStays more_values (spaces_of m) (opened_by m values pages entries a b)
          (opened_by (grown_module m ts fs gs es) (all_values imports (grown_module m ts fs gs es)) pages entries a b)
      by_limits true b = (refl, refl)
      by_limits false true = (refl, refl)
      by_limits false false = whole

pub opens_grown : (more : List Value) (n : Spaces) (o o' : Opening) → OpeningStays more n o o' → OpensGrown more n o o'
opens_grown more n (fails_as e) o' h = h.0
opens_grown more n (opens s) o' h = h
