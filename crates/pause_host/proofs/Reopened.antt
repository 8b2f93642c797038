-- The table of an instance whose constant globals have the values of instantiation is that of instantiation.
use Rattle.std.proofs.Common.{◌≡◌, ◌≤◌, ◌*◌, ℕ, List, [], ◌∷◌, map, Option, Some, None, Bool, true, false, refl, sym, ap, ◌∙◌, length, replicate}
use Rattle.std.specs.Prelude.{nat_lt, not, ◌&&◌, slice_get}
use Rattle.std.specs.List.{list_all}
use Rattle.std.specs.Option.{option_map, unwrap_or}
use Rattle.std.proofs.lemmas.Bool.{and_parts, ltb-false}
use Rattle.std.proofs.lemmas.List.{length-replicate}
use Rattle.std.proofs.lemmas.Option.{slice_get-map, unwrap_or-slice_get}
use Rattle.wa_types.specs.declared.values.ValType.{ValType}
use Rattle.wa_types.specs.declared.values.ValType.TheVariants.{I32}
use Rattle.wa_types.specs.declared.values.Value.{Value}
use Rattle.wa_types.specs.declared.values.Value.TheVariants as V
use Rattle.wa_types.specs.Encoding.{same_type}
use Rattle.wa_types.specs.Typing.{GlobalType}
use Rattle.wa_types.specs.Syntax.{const, global_get, basic, Code, done, plain, GlobalDef, Elem, Segment, Module}
use Rattle.wa_types.specs.Modules.{imported, imported_global, all_globals, all_tables, all_memories}
use Rattle.wa_types.specs.Memory.{page_size}
use Rattle.wa_types.specs.Validity.{constant_of, is_constant, Valid}
use Rattle.wa_ops.specs.Operate.{number_of}
use Rattle.wa_model.specs.Store.{Store, value_at}
use Rattle.wa_model.specs.Instantiation.{constant_value, all_values, least_of, Piece, elem_piece, byte_piece, first_out, put_pieces, opens, bytes_checked, elems_checked, filled, opened_by, opening}
use Rattle.interp_state.specs.Making.{table_with}
use Rattle.pause_host.specs.Thawing.{SameConstants, mutables_of}

-- ---- instantiation that made a store

-- its element segments fit, and the table has them
pub record OpensWith (entries : ℕ) (elems : List (Piece (Option ℕ))) (s : Store) : Type 0 where
  pub fit : first_out entries 0 elems ≡ None
  pub table : s.table ≡ put_pieces (replicate entries None) elems

filled_with : (globals : List Value) (memory : List ℕ) (entries : ℕ) (elems : List (Piece (Option ℕ))) (bytes : List (Piece ℕ)) (s : Store)
    → filled globals memory (replicate entries None) elems bytes ≡ opens s → (s.globals ≡ globals) × OpensWith entries elems s
filled_with globals memory entries elems bytes s = by_elems (first_out (length table) 0 elems) refl
  where
    table : List (Option ℕ)
    table = replicate entries None

    by_bytes : first_out (length table) 0 elems ≡ None → (o : Option ℕ) → bytes_checked globals memory table elems bytes o ≡ opens s → (s.globals ≡ globals) × OpensWith entries elems s
    by_bytes f (Some i) e = cc
    by_bytes f None e =
        let none : Option ℕ = None in
        (cc, record { fit = ap (λ n. first_out n 0 elems) (sym (length-replicate entries none)) ∙ f; table = cc })

    by_elems : (o : Option ℕ) → first_out (length table) 0 elems ≡ o → elems_checked globals memory table elems bytes o ≡ opens s → (s.globals ≡ globals) × OpensWith entries elems s
    by_elems (Some i) f e = cc
    by_elems None f e = by_bytes f (first_out (length memory) 0 bytes) e

opened_with : (m : Module) (values : List Value) (pages entries : ℕ) (a b : Bool) (s : Store) → opened_by m values pages entries a b ≡ opens s
    → (b ≡ false) × (s.globals ≡ values) × OpensWith entries (map (elem_piece values) m.elems) s
opened_with m values pages entries true b s e = cc
opened_with m values pages entries false true s e = cc
opened_with m values pages entries false false s e =
    let r = filled_with values (replicate (pages * page_size) 0) entries (map (elem_piece values) m.elems) (map (byte_piece values) m.segments) s e in
    (refl, r.0, r.1)

-- ---- offsets see constant globals alone

got_same : (mutable : Bool) (t u : ValType) → (not mutable && same_type t u) ≡ true → mutable ≡ false
got_same true t u h = cc
got_same false t u h = refl

module _ (gs : List GlobalType) (before now : List Value) (same : SameConstants (map (λ (g : GlobalType). g.mutable) gs) before now) where
  constant_same : (t : ValType) (x : ℕ) (o : Option GlobalType) → slice_get gs x ≡ o → constant_of o t ≡ true → value_at now x ≡ value_at before x
  constant_same t x None e h = cc
  constant_same t x (Some g) e h =
      let mutable : slice_get (map (λ (y : GlobalType). y.mutable) gs) x ≡ Some false =
      slice_get-map (λ (y : GlobalType). y.mutable) gs x ∙ ap (option_map (λ (y : GlobalType). y.mutable)) e ∙ ap (λ b. Some b) (got_same g.mutable g.ty t h) in
      sym (unwrap_or-slice_get now x (V.I32 0)) ∙ ap (λ o. unwrap_or o (V.I32 0)) (same x mutable) ∙ unwrap_or-slice_get before x (V.I32 0)

  value_same : (t : ValType) (code : Code) → is_constant gs t code ≡ true → constant_value now code ≡ constant_value before code
  value_same t (plain (basic (const v)) done) h = refl
  value_same t (plain (basic (global_get x)) done) h = constant_same t x (slice_get gs x) refl h
  value_same t _ h = cc

  elems_same : (es : List Elem) → list_all (λ (e : Elem). is_constant gs I32 e.offset) es ≡ true → map (elem_piece now) es ≡ map (elem_piece before) es
  elems_same [] h = refl
  elems_same (e ∷ es) h =
      let b = and_parts (is_constant gs I32 e.offset) (list_all (λ (y : Elem). is_constant gs I32 y.offset) es) h in
      ap (λ v. record { at = number_of v; items = map (λ x. Some x) e.funcs } ∷ map (elem_piece now) es) (value_same I32 e.offset b.0)
      ∙ ap (λ ps. elem_piece before e ∷ ps) (elems_same es b.1)

-- ---- both

-- What may be put back: the element segments fit the table with these globals, and the table is as it was.
pub record Reopens (m : Module) (values : List Value) (s : Store) : Type 0 where
  pub few : least_of (all_tables m) ≤ 100000
  pub fit : first_out (least_of (all_tables m)) 0 (map (elem_piece values) m.elems) ≡ None
  pub table : table_with m values ≡ s.table

pub reopens : (m : Module) (imports values : List Value) (s : Store) → Valid m → opening m imports ≡ opens s → SameConstants (mutables_of m) s.globals values → Reopens m values s
reopens m imports values s v e same =
    let entries = least_of (all_tables m) in
    let constant : Bool = list_all (λ (d : GlobalDef). is_constant (imported imported_global m) d.ty d.init) m.globals in
    let elems : Bool = list_all (λ (y : Elem). is_constant (all_globals m) I32 y.offset) m.elems in
    let segments : Bool = list_all (λ (y : Segment). is_constant (all_globals m) I32 y.offset) m.segments in
    let offsets = (and_parts constant elems (and_parts (constant && elems) segments v.constants).0).1 in
    let open_ = opened_with m (all_values imports m) (least_of (all_memories m)) entries (nat_lt 1024 (least_of (all_memories m))) (nat_lt 100000 entries) s e in
    let pieces : map (elem_piece values) m.elems ≡ map (elem_piece (all_values imports m)) m.elems =
    elems_same (all_globals m) s.globals values same m.elems offsets ∙ ap (λ g. map (elem_piece g) m.elems) open_.1 in
    record {
      few = ltb-false 100000 entries open_.0;
      fit = ap (first_out entries 0) pieces ∙ open_.2.fit;
      table = ap (put_pieces (replicate entries None)) pieces ∙ sym open_.2.table;
    }
