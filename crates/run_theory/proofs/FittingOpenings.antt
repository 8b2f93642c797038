-- An instance of a valid module whose imported globals have values of their types fits.
use Rattle.std.proofs.Common.{◌≡◌, ℕ, ◌++◌, List, [], ◌∷◌, map, Option, Some, None, Bool, true, false, refl, sym, ap, ◌∙◌, subst, length, replicate, ◌*◌}
use Rattle.std.specs.Prelude.{nat_lt, not, ◌&&◌, slice_get}
use Rattle.std.specs.List.{list_all}
use Rattle.std.proofs.lemmas.Bool.{and_parts}
use Rattle.std.proofs.lemmas.List.{map-append}
use Rattle.wa_types.specs.declared.values.ValType.{ValType}
use Rattle.wa_types.specs.declared.values.ValType.TheVariants.{I32}
use Rattle.wa_types.specs.declared.values.Value.{Value}
use Rattle.wa_types.specs.Encoding.{same_type}
use Rattle.wa_types.specs.Memory.{page_size}
use Rattle.wa_types.specs.Typing.{GlobalType, type_of}
use Rattle.wa_types.specs.Syntax.{const, global_get, basic, Code, done, plain, GlobalDef, Elem, Segment, Module}
use Rattle.wa_types.specs.Modules.{imported, imported_global, global_type, all_globals, all_tables, all_memories}
use Rattle.wa_types.specs.Validity.{constant_of, is_constant, Valid}
use Rattle.wa_ops.specs.Operate.{are_of}
use Rattle.wa_model.specs.Store.{Store, value_at}
use Rattle.wa_model.specs.Instantiation.{constant_value, all_values, least_of, Piece, elem_piece, byte_piece, first_out, opens, bytes_checked, elems_checked, filled, opened_by, opening}
use Rattle.run_theory.specs.Growth.{spaces_of, grown_module}
use Rattle.run_theory.specs.Fitting.{types_of, global_types, OpeningsFit}
use Rattle.run_theory.proofs.NamedModules.{valid_instance}
use Rattle.run_theory.proofs.GrownInstances.{OpeningStays, more_values, opening_stays}
use Rattle.run_theory.proofs.FittingActs.{same_itself, global_at}
use Rattle.run_theory.proofs.FittingNames.{value_typed, same_true}

-- values have their types
are_of_types : (values : List Value) → are_of (types_of values) values ≡ true
are_of_types [] = refl
are_of_types (v ∷ values) = ap (λ b. b && are_of (types_of values) values) (same_itself (type_of v)) ∙ are_of_types values

-- ---- initialisers

-- a constant global has a value of its type
got_typed : (values : List Value) (gs : List GlobalType) (t : ValType) (x : ℕ) (o : Option GlobalType) → types_of values ≡ global_types gs → slice_get gs x ≡ o → constant_of o t ≡ true
    → type_of (value_at values x) ≡ t
got_typed values gs t x None e z h = cc
got_typed values gs t x (Some g) e z h = value_typed values x g.ty (global_at values gs x g e z) ∙ same_true g.ty t (and_parts (not g.mutable) (same_type g.ty t) h).1

-- a constant initialiser has a value of its type
constant_typed : (values : List Value) (gs : List GlobalType) (t : ValType) (code : Code) → types_of values ≡ global_types gs → is_constant gs t code ≡ true → type_of (constant_value values code) ≡ t
constant_typed values gs t (plain (basic (const v)) done) e h = same_true (type_of v) t h
constant_typed values gs t (plain (basic (global_get x)) done) e h = got_typed values gs t x (slice_get gs x) e refl h
constant_typed values gs t _ e h = cc

-- the defined globals
inits_typed : (values : List Value) (gs : List GlobalType) (ds : List GlobalDef) → types_of values ≡ global_types gs → list_all (λ (d : GlobalDef). is_constant gs d.ty d.init) ds ≡ true
    → types_of (map (λ (d : GlobalDef). constant_value values d.init) ds) ≡ global_types (map global_type ds)
inits_typed values gs [] e h = refl
inits_typed values gs (d ∷ ds) e h =
    let b = and_parts (is_constant gs d.ty d.init) (list_all (λ (d : GlobalDef). is_constant gs d.ty d.init) ds) h in
    ap (λ t. t ∷ types_of (map (λ (d : GlobalDef). constant_value values d.init) ds)) (constant_typed values gs d.ty d.init e b.0)
    ∙ ap (λ ts. d.ty ∷ ts) (inits_typed values gs ds e b.1)

-- All globals of a valid module have values of their types.
pub values_typed : (m : Module) (imports : List Value) → Valid m → types_of imports ≡ global_types (imported imported_global m) → types_of (all_values imports m) ≡ global_types (all_globals m)
values_typed m imports v e =
    let gs : List GlobalType = imported imported_global m in
    let inits : List Value = map (λ (d : GlobalDef). constant_value imports d.init) m.globals in
    let elems : Bool = list_all (λ (e : Elem). is_constant (all_globals m) I32 e.offset) m.elems in
    let segments : Bool = list_all (λ (s : Segment). is_constant (all_globals m) I32 s.offset) m.segments in
    let constant : Bool = list_all (λ (d : GlobalDef). is_constant gs d.ty d.init) m.globals in
    let c = (and_parts constant elems (and_parts (constant && elems) segments v.constants).0).0 in
    map-append type_of imports inits
    ∙ ap (λ ts. ts ++ types_of inits) e
    ∙ ap (λ ts. global_types gs ++ ts) (inits_typed imports gs m.globals e c)
    ∙ sym (map-append (λ (g : GlobalType). g.ty) gs (map global_type m.globals))

-- ---- the store

-- once all pieces are written the globals are as given
filled_globals : (globals : List Value) (memory : List ℕ) (table : List (Option ℕ)) (elems : List (Piece (Option ℕ))) (bytes : List (Piece ℕ)) (s : Store)
    → filled globals memory table elems bytes ≡ opens s → s.globals ≡ globals
filled_globals globals memory table elems bytes s = by_elems (first_out (length table) 0 elems)
  where
    by_bytes : (o : Option ℕ) → bytes_checked globals memory table elems bytes o ≡ opens s → s.globals ≡ globals
    by_bytes (Some i) e = cc
    by_bytes None e = cc

    by_elems : (o : Option ℕ) → elems_checked globals memory table elems bytes o ≡ opens s → s.globals ≡ globals
    by_elems (Some i) e = cc
    by_elems None e = by_bytes (first_out (length memory) 0 bytes) e

-- the globals of an instance
opened_globals : (m : Module) (values : List Value) (pages entries : ℕ) (a b : Bool) (s : Store) → opened_by m values pages entries a b ≡ opens s → s.globals ≡ values
opened_globals m values pages entries true b s e = cc
opened_globals m values pages entries false true s e = cc
opened_globals m values pages entries false false s e =
    filled_globals values (replicate (pages * page_size) 0) (replicate entries None) (map (elem_piece values) m.elems) (map (byte_piece values) m.segments) s e

-- An instance of a valid module fits: its table names functions that are there, as it does with nothing behind its own parts.
pub openings_fit : OpeningsFit
openings_fit m imports s v typed e =
    record { globals = ap types_of same ∙ values_typed m imports v typed; table = named.1.table }
  where
    pages : ℕ
    pages = least_of (all_memories m)

    entries : ℕ
    entries = least_of (all_tables m)

    same : s.globals ≡ all_values imports m
    same = opened_globals m (all_values imports m) pages entries (nat_lt 1024 pages) (nat_lt 100000 entries) s e

    named : OpeningStays (more_values m [] [] [] [] imports) (spaces_of m) (opens s) (opening (grown_module m [] [] [] []) imports)
    named = subst (λ o. OpeningStays (more_values m [] [] [] [] imports) (spaces_of m) o (opening (grown_module m [] [] [] []) imports)) e
        (opening_stays m [] [] [] [] imports (ap (λ ts. are_of ts imports) (sym typed) ∙ are_of_types imports) (valid_instance m v))
