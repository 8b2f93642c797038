-- An instance of a module whose constants and bytes are in range is in range.
use Rattle.std.proofs.Common.{◌≡◌, ℕ, suc, ◌+◌, ◌*◌, ◌≤◌, Bool, true, false, cond, leb, List, [], ◌∷◌, length, map, replicate, Option, Some, None, All, refl, sym, ◌∙◌, arith}
use Rattle.std.specs.Prelude.{nat_lt}
use Rattle.std.proofs.lemmas.Bool.{ltb-false, leb-true}
use Rattle.std.proofs.lemmas.List.{length-replicate}
use Rattle.std.proofs.lemmas.List.Elements.{All-nil, All-cons, All-head, All-tail, All-replicate}
use Rattle.wa_types.specs.declared.values.Value.{Value}
use Rattle.wa_types.specs.Sizes.{value_fits, CodeFits}
use Rattle.wa_types.specs.Syntax.{const, global_get, basic, Code, done, plain, GlobalDef, Segment, Module}
use Rattle.wa_types.specs.Memory.{page_size}
use Rattle.wa_types.specs.Modules.{all_tables, all_memories}
use Rattle.wa_types.proofs.MemoryLemmas.{length-overwritten}
use Rattle.wa_model.specs.Instantiation.{constant_value, all_values, least_of, Piece, elem_piece, byte_piece, first_out, put_piece, put_pieces, bytes_checked, elems_checked, filled, opened_by}
use Rattle.run_laws.specs.Ranges.{CodesIn, ValuesIn, byte_in, MemoryIn, OpeningIn, OpeningsIn}
use Rattle.run_laws.proofs.Acts.{none_in, more_in, value_at_in}
use Rattle.run_laws.proofs.Bytes.{overwritten_in}
use Rattle.run_laws.proofs.Steps.{joined_in}

constant_in : (globals : List Value) (code : Code) → CodeFits code → ValuesIn globals → value_fits (constant_value globals code)
constant_in globals (plain (basic (const v)) done) h vs = h.0
constant_in globals (plain (basic (global_get x)) done) h vs = value_at_in globals x vs
constant_in globals _ h vs = omega arith

inits_in : (imports : List Value) (ds : List GlobalDef) → All (λ (g : GlobalDef). CodeFits g.init) ds → ValuesIn imports → ValuesIn (map (λ (g : GlobalDef). constant_value imports g.init) ds)
inits_in imports [] h vs = none_in
inits_in imports (d ∷ ds) h vs =
    more_in _ _ (constant_in imports d.init (All-head (λ (g : GlobalDef). CodeFits g.init) d ds h) vs) (inits_in imports ds (All-tail (λ (g : GlobalDef). CodeFits g.init) d ds h) vs)

-- pieces of bytes
abbrev PieceIn : Piece ℕ → Type 0
PieceIn p = All byte_in p.items

pieces_in : (globals : List Value) (ss : List Segment) → All (λ (s : Segment). All byte_in s.bytes) ss → All PieceIn (map (byte_piece globals) ss)
pieces_in globals [] h = All-nil PieceIn
pieces_in globals (s ∷ ss) h = All-cons PieceIn _ _ (All-head (λ (s : Segment). All byte_in s.bytes) s ss h) (pieces_in globals ss (All-tail (λ (s : Segment). All byte_in s.bytes) s ss h))

put_in : (low : ℕ) (bytes : List ℕ) (ps : List (Piece ℕ)) (size i : ℕ) → size ≡ length bytes → All PieceIn ps → MemoryIn low bytes → first_out size i ps ≡ None → MemoryIn low (put_pieces bytes ps)
put_in low bytes [] size i e h ok none = ok
put_in low bytes (p ∷ ps) size i e h ok none =
    by_place (leb (p.at + length p.items) size) refl none
    (λ inside none. put_in low (put_piece bytes p) ps size (suc i) (e ∙ sym (length-overwritten bytes p.at p.items inside)) (All-tail PieceIn p ps h)
    (overwritten_in low bytes p.at p.items inside (All-head PieceIn p ps h) ok) none)
  where
    by_place : (b : Bool) → leb (p.at + length p.items) size ≡ b → cond b (first_out size (suc i) ps) (Some i) ≡ None
        → (p.at + length p.items ≤ length bytes → first_out size (suc i) ps ≡ None → MemoryIn low (put_pieces (put_piece bytes p) ps)) → MemoryIn low (put_pieces (put_piece bytes p) ps)
    by_place true z none on = on (let le : p.at + length p.items ≤ size = leb-true _ _ z in omega arith) none
    by_place false z none on = cc

zeros_in : (pages : ℕ) → pages ≤ 1024 → MemoryIn (pages * page_size) (replicate (pages * page_size) 0)
zeros_in pages h =
    let zero_byte : ℕ = 0 in
    let size : length (replicate (pages * 65536) zero_byte) ≡ pages * 65536 = length-replicate (pages * 65536) zero_byte in record {
      each = All-replicate byte_in (pages * page_size) 0 (omega arith);
      pages = record { whole = omega (arith, size); bounded = omega (arith, size) };
      least = omega (arith, size);
    }

filled_in : (low : ℕ) (globals : List Value) (memory : List ℕ) (table : List (Option ℕ)) (elems : List (Piece (Option ℕ))) (bytes : List (Piece ℕ))
    → ValuesIn globals → MemoryIn low memory → All PieceIn bytes
    → OpeningIn low (filled globals memory table elems bytes)
filled_in low globals memory table elems bytes vs ok h = by_elems (first_out (length table) 0 elems)
  where
    by_bytes : (o : Option ℕ) → first_out (length memory) 0 bytes ≡ o → OpeningIn low (bytes_checked globals memory table elems bytes o)
    by_bytes (Some i) z = tt
    by_bytes None z = record { globals = vs; memory = put_in low memory bytes (length memory) 0 refl h ok z }

    by_elems : (o : Option ℕ) → OpeningIn low (elems_checked globals memory table elems bytes o)
    by_elems (Some i) = tt
    by_elems None = by_bytes (first_out (length memory) 0 bytes) refl

opened_by_in : (m : Module) (globals : List Value) (pages entries : ℕ) (a b : Bool) → CodesIn m → ValuesIn globals → (a ≡ false → pages ≤ 1024)
    → OpeningIn (pages * page_size) (opened_by m globals pages entries a b)
opened_by_in m globals pages entries true b w vs h = tt
opened_by_in m globals pages entries false true w vs h = tt
opened_by_in m globals pages entries false false w vs h =
    filled_in (pages * page_size) globals (replicate (pages * page_size) 0) (replicate entries None) (map (elem_piece globals) m.elems) (map (byte_piece globals) m.segments) vs
    (zeros_in pages (h refl)) (pieces_in globals m.segments w.segments)

-- an instance
pub openings_in : OpeningsIn
openings_in m imports w vs =
    opened_by_in m (all_values imports m) (least_of (all_memories m)) (least_of (all_tables m)) (nat_lt 1024 (least_of (all_memories m))) (nat_lt 100000 (least_of (all_tables m))) w
    (joined_in imports _ vs (inits_in imports m.globals w.globals vs)) (ltb-false 1024 (least_of (all_memories m)))
