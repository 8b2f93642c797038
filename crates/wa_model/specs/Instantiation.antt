-- Instantiation of a module on the host (standard, section 4.5.4). The host checks all element segments, then all data
-- segments, before it writes any.
use Rattle.std.specs.Prelude.{ℕ, suc, ◌+◌, ◌*◌, nat_lt, nat_le, if◌then◌else◌, List, [], ◌∷◌, ◌++◌, length, map, take, drop, replicate, Option, Some, None, Bool, true, false}
use Rattle.wa_types.specs.declared.values.Value.{Value}
use Rattle.wa_types.specs.declared.values.Value.TheVariants.{I32 as value_32}
use Rattle.wa_types.specs.declared.syntax.Limits.{Limits}
use Rattle.wa_types.specs.Syntax.{const, global_get, basic, Code, done, plain, GlobalDef, Elem, Segment, Module}
use Rattle.wa_types.specs.Memory.{page_size}
use Rattle.wa_types.specs.Modules.{all_tables, all_memories}
use Rattle.wa_ops.specs.Operate.{number_of}
use Rattle.wa_model.specs.declared.events.End.{End}
use Rattle.wa_model.specs.declared.events.End.TheVariants.{HostLimit, ElementsOut, BytesOut}
use Rattle.wa_model.specs.Store.{Store, value_at}

-- the value of an initialiser or an offset: a constant, or that of a global (3.3.7.2, 4.4.8)
abbrev pub constant_value : List Value → Code → Value
constant_value globals (plain (basic (const v)) done) = v
constant_value globals (plain (basic (global_get x)) done) = value_at globals x
constant_value globals _ = value_32 0

-- the globals: imported ones have the plan's values, and initialisers see only those (4.5.4)
abbrev pub all_values : List Value → Module → List Value
all_values imports m = imports ++ map (λ (g : GlobalDef). constant_value imports g.init) m.globals

-- the declared minimum of the first memory or table (2.3.4)
abbrev pub least_of : List Limits → ℕ
least_of [] = 0
least_of (l ∷ ls) = l.min

-- where a segment begins (4.5.4)
abbrev pub place_at : List Value → Code → ℕ
place_at globals offset = number_of (constant_value globals offset)

-- The pieces that segments write: a place and what goes there (4.5.4).
pub record Piece (X : Type 0) : Type 0 where
  pub at : ℕ
  pub items : List X

-- what an element segment writes: each of its entries is initialised (4.5.4)
abbrev pub elem_piece : List Value → Elem → Piece (Option ℕ)
elem_piece globals e = record { at = place_at globals e.offset; items = map (λ x. Some x) e.funcs }

-- what a data segment writes (4.5.4)
abbrev pub byte_piece : List Value → Segment → Piece ℕ
byte_piece globals s = record { at = place_at globals s.offset; items = s.bytes }

-- the number of the first piece that reaches past a size (4.5.4), the pieces being numbered from i on
abbrev pub first_out : {X : Type 0} → (size i : ℕ) → List (Piece X) → Option ℕ
first_out size i [] = None
first_out size i (p ∷ ps) = if nat_le (p.at + length p.items) size then first_out size (suc i) ps else Some i

-- with a piece written over what stands at its place
abbrev pub put_piece : {X : Type 0} → List X → Piece X → List X
put_piece xs p = take p.at xs ++ p.items ++ drop (p.at + length p.items) xs

-- with the pieces written in order (4.5.4)
abbrev pub put_pieces : {X : Type 0} → List X → List (Piece X) → List X
put_pieces xs [] = xs
put_pieces xs (p ∷ ps) = put_pieces (put_piece xs p) ps

-- What instantiation comes to (4.5.4): the end of the program, or a store.
pub data Opening : Type 0 where
  fails_as : (how : End) → Opening
  opens : (store : Store) → Opening

-- the end by the first data segment that is out, else a store with all segments written (4.5.4)
abbrev pub bytes_checked : (globals : List Value) → (memory : List ℕ) → (table : List (Option ℕ)) → List (Piece (Option ℕ)) → List (Piece ℕ) → Option ℕ → Opening
bytes_checked globals memory table elems bytes (Some i) = fails_as (BytesOut i)
bytes_checked globals memory table elems bytes None = opens (record { globals = globals; memory = put_pieces memory bytes; table = put_pieces table elems })

-- the end by the first element segment that is out, else by the data segments (4.5.4)
abbrev pub elems_checked : (globals : List Value) → (memory : List ℕ) → (table : List (Option ℕ)) → List (Piece (Option ℕ)) → List (Piece ℕ) → Option ℕ → Opening
elems_checked globals memory table elems bytes (Some i) = fails_as (ElementsOut i)
elems_checked globals memory table elems bytes None = bytes_checked globals memory table elems bytes (first_out (length memory) 0 bytes)

-- with all segments written, or the end by the first that is out
abbrev pub filled : (globals : List Value) → (memory : List ℕ) → (table : List (Option ℕ)) → List (Piece (Option ℕ)) → List (Piece ℕ) → Opening
filled globals memory table elems bytes = elems_checked globals memory table elems bytes (first_out (length table) 0 elems)

-- The host has 1,024 pages of memory and 100,000 table entries.
abbrev pub opened_by : Module → (globals : List Value) → (pages entries : ℕ) → (pages_pass entries_pass : Bool) → Opening
opened_by m globals pages entries true entries_pass = fails_as (HostLimit false pages)
opened_by m globals pages entries false true = fails_as (HostLimit true entries)
opened_by m globals pages entries false false = filled globals (replicate (pages * page_size) 0) (replicate entries None) (map (elem_piece globals) m.elems) (map (byte_piece globals) m.segments)

-- The instance with these imported globals, before start runs (4.5.4): a zero memory and an uninitialised table of declared minimum, segments over them.
abbrev pub opening : Module → List Value → Opening
opening m imports = opened_by m (all_values imports m) (least_of (all_memories m)) (least_of (all_tables m)) (nat_lt 1024 (least_of (all_memories m))) (nat_lt 100000 (least_of (all_tables m)))
