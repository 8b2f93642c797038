-- What an instruction does with operands in range leaves the store in range, and its results are.
use Rattle.std.proofs.Common.{◌≡◌, ℕ, zero, suc, ◌+◌, ◌*◌, ◌^◌, ◌<◌, ◌≤◌, Bool, true, false, cond, leb, eqb, List, [], ◌∷◌, length, Option, Some, None, Result, Ok, Err, refl, sym, subst, arith}
use Rattle.std.specs.Prelude.{◌&&◌, ◌%◌, nat_le, slice_set}
use Rattle.std.specs.List.{find, list_all}
use Rattle.std.proofs.lemmas.Bool.{and_parts, leb-true}
use Rattle.std.proofs.lemmas.List.Elements.{All-nil, All-cons, All-head, All-tail, All-set}
use Rattle.wa_types.specs.declared.values.ValType.{ValType}
use Rattle.wa_types.specs.declared.values.ValType.TheVariants.{I32, I64}
use Rattle.wa_types.specs.declared.values.Value.{Value}
use Rattle.wa_types.specs.declared.values.Value.TheVariants as V
use Rattle.wa_types.specs.declared.values.Trap.{Trap}
use Rattle.wa_types.specs.Accesses.{AccessRow, load_rows, load_row, store_row}
use Rattle.wa_types.specs.Encoding.{same_type}
use Rattle.wa_types.specs.Memory.{Memory, number_at, number_of_bytes, bytes_at, with_number as number_put, copied, filled_with, grown}
use Rattle.wa_types.specs.Sizes.{value_fits, BasicFits}
use Rattle.wa_types.specs.Syntax.{Basic, nop, drop, select, const, num, global_get, global_set, load, store, memory_size, memory_grow, memory_copy, memory_fill}
use Rattle.wa_types.specs.Typing.{type_of}
use Rattle.wa_model.specs.Integers.{extend_s}
use Rattle.wa_model.specs.Operate.{operate, number_of}
use Rattle.wa_model.specs.Store.{Store, value_at, Did, works, fails, lacks, choose, act, computed, width_of, bits_of, extended, loaded, load_at, stored, store_at, grew}
use Rattle.run_laws.specs.Ranges.{GivenIn, ValuesIn, StoreIn}
use Rattle.run_laws.proofs.Numbers.{extend_in}
use Rattle.run_laws.proofs.Operators.{size, value_of_in, operate_in}
use Rattle.run_laws.proofs.Bytes.{number_at_in, pages_in, MemoryGiven, with_number_in, copied_in, filled_in, GrownGiven, grown_in}

pub none_in : ValuesIn []
none_in = All-nil value_fits

pub more_in : (v : Value) (vs : List Value) → value_fits v → ValuesIn vs → ValuesIn (v ∷ vs)
more_in v vs h k = All-cons value_fits v vs h k

pub first_in : (v : Value) (vs : List Value) → ValuesIn (v ∷ vs) → value_fits v
first_in v vs h = All-head value_fits v vs h

pub rest_in : (v : Value) (vs : List Value) → ValuesIn (v ∷ vs) → ValuesIn vs
rest_in v vs h = All-tail value_fits v vs h

-- the value at a place, or the zero past the end
pub value_at_in : (vs : List Value) (x : ℕ) → ValuesIn vs → value_fits (value_at vs x)
value_at_in [] x h = omega arith
value_at_in (v ∷ vs) zero h = first_in v vs h
value_at_in (v ∷ vs) (suc x) h = value_at_in vs x (rest_in v vs h)

pub set_in : (vs : List Value) (x : ℕ) (v : Value) → value_fits v → ValuesIn vs → ValuesIn (slice_set vs x v)
set_in vs x v h k = All-set value_fits vs x v h k

-- what an instruction did
abbrev pub DidIn : ℕ → Did → Type 0
DidIn low (works s results) = StoreIn low s × ValuesIn results
DidIn low (fails trap) = Unit {0}
DidIn low lacks = Unit {0}

chosen_in : (n : ℕ) (lower upper : Value) → value_fits lower → value_fits upper → value_fits (choose n lower upper)
chosen_in zero lower upper h k = k
chosen_in (suc n) lower upper h k = h

-- ---- loads: by a test of each row

row_small : AccessRow → Bool
row_small row = nat_le (8 * width_of row) (bits_of row.ty) && nat_le (256 ^ width_of row) (2 ^ bits_of row.ty)

rows_small : list_all row_small load_rows ≡ true
unfolding row_small
rows_small = refl

found_in : (p q : AccessRow → Bool) (rows : List AccessRow) (row : AccessRow) → list_all p rows ≡ true → find q rows ≡ Some row → p row ≡ true
found_in p q [] row h e = cc
found_in p q (r ∷ rows) row h e = by_test (q r) e (λ z. found_in p q rows row (and_parts (p r) (list_all p rows) h).1 z)
  where
    by_test : (b : Bool) → cond b (Some r) (find q rows) ≡ Some row → (find q rows ≡ Some row → p row ≡ true) → p row ≡ true
    by_test true e on = let z : r ≡ row = cc in subst (λ (w : AccessRow). p w ≡ true) z (and_parts (p r) (list_all p rows) h).0
    by_test false e on = on e

size_is : (t : ValType) → size t ≡ 2 ^ bits_of t
size_is I32 = refl
size_is I64 = refl

extended_in : (row : AccessRow) (n : ℕ) → row_small row ≡ true → n < 256 ^ width_of row → value_fits (extended row n)
unfolding row_small
extended_in row n e h =
    let b = and_parts (nat_le (8 * width_of row) (bits_of row.ty)) (nat_le (256 ^ width_of row) (2 ^ bits_of row.ty)) e in
    let fewer : 8 * width_of row ≤ bits_of row.ty = leb-true _ _ b.0 in
    let most : 256 ^ width_of row ≤ 2 ^ bits_of row.ty = leb-true _ _ b.1 in
    let below : n < 2 ^ bits_of row.ty = omega arith in
    value_of_in row.ty _ (subst (λ (w : ℕ). cond row.signed (extend_s (8 * width_of row) (bits_of row.ty) n) n < w) (sym (size_is row.ty)) (by_sign row.signed fewer below))
  where
    by_sign : (b : Bool) → 8 * width_of row ≤ bits_of row.ty → n < 2 ^ bits_of row.ty → cond b (extend_s (8 * width_of row) (bits_of row.ty) n) n < 2 ^ bits_of row.ty
    by_sign true fewer below = extend_in (8 * width_of row) (bits_of row.ty) n fewer below
    by_sign false fewer below = below

module _ (low : ℕ) where
  loaded_in : (s : Store) (row : AccessRow) (place : ℕ) → row_small row ≡ true → StoreIn low s → DidIn low (loaded s row (number_at s.memory place (width_of row)))
  loaded_in s row place e ok = by_place (leb (place + width_of row) (length s.memory))
    where
      n : ℕ
      n = number_of_bytes (bytes_at s.memory place (width_of row))

      by_place : (b : Bool) → DidIn low (loaded s row (cond b (Some (number_of_bytes (bytes_at s.memory place (width_of row)))) None))
      by_place true = (ok, more_in _ [] (extended_in row _ e (number_at_in s.memory place (width_of row) ok.memory.each)) none_in)
      by_place false = tt

  load_in : (s : Store) (place op : ℕ) → StoreIn low s → DidIn low (load_at s place (load_row op))
  load_in s place op ok = by_row (load_row op) refl
    where
      by_row : (o : Option AccessRow) → load_row op ≡ o → DidIn low (load_at s place o)
      by_row None e = tt
      by_row (Some row) e = loaded_in s row place (found_in row_small (λ (row : AccessRow). eqb row.opcode op) load_rows row rows_small e) ok

  stored_in : (s : Store) (o : Option (List ℕ)) → StoreIn low s → MemoryGiven low o → DidIn low (stored s o)
  stored_in s None ok h = tt
  stored_in s (Some memory) ok h = (record { globals = ok.globals; memory = h }, none_in)

  store_in : (s : Store) (place : ℕ) (v : Value) (o : Option AccessRow) → StoreIn low s → DidIn low (store_at s place v o)
  store_in s place v None ok = tt
  store_in s place v (Some row) ok = by_type (same_type row.ty (type_of v))
    where
      by_type : (b : Bool) → DidIn low (cond b (stored s (number_put s.memory place (width_of row) (number_of v))) lacks)
      by_type true = stored_in s (number_put s.memory place (width_of row) (number_of v)) ok (with_number_in low s.memory place (width_of row) (number_of v) ok.memory)
      by_type false = tt

  computed_in : (s : Store) (o : Option (Result Value Trap)) → StoreIn low s → GivenIn o → DidIn low (computed s o)
  computed_in s None ok h = tt
  computed_in s (Some (Ok v)) ok h = (ok, more_in v [] h none_in)
  computed_in s (Some (Err trap)) ok h = tt

  grew_in : (s : Store) (o : Option Memory) → StoreIn low s → GrownGiven low o → DidIn low (grew s o)
  grew_in s None ok h = (ok, more_in _ [] (omega arith) none_in)
  grew_in s (Some m) ok h = (record { globals = ok.globals; memory = h }, more_in _ [] (pages_in s.memory ok.memory.pages) none_in)

  -- what an instruction does with its operands
  pub act_in : (most : Option ℕ) (b : Basic) (s : Store) (ops : List Value) → BasicFits b → StoreIn low s → ValuesIn ops → DidIn low (act most b s ops)
  act_in most nop s [] f ok vs = (ok, none_in)
  act_in most drop s (v ∷ []) f ok vs = (ok, none_in)
  act_in most select s (V.I32 n ∷ upper ∷ lower ∷ []) f ok vs =
      let below = rest_in (V.I32 n) (upper ∷ lower ∷ []) vs in
      (ok, more_in _ [] (chosen_in n lower upper (first_in lower [] (rest_in upper (lower ∷ []) below)) (first_in upper (lower ∷ []) below)) none_in)
  act_in most (const v) s [] f ok vs = (ok, more_in v [] f none_in)
  act_in most (num op) s ops f ok vs = computed_in s (operate op ops) ok (operate_in op ops vs)
  act_in most (global_get x) s [] f ok vs = (ok, more_in _ [] (value_at_in s.globals x ok.globals) none_in)
  act_in most (global_set x) s (v ∷ []) f ok vs = (record { globals = set_in s.globals x v (first_in v [] vs) ok.globals; memory = ok.memory }, none_in)
  act_in most (load op align offset) s (V.I32 a ∷ []) f ok vs = load_in s (a + offset) op ok
  act_in most (store op align offset) s (v ∷ V.I32 a ∷ []) f ok vs = store_in s (a + offset) v (store_row op) ok
  act_in most memory_size s [] f ok vs = (ok, more_in _ [] (pages_in s.memory ok.memory.pages) none_in)
  act_in most memory_grow s (V.I32 n ∷ []) f ok vs = grew_in s (grown (record { bytes = s.memory; max = most }) n) ok (grown_in low s.memory most n ok.memory)
  act_in most memory_copy s (V.I32 n ∷ V.I32 from ∷ V.I32 to ∷ []) f ok vs = stored_in s (copied s.memory to from n) ok (copied_in low s.memory to from n ok.memory)
  act_in most memory_fill s (V.I32 n ∷ V.I32 v ∷ V.I32 at ∷ []) f ok vs = stored_in s (filled_with s.memory at (v % 256) n) ok (filled_in low s.memory at v n ok.memory)
  act_in most _ s _ f ok vs = tt
