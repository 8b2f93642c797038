-- An instruction that doesn't set the state leaves it.
use Rattle.std.proofs.Common.{◌≡◌, ℕ, ◌+◌, List, [], ◌∷◌, Option, Some, None, Bool, true, false, Result, Ok, Err, refl, sym, get_or-set_other}
use Rattle.std.specs.Prelude.{◌%◌, if◌then◌else◌}
use Rattle.wa_types.specs.declared.values.Value.{Value}
use Rattle.wa_types.specs.declared.values.Value.TheVariants as V
use Rattle.wa_types.specs.declared.values.Trap.{Trap}
use Rattle.wa_types.specs.Accesses.{AccessRow, load_row, store_row}
use Rattle.wa_types.specs.Encoding.{same_type}
use Rattle.wa_types.specs.Memory.{Memory, copied, filled_with, grown, number_at, with_number}
use Rattle.wa_types.specs.Syntax.{Basic, nop, drop, select, const, num, global_get, global_set, load, store, memory_size, memory_grow, memory_copy, memory_fill}
use Rattle.wa_types.specs.Typing.{type_of}
use Rattle.wa_model.specs.Operate.{operate, number_of}
use Rattle.wa_model.specs.Store.{Store, Did, works, fails, lacks, act, computed, loaded, load_at, stored, store_at, value_at, width_of, grew}
use Rattle.assert_laws.specs.Beside.{Leaves}

-- behind it the state is this
abbrev pub KeptIn : (st : ℕ) → Value → Did → Type 0
KeptIn st v (works s vs) = value_at s.globals st ≡ v
KeptIn st v (fails t) = Unit {0}
KeptIn st v lacks = Unit {0}

module _ (st : ℕ) (s : Store) where
  abbrev K : Did → Type 0
  K d = KeptIn st (value_at s.globals st) d

  computed_kept : (o : Option (Result Value Trap)) → K (computed s o)
  computed_kept None = tt
  computed_kept (Some (Ok v)) = refl
  computed_kept (Some (Err t)) = tt

  load_kept : (place : ℕ) (o : Option AccessRow) → K (load_at s place o)
  load_kept place None = tt
  load_kept place (Some row) = by (number_at s.memory place (width_of row))
    where
      by : (o : Option ℕ) → K (loaded s row o)
      by None = tt
      by (Some n) = refl

  stored_kept : (o : Option (List ℕ)) → K (stored s o)
  stored_kept None = tt
  stored_kept (Some memory) = refl

  store_kept : (place : ℕ) (v : Value) (o : Option AccessRow) → K (store_at s place v o)
  store_kept place v None = tt
  store_kept place v (Some row) = by (same_type row.ty (type_of v))
    where
      by : (b : Bool) → K (if b then stored s (with_number s.memory place (width_of row) (number_of v)) else lacks)
      by true = stored_kept (with_number s.memory place (width_of row) (number_of v))
      by false = tt

  grew_kept : (o : Option Memory) → K (grew s o)
  grew_kept None = refl
  grew_kept (Some m) = refl

  pub act_kept : (most : Option ℕ) (b : Basic) (ops : List Value) → Leaves st b → K (act most b s ops)
  act_kept most nop [] h = refl
  act_kept most drop (x ∷ []) h = refl
  act_kept most select (V.I32 k ∷ upper ∷ lower ∷ []) h = refl
  act_kept most (const x) [] h = refl
  act_kept most (num op) ops h = computed_kept (operate op ops)
  act_kept most (global_get x) [] h = refl
  act_kept most (global_set x) (y ∷ []) h = get_or-set_other s.globals x st y (V.I32 0) (λ z. h (sym z))
  act_kept most (load op align offset) (V.I32 a ∷ []) h = load_kept (a + offset) (load_row op)
  act_kept most (store op align offset) (x ∷ V.I32 a ∷ []) h = store_kept (a + offset) x (store_row op)
  act_kept most memory_size [] h = refl
  act_kept most memory_grow (V.I32 k ∷ []) h = grew_kept (grown (record { bytes = s.memory; max = most }) k)
  act_kept most memory_copy (V.I32 k ∷ V.I32 from ∷ V.I32 to ∷ []) h = stored_kept (copied s.memory to from k)
  act_kept most memory_fill (V.I32 k ∷ V.I32 v ∷ V.I32 at ∷ []) h = stored_kept (filled_with s.memory at (v % 256) k)
  act_kept most _ _ h = tt
