-- What an instruction does with its own operands keeps the store fitting, and gives values of its types.
use Rattle.std.proofs.Common.{◌≡◌, ℕ, zero, suc, ◌+◌, ◌++◌, List, [], ◌∷◌, Option, Some, None, Result, Ok, Err, Bool, true, false, refl, sym, ap, ◌∙◌, subst, length, take, drop}
use Rattle.std.specs.Prelude.{◌%◌, IsSome, nat_le, if◌then◌else◌, slice_get}
use Rattle.std.specs.Option.{option_map}
use Rattle.std.proofs.lemmas.Option.{slice_get-map}
use Rattle.wa_types.specs.declared.values.ValType.{ValType}
use Rattle.wa_types.specs.declared.values.ValType.TheVariants.{I32, I64}
use Rattle.wa_types.specs.declared.values.Value.{Value}
use Rattle.wa_types.specs.declared.values.Value.TheVariants as V
use Rattle.wa_types.specs.declared.values.Trap.{Trap}
use Rattle.wa_types.specs.Operators.{operand_types, result_type}
use Rattle.wa_types.specs.Accesses.{AccessRow, load_row, store_row}
use Rattle.wa_types.specs.Encoding.{same_type}
use Rattle.wa_types.specs.Memory.{Memory, pages_of, number_at, with_number as number_put, copied, filled_with, grown}
use Rattle.wa_types.specs.Syntax.{Basic, nop, drop as a_drop, select, const, num, global_get, global_set, load, store, memory_size, memory_grow, memory_copy, memory_fill, Module}
use Rattle.wa_types.specs.declared.rules.Rule.{Rule}
use Rattle.wa_types.specs.declared.rules.Rule.TheVariants.{Alignment, ConstantGlobal}
use Rattle.wa_types.specs.Typing.{GlobalType, Around, type_of, moves, late, gets_global, sets_global, loads, stores, with_memory as in_memory, basic_sig, Takes}
use Rattle.wa_types.specs.Modules.{all_globals}
use Rattle.wa_ops.specs.Operate.{operate, value_of, number_of}
use Rattle.wa_ops.proofs.OperateLemmas.{operate-typed, type_of-operate}
use Rattle.wa_model.specs.Store.{Store, value_at, Did, works, fails, lacks, takes, choose, act, computed, extended, loaded, load_at, stored, store_at, width_of, grew}
use Rattle.run_theory.specs.Fitting.{types_of, global_types, StoreFits}
use Rattle.run_theory.proofs.FittingNames.{split_types, value_typed, set_typed}

-- ---- values and their types

-- a type is the same as itself
pub same_itself : (t : ValType) → same_type t t ≡ true
same_itself I32 = refl
same_itself I64 = refl

-- a value of a type has it
value_of_typed : (t : ValType) (n : ℕ) → type_of (value_of t n) ≡ t
value_of_typed I32 n = refl
value_of_typed I64 n = refl

-- select chooses one of two values of a type
chosen_typed : (t : ValType) (n : ℕ) (lower upper : Value) → type_of lower ≡ t → type_of upper ≡ t → type_of (choose n lower upper) ≡ t
chosen_typed t zero lower upper h k = k
chosen_typed t (suc n) lower upper h k = h

-- the first of a list of types, and the rest
head_is : (t u : ValType) (ts us : List ValType) → t ∷ ts ≡ u ∷ us → t ≡ u
head_is t u ts us e = cc

tail_is : (t u : ValType) (ts us : List ValType) → t ∷ ts ≡ u ∷ us → ts ≡ us
tail_is t u ts us e = cc

-- the type of a global's value
pub global_at : (values : List Value) (gs : List GlobalType) (x : ℕ) (g : GlobalType) → types_of values ≡ global_types gs → slice_get gs x ≡ Some g → slice_get (types_of values) x ≡ Some g.ty
global_at values gs x g e h =
    ap (λ ts. slice_get ts x) e ∙ slice_get-map (λ (g : GlobalType). g.ty) gs x ∙ ap (option_map (λ (g : GlobalType). g.ty)) h

-- ---- what an instruction does with its operands

-- What it did fits: the store, and the results above what lies below.
abbrev pub DidFits : Module → (mids : List ValType) → (below : List Value) → Did → Type 0
DidFits m mids below (works s results) = StoreFits m s × (types_of (results ++ below) ≡ mids)
DidFits m mids below (fails trap) = Unit {0}
DidFits m mids below lacks = ⊥

-- one result of its type above what lies below
above : (t : ValType) (ts mids : List ValType) (below : List Value) (v : Value) → type_of v ≡ t → types_of below ≡ ts → mids ≡ t ∷ ts → types_of (v ∷ below) ≡ mids
above t ts mids below v e f g = ap (λ u. u ∷ types_of below) e ∙ ap (λ us. t ∷ us) f ∙ sym g

module _ (m : Module) where
  -- numeric instructions have an outcome at operands of their types
  computed_fits : (s : Store) (t : ValType) (ts mids : List ValType) (below : List Value) (o : Option (Result Value Trap)) → StoreFits m s → IsSome o → ((v : Value) → o ≡ Some (Ok v) → type_of v ≡ t)
      → types_of below ≡ ts → mids ≡ t ∷ ts → DidFits m mids below (computed s o)
  computed_fits s t ts mids below None ok some typed e f = cc
  computed_fits s t ts mids below (Some (Ok v)) ok some typed e f = (ok, above t ts mids below v (typed v refl) e f)
  computed_fits s t ts mids below (Some (Err trap)) ok some typed e f = tt

  -- a load gives a value of its row's type
  loaded_fits : (s : Store) (row : AccessRow) (ts mids : List ValType) (below : List Value) (o : Option ℕ) → StoreFits m s → types_of below ≡ ts → mids ≡ row.ty ∷ ts
      → DidFits m mids below (loaded s row o)
  loaded_fits s row ts mids below None ok e f = tt
  loaded_fits s row ts mids below (Some n) ok e f = (ok, above row.ty ts mids below (extended row n) (value_of_typed row.ty _) e f)

  -- another memory leaves a store fitting
  stored_fits : (s : Store) (mids : List ValType) (below : List Value) (o : Option (List ℕ)) → StoreFits m s → types_of below ≡ mids → DidFits m mids below (stored s o)
  stored_fits s mids below None ok e = tt
  stored_fits s mids below (Some memory) ok e = (record { globals = ok.globals; table = ok.table }, e)

  -- a store of a value of its row's type
  put_fits : (s : Store) (row : AccessRow) (place : ℕ) (v : Value) (mids : List ValType) (below : List Value) → StoreFits m s → type_of v ≡ row.ty → types_of below ≡ mids
      → DidFits m mids below (store_at s place v (Some row))
  put_fits s row place v mids below ok e f =
      let done : Did = stored s (number_put s.memory place (width_of row) (number_of v)) in
      let same : same_type row.ty (type_of v) ≡ true = ap (same_type row.ty) e ∙ same_itself row.ty in
      subst (λ (b : Bool). DidFits m mids below (if b then done else lacks)) (sym same)
      (stored_fits s mids below (number_put s.memory place (width_of row) (number_of v)) ok f)

  -- growth gives a number, and another memory at most
  grew_fits : (s : Store) (ts mids : List ValType) (below : List Value) (o : Option Memory) → StoreFits m s → types_of below ≡ ts → mids ≡ I32 ∷ ts → DidFits m mids below (grew s o)
  grew_fits s ts mids below None ok e f = (ok, above I32 ts mids below (V.I32 4294967295) refl e f)
  grew_fits s ts mids below (Some memory) ok e f = (record { globals = ok.globals; table = ok.table }, ap (λ us. I32 ∷ us) e ∙ sym f)

  -- ---- instructions over all operands

  -- select takes a number and two operands of one type
  select_fits : (most : Option ℕ) (s : Store) (ops : List Value) (t : ValType) (ts mids : List ValType) → StoreFits m s → types_of ops ≡ I32 ∷ t ∷ t ∷ ts → mids ≡ t ∷ ts
      → DidFits m mids (drop 3 ops) (act most select s (take 3 ops))
  select_fits most s [] t ts mids ok e f = cc
  select_fits most s (v ∷ []) t ts mids ok e f = cc
  select_fits most s (v ∷ w ∷ []) t ts mids ok e f = cc
  select_fits most s (V.I64 n ∷ upper ∷ lower ∷ ops) t ts mids ok e f = cc
  select_fits most s (V.I32 n ∷ upper ∷ lower ∷ ops) t ts mids ok e f =
      let e1 = tail_is I32 I32 (type_of upper ∷ type_of lower ∷ types_of ops) (t ∷ t ∷ ts) e in
      let e2 = tail_is (type_of upper) t (type_of lower ∷ types_of ops) (t ∷ ts) e1 in
      let up = head_is (type_of upper) t (type_of lower ∷ types_of ops) (t ∷ ts) e1 in
      let low = head_is (type_of lower) t (types_of ops) ts e2 in
      (ok, above t ts mids ops (choose n lower upper) (chosen_typed t n lower upper low up) (tail_is (type_of lower) t (types_of ops) ts e2) f)

  -- global.set takes a value of the global's type
  set_fits : (most : Option ℕ) (s : Store) (x : ℕ) (g : GlobalType) (ops : List Value) (ts mids : List ValType) → StoreFits m s → slice_get (all_globals m) x ≡ Some g
      → types_of ops ≡ g.ty ∷ ts → mids ≡ ts
      → DidFits m mids (drop 1 ops) (act most (global_set x) s (take 1 ops))
  set_fits most s x g [] ts mids ok at e f = cc
  set_fits most s x g (v ∷ ops) ts mids ok at e f = (
    record { globals = set_typed s.globals x v (global_at s.globals (all_globals m) x g ok.globals at ∙ ap Some (sym (head_is (type_of v) g.ty (types_of ops) ts e))) ∙ ok.globals; table = ok.table },
    tail_is (type_of v) g.ty (types_of ops) ts e ∙ sym f,
  )

  -- a load takes an address
  load_fits : (most : Option ℕ) (s : Store) (op align offset : ℕ) (ops : List Value) (row : AccessRow) (ts mids : List ValType) → StoreFits m s → load_row op ≡ Some row
      → types_of ops ≡ I32 ∷ ts → mids ≡ row.ty ∷ ts
      → DidFits m mids (drop 1 ops) (act most (load op align offset) s (take 1 ops))
  load_fits most s op align offset [] row ts mids ok at e f = cc
  load_fits most s op align offset (V.I64 n ∷ ops) row ts mids ok at e f = cc
  load_fits most s op align offset (V.I32 a ∷ ops) row ts mids ok at e f =
      subst (λ o. DidFits m mids ops (load_at s (a + offset) o)) (sym at)
      (loaded_fits s row ts mids ops (number_at s.memory (a + offset) (width_of row)) ok (tail_is I32 I32 (types_of ops) ts e) f)

  -- a store takes a value of its row's type, and an address below it
  store_fits : (most : Option ℕ) (s : Store) (op align offset : ℕ) (ops : List Value) (row : AccessRow) (ts mids : List ValType) → StoreFits m s → store_row op ≡ Some row
      → types_of ops ≡ row.ty ∷ I32 ∷ ts → mids ≡ ts
      → DidFits m mids (drop 2 ops) (act most (store op align offset) s (take 2 ops))
  store_fits most s op align offset [] row ts mids ok at e f = cc
  store_fits most s op align offset (v ∷ []) row ts mids ok at e f = cc
  store_fits most s op align offset (v ∷ V.I64 n ∷ ops) row ts mids ok at e f = cc
  store_fits most s op align offset (v ∷ V.I32 a ∷ ops) row ts mids ok at e f =
      let rest = tail_is (type_of v) row.ty (I32 ∷ types_of ops) (I32 ∷ ts) e in
      let first = head_is (type_of v) row.ty (I32 ∷ types_of ops) (I32 ∷ ts) e in
      subst (λ o. DidFits m mids ops (store_at s (a + offset) v o)) (sym at)
      (put_fits s row (a + offset) v mids ops ok first (tail_is I32 I32 (types_of ops) ts rest ∙ sym f))

  -- memory.grow takes a number of pages
  grow_fits : (most : Option ℕ) (s : Store) (ops : List Value) (ts mids : List ValType) → StoreFits m s → types_of ops ≡ I32 ∷ ts → mids ≡ I32 ∷ ts
      → DidFits m mids (drop 1 ops) (act most memory_grow s (take 1 ops))
  grow_fits most s [] ts mids ok e f = cc
  grow_fits most s (V.I64 n ∷ ops) ts mids ok e f = cc
  grow_fits most s (V.I32 n ∷ ops) ts mids ok e f =
      grew_fits s ts mids ops (grown (record { bytes = s.memory; max = most }) n) ok (tail_is I32 I32 (types_of ops) ts e) f

  -- a copy takes three numbers
  copy_fits : (most : Option ℕ) (s : Store) (ops : List Value) (ts mids : List ValType) → StoreFits m s → types_of ops ≡ I32 ∷ I32 ∷ I32 ∷ ts → mids ≡ ts
      → DidFits m mids (drop 3 ops) (act most memory_copy s (take 3 ops))
  copy_fits most s [] ts mids ok e f = cc
  copy_fits most s (v ∷ []) ts mids ok e f = cc
  copy_fits most s (v ∷ w ∷ []) ts mids ok e f = cc
  copy_fits most s (V.I64 n ∷ v ∷ w ∷ ops) ts mids ok e f = cc
  copy_fits most s (V.I32 n ∷ V.I64 v ∷ w ∷ ops) ts mids ok e f = cc
  copy_fits most s (V.I32 n ∷ V.I32 v ∷ V.I64 w ∷ ops) ts mids ok e f = cc
  copy_fits most s (V.I32 n ∷ V.I32 from ∷ V.I32 to ∷ ops) ts mids ok e f =
      let e1 = tail_is I32 I32 (I32 ∷ I32 ∷ types_of ops) (I32 ∷ I32 ∷ ts) e in
      let e2 = tail_is I32 I32 (I32 ∷ types_of ops) (I32 ∷ ts) e1 in
      stored_fits s mids ops (copied s.memory to from n) ok (tail_is I32 I32 (types_of ops) ts e2 ∙ sym f)

  -- so does a fill
  fill_fits : (most : Option ℕ) (s : Store) (ops : List Value) (ts mids : List ValType) → StoreFits m s → types_of ops ≡ I32 ∷ I32 ∷ I32 ∷ ts → mids ≡ ts
      → DidFits m mids (drop 3 ops) (act most memory_fill s (take 3 ops))
  fill_fits most s [] ts mids ok e f = cc
  fill_fits most s (v ∷ []) ts mids ok e f = cc
  fill_fits most s (v ∷ w ∷ []) ts mids ok e f = cc
  fill_fits most s (V.I64 n ∷ v ∷ w ∷ ops) ts mids ok e f = cc
  fill_fits most s (V.I32 n ∷ V.I64 v ∷ w ∷ ops) ts mids ok e f = cc
  fill_fits most s (V.I32 n ∷ V.I32 v ∷ V.I64 w ∷ ops) ts mids ok e f = cc
  fill_fits most s (V.I32 n ∷ V.I32 v ∷ V.I32 at ∷ ops) ts mids ok e f =
      let e1 = tail_is I32 I32 (I32 ∷ I32 ∷ types_of ops) (I32 ∷ I32 ∷ ts) e in
      let e2 = tail_is I32 I32 (I32 ∷ types_of ops) (I32 ∷ ts) e1 in
      stored_fits s mids ops (filled_with s.memory at (v % 256) n) ok (tail_is I32 I32 (types_of ops) ts e2 ∙ sym f)

-- ---- what typed instructions take

-- a rule that holds where the instruction is typed
moves_where : (b : Bool) (rule : Rule) (ps rs ins outs : List ValType) → Takes (if b then moves ps rs else late rule ps rs) ins outs → Takes (moves ps rs) ins outs
moves_where true rule ps rs ins outs h = h
moves_where false rule ps rs ins outs h = absurd h

-- there is a global, and its type is given
pub got_moves : (o : Option GlobalType) (ins outs : List ValType) → Takes (gets_global o) ins outs → (g : GlobalType) × (o ≡ Some g) × Takes (moves [] (g.ty ∷ [])) ins outs
got_moves None ins outs h = absurd h
got_moves (Some g) ins outs h = (g, refl, h)

-- there is a global, and its type is taken
pub set_moves : (o : Option GlobalType) (ins outs : List ValType) → Takes (sets_global o) ins outs → (g : GlobalType) × (o ≡ Some g) × Takes (moves (g.ty ∷ []) []) ins outs
set_moves None ins outs h = absurd h
set_moves (Some g) ins outs h = (g, refl, moves_where g.mutable ConstantGlobal (g.ty ∷ []) [] ins outs h)

-- there is a row of the load, and its type is given
pub load_moves : (memory : Bool) (align : ℕ) (o : Option AccessRow) (ins outs : List ValType) → Takes (loads memory align o) ins outs
    → (row : AccessRow) × (o ≡ Some row) × Takes (moves (I32 ∷ []) (row.ty ∷ [])) ins outs
load_moves false align o ins outs h = absurd h
load_moves true align None ins outs h = absurd h
load_moves true align (Some row) ins outs h = (row, refl, moves_where (nat_le align row.natural) Alignment (I32 ∷ []) (row.ty ∷ []) ins outs h)

-- there is a row of the store, and its type is taken
pub store_moves : (memory : Bool) (align : ℕ) (o : Option AccessRow) (ins outs : List ValType) → Takes (stores memory align o) ins outs
    → (row : AccessRow) × (o ≡ Some row) × Takes (moves (row.ty ∷ I32 ∷ []) []) ins outs
store_moves false align o ins outs h = absurd h
store_moves true align None ins outs h = absurd h
store_moves true align (Some row) ins outs h = (row, refl, moves_where (nat_le align row.natural) Alignment (row.ty ∷ I32 ∷ []) [] ins outs h)

-- there is a memory
pub memory_moves : (memory : Bool) (ps rs ins outs : List ValType) → Takes (in_memory memory ps rs) ins outs → Takes (moves ps rs) ins outs
memory_moves false ps rs ins outs h = absurd h
memory_moves true ps rs ins outs h = h

-- ---- instructions

-- An instruction that touches only its own operands and the store, typed over all operands, never lacks, and what it did fits.
pub act_fits : (m : Module) (c : Around) (most : Option ℕ) (b : Basic) (s : Store) (ops : List Value) (mids : List ValType)
    → c.globals ≡ all_globals m → StoreFits m s → Takes (basic_sig c b) (types_of ops) mids
    → DidFits m mids (drop (takes b) ops) (act most b s (take (takes b) ops))
act_fits m c most nop s ops mids z ok h = (ok, h.1 ∙ sym h.2)
act_fits m c most a_drop s [] mids z ok h = let e : [] ≡ h.0 ∷ mids = h.1 in cc
act_fits m c most a_drop s (v ∷ ops) mids z ok h = (ok, tail_is (type_of v) h.0 (types_of ops) mids h.1)
act_fits m c most select s ops mids z ok h = select_fits m most s ops h.0 h.1 mids ok h.2 h.3
act_fits m c most (const v) s ops mids z ok h = (ok, above (type_of v) h.0 mids ops v refl h.1 h.2)
act_fits m c most (num op) s ops mids z ok h =
    let r = split_types (operand_types op) h.0 ops h.1 in
    let own : List Value = take (length (operand_types op)) ops in
    computed_fits m s (result_type op) h.0 mids (drop (length (operand_types op)) ops) (operate op own) ok (operate-typed op own r.0) (type_of-operate op own) r.1 h.2
act_fits m c most (global_get x) s ops mids z ok h =
    let r = got_moves (slice_get c.globals x) (types_of ops) mids h in
    let g : GlobalType = r.0 in
    let at = global_at s.globals (all_globals m) x g ok.globals (ap (λ gs. slice_get gs x) (sym z) ∙ r.1) in
    (ok, above g.ty (r.2).0 mids ops (value_at s.globals x) (value_typed s.globals x g.ty at) (r.2).1 (r.2).2)
act_fits m c most (global_set x) s ops mids z ok h =
    let r = set_moves (slice_get c.globals x) (types_of ops) mids h in
    let at = ap (λ gs. slice_get gs x) (sym z) ∙ r.1 in
    set_fits m most s x r.0 ops (r.2).0 mids ok at (r.2).1 (r.2).2
act_fits m c most (load op align offset) s ops mids z ok h =
    let r = load_moves c.memory align (load_row op) (types_of ops) mids h in
    load_fits m most s op align offset ops r.0 (r.2).0 mids ok r.1 (r.2).1 (r.2).2
act_fits m c most (store op align offset) s ops mids z ok h =
    let r = store_moves c.memory align (store_row op) (types_of ops) mids h in
    store_fits m most s op align offset ops r.0 (r.2).0 mids ok r.1 (r.2).1 (r.2).2
act_fits m c most memory_size s ops mids z ok h =
    let r = memory_moves c.memory [] (I32 ∷ []) (types_of ops) mids h in
    (ok, above I32 r.0 mids ops (V.I32 (pages_of s.memory)) refl r.1 r.2)
act_fits m c most memory_grow s ops mids z ok h =
    let r = memory_moves c.memory (I32 ∷ []) (I32 ∷ []) (types_of ops) mids h in
    grow_fits m most s ops r.0 mids ok r.1 r.2
act_fits m c most memory_copy s ops mids z ok h =
    let r = memory_moves c.memory (I32 ∷ I32 ∷ I32 ∷ []) [] (types_of ops) mids h in
    copy_fits m most s ops r.0 mids ok r.1 r.2
act_fits m c most memory_fill s ops mids z ok h =
    let r = memory_moves c.memory (I32 ∷ I32 ∷ I32 ∷ []) [] (types_of ops) mids h in
    fill_fits m most s ops r.0 mids ok r.1 r.2
