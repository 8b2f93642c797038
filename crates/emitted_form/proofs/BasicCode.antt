-- The constants and offsets of a written body are in range where those of the original are.
use Rattle.std.proofs.Common.{ℕ, zero, suc, ◌+◌, ◌-◌, ◌<◌, ◌^◌, List, [], ◌∷◌, ◌++◌, length, map, drop, Option, Some, None, Bool, true, false, refl, arith}
use Rattle.std.specs.Prelude.{slice_get, ◌||◌, if◌then◌else◌}
use Rattle.wa_types.specs.declared.values.ValType.{ValType}
use Rattle.wa_types.specs.declared.values.ValType.TheVariants.{I32, I64}
use Rattle.wa_types.specs.declared.values.Value.TheVariants as V
use Rattle.wa_types.specs.declared.operators.NumOp.TheVariants.{I32Ne, I32LtU, I32Sub}
use Rattle.wa_types.specs.Sizes.{value_fits, BasicFits, PlainFits, CodeFits}
use Rattle.wa_types.specs.Syntax.{basic, num, const, global_get, local_get, local_set, local_tee, br, br_if, br_table, return, unreachable, call, call_indirect, Plain, a_block, a_loop, Code, done, plain, nest, branch}
use Rattle.wa_types.specs.Frames.{width}
use Rattle.wa_types.specs.Pausing.{Callee, direct, indirect}
use Rattle.wa_types.specs.Points.{after}
use Rattle.wa_types.specs.Typing.{Around, listed, sig, label}
use Rattle.wa_model.specs.declared.flat.Operand.{Operand}
use Rattle.wa_model.specs.declared.flat.Operand.TheVariants.{Local, Const}
use Rattle.run_theory.specs.Flat.{Stmts, no_more, computes, copies, calls, leaps, leaps_if, leaps_by, nests, decides, halts, followed_by, got, all_got, set_to, slots_got, last_of, code_of, result_got}
use Rattle.flat_laws.specs.Flatten.{Names, top, carry_to, carry, carry_all, arrive, flat_plain, flat}
use Rattle.frame_laws.specs.Function.{value_code}
use Rattle.frame_laws.specs.Layout.{FrameField, kept, gap, fields_size, placed, Layout, save_code, restore_code}
use Rattle.local_spill.specs.Spilling.{stored_value, loaded_value, locals_stored, locals_loaded}
use Rattle.local_spill.specs.Spilling as Spilling
use Rattle.guard_form.specs.Pieces.{Units, no_unit, call_unit, nest_unit, if_unit, any_unit, numbers_in, call_to, got_any, numbered, holds_call, call_total, piece_call, first_piece, unit_call, units}
use Rattle.guard_form.specs.Guarded.{GuardIndices, raised_plain, raised, guarded, sought, one_more, by_state, index_with, index_noted, noted, ends_too, call_guarded, choice, arm, Exit, its_end, by_label, nowhere, function_end, exit_inside, last_piece}
use Rattle.guard_form.specs.Guarded.{call_front, front, sought_first, call_entry, entry, guarded_body, block_unit}

-- what a basic instruction holds is in range
abbrev pub PlainBasic : Plain → Type 0
PlainBasic (basic b) = BasicFits b
PlainBasic _ = Unit {0}

-- .. of each of code
abbrev pub BasicsFit : Code → Type 0
BasicsFit done = Unit {0}
BasicsFit (plain p rest) = PlainBasic p × BasicsFit rest
BasicsFit (nest s r body rest) = BasicsFit body × BasicsFit rest
BasicsFit (branch r a b rest) = BasicsFit a × BasicsFit b × BasicsFit rest

pub fits_basic : (c : Code) → CodeFits c → BasicsFit c
fits_basic done h = tt
fits_basic (plain p rest) h = (one p h.0, fits_basic rest h.1)
  where
    one : (p : Plain) → PlainFits p → PlainBasic p
    one (basic b) h = h
    one (local_get x) h = tt
    one (local_set x) h = tt
    one (local_tee x) h = tt
    one (br l) h = tt
    one (br_if l) h = tt
    one (br_table ls l) h = tt
    one return h = tt
    one unreachable h = tt
    one (call x) h = tt
    one (call_indirect x) h = tt
fits_basic (nest s r body rest) h = (fits_basic body h.0, fits_basic rest h.1)
fits_basic (branch r a b rest) h = (fits_basic a h.0, fits_basic b h.1, fits_basic rest h.2)

pub followed_fits : (a b : Code) → BasicsFit a → BasicsFit b → BasicsFit (followed_by a b)
unfolding followed_by
followed_fits done b h k = k
followed_fits (plain p rest) b h k = (h.0, followed_fits rest b h.1 k)
followed_fits (nest s r body rest) b h k = (h.0, followed_fits rest b h.1 k)
followed_fits (branch r x y rest) b h k = (h.0, h.1, followed_fits rest b h.2 k)

-- ---- statements

abbrev OperandFits : Operand → Type 0
OperandFits (Local x) = Unit {0}
OperandFits (Const v) = value_fits v

abbrev OperandsFit : List Operand → Type 0
OperandsFit [] = Unit {0}
OperandsFit (o ∷ os) = OperandFits o × OperandsFit os

-- the same of statements
abbrev pub StmtsBasic : Stmts → Type 0
StmtsBasic no_more = Unit {0}
StmtsBasic (computes op args to rest) = BasicsFit op × OperandsFit args × StmtsBasic rest
StmtsBasic (copies to from rest) = OperandFits from × StmtsBasic rest
StmtsBasic (calls op stack args to rest) = BasicsFit op × StmtsBasic rest
StmtsBasic (leaps l rest) = StmtsBasic rest
StmtsBasic (leaps_if c l rest) = OperandFits c × StmtsBasic rest
StmtsBasic (leaps_by o ls l rest) = OperandFits o × StmtsBasic rest
StmtsBasic (nests s body rest) = StmtsBasic body × StmtsBasic rest
StmtsBasic (decides c a b rest) = OperandFits c × StmtsBasic a × StmtsBasic b × StmtsBasic rest
StmtsBasic (halts rest) = StmtsBasic rest

module _ (n : Names) where
  locals_fit : (xs : List ℕ) → OperandsFit (map Local xs)
  locals_fit [] = tt
  locals_fit (x ∷ xs) = (tt, locals_fit xs)

  carried : (d : ℕ) (r : Option (Option ValType)) (ops : List ValType) (s : Stmts) → StmtsBasic s → StmtsBasic (carry_to n d r ops s)
  carried d None ops s h = h
  carried d (Some None) ops s h = h
  carried d (Some (Some t)) ops s h = (tt, h)

  carry_fits : (ls : List (Option ValType)) (ops : List ValType) (l : ℕ) (s : Stmts) → StmtsBasic s → StmtsBasic (carry n ls ops l s)
  carry_fits ls ops l s h = carried (length ls - suc l) (slice_get ls l) ops s h

  all_carried : (ls : List (Option ValType)) (ops : List ValType) (labels : List ℕ) (s : Stmts) → StmtsBasic s → StmtsBasic (carry_all n ls ops labels s)
  all_carried ls ops [] s h = h
  all_carried ls ops (l ∷ labels) s h = carry_fits ls ops l (carry_all n ls ops labels s) (all_carried ls ops labels s h)

  arrived : (d : ℕ) (r : Option ValType) (ops : List ValType) (s : Stmts) → StmtsBasic s → StmtsBasic (arrive n d r ops s)
  arrived d None ops s h = h
  arrived d (Some t) ops s h = (tt, h)

  plain_fits : (c : Around) (ls : List (Option ValType)) (ops behind : List ValType) (p : Plain) (s : Stmts) → PlainBasic p → StmtsBasic s → StmtsBasic (flat_plain n c ls ops behind p s)
  plain_fits c ls ops behind (basic b) s h k = ((h, tt), locals_fit _, k)
  plain_fits c ls ops behind (local_get x) s h k = (tt, k)
  plain_fits c ls ops behind (local_set x) s h k = (tt, k)
  plain_fits c ls ops behind (local_tee x) s h k = (tt, k)
  plain_fits c ls ops behind (br l) s h k = carry_fits ls ops l (leaps l no_more) tt
  plain_fits c ls ops behind (br_if l) s h k = carry_fits ls (drop 1 ops) l (leaps_if (Local (top n ops)) l s) (tt, k)
  plain_fits c ls ops behind (br_table ts l) s h k =
      all_carried ls (drop 1 ops) ts (carry n ls (drop 1 ops) l (leaps_by (Local (top n ops)) ts l no_more))
      (carry_fits ls (drop 1 ops) l (leaps_by (Local (top n ops)) ts l no_more) (tt, tt))
  plain_fits c ls ops behind return s h k = carry_fits ls ops (length ls - 1) (leaps (length ls - 1) no_more) tt
  plain_fits c ls ops behind unreachable s h k = tt
  plain_fits c ls ops behind (call x) s h k = ((tt, tt), k)
  plain_fits c ls ops behind (call_indirect x) s h k = ((tt, tt), k)

  pub flat_fits : (c : Around) (ls : List (Option ValType)) (code : Code) (ops : List ValType) → BasicsFit code → StmtsBasic (flat n c ls code ops)
  unfolding flat
  flat_fits c ls done ops h = carry_fits ls ops 0 no_more tt
  flat_fits c ls (plain p rest) ops h = plain_fits c ls ops (after (sig c ls p) ops) p (flat n c ls rest (after (sig c ls p) ops)) h.0 (flat_fits c ls rest (after (sig c ls p) ops) h.1)
  flat_fits c ls (nest s r body rest) ops h =
      (flat_fits c (label s r ∷ ls) body ops h.0, arrived (length ls) (label s r) ops (flat n c ls rest (listed r ++ ops)) (flat_fits c ls rest (listed r ++ ops) h.1))
  flat_fits c ls (branch r a b rest) ops h = (
    tt,
    flat_fits c (r ∷ ls) a (drop 1 ops) h.0,
    flat_fits c (r ∷ ls) b (drop 1 ops) h.1,
    arrived (length ls) r (drop 1 ops) (flat n c ls rest (listed r ++ drop 1 ops)) (flat_fits c ls rest (listed r ++ drop 1 ops) h.2),
  )

-- ---- code of statements

pub got_fits : (o : Operand) (rest : Code) → OperandFits o → BasicsFit rest → BasicsFit (got o rest)
got_fits (Local x) rest h k = (tt, k)
got_fits (Const v) rest h k = (h, k)

all_got_fit : (os : List Operand) (rest : Code) → OperandsFit os → BasicsFit rest → BasicsFit (all_got os rest)
all_got_fit [] rest h k = k
all_got_fit (o ∷ os) rest h k = got_fits o (all_got os rest) h.0 (all_got_fit os rest h.1 k)

set_fits : (to : Option ℕ) (rest : Code) → BasicsFit rest → BasicsFit (set_to to rest)
set_fits None rest h = h
set_fits (Some x) rest h = (tt, h)

slots_fit : (xs : List ℕ) (rest : Code) → BasicsFit rest → BasicsFit (slots_got xs rest)
slots_fit [] rest h = h
slots_fit (x ∷ xs) rest h = (tt, slots_fit xs rest h)

pub result_fits : (r : Option ℕ) → BasicsFit (result_got r)
result_fits None = tt
result_fits (Some x) = (tt, tt)

code_fits : (s : Stmts) → StmtsBasic s → BasicsFit (code_of s)
unfolding code_of
code_fits no_more h = tt
code_fits (computes op args to rest) h = all_got_fit args _ h.1 (followed_fits op _ h.0 (set_fits to (code_of rest) (code_fits rest h.2)))
code_fits (copies to from rest) h = got_fits from _ h.0 (tt, code_fits rest h.1)
code_fits (calls op stack args to rest) h = slots_fit (last_of args stack) _ (followed_fits op _ h.0 (set_fits to (code_of rest) (code_fits rest h.1)))
code_fits (leaps l rest) h = (tt, code_fits rest h)
code_fits (leaps_if c l rest) h = got_fits c _ h.0 (tt, code_fits rest h.1)
code_fits (leaps_by o ls l rest) h = got_fits o _ h.0 (tt, code_fits rest h.1)
code_fits (nests s body rest) h = (code_fits body h.0, code_fits rest h.1)
code_fits (decides c a b rest) h = got_fits c _ h.0 (code_fits a h.1, code_fits b h.2, code_fits rest h.3)
code_fits (halts rest) h = (tt, code_fits rest h)

-- ---- pieces

-- where one is got, it does
abbrev pub AnyFits : Option Operand → Type 0
AnyFits None = Unit {0}
AnyFits (Some o) = OperandFits o

any_fits : (o : Option Operand) (rest : Code) → AnyFits o → BasicsFit rest → BasicsFit (got_any o rest)
any_fits None rest h k = k
any_fits (Some o) rest h k = got_fits o rest h k

-- the same of units
abbrev pub UnitsBasic : Units → Type 0
UnitsBasic no_unit = Unit {0}
UnitsBasic (call_unit xs x to behind rest) = BasicsFit behind × UnitsBasic rest
UnitsBasic (nest_unit s first body behind rest) = BasicsFit first × UnitsBasic body × BasicsFit behind × UnitsBasic rest
UnitsBasic (if_unit c fa a fb b behind rest) = AnyFits c × BasicsFit fa × UnitsBasic a × BasicsFit fb × UnitsBasic b × BasicsFit behind × UnitsBasic rest

module _ (ps : List ℕ) where
  piece_call_fits : (o : Option Callee) (code : Code) → BasicsFit code → BasicsFit (piece_call o code)
  piece_call_fits None code h = h
  piece_call_fits (Some x) code h = tt

  either_code : (b : Bool) (x y : Code) → BasicsFit x → BasicsFit y → BasicsFit (if b then x else y)
  either_code true x y h k = h
  either_code false x y h k = k

  either_units : (b : Bool) (x y : Units) → UnitsBasic x → UnitsBasic y → UnitsBasic (if b then x else y)
  either_units true x y h k = h
  either_units false x y h k = k

  pub first_fits : (n : ℕ) (s : Stmts) → StmtsBasic s → BasicsFit (first_piece ps n s)
  first_fits n no_more h = tt
  first_fits n (computes op args to rest) h = all_got_fit args _ h.1 (followed_fits op _ h.0 (set_fits to (first_piece ps n rest) (first_fits n rest h.2)))
  first_fits n (copies to from rest) h = got_fits from _ h.0 (tt, first_fits n rest h.1)
  first_fits n (calls op stack args to rest) h =
      piece_call_fits (numbered ps n op) _ (slots_fit (last_of args stack) _ (followed_fits op _ h.0 (set_fits to (first_piece ps (suc n) rest) (first_fits (suc n) rest h.1))))
  first_fits n (leaps l rest) h = (tt, first_fits n rest h)
  first_fits n (leaps_if c l rest) h = got_fits c _ h.0 (tt, first_fits n rest h.1)
  first_fits n (leaps_by o ls l rest) h = got_fits o _ h.0 (tt, first_fits n rest h.1)
  first_fits n (nests s body rest) h =
      either_code (holds_call ps n body) done _ tt (code_fits body h.0, first_fits (n + call_total body) rest h.1)
  first_fits n (decides c a b rest) h =
      either_code _ done _ tt (got_fits c _ h.0 (code_fits a h.1, code_fits b h.2, first_fits (n + call_total a + call_total b) rest h.3))
  first_fits n (halts rest) h = (tt, first_fits n rest h)

  unit_call_fits : (o : Option Callee) (xs : List ℕ) (to : Option ℕ) (behind : Code) (rest : Units) → BasicsFit behind → UnitsBasic rest → UnitsBasic (unit_call o xs to behind rest)
  unit_call_fits None xs to behind rest h k = k
  unit_call_fits (Some x) xs to behind rest h k = (h, k)

  pub units_fit : (n : ℕ) (s : Stmts) → StmtsBasic s → UnitsBasic (units ps n s)
  units_fit n no_more h = tt
  units_fit n (computes op args to rest) h = units_fit n rest h.2
  units_fit n (copies to from rest) h = units_fit n rest h.1
  units_fit n (calls op stack args to rest) h =
      unit_call_fits (numbered ps n op) (last_of args stack) to (first_piece ps (suc n) rest) (units ps (suc n) rest) (first_fits (suc n) rest h.1) (units_fit (suc n) rest h.1)
  units_fit n (leaps l rest) h = units_fit n rest h
  units_fit n (leaps_if c l rest) h = units_fit n rest h.1
  units_fit n (leaps_by o ls l rest) h = units_fit n rest h.1
  units_fit n (nests y body rest) h =
      either_units (holds_call ps n body)
      (nest_unit y (first_piece ps n body) (units ps n body) (first_piece ps (n + call_total body) rest) (units ps (n + call_total body) rest))
      (units ps (n + call_total body) rest)
      (first_fits n body h.0, units_fit n body h.0, first_fits (n + call_total body) rest h.1, units_fit (n + call_total body) rest h.1)
      (units_fit (n + call_total body) rest h.1)
  units_fit n (decides c a b rest) h =
      let behind : ℕ = n + call_total a + call_total b in
      either_units (holds_call ps n a || holds_call ps (n + call_total a) b)
      (if_unit (Some c) (first_piece ps n a) (units ps n a) (first_piece ps (n + call_total a) b) (units ps (n + call_total a) b) (first_piece ps behind rest) (units ps behind rest))
      (units ps behind rest)
      (h.0, first_fits n a h.1, units_fit n a h.1, first_fits (n + call_total a) b h.2, units_fit (n + call_total a) b h.2, first_fits behind rest h.3, units_fit behind rest h.3)
      (units_fit behind rest h.3)
  units_fit n (halts rest) h = units_fit n rest h

-- ---- guarded code

raised_fits : (d n : ℕ) (c : Code) → BasicsFit c → BasicsFit (raised d n c)
raised_fits d n done h = tt
raised_fits d n (plain p rest) h = (one p h.0, raised_fits d n rest h.1)
  where
    one : (p : Plain) → PlainBasic p → PlainBasic (raised_plain d n p)
    one (basic b) h = h
    one (local_get x) h = tt
    one (local_set x) h = tt
    one (local_tee x) h = tt
    one (br l) h = tt
    one (br_if l) h = tt
    one (br_table ls l) h = tt
    one return h = tt
    one unreachable h = tt
    one (call x) h = tt
    one (call_indirect x) h = tt
raised_fits d n (nest s r body rest) h = (raised_fits (suc d) n body h.0, raised_fits d n rest h.1)
raised_fits d n (branch r a b rest) h = (raised_fits (suc d) n a h.0, raised_fits (suc d) n b h.1, raised_fits d n rest h.2)

module _ (i : GuardIndices) (small : i.state < 2 ^ 32) where
  guarded_fits : (c next : Code) → BasicsFit c → BasicsFit next → BasicsFit (guarded i c next)
  guarded_fits done next h k = k
  guarded_fits (plain p rest) next h k = (small, (tt, raised_fits 0 1 (plain p rest) h, k))
  guarded_fits (nest s r body rest) next h k = (small, (tt, raised_fits 0 1 (nest s r body rest) h, k))
  guarded_fits (branch r a b rest) next h k = (small, (tt, raised_fits 0 1 (branch r a b rest) h, k))

  sought_fits : (label by k : ℕ) (first next : Code) → k < 2 ^ 32 → BasicsFit first → BasicsFit next → BasicsFit (sought i label by k first next)
  sought_fits label by k first next l h g = (small, ((tt, (l, (tt, (tt, tt)))), raised_fits 0 by first h, g))

  noted_fits : (label k : ℕ) (next : Code) → k < 2 ^ 32 → BasicsFit next → BasicsFit (noted i label k next)
  noted_fits label k next l h = index_fits i.first_unnoted k l (small, (tt, h))
    where
      index_fits : (unnoted : Bool) (k : ℕ) → k < 2 ^ 32 → BasicsFit (plain (basic (global_get i.state)) (plain (br_if label) next))
          → BasicsFit (index_noted unnoted i.index k (plain (basic (global_get i.state)) (plain (br_if label) next)))
      index_fits true zero l g = g
      index_fits true (suc k) l g = (l, (tt, g))
      index_fits false k l g = (l, (tt, g))

  last_fits : (e : Exit) (c : Code) → BasicsFit c → BasicsFit (last_piece i e c)
  last_fits its_end c h = guarded_fits c done h tt
  last_fits (by_label l) c h = h
  last_fits nowhere c h = h
  last_fits function_end c h = followed_fits c (plain return done) h (tt, tt)

  ends_fit : (e : Exit) (own : Bool) (c : Code) → BasicsFit c → BasicsFit (ends_too e own c)
  ends_fit e true c h = h
  ends_fit its_end false c h = h
  ends_fit (by_label l) false c h = h
  ends_fit nowhere false c h = h
  ends_fit function_end false c h = followed_fits c (plain return done) h (tt, tt)

  call_fits : (e : Exit) (any : Bool) (k : ℕ) (first : Code) (call_of : Bool → Code) (next : Code) → k < 2 ^ 32 → BasicsFit first → ((own : Bool) → BasicsFit (call_of own)) → BasicsFit next
      → BasicsFit (call_front i e any k first call_of next)
  call_fits its_end any k first call_of next l h c g = (sought_fits 1 2 k first (call_of true) l h (c true), g)
  call_fits (by_label label) true k first call_of next l h c g = (sought_fits 1 2 k first (call_of true) l h (c true), g)
  call_fits (by_label label) false k first call_of next l h c g = sought_fits (suc label) 1 k first (call_of false) l h (c false)
  call_fits nowhere true k first call_of next l h c g = (sought_fits 1 2 k first (call_of true) l h (c true), g)
  call_fits nowhere false k first call_of next l h c g = guarded_fits first (call_of false) h (c false)
  call_fits function_end true k first call_of next l h c g = (sought_fits 1 2 k first (call_of true) l h (c true), g)
  call_fits function_end false k first call_of next l h c g = guarded_fits first (call_of false) h (c false)

  choice_fits : (k : ℕ) (a b : Units) → k + numbers_in a < 2 ^ 32 → BasicsFit (choice i k a b)
  choice_fits k a no_unit l = (omega arith, tt)
  choice_fits k no_unit (call_unit xs x to behind rest) l = (omega arith, tt)
  choice_fits k no_unit (nest_unit s first body behind rest) l = (omega arith, tt)
  choice_fits k no_unit (if_unit c fa a fb b behind rest) l = (omega arith, tt)
  choice_fits k (call_unit xs x to behind rest) (call_unit ys y too behind' rest') l = (tt, (l, (tt, tt)))
  choice_fits k (call_unit xs x to behind rest) (nest_unit s' first' body' behind' rest') l = (tt, (l, (tt, tt)))
  choice_fits k (call_unit xs x to behind rest) (if_unit c' fa' a' fb' b' behind' rest') l = (tt, (l, (tt, tt)))
  choice_fits k (nest_unit s first body behind rest) (call_unit ys y too behind' rest') l = (tt, (l, (tt, tt)))
  choice_fits k (nest_unit s first body behind rest) (nest_unit s' first' body' behind' rest') l = (tt, (l, (tt, tt)))
  choice_fits k (nest_unit s first body behind rest) (if_unit c' fa' a' fb' b' behind' rest') l = (tt, (l, (tt, tt)))
  choice_fits k (if_unit c fa a fb b behind rest) (call_unit ys y too behind' rest') l = (tt, (l, (tt, tt)))
  choice_fits k (if_unit c fa a fb b behind rest) (nest_unit s' first' body' behind' rest') l = (tt, (l, (tt, tt)))
  choice_fits k (if_unit c fa a fb b behind rest) (if_unit c' fa' a' fb' b' behind' rest') l = (tt, (l, (tt, tt)))

  arm_fits : (us : Units) (first code : Code) → BasicsFit first → BasicsFit code → BasicsFit (arm us first code)
  arm_fits no_unit first code h k = h
  arm_fits (call_unit xs x to behind rest) first code h k = k
  arm_fits (nest_unit s inner body behind rest) first code h k = k
  arm_fits (if_unit c fa a fb b behind rest) first code h k = k

  call_basic : (x : Callee) → PlainBasic (call_to x)
  call_basic (direct x) = tt
  call_basic (indirect sort) = tt

  called_fits : (e : Exit) (own : Bool) (d k : ℕ) (xs : List ℕ) (x : Callee) (to : Option ℕ) (behind : Code) → k < 2 ^ 32 → BasicsFit behind
      → BasicsFit (call_guarded i e own d k xs x to behind)
  called_fits e own d k xs x to behind l h =
      let ended : Code = ends_too e own (raised 0 (one_more own 0) behind) in
      slots_fit xs _ (call_basic x, noted_fits (one_more own d) k _ l (set_fits to ended (ends_fit e own (raised 0 (one_more own 0) behind) (raised_fits 0 (one_more own 0) behind h))))

  pub front_fits : (e : Exit) (d k : ℕ) (first : Code) (us : Units) → k + numbers_in us < 2 ^ 32 → BasicsFit first → UnitsBasic us → BasicsFit (front i e d k first us)
  front_fits e d k first no_unit l h u = last_fits e first h
  front_fits e d k first (call_unit xs x to behind rest) l h u =
      call_fits e (any_unit rest) k first (λ own. call_guarded i e own d k xs x to behind) (front i e d (suc k) done rest) (omega (arith, l)) h
      (λ own. called_fits e own d k xs x to behind (omega (arith, l)) u.0)
      (front_fits e d (suc k) done rest (omega (arith, l)) tt u.1)
  front_fits e d k first (nest_unit s inner body behind rest) l h u =
      guarded_fits first _ h
      (front_fits (exit_inside e s (any_unit rest)) (suc d) k inner body (omega (arith, l)) u.0 u.1, front_fits e d (k + numbers_in body) behind rest (omega (arith, l)) u.2 u.3)
  front_fits e d k first (if_unit c fa a fb b behind rest) l h u = (
    small,
    (
      choice_fits k a b (omega (arith, l)),
      raised_fits 0 1 (followed_by first (got_any c done)) (followed_fits first (got_any c done) h (any_fits c done u.0 tt)),
      (
        arm_fits a fa _ u.1 (front_fits (exit_inside e a_block (any_unit rest)) (suc d) k fa a (omega (arith, l)) u.1 u.2),
        arm_fits b fb _ u.3 (front_fits (exit_inside e a_block (any_unit rest)) (suc d) (k + numbers_in a) fb b (omega (arith, l)) u.3 u.4),
        front_fits e d (k + numbers_in a + numbers_in b) behind rest (omega (arith, l)) u.5 u.6,
      ),
    ),
  )

  -- a sequence that a function begins with
  module _ (h : Code → Code) (fits : (c : Code) → BasicsFit c → BasicsFit (h c)) where
    restoring_alone : (first next : Code) → BasicsFit first → BasicsFit next → BasicsFit (by_state i.state (h done) (raised 0 1 first) next)
    restoring_alone first next f g = (small, (fits done tt, raised_fits 0 1 first f, g))

    sought_first_fits : (label by k : ℕ) (first next : Code) → k < 2 ^ 32 → BasicsFit first → BasicsFit next → BasicsFit (sought_first i h label by k first next)
    sought_first_fits label by k first next l f g =
        (small, (fits (index_with i (basic (num I32Ne)) k (plain (br_if label) done)) (tt, (l, (tt, (tt, tt)))), raised_fits 0 by first f, g))

    call_entry_fits : (e : Exit) (any : Bool) (k : ℕ) (first : Code) (call_of : Bool → Code) (next : Code) → k < 2 ^ 32 → BasicsFit first → ((own : Bool) → BasicsFit (call_of own)) → BasicsFit next
        → BasicsFit (call_entry i h e any k first call_of next)
    call_entry_fits its_end any k first call_of next l f c g = (sought_first_fits 1 2 k first (call_of true) l f (c true), g)
    call_entry_fits (by_label label) true k first call_of next l f c g = (sought_first_fits 1 2 k first (call_of true) l f (c true), g)
    call_entry_fits (by_label label) false k first call_of next l f c g = sought_first_fits (suc label) 1 k first (call_of false) l f (c false)
    call_entry_fits nowhere true k first call_of next l f c g = (sought_first_fits 1 2 k first (call_of true) l f (c true), g)
    call_entry_fits nowhere false k first call_of next l f c g = restoring_alone first (call_of false) f (c false)
    call_entry_fits function_end true k first call_of next l f c g = (sought_first_fits 1 2 k first (call_of true) l f (c true), g)
    call_entry_fits function_end false k first call_of next l f c g = restoring_alone first (call_of false) f (c false)

    entry_fits : (e : Exit) (d k : ℕ) (first : Code) (us : Units) → k + numbers_in us < 2 ^ 32 → BasicsFit first → UnitsBasic us → BasicsFit (entry i h e d k first us)
    entry_fits e d k first no_unit l f u = restoring_alone done (last_piece i e first) tt (last_fits e first f)
    entry_fits e d k first (call_unit xs x to behind rest) l f u =
        call_entry_fits e (any_unit rest) k first (λ own. call_guarded i e own d k xs x to behind) (front i e d (suc k) done rest) (omega (arith, l)) f
        (λ own. called_fits e own d k xs x to behind (omega (arith, l)) u.0)
        (front_fits e d (suc k) done rest (omega (arith, l)) tt u.1)
    entry_fits e d k done (nest_unit a_block inner body behind rest) l f u =
        (entry_fits (exit_inside e a_block (any_unit rest)) (suc d) k inner body (omega (arith, l)) u.0 u.1, front_fits e d (k + numbers_in body) behind rest (omega (arith, l)) u.2 u.3)
    entry_fits e d k done (nest_unit a_loop inner body behind rest) l f u =
        restoring_alone done (front i e d k done (nest_unit a_loop inner body behind rest)) tt (front_fits e d k done (nest_unit a_loop inner body behind rest) l tt u)
    entry_fits e d k (plain p c) (nest_unit s inner body behind rest) l f u =
        restoring_alone (plain p c) (front i e d k done (nest_unit s inner body behind rest)) f (front_fits e d k done (nest_unit s inner body behind rest) l tt u)
    entry_fits e d k (nest t r y c) (nest_unit s inner body behind rest) l f u =
        restoring_alone (nest t r y c) (front i e d k done (nest_unit s inner body behind rest)) f (front_fits e d k done (nest_unit s inner body behind rest) l tt u)
    entry_fits e d k (branch r y z c) (nest_unit s inner body behind rest) l f u =
        restoring_alone (branch r y z c) (front i e d k done (nest_unit s inner body behind rest)) f (front_fits e d k done (nest_unit s inner body behind rest) l tt u)
    entry_fits e d k first (if_unit c fa a fb b behind rest) l f u =
        let whole = front_fits e d k first (if_unit c fa a fb b behind rest) l f u in
        (small, (fits (choice i k a b) (choice_fits k a b (omega (arith, l))), (whole.1).1, (whole.1).2))

    -- the body of a function, of which this is the own block
    pub body_fits : (first : Code) (us : Units) (result : Option ℕ) → numbers_in us < 2 ^ 32 → BasicsFit first → UnitsBasic us → BasicsFit (guarded_body i h done (block_unit first us result))
    body_fits first us result l f u = entry_fits function_end 0 0 done (block_unit first us result) (omega (arith, l)) tt (f, u, result_fits result, tt)

-- a value for a result
pub result_value_fits : (t : Option ValType) → BasicsFit (value_code t)
result_value_fits None = tt
result_value_fits (Some I32) = (omega arith, tt)
result_value_fits (Some I64) = (omega arith, tt)

-- ---- frames

stored_fits : (t : ValType) (off : ℕ) (next : Code) → off < 2 ^ 32 → BasicsFit next → BasicsFit (stored_value t off next)
stored_fits I32 off next l h = ((refl, omega arith, l), h)
stored_fits I64 off next l h = ((refl, omega arith, l), h)

loaded_fits : (t : ValType) (off : ℕ) (next : Code) → off < 2 ^ 32 → BasicsFit next → BasicsFit (loaded_value t off next)
loaded_fits I32 off next l h = ((refl, omega arith, l), h)
loaded_fits I64 off next l h = ((refl, omega arith, l), h)

stores_fit : (sp off : ℕ) (fields : List FrameField) (next : Code) → off + fields_size fields < 2 ^ 32 → BasicsFit next → BasicsFit (locals_stored sp (placed off fields) next)
stores_fit sp off [] next l h = h
stores_fit sp off (kept x t ∷ fields) next l h = (tt, (tt, stored_fits t off _ (omega (arith, l)) (stores_fit sp (off + width t) fields next (omega (arith, l)) h)))
stores_fit sp off (gap t ∷ fields) next l h = stores_fit sp (off + width t) fields next (omega (arith, l)) h

loads_fit : (sp off : ℕ) (fields : List FrameField) (next : Code) → off + fields_size fields < 2 ^ 32 → BasicsFit next → BasicsFit (locals_loaded sp (placed off fields) next)
loads_fit sp off [] next l h = h
loads_fit sp off (kept x t ∷ fields) next l h = (tt, loaded_fits t off _ (omega (arith, l)) (tt, loads_fit sp (off + width t) fields next (omega (arith, l)) h))
loads_fit sp off (gap t ∷ fields) next l h = loads_fit sp (off + width t) fields next (omega (arith, l)) h

module _ (l : Layout) (address : l.address < 2 ^ 32) (few : fields_size l.fields + 4 < 2 ^ 32) where
  zero_small : 0 < 2 ^ 32
  zero_small = omega arith

  location_fits : (next : Code) → BasicsFit next → BasicsFit (Spilling.location_of l.address next)
  location_fits next h = (address, ((refl, omega arith, omega arith), h))

  abbrev size : ℕ
  size = fields_size l.fields

  abbrev raising : Code
  raising = Spilling.location_raised l.address l.scratch (size + 4) done

  abbrev indexing : Code
  indexing = Spilling.index_saved l.index l.scratch size raising

  abbrev storing : Code
  storing = locals_stored l.scratch (placed 0 l.fields) indexing

  raising_fits : BasicsFit raising
  raising_fits = (address, (tt, (few, (tt, stored_fits I32 0 done zero_small tt))))

  indexing_fits : BasicsFit indexing
  indexing_fits = (tt, (tt, stored_fits I32 size raising (omega (arith, few)) raising_fits))

  storing_fits : BasicsFit storing
  storing_fits = stores_fit l.scratch 0 l.fields indexing (omega (arith, few)) indexing_fits

  abbrev testing : Code
  testing = plain (local_tee l.scratch) (plain (basic (num I32Sub)) (plain (basic (const (V.I32 (size + 4)))) (plain (basic (num I32LtU)) (branch None (plain unreachable done) done storing))))

  testing_fits : BasicsFit testing
  testing_fits = (tt, (tt, (few, (tt, ((tt, tt), tt, storing_fits)))))

  pub save_fits : BasicsFit (save_code l done)
  save_fits = (address, ((refl, omega arith, omega arith), location_fits testing testing_fits))

  abbrev indexed : Code
  indexed = Spilling.index_restored l.index l.scratch size done

  abbrev loading : Code
  loading = locals_loaded l.scratch (placed 0 l.fields) indexed

  indexed_fits : BasicsFit indexed
  indexed_fits = (tt, loaded_fits I32 size (plain (local_set l.index) done) (omega (arith, few)) (tt, tt))

  loading_fits : BasicsFit loading
  loading_fits = loads_fit l.scratch 0 l.fields indexed (omega (arith, few)) indexed_fits

  abbrev taking : Code
  taking = plain (basic (const (V.I32 (size + 4)))) (plain (basic (num I32Sub)) (plain (local_tee l.scratch) (stored_value I32 0 loading)))

  taking_fits : BasicsFit taking
  taking_fits = (few, (tt, (tt, stored_fits I32 0 loading zero_small loading_fits)))

  pub restore_fits : BasicsFit (restore_code l done)
  restore_fits = (address, location_fits taking taking_fits)
