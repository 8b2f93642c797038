-- Where flattening stands in a body, and the statements that it puts.
use Rattle.std.specs.Prelude.{◌≡◌, ℕ, suc, ◌<◌, ◌≤◌, ◌^◌, ◌++◌, zero, List, [], ◌∷◌, length, reverse, drop as without, Option, Some, None, Bool, true, false, slice_get}
use Rattle.wa_types.specs.declared.values.ValType.{ValType}
use Rattle.wa_types.specs.declared.instrs.Instr.{Instr}
use Rattle.wa_types.specs.declared.instrs.Instr.TheVariants.{Nop, Drop, Select, MemorySize, MemoryGrow, MemoryCopy, MemoryFill, Const, Num, GlobalGet, GlobalSet, Load, Store}
use Rattle.wa_types.specs.Syntax.{Basic, nop, drop, select, const, num, global_get, global_set, load, store, memory_size, memory_grow, memory_copy, memory_fill, Plain, Code, done, plain, FuncType, a_block, a_loop}
use Rattle.wa_types.specs.View.{in_front}
use Rattle.wa_types.specs.Typing.{Around, listed, sig, Takes, Types}
use Rattle.wa_types.specs.Pruned.{is_last}
use Rattle.wa_types.specs.Modules.{or_empty}
use Rattle.wasm_validate.specs.Walk.{Walk, Stays}
use Rattle.wa_model.specs.declared.flat.Stmt.{Stmt}
use Rattle.wa_model.specs.declared.flat.Operand.TheVariants.{Local}
use Rattle.run_theory.specs.Flat.{Stmts, no_more, copies, calls, nests, decides}
use Rattle.run_theory.specs.FlatView.{stmt_in_front, stmts}
use Rattle.flat_laws.specs.Flatten.{Names, slots, top_of, arrive, result_local, flat, flat_plain}
use Rattle.flatten.specs.declared.position.Position.{Position}
use Rattle.flatten.specs.Numbers.{bit}

-- a list of statements, and then others
unfoldable pub onto_stmts : List Stmt → Stmts → Stmts
onto_stmts [] rest = rest
onto_stmts (i ∷ is) rest = stmt_in_front i (onto_stmts is rest)

-- the types of all operands, the topmost first
abbrev pub all_of : Walk → List ValType
all_of w = w.own ++ w.under

-- the result local of a construct at a depth, where it has a result
abbrev pub result_at : Names → (depth : ℕ) → Option ValType → Option ℕ
result_at n d None = None
result_at n d (Some t) = Some (result_local n d t)

-- the result locals of labels, the innermost first
abbrev pub label_locals : Names → List (Option ValType) → List (Option ℕ)
label_locals n [] = []
label_locals n (r ∷ ls) = result_at n (length ls) r ∷ label_locals n ls

-- The slots are those of the operands, and the locals those of the labels.
pub record Ready (n : Names) (p : Position) : Type 0 where
  pub held : reverse p.slots.items ≡ slots n (all_of p.typing)
  pub labels : reverse p.labels.items ≡ label_locals n p.typing.labels

-- All operands but the topmost have their slots.
abbrev pub HoldsBelow : Names → Position → Type 0
HoldsBelow n p = (t : ValType) × (rest : List ValType) × (all_of p.typing ≡ t ∷ rest) × (reverse p.slots.items ≡ slots n rest)

-- the flat statements of code where a walk stands
abbrev pub flat_at : Names → Walk → Code → Stmts
flat_at n w code = flat n w.around w.labels code (all_of w)

-- The statements of an instruction are put, and both walks go behind it.
pub record Put (n : Names) (v w : Position) (i : Instr) (old new : List Stmt) : Type 0 where
  pub ready : Ready n w
  pub stays : Stays v.typing w.typing
  pub typed : Types v.typing.around v.typing.labels (in_front i done) w.typing.own v.typing.own
  pub emits : (rest : Code) → onto_stmts new (flat_at n w.typing rest) ≡ onto_stmts old (flat_at n v.typing (in_front i rest))

-- The statements of an instruction are put behind which control never goes on.
abbrev pub PutLast : Names → Position → Instr → (old new : List Stmt) → Type 0
PutLast n v i old new = (rest : Code) → onto_stmts new no_more ≡ onto_stmts old (flat_at n v.typing (in_front i rest))

-- a branch to a label with this local carries the operand of this slot there
abbrev pub carried_to : Option (Option ℕ) → (from : ℕ) → Stmts → Stmts
carried_to (Some (Some to)) from rest = copies to (Local from) rest
carried_to _ from rest = rest

-- What the statements of calls need of the function types around: a parameter count that a u32 holds with one more, and one result
-- at most.
pub record SmallType (t : FuncType) : Type 0 where
  pub params : length t.params < 2 ^ 31
  pub results : length t.results ≤ 1

-- All function types around are such.
pub record SmallTypes (c : Around) : Type 0 where
  pub funcs : (x : ℕ) → SmallType (or_empty (slice_get c.funcs x))
  pub sorts : (x : ℕ) → SmallType (or_empty (slice_get c.types x))

-- the same of each of these labels
abbrev pub all_carried : List (Option ℕ) → (targets : List ℕ) → (from : ℕ) → Stmts → Stmts
all_carried locals [] from rest = rest
all_carried locals (l ∷ targets) from rest = carried_to (slice_get locals l) from (all_carried locals targets from rest)

-- the first of a list, else 0
abbrev pub first_or : List ℕ → ℕ
first_or [] = 0
first_or (x ∷ xs) = x

-- All operands have their slots, but for a result that an instruction has just given.
abbrev pub HoldsBut : Bool → Names → Position → Type 0
HoldsBut true n p = HoldsBelow n p
HoldsBut false n p = reverse p.slots.items ≡ slots n (all_of p.typing)

-- an instruction that takes no part in control and accesses no local
unfoldable pub basic_of : Instr → Option Basic
basic_of Nop = Some nop
basic_of Drop = Some drop
basic_of Select = Some select
basic_of MemorySize = Some memory_size
basic_of MemoryGrow = Some memory_grow
basic_of MemoryCopy = Some memory_copy
basic_of MemoryFill = Some memory_fill
basic_of (Const v) = Some (const v)
basic_of (Num op) = Some (num op)
basic_of (GlobalGet x) = Some (global_get x)
basic_of (GlobalSet x) = Some (global_set x)
basic_of (Load op align offset) = Some (load op align offset)
basic_of (Store op align offset) = Some (store op align offset)
basic_of _ = None

-- at most one is given in front of these
abbrev pub Given : ℕ → (all rest : List ValType) → Type 0
Given zero all rest = all ≡ rest
Given (suc k) all rest = (t : ValType) × (all ≡ t ∷ rest)

-- so many operands are there, and at most one stands in front of the others afterwards
pub record Changed (k given : ℕ) (all new : List ValType) : Type 0 where
  pub there : k ≤ length all
  pub then_all : Given given new (without k all)

-- What a call takes of the operands where a walk stands, so many, and whether it has a result; and the statement that it is.
pub record CallAt (n : Names) (v : Walk) (i : Instr) (taken : ℕ) (given : Bool) : Type 0 where
  pub call : Plain
  pub is : (rest : Code) → in_front i rest ≡ plain call rest
  pub goes_on : is_last call ≡ false
  pub there : taken ≤ length (all_of v)
  pub changed : (mids : List ValType) → Takes (sig v.around v.labels call) v.own mids → Changed taken (bit given) (all_of v) (mids ++ v.under)
  pub flat_is : (behind : List ValType) (rest : Stmts) → flat_plain n v.around v.labels (all_of v) behind call rest
      ≡ calls (plain call done) (reverse (slots n (all_of v))) taken (top_of n (bit given) behind) rest

-- ---- constructs

-- Behind a construct with this result: all operands but the result have their slots.
abbrev pub ArrivesAt : Names → Option ValType → Position → Type 0
ArrivesAt n given p = (rest : List ValType) × (all_of p.typing ≡ listed given ++ rest) × (reverse p.slots.items ≡ slots n rest)

-- the result has its slot too, and nothing else changed
pub record HeldToo (n : Names) (p q : Position) : Type 0 where
  pub typing : q.typing ≡ p.typing
  pub labels : q.labels.items ≡ p.labels.items
  pub held : reverse q.slots.items ≡ slots n (all_of p.typing)

-- what goes behind a construct is put
pub record Closed (n : Names) (given : Option ValType) (p q : Position) (old new : List Stmt) : Type 0 where
  pub now : HeldToo n p q
  pub puts : (rest : List ValType) (k : Stmts) → all_of p.typing ≡ listed given ++ rest → onto_stmts new k ≡ onto_stmts old (arrive n (length p.labels.items) given rest k)

-- a block is put, and what goes behind it
pub record PutBlock (n : Names) (given : Option ValType) (inner : List Stmt) (p q : Position) (old new : List Stmt) : Type 0 where
  pub now : HeldToo n p q
  pub puts : (rest : List ValType) (k : Stmts) → all_of p.typing ≡ listed given ++ rest
      → onto_stmts new k ≡ onto_stmts old (nests a_block (stmts inner) (arrive n (length p.labels.items) given rest k))

-- a loop is put
pub record PutLoop (n : Names) (inner : List Stmt) (p q : Position) (old new : List Stmt) : Type 0 where
  pub now : HeldToo n p q
  pub puts : (k : Stmts) → onto_stmts new k ≡ onto_stmts old (nests a_loop (stmts inner) k)

-- an if is put, and what goes behind it
pub record PutIf (n : Names) (given : Option ValType) (condition : ℕ) (then_arm else_arm : List Stmt) (p q : Position) (old new : List Stmt) : Type 0 where
  pub now : HeldToo n p q
  pub puts : (rest : List ValType) (k : Stmts) → all_of p.typing ≡ listed given ++ rest
      → onto_stmts new k ≡ onto_stmts old (decides (Local condition) (stmts then_arm) (stmts else_arm) (arrive n (length p.labels.items) given rest k))
