-- The types of code (standard, section 3.3).
use Rattle.std.specs.Prelude.{◌≡◌, ℕ, nat_lt, nat_le, ◌++◌, reverse, length, List, [], ◌∷◌, Option, Some, None, Bool, true, false, ◌&&◌, slice_get, if◌then◌else◌}
use Rattle.wa_types.specs.declared.values.ValType.{ValType}
use Rattle.wa_types.specs.declared.values.ValType.TheVariants.{I32, I64}
use Rattle.wa_types.specs.declared.values.Value.{Value}
use Rattle.wa_types.specs.declared.values.Value.TheVariants.{I32 as value_32, I64 as value_64}
use Rattle.wa_types.specs.Operators.{operand_types, result_type}
use Rattle.wa_types.specs.Accesses.{AccessRow, load_row, store_row}
use Rattle.wa_types.specs.Encoding.{same_type}
use Rattle.wa_types.specs.declared.rules.Rule.{Rule}
use Rattle.wa_types.specs.declared.rules.Rule.TheVariants.{UnknownType, UnknownFunc, UnknownTable, UnknownMemory, UnknownGlobal, UnknownLocal, UnknownLabel, StackTypes, Alignment, ConstantGlobal}
use Rattle.wa_types.specs.Syntax.{Basic, nop, drop, select, const, num, global_get, global_set, load, store, memory_size, memory_grow, memory_copy, memory_fill, Plain, basic, local_get, local_set, local_tee, br}
use Rattle.wa_types.specs.Syntax.{br_if, br_table, return, unreachable, call, call_indirect, Shape, a_block, a_loop, Code, done, plain, nest, branch, FuncType}

-- A global type (2.3.7).
pub record GlobalType : Type 0 where
  pub ty : ValType
  pub mutable : Bool

-- The context of a body (3.1.1): types, functions and globals by index; whether there is a table, a memory; locals, parameters first; the result.
pub record Around : Type 0 where
  pub types : List FuncType
  pub funcs : List FuncType
  pub table : Bool
  pub memory : Bool
  pub globals : List GlobalType
  pub locals : List ValType
  pub result : Option ValType

-- What an instruction asks of the operands, the topmost first, and what it leaves (3.3).
pub data Sig : Type 0 where
  moves : (ins outs : List ValType) → Sig  -- takes these operands off and puts those on (3.3.1 to 3.3.5)
  leaves : (ins : List ValType) → Sig  -- takes these operands, and control never goes on behind it: what it leaves is arbitrary (3.3.5)
  drops : Sig  -- takes one operand of any type (3.3.2.1)
  selects : Sig  -- takes an i32 and two operands of one type, and puts one of this type on (3.3.2.2)
  lacks : (rule : Rule) → Sig  -- whatever the operands, this rule fails, which is at most that on operands (`Rules`)
  late : (rule : Rule) → (ins outs : List ValType) → Sig  -- asks for these operands, and then this rule fails, which is above that on operands

-- a result type, as the list of its types (2.3.2)
abbrev pub listed : Option ValType → List ValType
listed None = []
listed (Some t) = t ∷ []

-- the type of a value (4.2.1)
abbrev pub type_of : Value → ValType
type_of (value_32 n) = I32
type_of (value_64 n) = I64

-- two result types are one (2.3.2)
abbrev pub same_result : Option ValType → Option ValType → Bool
same_result None None = true
same_result (Some t) (Some u) = same_type t u
same_result _ _ = false

-- each label is there (3.3.5.8)
abbrev pub all_there : List (Option ValType) → List ℕ → Bool
all_there ls [] = true
all_there ls (l ∷ labels) = nat_lt l (length ls) && all_there ls labels

-- a label that is there takes this result (3.3.5.8)
abbrev pub agrees_with : Option ValType → Option (Option ValType) → Bool
agrees_with r None = false
agrees_with r (Some s) = same_result r s

-- each label takes this result (3.3.5.8)
abbrev pub all_alike : List (Option ValType) → Option ValType → List ℕ → Bool
all_alike ls r [] = true
all_alike ls r (l ∷ labels) = agrees_with r (slice_get ls l) && all_alike ls r labels

-- br (3.3.5.6)
abbrev pub jump : Option (Option ValType) → Sig
jump None = lacks UnknownLabel
jump (Some r) = leaves (listed r)

-- br_if (3.3.5.7)
abbrev pub may_jump : Option (Option ValType) → Sig
may_jump None = lacks UnknownLabel
may_jump (Some r) = moves (I32 ∷ listed r) (listed r)

-- br_table (3.3.5.8): all labels are there, and all take one result
abbrev pub jumps : List (Option ValType) → List ℕ → Option (Option ValType) → Sig
jumps ls labels None = lacks UnknownLabel
jumps ls labels (Some r) = if all_there ls labels then (if all_alike ls r labels then leaves (I32 ∷ listed r) else lacks StackTypes) else lacks UnknownLabel

-- call (3.3.5.10)
abbrev pub calls : Option FuncType → Sig
calls None = lacks UnknownFunc
calls (Some t) = moves (reverse t.params) (reverse t.results)

-- call_indirect (3.3.5.11)
abbrev pub calls_at : Bool → Option FuncType → Sig
calls_at table None = lacks UnknownType
calls_at false (Some t) = lacks UnknownTable
calls_at true (Some t) = moves (I32 ∷ reverse t.params) (reverse t.results)

-- local.get (3.3.3.1)
abbrev pub gets : Option ValType → Sig
gets None = lacks UnknownLocal
gets (Some t) = moves [] (t ∷ [])

-- local.set (3.3.3.2)
abbrev pub sets : Option ValType → Sig
sets None = lacks UnknownLocal
sets (Some t) = moves (t ∷ []) []

-- local.tee (3.3.3.3)
abbrev pub tees : Option ValType → Sig
tees None = lacks UnknownLocal
tees (Some t) = moves (t ∷ []) (t ∷ [])

-- global.get (3.3.3.4)
abbrev pub gets_global : Option GlobalType → Sig
gets_global None = lacks UnknownGlobal
gets_global (Some g) = moves [] (g.ty ∷ [])

-- global.set (3.3.3.5)
abbrev pub sets_global : Option GlobalType → Sig
sets_global None = lacks UnknownGlobal
sets_global (Some g) = if g.mutable then moves (g.ty ∷ []) [] else late ConstantGlobal (g.ty ∷ []) []

-- an access of this alignment, in a module with a memory (3.3.4.1 to 3.3.4.4)
abbrev pub accesses : ℕ → AccessRow → (ins outs : List ValType) → Sig
accesses align row ins outs = if nat_le align row.natural then moves ins outs else late Alignment ins outs

-- a load (3.3.4.1, 3.3.4.2); one whose opcode is none has no type
abbrev pub loads : Bool → ℕ → Option AccessRow → Sig
loads false align row = lacks UnknownMemory
loads true align None = lacks StackTypes
loads true align (Some row) = accesses align row (I32 ∷ []) (row.ty ∷ [])

-- a store (3.3.4.3, 3.3.4.4)
abbrev pub stores : Bool → ℕ → Option AccessRow → Sig
stores false align row = lacks UnknownMemory
stores true align None = lacks StackTypes
stores true align (Some row) = accesses align row (row.ty ∷ I32 ∷ []) []

-- what asks for a memory alone (3.3.4.5, 3.3.4.6)
abbrev pub with_memory : Bool → (ins outs : List ValType) → Sig
with_memory false ins outs = lacks UnknownMemory
with_memory true ins outs = moves ins outs

-- what an instruction that touches only its own operands and the store asks and leaves (3.3.1 to 3.3.4, and nop, 3.3.5.1)
abbrev pub basic_sig : Around → Basic → Sig
basic_sig c nop = moves [] []
basic_sig c drop = drops
basic_sig c select = selects
basic_sig c (const v) = moves [] (type_of v ∷ [])
basic_sig c (num op) = moves (operand_types op) (result_type op ∷ [])
basic_sig c (global_get x) = gets_global (slice_get c.globals x)
basic_sig c (global_set x) = sets_global (slice_get c.globals x)
basic_sig c (load op align offset) = loads c.memory align (load_row op)
basic_sig c (store op align offset) = stores c.memory align (store_row op)
basic_sig c memory_size = with_memory c.memory [] (I32 ∷ [])
basic_sig c memory_grow = with_memory c.memory (I32 ∷ []) (I32 ∷ [])
basic_sig c memory_copy = with_memory c.memory (I32 ∷ I32 ∷ I32 ∷ []) []
basic_sig c memory_fill = with_memory c.memory (I32 ∷ I32 ∷ I32 ∷ []) []

-- What an instruction asks and leaves under these labels (3.3.1 to 3.3.5), each the result that a branch takes, the function's own the last.
abbrev pub sig : Around → List (Option ValType) → Plain → Sig
sig c ls (basic b) = basic_sig c b
sig c ls (local_get x) = gets (slice_get c.locals x)
sig c ls (local_set x) = sets (slice_get c.locals x)
sig c ls (local_tee x) = tees (slice_get c.locals x)
sig c ls (br l) = jump (slice_get ls l)
sig c ls (br_if l) = may_jump (slice_get ls l)
sig c ls (br_table labels l) = jumps ls labels (slice_get ls l)
sig c ls return = leaves (listed c.result)
sig c ls unreachable = leaves []
sig c ls (call x) = calls (slice_get c.funcs x)
sig c ls (call_indirect x) = calls_at c.table (slice_get c.types x)

-- The instruction takes these operands to those, and leaves what lies below (3.3.6.2).
abbrev pub Takes : Sig → List ValType → List ValType → Type 0
Takes (moves ps rs) ins outs = (below : List ValType) × (ins ≡ ps ++ below) × (outs ≡ rs ++ below)
Takes (leaves ps) ins outs = (below : List ValType) × (ins ≡ ps ++ below)
Takes drops ins outs = (t : ValType) × (ins ≡ t ∷ outs)
Takes selects ins outs = (t : ValType) × (below : List ValType) × (ins ≡ I32 ∷ t ∷ t ∷ below) × (outs ≡ t ∷ below)
Takes (lacks r) ins outs = ⊥
Takes (late r ps rs) ins outs = ⊥

-- the label of a loop takes no value (3.3.5.4)
abbrev pub label : Shape → Option ValType → Option ValType
label a_block r = r
label a_loop r = None

-- The code takes operands `ins` to exactly the results `outs` (3.3.6, 3.3.5.3 to 3.3.5.5). A construct's body begins without operands.
unfoldable pub Types : Around → List (Option ValType) → Code → (outs ins : List ValType) → Type 0
Types c ls done outs ins = ins ≡ outs
Types c ls (plain p rest) outs ins = (mids : List ValType) × Takes (sig c ls p) ins mids × Types c ls rest outs mids
Types c ls (nest s r body rest) outs ins = Types c (label s r ∷ ls) body (listed r) [] × Types c ls rest outs (listed r ++ ins)
Types c ls (branch r a b rest) outs ins = (below : List ValType) × (ins ≡ I32 ∷ below) × Types c (r ∷ ls) a (listed r) [] × Types c (r ∷ ls) b (listed r) [] × Types c ls rest outs (listed r ++ below)

-- A body has its type (3.4.1).
abbrev pub Typed : Around → Code → Type 0
Typed c body = Types c (c.result ∷ []) body (listed c.result) []
