-- Flat statements as plain data, and the code that they stand for. Between two statements no operand stands on the stack.
use Rattle.std.specs.Prelude.{ℕ, ◌-◌, List, [], ◌∷◌, length, drop, Option, Some, None}
use Rattle.wa_types.specs.declared.values.ValType.{ValType}
use Rattle.wa_types.specs.Syntax.{const, basic, local_get, local_set, br, br_if, br_table, unreachable, Shape, a_block, Code, done, plain, nest, branch}
use Rattle.wa_model.specs.declared.flat.Operand.{Operand}
use Rattle.wa_model.specs.declared.flat.Operand.TheVariants.{Local, Const}

-- A list of statements. Each constructor has the rest of the list last. `op` is the code of the one instruction.
pub data Stmts : Type 0 where
  no_more : Stmts
  computes : (op : Code) → (args : List Operand) → (to : Option ℕ) → (rest : Stmts) → Stmts
  copies : (to : ℕ) → (from : Operand) → (rest : Stmts) → Stmts
  calls : (op : Code) → (stack : List ℕ) → (args : ℕ) → (to : Option ℕ) → (rest : Stmts) → Stmts
  leaps : (label : ℕ) → (rest : Stmts) → Stmts
  leaps_if : (condition : Operand) → (label : ℕ) → (rest : Stmts) → Stmts
  leaps_by : (index : Operand) → (labels : List ℕ) → (last : ℕ) → (rest : Stmts) → Stmts
  nests : Shape → (body rest : Stmts) → Stmts
  decides : (condition : Operand) → (then_arm else_arm rest : Stmts) → Stmts
  halts : (rest : Stmts) → Stmts

-- A flat function: its index, that of its type, the types of its locals, parameters first, the local of its result, and
-- its statements.
pub record FlatFunc : Type 0 where
  pub func : ℕ
  pub sort : ℕ
  pub locals : List ValType
  pub result : Option ℕ
  pub body : Stmts

-- Flat functions, in index order.
pub record FlatModule : Type 0 where
  pub funcs : List FlatFunc

-- one code behind the other
unfoldable pub followed_by : Code → Code → Code
followed_by done rest = rest
followed_by (plain p more) rest = plain p (followed_by more rest)
followed_by (nest s r body more) rest = nest s r body (followed_by more rest)
followed_by (branch r a b more) rest = branch r a b (followed_by more rest)

-- an operand is put on the stack, and then comes this code
abbrev pub got : Operand → Code → Code
got (Local x) rest = plain (local_get x) rest
got (Const v) rest = plain (basic (const v)) rest

-- operands are put on the stack in order
abbrev pub all_got : List Operand → Code → Code
all_got [] rest = rest
all_got (a ∷ args) rest = got a (all_got args rest)

-- the topmost operand goes to a local, where one is told
abbrev pub set_to : Option ℕ → Code → Code
set_to None rest = rest
set_to (Some x) rest = plain (local_set x) rest

-- the values of locals are put on the stack in order
abbrev pub slots_got : List ℕ → Code → Code
slots_got [] rest = rest
slots_got (x ∷ xs) rest = plain (local_get x) (slots_got xs rest)

-- the last entries of a stack, as many as told
abbrev pub last_of : ℕ → List ℕ → List ℕ
last_of n stack = drop (length stack - n) stack

-- The code that statements stand for.
unfoldable pub code_of : Stmts → Code
code_of no_more = done
code_of (computes op args to rest) = all_got args (followed_by op (set_to to (code_of rest)))
code_of (copies to from rest) = got from (plain (local_set to) (code_of rest))
code_of (calls op stack args to rest) = slots_got (last_of args stack) (followed_by op (set_to to (code_of rest)))
code_of (leaps l rest) = plain (br l) (code_of rest)
code_of (leaps_if condition l rest) = got condition (plain (br_if l) (code_of rest))
code_of (leaps_by index labels last rest) = got index (plain (br_table labels last) (code_of rest))
code_of (nests s body rest) = nest s None (code_of body) (code_of rest)
code_of (decides condition a b rest) = got condition (branch None (code_of a) (code_of b) (code_of rest))
code_of (halts rest) = plain unreachable (code_of rest)

-- the value of the local of a result is put on the stack, where one is told
abbrev pub result_got : Option ℕ → Code
result_got None = done
result_got (Some x) = plain (local_get x) done

-- The body that a flat function stands for: a block around its statements, and then its result. A return leaves the block.
abbrev pub body_of : FlatFunc → Code
body_of f = nest a_block None (code_of f.body) (result_got f.result)
