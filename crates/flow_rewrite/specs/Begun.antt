-- Sequences that a function begins with, and others. In front of what is sought the first test of a function's state has its lead, the
-- code that restores the frame; a sequence inside has none.
use Rattle.std.specs.Prelude.{◌≡◌, ℕ, List, Option, Some, None, Bool}
use Rattle.std.specs.declared.vec.Vec.{Vec}
use Rattle.std.specs.declared.alloc.Global.{Global}
use Rattle.wa_types.specs.declared.instrs.Instr.{Instr}
use Rattle.wa_types.specs.declared.operators.NumOp.TheVariants.{I32Ne}
use Rattle.wa_types.specs.declared.values.ValType.TheVariants.{I32}
use Rattle.wa_types.specs.Syntax.{a_block, basic, br_if, global_get, num, Code, done, plain, nest, branch}
use Rattle.wa_types.specs.View.{code, onto}
use Rattle.wa_model.specs.declared.flat.Operand.{Operand}
use Rattle.run_theory.specs.Flat.{followed_by}
use Rattle.guard_form.specs.Pieces.{Units, got_any}
use Rattle.guard_form.specs.Guarded.{GuardIndices, Exit, by_state, index_with, guarded, raised, choice, last_piece, call_front, call_entry, front, entry}

-- the code that these instructions stand for, where there are any to begin with
abbrev pub lead_of : Option (Vec Instr Global) → Option Code
lead_of None = None
lead_of (Some v) = Some (code v.items)

-- code behind a lead
abbrev pub led : (lead : Option Code) → Code → Code
led None c = c
led (Some h) c = followed_by h c

-- the guarded code of a sequence
abbrev pub begun : GuardIndices → (lead : Option Code) → Exit → (depth k : ℕ) → (first : Code) → Units → Code
begun i None = front i
begun i (Some h) = entry i (followed_by h)

-- a piece, run in state 0 alone
abbrev pub guarded_begun : GuardIndices → (lead : Option Code) → Code → (next : Code) → Code
guarded_begun i None c next = guarded i c next
guarded_begun i (Some h) c next = by_state i.state (followed_by h done) (raised 0 1 c) next

-- the piece in front of call k, or what seeks the call
abbrev pub sought_begun : GuardIndices → (lead : Option Code) → (label by k : ℕ) → Code → (next : Code) → Code
sought_begun i lead l n k first next = by_state i.state (led lead (index_with i (basic (num I32Ne)) k (plain (br_if l) done))) (raised 0 n first) next

-- the call of a unit, behind the piece in front of it, with what comes next
abbrev pub call_begun : GuardIndices → (lead : Option Code) → Exit → (more : Bool) → (k : ℕ) → (first : Code) → (call : (own : Bool) → Code) → (next : Code) → Code
call_begun i None = call_front i
call_begun i (Some h) = call_entry i (followed_by h)

-- A block with the piece in front of it: where there is no piece, the block's own sequence has the lead.
abbrev pub block_begun : GuardIndices → (lead : Option Code) → (piece : Code) → Exit → (depth k : ℕ) → (first : Code) → Units → (next : Code) → Code
block_begun i lead done e d k first body next = nest a_block None (begun i lead e d k first body) next
block_begun i lead (plain p c) e d k first body next = guarded_begun i lead (plain p c) (nest a_block None (front i e d k first body) next)
block_begun i lead (nest s r b c) e d k first body next = guarded_begun i lead (nest s r b c) (nest a_block None (front i e d k first body) next)
block_begun i lead (branch r x y c) e d k first body next = guarded_begun i lead (branch r x y c) (nest a_block None (front i e d k first body) next)

-- the condition of an `if` with the piece in front of it, or the choice of the arm
abbrev pub condition_code : GuardIndices → (lead : Option Code) → (k : ℕ) → (piece : Code) → Option Operand → (then_arm else_arm : Units) → Code → Code
condition_code i lead k piece o a b c =
    plain (basic (global_get i.state)) (branch (Some I32) (led lead (choice i k a b)) (raised 0 1 (followed_by piece (got_any o done))) c)

-- the piece behind the last unit, or of none
abbrev pub last_begun : GuardIndices → (lead : Option Code) → Exit → Code → Code
last_begun i None e c = last_piece i e c
last_begun i (Some h) e c = by_state i.state (followed_by h done) done (last_piece i e c)

-- What was put in front of a block with this lead, the own sequence of which then has the other one.
abbrev pub Fronted : GuardIndices → (lead inner : Option Code) → (old new : List Instr) → (piece : Code) → Type 0
Fronted i lead inner old new piece =
    (e : Exit) (d k : ℕ) (first : Code) (body : Units) (next : Code)
    → onto new (nest a_block None (begun i inner e d k first body) next) ≡ onto old (block_begun i lead piece e d k first body next)
