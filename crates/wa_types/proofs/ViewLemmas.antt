-- The view of instruction lists, step by step.
use Rattle.std.proofs.Common.{◌++◌, ◌≡◌, ℕ, suc, ◌+◌, ◌<◌, List, [], ◌∷◌, refl, ap, sym, ◌∙◌, add-one, Option, length, get_or, drop, drop-cons, ◌≤◌}
use Rattle.std.proofs.lemmas.List.{drop_all}
use Rattle.std.specs.declared.vec.Vec.{Vec}
use Rattle.std.specs.declared.alloc.Global.{Global}
use Rattle.wa_types.specs.declared.values.ValType.{ValType}
use Rattle.wa_types.specs.declared.instrs.Instr.{Instr, Row_of-Instr, end_of-Instr, more_of-Instr, items-the_row-Instr, items_hidden-the_row-Instr-0, roll-Instr, roll-out-Instr}
use Rattle.wa_types.specs.declared.instrs.Instr.TheBlock.{hidden-the_row-Instr-0}
use Rattle.wa_types.specs.declared.instrs.Instr.TheVariants.{Unreachable, Nop, Drop, Select, Return, MemorySize, MemoryGrow, MemoryCopy, MemoryFill, Const, Num, Br, BrIf, BrTable, Call, CallIndirect, LocalGet}
use Rattle.wa_types.specs.declared.instrs.Instr.TheVariants.{LocalSet, LocalTee, GlobalGet, GlobalSet, Load, Store, Block, Loop, If, Block', Loop', If', rolls-Block, rolls-Loop, rolls-If}
use Rattle.wa_types.specs.declared.instrs.Instr.TheVariants.{outs-Block', outs-Loop', outs-If'}
use Rattle.wa_types.specs.Syntax.{nop, drop as drop_operand, select, const, num, global_get, global_set, load, store, memory_size, memory_grow, memory_copy, memory_fill, Plain, basic, local_get, local_set, local_tee}
use Rattle.wa_types.specs.Syntax.{br, br_if, br_table, return, unreachable, call, call_indirect, a_block, a_loop, Code, done, plain, nest, branch}
use Rattle.wa_types.specs.View.{in_front, row_code, onto, code}

-- a construct's body is the code of its list
row_code_is_code : {m : _} → (k : Row_of-Instr m) → row_code k ≡ code (items-the_row-Instr m k)
unfolding code onto row_code in_front
row_code_is_code end_of-Instr = refl
row_code_is_code (more_of-Instr i k) = ap (in_front i) (row_code_is_code k)

vec_code : (v : Vec Instr Global) → row_code (hidden-the_row-Instr-0 v) ≡ code v.items
vec_code v = row_code_is_code (hidden-the_row-Instr-0 v) ∙ ap code (items_hidden-the_row-Instr-0 v)

pub in_block : (r : Option ValType) (v : Vec Instr Global) (rest : Code) → in_front (Block r v) rest ≡ nest a_block r (code v.items) rest
unfolding in_front row_code
in_block r v rest = ap (λ b. nest a_block r b rest) (vec_code v)

pub in_loop : (r : Option ValType) (v : Vec Instr Global) (rest : Code) → in_front (Loop r v) rest ≡ nest a_loop r (code v.items) rest
unfolding in_front row_code
in_loop r v rest = ap (λ b. nest a_loop r b rest) (vec_code v)

pub in_if : (r : Option ValType) (v w : Vec Instr Global) (rest : Code) → in_front (If r v w) rest ≡ branch r (code v.items) (code w.items) rest
unfolding in_front row_code
in_if r v w rest =
    ap (λ b. branch r b (row_code (hidden-the_row-Instr-0 w)) rest) (vec_code v) ∙ ap (λ b. branch r (code v.items) b rest) (vec_code w)

pub in_br_table : (v : Vec ℕ Global) (l : ℕ) (rest : Code) → in_front (BrTable v l) rest ≡ plain (br_table v.items l) rest
unfolding in_front
in_br_table v l rest = refl

-- What an instruction is: a block, a loop, an if, or one that holds no other.
pub data InstrKind (x : Instr) : Type 0 where
  is_block : (r : Option ValType) (v : Vec Instr Global) → x ≡ Block r v → InstrKind x
  is_loop : (r : Option ValType) (v : Vec Instr Global) → x ≡ Loop r v → InstrKind x
  is_if : (r : Option ValType) (v w : Vec Instr Global) → x ≡ If r v w → InstrKind x
  is_plain : (p : Plain) → ((rest : Code) → in_front x rest ≡ plain p rest) → InstrKind x

pub instr_kind : (x : Instr) → InstrKind x
unfolding in_front
instr_kind Unreachable = is_plain unreachable (λ rest. refl)
instr_kind Nop = is_plain (basic nop) (λ rest. refl)
instr_kind Drop = is_plain (basic drop_operand) (λ rest. refl)
instr_kind Select = is_plain (basic select) (λ rest. refl)
instr_kind Return = is_plain return (λ rest. refl)
instr_kind MemorySize = is_plain (basic memory_size) (λ rest. refl)
instr_kind MemoryGrow = is_plain (basic memory_grow) (λ rest. refl)
instr_kind MemoryCopy = is_plain (basic memory_copy) (λ rest. refl)
instr_kind MemoryFill = is_plain (basic memory_fill) (λ rest. refl)
instr_kind (Const v) = is_plain (basic (const v)) (λ rest. refl)
instr_kind (Num op) = is_plain (basic (num op)) (λ rest. refl)
instr_kind (Br l) = is_plain (br l) (λ rest. refl)
instr_kind (BrIf l) = is_plain (br_if l) (λ rest. refl)
instr_kind (BrTable ls l) = is_plain (br_table ls.items l) (λ rest. refl)
instr_kind (Call x) = is_plain (call x) (λ rest. refl)
instr_kind (CallIndirect x) = is_plain (call_indirect x) (λ rest. refl)
instr_kind (LocalGet x) = is_plain (local_get x) (λ rest. refl)
instr_kind (LocalSet x) = is_plain (local_set x) (λ rest. refl)
instr_kind (LocalTee x) = is_plain (local_tee x) (λ rest. refl)
instr_kind (GlobalGet x) = is_plain (basic (global_get x)) (λ rest. refl)
instr_kind (GlobalSet x) = is_plain (basic (global_set x)) (λ rest. refl)
instr_kind (Load op a o) = is_plain (basic (load op a o)) (λ rest. refl)
instr_kind (Store op a o) = is_plain (basic (store op a o)) (λ rest. refl)
instr_kind (Block' r s k) = is_block r _ (sym (roll-out-Instr (Block' r s k)) ∙ ap roll-Instr (outs-Block' r s k) ∙ rolls-Block r _)
instr_kind (Loop' r s k) = is_loop r _ (sym (roll-out-Instr (Loop' r s k)) ∙ ap roll-Instr (outs-Loop' r s k) ∙ rolls-Loop r _)
instr_kind (If' r s k t l) = is_if r _ _ (sym (roll-out-Instr (If' r s k t l)) ∙ ap roll-Instr (outs-If' r s k t l) ∙ rolls-If r _ _)

-- the element at i, in front of those after it
pub code_step : (xs : List Instr) (i : ℕ) (x : Instr) → i < length xs → x ≡ get_or xs i x → code (drop i xs) ≡ in_front x (code (drop (i + 1) xs))
unfolding code onto
code_step xs i x h e = rw (add-one, drop-cons xs i x) (ap (λ y. in_front y (code (drop (suc i) xs))) (sym e))

-- past the end
pub code_empty : (xs : List Instr) (i : ℕ) → length xs ≤ i → code (drop i xs) ≡ done
unfolding code onto
code_empty xs i h = ap (λ s. onto s done) (drop_all i xs h)

pub onto_append : (xs : List Instr) (x : Instr) (rest : Code) → onto (xs ++ x ∷ []) rest ≡ onto xs (in_front x rest)
unfolding onto
onto_append [] x rest = refl
onto_append (y ∷ ys) x rest = ap (in_front y) (onto_append ys x rest)

pub onto_done : (xs : List Instr) → onto xs done ≡ code xs
unfolding code
onto_done xs = refl

pub onto_none : (rest : Code) → onto [] rest ≡ rest
unfolding onto
onto_none rest = refl

pub code_none : code [] ≡ done
unfolding code onto
code_none = refl

pub ruleset constructs = (in_block, in_loop, in_if, in_br_table)
