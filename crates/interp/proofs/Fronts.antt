-- The code that each instruction without a body stands for.
use Rattle.std.proofs.Common.{◌≡◌, ℕ, refl}
use Rattle.wa_types.specs.declared.values.Value.{Value}
use Rattle.wa_types.specs.declared.operators.NumOp.{NumOp}
use Rattle.wa_types.specs.declared.instrs.Instr.TheVariants.{Unreachable, Nop, Drop, Select, Return, MemorySize, MemoryGrow, MemoryCopy, MemoryFill, Const, Num, Br, BrIf, Call, CallIndirect, LocalGet, LocalSet}
use Rattle.wa_types.specs.declared.instrs.Instr.TheVariants.{LocalTee, GlobalGet, GlobalSet, Load, Store}
use Rattle.wa_types.specs.Syntax.{nop, drop as drop_operand, select, const, num, global_get, global_set, load, store, memory_size, memory_grow, memory_copy, memory_fill, basic, local_get, local_set, local_tee, br}
use Rattle.wa_types.specs.Syntax.{br_if, return, unreachable, call, call_indirect, Code, plain}
use Rattle.wa_types.specs.View.{in_front}

pub front_unreachable : (rest : Code) → in_front Unreachable rest ≡ plain unreachable rest
unfolding in_front
front_unreachable rest = refl

pub front_nop : (rest : Code) → in_front Nop rest ≡ plain (basic nop) rest
unfolding in_front
front_nop rest = refl

pub front_drop : (rest : Code) → in_front Drop rest ≡ plain (basic drop_operand) rest
unfolding in_front
front_drop rest = refl

pub front_select : (rest : Code) → in_front Select rest ≡ plain (basic select) rest
unfolding in_front
front_select rest = refl

pub front_return : (rest : Code) → in_front Return rest ≡ plain return rest
unfolding in_front
front_return rest = refl

pub front_size : (rest : Code) → in_front MemorySize rest ≡ plain (basic memory_size) rest
unfolding in_front
front_size rest = refl

pub front_grow : (rest : Code) → in_front MemoryGrow rest ≡ plain (basic memory_grow) rest
unfolding in_front
front_grow rest = refl

pub front_copy : (rest : Code) → in_front MemoryCopy rest ≡ plain (basic memory_copy) rest
unfolding in_front
front_copy rest = refl

pub front_fill : (rest : Code) → in_front MemoryFill rest ≡ plain (basic memory_fill) rest
unfolding in_front
front_fill rest = refl

pub front_const : (v : Value) (rest : Code) → in_front (Const v) rest ≡ plain (basic (const v)) rest
unfolding in_front
front_const v rest = refl

pub front_num : (op : NumOp) (rest : Code) → in_front (Num op) rest ≡ plain (basic (num op)) rest
unfolding in_front
front_num op rest = refl

pub front_br : (l : ℕ) (rest : Code) → in_front (Br l) rest ≡ plain (br l) rest
unfolding in_front
front_br l rest = refl

pub front_br_if : (l : ℕ) (rest : Code) → in_front (BrIf l) rest ≡ plain (br_if l) rest
unfolding in_front
front_br_if l rest = refl

pub front_call : (x : ℕ) (rest : Code) → in_front (Call x) rest ≡ plain (call x) rest
unfolding in_front
front_call x rest = refl

pub front_indirect : (x : ℕ) (rest : Code) → in_front (CallIndirect x) rest ≡ plain (call_indirect x) rest
unfolding in_front
front_indirect x rest = refl

pub front_local_get : (x : ℕ) (rest : Code) → in_front (LocalGet x) rest ≡ plain (local_get x) rest
unfolding in_front
front_local_get x rest = refl

pub front_local_set : (x : ℕ) (rest : Code) → in_front (LocalSet x) rest ≡ plain (local_set x) rest
unfolding in_front
front_local_set x rest = refl

pub front_local_tee : (x : ℕ) (rest : Code) → in_front (LocalTee x) rest ≡ plain (local_tee x) rest
unfolding in_front
front_local_tee x rest = refl

pub front_global_get : (x : ℕ) (rest : Code) → in_front (GlobalGet x) rest ≡ plain (basic (global_get x)) rest
unfolding in_front
front_global_get x rest = refl

pub front_global_set : (x : ℕ) (rest : Code) → in_front (GlobalSet x) rest ≡ plain (basic (global_set x)) rest
unfolding in_front
front_global_set x rest = refl

pub front_load : (op align offset : ℕ) (rest : Code) → in_front (Load op align offset) rest ≡ plain (basic (load op align offset)) rest
unfolding in_front
front_load op align offset rest = refl

pub front_store : (op align offset : ℕ) (rest : Code) → in_front (Store op align offset) rest ≡ plain (basic (store op align offset)) rest
unfolding in_front
front_store op align offset rest = refl
