-- What instructions take.
use Rattle.std.proofs.Common.{◌≡◌, ℕ, length, false, refl, sym, subst}
use Rattle.wa_types.specs.declared.values.Value.{Value}
use Rattle.wa_types.specs.declared.operators.NumOp.{NumOp}
use Rattle.wa_types.specs.declared.instrs.Instr.{Instr}
use Rattle.wa_types.specs.declared.instrs.Instr.TheVariants.{Nop, Const, GlobalGet, MemorySize, Drop, GlobalSet, MemoryGrow, MemoryCopy, MemoryFill, Load, Store, Select, Num, LocalGet, LocalSet, LocalTee}
use Rattle.wa_types.specs.Operators.{operand_types}
use Rattle.wa_types.specs.Syntax.{done}
use Rattle.wa_types.specs.View.{in_front}
use Rattle.slim_rewrite.specs.declared.stack.Walk.{Walk}
use Rattle.slim_rewrite.specs.Walking.{slot_in, OpTakes}

pub takes_nop : (w : Walk) (i : Instr) → i ≡ Nop → OpTakes w (in_front i done) 0
unfolding in_front
takes_nop w i e = subst (λ y. OpTakes w (in_front y done) 0) (sym e) refl

pub takes_const : (w : Walk) (i : Instr) (v : Value) → i ≡ Const v → OpTakes w (in_front i done) 0
unfolding in_front
takes_const w i v e = subst (λ y. OpTakes w (in_front y done) 0) (sym e) refl

pub takes_global_get : (w : Walk) (i : Instr) (x : ℕ) → i ≡ GlobalGet x → OpTakes w (in_front i done) 0
unfolding in_front
takes_global_get w i x e = subst (λ y. OpTakes w (in_front y done) 0) (sym e) refl

pub takes_memory_size : (w : Walk) (i : Instr) → i ≡ MemorySize → OpTakes w (in_front i done) 0
unfolding in_front
takes_memory_size w i e = subst (λ y. OpTakes w (in_front y done) 0) (sym e) refl

pub takes_drop : (w : Walk) (i : Instr) → i ≡ Drop → OpTakes w (in_front i done) 1
unfolding in_front
takes_drop w i e = subst (λ y. OpTakes w (in_front y done) 1) (sym e) refl

pub takes_global_set : (w : Walk) (i : Instr) (x : ℕ) → i ≡ GlobalSet x → OpTakes w (in_front i done) 1
unfolding in_front
takes_global_set w i x e = subst (λ y. OpTakes w (in_front y done) 1) (sym e) refl

pub takes_memory_grow : (w : Walk) (i : Instr) → i ≡ MemoryGrow → OpTakes w (in_front i done) 1
unfolding in_front
takes_memory_grow w i e = subst (λ y. OpTakes w (in_front y done) 1) (sym e) refl

pub takes_memory_copy : (w : Walk) (i : Instr) → i ≡ MemoryCopy → OpTakes w (in_front i done) 3
unfolding in_front
takes_memory_copy w i e = subst (λ y. OpTakes w (in_front y done) 3) (sym e) refl

pub takes_memory_fill : (w : Walk) (i : Instr) → i ≡ MemoryFill → OpTakes w (in_front i done) 3
unfolding in_front
takes_memory_fill w i e = subst (λ y. OpTakes w (in_front y done) 3) (sym e) refl

pub takes_load : (w : Walk) (i : Instr) (op align offset : ℕ) → i ≡ Load op align offset → OpTakes w (in_front i done) 1
unfolding in_front
takes_load w i op align offset e = subst (λ y. OpTakes w (in_front y done) 1) (sym e) refl

pub takes_store : (w : Walk) (i : Instr) (op align offset : ℕ) → i ≡ Store op align offset → OpTakes w (in_front i done) 2
unfolding in_front
takes_store w i op align offset e = subst (λ y. OpTakes w (in_front y done) 2) (sym e) refl

pub takes_select : (w : Walk) (i : Instr) → i ≡ Select → OpTakes w (in_front i done) 3
unfolding in_front
takes_select w i e = subst (λ y. OpTakes w (in_front y done) 3) (sym e) refl

pub takes_num : (w : Walk) (i : Instr) (op : NumOp) (k : ℕ) → i ≡ Num op → k ≡ length (operand_types op) → OpTakes w (in_front i done) k
unfolding in_front
takes_num w i op k e q = subst (λ y. OpTakes w (in_front y done) k) (sym e) (sym q)

pub takes_get : (w : Walk) (i : Instr) (x : ℕ) → i ≡ LocalGet x → slot_in w x ≡ false → OpTakes w (in_front i done) 0
unfolding in_front
takes_get w i x e q = subst (λ y. OpTakes w (in_front y done) 0) (sym e) (q, refl)

pub takes_set : (w : Walk) (i : Instr) (x : ℕ) → i ≡ LocalSet x → slot_in w x ≡ false → OpTakes w (in_front i done) 1
unfolding in_front
takes_set w i x e q = subst (λ y. OpTakes w (in_front y done) 1) (sym e) (q, refl)

pub takes_tee : (w : Walk) (i : Instr) (x : ℕ) → i ≡ LocalTee x → slot_in w x ≡ false → OpTakes w (in_front i done) 1
unfolding in_front
takes_tee w i x e q = subst (λ y. OpTakes w (in_front y done) 1) (sym e) (q, refl)
