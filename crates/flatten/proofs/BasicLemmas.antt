-- Which instructions take no part in control and access no local.
use Rattle.std.proofs.Common.{◌≡◌, ℕ, Some, None, true, false, refl, ap}
use Rattle.wa_types.specs.declared.instrs.Instr.{Instr}
use Rattle.wa_types.specs.declared.instrs.Instr.TheVariants.{Unreachable, Nop, Drop, Select, Return, MemorySize, MemoryGrow, MemoryCopy, MemoryFill, Const, Num, Br, BrIf, BrTable, Call, CallIndirect, LocalGet, LocalSet, LocalTee, GlobalGet, GlobalSet, Load, Store, Block', Loop', If'}
use Rattle.wa_types.specs.Syntax.{Basic, nop, drop, select, const, num, global_get, global_set, load, store, memory_size, memory_grow, memory_copy, memory_fill, basic, Plain, local_get, local_set, local_tee, br, br_if, br_table, return, unreachable, call, call_indirect, Code, plain}
use Rattle.wa_types.specs.View.{in_front}
use Rattle.wa_types.specs.Pruned.{is_last, is_last_instr}
use Rattle.std.specs.declared.vec.Vec.{Vec}
use Rattle.std.specs.declared.alloc.Global.{Global}
use Rattle.wa_types.specs.Leaves.{is_leaf}
use Rattle.flatten.specs.Emitting.{basic_of}

same_basic : (a b : Basic) (rest : Code) → Some a ≡ Some b → plain (basic a) rest ≡ plain (basic b) rest
same_basic a b rest e = let f : a ≡ b = cc in ap (λ z. plain (basic z) rest) f

pub is_basic : (i : Instr) (b : Basic) → basic_of i ≡ Some b → (rest : Code) → in_front i rest ≡ plain (basic b) rest
unfolding basic_of in_front
is_basic Unreachable b e rest = absurd (cc)
is_basic Nop b e rest = same_basic _ b rest e
is_basic Drop b e rest = same_basic _ b rest e
is_basic Select b e rest = same_basic _ b rest e
is_basic Return b e rest = absurd (cc)
is_basic MemorySize b e rest = same_basic _ b rest e
is_basic MemoryGrow b e rest = same_basic _ b rest e
is_basic MemoryCopy b e rest = same_basic _ b rest e
is_basic MemoryFill b e rest = same_basic _ b rest e
is_basic (Const v) b e rest = same_basic _ b rest e
is_basic (Num op) b e rest = same_basic _ b rest e
is_basic (Br l) b e rest = absurd (cc)
is_basic (BrIf l) b e rest = absurd (cc)
is_basic (BrTable ls l) b e rest = absurd (cc)
is_basic (Call x) b e rest = absurd (cc)
is_basic (CallIndirect x) b e rest = absurd (cc)
is_basic (LocalGet x) b e rest = absurd (cc)
is_basic (LocalSet x) b e rest = absurd (cc)
is_basic (LocalTee x) b e rest = absurd (cc)
is_basic (GlobalGet x) b e rest = same_basic _ b rest e
is_basic (GlobalSet x) b e rest = same_basic _ b rest e
is_basic (Load op align offset) b e rest = same_basic _ b rest e
is_basic (Store op align offset) b e rest = same_basic _ b rest e
is_basic (Block' r s k) b e rest = absurd (cc)
is_basic (Loop' r s k) b e rest = absurd (cc)
is_basic (If' r s k t l) b e rest = absurd (cc)

pub basic_leaf : (i : Instr) (b : Basic) → basic_of i ≡ Some b → is_leaf i ≡ true
unfolding basic_of is_leaf
basic_leaf Unreachable b e = refl
basic_leaf Nop b e = refl
basic_leaf Drop b e = refl
basic_leaf Select b e = refl
basic_leaf Return b e = refl
basic_leaf MemorySize b e = refl
basic_leaf MemoryGrow b e = refl
basic_leaf MemoryCopy b e = refl
basic_leaf MemoryFill b e = refl
basic_leaf (Const v) b e = refl
basic_leaf (Num op) b e = refl
basic_leaf (Br l) b e = refl
basic_leaf (BrIf l) b e = refl
basic_leaf (BrTable ls l) b e = refl
basic_leaf (Call x) b e = refl
basic_leaf (CallIndirect x) b e = refl
basic_leaf (LocalGet x) b e = refl
basic_leaf (LocalSet x) b e = refl
basic_leaf (LocalTee x) b e = refl
basic_leaf (GlobalGet x) b e = refl
basic_leaf (GlobalSet x) b e = refl
basic_leaf (Load op align offset) b e = refl
basic_leaf (Store op align offset) b e = refl
basic_leaf (Block' r s k) b e = absurd (cc)
basic_leaf (Loop' r s k) b e = absurd (cc)
basic_leaf (If' r s k t l) b e = absurd (cc)

-- one of the four behind which control never goes on
pub last_one : (i : Instr) → is_last_instr i ≡ true → (i ≡ Unreachable → ⊥) → (i ≡ Return → ⊥) → ((l : ℕ) → i ≡ Br l → ⊥) → ((ts : Vec ℕ Global) (l : ℕ) → i ≡ BrTable ts l → ⊥) → ⊥
unfolding is_last_instr
last_one Unreachable e a b d f = a refl
last_one Nop e a b d f = cc
last_one Drop e a b d f = cc
last_one Select e a b d f = cc
last_one Return e a b d f = b refl
last_one MemorySize e a b d f = cc
last_one MemoryGrow e a b d f = cc
last_one MemoryCopy e a b d f = cc
last_one MemoryFill e a b d f = cc
last_one (Const v) e a b d f = cc
last_one (Num op) e a b d f = cc
last_one (Br l) e a b d f = d l refl
last_one (BrIf l) e a b d f = cc
last_one (BrTable ls l) e a b d f = f ls l refl
last_one (Call x) e a b d f = cc
last_one (CallIndirect x) e a b d f = cc
last_one (LocalGet x) e a b d f = cc
last_one (LocalSet x) e a b d f = cc
last_one (LocalTee x) e a b d f = cc
last_one (GlobalGet x) e a b d f = cc
last_one (GlobalSet x) e a b d f = cc
last_one (Load op align offset) e a b d f = cc
last_one (Store op align offset) e a b d f = cc
last_one (Block' r s k) e a b d f = cc
last_one (Loop' r s k) e a b d f = cc
last_one (If' r s k t l) e a b d f = cc

-- what holds no other, goes on and is none of these takes no part in control and accesses no local
pub leaf_other : (i : Instr) → is_leaf i ≡ true → is_last_instr i ≡ false → basic_of i ≡ None → ((l : ℕ) → i ≡ BrIf l → ⊥) → ((x : ℕ) → i ≡ Call x → ⊥) → ((x : ℕ) → i ≡ CallIndirect x → ⊥)
    → ((x : ℕ) → i ≡ LocalGet x → ⊥) → ((x : ℕ) → i ≡ LocalSet x → ⊥) → ((x : ℕ) → i ≡ LocalTee x → ⊥) → ⊥
unfolding is_leaf is_last_instr basic_of
leaf_other Unreachable a b c p q r t u v = cc
leaf_other Nop a b c p q r t u v = cc
leaf_other Drop a b c p q r t u v = cc
leaf_other Select a b c p q r t u v = cc
leaf_other Return a b c p q r t u v = cc
leaf_other MemorySize a b c p q r t u v = cc
leaf_other MemoryGrow a b c p q r t u v = cc
leaf_other MemoryCopy a b c p q r t u v = cc
leaf_other MemoryFill a b c p q r t u v = cc
leaf_other (Const y) a b c p q r t u v = cc
leaf_other (Num op) a b c p q r t u v = cc
leaf_other (Br l) a b c p q r t u v = cc
leaf_other (BrIf l) a b c p q r t u v = p l refl
leaf_other (BrTable ls l) a b c p q r t u v = cc
leaf_other (Call x) a b c p q r t u v = q x refl
leaf_other (CallIndirect x) a b c p q r t u v = r x refl
leaf_other (LocalGet x) a b c p q r t u v = t x refl
leaf_other (LocalSet x) a b c p q r t u v = u x refl
leaf_other (LocalTee x) a b c p q r t u v = v x refl
leaf_other (GlobalGet x) a b c p q r t u v = cc
leaf_other (GlobalSet x) a b c p q r t u v = cc
leaf_other (Load op align offset) a b c p q r t u v = cc
leaf_other (Store op align offset) a b c p q r t u v = cc
leaf_other (Block' y s k) a b c p q r t u v = cc
leaf_other (Loop' y s k) a b c p q r t u v = cc
leaf_other (If' y s k z l) a b c p q r t u v = cc

-- one behind which control never goes on holds no other
pub last_plain : (i : Instr) → is_last_instr i ≡ true → (p : Plain) × ((rest : Code) → in_front i rest ≡ plain p rest) × (is_last p ≡ true)
unfolding is_last_instr in_front
last_plain Unreachable e = (unreachable, (λ rest. refl), refl)
last_plain Nop e = absurd (cc)
last_plain Drop e = absurd (cc)
last_plain Select e = absurd (cc)
last_plain Return e = (return, (λ rest. refl), refl)
last_plain MemorySize e = absurd (cc)
last_plain MemoryGrow e = absurd (cc)
last_plain MemoryCopy e = absurd (cc)
last_plain MemoryFill e = absurd (cc)
last_plain (Const y) e = absurd (cc)
last_plain (Num op) e = absurd (cc)
last_plain (Br l) e = (br l, (λ rest. refl), refl)
last_plain (BrIf l) e = absurd (cc)
last_plain (BrTable ls l) e = (br_table ls.items l, (λ rest. refl), refl)
last_plain (Call x) e = absurd (cc)
last_plain (CallIndirect x) e = absurd (cc)
last_plain (LocalGet x) e = absurd (cc)
last_plain (LocalSet x) e = absurd (cc)
last_plain (LocalTee x) e = absurd (cc)
last_plain (GlobalGet x) e = absurd (cc)
last_plain (GlobalSet x) e = absurd (cc)
last_plain (Load op align offset) e = absurd (cc)
last_plain (Store op align offset) e = absurd (cc)
last_plain (Block' y s k) e = absurd (cc)
last_plain (Loop' y s k) e = absurd (cc)
last_plain (If' y s k z l) e = absurd (cc)

-- what holds no other and goes on
pub leaf_goes_on : (i : Instr) → is_leaf i ≡ true → is_last_instr i ≡ false → (p : Plain) × ((rest : Code) → in_front i rest ≡ plain p rest) × (is_last p ≡ false)
unfolding is_leaf is_last_instr in_front
leaf_goes_on Unreachable a e = absurd (cc)
leaf_goes_on Nop a e = (basic nop, (λ rest. refl), refl)
leaf_goes_on Drop a e = (basic drop, (λ rest. refl), refl)
leaf_goes_on Select a e = (basic select, (λ rest. refl), refl)
leaf_goes_on Return a e = absurd (cc)
leaf_goes_on MemorySize a e = (basic memory_size, (λ rest. refl), refl)
leaf_goes_on MemoryGrow a e = (basic memory_grow, (λ rest. refl), refl)
leaf_goes_on MemoryCopy a e = (basic memory_copy, (λ rest. refl), refl)
leaf_goes_on MemoryFill a e = (basic memory_fill, (λ rest. refl), refl)
leaf_goes_on (Const y) a e = (basic (const y), (λ rest. refl), refl)
leaf_goes_on (Num op) a e = (basic (num op), (λ rest. refl), refl)
leaf_goes_on (Br l) a e = absurd (cc)
leaf_goes_on (BrIf l) a e = (br_if l, (λ rest. refl), refl)
leaf_goes_on (BrTable ls l) a e = absurd (cc)
leaf_goes_on (Call x) a e = (call x, (λ rest. refl), refl)
leaf_goes_on (CallIndirect x) a e = (call_indirect x, (λ rest. refl), refl)
leaf_goes_on (LocalGet x) a e = (local_get x, (λ rest. refl), refl)
leaf_goes_on (LocalSet x) a e = (local_set x, (λ rest. refl), refl)
leaf_goes_on (LocalTee x) a e = (local_tee x, (λ rest. refl), refl)
leaf_goes_on (GlobalGet x) a e = (basic (global_get x), (λ rest. refl), refl)
leaf_goes_on (GlobalSet x) a e = (basic (global_set x), (λ rest. refl), refl)
leaf_goes_on (Load op align offset) a e = (basic (load op align offset), (λ rest. refl), refl)
leaf_goes_on (Store op align offset) a e = (basic (store op align offset), (λ rest. refl), refl)
leaf_goes_on (Block' y s k) a e = absurd (cc)
leaf_goes_on (Loop' y s k) a e = absurd (cc)
leaf_goes_on (If' y s k z l) a e = absurd (cc)
