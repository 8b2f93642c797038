-- What the code of a pruned list of instructions is, step by step.
use Rattle.std.proofs.Common.{◌++◌, Bool, true, false, if◌then◌else◌, ◌≡◌, ℕ, ◌+◌, ◌<◌, List, [], ◌∷◌, refl, ap, sym, ◌∙◌, Option, length, get_or, drop}
use Rattle.std.specs.declared.vec.Vec.{Vec}
use Rattle.std.specs.declared.alloc.Global.{Global}
use Rattle.wa_types.specs.declared.values.ValType.{ValType}
use Rattle.wa_types.specs.declared.instrs.Instr.{Instr}
use Rattle.wa_types.specs.declared.instrs.Instr.TheVariants.{Unreachable, Nop, Drop, Select, Return, MemorySize, MemoryGrow, MemoryCopy, MemoryFill, Const, Num, Br, BrIf, BrTable, Call, CallIndirect, LocalGet}
use Rattle.wa_types.specs.declared.instrs.Instr.TheVariants.{LocalSet, LocalTee, GlobalGet, GlobalSet, Load, Store, Block, Loop, If, Block', Loop', If'}
use Rattle.wa_types.specs.Syntax.{nop, drop as drop_operand, select, const, num, global_get, global_set, load, store, memory_size, memory_grow, memory_copy, memory_fill, Plain, basic, local_get, local_set, local_tee}
use Rattle.wa_types.specs.Syntax.{br, br_if, br_table, return, unreachable, call, call_indirect, a_block, a_loop, Code, done, plain, nest, branch}
use Rattle.wa_types.specs.View.{code, onto, in_front}
use Rattle.wa_types.specs.Pruned.{is_last, is_last_instr, pruned}
use Rattle.wa_types.proofs.ViewLemmas.{in_block, in_loop, in_if, code_step, code_empty, onto_append, onto_done, onto_none}
use Rattle.wa_types.specs.Leaves.{is_leaf}
use Rattle.wa_types.proofs.LeafLemmas.{leaf_other}

pub pruned_done : pruned done ≡ done
unfolding pruned
pruned_done = refl

-- the list with one more pruned instruction
grown : (xs new body : List Instr) (i : ℕ) (x y : Instr) (b : Bool) → new ≡ xs ++ y ∷ []
    → ((rest : Code) → pruned (in_front x rest) ≡ in_front y (if is_last_instr x then done else pruned rest)) → is_last_instr x ≡ b → i < length body → x ≡ get_or body i x
    → onto new (if b then done else pruned (code (drop (i + 1) body))) ≡ onto xs (pruned (code (drop i body)))
grown xs new body i x y b e same last h at =
    ap (λ s. onto s (if b then done else pruned (code (drop (i + 1) body)))) e
    ∙ onto_append xs y (if b then done else pruned (code (drop (i + 1) body)))
    ∙ ap (onto xs) (sym (ap pruned (code_step body i x h at) ∙ same (code (drop (i + 1) body)) ∙ ap (λ c. in_front y (if c then done else pruned (code (drop (i + 1) body)))) last))

pub prune_step : (xs new body : List Instr) (i : ℕ) (x y : Instr) (k : Code) → new ≡ xs ++ y ∷ []
    → ((rest : Code) → pruned (in_front x rest) ≡ in_front y (if is_last_instr x then done else pruned rest)) → is_last_instr x ≡ false → i < length body → x ≡ get_or body i x
    → onto xs (pruned (code (drop i body))) ≡ k → onto new (pruned (code (drop (i + 1) body))) ≡ k
prune_step xs new body i x y k e same last h at before = grown xs new body i x y false e same last h at ∙ before

pub prune_last : (xs new body : List Instr) (i : ℕ) (x y : Instr) (k : Code) → new ≡ xs ++ y ∷ []
    → ((rest : Code) → pruned (in_front x rest) ≡ in_front y (if is_last_instr x then done else pruned rest)) → is_last_instr x ≡ true → i < length body → x ≡ get_or body i x
    → onto xs (pruned (code (drop i body))) ≡ k → code new ≡ k
prune_last xs new body i x y k e same last h at before = sym (onto_done new) ∙ grown xs new body i x y true e same last h at ∙ before

pub prune_block : (r : Option ValType) (v w : Vec Instr Global) (rest : Code) → code w.items ≡ pruned (code v.items)
    → pruned (in_front (Block r v) rest) ≡ in_front (Block r w) (if is_last_instr (Block r v) then done else pruned rest)
unfolding pruned is_last_instr
prune_block r v w rest e = ap pruned (in_block r v rest) ∙ ap (λ b. nest a_block r b (pruned rest)) (sym e) ∙ sym (in_block r w (pruned rest))

pub prune_loop : (r : Option ValType) (v w : Vec Instr Global) (rest : Code) → code w.items ≡ pruned (code v.items)
    → pruned (in_front (Loop r v) rest) ≡ in_front (Loop r w) (if is_last_instr (Loop r v) then done else pruned rest)
unfolding pruned is_last_instr
prune_loop r v w rest e = ap pruned (in_loop r v rest) ∙ ap (λ b. nest a_loop r b (pruned rest)) (sym e) ∙ sym (in_loop r w (pruned rest))

pub prune_if : (r : Option ValType) (v w x y : Vec Instr Global) (rest : Code) → code x.items ≡ pruned (code v.items) → code y.items ≡ pruned (code w.items)
    → pruned (in_front (If r v w) rest) ≡ in_front (If r x y) (if is_last_instr (If r v w) then done else pruned rest)
unfolding pruned is_last_instr
prune_if r v w x y rest e f =
    ap pruned (in_if r v w rest) ∙ ap (λ b. branch r b (pruned (code w.items)) (pruned rest)) (sym e) ∙ ap (λ b. branch r (code x.items) b (pruned rest)) (sym f) ∙ sym (in_if r x y (pruned rest))

-- an instruction that holds no other, and whether it is a last one
data Leaf (x : Instr) : Type 0 where
  leaf : (p : Plain) → ((rest : Code) → in_front x rest ≡ plain p rest) → is_last_instr x ≡ is_last p → Leaf x

as_leaf : (x : Instr) → is_leaf x ≡ true → Leaf x
unfolding in_front is_last_instr is_leaf
as_leaf Unreachable e = leaf unreachable (λ rest. refl) refl
as_leaf Nop e = leaf (basic nop) (λ rest. refl) refl
as_leaf Drop e = leaf (basic drop_operand) (λ rest. refl) refl
as_leaf Select e = leaf (basic select) (λ rest. refl) refl
as_leaf Return e = leaf return (λ rest. refl) refl
as_leaf MemorySize e = leaf (basic memory_size) (λ rest. refl) refl
as_leaf MemoryGrow e = leaf (basic memory_grow) (λ rest. refl) refl
as_leaf MemoryCopy e = leaf (basic memory_copy) (λ rest. refl) refl
as_leaf MemoryFill e = leaf (basic memory_fill) (λ rest. refl) refl
as_leaf (Const v) e = leaf (basic (const v)) (λ rest. refl) refl
as_leaf (Num op) e = leaf (basic (num op)) (λ rest. refl) refl
as_leaf (Br l) e = leaf (br l) (λ rest. refl) refl
as_leaf (BrIf l) e = leaf (br_if l) (λ rest. refl) refl
as_leaf (BrTable ls l) e = leaf (br_table ls.items l) (λ rest. refl) refl
as_leaf (Call x) e = leaf (call x) (λ rest. refl) refl
as_leaf (CallIndirect x) e = leaf (call_indirect x) (λ rest. refl) refl
as_leaf (LocalGet x) e = leaf (local_get x) (λ rest. refl) refl
as_leaf (LocalSet x) e = leaf (local_set x) (λ rest. refl) refl
as_leaf (LocalTee x) e = leaf (local_tee x) (λ rest. refl) refl
as_leaf (GlobalGet x) e = leaf (basic (global_get x)) (λ rest. refl) refl
as_leaf (GlobalSet x) e = leaf (basic (global_set x)) (λ rest. refl) refl
as_leaf (Load op a o) e = leaf (basic (load op a o)) (λ rest. refl) refl
as_leaf (Store op a o) e = leaf (basic (store op a o)) (λ rest. refl) refl
as_leaf (Block' r s k) e = cc
as_leaf (Loop' r s k) e = cc
as_leaf (If' r s k t l) e = cc

prune_as : (x y : Instr) (rest : Code) → Leaf x → ((rest : Code) → in_front y rest ≡ in_front x rest) → pruned (in_front x rest) ≡ in_front y (if is_last_instr x then done else pruned rest)
unfolding pruned
prune_as x y rest (leaf p e l) same =
    ap pruned (e rest) ∙ sym (same (if is_last_instr x then done else pruned rest) ∙ e (if is_last_instr x then done else pruned rest) ∙ ap (λ b. plain p (if b then done else pruned rest)) l)

-- one that holds no other
pub prune_leaf : (x y : Instr) → is_leaf x ≡ true → ((rest : Code) → in_front y rest ≡ in_front x rest) → (rest : Code)
    → pruned (in_front x rest) ≡ in_front y (if is_last_instr x then done else pruned rest)
prune_leaf x y h same rest = prune_as x y rest (as_leaf x h) same

pub ruleset pruning = (prune_step, prune_last, onto_none, onto_done, code_empty, pruned_done)

pub ruleset pruning_one = (prune_block, prune_loop, prune_if, prune_leaf, leaf_other)
