-- The calls of the code of a list of instructions, step by step.
use Rattle.std.proofs.Common.{◌≡◌, ℕ, ◌+◌, ◌<◌, ◌≤◌, ◌++◌, List, [], ◌∷◌, map, refl, ap, sym, ◌∙◌, Bool, true, false, if◌then◌else◌, Option, length, get_or, drop, append_assoc}
use Rattle.std.proofs.lemmas.List.{append-nil, map-append}
use Rattle.std.specs.declared.vec.Vec.{Vec}
use Rattle.std.specs.declared.alloc.Global.{Global}
use Rattle.wa_types.specs.declared.values.ValType.{ValType}
use Rattle.wa_types.specs.declared.instrs.Instr.{Instr}
use Rattle.wa_types.specs.declared.instrs.Instr.TheVariants.{Unreachable, Nop, Drop, Select, Return, MemorySize, MemoryGrow, MemoryCopy, MemoryFill, Const, Num, Br, BrIf, BrTable, Call, CallIndirect, LocalGet}
use Rattle.wa_types.specs.declared.instrs.Instr.TheVariants.{LocalSet, LocalTee, GlobalGet, GlobalSet, Load, Store, Block, Loop, If, Block', Loop', If'}
use Rattle.wa_types.specs.Syntax.{Plain, Code, done, plain, nest, branch}
use Rattle.wa_types.specs.View.{code, in_front}
use Rattle.wa_types.specs.Pruned.{is_last_instr, pruned}
use Rattle.wa_types.specs.Pausing.{Callee as PlainCallee, direct, indirect, calls_of}
use Rattle.wa_types.proofs.ViewLemmas.{is_block, is_loop, is_if, is_plain, instr_kind, in_block, in_loop, in_if, code_step, code_empty}
use Rattle.call_graph.specs.declared.calls.Callee.{Callee}
use Rattle.call_graph.specs.Calls.{callee_of}

-- the calls of pruned code that begins with an instruction
calls_front : (x : Instr) (rest : Code) → calls_of (pruned (in_front x rest)) ≡ calls_of (pruned (in_front x done)) ++ calls_of (if is_last_instr x then done else pruned rest)
unfolding calls_of pruned in_front is_last_instr
calls_front Unreachable rest = refl
calls_front Nop rest = refl
calls_front Drop rest = refl
calls_front Select rest = refl
calls_front Return rest = refl
calls_front MemorySize rest = refl
calls_front MemoryGrow rest = refl
calls_front MemoryCopy rest = refl
calls_front MemoryFill rest = refl
calls_front (Const v) rest = refl
calls_front (Num op) rest = refl
calls_front (Br l) rest = refl
calls_front (BrIf l) rest = refl
calls_front (BrTable ls l) rest = refl
calls_front (Call x) rest = refl
calls_front (CallIndirect x) rest = refl
calls_front (LocalGet x) rest = refl
calls_front (LocalSet x) rest = refl
calls_front (LocalTee x) rest = refl
calls_front (GlobalGet x) rest = refl
calls_front (GlobalSet x) rest = refl
calls_front (Load op a o) rest = refl
calls_front (Store op a o) rest = refl
calls_front (Block' r s k) rest = rw append-nil refl
calls_front (Loop' r s k) rest = rw append-nil refl
calls_front (If' r s k t l) rest = rw append-nil refl

calls_at : (xs : List Instr) (i : ℕ) (x : Instr) (b : Bool) → i < length xs → x ≡ get_or xs i x → is_last_instr x ≡ b
    → calls_of (pruned (code (drop i xs))) ≡ calls_of (pruned (in_front x done)) ++ calls_of (if b then done else pruned (code (drop (i + 1) xs)))
calls_at xs i x b h e last =
    ap (λ k. calls_of (pruned k)) (code_step xs i x h e)
    ∙ calls_front x (code (drop (i + 1) xs))
    ∙ ap (λ c. calls_of (pruned (in_front x done)) ++ calls_of (if c then done else pruned (code (drop (i + 1) xs)))) last

-- one more instruction's calls are put
pub calls_step : (put new all : List PlainCallee) (xs : List Instr) (i : ℕ) (x : Instr) → i < length xs → x ≡ get_or xs i x → is_last_instr x ≡ false
    → new ≡ put ++ calls_of (pruned (in_front x done)) → put ++ calls_of (pruned (code (drop i xs))) ≡ all → new ++ calls_of (pruned (code (drop (i + 1) xs))) ≡ all
calls_step put new all xs i x h e last n before =
    ap (λ z. z ++ calls_of (pruned (code (drop (i + 1) xs)))) n
    ∙ append_assoc put (calls_of (pruned (in_front x done))) (calls_of (pruned (code (drop (i + 1) xs))))
    ∙ ap (λ z. put ++ z) (sym (calls_at xs i x false h e last)) ∙ before

pub calls_last : (put new all : List PlainCallee) (xs : List Instr) (i : ℕ) (x : Instr) → i < length xs → x ≡ get_or xs i x → is_last_instr x ≡ true
    → new ≡ put ++ calls_of (pruned (in_front x done)) → put ++ calls_of (pruned (code (drop i xs))) ≡ all → new ≡ all
unfolding calls_of
calls_last put new all xs i x h e last n before =
    n ∙ ap (λ z. put ++ z) (sym (append-nil (calls_of (pruned (in_front x done)))) ∙ sym (calls_at xs i x true h e last)) ∙ before

pub calls_end : (put all : List PlainCallee) (xs : List Instr) (i : ℕ) → length xs ≤ i → put ++ calls_of (pruned (code (drop i xs))) ≡ all → put ≡ all
unfolding calls_of pruned
calls_end put all xs i h before =
    sym (append-nil put) ∙ ap (λ k. put ++ calls_of (pruned k)) (sym (code_empty xs i h)) ∙ before

pub callee_more : (xs new : List Callee) (x : Callee) → new ≡ xs ++ x ∷ [] → map callee_of new ≡ map callee_of xs ++ callee_of x ∷ []
callee_more xs new x e = ap (map callee_of) e ∙ map-append callee_of xs (x ∷ [])

pub calls_direct : (x : ℕ) → calls_of (pruned (in_front (Call x) done)) ≡ direct x ∷ []
unfolding calls_of pruned in_front
calls_direct x = refl

pub calls_indirect : (x : ℕ) → calls_of (pruned (in_front (CallIndirect x) done)) ≡ indirect x ∷ []
unfolding calls_of pruned in_front
calls_indirect x = refl

pub calls_block : (r : Option ValType) (v : Vec Instr Global) → calls_of (pruned (in_front (Block r v) done)) ≡ calls_of (pruned (code v.items))
unfolding calls_of pruned
calls_block r v = ap (λ k. calls_of (pruned k)) (in_block r v done) ∙ append-nil (calls_of (pruned (code v.items)))

pub calls_loop : (r : Option ValType) (v : Vec Instr Global) → calls_of (pruned (in_front (Loop r v) done)) ≡ calls_of (pruned (code v.items))
unfolding calls_of pruned
calls_loop r v = ap (λ k. calls_of (pruned k)) (in_loop r v done) ∙ append-nil (calls_of (pruned (code v.items)))

pub calls_if : (r : Option ValType) (v w : Vec Instr Global) → calls_of (pruned (in_front (If r v w) done)) ≡ calls_of (pruned (code v.items)) ++ calls_of (pruned (code w.items))
unfolding calls_of pruned
calls_if r v w =
    ap (λ k. calls_of (pruned k)) (in_if r v w done) ∙ append-nil (calls_of (pruned (code v.items)) ++ calls_of (pruned (code w.items)))

is_construct : Code → Bool
is_construct (nest s r body rest) = true
is_construct (branch r a b rest) = true
is_construct _ = false

plain_not : (p : Plain) → is_construct (plain p done) ≡ true → ⊥
unfolding is_construct
plain_not p e = cc

-- what stands in front of code as a construct is one
no_construct : (x : Instr) → ((r : Option ValType) (v : Vec Instr Global) → x ≡ Block r v → ⊥) → ((r : Option ValType) (v : Vec Instr Global) → x ≡ Loop r v → ⊥)
    → ((r : Option ValType) (v w : Vec Instr Global) → x ≡ If r v w → ⊥) → is_construct (in_front x done) ≡ true → ⊥
no_construct x not_block not_loop not_if h = elim (instr_kind x) [
  | is_block r v e ↦ not_block r v e
  | is_loop r v e ↦ not_loop r v e
  | is_if r v w e ↦ not_if r v w e
  | is_plain p e ↦ plain_not p (sym (ap is_construct (e done)) ∙ h)
]

none_in : (x : Instr) → ((f : ℕ) → x ≡ Call f → ⊥) → ((t : ℕ) → x ≡ CallIndirect t → ⊥) → ((r : Option ValType) (v : Vec Instr Global) → x ≡ Block r v → ⊥)
    → ((r : Option ValType) (v : Vec Instr Global) → x ≡ Loop r v → ⊥) → ((r : Option ValType) (v w : Vec Instr Global) → x ≡ If r v w → ⊥) → calls_of (pruned (in_front x done)) ≡ []
unfolding calls_of pruned in_front is_construct
none_in (Call f) no_call no_indirect not_block not_loop not_if = absurd (no_call f refl)
none_in (CallIndirect t) no_call no_indirect not_block not_loop not_if = absurd (no_indirect t refl)
none_in (Block' r s k) no_call no_indirect not_block not_loop not_if = absurd (no_construct (Block' r s k) not_block not_loop not_if refl)
none_in (Loop' r s k) no_call no_indirect not_block not_loop not_if = absurd (no_construct (Loop' r s k) not_block not_loop not_if refl)
none_in (If' r s k t l) no_call no_indirect not_block not_loop not_if = absurd (no_construct (If' r s k t l) not_block not_loop not_if refl)
none_in _ no_call no_indirect not_block not_loop not_if = refl

-- one that is no call and no construct puts none
pub calls_other : (put : List PlainCallee) (x : Instr) → ((f : ℕ) → x ≡ Call f → ⊥) → ((t : ℕ) → x ≡ CallIndirect t → ⊥) → ((r : Option ValType) (v : Vec Instr Global) → x ≡ Block r v → ⊥)
    → ((r : Option ValType) (v : Vec Instr Global) → x ≡ Loop r v → ⊥) → ((r : Option ValType) (v w : Vec Instr Global) → x ≡ If r v w → ⊥) → put ≡ put ++ calls_of (pruned (in_front x done))
calls_other put x no_call no_indirect not_block not_loop not_if =
    sym (append-nil put) ∙ ap (λ z. put ++ z) (sym (none_in x no_call no_indirect not_block not_loop not_if))

pub ruleset calling = (calls_step, calls_last, calls_end, callee_more, calls_direct, calls_indirect, calls_block, calls_loop, calls_if, append_assoc)
