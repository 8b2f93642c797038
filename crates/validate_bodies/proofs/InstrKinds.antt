-- The code of a list of instructions, level by level.
use Rattle.std.proofs.Common.{arith, ◌≡◌, ℕ, ◌+◌, ◌<◌, ◌≤◌, List, [], ◌∷◌, length, drop, get_or, Option, Some, refl, ap, sym, ◌∙◌, subst}
use Rattle.std.specs.declared.vec.Vec.{Vec}
use Rattle.std.specs.declared.alloc.Global.{Global}
use Rattle.wa_types.specs.declared.values.ValType.{ValType}
use Rattle.wa_types.specs.declared.instrs.Instr.{Instr, roll-Instr, roll-out-Instr}
use Rattle.wa_types.specs.declared.instrs.Instr.TheVariants.{Unreachable, Nop, Drop, Select, Return, MemorySize, MemoryGrow, MemoryCopy, MemoryFill, Const, Num, Br, BrIf, BrTable, Call, CallIndirect, LocalGet, LocalSet, LocalTee, GlobalGet, GlobalSet, Load, Store, Block, Loop, If, Block', Loop', If', rolls-Block, rolls-Loop, rolls-If, outs-Block', outs-Loop', outs-If'}
use Rattle.wa_types.specs.Syntax.{Plain, Shape, a_block, a_loop, Code, done, plain, nest, branch}
use Rattle.wa_types.specs.View.{in_front, onto, code}
use Rattle.wa_types.specs.FirstFault.{size, mid}
use Rattle.wa_types.proofs.ViewLemmas.{in_block, in_loop, in_if, code_step, code_empty, code_none}
use Rattle.validate_bodies.specs.Table.{plain_of}

pub data LeafKind (x : Instr) : Type 0 where
  is_block : (r : Option ValType) (v : Vec Instr Global) → x ≡ Block r v → LeafKind x
  is_loop : (r : Option ValType) (v : Vec Instr Global) → x ≡ Loop r v → LeafKind x
  is_branch : (r : Option ValType) (v w : Vec Instr Global) → x ≡ If r v w → LeafKind x
  is_plain : (p : Plain) → plain_of x ≡ Some p → ((rest : Code) → in_front x rest ≡ plain p rest) → LeafKind x

pub leaf_kind : (x : Instr) → LeafKind x
unfolding in_front plain_of
leaf_kind Unreachable = is_plain _ refl (λ rest. refl)
leaf_kind Nop = is_plain _ refl (λ rest. refl)
leaf_kind Drop = is_plain _ refl (λ rest. refl)
leaf_kind Select = is_plain _ refl (λ rest. refl)
leaf_kind Return = is_plain _ refl (λ rest. refl)
leaf_kind MemorySize = is_plain _ refl (λ rest. refl)
leaf_kind MemoryGrow = is_plain _ refl (λ rest. refl)
leaf_kind MemoryCopy = is_plain _ refl (λ rest. refl)
leaf_kind MemoryFill = is_plain _ refl (λ rest. refl)
leaf_kind (Const v) = is_plain _ refl (λ rest. refl)
leaf_kind (Num op) = is_plain _ refl (λ rest. refl)
leaf_kind (Br l) = is_plain _ refl (λ rest. refl)
leaf_kind (BrIf l) = is_plain _ refl (λ rest. refl)
leaf_kind (BrTable ls l) = is_plain _ refl (λ rest. refl)
leaf_kind (Call x) = is_plain _ refl (λ rest. refl)
leaf_kind (CallIndirect x) = is_plain _ refl (λ rest. refl)
leaf_kind (LocalGet x) = is_plain _ refl (λ rest. refl)
leaf_kind (LocalSet x) = is_plain _ refl (λ rest. refl)
leaf_kind (LocalTee x) = is_plain _ refl (λ rest. refl)
leaf_kind (GlobalGet x) = is_plain _ refl (λ rest. refl)
leaf_kind (GlobalSet x) = is_plain _ refl (λ rest. refl)
leaf_kind (Load op align offset) = is_plain _ refl (λ rest. refl)
leaf_kind (Store op align offset) = is_plain _ refl (λ rest. refl)
leaf_kind (Block' r s k) = is_block r _ (sym (roll-out-Instr (Block' r s k)) ∙ ap roll-Instr (outs-Block' r s k) ∙ rolls-Block r _)
leaf_kind (Loop' r s k) = is_loop r _ (sym (roll-out-Instr (Loop' r s k)) ∙ ap roll-Instr (outs-Loop' r s k) ∙ rolls-Loop r _)
leaf_kind (If' r s k t l) = is_branch r _ _ (sym (roll-out-Instr (If' r s k t l)) ∙ ap roll-Instr (outs-If' r s k t l) ∙ rolls-If r _ _)

pub size_plain : (p : Plain) (rest : Code) → size (plain p rest) ≡ 1 + size rest
unfolding size
size_plain p rest = refl

pub size_nest : (s : Shape) (r : Option ValType) (a rest : Code) → size (nest s r a rest) ≡ 2 + size a + size rest
unfolding size
size_nest s r a rest = refl

pub size_branch : (r : Option ValType) (a b rest : Code) → size (branch r a b rest) ≡ 2 + size a + mid b + size b + size rest
unfolding size
size_branch r a b rest = refl

pub size_done : size done ≡ 0
unfolding size
size_done = refl

pub size_block : (r : Option ValType) (v : Vec Instr Global) (rest : Code) → size (in_front (Block r v) rest) ≡ 2 + size (code v.items) + size rest
size_block r v rest = ap size (in_block r v rest) ∙ size_nest a_block r (code v.items) rest

pub size_loop : (r : Option ValType) (v : Vec Instr Global) (rest : Code) → size (in_front (Loop r v) rest) ≡ 2 + size (code v.items) + size rest
size_loop r v rest = ap size (in_loop r v rest) ∙ size_nest a_loop r (code v.items) rest

pub size_if : (r : Option ValType) (v w : Vec Instr Global) (rest : Code) → size (in_front (If r v w) rest) ≡ 2 + size (code v.items) + mid (code w.items) + size (code w.items) + size rest
size_if r v w rest = ap size (in_if r v w rest) ∙ size_branch r (code v.items) (code w.items) rest

pub size_front : (x : Instr) (rest : Code) → size (in_front x rest) ≡ size (in_front x done) + size rest
size_front x rest = elim (leaf_kind x) [
  | is_block r v e ↦ subst (λ (y : Instr). size (in_front y rest) ≡ size (in_front y done) + size rest) (sym e) (omega (arith, size_block r v rest, size_block r v done, size_done))
  | is_loop r v e ↦ subst (λ (y : Instr). size (in_front y rest) ≡ size (in_front y done) + size rest) (sym e) (omega (arith, size_loop r v rest, size_loop r v done, size_done))
  | is_branch r v w e ↦ subst (λ (y : Instr). size (in_front y rest) ≡ size (in_front y done) + size rest) (sym e) (omega (arith, size_if r v w rest, size_if r v w done, size_done))
  | is_plain p e f ↦ omega (arith, ap size (f rest), ap size (f done), size_plain p rest, size_plain p done, size_done)
]

pub code_cons : (x : Instr) (xs : List Instr) → code (x ∷ xs) ≡ in_front x (code xs)
unfolding code onto
code_cons x xs = refl

pub size_step : (xs : List Instr) (i : ℕ) (x : Instr) → i < length xs → x ≡ get_or xs i x → size (code (drop i xs)) ≡ size (in_front x done) + size (code (drop (i + 1) xs))
size_step xs i x h e = ap size (code_step xs i x h e) ∙ size_front x _

pub size_empty : (xs : List Instr) (i : ℕ) → length xs ≤ i → size (code (drop i xs)) ≡ 0
size_empty xs i h = ap size (code_empty xs i h) ∙ size_done

-- an else is counted where its arm isn't empty
pub mid_front : (x : Instr) (rest : Code) → mid (in_front x rest) ≡ 1
mid_front x rest = elim (leaf_kind x) [
  | is_block r v e ↦ ap (λ (y : Instr). mid (in_front y rest)) e ∙ ap mid (in_block r v rest)
  | is_loop r v e ↦ ap (λ (y : Instr). mid (in_front y rest)) e ∙ ap mid (in_loop r v rest)
  | is_branch r v w e ↦ ap (λ (y : Instr). mid (in_front y rest)) e ∙ ap mid (in_if r v w rest)
  | is_plain p e f ↦ ap mid (f rest)
]

pub mid_empty : (xs : List Instr) → length xs ≡ 0 → mid (code xs) ≡ 0
mid_empty [] h = ap mid code_none
mid_empty (x ∷ xs) h = absurd (omega arith)

pub mid_some : (xs : List Instr) → 0 < length xs → mid (code xs) ≡ 1
mid_some [] h = absurd (omega arith)
mid_some (x ∷ xs) h = ap mid (code_cons x xs) ∙ mid_front x (code xs)

pub ruleset middling = (mid_empty, mid_some)
