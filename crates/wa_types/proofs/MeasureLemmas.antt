-- Counts and depths of the code of a list of instructions, step by step.
use Rattle.std.proofs.Common.{◌≡◌, ℕ, ◌+◌, ◌<◌, ◌≤◌, max, List, ap, sym, ◌∙◌, arith, Option, length, get_or, drop}
use Rattle.std.specs.Ordering.{ord_max, nat_cmp}
use Rattle.std.proofs.lemmas.Bool.Decides.{nat_tests}
use Rattle.std.specs.declared.vec.Vec.{Vec}
use Rattle.std.specs.declared.alloc.Global.{Global}
use Rattle.wa_types.specs.declared.values.ValType.{ValType}
use Rattle.wa_types.specs.declared.instrs.Instr.{Instr}
use Rattle.wa_types.specs.declared.instrs.Instr.TheVariants.{Block, Loop, If}
use Rattle.wa_types.specs.Syntax.{Code, done, plain, nest, branch}
use Rattle.wa_types.specs.View.{code, in_front}
use Rattle.wa_types.specs.Counts.{count_of, depth_of}
use Rattle.wa_types.proofs.ViewLemmas.{is_block, is_loop, is_if, is_plain, instr_kind, in_block, in_loop, in_if, code_step, code_empty}

count_front : (x : Instr) (rest : Code) → count_of (in_front x rest) ≡ count_of (in_front x done) + count_of rest
unfolding count_of
count_front x rest = elim (instr_kind x) [
  | is_block r v e ↦ ap (λ y. count_of (in_front y rest)) e ∙ ap count_of (in_block r v rest) ∙ omega (arith, ap (λ y. count_of (in_front y done)) e ∙ ap count_of (in_block r v done))
  | is_loop r v e ↦ ap (λ y. count_of (in_front y rest)) e ∙ ap count_of (in_loop r v rest) ∙ omega (arith, ap (λ y. count_of (in_front y done)) e ∙ ap count_of (in_loop r v done))
  | is_if r v w e ↦ ap (λ y. count_of (in_front y rest)) e ∙ ap count_of (in_if r v w rest) ∙ omega (arith, ap (λ y. count_of (in_front y done)) e ∙ ap count_of (in_if r v w done))
  | is_plain p e ↦ ap count_of (e rest) ∙ omega (arith, ap count_of (e done))
]

pub count_block : (r : Option ValType) (v : Vec Instr Global) → count_of (in_front (Block r v) done) ≡ 1 + count_of (code v.items)
unfolding count_of
count_block r v = ap count_of (in_block r v done) ∙ omega arith

pub count_loop : (r : Option ValType) (v : Vec Instr Global) → count_of (in_front (Loop r v) done) ≡ 1 + count_of (code v.items)
unfolding count_of
count_loop r v = ap count_of (in_loop r v done) ∙ omega arith

pub count_if : (r : Option ValType) (v w : Vec Instr Global) → count_of (in_front (If r v w) done) ≡ 1 + count_of (code v.items) + count_of (code w.items)
unfolding count_of
count_if r v w = ap count_of (in_if r v w done) ∙ omega arith

pub count_step : (xs : List Instr) (i : ℕ) (x : Instr) → i < length xs → x ≡ get_or xs i x → count_of (code (drop i xs)) ≡ count_of (in_front x done) + count_of (code (drop (i + 1) xs))
count_step xs i x h e = ap count_of (code_step xs i x h e) ∙ count_front x (code (drop (i + 1) xs))

pub count_empty : (xs : List Instr) (i : ℕ) → length xs ≤ i → count_of (code (drop i xs)) ≡ 0
unfolding count_of
count_empty xs i h = ap count_of (code_empty xs i h)

-- an instruction that is no construct
pub count_other : (x : Instr) → ((r : Option ValType) (v : Vec Instr Global) → x ≡ Block r v → ⊥) → ((r : Option ValType) (v : Vec Instr Global) → x ≡ Loop r v → ⊥)
    → ((r : Option ValType) (v w : Vec Instr Global) → x ≡ If r v w → ⊥) → 1 ≡ count_of (in_front x done)
unfolding count_of
count_other x not_block not_loop not_if = elim (instr_kind x) [
  | is_block r v e ↦ absurd (not_block r v e)
  | is_loop r v e ↦ absurd (not_loop r v e)
  | is_if r v w e ↦ absurd (not_if r v w e)
  | is_plain p e ↦ sym (ap count_of (e done))
]

pub ruleset counting = (count_step, count_empty, count_block, count_loop, count_if)

depth_front : (x : Instr) (rest : Code) → depth_of (in_front x rest) ≡ max (depth_of (in_front x done)) (depth_of rest)
unfolding depth_of
depth_front x rest = elim (instr_kind x) [
  | is_block r v e ↦ ap (λ y. depth_of (in_front y rest)) e ∙ ap depth_of (in_block r v rest) ∙ omega (arith, ap (λ y. depth_of (in_front y done)) e ∙ ap depth_of (in_block r v done))
  | is_loop r v e ↦ ap (λ y. depth_of (in_front y rest)) e ∙ ap depth_of (in_loop r v rest) ∙ omega (arith, ap (λ y. depth_of (in_front y done)) e ∙ ap depth_of (in_loop r v done))
  | is_if r v w e ↦ ap (λ y. depth_of (in_front y rest)) e ∙ ap depth_of (in_if r v w rest) ∙ omega (arith, ap (λ y. depth_of (in_front y done)) e ∙ ap depth_of (in_if r v w done))
  | is_plain p e ↦ ap depth_of (e rest) ∙ omega (arith, ap depth_of (e done))
]

pub depth_block : (r : Option ValType) (v : Vec Instr Global) → depth_of (in_front (Block r v) done) ≡ 1 + depth_of (code v.items)
unfolding depth_of
depth_block r v = ap depth_of (in_block r v done) ∙ omega arith

pub depth_loop : (r : Option ValType) (v : Vec Instr Global) → depth_of (in_front (Loop r v) done) ≡ 1 + depth_of (code v.items)
unfolding depth_of
depth_loop r v = ap depth_of (in_loop r v done) ∙ omega arith

pub depth_if : (r : Option ValType) (v w : Vec Instr Global) → depth_of (in_front (If r v w) done) ≡ 1 + max (depth_of (code v.items)) (depth_of (code w.items))
unfolding depth_of
depth_if r v w = ap depth_of (in_if r v w done) ∙ omega arith

pub depth_step : (xs : List Instr) (i : ℕ) (x : Instr) → i < length xs → x ≡ get_or xs i x → depth_of (code (drop i xs)) ≡ max (depth_of (in_front x done)) (depth_of (code (drop (i + 1) xs)))
depth_step xs i x h e = ap depth_of (code_step xs i x h e) ∙ depth_front x (code (drop (i + 1) xs))

pub depth_empty : (xs : List Instr) (i : ℕ) → length xs ≤ i → depth_of (code (drop i xs)) ≡ 0
unfolding depth_of
depth_empty xs i h = ap depth_of (code_empty xs i h)

pub depth_other : (x : Instr) → ((r : Option ValType) (v : Vec Instr Global) → x ≡ Block r v → ⊥) → ((r : Option ValType) (v : Vec Instr Global) → x ≡ Loop r v → ⊥)
    → ((r : Option ValType) (v w : Vec Instr Global) → x ≡ If r v w → ⊥) → 0 ≡ depth_of (in_front x done)
unfolding depth_of
depth_other x not_block not_loop not_if = elim (instr_kind x) [
  | is_block r v e ↦ absurd (not_block r v e)
  | is_loop r v e ↦ absurd (not_loop r v e)
  | is_if r v w e ↦ absurd (not_if r v w e)
  | is_plain p e ↦ sym (ap depth_of (e done))
]

-- code nests no deeper than it has instructions
pub depth_count : (k : Code) → depth_of k ≤ count_of k
unfolding depth_of count_of
depth_count done = omega arith
depth_count (plain p rest) = omega (arith, depth_count rest)
depth_count (nest s r body rest) = omega (arith, depth_count body, depth_count rest)
depth_count (branch r a b rest) = omega (arith, depth_count a, depth_count b, depth_count rest)

-- the greater of two numbers, as the program computes it
pub max_is : (a b : ℕ) → ord_max nat_cmp a b ≡ max a b
max_is a b = grind (arith, nat_tests)

pub ruleset measuring = (max_is, depth_step, depth_empty, depth_block, depth_loop, depth_if, count_step, count_empty, count_block, count_loop, count_if, depth_count)
