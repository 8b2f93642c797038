-- What is left to drop, step by step.
use Rattle.std.proofs.Common.{Bool, true, false, if◌then◌else◌, ◌≤◌, refl, ◌≡◌, ◌+◌, ◌*◌, ◌++◌, List, [], ◌∷◌, ap, ◌∙◌, arith, Option}
use Rattle.std.specs.declared.vec.Vec.{Vec}
use Rattle.std.specs.declared.alloc.Global.{Global}
use Rattle.wa_types.specs.declared.values.ValType.{ValType}
use Rattle.wa_types.specs.declared.instrs.Instr.{Instr}
use Rattle.wa_types.specs.declared.instrs.Instr.TheVariants.{Block, Loop, If}
use Rattle.wa_types.specs.Syntax.{Code, done}
use Rattle.wa_types.specs.View.{code, onto, in_front}
use Rattle.wa_types.specs.Counts.{count_of}
use Rattle.wa_types.proofs.ViewLemmas.{is_block, is_loop, is_if, is_plain, instr_kind, in_block, in_loop, in_if}
use Rattle.wa_types.specs.Dropping.{waiting}

pub count_front : (x : Instr) (rest : Code) → count_of (in_front x rest) ≡ count_of (in_front x done) + count_of rest
unfolding count_of
count_front x rest = elim (instr_kind x) [
  | is_block r v e ↦ ap (λ y. count_of (in_front y rest)) e ∙ ap count_of (in_block r v rest) ∙ omega (arith, ap (λ y. count_of (in_front y done)) e ∙ ap count_of (in_block r v done))
  | is_loop r v e ↦ ap (λ y. count_of (in_front y rest)) e ∙ ap count_of (in_loop r v rest) ∙ omega (arith, ap (λ y. count_of (in_front y done)) e ∙ ap count_of (in_loop r v done))
  | is_if r v w e ↦ ap (λ y. count_of (in_front y rest)) e ∙ ap count_of (in_if r v w rest) ∙ omega (arith, ap (λ y. count_of (in_front y done)) e ∙ ap count_of (in_if r v w done))
  | is_plain p e ↦ ap count_of (e rest) ∙ omega (arith, ap count_of (e done))
]

-- each instruction counts
pub count_some : (x : Instr) → 1 ≤ count_of (in_front x done)
unfolding count_of
count_some x = elim (instr_kind x) [
  | is_block r v e ↦ omega (arith, ap (λ y. count_of (in_front y done)) e ∙ ap count_of (in_block r v done))
  | is_loop r v e ↦ omega (arith, ap (λ y. count_of (in_front y done)) e ∙ ap count_of (in_loop r v done))
  | is_if r v w e ↦ omega (arith, ap (λ y. count_of (in_front y done)) e ∙ ap count_of (in_if r v w done))
  | is_plain p e ↦ omega (arith, ap count_of (e done))
]

pub count_block : (r : Option ValType) (v : Vec Instr Global) → count_of (in_front (Block r v) done) ≡ 1 + count_of (code v.items)
unfolding count_of
count_block r v = ap count_of (in_block r v done) ∙ omega arith

pub count_loop : (r : Option ValType) (v : Vec Instr Global) → count_of (in_front (Loop r v) done) ≡ 1 + count_of (code v.items)
unfolding count_of
count_loop r v = ap count_of (in_loop r v done) ∙ omega arith

pub count_if : (r : Option ValType) (v w : Vec Instr Global) → count_of (in_front (If r v w) done) ≡ 1 + count_of (code v.items) + count_of (code w.items)
unfolding count_of
count_if r v w = ap count_of (in_if r v w done) ∙ omega arith

-- an instruction that was the last of a list
pub count_last : (xs : List Instr) (x : Instr) → count_of (code (xs ++ x ∷ [])) ≡ count_of (code xs) + count_of (in_front x done)
unfolding code onto count_of
count_last [] x = omega arith
count_last (y ∷ ys) x = count_front y (code (ys ++ x ∷ [])) ∙ omega (arith, count_last ys x, count_front y (code ys))

pub count_none : count_of (code []) ≡ 0
unfolding code onto count_of
count_none = refl

-- a body that waits last
pub waiting_last : (vs : List (Vec Instr Global)) (v : Vec Instr Global) → waiting (vs ++ v ∷ []) ≡ waiting vs + 3 * count_of (code v.items) + 1
unfolding waiting
waiting_last [] v = omega arith
waiting_last (w ∷ ws) v = omega (arith, waiting_last ws v)

-- a body that waits, if there was memory for it
pub waiting_pushed : (b : Bool) (vs : List (Vec Instr Global)) (v : Vec Instr Global) → waiting (if b then vs ++ v ∷ [] else vs) ≤ waiting vs + 3 * count_of (code v.items) + 1
waiting_pushed true vs v = omega (arith, waiting_last vs v)
waiting_pushed false vs v = omega arith
