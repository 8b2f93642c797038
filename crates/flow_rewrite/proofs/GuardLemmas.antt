-- Pieces under tests of the state: an empty one has none, and each other one has.
use Rattle.std.proofs.Common.{◌≡◌, ℕ, ◌<◌, ◌≤◌, ◌∷◌, List, [], length, Option, Some, None, Bool, true, false, sym, ap, ◌∙◌, subst, refl, arith}
use Rattle.std.specs.Prelude.{nat_eq}
use Rattle.wa_types.specs.declared.instrs.Instr.{Instr}
use Rattle.wa_types.specs.Syntax.{a_block, branch, nest, plain, Code, done}
use Rattle.wa_types.specs.View.{in_front, onto, code}
use Rattle.wa_types.proofs.ViewLemmas.{onto_none, is_block, is_loop, is_if, is_plain, instr_kind, in_block, in_loop, in_if}
use Rattle.guard_form.specs.Guarded.{Exit, GuardIndices, by_state, front, raised, guarded}
use Rattle.guard_form.specs.Pieces.{Units}
use Rattle.guard_form.proofs.CodeLemmas.{then_done}
use Rattle.flow_rewrite.specs.Begun.{begun, block_begun, guarded_begun, led, Fronted}
use Rattle.flow_rewrite.specs.Putting.{Puts}

pub length_none : (n : ℕ) (b : Bool) → b ≡ nat_eq n 0 → b ≡ true → n ≤ 0
length_none n b e t = grind arith

pub length_some : (n : ℕ) (b : Bool) → b ≡ nat_eq n 0 → b ≡ false → 0 < n
length_some n b e t = grind arith

-- an empty piece has no guard, and each other one has
pub guarded_none : (i : GuardIndices) (xs : List Instr) (next : Code) → length xs ≤ 0 → guarded i (code xs) next ≡ next
unfolding code onto
guarded_none i [] next le = refl
guarded_none i (x ∷ xs) next le = absurd (omega arith)

guarded_front : (i : GuardIndices) (x : Instr) (rest next : Code) → guarded i (in_front x rest) next ≡ by_state i.state done (raised 0 1 (in_front x rest)) next
guarded_front i x rest next = elim (instr_kind x) [
  | is_block r v e ↦ let q = ap (λ y. in_front y rest) e ∙ in_block r v rest in ap (λ c. guarded i c next) q ∙ ap (λ c. by_state i.state done (raised 0 1 c) next) (sym q)
  | is_loop r v e ↦ let q = ap (λ y. in_front y rest) e ∙ in_loop r v rest in ap (λ c. guarded i c next) q ∙ ap (λ c. by_state i.state done (raised 0 1 c) next) (sym q)
  | is_if r v w e ↦ let q = ap (λ y. in_front y rest) e ∙ in_if r v w rest in ap (λ c. guarded i c next) q ∙ ap (λ c. by_state i.state done (raised 0 1 c) next) (sym q)
  | is_plain p e ↦ ap (λ c. guarded i c next) (e rest) ∙ ap (λ c. by_state i.state done (raised 0 1 c) next) (sym (e rest))
]

pub guarded_some : (i : GuardIndices) (xs : List Instr) (next : Code) → 0 < length xs → guarded i (code xs) next ≡ by_state i.state done (raised 0 1 (code xs)) next
unfolding code onto
guarded_some i [] next lt = absurd (omega arith)
guarded_some i (x ∷ xs) next lt = guarded_front i x (code xs) next

-- ---- with a lead

pub restoring_put : (i : GuardIndices) (h inside first : Code) (old new : List Instr) → inside ≡ raised 0 1 first → Puts old new (λ c. by_state i.state h inside c)
    → Puts old new (guarded_begun i (Some h) first)
restoring_put i h inside first old new is puts = λ rest. puts rest ∙ (λ j. onto old (by_state i.state (sym (then_done h) j) (is j) rest))

pub begun_unled : (i : GuardIndices) (lead : Option Code) (piece : Code) (old new : List Instr) → lead ≡ None → Puts old new (guarded i piece) → Puts old new (guarded_begun i lead piece)
begun_unled i lead piece old new is puts = subst (λ o. Puts old new (guarded_begun i o piece)) (sym is) puts

pub begun_led : (i : GuardIndices) (lead : Option Code) (h piece : Code) (old new : List Instr) → lead ≡ Some h → Puts old new (guarded_begun i (Some h) piece) → Puts old new (guarded_begun i lead piece)
begun_led i lead h piece old new is puts = subst (λ o. Puts old new (guarded_begun i o piece)) (sym is) puts

pub lead_none : (lead : Option Code) (xs : List Instr) (rest : Code) → lead ≡ None → xs ≡ [] → onto xs rest ≡ led lead rest
lead_none lead xs rest is empty = ap (λ z. onto z rest) empty ∙ onto_none rest ∙ ap (λ o. led o rest) (sym is)

-- ---- in front of a block

-- without a piece the block's own sequence has the lead
pub fronted_none : (i : GuardIndices) (lead inner : Option Code) (old xs : List Instr) → length xs ≤ 0 → inner ≡ lead → Fronted i lead inner old old (code xs)
unfolding code onto
fronted_none i lead inner old [] le is = λ e d k first body next. ap (λ o. onto old (nest a_block None (begun i o e d k first body) next)) is
fronted_none i lead inner old (x ∷ xs) le is = absurd (omega arith)

-- a piece that isn't empty
abbrev Filled : Code → Type 0
Filled done = ⊥
Filled _ = Unit {0}

filled_front : (x : Instr) (rest : Code) → Filled (in_front x rest)
filled_front x rest = elim (instr_kind x) [
  | is_block r v e ↦ subst Filled (sym (ap (λ y. in_front y rest) e ∙ in_block r v rest)) tt
  | is_loop r v e ↦ subst Filled (sym (ap (λ y. in_front y rest) e ∙ in_loop r v rest)) tt
  | is_if r v w e ↦ subst Filled (sym (ap (λ y. in_front y rest) e ∙ in_if r v w rest)) tt
  | is_plain p e ↦ subst Filled (sym (e rest)) tt
]

filled : (xs : List Instr) → 0 < length xs → Filled (code xs)
unfolding code onto
filled [] lt = absurd (omega arith)
filled (x ∷ xs) lt = filled_front x (onto xs done)

block_filled : (i : GuardIndices) (lead : Option Code) (piece : Code) → Filled piece → (e : Exit) (d k : ℕ) (first : Code) (body : Units) (next : Code)
    → guarded_begun i lead piece (nest a_block None (front i e d k first body) next) ≡ block_begun i lead piece e d k first body next
block_filled i lead done h e d k first body next = absurd h
block_filled i lead (plain p c) h e d k first body next = refl
block_filled i lead (nest s r b c) h e d k first body next = refl
block_filled i lead (branch r x y c) h e d k first body next = refl

pub fronted_some : (i : GuardIndices) (lead inner : Option Code) (old new xs : List Instr) → 0 < length xs → inner ≡ None → Puts old new (guarded_begun i lead (code xs))
    → Fronted i lead inner old new (code xs)
fronted_some i lead inner old new xs lt is puts = λ e d k first body next.
    ap (λ o. onto new (nest a_block None (begun i o e d k first body) next)) is ∙ puts (nest a_block None (front i e d k first body) next)
    ∙ ap (onto old) (block_filled i lead (code xs) (filled xs lt) e d k first body next)
