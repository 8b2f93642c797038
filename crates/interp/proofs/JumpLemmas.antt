-- A branch, label by label.
use Rattle.std.proofs.Common.{arith, ◌≡◌, ℕ, zero, suc, ◌-◌, ◌≤◌, List, [], ◌∷◌, ◌++◌, map, reverse, take, Bool, refl, ap, sym, ◌∙◌}
use Rattle.wa_types.specs.declared.values.Value.{Value}
use Rattle.wa_types.specs.declared.values.Value.TheVariants as V
use Rattle.wa_types.specs.Syntax.{Module}
use Rattle.wa_types.specs.View.{code}
use Rattle.wa_model.specs.Store.{Store}
use Rattle.wa_model.specs.Configuration.{Activation, running}
use Rattle.wa_model.specs.Configuration as C
use Rattle.wa_model.specs.Step.{Next, steps, keep, leave, jump, result_count, with_number}
use Rattle.interp.specs.Told.{IsUnpaid}
use Rattle.interp_state.specs.declared.activation.Label.{Label}
use Rattle.interp_state.specs.declared.activation.Label.TheVariants as L
use Rattle.interp_state.specs.View.{count_of, label_of}
use Rattle.interp_state.proofs.OperandLemmas.{carried, handed, keep_is, none_carried, top_first, top_value}

leave_unpaid : (more : ℕ) (s : Store) (ops : List Value) (arity : ℕ) (under : List Activation) (left : ℕ) → left ≤ more → IsUnpaid (leave more s ops arity under) left
leave_unpaid more s ops arity [] left h = h
leave_unpaid more s ops arity (a ∷ under) left h = h

module _ (m : Module) (s : Store) (more fn : ℕ) (under : List Activation) (ls : List Value) where
  pub jump_unpaid : (ops : List Value) (labels : List C.Label) (l left : ℕ) → left ≤ more → IsUnpaid (jump more m s fn under ls ops labels l) left
  jump_unpaid ops [] l left h = leave_unpaid more s ops (result_count m fn) under left h
  jump_unpaid ops (C.block_label b arity rest skipped ∷ labels) zero left h = h
  jump_unpaid ops (C.block_label b arity rest skipped ∷ labels) (suc l) left h = jump_unpaid ops labels l left h
  jump_unpaid ops (C.loop_label b body rest ∷ labels) zero left h = h
  jump_unpaid ops (C.loop_label b body rest ∷ labels) (suc l) left h = jump_unpaid ops labels l left h

  -- by a number, where there is one
  pub table_unpaid : (ops : List Value) (labels : List C.Label) (to : ℕ → ℕ) (left : ℕ) → left ≤ more → IsUnpaid (with_number ops (λ n below. jump more m s fn under ls below labels (to n))) left
  table_unpaid [] labels to left h = tt
  table_unpaid (V.I32 n ∷ ops) labels to left h = jump_unpaid ops labels (to n) left h
  table_unpaid (V.I64 n ∷ ops) labels to left h = tt

module _ (m : Module) (s : Store) (more fn : ℕ) (under : List Activation) (ls ops : List Value) where
  -- the branch from these labels, the innermost last
  from : List Label → ℕ → Next
  from labels l = jump more m s fn under ls ops (map label_of (reverse labels)) l

  pub at_block : (labels labels' : List Label) (x : Label) (h l : ℕ) (carries : Bool) (rest : _) (skipped : _) (ops' : List Value) → labels ≡ labels' ++ x ∷ []
      → x ≡ L.Block h carries rest skipped → l ≡ 0 → ops' ≡ take (count_of carries) ops ++ keep h ops
      → jump more m s fn under ls ops (map label_of (reverse labels)) l ≡ steps more (running s fn under ls ops' (code rest.now) (map label_of (reverse labels')))
  at_block labels labels' x h l carries rest skipped ops' e ex el eo =
      ap (λ v. jump more m s fn under ls ops (map label_of v) l) (top_first labels labels' x e)
      ∙ ap (λ v. jump more m s fn under ls ops (label_of v ∷ map label_of (reverse labels')) l) ex
      ∙ ap (jump more m s fn under ls ops (label_of (L.Block h carries rest skipped) ∷ map label_of (reverse labels'))) el
      ∙ ap (λ v. steps more (running s fn under ls v (code rest.now) (map label_of (reverse labels')))) (sym eo)

  pub at_loop : (labels labels' : List Label) (x : Label) (h l : ℕ) (body rest : _) (ops' : List Value) → labels ≡ labels' ++ x ∷ [] → x ≡ L.Loop h body rest → l ≡ 0 → ops' ≡ keep h ops
      → jump more m s fn under ls ops (map label_of (reverse labels)) l ≡ steps more (running s fn under ls ops' (code body.now) (map label_of (reverse labels)))
  at_loop labels labels' x h l body rest ops' e ex el eo =
      let all = top_first labels labels' x e ∙ ap (λ v. v ∷ reverse labels') ex in
      ap (λ v. jump more m s fn under ls ops (map label_of v) l) all
      ∙ ap (jump more m s fn under ls ops (label_of (L.Loop h body rest) ∷ map label_of (reverse labels'))) el
      ∙ ap (λ v. steps more (running s fn under ls v (code body.now) (label_of (L.Loop h body rest) ∷ map label_of (reverse labels')))) (sym eo)
      ∙ ap (λ v. steps more (running s fn under ls ops' (code body.now) (map label_of v))) (sym all)

  passes_one : (x : Label) (labels : List C.Label) (l : ℕ) → jump more m s fn under ls ops (label_of x ∷ labels) (suc l) ≡ jump more m s fn under ls ops labels l
  passes_one (L.Block h carries rest skipped) labels l = refl
  passes_one (L.Loop h body rest) labels l = refl

  pub at_next : (labels labels' : List Label) (x : Label) (l : ℕ) → labels ≡ labels' ++ x ∷ [] → (l ≡ 0 → ⊥)
      → jump more m s fn under ls ops (map label_of (reverse labels')) (l - 1) ≡ jump more m s fn under ls ops (map label_of (reverse labels)) l
  at_next labels labels' x zero e h = absurd (h refl)
  at_next labels labels' x (suc l) e h =
      let n : suc l - 1 ≡ l = omega arith in
      ap (jump more m s fn under ls ops (map label_of (reverse labels'))) n
      ∙ sym (passes_one x (map label_of (reverse labels')) l)
      ∙ ap (λ v. jump more m s fn under ls ops (map label_of v) (suc l)) (sym (top_first labels labels' x e))

  pub at_none : (labels : List Label) (l : ℕ) → labels ≡ [] → jump more m s fn under ls ops (map label_of (reverse labels)) l ≡ leave more s ops (result_count m fn) under
  at_none labels l e = ap (λ v. jump more m s fn under ls ops (map label_of (reverse v)) l) e

-- of operands that are carried, handed over or returned
pub ruleset keeping = (keep_is, carried, none_carried)

pub ruleset handing = (handed, handed)

pub ruleset topping = (top_value, top_value)
