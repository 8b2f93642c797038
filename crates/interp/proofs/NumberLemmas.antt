-- The topmost operand as a number, and what stands on it.
use Rattle.std.proofs.Common.{◌≡◌, ℕ, ◌-◌, List, [], ◌∷◌, ◌++◌, length, reverse, take, drop, slice_get, Some, true, if◌then◌else◌, refl, ap, sym, ◌∙◌}
use Rattle.std.proofs.lemmas.List.{nil_from_length}
use Rattle.wa_types.specs.declared.values.Value.{Value}
use Rattle.wa_types.specs.declared.values.Value.TheVariants as V
use Rattle.wa_types.specs.declared.values.Trap.TheVariants.{TypeMismatch}
use Rattle.wa_types.specs.Syntax.{call_indirect, Code, Module}
use Rattle.wa_types.specs.Modules.{defined_at, type_at, func_type_at}
use Rattle.wa_model.specs.Store.{Store}
use Rattle.wa_model.specs.Configuration.{Label, Activation}
use Rattle.wa_model.specs.Step.{Next, stuck, traps, with_number, through, invoke, param_count, same_func_type, step_plain}
use Rattle.interp.specs.Stacks.{HasNumber, LacksNumber}
use Rattle.interp_state.proofs.OperandLemmas.{last_is, top_first}

first_number : (ops : List Value) (n : ℕ) → slice_get ops 0 ≡ Some (V.I32 n) → ops ≡ V.I32 n ∷ drop 1 ops
first_number [] n e = cc
first_number (v ∷ ops) n e = let same : v ≡ V.I32 n = cc in ap (λ w. w ∷ ops) same

pub has_number : (xs : List Value) (n : ℕ) → slice_get xs (length xs - 1) ≡ Some (V.I32 n) → HasNumber (reverse xs) n
has_number xs n e = record { is = first_number (reverse xs) n (sym (last_is xs) ∙ e) }

no_first : (ops : List Value) (on : ℕ → List Value → Next) → ((n : ℕ) → slice_get ops 0 ≡ Some (V.I32 n) → ⊥) → with_number ops on ≡ stuck
no_first [] on h = refl
no_first (V.I32 n ∷ ops) on h = absurd (h n refl)
no_first (V.I64 n ∷ ops) on h = refl

pub lacks_number : (xs : List Value) → ((n : ℕ) → slice_get xs (length xs - 1) ≡ Some (V.I32 n) → ⊥) → LacksNumber (reverse xs)
lacks_number xs h = record { is = λ on. no_first (reverse xs) on (λ n e. h n (last_is xs ∙ e)) }

pub ruleset peeking = (has_number, lacks_number)

pub lacks_none : (xs : List Value) → length xs ≡ 0 → LacksNumber (reverse xs)
lacks_none xs e = record { is = λ on. ap (λ v. with_number (reverse v) on) (nil_from_length xs e) }

pub lacks_wide : (xs ys : List Value) (n : ℕ) → xs ≡ ys ++ V.I64 n ∷ [] → LacksNumber (reverse xs)
lacks_wide xs ys n e = record { is = λ on. ap (λ v. with_number v on) (top_first xs ys (V.I64 n) e) }

pub ruleset popping = (lacks_none, lacks_wide, top_first)

module _ (m : Module) (s : Store) (fn : ℕ) (under : List Activation) (ls ops : List Value) (labels : List Label) (rest : Code) where
  -- with a number topmost
  pub indirect_at : (sort n : ℕ) → HasNumber ops n → step_plain m s fn under ls ops labels rest (call_indirect sort)
      ≡ through m s fn under ls (take 1 ops) (drop 1 ops) rest labels sort (slice_get s.table n)
  indirect_at sort n h =
      ap (λ v. step_plain m s fn under ls v labels rest (call_indirect sort)) h.is
      ∙ ap (λ v. through m s fn under ls v (drop 1 ops) rest labels sort (slice_get s.table n)) (sym (ap (take 1) h.is))

  -- and an element that holds a function of the type
  pub indirect_invokes : (sort n x params : ℕ) → HasNumber ops n → slice_get s.table n ≡ Some (Some x) → same_func_type (func_type_at m x) (type_at m sort) ≡ true
      → params ≡ param_count (type_at m sort) → invoke m s fn under ls (take 1 ops) (drop 1 ops) rest labels params x (defined_at m x)
      ≡ step_plain m s fn under ls ops labels rest (call_indirect sort)
  indirect_invokes sort n x params h e et ep =
      sym
      (indirect_at sort n h
      ∙ ap (through m s fn under ls (take 1 ops) (drop 1 ops) rest labels sort) e
      ∙ ap (λ b. if b then invoke m s fn under ls (take 1 ops) (drop 1 ops) rest labels (param_count (type_at m sort)) x (defined_at m x) else traps (param_count (type_at m sort)) TypeMismatch s) et
      ∙ ap (λ p. invoke m s fn under ls (take 1 ops) (drop 1 ops) rest labels p x (defined_at m x)) (sym ep))
