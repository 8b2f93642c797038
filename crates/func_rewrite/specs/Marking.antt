-- The stacks of numbered calls, as they are marked.
use Rattle.std.specs.Prelude.{◌≡◌, ◌<◌, ◌^◌, ◌+◌, ◌&&◌, ◌||◌, ℕ, suc, List, [], ◌∷◌, length, get_or, Bool, false, All, nat_eq}
use Rattle.std.specs.List.{list_any}
use Rattle.run_theory.specs.Flat.{Stmts}
use Rattle.run_theory.specs.Growth.{Each}
use Rattle.flat_laws.specs.FlatModule.{stacks_in}
use Rattle.guard_form.specs.Grouping.{is_place}
use Rattle.guard_form.specs.Pieces.{call_total}
use Rattle.flow_rewrite.specs.Emitting.{Rises}

-- a local is in one of these stacks, the first of which is that of the call at this place, whose call is numbered
abbrev pub is_held : (numbers : List ℕ) → (place : ℕ) → List (List ℕ) → ℕ → Bool
is_held numbers n [] x = false
is_held numbers n (stack ∷ stacks) x = (is_place numbers n && list_any (nat_eq x) stack) || is_held numbers (suc n) stacks x

-- each local of each stack is one of so many
abbrev pub StacksFit : (locals : ℕ) → Stmts → Type 0
StacksFit locals s = Each (λ stack. All (λ x. x < locals) stack) (stacks_in s)

-- Statements can be marked, the first call of which has this place.
pub record Markable (numbers : List ℕ) (locals place : ℕ) (s : Stmts) : Type 0 where
  pub rises : Rises numbers
  pub fits : StacksFit locals s
  pub room : place + call_total s < 2 ^ 32

-- What the numbered calls of statements hold is marked too.
pub record Marked (numbers : List ℕ) (place : ℕ) (s : Stmts) (old new : List Bool) : Type 0 where
  pub size : length new ≡ length old
  pub each : (x : ℕ) → get_or new x false ≡ (get_or old x false || is_held numbers place (stacks_in s) x)
