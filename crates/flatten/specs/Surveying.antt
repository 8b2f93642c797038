-- What a survey of a body finds: the types of operands at heights, and of results at depths.
use Rattle.std.specs.Prelude.{◌≡◌, ℕ, ◌+◌, ◌≤◌, ◌||◌, List, [], ◌∷◌, length, Bool, true, false, Option, suc, ◌++◌}
use Rattle.std.specs.List.{list_any}
use Rattle.wa_types.specs.declared.values.ValType.{ValType}
use Rattle.wa_types.specs.declared.instrs.Instr.{Instr}
use Rattle.wa_types.specs.Syntax.{Code, done}
use Rattle.wa_types.specs.View.{in_front}
use Rattle.wa_types.specs.Pruned.{pruned}
use Rattle.wa_types.specs.Sizes.{code_items}
use Rattle.wa_types.specs.Typing.{Types}
use Rattle.wa_types.specs.Points.{points}
use Rattle.wa_types.specs.Frames.{stands_at, same_pair, results_in, Pair, greatest, pairs_from, pair_of}
use Rattle.wasm_validate.specs.Walk.{Walk, Stays}
use Rattle.flatten.specs.declared.marks.Seen.{Seen}
use Rattle.flatten.specs.declared.survey.Found.{Found}
use Rattle.flatten.specs.Numbers.{is_marked, same_at, pairs_in}
use Rattle.flatten.specs.Emitting.{all_of}
use Rattle.wa_types.specs.Counts.{depth_of}
use Rattle.flat_laws.specs.Flatten.{Names}

-- the topmost operand is of this type at this height
abbrev pub is_top : ℕ → ValType → List ValType → Bool
is_top h t [] = false
is_top h t (ty ∷ rest) = same_at h t (length rest) ty

-- all of these operands are marked
abbrev pub Covers : List Seen → List ValType → Type 0
Covers seen ops = (h : ℕ) (t : ValType) → stands_at h t ops ≡ true → is_marked seen h t ≡ true

-- an operand of this type stands at this height at some point
abbrev pub any_point : ℕ → ValType → Walk → Code → Bool
any_point h t w k = list_any (stands_at h t) (points w.around w.labels k w.under w.own)

-- a result of this type stands at this depth
abbrev pub any_result : ℕ → ValType → Walk → Code → Bool
any_result d t w k = list_any (same_pair d t) (results_in (length w.labels) (pruned k))

-- how many pairs were found
abbrev pub found_count : Found → ℕ
found_count f = length (pairs_in 0 f.slots.items) + length (pairs_in 0 f.results.items)

-- These results are marked, and nothing else.
pub record Marked (results : List Pair) (a b : Found) : Type 0 where
  pub slots : b.slots.items ≡ a.slots.items
  pub marked : (d : ℕ) (t : ValType) → is_marked b.results.items d t ≡ (list_any (same_pair d t) results || is_marked a.results.items d t)
  pub few : length (pairs_in 0 b.results.items) ≤ length (pairs_in 0 a.results.items) + 1

-- All of code is found, from where a walk stands.
pub record Surveyed (v w : Walk) (k : Code) (a b : Found) : Type 0 where
  pub stays : Stays v w
  pub slots : Covers a.slots.items (all_of v) → (h : ℕ) (t : ValType) → is_marked b.slots.items h t ≡ (is_marked a.slots.items h t || any_point h t v k)
  pub results : (d : ℕ) (t : ValType) → is_marked b.results.items d t ≡ (is_marked a.results.items d t || any_result d t v k)
  pub few : found_count b ≤ found_count a + code_items k

-- What one instruction adds is found, and the walk goes behind it.
pub record SurveyedOne (v w : Walk) (i : Instr) (a b : Found) : Type 0 where
  pub stays : Stays v w
  pub typed : Types v.around v.labels (in_front i done) w.own v.own
  pub covers : Covers a.slots.items (all_of v) → Covers b.slots.items (all_of w)
  pub slots : Covers a.slots.items (all_of v) → (rest : Code) (h : ℕ) (t : ValType) → (is_marked b.slots.items h t || any_point h t w rest)
      ≡ (is_marked a.slots.items h t || any_point h t v (in_front i rest))
  pub results : (rest : Code) (d : ℕ) (t : ValType) → (is_marked b.results.items d t || any_result d t w rest) ≡ (is_marked a.results.items d t || any_result d t v (in_front i rest))
  pub few : found_count b ≤ found_count a + code_items (in_front i done)

-- ---- all of a body

-- the points of pruned code where a walk stands
abbrev pub points_at : Walk → Code → List (List ValType)
points_at w k = points w.around w.labels (pruned k) w.under w.own

-- the results of a body, its own in front
abbrev pub results_at : Option ValType → Code → List Pair
results_at given k = pair_of 0 given ++ results_in 1 (pruned k)

-- The slots and result locals of a body, from this local on, of a function with this result.
abbrev pub names_at : ℕ → Walk → Option ValType → Code → Names
names_at first w given k = record {
  first = first;
  slots = pairs_from (λ h t. list_any (stands_at h t) (points_at w k)) 0 (greatest (points_at w k));
  results = pairs_from (λ d t. list_any (same_pair d t) (results_at given k)) 0 (suc (depth_of (pruned k)));
}
