-- The labels of a typed `br_table`.
use Rattle.std.proofs.Common.{◌≡◌, ℕ, List, [], ◌∷◌, ◌++◌, Option, Some, None, Bool, true, false, refl, sym, ap}
use Rattle.std.specs.Prelude.{slice_get, if◌then◌else◌}
use Rattle.std.proofs.lemmas.Bool.{and_parts}
use Rattle.wa_types.specs.declared.values.ValType.{ValType}
use Rattle.wa_types.specs.declared.values.ValType.TheVariants.{I32}
use Rattle.wa_types.specs.declared.rules.Rule.TheVariants.{UnknownLabel, StackTypes}
use Rattle.wa_types.specs.Typing.{listed, jumps as jumps_sig, leaves as leaves_sig, lacks as lacks_sig, same_result, Takes, all_there, all_alike, agrees_with}
use Rattle.run_theory.proofs.FittingNames.{same_true}

result_true : (r r' : Option ValType) → same_result r r' ≡ true → r ≡ r'
result_true None None e = refl
result_true None (Some u) e = cc
result_true (Some t) None e = cc
result_true (Some t) (Some u) e = ap (λ z. Some z) (same_true t u e)

agrees_true : (r : Option ValType) (o : Option (Option ValType)) → agrees_with r o ≡ true → o ≡ Some r
agrees_true r None e = cc
agrees_true r (Some q) e = ap (λ z. Some z) (sym (result_true r q e))

-- each label of a list takes this result
abbrev pub AllLabels : List (Option ValType) → Option ValType → List ℕ → Type 0
AllLabels lt r [] = Unit {0}
AllLabels lt r (j ∷ js) = (slice_get lt j ≡ Some r) × AllLabels lt r js

all_labels : (lt : List (Option ValType)) (r : Option ValType) (js : List ℕ) → all_alike lt r js ≡ true → AllLabels lt r js
all_labels lt r [] e = tt
all_labels lt r (j ∷ js) e = let b = and_parts (agrees_with r (slice_get lt j)) (all_alike lt r js) e in (agrees_true r (slice_get lt j) b.0, all_labels lt r js b.1)

-- what a typed br_table says
pub table_typed : (lt : List (Option ValType)) (targets : List ℕ) (r : Option ValType) (own mids : List ValType) → Takes (jumps_sig lt targets (Some r)) own mids
    → AllLabels lt r targets × (below : List ValType) × (own ≡ I32 ∷ (listed r ++ below))
table_typed lt targets r own mids t = by (all_there lt targets) (all_alike lt r targets) refl t
  where
    by : (a b : Bool) → all_alike lt r targets ≡ b → Takes (if a then (if b then leaves_sig (I32 ∷ listed r) else lacks_sig StackTypes) else lacks_sig UnknownLabel) own mids
        → AllLabels lt r targets × (below : List ValType) × (own ≡ I32 ∷ (listed r ++ below))
    by false b e t = absurd t
    by true false e t = absurd t
    by true true e t = (all_labels lt r targets e, t.0, t.1)
