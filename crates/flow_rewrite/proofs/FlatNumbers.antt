-- The numbers of a flat function are those of the function that it stands for.
use Rattle.std.proofs.Common.{◌≡◌, ℕ, suc, List, [], ◌∷◌, ◌++◌, map, Option, Some, Bool, refl, sym, ap, ◌∙◌}
use Rattle.std.specs.Prelude.{if◌then◌else◌}
use Rattle.std.proofs.lemmas.List.{map-append}
use Rattle.wa_types.specs.Syntax.{done, plain, Module}
use Rattle.wa_types.specs.Pausing.{Callee, direct, indirect, Settings, Listed, has_number, places_from}
use Rattle.run_theory.specs.Flat.{Stmts, no_more, computes, copies, calls, leaps, leaps_if, leaps_by, nests, decides, halts}
use Rattle.run_theory.specs.FlatFits.{StmtsFit}
use Rattle.guard_form.specs.Pieces.{call_to, sole_callee}
use Rattle.guard_form.proofs.PlacesOfCalls.{all_calls, computes_nothing, one_call, computes_calls, copies_calls, call_calls, leaps_calls, leaps_if_calls, table_calls, halts_calls, nests_calls, decides_calls, none_calls}
use Rattle.flow_rewrite.specs.Numbering.{callees, gets_number, FlatNumbers}

sole_is : (c : Callee) → sole_callee (plain (call_to c) done) ≡ Some c
sole_is (direct x) = refl
sole_is (indirect t) = refl

abbrev told : List Callee → List (Option Callee)
told xs = map (λ c. Some c) xs

callees_are : (locals labels : ℕ) (s : Stmts) → StmtsFit locals labels s → callees s ≡ told (all_calls s)
callees_are locals labels no_more h = ap told (sym none_calls)
callees_are locals labels (computes op args to rest) h = callees_are locals labels rest h.4 ∙ ap told (sym (computes_calls op args to rest (computes_nothing locals op to h.0)))
callees_are locals labels (copies to from rest) h = callees_are locals labels rest h.2 ∙ ap told (sym (copies_calls to from rest))
callees_are locals labels (calls op stack args to rest) h =
    let z = one_call op h.0 in
    ap (λ c. sole_callee c ∷ callees rest) z.is ∙ ap (λ o. o ∷ callees rest) (sole_is z.to) ∙ ap (λ os. Some z.to ∷ os) (callees_are locals labels rest h.5)
    ∙ ap told (sym (call_calls op stack args to rest z))
callees_are locals labels (leaps l rest) h = callees_are locals labels rest h.1 ∙ ap told (sym (leaps_calls l rest))
callees_are locals labels (leaps_if o l rest) h = callees_are locals labels rest h.2 ∙ ap told (sym (leaps_if_calls o l rest))
callees_are locals labels (leaps_by o ls l rest) h = callees_are locals labels rest h.3 ∙ ap told (sym (table_calls o ls l rest))
callees_are locals labels (nests s body rest) h =
    ap (λ xs. xs ++ callees rest) (callees_are locals (suc labels) body h.0) ∙ ap (λ xs. told (all_calls body) ++ xs) (callees_are locals labels rest h.1)
    ∙ sym (map-append (λ c. Some c) (all_calls body) (all_calls rest)) ∙ ap told (sym (nests_calls s body rest))
callees_are locals labels (decides o a b rest) h =
    ap (λ xs. xs ++ callees b ++ callees rest) (callees_are locals (suc labels) a h.1) ∙ ap (λ xs. told (all_calls a) ++ xs ++ callees rest) (callees_are locals (suc labels) b h.2)
    ∙ ap (λ xs. told (all_calls a) ++ told (all_calls b) ++ xs) (callees_are locals labels rest h.3)
    ∙ ap (λ xs. xs ++ told (all_calls rest)) (sym (map-append (λ c. Some c) (all_calls a) (all_calls b)))
    ∙ sym (map-append (λ c. Some c) (all_calls a ++ all_calls b) (all_calls rest)) ∙ ap told (sym (decides_calls o a b rest))
callees_are locals labels (halts rest) h = callees_are locals labels rest h ∙ ap told (sym (halts_calls rest))

module _ (m : Module) (s : Settings) (which : List Bool) where
  same_test : (c : Callee) → gets_number which (Listed m s) s.ignore_indirect (Some c) ≡ has_number m s which c
  same_test (direct x) = refl
  same_test (indirect t) = refl

  same_places : (n : ℕ) (xs : List Callee) → places_from (gets_number which (Listed m s) s.ignore_indirect) n (told xs) ≡ places_from (has_number m s which) n xs
  same_places n [] = refl
  same_places n (c ∷ xs) =
      ap (λ b. if b then n ∷ places_from (gets_number which (Listed m s) s.ignore_indirect) (suc n) (told xs) else places_from (gets_number which (Listed m s) s.ignore_indirect) (suc n)
      (told xs)) (same_test c)
      ∙ ap (λ ps. if has_number m s which c then n ∷ ps else ps) (same_places (suc n) xs)

pub numbers_law : FlatNumbers
numbers_law m s which f locals labels body h e =
    ap (places_from (gets_number which (Listed m s) s.ignore_indirect) 0) (callees_are locals labels body h) ∙ same_places m s which 0 (all_calls body) ∙ ap (places_from (has_number m s which) 0) e
