-- The parts that are taken, as the program has them.
use Rattle.std.proofs.Common.{◌≡◌, ◌∙◌, ℕ, ◌*◌, ◌^◌, ◌<◌, ◌≤◌, List, [], length, map, Bool, true, false, refl, sym, ap, subst, arith}
use Rattle.std.specs.Prelude.{if◌then◌else◌}
use Rattle.std.proofs.lemmas.List.{length-map}
use Rattle.wa_types.specs.declared.values.ValType.{ValType}
use Rattle.call_frames.specs.PlainLaws.{tests_cost}
use Rattle.call_frames.specs.declared.frames.CallClass.{CallClass}
use Rattle.call_frames.specs.declared.frames.KeptPart.{KeptPart}
use Rattle.call_frames.specs.CallParts.{are_better, better_parts, grouped, groups, kept_by_sets, parts_length, shared_where, tests_most}
use Rattle.call_frames.specs.Classes.{AllAre, AllShared, FewFields, FewParts, KeepByClasses, KeepCheaply, KeepSets}
use Rattle.call_frames.specs.Views.{class_parts, fields_in, kept_total, part_views}
use Rattle.call_frames.proofs.ChoiceLemmas.{chosen_alike, chosen_keep, classes_few, groups_few, groups_keep, groups_shared, groups_short, named_most, total_short}
use Rattle.call_frames.proofs.GroupLemmas.{Rows}
use Rattle.call_frames.proofs.SizedSets.{Sized}

-- groups and classes of the calls of these sets
pub record AreMade (types : List ValType) (sets : List (List Bool)) (made_groups made_classes : List KeptPart) : Type 0 where
  pub groups_are : part_views made_groups ≡ groups types (kept_by_sets types sets)
  pub keep : KeepByClasses types sets (part_views made_classes)
  pub few : FewParts (part_views made_classes)

-- what the test told, of the lists that it borrowed
pub told_better : (most : ℕ) (gs cs gs2 cs2 : List KeptPart) (r b : Bool) → gs2 ≡ gs → cs2 ≡ cs → r ≡ are_better most (part_views gs2) (part_views cs2) → r ≡ b
    → are_better most (part_views gs) (part_views cs) ≡ b
told_better most gs cs gs2 cs2 r b eg ec told is =
    ap (λ xs. are_better most (part_views xs) (part_views cs)) (sym eg) ∙ ap (λ xs. are_better most (part_views gs2) (part_views xs)) (sym ec) ∙ sym told ∙ is

module _ (types : List ValType) (sets : List (List Bool)) where
  abbrev rows : Rows
  rows = kept_by_sets types sets

  rows_many : length rows ≡ length sets
  rows_many = length-map sets (λ (s : List Bool). fields_in 0 s types)

  pub groups_made : (gs : List KeptPart) (raw : List CallClass) → part_views gs ≡ map (shared_where (length sets)) (class_parts raw) → class_parts raw ≡ grouped 0 types rows []
      → part_views gs ≡ groups types rows
  groups_made gs raw eg er = eg ∙ ap (map (shared_where (length sets))) er ∙ ap (λ n. map (shared_where n) (grouped 0 types rows [])) (sym rows_many)

  -- groups that are no longer than what calls keep allows
  module _ (sized : Sized types sets) (few : length types ≤ 50000) (gs : List KeptPart) (made : part_views gs ≡ groups types rows) where
    pub made_fit : length sets < 2 ^ 32 → parts_length (part_views gs) < 2 ^ 60
    made_fit calls = let m = rows_many in subst (λ ps. parts_length ps < 2 ^ 60) (sym made) (groups_short types rows few (omega (arith, m, calls)))

    pub made_keep : tests_cost (part_views gs) ≤ tests_most (length types) (length sets) → parts_length (part_views gs) ≤ 30 * kept_total types sets
        → KeepCheaply types sets (part_views gs)
    made_keep cost short = record {
      keep = subst (KeepSets types sets) (sym made) (groups_keep types sets sized);
      tests = cost;
      size = short;
    }

    pub made_alike : (set : List Bool) → AllAre set sets → AllShared (part_views gs)
    made_alike set h = subst AllShared (sym made) (groups_shared types set sets h)

    pub made_few : FewParts (part_views gs)
    made_few = subst FewParts (sym made) (groups_few types rows few)

  pub are_made : (gs cs : List KeptPart) (raw classes : List CallClass) → part_views gs ≡ map (shared_where (length sets)) (class_parts raw)
      → class_parts raw ≡ grouped 0 types rows [] → part_views cs ≡ class_parts classes → KeepByClasses types sets (class_parts classes) → FewFields classes → AreMade types sets gs cs
  are_made gs cs raw classes eg er ec keep few = record {
    groups_are = groups_made gs raw eg er;
    keep = subst (KeepByClasses types sets) (sym ec) keep;
    few = subst FewParts (sym ec) (classes_few classes few);
  }

  module _ (sized : Sized types sets) (few : length types ≤ 50000) (calls : length sets < 2 ^ 32)
      (gs cs : List KeptPart) (made : AreMade types sets gs cs) where
    pub groups_fit : parts_length (part_views gs) < 2 ^ 60
    groups_fit = let m = rows_many in subst (λ ps. parts_length ps < 2 ^ 60) (sym made.groups_are) (groups_short types rows few (omega (arith, m, calls)))

    pub classes_fit : parts_length (part_views cs) < 2 ^ 60
    classes_fit =
        let n = named_most (part_views cs) made.keep.keep.named in
        let a = made.keep.size in
        let b = total_short types sets few in
        omega (arith, n, a, b, calls)

    -- the taken ones
    abbrev pub taken : Bool → List KeptPart
    taken b = if b then gs else cs

    abbrev pub most : ℕ
    most = tests_most (length types) (length sets)

    module _ (b : Bool) (is : are_better most (part_views gs) (part_views cs) ≡ b) where
      taken_are : part_views (taken b) ≡ better_parts most (groups types rows) (part_views cs)
      taken_are =
          by b ∙ ap (λ c. if c then part_views gs else part_views cs) (sym is)
          ∙ ap (λ ps. better_parts most ps (part_views cs)) made.groups_are
        where
          by : (c : Bool) → part_views (if c then gs else cs) ≡ (if c then part_views gs else part_views cs)
          by true = refl
          by false = refl

      pub taken_keep : KeepCheaply types sets (part_views (taken b))
      taken_keep = subst (KeepCheaply types sets) (sym taken_are) (chosen_keep types sets sized (part_views cs) made.keep)

      pub taken_alike : (set : List Bool) → 1 ≤ length sets → AllAre set sets → AllShared (part_views (taken b))
      taken_alike set some h =
          subst AllShared (sym taken_are) (chosen_alike types sets sized (part_views cs) made.keep set some h)

      pub taken_few : FewParts (part_views (taken b))
      taken_few = by b
        where
          by : (c : Bool) → FewParts (part_views (if c then gs else cs))
          by true = subst FewParts (sym made.groups_are) (groups_few types rows few)
          by false = made.few
