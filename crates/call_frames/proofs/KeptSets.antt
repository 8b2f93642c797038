-- Sets that the calls of each local tell: what is made of these calls is what it is of the sets.
use Rattle.std.proofs.Common.{◌≡◌, ◌∙◌, ℕ, ◌^◌, ◌<◌, List, [], length, map, Bool, All, sym, ap, subst, arith}
use Rattle.std.specs.Prelude.{Vec}
use Rattle.std.specs.declared.alloc.Global.{Global}
use Rattle.std.proofs.lemmas.List.{take_all}
use Rattle.wa_types.specs.declared.values.ValType.{ValType}
use Rattle.call_frames.specs.declared.frames.CallClass.{CallClass}
use Rattle.call_frames.specs.declared.frames.KeptPart.{KeptPart}
use Rattle.call_frames.specs.CallParts.{grouped, grouped_by, groups, kept_by_sets, shared_where}
use Rattle.call_frames.specs.Classes.{AreKept, FewFields, KeepByClasses, MadeAgain}
use Rattle.call_frames.specs.Views.{class_parts, part_views, sets_of}
use Rattle.call_frames.proofs.Chosen.{AreMade, are_made, groups_made}
use Rattle.call_frames.proofs.GroupSteps.{groups_same}

module _ (types : List ValType) (count : ℕ) (kss : List (List ℕ)) where
  module _ (sets : List (List Bool)) (kept : AreKept (length types) count sets kss) where
    pub sized_types : All (λ (s : List Bool). length s ≡ length types) sets
    sized_types = kept.sized

    pub few_sets : count < 2 ^ 32 → length sets < 2 ^ 32
    few_sets lt = let m = kept.many in omega (arith, m, lt)

    same_raw : (raw : List CallClass) → class_parts raw ≡ grouped_by 0 types kss [] → class_parts raw ≡ grouped 0 types (kept_by_sets types sets) []
    same_raw raw e = e ∙ groups_same types sets kss kept.sized kept.keepers

    same_shared : (gs : List KeptPart) (raw : List CallClass) → part_views gs ≡ map (shared_where count) (class_parts raw) → part_views gs ≡ map (shared_where (length sets)) (class_parts raw)
    same_shared gs raw e = e ∙ ap (λ n. map (shared_where n) (class_parts raw)) (sym kept.many)

    pub groups_kept : (gs : List KeptPart) (raw : List CallClass) → part_views gs ≡ map (shared_where count) (class_parts raw) → class_parts raw ≡ grouped_by 0 types kss []
        → part_views gs ≡ groups types (kept_by_sets types sets)
    groups_kept gs raw eg er = groups_made types sets gs raw (same_shared gs raw eg) (same_raw raw er)

    as_lists : AreKept (length kss) count sets kss
    as_lists = subst (λ n. AreKept n count sets kss) (sym kept.keepers.size) kept

    module _ (made : List (Vec Bool Global)) where
      all_made : MadeAgain kss count made → sets_of made ≡ sets
      all_made m = m.same count sets as_lists (omega arith) ∙ take_all count sets (let k = kept.many in omega (arith, k))

      pub both_made : MadeAgain kss count made → (gs cs : List KeptPart) (raw classes : List CallClass) → part_views gs ≡ map (shared_where count) (class_parts raw)
          → class_parts raw ≡ grouped_by 0 types kss [] → part_views cs ≡ class_parts classes → KeepByClasses types (sets_of made) (class_parts classes) → FewFields classes
          → AreMade types sets gs cs
      both_made m gs cs raw classes eg er ec keep few =
          are_made types sets gs cs raw classes (same_shared gs raw eg) (same_raw raw er) ec (subst (λ ss. KeepByClasses types ss (class_parts classes)) (all_made m) keep) few

  pub made_sized : (n : ℕ) (made : List (Vec Bool Global)) → length kss ≡ length types → MadeAgain kss n made → All (λ (set : Vec Bool Global). length set.items ≡ length types) made
  made_sized n made e m = subst (λ k. All (λ (set : Vec Bool Global). length set.items ≡ k) made) e m.sized
