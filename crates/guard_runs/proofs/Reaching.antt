-- What of an area is in use where an unwind stops inside.
use Rattle.std.proofs.Common.{◌≡◌, ◌∙◌, List, [], ◌∷◌, ◌++◌, Bool, true, false, refl, ap}
use Rattle.std.specs.Prelude.{not, ◌&&◌, ◌||◌, nat_lt, if◌then◌else◌}
use Rattle.std.specs.List.{list_all, list_any}
use Rattle.wa_types.specs.Frames.{Fit, Room, Suspended}
use Rattle.wa_types.specs.Pausing.{Settings}
use Rattle.wa_types.specs.Syntax.{Module}
use Rattle.guard_form.specs.AssertedRuns.{numbered_front, stands_numbered}
use Rattle.frame_laws.proofs.HeldFrames.{stacks_held}
use Rattle.guard_runs.specs.Pause.{ReachesThere}

both : (a b : Bool) → (a && b) ≡ true → (a ≡ true) × (b ≡ true)
both true true e = (refl, refl)
both true false e = cc
both false b e = cc

module _ (m : Module) (s : Settings) (which : List Bool) (a : Suspended) (rest : List Suspended) (fails : stands_numbered m s which a ≡ false) where
  front_is : (front : List Suspended) → list_all (stands_numbered m s which) front ≡ true → numbered_front m s which (front ++ a ∷ rest) ≡ front
  front_is [] h = ap (λ b. if b then a ∷ numbered_front m s which rest else []) fails
  front_is (x ∷ front) h =
      let two = both (stands_numbered m s which x) (list_all (stands_numbered m s which) front) h in
      ap (λ b. if b then x ∷ numbered_front m s which (front ++ a ∷ rest) else []) two.0 ∙ ap (λ z. x ∷ z) (front_is front two.1)

  is_inside : (front : List Suspended) → list_any (λ x. not (stands_numbered m s which x)) (front ++ a ∷ rest) ≡ true
  is_inside [] = ap (λ b. not b || list_any (λ x. not (stands_numbered m s which x)) rest) fails
  is_inside (x ∷ front) = by (not (stands_numbered m s which x)) (is_inside front)
    where
      by : (b : Bool) → list_any (λ x. not (stands_numbered m s which x)) (front ++ a ∷ rest) ≡ true → (b || list_any (λ x. not (stands_numbered m s which x)) (front ++ a ∷ rest)) ≡ true
      by true e = refl
      by false e = e

pub reaches_law : ReachesThere
reaches_law m s which vs front a rest len stand all fails = (
  ap (λ z. Fit m s.policy z len) (front_is m s which a rest fails front all) ∙ (stacks_held m s which vs front stand).fit len,
  ap (λ b. b || nat_lt len (Room m s.policy (front ++ a ∷ rest))) (is_inside m s which a rest fails front),
)
