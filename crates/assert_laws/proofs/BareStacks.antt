-- Where an unwind ends, and what it costs, isn't told by the values of a stack.
use Rattle.std.proofs.Common.{◌≡◌, ◌∙◌, ℕ, ◌+◌, List, [], ◌∷◌, map, Bool, true, false, refl, sym, ap}
use Rattle.std.specs.Prelude.{not, ◌||◌, nat_lt, if◌then◌else◌}
use Rattle.std.specs.List.{list_any, sum_by}
use Rattle.std.proofs.lemmas.List.Sums.{sum_by-cons}
use Rattle.wa_types.specs.Base.{Base}
use Rattle.wa_types.specs.Bounds.{activation_bound}
use Rattle.wa_types.specs.Frames.{Suspended, fit_from, frame_of}
use Rattle.wa_types.specs.Pausing.{Settings}
use Rattle.wa_types.specs.Syntax.{Module}
use Rattle.wa_model.specs.Configuration.{Configuration, stack_of}
use Rattle.guard_form.specs.AssertedRuns.{numbered_front, Reach, stands_numbered}

-- an activation without its values
abbrev pub without_values : Suspended → Suspended
without_values a = record a { locals = []; operands = [] }

-- the stack of a configuration that waits, without values
abbrev pub bare_stack : Module → Configuration → List Suspended
bare_stack m c = map without_values (stack_of (Base m) c)

module _ (m : Module) (s : Settings) (which : List Bool) where
  any_bare : (xs : List Suspended) → list_any (λ a. not (stands_numbered m s which a)) (map without_values xs) ≡ list_any (λ a. not (stands_numbered m s which a)) xs
  any_bare [] = refl
  any_bare (a ∷ xs) = ap (λ b. not (stands_numbered m s which a) || b) (any_bare xs)

  front_bare : (xs : List Suspended) → numbered_front m s which (map without_values xs) ≡ map without_values (numbered_front m s which xs)
  front_bare [] = refl
  front_bare (a ∷ xs) = by (stands_numbered m s which a) (front_bare xs)
    where
      by : (b : Bool) → numbered_front m s which (map without_values xs) ≡ map without_values (numbered_front m s which xs)
          → (if b then without_values a ∷ numbered_front m s which (map without_values xs) else []) ≡ map without_values (if b then a ∷ numbered_front m s which xs else [])
      by true e = ap (λ z. without_values a ∷ z) e
      by false e = refl

  fit_bare : (len used : ℕ) (xs : List Suspended) → fit_from m s.policy len used (map without_values xs) ≡ fit_from m s.policy len used xs
  fit_bare len used [] = refl
  fit_bare len used (a ∷ xs) = by (nat_lt len (used + frame_of m s.policy a)) (fit_bare len (used + frame_of m s.policy a) xs)
    where
      by : (b : Bool) → fit_from m s.policy len (used + frame_of m s.policy a) (map without_values xs) ≡ fit_from m s.policy len (used + frame_of m s.policy a) xs
          → (if b then used else fit_from m s.policy len (used + frame_of m s.policy a) (map without_values xs)) ≡ (if b then used else fit_from m s.policy len (used + frame_of m s.policy a) xs)
      by true e = refl
      by false e = e

  reach_bare : (len : ℕ) (xs : List Suspended) → Reach m s which len (map without_values xs) ≡ Reach m s which len xs
  reach_bare len xs = ap (fit_from m s.policy len 8) (front_bare xs) ∙ fit_bare len 8 (numbered_front m s which xs)

  sum_bare : (xs : List Suspended) → sum_by (activation_bound m) (map without_values xs) ≡ sum_by (activation_bound m) xs
  sum_bare [] = refl
  sum_bare (a ∷ xs) =
      sum_by-cons (activation_bound m) (without_values a) (map without_values xs) ∙ ap (λ n. activation_bound m a + n) (sum_bare xs) ∙ sym (sum_by-cons (activation_bound m) a xs)

  -- stacks that differ in values
  module _ (xs ys : List Suspended) (e : map without_values xs ≡ map without_values ys) where
    pub any_alike : list_any (λ a. not (stands_numbered m s which a)) xs ≡ list_any (λ a. not (stands_numbered m s which a)) ys
    any_alike = sym (any_bare xs) ∙ ap (list_any (λ a. not (stands_numbered m s which a))) e ∙ any_bare ys

    pub reach_alike : (len : ℕ) → Reach m s which len xs ≡ Reach m s which len ys
    reach_alike len = sym (reach_bare len xs) ∙ ap (Reach m s which len) e ∙ reach_bare len ys

    pub sum_alike : sum_by (activation_bound m) xs ≡ sum_by (activation_bound m) ys
    sum_alike = sym (sum_bare xs) ∙ ap (sum_by (activation_bound m)) e ∙ sum_bare ys
