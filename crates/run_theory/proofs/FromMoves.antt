-- What a simulation by moves gives, in the words of `Behaves`: prefixes of events, and facts at each event.
use Rattle.std.proofs.Common.{◌≡◌, ℕ, zero, suc, ◌+◌, ◌-◌, ◌≤◌, List, [], ◌∷◌, ◌++◌, Some, refl, ap, ◌∙◌, subst, arith}
use Rattle.std.specs.Prelude.{slice_get}
use Rattle.wa_model.specs.Machine.{Turn, run, Leads}
use Rattle.wa_model.specs.Blocking.{Note, events_of}
use Rattle.wa_model.specs.Behaves.{IsPrefix}
use Rattle.run_theory.proofs.Runs.{leads_run}
use Rattle.run_theory.proofs.Follow.{Begins, Alike}

module _ (Q : Note → Note → Type 0) where
  -- the related beginning has the events of a prefix
  pub prefix_of_begins : ((x y : Note) → Q x y → x.event ≡ y.event) → (xs ys : List Note) → Begins Q xs ys → IsPrefix (events_of ys) (events_of xs)
  prefix_of_begins same xs [] h = (events_of xs, refl)
  prefix_of_begins same [] (y ∷ ys) h = absurd h
  prefix_of_begins same (x ∷ xs) (y ∷ ys) h =
      let on = prefix_of_begins same xs ys h.1 in
      (on.0, ap (λ e. e ∷ events_of xs) (same x y h.0) ∙ ap (λ es. y.event ∷ es) on.1)

  -- notes at one place are related
  pub at_each : (xs ys : List Note) → Begins Q xs ys → (i : ℕ) (x y : Note) → slice_get xs i ≡ Some x → slice_get ys i ≡ Some y → Q x y
  at_each xs [] h i x y ex ey = cc
  at_each [] (b ∷ ys) h i x y ex ey = absurd h
  at_each (a ∷ xs) (b ∷ ys) h zero x y ex ey =
      let p : a ≡ x = cc in
      let q : b ≡ y = cc in
      subst (λ z. Q x z) q (subst (λ z. Q z b) p h.0)
  at_each (a ∷ xs) (b ∷ ys) h (suc i) x y ex ey = at_each xs ys h.1 i x y ex ey

  -- and each on the right has its own on the left
  pub begins_right : (xs ys : List Note) → Begins Q xs ys → (i : ℕ) (y : Note) → slice_get ys i ≡ Some y → (x : Note) × (slice_get xs i ≡ Some x) × Q x y
  begins_right xs [] h i y e = cc
  begins_right [] (b ∷ ys) h i y e = absurd h
  begins_right (a ∷ xs) (b ∷ ys) h zero y e = let f : b ≡ y = cc in (a, refl, subst (Q a) f h.0)
  begins_right (a ∷ xs) (b ∷ ys) h (suc i) y e = begins_right xs ys h.1 i y e

  -- notes that are alike have the same events
  pub events_of_alike : ((x y : Note) → Q x y → x.event ≡ y.event) → (xs ys : List Note) → Alike Q xs ys → events_of xs ≡ events_of ys
  events_of_alike same [] [] h = refl
  events_of_alike same [] (y ∷ ys) h = absurd h
  events_of_alike same (x ∷ xs) [] h = absurd h
  events_of_alike same (x ∷ xs) (y ∷ ys) h = ap (λ e. e ∷ events_of xs) (same x y h.0) ∙ ap (λ es. y.event ∷ es) (events_of_alike same xs ys h.1)

pub events_on : (xs ys : List Note) → events_of (xs ++ ys) ≡ events_of xs ++ events_of ys
events_on [] ys = refl
events_on (x ∷ xs) ys = ap (λ es. x.event ∷ es) (events_on xs ys)

-- what a stretch makes begins what a run makes that can pay it
pub prefix_of_leads : (S : Type 0) (next : S → Turn S Note) (s t : S) (k n : ℕ) (fs : List Note) → Leads next s k fs t → k ≤ n → IsPrefix (events_of fs) (events_of (run next n s).events)
prefix_of_leads S next s t k n fs l le =
    let z : n ≡ k + (n - k) = omega arith in (
      events_of (run next (n - k) t).events,
      ap (λ m. events_of (run next m s).events) z ∙ ap (λ r. events_of r.events) (leads_run S Note next s t k (n - k) fs l) ∙ events_on fs (run next (n - k) t).events,
    )
