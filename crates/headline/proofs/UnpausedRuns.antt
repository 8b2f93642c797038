-- Whatever the area, a run without pauses is the original's.
use Rattle.std.proofs.Common.{◌≡◌, ℕ, suc, List, [], take, Some, All, sym, ap, ◌∙◌, subst, ◌⊎◌, inl, inr}
use Rattle.std.specs.Prelude.{slice_get}
use Rattle.wa_types.specs.Bounds.{Bound}
use Rattle.wa_types.specs.Runtime.{global_space}
use Rattle.wa_types.specs.Syntax.{Module}
use Rattle.wa_model.specs.Machine.{Ran}
use Rattle.wa_model.specs.Outside.{Event}
use Rattle.wa_model.specs.Store.{Store}
use Rattle.wa_model.specs.Plan.{Plan, Outcome}
use Rattle.wa_model.specs.Blocking.{Note, State, events_of, store_of, Blocking}
use Rattle.wa_model.specs.Protocol.{Held, Protocol, store_held}
use Rattle.wa_model.specs.Behaves.{IsMoment, IsPrefix, protocol_notes, RunsAlike, SameAt, SameWhole}
use Rattle.headline.specs.Given.{RunsUnpaused}
use Rattle.headline.proofs.EmptyAreas.{alike, emptied}
use Rattle.headline.proofs.SamePlans.{Calm, Poking, find_poking, same_blocking, same_protocol}
use Rattle.headline.proofs.Poked.{poked_alike}

module _ (m p : Module) (plan : Plan) (os : List Outcome) (n : ℕ) (calm : All (Calm plan) os) where
  abbrev plan' : Plan
  plan' = emptied plan

  b : (j : ℕ) → Blocking m plan' os j ≡ Blocking m plan os j
  b j = sym (same_blocking m plan os j calm)

  q : (j : ℕ) → Protocol p plan' os j ≡ Protocol p plan os j
  q j = sym (same_protocol p plan os j calm)

  moment_too : (events : List Event) (at : Store) → IsMoment m plan' os n events at → IsMoment m plan os n events at
  moment_too events at (inl h) =
      inl (h.0, h.1, h.2 ∙ ap (λ (r : Ran State Note). events_of r.events) (b h.0), h.3 ∙ ap (λ (r : Ran State Note). store_of r.last) (b h.0))
  moment_too events at (inr h) =
      inr (h.0, h.1, ap (λ (r : Ran State Note). slice_get r.events h.0) (sym (b n)) ∙ h.2, h.3 ∙ ap (λ (r : Ran State Note). events_of (take (suc h.0) r.events)) (b n), h.4)

  pub so_anyway : RunsAlike m p plan' os n → RunsAlike m p plan os n
  so_anyway h =
      let mo = h.moments in
      record {
        reaches = subst (λ (r : Ran State Note). IsPrefix (events_of r.events) (events_of (protocol_notes p plan os (Bound m n [])))) (b n)
            (subst (λ (r : Ran Held Note). IsPrefix (events_of (Blocking m plan' os n).events) (events_of r.events)) (q (Bound m n [])) h.reaches);
        follows = subst (λ (r : Ran State Note). IsPrefix (events_of (protocol_notes p plan os n)) (events_of r.events)) (b n)
            (subst (λ (r : Ran Held Note). IsPrefix (events_of r.events) (events_of (Blocking m plan' os n).events)) (q n) h.follows);
        notes = subst (λ (r : Ran State Note). (i : ℕ) (y : Note) → slice_get (protocol_notes p plan os n) i ≡ Some y → (x : Note) × (slice_get r.events i ≡ Some x) × SameAt (global_space m) x y)
            (b n)
            (subst (λ (r : Ran Held Note). (i : ℕ) (y : Note) → slice_get r.events i ≡ Some y → (x : Note) × (slice_get (Blocking m plan' os n).events i ≡ Some x) × SameAt (global_space m) x y)
            (q n) h.notes);
        moments = (
          mo.0,
          mo.1,
          moment_too mo.0 mo.1 mo.2,
          mo.3 ∙ ap (λ (r : Ran Held Note). events_of r.events) (q n),
          subst (λ (r : Ran Held Note). SameWhole (global_space m) mo.1 (store_held r.last)) (q n) mo.4,
        );
      }

pub runs_unpaused : RunsUnpaused
runs_unpaused m s p which behaves tells wf plan os n g = by (find_poking plan os g.unpaused)
  where
    by : All (Calm plan) os ⊎ Poking plan os → RunsAlike m p plan os n
    by (inl calm) = so_anyway m p plan os n calm (alike m s p which behaves wf tells plan os n g)
    by (inr b) = poked_alike m p plan b.bad b.rest b.us os b.unpaused b.poking b.is b.calm (λ j. alike m s p which behaves wf tells plan os j g) n
