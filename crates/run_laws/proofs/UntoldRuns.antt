-- A module that behaves like its original does so under a plan that tells no list.
use Rattle.std.proofs.Common.{None, ◌≡◌, ℕ, zero, suc, ◌+◌, ◌-◌, ◌≤◌, List, [], ◌∷◌, ◌++◌, length, take, Some, Bool, true, false, All, refl, sym, ap, ◌∙◌, subst, arith, append_assoc, inl, inr}
use Rattle.std.specs.Prelude.{slice_get}
use Rattle.std.proofs.lemmas.List.Elements.{All-head, All-tail}
use Rattle.wa_types.specs.Base.{Base}
use Rattle.wa_types.specs.Bounds.{Bound}
use Rattle.wa_types.specs.Pausing.{Settings, Listed, TellsMayPause}
use Rattle.wa_types.specs.Runtime.{global_space}
use Rattle.wa_types.specs.Sizes.{WellFormed}
use Rattle.wa_types.specs.Syntax.{Module}
use Rattle.wa_model.specs.Outside.{Event}
use Rattle.wa_model.specs.Machine.{Ran, run}
use Rattle.wa_model.specs.Store.{Store}
use Rattle.wa_model.specs.Plan.{Plan, Outcome}
use Rattle.wa_model.specs.Instantiation.{opening}
use Rattle.wa_model.specs.Blocking.{Note, State, events_of, is_unlisted, blocking, begun, all_left, store_of, Blocking}
use Rattle.wa_model.specs.Protocol.{Held, Protocol, store_held}
use Rattle.wa_model.specs.Untouched.{IsCalm}
use Rattle.wa_model.specs.Expected.{Expected, SameEnd}
use Rattle.wa_model.specs.Behaves.{Behaves, BehavesOn, Compared, IsMoment, IsPrefix, PausesNumbered, RewindsTo, SameNote, expected_notes, last_called, pause_stacks, protocol_notes, without_pauses}
use Rattle.run_theory.proofs.Runs.{prefix_of_longer}
use Rattle.run_laws.proofs.StandingPauses.{pauses_at_numbers}
use Rattle.run_laws.specs.ListedPauses.{BehavesUntold, BehavesWhereListed, ComparedUntold, PauseListed, PausesListed, told}
use Rattle.run_laws.proofs.Forks.{RunForks, RunParts}
use Rattle.run_laws.proofs.ListedRuns.{blocking_as_told}
use Rattle.run_laws.proofs.ProtocolForks.{protocol_forks}
use Rattle.run_laws.proofs.UnlistedEnds as U

all_front : (P : Note → Type 0) (xs ys : List Note) → All P (xs ++ ys) → All P xs
all_front P [] ys h = λ k d lt. absurd (omega arith)
all_front P (x ∷ xs) ys h = Rattle.std.proofs.lemmas.List.Elements.All-cons P x xs (All-head P x (xs ++ ys) h) (all_front P xs ys (All-tail P x (xs ++ ys) h))

all_got : (P : Note → Type 0) (xs : List Note) (i : ℕ) (x : Note) → All P xs → slice_get xs i ≡ Some x → P x
all_got P [] i x h e = cc
all_got P (y ∷ xs) zero x h e = let z : y ≡ x = cc in subst P z (All-head P y xs h)
all_got P (y ∷ xs) (suc i) x h e = all_got P xs i x (All-tail P y xs h) e

got_second : (xs : List Note) (y z : Note) → slice_get (xs ++ (y ∷ z ∷ [])) (suc (length xs)) ≡ Some z
got_second [] y z = refl
got_second (x ∷ xs) y z = got_second xs y z

events_on : (xs ys : List Note) → events_of (xs ++ ys) ≡ events_of xs ++ events_of ys
events_on [] ys = refl
events_on (x ∷ xs) ys = ap (λ es. x.event ∷ es) (events_on xs ys)

-- what doesn't hold the last event begins whatever has another end
cut : (plan : Plan) (xs : List Note) (bs : List Event) (e z : Event) (rest more : List Event) → All (U.P plan) xs → (U.EndTold plan z → ⊥) → bs ++ (e ∷ z ∷ []) ≡ events_of xs ++ rest
    → IsPrefix (events_of xs) (bs ++ (e ∷ more))
cut plan [] bs e z rest more h none is = (bs ++ (e ∷ more), refl)
cut plan (x ∷ []) [] e z rest more h none is = let q : e ≡ x.event = cc in (more, ap (λ d. d ∷ more) q)
cut plan (x ∷ x2 ∷ xs) [] e z rest more h none is =
    let q : z ≡ x2.event = cc in
    absurd (none (subst (U.EndTold plan) (sym q) (All-head (U.P plan) x2 xs (All-tail (U.P plan) x (x2 ∷ xs) h))))
cut plan (x ∷ xs) (b ∷ bs) e z rest more h none is =
    let q : b ≡ x.event = cc in
    let on : bs ++ (e ∷ z ∷ []) ≡ events_of xs ++ rest = cc in
    let r = cut plan xs bs e z rest more (All-tail (U.P plan) x xs h) none on in
    (r.0, ap (λ d. d ∷ (bs ++ (e ∷ more))) q ∙ ap (λ es. x.event ∷ es) r.1)

module _ (m : Module) (s : Settings) (p : Module) (which : List Bool) (plan : Plan) (os : List Outcome) (n : ℕ) (cmp : ComparedUntold m s plan os n) where
  abbrev l : List Bool
  l = Listed m s

  abbrev plan' : Plan
  plan' = told plan l

  -- ---- the original

  listed_at : (j : ℕ) → j ≤ n → PausesListed l (Blocking m plan os j).events
  listed_at j le =
      let r = begun (Base m).start (all_left plan os) (opening (Base m) plan.globals) in
      let nb = blocking (Base m) plan in
      let z : j + (n - j) ≡ n = omega arith in
      let pre = prefix_of_longer State Note nb j j (n - j) r.last (omega arith) in
      let whole : (run nb n r.last).events ≡ (run nb j r.last).events ++ pre.0 = ap (λ k. (run nb k r.last).events) (sym z) ∙ pre.1 in
      let P : Note → Type 0 = λ (x : Note). PauseListed l x.event x.pause in
      all_front P (r.events ++ (run nb j r.last).events) pre.0
      (subst (All P) (ap (λ es. r.events ++ es) whole ∙ sym (append_assoc r.events (run nb j r.last).events pre.0)) cmp.listed)

  same_at : (j : ℕ) → j ≤ n → Blocking m plan os j ≡ Blocking m plan' os j
  same_at j le = blocking_as_told m plan l os j cmp.allows (listed_at j le)

  same : Blocking m plan os n ≡ Blocking m plan' os n
  same = same_at n (omega arith)

  pub compared : Compared m s plan' os n
  compared =
      let f = cmp.fits in
      record {
        fits = record { globals = f.globals; entries = f.entries; area = f.area };
        listed = refl;
        outcomes = cmp.outcomes;
        untouched = λ j lt. subst (λ (r : Ran State Note). IsCalm plan.area r.last) (same_at j (omega arith)) (cmp.untouched j lt);
      }

  abbrev E : List Note
  E = expected_notes m s plan os n

  abbrev P : Note → Type 0
  P = U.P plan

  told_ends : All P E
  told_ends = U.expected_told plan m s.policy plan.area (Blocking m plan os n).events (U.ends_told plan m os n cmp.outcomes)

  -- ---- the prepared module

  none_at : (r r' : Ran Held Note) → (f : RunParts Held l plan r r') → U.EndTold plan (f.z).event → ⊥
  none_at r r' f h = let yes_it : is_unlisted plan.listed (f.call).import ≡ true = subst (U.EndTold plan) f.how h in let z : true ≡ false = sym yes_it ∙ f.allowed in cc

  module _ (on : BehavesOn m s p plan' os n which E) where
    same_made : Protocol p plan os n ≡ Protocol p plan' os n
    same_made = by (protocol_forks p plan l cmp.allows os n)
      where
        by : RunForks Held l plan (Protocol p plan os n) (Protocol p plan' os n) → Protocol p plan os n ≡ Protocol p plan' os n
        by (inl e) = e
        by (inr f) =
            let at : slice_get (Protocol p plan' os n).events (suc (length f.before)) ≡ Some f.z = ap (λ xs. slice_get xs (suc (length f.before))) f.there ∙ got_second f.before f.y f.z in
            let x = on.notes (suc (length f.before)) f.z at in
            let same_note = x.2 in
            absurd (none_at _ _ f (subst (U.EndTold plan) same_note.event (all_got P E (suc (length f.before)) x.0 told_ends x.1)))

    reaches_at : (b : ℕ) → IsPrefix (events_of E) (events_of (protocol_notes p plan' os b)) → IsPrefix (events_of E) (events_of (protocol_notes p plan os b))
    reaches_at b h = by (protocol_forks p plan l cmp.allows os b)
      where
        by : RunForks Held l plan (Protocol p plan os b) (Protocol p plan' os b) → IsPrefix (events_of E) (events_of (protocol_notes p plan os b))
        by (inl e) = subst (λ (r : Ran Held Note). IsPrefix (events_of E) (events_of r.events)) (sym e) h
        by (inr f) =
            let ended_there : events_of (protocol_notes p plan' os b) ≡ events_of f.before ++ ((f.y).event ∷ (f.z).event ∷ []) = ap events_of f.there ∙ events_on f.before (f.y ∷ f.z ∷ []) in
            let goes_there : events_of (protocol_notes p plan os b) ≡ events_of f.before ++ ((f.y).event ∷ events_of f.xs) =
            ap events_of f.here ∙ events_on f.before (f.x ∷ f.xs) ∙ ap (λ e. events_of f.before ++ (e ∷ events_of f.xs)) (sym f.same) in
            subst (IsPrefix (events_of E)) (sym goes_there)
            (cut plan E (events_of f.before) (f.y).event (f.z).event h.0 (events_of f.xs) told_ends (none_at _ _ f) (sym ended_there ∙ h.1))

    moment_too : (events : List Event) (at : Store) → IsMoment m plan' os n events at → IsMoment m plan os n events at
    moment_too events at (inl h) =
        inl (
          h.0,
          h.1,
          h.2 ∙ ap (λ (r : Ran State Note). events_of r.events) (sym (same_at h.0 h.1)),
          h.3 ∙ ap (λ (r : Ran State Note). store_of r.last) (sym (same_at h.0 h.1)),
        )
    moment_too events at (inr h) =
        inr (
          h.0,
          h.1,
          ap (λ (r : Ran State Note). slice_get r.events h.0) same ∙ h.2,
          h.3 ∙ ap (λ (r : Ran State Note). events_of (take (suc h.0) r.events)) (sym same),
          h.4,
        )

    pub behaves_on : BehavesOn m s p plan os n which E
    behaves_on =
        let mo = on.moments in
        record {
          reaches = reaches_at (Bound m n (pause_stacks (Blocking m plan os n).events))
              (subst (λ (r : Ran State Note). IsPrefix (events_of E) (events_of (protocol_notes p plan' os (Bound m n (pause_stacks r.events))))) (sym same) on.reaches);
          follows = subst (λ (r : Ran Held Note). IsPrefix (events_of r.events) (events_of E)) (sym same_made) on.follows;
          notes = subst (λ (r : Ran Held Note). (i : ℕ) (y : Note) → slice_get r.events i ≡ Some y → (x : Note) × (slice_get E i ≡ Some x) × SameNote m s which plan.area x y) (sym same_made)
              on.notes;
          moments = (
            mo.0,
            mo.1,
            moment_too mo.0 mo.1 mo.2,
            mo.3 ∙ ap (λ (r : Ran Held Note). without_pauses (events_of r.events)) (sym same_made),
            subst (λ (r : Ran Held Note). SameEnd (global_space m) plan.area mo.1 (store_held r.last)) (sym same_made) mo.4,
          );
          again = subst (λ (r : Ran Held Note). RewindsTo p (last_called None (events_of r.events)) r.last) (sym same_made) on.again;
        }

  expected_same : expected_notes m s plan' os n ≡ E
  expected_same = ap (λ (r : Ran State Note). Expected m s.policy plan.area r.events) (sym same)

  pub untold : Behaves m s p → WellFormed m → TellsMayPause m s which → PausesNumbered m s which (Blocking m plan' os n).events → BehavesOn m s p plan os n which E
  untold behaves wf tells numbered = behaves_on (subst (BehavesOn m s p plan' os n which) expected_same (behaves wf which tells plan' os n compared numbered))

  pub numbered_too : PausesNumbered m s which (Blocking m plan os n).events → PausesNumbered m s which (Blocking m plan' os n).events
  numbered_too h = subst (λ (r : Ran State Note). PausesNumbered m s which r.events) same h

-- up to a lower cost too
pub compared_lower : (m : Module) (s : Settings) (p : Module) (which : List Bool) (plan : Plan) (os : List Outcome) (n j : ℕ) → j ≤ n → ComparedUntold m s plan os n → ComparedUntold m s plan os j
compared_lower m s p which plan os n j le cmp = record {
  fits = cmp.fits;
  allows = cmp.allows;
  outcomes = cmp.outcomes;
  untouched = λ i lt. cmp.untouched i (omega arith);
  listed = listed_at m s p which plan os n cmp j le;
}

pub behaves_untold : BehavesUntold
behaves_untold m s p behaves wf which tells plan os n cmp numbered = untold m s p which plan os n cmp behaves wf tells (numbered_too m s p which plan os n cmp numbered)

pub behaves_where_listed : BehavesWhereListed
behaves_where_listed m s p behaves wf counted which tells plan os n cmp =
    untold m s p which plan os n cmp behaves wf tells (pauses_at_numbers m s which (told plan (Listed m s)) os n tells counted refl)
