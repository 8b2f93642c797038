-- What calls met, as it is known: the answer of a receive that waited stands in for the zero that stood for it.
use Rattle.std.proofs.Common.{arith, ◌≡◌, ◌<◌, ◌≤◌, ◌++◌, ◌⊎◌, inl, inr, ℕ, zero, suc, List, [], ◌∷◌, length, Option, Some, None, Bool, true, false, refl, sym, ap, ◌∙◌, subst, append_assoc, append-nil}
use Rattle.std.specs.Prelude.{MatchBool, MatchOption, if◌then◌else◌, nat_eq, slice_get}
use Rattle.std.proofs.lemmas.Bool.{cases_eq, cases_lt, eqb-true, ne_eqb}
use Rattle.std.proofs.lemmas.Option.{same_Some, slice_get_within}
use Rattle.wa_types.specs.declared.values.Value.TheVariants as V
use Rattle.wa_model.specs.declared.answers.Detach.{Detach}
use Rattle.wa_model.specs.Outside.{Call, Line}
use Rattle.wa_model.specs.Plan.{Outcome}
use Rattle.world_model.specs.World.{Program}
use Rattle.event_order.specs.Left.{Counted}
use Rattle.host_laws.specs.Supplies.{Takes, bound_to}
use Rattle.mail_laws.specs.Told.{Await, Teller, pending}
use Rattle.many_host.specs.Calls.{devices_of, faults_of, left_at}
use Rattle.many_host.specs.MailStanding.{met_so_far, met_with}
use Rattle.many_host.specs.Telling.{supply}
use Rattle.world_hosting.specs.Counts.{met_by}
use Rattle.world_hosting.specs.MailCounts.{IsMailed, TakesBeside, TookBeside, asks_mailbox}
use Rattle.world_hosting.proofs.MailAsks.{AsksLast, IsAsking, NoCalls, waited}

same_number : (n : ℕ) → nat_eq n n ≡ true
same_number n = grind arith

below : (i n : ℕ) → (i ≡ n → ⊥) → i < suc n → i < n
below i n other less = by (cases_lt i n)
  where
    by : (i < n) ⊎ (n ≤ i) → i < n
    by (inl h) = h
    by (inr h) = absurd (other (omega (arith, h, less)))

-- what stands in front of a last outcome
front_same : (xs ys : List Outcome) (a b : Outcome) → xs ++ a ∷ [] ≡ ys ++ b ∷ [] → xs ≡ ys
front_same [] [] a b e = refl
front_same [] (y ∷ []) a b e = absurd cc
front_same [] (y ∷ z ∷ ys) a b e = absurd cc
front_same (x ∷ []) [] a b e = absurd cc
front_same (x ∷ z ∷ xs) [] a b e = absurd cc
front_same (x ∷ xs) (y ∷ ys) a b e =
    ap (λ (u : Outcome). u ∷ xs) (heads x y (xs ++ a ∷ []) (ys ++ b ∷ []) e) ∙ ap (λ (us : List Outcome). y ∷ us) (front_same xs ys a b (tails x y (xs ++ a ∷ []) (ys ++ b ∷ []) e))
  where
    heads : (u v : Outcome) (us vs : List Outcome) → u ∷ us ≡ v ∷ vs → u ≡ v
    heads u v us vs h = cc

    tails : (u v : Outcome) (us vs : List Outcome) → u ∷ us ≡ v ∷ vs → us ≡ vs
    tails u v us vs h = cc

module _ (boxes : List (List ℕ)) (programs : List Program) (detaches : List Detach) where
  abbrev Took : (begun ended : ℕ) → List Line → (met : List (List Outcome)) → (old : List Counted) → (last : ℕ) → (new : List Counted) → Type 0
  Took = TookBeside boxes programs detaches

  none_met : (i begun ended : ℕ) (lines : List Line) (met : List (List Outcome)) (old : List Counted) (last : ℕ) (new : List Counted) → NoCalls i lines → Took begun ended lines met old last new
      → met_by i lines met ≡ []
  none_met i begun ended [] [] old last new quiet t = refl
  none_met i begun ended [] (os ∷ met) old last new quiet t = absurd t
  none_met i begun ended (l ∷ ls) [] old last new quiet t = absurd t
  none_met i begun ended (l ∷ ls) (os ∷ met) old last new quiet t =
      ap (λ (us : List Outcome). (if nat_eq i l.program then os else []) ++ us) (none_met i t.0 _ ls met t.1 last new quiet.1 t.4) ∙ append-nil (if nat_eq i l.program then os else [])
      ∙ own (nat_eq i l.program) refl
    where
      own : (b : Bool) → nat_eq i l.program ≡ b → (if nat_eq i l.program then os else []) ≡ []
      own false e = ap (λ (y : Bool). if y then os else []) e
      own true e =
          let none = quiet.0 (sym (eqb-true i l.program e)) in
          let h =
          subst (λ (q : Option Call). MatchOption q ((os ≡ []) × (t.1 ≡ left_at begun t.0 detaches old)) (λ c. MatchBool (asks_mailbox boxes (bound_to t.3.w c.import))
          ((o : Outcome) × (os ≡ o ∷ []) × IsMailed c.import o × (t.1 ≡ left_at begun t.0 detaches old))
          (Takes t.3.w (Some c) (supply t.3.answers (devices_of (left_at begun t.0 detaches old)) (faults_of (left_at begun t.0 detaches old))) os
          (supply t.3.left (devices_of t.1) (faults_of t.1))))) none t.3.takes in
          ap (λ (y : Bool). if y then os else []) e ∙ h.0

  -- The same lines, where the last call of one program met another outcome of a mailbox.
  pub record Answered (i v begun ended : ℕ) (lines : List Line) (met : List (List Outcome)) (old : List Counted) (last : ℕ) (new : List Counted) : Type 0 where
    pub known : List (List Outcome)
    pub took : Took begun ended lines known old last new
    pub front : List Outcome
    pub unknown : Outcome
    pub was : met_by i lines met ≡ front ++ unknown ∷ []
    pub is : met_by i lines known ≡ front ++ waited v ∷ []
    pub others : (j : ℕ) → (j ≡ i → ⊥) → met_by j lines known ≡ met_by j lines met

  -- one line
  module _ (i v : ℕ) (l : Line) (os : List Outcome) (old new : List Counted) (t : TakesBeside boxes programs l os old new) (a : IsAsking boxes programs i l) where
    abbrev Says : Bool → Call → List Outcome → Type 0
    Says b c us =
        MatchBool b ((o : Outcome) × (us ≡ o ∷ []) × IsMailed c.import o × (new ≡ old))
        (Takes t.w (Some c) (supply t.answers (devices_of old) (faults_of old)) us (supply t.left (devices_of new) (faults_of new)))

    abbrev SaysIf : Option Call → List Outcome → Type 0
    SaysIf q us = MatchOption q ((us ≡ []) × (new ≡ old)) (λ c. Says (asks_mailbox boxes (bound_to t.w c.import)) c us)

    asks_there : asks_mailbox boxes (bound_to t.w a.c.import) ≡ true
    asks_there =
        let same : t.w ≡ a.w = same_Some t.w a.w (sym t.program ∙ ap (slice_get programs) a.own ∙ a.there) in
        ap (λ (w : Program). asks_mailbox boxes (bound_to w a.c.import)) same ∙ a.asks

    one_met : (o : Outcome) × (os ≡ o ∷ []) × IsMailed a.c.import o × (new ≡ old)
    one_met = subst (λ (b : Bool). Says b a.c os) asks_there (subst (λ (q : Option Call). SaysIf q os) a.call t.takes)

    takes_known : TakesBeside boxes programs l (waited v ∷ []) old new
    takes_known = record {
      w = t.w;
      program = t.program;
      answers = t.answers;
      left = t.left;
      takes =
          subst (λ (q : Option Call). SaysIf q (waited v ∷ [])) (sym a.call)
          (subst (λ (b : Bool). Says b a.c (waited v ∷ [])) (sym asks_there) (waited v, refl, inl (Some (V.I32 v), 1, refl), one_met.3));
    }

  known_as : (i v begun ended : ℕ) (lines : List Line) (met : List (List Outcome)) (old : List Counted) (last : ℕ) (new : List Counted) → Took begun ended lines met old last new
      → AsksLast boxes programs i lines → Answered i v begun ended lines met old last new
  known_as i v begun ended [] met old last new t h = absurd h
  known_as i v begun ended (l ∷ ls) [] old last new t h = absurd t
  known_as i v begun ended (l ∷ ls) (os ∷ met) old last new t (inl h) =
      let r = known_as i v t.0 _ ls met t.1 last new t.4 h in
      let own : List Outcome = if nat_eq i l.program then os else [] in
      record {
        known = os ∷ r.known;
        took = (t.0, t.1, t.2, t.3, r.took);
        front = own ++ r.front;
        unknown = r.unknown;
        was = ap (λ (us : List Outcome). own ++ us) r.was ∙ sym (append_assoc own r.front (r.unknown ∷ []));
        is = ap (λ (us : List Outcome). own ++ us) r.is ∙ sym (append_assoc own r.front (waited v ∷ []));
        others = λ j other. ap (λ (us : List Outcome). (if nat_eq j l.program then os else []) ++ us) (r.others j other);
      }
  known_as i v begun ended (l ∷ ls) (os ∷ met) old last new t (inr h) =
      let a = h.0 in
      let one = one_met i v l os (left_at begun t.0 detaches old) t.1 t.3 a in
      let none = none_met i t.0 _ ls met t.1 last new h.1 t.4 in
      let here : nat_eq i l.program ≡ true = ap (nat_eq i) a.own ∙ same_number i in
      record {
        known = (waited v ∷ []) ∷ met;
        took = (t.0, t.1, t.2, takes_known i v l os (left_at begun t.0 detaches old) t.1 t.3 a, t.4);
        front = [];
        unknown = one.0;
        was = ap (λ (b : Bool). (if b then os else []) ++ met_by i ls met) here ∙ ap (λ (us : List Outcome). os ++ us) none ∙ append-nil os ∙ one.1;
        is = ap (λ (b : Bool). (if b then waited v ∷ [] else []) ++ met_by i ls met) here ∙ ap (λ (us : List Outcome). waited v ∷ us) none;
        others = λ j other.
            let away : nat_eq j l.program ≡ false = ne_eqb j l.program (λ e. other (e ∙ a.own)) in
            ap (λ (b : Bool). (if b then waited v ∷ [] else []) ++ met_by j ls met) away ∙ sym (ap (λ (b : Bool). (if b then os else []) ++ met_by j ls met) away);
      }

  -- ---- all programs

  module _ (begun ended : ℕ) (lines : List Line) (old : List Counted) (last : ℕ) (new : List Counted) (tellers : List Teller)
      (asked : (j : ℕ) (u : Teller) (r : Await) → slice_get tellers j ≡ Some u → u.receive ≡ Some r → AsksLast boxes programs j lines)
      (P : ℕ → Teller → ℕ → Type 0) (choice : (i : ℕ) (t : Teller) → slice_get tellers i ≡ Some t → (v : ℕ) × P i t v) where
    -- What the calls of so many programs met is known, with such answers; of the others a zero stands where one waits.
    pub record KnownTo (n : ℕ) : Type 0 where
      pub met : List (List Outcome)
      pub took : Took begun ended lines met old last new
      pub known : (i : ℕ) (t : Teller) → slice_get tellers i ≡ Some t → i < n → (v : ℕ) × P i t v × (met_by i lines met ≡ met_with v t)
      pub so_far : (i : ℕ) (t : Teller) → slice_get tellers i ≡ Some t → n ≤ i → met_by i lines met ≡ met_so_far t

    -- one program more, that doesn't wait
    awake_more : (n : ℕ) (k : KnownTo n) → ((t : Teller) → slice_get tellers n ≡ Some t → t.receive ≡ None) → KnownTo (suc n)
    awake_more n k awake = record {
      met = k.met;
      took = k.took;
      known = λ i t e less. by i t e less (cases_eq i n);
      so_far = λ i t e least. k.so_far i t e (omega (arith, least));
    }
      where
        by : (i : ℕ) (t : Teller) → slice_get tellers i ≡ Some t → i < suc n → (i ≡ n) ⊎ (i ≡ n → ⊥) → (v : ℕ) × P i t v × (met_by i lines k.met ≡ met_with v t)
        by i t e less (inr other) = k.known i t e (below i n other less)
        by i t e less (inl here) =
            let c = choice i t e in
            let none = awake t (ap (slice_get tellers) (sym here) ∙ e) in
            (c.0, c.1, k.so_far i t e (omega (arith, here)) ∙ ap (λ (q : Option Await). t.met ++ pending 0 q) none ∙ sym (ap (λ (q : Option Await). t.met ++ pending c.0 q) none))

    -- one program more, that waits
    waiting_more : (n : ℕ) (k : KnownTo n) (t : Teller) (r : Await) → slice_get tellers n ≡ Some t → t.receive ≡ Some r → KnownTo (suc n)
    waiting_more n k t r there waits = record {
      met = a.known;
      took = a.took;
      known = λ i u e less. by i u e less (cases_eq i n);
      so_far = λ i u e least. a.others i (λ same. let never : ⊥ = omega (arith, least, same) in never) ∙ k.so_far i u e (omega (arith, least));
    }
      where
        c : (v : ℕ) × P n t v
        c = choice n t there

        a : Answered n c.0 begun ended lines k.met old last new
        a = known_as n c.0 begun ended lines k.met old last new k.took (asked n t r there waits)

        before : a.front ≡ t.met
        before = front_same a.front t.met a.unknown (waited 0) (sym a.was ∙ k.so_far n t there (omega arith) ∙ ap (λ (q : Option Await). t.met ++ pending 0 q) waits)

        now : met_by n lines a.known ≡ met_with c.0 t
        now = a.is ∙ ap (λ (us : List Outcome). us ++ waited c.0 ∷ []) before ∙ sym (ap (λ (q : Option Await). t.met ++ pending c.0 q) waits)

        by : (i : ℕ) (u : Teller) → slice_get tellers i ≡ Some u → i < suc n → (i ≡ n) ⊎ (i ≡ n → ⊥) → (v : ℕ) × P i u v × (met_by i lines a.known ≡ met_with v u)
        by i u e less (inr other) = let h = k.known i u e (below i n other less) in (h.0, h.1, a.others i other ∙ h.2)
        by i u e less (inl here) =
            let same : t ≡ u = same_Some t u (sym there ∙ ap (slice_get tellers) (sym here) ∙ e) in
            subst (λ (x : Teller). (v : ℕ) × P i x v × (met_by i lines a.known ≡ met_with v x)) same
            (subst (λ (j : ℕ). (v : ℕ) × P j t v × (met_by j lines a.known ≡ met_with v t)) (sym here) (c.0, c.1, now))

    known_to : (n : ℕ) (met : List (List Outcome)) → Took begun ended lines met old last new → ((i : ℕ) (t : Teller) → slice_get tellers i ≡ Some t → met_by i lines met ≡ met_so_far t) → KnownTo n
    known_to zero met took so_far = record { met = met; took = took; known = λ i t e less. let never : ⊥ = omega (arith, less) in absurd never; so_far = λ i t e least. so_far i t e }
    known_to (suc n) met took so_far = by (slice_get tellers n) refl (known_to n met took so_far)
      where
        at : (t : Teller) → slice_get tellers n ≡ Some t → (r : Option Await) → t.receive ≡ r → KnownTo n → KnownTo (suc n)
        at t there None none k = awake_more n k (λ u e. ap (λ (x : Teller). x.receive) (same_Some u t (sym e ∙ there)) ∙ none)
        at t there (Some r) waits k = waiting_more n k t r there waits

        by : (o : Option Teller) → slice_get tellers n ≡ o → KnownTo n → KnownTo (suc n)
        by None none k = awake_more n k (λ u e. let bad : None ≡ Some u = sym none ∙ e in absurd cc)
        by (Some t) there k = at t there t.receive refl k

    -- What all calls met, with such answers.
    pub record AllKnown : Type 0 where
      pub met : List (List Outcome)
      pub took : Took begun ended lines met old last new
      pub known : (i : ℕ) (t : Teller) → slice_get tellers i ≡ Some t → (v : ℕ) × P i t v × (met_by i lines met ≡ met_with v t)

    pub all_known : (met : List (List Outcome)) → Took begun ended lines met old last new → ((i : ℕ) (t : Teller) → slice_get tellers i ≡ Some t → met_by i lines met ≡ met_so_far t) → AllKnown
    all_known met took so_far =
        let k = known_to (length tellers) met took so_far in
        record { met = k.met; took = k.took; known = λ i t e. k.known i t e (slice_get_within tellers i t e) }
