-- A strand's moves, in the machine of woven strands, where notes of it wait to be told.
use Rattle.std.proofs.Common.{◌≡◌, ◌⊎◌, inl, inr, ℕ, suc, ◌+◌, List, [], ◌∷◌, ◌++◌, length, Option, Some, None, Bool, true, false, refl, sym, ap, ◌∙◌, subst, append_assoc, append-nil}
use Rattle.std.specs.Prelude.{MatchBool, if◌then◌else◌}
use Rattle.wa_model.specs.Machine.{Ran, after, still}
use Rattle.wa_model.specs.Outside.{Event, answered, called, ended, parked, paused, returned, shown}
use Rattle.wa_model.specs.declared.events.End.{End}
use Rattle.wa_model.specs.declared.events.End.TheVariants as E
use Rattle.wa_model.specs.Blocking.{Note}
use Rattle.wa_model.specs.Protocol.{Held, store_held}
use Rattle.wa_model.specs.Store.{Store}
use Rattle.world_model.specs.World.{ends_turn, is_end}
use Rattle.host_laws.specs.Stretch.{is_over}
use Rattle.strand_laws.proofs.Weaving.{GoesOn, stays_on, told_both, twice}
use Rattle.strand_laws.proofs.WovenRuns.{NoEnds, length_put, no_ends_last}
use Rattle.strand_laws.specs.Woven.{Loom, Thread, Told, Woven, ends_strand, finished, going, last_event, put, told_by, weave_on, woven, woven_by}
use Rattle.strand_host.specs.Standing.{AreWaiting, IsNoTrap, is_at_pause}

-- ---- notes that end a turn

pub true_false : {A : Type 0} → true ≡ false → A
true_false e = let no_way : ⊥ = cc in absurd no_way

-- none of these ends a turn but the last, and where that is a pause the strand stands behind it
abbrev pub Ending : List Note → Held → Type 0
Ending [] h = Unit {0}
Ending (x ∷ xs) h = MatchBool (ends_turn x.event) ((xs ≡ []) × (is_end x.event ≡ false → is_at_pause h ≡ true)) (Ending xs h)

-- the last of these ends a turn
abbrev pub LastEnds : List Note → Held → Type 0
LastEnds xs h = (e : Event) × (last_event xs ≡ Some e) × (ends_turn e ≡ true) × (is_end e ≡ false → is_at_pause h ≡ true)

pub no_ends_nil : (xs : List Note) → NoEnds xs → NoEnds (xs ++ [])
no_ends_nil xs h = subst NoEnds (sym (append-nil xs)) h

pub no_ends_waiting : (xs : List Note) (h : Held) → NoEnds xs → AreWaiting xs h
no_ends_waiting [] h n = tt
no_ends_waiting (x ∷ xs) h n = subst (λ b. MatchBool b ((xs ≡ []) × (is_end x.event ≡ true) × (is_over h ≡ true) × (x.store ≡ store_held h)) (AreWaiting xs h)) (sym n.0) (no_ends_waiting xs h n.1)

pub waiting_open : (xs : List Note) (h : Held) → AreWaiting xs h → is_over h ≡ false → NoEnds xs
waiting_open [] h w e = tt
waiting_open (x ∷ xs) h w e = by (ends_turn x.event) refl w (λ v. waiting_open xs h v e)
  where
    by : (b : Bool) → ends_turn x.event ≡ b → MatchBool b ((xs ≡ []) × (is_end x.event ≡ true) × (is_over h ≡ true) × (x.store ≡ store_held h)) (AreWaiting xs h) → (AreWaiting xs h → NoEnds xs) → (ends_turn x.event ≡ false) × NoEnds xs
    by true q v on = true_false (sym v.2 ∙ e)
    by false q v on = (q, on v)

last_more : (x y : Note) (ys : List Note) → last_event (x ∷ y ∷ ys) ≡ last_event (y ∷ ys)
last_more x y ys = refl

pub last_behind : (xs : List Note) (y : Note) (ys : List Note) → last_event (xs ++ y ∷ ys) ≡ last_event (y ∷ ys)
last_behind [] y ys = refl
last_behind (x ∷ []) y ys = refl
last_behind (x ∷ z ∷ xs) y ys = last_behind (z ∷ xs) y ys

-- before the last, or at it
pub split_ending : (xs ys : List Note) (h : Held) → Ending (xs ++ ys) h → (NoEnds xs × Ending ys h) ⊎ ((ys ≡ []) × LastEnds xs h)
split_ending [] ys h e = inl (tt, e)
split_ending (x ∷ xs) ys h e = by (ends_turn x.event) refl e (λ q. split_ending xs ys h q)
  where
    nil_left : (us vs : List Note) → us ++ vs ≡ [] → us ≡ []
    nil_left [] vs q = refl
    nil_left (u ∷ us) vs q = let no_way : ⊥ = cc in absurd no_way

    nil_right : (us vs : List Note) → us ++ vs ≡ [] → vs ≡ []
    nil_right [] vs q = q
    nil_right (u ∷ us) vs q = let no_way : ⊥ = cc in absurd no_way

    on_last : (ys ≡ []) × LastEnds xs h → (ys ≡ []) × LastEnds (x ∷ xs) h
    on_last r = (r.0, (r.1.0, longer xs r.1.1, r.1.2, r.1.3))
      where
        longer : (us : List Note) → last_event us ≡ Some r.1.0 → last_event (x ∷ us) ≡ Some r.1.0
        longer [] q = let no_way : ⊥ = cc in absurd no_way
        longer (u ∷ us) q = q

    by : (b : Bool) → ends_turn x.event ≡ b → MatchBool b ((xs ++ ys ≡ []) × (is_end x.event ≡ false → is_at_pause h ≡ true)) (Ending (xs ++ ys) h)
        → (Ending (xs ++ ys) h → (NoEnds xs × Ending ys h) ⊎ ((ys ≡ []) × LastEnds xs h)) → (NoEnds (x ∷ xs) × Ending ys h) ⊎ ((ys ≡ []) × LastEnds (x ∷ xs) h)
    by true q v on = inr (nil_right xs ys v.0, (x.event, ap (λ (us : List Note). last_event (x ∷ us)) (nil_left xs ys v.0), q, v.1))
    by false q v on = by_rest (on v)
      where
        by_rest : (NoEnds xs × Ending ys h) ⊎ ((ys ≡ []) × LastEnds xs h) → (NoEnds (x ∷ xs) × Ending ys h) ⊎ ((ys ≡ []) × LastEnds (x ∷ xs) h)
        by_rest (inl r) = inl ((q, r.0), r.1)
        by_rest (inr r) = inr (on_last r)

-- behind notes that end no turn it is the last of the others
pub last_other : (xs ys : List Note) (e : Event) → NoEnds xs → last_event (xs ++ ys) ≡ Some e → ends_turn e ≡ true → last_event ys ≡ Some e
last_other xs [] e n q t = absurd (no (last_event xs) (no_ends_last xs n) (sym (ap last_event (append-nil xs)) ∙ q))
  where
    no : (o : Option Event) → GoesOn o → o ≡ Some e → ⊥
    no None h z = cc
    no (Some f) h z = true_false (sym t ∙ ap ends_turn (sym (same f z)) ∙ h)
      where
        same : (f : Event) → Some f ≡ Some e → f ≡ e
        same f z = cc
last_other xs (y ∷ ys) e n q t = sym (last_behind xs y ys) ∙ q

-- ---- the woven machine

module _ {S : Type 0} (loom : Loom S) where
  abbrev pub ran_to : List Told → Woven S → Ran (Woven S) Told
  ran_to es w = record { events = es; last = w }

  -- of the other strands it doesn't matter how this one stood
  pub woven_alike : (st : Bool) (i due : ℕ) (es : List Note) (s : S) (ts us : List (Thread S)) → length ts ≡ length us → ((d : ℕ) (o : Option S) → put i d o ts ≡ put i d o us)
      → woven loom st i due es s ts ≡ woven loom st i due es s us
  woven_alike st i due es s ts us size same = ap (λ n. woven_by loom (weave_on loom (suc n)) st i due es s ts (last_event es)) size ∙ by_case (last_event es)
    where
      again : Store → List (Thread S) → Ran (Woven S) Told
      again = weave_on loom (suc (length us))

      stay : ran_to (told_by i es) (going i due s ts) ≡ ran_to (told_by i es) (going i due s us)
      stay = ap (λ (vs : List (Thread S)). ran_to (told_by i es) (record { now = i; threads = vs })) (same due (Some s))

      by_end : (b : Bool) → after (told_by i es) (if b then again (loom.store s) (put i due None ts) else still (finished (put i due None ts)))
          ≡ after (told_by i es) (if b then again (loom.store s) (put i due None us) else still (finished (put i due None us)))
      by_end b = ap (λ (vs : List (Thread S)). after (told_by i es) (if b then again (loom.store s) vs else still (finished vs))) (same due None)

      by_case : (e : Option Event) → woven_by loom again st i due es s ts e ≡ woven_by loom again st i due es s us e
      by_case None = stay
      by_case (Some (called c)) = stay
      by_case (Some (answered x)) = stay
      by_case (Some (parked u)) = stay
      by_case (Some (returned n x)) = stay
      by_case (Some (shown a b)) = stay
      by_case (Some (paused ticks used)) = ap (λ (vs : List (Thread S)). after (told_by i es) (again (loom.store s) vs)) (same (due + ticks) (Some s))
      by_case (Some (ended how)) = by_end (ends_strand st how)

  pub woven_put : (st : Bool) (i due : ℕ) (es : List Note) (s : S) (ts : List (Thread S)) (d : ℕ) (o : Option S) → woven loom st i due es s (put i d o ts) ≡ woven loom st i due es s ts
  woven_put st i due es s ts d o = woven_alike st i due es s (put i d o ts) ts (length_put loom i d o ts) (λ e q. twice loom i ts (record { due = d; at = o }) (record { due = e; at = q }))

  -- notes that end no turn stand in front
  pub woven_open : (st : Bool) (i due : ℕ) (es : List Note) (s : S) (ts : List (Thread S)) → NoEnds es → woven loom st i due es s ts ≡ ran_to (told_by i es) (going i due s ts)
  woven_open st i due es s ts n = stays_on loom (weave_on loom (suc (length ts))) st i due es s ts (last_event es) (no_ends_last es n)

  pub woven_front : (st : Bool) (i due : ℕ) (xs es : List Note) (s : S) (ts : List (Thread S)) → NoEnds xs
      → woven loom st i due (xs ++ es) s ts ≡ after (told_by i xs) (woven loom st i due es s ts)
  woven_front st i due xs [] s ts n =
      woven_open st i due (xs ++ []) s ts (no_ends_nil xs n) ∙ ap (λ (us : List Told). ran_to us (going i due s ts)) (told_both loom i xs [])
  woven_front st i due xs (y ∷ ys) s ts n = ap (woven_by loom again st i due (xs ++ y ∷ ys) s ts) (last_behind xs y ys) ∙ by_case (last_event (y ∷ ys))
    where
      again : Store → List (Thread S) → Ran (Woven S) Told
      again = weave_on loom (suc (length ts))

      es : List Note
      es = y ∷ ys

      both : told_by i (xs ++ es) ≡ told_by i xs ++ told_by i es
      both = told_both loom i xs es

      stay : ran_to (told_by i (xs ++ es)) (going i due s ts) ≡ after (told_by i xs) (ran_to (told_by i es) (going i due s ts))
      stay = ap (λ (us : List Told). ran_to us (going i due s ts)) both

      two : (r : Ran (Woven S) Told) → after (told_by i (xs ++ es)) r ≡ after (told_by i xs) (after (told_by i es) r)
      two r = ap (λ (us : List Told). after us r) both ∙ ap (λ (us : List Told). ran_to us r.last) (append_assoc (told_by i xs) (told_by i es) r.events)

      by_case : (e : Option Event) → woven_by loom again st i due (xs ++ es) s ts e ≡ after (told_by i xs) (woven_by loom again st i due es s ts e)
      by_case None = stay
      by_case (Some (called c)) = stay
      by_case (Some (answered x)) = stay
      by_case (Some (parked u)) = stay
      by_case (Some (returned m x)) = stay
      by_case (Some (shown a b)) = stay
      by_case (Some (paused ticks used)) = two (again (loom.store s) (put i (due + ticks) (Some s) ts))
      by_case (Some (ended how)) = two (if ends_strand st how then again (loom.store s) (put i due None ts) else still (finished (put i due None ts)))

  -- where the last note is no trap it doesn't matter where it was made
  pub no_trap_same : (st st' : Bool) (i due : ℕ) (es : List Note) (s : S) (ts : List (Thread S)) → IsNoTrap (last_event es) → woven loom st i due es s ts ≡ woven loom st' i due es s ts
  no_trap_same st st' i due es s ts h = by_case (last_event es) h
    where
      again : Store → List (Thread S) → Ran (Woven S) Told
      again = weave_on loom (suc (length ts))

      by_end : (b b' : Bool) → b ≡ b' → after (told_by i es) (if b then again (loom.store s) (put i due None ts) else still (finished (put i due None ts)))
          ≡ after (told_by i es) (if b' then again (loom.store s) (put i due None ts) else still (finished (put i due None ts)))
      by_end b b' e = ap (λ (c : Bool). after (told_by i es) (if c then again (loom.store s) (put i due None ts) else still (finished (put i due None ts)))) e

      by_how : (how : End) → IsNoTrap (Some (ended how)) → ends_strand st how ≡ ends_strand st' how
      by_how (E.Trapped t) q = absurd q
      by_how _ q = refl

      by_case : (e : Option Event) → IsNoTrap e → woven_by loom again st i due es s ts e ≡ woven_by loom again st' i due es s ts e
      by_case None q = refl
      by_case (Some (called c)) q = refl
      by_case (Some (answered x)) q = refl
      by_case (Some (parked u)) q = refl
      by_case (Some (returned m x)) q = refl
      by_case (Some (shown a b)) q = refl
      by_case (Some (paused ticks used)) q = refl
      by_case (Some (ended how)) q = by_end (ends_strand st how) (ends_strand st' how) (by_how how q)
