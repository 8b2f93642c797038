-- Between two turns the strand that is due first begins its own; where none is left, all has been told.
use Rattle.std.proofs.Common.{arith, ◌≡◌, ◌<◌, ◌≤◌, ◌⊎◌, inl, inr, ℕ, zero, suc, ◌+◌, List, [], ◌∷◌, ◌++◌, length, Option, Some, None, Bool, true, false, refl, sym, ap, ◌∙◌, subst, append-nil}
use Rattle.std.specs.Prelude.{nat_lt, slice_get, if◌then◌else◌}
use Rattle.wa_model.specs.Machine.{Ran, after, still}
use Rattle.wa_model.specs.Outside.{Event, ended}
use Rattle.wa_model.specs.Plan.{Entry, Outcome}
use Rattle.wa_model.specs.Blocking.{Note, done_notes}
use Rattle.wa_model.specs.Protocol.{Held, aside, busy, calling, entering, free, held_on, is_running, over, rewinds, starting, unwinds}
use Rattle.wa_model.specs.Store.{Store}
use Rattle.wa_model.specs.declared.events.End.TheVariants.{Done}
use Rattle.run_theory.proofs.Runs.{no_move}
use Rattle.host_laws.specs.Stretch.{meeting}
use Rattle.strand_laws.proofs.Blocks.{none_is, the_same}
use Rattle.strand_laws.proofs.ByTurns.{first_there, mark, shadow}
use Rattle.strand_laws.proofs.Threads.{counted, unfinished, unfinished_few}
use Rattle.strand_laws.proofs.WovenRuns.{finished_stops, stands_none}
use Rattle.strand_laws.specs.StrandWorld.{HeldStrands, strand_unless_over}
use Rattle.strand_laws.specs.Strands.{held_loom, held_wakes, outcomes_at}
use Rattle.strand_laws.specs.ToldStrands.{StrandTeller, met_and}
use Rattle.strand_laws.specs.Weaving.{Dues, HasTurn, IsDueFirst, due_in, is_ready, is_there}
use Rattle.strand_laws.specs.Woven.{Loom, Ready, Thread, Told, Woven, awake, finished, first_ready, last_event, put, ready_if, sooner, standing_now, told_by, weave, weave_on, woven, woven_by}
use Rattle.strand_host.proofs.StandingEnds.{whole_led}
use Rattle.strand_host.proofs.StandingLed.{led_same}
use Rattle.strand_host.proofs.StandingTellers.{dues_same}
use Rattle.strand_host.proofs.StandingThreads.{first_meeting, length_meeting, meeting_ready, wakes_events, wakes_last}
use Rattle.strand_host.proofs.StandingWoven.{true_false}
use Rattle.strand_host.specs.Standing.{AreWaiting, NextTurnBegins, NoTurnIsLeft, dues_of_strands, dues_of_threads, meeting_from, somewhere, threads_meeting, unless_over}

-- ---- the strand that is due first

same_first : (v : Dues) (a b : ℕ) → IsDueFirst v a → IsDueFirst v b → a ≡ b
same_first v a b h k = by (h.least b k.ready) (k.least a h.ready)
  where
    by : {x y : ℕ} → (x < y) ⊎ ((x ≡ y) × (a ≤ b)) → (y < x) ⊎ ((y ≡ x) × (b ≤ a)) → a ≡ b
    by (inl l) (inl m) = let no_way : ⊥ = omega (arith, l, m) in absurd no_way
    by (inl l) (inr m) = let e = m.0 in let no_way : ⊥ = omega (arith, l, e) in absurd no_way
    by (inr l) (inl m) = let e = l.0 in let no_way : ⊥ = omega (arith, m, e) in absurd no_way
    by (inr l) (inr m) = let p = l.1 in let q = m.1 in omega (arith, p, q)

module _ {S : Type 0} where
  marked : (o : Option S) → mark o ≡ somewhere o
  marked None = refl
  marked (Some s) = refl

  pub shadow_is : (ts : List (Thread S)) → shadow ts ≡ dues_of_threads ts
  shadow_is [] = refl
  shadow_is (t ∷ ts) =
      ap (λ (o : Option (Unit {0})). record { due = t.due; at = o } ∷ shadow ts) (marked t.at) ∙ ap (λ (v : Dues). record { due = t.due; at = somewhere t.at } ∷ v) (shadow_is ts)

  -- where it stands
  first_got : (i : ℕ) (ts : List (Thread S)) (r : Ready S) → first_ready i ts ≡ Some r → (m : ℕ) × (r.strand ≡ i + m) × (slice_get ts m ≡ Some (record { due = r.due; at = Some r.at }))
  first_got i [] r e = none_is r e
  first_got i (t ∷ ts) r e = by_both t.at refl (first_ready (suc i) ts) refl (λ q. later (first_got (suc i) ts r q)) e
    where
      Got : Type 0
      Got = (m : ℕ) × (r.strand ≡ i + m) × (slice_get (t ∷ ts) m ≡ Some (record { due = r.due; at = Some r.at }))

      later : (m : ℕ) × (r.strand ≡ suc i + m) × (slice_get ts m ≡ Some (record { due = r.due; at = Some r.at })) → Got
      later l = let z = l.1 in (suc l.0, omega (arith, z), l.2)

      here : (h : S) → t.at ≡ Some h → Some (record { strand = i; due = t.due; at = h }) ≡ Some r → Got
      here h a q =
          let z = the_same (record { strand = i; due = t.due; at = h }) r q in
          let y : i ≡ i + 0 = omega arith in (
            0,
            sym (ap (λ (x : Ready S). x.strand) z) ∙ y,
            ap (λ (o : Option S). Some (record { due = t.due; at = o })) a ∙ ap (λ (x : Ready S). Some (record { due = x.due; at = Some x.at })) z,
          )

      by_both : (a : Option S) → t.at ≡ a → (b : Option (Ready S)) → first_ready (suc i) ts ≡ b → (first_ready (suc i) ts ≡ Some r → Got) → sooner (ready_if i t.due a) b ≡ Some r → Got
      by_both None ea b eb on q = on (eb ∙ q)
      by_both (Some h) ea None eb on q = here h ea q
      by_both (Some h) ea (Some x) eb on q = by_less (nat_lt x.due t.due) q
        where
          by_less : (c : Bool) → (if c then Some x else Some (record { strand = i; due = t.due; at = h })) ≡ Some r → Got
          by_less true q2 = on (eb ∙ q2)
          by_less false q2 = here h ea q2

  -- where there is none, none is ready
  none_ready : (i : ℕ) (ts : List (Thread S)) → first_ready i ts ≡ None → (k : ℕ) → is_ready (slice_get (dues_of_threads ts) k) ≡ false
  none_ready i [] e k = refl
  none_ready i (t ∷ ts) e k = by_both t.at (first_ready (suc i) ts) refl e (λ q j. none_ready (suc i) ts q j) k
    where
      by_both : (a : Option S) (b : Option (Ready S)) → first_ready (suc i) ts ≡ b → sooner (ready_if i t.due a) b ≡ None
          → (first_ready (suc i) ts ≡ None → (j : ℕ) → is_ready (slice_get (dues_of_threads ts) j) ≡ false)
          → (j : ℕ) → is_ready (slice_get (record { due = t.due; at = somewhere a } ∷ dues_of_threads ts) j) ≡ false
      by_both None b eb q on zero = refl
      by_both None b eb q on (suc j) = on (eb ∙ q) j
      by_both (Some h) None eb q on j = none_is _ (sym q)
      by_both (Some h) (Some x) eb q on j = by_less (nat_lt x.due t.due) q
        where
          by_less : {A : Type 0} (c : Bool) → (if c then Some x else Some (record { strand = i; due = t.due; at = h })) ≡ None → A
          by_less true z = none_is _ (sym z)
          by_less false z = none_is _ (sym z)

  pub all_none : (i : ℕ) (ts : List (Thread S)) → ((k : ℕ) → is_ready (slice_get (dues_of_threads ts) k) ≡ false) → first_ready i ts ≡ None
  all_none i [] h = refl
  all_none i (t ∷ ts) h = by t.at (h 0) (all_none (suc i) ts (λ k. h (suc k)))
    where
      by : (a : Option S) → is_there (somewhere a) ≡ false → first_ready (suc i) ts ≡ None → sooner (ready_if i t.due a) (first_ready (suc i) ts) ≡ None
      by None q e = e
      by (Some x) q e = true_false q

  abbrev as_thread : ℕ → S → Thread S
  as_thread d s = record { due = d; at = Some s }

  pub first_is : (ts : List (Thread S)) (k due : ℕ) (h : S) → IsDueFirst (dues_of_threads ts) k → slice_get ts k ≡ Some (record { due = due; at = Some h })
      → first_ready 0 ts ≡ Some (record { strand = k; due = due; at = h })
  first_is ts k due h first there = by (first_ready 0 ts) refl
    where
      by : (o : Option (Ready S)) → first_ready 0 ts ≡ o → first_ready 0 ts ≡ Some (record { strand = k; due = due; at = h })
      by None e = true_false (sym first.ready ∙ none_ready 0 ts e k)
      by (Some r) e = e ∙ ap (λ (x : Ready S). Some x) same
        where
          number : r.strand ≡ k
          number = same_first (dues_of_threads ts) r.strand k (subst (λ (v : Dues). IsDueFirst v r.strand) (shadow_is ts) (first_there ts r e).2) first

          got : slice_get ts k ≡ Some (record { due = r.due; at = Some r.at })
          got =
              let g = first_got 0 ts r e in
              let z = g.1 in
              let n = number in
              let y : g.0 ≡ k = omega (arith, z, n) in
              subst (λ j. slice_get ts j ≡ Some (record { due = r.due; at = Some r.at })) y g.2

          thread : as_thread r.due r.at ≡ as_thread due h
          thread = the_same (as_thread r.due r.at) (as_thread due h) (sym got ∙ there)

          at_is : r.at ≡ h
          at_is = the_same r.at h (ap (λ (t : Thread S). t.at) thread)

          same : r ≡ record { strand = k; due = due; at = h }
          same = λ i. record { strand = number i; due = (ap (λ (t : Thread S). t.due) thread) i; at = at_is i }

  -- ---- strands that are passed

  less_put : (i : ℕ) (ts : List (Thread S)) (due d : ℕ) (h : S) → slice_get ts i ≡ Some (record { due = due; at = Some h }) → suc (unfinished (put i d None ts)) ≤ unfinished ts
  less_put i [] due d h e = none_is _ e
  less_put zero (t ∷ ts) due d h e =
      let z : t.at ≡ Some h = ap (λ (u : Thread S). u.at) (the_same t (record { due = due; at = Some h }) e) in
      let y : suc (unfinished ts) ≤ suc (unfinished ts) = omega arith in
      subst (λ o. suc (unfinished ts) ≤ counted o (unfinished ts)) (sym z) y
  less_put (suc i) (t ∷ ts) due d h e = more t.at (less_put i ts due d h e)
    where
      more : (o : Option S) → suc (unfinished (put i d None ts)) ≤ unfinished ts → suc (counted o (unfinished (put i d None ts))) ≤ counted o (unfinished ts)
      more None le = le
      more (Some s) le = omega (arith, le)

  none_unfinished : (i : ℕ) (ts : List (Thread S)) → unfinished ts ≤ 0 → first_ready i ts ≡ None
  none_unfinished i [] le = refl
  none_unfinished i (t ∷ ts) le = by t.at le (λ q. none_unfinished (suc i) ts q)
    where
      by : (o : Option S) → counted o (unfinished ts) ≤ 0 → (unfinished ts ≤ 0 → first_ready (suc i) ts ≡ None) → sooner (ready_if i t.due o) (first_ready (suc i) ts) ≡ None
      by None q on = on q
      by (Some s) q on = let no_way : ⊥ = omega (arith, q) in absurd no_way

-- what a strand makes as its turn begins: nothing, or its end
pub data Wakes : Option Event → Type 0 where
  nothing : Wakes None
  is_done : Wakes (Some (ended Done))

pub wakes_so : (s : Store) (h : Held) → Wakes (last_event (held_wakes s h).events)
wakes_so s (free old l) = by l.entries
  where
    by : (es : List Entry) → Wakes (last_event (done_notes s es))
    by [] = is_done
    by (e ∷ es) = nothing
wakes_so s (starting f t l) = nothing
wakes_so s (busy ph c l) = nothing
wakes_so s (calling (is_running task) t f args th l) = nothing
wakes_so s (calling (unwinds e i a) t f args th l) = nothing
wakes_so s (calling (rewinds e i a sp) t f args th l) = nothing
wakes_so s (aside ph c th l) = nothing
wakes_so s (entering ph e t l) = nothing
wakes_so s (over t) = nothing

module _ (loom : Loom Held) where
  Again : Type 0
  Again = Store → List (Thread Held) → Ran (Woven Held) Told

  by_wakes : (a b : Store → List (Thread Held) → Ran (Woven Held) Told) (i due : ℕ) (es : List Note) (s : Held) (ts : List (Thread Held)) (e : Option Event) → Wakes e
      → ((t : Store) → a t (put i due None ts) ≡ b t (put i due None ts)) → woven_by loom a false i due es s ts e ≡ woven_by loom b false i due es s ts e
  by_wakes a b i due es s ts _ nothing same = refl
  by_wakes a b i due es s ts _ is_done same = ap (after (told_by i es)) (same (loom.store s))

module _ (loom : Loom Held) (wakes_are : (s : Store) (h : Held) → Wakes (last_event (loom.wakes s h).events)) where
  -- more than are unfinished are never passed
  pub enough : (m n : ℕ) (s : Store) (ts : List (Thread Held)) → unfinished ts ≤ m → unfinished ts ≤ n → weave_on loom m s ts ≡ weave_on loom n s ts
  enough zero zero s ts le lf = refl
  enough zero (suc n) s ts le lf = sym (ap (awake loom (weave_on loom n) s ts) (none_unfinished 0 ts le))
  enough (suc m) zero s ts le lf = ap (awake loom (weave_on loom m) s ts) (none_unfinished 0 ts lf)
  enough (suc m) (suc n) s ts le lf = by (first_ready 0 ts) refl (λ t us a b. enough m n t us a b)
    where
      by : (o : Option (Ready Held)) → first_ready 0 ts ≡ o
          → ((t : Store) (us : List (Thread Held)) → unfinished us ≤ m → unfinished us ≤ n → weave_on loom m t us ≡ weave_on loom n t us)
          → awake loom (weave_on loom m) s ts o ≡ awake loom (weave_on loom n) s ts o
      by None e on = refl
      by (Some r) e on =
          let f = first_got 0 ts r e in
          let z = f.1 in
          let y : f.0 ≡ r.strand = omega (arith, z) in
          let there = subst (λ j. slice_get ts j ≡ Some (record { due = r.due; at = Some r.at })) y f.2 in
          let less = less_put r.strand ts r.due r.due r.at there in
          by_wakes loom (weave_on loom m) (weave_on loom n) r.strand r.due (loom.wakes s r.at).events (loom.wakes s r.at).last ts (last_event (loom.wakes s r.at).events) (wakes_are s r.at)
          (λ t. on t (put r.strand r.due None ts) (omega (arith, less, le)) (omega (arith, less, lf)))

  -- a turn that begins, as one in which nothing was told
  pub awake_is : (i due : ℕ) (es : List Note) (s : Held) (ts : List (Thread Held)) (h : Held) → Wakes (last_event es) → slice_get ts i ≡ Some (record { due = due; at = Some h })
      → woven_by loom (weave_on loom (length ts)) false i due es s ts (last_event es) ≡ woven loom false i due es s ts
  awake_is i due es s ts h wakes there =
      let less = less_put i ts due due h there in
      let few = unfinished_few ts in
      by_wakes loom (weave_on loom (length ts)) (weave_on loom (suc (length ts))) i due es s ts (last_event es) wakes
      (λ t. enough (length ts) (suc (length ts)) t (put i due None ts) (omega (arith, less, few)) (omega (arith, less, few)))

-- ---- laws

wakes_waiting : (s : Store) (h : Held) → AreWaiting (held_wakes s h).events (held_wakes s h).last
wakes_waiting s (free old l) = by l.entries
  where
    by : (es : List Entry) → AreWaiting (done_notes s es) (held_on s l es)
    by [] = (refl, refl, refl, refl)
    by (e ∷ es) = tt
wakes_waiting s (starting f t l) = tt
wakes_waiting s (busy ph c l) = tt
wakes_waiting s (calling (is_running task) t f args th l) = tt
wakes_waiting s (calling (unwinds e i a) t f args th l) = tt
wakes_waiting s (calling (rewinds e i a sp) t f args th l) = tt
wakes_waiting s (aside ph c th l) = tt
wakes_waiting s (entering ph e t l) = tt
wakes_waiting s (over t) = tt

got_meeting : (f : ℕ → List Outcome) (i j k due : ℕ) (h : Held) (ts : List (Thread Held)) → j ≡ i + k → slice_get ts k ≡ Some (record { due = due; at = Some h })
    → slice_get (meeting_from f i ts) k ≡ Some (record { due = due; at = Some (meeting (f j) h) })
got_meeting f i j k due h [] e q = none_is _ q
got_meeting f i j zero due h (t ∷ ts) e q =
    let z = the_same t (record { due = due; at = Some h }) q in
    let y : i ≡ j = omega (arith, e) in
    ap (λ (u : Thread Held). slice_get (meeting_from f i (u ∷ ts)) 0) z ∙ ap (λ n. Some (record { due = due; at = Some (meeting (f n) h) })) y
got_meeting f i j (suc k) due h (t ∷ ts) e q = got_meeting f (suc i) j k due h ts (omega (arith, e)) q

pub ready_teller : (ss : List StrandTeller) (k : ℕ) → is_ready (slice_get (dues_of_strands ss) k) ≡ true → (s : StrandTeller) × (slice_get ss k ≡ Some s) × (s.has_ended ≡ false)
ready_teller [] k e = true_false (sym e)
ready_teller (s ∷ ss) zero e = (s, refl, by s.has_ended e)
  where
    by : (b : Bool) → is_there (unless_over b) ≡ true → b ≡ false
    by true q = true_false (sym q)
    by false q = refl
ready_teller (s ∷ ss) (suc k) e = ready_teller ss k e

teller_due : (ss : List StrandTeller) (k : ℕ) (s : StrandTeller) → slice_get ss k ≡ Some s → due_in (slice_get (dues_of_strands ss) k) ≡ s.due
teller_due [] k s e = none_is s e
teller_due (t ∷ ss) zero s e = ap (λ (u : StrandTeller). u.due) (the_same t s e)
teller_due (t ∷ ss) (suc k) s e = teller_due ss k s e

thread_due : (ts : List (Thread Held)) (k : ℕ) (t : Thread Held) → slice_get ts k ≡ Some t → due_in (slice_get (dues_of_threads ts) k) ≡ t.due
thread_due [] k t e = none_is t e
thread_due (u ∷ ts) zero t e = ap (λ (x : Thread Held). x.due) (the_same u t e)
thread_due (u ∷ ts) (suc k) t e = thread_due ts k t e

-- where a strand stands that hasn't ended
pub thread_got : (ts : List (Thread Held)) (k : ℕ) → is_ready (slice_get (dues_of_threads ts) k) ≡ true → (due : ℕ) × (h : Held) × (slice_get ts k ≡ Some (record { due = due; at = Some h }))
thread_got [] k e = true_false (sym e)
thread_got (t ∷ ts) zero e = by t.at refl e
  where
    by : (o : Option Held) → t.at ≡ o → is_there (somewhere o) ≡ true → (due : ℕ) × (h : Held) × (Some t ≡ Some (record { due = due; at = Some h }))
    by None a q = true_false (sym q)
    by (Some h) a q = (t.due, h, ap (λ (p : Option Held). Some (record { due = t.due; at = p })) a)
thread_got (t ∷ ts) (suc k) e = thread_got ts k e

pub next_turn_begins : NextTurnBegins
next_turn_begins g t left s ts k due h b first there = record {
  used = b.used;
  steps = b.steps;
  led = λ more. led_same g.program (met_and t.strands more) b.used t.told _ _ (begins more) (b.led more);
  waiting = wakes_waiting s h;
  s = teller.0;
  there = teller.1;
  unfinished = teller.2;
  due_is = sym (teller_due t.strands k teller.0 teller.1) ∙ ap (λ (v : Dues). due_in (slice_get v k)) (sym b.dues) ∙ thread_due ts k _ there;
  dues = dues_same ts k due h (held_wakes s h).last there ∙ b.dues;
  turn = subst (λ o. HasTurn o (dues_of_strands t.strands) k) (sym b.no_turn) first;
  wide = b.wide;
  within = b.within;
}
  where
    teller : (u : StrandTeller) × (slice_get t.strands k ≡ Some u) × (u.has_ended ≡ false)
    teller = ready_teller t.strands k first.ready

    loom : Loom Held
    loom = held_loom g.program

    first_one : first_ready 0 ts ≡ Some (record { strand = k; due = due; at = h })
    first_one = first_is ts k due h (subst (λ (v : Dues). IsDueFirst v k) (sym b.dues) first) there

    begins : (more : List (List Outcome)) → weave_on loom (suc (length ts)) s (threads_meeting more ts)
        ≡ woven loom false k due (held_wakes s h).events (meeting (outcomes_at more k) (held_wakes s h).last) (threads_meeting more ts)
    begins more =
        let f : ℕ → List Outcome = outcomes_at more in
        let us : List (Thread Held) = threads_meeting more ts in
        let es : List Note = (held_wakes s h).events in
        let last : Held = meeting (f k) (held_wakes s h).last in
        ap (awake loom (weave_on loom (length ts)) s us) (first_meeting f 0 ts ∙ ap (meeting_ready f) first_one)
        ∙ ap (λ (ns : List Note). woven_by loom (weave_on loom (length ts)) false k due ns (held_wakes s (meeting (f k) h)).last us (last_event ns)) (wakes_events (f k) s h)
        ∙ ap (λ (x : Held). woven_by loom (weave_on loom (length ts)) false k due es x us (last_event es)) (wakes_last (f k) s h)
        ∙ ap (λ n. woven_by loom (weave_on loom n) false k due es last us (last_event es)) (sym (length_meeting f 0 ts))
        ∙ awake_is loom wakes_so k due es last us (meeting (f k) h) (wakes_so s h) (got_meeting f 0 k k due h ts (let z : k ≡ 0 + k = omega arith in z) there)

pub no_turn_is_left : NoTurnIsLeft
no_turn_is_left g t left s ts b none more =
    told_all (whole_led g (met_and t.strands more) b.used left (t.told ++ []) (finished us) (led_same g.program (met_and t.strands more) b.used t.told _ (still (finished us)) stops_there (b.led more)) b.steps
    (no_move (Woven Held) Told (weave loom) left (finished us) (finished_stops loom us)))
  where
    loom : Loom Held
    loom = held_loom g.program

    us : List (Thread Held)
    us = threads_meeting more ts

    stops_there : weave_on loom (suc (length ts)) s us ≡ still (finished us)
    stops_there =
        ap (awake loom (weave_on loom (length ts)) s us)
        (first_meeting (outcomes_at more) 0 ts ∙ ap (meeting_ready (outcomes_at more)) (all_none 0 ts (λ k. ap (λ (v : Dues). is_ready (slice_get v k)) b.dues ∙ none k)))

    told_all : HeldStrands g (met_and t.strands more) ((t.told ++ []) ++ strand_unless_over g.steps (standing_now (finished us))) → HeldStrands g (met_and t.strands more) t.told
    told_all e =
        sym (append-nil t.told) ∙ sym (append-nil (t.told ++ [])) ∙ ap (λ (o : Option (Ready Held)). (t.told ++ []) ++ strand_unless_over g.steps o) (sym (stands_none loom us)) ∙ e
