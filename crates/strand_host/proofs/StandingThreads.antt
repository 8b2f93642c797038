-- Strands whose outcomes are put in.
use Rattle.std.proofs.Common.{arith, ◌≡◌, ℕ, zero, suc, ◌+◌, List, [], ◌∷◌, ◌++◌, length, Option, Some, None, Bool, true, false, refl, sym, ap, ◌∙◌, append_assoc, append-nil}
use Rattle.std.specs.Prelude.{nat_lt, if◌then◌else◌, slice_get, slice_set}
use Rattle.wa_model.specs.Store.{Store}
use Rattle.wa_model.specs.Plan.{Entry, Outcome}
use Rattle.wa_model.specs.Blocking.{Left, with_outcomes}
use Rattle.wa_model.specs.Protocol.{Held, aside, busy, calling, entering, free, held_on, is_running, over, rewinds, starting, unwinds}
use Rattle.host_laws.specs.Stretch.{is_over, meeting}
use Rattle.strand_laws.specs.Strands.{held_starts, held_wakes, outcomes_at}
use Rattle.strand_laws.specs.ToldStrands.{StrandTeller, met_and}
use Rattle.strand_laws.specs.Woven.{Ready, Thread, first_ready, put, ready_if, sooner}
use Rattle.strand_host.specs.Standing.{is_at_pause, is_in_start, meeting_from, meeting_if}

-- ---- one strand

module _ (os : List Outcome) where
  pub starts_meeting : (h : Held) → held_starts (meeting os h) ≡ held_starts h
  starts_meeting (free s l) = refl
  starts_meeting (starting f s l) = refl
  starts_meeting (busy (is_running task) c l) = refl
  starts_meeting (busy (unwinds e i a) c l) = refl
  starts_meeting (busy (rewinds e i a sp) c l) = refl
  starts_meeting (calling ph s f args th l) = refl
  starts_meeting (aside ph c th l) = refl
  starts_meeting (entering ph e s l) = refl
  starts_meeting (over s) = refl

  pub in_start_meeting : (h : Held) → is_in_start (meeting os h) ≡ is_in_start h
  in_start_meeting (free s l) = refl
  in_start_meeting (starting f s l) = refl
  in_start_meeting (busy ph c l) = refl
  in_start_meeting (calling ph s f args th l) = refl
  in_start_meeting (aside ph c th l) = refl
  in_start_meeting (entering ph e s l) = refl
  in_start_meeting (over s) = refl

  pub pause_meeting : (h : Held) → is_at_pause (meeting os h) ≡ is_at_pause h
  pause_meeting (free s l) = refl
  pause_meeting (starting f s l) = refl
  pause_meeting (busy ph c l) = refl
  pause_meeting (calling ph s f args th l) = refl
  pause_meeting (aside ph c th l) = refl
  pause_meeting (entering ph e s l) = refl
  pause_meeting (over s) = refl

  pub over_meeting : (h : Held) → is_over (meeting os h) ≡ is_over h
  over_meeting (free s l) = refl
  over_meeting (starting f s l) = refl
  over_meeting (busy ph c l) = refl
  over_meeting (calling ph s f args th l) = refl
  over_meeting (aside ph c th l) = refl
  over_meeting (entering ph e s l) = refl
  over_meeting (over s) = refl

  -- what it makes as its turn begins doesn't depend on its outcomes
  pub wakes_events : (s : Store) (h : Held) → (held_wakes s (meeting os h)).events ≡ (held_wakes s h).events
  wakes_events s (free old l) = refl
  wakes_events s (starting f t l) = refl
  wakes_events s (busy ph c l) = refl
  wakes_events s (calling (is_running task) t f args th l) = refl
  wakes_events s (calling (unwinds e i a) t f args th l) = refl
  wakes_events s (calling (rewinds e i a sp) t f args th l) = refl
  wakes_events s (aside ph c th l) = refl
  wakes_events s (entering ph e t l) = refl
  wakes_events s (over t) = refl

  pub on_meeting : (s : Store) (l : Left) (es : List Entry) → held_on s (with_outcomes l os) es ≡ meeting os (held_on s l es)
  on_meeting s l [] = refl
  on_meeting s l (e ∷ es) = refl

  pub wakes_last : (s : Store) (h : Held) → (held_wakes s (meeting os h)).last ≡ meeting os (held_wakes s h).last
  wakes_last s (free old l) = on_meeting s l l.entries
  wakes_last s (starting f t l) = refl
  wakes_last s (busy ph c l) = refl
  wakes_last s (calling (is_running task) t f args th l) = refl
  wakes_last s (calling (unwinds e i a) t f args th l) = refl
  wakes_last s (calling (rewinds e i a sp) t f args th l) = refl
  wakes_last s (aside ph c th l) = refl
  wakes_last s (entering ph e t l) = refl
  wakes_last s (over t) = refl

-- ---- all strands

module _ (f : ℕ → List Outcome) where
  pub length_meeting : (i : ℕ) (ts : List (Thread Held)) → length (meeting_from f i ts) ≡ length ts
  length_meeting i [] = refl
  length_meeting i (t ∷ ts) = ap suc (length_meeting (suc i) ts)

  put_at : (i j k d : ℕ) (o : Option Held) (ts : List (Thread Held)) → j ≡ i + k → put k d (meeting_if (f j) o) (meeting_from f i ts) ≡ meeting_from f i (put k d o ts)
  put_at i j k d o [] e = refl
  put_at i j zero d o (t ∷ ts) e =
      let z : j ≡ i = omega (arith, e) in ap (λ n. record { due = d; at = meeting_if (f n) o } ∷ meeting_from f (suc i) ts) z
  put_at i j (suc k) d o (t ∷ ts) e =
      ap (λ (us : List (Thread Held)). record { due = t.due; at = meeting_if (f i) t.at } ∷ us) (put_at (suc i) j k d o ts (omega (arith, e)))

  pub put_meeting : (k d : ℕ) (o : Option Held) (ts : List (Thread Held)) → put k d (meeting_if (f k) o) (meeting_from f 0 ts) ≡ meeting_from f 0 (put k d o ts)
  put_meeting k d o ts = put_at 0 k k d o ts (let z : k ≡ 0 + k = omega arith in z)

  abbrev pub meeting_ready : Option (Ready Held) → Option (Ready Held)
  meeting_ready None = None
  meeting_ready (Some r) = Some (record { strand = r.strand; due = r.due; at = meeting (f r.strand) r.at })

  ready_meeting : (i d : ℕ) (o : Option Held) → ready_if i d (meeting_if (f i) o) ≡ meeting_ready (ready_if i d o)
  ready_meeting i d None = refl
  ready_meeting i d (Some h) = refl

  sooner_meeting : (a b : Option (Ready Held)) → sooner (meeting_ready a) (meeting_ready b) ≡ meeting_ready (sooner a b)
  sooner_meeting None b = refl
  sooner_meeting (Some a) None = refl
  sooner_meeting (Some a) (Some b) = by (nat_lt b.due a.due)
    where
      by : (c : Bool) → (if c then meeting_ready (Some b) else meeting_ready (Some a)) ≡ meeting_ready (if c then Some b else Some a)
      by true = refl
      by false = refl

  pub first_meeting : (i : ℕ) (ts : List (Thread Held)) → first_ready i (meeting_from f i ts) ≡ meeting_ready (first_ready i ts)
  first_meeting i [] = refl
  first_meeting i (t ∷ ts) =
      ap (λ o. sooner o (first_ready (suc i) (meeting_from f (suc i) ts))) (ready_meeting i t.due t.at) ∙ ap (sooner (meeting_ready (ready_if i t.due t.at))) (first_meeting (suc i) ts)
      ∙ sooner_meeting (ready_if i t.due t.at) (first_ready (suc i) ts)

-- other outcomes of the strand that is put
put_same_at : (f g : ℕ → List Outcome) (i k d : ℕ) (o : Option Held) (ts : List (Thread Held)) → ((m : ℕ) → (m ≡ i + k → ⊥) → f m ≡ g m)
    → put k d o (meeting_from f i ts) ≡ put k d o (meeting_from g i ts)
put_same_at f g i k d o [] h = refl
put_same_at f g i zero d o (t ∷ ts) h = ap (λ (us : List (Thread Held)). record { due = d; at = o } ∷ us) (rest (suc i) ts (λ m. h (suc i + m) (λ e. omega (arith, e))))
  where
    rest : (j : ℕ) (us : List (Thread Held)) → ((m : ℕ) → f (j + m) ≡ g (j + m)) → meeting_from f j us ≡ meeting_from g j us
    rest j [] q = refl
    rest j (u ∷ us) q =
        let z : j + 0 ≡ j = omega arith in
        let e : f j ≡ g j = ap f (sym z) ∙ q 0 ∙ ap g z in
        ap (λ (os : List Outcome). record { due = u.due; at = meeting_if os u.at } ∷ meeting_from f (suc j) us) e
        ∙ ap (λ (vs : List (Thread Held)). record { due = u.due; at = meeting_if (g j) u.at } ∷ vs)
        (rest (suc j) us (λ m. let y : suc j + m ≡ j + suc m = omega arith in ap f y ∙ q (suc m) ∙ ap g (sym y)))
put_same_at f g i (suc k) d o (t ∷ ts) h =
    let e : f i ≡ g i = h i (λ q. omega (arith, q)) in
    ap (λ (os : List Outcome). record { due = t.due; at = meeting_if os t.at } ∷ put k d o (meeting_from f (suc i) ts)) e
    ∙ ap (λ (us : List (Thread Held)). record { due = t.due; at = meeting_if (g i) t.at } ∷ us) (put_same_at f g (suc i) k d o ts (λ m ne. h m (λ q. ne (omega (arith, q)))))

pub put_same_meeting : (f g : ℕ → List Outcome) (k d : ℕ) (o : Option Held) (ts : List (Thread Held)) → ((m : ℕ) → (m ≡ k → ⊥) → f m ≡ g m)
    → put k d o (meeting_from f 0 ts) ≡ put k d o (meeting_from g 0 ts)
put_same_meeting f g k d o ts h = put_same_at f g 0 k d o ts (λ m ne. h m (λ q. ne (omega (arith, q))))

-- ---- outcomes that were met

-- these stand in front of a strand's others
abbrev pub with_front : (strand : ℕ) → List Outcome → List (List Outcome) → List (List Outcome)
with_front zero os [] = os ∷ []
with_front zero os (xs ∷ xss) = (os ++ xs) ∷ xss
with_front (suc k) os [] = [] ∷ with_front k os []
with_front (suc k) os (xs ∷ xss) = xs ∷ with_front k os xss

pub front_own : (k : ℕ) (os : List Outcome) (more : List (List Outcome)) → outcomes_at (with_front k os more) k ≡ os ++ outcomes_at more k
front_own zero os [] = sym (append-nil os)
front_own zero os (xs ∷ xss) = refl
front_own (suc k) os [] = front_own k os [] ∙ ap (λ (us : List Outcome). os ++ us) (none_at k)
  where
    none_at : (k : ℕ) → outcomes_at [] k ≡ outcomes_at [] (suc k)
    none_at k = refl
front_own (suc k) os (xs ∷ xss) = front_own k os xss

pub front_others : (k : ℕ) (os : List Outcome) (more : List (List Outcome)) (m : ℕ) → (m ≡ k → ⊥) → outcomes_at (with_front k os more) m ≡ outcomes_at more m
front_others zero os [] zero ne = absurd (ne refl)
front_others zero os [] (suc m) ne = refl
front_others zero os (xs ∷ xss) zero ne = absurd (ne refl)
front_others zero os (xs ∷ xss) (suc m) ne = refl
front_others (suc k) os [] zero ne = refl
front_others (suc k) os [] (suc m) ne = front_others k os [] m (λ e. ne (ap suc e)) ∙ refl
front_others (suc k) os (xs ∷ xss) zero ne = refl
front_others (suc k) os (xs ∷ xss) (suc m) ne = front_others k os xss m (λ e. ne (ap suc e))

some_same : {A : Type 0} (x y : A) → Some x ≡ Some y → x ≡ y
some_same x y e = cc

pub met_front : (ss : List StrandTeller) (k : ℕ) (s s' : StrandTeller) (os : List Outcome) (more : List (List Outcome)) → slice_get ss k ≡ Some s → s'.met ≡ s.met ++ os
    → met_and (slice_set ss k s') more ≡ met_and ss (with_front k os more)
met_front [] k s s' os more e met = let no_way : ⊥ = cc in absurd no_way
met_front (t ∷ ss) zero s s' os [] e met =
    ap (λ (us : List Outcome). us ∷ met_and ss []) (met ∙ ap (λ (u : StrandTeller). u.met ++ os) (sym (some_same t s e)))
met_front (t ∷ ss) zero s s' os (xs ∷ xss) e met =
    ap (λ (us : List Outcome). us ∷ met_and ss xss)
    (ap (λ (us : List Outcome). us ++ xs) (met ∙ ap (λ (u : StrandTeller). u.met ++ os) (sym (some_same t s e))) ∙ append_assoc t.met os xs)
met_front (t ∷ ss) (suc k) s s' os [] e met =
    ap (λ (us : List Outcome). us ∷ met_and (slice_set ss k s') []) (sym (append-nil t.met)) ∙ ap (λ (uss : List (List Outcome)). (t.met ++ []) ∷ uss) (met_front ss k s s' os [] e met)
met_front (t ∷ ss) (suc k) s s' os (xs ∷ xss) e met = ap (λ (uss : List (List Outcome)). (t.met ++ xs) ∷ uss) (met_front ss k s s' os xss e met)
