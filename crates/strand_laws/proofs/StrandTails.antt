-- Strands with more outcomes than their calls take: what they tell is the same, or goes on at a call for which there was none.
use Rattle.std.proofs.Common.{arith, ◌≡◌, ◌+◌, ◌⊎◌, inl, inr, ℕ, zero, suc, List, [], ◌∷◌, ◌++◌, length, Option, Some, None, Bool, true, false, refl, sym, ap, ◌∙◌, subst}
use Rattle.std.proofs.Common.{append_assoc, append-nil, eqb-true, eq-eqb}
use Rattle.std.specs.Prelude.{nat_lt, nat_eq, if◌then◌else◌, slice_get}
use Rattle.wa_model.specs.Outside.{Event, answered, called, ended, parked, paused, returned, shown}
use Rattle.wa_model.specs.Machine.{Ran, after, still}
use Rattle.wa_model.specs.Store.{Store}
use Rattle.wa_model.specs.Plan.{Entry, Outcome}
use Rattle.wa_model.specs.Instantiation.{Opening, fails_as, opens}
use Rattle.wa_model.specs.Blocking.{Left, Note, done_notes}
use Rattle.wa_model.specs.Protocol.{Held, aside, busy, calling, entering, free, held_begun, held_on, is_running, over, rewinds, starting, store_held, unwinds}
use Rattle.run_theory.proofs.Runs.{mapped}
use Rattle.world_laws.specs.Originals.{new_calls}
use Rattle.world_laws.proofs.Counting.{Tells, calls_on}
use Rattle.world_laws.proofs.Tails.{tailed, tailed_left}
use Rattle.strand_laws.proofs.TurnsTold.{notes_mine, notes_other}
use Rattle.strand_laws.specs.StrandWorld.{notes_of}
use Rattle.strand_laws.specs.Strands.{StrandProgram, held_loom, held_starts, held_wakes}
use Rattle.strand_laws.specs.Woven.{Loom, Ready, Thread, Told, Woven, awake, ends_strand, finished, first_ready, going, last_event, put, ready_if, sooner, standing}
use Rattle.strand_laws.specs.Woven.{told_by, weave_on, woven, woven_by}

-- ---- calls of one strand

-- how many calls a strand makes in these notes
abbrev pub calls_by : (strand : ℕ) → List Told → ℕ
calls_by k ts = new_calls (notes_of k ts)

pub is_mine : (k : ℕ) (t : Told) → (t.strand ≡ k) ⊎ (t.strand ≡ k → ⊥)
is_mine k t = by (nat_eq t.strand k) refl
  where
    differs : true ≡ false → ⊥
    differs e = cc

    by : (b : Bool) → nat_eq t.strand k ≡ b → (t.strand ≡ k) ⊎ (t.strand ≡ k → ⊥)
    by true e = inl (eqb-true t.strand k e)
    by false e = inr (λ q. differs (sym (eq-eqb t.strand k q) ∙ e))

pub notes_same : (k : ℕ) (t : Told) (ts : List Told) → t.strand ≡ k → notes_of k (t ∷ ts) ≡ t.note ∷ notes_of k ts
notes_same k t ts e = subst (λ j. notes_of j (t ∷ ts) ≡ t.note ∷ notes_of j ts) e (notes_mine t.strand t.note ts)

pub notes_both : (k : ℕ) (xs ys : List Told) → notes_of k (xs ++ ys) ≡ notes_of k xs ++ notes_of k ys
notes_both k [] ys = refl
notes_both k (t ∷ xs) ys = by (notes_both k xs ys) (is_mine k t)
  where
    by : notes_of k (xs ++ ys) ≡ notes_of k xs ++ notes_of k ys → (t.strand ≡ k) ⊎ (t.strand ≡ k → ⊥) → notes_of k (t ∷ (xs ++ ys)) ≡ notes_of k (t ∷ xs) ++ notes_of k ys
    by on (inl e) = notes_same k t (xs ++ ys) e ∙ ap (λ (ns : List Note). t.note ∷ ns) on ∙ ap (λ (ns : List Note). ns ++ notes_of k ys) (sym (notes_same k t xs e))
    by on (inr ne) = notes_other k t.strand t.note (xs ++ ys) ne ∙ on ∙ ap (λ (ns : List Note). ns ++ notes_of k ys) (sym (notes_other k t.strand t.note xs ne))

pub calls_both : (k : ℕ) (xs ys : List Told) → calls_by k (xs ++ ys) ≡ calls_by k xs + calls_by k ys
calls_both k xs ys = ap new_calls (notes_both k xs ys) ∙ calls_on (notes_of k xs) (notes_of k ys)

pub own_notes : (k : ℕ) (es : List Note) → notes_of k (told_by k es) ≡ es
own_notes k [] = refl
own_notes k (x ∷ es) = notes_mine k x (told_by k es) ∙ ap (λ (ns : List Note). x ∷ ns) (own_notes k es)

pub no_notes : (j k : ℕ) (es : List Note) → (k ≡ j → ⊥) → notes_of j (told_by k es) ≡ []
no_notes j k [] ne = refl
no_notes j k (x ∷ es) ne = notes_other j k x (told_by k es) ne ∙ no_notes j k es ne

-- ---- outcomes left

-- a strand that has made so many calls has taken an outcome for each, unless it is over
abbrev pub Counts : (total made : ℕ) → Held → Type 0
Counts total made (free s l) = made + length l.outcomes ≡ total
Counts total made (starting f s l) = made + length l.outcomes ≡ total
Counts total made (busy ph c l) = made + length l.outcomes ≡ total
Counts total made (calling ph s f args th l) = made + length l.outcomes ≡ total
Counts total made (aside ph c th l) = made + length l.outcomes ≡ total
Counts total made (entering ph e s l) = made + length l.outcomes ≡ total
Counts total made (over s) = Unit {0}

pub tells_counts : (total made left : ℕ) (es : List Note) (h : Held) → made + left ≡ total → Tells left es h → Counts total (made + new_calls es) h
tells_counts total made left es (free s l) e t = let z = t.1 in omega (arith, e, z)
tells_counts total made left es (starting f s l) e t = let z = t.1 in omega (arith, e, z)
tells_counts total made left es (busy ph c l) e t = let z = t.1 in omega (arith, e, z)
tells_counts total made left es (calling ph s f args th l) e t = let z = t.1 in omega (arith, e, z)
tells_counts total made left es (aside ph c th l) e t = let z = t.1 in omega (arith, e, z)
tells_counts total made left es (entering ph y s l) e t = let z = t.1 in omega (arith, e, z)
tells_counts total made left es (over s) e t = tt

-- where a strand stands
abbrev pub at_of : Option (Thread Held) → Option Held
at_of None = None
at_of (Some t) = t.at

some_same : {A : Type 0} (x y : A) → Some x ≡ Some y → x ≡ y
some_same x y e = cc

none_some : {A B : Type 0} (x : A) → None ≡ Some x → B
none_some x e = let no_way : ⊥ = cc in absurd no_way

put_here : (i d : ℕ) (o : Option Held) (ts : List (Thread Held)) (h : Held) → at_of (slice_get (put i d o ts) i) ≡ Some h → o ≡ Some h
put_here i d o [] h e = none_some h e
put_here zero d o (t ∷ ts) h e = e
put_here (suc i) d o (t ∷ ts) h e = put_here i d o ts h e

put_there : (i d : ℕ) (o : Option Held) (ts : List (Thread Held)) (k : ℕ) → (i ≡ k → ⊥) → slice_get (put i d o ts) k ≡ slice_get ts k
put_there i d o [] k ne = refl
put_there zero d o (t ∷ ts) zero ne = absurd (ne refl)
put_there zero d o (t ∷ ts) (suc k) ne = refl
put_there (suc i) d o (t ∷ ts) zero ne = refl
put_there (suc i) d o (t ∷ ts) (suc k) ne = put_there i d o ts k (λ e. ne (ap suc e))

pub stands_at : (i : ℕ) (o : Option (Thread Held)) (r : Ready Held) → standing i o ≡ Some r → at_of o ≡ Some r.at
stands_at i None r e = none_some r e
stands_at i (Some t) r e = by t.at e
  where
    by : (a : Option Held) → ready_if i t.due a ≡ Some r → a ≡ Some r.at
    by None q = none_some r q
    by (Some h) q = ap (λ (x : Ready Held). Some x.at) (some_same (record { strand = i; due = t.due; at = h }) r q)

first_at : (i : ℕ) (ts : List (Thread Held)) (r : Ready Held) → first_ready i ts ≡ Some r → (k : ℕ) × (r.strand ≡ i + k) × (at_of (slice_get ts k) ≡ Some r.at)
first_at i [] r e = none_some r e
first_at i (t ∷ ts) r e =
    by_both (λ q. let m = first_at (suc i) ts r q in let z = m.1 in (suc m.0, omega (arith, z), m.2)) t.at (first_ready (suc i) ts) refl refl e
  where
    here : (h : Held) → t.at ≡ Some h → Some (record { strand = i; due = t.due; at = h }) ≡ Some r → (k : ℕ) × (r.strand ≡ i + k) × (at_of (slice_get (t ∷ ts) k) ≡ Some r.at)
    here h a q =
        let z = some_same (record { strand = i; due = t.due; at = h }) r q in
        let y : i ≡ i + 0 = omega arith in
        (0, sym (ap (λ (x : Ready Held). x.strand) z) ∙ y, a ∙ ap (λ (x : Ready Held). Some x.at) z)

    by_both : (first_ready (suc i) ts ≡ Some r → (k : ℕ) × (r.strand ≡ i + k) × (at_of (slice_get (t ∷ ts) k) ≡ Some r.at))
        → (a : Option Held) (b : Option (Ready Held)) → t.at ≡ a → first_ready (suc i) ts ≡ b → sooner (ready_if i t.due a) b ≡ Some r
        → (k : ℕ) × (r.strand ≡ i + k) × (at_of (slice_get (t ∷ ts) k) ≡ Some r.at)
    by_both later None b ea eb q = later (eb ∙ q)
    by_both later (Some h) None ea eb q = here h ea q
    by_both later (Some h) (Some x) ea eb q = by_less (nat_lt x.due t.due) q
      where
        by_less : (c : Bool) → (if c then Some x else Some (record { strand = i; due = t.due; at = h })) ≡ Some r → (k : ℕ) × (r.strand ≡ i + k) × (at_of (slice_get (t ∷ ts) k) ≡ Some r.at)
        by_less true q2 = later (eb ∙ q2)
        by_less false q2 = here h ea q2

pub begun_counts : (start : Option ℕ) (l : Left) (o : Opening) → Counts (length l.outcomes) 0 (held_begun start l o).last
begun_counts start l (fails_as e) = tt
begun_counts None l (opens s) = by l.entries
  where
    by : (es : List Entry) → Counts (length l.outcomes) 0 (held_on s l es)
    by [] = tt
    by (e ∷ es) = omega arith
begun_counts (Some f) l (opens s) = omega arith

-- strands that are woven have taken an outcome for each call that they told
module _ (total : ℕ → ℕ) where
  abbrev pub Agrees : List Told → List (Thread Held) → Type 0
  Agrees done ts = (k : ℕ) (h : Held) → at_of (slice_get ts k) ≡ Some h → Counts (total k) (calls_by k done) h

  pub calls_own : (i : ℕ) (done : List Told) (es : List Note) → calls_by i (done ++ told_by i es) ≡ calls_by i done + new_calls es
  calls_own i done es = calls_both i done (told_by i es) ∙ ap (λ (ns : List Note). calls_by i done + new_calls ns) (own_notes i es)

  calls_others : (i k : ℕ) (done : List Told) (es : List Note) → (i ≡ k → ⊥) → calls_by k (done ++ told_by i es) ≡ calls_by k done
  calls_others i k done es ne =
      let a = calls_both k done (told_by i es) in
      let b : calls_by k (told_by i es) ≡ 0 = ap new_calls (no_notes k i es ne) in
      omega (arith, a, b)

  agrees_put : (done : List Told) (ts : List (Thread Held)) (i due : ℕ) (es : List Note) (o : Option Held) → Agrees done ts
      → ((h : Held) → o ≡ Some h → Counts (total i) (calls_by i (done ++ told_by i es)) h) → Agrees (done ++ told_by i es) (put i due o ts)
  agrees_put done ts i due es o h own k a e = by (nat_eq i k) refl
    where
      differs : true ≡ false → ⊥
      differs q = cc

      by : (b : Bool) → nat_eq i k ≡ b → Counts (total k) (calls_by k (done ++ told_by i es)) a
      by true q =
          let z : i ≡ k = eqb-true i k q in
          subst (λ j. Counts (total j) (calls_by j (done ++ told_by i es)) a) z (own a (put_here i due o ts a (subst (λ j. at_of (slice_get (put i due o ts) j) ≡ Some a) (sym z) e)))
      by false q =
          let ne : (i ≡ k → ⊥) = λ z. differs (sym (eq-eqb i k z) ∙ q) in
          subst (λ n. Counts (total k) n a) (sym (calls_others i k done es ne)) (h k a (ap at_of (sym (put_there i due o ts k ne)) ∙ e))

  none_own : (i : ℕ) (done : List Told) (es : List Note) (h : Held) → None ≡ Some h → Counts (total i) (calls_by i (done ++ told_by i es)) h
  none_own i done es h e = none_some h e

  module _ (loom : Loom Held) (waking : (total made : ℕ) (s : Store) (h : Held) → Counts total made h → Counts total (made + new_calls (loom.wakes s h).events) (loom.wakes s h).last) where
    abbrev pub Keeps : List Told → Ran (Woven Held) Told → Type 0
    Keeps done r = Agrees (done ++ r.events) r.last.threads

    abbrev AgainKeeps : (Store → List (Thread Held) → Ran (Woven Held) Told) → Type 0
    AgainKeeps again = (done : List Told) (s : Store) (ts : List (Thread Held)) → Agrees done ts → Keeps done (again s ts)

    keeps_by : (again : Store → List (Thread Held) → Ran (Woven Held) Told) → AgainKeeps again → (done : List Told) (st : Bool) (i due : ℕ) (es : List Note) (s : Held)
        (ts : List (Thread Held)) (e : Option Event) → Agrees done ts → Counts (total i) (calls_by i (done ++ told_by i es)) s → Keeps done (woven_by loom again st i due es s ts e)
    keeps_by again ok done st i due es s ts e h own = by_case e
      where
        mine : (a : Held) → Some s ≡ Some a → Counts (total i) (calls_by i (done ++ told_by i es)) a
        mine a q = subst (Counts (total i) (calls_by i (done ++ told_by i es))) (some_same s a q) own

        stays : Keeps done (record { events = told_by i es; last = going i due s ts })
        stays = agrees_put done ts i due es (Some s) h mine

        assoc : (r : Ran (Woven Held) Told) → Keeps (done ++ told_by i es) r → Keeps done (after (told_by i es) r)
        assoc r k = subst (λ (xs : List Told). Agrees xs r.last.threads) (append_assoc done (told_by i es) r.events) k

        by_end : (b : Bool) → Keeps done (after (told_by i es) (if b then again (loom.store s) (put i due None ts) else still (finished (put i due None ts))))
        by_end true =
            assoc (again (loom.store s) (put i due None ts)) (ok (done ++ told_by i es) (loom.store s) (put i due None ts) (agrees_put done ts i due es None h (none_own i done es)))
        by_end false =
            assoc (still (finished (put i due None ts)))
            (subst (λ (xs : List Told). Agrees xs (put i due None ts)) (sym (append-nil (done ++ told_by i es))) (agrees_put done ts i due es None h (none_own i done es)))

        by_case : (e : Option Event) → Keeps done (woven_by loom again st i due es s ts e)
        by_case None = stays
        by_case (Some (called c)) = stays
        by_case (Some (answered x)) = stays
        by_case (Some (parked u)) = stays
        by_case (Some (returned n x)) = stays
        by_case (Some (shown a b)) = stays
        by_case (Some (paused ticks used)) =
            assoc (again (loom.store s) (put i (due + ticks) (Some s) ts))
            (ok (done ++ told_by i es) (loom.store s) (put i (due + ticks) (Some s) ts) (agrees_put done ts i (due + ticks) es (Some s) h mine))
        by_case (Some (ended how)) = by_end (ends_strand st how)

    keeps_on : (most : ℕ) → AgainKeeps (weave_on loom most)
    keeps_on zero done s ts h = subst (λ (xs : List Told). Agrees xs ts) (sym (append-nil done)) h
    keeps_on (suc most) done s ts h = by_first (keeps_on most) (first_ready 0 ts) refl
      where
        by_first : AgainKeeps (weave_on loom most) → (o : Option (Ready Held)) → first_ready 0 ts ≡ o → Keeps done (awake loom (weave_on loom most) s ts o)
        by_first on None e = subst (λ (xs : List Told). Agrees xs ts) (sym (append-nil done)) h
        by_first on (Some r) e =
            let f = first_at 0 ts r e in
            let z = f.1 in
            let y : f.0 ≡ r.strand = omega (arith, z) in
            let there : at_of (slice_get ts r.strand) ≡ Some r.at = subst (λ k. at_of (slice_get ts k) ≡ Some r.at) y f.2 in
            let w : Ran Held Note = loom.wakes s r.at in
            keeps_by (weave_on loom most) on done false r.strand r.due w.events w.last ts (last_event w.events) h
            (subst (λ n. Counts (total r.strand) n w.last) (sym (calls_own r.strand done w.events)) (waking (total r.strand) (calls_by r.strand done) s r.at (h r.strand r.at there)))

    pub keeps_woven : (done : List Told) (st : Bool) (i due : ℕ) (es : List Note) (s : Held) (ts : List (Thread Held)) → Agrees done ts
        → Counts (total i) (calls_by i (done ++ told_by i es)) s → Keeps done (woven loom st i due es s ts)
    keeps_woven done st i due es s ts h own = keeps_by (weave_on loom (suc (length ts))) (keeps_on (suc (length ts))) done st i due es s ts (last_event es) h own

pub held_waking : (total made : ℕ) (s : Store) (h : Held) → Counts total made h → Counts total (made + new_calls (held_wakes s h).events) (held_wakes s h).last
held_waking total made s (free old l) e = by l.entries
  where
    by : (es : List Entry) → Counts total (made + new_calls (done_notes s es)) (held_on s l es)
    by [] = tt
    by (y ∷ es) = omega (arith, e)
held_waking total made s (starting f t l) e = omega (arith, e)
held_waking total made s (busy ph c l) e = omega (arith, e)
held_waking total made s (calling (is_running task) t f args th l) e = omega (arith, e)
held_waking total made s (calling (unwinds x i a) t f args th l) e = omega (arith, e)
held_waking total made s (calling (rewinds x i a sp) t f args th l) e = omega (arith, e)
held_waking total made s (aside ph c th l) e = omega (arith, e)
held_waking total made s (entering ph x t l) e = omega (arith, e)
held_waking total made s (over t) e = tt

-- ---- strands with more outcomes

module _ (g : StrandProgram) (tails : ℕ → List Outcome) where
  abbrev pub loom : Loom Held
  loom = held_loom g

  abbrev pub tail_at : ℕ → Option Held → Option Held
  tail_at i None = None
  tail_at i (Some h) = Some (tailed (tails i) h)

  -- each strand with its further outcomes, where the first has this number
  abbrev pub tailed_from : (strand : ℕ) → List (Thread Held) → List (Thread Held)
  tailed_from i [] = []
  tailed_from i (t ∷ ts) = record { due = t.due; at = tail_at i t.at } ∷ tailed_from (suc i) ts

  abbrev pub tailed_woven : Woven Held → Woven Held
  tailed_woven w = record { now = w.now; threads = tailed_from 0 w.threads }

  length_tailed : (i : ℕ) (ts : List (Thread Held)) → length (tailed_from i ts) ≡ length ts
  length_tailed i [] = refl
  length_tailed i (t ∷ ts) = ap suc (length_tailed (suc i) ts)

  put_tailed : (i j k d : ℕ) (o : Option Held) (ts : List (Thread Held)) → j ≡ i + k → put k d (tail_at j o) (tailed_from i ts) ≡ tailed_from i (put k d o ts)
  put_tailed i j k d o [] e = refl
  put_tailed i j zero d o (t ∷ ts) e =
      let z : j ≡ i = omega (arith, e) in ap (λ n. record { due = d; at = tail_at n o } ∷ tailed_from (suc i) ts) z
  put_tailed i j (suc k) d o (t ∷ ts) e =
      ap (λ (us : List (Thread Held)). record { due = t.due; at = tail_at i t.at } ∷ us) (put_tailed (suc i) j k d o ts (omega (arith, e)))

  abbrev tail_ready : Option (Ready Held) → Option (Ready Held)
  tail_ready None = None
  tail_ready (Some r) = Some (record { strand = r.strand; due = r.due; at = tailed (tails r.strand) r.at })

  abbrev pub tail_standing : ℕ → Option (Ready Held) → Option (Ready Held)
  tail_standing i None = None
  tail_standing i (Some r) = Some (record { strand = r.strand; due = r.due; at = tailed (tails i) r.at })

  ready_tailed : (i d : ℕ) (o : Option Held) → ready_if i d (tail_at i o) ≡ tail_ready (ready_if i d o)
  ready_tailed i d None = refl
  ready_tailed i d (Some h) = refl

  standing_ready : (i d : ℕ) (o : Option Held) → ready_if i d (tail_at i o) ≡ tail_standing i (ready_if i d o)
  standing_ready i d None = refl
  standing_ready i d (Some h) = refl

  sooner_tailed : (a b : Option (Ready Held)) → sooner (tail_ready a) (tail_ready b) ≡ tail_ready (sooner a b)
  sooner_tailed None b = refl
  sooner_tailed (Some a) None = refl
  sooner_tailed (Some a) (Some b) = by (nat_lt b.due a.due)
    where
      by : (c : Bool) → (if c then tail_ready (Some b) else tail_ready (Some a)) ≡ tail_ready (if c then Some b else Some a)
      by true = refl
      by false = refl

  first_tailed : (i : ℕ) (ts : List (Thread Held)) → first_ready i (tailed_from i ts) ≡ tail_ready (first_ready i ts)
  first_tailed i [] = refl
  first_tailed i (t ∷ ts) =
      ap (λ o. sooner o (first_ready (suc i) (tailed_from (suc i) ts))) (ready_tailed i t.due t.at) ∙ ap (sooner (tail_ready (ready_if i t.due t.at))) (first_tailed (suc i) ts)
      ∙ sooner_tailed (ready_if i t.due t.at) (first_ready (suc i) ts)

  pub standing_tailed : (i j k : ℕ) (ts : List (Thread Held)) → j ≡ i + k → standing j (slice_get (tailed_from i ts) k) ≡ tail_standing j (standing j (slice_get ts k))
  standing_tailed i j k [] e = refl
  standing_tailed i j zero (t ∷ ts) e = let z : j ≡ i = omega (arith, e) in ap (λ n. ready_if j t.due (tail_at n t.at)) (sym z) ∙ standing_ready j t.due t.at
  standing_tailed i j (suc k) (t ∷ ts) e = standing_tailed (suc i) j k ts (omega (arith, e))

  pub store_tailed : (tail : List Outcome) (h : Held) → store_held (tailed tail h) ≡ store_held h
  store_tailed tail (free s l) = refl
  store_tailed tail (starting f s l) = refl
  store_tailed tail (busy ph c l) = refl
  store_tailed tail (calling ph s f args th l) = refl
  store_tailed tail (aside ph c th l) = refl
  store_tailed tail (entering ph e s l) = refl
  store_tailed tail (over s) = refl

  pub starts_tailed : (tail : List Outcome) (h : Held) → held_starts (tailed tail h) ≡ held_starts h
  starts_tailed tail (free s l) = refl
  starts_tailed tail (starting f s l) = refl
  starts_tailed tail (busy (is_running task) c l) = refl
  starts_tailed tail (busy (unwinds e i a) c l) = refl
  starts_tailed tail (busy (rewinds e i a sp) c l) = refl
  starts_tailed tail (calling ph s f args th l) = refl
  starts_tailed tail (aside ph c th l) = refl
  starts_tailed tail (entering ph e s l) = refl
  starts_tailed tail (over s) = refl

  wakes_tailed : (tail : List Outcome) (s : Store) (h : Held) → held_wakes s (tailed tail h) ≡ mapped (tailed tail) (held_wakes s h)
  wakes_tailed tail s (free old l) = by l.entries
    where
      by : (es : List Entry) → record { events = done_notes s es; last = held_on s (tailed_left tail l) es } ≡ mapped (tailed tail) (record { events = done_notes s es; last = held_on s l es })
      by [] = refl
      by (e ∷ es) = refl
  wakes_tailed tail s (starting f t l) = refl
  wakes_tailed tail s (busy ph c l) = refl
  wakes_tailed tail s (calling (is_running task) t f args th l) = refl
  wakes_tailed tail s (calling (unwinds e i a) t f args th l) = refl
  wakes_tailed tail s (calling (rewinds e i a sp) t f args th l) = refl
  wakes_tailed tail s (aside ph c th l) = refl
  wakes_tailed tail s (entering ph e t l) = refl
  wakes_tailed tail s (over t) = refl

  abbrev Alike : (Store → List (Thread Held) → Ran (Woven Held) Told) → Type 0
  Alike again = (s : Store) (ts : List (Thread Held)) → again s (tailed_from 0 ts) ≡ mapped tailed_woven (again s ts)

  put_zero : (i d : ℕ) (o : Option Held) (ts : List (Thread Held)) → put i d (tail_at i o) (tailed_from 0 ts) ≡ tailed_from 0 (put i d o ts)
  put_zero i d o ts = put_tailed 0 i i d o ts (let z : i ≡ 0 + i = omega arith in z)

  finished_tailed : (ts : List (Thread Held)) → finished (tailed_from 0 ts) ≡ tailed_woven (finished ts)
  finished_tailed ts = ap (λ n. record { now = n; threads = tailed_from 0 ts }) (length_tailed 0 ts)

  by_tailed : (again : Store → List (Thread Held) → Ran (Woven Held) Told) → Alike again → (st : Bool) (i due : ℕ) (es : List Note) (s : Held) (ts : List (Thread Held)) (e : Option Event)
      → woven_by loom again st i due es (tailed (tails i) s) (tailed_from 0 ts) e ≡ mapped tailed_woven (woven_by loom again st i due es s ts e)
  by_tailed again ok st i due es s ts e = by_case e
    where
      stays : record { events = told_by i es; last = going i due (tailed (tails i) s) (tailed_from 0 ts) } ≡ mapped tailed_woven (record { events = told_by i es; last = going i due s ts })
      stays = ap (λ (us : List (Thread Held)). record { events = told_by i es; last = record { now = i; threads = us } }) (put_zero i due (Some s) ts)

      on_from : (d : ℕ) (o : Option Held) → again (store_held (tailed (tails i) s)) (put i d (tail_at i o) (tailed_from 0 ts)) ≡ mapped tailed_woven (again (store_held s) (put i d o ts))
      on_from d o =
          ap (λ (us : List (Thread Held)). again (store_held (tailed (tails i) s)) us) (put_zero i d o ts) ∙ ap (λ (t : Store). again t (tailed_from 0 (put i d o ts))) (store_tailed (tails i) s)
          ∙ ok (store_held s) (put i d o ts)

      by_end : (b : Bool) → after (told_by i es) (if b then again (store_held (tailed (tails i) s)) (put i due None (tailed_from 0 ts)) else still (finished (put i due None (tailed_from 0 ts))))
          ≡ mapped tailed_woven (after (told_by i es) (if b then again (store_held s) (put i due None ts) else still (finished (put i due None ts))))
      by_end true = ap (after (told_by i es)) (on_from due None)
      by_end false =
          ap (λ (us : List (Thread Held)). after (told_by i es) (still (finished us))) (put_zero i due None ts) ∙ ap (λ (w : Woven Held). after (told_by i es) (still w)) (finished_tailed (put i due None ts))

      by_case : (e : Option Event) → woven_by loom again st i due es (tailed (tails i) s) (tailed_from 0 ts) e ≡ mapped tailed_woven (woven_by loom again st i due es s ts e)
      by_case None = stays
      by_case (Some (called c)) = stays
      by_case (Some (answered x)) = stays
      by_case (Some (parked u)) = stays
      by_case (Some (returned n x)) = stays
      by_case (Some (shown a b)) = stays
      by_case (Some (paused ticks used)) = ap (after (told_by i es)) (on_from (due + ticks) (Some s))
      by_case (Some (ended how)) = by_end (ends_strand st how)

  on_alike : (most : ℕ) → Alike (weave_on loom most)
  on_alike zero s ts = ap still (finished_tailed ts)
  on_alike (suc most) s ts = ap (awake loom (weave_on loom most) s (tailed_from 0 ts)) (first_tailed 0 ts) ∙ by_first (on_alike most) (first_ready 0 ts)
    where
      by_first : Alike (weave_on loom most) → (o : Option (Ready Held)) → awake loom (weave_on loom most) s (tailed_from 0 ts) (tail_ready o) ≡ mapped tailed_woven (awake loom (weave_on loom most) s ts o)
      by_first on None = ap still (finished_tailed ts)
      by_first on (Some r) =
          let w : Ran Held Note = held_wakes s r.at in
          ap (λ (q : Ran Held Note). woven_by loom (weave_on loom most) false r.strand r.due q.events q.last (tailed_from 0 ts) (last_event q.events)) (wakes_tailed (tails r.strand) s r.at)
          ∙ by_tailed (weave_on loom most) on false r.strand r.due w.events w.last ts (last_event w.events)

  pub woven_tailed : (st : Bool) (i due : ℕ) (es : List Note) (s : Held) (ts : List (Thread Held))
      → woven loom st i due es (tailed (tails i) s) (tailed_from 0 ts) ≡ mapped tailed_woven (woven loom st i due es s ts)
  woven_tailed st i due es s ts =
      ap (λ n. woven_by loom (weave_on loom (suc n)) st i due es (tailed (tails i) s) (tailed_from 0 ts) (last_event es)) (length_tailed 0 ts)
      ∙ by_tailed (weave_on loom (suc (length ts))) (on_alike (suc (length ts))) st i due es s ts (last_event es)
