-- What woven strands tell goes by turns.
use Rattle.std.proofs.Common.{arith, ◌≡◌, ◌<◌, ◌≤◌, ◌⊎◌, inl, inr, ℕ, zero, suc, ◌+◌, ◌-◌, List, [], ◌∷◌, ◌++◌, length, Option, Some, None, Bool, true, false, refl, sym, ap, ◌∙◌, subst}
use Rattle.std.proofs.Common.{append_assoc, ltb-true, ltb-false}
use Rattle.std.specs.Prelude.{slice_get, nat_lt, if◌then◌else◌}
use Rattle.wa_model.specs.Blocking.{Note}
use Rattle.wa_model.specs.Machine.{Ran, Turn, after, goes, pay, run, run_with, still, stops}
use Rattle.wa_model.specs.Outside.{Event, answered, called, ended, parked, paused, returned, shown}
use Rattle.wa_model.specs.Store.{Store}
use Rattle.wa_model.specs.declared.events.End.{End}
use Rattle.world_model.specs.World.{ends_turn}
use Rattle.strand_laws.proofs.TurnEnds.{Chunk, ChunkTurn}
use Rattle.strand_laws.proofs.WovenRuns.{stands, stands_none}
use Rattle.strand_laws.specs.Weaving.{Dues, GoesByTurns, IsDueFirst, due_in, dues_behind, is_ready, is_there, now_behind}
use Rattle.strand_laws.specs.Woven.{Loom, Ready, Thread, Told, Woven, awake, ends_strand, finished, first_ready, going, last_event, move_of, moved, put, ready_if, sooner, standing, standing_now}
use Rattle.strand_laws.specs.Woven.{told_by, weave, weave_on, woven, woven_by, woven_on}

-- ---- what a world knows of strands

abbrev pub mark : {S : Type 0} → Option S → Option (Unit {0})
mark None = None
mark (Some s) = Some tt

abbrev pub shadow : {S : Type 0} → List (Thread S) → Dues
shadow [] = []
shadow (t ∷ ts) = record { due = t.due; at = mark t.at } ∷ shadow ts

pub shadow_put : {S : Type 0} (i d : ℕ) (o : Option S) (ts : List (Thread S)) → shadow (put i d o ts) ≡ put i d (mark o) (shadow ts)
shadow_put i d o [] = refl
shadow_put zero d o (t ∷ ts) = refl
shadow_put (suc i) d o (t ∷ ts) = ap (λ (v : Dues). record { due = t.due; at = mark t.at } ∷ v) (shadow_put i d o ts)

-- a strand stands where it is ready, and is due then
pub record StandsAt (v : Dues) (i d : ℕ) : Type 0 where
  pub due : due_in (slice_get v i) ≡ d
  pub ready : is_ready (slice_get v i) ≡ true

none_there : {A : Type 0} → false ≡ true → A
none_there e = let no_way : ⊥ = cc in absurd no_way

some_there : (o : Option (Unit {0})) → is_there o ≡ true → Some tt ≡ o
some_there None e = none_there e
some_there (Some x) e = refl

pub put_same : (v : Dues) (i d : ℕ) → due_in (slice_get v i) ≡ d → is_ready (slice_get v i) ≡ true → put i d (Some tt) v ≡ v
put_same [] i d e h = refl
put_same (t ∷ v) zero d e h = let z : Some tt ≡ t.at = some_there t.at h in λ k. record { due = sym e k; at = z k } ∷ v
put_same (t ∷ v) (suc i) d e h = ap (λ (w : Dues). t ∷ w) (put_same v i d e h)

-- ---- turns

abbrev now_opt : ℕ → Option Event → Option ℕ
now_opt i None = Some i
now_opt i (Some e) = now_behind i e

abbrev dues_opt : ℕ → Option Event → Dues → Dues
dues_opt i None v = v
dues_opt i (Some e) v = dues_behind i e v

quiet_on : (i : ℕ) (v : Dues) (e : Event) (ts : List Told) → ends_turn e ≡ false → GoesByTurns (Some i) v ts → GoesByTurns (now_behind i e) (dues_behind i e v) ts
quiet_on i v (called c) ts h g = g
quiet_on i v (answered said) ts h g = g
quiet_on i v (parked used) ts h g = g
quiet_on i v (returned n x) ts h g = g
quiet_on i v (shown a b) ts h g = g
quiet_on i v (paused t u) ts h g = none_there (sym h)
quiet_on i v (ended how) ts h g = none_there (sym h)

through : (i : ℕ) (v : Dues) (es : List Note) (rest : List Told) → Chunk es → GoesByTurns (now_opt i (last_event es)) (dues_opt i (last_event es) v) rest
    → GoesByTurns (Some i) v (told_by i es ++ rest)
through i v [] rest h g = g
through i v (x ∷ []) rest h g = (refl, g)
through i v (x ∷ y ∷ ys) rest h g = (refl, quiet_on i v x.event (told_by i (y ∷ ys) ++ rest) h.0 (through i v (y ∷ ys) rest h.1 g))

pub to_none : (i : ℕ) (v : Dues) (ts : List Told) → IsDueFirst v i → GoesByTurns (Some i) v ts → GoesByTurns None v ts
to_none i v [] d g = tt
to_none i v (t ∷ ts) d g = (subst (IsDueFirst v) g.0 d, g.1)

module _ {S : Type 0} where
  -- ---- the strand that is due first

  record Least (i : ℕ) (v : Dues) (r : Ready S) : Type 0 where
    k : ℕ
    strand : r.strand ≡ i + k
    lt : k < length v
    stands : StandsAt v k r.due
    least : (j : ℕ) → is_ready (slice_get v j) ≡ true → (r.due < due_in (slice_get v j)) ⊎ ((r.due ≡ due_in (slice_get v j)) × (k ≤ j))

  abbrev OptLeast : ℕ → Dues → Option (Ready S) → Type 0
  OptLeast i v None = (j : ℕ) → is_ready (slice_get v j) ≡ true → ⊥
  OptLeast i v (Some r) = Least i v r

  later : (i : ℕ) (t : Thread (Unit {0})) (v : Dues) (r : Ready S) → (is_ready (Some t) ≡ true → r.due < t.due) → Least (suc i) v r → Least i (t ∷ v) r
  later i t v r h l = record {
    k = suc l.k;
    strand = let e = l.strand in let z : r.strand ≡ i + suc l.k = omega (arith, e) in z;
    lt = let e = l.lt in omega (arith, e);
    stands = record { due = l.stands.due; ready = l.stands.ready };
    least = least;
  }
    where
      more : (j : ℕ) → (r.due < due_in (slice_get v j)) ⊎ ((r.due ≡ due_in (slice_get v j)) × (l.k ≤ j)) → (r.due < due_in (slice_get v j)) ⊎ ((r.due ≡ due_in (slice_get v j)) × (suc l.k ≤ suc j))
      more j (inl a) = inl a
      more j (inr b) = let c = b.1 in inr (b.0, omega (arith, c))

      least : (j : ℕ) → is_ready (slice_get (t ∷ v) j) ≡ true → (r.due < due_in (slice_get (t ∷ v) j)) ⊎ ((r.due ≡ due_in (slice_get (t ∷ v) j)) × (suc l.k ≤ j))
      least zero e = inl (h e)
      least (suc j) e = more j (l.least j e)

  first : (i d : ℕ) (s : S) (v : Dues) → ((j : ℕ) → is_ready (slice_get v j) ≡ true → d ≤ due_in (slice_get v j))
      → Least i (record { due = d; at = Some tt } ∷ v) (record { strand = i; due = d; at = s })
  first i d s v h = record {
    k = 0;
    strand = let z : i ≡ i + 0 = omega arith in z;
    lt = omega arith;
    stands = record { due = refl; ready = refl };
    least = least;
  }
    where
      by_le : (a b : ℕ) → a ≤ b → (a < b) ⊎ ((a ≡ b) × (0 ≤ suc b))
      by_le a b le = by_lt (nat_lt a b) refl
        where
          by_lt : (c : Bool) → nat_lt a b ≡ c → (a < b) ⊎ ((a ≡ b) × (0 ≤ suc b))
          by_lt true e = inl (ltb-true a b e)
          by_lt false e = let ge = ltb-false a b e in inr (omega (arith, ge, le), omega arith)

      least : (j : ℕ) → is_ready (slice_get (record { due = d; at = Some tt } ∷ v) j) ≡ true
          → (d < due_in (slice_get (record { due = d; at = Some tt } ∷ v) j)) ⊎ ((d ≡ due_in (slice_get (record { due = d; at = Some tt } ∷ v) j)) × (0 ≤ j))
      least zero e = inr (refl, omega arith)
      least (suc j) e = more (by_le d (due_in (slice_get v j)) (h j e))
        where
          more : (d < due_in (slice_get v j)) ⊎ ((d ≡ due_in (slice_get v j)) × (0 ≤ suc (due_in (slice_get v j)))) → (d < due_in (slice_get v j)) ⊎ ((d ≡ due_in (slice_get v j)) × (0 ≤ suc j))
          more (inl a) = inl a
          more (inr b) = inr (b.0, omega arith)

  join : (i d : ℕ) (o : Option S) (v : Dues) (p : Option (Ready S)) → OptLeast (suc i) v p → OptLeast i (record { due = d; at = mark o } ∷ v) (sooner (ready_if i d o) p)
  join i d None v None h = none
    where
      none : (j : ℕ) → is_ready (slice_get (record { due = d; at = None } ∷ v) j) ≡ true → ⊥
      none zero e = none_there e
      none (suc j) e = h j e
  join i d None v (Some r) h = later i (record { due = d; at = None }) v r (λ e. none_there e) h
  join i d (Some s) v None h = first i d s v (λ j e. absurd (h j e))
  join i d (Some s) v (Some b) h = by_lt (nat_lt b.due d) refl
    where
      by_lt : (c : Bool) → nat_lt b.due d ≡ c → OptLeast i (record { due = d; at = Some tt } ∷ v) (if c then Some b else Some (record { strand = i; due = d; at = s }))
      by_lt true e = later i (record { due = d; at = Some tt }) v b (λ x. ltb-true b.due d e) h
      by_lt false e = first i d s v (λ j x. le j (h.least j x))
        where
          le : (j : ℕ) → (b.due < due_in (slice_get v j)) ⊎ ((b.due ≡ due_in (slice_get v j)) × (h.k ≤ j)) → d ≤ due_in (slice_get v j)
          le j (inl a) = let ge = ltb-false b.due d e in omega (arith, ge, a)
          le j (inr c) = let ge = ltb-false b.due d e in let q = c.0 in omega (arith, ge, q)

  least_ready : (i : ℕ) (ts : List (Thread S)) → OptLeast i (shadow ts) (first_ready i ts)
  least_ready i [] = λ j e. none_there e
  least_ready i (t ∷ ts) = join i t.due t.at (shadow ts) (first_ready (suc i) ts) (least_ready (suc i) ts)

  abbrev pub IsFirst : List (Thread S) → (i due : ℕ) → Type 0
  IsFirst ts i due = (i < length ts) × StandsAt (shadow ts) i due × IsDueFirst (shadow ts) i

  length_shadow : (ts : List (Thread S)) → length (shadow ts) ≡ length ts
  length_shadow [] = refl
  length_shadow (t ∷ ts) = ap suc (length_shadow ts)

  pub first_there : (ts : List (Thread S)) (r : Ready S) → first_ready 0 ts ≡ Some r → IsFirst ts r.strand r.due
  first_there ts r e = subst (λ k. IsFirst ts k r.due) z (lt, l.stands, record { ready = l.stands.ready; least = least })
    where
      l : Least 0 (shadow ts) r
      l = subst (OptLeast 0 (shadow ts)) e (least_ready 0 ts)

      lt : l.k < length ts
      lt = subst (λ n. l.k < n) (length_shadow ts) l.lt

      z : l.k ≡ r.strand
      z = let q = l.strand in omega (arith, q)

      least : (j : ℕ) → is_ready (slice_get (shadow ts) j) ≡ true
          → (due_in (slice_get (shadow ts) l.k) < due_in (slice_get (shadow ts) j)) ⊎ ((due_in (slice_get (shadow ts) l.k) ≡ due_in (slice_get (shadow ts) j)) × (l.k ≤ j))
      least j h = subst (λ d. (d < due_in (slice_get (shadow ts) j)) ⊎ ((d ≡ due_in (slice_get (shadow ts) j)) × (l.k ≤ j))) (sym l.stands.due) (l.least j h)

  -- ---- where a strand stands

  pub standing_there : (ts : List (Thread S)) (i j : ℕ) (r : Ready S) → standing j (slice_get ts i) ≡ Some r → (i < length ts) × StandsAt (shadow ts) i r.due × (r.strand ≡ j)
  standing_there [] i j r e = let no_way : ⊥ = cc in absurd no_way
  standing_there (t ∷ ts) zero j r e = by_at t.due t.at e
    where
      by_at : (d : ℕ) (o : Option S) → ready_if j d o ≡ Some r → (0 < suc (length ts)) × StandsAt (record { due = d; at = mark o } ∷ shadow ts) 0 r.due × (r.strand ≡ j)
      by_at d None q = let no_way : ⊥ = cc in absurd no_way
      by_at d (Some s) q =
          let z : record { strand = j; due = d; at = s } ≡ r = cc in
          (omega arith, record { due = ap (λ (x : Ready S). x.due) z; ready = refl }, sym (ap (λ (x : Ready S). x.strand) z))
  standing_there (t ∷ ts) (suc i) j r e =
      let h = standing_there ts i j r e in
      let lt = h.0 in
      (omega (arith, lt), record { due = h.1.due; ready = h.1.ready }, h.2)

  abbrev pub AtOf : Woven S → Option (Ready S) → List Told → Type 0
  AtOf w None tail = tail ≡ []
  AtOf w (Some r) tail = GoesByTurns (Some w.now) (shadow w.threads) tail

  -- what is told from where strands stand goes by turns
  abbrev pub At : Woven S → List Told → Type 0
  At w tail = AtOf w (standing_now w) tail

  abbrev Goal : Option ℕ → Dues → Ran (Woven S) Told → Type 0
  Goal now v r = (tail : List Told) → At r.last tail → GoesByTurns now v (r.events ++ tail)

  module _ (loom : Loom S) (moves : (i : ℕ) (s : S) → ChunkTurn (loom.next i s)) (wakes : (t : Store) (s : S) → Chunk (loom.wakes t s).events) where
    nothing : (v : Dues) (ts : List (Thread S)) (tail : List Told) → At (finished ts) tail → GoesByTurns None v tail
    nothing v ts tail h =
        let z : tail ≡ [] = subst (λ o. AtOf (finished ts) o tail) (stands_none loom ts) h in
        subst (GoesByTurns None v) (sym z) tt

    module _ (again : Store → List (Thread S) → Ran (Woven S) Told) (ok : (t : Store) (ts : List (Thread S)) → Goal None (shadow ts) (again t ts)) where
      by_event : (st : Bool) (i due : ℕ) (es : List Note) (s : S) (ts : List (Thread S)) (e : Option Event) → i < length ts → StandsAt (shadow ts) i due → Chunk es → last_event es ≡ e
          → Goal (Some i) (shadow ts) (woven_by loom again st i due es s ts e)
      by_event st i due es s ts e lt at ch le = by_case e le
        where
          v : Dues
          v = shadow ts

          on_from : (o : Option Event) → last_event es ≡ o → (rest : List Told) → GoesByTurns (now_opt i o) (dues_opt i o v) rest → GoesByTurns (Some i) v (told_by i es ++ rest)
          on_from o q rest g = through i v es rest ch (subst (λ z. GoesByTurns (now_opt i z) (dues_opt i z v) rest) (sym q) g)

          stay : (tail : List Told) → At (going i due s ts) tail → GoesByTurns (Some i) v tail
          stay tail h =
              let g : GoesByTurns (Some i) (shadow (put i due (Some s) ts)) tail = subst (λ o. AtOf (going i due s ts) o tail) (stands loom i due s ts lt) h in
              subst (λ w. GoesByTurns (Some i) w tail) (shadow_put i due (Some s) ts ∙ put_same v i due at.due at.ready) g

          assoc : (a : Ran (Woven S) Told) (tail : List Told) → GoesByTurns (Some i) v (told_by i es ++ (a.events ++ tail)) → GoesByTurns (Some i) v ((told_by i es ++ a.events) ++ tail)
          assoc a tail g = subst (GoesByTurns (Some i) v) (sym (append_assoc (told_by i es) a.events tail)) g

          gone : (tail : List Told) → GoesByTurns None (shadow (put i due None ts)) tail → GoesByTurns None (put i (due_in (slice_get v i)) None v) tail
          gone tail g = subst (λ w. GoesByTurns None w tail) (shadow_put i due None ts ∙ ap (λ d. put i d None v) (sym at.due)) g

          by_end : (how : End) → last_event es ≡ Some (ended how) → (c : Bool)
              → Goal (Some i) v (after (told_by i es) (if c then again (loom.store s) (put i due None ts) else still (finished (put i due None ts))))
          by_end how q true tail h =
              let a = again (loom.store s) (put i due None ts) in
              assoc a tail (on_from (Some (ended how)) q (a.events ++ tail) (gone (a.events ++ tail) (ok (loom.store s) (put i due None ts) tail h)))
          by_end how q false tail h =
              assoc (still (finished (put i due None ts))) tail (on_from (Some (ended how)) q tail (nothing (put i (due_in (slice_get v i)) None v) (put i due None ts) tail h))

          by_case : (o : Option Event) → last_event es ≡ o → Goal (Some i) v (woven_by loom again st i due es s ts o)
          by_case None q tail h = on_from None q tail (stay tail h)
          by_case (Some (called c)) q tail h = on_from (Some (called c)) q tail (stay tail h)
          by_case (Some (answered x)) q tail h = on_from (Some (answered x)) q tail (stay tail h)
          by_case (Some (parked x)) q tail h = on_from (Some (parked x)) q tail (stay tail h)
          by_case (Some (returned n x)) q tail h = on_from (Some (returned n x)) q tail (stay tail h)
          by_case (Some (shown a b)) q tail h = on_from (Some (shown a b)) q tail (stay tail h)
          by_case (Some (paused ticks used)) q tail h =
              let a = again (loom.store s) (put i (due + ticks) (Some s) ts) in
              let g : GoesByTurns None (put i (due_in (slice_get v i) + ticks) (Some tt) v) (a.events ++ tail) =
              subst (λ w. GoesByTurns None w (a.events ++ tail)) (shadow_put i (due + ticks) (Some s) ts ∙ ap (λ d. put i (d + ticks) (Some tt) v) (sym at.due))
              (ok (loom.store s) (put i (due + ticks) (Some s) ts) tail h) in
              assoc a tail (on_from (Some (paused ticks used)) q (a.events ++ tail) g)
          by_case (Some (ended how)) q tail h = by_end how q (ends_strand st how) tail h

      awakes : (t : Store) (ts : List (Thread S)) (o : Option (Ready S)) → first_ready 0 ts ≡ o → Goal None (shadow ts) (awake loom again t ts o)
      awakes t ts None e tail h = nothing (shadow ts) ts tail h
      awakes t ts (Some r) e tail h =
          let f = first_there ts r e in
          to_none r.strand (shadow ts) _ f.2
          (by_event false r.strand r.due (loom.wakes t r.at).events (loom.wakes t r.at).last ts (last_event (loom.wakes t r.at).events) f.0 f.1 (wakes t r.at) refl tail h)

    weaves_on : (most : ℕ) (t : Store) (ts : List (Thread S)) → Goal None (shadow ts) (weave_on loom most t ts)
    weaves_on zero t ts tail h = nothing (shadow ts) ts tail h
    weaves_on (suc most) t ts tail h = awakes (weave_on loom most) (weaves_on most) t ts (first_ready 0 ts) refl tail h

    pub woven_goes : (st : Bool) (i due : ℕ) (es : List Note) (s : S) (ts : List (Thread S)) → i < length ts → StandsAt (shadow ts) i due → Chunk es
        → Goal (Some i) (shadow ts) (woven loom st i due es s ts)
    woven_goes st i due es s ts lt at ch = by_event (weave_on loom (suc (length ts))) (weaves_on (suc (length ts))) st i due es s ts (last_event es) lt at ch refl

    abbrev RunGoal : Woven S → Ran (Woven S) Told → Type 0
    RunGoal w r = (tail : List Told) → At r.last tail → At w (r.events ++ tail)

    module _ (most : ℕ) (ok : (n : ℕ) (w : Woven S) → RunGoal w (run_with (weave loom) most n w)) (n : ℕ) (w : Woven S) where
      abbrev Paid : Turn (Woven S) Told → Type 0
      Paid o = RunGoal w (pay (run_with (weave loom) most) n w o)

      by_cost : (r : Ready S) → standing_now w ≡ Some r → (k : ℕ) (es : List Note) (s : S) → Chunk es → (c : Bool)
          → RunGoal w (if c then after (woven loom (loom.starts r.at) w.now r.due es s w.threads).events (run_with (weave loom) most (n - suc k) (woven loom
          (loom.starts r.at) w.now r.due es s w.threads).last) else still w)
      by_cost r e k es s ch false tail h = h
      by_cost r e k es s ch true tail h =
          let x = woven loom (loom.starts r.at) w.now r.due es s w.threads in
          let y = run_with (weave loom) most (n - suc k) x.last in
          let f = standing_there w.threads w.now w.now r e in
          let g : GoesByTurns (Some w.now) (shadow w.threads) (x.events ++ (y.events ++ tail)) =
          woven_goes (loom.starts r.at) w.now r.due es s w.threads f.0 f.1 ch (y.events ++ tail) (ok (n - suc k) x.last tail h) in
          subst (λ o. AtOf w o ((x.events ++ y.events) ++ tail)) (sym e) (subst (GoesByTurns (Some w.now) (shadow w.threads)) (sym (append_assoc x.events y.events tail)) g)

      by_turn : (r : Ready S) → standing_now w ≡ Some r → (o : Turn S Note) → ChunkTurn o → Paid (moved loom (loom.starts r.at) w.now r.due w.threads o)
      by_turn r e stops ch tail h = h
      by_turn r e (goes k es s) ch tail h = by_cost r e k es s ch (nat_lt k n) tail h

      by_standing : (o : Option (Ready S)) → standing_now w ≡ o → Paid (move_of loom w.now w.threads o)
      by_standing None e tail h = h
      by_standing (Some r) e tail h = by_turn r e (loom.next w.now r.at) (moves w.now r.at) tail h

    runs_on : (most n : ℕ) (w : Woven S) → RunGoal w (run_with (weave loom) most n w)
    runs_on zero n w tail h = h
    runs_on (suc most) n w tail h = by_standing most (runs_on most) n w (standing_now w) refl tail h

    -- a whole run goes by turns, with what is told behind it
    pub run_goes : (n : ℕ) (st : Bool) (i due : ℕ) (es : List Note) (s : S) (ts : List (Thread S)) → i < length ts → StandsAt (shadow ts) i due → Chunk es → (tail : List Told)
        → At (woven_on loom n (woven loom st i due es s ts)).last tail → GoesByTurns (Some i) (shadow ts) ((woven_on loom n (woven loom st i due es s ts)).events ++ tail)
    run_goes n st i due es s ts lt at ch tail h =
        let x = woven loom st i due es s ts in
        let y = run (weave loom) n x.last in
        subst (GoesByTurns (Some i) (shadow ts)) (sym (append_assoc x.events y.events tail)) (woven_goes st i due es s ts lt at ch (y.events ++ tail) (runs_on n n x.last tail h))
