-- What strands tell is the same with more outcomes than their calls take.
use Rattle.std.proofs.Common.{arith, ◌≡◌, ◌<◌, ◌+◌, ◌-◌, ◌⊎◌, inl, inr, ℕ, zero, suc, List, [], ◌∷◌, ◌++◌, length, Option, Some, None, Bool, true, false, refl, sym, ap, ◌∙◌, subst}
use Rattle.std.proofs.Common.{append_assoc, append-nil}
use Rattle.std.specs.Prelude.{map, drop, nat_lt, if◌then◌else◌, slice_get}
use Rattle.wa_model.specs.Outside.{Call, Event, answered, called, ended, parked, paused, returned, shown}
use Rattle.wa_model.specs.Machine.{Turn, stops, goes, Ran, after, still, pay, run_with, run}
use Rattle.wa_model.specs.Store.{Store}
use Rattle.wa_model.specs.Plan.{Outcome, Plan}
use Rattle.wa_model.specs.Instantiation.{opening}
use Rattle.wa_model.specs.Blocking.{Left, Note, all_left, no_store}
use Rattle.wa_model.specs.Protocol.{Held, aside, busy, calling, entering, exports_of, free, held_begun, over, protocol, starting}
use Rattle.run_theory.proofs.Runs.{mapped}
use Rattle.world_laws.proofs.Counting.{TurnTells, begun_tells, left_count, turn_tells}
use Rattle.world_laws.proofs.Tails.{AtCall, Calls, Longer, SameCall, begun_tailed, tailed, tailed_left, turn_longer}
use Rattle.strand_laws.proofs.ByTurns.{standing_there}
use Rattle.strand_laws.proofs.StrandTails.{Agrees, Counts, at_of, begun_counts, calls_by, calls_own, held_waking, keeps_woven, loom, standing_tailed, stands_at, starts_tailed}
use Rattle.strand_laws.proofs.StrandTails.{tail_standing, tailed_from, tailed_woven, tells_counts, woven_tailed}
use Rattle.strand_laws.proofs.WovenRuns.{stands}
use Rattle.strand_laws.specs.Strands.{ProtocolStrands, Strand, StrandProgram, beginnings, held_starts, outcomes_at, plan_of, strand_at}
use Rattle.strand_laws.specs.Woven.{Loom, Ready, Thread, Told, Woven, ends_strand, finished, going, last_event, move_of, moved, put, standing_now, told_by, weave, weave_on, woven, woven_by}

-- what strands told begins with what the one whose turn it was told
told_first : {S : Type 0} (loom : Loom S) (again : Store → List (Thread S) → Ran (Woven S) Told) (st : Bool) (i due : ℕ) (es : List Note) (s : S) (ts : List (Thread S)) (e : Option Event)
    → (rest : List Told) × ((woven_by loom again st i due es s ts e).events ≡ told_by i es ++ rest)
told_first {S} loom again st i due es s ts e = by_case e
  where
    Begins : Ran (Woven S) Told → Type 0
    Begins r = (rest : List Told) × (r.events ≡ told_by i es ++ rest)

    stays : Begins (record { events = told_by i es; last = going i due s ts })
    stays = ([], sym (append-nil (told_by i es)))

    by_case : (e : Option Event) → Begins (woven_by loom again st i due es s ts e)
    by_case None = stays
    by_case (Some (called c)) = stays
    by_case (Some (answered x)) = stays
    by_case (Some (parked u)) = stays
    by_case (Some (returned n x)) = stays
    by_case (Some (shown a b)) = stays
    by_case (Some (paused ticks used)) = ((again (loom.store s) (put i (due + ticks) (Some s) ts)).events, refl)
    by_case (Some (ended how)) = ((if ends_strand st how then again (loom.store s) (put i due None ts) else still (finished (put i due None ts))).events, refl)

left_nil : (l : Left) → tailed_left [] l ≡ l
left_nil l = ap (λ (os : List Outcome). record { number = l.number; entries = l.entries; outcomes = os }) (append-nil l.outcomes)

tailed_nil : (h : Held) → tailed [] h ≡ h
tailed_nil (free s l) = ap (free s) (left_nil l)
tailed_nil (starting f s l) = ap (starting f s) (left_nil l)
tailed_nil (busy ph c l) = ap (busy ph c) (left_nil l)
tailed_nil (calling ph s f args th l) = ap (calling ph s f args th) (left_nil l)
tailed_nil (aside ph c th l) = ap (aside ph c th) (left_nil l)
tailed_nil (entering ph e s l) = ap (entering ph e s) (left_nil l)
tailed_nil (over s) = refl

abbrev at_note : ℕ → Note → Told
at_note i x = record { strand = i; note = x }

module _ (g : StrandProgram) (tails : ℕ → List Outcome) (total : ℕ → ℕ) where
  abbrev on : ℕ → ℕ → Woven Held → Ran (Woven Held) Told
  on = run_with (weave (loom g tails))

  -- The one run stands at a call of a strand behind so many, for which the other has an outcome.
  pub record StrandForks (done : List Told) (r' r : Ran (Woven Held) Told) : Type 0 where
    pub before : List Told
    pub strand : ℕ
    pub here : Note
    pub there : Note
    pub more : List Told
    pub same : SameCall here there
    pub some : tails strand ≡ [] → ⊥
    pub count : calls_by strand (done ++ before) ≡ total strand
    pub first : r.events ≡ before ++ record { strand = strand; note = here } ∷ []
    pub second : r'.events ≡ before ++ record { strand = strand; note = there } ∷ more

  -- a run with more outcomes is the other one, or goes on where that stands
  abbrev pub GoesOn : (done : List Told) → (r' r : Ran (Woven Held) Told) → Type 0
  GoesOn done r' r = (r' ≡ mapped (tailed_woven g tails) r) ⊎ StrandForks done r' r

  behind : (done es : List Told) (r' r : Ran (Woven Held) Told) → GoesOn (done ++ es) r' r → GoesOn done (after es r') (after es r)
  behind done es r' r (inl same) = inl (ap (after es) same)
  behind done es r' r (inr f) = inr (record {
    before = es ++ f.before;
    strand = f.strand;
    here = f.here;
    there = f.there;
    more = f.more;
    same = f.same;
    some = f.some;
    count = ap (calls_by f.strand) (sym (append_assoc done es f.before)) ∙ f.count;
    first = ap (λ (xs : List Told). es ++ xs) f.first ∙ sym (append_assoc es f.before (at_note f.strand f.here ∷ []));
    second = ap (λ (xs : List Told). es ++ xs) f.second ∙ sym (append_assoc es f.before (at_note f.strand f.there ∷ f.more));
  })

  no_goes : {A : Type 0} (o : Turn Held Note) (k : ℕ) (es : List Note) (t : Held) → stops ≡ o → o ≡ goes k es t → A
  no_goes o k es t e q = let z : stops ≡ goes k es t = e ∙ q in let no_way : ⊥ = cc in absurd no_way

  -- the outcomes left of one that moves
  left_there : (n made : ℕ) (plan : Plan) (h : Held) (k : ℕ) (es : List Note) (t : Held) → protocol g.source (exports_of g.source) plan h ≡ goes k es t → Counts n made h → made + left_count h ≡ n
  left_there n made plan (free s l) k es t e c = c
  left_there n made plan (starting f s l) k es t e c = c
  left_there n made plan (busy ph d l) k es t e c = c
  left_there n made plan (calling ph s f args th l) k es t e c = c
  left_there n made plan (aside ph d th l) k es t e c = c
  left_there n made plan (entering ph x s l) k es t e c = c
  left_there n made plan (over s) k es t e c = no_goes stops k es t refl e

  over_there : (count n i due : ℕ) (s : Store) (ts : List (Thread Held)) → i < length ts → on count n (going i due (over s) ts) ≡ still (going i due (over s) ts)
  over_there zero n i due s ts lt = refl
  over_there (suc count) n i due s ts lt =
      ap (λ (o : Option (Ready Held)). pay (on count) n (going i due (over s) ts) (move_of (loom g tails) i (put i due (Some (over s)) ts) o)) (stands (loom g tails) i due (over s) ts lt)

  by_called : (y : Note) (c : Call) → y.event ≡ called c → (st : Bool) (i due : ℕ) (s : Held) (ts : List (Thread Held))
      → woven (loom g tails) st i due (y ∷ []) s ts ≡ record { events = at_note i y ∷ []; last = going i due s ts }
  by_called y c e st i due s ts = ap (λ (v : Event). woven_by (loom g tails) (weave_on (loom g tails) (suc (length ts))) st i due (y ∷ []) s ts (Some v)) e

  module _ (count n : ℕ) (w : Woven Held) (done : List Told) (agrees : Agrees total done w.threads)
      (more : (m : ℕ) (v : Woven Held) (all : List Told) → Agrees total all v.threads → GoesOn all (on count m (tailed_woven g tails v)) (on count m v)) (r : Ready Held)
      (at : at_of (slice_get w.threads w.now) ≡ Some r.at) (lt : w.now < length w.threads) where
    abbrev i : ℕ
    i = w.now

    abbrev w' : Woven Held
    w' = tailed_woven g tails w

    abbrev ts' : List (Thread Held)
    ts' = tailed_from g tails 0 w.threads

    abbrev Goal : Bool → (o' o : Turn Held Note) → Type 0
    Goal st o' o = GoesOn done (pay (on count) n w' (moved (loom g tails) st i r.due ts' o')) (pay (on count) n w (moved (loom g tails) st i r.due w.threads o))

    own_counts : Counts (total i) (calls_by i done) r.at
    own_counts = agrees i r.at at

    both_move : (st : Bool) (k : ℕ) (es : List Note) (u : Held) → protocol g.source (exports_of g.source) (plan_of g (strand_at g i)) r.at ≡ goes k es u → TurnTells (left_count r.at) (goes k es u)
        → Goal st (goes k es (tailed (tails i) u)) (goes k es u)
    both_move st k es u e tells =
        subst (λ (x : Ran (Woven Held) Told). GoesOn done (pay (on count) n w' (goes k x.events x.last)) (pay (on count) n w (goes k r1.events r1.last))) (sym (woven_tailed g tails st i r.due es u w.threads))
        (by_cost (nat_lt k n))
      where
        r1 : Ran (Woven Held) Told
        r1 = woven (loom g tails) st i r.due es u w.threads

        left : calls_by i done + left_count r.at ≡ total i
        left = left_there (total i) (calls_by i done) (plan_of g (strand_at g i)) r.at k es u e own_counts

        own : Counts (total i) (calls_by i (done ++ told_by i es)) u
        own = subst (λ m. Counts (total i) m u) (sym (calls_own total i done es)) (tells_counts (total i) (calls_by i done) (left_count r.at) es u left tells)

        keeps : Agrees total (done ++ r1.events) r1.last.threads
        keeps = keeps_woven total (loom g tails) held_waking done st i r.due es u w.threads agrees own

        by_cost : (b : Bool)
            → GoesOn done (if b then after r1.events (on count (n - suc k) (tailed_woven g tails r1.last)) else still w') (if b then after r1.events (on count (n - suc k) r1.last) else still w)
        by_cost true = behind done r1.events (on count (n - suc k) (tailed_woven g tails r1.last)) (on count (n - suc k) r1.last) (more (n - suc k) r1.last (done ++ r1.events) keeps)
        by_cost false = inl refl

    one_calls : (st : Bool) (k j : ℕ) (es fs : List Note) (u' u : Held) (y : Note) → protocol g.source (exports_of g.source) (plan_of g (strand_at g i)) r.at ≡ goes j fs u → AtCall (left_count r.at) y fs u
        → Calls (tails i) j y (goes k es u') → (tails i ≡ [] → ⊥) → Goal st (goes k es u') (goes j fs u)
    one_calls st k j es fs u' u y e h c some =
        subst (λ m. GoesOn done (pay (on count) n w' (goes m r2.events r2.last)) (pay (on count) n w (goes j (woven (loom g tails) st i r.due fs u w.threads).events (woven (loom g tails) st i r.due fs u w.threads).last)))
        (sym c.0)
        (subst (λ (x : Ran (Woven Held) Told). GoesOn done (pay (on count) n w' (goes j r2.events r2.last)) (pay (on count) n w (goes j x.events x.last))) (sym short) (by_cost (nat_lt j n)))
      where
        r2 : Ran (Woven Held) Told
        r2 = woven (loom g tails) st i r.due es u' ts'

        short : woven (loom g tails) st i r.due fs u w.threads ≡ record { events = at_note i y ∷ []; last = going i r.due (over h.2) w.threads }
        short =
            ap (λ (xs : List Note). woven (loom g tails) st i r.due xs u w.threads) h.1
            ∙ by_called y c.4.2 c.4.3 st i r.due u w.threads
            ∙ ap (λ (v : Held). record { events = at_note i y ∷ []; last = going i r.due v w.threads }) h.3

        begins : (rest : List Told) × (r2.events ≡ told_by i es ++ rest)
        begins = told_first (loom g tails) (weave_on (loom g tails) (suc (length ts'))) st i r.due es u' ts' (last_event es)

        split : r2.events ≡ at_note i c.1 ∷ (told_by i c.2 ++ begins.0)
        split = begins.1 ∙ ap (λ (xs : List Note). told_by i xs ++ begins.0) c.3

        left : calls_by i done + left_count r.at ≡ total i
        left = left_there (total i) (calls_by i done) (plan_of g (strand_at g i)) r.at j fs u e own_counts

        by_cost : (b : Bool)
            → GoesOn done (if b then after r2.events (on count (n - suc j) r2.last) else still w')
            (if b then after (at_note i y ∷ []) (on count (n - suc j) (going i r.due (over h.2) w.threads)) else still w)
        by_cost true = inr (record {
          before = [];
          strand = i;
          here = y;
          there = c.1;
          more = (told_by i c.2 ++ begins.0) ++ (on count (n - suc j) r2.last).events;
          same = c.4;
          some = some;
          count = ap (calls_by i) (append-nil done) ∙ (let z = h.0 in let q : calls_by i done ≡ total i = omega (arith, left, z) in q);
          first = ap (λ (q : Ran (Woven Held) Told). at_note i y ∷ q.events) (over_there count (n - suc j) i r.due h.2 w.threads lt);
          second = ap (λ (xs : List Told). xs ++ (on count (n - suc j) r2.last).events) split;
        })
        by_cost false = inl refl

    by_turn : (st : Bool) (o' o : Turn Held Note) → protocol g.source (exports_of g.source) (plan_of g (strand_at g i)) (tailed (tails i) r.at) ≡ o' → protocol g.source (exports_of g.source) (plan_of g (strand_at g i)) r.at ≡ o
        → Longer g.source (exports_of g.source) (plan_of g (strand_at g i)) (tails i) (left_count r.at) o' o → TurnTells (left_count r.at) o → Goal st o' o
    by_turn st stops stops e' e h tells = inl refl
    by_turn st stops (goes k es u) e' e h tells = absurd h
    by_turn st (goes k es u) stops e' e h tells = absurd h
    by_turn st (goes k es u') (goes j fs u) e' e (inl h) tells =
        subst (λ (o' : Turn Held Note). Goal st o' (goes j fs u))
        (ap (λ m. goes m fs (tailed (tails i) u)) (sym h.0) ∙ ap (λ (xs : List Note). goes k xs (tailed (tails i) u)) (sym h.1) ∙ ap (goes k es) (sym h.2))
        (both_move st j fs u e tells)
    by_turn st (goes k es u') (goes j fs u) e' e (inr h) tells = by_tail (tails i) refl
      where
        cons_nil : {A : Type 0} (o : Outcome) (os : List Outcome) → o ∷ os ≡ [] → A
        cons_nil o os q = let no_way : ⊥ = cc in absurd no_way

        by_tail : (os : List Outcome) → tails i ≡ os → Goal st (goes k es u') (goes j fs u)
        by_tail [] z =
            subst (λ (o' : Turn Held Note). Goal st o' (goes j fs u))
            (ap (goes j fs) (ap (λ (os : List Outcome). tailed os u) z ∙ tailed_nil u)
            ∙ sym e ∙ ap (protocol g.source (exports_of g.source) (plan_of g (strand_at g i))) (sym (ap (λ (os : List Outcome). tailed os r.at) z ∙ tailed_nil r.at)) ∙ e')
            (both_move st j fs u e tells)
        by_tail (x ∷ os) z = one_calls st k j es fs u' u h.0 e h.1 h.2 (λ q. cons_nil x os (sym z ∙ q))

    pub one_on : GoesOn done (pay (on count) n w' (move_of (loom g tails) i ts' (tail_standing g tails i (Some r)))) (pay (on count) n w (move_of (loom g tails) i w.threads (Some r)))
    one_on =
        subst (λ b. GoesOn done (pay (on count) n w' (moved (loom g tails) b i r.due ts' (protocol g.source (exports_of g.source) (plan_of g (strand_at g i)) (tailed (tails i) r.at))))
        (pay (on count) n w (moved (loom g tails) (held_starts r.at) i r.due w.threads (protocol g.source (exports_of g.source) (plan_of g (strand_at g i)) r.at)))) (sym (starts_tailed g tails (tails i) r.at))
        (by_turn (held_starts r.at) (protocol g.source (exports_of g.source) (plan_of g (strand_at g i)) (tailed (tails i) r.at)) (protocol g.source (exports_of g.source) (plan_of g (strand_at g i)) r.at) refl refl
        (turn_longer g.source (exports_of g.source) (plan_of g (strand_at g i)) (tails i) r.at) (turn_tells g.source (exports_of g.source) (plan_of g (strand_at g i)) r.at))

  run_on : (count n : ℕ) (w : Woven Held) (done : List Told) → Agrees total done w.threads → GoesOn done (on count n (tailed_woven g tails w)) (on count n w)
  run_on zero n w done h = inl refl
  run_on (suc count) n w done h =
      subst (λ (o : Option (Ready Held)). GoesOn done (pay (on count) n (tailed_woven g tails w) (move_of (loom g tails) w.now (tailed_from g tails 0 w.threads) o)) (pay (on count) n w (weave (loom g tails) w)))
      (sym (standing_tailed g tails 0 w.now w.now w.threads (let z : w.now ≡ 0 + w.now = omega arith in z))) (by_ready (λ m v all k. run_on count m v all k) (standing_now w) refl)
    where
      by_ready : ((m : ℕ) (v : Woven Held) (all : List Told) → Agrees total all v.threads → GoesOn all (on count m (tailed_woven g tails v)) (on count m v))
          → (o : Option (Ready Held)) → standing_now w ≡ o
          → GoesOn done (pay (on count) n (tailed_woven g tails w) (move_of (loom g tails) w.now (tailed_from g tails 0 w.threads) (tail_standing g tails w.now o)))
          (pay (on count) n w (move_of (loom g tails) w.now w.threads o))
      by_ready more None e = inl refl
      by_ready more (Some r) e = one_on count n w done h more r (stands_at w.now (slice_get w.threads w.now) r e) (standing_there w.threads w.now w.now r e).0

-- ---- the strands of a program

-- each strand's outcomes, with these behind, from this number on
abbrev pub longer_each : (ℕ → List Outcome) → (strand : ℕ) → List (List Outcome) → List (List Outcome)
longer_each tails i [] = []
longer_each tails i (os ∷ oss) = (os ++ tails i) ∷ longer_each tails (suc i) oss

-- so many outcomes has a strand
abbrev pub count_at : List (List Outcome) → ℕ → ℕ
count_at oss i = length (outcomes_at oss i)

module _ (g : StrandProgram) (tails : ℕ → List Outcome) where
  begins_tailed : (i : ℕ) (ss : List Strand) (oss : List (List Outcome))
      → map (λ (x : Held). record { due = 0; at = Some x }) (beginnings (free no_store) g ss (longer_each tails i oss))
      ≡ tailed_from g tails i (map (λ (x : Held). record { due = 0; at = Some x }) (beginnings (free no_store) g ss oss))
  begins_tailed i [] oss = refl
  begins_tailed i (s ∷ ss) [] = refl
  begins_tailed i (s ∷ ss) (os ∷ oss) =
      ap (λ (ts : List (Thread Held)). record { due = 0; at = Some (free no_store (all_left (plan_of g s) (os ++ tails i))) } ∷ ts) (begins_tailed (suc i) ss oss)

  none_some : {A B : Type 0} (x : A) → None ≡ Some x → B
  none_some x e = let no_way : ⊥ = cc in absurd no_way

  begins_count : (ss : List Strand) (oss : List (List Outcome)) (k : ℕ) (h : Held)
      → at_of (slice_get (map (λ (x : Held). record { due = 0; at = Some x }) (beginnings (free no_store) g ss oss)) k) ≡ Some h → Counts (count_at oss k) 0 h
  begins_count [] oss k h e = none_some h e
  begins_count (s ∷ ss) [] k h e = none_some h e
  begins_count (s ∷ ss) (os ∷ oss) zero h e = subst (Counts (length os) 0) (same e) (omega arith)
    where
      same : Some (free no_store (all_left (plan_of g s) os)) ≡ Some h → free no_store (all_left (plan_of g s) os) ≡ h
      same q = cc
  begins_count (s ∷ ss) (os ∷ oss) (suc k) h e = begins_count ss oss k h e

  -- A run of strands with more outcomes is the run, or goes on at the call where the run stands.
  pub strands_fork : (os : List Outcome) (oss : List (List Outcome)) (n : ℕ)
      → GoesOn g tails (count_at (os ∷ oss)) [] (ProtocolStrands g (longer_each tails 0 (os ∷ oss)) n) (ProtocolStrands g (os ∷ oss) n)
  strands_fork os oss n =
      subst (λ (r : Ran Held Note). GoesOn g tails total [] (after (woven (loom g tails) true 0 0 r.events r.last (longs r.last)).events (run (weave (loom g tails)) n (woven (loom g tails) true 0 0 r.events r.last (longs r.last)).last))
      (ProtocolStrands g (os ∷ oss) n)) (sym (begun_tailed g.source (exports_of g.source) (plan_of g (strand_at g 0)) (tails 0) g.source.start (all_left (plan_of g (strand_at g 0)) os) (opening g.source g.globals)))
      (subst (λ (ts : List (Thread Held)). GoesOn g tails total [] (after (woven (loom g tails) true 0 0 b.events (tailed (tails 0) b.last) ts).events (run (weave (loom g tails)) n (woven (loom g tails) true 0 0 b.events (tailed (tails 0) b.last) ts).last))
      (ProtocolStrands g (os ∷ oss) n)) (sym same)
      (subst (λ (r : Ran (Woven Held) Told). GoesOn g tails total [] (after r.events (run (weave (loom g tails)) n r.last)) (ProtocolStrands g (os ∷ oss) n)) (sym (woven_tailed g tails true 0 0 b.events b.last shorts))
      (behind g tails total [] r1.events (run (weave (loom g tails)) n (tailed_woven g tails r1.last)) (run (weave (loom g tails)) n r1.last) (run_on g tails total n n r1.last r1.events keeps))))
    where
      total : ℕ → ℕ
      total = count_at (os ∷ oss)

      b : Ran Held Note
      b = held_begun g.source.start (all_left (plan_of g (strand_at g 0)) os) (opening g.source g.globals)

      shorts : List (Thread Held)
      shorts = map (λ (x : Held). record { due = 0; at = Some x }) (b.last ∷ beginnings (free no_store) g (drop 1 g.strands) oss)

      longs : Held → List (Thread Held)
      longs h = map (λ (x : Held). record { due = 0; at = Some x }) (h ∷ beginnings (free no_store) g (drop 1 g.strands) (longer_each tails 1 oss))

      same : longs (tailed (tails 0) b.last) ≡ tailed_from g tails 0 shorts
      same = ap (λ (ts : List (Thread Held)). record { due = 0; at = Some (tailed (tails 0) b.last) } ∷ ts) (begins_tailed 1 (drop 1 g.strands) oss)

      r1 : Ran (Woven Held) Told
      r1 = woven (loom g tails) true 0 0 b.events b.last shorts

      agrees : Agrees total [] shorts
      agrees zero h e = subst (Counts (length os) 0) (some_is e) (begun_counts g.source.start (all_left (plan_of g (strand_at g 0)) os) (opening g.source g.globals))
        where
          some_is : Some b.last ≡ Some h → b.last ≡ h
          some_is q = cc
      agrees (suc k) h e = begins_count (drop 1 g.strands) oss k h e

      own : Counts (length os) (calls_by 0 (told_by 0 b.events)) b.last
      own =
          subst (λ m. Counts (length os) m b.last) (sym (calls_own total 0 [] b.events))
          (tells_counts (length os) 0 (length os) b.events b.last (let z : 0 + length os ≡ length os = omega arith in z)
          (begun_tells g.source (exports_of g.source) (plan_of g (strand_at g 0)) g.source.start (all_left (plan_of g (strand_at g 0)) os) (opening g.source g.globals)))

      keeps : Agrees total r1.events r1.last.threads
      keeps = keeps_woven total (loom g tails) held_waking [] true 0 0 b.events b.last shorts agrees own
