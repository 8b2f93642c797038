-- A strand's stretch is one of the woven machine, up to the note that ends its turn.
use Rattle.std.proofs.Common.{arith, ◌≡◌, ◌<◌, ◌⊎◌, inl, inr, ℕ, suc, ◌+◌, List, [], ◌∷◌, ◌++◌, length, Option, Some, Bool, true, false, refl, sym, ap, ◌∙◌, subst, append_assoc, append-nil}
use Rattle.wa_model.specs.Machine.{Leads, Ran, Turn, after, goes, moves, stays, stops}
use Rattle.wa_model.specs.Outside.{Event, answered, called, ended, parked, paused, returned, shown}
use Rattle.wa_model.specs.Blocking.{Note}
use Rattle.wa_model.specs.Protocol.{Held, aside, busy, calling, entering, exports_of, free, over, protocol, starting}
use Rattle.run_theory.proofs.Runs.{leads_on, leads_stopped}
use Rattle.world_model.specs.World.{ends_turn, is_end}
use Rattle.host_laws.specs.Stretch.{is_over}
use Rattle.strand_laws.proofs.WovenRuns.{NoEnds, woven_at}
use Rattle.strand_laws.specs.Strands.{StrandProgram, held_loom, held_starts, plan_of, strand_at}
use Rattle.strand_laws.specs.Woven.{Loom, Thread, Told, Woven, going, last_event, moved, put, told_by, weave, woven}
use Rattle.strand_host.proofs.StandingMoves.{MoveSo, Settles, move_so, not_starts}
use Rattle.strand_host.proofs.StandingWoven.{Ending, LastEnds, last_other, no_ends_nil, no_ends_waiting, ran_to, split_ending, true_false, waiting_open, woven_front, woven_open, woven_put}
use Rattle.strand_host.specs.Standing.{AreWaiting, is_at_pause, is_in_start}

module _ (g : StrandProgram) (i : ℕ) where
  abbrev pub next : Held → Turn Held Note
  next = protocol g.source (exports_of g.source) (plan_of g (strand_at g i))

  pub so : (h h2 : Held) (k : ℕ) (es : List Note) → next h ≡ goes k es h2 → MoveSo (is_in_start h) (goes k es h2)
  so h h2 k es e = subst (MoveSo (is_in_start h)) e (move_so g.source (exports_of g.source) (plan_of g (strand_at g i)) h)

  stops_goes : {A : Type 0} (k : ℕ) (es : List Note) (h : Held) → stops ≡ goes k es h → A
  stops_goes k es h e = let no_way : ⊥ = cc in absurd no_way

  -- one that moves isn't over
  pub not_over : (h h2 : Held) (k : ℕ) (es : List Note) → next h ≡ goes k es h2 → is_over h ≡ false
  not_over (free s l) h2 k es e = refl
  not_over (starting f s l) h2 k es e = refl
  not_over (busy ph c l) h2 k es e = refl
  not_over (calling ph s f args th l) h2 k es e = refl
  not_over (aside ph c th l) h2 k es e = refl
  not_over (entering ph y s l) h2 k es e = refl
  not_over (over s) h2 k es e = stops_goes k es h2 e

  over_stops : (h : Held) → is_over h ≡ true → next h ≡ stops
  over_stops (free s l) e = true_false (sym e)
  over_stops (starting f s l) e = true_false (sym e)
  over_stops (busy ph c l) e = true_false (sym e)
  over_stops (calling ph s f args th l) e = true_false (sym e)
  over_stops (aside ph c th l) e = true_false (sym e)
  over_stops (entering ph y s l) e = true_false (sym e)
  over_stops (over s) e = refl

  nil_first : (xs ys : List Note) → [] ≡ xs ++ ys → (xs ≡ []) × (ys ≡ [])
  nil_first [] ys e = (refl, sym e)
  nil_first (x ∷ xs) ys e = let no_way : ⊥ = cc in absurd no_way

  -- without a note nothing leads to a pause
  pause_stays : (h h' : Held) (n : ℕ) (es : List Note) → Leads next h n es h' → es ≡ [] → is_at_pause h' ≡ true → (n ≡ 0) × (h ≡ h')
  pause_stays h _ _ _ stays none e = (refl, refl)
  pause_stays h h' n gs (moves {t = v} {k = k} {n = m} {es = xs} {fs = ys} q rest c d) none e =
      let nil = nil_first xs ys (sym none ∙ d) in
      let on = pause_stays v h' m ys rest nil.1 e in
      let settled : Settles (last_event xs) v = (so h v k xs q).0 in
      let quiet : is_at_pause v ≡ false = subst (λ (us : List Note). Settles (last_event us) v) nil.0 settled in
      true_false (sym (ap is_at_pause on.1 ∙ e) ∙ quiet)

  pub over_stays : (h h' : Held) (n : ℕ) (es : List Note) → Leads next h n es h' → is_over h ≡ true → (n ≡ 0) × (h ≡ h') × (es ≡ [])
  over_stays h h' n es l e = leads_stopped Held Note next h h' n es (over_stops h e) l

  module _ (due : ℕ) (ts : List (Thread Held)) (lt : i < length ts) where
    abbrev pub loom : Loom Held
    loom = held_loom g

    abbrev pub w : Bool → List Note → Held → Ran (Woven Held) Told
    w st es h = woven loom st i due es h ts

    -- The machine goes on from where notes wait to where these do.
    pub record Goes (st : Bool) (ready : List Note) (h : Held) (n : ℕ) (st' : Bool) (all : List Note) (h' : Held) : Type 0 where
      pub told : List Told
      pub events : (w st' all h').events ≡ (w st ready h).events ++ told
      pub leads : Leads (weave loom) (w st ready h).last n told (w st' all h').last

    none_on : (st : Bool) (ready : List Note) (h : Held) → Goes st ready h 0 st ready h
    none_on st ready h = record { told = []; events = sym (append-nil (w st ready h).events); leads = stays }

    -- a move
    pub one_on : (st : Bool) (ready : List Note) (h h2 : Held) (k : ℕ) (es : List Note) → NoEnds ready → next h ≡ goes k es h2 → Goes st ready h (suc k) (held_starts h) (ready ++ es) h2
    one_on st ready h h2 k es n e = record {
      told = r.events;
      events = ap (λ (x : Ran (Woven Held) Told). x.events) front ∙ ap (λ (x : Ran (Woven Held) Told). x.events ++ r.events) (sym at_going);
      leads = subst (λ (x : Ran (Woven Held) Told). Leads (weave loom) x.last (suc k) r.events (w (held_starts h) (ready ++ es) h2).last) (sym at_going)
          (subst (λ (x : Ran (Woven Held) Told). Leads (weave loom) (going i due h ts) (suc k) r.events x.last) (sym front)
          (moves move stays (let z : suc k ≡ suc k + 0 = omega arith in z) (sym (append-nil r.events))));
    }
      where
        r : Ran (Woven Held) Told
        r = w (held_starts h) es h2

        front : w (held_starts h) (ready ++ es) h2 ≡ after (told_by i ready) r
        front = woven_front loom (held_starts h) i due ready es h2 ts n

        at_going : w st ready h ≡ ran_to loom (told_by i ready) (going i due h ts)
        at_going = woven_open loom st i due ready h ts n

        move : weave loom (going i due h ts) ≡ goes k r.events r.last
        move =
            woven_at loom i due h ts lt ∙ ap (moved loom (held_starts h) i due (put i due (Some h) ts)) e
            ∙ ap (λ (x : Ran (Woven Held) Told). goes k x.events x.last) (woven_put loom (held_starts h) i due es h2 ts due (Some h))

    pub both_on : (st st1 st2 : Bool) (ready mid all : List Note) (h h1 h2 : Held) (n m : ℕ) → Goes st ready h n st1 mid h1 → Goes st1 mid h1 m st2 all h2 → Goes st ready h (n + m) st2 all h2
    both_on st st1 st2 ready mid all h h1 h2 n m a b = record {
      told = a.told ++ b.told;
      events = b.events ∙ ap (λ (us : List Told). us ++ b.told) a.events ∙ append_assoc (w st ready h).events a.told b.told;
      leads = leads_on (Woven Held) Told (weave loom) (w st ready h).last (w st1 mid h1).last (w st2 all h2).last n m a.told b.told a.leads b.leads;
    }

    -- where the notes lead
    pub record Stretched (st : Bool) (ready : List Note) (h : Held) (n : ℕ) (made : List Note) (h' : Held) : Type 0 where
      pub flag : Bool
      pub on : Goes st ready h n flag (ready ++ made) h'
      pub kept : is_in_start h ≡ false → st ≡ false → flag ≡ false
      pub same : made ≡ [] → w flag (ready ++ made) h' ≡ w st (ready ++ made) h'

    pub stretch_on : (st : Bool) (ready : List Note) (h h' : Held) (n : ℕ) (made : List Note) → AreWaiting ready h → Leads next h n made h' → Ending (ready ++ made) h' → Stretched st ready h n made h'
    stretch_on st ready h _ _ _ wait stays end = record {
      flag = st;
      on = subst (λ (us : List Note). Goes st ready h 0 st us h) (sym (append-nil ready)) (none_on st ready h);
      kept = λ a b. b;
      same = λ e. refl;
    }
    stretch_on st ready h h' n made wait (moves {t = v} {k = k} {n = m} {es = xs} {fs = ys} e rest c d) end =
        subst (λ (us : List Note). Stretched st ready h n us h') (sym d)
        (by (split_ending (ready ++ xs) ys h' (subst (λ (us : List Note). Ending us h') (ap (λ (us : List Note). ready ++ us) d ∙ sym (append_assoc ready xs ys)) end))
        (λ quiet. stretch_on (held_starts h) (ready ++ xs) v h' m ys (no_ends_waiting (ready ++ xs) v quiet) rest))
      where
        quiet_ready : NoEnds ready
        quiet_ready = waiting_open ready h wait (not_over h v k xs e)

        settled : MoveSo (is_in_start h) (goes k xs v)
        settled = so h v k xs e

        first : Goes st ready h (suc k) (held_starts h) (ready ++ xs) v
        first = one_on st ready h v k xs quiet_ready e

        same_nil : (flag : Bool) (us : List Note) → us ≡ [] → w flag (ready ++ us) h' ≡ w st (ready ++ us) h'
        same_nil flag us q =
            subst (λ (vs : List Note). w flag (ready ++ vs) h' ≡ w st (ready ++ vs) h') (sym q)
            (woven_open loom flag i due (ready ++ []) h' ts (no_ends_nil ready quiet_ready) ∙ sym (woven_open loom st i due (ready ++ []) h' ts (no_ends_nil ready quiet_ready)))

        -- the move was the last
        at_last : (ys ≡ []) → (m ≡ 0) → v ≡ h' → Stretched st ready h n (xs ++ ys) h'
        at_last q z same = record {
          flag = held_starts h;
          on = subst (λ (us : List Note). Goes st ready h n (held_starts h) (ready ++ us) h') (sym (ap (λ (us : List Note). xs ++ us) q ∙ append-nil xs))
              (subst (λ (u : Held). Goes st ready h n (held_starts h) (ready ++ xs) u) same
              (subst (λ j. Goes st ready h j (held_starts h) (ready ++ xs) v) (let y : suc k ≡ n = omega (arith, c, z) in y) first));
          kept = λ a b. not_starts h a;
          same = same_nil (held_starts h) (xs ++ ys);
        }

        ends_there : (ys ≡ []) × LastEnds (ready ++ xs) h' → Stretched st ready h n (xs ++ ys) h'
        ends_there r = by_event r.1.0 (last_other ready xs r.1.0 quiet_ready r.1.1 r.1.2) r.1.2 r.1.3
          where
            by_event : (x : Event) → last_event xs ≡ Some x → ends_turn x ≡ true → (is_end x ≡ false → is_at_pause h' ≡ true) → Stretched st ready h n (xs ++ ys) h'
            by_event (called a) q t z = true_false (sym t)
            by_event (answered a) q t z = true_false (sym t)
            by_event (parked a) q t z = true_false (sym t)
            by_event (returned a b) q t z = true_false (sym t)
            by_event (shown a b) q t z = true_false (sym t)
            by_event (paused a b) q t z = let y = pause_stays v h' m ys rest r.0 (z refl) in at_last r.0 y.0 y.1
            by_event (ended how) q t z =
                let over : is_over v ≡ true = subst (λ (o : Option Event). Settles o v) q settled.0 in
                let y = over_stays v h' m ys rest over in at_last r.0 y.0 y.1

        by : (NoEnds (ready ++ xs) × Ending ys h') ⊎ ((ys ≡ []) × LastEnds (ready ++ xs) h')
            → (NoEnds (ready ++ xs) → Ending ((ready ++ xs) ++ ys) h' → Stretched (held_starts h) (ready ++ xs) v m ys h') → Stretched st ready h n (xs ++ ys) h'
        by (inr r) on = ends_there r
        by (inl r) on =
            let s : Stretched (held_starts h) (ready ++ xs) v m ys h' =
            on r.0 (subst (λ (us : List Note). Ending us h') (ap (λ (us : List Note). ready ++ us) d ∙ sym (append_assoc ready xs ys)) end) in
            record {
              flag = s.flag;
              on = subst (λ (us : List Note). Goes st ready h n s.flag us h') (append_assoc ready xs ys)
                  (subst (λ j. Goes st ready h j s.flag ((ready ++ xs) ++ ys) h') (let y : suc k + m ≡ n = omega (arith, c) in y)
                  (both_on st (held_starts h) s.flag ready (ready ++ xs) ((ready ++ xs) ++ ys) h v h' (suc k) m first s.on));
              kept = λ a b. s.kept (settled.1 a) (not_starts h a);
              same = same_nil s.flag (xs ++ ys);
            }
