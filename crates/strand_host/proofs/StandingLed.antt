-- Where the machine stands once a strand has gone on, whatever later calls meet.
use Rattle.std.proofs.Common.{arith, ◌≡◌, ◌<◌, ℕ, suc, ◌+◌, List, [], ◌∷◌, ◌++◌, length, Some, Bool, true, false, refl, sym, ap, ◌∙◌, subst, append_assoc, append-nil}
use Rattle.std.specs.Prelude.{MatchBool, slice_get, slice_set}
use Rattle.wa_model.specs.Machine.{Leads, Ran, after, goes, moves, stays}
use Rattle.wa_model.specs.Plan.{Outcome}
use Rattle.wa_model.specs.Blocking.{Note}
use Rattle.wa_model.specs.Protocol.{Held, exports_of, protocol, store_held}
use Rattle.run_theory.proofs.Runs.{leads_on}
use Rattle.world_model.specs.World.{ends_turn, is_end}
use Rattle.host_laws.specs.Stretch.{Stretch, is_over, meeting}
use Rattle.host_laws.proofs.Stretches.{store_meeting}
use Rattle.strand_laws.proofs.WovenRuns.{NoEnds}
use Rattle.strand_laws.specs.Strands.{StrandProgram, held_loom, held_starts, outcomes_at, plan_of, strand_at}
use Rattle.strand_laws.specs.StrandWorld.{StrandsInWorld}
use Rattle.strand_laws.specs.ToldStrands.{ProgramTeller, StrandTeller, met_and}
use Rattle.strand_laws.specs.Woven.{Loom, Thread, Told, Woven, put, weave, woven}
use Rattle.strand_host.proofs.StandingGoes as G
use Rattle.strand_host.proofs.StandingTellers.{dues_length, dues_long, get_lt, put_length}
use Rattle.strand_host.proofs.StandingThreads.{front_others, front_own, in_start_meeting, length_meeting, met_front, over_meeting, pause_meeting, put_same_meeting, starts_meeting, with_front}
use Rattle.strand_host.proofs.StandingWoven.{Ending, no_ends_nil, no_trap_same, true_false, waiting_open, woven_alike}
use Rattle.strand_host.specs.Standing.{AreWaiting, GoesSo, InTurn, LastMoveLeads, Led, LedTo, as_before, behind_start, by_last_move, either_way, is_at_pause, threads_meeting}

-- ---- notes that wait, with outcomes

pub waiting_as : (xs : List Note) (h h2 : Held) → is_over h ≡ is_over h2 → store_held h ≡ store_held h2 → AreWaiting xs h → AreWaiting xs h2
waiting_as [] h h2 e q w = tt
waiting_as (x ∷ xs) h h2 e q w = by (ends_turn x.event) w (λ v. waiting_as xs h h2 e q v)
  where
    by : (b : Bool) → MatchBool b ((xs ≡ []) × (is_end x.event ≡ true) × (is_over h ≡ true) × (x.store ≡ store_held h)) (AreWaiting xs h) → (AreWaiting xs h → AreWaiting xs h2)
        → MatchBool b ((xs ≡ []) × (is_end x.event ≡ true) × (is_over h2 ≡ true) × (x.store ≡ store_held h2)) (AreWaiting xs h2)
    by true v on = (v.0, v.1, sym e ∙ v.2, v.3 ∙ q)
    by false v on = on v

pub ending_as : (xs : List Note) (h h2 : Held) → is_at_pause h ≡ is_at_pause h2 → Ending xs h → Ending xs h2
ending_as [] h h2 e w = tt
ending_as (x ∷ xs) h h2 e w = by (ends_turn x.event) w (λ v. ending_as xs h h2 e v)
  where
    by : (b : Bool) → MatchBool b ((xs ≡ []) × (is_end x.event ≡ false → is_at_pause h ≡ true)) (Ending xs h) → (Ending xs h → Ending xs h2)
        → MatchBool b ((xs ≡ []) × (is_end x.event ≡ false → is_at_pause h2 ≡ true)) (Ending xs h2)
    by true v on = (v.0, λ z. sym e ∙ v.1 z)
    by false v on = on v

pub waiting_ending : (xs : List Note) (h : Held) → AreWaiting xs h → Ending xs h
waiting_ending [] h w = tt
waiting_ending (x ∷ xs) h w = by (ends_turn x.event) w (λ v. waiting_ending xs h v)
  where
    by : (b : Bool) → MatchBool b ((xs ≡ []) × (is_end x.event ≡ true) × (is_over h ≡ true) × (x.store ≡ store_held h)) (AreWaiting xs h) → (AreWaiting xs h → Ending xs h)
        → MatchBool b ((xs ≡ []) × (is_end x.event ≡ false → is_at_pause h ≡ true)) (Ending xs h)
    by true v on = (v.0, λ z. true_false (sym v.1 ∙ z))
    by false v on = on v

pub no_ends_ending : (xs : List Note) (h : Held) → NoEnds xs → Ending xs h
no_ends_ending [] h n = tt
no_ends_ending (x ∷ xs) h n = subst (λ b. MatchBool b ((xs ≡ []) × (is_end x.event ≡ false → is_at_pause h ≡ true)) (Ending xs h)) (sym n.0) (no_ends_ending xs h n.1)

-- in front of those that wait
pub ending_front : (x : Note) (xs : List Note) (h : Held) → ends_turn x.event ≡ false → Ending xs h → Ending (x ∷ xs) h
ending_front x xs h e w = subst (λ b. MatchBool b ((xs ≡ []) × (is_end x.event ≡ false → is_at_pause h ≡ true)) (Ending xs h)) (sym e) w

-- one alone that ends a turn
pub ending_one : (x : Note) (h : Held) → ends_turn x.event ≡ true → (is_end x.event ≡ false → is_at_pause h ≡ true) → Ending (x ∷ []) h
ending_one x h e q = subst (λ b. MatchBool b ((none ≡ []) × (is_end x.event ≡ false → is_at_pause h ≡ true)) (Ending [] h)) (sym e) (refl, q)
  where
    none : List Note
    none = []

-- ---- a strand's moves

pub last_move_leads : LastMoveLeads
last_move_leads p plan h h' os made used b m = λ more.
    let z : used ≡ m.cost + (suc m.k + 0) = let e = m.used_is in omega (arith, e) in
    subst (λ n. Leads (protocol p (exports_of p) plan) (meeting (os ++ more) h) n made (meeting more h')) (sym z)
    (leads_on Held Note (protocol p (exports_of p) plan) (meeting (os ++ more) h) (meeting (os ++ more) m.at) (meeting more h') m.cost (suc m.k + 0) [] made (m.first (os ++ more))
    (moves (m.move more) stays refl (sym (append-nil made))))

module _ (g : StrandProgram) (k due : ℕ) (ts : List (Thread Held)) (lt : k < length ts) where
  abbrev Goes : Bool → List Note → Held → ℕ → Bool → List Note → Held → Type 0
  Goes st ready h n st' all h' = G.Goes g k due ts lt st ready h n st' all h'

  abbrev w : Bool → List Note → Held → Ran (Woven Held) Told
  w st es h = woven (held_loom g) st k due es h ts

  goes_same : (st : Bool) (ready : List Note) (h : Held) (n : ℕ) (a b : Bool) (all : List Note) (h' : Held) → w a all h' ≡ w b all h' → Goes st ready h n a all h' → Goes st ready h n b all h'
  goes_same st ready h n a b all h' e x = record {
    told = x.told;
    events = ap (λ (r : Ran (Woven Held) Told). r.events) (sym e) ∙ x.events;
    leads = subst (λ (r : Ran (Woven Held) Told). Leads (weave (held_loom g)) (w st ready h).last n x.told r.last) e x.leads;
  }

  -- moves of known beginnings
  by_last : (st : Bool) (ready : List Note) (h at h' : Held) (cost j : ℕ) (made : List Note) → AreWaiting ready h → Leads (G.next g k) h cost [] at → G.next g k at ≡ goes j made h'
      → Goes st ready h (cost + suc j) (held_starts at) (ready ++ made) h'
  by_last st ready h at h' cost j made wait first move = by (is_over h) refl
    where
      by : (b : Bool) → is_over h ≡ b → Goes st ready h (cost + suc j) (held_starts at) (ready ++ made) h'
      by true e =
          let o = G.over_stays g k h at cost [] first e in
          let no_way : false ≡ true = sym (G.not_over g k at h' j made move) ∙ sym (ap is_over o.1) ∙ e in
          true_false (sym no_way)
      by false e =
          let quiet : NoEnds ready = waiting_open ready h wait e in
          let s = G.stretch_on g k due ts lt st ready h at cost [] wait first (no_ends_ending (ready ++ []) at (no_ends_nil ready quiet)) in
          subst (λ (us : List Note). Goes st ready h (cost + suc j) (held_starts at) us h') (ap (λ (us : List Note). us ++ made) (append-nil ready))
          (G.both_on g k due ts lt st s.flag (held_starts at) ready (ready ++ []) ((ready ++ []) ++ made) h at h' cost (suc j) s.on
          (G.one_on g k due ts lt s.flag (ready ++ []) at h' j made (no_ends_nil ready quiet) move))

  pub goes_so : (st st' : Bool) (ready : List Note) (h : Held) (os : List Outcome) (made : List Note) (used : ℕ) (h' : Held) → GoesSo g.source (plan_of g (strand_at g k)) st ready h os made used h' st'
      → AreWaiting ready h → Ending (ready ++ made) h' → (more : List Outcome) → Goes st ready (meeting (os ++ more) h) used st' (ready ++ made) (meeting more h')
  goes_so st st' ready h os made used h' so wait end more = by st' so
    where
      wait2 : AreWaiting ready (meeting (os ++ more) h)
      wait2 = waiting_as ready h (meeting (os ++ more) h) (sym (over_meeting (os ++ more) h)) (sym (store_meeting (os ++ more) h)) wait

      on : Stretch g.source (plan_of g (strand_at g k)) h os made used h' → G.Stretched g k due ts lt st ready (meeting (os ++ more) h) used made (meeting more h')
      on x = G.stretch_on g k due ts lt st ready (meeting (os ++ more) h) (meeting more h') used made wait2 (x more) (ending_as (ready ++ made) h' (meeting more h') (sym (pause_meeting more h')) end)

      by : (b : Bool) → GoesSo g.source (plan_of g (strand_at g k)) st ready h os made used h' b → Goes st ready (meeting (os ++ more) h) used b (ready ++ made) (meeting more h')
      by _ (as_before none x) = let s = on x in goes_same st ready (meeting (os ++ more) h) used s.flag st (ready ++ made) (meeting more h') (s.same none) s.on
      by _ (behind_start a e x) =
          let s = on x in
          subst (λ c. Goes st ready (meeting (os ++ more) h) used c (ready ++ made) (meeting more h')) (s.kept (in_start_meeting (os ++ more) h ∙ e) a) s.on
      by _ (either_way b none x) =
          let s = on x in
          goes_same st ready (meeting (os ++ more) h) used s.flag b (ready ++ made) (meeting more h')
          (no_trap_same (held_loom g) s.flag b k due (ready ++ made) (meeting more h') ts none) s.on
      by _ (by_last_move b m) =
          subst (λ n. Goes st ready (meeting (os ++ more) h) n b (ready ++ made) (meeting more h')) (sym m.used_is)
          (subst (λ c. Goes st ready (meeting (os ++ more) h) (m.cost + suc m.k) c (ready ++ made) (meeting more h')) (starts_meeting (os ++ more) m.at ∙ m.starts)
          (by_last st ready (meeting (os ++ more) h) (meeting (os ++ more) m.at) (meeting more h') m.cost m.k made wait2 (m.first (os ++ more)) (m.move more)))

-- ---- what the machine has made

pub led_tell : (g : StrandProgram) (oss : List (List Outcome)) (used : ℕ) (told xs : List Told) (r : Ran (Woven Held) Told) → LedTo g oss used told (after xs r) → LedTo g oss used (told ++ xs) r
led_tell g oss used told xs r l = subst (λ (us : List Told). Led g oss used us r.last) (sym (append_assoc told xs r.events)) l

pub led_same : (g : StrandProgram) (oss : List (List Outcome)) (used : ℕ) (told : List Told) (r r' : Ran (Woven Held) Told) → r ≡ r' → LedTo g oss used told r → LedTo g oss used told r'
led_same g oss used told r r' e l = subst (λ (x : Ran (Woven Held) Told). Led g oss used (told ++ x.events) x.last) e l

pub led_on : (g : StrandProgram) (oss : List (List Outcome)) (used n : ℕ) (told evs : List Told) (r r' : Ran (Woven Held) Told) → LedTo g oss used told r → r'.events ≡ r.events ++ evs
    → Leads (weave (held_loom g)) r.last n evs r'.last → LedTo g oss (used + n) told r'
led_on g oss used n told evs r r' l e leads = record {
  behind = l.behind ++ evs;
  made = ap (λ (us : List Told). told ++ us) e ∙ sym (append_assoc told r.events evs) ∙ ap (λ (us : List Told). us ++ evs) l.made ∙ append_assoc _ l.behind evs;
  leads = leads_on (Woven Held) Told (weave (held_loom g)) _ r.last r'.last used n l.behind evs l.leads leads;
}

module _ (g : StrandsInWorld) (t : ProgramTeller) (left k due : ℕ) (st st' : Bool) (ready : List Note) (h : Held) (ts : List (Thread Held)) (m : InTurn g t left k due st ready h ts) where
  pub lt : k < length ts
  lt =
      let a = get_lt t.strands k m.s m.there in
      let b = dues_long t.strands in
      let c = dues_length (put k due (Some h) ts) in
      let d = put_length k due (Some h) ts in
      let e = ap length m.dues in
      omega (arith, a, b, c, d, e)

  pub lt_meeting : (more : List (List Outcome)) → k < length (threads_meeting more ts)
  lt_meeting more = let a = lt in let b = length_meeting (outcomes_at more) 0 ts in omega (arith, a, b)

  abbrev pub standing_so : (more : List (List Outcome)) → Bool → List Note → Held → Ran (Woven Held) Told
  standing_so more b es x = woven (held_loom g.program) b k due es (meeting (outcomes_at more k) x) (threads_meeting more ts)

  -- once the strand has gone on
  pub led_so : (s s' : StrandTeller) (os : List Outcome) (made : List Note) (used : ℕ) (h' : Held) → slice_get t.strands k ≡ Some s → s'.met ≡ s.met ++ os
      → GoesSo g.program.source (plan_of g.program (strand_at g.program k)) st ready h os made used h' st' → Ending (ready ++ made) h' → (more : List (List Outcome))
      → LedTo g.program (met_and (slice_set t.strands k s') more) (m.used + used) t.told (standing_so more st' (ready ++ made) h')
  led_so s s' os made used h' there met so end more =
      led_on g.program (met_and (slice_set t.strands k s') more) m.used used t.told on.told (woven loom st k due ready (meeting (os ++ outcomes_at more k) h) (threads_meeting more ts))
      (standing_so more st' (ready ++ made) h')
      (subst (λ (oss : List (List Outcome)). LedTo g.program oss m.used t.told (woven loom st k due ready (meeting (os ++ outcomes_at more k) h) (threads_meeting more ts)))
      (sym (met_front t.strands k s s' os more there met))
      (led_same g.program (met_and t.strands (with_front k os more)) m.used t.told _ _ same (m.led (with_front k os more)))) on.events on.leads
    where
      loom : Loom Held
      loom = held_loom g.program

      same : woven loom st k due ready (meeting (outcomes_at (with_front k os more) k) h) (threads_meeting (with_front k os more) ts)
          ≡ woven loom st k due ready (meeting (os ++ outcomes_at more k) h) (threads_meeting more ts)
      same =
          ap (λ (us : List Outcome). woven loom st k due ready (meeting us h) (threads_meeting (with_front k os more) ts)) (front_own k os more)
          ∙ woven_alike loom st k due ready (meeting (os ++ outcomes_at more k) h) (threads_meeting (with_front k os more) ts) (threads_meeting more ts)
          (length_meeting (outcomes_at (with_front k os more)) 0 ts ∙ sym (length_meeting (outcomes_at more) 0 ts))
          (λ d o. put_same_meeting (outcomes_at (with_front k os more)) (outcomes_at more) k d o ts (λ j ne. front_others k os more j ne))

      on : G.Goes g.program k due (threads_meeting more ts) (lt_meeting more) st ready (meeting (os ++ outcomes_at more k) h) used st' (ready ++ made) (meeting (outcomes_at more k) h')
      on = goes_so g.program k due (threads_meeting more ts) (lt_meeting more) st st' ready h os made used h' so m.waiting end (outcomes_at more k)
