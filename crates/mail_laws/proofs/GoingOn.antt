-- A world that is told goes on to an end.
use Rattle.std.proofs.Common.{arith, ◌≡◌, ◌<◌, ◌≤◌, ◌+◌, ◌⊎◌, inl, inr, ℕ, zero, suc, List, [], ◌∷◌, ◌++◌, length, map, Option, Some, None, Bool, true, false, nat_eq, if◌then◌else◌, slice_get}
use Rattle.std.proofs.Common.{slice_set, refl, sym, ap, ◌∙◌, subst, append_assoc, append-nil, length-set}
use Rattle.std.specs.List.{AllZip}
use Rattle.std.specs.Option.{option_map, unwrap_or}
use Rattle.std.proofs.lemmas.Bool.{cases_eq, ne_eqb, cases_lt}
use Rattle.std.proofs.lemmas.List.{length-map}
use Rattle.std.proofs.lemmas.Option.{slice_get-map, slice_get_within, same_Some}
use Rattle.wa_types.specs.Validity.{same_name}
use Rattle.wa_types.specs.declared.values.Value.TheVariants as V
use Rattle.wa_model.specs.declared.answers.Detach.{Detach}
use Rattle.wa_model.specs.declared.events.End.TheVariants.{Stalled}
use Rattle.wa_model.specs.Outside.{Line, Event, ended}
use Rattle.wa_model.specs.Blocking.{Note}
use Rattle.world_model.specs.World.{Device, Program, protocol_story, line_at, events_with_looks, look_events, detached}
use Rattle.world_laws.proofs.Places.{item, map_at, set_here, set_there, zipped}
use Rattle.host_laws.specs.Stretch.{meeting as with_more}
use Rattle.host_laws.specs.Stories.{steps_from}
use Rattle.mailbox_device.specs.Mail.{Box, empty_box as no_mail}
use Rattle.mailbox_device.specs.declared.mailbox.Settled.{Settled}
use Rattle.mail_laws.specs.Mailboxes.{mailed}
use Rattle.mail_laws.specs.MailWorld.{to_end, to_wait, ProtocolWorldFrom, begins_over, pauses, parks, told_pause, store_behind}
use Rattle.mail_laws.specs.Played.{EachWorldEnds}
use Rattle.mail_laws.specs.Told.{Await, Common, Teller, pending, waits_at, due_of, unless_waiting, IsLeast, IsRest, NoneDue, EndsOnce, ends_program, having_told, having_got, no_teller, settle_all, NotAmong}
use Rattle.mail_laws.specs.Told.{IsWaiting, AreSent, waiting_in, parked_in, begun_amid, TellsTurn, TellsStall, TellsEvent, tells_turn, tells_stall, starting as teller_at, opening as told_opening}
use Rattle.mail_laws.specs.Told.{Tells, HasStory, HaveEnded, if_going}
use Rattle.mail_laws.proofs.Grown.{Grown, event_grows, grown_on, grown_same, settle_out, settled_long}
use Rattle.mail_laws.proofs.WholeTurns.{parks_unless}
use Rattle.mail_laws.proofs.Promises.{not_sent, still_sent}
use Rattle.mail_laws.proofs.ToldAreWorlds.{set_back}
use Rattle.mail_laws.proofs.Prepared.{all_told_is_world}
use Rattle.mail_laws.proofs.CallsTold.{times, times_waiting, total, one_where, not_among, Posted, are_sent, still_wait}
use Rattle.mail_laws.proofs.TurnsTold.{Stands, Knows, it_stands, Behind, is_over, is_paused, is_parked, Turned, still_tells, turn_from}
use Rattle.mail_laws.proofs.Beginnings.{over_tells, start_knows, start_size}

-- ---- lists

abbrev pub sum : List ℕ → ℕ
sum [] = 0
sum (n ∷ ns) = n + sum ns

sum_set : (ns : List ℕ) (i n m : ℕ) → slice_get ns i ≡ Some n → sum (slice_set ns i m) + n ≡ sum ns + m
sum_set [] i n m e = absurd cc
sum_set (k ∷ ns) zero n m e = let same : k ≡ n = same_Some k n e in omega (arith, same)
sum_set (k ∷ ns) (suc i) n m e = let on = sum_set ns i n m e in omega (arith, on)

abbrev Least : List (Option ℕ) → Type 0
Least dues = (i : ℕ) × (due : ℕ) × IsLeast dues i due

least_due : (dues : List (Option ℕ)) → NoneDue dues ⊎ Least dues
least_due [] = inl (λ i d e. absurd cc)
least_due (None ∷ dues) = by (least_due dues)
  where
    by : NoneDue dues ⊎ Least dues → NoneDue (None ∷ dues) ⊎ Least (None ∷ dues)
    by (inl none) = inl all
      where
        all : NoneDue (None ∷ dues)
        all zero d e = cc
        all (suc i) d e = none i d e
    by (inr l) = inr (suc l.0, l.1, record { there = l.2.there; least = least })
      where
        least : (other tick : ℕ) → slice_get (None ∷ dues) other ≡ Some (Some tick) → (l.1 < tick) ⊎ ((l.1 ≡ tick) × (suc l.0 ≤ other))
        least zero tick e = absurd cc
        least (suc other) tick e = one (l.2.least other tick e)
          where
            one : (l.1 < tick) ⊎ ((l.1 ≡ tick) × (l.0 ≤ other)) → (l.1 < tick) ⊎ ((l.1 ≡ tick) × (suc l.0 ≤ suc other))
            one (inl lt) = inl lt
            one (inr h) = inr (h.0, omega (arith, h.1))
least_due (Some d ∷ dues) = by (least_due dues)
  where
    tick_is : (a b : ℕ) → Some (Some a) ≡ Some (Some b) → a ≡ b
    tick_is a b e = same_Some a b (same_Some (Some a) (Some b) e)

    by : NoneDue dues ⊎ Least dues → NoneDue (Some d ∷ dues) ⊎ Least (Some d ∷ dues)
    by (inl none) = inr (0, d, record { there = refl; least = least })
      where
        least : (other tick : ℕ) → slice_get (Some d ∷ dues) other ≡ Some (Some tick) → (d < tick) ⊎ ((d ≡ tick) × (0 ≤ other))
        least zero tick e = inr (tick_is d tick e, omega arith)
        least (suc other) tick e = absurd (none other tick e)
    by (inr l) = at (cases_lt l.1 d)
      where
        at : (l.1 < d) ⊎ (d ≤ l.1) → NoneDue (Some d ∷ dues) ⊎ Least (Some d ∷ dues)
        at (inl lt) = inr (suc l.0, l.1, record { there = l.2.there; least = least })
          where
            least : (other tick : ℕ) → slice_get (Some d ∷ dues) other ≡ Some (Some tick) → (l.1 < tick) ⊎ ((l.1 ≡ tick) × (suc l.0 ≤ other))
            least zero tick e = let same = tick_is d tick e in inl (omega (arith, same, lt))
            least (suc other) tick e = one (l.2.least other tick e)
              where
                one : (l.1 < tick) ⊎ ((l.1 ≡ tick) × (l.0 ≤ other)) → (l.1 < tick) ⊎ ((l.1 ≡ tick) × (suc l.0 ≤ suc other))
                one (inl h) = inl h
                one (inr h) = inr (h.0, omega (arith, h.1))
        at (inr le) = inr (0, d, record { there = refl; least = least })
          where
            least : (other tick : ℕ) → slice_get (Some d ∷ dues) other ≡ Some (Some tick) → (d < tick) ⊎ ((d ≡ tick) × (0 ≤ other))
            least zero tick e = inr (tick_is d tick e, omega arith)
            least (suc other) tick e = one (l.2.least other tick e)
              where
                same_or : (d < tick) ⊎ (tick ≤ d) → l.1 ≤ tick → (d < tick) ⊎ ((d ≡ tick) × (0 ≤ suc other))
                same_or (inl lt) h = inl lt
                same_or (inr ge) h = inr (omega (arith, ge, h, le), omega arith)

                one : (l.1 < tick) ⊎ ((l.1 ≡ tick) × (l.0 ≤ other)) → (d < tick) ⊎ ((d ≡ tick) × (0 ≤ suc other))
                one (inl lt) = inl (omega (arith, lt, le))
                one (inr h) = same_or (cases_lt d tick) (omega (arith, h.0))

pub record Waits (tellers : List Teller) : Type 0 where
  pub i : ℕ
  pub t : Teller
  pub r : Await
  pub there : slice_get tellers i ≡ Some t
  pub waits : waits_at t ≡ Some r
  pub first : (j : ℕ) (u : Teller) (q : Await) → slice_get tellers j ≡ Some u → waits_at u ≡ Some q → i ≤ j

abbrev NoneWaits : List Teller → Type 0
NoneWaits tellers = (j : ℕ) (u : Teller) (q : Await) → slice_get tellers j ≡ Some u → waits_at u ≡ Some q → ⊥

pub no_await : (q : Await) → None ≡ Some q → ⊥
no_await q e = cc

first_waits : (tellers : List Teller) → NoneWaits tellers ⊎ Waits tellers
first_waits [] = inl (λ j u q e f. absurd cc)
first_waits (t ∷ tellers) = by (waits_at t) refl (first_waits tellers)
  where
    by : (o : Option Await) → waits_at t ≡ o → NoneWaits tellers ⊎ Waits tellers → NoneWaits (t ∷ tellers) ⊎ Waits (t ∷ tellers)
    by (Some r) e on = inr (record { i = 0; t = t; r = r; there = refl; waits = e; first = λ j u q f g. omega arith })
    by None e (inl none) = inl all
      where
        all : NoneWaits (t ∷ tellers)
        all zero u q f g = no_await q (sym e ∙ ap waits_at (same_Some t u f) ∙ g)
        all (suc j) u q f g = none j u q f g
    by None e (inr w) = inr (record { i = suc w.i; t = w.t; r = w.r; there = w.there; waits = w.waits; first = first })
      where
        first : (j : ℕ) (u : Teller) (q : Await) → slice_get (t ∷ tellers) j ≡ Some u → waits_at u ≡ Some q → suc w.i ≤ j
        first zero u q f g = absurd (no_await q (sym e ∙ ap waits_at (same_Some t u f) ∙ g))
        first (suc j) u q f g = let h = w.first j u q f g in omega (arith, h)

-- ---- what a program stands at

-- It has ended, goes on, or waits, with a number that is greater than how many moves are left.
pub data Holds (w : Program) (t : Teller) (n : ℕ) : Type 0 where
  has_told : t.has_ended ≡ true → HasStory w t → Holds w t n
  goes_along : t.has_ended ≡ false → t.receive ≡ None → (size : ℕ) → n ≡ suc size → Knows w t.met t.told size → Holds w t n
  waits_on : t.has_ended ≡ false → (r : Await) → t.receive ≡ Some r → (size : ℕ) → n ≡ suc size → pauses t.told ≡ true
      → ((v : ℕ) → Stands w (t.met ++ mailed (Some (V.I32 v)) 1 ∷ []) t.told size) → Holds w t n

pub record AllHold (programs : List Program) (tellers : List Teller) (c : Common) (sizes : List ℕ) : Type 0 where
  pub long : length tellers ≡ length programs
  pub wide : length sizes ≡ length tellers
  pub each : (i : ℕ) (w : Program) (t : Teller) (n : ℕ) → slice_get programs i ≡ Some w → slice_get tellers i ≡ Some t → slice_get sizes i ≡ Some n → Holds w t n
  pub once : (j : ℕ) → times_waiting j c.boxes ≤ 1
  pub waits : NoneDue (map due_of tellers) ⊎ ((j : ℕ) → 0 < times_waiting j c.boxes → IsWaiting tellers j)

-- ---- one event

-- who is sent a value waited, and has got it
pub record Got (due : ℕ) (tellers : List Teller) (j : ℕ) (t : Teller) : Type 0 where
  pub u : Teller
  pub r : Await
  pub value : ℕ
  pub there : slice_get tellers j ≡ Some u
  pub unfinished : u.has_ended ≡ false
  pub waits : u.receive ≡ Some r
  pub is : t ≡ having_got due value u

pub settle_at : (due : ℕ) (ss : List Settled) (tellers : List Teller) (j : ℕ) (t : Teller) → AreSent tellers ss → slice_get (settle_all due ss tellers) j ≡ Some t
    → (slice_get tellers j ≡ Some t) ⊎ Got due tellers j t
settle_at due [] tellers j t sent e = inl e
settle_at due (s ∷ ss) tellers j t sent e = by (cases_eq j s.program) (settle_at due ss (slice_set tellers s.program got) j t (still_sent tellers ss s.program got sent.2 sent.3) e)
  where
    got : Teller
    got = having_got due s.value (unwrap_or (slice_get tellers s.program) no_teller)

    by : (j ≡ s.program) ⊎ (j ≡ s.program → ⊥) → (slice_get (slice_set tellers s.program got) j ≡ Some t) ⊎ Got due (slice_set tellers s.program got) j t → (slice_get tellers j ≡ Some t) ⊎ Got due tellers j t
    by (inl same) (inl h) =
        let b = set_back tellers s.program got t (ap (slice_get (slice_set tellers s.program got)) (sym same) ∙ h) in
        inr (record {
          u = sent.0.t;
          r = sent.0.r;
          value = s.value;
          there = ap (slice_get tellers) same ∙ sent.0.there;
          unfinished = sent.0.unfinished;
          waits = sent.0.waits;
          is = b.2 ∙ ap (λ (o : Option Teller). having_got due s.value (unwrap_or o no_teller)) sent.0.there;
        })
    by (inl same) (inr g) =
        let b = set_back tellers s.program got g.u (ap (slice_get (slice_set tellers s.program got)) (sym same) ∙ g.there) in
        absurd (no_await g.r (ap (λ (x : Teller). x.receive) (sym b.2) ∙ g.waits))
    by (inr other) (inl h) = inl (sym (set_there tellers s.program j got other) ∙ h)
    by (inr other) (inr g) =
        inr (record { u = g.u; r = g.r; value = g.value; there = sym (set_there tellers s.program j got other) ∙ g.there; unfinished = g.unfinished; waits = g.waits; is = g.is })

times_on : (j : ℕ) (xs ys : List ℕ) → times j (xs ++ ys) ≡ times j xs + times j ys
times_on j [] ys = omega arith
times_on j (x ∷ xs) ys = let on = times_on j xs ys in omega (arith, on)

times_joined : (j i : ℕ) (name : List ℕ) (bs : List Box) → times_waiting j (waiting_in i name bs) ≤ times_waiting j bs + one_where (nat_eq j i)
times_joined j i name [] = omega arith
times_joined j i name (b ∷ bs) = by (same_name b.name name) (times_joined j i name bs)
  where
    by : (y : Bool) → times_waiting j (waiting_in i name bs) ≤ times_waiting j bs + one_where (nat_eq j i)
        → times_waiting j (if y then (record b { waits = b.waits ++ i ∷ [] }) ∷ bs else b ∷ waiting_in i name bs) ≤ times j b.waits + times_waiting j bs + one_where (nat_eq j i)
    by true on = let h = times_on j b.waits (i ∷ []) in omega (arith, h)
    by false on = omega (arith, on)

other_none : (j i : ℕ) → (j ≡ i → ⊥) → one_where (nat_eq j i) ≡ 0
other_none j i other = ap one_where (ne_eqb j i other)

same_one : (j i : ℕ) → one_where (nat_eq j i) ≤ 1
same_one j i = by (nat_eq j i)
  where
    by : (b : Bool) → one_where b ≤ 1
    by true = omega arith
    by false = omega arith

pub due_is : (b : Bool) (o : Option Await) (d e : ℕ) → if_going b (unless_waiting o d) ≡ Some e → (b ≡ false) × (o ≡ None) × (e ≡ d)
due_is true o d e is = absurd cc
due_is false None d e is = (refl, refl, sym (same_Some d e is))
due_is false (Some r) d e is = absurd cc

pub over_says : (b : Bool) (o : Option Await) (r : Await) → if_going b o ≡ Some r → (b ≡ false) × (o ≡ Some r)
over_says true o r is = absurd cc
over_says false o r is = (refl, is)

-- notes that end with a turn that tells no end end with a pause
pauses_last : (xs ys : List Note) → EndsOnce ys → ends_program ys ≡ false → pauses (xs ++ ys) ≡ true
pauses_last xs ys whole live = behind xs ys whole ∙ here ys whole live
  where
    here : (ys : List Note) → EndsOnce ys → ends_program ys ≡ false → pauses ys ≡ true
    here ys whole live = by (pauses ys) (parks_unless ys (Some zero) whole ∙ ap (λ (b : Bool). if_going b (Some zero)) live)
      where
        by : (b : Bool) → (if b then Some zero else None) ≡ Some zero → b ≡ true
        by true e = refl
        by false e = absurd cc

    behind : (xs ys : List Note) → EndsOnce ys → pauses (xs ++ ys) ≡ pauses ys
    behind [] ys h = refl
    behind xs [] h = absurd h
    behind (x ∷ []) (y ∷ ys) h = refl
    behind (x ∷ z ∷ xs) (y ∷ ys) h = behind (z ∷ xs) (y ∷ ys) h

record After (programs : List Program) (detaches : List Detach) (number : ℕ) (tellers : List Teller) (c : Common) (size : ℕ) : Type 0 where
  tellers' : List Teller
  c' : Common
  lines : List Line
  sizes : List ℕ
  event : TellsEvent programs detaches number tellers c lines tellers' c'
  holds : AllHold programs tellers' c' sizes
  less : sum sizes < size

module _ (programs : List Program) (detaches : List Detach) (number : ℕ) (tellers : List Teller) (c : Common) (sizes : List ℕ) (all : AllHold programs tellers c sizes) where
  pub posted : ((i due : ℕ) → IsLeast (map due_of tellers) i due → Posted tellers (begun_amid number detaches c))
  posted i due next = by all.waits
    where
      by : NoneDue (map due_of tellers) ⊎ ((j : ℕ) → 0 < times_waiting j c.boxes → IsWaiting tellers j) → Posted tellers (begun_amid number detaches c)
      by (inl none) = absurd (none i due next.there)
      by (inr waits) = record { once = λ j. let h = all.once j in omega (arith, h); waits = λ j some. waits j (omega (arith, some)); small = tt }

  module _ (i : ℕ) (w : Program) (t : Teller) (n : ℕ) (program : slice_get programs i ≡ Some w) (there : slice_get tellers i ≡ Some t) (sized : slice_get sizes i ≡ Some n)
      (unfinished : t.has_ended ≡ false) (awake : t.receive ≡ None) (next : IsLeast (map due_of tellers) i t.due) (size : ℕ) (n_is : n ≡ suc size)
      (tu : Turned w i t tellers (begun_amid number detaches c) size) where
    abbrev pub ss : List Settled
    ss = tu.behind.settled

    pub sent : AreSent tellers ss
    sent = are_sent tellers ss (λ j. let h = tu.posted.once j in omega (arith, h)) (λ j some. tu.posted.waits j (omega (arith, some))) tu.posted.small

    pub out : NotAmong i ss
    out = not_sent tellers ss i t there awake sent

    abbrev pub told : Teller
    told = having_told t tu.turn tu.met tu.answers tu.behind.receive

    abbrev pub mid : List Teller
    mid = slice_set tellers i told

    abbrev pub now : List Teller
    now = settle_all (suc t.due) ss mid

    abbrev pub parking : Option Await
    parking = parks tu.turn tu.behind.receive

    abbrev pub c2 : Common
    c2 = record { devices = tu.behind.devices; boxes = parked_in i parking tu.behind.boxes; tick = t.due }

    abbrev pub told_lines : List Line
    told_lines = map (λ (e : Event). line_at t.due i (told_pause parking e)) (events_with_looks w.looks tu.turn)

    pub turn : TellsTurn programs detaches number tellers c told_lines now c2
    turn = record {
      i = i;
      w = w;
      t = t;
      program = program;
      there = there;
      next = next;
      turn = tu.turn;
      whole = tu.whole;
      met = tu.met;
      answers = tu.answers;
      behind = tu.behind;
      calls = tu.calls;
      sent = sent;
      still = still_wait tu.behind.boxes ss (λ j some. let h = tu.posted.once j in omega (arith, h, some));
      made = refl;
      after = refl;
      common = refl;
    }

    pub told_there : slice_get now i ≡ Some told
    told_there = settle_out (suc t.due) ss mid i out ∙ set_here tellers i told t there

    -- who neither takes the turn nor is sent a value stays
    stays_there : (j : ℕ) → (j ≡ i → ⊥) → NotAmong j ss → slice_get now j ≡ slice_get tellers j
    stays_there j other none = settle_out (suc t.due) ss mid j none ∙ set_there tellers i j told other

    parked_says : (r : Await) → parking ≡ Some r → (ends_program tu.turn ≡ false) × (tu.behind.receive ≡ Some r)
    parked_says r e = over_says (ends_program tu.turn) tu.behind.receive r (sym (parks_unless tu.turn tu.behind.receive tu.whole) ∙ e)

    -- it didn't wait
    pub not_waiting : total i tu.behind ≡ 0
    not_waiting = by (cases_lt 0 (total i tu.behind))
      where
        by : (0 < total i tu.behind) ⊎ (total i tu.behind ≤ 0) → total i tu.behind ≡ 0
        by (inr le) = omega (arith, le)
        by (inl some) =
            let q = tu.posted.waits i some in
            let same : t ≡ q.t = same_Some t q.t (sym there ∙ q.there) in
            absurd (no_await q.r (sym awake ∙ ap (λ (x : Teller). x.receive) same ∙ q.waits))

    waits_still : (j : ℕ) → (j ≡ i → ⊥) → 0 < times_waiting j tu.behind.boxes → IsWaiting now j
    waits_still j other some =
        let q = tu.posted.waits j (omega (arith, some)) in
        let h = tu.posted.once j in
        record { t = q.t; r = q.r; there = stays_there j other (not_among j ss (omega (arith, h, some))) ∙ q.there; unfinished = q.unfinished; waits = q.waits }

    once2 : (p : Option Await) (j : ℕ) → times_waiting j (parked_in i p tu.behind.boxes) ≤ 1
    once2 None j = let h = tu.posted.once j in omega (arith, h)
    once2 (Some r) j = by (cases_eq j i)
      where
        by : (j ≡ i) ⊎ (j ≡ i → ⊥) → times_waiting j (waiting_in i r.box tu.behind.boxes) ≤ 1
        by (inl e) =
            let z : total j tu.behind ≡ 0 = ap (λ (k : ℕ). total k tu.behind) e ∙ not_waiting in
            let h = times_joined j i r.box tu.behind.boxes in
            let o = same_one j i in
            omega (arith, h, z, o)
        by (inr other) = let h = times_joined j i r.box tu.behind.boxes in let o = other_none j i other in let q = tu.posted.once j in omega (arith, h, o, q)

    waits2 : (p : Option Await) → parking ≡ p → (j : ℕ) → 0 < times_waiting j (parked_in i p tu.behind.boxes) → IsWaiting now j
    waits2 None e j some = by (cases_eq j i)
      where
        by : (j ≡ i) ⊎ (j ≡ i → ⊥) → IsWaiting now j
        by (inl same) = let z : total j tu.behind ≡ 0 = ap (λ (k : ℕ). total k tu.behind) same ∙ not_waiting in let never : ⊥ = omega (arith, z, some) in absurd never
        by (inr other) = waits_still j other some
    waits2 (Some r) e j some = by (cases_eq j i)
      where
        by : (j ≡ i) ⊎ (j ≡ i → ⊥) → IsWaiting now j
        by (inl same) = let s = parked_says r e in record { t = told; r = r; there = ap (slice_get now) same ∙ told_there; unfinished = s.0; waits = s.1 }
        by (inr other) = let h = times_joined j i r.box tu.behind.boxes in let o = other_none j i other in waits_still j other (omega (arith, h, o, some))

    -- what it stands at behind the turn
    pub new_size : (Behind w i t tellers (begun_amid number detaches c) size tu.turn tu.met tu.behind.receive) → ℕ
    new_size (is_over e value small more story any) = 0
    new_size (is_paused e none size2 lt st) = suc size2
    new_size (is_parked e r some size2 lt st) = suc size2

    smaller : (b : Behind w i t tellers (begun_amid number detaches c) size tu.turn tu.met tu.behind.receive) → new_size b < n
    unfolding new_size
    smaller (is_over e value small more story any) = omega (arith, n_is)
    smaller (is_paused e none size2 lt st) = omega (arith, n_is, lt)
    smaller (is_parked e r some size2 lt st) = omega (arith, n_is, lt)

    told_holds : (b : Behind w i t tellers (begun_amid number detaches c) size tu.turn tu.met tu.behind.receive) → Holds w told (new_size b)
    unfolding new_size
    told_holds (is_over e value small more story any) =
        has_told e (record {
          value = value;
          small = small;
          rest = [];
          more = more;
          story = to_end (append-nil (t.told ++ tu.turn) ∙ sym story);
          is_rest = subst (λ (b : Bool). Rattle.mail_laws.specs.Told.IsRest b tu.behind.receive []) (sym e) refl;
        })
    told_holds (is_paused e none size2 lt st) = goes_along e none size2 refl (it_stands st)
    told_holds (is_parked e r some size2 lt st) = waits_on e r some size2 refl (pauses_last t.told tu.turn tu.whole e) st

    abbrev pub new_sizes : List ℕ
    new_sizes = slice_set sizes i (new_size tu.after)

    pub turn_less : sum new_sizes < sum sizes
    turn_less = let s = sum_set sizes i n (new_size tu.after) sized in let l = smaller tu.after in omega (arith, s, l)

    pub turn_holds : AllHold programs now c2 new_sizes
    turn_holds = record {
      long = settled_long (suc t.due) ss mid ∙ length-set tellers i told ∙ all.long;
      wide = length-set sizes i (new_size tu.after) ∙ all.wide ∙ sym (settled_long (suc t.due) ss mid ∙ length-set tellers i told);
      each = each;
      once = once2 parking;
      waits = inr (waits2 parking refl);
    }
      where
        each : (j : ℕ) (w2 : Program) (t2 : Teller) (n2 : ℕ) → slice_get programs j ≡ Some w2 → slice_get now j ≡ Some t2 → slice_get (slice_set sizes i (new_size tu.after)) j ≡ Some n2 → Holds w2 t2 n2
        each j w2 t2 n2 ew et en = by (cases_eq j i)
          where
            stayed : (j ≡ i → ⊥) → slice_get sizes j ≡ Some n2
            stayed other = sym (set_there sizes i j (new_size tu.after) other) ∙ en

            other_holds : (j ≡ i → ⊥) → (slice_get mid j ≡ Some t2) ⊎ Got (suc t.due) mid j t2 → Holds w2 t2 n2
            other_holds other (inl h) = all.each j w2 t2 n2 ew (sym (set_there tellers i j told other) ∙ h) (stayed other)
            other_holds other (inr g) = got (all.each j w2 g.u n2 ew (sym (set_there tellers i j told other) ∙ g.there) (stayed other))
              where
                got : Holds w2 g.u n2 → Holds w2 t2 n2
                got (has_told e s) = let bad : true ≡ false = sym e ∙ g.unfinished in absurd cc
                got (goes_along e none size2 ns k) = absurd (no_await g.r (sym none ∙ g.waits))
                got (waits_on e r some size2 ns cut st) =
                    subst (λ (x : Teller). Holds w2 x n2) (sym g.is) (goes_along e refl size2 ns (it_stands (st g.value)))

            by : (j ≡ i) ⊎ (j ≡ i → ⊥) → Holds w2 t2 n2
            by (inl same) =
                let e1 : w ≡ w2 = same_Some w w2 (sym program ∙ ap (slice_get programs) (sym same) ∙ ew) in
                let e2 : told ≡ t2 = same_Some told t2 (sym told_there ∙ ap (slice_get now) (sym same) ∙ et) in
                let e3 : new_size tu.after ≡ n2 = same_Some (new_size tu.after) n2 (sym (set_here sizes i (new_size tu.after) n sized) ∙ ap (slice_get (slice_set sizes i (new_size tu.after))) (sym same) ∙ en) in
                subst (λ (x : Program). Holds x t2 n2) e1 (subst (λ (x : Teller). Holds w x n2) e2 (subst (λ (x : ℕ). Holds w told x) e3 (told_holds tu.after)))
            by (inr other) = other_holds other (settle_at (suc t.due) ss mid j t2 (still_sent tellers ss i told out sent) et)

    turn_after : After programs detaches number tellers c (sum sizes)
    turn_after = record { tellers' = now; c' = c2; lines = told_lines; sizes = new_sizes; event = tells_turn turn; holds = turn_holds; less = turn_less }

  -- none is due: the first that waits stalls
  module _ (none : NoneDue (map due_of tellers)) (at : Waits tellers) where
    abbrev pub over_now : Teller
    over_now = record { due = at.t.due; has_ended = true; answers = at.t.answers; told = at.t.told; met = at.t.met; receive = at.t.receive }

    waiting : (at.t.has_ended ≡ false) × (at.t.receive ≡ Some at.r)
    waiting = over_says at.t.has_ended at.t.receive at.r at.waits

    abbrev pub program_there : (w : Program) × (slice_get programs at.i ≡ Some w)
    program_there = item programs at.i (omega (arith, slice_get_within tellers at.i at.t at.there, all.long))

    abbrev size_there : (n : ℕ) × (slice_get sizes at.i ≡ Some n)
    size_there = item sizes at.i (omega (arith, slice_get_within tellers at.i at.t at.there, all.wide))

    abbrev pub stall_lines : List Line
    stall_lines = map (line_at c.tick at.i) (ended (Stalled at.r.import) ∷ look_events (store_behind at.t.told) program_there.0.looks)

    abbrev pub stall_common : Common
    stall_common = record { devices = detached number detaches c.devices; boxes = c.boxes; tick = c.tick }

    pub stall : TellsStall programs detaches number tellers c stall_lines (slice_set tellers at.i over_now) stall_common
    stall = record {
      i = at.i;
      w = program_there.0;
      t = at.t;
      r = at.r;
      program = program_there.1;
      there = at.there;
      waits = at.waits;
      none_due = none;
      first = at.first;
      made = refl;
      after = refl;
      common = refl;
    }

    stall_size : Holds program_there.0 at.t size_there.0 → 0 < size_there.0
    stall_size (has_told e s) = let bad : true ≡ false = sym e ∙ waiting.0 in absurd cc
    stall_size (goes_along e awake size ns k) = absurd (no_await at.r (sym awake ∙ waiting.1))
    stall_size (waits_on e r some size ns cut st) = omega (arith, ns)

    stall_holds : Holds program_there.0 at.t size_there.0 → Holds program_there.0 over_now 0
    stall_holds (has_told e s) = let bad : true ≡ false = sym e ∙ waiting.0 in absurd cc
    stall_holds (goes_along e awake size ns k) = absurd (no_await at.r (sym awake ∙ waiting.1))
    stall_holds (waits_on e r some size ns cut st) =
        has_told refl (record {
          value = 0;
          small = omega arith;
          rest = [];
          more = [];
          story = to_wait (still_tells program_there.0 size (st 0).n (with_more [] (st 0).h))
              (ap (λ (o : Option Await). protocol_story program_there.0 (at.t.met ++ pending 0 o ++ [])) some
              ∙ (st 0).story []
              ∙ ap (λ (l : List Note). l ++ still_tells program_there.0 size (st 0).n (with_more [] (st 0).h)) (sym (append-nil at.t.told)))
              (ap pauses (append-nil at.t.told) ∙ cut);
          is_rest = refl;
        })

    pub stall_keeps : AllHold programs (slice_set tellers at.i over_now) stall_common (slice_set sizes at.i 0)
    stall_keeps = record {
      long = length-set tellers at.i over_now ∙ all.long;
      wide = length-set sizes at.i 0 ∙ all.wide ∙ sym (length-set tellers at.i over_now);
      each = each;
      once = all.once;
      waits = inl still_none;
    }
      where
        still_none : NoneDue (map due_of (slice_set tellers at.i over_now))
        still_none j due e = by (cases_eq j at.i)
          where
            no_due : (d : ℕ) → None ≡ Some d → ⊥
            no_due d e = cc

            by : (j ≡ at.i) ⊎ (j ≡ at.i → ⊥) → ⊥
            by (inl same) =
                let now : slice_get (map due_of (slice_set tellers at.i over_now)) j ≡ Some None =
                slice_get-map due_of (slice_set tellers at.i over_now) j
                ∙ ap (λ (k : ℕ). option_map due_of (slice_get (slice_set tellers at.i over_now) k)) same
                ∙ ap (option_map due_of) (set_here tellers at.i over_now at.t at.there) in
                no_due due (same_Some None (Some due) (sym now ∙ e))
            by (inr other) =
                none j due (
                slice_get-map due_of tellers j
                ∙ ap (option_map due_of) (sym (set_there tellers at.i j over_now other))
                ∙ sym (slice_get-map due_of (slice_set tellers at.i over_now) j) ∙ e)

        held : Holds program_there.0 at.t size_there.0
        held = all.each at.i program_there.0 at.t size_there.0 program_there.1 at.there size_there.1

        each : (j : ℕ) (w2 : Program) (t2 : Teller) (n2 : ℕ) → slice_get programs j ≡ Some w2 → slice_get (slice_set tellers at.i over_now) j ≡ Some t2 → slice_get (slice_set sizes at.i 0) j ≡ Some n2
            → Holds w2 t2 n2
        each j w2 t2 n2 ew et en = by (cases_eq j at.i)
          where
            by : (j ≡ at.i) ⊎ (j ≡ at.i → ⊥) → Holds w2 t2 n2
            by (inl same) =
                let e1 : program_there.0 ≡ w2 = same_Some program_there.0 w2 (sym program_there.1 ∙ ap (slice_get programs) (sym same) ∙ ew) in
                let e2 : over_now ≡ t2 = same_Some over_now t2 (sym (set_here tellers at.i over_now at.t at.there) ∙ ap (slice_get (slice_set tellers at.i over_now)) (sym same) ∙ et) in
                let e3 : 0 ≡ n2 = same_Some 0 n2 (sym (set_here sizes at.i 0 size_there.0 size_there.1) ∙ ap (slice_get (slice_set sizes at.i 0)) (sym same) ∙ en) in
                subst (λ (x : Program). Holds x t2 n2) e1 (subst (λ (x : Teller). Holds program_there.0 x n2) e2 (subst (λ (x : ℕ). Holds program_there.0 over_now x) e3 (stall_holds held)))
            by (inr other) =
                all.each j w2 t2 n2 ew (sym (set_there tellers at.i j over_now other) ∙ et) (sym (set_there sizes at.i j 0 other) ∙ en)

    stall_after : After programs detaches number tellers c (sum sizes)
    stall_after = record {
      tellers' = slice_set tellers at.i over_now;
      c' = stall_common;
      lines = stall_lines;
      sizes = slice_set sizes at.i 0;
      event = tells_stall stall;
      holds = stall_keeps;
      less =
          let s = sum_set sizes at.i size_there.0 0 size_there.1 in
          let l = stall_size (all.each at.i program_there.0 at.t size_there.0 program_there.1 at.there size_there.1) in omega (arith, s, l);
    }

  -- whoever is next, or all have ended
  one_event : HaveEnded tellers ⊎ After programs detaches number tellers c (sum sizes)
  one_event = by (least_due (map due_of tellers))
    where
      all_over : NoneDue (map due_of tellers) → NoneWaits tellers → HaveEnded tellers
      all_over none calm i t there = at t.has_ended t.receive refl refl
        where
          at : (b : Bool) (o : Option Await) → t.has_ended ≡ b → t.receive ≡ o → t.has_ended ≡ true
          at true o e f = e
          at false None e f =
              absurd (none i t.due (slice_get-map due_of tellers i ∙ ap (option_map due_of) there ∙ (λ k. Some (if_going (e k) (unless_waiting (f k) t.due)))))
          at false (Some r) e f = absurd (calm i t r there (λ k. if_going (e k) (f k)))

      by : NoneDue (map due_of tellers) ⊎ Least (map due_of tellers) → HaveEnded tellers ⊎ After programs detaches number tellers c (sum sizes)
      by (inl none) = at (first_waits tellers)
        where
          at : NoneWaits tellers ⊎ Waits tellers → HaveEnded tellers ⊎ After programs detaches number tellers c (sum sizes)
          at (inl calm) = inl (all_over none calm)
          at (inr w) = inr (stall_after none w)
      by (inr l) = inr (take l.0 l.1 l.2)
        where
          within_dues : (i due : ℕ) → IsLeast (map due_of tellers) i due → i < length tellers
          within_dues i due next = let h = slice_get_within (map due_of tellers) i (Some due) next.there in let e = length-map tellers due_of in omega (arith, h, e)

          take : (i due : ℕ) → IsLeast (map due_of tellers) i due → After programs detaches number tellers c (sum sizes)
          take i due next = at (item tellers i (within_dues i due next))
            where
              at : (t : Teller) × (slice_get tellers i ≡ Some t) → After programs detaches number tellers c (sum sizes)
              at t = go (item programs i (omega (arith, within_dues i due next, all.long))) (item sizes i (omega (arith, within_dues i due next, all.wide)))
                where
                  is : (t.0.has_ended ≡ false) × (t.0.receive ≡ None) × (due ≡ t.0.due)
                  is = due_is t.0.has_ended t.0.receive t.0.due due
                      (same_Some (due_of t.0) (Some due) (sym (slice_get-map due_of tellers i ∙ ap (option_map due_of) t.1) ∙ next.there))

                  next_is : IsLeast (map due_of tellers) i t.0.due
                  next_is = subst (λ (d : ℕ). IsLeast (map due_of tellers) i d) is.2 next

                  go : (w : Program) × (slice_get programs i ≡ Some w) → (n : ℕ) × (slice_get sizes i ≡ Some n) → After programs detaches number tellers c (sum sizes)
                  go w n = by_held (all.each i w.0 t.0 n.0 w.1 t.1 n.1)
                    where
                      by_held : Holds w.0 t.0 n.0 → After programs detaches number tellers c (sum sizes)
                      by_held (has_told e s) = let bad : true ≡ false = sym e ∙ is.0 in absurd cc
                      by_held (waits_on e r some size ns cut st) = absurd (no_await r (sym is.1 ∙ some))
                      by_held (goes_along e none size ns k) =
                          turn_after i w.0 t.0 n.0 w.1 t.1 n.1 is.0 is.1 next_is size ns
                          (turn_from w.0 i t.0 tellers (begun_amid number detaches c) size refl (posted i due next) k)

-- ---- all events

pub record Whole (begun : ℕ) (programs : List Program) (detaches : List Detach) (boxes : List (List ℕ)) (ds : List Device) (before : List Line) (first : List Teller) : Type 0 where
  pub count : ℕ
  pub more : List Line
  pub tellers : List Teller
  pub c : Common
  pub sizes : List ℕ
  pub tells : Tells begun programs detaches boxes ds count (before ++ more) tellers c
  pub holds : AllHold programs tellers c sizes
  pub over : HaveEnded tellers
  pub grown : Grown first tellers

module _ (begun : ℕ) (programs : List Program) (detaches : List Detach) (boxes : List (List ℕ)) (ds : List Device) where
  done : (count : ℕ) (lines : List Line) (tellers : List Teller) (c : Common) (sizes : List ℕ) → Tells begun programs detaches boxes ds count lines tellers c
      → AllHold programs tellers c sizes → HaveEnded tellers → Whole begun programs detaches boxes ds lines tellers
  done count lines tellers c sizes tells holds all_over = record {
    count = count;
    more = [];
    tellers = tellers;
    c = c;
    sizes = sizes;
    tells = subst (λ (l : List Line). Tells begun programs detaches boxes ds count l tellers c) (sym (append-nil lines)) tells;
    holds = holds;
    over = all_over;
    grown = grown_same tellers;
  }

  behind : (lines more : List Line) (first mid : List Teller) → Grown first mid → Whole begun programs detaches boxes ds (lines ++ more) mid → Whole begun programs detaches boxes ds lines first
  behind lines more first mid grown h = record {
    count = h.count;
    more = more ++ h.more;
    tellers = h.tellers;
    c = h.c;
    sizes = h.sizes;
    tells = subst (λ (l : List Line). Tells begun programs detaches boxes ds h.count l h.tellers h.c) (append_assoc lines more h.more) h.tells;
    holds = h.holds;
    over = h.over;
    grown = grown_on first mid h.tellers grown h.grown;
  }

  -- from wherever it stands a world that is told comes to an end
  pub on_and_on : (fuel count : ℕ) (lines : List Line) (tellers : List Teller) (c : Common) (sizes : List ℕ) → sum sizes ≤ fuel → Tells begun programs detaches boxes ds count lines tellers c
      → AllHold programs tellers c sizes → Whole begun programs detaches boxes ds lines tellers
  on_and_on zero count lines tellers c sizes le tells holds = by (one_event programs detaches (suc (begun + count)) tellers c sizes holds)
    where
      by : HaveEnded tellers ⊎ After programs detaches (suc (begun + count)) tellers c (sum sizes) → Whole begun programs detaches boxes ds lines tellers
      by (inl z) = done count lines tellers c sizes tells holds z
      by (inr a) = let never : ⊥ = omega (arith, le, a.less) in absurd never
  on_and_on (suc fuel) count lines tellers c sizes le tells holds =
      by (λ count lines tellers c sizes le tells holds. on_and_on fuel count lines tellers c sizes le tells holds) (one_event programs detaches (suc (begun + count)) tellers c sizes holds)
    where
      by : ((count : ℕ) (lines : List Line) (tellers : List Teller) (c : Common) (sizes : List ℕ) → sum sizes ≤ fuel → Tells begun programs detaches boxes ds count lines tellers c
          → AllHold programs tellers c sizes → Whole begun programs detaches boxes ds lines tellers)
          → HaveEnded tellers ⊎ After programs detaches (suc (begun + count)) tellers c (sum sizes) → Whole begun programs detaches boxes ds lines tellers
      by on (inl z) = done count lines tellers c sizes tells holds z
      by on (inr a) =
          behind lines a.lines tellers a.tellers' (event_grows programs detaches (suc (begun + count)) tellers c a.lines a.tellers' a.c' a.event)
          (on (suc count) (lines ++ a.lines) a.tellers' a.c' a.sizes (omega (arith, le, a.less)) (lines, a.lines, tellers, c, tells, a.event, refl) a.holds)

-- ---- from where programs begin

start_held : (w : Program) → Holds w (teller_at w) (start_size w)
start_held w = by (begins_over w) refl
  where
    by : (b : Bool) → begins_over w ≡ b → Holds w (teller_at w) (start_size w)
    by true e = has_told e (record {
      value = 0;
      small = omega arith;
      rest = [];
      more = [];
      story = to_end (sym (over_tells w e []));
      is_rest = subst (λ (y : Bool). IsRest y None []) (sym e) refl;
    })
    by false e = goes_along e refl (steps_from w.steps w.origin) refl (start_knows w e)

pub start_holds : (programs : List Program) (boxes : List (List ℕ)) (ds : List Device) → AllHold programs (map teller_at programs) (told_opening boxes ds) (map start_size programs)
start_holds programs boxes ds = record {
  long = length-map programs teller_at;
  wide = length-map programs start_size ∙ sym (length-map programs teller_at);
  each = each;
  once = λ j. let z = nobody j boxes in omega (arith, z);
  waits = inr (λ j some. let z = nobody j boxes in let never : ⊥ = omega (arith, z, some) in absurd never);
}
  where
    nobody : (j : ℕ) (names : List (List ℕ)) → times_waiting j (map no_mail names) ≡ 0
    nobody j [] = refl
    nobody j (n ∷ names) = let on = nobody j names in omega (arith, on)

    each : (i : ℕ) (w : Program) (t : Teller) (n : ℕ) → slice_get programs i ≡ Some w → slice_get (map teller_at programs) i ≡ Some t → slice_get (map start_size programs) i ≡ Some n → Holds w t n
    each i w t n ew et en =
        let e1 : teller_at w ≡ t = same_Some (teller_at w) t (sym (map_at teller_at programs i w ew) ∙ et) in
        let e2 : start_size w ≡ n = same_Some (start_size w) n (sym (map_at start_size programs i w ew) ∙ en) in
        subst (λ (k : ℕ). Holds w t k) e2 (subst (λ (x : Teller). Holds w x (start_size w)) e1 (start_held w))

pub all_stories : (programs : List Program) (tellers : List Teller) (c : Common) (sizes : List ℕ) → AllHold programs tellers c sizes → HaveEnded tellers → AllZip HasStory programs tellers
all_stories programs tellers c sizes holds all_over = zipped HasStory programs tellers holds.long each
  where
    each : (i : ℕ) (w : Program) (t : Teller) → slice_get programs i ≡ Some w → slice_get tellers i ≡ Some t → HasStory w t
    each i w t ew et = at (item sizes i (omega (arith, slice_get_within tellers i t et, holds.wide)))
      where
        at : (n : ℕ) × (slice_get sizes i ≡ Some n) → HasStory w t
        at n = by (holds.each i w t n.0 ew et n.1)
          where
            by : Holds w t n.0 → HasStory w t
            by (has_told e s) = s
            by (goes_along e none size ns k) = let bad : false ≡ true = sym e ∙ all_over i t et in absurd cc
            by (waits_on e r some size ns cut st) = let bad : false ≡ true = sym e ∙ all_over i t et in absurd cc

-- Told up to whatever event, a world goes on to an end, where each program stands somewhere.
pub told_from : (begun : ℕ) (programs : List Program) (detaches : List Detach) (boxes : List (List ℕ)) (ds : List Device) (count : ℕ) (lines : List Line) (tellers : List Teller) (c : Common) (sizes : List ℕ)
    → Tells begun programs detaches boxes ds count lines tellers c → AllHold programs tellers c sizes
    → (more : List Line) × (last : List Device) × ProtocolWorldFrom begun programs detaches boxes ds (lines ++ more) last
told_from begun programs detaches boxes ds count lines tellers c sizes tells holds =
    let h = on_and_on begun programs detaches boxes ds (sum sizes) count lines tellers c sizes (omega arith) tells holds in (
      h.more,
      h.c.devices,
      (all_told_is_world begun programs detaches boxes ds h.count (lines ++ h.more) h.tellers h.c h.tells (all_stories programs h.tellers h.c h.sizes h.holds h.over) h.over).0,
    )

pub each_world_ends : EachWorldEnds
each_world_ends begun programs detaches boxes ds =
    told_from begun programs detaches boxes ds 0 [] (map teller_at programs) (told_opening boxes ds) (map start_size programs) (refl, refl, refl) (start_holds programs boxes ds)
