-- What is known of mailboxes stays so behind a turn, and where a program that waits ends.
use Rattle.std.proofs.Common.{arith, ◌≡◌, ◌<◌, ◌≤◌, ◌+◌, ◌⊎◌, inl, inr, ℕ, List, [], ◌∷◌, ◌++◌, map, Option, Some, None, Bool, true, false, if◌then◌else◌, nat_eq, All, slice_get, slice_set, refl, sym, ap, ◌∙◌}
use Rattle.std.specs.Option.{unwrap_or}
use Rattle.std.proofs.lemmas.Bool.{cases_eq, cases_lt, eqb-true}
use Rattle.std.proofs.lemmas.List.{set_comm}
use Rattle.std.proofs.lemmas.List.Elements.{All-append, All-cons, All-nil}
use Rattle.std.proofs.lemmas.Option.{same_Some}
use Rattle.wa_model.specs.Outside.{Event, called, answered, paused, parked, returned, ended, shown}
use Rattle.world_model.specs.World.{ends_turn, is_end}
use Rattle.world_laws.proofs.Places.{map_at, of_map, set_here, set_there}
use Rattle.mailbox_device.specs.declared.mailbox.Settled.{Settled}
use Rattle.mailbox_device.specs.Mail.{Box, IsServed, Mail, awaited, names_of, waits_at_all}
use Rattle.mail_laws.specs.MailWorld.{is_pause, pauses}
use Rattle.mail_laws.specs.Told.{Amid, AreSent, Await, NoneDue, NotAmong, Teller, due_of, having_got, if_going, no_teller, parked_in, settle_all, waiting_in, waits_at}
use Rattle.mail_laws.proofs.CallsTold.{not_among, one_where, times, times_settled, times_waiting}
use Rattle.mail_laws.proofs.Grown.{settle_out}
use Rattle.mail_laws.proofs.GoingOn.{Got, over_says, settle_at}
use Rattle.mail_laws.proofs.Promises.{not_sent, still_sent}
use Rattle.many_host.specs.MailStanding.{MailStands, SomeDue}
use Rattle.many_host.specs.MailTurns.{AllWaitThere, MailStandsAmid, WaitsThere}
use Rattle.many_host.proofs.MailBoxes.{changed_all, changed_names, changed_times, found_all, found_name, moved, never_other, once_itself, sent_is, times_on, waiter, waits_is}
use Rattle.many_host.proofs.MailKept.{at_once}

-- ---- who is sent a value

-- some behind others
pub settle_on : (due : ℕ) (xs ys : List Settled) (tellers : List Teller) → settle_all due (xs ++ ys) tellers ≡ settle_all due ys (settle_all due xs tellers)
settle_on due [] ys tellers = refl
settle_on due (x ∷ xs) ys tellers = settle_on due xs ys (slice_set tellers x.program (having_got due x.value (unwrap_or (slice_get tellers x.program) no_teller)))

-- a program that is sent nothing may be told otherwise before or behind
pub settle_past : (due : ℕ) (ss : List Settled) (tellers : List Teller) (i : ℕ) (t : Teller) → NotAmong i ss
    → slice_set (settle_all due ss tellers) i t ≡ settle_all due ss (slice_set tellers i t)
settle_past due [] tellers i t out = refl
settle_past due (s ∷ ss) tellers i t out =
    settle_past due ss (slice_set tellers s.program got) i t out.1
    ∙ ap (settle_all due ss) (set_comm tellers s.program i got t (λ e. out.0 (sym e)))
    ∙ ap (λ (o : Option Teller). settle_all due ss (slice_set (slice_set tellers i t) s.program (having_got due s.value (unwrap_or o no_teller))))
    (sym (set_there tellers i s.program t (λ e. out.0 (sym e))))
  where
    got : Teller
    got = having_got due s.value (unwrap_or (slice_get tellers s.program) no_teller)

-- who is sent a value waits no more
pub got_none : (due : ℕ) (ss : List Settled) (tellers : List Teller) (j : ℕ) (t : Teller) → AreSent tellers ss → 0 < times_settled j ss → slice_get (settle_all due ss tellers) j ≡ Some t
    → t.receive ≡ None
got_none due [] tellers j t sent h e = absurd (omega (arith, h))
got_none due (s ∷ ss) tellers j t sent h e =
    by (nat_eq j s.program) refl h (λ more. got_none due ss (slice_set tellers s.program got) j t (still_sent tellers ss s.program got sent.2 sent.3) more e)
  where
    got : Teller
    got = having_got due s.value (unwrap_or (slice_get tellers s.program) no_teller)

    by : (y : Bool) → nat_eq j s.program ≡ y → 0 < one_where y + times_settled j ss → (0 < times_settled j ss → t.receive ≡ None) → t.receive ≡ None
    by true q h on =
        let same : j ≡ s.program = eqb-true j s.program q in
        let here : slice_get (settle_all due ss (slice_set tellers s.program got)) s.program ≡ Some got =
        settle_out due ss (slice_set tellers s.program got) s.program sent.2 ∙ set_here tellers s.program got sent.0.t sent.0.there in
        let is : t ≡ got = same_Some t got (sym e ∙ ap (slice_get (settle_all due ss (slice_set tellers s.program got))) same ∙ here) in
        ap (λ (x : Teller). x.receive) is
    by false q h on = on (omega (arith, h))

-- ---- a turn that parks

abbrev pub park_by : Event → Option Await → Option Await
park_by e o = if is_pause e then o else None

park_some : (e : Event) (o : Option Await) (r : Await) → park_by e o ≡ Some r → (is_pause e ≡ true) × (is_end e ≡ false) × (o ≡ Some r)
park_some (paused ticks used) o r h = (refl, refl, h)
park_some (called c) o r h = absurd (let no : None ≡ Some r = h in cc)
park_some (answered v) o r h = absurd (let no : None ≡ Some r = h in cc)
park_some (parked u) o r h = absurd (let no : None ≡ Some r = h in cc)
park_some (returned i v) o r h = absurd (let no : None ≡ Some r = h in cc)
park_some (ended how) o r h = absurd (let no : None ≡ Some r = h in cc)
park_some (shown i v) o r h = absurd (let no : None ≡ Some r = h in cc)

park_none : (e : Event) (o : Option Await) (r : Await) → is_pause e ≡ true → park_by e o ≡ None → o ≡ Some r → ⊥
park_none e o r p h w = let no : None ≡ Some r = sym h ∙ (λ k. if p k then o else None) ∙ w in cc

-- what ends a turn and no program is a pause
pause_by : (e : Event) (o : Option Await) (r : Await) → ends_turn e ≡ true → if_going (is_end e) o ≡ Some r → is_pause e ≡ true
pause_by (paused ticks used) o r q w = refl
pause_by (called c) o r q w = absurd cc
pause_by (answered v) o r q w = absurd cc
pause_by (parked u) o r q w = absurd cc
pause_by (returned i v) o r q w = absurd cc
pause_by (ended how) o r q w = absurd (let no : None ≡ Some r = w in cc)
pause_by (shown i v) o r q w = absurd cc

-- the program of a turn waited nowhere
pub nowhere : (names : List (List ℕ)) (mid : List Teller) (i : ℕ) (t0 : Teller) → slice_get mid i ≡ Some t0 → t0.receive ≡ None → (now : Amid) → MailStandsAmid names mid now
    → times_waiting i now.boxes ≡ 0
nowhere names mid i t0 there awake now s = by (cases_lt 0 (times_waiting i now.boxes))
  where
    by : (0 < times_waiting i now.boxes) ⊎ (times_waiting i now.boxes ≤ 0) → times_waiting i now.boxes ≡ 0
    by (inr none) = omega (arith, none)
    by (inl some) =
        let x = waiter mid i now.boxes s.waiting some in
        let same : t0 ≡ x.there.t = same_Some t0 x.there.t (sym there ∙ x.there.there) in
        absurd (let no : None ≡ Some x.there.r = sym awake ∙ ap (λ (t : Teller). t.receive) same ∙ x.there.receive in cc)

module _ (names : List (List ℕ)) (mid : List Teller) (i : ℕ) (t0 : Teller) (there : slice_get mid i ≡ Some t0) (awake : t0.receive ≡ None)
    (now : Amid) (s : MailStandsAmid names mid now) (sent : AreSent mid now.settled) (due : ℕ) (next : Teller) (e : Event) (ends : ends_turn e ≡ true)
    (receive_is : next.receive ≡ now.receive) (ended_is : next.has_ended ≡ is_end e) (paused_is : pauses next.told ≡ is_pause e) where
  abbrev base : List Teller
  base = slice_set mid i next

  abbrev behind : List Teller
  behind = settle_all due now.settled base

  i_not_sent : NotAmong i now.settled
  i_not_sent = not_sent mid now.settled i t0 there awake sent

  base_sent : AreSent base now.settled
  base_sent = still_sent mid now.settled i next i_not_sent sent

  next_there : slice_get behind i ≡ Some next
  next_there = settle_out due now.settled base i i_not_sent ∙ set_here mid i next t0 there

  no_place : times_waiting i now.boxes ≡ 0
  no_place = nowhere names mid i t0 there awake now s

  other_waits : (j : ℕ) → 0 < times_waiting j now.boxes → j ≡ i → ⊥
  other_waits j some same = let n = no_place in let e = ap (λ (k : ℕ). times_waiting k now.boxes) same in omega (arith, n, e, some)

  -- who waits at a mailbox is told as it was
  stays_there : (j : ℕ) → 0 < times_waiting j now.boxes → slice_get behind j ≡ slice_get mid j
  stays_there j some =
      settle_out due now.settled base j (not_among j now.settled (let h = at_once names mid now s j in omega (arith, h, some)))
      ∙ set_there mid i j next (other_waits j some)

  still_there : AllWaitThere behind now.boxes
  still_there =
      moved mid behind now.boxes
      (λ j name some w. record { t = w.t; r = w.r; there = stays_there j some ∙ w.there; receive = w.receive; box = w.box; paused = w.paused })
      s.waiting

  live_still : (j : ℕ) (t : Teller) → slice_get behind j ≡ Some t → 0 < times_waiting j now.boxes → t.has_ended ≡ false
  live_still j t et some = let w = waits_is j now.boxes in s.live j t (sym (stays_there j some) ∙ et) (omega (arith, w, some))

  -- The mailboxes behind it, at which the program waits where it parks.
  record Joined (boxes : List Box) (r : Option Await) : Type 0 where
    names_are : names_of boxes ≡ names
    served : All IsServed boxes
    waiting : AllWaitThere behind boxes
    others : (j : ℕ) → (j ≡ i → ⊥) → times_waiting j boxes ≡ times_waiting j now.boxes
    once : times_waiting i boxes ≤ 1
    each : (r : Await) → next.receive ≡ Some r → is_pause e ≡ true → times_waiting i boxes ≡ 1
    live : 0 < times_waiting i boxes → next.has_ended ≡ false

  joined : (p : Option Await) → park_by e now.receive ≡ p → Joined (parked_in i p now.boxes) p
  joined None is = record {
    names_are = s.names_are;
    served = s.served;
    waiting = still_there;
    others = λ j other. refl;
    once = let n = no_place in omega (arith, n);
    each = λ r h p. absurd (park_none e now.receive r p is (sym receive_is ∙ h));
    live = λ some. let n = no_place in let never : ⊥ = omega (arith, n, some) in absurd never;
  }
  joined (Some r) is =
      let k = park_some e now.receive r is in
      let box = s.empty r k.2 in
      let come : (j : ℕ) → times_waiting j (waiting_in i r.box now.boxes) + 0 ≡ times_waiting j now.boxes + times j (i ∷ []) =
      λ j. changed_times (awaited i) r.box j 0 (times j (i ∷ [])) now.boxes box.0 box.1 (let o = times_on j box.0.waits (i ∷ []) in omega (arith, o)) in
      record {
        names_are = changed_names (awaited i) r.box (λ b. refl) now.boxes ∙ s.names_are;
        served = changed_all (awaited i) r.box IsServed now.boxes box.0 box.1 s.served (λ some. box.2);
        waiting = changed_all (awaited i) r.box (λ (b : Box). All (WaitsThere behind b.name) b.waits) now.boxes box.0 box.1 still_there
            (All-append (WaitsThere behind box.0.name) box.0.waits (i ∷ [])
            (found_all (λ (b : Box). All (WaitsThere behind b.name) b.waits) r.box now.boxes box.0 box.1 still_there)
            (All-cons (WaitsThere behind box.0.name) i [] (record {
              t = next;
              r = r;
              there = next_there;
              receive = receive_is ∙ k.2;
              box = sym (found_name r.box now.boxes box.0 box.1);
              paused = paused_is ∙ k.0;
            }) (All-nil (WaitsThere behind box.0.name))));
        others = λ j other. let c = come j in let n = never_other j i other in omega (arith, c, n);
        once = let c = come i in let o = once_itself i in let n = no_place in omega (arith, c, o, n);
        each = λ q h p. let c = come i in let o = once_itself i in let n = no_place in omega (arith, c, o, n);
        live = λ some. ended_is ∙ k.1;
      }

  pub ends_stand : MailStands names behind (record { boxes = parked_in i (park_by e now.receive) now.boxes; settled = [] })
  ends_stand = record {
    names_are = x.names_are;
    unsettled = refl;
    waiting = x.waiting;
    once = record { served = x.served; once = once };
    each = each;
    stalled = stalled;
    live = λ due. live;
  }
    where
      boxes : List Box
      boxes = parked_in i (park_by e now.receive) now.boxes

      x : Joined boxes (park_by e now.receive)
      x = joined (park_by e now.receive) refl

      once : (j : ℕ) → waits_at_all j boxes ≤ 1
      once j = let w = waits_is j boxes in by w (cases_eq j i)
        where
          by : waits_at_all j boxes ≡ times_waiting j boxes → (j ≡ i) ⊎ (j ≡ i → ⊥) → waits_at_all j boxes ≤ 1
          by w (inl same) = let o = x.once in let e = ap (λ (k : ℕ). times_waiting k boxes) same in omega (arith, w, o, e)
          by w (inr other) = let o = x.others j other in let h = at_once names mid now s j in omega (arith, w, o, h)

      live : (j : ℕ) (t : Teller) → slice_get behind j ≡ Some t → 0 < waits_at_all j boxes → t.has_ended ≡ false
      live j t et some = let w = waits_is j boxes in by w (cases_eq j i)
        where
          by : waits_at_all j boxes ≡ times_waiting j boxes → (j ≡ i) ⊎ (j ≡ i → ⊥) → t.has_ended ≡ false
          by w (inl same) =
              let e = ap (λ (k : ℕ). times_waiting k boxes) same in
              let is : t ≡ next = same_Some t next (sym et ∙ ap (slice_get behind) same ∙ next_there) in
              ap (λ (y : Teller). y.has_ended) is ∙ x.live (omega (arith, w, e, some))
          by w (inr other) = let o = x.others j other in live_still j t et (omega (arith, w, o, some))

      some_receive : (t : Teller) (r : Await) → t.receive ≡ Some r → t.receive ≡ None → ⊥
      some_receive t r some none = let no : None ≡ Some r = sym none ∙ some in cc

      is_next : (j : ℕ) (t : Teller) → slice_get behind j ≡ Some t → j ≡ i → t ≡ next
      is_next j t et same = same_Some t next (sym et ∙ ap (slice_get behind) same ∙ next_there)

      stalled : (j : ℕ) (t : Teller) (r : Await) → slice_get behind j ≡ Some t → t.receive ≡ Some r → pauses t.told ≡ true → waits_at_all j boxes ≡ 1
      stalled j t r et some last = let w = waits_is j boxes in by w (settle_at due now.settled base j t base_sent et)
        where
          there_still : waits_at_all j boxes ≡ times_waiting j boxes → slice_get base j ≡ Some t → (j ≡ i) ⊎ (j ≡ i → ⊥) → waits_at_all j boxes ≡ 1
          there_still w q (inl same) =
              let e = ap (λ (k : ℕ). times_waiting k boxes) same in
              let is = is_next j t et same in
              let o = x.each r (ap (λ (y : Teller). y.receive) (sym is) ∙ some) (sym paused_is ∙ ap (λ (y : Teller). pauses y.told) (sym is) ∙ last) in
              omega (arith, w, e, o)
          there_still w q (inr other) = by_sent (cases_lt 0 (times_settled j now.settled))
            where
              by_sent : (0 < times_settled j now.settled) ⊎ (times_settled j now.settled ≤ 0) → waits_at_all j boxes ≡ 1
              by_sent (inl got) = absurd (some_receive t r some (got_none due now.settled base j t base_sent got et))
              by_sent (inr none) =
                  let a = s.each j t r (sym (set_there mid i j next other) ∙ q) some last in
                  let v = waits_is j now.boxes in
                  let u = sent_is j now.settled in
                  let o = x.others j other in
                  omega (arith, w, a, v, u, o, none)

          by : waits_at_all j boxes ≡ times_waiting j boxes → (slice_get base j ≡ Some t) ⊎ Got due base j t → waits_at_all j boxes ≡ 1
          by w (inr g) = absurd (some_receive t r some (ap (λ (y : Teller). y.receive) g.is))
          by w (inl q) = there_still w q (cases_eq j i)

      -- who waits has told a pause last
      has_paused : (j : ℕ) (t : Teller) (r : Await) → slice_get behind j ≡ Some t → waits_at t ≡ Some r → pauses t.told ≡ true
      has_paused j t r et h = by (settle_at due now.settled base j t base_sent et) (cases_eq j i)
        where
          by : (slice_get base j ≡ Some t) ⊎ Got due base j t → (j ≡ i) ⊎ (j ≡ i → ⊥) → pauses t.told ≡ true
          by (inr g) c = absurd (some_receive t r (over_says t.has_ended t.receive r h).1 (ap (λ (y : Teller). y.receive) g.is))
          by (inl q) (inr other) = s.paused j t r (sym (set_there mid i j next other) ∙ q) h
          by (inl q) (inl same) =
              let is = is_next j t et same in
              ap (λ (y : Teller). pauses y.told) is ∙ paused_is ∙ pause_by e now.receive r ends ((λ k. if_going (sym ended_is k) (sym receive_is k)) ∙ ap waits_at (sym is) ∙ h)

      each : (j : ℕ) (t : Teller) (r : Await) → slice_get behind j ≡ Some t → waits_at t ≡ Some r → waits_at_all j boxes ≡ 1
      each j t r et h = stalled j t r et (over_says t.has_ended t.receive r h).1 (has_paused j t r et h)

-- ---- where none is due

module _ (names : List (List ℕ)) (tellers : List Teller) (mail : Mail) (s : MailStands names tellers mail) (i : ℕ) (t : Teller) (there : slice_get tellers i ≡ Some t)
    (none_due : NoneDue (map due_of tellers)) where
  abbrev stalled : Teller
  stalled = record t { has_ended = true }

  abbrev rest : List Teller
  rest = slice_set tellers i stalled

  never_due : (d : ℕ) → due_of stalled ≡ Some d → ⊥
  never_due d h = let no : None ≡ Some d = h in cc

  pub stall_stands : MailStands names rest mail
  stall_stands = record {
    names_are = s.names_are;
    unsettled = s.unsettled;
    waiting = moved tellers rest mail.boxes (λ j name some w. waits j name w (cases_eq j i)) s.waiting;
    once = s.once;
    each = λ j u r eu h. each j u r eu h (cases_eq j i);
    stalled = λ j u r eu some last. behind j u r eu some last (cases_eq j i);
    live = λ due. absurd (never due);
  }
    where
      waits : (j : ℕ) (name : List ℕ) → WaitsThere tellers name j → (j ≡ i) ⊎ (j ≡ i → ⊥) → WaitsThere rest name j
      waits j name w (inr other) = record { t = w.t; r = w.r; there = set_there tellers i j stalled other ∙ w.there; receive = w.receive; box = w.box; paused = w.paused }
      waits j name w (inl same) =
          let is : t ≡ w.t = same_Some t w.t (sym there ∙ ap (slice_get tellers) (sym same) ∙ w.there) in
          record {
            t = stalled;
            r = w.r;
            there = ap (slice_get rest) same ∙ set_here tellers i stalled t there;
            receive = ap (λ (x : Teller). x.receive) is ∙ w.receive;
            box = w.box;
            paused = ap (λ (x : Teller). pauses x.told) is ∙ w.paused;
          }

      each : (j : ℕ) (u : Teller) (r : Await) → slice_get rest j ≡ Some u → waits_at u ≡ Some r → (j ≡ i) ⊎ (j ≡ i → ⊥) → waits_at_all j mail.boxes ≡ 1
      each j u r eu h (inr other) = s.each j u r (sym (set_there tellers i j stalled other) ∙ eu) h
      each j u r eu h (inl same) =
          let is : u ≡ stalled = same_Some u stalled (sym eu ∙ ap (slice_get rest) same ∙ set_here tellers i stalled t there) in
          absurd (let no : None ≡ Some r = ap waits_at (sym is) ∙ h in cc)

      behind : (j : ℕ) (u : Teller) (r : Await) → slice_get rest j ≡ Some u → u.receive ≡ Some r → pauses u.told ≡ true → (j ≡ i) ⊎ (j ≡ i → ⊥) → waits_at_all j mail.boxes ≡ 1
      behind j u r eu some last (inr other) = s.stalled j u r (sym (set_there tellers i j stalled other) ∙ eu) some last
      behind j u r eu some last (inl same) =
          let is : u ≡ stalled = same_Some u stalled (sym eu ∙ ap (slice_get rest) same ∙ set_here tellers i stalled t there) in
          s.stalled j t r (ap (slice_get tellers) same ∙ there) (ap (λ (y : Teller). y.receive) (sym is) ∙ some) (ap (λ (y : Teller). pauses y.told) (sym is) ∙ last)

      never : SomeDue rest → ⊥
      never due = by (of_map due_of rest due.0 (Some due.1) due.2) (cases_eq due.0 i)
        where
          by : (u : Teller) × (slice_get rest due.0 ≡ Some u) × (due_of u ≡ Some due.1) → (due.0 ≡ i) ⊎ (due.0 ≡ i → ⊥) → ⊥
          by u (inr other) = none_due due.0 due.1 (map_at due_of tellers due.0 u.0 (sym (set_there tellers i due.0 stalled other) ∙ u.1) ∙ ap (λ (o : Option ℕ). Some o) u.2)
          by u (inl same) =
              let is : u.0 ≡ stalled = same_Some u.0 stalled (sym u.1 ∙ ap (slice_get rest) same ∙ set_here tellers i stalled t there) in
              never_due due.1 (ap due_of (sym is) ∙ u.2)
