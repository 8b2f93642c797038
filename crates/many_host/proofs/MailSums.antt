-- How many events and lines are told where there are mailboxes: as many as the programs' notes make, and one end more of each that stalls.
use Rattle.std.proofs.Common.{arith, ◌≡◌, ◌≤◌, ◌+◌, ℕ, zero, suc, List, [], ◌∷◌, ◌++◌, length, length-append, map, Option, Some, None, Bool, true, false, ◌||◌, slice_get, slice_set, refl, sym, ap, ◌∙◌}
use Rattle.std.specs.Prelude.{MatchBool}
use Rattle.std.specs.Option.{unwrap_or}
use Rattle.std.proofs.lemmas.List.{length-map}
use Rattle.wa_model.specs.declared.answers.Detach.{Detach}
use Rattle.wa_model.specs.Outside.{Event, Line, called, answered, paused, parked, returned, ended, shown}
use Rattle.wa_model.specs.Blocking.{Note, events_of}
use Rattle.world_model.specs.World.{Device, Program, ends_turn, events_with_looks, is_end, line_at, look_events}
use Rattle.world_laws.proofs.StoryTurns.{one_if, turns_in}
use Rattle.mailbox_device.specs.declared.mailbox.Settled.{Settled}
use Rattle.mail_laws.specs.MailWorld.{is_pause, parks, store_behind, told_pause}
use Rattle.mail_laws.specs.Told.{Amid, AreSent, Common, EndsOnce, Teller, Tells, TellsEvent, ends_program, having_got, having_told, no_teller, settle_all, tells_stall, tells_turn}
use Rattle.mail_laws.proofs.GoingOn.{over_says}
use Rattle.mail_laws.proofs.Promises.{not_sent, still_sent}
use Rattle.many_host.specs.MailTurns.{TellsOnFrom}
use Rattle.many_host.proofs.MailNotes.{awake_there, live_there}
use Rattle.many_host.proofs.StoryLines.{lines_in, lines_made, lines_many, lines_on}

-- ---- a sum over programs

abbrev pub sum_all : (Program → ℕ) → List Program → ℕ
sum_all f [] = 0
sum_all f (w ∷ ws) = f w + sum_all f ws

module _ (f : Program → Teller → ℕ) where
  abbrev pub sum_of : List Program → List Teller → ℕ
  sum_of [] ts = 0
  sum_of (w ∷ ws) [] = 0
  sum_of (w ∷ ws) (t ∷ ts) = f w t + sum_of ws ts

  pub set_sum : (ws : List Program) (ts : List Teller) (i : ℕ) (w : Program) (t t' : Teller) → slice_get ws i ≡ Some w → slice_get ts i ≡ Some t
      → sum_of ws (slice_set ts i t') + f w t ≡ sum_of ws ts + f w t'
  set_sum [] ts i w t t' ew et = cc
  set_sum (v ∷ ws) [] i w t t' ew et = cc
  set_sum (v ∷ ws) (u ∷ ts) zero w t t' ew et =
      let same : v ≡ w = cc in
      let told : u ≡ t = cc in
      let new = ap (λ (z : Program). f z t') same in
      let before : f v u ≡ f w t = ap (λ (z : Program). f z u) same ∙ ap (f w) told in
      omega (arith, before, new)
  set_sum (v ∷ ws) (u ∷ ts) (suc i) w t t' ew et = let rest = set_sum ws ts i w t t' ew et in omega (arith, rest)

  same_sum : (ws : List Program) (ts : List Teller) (i : ℕ) (t t' : Teller) → slice_get ts i ≡ Some t → ((w : Program) → f w t' ≡ f w t) → sum_of ws (slice_set ts i t') ≡ sum_of ws ts
  same_sum [] ts i t t' et same = refl
  same_sum (w ∷ ws) [] i t t' et same = refl
  same_sum (w ∷ ws) (u ∷ ts) zero t t' et same =
      let told : u ≡ t = cc in
      ap (λ (n : ℕ). n + sum_of ws ts) (same w ∙ ap (f w) (sym told))
  same_sum (w ∷ ws) (u ∷ ts) (suc i) t t' et same = ap (λ (n : ℕ). f w u + n) (same_sum ws ts i t t' et same)

  -- a value that a program gets changes nothing
  pub settle_sum : ((w : Program) (t : Teller) (due value : ℕ) → f w (having_got due value t) ≡ f w t) → (ws : List Program) (due : ℕ) (ss : List Settled) (ts : List Teller) → AreSent ts ss
      → sum_of ws (settle_all due ss ts) ≡ sum_of ws ts
  settle_sum same ws due [] ts sent = refl
  settle_sum same ws due (s ∷ ss) ts sent =
      settle_sum same ws due ss (slice_set ts s.program got) (still_sent ts ss s.program got sent.2 sent.3)
      ∙ same_sum ws ts s.program sent.0.t got sent.0.there
      (λ w. ap (λ (o : Option Teller). f w (having_got due s.value (unwrap_or o no_teller))) sent.0.there ∙ same w sent.0.t due s.value)
    where
      got : Teller
      got = having_got due s.value (unwrap_or (slice_get ts s.program) no_teller)

  pub few_sum : (most : Program → ℕ) (ws : List Program) (ts : List Teller) → ((i : ℕ) (w : Program) (t : Teller) → slice_get ws i ≡ Some w → slice_get ts i ≡ Some t → f w t ≤ most w)
      → sum_of ws ts ≤ sum_all most ws
  few_sum most [] ts each = omega arith
  few_sum most (w ∷ ws) [] each = omega arith
  few_sum most (w ∷ ws) (t ∷ ts) each =
      let first = each 0 w t refl refl in
      let rest = few_sum most ws ts (λ i. each (suc i)) in
      omega (arith, first, rest)

-- ---- events

abbrev pub pauses_in : List Note → ℕ
pauses_in [] = 0
pauses_in (x ∷ xs) = one_if (is_pause x.event) + pauses_in xs

pauses_on : (xs ys : List Note) → pauses_in (xs ++ ys) ≡ pauses_in xs + pauses_in ys
pauses_on [] ys = omega arith
pauses_on (x ∷ xs) ys = let rest = pauses_on xs ys in omega (arith, rest)

pause_or_end : (e : Event) → ends_turn e ≡ true → one_if (is_pause e) + one_if (is_end e) ≡ 1
pause_or_end (paused t u) h = refl
pause_or_end (ended how) h = refl
pause_or_end (called c) h = absurd cc
pause_or_end (answered c) h = absurd cc
pause_or_end (parked u) h = absurd cc
pause_or_end (returned i v) h = absurd cc
pause_or_end (shown i v) h = absurd cc

neither : (e : Event) → ends_turn e ≡ false → (is_pause e ≡ false) × (is_end e ≡ false)
neither (paused t u) h = absurd cc
neither (ended how) h = absurd cc
neither (called c) h = (refl, refl)
neither (answered c) h = (refl, refl)
neither (parked u) h = (refl, refl)
neither (returned i v) h = (refl, refl)
neither (shown i v) h = (refl, refl)

pause_ends : (e : Event) → one_if (is_pause e) ≤ one_if (ends_turn e)
pause_ends (paused t u) = omega arith
pause_ends (ended how) = omega arith
pause_ends (called c) = omega arith
pause_ends (answered c) = omega arith
pause_ends (parked u) = omega arith
pause_ends (returned i v) = omega arith
pause_ends (shown i v) = omega arith

pub few_pauses : (xs : List Note) → pauses_in xs ≤ turns_in xs
few_pauses [] = omega arith
few_pauses (x ∷ xs) = let one = pause_ends x.event in let rest = few_pauses xs in omega (arith, one, rest)

or_nothing : (b : Bool) → (b || false) ≡ b
or_nothing true = refl
or_nothing false = refl

-- a turn has one pause, or an end
one_turn : (xs : List Note) → EndsOnce xs → pauses_in xs + one_if (ends_program xs) ≡ 1
one_turn [] h = absurd h
one_turn (x ∷ xs) h = by (ends_turn x.event) refl h (one_turn xs)
  where
    by : (b : Bool) → ends_turn x.event ≡ b → MatchBool b (xs ≡ []) (EndsOnce xs) → (EndsOnce xs → pauses_in xs + one_if (ends_program xs) ≡ 1)
        → one_if (is_pause x.event) + pauses_in xs + one_if (is_end x.event || ends_program xs) ≡ 1
    by true e none on =
        let either = pause_or_end x.event e in
        let all : one_if (is_pause x.event) + pauses_in xs + one_if (is_end x.event || ends_program xs) ≡ one_if (is_pause x.event) + 0 + one_if (is_end x.event) =
        (λ k. one_if (is_pause x.event) + pauses_in (none k) + one_if (is_end x.event || ends_program (none k))) ∙ ap (λ (b : Bool). one_if (is_pause x.event) + 0 + one_if b) (or_nothing (is_end x.event)) in
        omega (arith, either, all)
    by false e rest on =
        let n = neither x.event e in
        let one = on rest in
        let all : one_if (is_pause x.event) + pauses_in xs + one_if (is_end x.event || ends_program xs) ≡ 0 + pauses_in xs + one_if (ends_program xs) =
        λ k. one_if (n.0 k) + pauses_in xs + one_if (n.1 k || ends_program xs) in
        omega (arith, one, all)

-- the events of a program: its pauses, and its end
abbrev pub events_by : Program → Teller → ℕ
events_by w t = pauses_in t.told + one_if t.has_ended

-- its lines, where those of a stall are counted with its end
abbrev pub end_lines : Bool → (looks : ℕ) → ℕ
end_lines true looks = suc looks
end_lines false looks = 0

abbrev pub lines_by : Program → Teller → ℕ
lines_by w t = lines_in (length w.looks) t.told + end_lines t.has_ended (length w.looks)

-- those that a turn sends a value get it behind what its program has told
sent_past : (tellers : List Teller) (i : ℕ) (t x : Teller) (ss : List Settled) → slice_get tellers i ≡ Some t → t.receive ≡ None → AreSent tellers ss → AreSent (slice_set tellers i x) ss
sent_past tellers i t x ss there awake sent = still_sent tellers ss i x (not_sent tellers ss i t there awake sent) sent

module _ (begun : ℕ) (programs : List Program) (detaches : List Detach) (boxes : List (List ℕ)) (ds : List Device) where
  event_adds : (number : ℕ) (tellers : List Teller) (c : Common) (lines : List Line) (tellers' : List Teller) (c' : Common) → TellsEvent programs detaches number tellers c lines tellers' c'
      → (suc (sum_of events_by programs tellers) ≤ sum_of events_by programs tellers') × (sum_of lines_by programs tellers + length lines ≤ sum_of lines_by programs tellers')
  event_adds number tellers c lines tellers' c' (tells_turn x) = (events, added)
    where
      now : Teller
      now = having_told x.t x.turn x.met x.answers x.behind.receive

      awake : x.t.receive ≡ None
      awake = awake_there tellers x.i x.t.due x.t x.next x.there

      live : x.t.has_ended ≡ false
      live = live_there tellers x.i x.t.due x.t x.next x.there

      sent : AreSent (slice_set tellers x.i now) x.behind.settled
      sent = sent_past tellers x.i x.t now x.behind.settled x.there awake x.sent

      events : suc (sum_of events_by programs tellers) ≤ sum_of events_by programs tellers'
      events =
          let set = set_sum events_by programs tellers x.i x.w x.t now x.program x.there in
          let settle = settle_sum events_by (λ w t due value. refl) programs (suc x.t.due) x.behind.settled (slice_set tellers x.i now) sent in
          let all = ap (sum_of events_by programs) x.after in
          let more = pauses_on x.t.told x.turn in
          let one = one_turn x.turn x.whole in
          let none = ap one_if live in
          omega (arith, set, settle, all, more, one, none)

      added : sum_of lines_by programs tellers + length lines ≤ sum_of lines_by programs tellers'
      added =
          let set = set_sum lines_by programs tellers x.i x.w x.t now x.program x.there in
          let settle = settle_sum lines_by (λ w t due value. refl) programs (suc x.t.due) x.behind.settled (slice_set tellers x.i now) sent in
          let all = ap (sum_of lines_by programs) x.after in
          let more = lines_on (length x.w.looks) x.t.told x.turn in
          let made = ap length x.made
          ∙ length-map (events_with_looks x.w.looks x.turn) (λ (e : Event). line_at x.t.due x.i (told_pause (parks x.turn x.behind.receive) e))
          ∙ lines_made x.w.looks x.turn in
          let none = ap (λ (b : Bool). end_lines b (length x.w.looks)) live in
          omega (arith, set, settle, all, more, made, none)
  event_adds number tellers c lines tellers' c' (tells_stall x) = (events, added)
    where
      over : Teller
      over = record x.t { has_ended = true }

      live : x.t.has_ended ≡ false
      live = (over_says x.t.has_ended x.t.receive x.r x.waits).0

      events : suc (sum_of events_by programs tellers) ≤ sum_of events_by programs tellers'
      events =
          let set = set_sum events_by programs tellers x.i x.w x.t over x.program x.there in
          let all = ap (sum_of events_by programs) x.after in
          let none = ap one_if live in
          omega (arith, set, all, none)

      added : sum_of lines_by programs tellers + length lines ≤ sum_of lines_by programs tellers'
      added =
          let set = set_sum lines_by programs tellers x.i x.w x.t over x.program x.there in
          let all = ap (sum_of lines_by programs) x.after in
          let made = ap length x.made ∙ ap suc (length-map (look_events (store_behind x.t.told) x.w.looks) (line_at c.tick x.i) ∙ length-map x.w.looks _) in
          let none = ap (λ (b : Bool). end_lines b (length x.w.looks)) live in
          omega (arith, set, all, made, none)

  -- so many events, and their lines
  pub tells_sums : (count : ℕ) (lines : List Line) (tellers : List Teller) (c : Common) → Tells begun programs detaches boxes ds count lines tellers c
      → (count ≤ sum_of events_by programs tellers) × (length lines ≤ sum_of lines_by programs tellers)
  tells_sums zero lines tellers c h = let none = ap length h.0 in (omega arith, omega (arith, none))
  tells_sums (suc count) lines tellers c h =
      let before = tells_sums count h.0 h.2 h.3 h.4 in
      let e = event_adds (suc (begun + count)) h.2 h.3 h.1 tellers c h.5 in
      let event = e.0 in
      let more = e.1 in
      let few = before.0 in
      let short = before.1 in
      let sum = ap length h.6 ∙ length-append h.0 h.1 in
      (omega (arith, few, event), omega (arith, short, more, sum))

  -- with the beginning of a turn
  pub on_sums : (count i due : ℕ) (lines : List Line) (tellers : List Teller) (now : Amid) → TellsOnFrom begun programs detaches boxes ds count i due lines tellers now
      → (count ≤ sum_of events_by programs tellers) × (length lines ≤ sum_of lines_by programs tellers)
  on_sums count i due lines tellers now on = (events, added)
    where
      told : Teller
      told = having_told on.t on.turn on.met on.answers now.receive

      before : (count ≤ sum_of events_by programs on.mid) × (length on.before ≤ sum_of lines_by programs on.mid)
      before = tells_sums count on.before on.mid on.c on.whole

      live : on.t.has_ended ≡ false
      live = live_there on.mid i due on.t on.next on.there

      sent : AreSent (slice_set on.mid i told) now.settled
      sent = sent_past on.mid i on.t told now.settled on.there (awake_there on.mid i due on.t on.next on.there) on.sent

      events : count ≤ sum_of events_by programs tellers
      events =
          let first = before.0 in
          let set = set_sum events_by programs on.mid i on.w on.t told on.program on.there in
          let settle = settle_sum events_by (λ w t due value. refl) programs (suc due) now.settled (slice_set on.mid i told) sent in
          let all = ap (sum_of events_by programs) on.after in
          let more = pauses_on on.t.told on.turn in
          let none = ap one_if live in
          omega (arith, first, set, settle, all, more, none)

      added : length lines ≤ sum_of lines_by programs tellers
      added =
          let first = before.1 in
          let set = set_sum lines_by programs on.mid i on.w on.t told on.program on.there in
          let settle = settle_sum lines_by (λ w t due value. refl) programs (suc due) now.settled (slice_set on.mid i told) sent in
          let all = ap (sum_of lines_by programs) on.after in
          let more = lines_on (length on.w.looks) on.t.told on.turn in
          let notes = lines_many (length on.w.looks) on.turn in
          let made = ap length on.made ∙ length-append on.before (map (line_at due i) (events_of on.turn)) in
          let long = length-map (events_of on.turn) (line_at due i) ∙ length-map on.turn (λ (x : Note). x.event) in
          let none = ap (λ (b : Bool). end_lines b (length on.w.looks)) live in
          omega (arith, first, set, settle, all, more, notes, made, long, none)
