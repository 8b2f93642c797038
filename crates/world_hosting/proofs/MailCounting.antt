-- The devices that the lines' calls left beside those of the world's run: a world with mailboxes.
use Rattle.std.proofs.Common.{arith, ◌≡◌, ◌≤◌, ◌+◌, inl, inr, ℕ, suc, List, [], ◌∷◌, ◌++◌, length, map, Option, Some, None, true, false, refl, sym, ap, ◌∙◌, subst, length-append}
use Rattle.std.specs.Prelude.{slice_get, slice_set}
use Rattle.std.specs.List.{AllZip}
use Rattle.std.specs.Option.{is_some, unwrap_or}
use Rattle.wa_model.specs.declared.answers.Detach.{Detach}
use Rattle.wa_model.specs.declared.events.End.{End}
use Rattle.wa_model.specs.declared.events.End.TheVariants.{Stalled}
use Rattle.wa_model.specs.Outside.{Call, Event, Line, ended}
use Rattle.wa_model.specs.Plan.{Outcome, given, refused}
use Rattle.wa_model.specs.Blocking.{Note}
use Rattle.world_model.specs.World.{Device, Program, behind_turn, call_in, detached, events_with_looks, line_at, look_events, protocol_story, put_off, turn_of}
use Rattle.world_laws.specs.Originals.{new_calls}
use Rattle.world_laws.proofs.Faults.{AtCall, Fine, Inner, Opens, OpensIf, story_told}
use Rattle.world_laws.proofs.Places.{each_at, each_set}
use Rattle.run_theory.specs.Growth.{Each}
use Rattle.event_order.specs.Left.{Counted, left_before}
use Rattle.mail_laws.specs.Mailboxes.{Receive, Shared}
use Rattle.mail_laws.specs.MailWorld.{Actor, Events, HeldStory, Plays, Stalls, StartsHeld, TakesTurn, a_stall, a_turn, an_event, begun_event, no_event, nobody, parked_at, parks, pauses, sharing, store_behind, to_end, to_wait, told_pause, wake, woken}
use Rattle.mail_laws.proofs.CallsInRange.{EachMet, Met, events_met}
use Rattle.mail_laws.proofs.TurnsTold.{pause_ends}
use Rattle.many_host.specs.Calls.{devices_of}
use Rattle.world_hosting.specs.MailCounts.{TakesBeside, ends_event, event_count}
use Rattle.world_hosting.specs.MailFaults.{MailFaultsAreCounted}
use Rattle.world_hosting.specs.Worlds.{world_programs}
use Rattle.world_hosting.proofs.CountedNotes.{Between, CallsBy, Counts, Goes, Halts, TookFrom, Within, all_settled, as_line, begins, last_line, no_more, notes_on, shows_on, unfinished}
use Rattle.world_hosting.proofs.Counting.{few_calls, same_lines, story_goes}
use Rattle.world_hosting.proofs.Ledgers.{Beside, all_beside, left_beside}
use Rattle.world_hosting.proofs.MailMeets.{MeetsBeside, answers_beside, calls_beside, empty_names, goes_event, names_in, no_call_beside, stops_event, told_as_line, waiting_names}
use Rattle.world_hosting.proofs.NoneParked.{Unparked, story_unparked, unparked_front}

-- ---- stories, whole and cut

no_true : false ≡ true → ⊥
no_true e = cc

opens_front : (xs ys : List Note) → Opens (xs ++ ys) → Opens xs
opens_front [] ys h = tt
opens_front (x ∷ xs) ys h = h

opens_if_front : (o : Outcome) (xs ys : List Note) → OpensIf o (xs ++ ys) → OpensIf o xs
opens_if_front (given a) xs ys h = opens_front xs ys h
opens_if_front (refused e) [] ys h = tt
opens_if_front (refused e) (x ∷ xs) ys h = h

inner_front : (os : List Outcome) (xs ys : List Note) → Inner os (xs ++ ys) → Inner os xs
inner_front os [] ys h = tt
inner_front os (x ∷ xs) ys h = by (call_in x.event) os h (λ us k. inner_front us xs ys k)
  where
    by : (c : Option Call) (os : List Outcome) → AtCall c os (xs ++ ys) (λ us. Inner us (xs ++ ys)) → ((us : List Outcome) → Inner us (xs ++ ys) → Inner us xs)
        → AtCall c os xs (λ us. Inner us xs)
    by None os g on = (opens_front xs ys g.0, on os g.1)
    by (Some c) [] g on = on [] g
    by (Some c) (o ∷ os) g on = (opens_if_front o xs ys g.0, on os g.1)

pauses_halt : (xs : List Note) → pauses xs ≡ true → Halts xs
pauses_halt [] p = absurd (no_true p)
pauses_halt (x ∷ []) p = let e = pause_ends x.event p in e.0
pauses_halt (x ∷ y ∷ ys) p = pauses_halt (y ∷ ys) p

-- the front of a story, up to a pause
front_goes : (w : Program) (os : List Outcome) (notes rest : List Note) → protocol_story w os ≡ notes ++ rest → pauses notes ≡ true → Goes os notes
front_goes w os notes rest e p =
    let fine : Fine os (notes ++ rest) = subst (Fine os) e (story_told w os) in
    record {
      fine = (opens_front notes rest fine.0, inner_front os notes rest fine.1);
      halts = inr (pauses_halt notes p);
      unparked = (unparked_front notes rest (subst Unparked e (story_unparked w os))).0;
    }

-- ---- event by event

abbrev Lawful : Actor → Type 0
Lawful a = Goes a.outcomes a.notes

nobody_lawful : Lawful nobody
nobody_lawful = record { fine = (tt, tt); halts = inl refl; unparked = tt }

wake_lawful : (due : ℕ) (is : List ℕ) (acts : List Actor) → Each Lawful acts → Each Lawful (wake due is acts)
wake_lawful due [] acts h = h
wake_lawful due (i ∷ is) acts h =
    let one : Actor = woken due (unwrap_or (slice_get acts i) nobody) in
    wake_lawful due is (slice_set acts i one) (each_set Lawful acts i one h (by (slice_get acts i) refl))
  where
    by : (o : Option Actor) → slice_get acts i ≡ o → Lawful (woken due (unwrap_or o nobody))
    by None e = nobody_lawful
    by (Some a) e = each_at Lawful acts i a h e

module _ (boxes : List (List ℕ)) (programs : List Program) (detaches : List Detach) (count : ℕ) (new : List Counted) where
  abbrev plain_end : (how : End) → ends_event (ended how) ≡ true
  plain_end how = refl

  abbrev TookOn : (begun n : ℕ) → List Line → List Counted → Type 0
  TookOn = TookFrom programs detaches ends_event (TakesBeside boxes programs) (no_call_beside boxes programs) (MeetsBeside boxes) (answers_beside boxes programs) goes_event plain_end count new

  abbrev CountsOn : (begun n : ℕ) → List Line → List Counted → Type 0
  CountsOn = Counts programs detaches ends_event (TakesBeside boxes programs) (no_call_beside boxes programs) (MeetsBeside boxes) (answers_beside boxes programs) goes_event plain_end count new

  abbrev WithinOn : ℕ → List Line → Type 0
  WithinOn = Within programs detaches ends_event (TakesBeside boxes programs) (no_call_beside boxes programs) (MeetsBeside boxes) (answers_beside boxes programs) goes_event plain_end count new

  -- what is to be shown of the events from here on
  abbrev GoOn : (n : ℕ) → List Actor → Shared → List Line → List Device → Type 0
  GoOn n acts sh lines ds' =
      Each Lawful acts → names_in sh.boxes ≡ boxes → (begun : ℕ) (was ms ls : List Counted) → Between detaches n begun was ms → Beside was sh.devices ls → TookOn begun n lines ms → WithinOn n lines
      → devices_of new ≡ ds' → CountsOn n n lines ls

  -- a turn
  turn_on : (number : ℕ) (acts mid : List Actor) (sh z : Shared) (first more lines : List Line) (ds' : List Device) (n : ℕ) → number ≡ suc n → (t : TakesTurn programs detaches number acts sh first mid z)
      → lines ≡ first ++ more → GoOn (suc n) mid z more ds' → GoOn n acts sh lines ds'
  turn_on number acts mid sh z first more lines ds' n is t split on lawful named begun was ms ls b beside took within end =
      let here = each_at Lawful acts t.i t.a lawful t.next.there in
      let parking : Option Receive = parks (turn_of t.a.notes) t.behind.receive in
      let moved : Actor = record {
        due = t.a.due + put_off (turn_of t.a.notes);
        notes = behind_turn t.a.notes;
        outcomes = t.outcomes;
        answers = t.answers;
        parked = parked_at (store_behind (turn_of t.a.notes)) parking;
      } in
      let parts : lines ≡ map (λ (e : Event). line_at t.a.due t.i (as_line (is_some parking) e)) (events_with_looks t.w.looks (turn_of t.a.notes)) ++ more =
      split ∙ ap (λ (ks : List Line). ks ++ more) (t.made ∙ same_lines t.a.due t.i (told_pause parking) (as_line (is_some parking)) (told_as_line parking) (events_with_looks t.w.looks (turn_of t.a.notes))) in
      let now : List Counted = left_before (suc n) detaches was in
      let beside' : Beside now (detached (suc n) detaches sh.devices) (left_before (suc n) detaches ls) = left_beside (suc n) detaches was sh.devices ls beside in
      let met = calls_beside boxes t.w (turn_of t.a.notes) t.a.outcomes t.a.answers (begun_event number detaches sh) t.outcomes t.answers t.behind t.calls named in
      let calls : CallsBy (MeetsBeside boxes) t.w (turn_of t.a.notes) t.a.outcomes (detached (suc n) detaches sh.devices) t.outcomes t.behind.devices =
      subst (λ (k : ℕ). CallsBy (MeetsBeside boxes) t.w (turn_of t.a.notes) t.a.outcomes (detached k detaches sh.devices) t.outcomes t.behind.devices) is met.0 in
      let named' : names_in z.boxes ≡ boxes = ap (λ (s : Shared). names_in s.boxes) t.shared ∙ waiting_names t.i parking t.behind.boxes ∙ met.1 in
      let left : z.devices ≡ t.behind.devices = ap (λ (s : Shared). s.devices) t.shared in
      subst (λ (ks : List Line). CountsOn n n ks ls) (sym parts)
      (notes_on programs detaches ends_event (TakesBeside boxes programs) (no_call_beside boxes programs) (MeetsBeside boxes) (answers_beside boxes programs) goes_event plain_end count new t.i t.a.due t.w t.program n
      (is_some parking) (stops_event (is_some parking)) t.outcomes t.behind.devices more t.a.notes None t.a.outcomes (detached (suc n) detaches sh.devices) begun n ms now ls
      (left_before (suc n) detaches ls)
      (unfinished programs detaches ends_event (TakesBeside boxes programs) (no_call_beside boxes programs) (MeetsBeside boxes) (answers_beside boxes programs) goes_event plain_end count new t.a.notes here.halts t.next.ready.unfinished)
      here.unparked here.fine.0 here.fine.1 calls
      (begins detaches n begun was ms b) (inl (refl, refl)) beside'
      (subst (λ (ks : List Line). TookOn begun n ks ms) parts took) (subst (λ (ks : List Line). WithinOn n ks) parts within)
      (λ begun' was' ms' ls' b' beside'' goes took' within'.
      on (subst (Each Lawful) (sym t.after) (wake_lawful (suc t.a.due) t.behind.settled (slice_set acts t.i moved) (each_set Lawful acts t.i moved lawful goes)))
      named' begun' was' ms' ls' b' (subst (λ (ds : List Device). Beside was' ds ls') (sym left) beside'') took' within' end))

  -- the end of a program that waits
  stall_on : (number : ℕ) (acts mid : List Actor) (sh z : Shared) (first more lines : List Line) (ds' : List Device) (n : ℕ) → number ≡ suc n → (s : Stalls programs detaches number acts sh first mid z)
      → lines ≡ first ++ more → GoOn (suc n) mid z more ds' → GoOn n acts sh lines ds'
  stall_on number acts mid sh z first more lines ds' n is s split on lawful named begun was ms ls b beside took within end =
      let stalled : Event = ended (Stalled s.at.import) in
      let shows : List Line = map (line_at sh.tick s.i) (look_events s.at.store s.w.looks) ++ more in
      let parts : lines ≡ line_at sh.tick s.i stalled ∷ shows = split ∙ ap (λ (ks : List Line). ks ++ more) s.made in
      let now : List Counted = left_before (suc n) detaches was in
      let least : List Counted = left_before (suc n) detaches ls in
      let beside' : Beside now (detached (suc n) detaches sh.devices) least = left_beside (suc n) detaches was sh.devices ls beside in
      let left : z.devices ≡ detached (suc n) detaches sh.devices = ap (λ (s : Shared). s.devices) s.shared ∙ ap (λ (k : ℕ). detached k detaches sh.devices) is in
      let awake : Each Lawful mid = subst (Each Lawful) (sym s.after) (each_set Lawful acts s.i (record s.a { parked = None }) lawful (each_at Lawful acts s.i s.a lawful s.there)) in
      subst (λ (ks : List Line). CountsOn n n ks ls) (sym parts)
      (last_line programs detaches ends_event (TakesBeside boxes programs) (no_call_beside boxes programs) (MeetsBeside boxes) (answers_beside boxes programs) goes_event plain_end count new s.i sh.tick s.w s.program n
      stalled refl refl (λ k. refl) (λ h. h) shows begun n ms now ls least (begins detaches n begun was ms b) (inl (refl, refl))
      (subst (λ (ks : List Line). TookOn begun n ks ms) parts took) (subst (λ (ks : List Line). WithinOn n ks) parts within)
      (λ begun' ms' b' took' within'.
      shows_on programs detaches ends_event (TakesBeside boxes programs) (no_call_beside boxes programs) (MeetsBeside boxes) (answers_beside boxes programs) goes_event plain_end count new s.i sh.tick s.w s.program n
      false (stops_event false) [] z.devices more s.w.looks s.at.store begun' now ms' least b' took' within'
      (λ begun'' ms'' b'' took'' within''.
      on awake (ap (λ (s : Shared). names_in s.boxes) s.shared ∙ named) begun'' now ms'' least b'' (subst (λ (ds : List Device). Beside now ds least) (sym left) beside') took'' within'' end)))

  events_on : (number : ℕ) (acts last : List Actor) (sh sh' : Shared) (lines : List Line) → Events programs detaches number acts sh lines last sh' → (n : ℕ) → number ≡ suc n → GoOn n acts sh lines sh'.devices
  events_on number acts last sh sh' lines no_event n is lawful named begun was ms ls b beside took within end =
      let all =
      no_more programs detaches ends_event (TakesBeside boxes programs) (no_call_beside boxes programs) (MeetsBeside boxes) (answers_beside boxes programs) goes_event plain_end count new begun n ms took in
      all_settled programs detaches ends_event (TakesBeside boxes programs) (no_call_beside boxes programs) (MeetsBeside boxes) (answers_beside boxes programs) goes_event plain_end count new n begun was ms ls
      sh.devices b beside all.0 all.1 within end
  events_on number acts last sh sh' lines (an_event {actors' = mid} {sh' = z} {lines = first} {more = more} play rest split) n is lawful named begun was ms ls b beside took within end =
      by play (events_on (suc number) mid last z sh' more rest (suc n) (ap suc is)) lawful named begun was ms ls b beside took within end
    where
      by : Plays programs detaches number acts sh first mid z → GoOn (suc n) mid z more sh'.devices → GoOn n acts sh lines sh'.devices
      by (a_turn t) on = turn_on number acts mid sh z first more lines sh'.devices n is t split on
      by (a_stall s) on = stall_on number acts mid sh z first more lines sh'.devices n is s split on

-- ---- worlds

starts_lawful : (w : Program) (a : Actor) → StartsHeld w a → Met a → Goes a.outcomes a.notes
starts_lawful w a held meets = by held.story
  where
    by : HeldStory w a.outcomes a.notes → Goes a.outcomes a.notes
    by (to_end story) =
        let t = meets.2 in
        let few : new_calls (protocol_story w a.outcomes) ≤ length a.outcomes =
        few_calls _ _ (length t.0) (length meets.0) (ap new_calls (sym story) ∙ sym t.2) (ap length t.1 ∙ length-append t.0 meets.0) in
        subst (Goes a.outcomes) (sym story) (story_goes w a.outcomes few)
    by (to_wait rest e p) = front_goes w a.outcomes a.notes rest e p

all_lawful : (programs : List Program) (acts : List Actor) → AllZip StartsHeld programs acts → EachMet acts → Each Lawful acts
all_lawful [] [] held meets = tt
all_lawful (w ∷ ws) (a ∷ acts) held meets = (starts_lawful w a held.0 (meets 0 a refl), all_lawful ws acts held.1 (λ i. meets (suc i)))
all_lawful [] (a ∷ acts) held meets = absurd held
all_lawful (w ∷ ws) [] held meets = absurd held

pub mail_faults_counted : MailFaultsAreCounted
mail_faults_counted parts detaches boxes old new text told =
    let programs : List Program = world_programs parts in
    let world = told.world in
    let start : Shared = sharing boxes (devices_of old) in
    let meets = events_met programs detaches 1 world.actors start told.lines world.runs.last world.runs.shared world.runs.events world.runs.over in
    events_on boxes programs detaches (event_count told.lines) new 1 world.actors world.runs.last start world.runs.shared told.lines world.runs.events 0 refl
    (all_lawful programs world.actors world.starts meets) (empty_names boxes) 0 old old old (inl (refl, refl)) (all_beside old) (record { met = told.met; took = told.took }) (omega arith) world.runs.devices
