-- The devices that the calls of strands left beside those of the world's run, in which each strand is a program.
use Rattle.std.proofs.Common.{◌≡◌, ◌+◌, inl, ℕ, suc, List, [], ◌∷◌, ◌++◌, map, Option, Some, None, false, refl, sym, ap, ◌∙◌, subst}
use Rattle.std.specs.Prelude.{slice_get}
use Rattle.std.proofs.lemmas.Option.{same_Some}
use Rattle.wa_model.specs.declared.answers.Detach.{Detach}
use Rattle.wa_model.specs.Outside.{AnswerLine, Call, Event, answered, called, ended, parked, paused, returned, shown, Line}
use Rattle.wa_model.specs.Plan.{Outcome}
use Rattle.wa_model.specs.Blocking.{Note}
use Rattle.world_model.specs.World.{Actor, CallsMeet, Device, Events, Meets, NoteMeets, Program, an_event, behind_turn, call_in, detached, ends_turn, events_with_looks, line_at, no_event, put_off, turn_of}
use Rattle.world_laws.proofs.Places.{each_at, each_set}
use Rattle.run_theory.specs.Growth.{Each}
use Rattle.event_order.specs.Left.{Counted, left_before}
use Rattle.host_laws.specs.Supplies.{Supply, Takes}
use Rattle.many_host.specs.Calls.{TakesCall, devices_of, faults_of}
use Rattle.many_host.specs.Telling.{supply}
use Rattle.world_hosting.proofs.Calls.{called_beside, owed}
use Rattle.world_hosting.proofs.CountedNotes.{Between, CallsBy, Counts, Goes, NoteMeetsBy, TookFrom, Within, all_settled, as_line, begins, no_more, notes_on, unfinished}
use Rattle.world_hosting.proofs.Counting.{same_lines}
use Rattle.world_hosting.proofs.Ledgers.{Beside, left_beside, same_counted}

-- ---- calls

pub no_call : (programs : List Program) (l : Line) (met : List Outcome) (old mid : List Counted) → TakesCall programs l met old mid → call_in l.event ≡ None → mid ≡ old
no_call programs l met old mid t none =
    let h = subst (λ (c : Option Call). Takes t.w c (supply t.answers (devices_of old) (faults_of old)) met (supply t.left (devices_of mid) (faults_of mid))) none t.takes in
    same_counted old mid (ap (λ s. s.devices) h.1) (ap (λ s. s.faults) h.1)

-- a world has a call meet this, whatever answer lines there are
abbrev MeetsSome : Program → Call → Outcome → (ds ds' : List Device) → Type 0
MeetsSome w c o ds ds' = (lines : List AnswerLine) × (lines' : List AnswerLine) × Meets w c.import c.args lines ds o lines' ds'

pub answered_beside : (programs : List Program) (l : Line) (c : Call) (w : Program) (met : List Outcome) (old mid : List Counted) (ds ds' : List Device) (o : Outcome) (ls : List Counted)
    → call_in l.event ≡ Some c → slice_get programs l.program ≡ Some w → TakesCall programs l met old mid → Beside old ds ls → MeetsSome w c o ds ds' → Beside mid ds' (owed w (Some o) ls)
answered_beside programs l c w met old mid ds ds' o ls is program t beside meets =
    let same : t.w ≡ w = same_Some t.w w (sym t.program ∙ program) in
    let before : Supply = supply t.answers (devices_of old) (faults_of old) in
    let behind : Supply = supply t.left (devices_of mid) (faults_of mid) in
    let takes = subst (λ (v : Program). Takes v (Some c) before met behind) same (subst (λ (q : Option Call). Takes t.w q before met behind) is t.takes) in
    called_beside w old mid ds ds' ls beside c meets.0 meets.1 t.answers t.left o takes.0 meets.2 takes.2

calls_by : (w : Program) (xs : List Note) (os : List Outcome) (lines : List AnswerLine) (ds : List Device) (os' : List Outcome) (lines' : List AnswerLine) (ds' : List Device)
    → CallsMeet w xs os lines ds os' lines' ds' → CallsBy MeetsSome w xs os ds os' ds'
calls_by w [] os lines ds os' lines' ds' h = (h.0, h.2)
calls_by w (x ∷ xs) os lines ds os' lines' ds' h = by (call_in x.event) h (λ us ls es k. calls_by w xs us ls es os' lines' ds' k)
  where
    by : (c : Option Call) → NoteMeets w c os lines ds (λ o l d. CallsMeet w xs o l d os' lines' ds')
        → ((us : List Outcome) (ls : List AnswerLine) (es : List Device) → CallsMeet w xs us ls es os' lines' ds' → CallsBy MeetsSome w xs us es os' ds')
        → NoteMeetsBy MeetsSome w c os ds (λ us es. CallsBy MeetsSome w xs us es os' ds')
    by None g on = on os lines ds g
    by (Some c) g on = (g.0, g.1, g.3, g.4, (lines, g.2, g.5), on g.1 g.2 g.3 g.6)

-- ---- lines

told_so : (e : Event) → as_line false e ≡ e
told_so (paused t u) = refl
told_so (called c) = refl
told_so (answered v) = refl
told_so (returned i v) = refl
told_so (ended how) = refl
told_so (parked u) = refl
told_so (shown at bytes) = refl

-- ---- event by event

-- what an actor still has to tell is lawful
abbrev pub Lawful : Actor → Type 0
Lawful a = Goes a.outcomes a.notes

module _ (programs : List Program) (detaches : List Detach) (count : ℕ) (new : List Counted) where
  abbrev TookOn : (begun n : ℕ) → List Line → List Counted → Type 0
  TookOn = TookFrom programs detaches ends_turn (TakesCall programs) (no_call programs) MeetsSome (answered_beside programs) (λ e h k. h) (λ how. refl) count new

  abbrev CountsOn : (begun n : ℕ) → List Line → List Counted → Type 0
  CountsOn = Counts programs detaches ends_turn (TakesCall programs) (no_call programs) MeetsSome (answered_beside programs) (λ e h k. h) (λ how. refl) count new

  abbrev WithinOn : ℕ → List Line → Type 0
  WithinOn = Within programs detaches ends_turn (TakesCall programs) (no_call programs) MeetsSome (answered_beside programs) (λ e h k. h) (λ how. refl) count new

  pub events_on : (number : ℕ) (acts last : List Actor) (ds ds' : List Device) (lines : List Line) → Events programs detaches number acts ds lines last ds' → (n : ℕ) → number ≡ suc n → Each Lawful acts
      → (begun : ℕ) (was ms ls : List Counted) → Between detaches n begun was ms → Beside was ds ls → TookOn begun n lines ms → WithinOn n lines → devices_of new ≡ ds' → CountsOn n n lines ls
  events_on number acts last ds ds' lines no_event n is lawful begun was ms ls b beside took within end =
      let all = no_more programs detaches ends_turn (TakesCall programs) (no_call programs) MeetsSome (answered_beside programs) (λ e h k. h) (λ how. refl) count new begun n ms took in
      all_settled programs detaches ends_turn (TakesCall programs) (no_call programs) MeetsSome (answered_beside programs) (λ e h k. h) (λ how. refl) count new n begun was ms ls ds b beside all.0 all.1 within end
  events_on number acts last ds ds' lines (an_event {actors' = mid} {ds' = es} {lines = first} {more = more} play rest split) n is lawful begun was ms ls b beside took within end =
      let a : Actor = play.a in
      let here = each_at Lawful acts play.i a lawful play.next.there in
      let moved : Actor = record { due = a.due + put_off (turn_of a.notes); notes = behind_turn a.notes; outcomes = play.outcomes; answers = play.answers } in
      let parts : lines ≡ map (λ (e : Event). line_at a.due play.i (as_line false e)) (events_with_looks play.w.looks (turn_of a.notes)) ++ more =
      split ∙ ap (λ (ks : List Line). ks ++ more) (play.made ∙ same_lines a.due play.i (λ e. e) (as_line false) (λ e. sym (told_so e)) (events_with_looks play.w.looks (turn_of a.notes))) in
      let now : List Counted = left_before (suc n) detaches was in
      let beside' : Beside now (detached (suc n) detaches ds) (left_before (suc n) detaches ls) = left_beside (suc n) detaches was ds ls beside in
      let calls : CallsMeet play.w (turn_of a.notes) a.outcomes a.answers (detached (suc n) detaches ds) play.outcomes play.answers es =
      subst (λ (k : ℕ). CallsMeet play.w (turn_of a.notes) a.outcomes a.answers (detached k detaches ds) play.outcomes play.answers es) is play.calls in
      subst (λ (ks : List Line). CountsOn n n ks ls) (sym parts)
      (notes_on programs detaches ends_turn (TakesCall programs) (no_call programs) MeetsSome (answered_beside programs) (λ e h k. h) (λ how. refl) count new play.i a.due play.w play.program n
      false (λ t u. refl) play.outcomes es more a.notes None a.outcomes (detached (suc n) detaches ds) begun n ms now ls
      (left_before (suc n) detaches ls)
      (unfinished programs detaches ends_turn (TakesCall programs) (no_call programs) MeetsSome (answered_beside programs) (λ e h k. h) (λ how. refl) count new a.notes here.halts play.next.unfinished)
      here.unparked here.fine.0 here.fine.1 (calls_by play.w (turn_of a.notes) a.outcomes a.answers (detached (suc n) detaches ds) play.outcomes play.answers es calls)
      (begins detaches n begun was ms b) (inl (refl, refl)) beside'
      (subst (λ (ks : List Line). TookOn begun n ks ms) parts took) (subst (λ (ks : List Line). WithinOn n ks) parts within)
      (λ begun' was' ms' ls' b' beside'' goes took' within'.
      let on : Each Lawful mid = subst (Each Lawful) (sym play.after) (each_set Lawful acts play.i moved lawful goes) in
      events_on (suc number) mid last es ds' more rest (suc n) (ap suc is) on begun' was' ms' ls' b' beside'' took' within' end))
