-- A world that is played up to an event, and one that goes on from its snapshot, are one world.
use Rattle.std.proofs.Common.{arith, ◌≡◌, ◌+◌, ◌-◌, ◌⊎◌, inl, inr, ℕ, zero, suc, List, [], ◌∷◌, ◌++◌, length, Option, Some, None, refl, sym, ap, ◌∙◌, subst, append_assoc, append-nil}
use Rattle.std.specs.Prelude.{slice_get, slice_set}
use Rattle.std.specs.List.{AllZip}
use Rattle.std.proofs.lemmas.List.Elements.{All-cons, All-head, All-tail}
use Rattle.wa_model.specs.declared.answers.Detach.{Detach}
use Rattle.wa_model.specs.Machine.{Ran, Turn, after, run}
use Rattle.wa_model.specs.Outside.{AnswerLine, Call, Line}
use Rattle.wa_model.specs.Plan.{Outcome}
use Rattle.wa_model.specs.Blocking.{Note, no_store}
use Rattle.wa_model.specs.Protocol.{Held, exports_of, held_continued, protocol, Protocol}
use Rattle.world_model.specs.World.{Actor, CallsMeet, Device, Events, HasNotes, IsOver, NoteMeets, Origin, Plays, Program, Starts, StartsHeld, an_event, at_pause, at_start, behind_turn, call_in, detached, gone, halted, no_event, protocol_story, put_off, story_from, told_by, turn_lines, turn_of, unless_over}
use Rattle.run_theory.proofs.Runs.{leads_run}
use Rattle.snapshot_store.specs.Snapshots.{PausedParts, ProgramRecord, fresh, over, paused}
use Rattle.world_laws.specs.Snapshots.{AreJoined, IsJoined, IsPaused, IsRecordOf, JoinedLinesAreOne, RecordsGoOn, StandsSo, WorldsJoin, begun_from, from_record, from_records, halt_at, used_from}
use Rattle.world_laws.specs.Originals.{new_calls}
use Rattle.world_laws.proofs.Counting.{over_still}
use Rattle.world_laws.proofs.GoingOn.{some_to_come, then_events, whole_alone, whole_any}
use Rattle.world_laws.proofs.Replaying.{Quads, Since, Swapped, Twice, played_again, played_since}
use Rattle.world_laws.proofs.Replays.{unbound_fix_lines}
use Rattle.std.proofs.lemmas.List.{append_cancel_left, append_cancel_right}
use Rattle.std.proofs.lemmas.Option.{same_Some}

-- ---- one program

-- a story is that of a run, by where the program begins
story_runs : (w : Program) (os : List Outcome) (o : Origin) → story_from w os o ≡ told_by w.steps (held_continued w.source w.plan (w.steps - used_from o) (begun_from w os o))
story_runs w os at_start = let z : w.steps ≡ w.steps - 0 = omega arith in ap (λ (n : ℕ). told_by w.steps (Protocol w.source w.plan os n)) z
story_runs w os gone =
    let still_there = over_still w.source (exports_of w.source) w.plan (w.steps - 0) (w.steps - 0) no_store in
    sym (ap (λ (r : Ran Held Note). told_by w.steps (after [] r)) still_there)
story_runs w os (at_pause x) = refl

-- behind the notes that lead to a pause comes what is told from there
paused_story : (w : Program) (made : List Note) (met : List Outcome) (now : Actor) (due : ℕ) (x : PausedParts) (memory : List ℕ) → IsPaused w made met now due x memory → (rest : List Outcome)
    → protocol_story w (met ++ rest) ≡ made ++ protocol_story (from_record w (paused due x memory)) rest
paused_story w made met now due x memory h rest =
    let c = h.comes in
    let way = c.way rest in
    let begun : Ran Held Note = begun_from w (met ++ rest) w.origin in
    let place : Held = halted w.source w.plan (halt_at w due x memory) rest in
    let next : Held → Turn Held Note = protocol w.source (exports_of w.source) w.plan in
    let ran : Ran Held Note = run next (w.steps - x.steps_used) place in
    let steps : w.steps - used_from w.origin ≡ c.cost + (w.steps - x.steps_used) = omega (arith, h.within, c.steps) in
    let on : run next (w.steps - used_from w.origin) begun.last ≡ after way.0 ran =
    ap (λ (n : ℕ). run next n begun.last) steps ∙ leads_run Held Note next begun.last place c.cost (w.steps - x.steps_used) way.0 way.2 in
    story_runs w (met ++ rest) w.origin
    ∙ ap (λ (r : Ran Held Note). told_by w.steps (after begun.events r)) on
    ∙ ap (λ (es : List Note). es ++ unless_over w.steps ran.last) (sym (append_assoc begun.events way.0 ran.events) ∙ ap (λ (es : List Note). es ++ ran.events) (sym way.1))
    ∙ append_assoc made ran.events (unless_over w.steps ran.last)

-- behind what a program has made comes what its record tells
rest_told : (w : Program) (was now : Actor) (r : ProgramRecord) (made : List Note) (met : List Outcome) → StartsHeld w was → new_calls made ≡ length met → was.notes ≡ made ++ now.notes
    → was.outcomes ≡ met ++ now.outcomes → StandsSo w made met now r → (rest : List Outcome) → protocol_story w (met ++ rest) ≡ made ++ protocol_story (from_record w r) rest
rest_told w was now fresh made met held count notes outcomes h rest =
    ap (λ (os : List Outcome). protocol_story w (os ++ rest)) h.none_met
    ∙ ap (story_from w rest) h.start
    ∙ ap (λ (es : List Note). es ++ protocol_story (from_record w fresh) rest) (sym h.none_made)
rest_told w was now (paused due x memory) made met held count notes outcomes h rest = paused_story w made met now due x memory h rest
rest_told w was now over made met held count notes outcomes h rest =
    let all : was.notes ≡ made = notes ∙ ap (λ (es : List Note). made ++ es) h ∙ append-nil made in
    let here : protocol_story w (met ++ now.outcomes) ≡ made = ap (protocol_story w) (sym outcomes) ∙ sym held.story ∙ all in
    whole_any w met rest made count (whole_alone w met now.outcomes made count here) ∙ sym (append-nil made)

-- where a program isn't over, it stands as its record has it
stands_there : (w : Program) (was now : Actor) (r : ProgramRecord) (made : List Note) (met : List Outcome) → StandsSo w made met now r → HasNotes now → Starts (from_record w r) now
stands_there w was now fresh made met h has = record { due = h.due; answers = h.answers }
stands_there w was now (paused due x memory) made met h has = record { due = h.is_due; answers = h.answers }
stands_there w was now over made met h has = let none : length now.notes ≡ 0 = ap length h in let no_way : ⊥ = omega arith in absurd no_way

pub records_go_on : RecordsGoOn
records_go_on w was now r held h = (by r h.stands, stands_there w was now r h.made h.met h.stands)
  where
    from : was.notes ≡ protocol_story w (h.met ++ now.outcomes)
    from = held.story ∙ ap (protocol_story w) h.outcomes

    by : (r : ProgramRecord) → StandsSo w h.made h.met now r → now.notes ≡ protocol_story (from_record w r) now.outcomes
    by fresh s =
        let on : was.notes ≡ protocol_story (from_record w fresh) now.outcomes =
        from ∙ ap (λ (os : List Outcome). protocol_story w (os ++ now.outcomes)) s.none_met ∙ ap (story_from w now.outcomes) s.start in
        ap (λ (es : List Note). es ++ now.notes) (sym s.none_made) ∙ sym h.notes ∙ on
    by (paused due x memory) s =
        append_cancel_left h.made now.notes (protocol_story (from_record w (paused due x memory)) now.outcomes)
        (sym h.notes ∙ from ∙ paused_story w h.made h.met now due x memory s now.outcomes)
    by over s = s

-- ---- programs of one module

-- calls meet what those of the program meet that begins elsewhere
calls_from : (w : Program) (r : ProgramRecord) (xs : List Note) (os : List Outcome) (lines : List AnswerLine) (ds : List Device) (os' : List Outcome) (lines' : List AnswerLine) (ds' : List Device)
    → CallsMeet (from_record w r) xs os lines ds os' lines' ds' → CallsMeet w xs os lines ds os' lines' ds'
calls_from w r [] os lines ds os' lines' ds' h = h
calls_from w r (x ∷ xs) os lines ds os' lines' ds' h = by_call (λ os lines ds g. calls_from w r xs os lines ds os' lines' ds' g) (call_in x.event) h
  where
    by_call : ((os : List Outcome) (lines : List AnswerLine) (ds : List Device) → CallsMeet (from_record w r) xs os lines ds os' lines' ds' → CallsMeet w xs os lines ds os' lines' ds')
        → (c : Option Call) → NoteMeets (from_record w r) c os lines ds (λ o l d. CallsMeet (from_record w r) xs o l d os' lines' ds')
        → NoteMeets w c os lines ds (λ o l d. CallsMeet w xs o l d os' lines' ds')
    by_call on None g = on os lines ds g
    by_call on (Some c) g = (g.0, g.1, g.2, g.3, g.4, g.5, on g.1 g.2 g.3 g.6)

-- the program of which one goes on
recorded : (ws : List Program) (rs : List ProgramRecord) (i : ℕ) (v : Program) → slice_get (from_records ws rs) i ≡ Some v
    → (w : Program) × (r : ProgramRecord) × (slice_get ws i ≡ Some w) × (v ≡ from_record w r)
recorded [] rs i v e = cc
recorded (w ∷ ws) [] i v e = cc
recorded (w ∷ ws) (r ∷ rs) zero v e = (w, r, refl, sym (same_Some (from_record w r) v e))
recorded (w ∷ ws) (r ∷ rs) (suc i) v e = recorded ws rs i v e

-- ---- actors that are over

-- the same actor, or both have nothing to come
abbrev pub Stays : Actor → Actor → Type 0
Stays a b = (b ≡ a) ⊎ ((a.notes ≡ []) × (b.notes ≡ []))

none_comes : (a : Actor) → a.notes ≡ [] → HasNotes a → ⊥
none_comes a e h = let z : length a.notes ≡ 0 = ap length e in omega arith

stays_at : (p q : List Actor) → AllZip Stays p q → (i : ℕ) (a : Actor) → slice_get p i ≡ Some a → HasNotes a → slice_get q i ≡ Some a
stays_at [] [] h i a e has = cc
stays_at (c ∷ p) (d ∷ q) h zero a e has = by h.0
  where
    same : c ≡ a
    same = same_Some c a e

    by : Stays c d → Some d ≡ Some a
    by (inl s) = ap Some (s ∙ same)
    by (inr none) = absurd (none_comes a (ap (λ (z : Actor). z.notes) (sym same) ∙ none.0) has)
stays_at (c ∷ p) (d ∷ q) h (suc i) a e has = stays_at p q h.1 i a e has
stays_at [] (d ∷ q) h i a e has = absurd h
stays_at (c ∷ p) [] h i a e has = absurd h

stays_back : (p q : List Actor) → AllZip Stays p q → (i : ℕ) (b : Actor) → slice_get q i ≡ Some b → HasNotes b → slice_get p i ≡ Some b
stays_back [] [] h i b e has = cc
stays_back (c ∷ p) (d ∷ q) h zero b e has = by h.0
  where
    same : d ≡ b
    same = same_Some d b e

    by : Stays c d → Some c ≡ Some b
    by (inl s) = ap Some (sym s ∙ same)
    by (inr none) = absurd (none_comes b (ap (λ (z : Actor). z.notes) (sym same) ∙ none.1) has)
stays_back (c ∷ p) (d ∷ q) h (suc i) b e has = stays_back p q h.1 i b e has
stays_back [] (d ∷ q) h i b e has = absurd h
stays_back (c ∷ p) [] h i b e has = absurd h

stays_set : (p q : List Actor) (i : ℕ) (a : Actor) → AllZip Stays p q → AllZip Stays (slice_set p i a) (slice_set q i a)
stays_set [] [] i a h = tt
stays_set (c ∷ p) (d ∷ q) zero a h = (inl refl, h.1)
stays_set (c ∷ p) (d ∷ q) (suc i) a h = (h.0, stays_set p q i a h.1)
stays_set [] (d ∷ q) i a h = absurd h
stays_set (c ∷ p) [] i a h = absurd h

pub stays_over : (p q : List Actor) → AllZip Stays p q → IsOver p → IsOver q
stays_over [] [] h all = all
stays_over (c ∷ p) (d ∷ q) h all = All-cons (λ (z : Actor). z.notes ≡ []) d q (by h.0) (stays_over p q h.1 (All-tail (λ (z : Actor). z.notes ≡ []) c p all))
  where
    by : Stays c d → d.notes ≡ []
    by (inl s) = ap (λ (z : Actor). z.notes) s ∙ All-head (λ (z : Actor). z.notes ≡ []) c p all
    by (inr none) = none.1
stays_over [] (d ∷ q) h all = absurd h
stays_over (c ∷ p) [] h all = absurd h

-- ---- events of programs that go on are those of the programs

module _ (ws : List Program) (rs : List ProgramRecord) (detaches : List Detach) where
  plays_from : (number : ℕ) (p q p' : List Actor) (ds ds' : List Device) (lines : List Line) → AllZip Stays p q → Plays (from_records ws rs) detaches number p ds lines p' ds'
      → (q' : List Actor) × Plays ws detaches number q ds lines q' ds' × AllZip Stays p' q'
  plays_from number p q p' ds ds' lines h play =
      let f = recorded ws rs play.i play.w play.program in
      let a : Actor = record { due = play.a.due + put_off (turn_of play.a.notes); notes = behind_turn play.a.notes; outcomes = play.outcomes; answers = play.answers } in
      let calls : CallsMeet (from_record f.0 f.1) (turn_of play.a.notes) play.a.outcomes play.a.answers (detached number detaches ds) play.outcomes play.answers ds' =
      subst (λ (v : Program). CallsMeet v (turn_of play.a.notes) play.a.outcomes play.a.answers (detached number detaches ds) play.outcomes play.answers ds') f.3 play.calls in (
        slice_set q play.i a,
        record {
          i = play.i;
          a = play.a;
          w = f.0;
          next = record {
            there = stays_at p q h play.i play.a play.next.there play.next.unfinished;
            unfinished = play.next.unfinished;
            least = λ j b e has. play.next.least j b (stays_back p q h j b e has) has;
          };
          program = f.2;
          outcomes = play.outcomes;
          answers = play.answers;
          calls = calls_from f.0 f.1 (turn_of play.a.notes) play.a.outcomes play.a.answers (detached number detaches ds) play.outcomes play.answers ds' calls;
          made = play.made ∙ ap (λ (v : Program). turn_lines play.i v play.a) f.3;
          after = refl;
        },
        subst (λ (z : List Actor). AllZip Stays z (slice_set q play.i a)) (sym play.after) (stays_set p q play.i a h),
      )

  pub events_from : (number : ℕ) (p q last : List Actor) (ds ds' : List Device) (lines : List Line) → AllZip Stays p q → Events (from_records ws rs) detaches number p ds lines last ds'
      → (end : List Actor) × Events ws detaches number q ds lines end ds' × AllZip Stays last end
  events_from number p q last ds ds' lines h no_event = (q, no_event, h)
  events_from number p q last ds ds' lines h (an_event {actors' = mid} {ds' = es} {lines = first} {more = more} play rest e) =
      let r = plays_from number p q mid ds es first h play in
      let on = events_from (suc number) mid r.0 last es ds' more r.2 rest in
      (on.0, an_event r.1 on.1 e, on.2)

-- ---- the second world's actors behind the first

-- one that is over has the tick and the answer lines that it had
abbrev pub fitted : ProgramRecord → (now next : Actor) → Actor
fitted fresh now next = next
fitted (paused due x memory) now next = next
fitted over now next = record { due = now.due; notes = []; outcomes = next.outcomes; answers = now.answers }

pub fitted_stays : (w : Program) (r : ProgramRecord) (now next : Actor) → StartsHeld (from_record w r) next → Stays next (fitted r now next)
fitted_stays w fresh now next h = inl refl
fitted_stays w (paused due x memory) now next h = inl refl
fitted_stays w over now next h = inr (h.story, refl)

pub fitted_notes : (w : Program) (r : ProgramRecord) (now next : Actor) → StartsHeld (from_record w r) next → (fitted r now next).notes ≡ protocol_story (from_record w r) (fitted r now next).outcomes
fitted_notes w fresh now next h = h.story
fitted_notes w (paused due x memory) now next h = h.story
fitted_notes w over now next h = refl

pub fitted_outcomes : (r : ProgramRecord) (now next : Actor) → (fitted r now next).outcomes ≡ next.outcomes
fitted_outcomes fresh now next = refl
fitted_outcomes (paused due x memory) now next = refl
fitted_outcomes over now next = refl

fitted_due : (w : Program) (r : ProgramRecord) (made : List Note) (met : List Outcome) (now next : Actor) → StandsSo w made met now r → StartsHeld (from_record w r) next
    → ((fitted r now next).due ≡ now.due) × ((fitted r now next).answers ≡ now.answers)
fitted_due w fresh made met now next h s = let z = s.starts in (z.due ∙ sym h.due, z.answers ∙ sym h.answers)
fitted_due w (paused due x memory) made met now next h s = let z = s.starts in (z.due ∙ sym h.is_due, z.answers ∙ sym h.answers)
fitted_due w over made met now next h s = (refl, refl)

-- the record, with what the actor has made and met since
pub again_so : (w : Program) (was now : Actor) (r : ProgramRecord) → IsRecordOf w was now r → (s : Since was now) → StandsSo w s.made s.used now r
again_so w was now r h s =
    let made : h.made ≡ s.made = append_cancel_right h.made s.made now.notes (sym h.notes ∙ s.notes) in
    let met : h.met ≡ s.used = append_cancel_right h.met s.used now.outcomes (sym h.outcomes ∙ s.outcomes) in
    subst (λ (es : List Note). StandsSo w es s.used now r) made (subst (λ (os : List Outcome). StandsSo w h.made os now r) met h.stands)

-- what it tells, whatever its calls meet from here on
told_since : (w : Program) (was now : Actor) (r : ProgramRecord) → StartsHeld w was → IsRecordOf w was now r → (s : Since was now) → (rest : List Outcome)
    → protocol_story w (s.used ++ rest) ≡ s.made ++ protocol_story (from_record w r) rest
told_since w was now r held h s rest = rest_told w was now r s.made s.used held s.count s.notes s.outcomes (again_so w was now r h s) rest

swapped_so : (w : Program) (was now next : Actor) (r : ProgramRecord) → StartsHeld w was → IsRecordOf w was now r → (s : Since was now) → StartsHeld (from_record w r) next
    → Swapped now (fitted r now next)
swapped_so w was now next r held h s begins =
    let b : Actor = fitted r now next in
    let same = fitted_due w r s.made s.used now next (again_so w was now r h s) begins in
    let here : protocol_story w (s.used ++ now.outcomes) ≡ s.made ++ now.notes = ap (protocol_story w) (sym s.outcomes) ∙ sym held.story ∙ s.notes in
    let there : protocol_story w (s.used ++ b.outcomes) ≡ s.made ++ b.notes =
    told_since w was now r held h s b.outcomes ∙ ap (λ (es : List Note). s.made ++ es) (sym (fitted_notes w r now next begins)) in
    record {
      due = same.0;
      answers = same.1;
      on = λ has. some_to_come w s.used now.outcomes b.outcomes s.made now.notes b.notes s.count here there has;
      back = λ has. some_to_come w s.used b.outcomes now.outcomes s.made b.notes now.notes s.count there here has;
    }

starts_so : (w : Program) (was now next all : Actor) (r : ProgramRecord) → StartsHeld w was → IsRecordOf w was now r → StartsHeld (from_record w r) next
    → Twice was now all (fitted r now next) → StartsHeld w all
starts_so w was now next all r held h begins t =
    let s : Since was now = t.since in
    let b : Actor = fitted r now next in
    let st : Starts w was = held.starts in
    let sw : Swapped was all = t.swapped in
    record {
      starts = record { due = sw.due ∙ st.due; answers = sw.answers ∙ st.answers };
      story =
          t.notes
          ∙ ap (λ (es : List Note). s.made ++ es) (fitted_notes w r now next begins)
          ∙ sym (told_since w was now r held h s b.outcomes)
          ∙ ap (protocol_story w) (sym t.outcomes);
    }

joined_so : (w : Program) (was now next all : Actor) (r : ProgramRecord) → StartsHeld (from_record w r) next → Twice was now all (fitted r now next) → IsJoined was now next all
joined_so w was now next all r begins t =
    let s : Since was now = t.since in
    let same : (fitted r now next).notes ≡ next.notes =
    fitted_notes w r now next begins ∙ ap (protocol_story (from_record w r)) (fitted_outcomes r now next) ∙ sym begins.story in
    record {
      made = s.made;
      met = s.used;
      notes = s.notes;
      outcomes = s.outcomes;
      all_notes = t.notes ∙ ap (λ (es : List Note). s.made ++ es) same;
      all_outcomes = t.outcomes ∙ ap (λ (os : List Outcome). s.used ++ os) (fitted_outcomes r now next);
    }

-- ---- all of them

-- programs with their actors, records and the second world's actors
abbrev Fives : List Program → List Actor → List Actor → List ProgramRecord → List Actor → Type 0
Fives [] [] [] [] [] = Unit {0}
Fives (w ∷ ws) (a ∷ was) (b ∷ now) (r ∷ rs) (c ∷ next) = (StartsHeld w a × IsRecordOf w a b r × StartsHeld (from_record w r) c × Since a b) × Fives ws was now rs next
Fives _ _ _ _ _ = ⊥

five : (ws : List Program) (was now : List Actor) (rs : List ProgramRecord) (next : List Actor) → AllZip StartsHeld ws was → AllZip Since was now → length rs ≡ length ws
    → ((i : ℕ) (w : Program) (a b : Actor) (r : ProgramRecord) → slice_get ws i ≡ Some w → slice_get was i ≡ Some a → slice_get now i ≡ Some b → slice_get rs i ≡ Some r → IsRecordOf w a b r)
    → AllZip StartsHeld (from_records ws rs) next → Fives ws was now rs next
five [] [] [] [] [] st si count each begins = tt
five (w ∷ ws) (a ∷ was) (b ∷ now) (r ∷ rs) (c ∷ next) st si count each begins =
    ((st.0, each 0 w a b r refl refl refl refl, begins.0, si.0), five ws was now rs next st.1 si.1 (omega arith) (λ i w a b r. each (suc i) w a b r) begins.1)
five [] (a ∷ was) now rs next st si count each begins = absurd st
five (w ∷ ws) [] now rs next st si count each begins = absurd st
five [] [] (b ∷ now) rs next st si count each begins = absurd si
five (w ∷ ws) (a ∷ was) [] rs next st si count each begins = absurd si
five [] [] [] (r ∷ rs) next st si count each begins = let no_way : ⊥ = omega arith in absurd no_way
five (w ∷ ws) (a ∷ was) (b ∷ now) [] next st si count each begins = let no_way : ⊥ = omega arith in absurd no_way
five [] [] [] [] (c ∷ next) st si count each begins = absurd begins
five (w ∷ ws) (a ∷ was) (b ∷ now) (r ∷ rs) [] st si count each begins = absurd begins

-- the second world's actors, those that are over as they were
abbrev all_fitted : List ProgramRecord → List Actor → List Actor → List Actor
all_fitted (r ∷ rs) (b ∷ now) (c ∷ next) = fitted r b c ∷ all_fitted rs now next
all_fitted _ _ _ = []

all_stay : (ws : List Program) (was now : List Actor) (rs : List ProgramRecord) (next : List Actor) → Fives ws was now rs next → AllZip Stays next (all_fitted rs now next)
all_stay [] [] [] [] [] h = tt
all_stay (w ∷ ws) (a ∷ was) (b ∷ now) (r ∷ rs) (c ∷ next) h = (fitted_stays w r b c h.0.2, all_stay ws was now rs next h.1)
all_stay _ _ _ _ _ h = absurd h

all_swapped : (ws : List Program) (was now : List Actor) (rs : List ProgramRecord) (next : List Actor) → Fives ws was now rs next → AllZip Swapped now (all_fitted rs now next)
all_swapped [] [] [] [] [] h = tt
all_swapped (w ∷ ws) (a ∷ was) (b ∷ now) (r ∷ rs) (c ∷ next) h = (swapped_so w a b c r h.0.0 h.0.1 h.0.3 h.0.2, all_swapped ws was now rs next h.1)
all_swapped _ _ _ _ _ h = absurd h

all_start : (ws : List Program) (was now : List Actor) (rs : List ProgramRecord) (next all : List Actor) → Fives ws was now rs next → Quads was now all (all_fitted rs now next)
    → AllZip StartsHeld ws all
all_start [] [] [] [] [] [] h q = tt
all_start [] [] [] [] [] (d ∷ all) h q = absurd q
all_start (w ∷ ws) (a ∷ was) (b ∷ now) (r ∷ rs) (c ∷ next) [] h q = absurd q
all_start (w ∷ ws) (a ∷ was) (b ∷ now) (r ∷ rs) (c ∷ next) (d ∷ all) h q =
    (starts_so w a b c d r h.0.0 h.0.1 h.0.2 q.0, all_start ws was now rs next all h.1 q.1)
all_start _ _ _ _ _ _ h q = absurd h

all_joined : (ws : List Program) (was now : List Actor) (rs : List ProgramRecord) (next all : List Actor) → Fives ws was now rs next → Quads was now all (all_fitted rs now next)
    → AreJoined was now next all
all_joined [] [] [] [] [] [] h q i a b c d ea eb ec ed = cc
all_joined [] [] [] [] [] (z ∷ all) h q i a b c d ea eb ec ed = absurd q
all_joined (w ∷ ws) (a ∷ was) (b ∷ now) (r ∷ rs) (c ∷ next) [] h q i a' b' c' d' ea eb ec ed = absurd q
all_joined (w ∷ ws) (a ∷ was) (b ∷ now) (r ∷ rs) (c ∷ next) (d ∷ all) h q zero a' b' c' d' ea eb ec ed =
    subst (λ (z : Actor). IsJoined z b' c' d') (same_Some a a' ea)
    (subst (λ (z : Actor). IsJoined a z c' d') (same_Some b b' eb)
    (subst (λ (z : Actor). IsJoined a b z d') (same_Some c c' ec) (subst (λ (z : Actor). IsJoined a b c z) (same_Some d d' ed) (joined_so w a b c d r h.0.2 q.0))))
all_joined (w ∷ ws) (a ∷ was) (b ∷ now) (r ∷ rs) (c ∷ next) (d ∷ all) h q (suc i) a' b' c' d' ea eb ec ed = all_joined ws was now rs next all h.1 q.1 i a' b' c' d' ea eb ec ed
all_joined _ _ _ _ _ _ h q i a b c d ea eb ec ed = absurd h

pub worlds_join : WorldsJoin
worlds_join begun ws detaches ds ds' last number lines more s world snap next =
    let si = played_since ws detaches world.count (suc begun) world.actors world.now ds ds' lines world.played in
    let h : Fives ws world.actors world.now s.programs next.actors = five ws world.actors world.now s.programs next.actors world.starts si snap.count snap.each next.starts in
    let again =
    played_again ws detaches world.count (suc begun) world.actors world.now (all_fitted s.programs world.now next.actors) ds ds' lines world.played
    (all_swapped ws world.actors world.now s.programs next.actors h) in
    let on =
    events_from ws s.programs detaches (suc s.events) next.actors (all_fitted s.programs world.now next.actors) next.last ds' last more
    (all_stay ws world.actors world.now s.programs next.actors h) next.events in
    let at : suc s.events ≡ suc begun + world.count = omega (arith, snap.events, world.numbered) in (
      record {
        actors = again.0;
        last = on.0;
        starts = all_start ws world.actors world.now s.programs next.actors again.0 h again.2;
        events =
            then_events ws detaches world.count (suc begun) (suc s.events) again.0 (all_fitted s.programs world.now next.actors) on.0 ds ds' last lines more at again.1 on.1;
        over = stays_over next.last on.0 on.2 next.over;
      },
      all_joined ws world.actors world.now s.programs next.actors again.0 h again.2,
    )

pub joined_lines_are_one : JoinedLinesAreOne
joined_lines_are_one begun ws detaches ds ds' last last' number lines more all s none world snap next whole =
    let joined = (worlds_join begun ws detaches ds ds' last number lines more s world snap next).0 in
    unbound_fix_lines begun ws detaches ds last last' (lines ++ more) all none joined whole
