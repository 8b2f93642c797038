-- A world that has been played up to an event goes on to an end, turn by turn: what the next program may still tell is chosen anew, with devices that fail from now on.
use Rattle.std.proofs.Common.{arith, ◌≡◌, ◌+◌, ◌-◌, ◌*◌, ◌≤◌, ◌<◌, ◌⊎◌, inl, inr, ℕ, zero, suc, List, [], ◌∷◌, ◌++◌, length, map, Some, Bool, true, false, refl, sym, ap, ◌∙◌, subst, append_assoc, append-nil, length-append}
use Rattle.std.specs.Prelude.{if◌then◌else◌, slice_get, slice_set}
use Rattle.std.specs.List.{AllZip}
use Rattle.std.proofs.lemmas.List.{append_cancel_left, append_cancel_right}
use Rattle.std.proofs.lemmas.Option.{same_Some}
use Rattle.wa_model.specs.declared.answers.Detach.{Detach}
use Rattle.wa_model.specs.Outside.{AnswerLine, Call, Event, Line, called}
use Rattle.wa_model.specs.Plan.{Outcome}
use Rattle.wa_model.specs.Blocking.{Note}
use Rattle.world_model.specs.World.{Actor, CallsMeet, Device, Events, HasNotes, IsNext, IsOver, Plays, Program, ProtocolWorldFrom, StartsHeld, an_event, answers_from, behind_turn, call_in, detached, due_from, ends_turn, no_event, protocol_story, put_off, turn_lines, turn_of}
use Rattle.world_laws.specs.Originals.{one_if, new_calls}
use Rattle.world_laws.specs.Existing.{WorldsEnd}
use Rattle.world_laws.specs.GoingOn.{WorldsGoOn, EachWorldEnds}
use Rattle.world_laws.specs.Played.{Played, ProtocolWorldUpToFrom}
use Rattle.world_laws.proofs.Played.{no_event_yet}
use Rattle.world_laws.proofs.Counting.{Ends, calls_on}
use Rattle.world_laws.proofs.Tails.{StoryForks, story_forks}
use Rattle.world_laws.proofs.StoryParts.{Begins, begins_any}
use Rattle.world_laws.proofs.StoryTurns.{begun_turns, one_if as one_turn, turns_in, turns_on}
use Rattle.world_laws.proofs.Turns.{end_turn, turn_again, turn_parts}
use Rattle.world_laws.proofs.Rests.{Further, further, further_ends}
use Rattle.world_laws.proofs.Nexts.{SomeNext, next_beside, none_or_some, some_next}
use Rattle.world_laws.proofs.Replaying.{Front, Since, Swapped, Twice, Quads, calls_front, played_again, played_since}
use Rattle.world_laws.proofs.Places.{map_at, of_map, put_back, set_here, zip_back}

-- ---- one program

calls_end : (xs : List Note) (y : Note) (c : Call) (more : List Note) → y.event ≡ called c → new_calls (xs ++ y ∷ more) ≡ new_calls xs + (1 + new_calls more)
calls_end xs y c more e =
    let one : new_calls (y ∷ more) ≡ 1 + new_calls more = ap (λ (v : Event). one_if (call_in v) + new_calls more) e in
    let all = calls_on xs (y ∷ more) in
    omega arith

-- a story that is told whole by its first calls is so whatever outcomes stand behind those
pub whole_alone : (w : Program) (pre tail : List Outcome) (done : List Note) → new_calls done ≡ length pre → protocol_story w (pre ++ tail) ≡ done → protocol_story w pre ≡ done
whole_alone w pre tail done count e = by_way (story_forks w pre tail)
  where
    by_way : (protocol_story w (pre ++ tail) ≡ protocol_story w pre) ⊎ StoryForks tail (length pre) (protocol_story w (pre ++ tail)) (protocol_story w pre) → protocol_story w pre ≡ done
    by_way (inl same) = sym same ∙ e
    by_way (inr f) =
        let a = calls_end f.before f.there f.same.2 f.more (f.same.0 ∙ f.same.3) in
        let b = ap new_calls (sym e ∙ f.second) in
        let c = f.count in
        let no_way : ⊥ = omega arith in absurd no_way

pub whole_any : (w : Program) (pre other : List Outcome) (done : List Note) → new_calls done ≡ length pre → protocol_story w pre ≡ done → protocol_story w (pre ++ other) ≡ done
whole_any w pre other done count e = by_way (story_forks w pre other)
  where
    by_way : (protocol_story w (pre ++ other) ≡ protocol_story w pre) ⊎ StoryForks other (length pre) (protocol_story w (pre ++ other)) (protocol_story w pre)
        → protocol_story w (pre ++ other) ≡ done
    by_way (inl same) = same ∙ e
    by_way (inr f) =
        let a = calls_end f.before f.here f.same.2 [] f.same.3 in
        let b = ap new_calls (sym e ∙ f.first) in
        let c = f.count in
        let no_way : ⊥ = omega arith in absurd no_way

none_behind : (xs ys : List Note) → xs ≡ xs ++ ys → ys ≡ []
none_behind xs ys e = append_cancel_left xs ys [] (sym e ∙ sym (append-nil xs))

-- where nothing is to come with some outcomes, nothing is with others
pub none_to_come : (w : Program) (pre t u : List Outcome) (done xs ys : List Note) → new_calls done ≡ length pre → protocol_story w (pre ++ t) ≡ done ++ xs
    → protocol_story w (pre ++ u) ≡ done ++ ys → xs ≡ [] → ys ≡ []
none_to_come w pre t u done xs ys count e f none =
    let whole = whole_alone w pre t done count (e ∙ ap (λ (zs : List Note). done ++ zs) none ∙ append-nil done) in
    none_behind done ys (sym (whole_any w pre u done count whole) ∙ f)

pub some_to_come : (w : Program) (pre t u : List Outcome) (done xs ys : List Note) → new_calls done ≡ length pre → protocol_story w (pre ++ t) ≡ done ++ xs
    → protocol_story w (pre ++ u) ≡ done ++ ys → 0 < length xs → 0 < length ys
some_to_come w pre t u done xs ys count e f has = by_notes (none_or_some ys)
  where
    by_notes : (ys ≡ []) ⊎ (0 < length ys) → 0 < length ys
    by_notes (inr h) = h
    by_notes (inl none) =
        let z : length xs ≡ 0 = ap length (none_to_come w pre u t done ys xs count f e none) in
        let no_way : ⊥ = omega arith in absurd no_way

-- ---- programs on their way

-- A program that has come so far: its calls have met these outcomes, it has made these notes, and is due then, with these lines left.
record Stage : Type 0 where
  program : Program
  met : List Outcome
  made : List Note
  due : ℕ
  answers : List AnswerLine
  count : new_calls made ≡ length met
  begins : Begins program (met ++ []) made

-- an actor that goes on from there
abbrev IsActor : Stage → Actor → Type 0
IsActor s a = (a.due ≡ s.due) × (a.answers ≡ s.answers) × (protocol_story s.program (s.met ++ a.outcomes) ≡ s.made ++ a.notes)

-- the one that no outcome is left for
abbrev actor_of : Stage → Actor
actor_of s = record { due = s.due; notes = s.begins.0; outcomes = []; answers = s.answers }

abbrev self : (s : Stage) → IsActor s (actor_of s)
self s = (refl, refl, s.begins.1)

abbrev programs_of : List Stage → List Program
programs_of ss = map (λ (s : Stage). s.program) ss

abbrev actors_of : List Stage → List Actor
actors_of ss = map actor_of ss

-- how many turns it may still have, eight for each
abbrev room : Stage → ℕ
room s = (s.program.steps + 8) - 8 * turns_in s.made

abbrev rooms : List Stage → ℕ
rooms [] = 0
rooms (s ∷ ss) = room s + rooms ss

programs_stay : (ss : List Stage) (i : ℕ) (s t : Stage) → slice_get ss i ≡ Some s → t.program ≡ s.program → programs_of (slice_set ss i t) ≡ programs_of ss
programs_stay [] i s t e p = refl
programs_stay (u ∷ ss) zero s t e p = ap (λ (z : Program). z ∷ programs_of ss) (p ∙ ap (λ (z : Stage). z.program) (sym (same_Some u s e)))
programs_stay (u ∷ ss) (suc i) s t e p = ap (λ (ps : List Program). u.program ∷ ps) (programs_stay ss i s t e p)

room_set : (ss : List Stage) (i : ℕ) (s t : Stage) → slice_get ss i ≡ Some s → rooms (slice_set ss i t) + room s ≡ rooms ss + room t
room_set [] i s t e = cc
room_set (u ∷ ss) zero s t e = let same : room u ≡ room s = ap room (same_Some u s e) in omega (arith, same)
room_set (u ∷ ss) (suc i) s t e = let ih = room_set ss i s t e in omega (arith, ih)

all_are : (ss : List Stage) → AllZip IsActor ss (actors_of ss)
all_are [] = tt
all_are (s ∷ ss) = (self s, all_are ss)

-- the actors of the stages, one of which has moved, and of the stages before that
acts_back : (ss : List Stage) (acts : List Actor) (i : ℕ) (s t : Stage) (a : Actor) → slice_get ss i ≡ Some s → AllZip IsActor (slice_set ss i t) acts → IsActor s a
    → AllZip IsActor ss (slice_set acts i a) × (b : Actor) × (slice_get acts i ≡ Some b) × IsActor t b
acts_back [] acts i s t a e h r = cc
acts_back (u ∷ ss) [] zero s t a e h r = absurd h
acts_back (u ∷ ss) [] (suc i) s t a e h r = absurd h
acts_back (u ∷ ss) (b ∷ acts) zero s t a e h r = ((subst (λ (z : Stage). IsActor z a) (sym (same_Some u s e)) r, h.1), b, refl, h.0)
acts_back (u ∷ ss) (b ∷ acts) (suc i) s t a e h r = let on = acts_back ss acts i s t a e h.1 r in ((h.0, on.0), on.1, on.2, on.3)

-- actors of one stage have both something to tell, or neither has
both_have : (s : Stage) (a b : Actor) → IsActor s a → IsActor s b → HasNotes a → HasNotes b
both_have s a b r q has = some_to_come s.program s.met a.outcomes b.outcomes s.made a.notes b.notes s.count r.2 q.2 has

next_acts : (ss : List Stage) (acts : List Actor) (i : ℕ) (s : Stage) (a : Actor) → AllZip IsActor ss acts → slice_get acts i ≡ Some a → IsActor s a → IsNext (actors_of ss) i (actor_of s)
    → IsNext acts i a
next_acts ss acts i s a h there r n =
    next_beside (actors_of ss) acts i (actor_of s) a there r.0 (both_have s (actor_of s) a (self s) r n.unfinished)
    (λ j b e has.
    let t = zip_back IsActor ss acts h j b e in
    (actor_of t.0, map_at actor_of ss j t.0 t.1, sym t.2.0, both_have t.0 b (actor_of t.0) t.2 (self t.0) has)) n

-- ---- turns

some_turns : (xs : List Note) → Ends xs → 1 ≤ turns_in (turn_of xs)
some_turns [] h = absurd h
some_turns (x ∷ []) h = by_end (ends_turn x.event) refl (end_turn x.event h)
  where
    by_end : (b : Bool) → ends_turn x.event ≡ b → b ≡ true → 1 ≤ turns_in (if b then x ∷ [] else x ∷ [])
    by_end true e t = let one = ap one_turn e in omega (arith, one)
    by_end false e t = cc
some_turns (x ∷ y ∷ ys) h = by_end (ends_turn x.event) refl (some_turns (y ∷ ys) h.1)
  where
    by_end : (b : Bool) → ends_turn x.event ≡ b → 1 ≤ turns_in (turn_of (y ∷ ys)) → 1 ≤ turns_in (if b then x ∷ [] else x ∷ turn_of (y ∷ ys))
    by_end true e on = let one = ap one_turn e in omega (arith, one)
    by_end false e on = omega (arith, on)

module _ (ws : List Program) (detaches : List Detach) where
  -- a run from these stages on
  record Runs (number : ℕ) (ss : List Stage) (ds : List Device) : Type 0 where
    acts : List Actor
    are : AllZip IsActor ss acts
    lines : List Line
    last : List Actor
    devices : List Device
    events : Events ws detaches number acts ds lines last devices
    over : IsOver last

  -- The turn of the next program, by what it may still tell.
  module _ (number : ℕ) (ss : List Stage) (ds : List Device) (i : ℕ) (s : Stage) (there : slice_get ss i ≡ Some s) (next : IsNext (actors_of ss) i (actor_of s)) where
    abbrev es : List Device
    es = detached number detaches ds

    rest : Further s.program s.met s.made s.answers es
    rest = further s.program s.met s.made s.answers es s.count [] s.begins.0 s.begins.1

    ends : Ends rest.full
    ends = by (further_ends s.program s.met s.made s.answers es s.count rest)
      where
        by : (rest.full ≡ []) ⊎ Ends rest.full → Ends rest.full
        by (inl none) =
            let has = some_to_come s.program s.met [] rest.outcomes s.made s.begins.0 rest.full s.count s.begins.1 rest.story next.unfinished in
            let z : length rest.full ≡ 0 = ap length none in
            let no_way : ⊥ = omega (arith, has, z) in absurd no_way
        by (inr h) = h

    abbrev turn : List Note
    turn = turn_of rest.full

    abbrev behind : List Note
    behind = behind_turn rest.full

    -- its calls take the first outcomes
    taken : Front s.program turn rest.outcomes s.answers es
    taken =
        calls_front s.program turn behind rest.outcomes s.answers es [] rest.left es
        (subst (λ (xs : List Note). CallsMeet s.program xs rest.outcomes s.answers es [] rest.left es) (sym (turn_parts rest.full)) rest.meets)

    story : protocol_story s.program ((s.met ++ taken.first) ++ taken.more) ≡ (s.made ++ turn) ++ behind
    story =
        ap (protocol_story s.program) (append_assoc s.met taken.first taken.more ∙ ap (λ (os : List Outcome). s.met ++ os) (sym taken.all))
        ∙ rest.story
        ∙ ap (λ (ns : List Note). s.made ++ ns) (sym (turn_parts rest.full))
        ∙ sym (append_assoc s.made turn behind)

    count : new_calls (s.made ++ turn) ≡ length (s.met ++ taken.first)
    count = omega (arith, calls_on s.made turn, length-append s.met taken.first, s.count, taken.count)

    abbrev stage : Stage
    stage = record {
      program = s.program;
      met = s.met ++ taken.first;
      made = s.made ++ turn;
      due = s.due + put_off turn;
      answers = taken.answers;
      count = count;
      begins = begins_any s.program (s.met ++ taken.first) taken.more [] (s.made ++ turn) count (behind, story);
    }

    smaller : room stage < room s
    smaller =
        let few = begun_turns s.program ((s.met ++ taken.first) ++ taken.more) (s.made ++ turn) (behind, story) in
        omega (arith, few, turns_on s.made turn, some_turns rest.full ends)

    -- an actor that tells the turn, in front of what one tells behind it
    abbrev before : Actor → Actor
    before b = record { due = s.due; notes = turn ++ b.notes; outcomes = taken.first ++ b.outcomes; answers = s.answers }

    is_before : (b : Actor) → IsActor stage b → IsActor s (before b)
    is_before b r = (
      refl,
      refl,
      ap (protocol_story s.program) (sym (append_assoc s.met taken.first b.outcomes)) ∙ r.2 ∙ append_assoc s.made turn b.notes,
    )

    again : (b : Actor) → IsActor stage b → (turn_of (turn ++ b.notes) ≡ turn) × (behind_turn (turn ++ b.notes) ≡ b.notes)
    again b r =
        turn_again rest.full b.notes
        (λ none. none_to_come s.program (s.met ++ taken.first) taken.more b.outcomes (s.made ++ turn) behind b.notes count story r.2 none)

    plays : (acts : List Actor) (b : Actor) → programs_of ss ≡ ws → slice_get acts i ≡ Some b → IsActor stage b → AllZip IsActor ss (slice_set acts i (before b))
        → Plays ws detaches number (slice_set acts i (before b)) ds (turn_lines i s.program (before b)) acts taken.devices
    plays acts b ps e r are =
        let a : Actor = before b in
        let t = again b r in
        let calls : CallsMeet s.program (turn_of a.notes) a.outcomes a.answers es b.outcomes b.answers taken.devices =
        subst (λ (ls : List AnswerLine). CallsMeet s.program (turn_of a.notes) a.outcomes a.answers es b.outcomes ls taken.devices) (sym r.1)
        (subst (λ (xs : List Note). CallsMeet s.program xs a.outcomes a.answers es b.outcomes taken.answers taken.devices) (sym t.0) (taken.calls b.outcomes)) in
        let moved : b ≡ record { due = a.due + put_off (turn_of a.notes); notes = behind_turn a.notes; outcomes = b.outcomes; answers = b.answers } =
        ap (λ (d : ℕ). record { due = d; notes = b.notes; outcomes = b.outcomes; answers = b.answers }) (r.0 ∙ ap (λ (xs : List Note). s.due + put_off xs) (sym t.0))
        ∙ ap (λ (xs : List Note). record { due = a.due + put_off (turn_of a.notes); notes = xs; outcomes = b.outcomes; answers = b.answers }) (sym t.1) in
        record {
          i = i;
          a = a;
          w = s.program;
          next = next_acts ss (slice_set acts i a) i s a are (set_here acts i a b e) (is_before b r) next;
          program = subst (λ (xs : List Program). slice_get xs i ≡ Some s.program) ps (map_at (λ (s : Stage). s.program) ss i s there);
          outcomes = b.outcomes;
          answers = b.answers;
          calls = calls;
          made = refl;
          after = put_back acts i a b e ∙ ap (λ (z : Actor). slice_set (slice_set acts i a) i z) moved;
        }

    runs_before : programs_of ss ≡ ws → Runs (suc number) (slice_set ss i stage) taken.devices → Runs number ss ds
    runs_before ps on =
        let found = acts_back ss on.acts i s stage (actor_of s) there on.are (self s) in
        let b : Actor = found.1 in
        let back = acts_back ss on.acts i s stage (before b) there on.are (is_before b found.3) in
        record {
          acts = slice_set on.acts i (before b);
          are = back.0;
          lines = turn_lines i s.program (before b) ++ on.lines;
          last = on.last;
          devices = on.devices;
          events = an_event (plays on.acts b ps found.2 found.3 back.0) on.events refl;
          over = on.over;
        }

  next_turn : (number : ℕ) (ss : List Stage) (ds : List Device) → programs_of ss ≡ ws → SomeNext (actors_of ss)
      → ((ss' : List Stage) (es : List Device) → rooms ss' < rooms ss → programs_of ss' ≡ ws → Runs (suc number) ss' es) → Runs number ss ds
  next_turn number ss ds ps n more =
      let s = of_map actor_of ss n.0 n.1 n.2.there in
      let next : IsNext (actors_of ss) n.0 (actor_of s.0) = subst (λ (z : Actor). IsNext (actors_of ss) n.0 z) (sym s.2) n.2 in
      let t : Stage = stage number ss ds n.0 s.0 s.1 next in
      let set = room_set ss n.0 s.0 t s.1 in
      let less = smaller number ss ds n.0 s.0 s.1 next in
      runs_before number ss ds n.0 s.0 s.1 next ps
      (more (slice_set ss n.0 t) (taken number ss ds n.0 s.0 s.1 next).devices (omega (arith, set, less)) (programs_stay ss n.0 s.0 t s.1 refl ∙ ps))

  over_runs : (number : ℕ) (ss : List Stage) (ds : List Device) → IsOver (actors_of ss) → Runs number ss ds
  over_runs number ss ds over = record { acts = actors_of ss; are = all_are ss; lines = []; last = actors_of ss; devices = ds; events = no_event; over = over }

  runs : (fuel number : ℕ) (ss : List Stage) (ds : List Device) → rooms ss ≤ fuel → programs_of ss ≡ ws → Runs number ss ds
  runs zero number ss ds le ps = by_next (some_next (actors_of ss))
    where
      by_next : IsOver (actors_of ss) ⊎ SomeNext (actors_of ss) → Runs number ss ds
      by_next (inl over) = over_runs number ss ds over
      by_next (inr n) = next_turn number ss ds ps n (λ ss' es lt q. let no_way : ⊥ = omega (arith, lt, le) in absurd no_way)
  runs (suc fuel) number ss ds le ps = by_next (λ ss' es small q. runs fuel (suc number) ss' es small q) (some_next (actors_of ss))
    where
      by_next : ((ss' : List Stage) (es : List Device) → rooms ss' ≤ fuel → programs_of ss' ≡ ws → Runs (suc number) ss' es) → IsOver (actors_of ss) ⊎ SomeNext (actors_of ss) → Runs number ss ds
      by_next more (inl over) = over_runs number ss ds over
      by_next more (inr n) = next_turn number ss ds ps n (λ ss' es lt q. more ss' es (omega (arith, lt, le)) q)

-- ---- all programs

abbrev told_since : (w : Program) (a now : Actor) → a.notes ≡ protocol_story w a.outcomes → (s : Since a now) → protocol_story w (s.used ++ now.outcomes) ≡ s.made ++ now.notes
told_since w a now from s = ap (protocol_story w) (sym s.outcomes) ∙ sym from ∙ s.notes

abbrev stage_of : (w : Program) (a now : Actor) → a.notes ≡ protocol_story w a.outcomes → Since a now → Stage
stage_of w a now from s = record {
  program = w;
  met = s.used;
  made = s.made;
  due = now.due;
  answers = now.answers;
  count = s.count;
  begins = begins_any w s.used now.outcomes [] s.made s.count (now.notes, told_since w a now from s);
}

stages : (ws : List Program) (p now : List Actor) → AllZip StartsHeld ws p → AllZip Since p now → List Stage
stages [] [] [] st si = []
stages (w ∷ ws) (a ∷ p) (n ∷ now) st si = stage_of w a n (st.0).story si.0 ∷ stages ws p now st.1 si.1
stages [] (a ∷ p) now st si = absurd st
stages (w ∷ ws) [] now st si = absurd st
stages [] [] (n ∷ now) st si = absurd si
stages (w ∷ ws) (a ∷ p) [] st si = absurd si

stages_programs : (ws : List Program) (p now : List Actor) (st : AllZip StartsHeld ws p) (si : AllZip Since p now) → programs_of (stages ws p now st si) ≡ ws
unfolding stages
stages_programs [] [] [] st si = refl
stages_programs (w ∷ ws) (a ∷ p) (n ∷ now) st si = ap (λ (zs : List Program). w ∷ zs) (stages_programs ws p now st.1 si.1)
stages_programs [] (a ∷ p) now st si = absurd st
stages_programs (w ∷ ws) [] now st si = absurd st
stages_programs [] [] (n ∷ now) st si = absurd si
stages_programs (w ∷ ws) (a ∷ p) [] st si = absurd si

swapped_one : (w : Program) (a now b : Actor) (from : a.notes ≡ protocol_story w a.outcomes) (s : Since a now) → IsActor (stage_of w a now from s) b → Swapped now b
swapped_one w a now b from s is =
    record {
      due = is.0;
      answers = is.1;
      on = λ has. both_have (stage_of w a now from s) now b (refl, refl, told_since w a now from s) is has;
      back = λ has. both_have (stage_of w a now from s) b now is (refl, refl, told_since w a now from s) has;
    }

all_swapped : (ws : List Program) (p now acts : List Actor) (st : AllZip StartsHeld ws p) (si : AllZip Since p now) → AllZip IsActor (stages ws p now st si) acts → AllZip Swapped now acts
unfolding stages
all_swapped [] [] [] [] st si is = tt
all_swapped [] [] [] (b ∷ acts) st si is = absurd is
all_swapped (w ∷ ws) (a ∷ p) (n ∷ now) [] st si is = absurd is
all_swapped (w ∷ ws) (a ∷ p) (n ∷ now) (b ∷ acts) st si is =
    (swapped_one w a n b (st.0).story si.0 is.0, all_swapped ws p now acts st.1 si.1 is.1)
all_swapped [] (a ∷ p) now acts st si is = absurd st
all_swapped (w ∷ ws) [] now acts st si is = absurd st
all_swapped [] [] (n ∷ now) acts st si is = absurd si
all_swapped (w ∷ ws) (a ∷ p) [] acts st si is = absurd si

starts_again : (w : Program) (a now b new : Actor) (st : StartsHeld w a) (s : Since a now) → IsActor (stage_of w a now st.story s) new → Twice a now b new → StartsHeld w b
starts_again w a now b new st s is t =
    let used : t.since.used ≡ s.used = append_cancel_right t.since.used s.used now.outcomes (sym t.since.outcomes ∙ s.outcomes) in
    let made : t.since.made ≡ s.made = append_cancel_right t.since.made s.made now.notes (sym t.since.notes ∙ s.notes) in
    let notes : b.notes ≡ s.made ++ new.notes = t.notes ∙ ap (λ (xs : List Note). xs ++ new.notes) made in
    let outcomes : s.used ++ new.outcomes ≡ b.outcomes = ap (λ (xs : List Outcome). xs ++ new.outcomes) (sym used) ∙ sym t.outcomes in
    record {
      starts = record { due = t.swapped.due ∙ st.starts.due; answers = t.swapped.answers ∙ st.starts.answers };
      story = notes ∙ sym is.2 ∙ ap (protocol_story w) outcomes;
    }

all_start : (ws : List Program) (p now q new : List Actor) (st : AllZip StartsHeld ws p) (si : AllZip Since p now) → AllZip IsActor (stages ws p now st si) new → Quads p now q new
    → AllZip StartsHeld ws q
unfolding stages
all_start [] [] [] [] [] st si is h = tt
all_start [] [] [] (b ∷ q) new st si is h = absurd h
all_start [] [] [] [] (t ∷ new) st si is h = absurd is
all_start (w ∷ ws) (a ∷ p) (n ∷ now) [] new st si is h = absurd h
all_start (w ∷ ws) (a ∷ p) (n ∷ now) (b ∷ q) [] st si is h = absurd is
all_start (w ∷ ws) (a ∷ p) (n ∷ now) (b ∷ q) (t ∷ new) st si is h =
    (starts_again w a n b t st.0 si.0 is.0 h.0, all_start ws p now q new st.1 si.1 is.1 h.1)
all_start [] (a ∷ p) now q new st si is h = absurd st
all_start (w ∷ ws) [] now q new st si is h = absurd st
all_start [] [] (n ∷ now) q new st si is h = absurd si
all_start (w ∷ ws) (a ∷ p) [] q new st si is h = absurd si

-- ---- events behind others

pub then_events : (ws : List Program) (detaches : List Detach) (count number at : ℕ) (p mid last : List Actor) (ds es ds' : List Device) (lines more : List Line) → at ≡ number + count
    → Played ws detaches number count p ds lines mid es → Events ws detaches at mid es more last ds' → Events ws detaches number p ds (lines ++ more) last ds'
then_events ws detaches zero number at p mid last ds es ds' lines more e h on =
    let z : at ≡ number = omega arith in
    let there : Events ws detaches number p ds more last ds' =
    subst (λ (d : List Device). Events ws detaches number p d more last ds') h.2
    (subst (λ (a : List Actor). Events ws detaches number a es more last ds') h.1 (subst (λ (k : ℕ). Events ws detaches k mid es more last ds') z on)) in
    subst (λ (ls : List Line). Events ws detaches number p ds ls last ds') (ap (λ (ls : List Line). ls ++ more) (sym h.0)) there
then_events ws detaches (suc count) number at p mid last ds es ds' lines more e h on =
    an_event h.4 (then_events ws detaches count (suc number) at h.2 mid last h.3 es ds' h.1 more (omega arith) h.5 on) (ap (λ (ls : List Line). ls ++ more) h.6 ∙ append_assoc h.0 h.1 more)

-- A whole run that goes on from there: what each actor has met and made since, its actor there has too.
pub record Whole (begun : ℕ) (ws : List Program) (detaches : List Detach) (ds : List Device) (lines : List Line) (was now : List Actor) : Type 0 where
  pub more : List Line
  pub last : List Device
  pub world : ProtocolWorldFrom begun ws detaches ds (lines ++ more) last
  pub ahead : List Actor
  pub again : Quads was now world.actors ahead

pub gone_on : (begun : ℕ) (ws : List Program) (detaches : List Detach) (ds ds' : List Device) (number : ℕ) (lines : List Line)
    (world : ProtocolWorldUpToFrom begun ws detaches ds number lines ds') → Whole begun ws detaches ds lines world.actors world.now
gone_on begun ws detaches ds ds' number lines world =
    let si = played_since ws detaches world.count (suc begun) world.actors world.now ds ds' lines world.played in
    let ss : List Stage = stages ws world.actors world.now world.starts si in
    let r : Runs ws detaches (suc begun + world.count) ss ds' = runs ws detaches (rooms ss) (suc begun + world.count) ss ds' (omega arith) (stages_programs ws world.actors world.now world.starts si) in
    let again =
    played_again ws detaches world.count (suc begun) world.actors world.now r.acts ds ds' lines world.played (all_swapped ws world.actors world.now r.acts world.starts si r.are) in
    record {
      more = r.lines;
      last = r.devices;
      world = record {
        actors = again.0;
        last = r.last;
        starts = all_start ws world.actors world.now again.0 r.acts world.starts si r.are again.2;
        events =
            then_events ws detaches world.count (suc begun) (suc begun + world.count) again.0 r.acts r.last ds ds' r.devices lines r.lines refl again.1 r.events;
        over = r.over;
      };
      ahead = r.acts;
      again = again.2;
    }

pub worlds_go_on : WorldsGoOn
worlds_go_on begun ws detaches ds ds' number lines world = let whole = gone_on begun ws detaches ds ds' number lines world in (whole.more, whole.last, whole.world)

-- before the first event
beginnings : (ws : List Program) → (acts : List Actor) × AllZip StartsHeld ws acts
beginnings [] = ([], tt)
beginnings (w ∷ ws) =
    let on = beginnings ws in (
      record { due = due_from w.origin; notes = protocol_story w []; outcomes = []; answers = answers_from w.answers w.origin } ∷ on.0,
      (record { starts = record { due = refl; answers = refl }; story = refl }, on.1),
    )

pub each_world_ends : EachWorldEnds
each_world_ends begun ws detaches ds =
    let start = beginnings ws in
    worlds_go_on begun ws detaches ds ds begun [] (no_event_yet begun ws detaches ds start.0 start.1).0

pub worlds_end : WorldsEnd
worlds_end begun ws detaches ds unbound = each_world_ends begun ws detaches ds
