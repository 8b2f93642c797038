-- Runs of worlds without mailboxes are those of the world of `world_model`: there no story is cut.
use Rattle.std.proofs.Common.{arith, ◌≡◌, ◌≤◌, ◌<◌, ◌+◌, ◌⊎◌, inl, inr, ℕ, suc, List, [], ◌∷◌, ◌++◌, length, map, Some, None, Bool, true, false, All, refl, sym, ap, ◌∙◌, subst, slice_get, slice_set}
use Rattle.std.proofs.Common.{append-nil, length-append}
use Rattle.std.specs.Prelude.{◌||◌, ◌&&◌, nat_eq}
use Rattle.std.specs.List.{AllZip}
use Rattle.std.proofs.lemmas.Bool.{cases_eq}
use Rattle.std.proofs.lemmas.List.{length-map}
use Rattle.std.proofs.lemmas.List.Elements.{All-nil, All-cons, All-head, All-tail}
use Rattle.std.proofs.lemmas.List.Folds.{list_any-append}
use Rattle.std.proofs.lemmas.Option.{same_Some}
use Rattle.wa_model.specs.declared.answers.Detach.{Detach}
use Rattle.wa_model.specs.Outside.{Line}
use Rattle.wa_model.specs.Blocking.{Note}
use Rattle.world_model.specs.World.{Actor as Unboxed, Events as UnboxedEvents, IsOver as UnboxedOver, Plays as UnboxedPlays, ProtocolWorldFrom as UnboxedWorld, StartsHeld as UnboxedStarts}
use Rattle.world_model.specs.World.{an_event as then_unboxed, no_event as none_unboxed}
use Rattle.world_model.specs.World.{Device, Program, behind_turn, events_with_looks, is_end, line_at, protocol_story, put_off, turn_of}
use Rattle.world_laws.specs.Originals.{new_calls}
use Rattle.world_laws.specs.Played.{Played as UnboxedPlayed}
use Rattle.world_laws.proofs.Counting.{Ends}
use Rattle.world_laws.proofs.Places.{all_at, map_at, of_map, set_here, set_there, zip_at, zip_back, zipped}
use Rattle.world_laws.proofs.Replaying.{Since, played_since}
use Rattle.world_laws.proofs.Rests.{Further, further, further_counts}
use Rattle.world_laws.proofs.StoryParts.{story_ends}
use Rattle.world_laws.proofs.Turns.{turn_parts}
use Rattle.mail_laws.specs.Mailboxes.{Receive}
use Rattle.mail_laws.specs.MailWorld.{Actor, HasEnded, HeldStory, IsOver, ProtocolWorldFrom, StartsHeld, begins_over, pauses, sharing, tells_end, to_end, to_wait}
use Rattle.mail_laws.specs.Told.{ends_program}
use Rattle.mail_laws.specs.WithoutBoxes.{IsAwake, WorldsWithoutBoxes, bare, boxed, unboxed}
use Rattle.mail_laws.proofs.Beginnings.{none_empty, over_notes}
use Rattle.mail_laws.proofs.CalmLines.{no_true, others_calm, turn_calm}
use Rattle.mail_laws.proofs.Stalling.{both_false}
use Rattle.mail_laws.proofs.Played.{starts_long}
use Rattle.mail_laws.proofs.ToldAreWorlds.{ends_either, turn_ends}
use Rattle.mail_laws.proofs.TurnsTold.{pause_ends}
use Rattle.mail_laws.proofs.WithoutBoxes.{events_are_unboxed, unboxed_events_are}

-- ---- ends among notes

none_parts : (xs ys : List Note) → ends_program (xs ++ ys) ≡ false → (ends_program xs ≡ false) × (ends_program ys ≡ false)
none_parts [] ys e = (refl, e)
none_parts (x ∷ xs) ys e = by (is_end x.event) e (none_parts xs ys)
  where
    by : (b : Bool) → (b || ends_program (xs ++ ys)) ≡ false → (ends_program (xs ++ ys) ≡ false → (ends_program xs ≡ false) × (ends_program ys ≡ false))
        → ((b || ends_program xs) ≡ false) × (ends_program ys ≡ false)
    by true f on = absurd cc
    by false f on = on f

pub some_parts : (xs ys : List Note) → ends_program (xs ++ ys) ≡ true → (ends_program xs ≡ true) ⊎ (ends_program ys ≡ true)
some_parts [] ys e = inr e
some_parts (x ∷ xs) ys e = by (is_end x.event) e (some_parts xs ys)
  where
    by : (b : Bool) → (b || ends_program (xs ++ ys)) ≡ true → (ends_program (xs ++ ys) ≡ true → (ends_program xs ≡ true) ⊎ (ends_program ys ≡ true))
        → ((b || ends_program xs) ≡ true) ⊎ (ends_program ys ≡ true)
    by true f on = inl refl
    by false f on = on f

pub first_ends : (b c : Bool) → b ≡ true → (b || c) ≡ true
first_ends true c e = refl
first_ends false c e = absurd cc

then_ends : (b c : Bool) → b ≡ false → c ≡ true → (b || c) ≡ true
then_ends true c e f = refl
then_ends false c e f = f

-- the last of them is an end
ends_some : (xs : List Note) → Ends xs → ends_program xs ≡ true
ends_some [] h = absurd h
ends_some (x ∷ []) h = first_ends (is_end x.event) false h
ends_some (x ∷ y ∷ ys) h = then_ends (is_end x.event) (ends_program (y ∷ ys)) h.0 (ends_some (y ∷ ys) h.1)

-- behind an end there is nothing, and so no pause
no_pause : (xs ys : List Note) → Ends (xs ++ ys) → ends_program xs ≡ true → pauses xs ≡ true → ⊥
no_pause [] ys h e p = no_true e
no_pause (x ∷ []) ys h e p = by (is_end x.event) (pause_ends x.event p).2 e
  where
    by : (b : Bool) → b ≡ false → (b || false) ≡ true → ⊥
    by true f g = no_true (sym f)
    by false f g = no_true g
no_pause (x ∷ z ∷ xs) ys h e p = by (is_end x.event) h.0 e (no_pause (z ∷ xs) ys h.1)
  where
    by : (b : Bool) → b ≡ false → (b || ends_program (z ∷ xs)) ≡ true → (ends_program (z ∷ xs) ≡ true → pauses (z ∷ xs) ≡ true → ⊥) → ⊥
    by true f g on = no_true (sym f)
    by false f g on = on g p

some_ended : (xs : List Note) → ends_program xs ≡ true → 0 < length xs
some_ended [] e = absurd (no_true e)
some_ended (x ∷ xs) e = omega arith

-- ---- what lines tell of a program

module _ (ws : List Program) (detaches : List Detach) where
  as_played : (number : ℕ) (acts last : List Unboxed) (ds ds' : List Device) (lines : List Line) → UnboxedEvents ws detaches number acts ds lines last ds'
      → (count : ℕ) × UnboxedPlayed ws detaches number count acts ds lines last ds'
  as_played number acts last ds ds' lines none_unboxed = (0, (refl, refl, refl))
  as_played number acts last ds ds' lines (then_unboxed {actors' = next} {ds' = es} {lines = first} {more = more} play rest e) =
      let on = as_played (suc number) next last es ds' more rest in (suc on.0, (first, more, next, es, play, on.1, e))

  module _ (number : ℕ) (acts acts' : List Unboxed) (ds es : List Device) (lines : List Line) (p : UnboxedPlays ws detaches number acts ds lines acts' es) (i : ℕ) (a : Unboxed)
      (there : slice_get acts i ≡ Some a) where
    abbrev new : Unboxed
    new = record { due = p.a.due + put_off (turn_of p.a.notes); notes = behind_turn p.a.notes; outcomes = p.outcomes; answers = p.answers }

    here : i ≡ p.i → p.a ≡ a
    here same = same_Some p.a a (sym p.next.there ∙ ap (slice_get acts) (sym same) ∙ there)

    parts_of : i ≡ p.i → ends_program (turn_of p.a.notes ++ behind_turn p.a.notes) ≡ ends_program a.notes
    parts_of same = ap ends_program (turn_parts p.a.notes) ∙ ap (λ (x : Unboxed). ends_program x.notes) (here same)

    put : i ≡ p.i → slice_get acts' i ≡ Some new
    put same =
        ap (λ (l : List Unboxed). slice_get l i) p.after
        ∙ ap (slice_get (slice_set acts p.i new)) same
        ∙ set_here acts p.i new p.a p.next.there

    kept : (i ≡ p.i → ⊥) → slice_get acts' i ≡ Some a
    kept other =
        ap (λ (l : List Unboxed). slice_get l i) p.after
        ∙ set_there acts p.i i new other
        ∙ there

    -- no end is to come, and none was told
    calm_turn : ends_program a.notes ≡ false → (tells_end i lines ≡ false) × (b : Unboxed) × (slice_get acts' i ≡ Some b) × (ends_program b.notes ≡ false)
    calm_turn none = by (cases_eq i p.i)
      where
        by : (i ≡ p.i) ⊎ (i ≡ p.i → ⊥) → (tells_end i lines ≡ false) × (b : Unboxed) × (slice_get acts' i ≡ Some b) × (ends_program b.notes ≡ false)
        by (inl same) =
            let parts = none_parts (turn_of p.a.notes) (behind_turn p.a.notes) (parts_of same ∙ none) in (
              ap (λ (n : ℕ). tells_end n lines) same ∙ ap (tells_end p.i) p.made ∙ turn_calm {X = Receive} p.w.looks p.a.due p.i None (turn_of p.a.notes) parts.0,
              new,
              put same,
              parts.1,
            )
        by (inr other) = (
          ap (tells_end i) p.made ∙ others_calm p.i i (line_at p.a.due p.i) (λ e. other (sym e)) (λ e. refl) (events_with_looks p.w.looks (turn_of p.a.notes)),
          a,
          kept other,
          none,
        )

    -- an end that is to come is told, or is to come still
    told_turn : ends_program a.notes ≡ true → (tells_end i lines ≡ true) ⊎ ((b : Unboxed) × (slice_get acts' i ≡ Some b) × (ends_program b.notes ≡ true))
    told_turn some = by (cases_eq i p.i)
      where
        by_parts : i ≡ p.i → (ends_program (turn_of p.a.notes) ≡ true) ⊎ (ends_program (behind_turn p.a.notes) ≡ true)
            → (tells_end i lines ≡ true) ⊎ ((b : Unboxed) × (slice_get acts' i ≡ Some b) × (ends_program b.notes ≡ true))
        by_parts same (inl h) =
            inl (ap (λ (n : ℕ). tells_end n lines) same ∙ ap (tells_end p.i) p.made ∙ turn_ends {X = Receive} p.w.looks p.a.due p.i None (turn_of p.a.notes) h)
        by_parts same (inr h) =
            inr (new, put same, h)

        by : (i ≡ p.i) ⊎ (i ≡ p.i → ⊥) → (tells_end i lines ≡ true) ⊎ ((b : Unboxed) × (slice_get acts' i ≡ Some b) × (ends_program b.notes ≡ true))
        by (inl same) = by_parts same (some_parts (turn_of p.a.notes) (behind_turn p.a.notes) (parts_of same ∙ some))
        by (inr other) = inr (a, kept other, some)

  pub calm_events : (number : ℕ) (acts last : List Unboxed) (ds ds' : List Device) (lines : List Line) (i : ℕ) (a : Unboxed) → UnboxedEvents ws detaches number acts ds lines last ds'
      → slice_get acts i ≡ Some a → ends_program a.notes ≡ false → tells_end i lines ≡ false
  calm_events number acts last ds ds' lines i a none_unboxed there none = refl
  calm_events number acts last ds ds' lines i a (then_unboxed {actors' = next} {ds' = es} {lines = first} {more = more} play rest e) there none =
      let one = calm_turn number acts next ds es first play i a there none in
      ap (tells_end i) e
      ∙ list_any-append (λ (l : Line). nat_eq l.program i && is_end l.event) first more
      ∙ both_false (tells_end i first) (tells_end i more) one.0 (calm_events (suc number) next last es ds' more i one.1 rest one.2 one.3)

  pub told_events : (number : ℕ) (acts last : List Unboxed) (ds ds' : List Device) (lines : List Line) (i : ℕ) (a : Unboxed) → UnboxedEvents ws detaches number acts ds lines last ds' → UnboxedOver last
      → slice_get acts i ≡ Some a → ends_program a.notes ≡ true → tells_end i lines ≡ true
  told_events number acts last ds ds' lines i a none_unboxed over there some =
      absurd (no_true (sym (ap ends_program (all_at (λ (x : Unboxed). x.notes ≡ []) acts i a over there)) ∙ some))
  told_events number acts last ds ds' lines i a (then_unboxed {actors' = next} {ds' = es} {lines = first} {more = more} play rest e) over there some =
      ap (tells_end i) e ∙ ends_either i first more (by (told_turn number acts next ds es first play i a there some) (λ b eb sb. told_events (suc number) next last es ds' more i b rest over eb sb))
    where
      by : (tells_end i first ≡ true) ⊎ ((b : Unboxed) × (slice_get next i ≡ Some b) × (ends_program b.notes ≡ true))
          → ((b : Unboxed) → slice_get next i ≡ Some b → ends_program b.notes ≡ true → tells_end i more ≡ true) → (tells_end i first ≡ true) ⊎ (tells_end i more ≡ true)
      by (inl t) on = inl t
      by (inr b) on = inr (on b.0 b.1 b.2)

-- ---- stories

-- a story that is told to its end isn't cut
module _ (w : Program) (a now : Unboxed) (since : Since a now) (all_made : now.notes ≡ []) where
  made_is : a.notes ≡ since.made
  made_is = since.notes ∙ ap (λ (l : List Note). since.made ++ l) all_made ∙ append-nil since.made

  met_is : new_calls a.notes ≡ length since.used
  met_is = ap new_calls made_is ∙ since.count

  few_calls : new_calls a.notes ≤ length a.outcomes
  few_calls = let all = ap length since.outcomes in omega (arith, met_is, all, length-append since.used now.outcomes)

  whole_story : HeldStory w a.outcomes a.notes → (begins_over w ≡ false → ends_program a.notes ≡ true) → a.notes ≡ protocol_story w a.outcomes
  whole_story (to_end e) ends = e
  whole_story (to_wait rest e p) ends = absurd (by (begins_over w) refl)
    where
      f : Further w since.used a.notes [] []
      f = further w since.used a.notes [] [] met_is now.outcomes rest (ap (protocol_story w) (sym since.outcomes) ∙ e)

      by_end : ends_program a.notes ≡ true → (protocol_story w (since.used ++ f.outcomes) ≡ []) ⊎ Ends (protocol_story w (since.used ++ f.outcomes)) → ⊥
      by_end some (inl none) =
          let z : length (a.notes ++ f.full) ≡ 0 = ap length (sym f.story ∙ none) in
          let s = some_ended a.notes some in
          omega (arith, z, s, length-append a.notes f.full)
      by_end some (inr h) = no_pause a.notes f.full (subst Ends f.story h) some p

      by : (b : Bool) → begins_over w ≡ b → ⊥
      by true done = no_true (ap pauses (sym (over_notes w a.outcomes a.notes (to_wait rest e p) done)) ∙ p)
      by false going = by_end (ends going) (story_ends w (since.used ++ f.outcomes) (further_counts w since.used a.notes [] [] met_is f))

-- ---- from the one to the other

boxed_starts : (ws : List Program) (acts : List Unboxed) → AllZip UnboxedStarts ws acts → AllZip StartsHeld ws (map boxed acts)
boxed_starts [] [] z = tt
boxed_starts [] (a ∷ acts) z = absurd z
boxed_starts (w ∷ ws) [] z = absurd z
boxed_starts (w ∷ ws) (a ∷ acts) z =
    let st = z.0 in
    (record { starts = record { due = st.starts.due; answers = st.starts.answers; parked = refl }; story = to_end st.story }, boxed_starts ws acts z.1)

abbrev pub NoNotes : Unboxed → Type 0
NoNotes a = a.notes ≡ []

pub boxed_over : (acts : List Unboxed) → UnboxedOver acts → IsOver (map boxed acts)
boxed_over [] h = All-nil HasEnded
boxed_over (a ∷ acts) h =
    All-cons HasEnded (boxed a) (map boxed acts) (record { no_notes = All-head NoNotes a acts h; awake = refl }) (boxed_over acts (All-tail NoNotes a acts h))

pub unboxed_over : (acts : List Actor) → IsOver acts → UnboxedOver (map unboxed acts)
unboxed_over [] h = All-nil NoNotes
unboxed_over (a ∷ acts) h =
    All-cons NoNotes (unboxed a) (map unboxed acts) (All-head HasEnded a acts h).no_notes (unboxed_over acts (All-tail HasEnded a acts h))

starts_awake : (ws : List Program) (acts : List Actor) → AllZip StartsHeld ws acts → All IsAwake acts
starts_awake [] [] z = All-nil IsAwake
starts_awake [] (a ∷ acts) z = absurd z
starts_awake (w ∷ ws) [] z = absurd z
starts_awake (w ∷ ws) (a ∷ acts) z = let st = z.0 in All-cons IsAwake a acts st.starts.parked (starts_awake ws acts z.1)

module _ (begun : ℕ) (ws : List Program) (detaches : List Detach) (ds ds' : List Device) (lines : List Line) where
  into_boxed : UnboxedWorld begun ws detaches ds lines ds' → ProtocolWorldFrom begun ws detaches [] ds lines ds'
  into_boxed world =
      let on = unboxed_events_are ws detaches (suc begun) 0 world.actors world.last ds ds' lines world.events in
      record {
        actors = map boxed world.actors;
        starts = boxed_starts ws world.actors world.starts;
        runs = record { last = map boxed world.last; shared = bare on.0 ds'; events = on.1; over = boxed_over world.last world.over; devices = refl };
        ends = ends;
      }
    where
      ends : (i : ℕ) (w : Program) → slice_get ws i ≡ Some w → begins_over w ≡ false → tells_end i lines ≡ true
      ends i w ew going =
          let a = zip_at UnboxedStarts ws world.actors world.starts i w ew in
          let played = as_played ws detaches (suc begun) world.actors world.last ds ds' lines world.events in
          let n = zip_at Since world.actors world.last (played_since ws detaches played.0 (suc begun) world.actors world.last ds ds' lines played.1) i a.0 a.1 in
          let none = all_at NoNotes world.last i n.0 world.over n.1 in
          told_events ws detaches (suc begun) world.actors world.last ds ds' lines i a.0 world.events world.over a.1
          (by a.0 a.2.story (story_ends w a.0.outcomes (subst (λ (l : List Note). new_calls l ≤ length a.0.outcomes) a.2.story (few_calls w a.0 n.0 n.2 none))))
        where
          by : (a : Unboxed) → a.notes ≡ protocol_story w a.outcomes → (protocol_story w a.outcomes ≡ []) ⊎ Ends (protocol_story w a.outcomes) → ends_program a.notes ≡ true
          by a story (inl none) = absurd (none_empty w a.outcomes going none)
          by a story (inr h) = ends_some a.notes (subst Ends (sym story) h)

  out_of_boxed : ProtocolWorldFrom begun ws detaches [] ds lines ds' → UnboxedWorld begun ws detaches ds lines ds'
  out_of_boxed world = record {
    actors = map unboxed world.actors;
    last = map unboxed world.runs.last;
    starts = zipped UnboxedStarts ws (map unboxed world.actors) (length-map world.actors unboxed ∙ starts_long ws world.actors world.starts) each;
    events = subst (λ (es : List Device). UnboxedEvents ws detaches (suc begun) (map unboxed world.actors) ds lines (map unboxed world.runs.last) es) (sym world.runs.devices) there.0;
    over = over;
  }
    where
      there : UnboxedEvents ws detaches (suc begun) (map unboxed world.actors) ds lines (map unboxed world.runs.last) world.runs.shared.devices
          × (world.runs.shared.boxes ≡ []) × All IsAwake world.runs.last
      there =
          events_are_unboxed ws detaches (suc begun) world.actors world.runs.last (sharing [] ds) world.runs.shared lines refl (starts_awake ws world.actors world.starts) world.runs.events

      over : UnboxedOver (map unboxed world.runs.last)
      over = unboxed_over world.runs.last world.runs.over

      each : (i : ℕ) (w : Program) (b : Unboxed) → slice_get ws i ≡ Some w → slice_get (map unboxed world.actors) i ≡ Some b → UnboxedStarts w b
      each i w b ew eb =
          let a = of_map unboxed world.actors i b eb in
          let st = zip_back StartsHeld ws world.actors world.starts i a.0 a.1 in
          let same : st.0 ≡ w = same_Some st.0 w (sym st.1 ∙ ew) in
          subst (λ (x : Unboxed). UnboxedStarts w x) a.2 (one a.0 (subst (λ (v : Program). StartsHeld v a.0) same st.2) a.1)
        where
          one : (a : Actor) → StartsHeld w a → slice_get world.actors i ≡ Some a → UnboxedStarts w (unboxed a)
          one a st ea =
              let here = map_at unboxed world.actors i a ea in
              let played = as_played ws detaches (suc begun) (map unboxed world.actors) (map unboxed world.runs.last) ds world.runs.shared.devices lines there.0 in
              let sinces =
              played_since ws detaches played.0 (suc begun) (map unboxed world.actors) (map unboxed world.runs.last) ds world.runs.shared.devices lines played.1 in
              let n = zip_at Since (map unboxed world.actors) (map unboxed world.runs.last) sinces i (unboxed a) here in
              let none = all_at NoNotes (map unboxed world.runs.last) i n.0 over n.1 in
              record {
                starts = record { due = st.starts.due; answers = st.starts.answers };
                story = whole_story w (unboxed a) n.0 n.2 none st.story (λ going. ended a ea going (ends_program a.notes) refl);
              }
            where
              ended : (a : Actor) → slice_get world.actors i ≡ Some a → begins_over w ≡ false → (b : Bool) → ends_program a.notes ≡ b → ends_program a.notes ≡ true
              ended a ea going true e = e
              ended a ea going false e =
                  let here = map_at unboxed world.actors i a ea in
                  let calm =
                  calm_events ws detaches (suc begun) (map unboxed world.actors) (map unboxed world.runs.last) ds world.runs.shared.devices lines i (unboxed a) there.0 here e in
                  absurd (no_true (sym calm ∙ world.ends i w ew going))

pub worlds_without_boxes : WorldsWithoutBoxes
worlds_without_boxes begun ws detaches ds ds' lines = (into_boxed begun ws detaches ds ds' lines, out_of_boxed begun ws detaches ds ds' lines)
