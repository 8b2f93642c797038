-- Runs of blocking worlds without mailboxes are those of the world of `world_model`: there no story is cut.
use Rattle.std.proofs.Common.{arith, ◌≡◌, ℕ, suc, List, [], ◌∷◌, ◌++◌, length, map, Some, Bool, true, false, All, refl, sym, ap, ◌∙◌, subst, slice_get}
use Rattle.std.specs.Prelude.{◌||◌}
use Rattle.std.specs.List.{AllZip}
use Rattle.std.proofs.lemmas.List.{length-map}
use Rattle.std.proofs.lemmas.List.Elements.{All-nil, All-cons}
use Rattle.wa_types.specs.Pausing.{Settings}
use Rattle.wa_model.specs.declared.answers.Detach.{Detach}
use Rattle.wa_model.specs.Outside.{Line}
use Rattle.wa_model.specs.Plan.{Outcome}
use Rattle.wa_model.specs.Blocking.{Note}
use Rattle.world_model.specs.World.{Actor as Unboxed, BlockingWorld as UnboxedBlocking, Events as UnboxedEvents, StartsOriginal as UnboxedStarts}
use Rattle.world_model.specs.World.{BlockingStory, Device, Original, Program, at_start, is_end, spent, whole}
use Rattle.run_laws.specs.Growing.{EndIsLast}
use Rattle.run_laws.proofs.Ending.{expected_end_last}
use Rattle.world_laws.proofs.Places.{map_at, of_map, zip_at, zip_both, zipped}
use Rattle.mail_laws.specs.MailWorld.{Actor, StoryOrCut, BlockingWorld, StartsOriginal, begins_over, over_at, pauses, sharing, tells_end, unblocked, waits}
use Rattle.mail_laws.specs.Told.{ends_program}
use Rattle.mail_laws.specs.WithoutBoxes.{BlockingWithoutBoxes, IsAwake, bare, boxed, unboxed}
use Rattle.mail_laws.proofs.BareWorlds.{boxed_over, calm_events, first_ends, told_events, unboxed_over}
use Rattle.mail_laws.proofs.CalmLines.{no_true}
use Rattle.mail_laws.proofs.TurnsTold.{pause_ends}
use Rattle.mail_laws.proofs.WithoutBoxes.{events_are_unboxed, unboxed_events_are}

-- ---- stories end, and a cut one has no end

last_ends : (xs : List Note) (x : Note) → is_end x.event ≡ true → ends_program (xs ++ x ∷ []) ≡ true
last_ends [] x e = first_ends (is_end x.event) false e
last_ends (y ∷ ys) x e = by (is_end y.event) (last_ends ys x e)
  where
    by : (b : Bool) → ends_program (ys ++ x ∷ []) ≡ true → (b || ends_program (ys ++ x ∷ [])) ≡ true
    by true f = refl
    by false f = f

story_ends : (s : Settings) (w : Program) (os : List Outcome) (notes : List Note) → BlockingStory s w os notes → ends_program notes ≡ true
story_ends s w os notes (whole x before _ e split end) = ap ends_program split ∙ last_ends before x end
story_ends s w os notes (spent j before _ at is le live never moment e) = ap ends_program e ∙ last_ends before _ refl

-- behind an end there is nothing, and so no pause
no_pause : (xs ys : List Note) → EndIsLast (xs ++ ys) → ends_program xs ≡ true → pauses xs ≡ true → ⊥
no_pause [] ys last e p = no_true e
no_pause (x ∷ []) ys last e p = by (is_end x.event) (pause_ends x.event p).2 e
  where
    by : (b : Bool) → b ≡ false → (b || false) ≡ true → ⊥
    by true f g = no_true (sym f)
    by false f g = no_true g
no_pause (x ∷ z ∷ xs) ys last e p = by (is_end x.event) refl e (λ g. no_pause (z ∷ xs) ys behind g p)
  where
    behind : EndIsLast (z ∷ (xs ++ ys))
    behind i y there end = let long = last (suc i) y there end in omega (arith, long)

    by : (b : Bool) → is_end x.event ≡ b → (b || ends_program (z ∷ xs)) ≡ true → (ends_program (z ∷ xs) ≡ true → ⊥) → ⊥
    by true f g on = let long = last 0 x refl f in let never : ⊥ = omega (arith, long) in never
    by false f g on = on g

uncut : (s : Settings) (w : Program) (os : List Outcome) (notes : List Note) → StoryOrCut s w os notes → ends_program notes ≡ true → BlockingStory s w os notes
uncut s w os notes (unblocked story) e = story
uncut s w os notes (waits cost rest le is p) e =
    absurd (no_pause notes rest (subst EndIsLast is (expected_end_last w.source s w.plan os cost)) e p)

-- ---- from the one to the other

abbrev program_of : Original → Program
program_of o = o.program

boxed_starts : (os : List Original) (acts : List Unboxed) → AllZip UnboxedStarts os acts → AllZip StartsOriginal os (map boxed acts)
boxed_starts [] [] z = tt
boxed_starts [] (a ∷ acts) z = absurd z
boxed_starts (o ∷ os) [] z = absurd z
boxed_starts (o ∷ os) (a ∷ acts) z =
    let st = z.0 in
    (record { origin = st.origin; starts = record { due = st.starts.due; answers = st.starts.answers; parked = refl }; story = unblocked st.story }, boxed_starts os acts z.1)

starts_awake : (os : List Original) (acts : List Actor) → AllZip StartsOriginal os acts → All IsAwake acts
starts_awake [] [] z = All-nil IsAwake
starts_awake [] (a ∷ acts) z = absurd z
starts_awake (o ∷ os) [] z = absurd z
starts_awake (o ∷ os) (a ∷ acts) z = let st = z.0 in All-cons IsAwake a acts st.starts.parked (starts_awake os acts z.1)

starts_long : (os : List Original) (acts : List Actor) → AllZip StartsOriginal os acts → length acts ≡ length os
starts_long [] [] z = refl
starts_long [] (a ∷ acts) z = absurd z
starts_long (o ∷ os) [] z = absurd z
starts_long (o ∷ os) (a ∷ acts) z = ap suc (starts_long os acts z.1)

module _ (os : List Original) (detaches : List Detach) (ds ds' : List Device) (lines : List Line) where
  into_boxed : UnboxedBlocking os detaches ds lines ds' → BlockingWorld os detaches [] ds lines ds'
  into_boxed world =
      let on = unboxed_events_are (map program_of os) detaches 1 0 world.actors world.last ds ds' lines world.events in
      record {
        actors = map boxed world.actors;
        starts = boxed_starts os world.actors world.starts;
        runs = record { last = map boxed world.last; shared = bare on.0 ds'; events = on.1; over = boxed_over world.last world.over; devices = refl };
        ends = ends;
      }
    where
      ends : (i : ℕ) (w : Program) → slice_get (map program_of os) i ≡ Some w → begins_over w ≡ false → tells_end i lines ≡ true
      ends i w ew going =
          let o = of_map program_of os i w ew in
          let a = zip_at UnboxedStarts os world.actors world.starts i o.0 o.1 in
          told_events (map program_of os) detaches 1 world.actors world.last ds ds' lines i a.0 world.events world.over a.1
          (story_ends o.0.settings o.0.program a.0.outcomes a.0.notes (story a.2))
        where
          story : {o : Original} {a : Unboxed} → UnboxedStarts o a → BlockingStory o.settings o.program a.outcomes a.notes
          story st = st.story

  out_of_boxed : BlockingWorld os detaches [] ds lines ds' → UnboxedBlocking os detaches ds lines ds'
  out_of_boxed world = record {
    actors = map unboxed world.actors;
    last = map unboxed world.runs.last;
    starts = zipped UnboxedStarts os (map unboxed world.actors) (length-map world.actors unboxed ∙ starts_long os world.actors world.starts) each;
    events = subst (λ (es : List Device). UnboxedEvents (map program_of os) detaches 1 (map unboxed world.actors) ds lines (map unboxed world.runs.last) es) (sym world.runs.devices) there.0;
    over = unboxed_over world.runs.last world.runs.over;
  }
    where
      there : UnboxedEvents (map program_of os) detaches 1 (map unboxed world.actors) ds lines (map unboxed world.runs.last) world.runs.shared.devices
          × (world.runs.shared.boxes ≡ []) × All IsAwake world.runs.last
      there =
          events_are_unboxed (map program_of os) detaches 1 world.actors world.runs.last (sharing [] ds) world.runs.shared lines refl (starts_awake os world.actors world.starts) world.runs.events

      ended : (i : ℕ) (o : Original) (a : Actor) → slice_get os i ≡ Some o → slice_get world.actors i ≡ Some a → o.program.origin ≡ at_start
          → (b : Bool) → ends_program a.notes ≡ b → ends_program a.notes ≡ true
      ended i o a eo ea start true e = e
      ended i o a eo ea start false e =
          let here = map_at unboxed world.actors i a ea in
          let calm = calm_events (map program_of os) detaches 1 (map unboxed world.actors) (map unboxed world.runs.last) ds world.runs.shared.devices lines i (unboxed a) there.0 here e in
          let told = world.ends i o.program (map_at program_of os i o eo) (ap (over_at o.program.plan.entries) start) in
          absurd (no_true (sym calm ∙ told))

      one : (i : ℕ) (o : Original) (a : Actor) → slice_get os i ≡ Some o → slice_get world.actors i ≡ Some a → StartsOriginal o a → UnboxedStarts o (unboxed a)
      one i o a eo ea st = record {
        origin = st.origin;
        starts = record { due = st.starts.due; answers = st.starts.answers };
        story = uncut o.settings o.program a.outcomes a.notes st.story (ended i o a eo ea st.origin (ends_program a.notes) refl);
      }

      each : (i : ℕ) (o : Original) (b : Unboxed) → slice_get os i ≡ Some o → slice_get (map unboxed world.actors) i ≡ Some b → UnboxedStarts o b
      each i o b eo eb =
          let a = of_map unboxed world.actors i b eb in
          subst (UnboxedStarts o) a.2 (one i o a.0 eo a.1 (zip_both StartsOriginal os world.actors world.starts i o a.0 eo a.1))

pub blocking_without_boxes : BlockingWithoutBoxes
blocking_without_boxes os detaches ds ds' lines = (into_boxed os detaches ds ds' lines, out_of_boxed os detaches ds ds' lines)
