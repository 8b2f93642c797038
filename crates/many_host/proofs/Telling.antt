-- Turns that were told are a world: the notes and outcomes that the definition wants beforehand are those that were told, and what is
-- still to be told behind them.
use Rattle.std.proofs.Common.{arith, ◌≡◌, ◌<◌, ◌≤◌, ◌+◌, ◌⊎◌, inl, inr, ℕ, zero, suc, List, [], ◌∷◌, ◌++◌, length, get_or, map, Option, Some, Bool, true, false, slice_get, slice_set, refl, sym, ap, ◌∙◌, subst, append_assoc, length-set}
use Rattle.std.specs.List.{AllZip}
use Rattle.std.specs.Option.{option_map}
use Rattle.std.proofs.lemmas.Bool.{cases_eq}
use Rattle.std.proofs.lemmas.List.{length-map, set-set}
use Rattle.std.proofs.lemmas.Option.{slice_get-map, slice_get-get_or, slice_get_within, same_Some}
use Rattle.wa_model.specs.declared.answers.Detach.{Detach}
use Rattle.wa_model.specs.Outside.{Line}
use Rattle.wa_model.specs.Plan.{Outcome}
use Rattle.wa_model.specs.Blocking.{Note}
use Rattle.world_model.specs.World.{Device, Program, Actor, CallsMeet, Plays, IsNext, HasNotes, StartsHeld, IsOver, detached, turn_of, behind_turn, put_off, line_at, events_with_looks, protocol_story, ProtocolWorldFrom}
use Rattle.event_order.specs.Dues.{HaveEnded}
use Rattle.world_laws.specs.Played.{ProtocolWorldUpToFrom}
use Rattle.world_laws.proofs.Played.{as_events, one_more}
use Rattle.many_host.specs.Turns.{HaveMet, Teller, starting, unless, due_of, having_told, behind, TellsTurn, TellsFrom, IsRest, HasStory}
use Rattle.many_host.specs.ToldTurns.{ToldIsWorld, AllToldIsWorld}
use Rattle.many_host.proofs.Numbers.{next_behind, sum_behind}
use Rattle.world_laws.proofs.Places.{item, set_here, set_there, set_same, zipped}
use Rattle.many_host.proofs.Turns.{turn_whole, behind_whole, some_note, calls_behind}

-- all that a program tells, and all the outcomes that its calls meet
record Whole : Type 0 where
  pub notes : List Note
  pub outcomes : List Outcome

-- a program of the world stands where a teller does, before what is still to come of the whole
record Ties (t : Teller) (h : Whole) (a : Actor) : Type 0 where
  pub due : a.due ≡ t.due
  pub answers : a.answers ≡ t.answers
  pub notes : t.told ++ a.notes ≡ h.notes
  pub outcomes : t.met ++ a.outcomes ≡ h.outcomes
  pub is_rest : IsRest t.has_ended a.notes

record Foretold (wholes : List Whole) (tellers : List Teller) (actors : List Actor) : Type 0 where
  pub wide : length wholes ≡ length tellers
  pub long : length actors ≡ length tellers
  pub each : (i : ℕ) (t : Teller) (h : Whole) (a : Actor) → slice_get tellers i ≡ Some t → slice_get wholes i ≡ Some h → slice_get actors i ≡ Some a → Ties t h a

unended : (b : Bool) (rest : List Note) → IsRest b rest → 0 < length rest → b ≡ false
unended true rest is some = let never : ⊥ = omega (arith, ap length is, some) in absurd never
unended false rest is some = refl

is_due : (t : Teller) → t.has_ended ≡ false → due_of t ≡ Some t.due
is_due t unfinished = ap (λ (b : Bool). unless b t.due) unfinished

due_at : (tellers : List Teller) (j : ℕ) (t : Teller) → slice_get tellers j ≡ Some t → t.has_ended ≡ false → slice_get (map due_of tellers) j ≡ Some (Some t.due)
due_at tellers j t there unfinished =
    slice_get-map due_of tellers j ∙ ap (option_map due_of) there ∙ ap (λ (o : Option ℕ). Some o) (is_due t unfinished)

-- ---- one turn, from behind

module _ (begun : ℕ) (programs : List Program) (detaches : List Detach) (wholes : List Whole) where
  module _ (number : ℕ) (mid tellers : List Teller) (es ds' : List Device) (lines : List Line) (actors : List Actor) (play : TellsTurn programs detaches number mid es lines tellers ds')
      (fore : Foretold wholes tellers actors) where
    within : play.i < length mid
    within = slice_get_within mid play.i play.t play.there

    abbrev told_now : Teller
    told_now = having_told play.t play.turn play.met play.answers

    as_long : length tellers ≡ length mid
    as_long = ap length play.after ∙ length-set mid play.i told_now

    told_there : slice_get tellers play.i ≡ Some told_now
    told_there = ap (λ (l : List Teller). slice_get l play.i) play.after ∙ set_here mid play.i told_now play.t play.there

    abbrev later : (a : Actor) × (slice_get actors play.i ≡ Some a)
    later = item actors play.i (omega (arith, within, as_long, fore.long))

    abbrev the_whole : (h : Whole) × (slice_get wholes play.i ≡ Some h)
    the_whole = item wholes play.i (omega (arith, within, as_long, fore.wide))

    tied : Ties told_now the_whole.0 later.0
    tied = fore.each play.i told_now the_whole.0 later.0 told_there the_whole.1 later.1

    -- the program as it stood before the turn
    abbrev before : Actor
    before = record { due = play.t.due; notes = play.turn ++ later.0.notes; outcomes = play.met ++ later.0.outcomes; answers = play.t.answers }

    abbrev acts : List Actor
    acts = slice_set actors play.i before

    before_there : slice_get acts play.i ≡ Some before
    before_there = set_here actors play.i before later.0 later.1

    here : (t : Teller) (h : Whole) (a : Actor) → t ≡ play.t → h ≡ the_whole.0 → a ≡ before → Ties t h a
    here t h a et eh ea =
        record {
          due = ap (λ (x : Actor). x.due) ea ∙ ap (λ (x : Teller). x.due) (sym et);
          answers = ap (λ (x : Actor). x.answers) ea ∙ ap (λ (x : Teller). x.answers) (sym et);
          notes =
              (λ k. (et k).told ++ (ea k).notes)
              ∙ sym (append_assoc play.t.told play.turn later.0.notes)
              ∙ tied.notes ∙ ap (λ (x : Whole). x.notes) (sym eh);
          outcomes =
              (λ k. (et k).met ++ (ea k).outcomes)
              ∙ sym (append_assoc play.t.met play.met later.0.outcomes)
              ∙ tied.outcomes ∙ ap (λ (x : Whole). x.outcomes) (sym eh);
          is_rest =
              let some : 0 < length a.notes = subst (λ (x : Actor). 0 < length x.notes) (sym ea) (some_note play.turn later.0.notes play.whole) in
              subst (λ (b : Bool). IsRest b a.notes) (sym (ap (λ (x : Teller). x.has_ended) et ∙ play.unfinished)) some;
        }

    fore_before : Foretold wholes mid acts
    fore_before =
        record {
          wide = fore.wide ∙ as_long;
          long = length-set actors play.i before ∙ fore.long ∙ as_long;
          each = λ j t h a et eh ea. by j t h a et eh ea (cases_eq j play.i);
        }
      where
        by : (j : ℕ) (t : Teller) (h : Whole) (a : Actor) → slice_get mid j ≡ Some t → slice_get wholes j ≡ Some h → slice_get acts j ≡ Some a → (j ≡ play.i) ⊎ (j ≡ play.i → ⊥) → Ties t h a
        by j t h a et eh ea (inl e) =
            here t h a
            (same_Some t play.t (sym et ∙ ap (slice_get mid) e ∙ play.there))
            (same_Some h the_whole.0 (sym eh ∙ ap (slice_get wholes) e ∙ the_whole.1))
            (same_Some a before (sym ea ∙ ap (slice_get acts) e ∙ before_there))
        by j t h a et eh ea (inr other) =
            fore.each j t h a
            (ap (λ (l : List Teller). slice_get l j) play.after ∙ set_there mid play.i j told_now other ∙ et)
            eh
            (sym (set_there actors play.i j before other) ∙ ea)

    is_next : IsNext acts play.i before
    is_next =
        record {
          there = before_there;
          unfinished = some_note play.turn later.0.notes play.whole;
          least = λ j b eb some. by j b eb some (item mid j (omega (arith, slice_get_within acts j b eb, fore_before.long)))
              (item wholes j (omega (arith, slice_get_within acts j b eb, fore_before.long, fore_before.wide)));
        }
      where
        by : (j : ℕ) (b : Actor) → slice_get acts j ≡ Some b → HasNotes b → (t : Teller) × (slice_get mid j ≡ Some t) → (h : Whole) × (slice_get wholes j ≡ Some h)
            → (play.t.due < b.due) ⊎ ((play.t.due ≡ b.due) × (play.i ≤ j))
        by j b eb some t h =
            let tie = fore_before.each j t.0 h.0 b t.1 h.1 eb in
            let least = play.next.least j t.0.due (due_at mid j t.0 t.1 (unended t.0.has_ended b.notes tie.is_rest some)) in
            subst (λ (n : ℕ). (play.t.due < n) ⊎ ((play.t.due ≡ n) × (play.i ≤ j))) (sym tie.due) least

    abbrev after : Actor
    after = record { due = before.due + put_off (turn_of before.notes); notes = behind_turn before.notes; outcomes = later.0.outcomes; answers = play.answers }

    turn_is : turn_of before.notes ≡ play.turn
    turn_is = turn_whole play.turn later.0.notes play.whole

    after_is : after ≡ later.0
    after_is = λ k. record { due = due k; notes = behind_whole play.turn later.0.notes play.whole k; outcomes = later.0.outcomes; answers = sym tied.answers k }
      where
        due : play.t.due + put_off (turn_of before.notes) ≡ later.0.due
        due = ap (λ (l : List Note). play.t.due + put_off l) turn_is ∙ sym tied.due

    plays : Plays programs detaches number acts es lines actors ds'
    plays =
        record {
          i = play.i;
          a = before;
          w = play.w;
          next = is_next;
          program = play.program;
          outcomes = later.0.outcomes;
          answers = play.answers;
          calls = subst (λ (l : List Note). CallsMeet play.w l before.outcomes before.answers (detached number detaches es) later.0.outcomes play.answers ds') (sym turn_is)
              (calls_behind play.w play.turn play.met [] later.0.outcomes play.t.answers play.answers (detached number detaches es) ds' play.calls);
          made = play.made ∙ ap (λ (l : List Note). map (line_at play.t.due play.i) (events_with_looks play.w.looks l)) (sym turn_is);
          after = sym (set-set actors play.i before after ∙ ap (slice_set actors play.i) after_is ∙ set_same actors play.i later.0 later.1);
        }

  -- ---- all turns

  -- an actor at its start will meet the outcomes of the whole, and make its notes
  abbrev SameMet : List Actor → Type 0
  SameMet starts = (i : ℕ) (h : Whole) (a : Actor) → slice_get wholes i ≡ Some h → slice_get starts i ≡ Some a → (a.outcomes ≡ h.outcomes) × (a.notes ≡ h.notes)

  abbrev Reaches : (number : ℕ) (ds : List Device) (lines : List Line) (ds' : List Device) → List Actor → Type 0
  Reaches number ds lines ds' actors = (world : ProtocolWorldUpToFrom begun programs detaches ds (behind begun number) lines ds') × (world.now ≡ actors) × SameMet world.actors

  module _ (stories : (i : ℕ) (w : Program) (h : Whole) → slice_get programs i ≡ Some w → slice_get wholes i ≡ Some h → h.notes ≡ protocol_story w h.outcomes) where
    start : (tellers : List Teller) (actors : List Actor) → tellers ≡ map starting programs → Foretold wholes tellers actors → AllZip StartsHeld programs actors
    start tellers actors is fore = zipped StartsHeld programs actors (fore.long ∙ as_many) each where
      as_many : length tellers ≡ length programs
      as_many = ap length is ∙ length-map programs starting

      each : (i : ℕ) (w : Program) (a : Actor) → slice_get programs i ≡ Some w → slice_get actors i ≡ Some a → StartsHeld w a
      each i w a ew ea =
          let h = item wholes i (omega (arith, slice_get_within actors i a ea, fore.long, fore.wide)) in
          let et : slice_get tellers i ≡ Some (starting w) = ap (λ (l : List Teller). slice_get l i) is ∙ slice_get-map starting programs i ∙ ap (option_map starting) ew in
          let tie = fore.each i (starting w) h.0 a et h.1 ea in
          record {
            starts = record { due = tie.due; answers = tie.answers };
            story = tie.notes ∙ stories i w h.0 ew h.1 ∙ ap (protocol_story w) (sym tie.outcomes);
          }

    start_met : (tellers : List Teller) (actors : List Actor) → tellers ≡ map starting programs → Foretold wholes tellers actors → SameMet actors
    start_met tellers actors is fore i h a eh ea =
        let within : i < length programs = omega (arith, slice_get_within actors i a ea, fore.long, ap (λ (l : List Teller). length l) is, length-map programs starting) in
        let w = item programs i within in
        let et : slice_get tellers i ≡ Some (starting w.0) = ap (λ (l : List Teller). slice_get l i) is ∙ slice_get-map starting programs i ∙ ap (option_map starting) w.1 in
        let tie = fore.each i (starting w.0) h a et eh ea in
        (tie.outcomes, tie.notes)

    reaches : (number : ℕ) (ds ds' : List Device) (lines : List Line) (tellers : List Teller) (actors : List Actor) → TellsFrom begun programs detaches ds number lines tellers ds'
        → Foretold wholes tellers actors → Reaches number ds lines ds' actors
    reaches zero ds ds' lines tellers actors tells fore = (
      record { actors = actors; now = actors; starts = start tellers actors tells.1 fore; count = 0; numbered = sum_behind begun 0; played = (tells.0, refl, tells.2) },
      refl,
      start_met tellers actors tells.1 fore,
    )
    reaches (suc number) ds ds' lines tellers actors tells fore =
        let play = tells.5 in
        let at : ℕ = suc (behind begun number) in
        let on = reaches number ds tells.3 tells.0 tells.2 (acts at tells.2 tellers tells.3 ds' tells.1 actors play fore) tells.4
        (fore_before at tells.2 tellers tells.3 ds' tells.1 actors play fore) in
        let turn : Plays programs detaches at on.0.now tells.3 tells.1 actors ds' =
        subst (λ (l : List Actor). Plays programs detaches at l tells.3 tells.1 actors ds') (sym on.1) (plays at tells.2 tellers tells.3 ds' tells.1 actors play fore) in
        let was = on.0.numbered in
        let next : suc (behind begun number) ≡ suc begun + on.0.count = omega (arith, was) in
        subst (λ (l : List Line). Reaches (suc number) ds l ds' actors) (sym tells.6) (
          record {
            actors = on.0.actors;
            now = actors;
            starts = on.0.starts;
            count = suc on.0.count;
            numbered = (let more = next_behind begun number in omega (arith, was, more));
            played = one_more programs detaches on.0.count (suc begun) at on.0.actors on.0.now actors ds tells.3 ds' tells.0 tells.1 next on.0.played turn;
          },
          refl,
          on.2,
        )

-- ---- what is still to come

-- its story, where the later outcomes are so
abbrev pub Storied : (List Outcome → Type 0) → Program → Teller → Type 0
Storied Later w t = (s : HasStory w t) × Later s.more

-- .. whatever they are
any_later : (programs : List Program) (tellers : List Teller) → AllZip HasStory programs tellers → AllZip (Storied (λ os. Unit {0})) programs tellers
any_later [] [] all = tt
any_later [] (t ∷ tellers) all = absurd all
any_later (w ∷ programs) [] all = absurd all
any_later (w ∷ programs) (t ∷ tellers) all = ((all.0, tt), any_later programs tellers all.1)

record Prepared (Later : List Outcome → Type 0) (programs : List Program) (tellers : List Teller) : Type 0 where
  pub wholes : List Whole
  pub actors : List Actor
  pub fore : Foretold wholes tellers actors
  pub later : (i : ℕ) (n : Actor) → slice_get actors i ≡ Some n → Later n.outcomes
  pub stories : (i : ℕ) (w : Program) (h : Whole) → slice_get programs i ≡ Some w → slice_get wholes i ≡ Some h → h.notes ≡ protocol_story w h.outcomes

prepared : (Later : List Outcome → Type 0) (programs : List Program) (tellers : List Teller) → AllZip (Storied Later) programs tellers → Prepared Later programs tellers
prepared Later [] [] all = record {
  wholes = [];
  actors = [];
  fore = record { wide = refl; long = refl; each = λ i t h a et eh ea. absurd cc };
  later = λ i n en. absurd cc;
  stories = λ i w h ew eh. absurd cc;
}
prepared Later [] (t ∷ tellers) all = absurd all
prepared Later (w ∷ programs) [] all = absurd all
prepared Later (w ∷ programs) (t ∷ tellers) all =
    let s = all.0.0 in
    let on = prepared Later programs tellers all.1 in
    let h : Whole = record { notes = t.told ++ s.rest; outcomes = t.met ++ s.more } in
    let a : Actor = record { due = t.due; notes = s.rest; outcomes = s.more; answers = t.answers } in
    record {
      wholes = h ∷ on.wholes;
      actors = a ∷ on.actors;
      fore = record { wide = ap suc on.fore.wide; long = ap suc on.fore.long; each = each s on };
      later = later s on all.0.1;
      stories = stories s on;
    }
  where
    later : (s : HasStory w t) (on : Prepared Later programs tellers) → Later s.more → (i : ℕ) (n : Actor)
        → slice_get (record { due = t.due; notes = s.rest; outcomes = s.more; answers = t.answers } ∷ on.actors) i ≡ Some n → Later n.outcomes
    later s on l zero n en = subst (λ (x : Actor). Later x.outcomes) (same_Some _ _ en) l
    later s on l (suc i) n en = on.later i n en

    each : (s : HasStory w t) (on : Prepared Later programs tellers) (i : ℕ) (t' : Teller) (h' : Whole) (a' : Actor) → slice_get (t ∷ tellers) i ≡ Some t'
        → slice_get (record { notes = t.told ++ s.rest; outcomes = t.met ++ s.more } ∷ on.wholes) i ≡ Some h'
        → slice_get (record { due = t.due; notes = s.rest; outcomes = s.more; answers = t.answers } ∷ on.actors) i ≡ Some a' → Ties t' h' a'
    each s on zero t' h' a' et eh ea =
        let tie : Ties t (record { notes = t.told ++ s.rest; outcomes = t.met ++ s.more }) (record { due = t.due; notes = s.rest; outcomes = s.more; answers = t.answers }) =
        record { due = refl; answers = refl; notes = refl; outcomes = refl; is_rest = s.is_rest } in
        subst (λ (x : Teller). Ties x h' a') (same_Some _ _ et)
        (subst (λ (x : Whole). Ties t x a') (same_Some _ _ eh) (subst (λ (x : Actor). Ties t (record { notes = t.told ++ s.rest; outcomes = t.met ++ s.more }) x) (same_Some _ _ ea) tie))
    each s on (suc i) t' h' a' et eh ea = on.fore.each i t' h' a' et eh ea

    stories : (s : HasStory w t) (on : Prepared Later programs tellers) (i : ℕ) (w' : Program) (h' : Whole) → slice_get (w ∷ programs) i ≡ Some w'
        → slice_get (record { notes = t.told ++ s.rest; outcomes = t.met ++ s.more } ∷ on.wholes) i ≡ Some h'
        → h'.notes ≡ protocol_story w' h'.outcomes
    stories s on zero w' h' ew eh =
        subst (λ (x : Whole). x.notes ≡ protocol_story w' x.outcomes) (same_Some _ _ eh)
        (subst (λ (x : Program). t.told ++ s.rest ≡ protocol_story x (t.met ++ s.more)) (same_Some _ _ ew) (sym s.story))
    stories s on (suc i) w' h' ew eh = on.stories i w' h' ew eh

-- Since its start each program's actor has met what the program has.
abbrev pub MetTo : List Teller → (starts now : List Actor) → Type 0
MetTo tellers starts now =
    (i : ℕ) (t : Teller) (a n : Actor) → slice_get tellers i ≡ Some t → slice_get starts i ≡ Some a → slice_get now i ≡ Some n → a.outcomes ≡ t.met ++ n.outcomes

-- It stands where the teller does: since its start it has made and met what that has, and what is still to come is so.
pub record Stood (Later : List Outcome → Type 0) (t : Teller) (a n : Actor) : Type 0 where
  pub notes : a.notes ≡ t.told ++ n.notes
  pub outcomes : a.outcomes ≡ t.met ++ n.outcomes
  pub due : n.due ≡ t.due
  pub answers : n.answers ≡ t.answers
  pub is_rest : IsRest t.has_ended n.notes
  pub later : Later n.outcomes

-- nothing is still to come of those that have ended
abbrev pub RestTo : List Teller → (now : List Actor) → Type 0
RestTo tellers now = (i : ℕ) (t : Teller) (n : Actor) → slice_get tellers i ≡ Some t → slice_get now i ≡ Some n → IsRest t.has_ended n.notes

-- each stands so
abbrev pub StoodTo : (List Outcome → Type 0) → List Teller → (starts now : List Actor) → Type 0
StoodTo Later tellers starts now =
    (i : ℕ) (t : Teller) (a n : Actor) → slice_get tellers i ≡ Some t → slice_get starts i ≡ Some a → slice_get now i ≡ Some n → Stood Later t a n

stood_to : (Later : List Outcome → Type 0) (programs : List Program) (tellers : List Teller) (p : Prepared Later programs tellers) (starts now : List Actor) → now ≡ p.actors
    → ((i : ℕ) (h : Whole) (a : Actor) → slice_get p.wholes i ≡ Some h → slice_get starts i ≡ Some a → (a.outcomes ≡ h.outcomes) × (a.notes ≡ h.notes)) → StoodTo Later tellers starts now
stood_to Later programs tellers p starts now is same i t a n et ea en =
    let h = item p.wholes i (omega (arith, slice_get_within tellers i t et, p.fore.wide)) in
    let there : slice_get p.actors i ≡ Some n = ap (λ (l : List Actor). slice_get l i) (sym is) ∙ en in
    let tie = p.fore.each i t h.0 n et h.1 there in
    let whole = same i h.0 a h.1 ea in
    record {
      notes = whole.1 ∙ sym tie.notes;
      outcomes = whole.0 ∙ sym tie.outcomes;
      due = tie.due;
      answers = tie.answers;
      is_rest = tie.is_rest;
      later = p.later i n there;
    }

rest_to : (Later : List Outcome → Type 0) (programs : List Program) (tellers : List Teller) (p : Prepared Later programs tellers) (now : List Actor) → now ≡ p.actors → RestTo tellers now
rest_to Later programs tellers p now is i t n et en =
    let h = item p.wholes i (omega (arith, slice_get_within tellers i t et, p.fore.wide)) in
    (p.fore.each i t h.0 n et h.1 (ap (λ (l : List Actor). slice_get l i) (sym is) ∙ en)).is_rest

met_to : (Later : List Outcome → Type 0) (programs : List Program) (tellers : List Teller) (p : Prepared Later programs tellers) (starts now : List Actor) → now ≡ p.actors
    → ((i : ℕ) (h : Whole) (a : Actor) → slice_get p.wholes i ≡ Some h → slice_get starts i ≡ Some a → (a.outcomes ≡ h.outcomes) × (a.notes ≡ h.notes)) → MetTo tellers starts now
met_to Later programs tellers p starts now is same i t a n et ea en = (stood_to Later programs tellers p starts now is same i t a n et ea en).outcomes

pub told_is_world_met : (begun : ℕ) (programs : List Program) (detaches : List Detach) (ds ds' : List Device) (number : ℕ) (lines : List Line) (tellers : List Teller)
    → TellsFrom begun programs detaches ds number lines tellers ds' → AllZip HasStory programs tellers
    → (world : ProtocolWorldUpToFrom begun programs detaches ds (behind begun number) lines ds') × MetTo tellers world.actors world.now
told_is_world_met begun programs detaches ds ds' number lines tellers tells all =
    let p = prepared (λ os. Unit {0}) programs tellers (any_later programs tellers all) in
    let on = reaches begun programs detaches p.wholes p.stories number ds ds' lines tellers p.actors tells p.fore in
    (on.0, met_to (λ os. Unit {0}) programs tellers p on.0.actors on.0.now on.1 on.2)

-- .. and each actor stands where the program does
pub told_is_world_stood : (Later : List Outcome → Type 0) (begun : ℕ) (programs : List Program) (detaches : List Detach) (ds ds' : List Device) (number : ℕ) (lines : List Line)
    (tellers : List Teller) → TellsFrom begun programs detaches ds number lines tellers ds' → AllZip (Storied Later) programs tellers
    → (world : ProtocolWorldUpToFrom begun programs detaches ds (behind begun number) lines ds') × StoodTo Later tellers world.actors world.now × RestTo tellers world.now × (length world.now ≡ length tellers)
told_is_world_stood Later begun programs detaches ds ds' number lines tellers tells all =
    let p = prepared Later programs tellers all in
    let on = reaches begun programs detaches p.wholes p.stories number ds ds' lines tellers p.actors tells p.fore in
    (on.0, stood_to Later programs tellers p on.0.actors on.0.now on.1 on.2, rest_to Later programs tellers p on.0.now on.1, ap (λ (l : List Actor). length l) on.1 ∙ p.fore.long)

pub told_is_world : ToldIsWorld
told_is_world begun programs detaches ds ds' number lines tellers tells all = (told_is_world_met begun programs detaches ds ds' number lines tellers tells all).0

-- what the program has met its actor meets first
met_from : (tellers : List Teller) (starts now : List Actor) → length now ≡ length tellers → MetTo tellers starts now → HaveMet tellers starts
met_from tellers starts now long met i t a et ea =
    let n = item now i (omega (arith, slice_get_within tellers i t et, long)) in
    (n.0.outcomes, met i t a n.0 et ea n.1)

pub all_told_met : (begun : ℕ) (programs : List Program) (detaches : List Detach) (ds ds' : List Device) (number : ℕ) (lines : List Line) (tellers : List Teller)
    → TellsFrom begun programs detaches ds number lines tellers ds' → AllZip HasStory programs tellers → HaveEnded (map due_of tellers)
    → (world : ProtocolWorldFrom begun programs detaches ds lines ds') × HaveMet tellers world.actors
all_told_met begun programs detaches ds ds' number lines tellers tells all ended =
    let p = prepared (λ os. Unit {0}) programs tellers (any_later programs tellers all) in
    let on = reaches begun programs detaches p.wholes p.stories number ds ds' lines tellers p.actors tells p.fore in
    let long : length on.0.now ≡ length tellers = ap (λ (l : List Actor). length l) on.1 ∙ p.fore.long in (
      record {
        actors = on.0.actors;
        last = on.0.now;
        starts = on.0.starts;
        events = as_events programs detaches on.0.count (suc begun) on.0.actors on.0.now ds ds' lines on.0.played;
        over = subst (λ (l : List Actor). IsOver l) (sym on.1) (over p);
      },
      met_from tellers on.0.actors on.0.now long (met_to (λ os. Unit {0}) programs tellers p on.0.actors on.0.now on.1 on.2),
    )
  where
    has_ended : (b : Bool) (due : ℕ) → (unless b due ≡ Some due → ⊥) → b ≡ true
    has_ended true due never = refl
    has_ended false due never = absurd (never refl)

    over : (p : Prepared (λ os. Unit {0}) programs tellers) → IsOver p.actors
    over p k d within =
        let a = get_or p.actors k d in
        let t = item tellers k (omega (arith, within, p.fore.long)) in
        let h = item p.wholes k (omega (arith, within, p.fore.long, p.fore.wide)) in
        let tie = p.fore.each k t.0 h.0 a t.1 h.1 (slice_get-get_or p.actors k d within) in
        let is : t.0.has_ended ≡ true = has_ended t.0.has_ended t.0.due (λ e. ended k t.0.due (slice_get-map due_of tellers k ∙ ap (option_map due_of) t.1 ∙ ap (λ (o : Option ℕ). Some o) e)) in
        subst (λ (b : Bool). IsRest b a.notes) is tie.is_rest

pub all_told_is_world : AllToldIsWorld
all_told_is_world begun programs detaches ds ds' number lines tellers tells all ended = (all_told_met begun programs detaches ds ds' number lines tellers tells all ended).0
