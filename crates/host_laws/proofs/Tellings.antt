-- What a program has told begins its story, and is all of it at its end.
use Rattle.std.proofs.Common.{◌≡◌, ◌≤◌, ℕ, ◌+◌, ◌-◌, ◌++◌, List, [], ◌∷◌, Option, Some, None, false, refl, sym, ap, ◌∙◌, subst, append_assoc, append-nil, arith}
use Rattle.wa_types.specs.declared.values.Value.{Value}
use Rattle.wa_types.specs.Syntax.{Module}
use Rattle.wa_model.specs.declared.events.End.TheVariants.{StepsSpent}
use Rattle.wa_model.specs.Machine.{Ran, still, run}
use Rattle.wa_model.specs.Outside.{Call, AnswerLine, ended}
use Rattle.wa_model.specs.Plan.{Outcome}
use Rattle.wa_model.specs.Blocking.{Note, note}
use Rattle.wa_model.specs.Protocol.{Held, free, starting, busy, calling, aside, entering, over, exports_of, protocol, store_held}
use Rattle.wa_model.specs.Behaves.{IsPrefix}
use Rattle.world_model.specs.World.{Program, Device, MeetsBound, call_in, NoteMeets, CallsMeet, answers_from, unless_over, protocol_story}
use Rattle.host_laws.specs.Stretch.{meeting, Stretch, is_over}
use Rattle.host_laws.specs.Places.{Place, stands, has_ended, nowhere, Lands, goes_on, ends, spends}
use Rattle.host_laws.specs.Supplies.{Supply, bound_to, Takes}
use Rattle.host_laws.specs.Stories.{opened_at, steps_from, Made, IsAt}
use Rattle.host_laws.specs.Laws.{NothingToldYet, OneMoreTold, PlaceBegins, PlaceWhole, OneMoreMet, NothingToldAlone, OneMoreAlone, ToldBegins, ToldWhole}
use Rattle.host_laws.proofs.Stretches.{compose, nowhere_on, story_on, over_still, spent_still}

-- ---- calls met one behind another

note_longer : (w : Program) (c : Option Call) (os os' : List Outcome) (lines : List AnswerLine) (ds : List Device) (rest rest' : List Outcome → List AnswerLine → List Device → Type 0)
    → ((o : List Outcome) (l : List AnswerLine) (d : List Device) → rest o l d → rest' (o ++ os') l d)
    → NoteMeets w c os lines ds rest → NoteMeets w c (os ++ os') lines ds rest'
note_longer w None os os' lines ds rest rest' f h = f os lines ds h
note_longer w (Some c) os os' lines ds rest rest' f h = (h.0, h.1 ++ os', h.2, h.3, ap (λ xs. xs ++ os') h.4, h.5, f h.1 h.2 h.3 h.6)

calls_longer : (w : Program) (notes : List Note) (x : Note) (os os' : List Outcome) (lines lines1 lines2 : List AnswerLine) (ds ds1 ds2 : List Device)
    → CallsMeet w notes os lines ds [] lines1 ds1 → CallsMeet w (x ∷ []) os' lines1 ds1 [] lines2 ds2 → CallsMeet w (notes ++ x ∷ []) (os ++ os') lines ds [] lines2 ds2
calls_longer w [] x os os' lines lines1 lines2 ds ds1 ds2 h k =
    subst (λ o. CallsMeet w (x ∷ []) (o ++ os') lines ds [] lines2 ds2) h.0
    (subst (λ l. CallsMeet w (x ∷ []) os' l ds [] lines2 ds2) h.1 (subst (λ d. CallsMeet w (x ∷ []) os' lines1 d [] lines2 ds2) h.2 k))
calls_longer w (y ∷ ys) x os os' lines lines1 lines2 ds ds1 ds2 h k =
    note_longer w (call_in y.event) os os' lines ds (λ o l d. CallsMeet w ys o l d [] lines1 ds1) (λ o l d. CallsMeet w (ys ++ x ∷ []) o l d [] lines2 ds2)
    (λ o l d g. calls_longer w ys x o os' l lines1 lines2 d ds1 ds2 g k) h

one_met : (w : Program) (c : Option Call) (met : List Outcome) (old new : Supply) → Takes w c old met new
    → NoteMeets w c met old.lines old.devices (λ o l d. CallsMeet w [] o l d [] new.lines new.devices)
one_met w None met old new t = (sym t.0, ap (λ (z : Supply). z.lines) t.1, ap (λ (z : Supply). z.devices) t.1)
one_met w (Some c) met old new t = (t.0, [], new.lines, new.devices, t.1, t.2.meets, (refl, refl, refl))

pub one_more_met : OneMoreMet
one_more_met w notes os met lines ds x old new chain takes =
    calls_longer w notes x os met lines old.lines new.lines ds old.devices new.devices chain (one_met w (call_in x.event) met old new takes)

-- ---- without devices

none_left : (m : Module) (import : ℕ) (args : List Value) (bound : Option (List ℕ)) (lines lines' : List AnswerLine) (o : Outcome) (ds : List Device)
    → MeetsBound m import args bound lines [] o lines' ds → ds ≡ []
none_left m import args (Some name) lines lines' o ds h = h.0.1
none_left m import args None lines lines' o ds h = h.1

pub still_none : (w : Program) (c : Option Call) (met : List Outcome) (old new : Supply) → Takes w c old met new → old.devices ≡ [] → new.devices ≡ []
still_none w None met old new t none = ap (λ (z : Supply). z.devices) t.1 ∙ none
still_none w (Some c) met old new t none =
    none_left w.source c.import c.args (bound_to w c.import) old.lines new.lines t.0 new.devices
    (subst (λ ds. MeetsBound w.source c.import c.args (bound_to w c.import) old.lines ds t.0 new.lines new.devices) none t.2.meets)

-- ---- stories

module _ (w : Program) where
  abbrev events : List Note
  events = (opened_at w).events

  abbrev going : ℕ → Held → Ran Held Note
  going n h = run (protocol w.source (exports_of w.source) w.plan) n h

  -- the story of a run that begins with a stretch
  story_at : (os behind : List Outcome) (notes : List Note) (used left : ℕ) (h : Held) → used + left ≡ steps_from w.steps w.origin → Stretch w.source w.plan (opened_at w).last os notes used h
      → protocol_story w (os ++ behind) ≡ (events ++ (notes ++ (going left (meeting behind h)).events)) ++ unless_over w.steps (going left (meeting behind h)).last
  story_at os behind notes used left h e stretch = story_on w os notes used left h behind e stretch

  story_still : (os behind : List Outcome) (notes : List Note) (used left : ℕ) (h : Held) → used + left ≡ steps_from w.steps w.origin → Stretch w.source w.plan (opened_at w).last os notes used h
      → going left (meeting behind h) ≡ still (meeting behind h) → protocol_story w (os ++ behind) ≡ (events ++ notes) ++ unless_over w.steps (meeting behind h)
  story_still os behind notes used left h e stretch z =
      story_at os behind notes used left h e stretch
      ∙ ap (λ (r : Ran Held Note). (events ++ (notes ++ r.events)) ++ unless_over w.steps r.last) z
      ∙ ap (λ xs. (events ++ xs) ++ unless_over w.steps (meeting behind h)) (append-nil notes)

  unless_spent : (n : ℕ) (h : Held) (os : List Outcome) → is_over h ≡ false → unless_over n (meeting os h) ≡ note (ended (StepsSpent n)) (store_held h) ∷ []
  unless_spent n (free s l) os e = refl
  unless_spent n (starting f s l) os e = refl
  unless_spent n (busy ph c l) os e = refl
  unless_spent n (calling ph s f args th l) os e = refl
  unless_spent n (aside ph c th l) os e = refl
  unless_spent n (entering ph e' s l) os e = refl
  unless_spent n (over s) os e = cc

  begun_prefix : (notes ready : List Note) (os : List Outcome) (left : ℕ) (h : Held) → Made w notes ready os left h → (more : List Outcome) → IsPrefix notes (protocol_story w (os ++ more))
  begun_prefix notes ready os left h m more =
      let r : Ran Held Note = going left (meeting more h) in
      let e : protocol_story w (os ++ more) ≡ (events ++ (m.behind ++ r.events)) ++ unless_over w.steps r.last = story_at os more m.behind m.used left h m.steps m.stretch in
      let regroup : (a b c d : List Note) → (a ++ (b ++ c)) ++ d ≡ (a ++ b) ++ (c ++ d) = λ a b c d. simp append_assoc in (
        ready ++ (r.events ++ unless_over w.steps r.last),
        e
            ∙ regroup events m.behind r.events (unless_over w.steps r.last)
            ∙ ap (λ xs. xs ++ (r.events ++ unless_over w.steps r.last)) (sym m.made)
            ∙ append_assoc notes ready (r.events ++ unless_over w.steps r.last),
      )

  -- notes behind those that were made
  made_on : (notes ready behind made tail : List Note) (x : Note) → notes ++ ready ≡ events ++ behind → ready ++ made ≡ x ∷ tail → (notes ++ x ∷ []) ++ tail ≡ events ++ (behind ++ made)
  made_on notes ready behind made tail x e f =
      append_assoc notes (x ∷ []) tail
      ∙ ap (λ xs. notes ++ xs) (sym f)
      ∙ sym (append_assoc notes ready made)
      ∙ ap (λ xs. xs ++ made) e
      ∙ append_assoc events behind made

  -- where a note that lands leaves it
  pub landed : (notes ready : List Note) (os os' : List Outcome) (left used : ℕ) (h : Held) (x : Note) (to : Place) → Made w notes ready os left h → used ≤ left
      → Lands w.source w.plan w.steps ready h os' left x used to → IsAt w (notes ++ x ∷ []) (os ++ os') (left - used) to
  landed notes ready os os' left used h x to m le (goes_on made tail h' stretch is_x more to_is) =
      let steps : (m.used + used) + (left - used) ≡ steps_from w.steps w.origin = omega (arith, m.steps) in
      subst (IsAt w (notes ++ x ∷ []) (os ++ os') (left - used)) (sym to_is)
      (record {
        behind = m.behind ++ made;
        made = made_on notes ready m.behind made tail x m.made is_x;
        used = m.used + used;
        steps = steps;
        stretch = compose w.source w.plan (opened_at w).last h h' os os' m.behind made m.used used m.stretch stretch;
      })
  landed notes ready os os' left used h x to m le (ends how made s stretch is_x is_end to_is) =
      let steps : (m.used + used) + (left - used) ≡ steps_from w.steps w.origin = omega (arith, m.steps) in
      let all = compose w.source w.plan (opened_at w).last h (over s) os os' m.behind made m.used used m.stretch stretch in
      subst (IsAt w (notes ++ x ∷ []) (os ++ os') (left - used)) (sym to_is)
      (record {
        before = notes;
        last = x;
        last_is = refl;
        end_is = is_end;
        whole = λ more.
            sym (append-nil (notes ++ x ∷ []))
            ∙ made_on notes ready m.behind made [] x m.made is_x
            ∙ sym (append-nil (events ++ (m.behind ++ made)))
            ∙ sym (story_still (os ++ os') more (m.behind ++ made) (m.used + used) (left - used) (over s) steps all (over_still w.source w.plan (left - used) s));
      })
  landed notes ready os os' left used h x to m le (spends h' stretch none spent is_x to_is) =
      let steps : (m.used + used) + (left - used) ≡ steps_from w.steps w.origin = omega (arith, m.steps) in
      let all = compose w.source w.plan (opened_at w).last h h' os os' m.behind [] m.used used m.stretch stretch in
      let told : notes ≡ events ++ m.behind = sym (append-nil notes) ∙ ap (λ r. notes ++ r) (sym none) ∙ m.made in
      subst (IsAt w (notes ++ x ∷ []) (os ++ os') (left - used)) (sym to_is)
      (record {
        before = notes;
        last = x;
        last_is = refl;
        end_is = ap (λ (y : Note). y.event) is_x;
        whole = λ more.
            ap (λ xs. xs ++ x ∷ []) (told ∙ ap (λ xs. events ++ xs) (sym (append-nil m.behind)))
            ∙ ap (λ y. (events ++ (m.behind ++ [])) ++ y ∷ []) is_x
            ∙ ap (λ xs. (events ++ (m.behind ++ [])) ++ xs) (sym (unless_spent w.steps h' more spent.goes_on))
            ∙ sym (story_still (os ++ os') more (m.behind ++ []) (m.used + used) (left - used) h' steps all (spent_still w.source w.plan (left - used) h' more spent));
      })

pub nothing_told_yet : NothingToldYet
nothing_told_yet w =
    record { behind = []; made = sym (append-nil (opened_at w).events); used = 0; steps = omega arith; stretch = nowhere_on w.source w.plan (opened_at w).last }

pub one_more_told : OneMoreTold
one_more_told w notes os left (stands ready h) old x used new place' at tells = (tells.outcomes, tells.takes, landed w notes ready os tells.outcomes left used h x place' at tells.within tells.lands)
one_more_told w notes os left (has_ended how) old x used new place' at tells = absurd tells
one_more_told w notes os left nowhere old x used new place' at tells = absurd tells

pub place_begins : PlaceBegins
place_begins w notes os left (stands ready h) m more = begun_prefix w notes ready os left h m more
place_begins w notes os left (has_ended how) m more = ([], sym (m.whole more) ∙ sym (append-nil notes))
place_begins w notes os left nowhere m more = absurd m

pub place_whole : PlaceWhole
place_whole w notes os left how at = at.whole [] ∙ ap (protocol_story w) (append-nil os)

-- ---- alone

pub nothing_told_alone : NothingToldAlone
nothing_told_alone w = record { outcomes = []; meets = (refl, refl, refl); at = nothing_told_yet w }

pub one_more_alone : OneMoreAlone
one_more_alone w notes left place old x used new place' none told tells =
    let more = one_more_told w notes told.outcomes left place old x used new place' told.at tells in
    let left_none : new.devices ≡ [] = still_none w (call_in x.event) more.0 old new more.1 none in
    let before : CallsMeet w notes told.outcomes (answers_from w.answers w.origin) [] [] old.lines old.devices = subst (λ ds. CallsMeet w notes told.outcomes (answers_from w.answers w.origin) [] [] old.lines ds) (sym none) told.meets in
    let meets = one_more_met w notes told.outcomes more.0 (answers_from w.answers w.origin) [] x old new before more.1 in (
      record {
        outcomes = told.outcomes ++ more.0;
        meets = subst (λ ds. CallsMeet w (notes ++ x ∷ []) (told.outcomes ++ more.0) (answers_from w.answers w.origin) [] [] new.lines ds) left_none meets;
        at = more.2;
      },
      left_none,
    )

pub told_begins : ToldBegins
told_begins w notes left lines place told = record { outcomes = told.outcomes; lines = lines; meets = told.meets; begins = place_begins w notes told.outcomes left place told.at }

pub told_whole : ToldWhole
told_whole w notes left lines how told = record { outcomes = told.outcomes; lines = lines; meets = told.meets; story = place_whole w notes told.outcomes left how told.at }
