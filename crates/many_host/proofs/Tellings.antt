-- A program of a host, note by note.
use Rattle.std.proofs.Common.{arith, ◌≡◌, ℕ, suc, List, [], ◌∷◌, ◌++◌, length, map, Option, Some, None, Bool, true, false, slice_get, refl, sym, ap, ◌∙◌, subst}
use Rattle.std.specs.Prelude.{MatchBool}
use Rattle.std.specs.Option.{is_some, option_map}
use Rattle.std.proofs.lemmas.List.{length-map}
use Rattle.std.proofs.lemmas.Option.{slice_get-map, slice_get_within}
use Rattle.wa_model.specs.declared.events.End.{End}
use Rattle.wa_model.specs.declared.events.Event.{Event as EventValue}
use Rattle.wa_model.specs.Outside.{AnswerLine, Event, called, answered, paused, parked, returned, ended, shown}
use Rattle.wa_model.specs.Plan.{Outcome}
use Rattle.wa_model.specs.View.{event_of}
use Rattle.wa_model.specs.Blocking.{Note}
use Rattle.world_model.specs.World.{Device, call_in, is_end, protocol_story}
use Rattle.world_model.specs.World as W
use Rattle.host_laws.specs.Places.{Place, stands, has_ended as at_end, nowhere}
use Rattle.host_laws.specs.Stories.{IsAt}
use Rattle.host_laws.specs.Supplies.{Takes}
use Rattle.host_laws.proofs.Tellings.{place_begins, place_whole}
use Rattle.event_order.specs.declared.shows.Show.{Show}
use Rattle.event_order.specs.Looks.{looks_of}
use Rattle.world_laws.proofs.Places.{item}
use Rattle.many_host.specs.Turns.{Teller, due_of, ends_program, is_gone, is_over_at, starting, unless}
use Rattle.many_host.proofs.Origins.{no_story}
use Rattle.many_host.specs.Notes.{OnStory}
use Rattle.pause_host.specs.declared.program.Program.{Program}
use Rattle.pause_host.specs.Programs.{Advances, Follows, end_at, end_in, ended_as, lines_left, place_of, supply_with}
use Rattle.many_host.specs.Telling.{TellsNote, supply}
use Rattle.many_host.specs.Standing.{AllStart, Holds, IsHeld, has_gone, on_its_way}
use Rattle.many_host.specs.declared.hosted.Hosted.{Hosted}
use Rattle.many_host.specs.Hosts.{AreResumed, AreSetUp, IsResumed, dues_left, follows, has_ended, memory_of}

pub none_is : (o : Option End) → is_some o ≡ false → o ≡ None
none_is None e = refl
none_is (Some how) e = cc

tells_end : (e : Event) → is_some (end_in e) ≡ is_end e
tells_end (called call) = refl
tells_end (answered value) = refl
tells_end (paused ticks used) = refl
tells_end (returned entry value) = refl
tells_end (ended how) = refl
tells_end (parked used) = refl
tells_end (shown at bytes) = refl

-- a note more
pub tells_note : (w : W.Program) (notes : List Note) (os : List Outcome) (answers : List AnswerLine) (old : Program) (x : Hosted) (event : EventValue) (ds ds' : List Device) (counts counts' : List ℕ)
    → lines_left old ≡ answers → Advances w notes os event (supply_with old ds counts) (supply_with x.program ds' counts') x.program
    → TellsNote (follows x w) (has_ended x) (memory_of x) w notes os (supply answers ds counts) (event_of event) ds' counts'
tells_note w notes os answers old x event ds ds' counts counts' same a =
    record {
      note = a.note;
      event_is = a.event_is;
      memory_is = sym a.memory_is;
      ended_is = ap is_some a.ended_is ∙ tells_end a.note.event;
      met = a.met;
      answers = lines_left x.program;
      takes = subst (λ (l : List AnswerLine). Takes w (call_in a.note.event) (supply l ds counts) a.met (supply_with x.program ds' counts')) same a.takes;
      follow = (a.follows, refl);
    }

-- ---- the beginning

no_last : {X : Type 0} (xs : List X) (x : X) → [] ≡ xs ++ x ∷ [] → ⊥
no_last [] x e = cc
no_last (y ∷ ys) x e = cc

-- who has told nothing hasn't told its end
runs_first : (w : W.Program) (os : List Outcome) (x : Program) → Follows w [] os x → is_some (ended_as x) ≡ false
runs_first w os x f = by (place_of x x.state) f.at.told where
  by : (place : Place) → IsAt w [] os x.steps_left place → is_some (end_at place) ≡ false
  by (stands ready h) t = refl
  by nowhere t = refl
  by (at_end how) t = absurd (no_last t.before t.last t.last_is)

-- .. of a program that is known to begin before its end
held_on : (shows : List Show) (i : ℕ) (w : W.Program) (x : Hosted) → is_gone w ≡ false → Follows w [] [] x.program → lines_left x.program ≡ W.answers_from w.answers w.origin
    → w.looks ≡ looks_of i shows → Holds follows has_ended shows i w (starting w) x
held_on shows i w x live follows lines looks =
    on_its_way (record { follow = (follows, lines); ended_is = runs_first w [] x.program follows ∙ sym live; told_end = sym live; looks = looks; live = live })

program_there : (xs : List Hosted) (programs : List Program) → map (λ (x : Hosted). x.program) xs ≡ programs → (i : ℕ) (x : Hosted) → slice_get xs i ≡ Some x → slice_get programs i ≡ Some x.program
program_there xs programs are i x ex =
    ap (λ (l : List Program). slice_get l i) (sym are) ∙ slice_get-map (λ (y : Hosted). y.program) xs i ∙ ap (option_map (λ (y : Hosted). y.program)) ex

as_wide : (ws : List W.Program) (xs : List Hosted) (programs : List Program) → map (λ (x : Hosted). x.program) xs ≡ programs → length programs ≡ length ws → length xs ≡ length ws
as_wide ws xs programs are wide = sym (length-map xs (λ (x : Hosted). x.program)) ∙ ap (λ (l : List Program). length l) are ∙ wide

-- at their start all are due at tick 0
first_dues : {X : Type 0} (xs : List X) (ws : List W.Program) → length xs ≡ length ws → ((i : ℕ) (w : W.Program) → slice_get ws i ≡ Some w → w.origin ≡ W.at_start)
    → map (λ (x : X). Some 0) xs ≡ map due_of (map starting ws)
first_dues [] [] e start = refl
first_dues [] (w ∷ ws) e start = let never : ⊥ = omega (arith, e) in absurd never
first_dues (x ∷ xs) [] e start = let never : ⊥ = omega (arith, e) in absurd never
first_dues (x ∷ xs) (w ∷ ws) e start =
    let due : Some 0 ≡ due_of (starting w) = ap (λ o. unless (is_over_at w.plan.entries o) (W.due_from o)) (sym (start 0 w refl)) in
    (λ k. due k ∷ first_dues xs ws (omega (arith, e)) (λ i. start (suc i)) k)

pub all_start : (ws : List W.Program) (shows : List Show) (xs : List Hosted) (programs : List Program) → map (λ (x : Hosted). x.program) xs ≡ programs → AreSetUp ws shows programs
    → AllStart follows has_ended shows ws xs (map (λ (x : Hosted). Some 0) xs)
all_start ws shows xs programs are s =
    record {
      wide = as_wide ws xs programs are s.wide;
      each = λ i w x ew ex.
          let first = s.each i w x.program ew (program_there xs programs are i x ex) in
          held_on shows i w x (ap (is_over_at w.plan.entries) first.3) first.0 (first.1 ∙ sym (ap (W.answers_from w.answers) first.3)) first.2;
      dues_are = first_dues xs ws (as_wide ws xs programs are s.wide) (λ i w ew.
          let x = item programs i (omega (arith, slice_get_within ws i w ew, s.wide)) in
          (s.each i w x.0 ew x.1).3);
    }

-- ---- behind others

resumed_held : (shows : List Show) (i : ℕ) (w : W.Program) (x : Hosted) (due : ℕ) (marked : Bool) → IsResumed w shows i x.program due marked → Holds follows has_ended shows i w (starting w) x
resumed_held shows i w x due true r = has_gone (ap (is_over_at w.plan.entries) r.1) refl r.0
resumed_held shows i w x due false r = held_on shows i w x r.1.0 r.1.1 r.1.2 r.0

resumed_due : (shows : List Show) (i : ℕ) (w : W.Program) (x : Program) (due : ℕ) (marked : Bool) → IsResumed w shows i x due marked → unless marked due ≡ due_of (starting w)
resumed_due shows i w x due true r = sym (ap (λ o. unless (is_over_at w.plan.entries o) (W.due_from o)) r.1)
resumed_due shows i w x due false r = ap (λ (n : ℕ). Some n) r.1.3 ∙ ap (λ (b : Bool). unless b (W.due_from w.origin)) (sym r.1.0)

dues_are : (ws : List W.Program) (dues : List ℕ) (marks : List Bool) → length dues ≡ length ws → length marks ≡ length ws
    → ((i : ℕ) (w : W.Program) (due : ℕ) (marked : Bool) → slice_get ws i ≡ Some w → slice_get dues i ≡ Some due → slice_get marks i ≡ Some marked → unless marked due ≡ due_of (starting w))
    → dues_left dues marks ≡ map due_of (map starting ws)
dues_are [] [] [] d e each = refl
dues_are [] [] (b ∷ bs) d e each = let never : ⊥ = omega (arith, e) in absurd never
dues_are [] (n ∷ ns) bs d e each = let never : ⊥ = omega (arith, d) in absurd never
dues_are (w ∷ ws) [] bs d e each = let never : ⊥ = omega (arith, d) in absurd never
dues_are (w ∷ ws) (n ∷ ns) [] d e each = let never : ⊥ = omega (arith, e) in absurd never
dues_are (w ∷ ws) (n ∷ ns) (b ∷ bs) d e each =
    (λ k. each 0 w n b refl refl refl k ∷ dues_are ws ns bs (omega (arith, d)) (omega (arith, e)) (λ i. each (suc i)) k)

pub all_resumed : (ws : List W.Program) (shows : List Show) (xs : List Hosted) (programs : List Program) (dues : List ℕ) (marks : List Bool) → map (λ (x : Hosted). x.program) xs ≡ programs
    → length dues ≡ length programs → length marks ≡ length programs → AreResumed ws shows programs dues marks → AllStart follows has_ended shows ws xs (dues_left dues marks)
all_resumed ws shows xs programs dues marks are many as_many s =
    record {
      wide = as_wide ws xs programs are s.wide;
      each = λ i w x ew ex.
          let due = item dues i (omega (arith, slice_get_within ws i w ew, s.wide, many)) in
          let marked = item marks i (omega (arith, slice_get_within ws i w ew, s.wide, as_many)) in
          resumed_held shows i w x due.0 marked.0 (s.each i w x.program due.0 marked.0 ew (program_there xs programs are i x ex) due.1 marked.1);
      dues_are = dues_are ws dues marks (many ∙ s.wide) (as_many ∙ s.wide) (λ i w due marked ew ed em.
          let x = item programs i (omega (arith, slice_get_within ws i w ew, s.wide)) in
          resumed_due shows i w x.0 due marked (s.each i w x.0 due marked ew x.1 ed em));
    }

-- ---- stories

pub on_story : (shows : List Show) (i : ℕ) (w : W.Program) (t : Teller) (x : Hosted) → Holds follows has_ended shows i w t x → OnStory w t
on_story shows i w t x holds = by_hold holds where
  pick : (A B : Type 0) (b : Bool) → b ≡ true → A → MatchBool b A B
  pick A B true e a = a
  pick A B false e a = cc

  skip : (A B : Type 0) (b : Bool) → b ≡ false → B → MatchBool b A B
  skip A B true e a = cc
  skip A B false e a = a

  by : (held : IsHeld follows has_ended shows i w t x) (place : Place) → IsAt w t.told t.met x.program.steps_left place → is_some (end_at place) ≡ t.has_ended → OnStory w t
  by held (stands ready h) at e =
      record {
        begins = place_begins w t.told t.met x.program.steps_left (stands ready h) at;
        whole = skip (t.told ≡ protocol_story w t.met) (ends_program t.told ≡ false) t.has_ended (sym e) (held.told_end ∙ sym e);
        live = λ u. held.live;
      }
  by held (at_end how) at e =
      record {
        begins = place_begins w t.told t.met x.program.steps_left (at_end how) at;
        whole = pick (t.told ≡ protocol_story w t.met) (ends_program t.told ≡ false) t.has_ended (sym e) (place_whole w t.told t.met x.program.steps_left how at);
        live = λ u. held.live;
      }
  by held nowhere at e = absurd at

  by_hold : Holds follows has_ended shows i w t x → OnStory w t
  by_hold (on_its_way held) = by held (place_of x.program x.program.state) held.follow.0.at.told held.ended_is
  by_hold (has_gone is told looks) =
      record {
        begins = λ more. ([], no_story w is (t.met ++ more) ∙ sym (ap (λ (z : Teller). z.told ++ []) told));
        whole = pick (t.told ≡ protocol_story w t.met) (ends_program t.told ≡ false) t.has_ended (ap (λ (z : Teller). z.has_ended) told ∙ is)
            (ap (λ (z : Teller). z.told) told ∙ sym (no_story w is t.met));
        live = λ e. let both : true ≡ false = sym (ap (λ (z : Teller). z.has_ended) told ∙ is) ∙ e in cc;
      }
