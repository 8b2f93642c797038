-- A whole run up to each of its events: who has ended there has told an end by then.
use Rattle.std.proofs.Common.{arith, ◌≡◌, ◌+◌, ◌-◌, ℕ, zero, suc, List, [], ◌++◌, Some, None, Bool, true, false, slice_get, refl, sym, ap, ◌∙◌, append_assoc}
use Rattle.std.specs.Prelude.{◌||◌, ◌&&◌, nat_eq}
use Rattle.std.proofs.lemmas.List.Folds.{list_any-append}
use Rattle.wa_model.specs.declared.answers.Detach.{Detach}
use Rattle.wa_model.specs.Outside.{Line}
use Rattle.world_model.specs.World.{Program, is_end}
use Rattle.world_laws.proofs.Places.{zip_both}
use Rattle.mail_laws.specs.Mailboxes.{Shared}
use Rattle.mail_laws.specs.MailWorld.{Actor, StartsHeld, begins_over, sharing, tells_end}
use Rattle.mail_laws.specs.Played.{EndsAreTold, NoEvent, Played, WholeIsPlayed}
use Rattle.mail_laws.proofs.Beginnings.{begins_some}
use Rattle.mail_laws.proofs.CalmLines.{sleeps_on}
use Rattle.mail_laws.proofs.Played.{counted}

-- a first part of events, and the others
record Part (ws : List Program) (detaches : List Detach) (number k : ℕ) (acts : List Actor) (sh : Shared) (lines : List Line) (last : List Actor) (end : Shared) : Type 0 where
  first : List Line
  rest : List Line
  mid : List Actor
  z : Shared
  played : Played ws detaches number k acts sh first mid z
  at : ℕ
  count : ℕ
  others : Played ws detaches at count mid z rest last end
  split : lines ≡ first ++ rest

part : (ws : List Program) (detaches : List Detach) (k more count number : ℕ) (acts last : List Actor) (sh end : Shared) (lines : List Line) → count ≡ k + more
    → Played ws detaches number count acts sh lines last end → Part ws detaches number k acts sh lines last end
part ws detaches zero more count number acts last sh end lines e h =
    record { first = []; rest = lines; mid = acts; z = sh; played = (refl, refl, refl); at = number; count = count; others = h; split = refl }
part ws detaches (suc k) more zero number acts last sh end lines e h = let no_way : ⊥ = omega arith in absurd no_way
part ws detaches (suc k) more (suc count) number acts last sh end lines e h =
    let on = part ws detaches k more count (suc number) h.2 last h.3 end h.1 (omega arith) h.5 in
    record {
      first = h.0 ++ on.first;
      rest = on.rest;
      mid = on.mid;
      z = on.z;
      played = (h.0, on.first, h.2, h.3, h.4, on.played, refl);
      at = on.at;
      count = on.count;
      others = on.others;
      split = h.6 ∙ ap (λ (ls : List Line). h.0 ++ ls) on.split ∙ sym (append_assoc h.0 on.first on.rest);
    }

first_says : (a b : Bool) → (a || b) ≡ true → b ≡ false → a ≡ true
first_says true b e none = refl
first_says false b e none = sym none ∙ e

-- what the whole tells of who has ended, its first part does
told_before : (ws : List Program) (detaches : List Detach) (number k : ℕ) (acts last : List Actor) (sh end : Shared) (lines : List Line) (p : Part ws detaches number k acts sh lines last end)
    → ((i : ℕ) (w : Program) → slice_get ws i ≡ Some w → begins_over w ≡ false → tells_end i lines ≡ true) → EndsAreTold ws p.first p.mid
told_before ws detaches number k acts last sh end lines p ends i w a ew ea going none awake =
    let later = sleeps_on ws detaches p.count p.at p.mid last p.z end p.rest i a ea none awake p.others in
    first_says (tells_end i p.first) (tells_end i p.rest)
    (sym (list_any-append (λ (l : Line). nat_eq l.program i && is_end l.event) p.first p.rest) ∙ ap (tells_end i) (sym p.split) ∙ ends i w ew going) later.0

pub no_event_yet : NoEvent
no_event_yet begun ws detaches boxes ds actors starts = (
  record { actors = actors; now = actors; shared = sharing boxes ds; starts = starts; count = 0; numbered = omega arith; played = (refl, refl, refl); devices = refl; ends = ends },
  refl,
)
  where
    ends : (i : ℕ) (w : Program) (a : Actor) → slice_get ws i ≡ Some w → slice_get actors i ≡ Some a → begins_over w ≡ false → a.notes ≡ [] → a.parked ≡ None → tells_end i [] ≡ true
    ends i w a ew ea going none awake =
        let st = zip_both StartsHeld ws actors starts i w a ew ea in absurd (begins_some w a.outcomes a.notes st.story going none)

pub whole_is_played : WholeIsPlayed
whole_is_played begun ws detaches boxes ds ds' lines world =
    let c = counted ws detaches (suc begun) world.actors world.runs.last (sharing boxes ds) world.runs.shared lines world.runs.events in (
      begun + c.0,
      record {
        actors = world.actors;
        now = world.runs.last;
        shared = world.runs.shared;
        starts = world.starts;
        count = c.0;
        numbered = refl;
        played = c.1;
        devices = world.runs.devices;
        ends = λ i w a ew ea going none awake. world.ends i w ew going;
      },
      world.runs.over,
      λ number least most.
          let e : c.0 ≡ (number - begun) + ((begun + c.0) - number) = omega (arith, least, most) in
          let p =
          part ws detaches (number - begun) ((begun + c.0) - number) c.0 (suc begun) world.actors world.runs.last (sharing boxes ds) world.runs.shared lines e c.1 in (
            p.first,
            p.rest,
            p.z.devices,
            record {
              actors = world.actors;
              now = p.mid;
              shared = p.z;
              starts = world.starts;
              count = number - begun;
              numbered = omega (arith, least);
              played = p.played;
              devices = refl;
              ends = told_before ws detaches (suc begun) (number - begun) world.actors world.runs.last (sharing boxes ds) world.runs.shared lines p world.ends;
            },
            p.split,
          ),
    )
