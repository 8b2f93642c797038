-- Events counted.
use Rattle.std.proofs.Common.{arith, ◌≡◌, ◌+◌, ℕ, zero, suc, List, [], ◌∷◌, ◌++◌, length, Some, None, true, false, refl, sym, ap, ◌∙◌, subst, append_assoc, append-nil, length-set, slice_get, slice_set}
use Rattle.std.specs.List.{AllZip}
use Rattle.std.specs.Option.{unwrap_or}
use Rattle.std.proofs.lemmas.Option.{slice_get_within}
use Rattle.wa_model.specs.declared.answers.Detach.{Detach}
use Rattle.wa_model.specs.Outside.{Line}
use Rattle.world_model.specs.World.{Program}
use Rattle.world_laws.proofs.Places.{all_at, item}
use Rattle.mail_laws.specs.Mailboxes.{Shared}
use Rattle.mail_laws.specs.MailWorld.{Actor, Events, HasEnded, Plays, StartsHeld, a_stall, a_turn, an_event, begins_over, no_event, nobody, sharing, tells_end, wake, woken}
use Rattle.mail_laws.specs.Played.{NextEvent, Played, PlayedIsWhole}

module _ (ws : List Program) (detaches : List Detach) where
  pub one_more : (count number at : ℕ) (acts mid next : List Actor) (ds es fs : Shared) (lines more : List Line) → at ≡ number + count → Played ws detaches number count acts ds lines mid es
      → Plays ws detaches at mid es more next fs → Played ws detaches number (suc count) acts ds (lines ++ more) next fs
  one_more zero number at acts mid next ds es fs lines more e h play =
      let z : at ≡ number = omega arith in
      let there : Plays ws detaches number acts ds more next fs =
      subst (λ (d : Shared). Plays ws detaches number acts d more next fs) h.2
      (subst (λ (a : List Actor). Plays ws detaches number a es more next fs) h.1 (subst (λ (n : ℕ). Plays ws detaches n mid es more next fs) z play)) in
      (more, [], next, fs, there, (refl, refl, refl), ap (λ (ls : List Line). ls ++ more) h.0 ∙ sym (append-nil more))
  one_more (suc count) number at acts mid next ds es fs lines more e h play = (
    h.0,
    h.1 ++ more,
    h.2,
    h.3,
    h.4,
    one_more count (suc number) at h.2 mid next h.3 es fs h.1 more (omega arith) h.5 play,
    ap (λ (ls : List Line). ls ++ more) h.6 ∙ append_assoc h.0 h.1 more,
  )

  pub as_events : (count number : ℕ) (acts last : List Actor) (ds ds' : Shared) (lines : List Line) → Played ws detaches number count acts ds lines last ds'
      → Events ws detaches number acts ds lines last ds'
  as_events zero number acts last ds ds' lines h =
      subst (λ (d : Shared). Events ws detaches number acts ds lines last d) (sym h.2)
      (subst (λ (a : List Actor). Events ws detaches number acts ds lines a ds) (sym h.1) (subst (λ (ls : List Line). Events ws detaches number acts ds ls acts ds) (sym h.0) no_event))
  as_events (suc count) number acts last ds ds' lines h = an_event h.4 (as_events count (suc number) h.2 last h.3 ds' h.1 h.5) h.6

  pub counted : (number : ℕ) (acts last : List Actor) (ds ds' : Shared) (lines : List Line) → Events ws detaches number acts ds lines last ds'
      → (count : ℕ) × Played ws detaches number count acts ds lines last ds'
  counted number acts last ds ds' lines no_event = (0, (refl, refl, refl))
  counted number acts last ds ds' lines (an_event {actors' = mid} {sh' = es} {lines = first} {more = more} play rest e) =
      let on = counted (suc number) mid last es ds' more rest in (suc on.0, (first, more, mid, es, play, on.1, e))

pub next_event : NextEvent
next_event begun ws detaches boxes ds ds' number lines more next sh world play ends =
    let e : suc number ≡ suc begun + world.count = omega (arith, world.numbered) in (
      record {
        actors = world.actors;
        now = next;
        shared = sh;
        starts = world.starts;
        count = suc world.count;
        numbered = omega (arith, world.numbered);
        played = one_more ws detaches world.count (suc begun) (suc number) world.actors world.now next (sharing boxes ds) world.shared sh lines more e world.played play;
        devices = refl;
        ends = ends;
      },
      refl,
      refl,
    )

-- ---- as many programs as before

wake_long : (due : ℕ) (is : List ℕ) (actors : List Actor) → length (wake due is actors) ≡ length actors
wake_long due [] actors = refl
wake_long due (i ∷ is) actors =
    wake_long due is (slice_set actors i (woken due (unwrap_or (slice_get actors i) nobody))) ∙ length-set actors i (woken due (unwrap_or (slice_get actors i) nobody))

module _ (ws : List Program) (detaches : List Detach) where
  event_long : (number : ℕ) (actors actors' : List Actor) (sh sh' : Shared) (lines : List Line) → Plays ws detaches number actors sh lines actors' sh' → length actors' ≡ length actors
  event_long number actors actors' sh sh' lines (a_turn t) = ap length t.after ∙ wake_long (suc t.a.due) t.behind.settled (slice_set actors t.i _) ∙ length-set actors t.i _
  event_long number actors actors' sh sh' lines (a_stall s) = ap length s.after ∙ length-set actors s.i (record s.a { parked = None })

  pub played_long : (count number : ℕ) (actors last : List Actor) (sh sh' : Shared) (lines : List Line) → Played ws detaches number count actors sh lines last sh' → length last ≡ length actors
  played_long zero number actors last sh sh' lines h = ap length h.1
  played_long (suc count) number actors last sh sh' lines h =
      played_long count (suc number) h.2 last h.3 sh' h.1 h.5 ∙ event_long number actors h.2 sh h.3 h.0 h.4

pub starts_long : (ws : List Program) (acts : List Actor) → AllZip StartsHeld ws acts → length acts ≡ length ws
starts_long [] [] z = refl
starts_long [] (b ∷ acts) z = absurd z
starts_long (v ∷ ws) [] z = absurd z
starts_long (v ∷ ws) (b ∷ acts) z = ap suc (starts_long ws acts z.1)

pub played_is_whole : PlayedIsWhole
played_is_whole begun ws detaches boxes ds ds' number lines world all_over = record {
  actors = world.actors;
  starts = world.starts;
  runs = record {
    last = world.now;
    shared = world.shared;
    events = as_events ws detaches world.count (suc begun) world.actors world.now (sharing boxes ds) world.shared lines world.played;
    over = all_over;
    devices = world.devices;
  };
  ends = each;
}
  where
    long : length world.now ≡ length ws
    long =
        played_long ws detaches world.count (suc begun) world.actors world.now (sharing boxes ds) world.shared lines world.played
        ∙ starts_long ws world.actors world.starts

    each : (i : ℕ) (w : Program) → slice_get ws i ≡ Some w → begins_over w ≡ false → tells_end i lines ≡ true
    each i w there going =
        let a = item world.now i (omega (arith, slice_get_within ws i w there, long)) in
        let h = all_at HasEnded world.now i a.0 all_over a.1 in
        world.ends i w a.0 there a.1 going h.no_notes h.awake
