-- What a host has told up to an event, and its snapshot.
use Rattle.std.proofs.Common.{◌≡◌, ◌<◌, ◌≤◌, ◌⊎◌, inl, inr, ℕ, List, [], ◌∷◌, All, drop, map, None, Option, arith, refl, sym, ◌∙◌, subst}
use Rattle.std.specs.Prelude.{MatchOption}
use Rattle.std.proofs.lemmas.List.Elements.{All-cons, All-head, All-nil, All-tail}
use Rattle.std.proofs.lemmas.Option.{slice_get_within}
use Rattle.wa_model.specs.declared.answers.Detach.{Detach}
use Rattle.wa_model.specs.declared.events.Line.{Line as LineValue}
use Rattle.wa_model.specs.Outside.{Event}
use Rattle.world_model.specs.World.{IsOver, Look, Program, StartsHeld}
use Rattle.event_order.specs.declared.shows.Show.{Show}
use Rattle.event_order.specs.Looks.{looks_of}
use Rattle.event_order.specs.Dues.{HaveEnded}
use Rattle.event_order.specs.Left.{Counted}
use Rattle.many_host.specs.Calls.{BegunBy, devices_of}
use Rattle.many_host.specs.declared.turn_taking.Stage.{Stage}
use Rattle.many_host.specs.declared.turn_taking.Stage.TheVariants.{Between, Showing, Telling}
use Rattle.many_host.specs.Standing.{LooksOut}
use Rattle.many_host.specs.Saving.{CanBeSaved, IsSaved}
use Rattle.many_host.specs.declared.host.Host.{Host}
use Rattle.world_laws.proofs.Places.{item}
use Rattle.script_model.specs.Transcript.{event_lines}
use Rattle.snapshot_store.specs.Snapshots.{Snapshot}
use Rattle.world_laws.specs.AloneLines.{Unbound}
use Rattle.world_hosting.specs.Counts.{Took}
use Rattle.world_hosting.specs.Saved.{AreAllMet, AreSaved, HasPrinted, HasTold, Saves, StopsAt}
use Rattle.world_hosting.specs.Worlds.{Part, part_names, world_program, world_programs}
use Rattle.world_hosting.proofs.Printed.{zip_long}

-- ---- how many events have begun

-- no more than are wanted, where fewer have between events
pub few_on : (shows : List Show) (stage : Stage) (b b' : ℕ) (e : Event) (most : ℕ) → BegunBy stage b b' e → ((LooksOut shows stage → ⊥) → b' ≡ b) → (LooksOut shows stage → b < most) → b ≤ most → b' ≤ most
few_on shows Between b b' e most begins goes_on below few = let less = below tt in omega (arith, begins, less)
few_on shows (Telling turn) b b' e most begins goes_on below few = omega (arith, begins, few)
few_on shows (Showing turn from) b b' e most begins goes_on below few = by (looks_of turn.program (drop from shows)) goes_on below where
  by : (looks : List Look) → ((looks ≡ [] → ⊥) → b' ≡ b) → (looks ≡ [] → b < most) → b' ≤ most
  by [] same less =
      let fewer = less refl in
      elim begins [ inl next ↦ omega (arith, next, fewer) | inr stays ↦ (let is = stays.0 in omega (arith, is, few)) ]
  by (k ∷ ks) same less = let is = same (λ none. cc) in omega (arith, is, few)

pub stops_few : (most : ℕ) (h : Host) → StopsAt most h → h.turns.begun ≤ most
stops_few most h stops = elim stops.1 [ inl all ↦ omega (arith, all) | inr fewer ↦ (let few = fewer.0 in omega (arith, few)) ]

-- ---- behind all lines

-- what is said where there is no line
pub none_left_so : (P : Type 0) (r : Option LineValue) → r ≡ None → MatchOption r P (λ l. Unit {0}) → P
none_left_so P r is m = subst (λ (o : Option LineValue). MatchOption o P (λ l. Unit {0})) is m

-- the host and the devices are as they were
pub printed_as : (earlier : ℕ) (programs : List Program) (parts : List Part) (detaches : List Detach) (cs : List Counted) (h h' : Host) (now now' : List Counted) (old mid : Option (List ℕ)) → h' ≡ h → now' ≡ now
    → HasPrinted earlier programs parts detaches cs h now old mid → HasPrinted earlier programs parts detaches cs h' now' old mid
printed_as earlier programs parts detaches cs h h' now now' old mid same kept t =
    subst (λ (x : Host). HasPrinted earlier programs parts detaches cs x now' old mid) (sym same) (subst (λ (es : List Counted). HasPrinted earlier programs parts detaches cs h es old mid) (sym kept) t)

-- ---- snapshots

-- programs of a script begin at their start
pub can_be_saved : (parts : List Part) → All Unbound (world_programs parts) → All CanBeSaved (world_programs parts)
can_be_saved [] h = All-nil CanBeSaved
can_be_saved (p ∷ ps) h =
    All-cons CanBeSaved (world_program p) (world_programs ps) (refl, All-head Unbound (world_program p) (world_programs ps) h) (can_be_saved ps (All-tail Unbound (world_program p) (world_programs ps) h))

-- a snapshot of what was told
pub saved : (parts : List Part) (detaches : List Detach) (most : ℕ) (cs cs' : List Counted) (h : Host) (old new : Option (List ℕ))
    (t : HasPrinted 0 (world_programs parts) parts detaches cs h cs' old new) → StopsAt most h → (s : Snapshot) → s.events ≡ h.turns.begun
    → IsSaved 0 (world_programs parts) detaches (devices_of cs) t.told.lines (devices_of cs') t.told.host.tellers s → Saves parts detaches most cs cs' old new s
saved parts detaches most cs cs' h old new t stops s events is = (event_lines (map part_names parts) t.told.lines, are_saved, t.printed)
  where
    told : HasTold 0 (world_programs parts) detaches cs h cs'
    told = t.told

    all_met : AreAllMet t.told.lines t.told.met is.world.actors
    all_met i a ea =
        let wide = t.told.host.wide in
        let many = zip_long StartsHeld (world_programs parts) is.world.actors is.world.starts in
        let teller = item t.told.host.tellers i (omega (arith, slice_get_within is.world.actors i a ea, many, wide)) in
        is.met i teller.0 a teller.1 ea ∙ t.told.meets i teller.0 teller.1

    enough : (s.events ≡ most) ⊎ ((s.events < most) × IsOver is.world.now)
    enough = elim stops.1 [
      | inl all ↦ inl (events ∙ all)
      | inr fewer ↦ inr (let few = fewer.0 in omega (arith, few, events), is.over (subst HaveEnded t.told.host.dues fewer.1))
    ]

    are_saved : AreSaved parts detaches cs cs' most (event_lines (map part_names parts) t.told.lines) s
    are_saved = record {
      lines = t.told.lines;
      met = t.told.met;
      world = is.world;
      enough = enough;
      is = is.is;
      meets = all_met;
      took = subst (λ (n : ℕ). Took (world_programs parts) detaches 0 0 t.told.lines t.told.met cs n cs') (sym events) t.told.took;
      text_is = refl;
    }
