-- A program with one strand runs as its plan does: move by move, and a turn that begins changes nothing.
use Rattle.std.proofs.Common.{◌≡◌, ℕ, zero, suc, ◌+◌, ◌-◌, List, [], ◌∷◌, ◌++◌, length, Option, Some, None, Bool, true, false, refl, sym, ap, ◌∙◌, subst, append-nil}
use Rattle.std.specs.Prelude.{if◌then◌else◌, nat_lt}
use Rattle.wa_model.specs.declared.events.End.{End}
use Rattle.wa_model.specs.Blocking.{Left, Note, all_left, done_notes}
use Rattle.wa_model.specs.Instantiation.{Opening, fails_as, opening, opens}
use Rattle.wa_model.specs.Machine.{Ran, Turn, after, goes, pay, run_with, still, stops}
use Rattle.wa_model.specs.Outside.{Event, answered, called, ended, parked, paused, returned, shown}
use Rattle.wa_model.specs.Plan.{Entry, Outcome}
use Rattle.wa_model.specs.Protocol.{Held, Protocol, aside, busy, calling, entering, exports_of, free, held_begun, held_on, over, protocol, starting, store_held}
use Rattle.wa_model.specs.Store.{Store}
use Rattle.strand_laws.proofs.Endings.{EndsSo, OverAt, TurnEnds, turn_ends}
use Rattle.strand_laws.proofs.Weaving.{told_both}
use Rattle.strand_laws.proofs.WovenRuns.{finished_stops, stands_none}
use Rattle.strand_laws.proofs.OneArea.{protocol_same}
use Rattle.strand_laws.specs.OneStrand.{OneStrandRuns, StandsThere, with_one}
use Rattle.strand_laws.specs.Strands.{ProtocolStrands, Strand, StrandProgram, held_loom, held_starts, plan_of}
use Rattle.strand_laws.specs.Woven.{Loom, Thread, Told, Woven, ends_strand, finished, last_event, moved, standing_now, told_by, weave, weave_on, woven, woven_by}

-- where a run stands that has begun, by its notes
entries_end : (s : Store) (l : Left) (es : List Entry) → EndsSo (done_notes s es) (held_on s l es)
entries_end s l [] = (λ how e. tt, λ ticks used e. cc)
entries_end s l (x ∷ xs) = (λ how e. cc, λ ticks used e. cc)

begun_ends : (start : Option ℕ) (l : Left) (o : Opening) → EndsSo (held_begun start l o).events (held_begun start l o).last
begun_ends start l (fails_as how) = (λ h e. tt, λ ticks used e. cc)
begun_ends None l (opens s) = entries_end s l l.entries
begun_ends (Some f) l (opens s) = (λ how e. cc, λ ticks used e. cc)

abbrev pub threads : {S : Type 0} → ℕ → Option S → List (Thread S)
threads d at = record { due = d; at = at } ∷ []

-- the strand goes on
abbrev pub one : {S : Type 0} → ℕ → S → Woven S
one d h = record { now = 0; threads = threads d (Some h) }

-- it has ended
abbrev pub none_left : {S : Type 0} → ℕ → Woven S
none_left {S} d = finished (threads {S = S} d None)

-- ---- the woven machine beside that of the strand alone

module _ {S T : Type 0} (loom : Loom S) (alone : T → Turn T Note) (Beside : Woven S → T → Type 0) where
  abbrev pub BothRan : Ran (Woven S) Told → Ran T Note → Type 0
  BothRan r q = (r.events ≡ told_by 0 q.events) × Beside r.last q.last

  abbrev pub BothGo : Turn (Woven S) Told → Turn T Note → Type 0
  BothGo stops stops = Unit {0}
  BothGo stops (goes c fs t) = ⊥
  BothGo (goes k es w) stops = ⊥
  BothGo (goes k es w) (goes c fs t) = (k ≡ c) × BothRan (record { events = es; last = w }) (record { events = fs; last = t })

  -- notes in front of those of what comes
  pub front : (r more : Ran (Woven S) Told) (q rest : Ran T Note) → BothRan r q → BothRan more rest → BothRan (after r.events more) (after q.events rest)
  front r more q rest h m =
      (ap (λ (z : List Told). z ++ more.events) h.0 ∙ ap (λ (z : List Told). told_by 0 q.events ++ z) m.0 ∙ sym (told_both loom 0 q.events rest.events), m.1)

  abbrev RunsOn : ℕ → Type 0
  RunsOn k = (n : ℕ) (w : Woven S) (t : T) → Beside w t → BothRan (run_with (weave loom) k n w) (run_with alone k n t)

  module _ (move : (w : Woven S) (t : T) → Beside w t → BothGo (weave loom w) (alone t)) where
    pub both_run : (moves : ℕ) → RunsOn moves
    both_run zero n w t b = (refl, b)
    both_run (suc k) n w t b = by_turns (both_run k) (weave loom w) (alone t) (move w t b)
      where
        by_cost : RunsOn k → (o : Bool) (c : ℕ) (es : List Told) (v : Woven S) (fs : List Note) (u : T) → BothRan (record { events = es; last = v }) (record { events = fs; last = u })
            → BothRan (if o then after es (run_with (weave loom) k (n - suc c) v) else still w) (if o then after fs (run_with alone k (n - suc c) u) else still t)
        by_cost more true c es v fs u h =
            front (record { events = es; last = v }) (run_with (weave loom) k (n - suc c) v) (record { events = fs; last = u }) (run_with alone k (n - suc c) u) h (more (n - suc c) v u h.1)
        by_cost more false c es v fs u h = (refl, b)

        by_turns : RunsOn k → (o : Turn (Woven S) Told) (q : Turn T Note) → BothGo o q → BothRan (pay (run_with (weave loom) k) n w o) (pay (run_with alone k) n t q)
        by_turns more stops stops h = (refl, b)
        by_turns more stops (goes c fs u) h = absurd h
        by_turns more (goes c es v) stops h = absurd h
        by_turns more (goes c es v) (goes c' fs u) h =
            subst (λ z. BothRan (pay (run_with (weave loom) k) n w (goes c es v)) (pay (run_with alone k) n t (goes z fs u))) h.0 (by_cost more (nat_lt c n) c es v fs u h.1)

-- ---- under the protocol

module _ (g : StrandProgram) (s : Strand) where
  abbrev loom : Loom Held
  loom = held_loom (with_one g s)

  abbrev alone : Held → Turn Held Note
  alone = protocol g.source (exports_of g.source) (plan_of (with_one g s) s)

  -- the strand beside its plan's run
  data Beside : Woven Held → Held → Type 0 where
    goes_on : (d : ℕ) (h : Held) → Beside (one d h) h
    has_ended : (d : ℕ) (t : Store) → Beside (none_left d) (over t)

  abbrev HeldRan : Ran (Woven Held) Told → Ran Held Note → Type 0
  HeldRan = BothRan loom alone Beside

  ended_there : (d : ℕ) (t : Held) → OverAt t → Beside (none_left d) t
  ended_there d (over u) h = has_ended d u
  ended_there d (free u l) h = absurd h
  ended_there d (starting f u l) h = absurd h
  ended_there d (busy ph c l) h = absurd h
  ended_there d (calling ph u f args th l) h = absurd h
  ended_there d (aside ph c th l) h = absurd h
  ended_there d (entering ph e u l) h = absurd h

  -- it paused, is due again, and its turn begins so
  abbrev Wakes : (d : ℕ) (old : Option Held) (es : List Note) (t : Held) (due : ℕ) → Ran Held Note → Type 0
  Wakes d old es t due r =
      HeldRan (after (told_by 0 es) (woven_by loom (weave_on loom (length (threads d old))) false 0 due r.events r.last (threads due (Some t)) (last_event r.events)))
      (record { events = es; last = t })

  -- from what the strand made to what is woven
  moved_one : (st : Bool) (d : ℕ) (old : Option Held) (es : List Note) (t : Held) → EndsSo es t → HeldRan (woven loom st 0 d es t (threads d old)) (record { events = es; last = t })
  moved_one st d old es t h = by_event (last_event es) refl
    where
      by_end : (how : End) → last_event es ≡ Some (ended how) → (b : Bool)
          → HeldRan (after (told_by 0 es) (if b then weave_on loom (suc (length (threads d old))) (store_held t) (threads d None) else still (none_left d))) (record { events = es; last = t })
      by_end how e true = (append-nil (told_by 0 es), ended_there d t (h.0 how e))
      by_end how e false = (append-nil (told_by 0 es), ended_there d t (h.0 how e))

      by_event : (o : Option Event) → last_event es ≡ o → HeldRan (woven_by loom (weave_on loom (suc (length (threads d old)))) st 0 d es t (threads d old) o) (record { events = es; last = t })
      by_event None e = (refl, goes_on d t)
      by_event (Some (called c)) e = (refl, goes_on d t)
      by_event (Some (answered said)) e = (refl, goes_on d t)
      by_event (Some (parked used)) e = (refl, goes_on d t)
      by_event (Some (returned n v)) e = (refl, goes_on d t)
      by_event (Some (shown at bytes)) e = (refl, goes_on d t)
      by_event (Some (paused ticks used)) e = subst (Wakes d old es t (d + ticks)) (sym (h.1 ticks used e)) (append-nil (told_by 0 es), goes_on (d + ticks) t)
      by_event (Some (ended how)) e = by_end how e (ends_strand st how)

  moves_beside : (w : Woven Held) (h : Held) → Beside w h → BothGo loom alone Beside (weave loom w) (alone h)
  moves_beside _ _ (has_ended d t) = subst (λ o. BothGo loom alone Beside o stops) (sym (finished_stops loom (threads d None))) tt
  moves_beside _ _ (goes_on d h) = by_turn (alone h) (turn_ends g.source (exports_of g.source) (plan_of (with_one g s) s) h)
    where
      by_turn : (o : Turn Held Note) → TurnEnds o → BothGo loom alone Beside (moved loom (held_starts h) 0 d (threads d (Some h)) o) o
      by_turn stops e = tt
      by_turn (goes c es t) e = (refl, moved_one (held_starts h) d (Some h) es t e)

  stands_there : (w : Woven Held) (h : Held) → Beside w h → StandsThere h (standing_now w)
  stands_there _ _ (goes_on d h) = refl
  stands_there _ _ (has_ended d t) = subst (StandsThere (over t)) (sym (stands_none loom (threads d None))) (t, refl)

  abbrev from : List Outcome → Ran Held Note
  from os = held_begun g.source.start (all_left (plan_of (with_one g s) s) os) (opening g.source g.globals)

  abbrev at_first : List Outcome → Ran (Woven Held) Told
  at_first os = woven loom true 0 0 (from os).events (from os).last (threads 0 (Some (from os).last))

  begins_so : (os : List Outcome) → HeldRan (at_first os) (from os)
  begins_so os = moved_one true 0 (Some (from os).last) (from os).events (from os).last (begun_ends g.source.start (all_left (plan_of (with_one g s) s) os) (opening g.source g.globals))

  -- it makes the notes of this run, and stands where that does
  abbrev RunsAs : (os : List Outcome) (n : ℕ) → Ran Held Note → Type 0
  RunsAs os n r =
      ((ProtocolStrands (with_one g s) (os ∷ []) n).events ≡ told_by 0 r.events) × StandsThere r.last (standing_now (ProtocolStrands (with_one g s) (os ∷ []) n).last)

  whole_run : (os : List Outcome) (n : ℕ) → RunsAs os n (Protocol g.source (plan_of (with_one g s) s) os n)
  whole_run os n =
      let more : Ran (Woven Held) Told = run_with (weave loom) n n (at_first os).last in
      let rest : Ran Held Note = run_with alone n n (from os).last in
      let ran : HeldRan (after (at_first os).events more) (after (from os).events rest) =
      front loom alone Beside (at_first os) more (from os) rest (begins_so os) (both_run loom alone Beside moves_beside n n (at_first os).last (from os).last (begins_so os).1) in
      (ran.0, stands_there more.last rest.last ran.1)

pub one_strand_runs : OneStrandRuns
one_strand_runs g s os n =
    let r = subst (RunsAs g s os n) (protocol_same g.globals s.entries s.area g.listed g.source os n) (whole_run g s os n) in record { notes = r.0; stands = r.1 }
