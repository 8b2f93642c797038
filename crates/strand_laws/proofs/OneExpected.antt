-- A program with one strand and blocking imports makes what is expected of its plan's run: move by move, its pauses shown and its answers given at once.
use Rattle.std.proofs.Common.{◌≡◌, ℕ, suc, ◌+◌, List, [], ◌∷◌, ◌++◌, length, Option, Some, None, Bool, true, false, refl, sym, ap, ◌∙◌, subst, append-nil, arith}
use Rattle.std.specs.Prelude.{if◌then◌else◌, nat_lt}
use Rattle.wa_types.specs.declared.values.Value.{Value}
use Rattle.wa_types.specs.Base.{Base}
use Rattle.wa_types.specs.Frames.{Suspended}
use Rattle.wa_types.specs.Modules.{func_type_at}
use Rattle.wa_types.specs.Pausing.{Settings}
use Rattle.wa_types.specs.Syntax.{Module}
use Rattle.wa_model.specs.declared.answers.Said.{Said}
use Rattle.wa_model.specs.declared.answers.Said.TheVariants as S
use Rattle.wa_model.specs.declared.events.End.TheVariants.{Done, Trapped}
use Rattle.wa_model.specs.Outside.{Answer, ended}
use Rattle.wa_model.specs.Blocking.{Left, Note, State, all_left, an_entry, asked, begun, blocking, by_step, call_note, done_notes}
use Rattle.wa_model.specs.Blocking.{fault_of, go_on, halts, inside, no_store, note, on_to, pause_of, poked, runs}
use Rattle.wa_model.specs.Blocking.{stack_at, tested, with_outcomes}
use Rattle.wa_model.specs.Behaves.{expected_notes}
use Rattle.wa_model.specs.Configuration.{Configuration}
use Rattle.wa_model.specs.Expected.{Expected, pause_note, trap_note}
use Rattle.wa_model.specs.Instantiation.{Opening, fails_as, opening, opens}
use Rattle.wa_model.specs.Machine.{Ran, Turn, after, goes, run, still, stops}
use Rattle.wa_model.specs.Plan.{Entry, Outcome, Plan, given}
use Rattle.wa_model.specs.Step.{asks, step}
use Rattle.wa_model.specs.Store.{Store}
use Rattle.run_theory.specs.Shown.{shown_within}
use Rattle.run_theory.proofs.ShownRuns.{blocking_shown, pause_shown, shown_move, shown_run}
use Rattle.headline.proofs.Pauses.{told_moves}
use Rattle.headline.specs.Told.{answer_notes, goes_on_told}
use Rattle.strand_laws.proofs.MoveKinds.{Kind, PlainTurn, Shape, ends_with, k_pauses, k_plain, k_traps, kind_of, quiet}
use Rattle.strand_laws.proofs.OneStrand.{BothGo, BothRan, both_run, front, none_left, one, threads}
use Rattle.strand_laws.proofs.Weaving.{stays_on}
use Rattle.strand_laws.proofs.WovenRuns.{end_woven, finished_stops, last_of, no_ends_last}
use Rattle.strand_laws.proofs.OneArea.{blocking_same}
use Rattle.strand_laws.specs.OneStrand.{OneStrandIsExpected, with_one}
use Rattle.strand_laws.specs.Strands.{BlockingStrands, Space, Strand, StrandProgram, Strung, lifted, on, plan_of, space_of}
use Rattle.strand_laws.specs.Strands.{strung, strung_asked, strung_loom, strung_next, strung_pauses, strung_starts, strung_tested, told_on, waits}
use Rattle.strand_laws.specs.Woven.{Loom, Told, Woven, ends_strand, last_event, moved, told_by, weave, weave_on, woven, woven_by}

-- where a run stands that has begun, by its notes, of which none pauses
entries_shape : (s : Store) (l : Left) (es : List Entry) → Shape (done_notes s es) (on_to s l es)
entries_shape s l [] = ends_with [] (note (ended Done) s) Done refl tt refl refl
entries_shape s l (e ∷ es) = quiet tt

begun_shape : (start : Option ℕ) (l : Left) (o : Opening) → Shape (begun start l o).events (begun start l o).last
begun_shape start l (fails_as how) = ends_with [] (note (ended how) no_store) how refl tt refl refl
begun_shape None l (opens s) = entries_shape s l l.entries
begun_shape (Some x) l (opens s) = quiet tt

module _ (room fit : List Suspended → ℕ) (len : ℕ) where
  entries_shown : (s : Store) (es : List Entry) (ys : List Note) → shown_within room fit len (done_notes s es ++ ys) ≡ done_notes s es ++ shown_within room fit len ys
  entries_shown s [] ys = refl
  entries_shown s (e ∷ es) ys = refl

  begun_shown : (start : Option ℕ) (l : Left) (o : Opening) (ys : List Note)
      → shown_within room fit len ((begun start l o).events ++ ys) ≡ (begun start l o).events ++ shown_within room fit len ys
  begun_shown start l (fails_as how) ys = refl
  begun_shown None l (opens s) ys = entries_shown s l.entries ys
  begun_shown (Some x) l (opens s) ys = refl

module _ (st : Settings) (g : StrandProgram) (s : Strand) where
  abbrev m : Module
  m = Base g.source

  abbrev plan : Plan
  plan = plan_of (with_one g s) s

  abbrev sp : Space
  sp = space_of st g.source s

  abbrev loom : Loom Strung
  loom = strung_loom st (with_one g s)

  abbrev alone : State → Turn State Note
  alone = blocking_shown sp.room sp.fit sp.len m plan

  -- the strand beside its plan's run
  data Beside : Woven Strung → State → Type 0 where
    goes_on : (d : ℕ) (a : State) → Beside (one d (on a)) a
    has_ended : (d : ℕ) (t : Store) → Beside (none_left d) (halts t)

  abbrev StrungRan : Ran (Woven Strung) Told → Ran State Note → Type 0
  StrungRan = BothRan loom alone Beside

  abbrev StrungGo : Turn (Woven Strung) Told → Turn State Note → Type 0
  StrungGo = BothGo loom alone Beside

  -- a move that doesn't pause
  moved_one : (in_start : Bool) (d : ℕ) (old : Option Strung) (es : List Note) (t : State) → Shape es t
      → StrungRan (woven loom in_start 0 d es (on t) (threads d old)) (record { events = es; last = t })
  moved_one in_start d old es t (quiet h) =
      subst (λ (r : Ran (Woven Strung) Told). StrungRan r (record { events = es; last = t }))
      (sym (stays_on loom (weave_on loom (suc (length (threads d old)))) in_start 0 d es (on t) (threads d old) (last_event es) (no_ends_last es h)))
      (refl, goes_on d t)
  moved_one in_start d old es t (ends_with es1 x how ee h ex at) =
      subst (λ (r : Ran (Woven Strung) Told). StrungRan r (record { events = es; last = t }))
      (sym (end_woven loom in_start 0 d es (on t) (threads d old) how (ap last_event ee ∙ last_of es1 x ∙ ap (λ z. Some z) ex)))
      (by_end (ends_strand in_start how))
    where
      by_end : (b : Bool)
          → StrungRan (after (told_by 0 es) (if b then weave_on loom (suc (length (threads d old))) (loom.store (on t)) (threads d None) else still (none_left d)))
          (record { events = es; last = t })
      by_end true = (append-nil (told_by 0 es), subst (Beside (none_left d)) (sym at) (has_ended d x.store))
      by_end false = (append-nil (told_by 0 es), subst (Beside (none_left d)) (sym at) (has_ended d x.store))

  plain_beside : (d : ℕ) (a : State) (o : Turn State Note) → PlainTurn o → StrungGo (moved loom (strung_starts (on a)) 0 d (threads d (Some (on a))) (lifted o)) (shown_move sp.room sp.fit sp.len o)
  plain_beside d a stops h = tt
  plain_beside d a (goes k [] t) h = (refl, moved_one (strung_starts (on a)) d (Some (on a)) [] t h.1)
  plain_beside d a (goes k (x ∷ xs) t) h =
      subst (λ o. StrungGo (moved loom (strung_starts (on a)) 0 d (threads d (Some (on a))) (goes k (x ∷ xs) (on t))) (pause_shown sp.room sp.fit sp.len k x xs t o)) (sym h.0)
      (refl, moved_one (strung_starts (on a)) d (Some (on a)) (x ∷ xs) t h.1)

  -- a pause: the answer is given as the next turn begins
  module _ (d k import : ℕ) (args : List Value) (e : Entry) (c at : Configuration) (l : Left) (a : Answer) (os : List Outcome) (ticks : ℕ) where
    abbrev lo : Left
    lo = with_outcomes l os

    abbrev asked_so : Note
    asked_so = call_note import args at.store (stack_at m (inside (an_entry e) at)) (Some ticks)

    abbrev pause_so : Note
    pause_so = pause_note ticks (sp.room asked_so.stack) at.store asked_so.stack

    abbrev trap_so : Note
    trap_so = trap_note (sp.fit asked_so.stack) sp.len at.store

    abbrev before : Strung
    before = on (runs (an_entry e) c l)

    abbrev AnsweredSo : Said → Type 0
    AnsweredSo q =
        StrungRan
        (after (told_by 0 (asked_so ∷ pause_so ∷ []))
        (woven_by loom (weave_on loom (length (threads d (Some before)))) false 0 (d + ticks) (answer_notes q (poked at.store a.pokes)) (on (told_on q (an_entry e) at (poked at.store a.pokes) lo))
        (threads (d + ticks) (Some (waits (an_entry e) at a lo))) (last_event (answer_notes q (poked at.store a.pokes)))))
        (record { events = asked_so ∷ pause_so ∷ answer_notes q (poked at.store a.pokes); last = goes_on_told q e at (poked at.store a.pokes) lo })

    answered_so : (q : Said) → AnsweredSo q
    answered_so (S.Value v) = (refl, goes_on (d + ticks) (goes_on_told (S.Value v) e at (poked at.store a.pokes) lo))
    answered_so S.Trap = (refl, has_ended (d + ticks) (poked at.store a.pokes))

    by_room : (b : Bool)
        → StrungGo (moved loom false 0 d (threads d (Some before)) (goes k (asked_so ∷ (if b then trap_so ∷ [] else pause_so ∷ [])) (if b then on (halts at.store) else waits (an_entry e) at a lo)))
        (if b then goes k (asked_so ∷ trap_so ∷ []) (halts at.store)
        else goes k (asked_so ∷ pause_so ∷ answer_notes a.said (poked at.store a.pokes)) (goes_on_told a.said e at (poked at.store a.pokes) lo))
    by_room true = (refl, (refl, has_ended d at.store))
    by_room false = (refl, answered_so a.said)

    pause_beside : step m c ≡ asks k import args at → l.outcomes ≡ given a ∷ os → fault_of (func_type_at m import).results (length at.store.memory) plan false import a ≡ None
        → pause_of a.ticks ≡ Some ticks → StrungGo (moved loom false 0 d (threads d (Some before)) (strung m plan sp before)) (alone (runs (an_entry e) c l))
    pause_beside is eo ef et =
        subst (λ o. StrungGo (moved loom false 0 d (threads d (Some before)) o) (alone (runs (an_entry e) c l))) (sym there)
        (subst (λ o. StrungGo (moved loom false 0 d (threads d (Some before)) (strung_pauses sp k asked_so ticks (an_entry e) at a lo)) (shown_move sp.room sp.fit sp.len o)) (sym at_once)
        (by_room (nat_lt sp.len (sp.room asked_so.stack))))
      where
        there : strung m plan sp before ≡ strung_pauses sp k asked_so ticks (an_entry e) at a lo
        there =
            ap (strung_next m plan sp (blocking m plan (runs (an_entry e) c l)) (an_entry e) l) is
            ∙ ap (strung_asked m plan sp (blocking m plan (runs (an_entry e) c l)) k import args (an_entry e) at l) eo
            ∙ ap (λ z. strung_tested m sp (blocking m plan (runs (an_entry e) c l)) k import args (an_entry e) at lo a z (pause_of a.ticks)) ef
            ∙ ap (strung_tested m sp (blocking m plan (runs (an_entry e) c l)) k import args (an_entry e) at lo a None) et

        at_once : blocking m plan (runs (an_entry e) c l) ≡ goes k (asked_so ∷ answer_notes a.said (poked at.store a.pokes)) (goes_on_told a.said e at (poked at.store a.pokes) lo)
        at_once =
            ap (by_step m plan (an_entry e) l) is
            ∙ ap (asked m plan k import args (inside (an_entry e) at) l) eo
            ∙ ap (tested m k import args (inside (an_entry e) at) lo a) ef
            ∙ ap (λ z. go_on k (call_note import args at.store (stack_at m (inside (an_entry e) at)) z) a.said (poked at.store a.pokes) lo (inside (an_entry e) at)) et
            ∙ told_moves k asked_so a.said (poked at.store a.pokes) lo e at

  moves_beside : (w : Woven Strung) (a : State) → Beside w a → StrungGo (weave loom w) (alone a)
  moves_beside _ _ (has_ended d t) = subst (λ o. StrungGo o stops) (sym (finished_stops loom (threads d None))) tt
  moves_beside _ _ (goes_on d a) = by_kind a (kind_of m plan sp a)
    where
      as_is : (a : State) → PlainTurn (blocking m plan a) → strung m plan sp (on a) ≡ lifted (blocking m plan a)
          → StrungGo (moved loom (strung_starts (on a)) 0 d (threads d (Some (on a))) (strung m plan sp (on a))) (alone a)
      as_is a pl eq = subst (λ o. StrungGo (moved loom (strung_starts (on a)) 0 d (threads d (Some (on a))) o) (alone a)) (sym eq) (plain_beside d a (blocking m plan a) pl)

      by_kind : (a : State) → Kind m plan sp a → StrungGo (moved loom (strung_starts (on a)) 0 d (threads d (Some (on a))) (strung m plan sp (on a))) (alone a)
      by_kind a (k_plain pl eq) = as_is a pl eq
      by_kind _ (k_traps {task = task} {c = c} {l = l} k t u e) =
          as_is (runs task c l) (subst (λ o. PlainTurn (by_step m plan task l o)) (sym e) (refl, ends_with [] (note (ended (Trapped t)) u) (Trapped t) refl tt refl refl))
          (ap (strung_next m plan sp (blocking m plan (runs task c l)) task l) e)
      by_kind _ (k_pauses {e = e} {c = c} {l = l} k i args at x os ticks is eo ef et) = pause_beside d k i args e c at l x os ticks is eo ef et

  abbrev from : List Outcome → Ran State Note
  from os = begun m.start (all_left plan os) (opening m g.globals)

  abbrev at_first : List Outcome → Ran (Woven Strung) Told
  at_first os = woven loom true 0 0 (from os).events (on (from os).last) (threads 0 (Some (on (from os).last)))

  whole_run : (os : List Outcome) (n : ℕ) → (BlockingStrands st (with_one g s) (os ∷ []) n).events ≡ told_by 0 (expected_notes g.source st plan os n)
  whole_run os n =
      let more : Ran (Woven Strung) Told = run (weave loom) n (at_first os).last in
      let rest : Ran State Note = run alone n (from os).last in
      let first : StrungRan (at_first os) (from os) = moved_one true 0 (Some (on (from os).last)) (from os).events (from os).last (begun_shape m.start (all_left plan os) (opening m g.globals)) in
      let ran : StrungRan (after (at_first os).events more) (after (from os).events rest) =
      front loom alone Beside (at_first os) more (from os) rest first (both_run loom alone Beside moves_beside n n (at_first os).last (from os).last first.1) in
      ran.0
      ∙ ap (λ (z : List Note). told_by 0 ((from os).events ++ z)) (shown_run sp.room sp.fit sp.len m plan n n (from os).last (omega arith))
      ∙ ap (told_by 0) (sym (begun_shown sp.room sp.fit sp.len m.start (all_left plan os) (opening m g.globals) (run (blocking m plan) n (from os).last).events))

pub one_strand_expected : OneStrandIsExpected
one_strand_expected st g s os n =
    whole_run st g s os n
    ∙ ap (λ (r : Ran State Note). told_by 0 (Expected g.source st.policy s.area r.events)) (blocking_same g.globals s.entries s.area g.listed g.source os n)
