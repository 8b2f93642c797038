-- Worlds of programs that are saved by one module and gone on with by another, beside those of their originals.
use Rattle.std.proofs.Common.{arith, ◌≡◌, ◌≤◌, ◌<◌, ◌+◌, ℕ, zero, suc, List, [], ◌∷◌, ◌++◌, length, map, take, drop, Option, Some, None, All, refl, sym, ap, ◌∙◌, subst, length-append}
use Rattle.std.specs.Prelude.{slice_get}
use Rattle.std.specs.List.{AllZip}
use Rattle.wa_types.specs.Runtime.{global_space}
use Rattle.wa_model.specs.declared.answers.Detach.{Detach}
use Rattle.wa_model.specs.Blocking.{Note}
use Rattle.wa_model.specs.Outside.{AnswerLine, Call, Line}
use Rattle.wa_model.specs.Plan.{Outcome, OutcomeFits}
use Rattle.world_model.specs.World.{Actor, BlockingWorld, CallsMeet, Device, Events, HasNotes, IsOver, Look, NoteMeets, Original, Plays, Program, ProtocolWorldFrom, StartsHeld, StartsOriginal, an_event, answers_from, call_in, detached, due_from, events_with_looks, line_at, no_event, protocol_story, turn_of}
use Rattle.snapshot_store.specs.Snapshots.{ProgramRecord, Snapshot, fresh, over, paused}
use Rattle.world_laws.specs.Originals.{MayRun, Orderly, StandsIn, met, new_calls}
use Rattle.world_laws.specs.Played.{ProtocolWorldUpTo}
use Rattle.world_laws.specs.Snapshots.{From, IsRecordOf, IsSnapshotOf, StandsSo, from_record}
use Rattle.world_laws.proofs.Counting.{calls_on}
use Rattle.world_laws.proofs.GoingOn.{then_events}
use Rattle.world_laws.proofs.Meeting.{AnswersFit, EachMet, Met, SameCalls, events_met, meets_same}
use Rattle.world_laws.proofs.Places.{zip_at}
use Rattle.world_laws.proofs.Replaying.{Quads, Since, Swapped, Twice, played_again}
use Rattle.world_laws.proofs.Rows.{Row, Rows, events_beside, over_beside}
use Rattle.world_laws.proofs.Shows.{Prints, prints_by}
use Rattle.world_laws.proofs.Snapshots.{Stays, again_so, events_from, fitted, fitted_notes, fitted_outcomes, fitted_stays, records_go_on, stays_over}
use Rattle.world_laws.proofs.Stories.{IsStory}
use Rattle.world_laws.proofs.Tails.{story_tailed}
use Rattle.world_laws.proofs.Worlds.{take_first}
use Rattle.joined_worlds.proofs.SomeTold.{fresh_some, paused_some}

-- ---- lists

-- a longer beginning of a list begins with a shorter one
longer_split : (xs ys us rest : List Outcome) → xs ++ ys ≡ us ++ rest → length xs ≤ length us → (vs : List Outcome) × (us ≡ xs ++ vs) × (ys ≡ vs ++ rest)
longer_split [] ys us rest e le = (us, refl, e)
longer_split (x ∷ xs) ys [] rest e le = let no_way : ⊥ = omega arith in absurd no_way
longer_split (x ∷ xs) ys (u ∷ us) rest e le =
    let r = longer_split xs ys us rest (tail e) (omega arith) in
    (r.0, ap (λ (z : Outcome). z ∷ us) (sym (head e)) ∙ ap (λ (zs : List Outcome). x ∷ zs) r.1, r.2)
  where
    head : x ∷ (xs ++ ys) ≡ u ∷ (us ++ rest) → x ≡ u
    head e = cc

    tail : x ∷ (xs ++ ys) ≡ u ∷ (us ++ rest) → xs ++ ys ≡ us ++ rest
    tail e = cc

-- ---- programs whose calls are the same

-- what is asked of two programs for their lines and calls
record Serves (v w : Program) : Type 0 where
  calls : SameCalls v w
  looks : v.looks ≡ w.looks

calls_served : (v w : Program) → SameCalls v w → (xs : List Note) (os : List Outcome) (lines : List AnswerLine) (ds : List Device) (os' : List Outcome) (lines' : List AnswerLine) (ds' : List Device)
    → CallsMeet v xs os lines ds os' lines' ds' → CallsMeet w xs os lines ds os' lines' ds'
calls_served v w same [] os lines ds os' lines' ds' h = h
calls_served v w same (x ∷ xs) os lines ds os' lines' ds' h = by_call (λ os lines ds g. calls_served v w same xs os lines ds os' lines' ds' g) (call_in x.event) h
  where
    by_call : ((os : List Outcome) (lines : List AnswerLine) (ds : List Device) → CallsMeet v xs os lines ds os' lines' ds' → CallsMeet w xs os lines ds os' lines' ds')
        → (c : Option Call) → NoteMeets v c os lines ds (λ o l d. CallsMeet v xs o l d os' lines' ds') → NoteMeets w c os lines ds (λ o l d. CallsMeet w xs o l d os' lines' ds')
    by_call on None g = on os lines ds g
    by_call on (Some c) g = (g.0, g.1, g.2, g.3, g.4, meets_same v w same c.import c.args lines ds g.0 g.2 g.3 g.5, on g.1 g.2 g.3 g.6)

module _ (vs ws : List Program) (serves : AllZip Serves vs ws) (detaches : List Detach) where
  plays_served : (number : ℕ) (p p' : List Actor) (ds ds' : List Device) (lines : List Line) → Plays vs detaches number p ds lines p' ds' → Plays ws detaches number p ds lines p' ds'
  plays_served number p p' ds ds' lines play =
      let f = zip_at Serves vs ws serves play.i play.w play.program in
      let s = f.2 in
      record {
        i = play.i;
        a = play.a;
        w = f.0;
        next = play.next;
        program = f.1;
        outcomes = play.outcomes;
        answers = play.answers;
        calls = calls_served play.w f.0 s.calls (turn_of play.a.notes) play.a.outcomes play.a.answers (detached number detaches ds) play.outcomes play.answers ds' play.calls;
        made = play.made ∙ ap (λ (ls : List Look). map (line_at play.a.due play.i) (events_with_looks ls (turn_of play.a.notes))) s.looks;
        after = play.after;
      }

  events_served : (number : ℕ) (p last : List Actor) (ds ds' : List Device) (lines : List Line) → Events vs detaches number p ds lines last ds' → Events ws detaches number p ds lines last ds'
  events_served number p last ds ds' lines no_event = no_event
  events_served number p last ds ds' lines (an_event {actors' = mid} {ds' = es} {lines = first} {more = more} play rest e) =
      an_event (plays_served number p mid ds es first play) (events_served (suc number) mid last es ds' more rest) e

-- ---- one program

module _ (Over : Original → Program → Program → Type 0) (first : (o : Original) (w v : Program) → Over o w v → StandsIn o w) (second : (o : Original) (w v : Program) → Over o w v → StandsIn o v)
    (joined : (o : Original) (w v : Program) (h : Over o w v) → MayRun o → (a b : Actor) (r : ProgramRecord) → StartsHeld w a → (s : Since a b) → StandsSo w s.made s.used b r → (rest : List Outcome)
    → All OutcomeFits (s.used ++ rest) → Orderly o (s.used ++ rest) → new_calls (s.made ++ protocol_story (from_record v r) rest) ≤ length (s.used ++ rest)
    → IsStory o (s.used ++ rest) (s.made ++ protocol_story (from_record v r) rest)) where
  -- an original's two programs, the actors of the first where it begins and where it is saved, the record, and the actor of the second
  pub record Here (o : Original) (w v : Program) (a b : Actor) (r : ProgramRecord) (c : Actor) : Type 0 where
    pub over_it : Over o w v
    pub may : MayRun o
    pub held : StartsHeld w a
    pub since : Since a b
    pub is : IsRecordOf w a b r
    pub begins : StartsHeld (from_record v r) c
    pub calm : (used : List Outcome) → a.outcomes ≡ used ++ b.outcomes → Orderly o (used ++ met c)

  same_answers : (o : Original) (w v : Program) → Over o w v → v.answers ≡ w.answers
  same_answers o w v h = let f = first o w v h in let s = second o w v h in s.answers ∙ sym f.answers

  fitted_same : (o : Original) (w v : Program) (h : Over o w v) (made : List Note) (us : List Outcome) (b : Actor) (r : ProgramRecord) (c : Actor) → StandsSo w made us b r → StartsHeld (from_record v r) c
      → ((fitted r b c).due ≡ b.due) × ((fitted r b c).answers ≡ b.answers)
  fitted_same o w v g made us b fresh c h s = let z = s.starts in (z.due ∙ sym h.due, z.answers ∙ same_answers o w v g ∙ sym h.answers)
  fitted_same o w v g made us b (paused due x memory) c h s =
      let z = s.starts in (z.due ∙ sym h.is_due, z.answers ∙ ap (λ (ls : List AnswerLine). drop x.answers ls) (same_answers o w v g) ∙ sym h.answers)
  fitted_same o w v g made us b over c h s = (refl, refl)

  no_notes : {A : Type 0} (a : Actor) → a.notes ≡ [] → HasNotes a → A
  no_notes a e h = let z : length a.notes ≡ 0 = ap length e in let no_way : ⊥ = omega arith in absurd no_way

  -- each has something to come where the other has
  both_some : (o : Original) (w v : Program) (g : Over o w v) (a b : Actor) (r : ProgramRecord) (c : Actor) (made : List Note) (us : List Outcome) → StandsSo w made us b r
      → b.notes ≡ protocol_story (from_record w r) b.outcomes → StartsHeld (from_record v r) c → (HasNotes b → HasNotes (fitted r b c)) × (HasNotes (fitted r b c) → HasNotes b)
  both_some o w v g a b fresh c made us h told begins = (
    λ has. subst (λ (es : List Note). 0 < length es) (sym begins.story) (fresh_some v c.outcomes),
    λ has. subst (λ (es : List Note). 0 < length es) (sym told) (fresh_some w b.outcomes),
  )
  both_some o w v g a b (paused due x memory) c made us h told begins =
      let f = first o w v g in
      let s = second o w v g in
      let entry : x.entry < length v.plan.entries = subst (λ pl. x.entry < length pl.entries) (f.plan ∙ sym s.plan) h.entry in (
        λ has. subst (λ (es : List Note). 0 < length es) (sym begins.story) (paused_some v due x memory entry c.outcomes),
        λ has. subst (λ (es : List Note). 0 < length es) (sym told) (paused_some w due x memory h.entry b.outcomes),
      )
  both_some o w v g a b over c made us h told begins = (λ has. no_notes b h has, λ has. no_notes (fitted over b c) refl has)

  swapped_here : (o : Original) (w v : Program) (a b : Actor) (r : ProgramRecord) (c : Actor) → Here o w v a b r c → Swapped b (fitted r b c)
  swapped_here o w v a b r c h =
      let is = h.is in
      let same = fitted_same o w v h.over_it is.made is.met b r c is.stands h.begins in
      let some = both_some o w v h.over_it a b r c is.made is.met is.stands (records_go_on w a b r h.held h.is).0 h.begins in
      record { due = same.0; answers = same.1; on = some.0; back = some.1 }

  -- the actor of the original
  abbrev RowOf : Original → Program → Actor → Type 0
  RowOf o w d = (e : Actor) × StartsOriginal o e × Row o w d e

  row_here : (o : Original) (w v : Program) (a b : Actor) (r : ProgramRecord) (c d : Actor) → Here o w v a b r c → Twice a b d (fitted r b c) → Met d → RowOf o w d
  row_here o w v a b r c d h t meets =
      let st : StandsIn o w = first o w v h.over_it in
      let may = h.may in
      let held = h.held in
      let starts = held.starts in
      let s : Since a b = t.since in
      let begins = h.begins in
      let sw : Swapped a d = t.swapped in
      let n : Actor = fitted r b c in
      let k = meets.2 in
      let used : List Outcome = k.0 in
      let rest : List Outcome = meets.0 in
      let answers_same : d.answers ≡ o.program.answers = sw.answers ∙ starts.answers ∙ ap (answers_from w.answers) st.start ∙ st.answers in
      let fit : AnswersFit d.answers = subst AnswersFit (sym answers_same) may.answers in
      let in_range = k.3 fit in
      let counted : new_calls d.notes ≡ length s.used + new_calls (fitted r b c).notes = ap new_calls t.notes ∙ calls_on s.made (fitted r b c).notes ∙ ap (λ (z : ℕ). z + new_calls (fitted r b c).notes) s.count in
      let parts = longer_split s.used (fitted r b c).outcomes k.0 meets.0 (sym t.outcomes ∙ k.1) (let z = k.2 in omega arith) in
      let mine : List Outcome = parts.0 in
      let long : length k.0 ≡ length s.used + length parts.0 = ap length parts.1 ∙ length-append s.used parts.0 in
      let told : (fitted r b c).notes ≡ protocol_story (from_record v r) (parts.0 ++ meets.0) = fitted_notes v r b c begins ∙ ap (protocol_story (from_record v r)) parts.2 in
      let few_told : new_calls (protocol_story (from_record v r) (parts.0 ++ meets.0)) ≤ length parts.0 = let e = ap new_calls told in let z = k.2 in omega arith in
      let trimmed : (fitted r b c).notes ≡ protocol_story (from_record v r) parts.0 = told ∙ story_tailed (from_record v r) parts.0 meets.0 few_told in
      let whole : d.notes ≡ s.made ++ protocol_story (from_record v r) parts.0 = t.notes ∙ ap (λ (es : List Note). s.made ++ es) trimmed in
      let fits : All OutcomeFits (s.used ++ parts.0) = subst (All OutcomeFits) parts.1 in_range.0 in
      let own_notes : (fitted r b c).notes ≡ c.notes = fitted_notes v r b c begins ∙ ap (protocol_story (from_record v r)) (fitted_outcomes r b c) ∙ sym begins.story in
      let own_calls : new_calls c.notes ≡ length parts.0 = let e = ap new_calls own_notes in let z = k.2 in omega arith in
      let own_outcomes : c.outcomes ≡ parts.0 ++ meets.0 = sym (fitted_outcomes r b c) ∙ parts.2 in
      let own_met : met c ≡ parts.0 = ap (take (new_calls c.notes)) own_outcomes ∙ take_first parts.0 meets.0 (new_calls c.notes) (sym own_calls) in
      let calm : Orderly o (s.used ++ parts.0) = subst (λ (us : List Outcome). Orderly o (s.used ++ us)) own_met (h.calm s.used s.outcomes) in
      let fewer : new_calls (s.made ++ protocol_story (from_record v r) parts.0) ≤ length (s.used ++ parts.0) =
      let e = ap new_calls whole in let l = length-append s.used parts.0 in let z = k.2 in omega arith in
      let story : IsStory o (s.used ++ parts.0) (s.made ++ protocol_story (from_record v r) parts.0) =
      joined o w v h.over_it may a b r held s (again_so w a b r h.is s) parts.0 fits calm fewer in
      let there : IsStory o k.0 d.notes = subst (IsStory o k.0) (sym whole) (subst (λ (us : List Outcome). IsStory o us (s.made ++ protocol_story (from_record v r) parts.0)) (sym parts.1) story) in
      let fits_plan = may.fits in
      let area = fits_plan.area in
      let least = area.least in
      let rw_of = st.rewrites in
      let prints : AllZip (Prints o.program.looks) there.0 d.notes =
      prints_by (global_space o.program.source) o.program.plan.area (omega arith) o.program.looks may.looks there.0 d.notes there.2 in (
        record { due = 0; notes = there.0; outcomes = k.0; answers = o.program.answers },
        record { origin = st.original_start; starts = record { due = ap due_from (sym st.original_start); answers = ap (answers_from o.program.answers) (sym st.original_start) }; story = there.1 },
        record {
          calls = record { imports = rw_of.parts.imports; binds = st.binds };
          looks = st.looks;
          due = sym (sw.due ∙ starts.due ∙ ap due_from st.start);
          answers = sym answers_same;
          notes = subst (λ (ls : List Look). AllZip (Prints ls) there.0 d.notes) (sym st.looks) prints;
          rest = meets.0;
          outcomes = k.1;
          count = k.2;
        },
      )

  -- ---- all programs

  pub data Heres : List Original → List Program → List Program → List Actor → List Actor → List ProgramRecord → List Actor → Type 0 where
    no_program : Heres [] [] [] [] [] [] []
    a_program : {o : Original} {w v : Program} {a b : Actor} {r : ProgramRecord} {c : Actor} {os : List Original} {ws vs : List Program} {was now : List Actor} {rs : List ProgramRecord}
        {next : List Actor} → Here o w v a b r c → Heres os ws vs was now rs next → Heres (o ∷ os) (w ∷ ws) (v ∷ vs) (a ∷ was) (b ∷ now) (r ∷ rs) (c ∷ next)

  -- the second world's actors, those that are over as they were
  abbrev all_fitted : List ProgramRecord → List Actor → List Actor → List Actor
  all_fitted (r ∷ rs) (b ∷ now) (c ∷ next) = fitted r b c ∷ all_fitted rs now next
  all_fitted _ _ _ = []

  all_stay : (os : List Original) (ws vs : List Program) (was now : List Actor) (rs : List ProgramRecord) (next : List Actor) → Heres os ws vs was now rs next → AllZip Stays next (all_fitted rs now next)
  all_stay _ _ _ _ _ _ _ no_program = tt
  all_stay _ _ _ _ _ _ _ (a_program {v = v} {b = b} {r = r} {c = c} {os = os} {ws = ws} {vs = vs} {was = was} {now = now} {rs = rs} {next = next} h more) =
      (fitted_stays v r b c h.begins, all_stay os ws vs was now rs next more)

  all_swapped : (os : List Original) (ws vs : List Program) (was now : List Actor) (rs : List ProgramRecord) (next : List Actor) → Heres os ws vs was now rs next → AllZip Swapped now (all_fitted rs now next)
  all_swapped _ _ _ _ _ _ _ no_program = tt
  all_swapped _ _ _ _ _ _ _ (a_program {o = o} {w = w} {v = v} {a = a} {b = b} {r = r} {c = c} {os = os} {ws = ws} {vs = vs} {was = was} {now = now} {rs = rs} {next = next} h more) =
      (swapped_here o w v a b r c h, all_swapped os ws vs was now rs next more)

  all_serve : (os : List Original) (ws vs : List Program) (was now : List Actor) (rs : List ProgramRecord) (next : List Actor) → Heres os ws vs was now rs next → AllZip Serves vs ws
  all_serve _ _ _ _ _ _ _ no_program = tt
  all_serve _ _ _ _ _ _ _ (a_program {o = o} {w = w} {v = v} {os = os} {ws = ws} {vs = vs} {was = was} {now = now} {rs = rs} {next = next} h more) =
      let f = first o w v h.over_it in
      let s = second o w v h.over_it in
      let fr = f.rewrites in
      let sr = s.rewrites in
      (record { calls = record { imports = sr.parts.imports ∙ sym fr.parts.imports; binds = s.binds ∙ sym f.binds }; looks = s.looks ∙ sym f.looks }, all_serve os ws vs was now rs next more)

  all_rows : (os : List Original) (ws vs : List Program) (was now : List Actor) (rs : List ProgramRecord) (next all : List Actor) → Heres os ws vs was now rs next
      → Quads was now all (all_fitted rs now next) → EachMet all → (bs : List Actor) × AllZip StartsOriginal os bs × Rows os ws all bs
  all_rows _ _ _ _ _ _ _ [] no_program q meets = ([], tt, tt)
  all_rows _ _ _ _ _ _ _ (d ∷ all) no_program q meets = absurd q
  all_rows _ _ _ _ _ _ _ [] (a_program h more) q meets = absurd q
  all_rows _ _ _ _ _ _ _ (d ∷ all) (a_program {o = o} {w = w} {v = v} {a = a} {b = b} {r = r} {c = c} {os = os} {ws = ws} {vs = vs} {was = was} {now = now} {rs = rs} {next = next} h more) q meets =
      let one = row_here o w v a b r c d h q.0 meets.0 in
      let on = all_rows os ws vs was now rs next all more q.1 meets.1 in
      (one.0 ∷ on.0, (one.1, on.1), (one.2, on.2))

  -- THE WORLD OF THE ORIGINALS
  pub joined_world : (os : List Original) (ws vs : List Program) (detaches : List Detach) (ds ds' last : List Device) (number : ℕ) (lines more : List Line) (s : Snapshot)
      (world : ProtocolWorldUpTo ws detaches ds number lines ds') → IsSnapshotOf ws world.actors world.now number s → (next : ProtocolWorldFrom s.events (From s vs) detaches ds' more last)
      → Heres os ws vs world.actors world.now s.programs next.actors → BlockingWorld os detaches ds (lines ++ more) last
  joined_world os ws vs detaches ds ds' last number lines more s world snap next here =
      let again =
      played_again ws detaches world.count 1 world.actors world.now (all_fitted s.programs world.now next.actors) ds ds' lines world.played
      (all_swapped os ws vs world.actors world.now s.programs next.actors here) in
      let on =
      events_from vs s.programs detaches (suc s.events) next.actors (all_fitted s.programs world.now next.actors) next.last ds' last more
      (all_stay os ws vs world.actors world.now s.programs next.actors here) next.events in
      let on_first : Events ws detaches (suc s.events) (all_fitted s.programs world.now next.actors) ds' more on.0 last =
      events_served vs ws (all_serve os ws vs world.actors world.now s.programs next.actors here) detaches (suc s.events) (all_fitted s.programs world.now next.actors) on.0 ds' last more on.1 in
      let at : suc s.events ≡ 1 + world.count = omega (arith, snap.events, world.numbered) in
      let events : Events ws detaches 1 again.0 ds (lines ++ more) on.0 last =
      then_events ws detaches world.count 1 (suc s.events) again.0 (all_fitted s.programs world.now next.actors) on.0 ds ds' last lines more at again.1 on_first in
      let done : IsOver on.0 = stays_over next.last on.0 on.2 next.over in
      let meets = events_met ws detaches 1 again.0 ds (lines ++ more) on.0 last events done in
      let rows = all_rows os ws vs world.actors world.now s.programs next.actors again.0 here again.2 meets in
      let e = events_beside os ws detaches 1 again.0 rows.0 ds (lines ++ more) on.0 last rows.2 events in
      record { actors = rows.0; last = e.0; starts = rows.1; events = e.1; over = over_beside os ws on.0 e.0 e.2 done }
