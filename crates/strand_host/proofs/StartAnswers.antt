-- The answer of an import that the start function has called is told, in the first strand's turn.
use Rattle.std.proofs.Common.{◌≡◌, ℕ, ◌-◌, ◌≤◌, Bool, true, false, List, [], ◌∷◌, ◌++◌, length, Option, None, refl, sym, ap, ◌∙◌, subst, arith, append-nil}
use Rattle.std.specs.Prelude.{IfOk, Result, Ok, Err}
use Rattle.wa_types.specs.Syntax.{Module}
use Rattle.wa_model.specs.declared.answers.Answer.{Answer as AnswerValue}
use Rattle.wa_model.specs.declared.answers.Area.{Area}
use Rattle.wa_model.specs.declared.answers.Said.{Said}
use Rattle.wa_model.specs.declared.answers.Said.TheVariants as SV
use Rattle.wa_model.specs.declared.events.End.{End}
use Rattle.wa_model.specs.Blocking as B
use Rattle.wa_model.specs.Blocking.{Asker, Note, done_notes, inside, note, outermost, poked}
use Rattle.wa_model.specs.Machine.{Leads, Turn, moves, stays}
use Rattle.wa_model.specs.Outside.{answered, ended}
use Rattle.wa_model.specs.Plan.{Entry, Outcome, Plan}
use Rattle.wa_model.specs.Protocol as P
use Rattle.wa_model.specs.Protocol.{Held, exports_of, held_on, over, protocol}
use Rattle.wa_model.specs.Store.{Store}
use Rattle.wa_model.specs.View.{answer_of, event_of}
use Rattle.wa_types.specs.declared.values.Value.{Value}
use Rattle.world_model.specs.World.{Device, Program, call_in}
use Rattle.interp.specs.declared.instance.Instance.{Instance}
use Rattle.interp.specs.Host.{code_in, store_in, waits_in}
use Rattle.interp.specs.Instance.{Waits}
use Rattle.host_laws.specs.Places.{Lands, Place, Tells, TellsFrom, has_ended, stands}
use Rattle.host_laws.specs.Places as L
use Rattle.host_laws.specs.Stretch.{Stretch, meeting}
use Rattle.host_laws.specs.Supplies.{Takes}
use Rattle.many_host.specs.Telling.{supply}
use Rattle.pause_host.specs.declared.stages.Moved.{Moved}
use Rattle.pause_host.specs.declared.stages.Stage.{Stage}
use Rattle.pause_host.specs.declared.stages.Stage.TheVariants as S
use Rattle.pause_host.specs.declared.stages.Task.{Task}
use Rattle.pause_host.specs.declared.stages.Task.TheVariants as T
use Rattle.pause_host.specs.Holding.{are_inside}
use Rattle.pause_host.specs.Mailing.{MailSupply}
use Rattle.pause_host.specs.Moves.{ComesFrom, PausesSo, PlaceFits}
use Rattle.pause_host.specs.Views.{answering, is_pause, is_paused, is_starting, left_of, lines_in, place_in, stage_told, starts}
use Rattle.strand_laws.specs.StrandWorld.{StrandsInWorld}
use Rattle.strand_laws.specs.Strands.{plan_of, strand_at}
use Rattle.strand_laws.specs.ToldStrands.{ProgramTeller}
use Rattle.strand_laws.specs.Woven.{ends_strand, last_event}
use Rattle.strand_host.specs.declared.program.StrandProgram.{StrandProgram}
use Rattle.strand_host.specs.declared.strands.Going.{Going}
use Rattle.strand_host.specs.declared.strands.Strand.{Strand}
use Rattle.strand_host.specs.declared.strands.StrandEvent.{StrandEvent}
use Rattle.strand_host.specs.declared.strands.Then.TheVariants.{Pauses}
use Rattle.strand_host.specs.Standing.{GoesSo, IsNoTrap, as_before, either_way, is_in_start}
use Rattle.strand_host.specs.StrandMoves.{MovesOn}
use Rattle.strand_host.specs.StrandPrograms.{AtPlace, InStart, Settles, Stock, TellsEvent, TurnAt, end_leads_to, leads_to, place_of, stock_of, world_strand}
use Rattle.strand_host.proofs.Events.{LandsSo, Laws, Told, ends, lands_told, spends, tells}
use Rattle.strand_host.proofs.GoingOn.{fits_w, pause_led, place_w}
use Rattle.strand_host.proofs.PlainMoves.{plain_moves}
use Rattle.strand_host.proofs.Starts.{end_told}
use Rattle.strand_host.proofs.StrandPlaces.{PlaceSo, asker_so, either_so, place_waits}

-- ---- moves that cost nothing

-- there is none
none_made : {S E : Type 0} (f : S → Turn S E) (h t : S) (n : ℕ) (es : List E) → Leads f h n es t → n ≡ 0 → es ≡ []
none_made f h t n es stays e = refl
none_made f h t n es (moves q rest em eg) e = let no_way : ⊥ = omega (arith, em, e) in absurd no_way

-- ---- what is ready

abbrev Tame : List Note → Held → Type 0
Tame ready h = IsNoTrap (last_event ready)

done_tame : (y : Note) (v : Option Value) (st : Store) (es : List Entry) → IsNoTrap (last_event (note (answered (SV.Value v)) st ∷ done_notes st es))
done_tame y v st [] = tt
done_tame y v st (e ∷ es) = tt

answering_tame : (l : B.Left) (v : Option Value) (st : Store) (w : Asker) → PlaceSo Tame (answering l (SV.Value v) st w)
answering_tame l v st (inside task c) = tt
answering_tame l v st (outermost old) = done_tame (note (answered (SV.Value v)) st) v st l.entries

-- behind a value that is told comes no trap
value_tame : (x : P.Exports) (area : Area) (l : B.Left) (st : Store) (w : Waits) (task : Task) (answer : AnswerValue) (v : Option Value) → (answer_of answer).said ≡ SV.Value v
    → PlaceSo Tame (place_in x area l st w (S.Answering task answer))
value_tame x area l st w task answer v is =
    either_so Tame (are_inside (length st.memory) (answer_of answer).pokes) _
    (asker_so Tame st task w (answering l (answer_of answer).said (poked st (answer_of answer).pokes))
    (λ a. subst (λ said. PlaceSo Tame (answering l said (poked st (answer_of answer).pokes) a)) (sym is) (answering_tame l v (poked st (answer_of answer).pokes) a)))

-- ---- the stage behind it

free_value : (task : Task) (said : Said) → stage_told task said ≡ S.Free → (v : Option Value) × (said ≡ SV.Value v)
free_value task SV.Trap e = cc
free_value task (SV.Value v) e = (v, refl)

no_pause : (task : Task) (said : Said) → is_paused (stage_told task said) ≡ false
no_pause task SV.Trap = refl
no_pause T.Outermost (SV.Value v) = refl
no_pause T.Start (SV.Value v) = refl
no_pause (T.Entry e) (SV.Value v) = refl

still_starting : (task : Task) (said : Said) → starts task ≡ true → (stage_told task said ≡ S.Free → ⊥) → is_starting (stage_told task said) ≡ true
still_starting task SV.Trap e never = refl
still_starting T.Outermost (SV.Value v) e never = absurd (never refl)
still_starting T.Start (SV.Value v) e never = refl
still_starting (T.Entry x) (SV.Value v) e never = cc

free_out : (st : Store) (l : B.Left) (es : List Entry) → is_in_start (held_on st l es) ≡ false
free_out st l [] = refl
free_out st l (e ∷ es) = refl

-- ---- it is told

module _ (laws : Laws) (g : StrandsInWorld) (t : ProgramTeller) (x : Stock) (i : Instance) (s : Strand) (task : Task) (answer : AnswerValue)
    (at : TurnAt g t x i 0 (record s { stage = S.Answering task answer }) true) (start : starts task ≡ true) (i' : Instance) (m : Moved) (stage_is : m.stage ≡ stage_told task answer.said)
    (pauses_so : PausesSo m)
    (comes : (w : Program) (l : B.Left) (sup : MailSupply) (left_then : ℕ) → PlaceFits w (place_in (exports_of w.source) w.plan.area l (store_in i) (waits_in i) (S.Answering task answer))
    → ComesFrom w (place_in (exports_of w.source) w.plan.area l (store_in i) (waits_in i) (S.Answering task answer)) left_then 0 m sup sup l (store_in i') (waits_in i'))
    (on : Bool) (is_free : on ≡ false → m.stage ≡ S.Free) (not_free : on ≡ true → m.stage ≡ S.Free → ⊥) where
  abbrev p : Module
  p = g.program.source

  abbrev plan : Plan
  plan = plan_of g.program (strand_at g.program 0)

  abbrev asks : Strand
  asks = record s { stage = S.Answering task answer }

  abbrev b : AtPlace g t x 0 asks true (place_of g i asks)
  b = at.at

  abbrev w : Program
  w = world_strand g 0

  abbrev going : Going
  going = record { number = 0; strand = record s { stage = m.stage }; starts = on }

  no_pause_told : is_pause (event_of m.event) ≡ false
  no_pause_told = sym pauses_so ∙ ap is_paused stage_is ∙ no_pause task answer.said

  pub never_pauses : (starts : Bool) (ticks : ℕ) → leads_to starts (event_of m.event) ≡ Pauses ticks → ⊥
  never_pauses starts ticks e =
      let q = pause_led starts (event_of m.event) ticks e in
      let both : true ≡ false = sym (ap is_pause q.1) ∙ no_pause_told in
      cc

  abbrev to : Place
  to = place_in (exports_of p) plan.area (left_of s.left) (store_in i') (waits_in i') m.stage

  to_is : to ≡ place_of g i' going.strand
  to_is = ap (λ ar. place_in (exports_of p) ar (left_of s.left) (store_in i') (waits_in i') m.stage) b.strand.is_set.area

  ready_tame : on ≡ false → IsNoTrap (last_event b.ready)
  ready_tame off =
      let v = free_value task answer.said (sym stage_is ∙ is_free off) in
      subst (PlaceSo Tame) b.place_is (value_tame (exports_of p) s.area (left_of s.left) (store_in i) (waits_in i) task answer v.0 v.1)

  goes_so : (os : List Outcome) (made : List Note) (h' : Held) → Stretch p plan b.held os made 0 h' → (o : Bool) → (o ≡ false → on ≡ false) → GoesSo p plan true b.ready b.held os made 0 h' o
  goes_so os made h' stretch true f = as_before (none_made (protocol p (exports_of p) plan) (meeting (os ++ []) b.held) (meeting [] h') 0 made (stretch []) refl) stretch
  goes_so os made h' stretch false f =
      let none : made ≡ [] = none_made (protocol p (exports_of p) plan) (meeting (os ++ []) b.held) (meeting [] h') 0 made (stretch []) refl in
      either_way false (subst (λ (ys : List Note). IsNoTrap (last_event ys)) (sym (ap (λ ys. b.ready ++ ys) none ∙ append-nil b.ready)) (ready_tame (f refl))) stretch

  lands_so : (os : List Outcome) (y : Note) (q : Place) → Lands p plan g.steps b.ready b.held os x.steps_left y 0 q → LandsSo p plan g.steps true b.ready b.held os x.steps_left y 0 on q
  lands_so os y q (L.goes_on made behind h' stretch is_y more is) =
      subst (LandsSo p plan g.steps true b.ready b.held os x.steps_left y 0 on) (sym is) (tells made behind h' (goes_so os made h' stretch on (λ e. e)) is_y more)
  lands_so os y q (L.ends how made st stretch is_y end_is is) =
      subst (LandsSo p plan g.steps true b.ready b.held os x.steps_left y 0 on) (sym is) (ends how made st (goes_so os made (over st) stretch on (λ e. e)) is_y end_is)
  lands_so os y q (L.spends h' stretch none spent is_y is) = subst (LandsSo p plan g.steps true b.ready b.held os x.steps_left y 0 on) (sym is) (spends h' stretch none spent is_y)

  -- where the stage is free, the strand stands behind the start function
  free_so : (q : on ≡ false) (behind : List Note) (h' : Held) → place_of g i' going.strand ≡ stands behind h' → is_in_start h' ≡ false
  free_so off behind h' e =
      let l = left_of s.left in
      let st = store_in i' in
      let z : stands (done_notes st l.entries) (held_on st l l.entries) ≡ stands behind h' = sym (ap (place_in (exports_of p) s.area l st (waits_in i')) (is_free off)) ∙ e in
      let held : held_on st l l.entries ≡ h' = cc in
      ap is_in_start (sym held) ∙ free_out st l l.entries

  start_so : (o : Bool) → (o ≡ true → m.stage ≡ S.Free → ⊥) → InStart o going
  start_so false f = tt
  start_so true f = (refl, ap is_starting stage_is ∙ still_starting task answer.said start (λ e. f refl (stage_is ∙ e)))

  pub answer_told : (code : code_in i' ≡ p) (old x' : StrandProgram) (ds : List Device) (fs : List ℕ) → stock_of old ≡ x → Settles old i' going (leads_to on (event_of m.event)) x'
      → TellsEvent g t (record { strand = 0; event = m.event }) ds fs ds fs x'
  answer_told code old x' ds fs same settles =
      let sup : MailSupply = record { lines = lines_in s.left.answers.items; amid = record { devices = ds; boxes = []; settled = []; receive = None }; faults = fs } in
      let from = place_in (exports_of p) plan.area (left_of s.left) (store_in i) (waits_in i) (S.Answering task answer) in
      let moved : MovesOn w from x.steps_left 0 m (supply (lines_in s.left.answers.items) ds fs) (supply (lines_in s.left.answers.items) ds fs) (left_of s.left) (store_in i') (waits_in i') =
      plain_moves w from x.steps_left 0 m sup sup (left_of s.left) (store_in i') (waits_in i') refl (comes w (left_of s.left) sup x.steps_left (fits_w g t x i 0 asks true at)) in
      let told : Tells w b.ready b.held x.steps_left (supply (lines_in s.left.answers.items) ds fs) moved.note 0 (supply (lines_in s.left.answers.items) ds fs) to =
      subst (λ z. TellsFrom w z x.steps_left (supply (lines_in s.left.answers.items) ds fs) moved.note 0 (supply (lines_in s.left.answers.items) ds fs) to) (place_w g t x i 0 asks true at) moved.tells in
      let stock : stock_of old ≡ record x { steps_left = x.steps_left - 0 } = same ∙ ap (λ n. record x { steps_left = n }) (let z : x.steps_left ≡ x.steps_left - 0 = omega arith in z) in
      let within : 0 ≤ x.steps_left = omega arith in
      let all : Told laws g t x 0 asks true (place_of g i asks) b i' going refl refl moved.note 0 within told.outcomes code moved.store_is b.strand.pokes x' =
      lands_told laws g t x 0 asks true (place_of g i asks) b i' going refl refl moved.note 0 within told.outcomes code moved.store_is b.strand.pokes old x' stock
      (subst (λ e. Settles old i' going (leads_to on e) x') (sym moved.event_is) settles)
      (pauses_so ∙ ap is_pause (sym moved.event_is))
      (λ ticks taken e. let both : true ≡ false = sym (ap is_pause (sym moved.event_is ∙ e)) ∙ no_pause_told in cc)
      (λ made behind h' stretch off q. free_so off behind h' q)
      (λ behind h' q. place_waits (exports_of p) s.area (left_of s.left) (store_in i') (waits_in i') m.stage behind h' q)
      (λ e. start_so on not_free) to (lands_so told.outcomes moved.note to told.lands) (sym to_is) in
      record {
        s = b.teller;
        there = b.teller_is;
        unfinished = b.strand.unfinished;
        turn = b.turn.turn;
        note = moved.note;
        event_is = moved.event_is;
        memory_is = all.memory;
        met = told.outcomes;
        answers = lines_in s.left.answers.items;
        takes = subst (λ ls. Takes w (call_in moved.note.event) (supply ls ds fs) told.outcomes (supply (lines_in s.left.answers.items) ds fs)) (sym b.strand.answers) told.takes;
        is_last = all.is_last;
        follow = all.follows;
      }

-- ---- an end that was due in the start function

pub both_ok : {E : Type 0} {P Q R : StrandEvent → Type 0} (r : Result StrandEvent E) → ((v : StrandEvent) → P v → Q v → R v) → IfOk r P → IfOk r Q → IfOk r R
both_ok (Ok v) f p q = f v p q
both_ok (Err e) f p q = tt

module _ (laws : Laws) (g : StrandsInWorld) (t : ProgramTeller) (x : Stock) (i : Instance) (s : Strand) (at : TurnAt g t x i 0 s true) (end : End) (stage_is : s.stage ≡ S.Ending end) where
  abbrev st : Store
  st = store_in i

  ending_place : stands at.at.ready at.at.held ≡ stands (note (ended end) st ∷ []) (over st)
  ending_place = sym at.at.place_is ∙ ap (place_in (exports_of g.program.source) s.area (left_of s.left) st (waits_in i)) stage_is

  ready_is : at.at.ready ≡ note (ended end) st ∷ []
  ready_is = let z = ending_place in cc

  held_is : at.at.held ≡ over st
  held_is = let z = ending_place in cc

  stays_there : Stretch g.program.source (plan_of g.program (strand_at g.program 0)) at.at.held [] [] 0 (over st)
  stays_there more =
      subst (λ z. Leads (protocol g.program.source (exports_of g.program.source) (plan_of g.program (strand_at g.program 0))) (meeting more z) 0 [] (meeting more (over st))) (sym held_is) stays

  pub ending_told : (r : StrandEvent) (old x' : StrandProgram) (ds : List Device) (fs : List ℕ) → r.strand ≡ 0 → event_of r.event ≡ ended end → stock_of old ≡ x
      → Settles old i (record { number = 0; strand = record s { stage = S.Ended end }; starts = true }) (end_leads_to (ends_strand true end)) x' → TellsEvent g t r ds fs ds fs x'
  ending_told r old x' ds fs number said same settles =
      subst (λ n. TellsEvent g t (record { strand = n; event = r.event }) ds fs ds fs x') (sym number)
      (end_told laws g t x s (place_of g i s) at.at i at.code end r.event (note (ended end) st) 0 old x' ds fs refl said refl (omega arith)
      (same ∙ ap (λ n. record x { steps_left = n }) (let z : x.steps_left ≡ x.steps_left - 0 = omega arith in z)) settles
      (ends end [] st (as_before refl stays_there) (ap (λ ys. ys ++ []) ready_is) refl))

-- ---- by the stage

pub at_stage : (g : StrandsInWorld) (t : ProgramTeller) (x : Stock) (i : Instance) (s : Strand) (stage : Stage) → s.stage ≡ stage → TurnAt g t x i 0 s true → TurnAt g t x i 0 (record s { stage = stage }) true
at_stage g t x i s stage e at = subst (λ z. TurnAt g t x i 0 (record s { stage = z }) true) e at

pub giving_start : (task : Task) (value : Option Value) → is_starting (S.Giving task value) ≡ true → task ≡ T.Start
giving_start T.Start value e = refl
giving_start T.Outermost value e = cc
giving_start (T.Entry x) value e = cc

pub at_giving : (g : StrandsInWorld) (t : ProgramTeller) (x : Stock) (i : Instance) (s : Strand) (task : Task) (value : Option Value) → s.stage ≡ S.Giving task value → is_starting s.stage ≡ true
    → TurnAt g t x i 0 s true → TurnAt g t x i 0 (record s { stage = S.Giving T.Start value }) true
at_giving g t x i s task value e starts at =
    at_stage g t x i s (S.Giving T.Start value) (e ∙ ap (λ k. S.Giving k value) (giving_start task value (sym (ap is_starting e) ∙ starts))) at
