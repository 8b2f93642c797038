-- A new call of an import in the start function: the notes that it makes are made by one move, which begins in that function.
use Rattle.std.proofs.Common.{◌≡◌, ℕ, suc, ◌+◌, ◌-◌, ◌≤◌, true, false, List, [], ◌∷◌, ◌++◌, length, Option, Some, None, refl, sym, ap, ◌∙◌, subst, append-nil, arith}
use Rattle.std.proofs.lemmas.Bool.{false≢true}
use Rattle.wa_types.specs.Modules.{func_type_at}
use Rattle.wa_types.specs.Syntax.{Module}
use Rattle.wa_types.specs.declared.values.Value.{Value}
use Rattle.wa_model.specs.declared.answers.Said.{Said}
use Rattle.wa_model.specs.declared.answers.Said.TheVariants as SV
use Rattle.wa_model.specs.declared.events.Call.{Call}
use Rattle.wa_model.specs.declared.events.End.{End}
use Rattle.wa_model.specs.declared.events.End.TheVariants as E
use Rattle.wa_model.specs.Blocking as B
use Rattle.wa_model.specs.Blocking.{Asker, Left, Note, an_entry, call_note, fault_of, inside, outermost, pause_of, poked, stack_at, store_at, the_start, with_outcomes}
use Rattle.wa_model.specs.Machine.{Leads, goes, moves, stays}
use Rattle.wa_model.specs.Outside.{Answer}
use Rattle.wa_model.specs.Plan.{Outcome, Plan, given, refused}
use Rattle.wa_model.specs.Protocol.{Exports, Held, aside, busy, calling, entering, exports_of, free, held_asked, held_given, held_pauses, held_tested, is_running, over, protocol, starting, unwinds, rewinds}
use Rattle.wa_model.specs.Store.{Store}
use Rattle.wa_model.specs.View.{event_of}
use Rattle.world_model.specs.World.{Device, Program, call_in}
use Rattle.run_theory.proofs.Runs.{leads_beyond, leads_first, leads_on, leads_one}
use Rattle.interp.specs.declared.instance.Instance.{Instance}
use Rattle.interp.specs.Host.{code_in, store_in, waits_in}
use Rattle.interp.specs.Instance as I
use Rattle.interp.specs.Instance.{Waits}
use Rattle.host_laws.specs.Places as L
use Rattle.host_laws.specs.Places.{Lands, Place, Tells, has_ended, nowhere, stands}
use Rattle.host_laws.specs.Stretch.{Stretch, meeting}
use Rattle.host_laws.specs.Supplies.{Takes}
use Rattle.many_host.specs.Telling.{supply}
use Rattle.pause_host.specs.declared.stages.Moved.{Moved}
use Rattle.pause_host.specs.declared.stages.Stage.{Stage}
use Rattle.pause_host.specs.declared.stages.Stage.TheVariants as S
use Rattle.pause_host.specs.declared.stages.Task.{Task}
use Rattle.pause_host.specs.declared.stages.Task.TheVariants as T
use Rattle.pause_host.specs.Moves.{AsksThere, Asks, CallComes, IsAsking, PausesSo}
use Rattle.pause_host.specs.Programs.{end_at}
use Rattle.pause_host.specs.Views.{end_of, is_pause, is_paused, is_starting, left_of, lines_in, place_in, starts}
use Rattle.pause_host.proofs.Advancing.{ended_stage}
use Rattle.strand_laws.specs.StrandWorld.{StrandsInWorld}
use Rattle.strand_laws.specs.Strands.{held_starts, plan_of, strand_at}
use Rattle.strand_laws.specs.ToldStrands.{ProgramTeller}
use Rattle.strand_host.specs.declared.program.StrandProgram.{StrandProgram}
use Rattle.strand_host.specs.declared.strands.Going.{Going}
use Rattle.strand_host.specs.declared.strands.Strand.{Strand}
use Rattle.strand_host.specs.declared.strands.Then.TheVariants.{Pauses}
use Rattle.strand_host.specs.Standing.{LastMove, by_last_move}
use Rattle.strand_host.specs.StrandMoves.{MovesOn}
use Rattle.strand_host.specs.StrandPrograms.{AtPlace, Settles, Stock, TellsEvent, leads_to, place_of, stock_of, world_strand}
use Rattle.strand_host.proofs.Events.{LandsSo, Laws, Told, lands_told, tells}
use Rattle.strand_host.proofs.GoingOn.{pause_led}
use Rattle.strand_host.proofs.StrandPlaces.{place_waits}

-- ---- what a call costs

module _ (p : Module) (x : Exports) (plan : Plan) where
  given_cost : (k : ℕ) (n : Note) (said : Said) (s : Store) (l : Left) (who : Asker) (j : ℕ) (es : List Note) (t : Held) → held_given k n said s l who ≡ goes j es t → j ≡ k
  given_cost k n (SV.Value v) s l (inside task c) j es t e = cc
  given_cost k n (SV.Value v) s l (outermost old) j es t e = cc
  given_cost k n SV.Trap s l who j es t e = cc

  pauses_cost : (k : ℕ) (n : Note) (import : ℕ) (a : Answer) (l : Left) (who : Asker) (j : ℕ) (es : List Note) (t : Held) → held_pauses x plan k n import a l who ≡ goes j es t → j ≡ k
  pauses_cost k n import a l (inside (an_entry e) c) j es t q = cc
  pauses_cost k n import a l (inside the_start c) j es t q = absurd cc
  pauses_cost k n import a l (outermost s) j es t q = absurd cc

  tested_cost : (k import : ℕ) (args : List Value) (who : Asker) (l : Left) (a : Answer) (o : Option End) (pause : Option ℕ) (j : ℕ) (es : List Note) (t : Held)
      → held_tested p x plan k import args who l a o pause ≡ goes j es t → j ≡ k
  tested_cost k import args who l a (Some e) pause j es t q = cc
  tested_cost k import args who l a None None j es t q = given_cost k (call_note import args (store_at who) (stack_at p who) None) a.said (poked (store_at who) a.pokes) l who j es t q
  tested_cost k import args who l a None (Some ticks) j es t q = pauses_cost k (call_note import args (store_at who) (stack_at p who) (Some ticks)) import a l who j es t q

  asked_cost : (k import : ℕ) (args : List Value) (who : Asker) (l : Left) (os : List Outcome) (j : ℕ) (es : List Note) (t : Held) → held_asked p x plan k import args who l os ≡ goes j es t → j ≡ k
  asked_cost k import args who l [] j es t q = cc
  asked_cost k import args who l (refused e ∷ os) j es t q = cc
  asked_cost k import args who l (given a ∷ os) j es t q =
      tested_cost k import args who (with_outcomes l os) a (fault_of (func_type_at p import).results (length (store_at who).memory) plan (B.in_start who) import a) (pause_of a.ticks) j es t q

-- ---- the last move

there_starts : (task : Task) (waits : Waits) (s : Store) (who : Asker) (at : Held) → IsAsking task waits s who → starts task ≡ true → AsksThere who at → held_starts at ≡ true
there_starts T.Start (I.inside here under) s who at h e there = by who at h there
  where
    by : (o : Asker) (q : Held) → o ≡ inside the_start (record { store = s; here = here; under = under }) → AsksThere o q → held_starts q ≡ true
    by (inside task c) (busy (is_running u) d l) z k =
        let same : task ≡ the_start = cc in
        ap B.is_start (k ∙ same)
    by (inside task c) (busy (unwinds y i a) d l) z k = absurd k
    by (inside task c) (busy (rewinds y i a sp) d l) z k = absurd k
    by (inside task c) (free st l) z k = absurd k
    by (inside task c) (starting f st l) z k = absurd k
    by (inside task c) (calling ph st f args th l) z k = absurd k
    by (inside task c) (aside ph d th l) z k = absurd k
    by (inside task c) (entering ph y st l) z k = absurd k
    by (inside task c) (over st) z k = absurd k
    by (outermost old) q z k = absurd cc
there_starts T.Start I.outermost s who at h e there = absurd h
there_starts T.Start I.nothing s who at h e there = absurd h
there_starts T.Outermost I.outermost s who at h e there = by who at h there
  where
    by : (o : Asker) (q : Held) → o ≡ outermost s → AsksThere o q → held_starts q ≡ true
    by (outermost old) (starting f st l) z k = refl
    by (outermost old) (busy ph d l) z k = absurd k
    by (outermost old) (free st l) z k = absurd k
    by (outermost old) (calling ph st f args th l) z k = absurd k
    by (outermost old) (aside ph d th l) z k = absurd k
    by (outermost old) (entering ph y st l) z k = absurd k
    by (outermost old) (over st) z k = absurd k
    by (inside task c) q z k = absurd cc
there_starts T.Outermost (I.inside here under) s who at h e there = absurd h
there_starts T.Outermost I.nothing s who at h e there = absurd h
there_starts (T.Entry y) waits s who at h e there = absurd (false≢true e)

-- What a call has made by so many steps was made by one move, behind others that made nothing.
call_move : (w : Program) (h : Held) (used import : ℕ) (args : List Value) (who : Asker) (l : Left) (a : Asks w h used import args who l) (os : List Outcome) (made : List Note) (h' : Held)
    → Stretch w.source w.plan h os made used h' → (more : List Outcome)
    → protocol w.source (exports_of w.source) w.plan (meeting (os ++ more) a.at) ≡ goes a.k made (meeting more h')
call_move w h used import args who l a os made h' stretch more =
    let next = protocol w.source (exports_of w.source) w.plan in
    let from = meeting (os ++ more) h in
    let at = meeting (os ++ more) a.at in
    let to = meeting more h' in
    let le : a.cost ≤ used = omega (arith, a.used_is) in
    let rest = leads_beyond Held Note next from at to a.cost used [] made (a.first (os ++ more)) (stretch more) le in
    let left : used - a.cost ≡ suc a.k = omega (arith, a.used_is) in
    let tail : Leads next at (suc a.k) rest.0 to = subst (λ n. Leads next at n rest.0 to) left rest.1 in
    let total : a.cost + suc a.k ≡ used = omega (arith, a.used_is) in
    let whole : Leads next from used ([] ++ rest.0) to = subst (λ n. Leads next from n ([] ++ rest.0) to) total (leads_on Held Note next from at to a.cost (suc a.k) [] rest.0 (a.first (os ++ more)) tail) in
    let same = leads_one Held Note next from to to used ([] ++ rest.0) made whole (stretch more) in
    let one = leads_first Held Note next at to (suc a.k) rest.0 tail (omega arith) in
    let cost : one.0 ≡ a.k = asked_cost w.source (exports_of w.source) w.plan a.k import args who (with_outcomes l (os ++ more)) (os ++ more) one.0 one.1 one.2 (sym (a.asked (os ++ more)) ∙ one.3) in
    let move : next at ≡ goes a.k one.1 one.2 = one.3 ∙ ap (λ n. goes n one.1 one.2) cost in
    let single : Leads next at (suc a.k) one.1 one.2 = moves move stays (omega arith) (sym (append-nil one.1)) in
    let ends = leads_one Held Note next at one.2 to (suc a.k) one.1 rest.0 single tail in
    move ∙ ap (λ ys. goes a.k ys one.2) (ends.0 ∙ same.0) ∙ ap (goes a.k made) ends.1

pub last_of_call : (w : Program) (h : Held) (left used : ℕ) (task : Task) (call : Call) (l : Left) (s : Store) (waits : Waits) (c : CallComes w (stands [] h) left used task call l s waits)
    → starts task ≡ true → (os : List Outcome) (made : List Note) (h' : Held) → Stretch w.source w.plan h os made used h' → LastMove w.source w.plan h os made used h' true
last_of_call w h left used task call l s waits c st os made h' stretch =
    let here : h ≡ c.held = let z : stands [] h ≡ stands [] c.held = c.from_is in cc in
    let a : Asks w h used call.import call.args.items c.who l = subst (λ z. Asks w z used call.import call.args.items c.who l) (sym here) c.asks in
    record {
      at = a.at;
      cost = a.cost;
      k = a.k;
      first = a.first;
      starts = there_starts task waits s c.who a.at c.asking st a.there;
      move = call_move w h used call.import call.args.items c.who l a os made h' stretch;
      used_is = a.used_is;
    }

-- ---- what is told

starting_goes : (stage : Stage) → is_starting stage ≡ true → end_of stage ≡ None
starting_goes (S.Answering task a) e = refl
starting_goes (S.Giving task v) e = refl
starting_goes (S.Ending end) e = refl
starting_goes S.Free e = refl
starting_goes (S.Pausing pause) e = refl
starting_goes (S.Paused pause) e = refl
starting_goes (S.Ended end) e = absurd (false≢true e)

starting_unpaused : (stage : Stage) → is_starting stage ≡ true → is_paused stage ≡ false
starting_unpaused (S.Answering task a) e = refl
starting_unpaused (S.Giving task v) e = refl
starting_unpaused (S.Ending end) e = refl
starting_unpaused S.Free e = refl
starting_unpaused (S.Pausing pause) e = refl
starting_unpaused (S.Paused pause) e = absurd (false≢true e)
starting_unpaused (S.Ended end) e = refl

module _ (laws : Laws) (g : StrandsInWorld) (t : ProgramTeller) (x : Stock) (left used : ℕ) (s s' : Strand) (h : Held) (a : AtPlace g t (record x { steps_left = left }) 0 s true (stands [] h))
    (i : Instance) (code : code_in i ≡ g.program.source) (steps : x.steps_left ≡ left - used) (task : Task) (call : Call) (l : Left)
    (c : CallComes (world_strand g 0) (stands [] h) left used task call l (store_in i) (waits_in i)) (st : starts task ≡ true) (m : Moved) (stage : s'.stage ≡ m.stage) (area : s'.area ≡ s.area)
    (lefts : left_of s'.left ≡ l) (begun : is_starting m.stage ≡ true) (pauses_so : PausesSo m) where
  abbrev p : Module
  p = g.program.source

  abbrev plan : Plan
  plan = plan_of g.program (strand_at g.program 0)

  abbrev w : Program
  w = world_strand g 0

  abbrev to : Place
  to = place_in (exports_of p) plan.area l (store_in i) (waits_in i) m.stage

  -- it is no pause
  pub unpaused : (ticks : ℕ) → leads_to true (event_of m.event) ≡ Pauses ticks → ⊥
  unpaused ticks e =
      let z = pause_led true (event_of m.event) ticks e in
      let q : false ≡ true = sym (starting_unpaused m.stage begun) ∙ pauses_so ∙ ap is_pause z.1 in
      false≢true q

  none_ready : a.ready ≡ []
  none_ready = let z : stands [] h ≡ stands a.ready a.held = a.place_is in cc

  held_is : a.held ≡ h
  held_is = let z : stands [] h ≡ stands a.ready a.held = a.place_is in cc

  not_over : (how : End) → to ≡ has_ended how → ⊥
  not_over how e =
      let z : None ≡ Some how = sym (starting_goes m.stage begun) ∙ sym (ended_stage (exports_of p) plan.area l (store_in i) (waits_in i) m.stage) ∙ ap end_at e in
      cc

  lands_so : (os : List Outcome) (y : Note) (q : Place) → q ≡ to → Lands p plan g.steps [] h os left y used q → LandsSo p plan g.steps true a.ready a.held os left y used true q
  lands_so os y q e (L.goes_on made behind h' stretch is_y more to_is) =
      subst (LandsSo p plan g.steps true a.ready a.held os left y used true) (sym to_is)
      (subst (λ r. LandsSo p plan g.steps true r a.held os left y used true (stands behind h')) (sym none_ready)
      (subst (λ z. LandsSo p plan g.steps true [] z os left y used true (stands behind h')) (sym held_is)
      (tells made behind h' (by_last_move true (last_of_call w h left used task call l (store_in i) (waits_in i) c st os made h' stretch)) is_y more)))
  lands_so os y q e (L.ends how made at stretch is_y end_is to_is) = absurd (not_over how (sym e ∙ to_is))
  lands_so os y q e (L.spends h' stretch none spent is_y to_is) = absurd (not_over (E.StepsSpent g.steps) (sym e ∙ to_is))

  pub call_told : (old x' : StrandProgram) (ds ds' : List Device) (fs fs' : List ℕ)
      → MovesOn w (stands [] h) left used m (supply (lines_in s.left.answers.items) ds fs) (supply (lines_in s'.left.answers.items) ds' fs') l (store_in i) (waits_in i) → stock_of old ≡ x
      → Settles old i (record { number = 0; strand = s'; starts = true }) (leads_to true (event_of m.event)) x'
      → TellsEvent g t (record { strand = 0; event = m.event }) ds fs ds' fs' x'
  call_told old x' ds ds' fs fs' comes same settles =
      let going : Going = record { number = 0; strand = s'; starts = true } in
      let k = comes.tells in
      let to_is : place_of g i s' ≡ to =
      ap (λ ar. place_in (exports_of p) ar (left_of s'.left) (store_in i) (waits_in i) s'.stage) (area ∙ sym a.strand.is_set.area)
      ∙ ap (λ z. place_in (exports_of p) plan.area z (store_in i) (waits_in i) s'.stage) lefts ∙ ap (place_in (exports_of p) plan.area l (store_in i) (waits_in i)) stage in
      let short = comes.pokes a.strand.pokes in
      let all : Told laws g t (record x { steps_left = left }) 0 s true (stands [] h) a i going refl area comes.note used k.within k.outcomes code comes.store_is short x' =
      lands_told laws g t (record x { steps_left = left }) 0 s true (stands [] h) a i going refl area comes.note used k.within k.outcomes code comes.store_is short old x'
      (same ∙ ap (λ n. record x { steps_left = n }) steps) (subst (λ e. Settles old i going (leads_to true e) x') (sym comes.event_is) settles)
      (ap is_paused stage ∙ pauses_so ∙ ap is_pause (sym comes.event_is))
      (λ ticks taken e. absurd (unpaused ticks (ap (leads_to true) (sym comes.event_is ∙ e))))
      (λ made behind h' stretch no q. absurd (false≢true (sym no)))
      (λ behind h' q. place_waits (exports_of p) s'.area (left_of s'.left) (store_in i) (waits_in i) s'.stage behind h' q)
      (λ e. (refl, ap is_starting stage ∙ begun)) to (lands_so k.outcomes comes.note to refl k.lands) to_is in
      record {
        s = a.teller;
        there = a.teller_is;
        unfinished = a.strand.unfinished;
        turn = a.turn.turn;
        note = comes.note;
        event_is = comes.event_is;
        memory_is = all.memory;
        met = k.outcomes;
        answers = lines_in s'.left.answers.items;
        takes = subst (λ ls. Takes w (call_in comes.note.event) (supply ls ds fs) k.outcomes (supply (lines_in s'.left.answers.items) ds' fs')) (sym a.strand.answers) k.takes;
        is_last = all.is_last;
        follow = all.follows;
      }
