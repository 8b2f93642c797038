-- The turn of a strand behind the start function goes on.
use Rattle.std.proofs.Common.{◌≡◌, ℕ, ◌+◌, ◌-◌, ◌*◌, ◌≤◌, ◌<◌, ◌^◌, Bool, true, false, List, [], ◌∷◌, ◌++◌, Some, None, All, refl, sym, ap, ◌∙◌, subst, arith}
use Rattle.std.specs.Prelude.{slice_get}
use Rattle.std.proofs.Math.Nat.{mul-le-mul_left}
use Rattle.wa_types.specs.Syntax.{Module}
use Rattle.wa_model.specs.declared.events.End.TheVariants as E
use Rattle.wa_model.specs.Blocking.{Note}
use Rattle.wa_model.specs.Machine.{Leads, stays, moves}
use Rattle.wa_model.specs.Outside.{Event, called, answered, paused, parked, returned, ended, shown}
use Rattle.wa_model.specs.Plan.{Outcome, Plan}
use Rattle.wa_model.specs.Protocol.{Held, call_again, calling, exports_of, protocol, rewinds}
use Rattle.wa_types.specs.declared.values.Value.TheVariants as V
use Rattle.wa_model.specs.View.{answer_of, event_of}
use Rattle.world_model.specs.World.{Device, Program, call_in}
use Rattle.interp.specs.declared.instance.Instance.{Instance}
use Rattle.interp.specs.Host.{code_in, store_in, waits_in}
use Rattle.host_laws.specs.Places.{Lands, Place, Tells, TellsFrom, has_ended, nowhere, stands}
use Rattle.host_laws.specs.Places as L
use Rattle.host_laws.specs.Stretch.{Stretch, meeting}
use Rattle.host_laws.specs.Supplies.{Takes}
use Rattle.many_host.specs.Telling.{supply}
use Rattle.pause_host.specs.declared.stages.Moved.{Moved}
use Rattle.pause_host.specs.Holding.{HeldHolds, PlaceHolds}
use Rattle.pause_host.specs.Hosting.{HostsAt}
use Rattle.pause_host.specs.Moves.{HasShortPokes, PausesSo, PlaceFits}
use Rattle.pause_host.specs.Programs.{end_at}
use Rattle.pause_host.specs.Views.{end_of, entry_of, is_pause, is_paused, left_of, lines_in, place_in}
use Rattle.pause_host.proofs.Advancing.{ended_stage}
use Rattle.strand_laws.specs.StrandWorld.{StrandsInWorld}
use Rattle.strand_laws.specs.Strands.{plan_of, strand_at}
use Rattle.strand_laws.specs.ToldStrands.{ProgramTeller}
use Rattle.strand_laws.specs.Woven.{ends_strand}
use Rattle.strand_host.specs.declared.program.StrandProgram.{StrandProgram}
use Rattle.strand_host.specs.declared.strands.Going.{Going}
use Rattle.strand_host.specs.declared.strands.Strand.{Strand}
use Rattle.strand_host.specs.declared.strands.Then.TheVariants.{Pauses}
use Rattle.strand_host.specs.Standing.{DueFits, behind_start, is_in_start, longest_pause}
use Rattle.strand_host.specs.StrandMoves.{MovesOn}
use Rattle.strand_host.specs.StrandPrograms.{AtPlace, Settles, Stock, TellsEvent, TurnAt, leads_to, end_leads_to, place_of, set_to, stock_of, world_strand}
use Rattle.strand_host.proofs.Events.{LandsSo, Laws, Told, ends, lands_told, paused_at, so_stretch, spends, tells}
use Rattle.strand_host.proofs.StandingMoves.{move_so, MoveSo}
use Rattle.strand_host.proofs.StandingThreads.{in_start_meeting}
use Rattle.strand_host.proofs.StrandPlaces.{place_waits}

-- ---- behind the start function a run stays

leads_out : (p : Module) (plan : Plan) (h t : Held) (n : ℕ) (es : List Note) → is_in_start h ≡ false → Leads (protocol p (exports_of p) plan) h n es t → is_in_start t ≡ false
leads_out p plan h t n es e stays = e
leads_out p plan h u n gs e (moves {t = t} {k = k} {es = es} {fs = fs} q rest em eg) =
    leads_out p plan t u _ fs ((subst (MoveSo (is_in_start h)) q (move_so p (exports_of p) plan h)).1 e) rest

pub stays_out : (p : Module) (plan : Plan) (h t : Held) (os : List Outcome) (n : ℕ) (es : List Note) → is_in_start h ≡ false → Stretch p plan h os es n t → is_in_start t ≡ false
stays_out p plan h t os n es e stretch =
    sym (in_start_meeting [] t) ∙ leads_out p plan (meeting (os ++ []) h) (meeting [] t) n es (in_start_meeting (os ++ []) h ∙ e) (stretch [])

-- ---- the place of a strand

module _ (g : StrandsInWorld) (t : ProgramTeller) (x : Stock) (i : Instance) (k : ℕ) (s : Strand) (starts : Bool) (at : TurnAt g t x i k s starts) where
  abbrev a : AtPlace g t x k s starts (place_of g i s)
  a = at.at

  abbrev w : Program
  w = world_strand g k

  -- as the plan of the strand has it
  pub place_w : place_in (exports_of w.source) w.plan.area (left_of s.left) (store_in i) (waits_in i) s.stage ≡ stands a.ready a.held
  place_w = ap (λ ar. place_in (exports_of w.source) ar (left_of s.left) (store_in i) (waits_in i) s.stage) a.strand.is_set.area ∙ a.place_is

  pub hosts : HostsAt (set_to x.setting s.area) (code_in i) (λ v. place_in (exports_of v.source) v.plan.area (left_of s.left) (store_in i) (waits_in i) s.stage)
  hosts = record {
    program = w;
    setting = a.strand.is_set;
    code_is = at.code;
    fits = subst (PlaceFits w) (sym place_w) a.fits;
    holds = subst (PlaceHolds w) (sym place_w) (subst (λ ar. HeldHolds ar a.held) (sym a.strand.is_set.area) a.holds);
  }

  pub fits_w : PlaceFits w (place_in (exports_of w.source) w.plan.area (left_of s.left) (store_in i) (waits_in i) s.stage)
  fits_w = subst (PlaceFits w) (sym place_w) a.fits

  pub not_ended : end_of s.stage ≡ None
  not_ended = sym (ended_stage (exports_of w.source) s.area (left_of s.left) (store_in i) (waits_in i) s.stage) ∙ ap end_at a.place_is

-- ---- what is told

-- an event that puts off is a pause
pub pause_led : (starts : Bool) (e : Event) (ticks : ℕ) → leads_to starts e ≡ Pauses ticks → (taken : ℕ) × (e ≡ paused ticks taken)
pause_led starts (paused n taken) ticks h = let same : n ≡ ticks = cc in (taken, ap (λ m. paused m taken) same)
pause_led starts (ended how) ticks h = by (ends_strand starts how) h
  where
    by : (b : Bool) → end_leads_to b ≡ Pauses ticks → (taken : ℕ) × (ended how ≡ paused ticks taken)
    by true z = absurd cc
    by false z = absurd cc
pause_led starts (called c) ticks h = absurd cc
pause_led starts (answered v) ticks h = absurd cc
pause_led starts (returned n v) ticks h = absurd cc
pause_led starts (parked n) ticks h = absurd cc
pause_led starts (shown n v) ticks h = absurd cc

module _ (laws : Laws) (due_fits : DueFits) (g : StrandsInWorld) (t : ProgramTeller) (x : Stock) (i : Instance) (k : ℕ) (s : Strand) (at : TurnAt g t x i k s false) (i' : Instance) (s' : Strand)
    (area : s'.area ≡ s.area) (left used : ℕ) (paid : left ≡ x.steps_left) (m : Moved) (stage : s'.stage ≡ m.stage) (ds ds' : List Device) (faults faults' : List ℕ)
    (comes : MovesOn (world_strand g k) (place_in (exports_of (world_strand g k).source) (world_strand g k).plan.area (left_of s.left) (store_in i) (waits_in i) s.stage) left used m
    (supply (lines_in s.left.answers.items) ds faults) (supply (lines_in s'.left.answers.items) ds' faults') (left_of s'.left) (store_in i') (waits_in i'))
    (pauses_so : PausesSo m) where
  abbrev p : Module
  p = g.program.source

  abbrev plan : Plan
  plan = plan_of g.program (strand_at g.program k)

  abbrev b : AtPlace g t x k s false (place_of g i s)
  b = at.at

  abbrev to : Place
  to = place_in (exports_of p) plan.area (left_of s'.left) (store_in i') (waits_in i') m.stage

  told : Tells (world_strand g k) b.ready b.held left (supply (lines_in s.left.answers.items) ds faults) comes.note used (supply (lines_in s'.left.answers.items) ds' faults') to
  told = subst (λ z. TellsFrom (world_strand g k) z left (supply (lines_in s.left.answers.items) ds faults) comes.note used (supply (lines_in s'.left.answers.items) ds' faults') to) (place_w g t x i k s false at) comes.tells

  to_is : to ≡ place_of g i' s'
  to_is =
      ap (λ ar. place_in (exports_of p) ar (left_of s'.left) (store_in i') (waits_in i') m.stage) (b.strand.is_set.area ∙ sym area)
      ∙ ap (place_in (exports_of p) s'.area (left_of s'.left) (store_in i') (waits_in i')) (sym stage)

  within : used ≤ x.steps_left
  within = subst (λ n. used ≤ n) paid told.within

  out : is_in_start b.held ≡ false
  out = b.behind_start refl

  lands_so : (q : Place) → Lands p plan g.steps b.ready b.held told.outcomes x.steps_left comes.note used q → LandsSo p plan g.steps false b.ready b.held told.outcomes x.steps_left comes.note used false q
  lands_so q (L.goes_on made behind h' stretch is_x more to_is) = subst (LandsSo p plan g.steps false b.ready b.held told.outcomes x.steps_left comes.note used false) (sym to_is)
      (tells made behind h' (behind_start refl out stretch) is_x more)
  lands_so q (L.ends how made st stretch is_x end_is to_is) = subst (LandsSo p plan g.steps false b.ready b.held told.outcomes x.steps_left comes.note used false) (sym to_is)
      (ends how made st (behind_start refl out stretch) is_x end_is)
  lands_so q (L.spends h' stretch none spent is_x to_is) = subst (LandsSo p plan g.steps false b.ready b.held told.outcomes x.steps_left comes.note used false) (sym to_is)
      (spends h' stretch none spent is_x)

  landed : LandsSo p plan g.steps false b.ready b.held told.outcomes x.steps_left comes.note used false to
  landed = lands_so to (subst (λ n. Lands p plan g.steps b.ready b.held told.outcomes n comes.note used to) paid told.lands)

  -- a pause puts off to a tick in range
  pub due_in_range : (due ticks : ℕ) → slice_get x.dues k ≡ Some (Some due) → leads_to false (event_of m.event) ≡ Pauses ticks → ticks < 2 ^ 32 → due + ticks < 2 ^ 64
  due_in_range due ticks there leads short = by_landed to landed refl
    where
      pause : (taken : ℕ) × (event_of m.event ≡ paused ticks taken)
      pause = pause_led false (event_of m.event) ticks leads

      same : due ≡ b.teller.due
      same = let z : Some (Some due) ≡ Some (Some b.teller.due) = sym there ∙ b.due in cc

      event : comes.note.event ≡ paused ticks pause.0
      event = comes.event_is ∙ pause.1

      no_more : (behind : List Note) (h' : Held) → stands behind h' ≡ to → behind ≡ []
      no_more behind h' q =
          let stage_is = paused_at m.stage (pauses_so ∙ ap is_pause pause.1) in
          let z : stands behind h' ≡ stands [] (calling (rewinds (entry_of stage_is.0.entry) stage_is.0.import (answer_of stage_is.0.answer) (store_in i')) (store_in i') (exports_of p).start_rewind
          (V.I32 plan.area.at ∷ []) call_again (left_of s'.left)) = q ∙ ap (place_in (exports_of p) plan.area (left_of s'.left) (store_in i') (waits_in i')) stage_is.1 in
          cc

      by_landed : (q : Place) → LandsSo p plan g.steps false b.ready b.held told.outcomes x.steps_left comes.note used false q → q ≡ to → due + ticks < 2 ^ 64
      by_landed q (tells made behind h' so is_x more) e =
          let none : behind ≡ [] = no_more behind h' e in
          let most : b.teller.due + ticks ≤ longest_pause * g.steps =
          due_fits g t x.steps_left k b.teller.due false b.ready b.held h' b.ts told.outcomes made comes.note used ticks pause.0 b.turn
          (so_stretch laws p plan false b.ready b.held told.outcomes made used h' false so) within (is_x ∙ ap (λ ys. comes.note ∷ ys) none) event (let most : ticks ≤ longest_pause = omega arith in most) in
          let steps : g.steps ≤ 1000000000 = b.is.few_steps in
          let one : due ≡ b.teller.due = same in
          let all : longest_pause * g.steps ≤ longest_pause * 1000000000 = mul-le-mul_left longest_pause steps in
          omega arith
      by_landed q (ends how made st so is_x end_is) e = let z : paused ticks pause.0 ≡ ended how = sym event ∙ end_is in absurd cc
      by_landed q (spends h' stretch none spent is_x) e = let z : paused ticks pause.0 ≡ ended (E.StepsSpent g.steps) = sym event ∙ ap (λ (n : Note). n.event) is_x in absurd cc

  -- the strand has told it
  pub tells_event : ((ticks : ℕ) → leads_to false (event_of m.event) ≡ Pauses ticks → ticks < 2 ^ 32) → (pokes : All HasShortPokes (lines_in s'.left.answers.items)) (code : code_in i' ≡ p) (old x' : StrandProgram) → stock_of old ≡ record x { steps_left = x.steps_left - used }
      → Settles old i' (record { number = k; strand = s'; starts = false }) (leads_to false (event_of m.event)) x'
      → TellsEvent g t (record { strand = k; event = m.event }) ds faults ds' faults' x'
  tells_event short pokes code old x' same settles =
      let going : Going = record { number = k; strand = s'; starts = false } in
      let all : Told laws g t x k s false (place_of g i s) b i' going refl area comes.note used within told.outcomes code comes.store_is pokes x' =
      lands_told laws g t x k s false (place_of g i s) b i' going refl area comes.note used within told.outcomes code comes.store_is pokes old x' same
      (subst (λ e. Settles old i' going (leads_to false e) x') (sym comes.event_is) settles)
      (ap is_paused stage ∙ pauses_so ∙ ap is_pause (sym comes.event_is))
      (λ ticks taken e. let few = short ticks (ap (leads_to false) (sym comes.event_is ∙ e)) in let most : ticks ≤ longest_pause = omega arith in most)
      (λ made behind h' stretch no q. stays_out p plan b.held h' told.outcomes used made out stretch)
      (λ behind h' q. place_waits (exports_of p) s'.area (left_of s'.left) (store_in i') (waits_in i') s'.stage behind h' q)
      (λ e. tt) to landed (sym to_is) in
      record {
        s = b.teller;
        there = b.teller_is;
        unfinished = b.strand.unfinished;
        turn = b.turn.turn;
        note = comes.note;
        event_is = comes.event_is;
        memory_is = all.memory;
        met = told.outcomes;
        answers = lines_in s'.left.answers.items;
        takes = subst (λ ls. Takes (world_strand g k) (call_in comes.note.event) (supply ls ds faults) told.outcomes (supply (lines_in s'.left.answers.items) ds' faults')) (sym b.strand.answers) told.takes;
        is_last = all.is_last;
        follow = all.follows;
      }
