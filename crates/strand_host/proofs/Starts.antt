-- The start function in the first strand's turn: how it ends, and that it returns.
use Rattle.std.proofs.Common.{◌≡◌, ℕ, ◌-◌, ◌≤◌, true, false, List, [], ◌∷◌, length, Result, Ok, Err, IfOk, refl, sym, ap, ◌∙◌, subst, arith}
use Rattle.std.proofs.lemmas.Bool.{false≢true}
use Rattle.wa_types.specs.Syntax.{Module}
use Rattle.wa_types.specs.declared.values.Trap.{Trap}
use Rattle.wa_model.specs.declared.events.End.{End}
use Rattle.wa_model.specs.declared.events.End.TheVariants as E
use Rattle.wa_model.specs.declared.events.Event.{Event as EventValue}
use Rattle.wa_model.specs.Blocking as B
use Rattle.wa_model.specs.Blocking.{Note, done_notes, note}
use Rattle.wa_model.specs.Outside.{ended, paused}
use Rattle.wa_model.specs.Plan.{Entry, Outcome, Plan}
use Rattle.wa_model.specs.Protocol.{Held, exports_of, held_on, over, store_held}
use Rattle.wa_model.specs.Store.{Store}
use Rattle.wa_model.specs.View.{event_of}
use Rattle.world_model.specs.World.{Device, Program, call_in, is_end}
use Rattle.run_theory.specs.Fitting.{StoreFits}
use Rattle.run_laws.specs.FittingStates.{HeldFits}
use Rattle.strand_host.proofs.StoresKept.{NotesGood}
use Rattle.interp.specs.declared.instance.Instance.{Instance}
use Rattle.interp.specs.Host.{code_in, store_in, waits_in}
use Rattle.host_laws.specs.Places.{Place, has_ended, stands}
use Rattle.host_laws.specs.Stretch.{Stretch}
use Rattle.host_laws.specs.Supplies.{Takes}
use Rattle.many_host.specs.Telling.{supply}
use Rattle.pause_host.specs.declared.stages.Stage.TheVariants as S
use Rattle.pause_host.specs.Holding.{HeldHolds}
use Rattle.pause_host.specs.Moves.{EndsAt, at_over, at_spent}
use Rattle.pause_host.specs.Views.{is_pause, is_starting, left_of, lines_in, place_in}
use Rattle.pause_host.proofs.Comings.{fits_on}
use Rattle.pause_host.proofs.Holding.{holds_on}
use Rattle.strand_laws.specs.StrandWorld.{StrandsInWorld}
use Rattle.strand_laws.specs.Strands.{plan_of, strand_at}
use Rattle.strand_laws.specs.ToldStrands.{ProgramTeller}
use Rattle.strand_laws.specs.Woven.{ends_strand, last_event}
use Rattle.strand_host.specs.declared.program.StrandProgram.{StrandProgram}
use Rattle.strand_host.specs.declared.strands.Going.{Going}
use Rattle.strand_host.specs.declared.strands.Strand.{Strand}
use Rattle.strand_host.specs.declared.strands.StrandEvent.{StrandEvent}
use Rattle.strand_host.specs.Standing.{AreWaiting, InTurn, IsNoTrap, LastMove, by_last_move, either_way, is_in_start}
use Rattle.strand_host.specs.StrandPrograms.{AtPlace, InStart, InTurnAt, Settles, Stock, TellsEvent, TurnAt, end_leads_to, leads_to, stock_of, world_strand}
use Rattle.strand_host.proofs.Events.{LandsSo, Laws, Told, ends, fit_of, lands_told, spends}
use Rattle.strand_host.proofs.Rows.{row_stays}
use Rattle.strand_host.proofs.StandingTurns.{turn_moves}
use Rattle.strand_host.proofs.StoresKept.{stretch_good}
use Rattle.strand_host.proofs.StrandPlaces.{place_waits}

-- ---- whose turn it is

pub in_start : (g : StrandsInWorld) (t : ProgramTeller) (x : Stock) (i : Instance) (going : Going) → InTurnAt g t x i going → going.starts ≡ true
    → TurnAt g t x i 0 going.strand true × (is_starting going.strand.stage ≡ true)
in_start g t x i going at e =
    let q = subst (λ b. InStart b going) e at.1 in
    (subst (λ n. TurnAt g t x i n going.strand true) q.0 (subst (λ b. TurnAt g t x i going.number going.strand b) e at.0), q.1)

pub past_start : (g : StrandsInWorld) (t : ProgramTeller) (x : Stock) (i : Instance) (going : Going) → InTurnAt g t x i going → going.starts ≡ false → TurnAt g t x i going.number going.strand false
past_start g t x i going at e = subst (λ b. TurnAt g t x i going.number going.strand b) e at.0

-- ---- an end

module _ (laws : Laws) (g : StrandsInWorld) (t : ProgramTeller) (x : Stock) (s : Strand) (place : Place) (a : AtPlace g t x 0 s true place) (i : Instance) (code : code_in i ≡ g.program.source) where
  abbrev p : Module
  p = g.program.source

  abbrev plan : Plan
  plan = plan_of g.program (strand_at g.program 0)

  -- the strand that has ended
  abbrev ended_so : End → Going
  ended_so end = record { number = 0; strand = record s { stage = S.Ended end }; starts = true }

  -- An end in the start function is told.
  pub end_told : (end : End) (event : EventValue) (y : Note) (used : ℕ) (old x' : StrandProgram) (ds : List Device) (fs : List ℕ) → y.event ≡ ended end → event_of event ≡ ended end → y.store ≡ store_in i
      → used ≤ x.steps_left → stock_of old ≡ record x { steps_left = x.steps_left - used } → Settles old i (ended_so end) (end_leads_to (ends_strand true end)) x'
      → LandsSo p plan g.steps true a.ready a.held [] x.steps_left y used true (has_ended end) → TellsEvent g t (record { strand = 0; event = event }) ds fs ds fs x'
  end_told end event y used old x' ds fs is said store within same settles lands =
      let all : Told laws g t x 0 s true place a i (ended_so end) refl refl y used within [] code store a.strand.pokes x' =
      lands_told laws g t x 0 s true place a i (ended_so end) refl refl y used within [] code store a.strand.pokes old x' same
      (subst (λ e. Settles old i (ended_so end) (leads_to true e) x') (sym is) settles)
      (sym (ap is_pause is))
      (λ ticks taken e. let z : ended end ≡ paused ticks taken = sym is ∙ e in absurd cc)
      (λ made behind h' stretch no q. absurd (false≢true (sym no)))
      (λ behind h' q. place_waits (exports_of p) s.area (left_of s.left) (store_in i) (waits_in i) (S.Ended end) behind h' q)
      (λ e. let z : true ≡ false = ap is_end (sym is) ∙ e in absurd (false≢true (sym z)))
      (has_ended end) lands refl in
      record {
        s = a.teller;
        there = a.teller_is;
        unfinished = a.strand.unfinished;
        turn = a.turn.turn;
        note = y;
        event_is = is ∙ sym said;
        memory_is = all.memory;
        met = [];
        answers = lines_in s.left.answers.items;
        takes = subst (λ o. Takes (world_strand g 0) o (supply a.teller.answers ds fs) [] (supply (lines_in s.left.answers.items) ds fs)) (sym (ap call_in is))
            (refl, ap (λ ls. supply ls ds fs) (sym a.strand.answers));
        is_last = all.is_last;
        follow = all.follows;
      }

-- ---- what came of it

module _ (laws : Laws) (g : StrandsInWorld) (t : ProgramTeller) (x : Stock) (left used : ℕ) (s : Strand) (h : Held) (a : AtPlace g t (record x { steps_left = left }) 0 s true (stands [] h))
    (i : Instance) (code : code_in i ≡ g.program.source) (steps : x.steps_left ≡ left - used) where
  abbrev src : Module
  src = g.program.source

  abbrev pl : Plan
  pl = plan_of g.program (strand_at g.program 0)

  abbrev w : Program
  w = world_strand g 0

  none_ready : a.ready ≡ []
  none_ready = let z : stands [] h ≡ stands a.ready a.held = a.place_is in cc

  held_is : a.held ≡ h
  held_is = let z : stands [] h ≡ stands a.ready a.held = a.place_is in cc

  from_here : (os : List Outcome) (y : Note) (q : Place) → LandsSo src pl g.steps true [] h os left y used true q → LandsSo src pl g.steps true a.ready a.held os left y used true q
  from_here os y q l =
      subst (λ r. LandsSo src pl g.steps true r a.held os left y used true q) (sym none_ready) (subst (λ z. LandsSo src pl g.steps true [] z os left y used true q) (sym held_is) l)

  -- it trapped
  pub trap_told : (trap : Trap) (event : EventValue) (old x' : StrandProgram) (ds : List Device) (fs : List ℕ) → event_of event ≡ ended (E.Trapped trap)
      → LastMove src pl h [] (note (ended (E.Trapped trap)) (store_in i) ∷ []) used (over (store_in i)) true → used ≤ left → stock_of old ≡ x
      → Settles old i (record { number = 0; strand = record s { stage = S.Ended (E.Trapped trap) }; starts = true }) (end_leads_to (ends_strand true (E.Trapped trap))) x'
      → TellsEvent g t (record { strand = 0; event = event }) ds fs ds fs x'
  trap_told trap event old x' ds fs said last within same settles =
      end_told laws g t (record x { steps_left = left }) s (stands [] h) a i code (E.Trapped trap) event (note (ended (E.Trapped trap)) (store_in i)) used old x' ds fs refl said refl within
      (same ∙ ap (λ n. record x { steps_left = n }) steps) settles
      (from_here [] (note (ended (E.Trapped trap)) (store_in i)) (has_ended (E.Trapped trap))
      (ends (E.Trapped trap) (note (ended (E.Trapped trap)) (store_in i) ∷ []) (store_in i) (by_last_move true last) refl refl))

  -- steps are spent
  pub spent_told : (end : End) (event : EventValue) (old x' : StrandProgram) (ds : List Device) (fs : List ℕ) → end ≡ E.StepsSpent g.steps → event_of event ≡ ended end
      → EndsAt w h left used (E.StepsSpent w.steps) (store_in i) → stock_of old ≡ x
      → Settles old i (record { number = 0; strand = record s { stage = S.Ended end }; starts = true }) (end_leads_to (ends_strand true end)) x'
      → TellsEvent g t (record { strand = 0; event = event }) ds fs ds fs x'
  spent_told end event old x' ds fs is said comes same settles = by comes
    where
      stock : stock_of old ≡ record x { steps_left = left - used }
      stock = same ∙ ap (λ n. record x { steps_left = n }) steps

      settled : Settles old i (record { number = 0; strand = record s { stage = S.Ended (E.StepsSpent g.steps) }; starts = true }) (end_leads_to (ends_strand true (E.StepsSpent g.steps))) x'
      settled = subst (λ e. Settles old i (record { number = 0; strand = record s { stage = S.Ended e }; starts = true }) (end_leads_to (ends_strand true e)) x') is settles

      by : EndsAt w h left used (E.StepsSpent w.steps) (store_in i) → TellsEvent g t (record { strand = 0; event = event }) ds fs ds fs x'
      by (at_over stretch within) =
          end_told laws g t (record x { steps_left = left }) s (stands [] h) a i code (E.StepsSpent g.steps) event (note (ended (E.StepsSpent g.steps)) (store_in i)) used old x' ds fs refl (said ∙ ap ended is) refl within
          stock settled
          (from_here [] (note (ended (E.StepsSpent g.steps)) (store_in i)) (has_ended (E.StepsSpent g.steps))
          (ends (E.StepsSpent g.steps) (note (ended (E.StepsSpent g.steps)) (store_in i) ∷ []) (store_in i) (either_way true tt stretch) refl refl))
      by (at_spent h' stretch within same_store spent how) =
          end_told laws g t (record x { steps_left = left }) s (stands [] h) a i code (E.StepsSpent g.steps) event (note (ended (E.StepsSpent g.steps)) (store_held h')) used old x' ds fs refl (said ∙ ap ended is) same_store
          within stock settled
          (from_here [] (note (ended (E.StepsSpent g.steps)) (store_held h')) (has_ended (E.StepsSpent g.steps)) (spends h' stretch refl spent refl))

  -- it returned: the first strand's entries come next
  pub returned_turn : s.stage ≡ S.Free → StoreFits src (store_in i) → Stretch src pl h [] (done_notes (store_in i) (left_of s.left).entries) used (held_on (store_in i) (left_of s.left) (left_of s.left).entries)
      → used ≤ left → TurnAt g t x i 0 s false
  returned_turn stage fits_store stretch within = record {
    at = record {
      ts = a.ts;
      low = a.low;
      is = record {
        source = a.is.source;
        globals = a.is.globals;
        globals_fit = a.is.globals_fit;
        few_steps = a.is.few_steps;
        some = a.is.some;
        few = a.is.few;
        slots = a.is.slots;
        dues = a.is.dues;
        threads = a.is.threads;
        tellers = a.is.tellers;
      };
      there = a.there;
      rows = λ j lt other. row_stays g t t (record x { steps_left = left }) x a.ts a.ts a.low a.low j (omega arith) refl refl refl refl refl (a.rows j lt other);
      slot = a.slot;
      teller = a.teller;
      teller_is = a.teller_is;
      due = a.due;
      strand = a.strand;
      ready = ready;
      held = to;
      place_is = ap (place_in (exports_of src) s.area l st (waits_in i)) stage;
      turn = subst (λ n. InTurn g t n 0 a.teller.due false ready to a.ts) (sym steps)
          (turn_moves g t left 0 a.teller.due true false [] ready h to a.ts used (subst (λ z. InTurn g t left 0 a.teller.due true [] z a.ts) held_is (subst (λ r. InTurn g t left 0 a.teller.due true r a.held a.ts) none_ready a.turn))
          (either_way false (no_trap l.entries) stretch) within (waits l.entries));
      fits = fits_on src pl h to [] ready used a.strand.is_set.valid a.strand.is_set.typed stretch (subst (HeldFits src) held_is a.fits);
      holds = subst (λ ar. HeldHolds ar to) a.strand.is_set.area
          (holds_on src pl h to [] ready used stretch (subst (λ ar. HeldHolds ar h) (sym a.strand.is_set.area) (subst (HeldHolds s.area) held_is a.holds)));
      notes = fit_of g a.strand.is_set.valid pl a.low ready to kept.1;
      long = kept.0;
      behind_start = λ e. out l.entries;
    };
    code = code;
    fits = fits_store;
  }
    where
      st : Store
      st = store_in i

      l : B.Left
      l = left_of s.left

      ready : List Note
      ready = done_notes st l.entries

      to : Held
      to = held_on st l l.entries

      kept : (a.low ≤ length (store_held to).memory) × NotesGood src a.strand.is_set.valid pl a.low ready to
      kept = stretch_good src a.strand.is_set.valid pl a.low a.strand.is_set.typed h to [] used ready (subst (HeldFits src) held_is a.fits)
          (subst (λ (z : Held). a.low ≤ length (store_held z).memory) held_is a.long) stretch

      no_trap : (es : List Entry) → IsNoTrap (last_event (done_notes st es))
      no_trap [] = tt
      no_trap (e ∷ es) = tt

      waits : (es : List Entry) → AreWaiting (done_notes st es) (held_on st l es)
      waits [] = (refl, refl, refl, refl)
      waits (e ∷ es) = tt

      out : (es : List Entry) → is_in_start (held_on st l es) ≡ false
      out [] = refl
      out (e ∷ es) = refl

-- ---- results

-- what both clauses of a call give
pub both_ok : {X F : Type 0} (r : Result X F) (P Q R : X → Type 0) → IfOk r P → IfOk r Q → ((x : X) → P x → Q x → R x) → IfOk r R
both_ok (Ok x) P Q R p q f = f x p q
both_ok (Err e) P Q R p q f = tt

-- an event of the first strand
pub of_first : (g : StrandsInWorld) (t : ProgramTeller) (told : StrandEvent) (ds : List Device) (fs : List ℕ) (x' : StrandProgram) → told.strand ≡ 0
    → TellsEvent g t (record { strand = 0; event = told.event }) ds fs ds fs x' → TellsEvent g t told ds fs ds fs x'
of_first g t told ds fs x' e h = subst (λ n. TellsEvent g t (record { strand = n; event = told.event }) ds fs ds fs x') (sym e) h
