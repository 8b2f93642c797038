-- Under both policies what is emitted comes to the pauses of its original, and goes on from any store that holds one.
use Rattle.std.proofs.Common.{Bool, List, Some, ap, arith, refl, subst, suc, sym, ℕ, ◌+◌, ◌≡◌, ◌≤◌}
use Rattle.std.specs.List.{sum_by}
use Rattle.std.specs.Prelude.{unwrap_or}
use Rattle.wa_types.specs.Base.{Base}
use Rattle.wa_types.specs.Frames.{HoldsFrames, call_number, frame_of}
use Rattle.wa_types.specs.Modules.{defined_at}
use Rattle.wa_types.specs.Pausing.{Policy, Settings, save_all, save_live}
use Rattle.wa_types.specs.Sizes.{WellFormed}
use Rattle.wa_types.specs.Syntax.{Func, Module}
use Rattle.wa_model.specs.Behaves.{PausesNumbered}
use Rattle.wa_model.specs.Blocking.{Blocking}
use Rattle.wa_model.specs.Configuration.{Configuration, stack_of}
use Rattle.wa_model.specs.Plan.{Outcome, Plan}
use Rattle.run_theory.specs.Quiet.{FreeOfNames}
use Rattle.wa_model.specs.Store.{Store}
use Rattle.run_laws.proofs.BlockingRuns.{base_codes, well_formed_in}
use Rattle.headline.specs.Given.{ComparedGiven}
use Rattle.headline.proofs.GivenPlans.{compared_given}
use Rattle.headline.proofs.LiveSteps.{equal_lives}
use Rattle.headline.specs.Core.{Core, world_of}
use Rattle.headline.specs.Links as N
use Rattle.headline.specs.CoreOf.{RunsBeside, WaitsBeside, core_of}
use Rattle.headline.specs.EmittedModule.{Framing, kept_frames}
use Rattle.headline.proofs.PauseCosts.{kept_framed}
use Rattle.headline.proofs.StackAgain.{stacks_stand}
use Rattle.slim_laws.specs.SlimModule.{Pieces}
use Rattle.call_frames.specs.PlainFrames.{SavedParts, frames_of}
use Rattle.frame_laws.specs.Function.{result_type}
use Rattle.flat_laws.specs.Flatten.{flattened}
use Rattle.emitted_form.specs.SameLive.{SameLive}
use Rattle.emitted_form.proofs.LiveRelation.{live_stands}
use Rattle.emitted_form.proofs.LiveAgain.{live_stacks_stand}
use Rattle.emitted_form.proofs.LiveFramed.{live_framed}
use Rattle.emitted_form.specs.ByCallFraming.{call_frame}
use Rattle.emitted_form.specs.CodesHold.{AllSlim}
use Rattle.emitted_form.specs.Emitted.{asyncified}
use Rattle.emitted_form.proofs.EmittedFits as AllFits
use Rattle.emitted_form.proofs.EmittedRewritten as AllRewritten
use Rattle.emitted_form.proofs.Asyncified as All
use Rattle.emitted_form.proofs.FitsBy.{emitted_fits}
use Rattle.emitted_form.specs.EmittedAs.{EmittedUnder}
use Rattle.emitted_form.specs.LiveModuleLaws.{LiveRewriting}
use Rattle.emitted_form.specs.LiveParts.{live_asyncified, live_codes}
use Rattle.emitted_form.specs.PolicyLaws.{CanBeEmitted}
use Rattle.emitted_form.proofs.LiveModules.{fit, framed, frames, frames_are, hold, live_emitted, live_valid}
use Rattle.emitted_form.proofs.PolicyCases.{live_rewriting}
use Rattle.image_laws.specs.Image.{ComesThere, ComesToPause, GoesOnFrom, HoldsPause, Pause, rest_of_cost, rewind_bound, unwind_bound}
use Rattle.image_laws.specs.HeldPauses.{ImageGoesOn, PausesHold}
use Rattle.image_laws.proofs.ApartFrames.{all_apart}
use Rattle.image_laws.proofs.ApartLevels.{ApartCalls}
use Rattle.image_laws.proofs.ImageRuns.{halves_with}
use Rattle.image_laws.proofs.LiveHeld.{live_held, live_weighs}

-- what is said of a module
abbrev Says : Module → Settings → List Bool → Module → Type 0
Says m s which p =
    WellFormed m → (plan : Plan) (os : List Outcome) (n : ℕ) → ComparedGiven m plan os n → PausesNumbered m s which (Blocking m plan os n).events
    → (x : Pause) → ComesThere m s plan os x → x.cost + suc x.own_cost ≤ n
    → ComesToPause m s p plan which os x × ((t : Store) → HoldsPause m p s which plan x.waits t → GoesOnFrom m s p plan which (rest_of_cost n x) x t)

-- ---- the policy that saves all

all_says : (m : Module) (s : Settings) (which : List Bool) (pieces : (index : ℕ) → Pieces) → CanBeEmitted m s which → FreeOfNames m → s.policy ≡ save_all
    → AllSlim m s which pieces → Says m s which (asyncified m s which pieces)
all_says m s which pieces can free policy slim wf plan os n cmp pauses x at le =
    let codes = well_formed_in m wf in
    let em = All.emitted_so m s which pieces can.valid slim free can.sizes can.few can.tells in
    let keeps = All.all_keep_enough m s which pieces can.valid in
    let framed_so = kept_framed m s which pieces (All.keep m s which pieces can.valid) can.valid em.slim keeps policy in
    let framing : (index : ℕ) → Framing = kept_frames m s which pieces (All.keep m s which pieces can.valid) in
    let p : Module = asyncified m s which pieces in
    let k : Core = core_of m s which framing plan p in
    halves_with m s which framing p can.valid (AllRewritten.valid_law m s which pieces can.valid slim free) codes
    (well_formed_in p (AllFits.emitted_fits m s which pieces can.valid slim wf can.sizes can.few)) can.tells em plan cmp.given (λ c d. c ≡ d)
    (equal_lives (world_of k) (N.W k (RunsBeside m s which framing plan p) (WaitsBeside m s which framing plan p)))
    (stacks_stand m s which pieces (All.keep m s which pieces can.valid) plan p can.valid can.tells em cmp.given (base_codes m codes) keeps framed_so) framed_so
    (λ top i c d f e wt nums mem at held.
    (subst (λ (z : Configuration). HoldsFrames m s which mem at (stack_of (Base m) z)) e held, ap (λ (z : Configuration). sum_by (frame_of m s.policy) (stack_of (Base m) z)) (sym e)))
    (λ c d e. (ap (λ (z : Configuration). sum_by (unwind_bound m) (stack_of (Base m) z)) (sym e), ap (λ (z : Configuration). sum_by (rewind_bound m) (stack_of (Base m) z)) (sym e)))
    (all_apart m s which pieces (All.keep m s which pieces can.valid) can.valid)
    os n cmp pauses x at le

-- ---- the policy that saves what is live

module _ (m : Module) (s : Settings) (which : List Bool) (pieces : (index : ℕ) → Pieces) (parts : (index : ℕ) → SavedParts) (r : LiveRewriting m s which pieces parts) where
  abbrev framing : (index : ℕ) → Framing
  framing = frames m s which pieces parts r

  -- restoring costs no more than saving
  less : (x : ℕ) (f : Func) (place : ℕ) → defined_at m x ≡ Some f → ((framing x).frame_at place).restore_most ≤ ((framing x).frame_at place).save_most
  less x f place is =
      let c = frames_of (parts x) in
      let k : ℕ = unwrap_or (call_number m s which f place) 0 in
      let result = result_type (flattened (Base m) x f).locals (flattened (Base m) x f).result in
      let here : (call_frame (frames_of (parts x)) result k).restore_most ≤ (call_frame (frames_of (parts x)) result k).save_most = omega arith in
      subst (λ (z : Framing). (z.frame_at place).restore_most ≤ (z.frame_at place).save_most) (sym (frames_are m s which pieces parts r x f is)) here

  apart : ApartCalls m s which framing
  apart x f is told k place number = record { less = less x f place is; cost = (framed m s which pieces parts r x f is told k place number).cost }

  live_says : FreeOfNames m → Says m s which (live_asyncified m s which pieces parts)
  live_says free wf plan os n cmp pauses x at le =
      let codes = well_formed_in m wf in
      let em = live_emitted m s which pieces parts r free in
      let framed_so = framed m s which pieces parts r in
      let p : Module = live_asyncified m s which pieces parts in
      let k : Core = core_of m s which framing plan p in
      halves_with m s which framing p r.valid (live_valid m s which pieces parts r free) codes
      (well_formed_in p (emitted_fits m s which (live_codes pieces parts) r.valid wf r.sizes (hold m s which pieces parts r) (fit m s which pieces parts r) r.few)) r.tells em plan cmp.given SameLive
      (live_stands (world_of k) (N.W k (RunsBeside m s which framing plan p) (WaitsBeside m s which framing plan p)) r.policy (λ top i d f l. l.spots))
      (live_stacks_stand m s which framing plan p r.valid r.tells em cmp.given (base_codes m codes) r.policy framed_so)
      (live_framed m s which framing r.valid em.slim r.policy framed_so)
      (λ top i c d f e wt nums mem at held. live_held m s which r.policy i c d e wt.spots mem at held)
      (λ c d e. (live_weighs m 67 c d e, live_weighs m 61 c d e))
      apart
      os n cmp pauses x at le

-- ---- both

both_say : (m : Module) (s : Settings) (which : List Bool) (q : Module) → CanBeEmitted m s which → FreeOfNames m → EmittedUnder s.policy m s which q → Says m s which q
both_say m s which q can free em = by s.policy refl em
  where
    by : (p : Policy) → s.policy ≡ p → EmittedUnder p m s which q → Says m s which q
    by save_all e h = subst (Says m s which) (sym h.is) (all_says m s which h.pieces can free e h.slim)
    by save_live e h = subst (Says m s which) (sym h.is) (live_says m s which h.pieces h.parts (live_rewriting m s which q can e h) free)

pub pauses_hold : PausesHold
pauses_hold m s which p plan os n run em x pause =
    (both_say m s which p run.can run.free em run.formed plan os n (compared_given m s plan os n run.compared) run.numbered x pause.there pause.within).0

pub image_goes_on : ImageGoesOn
image_goes_on m s which p plan os n run em x pause =
    (both_say m s which p run.can run.free em run.formed plan os n (compared_given m s plan os n run.compared) run.numbered x pause.there pause.within).1
