-- Under both policies the strands of what is emitted behave like those of its original.
use Rattle.std.proofs.Common.{All, Bool, List, ap, refl, subst, sym, length, ℕ, ◌<◌, ◌≡◌}
use Rattle.std.proofs.lemmas.Option.{unwrap_or-slice_get}
use Rattle.wa_types.specs.Pausing.{Policy, Settings, TellsMayPause, save_all, save_live}
use Rattle.wa_types.specs.Syntax.{Module}
use Rattle.wa_types.specs.Validity.{Valid}
use Rattle.wa_model.specs.Configuration.{Configuration}
use Rattle.wa_model.specs.Plan as L
use Rattle.wa_model.specs.Plan.{Outcome, Plan}
use Rattle.wa_model.specs.Store.{Store}
use Rattle.run_theory.specs.Quiet.{FreeOfNames}
use Rattle.run_laws.specs.Ranges.{CodesIn}
use Rattle.run_laws.proofs.BlockingRuns.{base_codes, well_formed_in}
use Rattle.slot_laws.proofs.Closed.{one_list}
use Rattle.slim_laws.specs.SlimModule.{Pieces}
use Rattle.call_frames.specs.PlainFrames.{SavedParts}
use Rattle.headline.specs.Core.{world_of}
use Rattle.headline.specs.CoreOf.{RunsBeside, WaitsBeside, core_of}
use Rattle.headline.specs.EmittedModule.{Emitted, Framing, kept_frames}
use Rattle.headline.specs.Links.{StandsLaw, W as WaitLinks}
use Rattle.headline.specs.LiveLaw.{LiveLaw}
use Rattle.headline.proofs.GivenPlans.{fits_given}
use Rattle.headline.proofs.LiveSteps.{equal_lives}
use Rattle.headline.proofs.PauseCosts.{kept_framed}
use Rattle.headline.proofs.StackAgain.{stacks_stand}
use Rattle.emitted_form.specs.CodesHold.{AllSlim}
use Rattle.emitted_form.specs.Emitted.{asyncified}
use Rattle.emitted_form.specs.EmittedAs.{EmittedUnder}
use Rattle.emitted_form.specs.LiveModuleLaws.{LiveRewriting}
use Rattle.emitted_form.specs.LiveParts.{live_asyncified, live_codes}
use Rattle.emitted_form.specs.PolicyLaws.{CanBeEmitted}
use Rattle.emitted_form.specs.SameLive.{SameLive, alike}
use Rattle.emitted_form.proofs.Asyncified as AllKept
use Rattle.emitted_form.proofs.EmittedFits as AllFits
use Rattle.emitted_form.proofs.EmittedRewritten as AllRewritten
use Rattle.emitted_form.proofs.FitsBy.{emitted_fits}
use Rattle.emitted_form.proofs.LiveAgain.{live_stacks_stand}
use Rattle.emitted_form.proofs.LiveModules as Live
use Rattle.emitted_form.proofs.LiveRelation.{live_stands}
use Rattle.emitted_form.proofs.PolicyCases.{live_rewriting}
use Rattle.image_laws.proofs.Restored.{over_store}
use Rattle.strand_laws.specs.EmittedStrands.{StrandsOfEmitted}
use Rattle.strand_laws.specs.Strands.{Strand, StrandProgram, StrandsBehave, StrandsBehaveOn, StrandsCompared, StrandsNumbered, no_strand, plan_of, strand_at, with_source}
use Rattle.strand_laws.proofs.StrandModules.{strands_with}

-- another store leaves what may differ
live_over : (c d : Configuration) (t : Store) → SameLive c d → SameLive (over_store c t) (over_store d t)
live_over _ _ t (alike h us) = alike h us

-- the plan of each strand fits
fits_each : (m : Module) (g : StrandProgram) → All (λ (x : Strand). L.Fits m (plan_of g x)) g.strands → (i : ℕ) → i < length g.strands → L.Fits m (plan_of g (strand_at g i))
fits_each m g h i li = subst (λ (x : Strand). L.Fits m (plan_of g x)) (sym (unwrap_or-slice_get g.strands i no_strand)) (h i no_strand li)

module _ (m : Module) (s : Settings) (which : List Bool) (frames : (index : ℕ) → Framing) (p : Module) (valid : Valid m) (written_valid : Valid p) (codes_in : CodesIn m) (written_codes : CodesIn p)
    (tells : TellsMayPause m s which) (em : Emitted m s which frames p) (Live : Configuration → Configuration → Type 0)
    (over_too : (c d : Configuration) (t : Store) → Live c d → Live (over_store c t) (over_store d t))
    (lives : (plan : Plan) → L.Fits m plan → LiveLaw (world_of (core_of m s which frames plan p)) Live
    (WaitLinks (core_of m s which frames plan p) (RunsBeside m s which frames plan p) (WaitsBeside m s which frames plan p)))
    (stands : (plan : Plan) → L.Fits m plan → StandsLaw (core_of m s which frames plan p) (RunsBeside m s which frames plan p) (WaitsBeside m s which frames plan p) Live) where
  over_it : (g : StrandProgram) (oss : List (List Outcome)) (n : ℕ) → StrandsCompared s (with_source g m) oss n → StrandsNumbered s which (with_source g m) oss n
      → StrandsBehaveOn s which (with_source g m) p oss n
  over_it g oss n cmp nums =
      let f : (i : ℕ) → i < length g.strands → L.Fits m (plan_of g (strand_at g i)) = fits_each m g cmp.fits in
      strands_with m s which frames p valid written_valid codes_in written_codes tells em g cmp.some f Live over_too (λ i li. lives (plan_of g (strand_at g i)) (f i li))
      (λ i li. stands (plan_of g (strand_at g i)) (f i li)) oss n cmp nums

  -- of a program over the original
  pub strands_of : (g : StrandProgram) → g.source ≡ m → (oss : List (List Outcome)) (n : ℕ) → StrandsCompared s g oss n → StrandsNumbered s which g oss n → StrandsBehaveOn s which g p oss n
  strands_of g is oss n cmp nums =
      let q : with_source g m ≡ g = ap (with_source g) (sym is) in
      subst (λ z. StrandsBehaveOn s which z p oss n) q
      (over_it g oss n (subst (λ z. StrandsCompared s z oss n) (sym q) cmp) (subst (λ z. StrandsNumbered s which z oss n) (sym q) nums))

-- ---- the policy that saves all

all_strands : (m : Module) (s : Settings) (told : List Bool) (pieces : (index : ℕ) → Pieces) → CanBeEmitted m s told → FreeOfNames m → s.policy ≡ save_all → AllSlim m s told pieces
    → StrandsBehave m s (asyncified m s told pieces)
all_strands m s told pieces can free policy slim wf which tells g is oss n cmp nums =
    let p = asyncified m s told pieces in
    let codes = well_formed_in m wf in
    let em = AllKept.emitted_so m s told pieces can.valid slim free can.sizes can.few can.tells in
    let keeps = AllKept.all_keep_enough m s told pieces can.valid in
    let keep = AllKept.keep m s told pieces can.valid in
    let framed = kept_framed m s told pieces keep can.valid em.slim keeps policy in
    let frames = kept_frames m s told pieces keep in
    let same : told ≡ which = one_list m s told which can.tells tells in
    subst (λ w. StrandsBehaveOn s w g p oss n) same
    (strands_of m s told frames p can.valid (AllRewritten.valid_law m s told pieces can.valid slim free) codes
    (well_formed_in p (AllFits.emitted_fits m s told pieces can.valid slim wf can.sizes can.few)) can.tells em (λ c d. c ≡ d) (λ c d t e. ap (λ (z : Configuration). over_store z t) e)
    (λ plan f. equal_lives (world_of (core_of m s told frames plan p)) (WaitLinks (core_of m s told frames plan p) (RunsBeside m s told frames plan p) (WaitsBeside m s told frames plan p)))
    (λ plan f. stacks_stand m s told pieces keep plan p can.valid can.tells em (fits_given m plan f) (base_codes m codes) keeps framed) g is oss n cmp
    (subst (λ w. StrandsNumbered s w g oss n) (sym same) nums))

-- ---- the policy that saves what is live

live_strands : (m : Module) (s : Settings) (told : List Bool) (pieces : (index : ℕ) → Pieces) (parts : (index : ℕ) → SavedParts) → LiveRewriting m s told pieces parts → FreeOfNames m
    → StrandsBehave m s (live_asyncified m s told pieces parts)
live_strands m s told pieces parts r free wf which tells g is oss n cmp nums =
    let p = live_asyncified m s told pieces parts in
    let codes = well_formed_in m wf in
    let frames = Live.frames m s told pieces parts r in
    let em = Live.live_emitted m s told pieces parts r free in
    let framed = Live.framed m s told pieces parts r in
    let same : told ≡ which = one_list m s told which r.tells tells in
    subst (λ w. StrandsBehaveOn s w g p oss n) same
    (strands_of m s told frames p r.valid (Live.live_valid m s told pieces parts r free) codes
    (well_formed_in p (emitted_fits m s told (live_codes pieces parts) r.valid wf r.sizes (Live.hold m s told pieces parts r) (Live.fit m s told pieces parts r) r.few)) r.tells em SameLive live_over
    (λ plan f. live_stands (world_of (core_of m s told frames plan p)) (WaitLinks (core_of m s told frames plan p) (RunsBeside m s told frames plan p) (WaitsBeside m s told frames plan p)) r.policy
    (λ top i d f l. l.spots))
    (λ plan f. live_stacks_stand m s told frames plan p r.valid r.tells em (fits_given m plan f) (base_codes m codes) r.policy framed) g is oss n cmp
    (subst (λ w. StrandsNumbered s w g oss n) (sym same) nums))

-- ---- both

pub strands_of_emitted : StrandsOfEmitted
strands_of_emitted m s told q can free em = by s.policy refl em
  where
    by : (p : Policy) → s.policy ≡ p → EmittedUnder p m s told q → StrandsBehave m s q
    by save_all e h = subst (StrandsBehave m s) (sym h.is) (all_strands m s told h.pieces can free e h.slim)
    by save_live e h = subst (StrandsBehave m s) (sym h.is) (live_strands m s told h.pieces h.parts (live_rewriting m s told q can e h) free)
