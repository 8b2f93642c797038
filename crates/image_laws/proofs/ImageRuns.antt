-- Of an emitted module, whatever step a policy puts in between: it comes to the pauses of its original, and goes on from any store that holds one.
use Rattle.std.proofs.Common.{All, Bool, List, [], ap, arith, length, length-append, map, refl, suc, sym, ℕ, ◌++◌, ◌+◌, ◌∙◌, ◌∷◌, ◌≡◌, ◌≤◌}
use Rattle.std.specs.List.{filter_map, sum_by}
use Rattle.std.proofs.lemmas.List.{length-map}
use Rattle.wa_types.specs.Base.{Base}
use Rattle.wa_types.specs.Frames.{HoldsFrames, frame_of}
use Rattle.wa_types.specs.Modules.{all_globals, global_type, imported, imported_global}
use Rattle.wa_types.specs.Pausing.{Settings, TellsMayPause}
use Rattle.wa_types.specs.Runtime.{global_space, runtime_globals, with_runtime}
use Rattle.wa_types.specs.Syntax.{Module}
use Rattle.wa_types.specs.Typing.{GlobalType, type_of}
use Rattle.wa_types.specs.Validity.{Valid}
use Rattle.wa_types.specs.declared.syntax.Import.{Import}
use Rattle.wa_model.specs.Behaves.{PausesNumbered, StandsNumbered}
use Rattle.wa_model.specs.Blocking.{Blocking}
use Rattle.wa_model.specs.Configuration.{Activation, Configuration, stack_of}
use Rattle.run_theory.specs.Fitting.{StoreFits}
use Rattle.wa_model.specs.Plan.{Outcome, Plan}
use Rattle.wa_model.specs.Protocol.{Held}
use Rattle.wa_model.specs.Store.{Store}
use Rattle.run_laws.specs.Ranges.{CodesIn}
use Rattle.frame_laws.specs.Stack.{HoldsStack}
use Rattle.guard_runs.specs.Alike.{sides_of}
use Rattle.guard_runs.specs.Levels.{levels_of}
use Rattle.guard_runs.specs.Returned.{AllSameFlat}
use Rattle.guard_runs.proofs.StoppedStacks.{waits_law}
use Rattle.guard_runs.specs.Stopped.{Stopped}
use Rattle.headline.specs.FlatLaw.{AllLocalsFit, FlatLaw}
use Rattle.headline.specs.Given.{ComparedGiven, Given}
use Rattle.headline.specs.Halts.{HaltLaw}
use Rattle.headline.specs.LiveLaw.{L2, LiveLaw, W2}
use Rattle.headline.specs.World.{World, WorldFits, setting}
use Rattle.headline.specs.WrittenRuns.{WrittenLaw}
use Rattle.headline.proofs.FromOpenings.{StartFits}
use Rattle.headline.proofs.Halting.{plain_halts}
use Rattle.headline.proofs.Headline.{start_fits}
use Rattle.headline.proofs.LiveSteps.{both}
use Rattle.headline.proofs.OuterLevels.{under_count}
use Rattle.headline.proofs.StoresTogether.{store_laws}
use Rattle.headline.proofs.WorldParts.{world_fits}
use Rattle.headline.specs.Core.{Core, world_of}
use Rattle.headline.specs.Links.{GoodStore, L as Links, LinkedWaits, StandsLaw, W as WaitLinks}
use Rattle.headline.proofs.WrittenKnown.{written_law}
use Rattle.headline.specs.CoreOf.{RunsBeside, WaitsBeside, core_of}
use Rattle.headline.specs.EmittedModule.{Emitted, Framing}
use Rattle.headline.specs.Framed.{FramedCalls}
use Rattle.headline.proofs.Behaving.{KnownThere, area, base_in, first, owed, typed, whole, written_fits}
use Rattle.headline.proofs.PairedStacks.{AllPairs}
use Rattle.headline.proofs.WaitsAgain.{numbers_at, pairs_at}
use Rattle.image_laws.specs.Image.{ComesThere, ComesToPause, GoesOnFrom, HoldsPause, Pause, rest_of_cost, rewind_bound, unwind_bound}
use Rattle.image_laws.proofs.Apart.{ApartLaw}
use Rattle.image_laws.proofs.ApartLevels.{ApartCalls, apart_sums}
use Rattle.image_laws.proofs.AtPause.{HeldThere, HoldsLaw}
use Rattle.image_laws.proofs.TakenAgain.{stopped_taken}
use Rattle.image_laws.proofs.ChosenStacks.{AllTyped, Chosen, choose, no_lay, waits_chosen}
use Rattle.image_laws.proofs.GoesOn.{comes_to, goes_on}
use Rattle.image_laws.proofs.KnownAgain.{FitsLaw, KnownLaw, fits_known, known_again}

-- ---- a store of the rewritten module has two globals more

same_globals : (m : Module) → (with_runtime m).globals ≡ m.globals ++ runtime_globals
unfolding with_runtime
same_globals m = refl

global_count : (m : Module) → global_space m ≡ length (imported imported_global m) + length m.globals
global_count m =
    length-append (imported imported_global m) (map global_type m.globals) ∙ ap (λ n. length (imported imported_global m) + n) (length-map m.globals global_type)

two_more : (m p : Module) → p.imports ≡ m.imports → p.globals ≡ (with_runtime m).globals → (t : Store) → StoreFits p t → length t.globals ≡ global_space m + 2
two_more m p imports globals t h =
    let values : length t.globals ≡ global_space p = sym (length-map t.globals type_of) ∙ ap length h.globals ∙ length-map (all_globals p) (λ (g : GlobalType). g.ty) in
    let defined : length p.globals ≡ length m.globals + 2 = ap length (globals ∙ same_globals m) ∙ length-append m.globals runtime_globals in
    let imported_same : length (imported imported_global p) ≡ length (imported imported_global m) = ap (λ is. length (filter_map (λ (i : Import). imported_global i.kind) is)) imports in
    let all_p = global_count p in
    let all_m = global_count m in
    omega arith

module _ (m : Module) (s : Settings) (which : List Bool) (frames : (index : ℕ) → Framing) (p : Module) (valid : Valid m) (written_valid : Valid p) (codes_in : CodesIn m) (written_codes : CodesIn p)
    (tells : TellsMayPause m s which) (em : Emitted m s which frames p) (plan : Plan) (plan_fits : Given m plan) where
  abbrev k : Core
  k = core_of m s which frames plan p

  abbrev w : World
  w = world_of (core_of m s which frames plan p)

  abbrev B : (spare : ℕ) → Configuration → Configuration → Type 0
  B = RunsBeside m s which frames plan p

  abbrev A : ℕ → Configuration → Configuration → Type 0
  A = WaitsBeside m s which frames plan p

  codes : CodesIn (Base m)
  codes = base_in m s which frames p valid written_valid codes_in written_codes tells em plan plan_fits

  -- ---- what is known of the written module

  abbrev KnownHere : Held → Type 0
  KnownHere = KnownThere m s which frames p valid written_valid codes_in written_codes tells em plan plan_fits

  written_here : WrittenLaw w KnownHere
  written_here =
      written_law w written_valid (written_fits m s which frames p valid written_valid codes_in written_codes tells em plan plan_fits)
      (area m s which frames p valid written_valid codes_in written_codes tells em plan plan_fits)
      (typed m s which frames p valid written_valid codes_in written_codes tells em plan plan_fits) written_codes

  known_here : KnownLaw w KnownHere
  known_here =
      known_again w written_valid (written_fits m s which frames p valid written_valid codes_in written_codes tells em plan plan_fits)
      (area m s which frames p valid written_valid codes_in written_codes tells em plan plan_fits)
      (typed m s which frames p valid written_valid codes_in written_codes tells em plan plan_fits) written_codes

  fits_here : FitsLaw w KnownHere
  fits_here =
      fits_known w written_valid (written_fits m s which frames p valid written_valid codes_in written_codes tells em plan plan_fits)
      (area m s which frames p valid written_valid codes_in written_codes tells em plan plan_fits)
      (typed m s which frames p valid written_valid codes_in written_codes tells em plan plan_fits) written_codes

  -- What memory holds of a stack it holds of one that differs in what is never read.
  abbrev pub HeldToo : (Live : Configuration → Configuration → Type 0) → Type 0
  HeldToo Live =
      (top i : ℕ) (c d f : Configuration) → Live c d → WaitLinks (core_of m s which frames plan p) (RunsBeside m s which frames plan p) (WaitsBeside m s which frames plan p) top i d f
      → All (StandsNumbered m s which) (stack_of (Base m) d) → (mem : List ℕ) (at : ℕ) → HoldsFrames m s which mem at (stack_of (Base m) c)
      → HoldsFrames m s which mem at (stack_of (Base m) d) × (sum_by (frame_of m s.policy) (stack_of (Base m) d) ≡ sum_by (frame_of m s.policy) (stack_of (Base m) c))

  -- It weighs the same.
  abbrev pub WeighSame : (Live : Configuration → Configuration → Type 0) → Type 0
  WeighSame Live = (c d : Configuration) → Live c d → (sum_by (unwind_bound m) (stack_of (Base m) d) ≡ sum_by (unwind_bound m) (stack_of (Base m) c))
      × (sum_by (rewind_bound m) (stack_of (Base m) d) ≡ sum_by (rewind_bound m) (stack_of (Base m) c))

  module _ (Live : Configuration → Configuration → Type 0) (lives : LiveLaw (world_of (core_of m s which frames plan p)) Live
      (WaitLinks (core_of m s which frames plan p) (RunsBeside m s which frames plan p) (WaitsBeside m s which frames plan p)))
      (stands : StandsLaw (core_of m s which frames plan p) (RunsBeside m s which frames plan p) (WaitsBeside m s which frames plan p) Live) (framed : FramedCalls m s which frames)
      (held_too : HeldToo Live) (weigh_same : WeighSame Live) (apart : ApartCalls m s which frames) where
    -- both relations with that step in between
    abbrev L1 : (top spare : ℕ) → Configuration → Configuration → Type 0
    L1 = L2 Live (Links k B A) (WaitLinks k B A)

    abbrev W1 : ℕ → ℕ → Configuration → Configuration → Type 0
    W1 = W2 Live (Links k B A) (WaitLinks k B A)

    -- ---- a stack of which memory holds the frames

    made : (top i : ℕ) (d c f : Configuration) (mem : List ℕ) (at : ℕ) → Live d c → LinkedWaits k (RunsBeside m s which frames plan p) (WaitsBeside m s which frames plan p) i c f
        → All (StandsNumbered m s which) (stack_of (Base m) c) → (cs ws : List Activation)
        → (st : Stopped (setting w top) i cs ws) → AllPairs (Base m) which (c.here ∷ c.under) cs → AllSameFlat no_lay (f.here ∷ f.under) cs
        → AllTyped (f.here ∷ f.under) cs → AllLocalsFit p ws → HoldsStack mem at (levels_of (setting w top) k.lay st)
        → HeldThere w W1 top i d f.here.taken mem at
    made top i d c f mem at live l nums [] ws st pairs same types fit holds = absurd same
    made top i d c f mem at live l nums (a ∷ cs) [] st pairs same types fit holds =
        let n = under_count (sides_of (setting w top)) i (a ∷ cs) [] (waits_law (setting w top) i (a ∷ cs) [] st) in
        absurd (omega arith)
    made top i d c f mem at live l nums (a ∷ cs) (b ∷ ws) st pairs same types fit holds = record {
      flat = record { store = f.store; here = a; under = cs };
      waits = record { chosen = c; live = live; waits = waits_chosen m s which frames plan p valid tells em plan_fits codes framed i c f a cs l nums pairs same types };
      here = b;
      under = ws;
      st = st;
      took = let h = same.0 in stopped_taken (setting w top) i _ _ st a b cs ws refl refl ∙ h.taken;
      fit = fit;
      holds = holds;
    }

    holds_law : HoldsLaw w W1
    holds_law top i d f us' st wt nums fit mem at bytes room held =
        let nums2 = lives.numbered d wt.chosen wt.live nums in
        let too = held_too top i d wt.chosen f wt.live wt.waits nums2 mem at held in
        let sum = too.1 in
        let nums3 = numbers_at m s which frames plan p valid tells em plan_fits codes i wt.chosen f wt.waits nums2 in
        let ps = pairs_at m s which frames plan p valid tells em plan_fits codes i wt.chosen f wt.waits nums2 in
        let ch : Chosen m s which frames plan p valid tells em plan_fits codes framed top mem bytes i ((wt.chosen).here ∷ (wt.chosen).under) (f.here ∷ f.under) at =
        choose m s which frames plan p valid tells em plan_fits codes framed top mem bytes (wt.chosen).store.table i i ((wt.chosen).here ∷ (wt.chosen).under) (f.here ∷ f.under) us' st ps nums3 fit at
        (omega arith) too.0 in
        made top i d wt.chosen f mem at wt.live wt.waits nums2 ch.cs ch.ws ch.stopped ch.pairs ch.same ch.types ch.fit ch.holds

    -- each half of a pause within its bound
    apart_law : ApartLaw w W1
    apart_law top i d f us' st wt nums fit =
        let c = wt.chosen in
        let nums2 = lives.numbered d wt.chosen wt.live nums in
        let nums3 = numbers_at m s which frames plan p valid tells em plan_fits codes i wt.chosen f wt.waits nums2 in
        let ps = pairs_at m s which frames plan p valid tells em plan_fits codes i wt.chosen f wt.waits nums2 in
        let r = apart_sums m s which frames plan p valid tells em plan_fits codes apart top (wt.chosen).store.table i i (wt.chosen).here (wt.chosen).under (f.here ∷ f.under) us' st ps nums3 fit in
        let weigh = weigh_same d wt.chosen wt.live in
        let w0 = weigh.0 in let w1 = weigh.1 in let r0 = r.unwinds in let r1 = r.rewinds in
        record { unwinds = omega arith; rewinds = omega arith }

    -- ---- what is asked of the world

    fits : WorldFits w
    fits =
        let wh = whole m s which frames p valid written_valid codes_in written_codes tells em plan plan_fits in
        world_fits w wh.parts

    law : FlatLaw w (λ c d. c ≡ d) L1 W1 (GoodStore k)
    law = both w Live (Links k B A) (WaitLinks k B A) (GoodStore k) lives (owed m s which frames p valid written_valid codes_in written_codes tells em plan plan_fits Live stands)

    halts : HaltLaw w W1
    halts = plain_halts w fits L1 W1 (GoodStore k) law refl

    begins : (os : List Outcome) (n : ℕ) → ComparedGiven m plan os n → StartFits w (GoodStore k)
    begins os n cmp =
        start_fits w (whole m s which frames p valid written_valid codes_in written_codes tells em plan plan_fits) KnownHere written_here (GoodStore k)
        (first m s which frames p valid written_valid codes_in written_codes tells em plan plan_fits) L1 W1 os n cmp

    -- FROM A STORE THAT HOLDS A PAUSE, whatever step a policy puts in between
    goes_on_with : (os : List Outcome) (n : ℕ) → ComparedGiven m plan os n → PausesNumbered m s which (Blocking m plan os n).events
        → (x : Pause) → ComesThere m s plan os x → x.cost + suc x.own_cost ≤ n → (t : Store) → HoldsPause m p s which plan x.waits t
        → GoesOnFrom m s p plan which (rest_of_cost n x) x t
    goes_on_with os n cmp pauses x at le t hp =
        goes_on w fits (store_laws w) L1 W1 (GoodStore k) law KnownHere written_here halts refl holds_law known_here fits_here apart_law (begins os n cmp) os n cmp pauses x at le t hp
        (two_more m p em.imports em.globals t hp.fits)

    -- TO THE PAUSE
    comes_with : (os : List Outcome) (n : ℕ) → ComparedGiven m plan os n → PausesNumbered m s which (Blocking m plan os n).events
        → (x : Pause) → ComesThere m s plan os x → x.cost + suc x.own_cost ≤ n → ComesToPause m s p plan which os x
    comes_with os n cmp pauses x at le =
        comes_to w fits (store_laws w) L1 W1 (GoodStore k) law KnownHere written_here halts refl holds_law known_here fits_here apart_law (begins os n cmp) os n cmp pauses x at le

    -- both
    pub halves_with : (os : List Outcome) (n : ℕ) → ComparedGiven m plan os n → PausesNumbered m s which (Blocking m plan os n).events
        → (x : Pause) → ComesThere m s plan os x → x.cost + suc x.own_cost ≤ n
        → ComesToPause m s p plan which os x × ((t : Store) → HoldsPause m p s which plan x.waits t → GoesOnFrom m s p plan which (rest_of_cost n x) x t)
    halves_with os n cmp pauses x at le = (comes_with os n cmp pauses x at le, λ t hp. goes_on_with os n cmp pauses x at le t hp)
