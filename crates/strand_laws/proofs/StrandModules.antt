-- The strands of an emitted module in step with its original's: each premise of the joint simulation, from the laws of one plan.
use Rattle.std.proofs.Common.{Bool, List, ap, arith, subst, sym, length, ℕ, ◌*◌, ◌<◌, ◌≤◌, ◌∙◌, ◌∷◌, ◌≡◌}
use Rattle.std.proofs.lemmas.List.Elements.{All-weaker}
use Rattle.wa_types.specs.Base.{Base}
use Rattle.wa_types.specs.Memory.{page_size}
use Rattle.wa_types.specs.Modules.{all_memories, func_type_at}
use Rattle.wa_types.specs.Pausing.{Settings, TellsMayPause, has_number}
use Rattle.wa_types.specs.Runtime.{func_space}
use Rattle.wa_types.specs.Syntax.{Module}
use Rattle.wa_types.specs.Validity.{Valid}
use Rattle.wa_model.specs.Blocking.{Left}
use Rattle.wa_model.specs.Configuration.{Configuration}
use Rattle.wa_model.specs.Instantiation.{least_of, opening, opens}
use Rattle.wa_model.specs.Plan as L
use Rattle.wa_model.specs.Plan.{AreaFits, Entry, EntryFits, Outcome, OutcomeFits, Plan}
use Rattle.wa_model.specs.Protocol.{Held, free}
use Rattle.wa_model.specs.Store.{Store}
use Rattle.run_laws.specs.Ranges.{CodesIn, LeftIn, OpeningIn}
use Rattle.run_laws.specs.FittingStates.{EntryTyped, ExportsTyped, HeldFits, LeftTyped, SomeLeft}
use Rattle.run_laws.proofs.BlockingRuns.{base_codes}
use Rattle.run_laws.proofs.Openings.{openings_in}
use Rattle.run_laws.proofs.PlanParts.{plans_fit_parts}
use Rattle.run_laws.proofs.ProtocolRuns.{fits_areas, fits_in}
use Rattle.run_laws.proofs.SpotRuns.{listed_typed}
use Rattle.headline.specs.Core.{Core, table_in, with_runtime_funcs, world_of}
use Rattle.headline.specs.CoreOf.{RunsBeside, WaitsBeside, core_of}
use Rattle.headline.specs.EmittedModule.{Emitted, Framing, slim_of}
use Rattle.headline.specs.FlatLaw.{FlatLaw}
use Rattle.headline.specs.Given.{Given}
use Rattle.headline.specs.Links.{GoodStore, L as Links, StandsLaw, W as WaitLinks}
use Rattle.headline.specs.LiveLaw.{L2, LiveLaw, W2}
use Rattle.headline.specs.World.{World, WorldFits}
use Rattle.headline.specs.WrittenRuns.{WrittenLaw}
use Rattle.headline.proofs.Behaving as One
use Rattle.headline.proofs.FromOpenings.{StartFits}
use Rattle.headline.proofs.GivenPlans.{fits_given}
use Rattle.headline.proofs.LiveSteps.{both}
use Rattle.headline.proofs.OpenedTogether.{opens_together}
use Rattle.headline.proofs.Reductions.{LeftFits}
use Rattle.headline.proofs.WorldParts.{world_fits}
use Rattle.headline.proofs.WrittenKnown.{InRange, known_begins, known_moves, written_law}
use Rattle.image_laws.proofs.Restored.{over_store, waits_over}
use Rattle.strand_laws.specs.Strands.{AreApart, StrandProgram, areas_of, StrandsBehaveOn, StrandsCompared, StrandsNumbered, plan_of, strand_at, with_source}
use Rattle.strand_laws.proofs.Compared.{strands_behave_compared}
use Rattle.strand_laws.proofs.KnownStores.{fits_wakes, good_over, range_wakes, store_known}
use Rattle.strand_laws.proofs.SameGood.{same_law}
use Rattle.strand_laws.proofs.Stores.{StoreKnown, leaves_known, opened_known}
use Rattle.strand_laws.proofs.EachWorld.{Family, FamilyLaws}

entry_typed : (p : Module) (y : Entry) → EntryFits p y → EntryTyped p y
entry_typed p y h = (h.defined, listed_typed (func_type_at p y.func).params y.args h.args.typed)

some_left : (es : List Entry) (e : Entry) (rest : List Entry) → es ≡ e ∷ rest → SomeLeft es
some_left es e rest q = subst SomeLeft (sym q) tt

-- what is known of a state of the written module, whatever the plan
abbrev pub KnownState : Module → Held → Type 0
KnownState p h = HeldFits p h × InRange (least_of (all_memories p) * page_size) h

-- it is the law of each plan
known_law : (w : World) (v : Valid w.written) (fits : L.Fits w.written w.plan) (area : AreaFits w.written w.plan.area) (ex : ExportsTyped w.written) (codes : CodesIn w.written)
    → WrittenLaw w (KnownState w.written)
known_law w v fits area ex codes =
    let h = written_law w v (λ lets. fits) (λ lets. area) ex codes in
    record {
      begins = λ os fs. let k = known_begins w.written v w.plan fits area ex codes os fs in (k.fits, k.ranges);
      keeps = λ b t c es kn e. let k = known_moves w.written v w.plan fits area ex codes b t c es (record { fits = kn.0; ranges = kn.1 }) e in (k.fits, k.ranges);
      waits = λ lets e i a st x args c l kn. h.waits lets e i a st x args c l (λ lets2. record { fits = kn.0; ranges = kn.1 });
      locals = λ lets task c l kn. h.locals lets task c l (λ lets2. record { fits = kn.0; ranges = kn.1 });
    }

module _ (m : Module) (s : Settings) (which : List Bool) (frames : (index : ℕ) → Framing) (p : Module) (valid : Valid m) (written_valid : Valid p) (codes_in : CodesIn m) (written_codes : CodesIn p)
    (tells : TellsMayPause m s which) (em : Emitted m s which frames p) (g : StrandProgram) (some : 0 < length g.strands)
    (fits_at : (i : ℕ) → i < length g.strands → L.Fits m (plan_of g (strand_at g i))) where
  abbrev count : ℕ
  count = length g.strands

  abbrev plan_at : ℕ → Plan
  plan_at i = plan_of g (strand_at g i)

  abbrev pub kk : ℕ → Core
  kk i = core_of m s which frames (plan_at i) p

  abbrev pub B : ℕ → (spare : ℕ) → Configuration → Configuration → Type 0
  B i = RunsBeside m s which frames (plan_at i) p

  abbrev pub A : ℕ → ℕ → Configuration → Configuration → Type 0
  A i = WaitsBeside m s which frames (plan_at i) p

  -- ---- stores are the same for each strand

  abbrev G : Store → Type 0
  G = GoodStore (kk 0)

  good_to : (i : ℕ) (t : Store) → GoodStore (kk i) t → G t
  good_to i t h = record { fits = h.fits; named = h.named; ranges = h.ranges }

  good_from : (i : ℕ) (t : Store) → G t → GoodStore (kk i) t
  good_from i t h = record { fits = h.fits; named = h.named; ranges = h.ranges }

  -- ---- the written module

  given_at : (i : ℕ) → i < count → Given m (plan_at i)
  given_at i li = fits_given m (plan_at i) (fits_at i li)

  fits_there : (plan : Plan) → L.Fits m plan → L.Fits p plan
  fits_there plan f =
      plans_fit_parts m p plan valid (record { types = em.types; imports = em.imports; memories = em.memories; exports = em.exports; sorts = em.sorts }) f

  area_there : (plan : Plan) → L.Fits m plan → AreaFits p plan.area
  area_there plan f = fits_areas m p plan em.imports em.memories f

  exports_there : ExportsTyped p
  exports_there = One.typed m s which frames p valid written_valid codes_in written_codes tells em (plan_at 0) (given_at 0 some)

  worlds_fit : (i : ℕ) → i < count → WorldFits (world_of (kk i))
  worlds_fit i li =
      let whole = One.whole m s which frames p valid written_valid codes_in written_codes tells em (plan_at i) (given_at i li) in
      world_fits (world_of (kk i)) whole.parts

  known_laws : (i : ℕ) → i < count → WrittenLaw (world_of (kk i)) (KnownState p)
  known_laws i li =
      known_law (world_of (kk i)) written_valid (fits_there (plan_at i) (fits_at i li)) (area_there (plan_at i) (fits_at i li)) exports_there written_codes

  opened_so : (st : Store) → opening p g.globals ≡ opens st → StoreKnown p st
  opened_so st e =
      let f = (fits_there (plan_at 0) (fits_at 0 some)).globals in
      opened_known p written_valid g.globals written_codes (listed_typed _ g.globals f.typed) f.ranges st e

  -- the original's memory has as many bytes as it declares
  size_so : (st : Store) → opening (Base m) g.globals ≡ opens st → least_of (all_memories (Base m)) * page_size ≤ length st.memory
  size_so st e =
      let gs = (given_at 0 some).globals in
      let h = subst (OpeningIn (least_of (all_memories (Base m)) * page_size)) e (openings_in (Base m) g.globals (base_codes m codes_in) gs.ranges) in
      h.memory.least

  free_so : (i : ℕ) → i < count → (st : Store) (l : Left) → LeftFits (world_of (kk i)) l → (e : Entry) (es : List Entry) → l.entries ≡ e ∷ es → StoreKnown p st → KnownState p (free st l)
  free_so i li st l lf e es q sk =
      let at = fits_at i li in
      let plan : Plan = record { globals = g.globals; entries = l.entries; area = (strand_at g i).area; others = areas_of g; listed = g.listed } in
      let there : L.Fits p plan = fits_there plan (record { globals = at.globals; entries = lf.entries; area = at.area }) in
      let typed : LeftTyped p l = All-weaker (EntryFits p) (EntryTyped p) (λ y h. entry_typed p y h) l.entries there.entries in
      let inn : LeftIn l = record { entries = (fits_in p plan there).entries; outcomes = lf.outcomes } in
      ((sk.0, some_left l.entries e es q, typed), (least_of (all_memories p) * page_size, omega arith, (sk.1, inn)))

  -- ---- whatever step a policy puts in between

  module _ (Live : Configuration → Configuration → Type 0) (over_too : (c d : Configuration) (t : Store) → Live c d → Live (over_store c t) (over_store d t))
      (lives : (i : ℕ) → i < length g.strands → LiveLaw (world_of (core_of m s which frames (plan_of g (strand_at g i)) p)) Live
      (WaitLinks (core_of m s which frames (plan_of g (strand_at g i)) p) (RunsBeside m s which frames (plan_of g (strand_at g i)) p) (WaitsBeside m s which frames (plan_of g (strand_at g i)) p)))
      (stands : (i : ℕ) → i < length g.strands → StandsLaw (core_of m s which frames (plan_of g (strand_at g i)) p) (RunsBeside m s which frames (plan_of g (strand_at g i)) p)
      (WaitsBeside m s which frames (plan_of g (strand_at g i)) p) Live) where
    abbrev LL : ℕ → (top spare : ℕ) → Configuration → Configuration → Type 0
    LL i = L2 Live (Links (kk i) (B i) (A i)) (WaitLinks (kk i) (B i) (A i))

    abbrev WW : ℕ → ℕ → ℕ → Configuration → Configuration → Type 0
    WW i = W2 Live (Links (kk i) (B i) (A i)) (WaitLinks (kk i) (B i) (A i))

    law_of : (i : ℕ) → i < count → FlatLaw (world_of (kk i)) (λ c d. c ≡ d) (LL i) (WW i) (GoodStore (kk i))
    law_of i li =
        both (world_of (kk i)) Live (Links (kk i) (B i) (A i)) (WaitLinks (kk i) (B i) (A i)) (GoodStore (kk i)) (lives i li)
        (One.owed m s which frames p valid written_valid codes_in written_codes tells em (plan_at i) (given_at i li) Live (stands i li))

    laws : (i : ℕ) → i < count → FlatLaw (world_of (kk i)) (λ c d. c ≡ d) (LL i) (WW i) G
    laws i li = same_law (world_of (kk i)) (λ c d. c ≡ d) (LL i) (WW i) (GoodStore (kk i)) G (good_to i) (good_from i) (law_of i li)

    restored_so : (i : ℕ) → i < count → (top imp : ℕ) (d f : Configuration) (t : Store) → WW i top imp d f → G t → t.table ≡ d.store.table → WW i top imp (over_store d t) (over_store f t)
    restored_so i li top imp d f t w gt same =
        let lv = lives i li in
        record {
          chosen = over_store w.chosen t;
          live = over_too d w.chosen t w.live;
          waits = waits_over m s which frames (plan_at i) p valid tells em (given_at i li) (base_codes m codes_in) imp w.chosen f t w.waits (good_from i t gt)
              (same ∙ ap (λ (z : Store). z.table) (sym (lv.store d w.chosen w.live)));
        }

    starts_fit : StartFits (world_of (kk 0)) G
    starts_fit =
        let f = given_at 0 some in
        let gs = f.globals in
        let whole = One.whole m s which frames p valid written_valid codes_in written_codes tells em (plan_at 0) f in
        let pt = whole.parts in
        record {
          start = whole.start ∙ sym (One.base_start m);
          opened = opens_together (world_of (kk 0)) G pt.valid whole.instance gs.typed f.inside
              (One.first m s which frames p valid written_valid codes_in written_codes tells em (plan_at 0) f);
          lawful = whole.lawful;
        }

    abbrev family : Family
    family = record {
      original = m;
      settings = s;
      which = which;
      flat = with_runtime_funcs m (slim_of m s which frames);
      written = p;
      funcs = func_space m;
      sorts = length m.types;
      role = λ i. (kk i).role;
      numbered = has_number m s which;
      table = table_in (opening (Base m) g.globals);
      lay = λ i. (kk i).lay;
      program = g;
      links = LL;
      waiting = WW;
      good = G;
      known = λ i h. KnownState p h;
      store_known = StoreKnown p;
    }

    family_laws : (apart : (i j : ℕ) → i < count → j < count → (i ≡ j → ⊥) → AreApart (strand_at g i).area (strand_at g j).area) → FamilyLaws family
    family_laws apart = record {
      fits = worlds_fit;
      flat = laws;
      runs = known_laws;
      restored = restored_so;
      known_store = λ i ph st f args th l kn. store_known p (least_of (all_memories p) * page_size) ph st f args th l kn.0 kn.1;
      known_ends = λ i li b to k es how kn e ends. leaves_known p written_valid (plan_at i) (area_there (plan_at i) (fits_at i li)) written_codes b to k es kn.0 kn.1 e;
      opened_known = opened_so;
      opened_size = size_so;
      known_wakes = λ i li b st kn sk le. (fits_wakes p b st kn.0 sk.0, range_wakes (least_of (all_memories p) * page_size) b st kn.1 sk.1 le);
      known_free = free_so;
      good_over = λ t s' gt sk same. good_over (kk 0) (least_of (all_memories p) * page_size) t s' gt sk.1;
      areas_apart = λ i j li lj ne. apart i j li lj (λ q. ne (sym q));
    }

    -- AN EMITTED MODULE'S STRANDS, whatever step a policy puts in between
    pub strands_with : (oss : List (List Outcome)) (n : ℕ) → StrandsCompared s (with_source g m) oss n → StrandsNumbered s which (with_source g m) oss n
        → StrandsBehaveOn s which (with_source g m) p oss n
    strands_with oss n cmp nums = strands_behave_compared family (family_laws cmp.apart) starts_fit oss n cmp nums
