-- What the headline asks of flattening, from the relation.
use Rattle.std.proofs.Common.{Bool, ◌≡◌, ℕ, ◌*◌, ◌^◌, ◌<◌, List, [], ◌∷◌, length, Option, Some, None, refl, sym, ap, ◌∙◌, subst, arith, ⊎_elim}
use Rattle.std.specs.Option.{option_to_list}
use Rattle.std.proofs.lemmas.List.{length-map}
use Rattle.wa_types.specs.Memory.{page_size}
use Rattle.wa_types.specs.Modules.{defined_at, func_type_at}
use Rattle.wa_types.specs.Syntax.{Func}
use Rattle.wa_types.specs.declared.values.ValType.{ValType}
use Rattle.wa_types.specs.declared.values.Value.{Value}
use Rattle.wa_types.specs.Typing.{type_of}
use Rattle.wa_model.specs.declared.answers.Said.TheVariants as S
use Rattle.wa_model.specs.Blocking.{bad_value, fault_of, poked, resumed}
use Rattle.wa_model.specs.Configuration.{Configuration}
use Rattle.run_theory.specs.Fitting.{CallersFit, Fits, NextFits, StoreFits, WaitingFits, types_of, results_of}
use Rattle.run_theory.specs.Growth.{ConfigNamed, NextNamed, StoreNamed, Spaces, spaces_of}
use Rattle.wa_model.specs.Outside.{Answer}
use Rattle.wa_model.specs.Plan.{AnswerFits, AreLawful, SaidFits}
use Rattle.wa_model.specs.Step.{Next, steps, asks, returns, traps, stuck, entered, param_count, step}
use Rattle.wa_model.specs.Store.{Store}
use Rattle.wa_model.specs.Untouched.{StaysOff, next_ranges}
use Rattle.wa_model.proofs.StayingOff.{nothing_off}
use Rattle.run_theory.proofs.FittingNames.{results_are}
use Rattle.run_theory.proofs.FittingRuns.{answers_fit, calls_fit}
use Rattle.run_theory.proofs.FittingSteps.{steps_fit}
use Rattle.run_theory.proofs.GrownSteps.{entered_named, defined_below}
use Rattle.run_laws.specs.Ranges.{ConfigurationIn, NextIn}
use Rattle.run_laws.proofs.Host.{fault_pokes, optional_in, poked_store_in, store_lower, store_whole}
use Rattle.run_laws.proofs.Steps.{step_in}
use Rattle.run_laws.proofs.Stretches.{answers_in_range, calls_in_range}
use Rattle.run_laws.proofs.SpotRuns.{said_typed, listed_typed, or_else_first}
use Rattle.run_laws.proofs.SpotSteps.{ConfigurationAtSpots, NextAtSpots, entered_spot, goes_on_behind, steps_spot}
use Rattle.run_laws.proofs.StandingStates.{ConfigurationAt, NextAt, WaitingAt}
use Rattle.run_laws.proofs.StandingSteps.{body_stands, step_stands, waited_stands}
use Rattle.guard_runs.specs.Alike.{Paired, sides_of}
use Rattle.guard_runs.specs.Beside.{Twin, both_import, both_defined}
use Rattle.headline.specs.FlatLaw.{FlatEnters, FlatLaw, FlatNext, FlatOn}
use Rattle.headline.specs.World.{setting}
use Rattle.headline.specs.Beside.{BesideLaw, ComesBeside, NextBeside, SameReach}
use Rattle.headline.specs.Core.{Core, CoreFits, based, world_of}
use Rattle.headline.specs.Links.{GoodStore, L, Linked, LinkedWaits, StandsLaw, W}
use Rattle.headline.proofs.Spaces.{based_valid, funcs_are, func_type_same, grown_defined, grown_func_type, imports_few, names_there, results_same, steps_same, globals_same, sorts_same}
use Rattle.headline.proofs.ProperFlat.{FlatOk, ok_on, proper_here, quiet_keeps, quiet_ok, still_of}

module _ (k : Core) (fit : CoreFits k) (Live : Configuration → Configuration → Type 0) (B : (spare : ℕ) → Configuration → Configuration → Type 0) (A : ℕ → Configuration → Configuration
    → Type 0) (law : BesideLaw (based k) k.flat B A) where
  abbrev LL : (top spare : ℕ) → Configuration → Configuration → Type 0
  LL = L k B A

  abbrev WW : (top i : ℕ) → Configuration → Configuration → Type 0
  WW = W k B A

  -- a store that fits the original fits the flat module
  flat_store : (s : Store) → StoreFits (based k) s → StoreFits k.flat s
  flat_store s h = record {
    globals = h.globals ∙ ap (λ gs. Rattle.run_theory.specs.Fitting.global_types gs) (sym (globals_same k fit));
    table = subst (λ ss. Rattle.run_theory.specs.Growth.Each (Rattle.run_theory.specs.Growth.EntryNamed (length ss)) s.table) (sym (sorts_same k fit)) h.table;
  }

  ok_of : (spare : ℕ) (c f : Configuration) → (l : Linked k B A spare c f) → FlatOk k fit 0 l.flat_outs f
  ok_of spare c f l = record { fits = l.flat_fits; named = l.named }

  -- ---- one reduction

  module _ (top spare : ℕ) (c f : Configuration) (l : Linked k B A spare c f) (off : StaysOff k.plan.area (length c.store.memory) (next_ranges c)) where
    abbrev ok : FlatOk k fit top l.flat_outs f
    ok = record { fits = l.flat_fits; named = l.named }

    -- where the flat side acts it is proper
    acts_properly : (mid : Configuration) → FlatOk k fit top l.flat_outs mid → mid.store ≡ f.store → SameReach c mid → StaysOff k.plan.area (length mid.store.memory) (next_ranges mid)
    acts_properly mid mid_ok keep reach =
        let st : c.store ≡ mid.store = sym (keep ∙ law.store spare c f l.beside) in
        ⊎_elim
        (λ none. subst (StaysOff k.plan.area (length mid.store.memory)) (sym none) (nothing_off k.plan.area (length mid.store.memory)))
        (λ same. subst (StaysOff k.plan.area (length mid.store.memory)) (sym same) (subst (λ (s : Store). StaysOff k.plan.area (length s.memory) (next_ranges c)) st off))
        reach

    by_next : (o : Next) → NextBeside (based k) k.flat B A spare c f o → NextFits (based k) l.outs o → NextIn 0 o → NextAtSpots (based k) o → NextAt (based k) c.store.table l.root o
        → FlatNext (world_of k) Live LL WW (GoodStore k) top spare o f
    by_next (steps j0 d) sb nf ni ns na =
        let ok1 = quiet_ok k fit top l.flat_outs f sb.mid sb.n1 ok sb.before in
        let keep = quiet_keeps k fit top f sb.mid sb.n1 sb.before in
        let ok2 = ok_on k fit top l.flat_outs sb.mid sb.after sb.j ok1 sb.acts in
        let ok3 = quiet_ok k fit top l.flat_outs sb.after sb.to sb.n2 ok2 sb.behind in
        record {
          n1 = sb.n1;
          mid = sb.mid;
          before = still_of k fit top l.flat_outs f sb.mid sb.n1 ok sb.before;
          proper = proper_here k fit top l.flat_outs sb.mid ok1.fits ok1.named (acts_properly sb.mid ok1 keep sb.reach);
          j = sb.j;
          after = sb.after;
          acts = (steps_same k fit sb.mid ok1.named).0 ∙ sb.acts;
          store = sb.store;
          n2 = sb.n2;
          to = sb.to;
          behind = still_of k fit top l.flat_outs sb.after sb.to sb.n2 ok2 sb.behind;
          least = sb.least;
          left = sb.left;
          most = let a1 = sb.most in omega arith;
          link = record {
            beside = sb.both;
            outs = l.outs;
            fits = nf;
            flat_outs = l.flat_outs;
            flat_fits = ok3.fits;
            named = ok3.named;
            ranges = ni;
            spots = ns;
            root = l.root;
            stands =
                subst (λ t. ConfigurationAt (based k) t l.root d) (sym na.same) na;
          };
        }
    by_next (asks j0 i args d) eb nf ni ns na =
        let ok1 = quiet_ok k fit top l.flat_outs f eb.at eb.n ok eb.before in
        let keep = quiet_keeps k fit top f eb.at eb.n eb.before in
        let t = eb.there in
        let ff = subst (NextFits k.flat l.flat_outs) t.1 (steps_fit k.flat l.flat_outs eb.at fit.flat_valid ok1.fits) in
        let nn = subst (NextNamed (spaces_of k.flat)) t.1 (steps_same k fit eb.at ok1.named).1 in
        record {
          n = eb.n;
          at = eb.at;
          before = still_of k fit top l.flat_outs f eb.at eb.n ok eb.before;
          j = eb.j;
          least = eb.least;
          most = eb.most;
          proper = proper_here k fit top l.flat_outs eb.at ok1.fits ok1.named (acts_properly eb.at ok1 keep eb.reach);
          to = t.0;
          asks_there = (steps_same k fit eb.at ok1.named).0 ∙ t.1;
          waits = record {
            beside = t.2;
            known = nf.0;
            outs = l.outs;
            fits = nf.2;
            flat_outs = l.flat_outs;
            flat_fits = ff.2;
            named = nn.1;
            ranges = ni.1;
            spots = ns;
            root =
                l.root;
            stands = subst (λ t. WaitingAt (based k) t l.root i d) (sym na.same) na;
          };
        }
    by_next (returns j0 vs s) eb nf ni ns na =
        let ok1 = quiet_ok k fit top l.flat_outs f eb.at eb.n ok eb.before in
        let keep = quiet_keeps k fit top f eb.at eb.n eb.before in
        let nn = subst (NextNamed (spaces_of k.flat)) eb.there (steps_same k fit eb.at ok1.named).1 in
        record {
          n = eb.n;
          at = eb.at;
          before = still_of k fit top l.flat_outs f eb.at eb.n ok eb.before;
          j = eb.j;
          least = eb.least;
          most = eb.most;
          proper = proper_here k fit top l.flat_outs eb.at ok1.fits ok1.named (acts_properly eb.at ok1 keep eb.reach);
          returns_there = (steps_same k fit eb.at ok1.named).0 ∙ eb.there;
          good = record { fits = nf.0; named = nn; ranges = ni.1 };
        }
    by_next (traps j0 t s) eb nf ni ns na =
        let ok1 = quiet_ok k fit top l.flat_outs f eb.at eb.n ok eb.before in
        let keep = quiet_keeps k fit top f eb.at eb.n eb.before in
        record {
          n = eb.n;
          at = eb.at;
          before = still_of k fit top l.flat_outs f eb.at eb.n ok eb.before;
          j = eb.j;
          least = eb.least;
          most = eb.most;
          proper = proper_here k fit top l.flat_outs eb.at ok1.fits ok1.named (acts_properly eb.at ok1 keep eb.reach);
          traps_there = (steps_same k fit eb.at ok1.named).0 ∙ eb.there;
        }
    by_next stuck nb nf ni ns na = nf

    reduces : FlatNext (world_of k) Live LL WW (GoodStore k) top spare (step (based k) c) f
    reduces = by_next (step (based k) c) (law.reduces spare c f l.beside) (steps_fit (based k) l.outs c (based_valid k fit) l.fits) (step_in 0 (based k) fit.codes c l.ranges)
        (steps_spot (based k) c (based_valid k fit) l.spots) (step_stands (based k) c.store.table l.root c l.stands)

  -- ---- an answer, and a call of the host

  -- quiet reductions to where both are linked
  comes : (top most : ℕ) (c f : Configuration) (outs flat_outs : List ValType) → Fits (based k) outs c → ConfigurationIn 0 c → ConfigurationAtSpots (based k) c → (root : ℕ)
      → ConfigurationAt (based k) c.store.table root c
      → FlatOk k fit top flat_outs f → ComesBeside (based k) k.flat B A c f most
      → FlatOn (world_of k) Live LL WW (GoodStore k) top most c f
  comes top most c f outs flat_outs fits ranges spots root stands ok cb =
      let ok2 = quiet_ok k fit top flat_outs f cb.to cb.n ok cb.goes in
      record {
        n = cb.n;
        left = cb.left;
        few = cb.few;
        to = cb.to;
        goes = still_of k fit top flat_outs f cb.to cb.n ok cb.goes;
        link = record { beside = cb.both; outs = outs; fits = fits; flat_outs = flat_outs; flat_fits = ok2.fits; named = ok2.named; ranges = ranges; spots = spots; root = root; stands = stands };
      }

  good_poked : (i : ℕ) (s : Store) (start : Bool) (a : Answer) → GoodStore k s → AnswerFits a → fault_of (func_type_at (based k) i).results (length s.memory) k.plan start i a ≡ None
      → GoodStore k (poked s a.pokes)
  good_poked i s start a g fits none =
      let gf = g.fits in let gn = g.named in
      record {
        fits = record { globals = gf.globals; table = gf.table };
        named = record { globals = gn.globals; table = gn.table };
        ranges = store_lower 0 (length s.memory) (poked s a.pokes) (omega arith) (poked_store_in (length s.memory) s a fits
            (fault_pokes (func_type_at (based k) i).results (length s.memory) k.plan start i a none) (store_whole 0 s g.ranges));
      }

  answered : (top i : ℕ) (d f : Configuration) (start : Bool) (a : Answer) (v : Option Value) → LinkedWaits k B A i d f → AnswerFits a → a.said ≡ S.Value v
      → fault_of (func_type_at (based k) i).results (length d.store.memory) k.plan start i a ≡ None
      → FlatOn (world_of k) Live LL WW (GoodStore k) top 4 (resumed d (poked d.store a.pokes) (option_to_list v)) (resumed f (poked d.store a.pokes) (option_to_list v))
  answered top i d f start a v l fits told none =
      let vs = option_to_list v in
      let s2 = poked d.store a.pokes in
      let st : d.store ≡ f.store = sym (law.waits_store i d f l.beside) in
      let g : GoodStore k d.store = record { fits = l.fits.store; named = subst (λ s. StoreNamed (spaces_of k.flat) s) (sym st) l.named.store; ranges = l.ranges.store } in
      let g2 = good_poked i d.store start a g fits none in
      let results = (func_type_at (based k) i).results in
      let passed : bad_value results i (S.Value v) ≡ None = subst (λ z. bad_value results i z ≡ None) told (or_else_first (bad_value results i a.said) _ none) in
      let typed : types_of vs ≡ results_of (based k) i = said_typed (based k) i results (S.Value v) (results_are (based k) (based_valid k fit) i) passed in
      let flat_typed : types_of vs ≡ results_of k.flat i = typed ∙ sym (results_same k fit i) in
      let vin = optional_in v (subst SaidFits told fits.said) in
      let named = l.named in
      let sn = g2.named in
      comes top 4 (resumed d s2 vs) (resumed f s2 vs) l.outs l.flat_outs
      (answers_fit (based k) l.outs d s2 vs g2.fits (subst (λ ts. CallersFit (based k) l.outs ts (d.here ∷ d.under)) (sym typed) l.fits.waits))
      (answers_in_range 0 0 d s2 vs l.ranges g2.ranges vin)
      (record { store = g2.fits; here = goes_on_behind (based k) i d.here vs l.spots.waits.0 typed; under = l.spots.waits.1 })
      l.root
      (let w = l.stands.stack in let few = l.stands.few in record { same = refl; here = waited_stands (based k) w.0 d.here.func d.here.code d.here.labels w.2; under = w.3; few = omega arith })
      (record {
        fits = answers_fit k.flat l.flat_outs f s2 vs (flat_store s2 g2.fits) (subst (λ ts. CallersFit k.flat l.flat_outs ts (f.here ∷ f.under)) (sym flat_typed) l.flat_fits.waits);
        named = record { store = sn; here = record { func = named.here.func; code = named.here.code; labels = named.here.labels }; under = named.under };
      })
      (law.answers s2 i d f vs l.beside g2.fits typed)

  module _ (paired : (top : ℕ) → Paired (setting (world_of k) top)) where
    enters : (x : ℕ) (args : List Value) (h : Func) (s : Store) → AreLawful (func_type_at (based k) x).params args → GoodStore k s → defined_at (based k) x ≡ Some h
        → FlatEnters (world_of k) Live LL WW (GoodStore k) x args h s
    enters x args h s lawful g there =
        by_twin ((paired x).twin x known)
      where
        typed : types_of args ≡ (func_type_at (based k) x).params
        typed = listed_typed (func_type_at (based k) x).params args lawful.typed

        eb : Rattle.headline.specs.Beside.EntersBeside (based k) k.flat B A x args h s
        eb = law.enters x args h s g.fits there typed

        within : x < (spaces_of k.flat).funcs
        within = defined_below k.flat [] [] [] [] (names_there k fit) x eb.func eb.defined

        known : x < Rattle.wa_types.specs.Runtime.func_space k.original
        known = subst (λ i. x < i) (funcs_are k fit) within

        flat_typed : types_of args ≡ (func_type_at k.flat x).params
        flat_typed = typed ∙ ap (λ t. t.params) (sym (func_type_same k fit x))

        count : length args ≡ param_count (func_type_at (world_of k).flat x)
        count = sym (length-map args type_of) ∙ ap length flat_typed ∙ ap (λ t. param_count t) (sym (grown_func_type k fit x within))

        defined : defined_at (world_of k).flat x ≡ Some eb.func
        defined = grown_defined k fit x within ∙ eb.defined

        by_twin : Twin (sides_of (setting (world_of k) x)) x → FlatEnters (world_of k) Live LL WW (GoodStore k) x args h s
        by_twin (both_import none1 none2) = let z : None ≡ Some eb.func = sym none1 ∙ defined in cc
        by_twin (both_defined g1 g2 is1 is2 b1 b2 ls size) = record {
          func = eb.func;
          defined = defined;
          func' = g2;
          defined' = is2;
          known = known;
          count = count;
          on = comes x 16 (entered s [] args x h) (entered s [] args x eb.func) (results_of (based k) x) (results_of k.flat x)
              (calls_fit (based k) s args x h (based_valid k fit) g.fits there typed)
              (calls_in_range (based k) 0 s args x h fit.codes g.ranges lawful.ranges there)
              (entered_spot (based k) (based_valid k fit) s g.fits [] args x h there typed tt)
              x
              (record { same = refl; here = body_stands (based k) x h there; under = refl; few = omega arith })
              (record {
                fits = calls_fit k.flat s args x eb.func fit.flat_valid (flat_store s g.fits) eb.defined flat_typed;
                named = entered_named k.flat [] [] [] [] (names_there k fit) s [] args x eb.func g.named tt eb.defined;
              })
              eb.comes;
        }

    memory_small : (s : Store) → GoodStore k s → length s.memory < 2 ^ 32
    memory_small s g = let m = g.ranges.memory.pages.bounded in let z : 1024 * page_size < 2 ^ 32 = omega arith in omega arith

    -- ALL THAT FLATTENING OWES
    pub flat_law : StandsLaw k B A Live → FlatLaw (world_of k) Live LL WW (GoodStore k)
    flat_law st = record {
      store = λ top spare c f l. law.store spare c f l.beside;
      good = λ top spare c f l. record { fits = l.fits.store; named = subst (λ s. StoreNamed (spaces_of k.flat) s) (law.store spare c f l.beside) l.named.store; ranges = l.ranges.store };
      waits_store = λ top i d f l. law.waits_store i d f l.beside;
      waits_good = λ top i d f l. record { fits = l.fits.store; named = subst (λ s. StoreNamed (spaces_of k.flat) s) (law.waits_store i d f l.beside) l.named.store; ranges = l.ranges.store };
      waits_known = λ top i d f l. (l.known, let z = l.known in let few = imports_few k fit in omega arith);
      small = memory_small;
      reduces = λ top spare c f l off. reduces top spare c f l off;
      answered = answered;
      enters = enters;
      poked_good = good_poked;
      numbers = st.numbers;
      stands = st.stands;
      again = st.again;
    }
