-- One reduction of the original, answers and calls of the host, beside the slim module.
use Rattle.std.proofs.Common.{◌≡◌, ℕ, suc, ◌+◌, ◌*◌, ◌≤◌, inl, inr, List, [], ◌∷◌, length, Some, None, refl, sym, ap, ◌∙◌, subst, arith}
use Rattle.std.specs.Prelude.{slice_get}
use Rattle.std.proofs.lemmas.List.{length-map}
use Rattle.wa_types.specs.declared.values.Trap.{Trap}
use Rattle.wa_types.specs.declared.values.Value.{Value}
use Rattle.wa_types.specs.Modules.{defined_at, func_type_at}
use Rattle.wa_types.specs.Pausing.{is_told}
use Rattle.wa_types.specs.Syntax.{Func, Module}
use Rattle.wa_types.specs.Typing.{type_of}
use Rattle.wa_model.specs.Blocking.{resumed}
use Rattle.wa_model.specs.Configuration.{Configuration}
use Rattle.run_theory.specs.Fitting.{CallersFit, NextFits, StoreFits, global_types, results_of, types_of}
use Rattle.run_theory.specs.Growth.{Each, EntryNamed}
use Rattle.wa_model.specs.Step.{Next, asks, entered, param_count, returns, step, steps, stuck, traps}
use Rattle.wa_model.specs.Store.{Store}
use Rattle.wa_model.specs.Untouched.{next_ranges}
use Rattle.run_theory.proofs.FittingRuns.{answers_fit, calls_fit}
use Rattle.run_theory.proofs.FittingSteps.{steps_fit}
use Rattle.flat_laws.proofs.FlatModules.{is_there}
use Rattle.flat_runs.specs.Beside.{Asked, Beside, Loud, first_of}
use Rattle.flat_runs.specs.Reducing.{Acts, Counted, FlatNext, FlatSteps, nothing, whole}
use Rattle.flat_runs.proofs.Reductions as R
use Rattle.flat_runs.proofs.Shapes.{each_reduction, quiet_reach, same_reach}
use Rattle.headline.specs.Beside as L
use Rattle.headline.specs.Beside.{BesideLaw, ComesBeside, EndsBeside, EntersBeside, NextBeside, SameReach, StepsBeside}
use Rattle.headline.specs.Core.{Core, CoreFits, based}
use Rattle.headline.proofs.Spaces.{func_type_same, globals_same, results_same, sorts_same}
use Rattle.slim_laws.specs.Slim.{Terms}
use Rattle.slim_laws.specs.Beside as S
use Rattle.slim_laws.specs.Beside.{ComesToo, it_steps, it_asks, it_returns, it_traps, it_is_stuck, SameNext, Saving, Sides, Twin, both_import, both_defined, lean}
use Rattle.slim_laws.proofs.Running as SR
use Rattle.headline.specs.SlimBeside.{SlimAsked, SlimBeside, SlimFits, SlimModuleIsBeside, slim_sides}
use Rattle.headline.proofs.QuietSteps.{acts_too, last_of, quiet_on, quiet_only, saving_quiet, split, WaySplit}
use Rattle.headline.proofs.SlimStretches.{fits_on, loud_lean, One, one_too, proper_so, QuietToo, still_too}

reaches : (c mid : Configuration) → Acts c mid → SameReach c mid
reaches c mid (inl quiet) = inl (quiet_reach mid.here.operands mid.here.code quiet.1)
reaches c mid (inr same) = inr (same_reach c mid same)

-- the same next reaches the same bytes
same_too : (c mid at : Configuration) → SameReach c mid → next_ranges at ≡ next_ranges mid → SameReach c at
same_too c mid at (inl none) e = inl (e ∙ none)
same_too c mid at (inr same) e = inr (e ∙ same)

module _ (k : Core) (fit : CoreFits k) (slim : Module) (terms : ℕ → Terms) (sf : SlimFits k slim terms) where
  abbrev m : Module
  m = based k

  abbrev w : Sides
  w = slim_sides k slim terms

  abbrev B : (spare : ℕ) → Configuration → Configuration → Type 0
  B = SlimBeside k slim terms

  abbrev A : ℕ → Configuration → Configuration → Type 0
  A = SlimAsked k slim terms

  slim_store : (spare : ℕ) (c f : Configuration) → S.Beside w spare c f → f.store ≡ c.store
  slim_store spare _ _ (S.beside s fn free e size ag wo sl ar us) = refl
  slim_store spare _ _ (S.copying s fn f g x y e size ag wo co la sl ar us) = refl

  flat_store : (c f : Configuration) → Beside m k.which c f → f.store ≡ c.store
  flat_store _ _ (Rattle.flat_runs.specs.Beside.beside so told is us ls sp) = refl
  flat_store _ _ (Rattle.flat_runs.specs.Beside.beside_same so told is us act) = refl

  -- what counts is lean
  counted : (c : Configuration) (cost least : ℕ) → Counted (first_of m) c cost least → least ≤ lean w c cost
  counted c cost _ (whole loud) = let e = loud_lean k fit slim terms sf c cost loud in omega arith
  counted c cost _ nothing = omega arith

  -- ---- one reduction

  module _ (spare : ℕ) (c f : Configuration) (b : B spare c f) where
    steps_too : (j0 : ℕ) (d : Configuration) → FlatSteps m k.flat k.which c b.between j0 d → StepsBeside m slim B A spare c f j0 d
    steps_too j0 d h = by (split w h.mid u1.to o.to o.took o.way)
      where
        u1 : QuietToo k fit slim terms sf f spare h.n1 h.l1 b.outs h.mid
        u1 = still_too k fit slim terms sf spare b.outs b.between f h.mid h.n1 h.l1 b.fits b.slim_beside h.before

        o : One k fit slim terms sf h.mid u1.to u1.left h.j h.after
        o = one_too k fit slim terms sf u1.left b.outs h.mid u1.to h.after h.j u1.fits u1.near h.acts

        u3 : QuietToo k fit slim terms sf o.to o.left h.n2 h.l2 b.outs h.to
        u3 = still_too k fit slim terms sf o.left b.outs h.after o.to h.to h.n2 h.l2 (fits_on k fit slim terms sf b.outs h.mid h.after h.j u1.fits h.acts) o.near h.behind

        both : B u3.left d u3.to
        both = record { between = h.to; beside = h.both; outs = b.outs; fits = u3.fits; slim_beside = u3.near }

        stored : (o.to).store ≡ d.store
        stored = slim_store o.left h.after o.to o.near ∙ h.store

        paid : suc j0 ≤ u1.took + o.took
        paid = let a1 = h.least_lean in let a2 = u1.enough in let a3 = o.enough in let a4 = counted h.mid (suc h.j) h.lean h.counted in omega arith

        spent : u1.took + o.took + u3.took + u3.left ≤ 16 * suc j0 + spare
        spent = let a1 = h.most in let a2 = u1.no_more in let a3 = o.no_more in let a4 = u3.no_more in omega arith

        by : WaySplit w h.mid u1.to o.took o.to → StepsBeside m slim B A spare c f j0 d
        by (acts_too n at kk g sn e ee) =
            let p = paid in let s = spent in
            record {
              n1 = u1.took + n;
              mid = at;
              before = quiet_on slim f u1.to at u1.took n u1.goes g;
              reach = same_too c h.mid at (reaches c h.mid h.act) sn.reach;
              j = kk;
              after = o.to;
              acts = e;
              store = stored;
              n2 = u3.took;
              to = u3.to;
              behind = u3.goes;
              least = omega arith;
              left = u3.left;
              most = omega arith;
              both = both;
            }
        by (quiet_only g) =
            let p = paid in let s = spent in
            let l = last_of slim f o.to (u1.took + o.took) (omega arith) (quiet_on slim f u1.to o.to u1.took o.took u1.goes g) in
            let a = l.all in
            record {
              n1 = l.first;
              mid = l.at;
              before = l.before;
              reach = inl l.none;
              j = l.cost;
              after = o.to;
              acts = l.acts;
              store = stored;
              n2 = u3.took;
              to = u3.to;
              behind = u3.goes;
              least = omega arith;
              left = u3.left;
              most = omega arith;
              both = both;
            }

    -- ---- where it asks, returns or traps

    -- the slim side comes to where the same comes next
    record EndToo (j0 bound : ℕ) (at : Configuration) (j : ℕ) (act : Acts c at) (ends : Configuration → Type 0) : Type 0 where
      n : ℕ
      to : Configuration
      before : L.QuietGoes slim f n to
      reach : SameReach c to
      least : suc j0 ≤ n + suc j
      most : n + suc j ≤ bound + spare
      there : ends to

    end_too : (j0 bound n l j cost : ℕ) (at to : Configuration) (act : Acts c at) (ends : Configuration → Type 0) → (u : QuietToo k fit slim terms sf f spare n l b.outs at)
        → Saving w u.to cost to → cost ≤ u.left → SameNext at to
        → suc j0 ≤ l + suc j → n + suc j ≤ bound → ends to → EndToo j0 bound at j act ends
    end_too j0 bound n l j cost at to act ends u sv le sn least most there =
        let a1 = u.enough in let a2 = u.no_more in
        record {
          n = u.took + cost;
          to = to;
          before = quiet_on slim f u.to to u.took cost u.goes (saving_quiet w u.to to cost sv);
          reach = same_too c at to (reaches c at act) sn.reach;
          least = omega arith;
          most = omega arith;
          there = there;
        }

    asks_too : (j0 i : ℕ) (args : List Value) (d : Configuration) → FlatNext m k.flat k.which c b.between (asks j0 i args d) → NextBeside m slim B A spare c f (asks j0 i args d)
    asks_too j0 i args d h = by (step k.flat h.at) (h.ends).1 (SR.each_step w u.left h.at u.to sf.together u.near (proper_so k fit slim terms sf b.outs h.at u.fits))
      where
        u : QuietToo k fit slim terms sf f spare h.n h.l b.outs h.at
        u = still_too k fit slim terms sf spare b.outs b.between f h.at h.n h.l b.fits b.slim_beside h.before

        by : (o : Next) → o ≡ asks h.j i args (h.ends).0 → ComesToo w h.at u.to u.left (lean w h.at) o → NextBeside m slim B A spare c f (asks j0 i args d)
        by _ e (it_asks {k = k2} {x = i2} {args = args2} {d = d2} cost at to sv le sn st a) =
            let x1 : k2 ≡ h.j = cc in let x2 : i2 ≡ i = cc in let x3 : args2 ≡ args = cc in let x4 : d2 ≡ (h.ends).0 = cc in
            let st2 : step slim at ≡ asks h.j i args to = st ∙ ap (λ z. asks z i2 args2 to) x1 ∙ ap (λ z. asks h.j z args2 to) x2 ∙ ap (λ z. asks h.j i z to) x3 in
            let fs = subst (NextFits k.flat b.outs) (h.ends).1 (steps_fit k.flat b.outs h.at fit.flat_valid u.fits) in
            let t = end_too j0 (2 * suc j0) h.n h.l h.j cost h.at at h.act (λ z. z ≡ at) u sv le sn h.least h.most refl in
            record {
              n = t.n;
              at = t.to;
              before = t.before;
              reach = t.reach;
              j = h.j;
              there = (to, ap (step slim) t.there ∙ st2, record { between = (h.ends).0; asked = (h.ends).2; outs = b.outs; fits = fs.2; slim_asked = subst (λ z. S.Asked w z to) x4 a });
              least = t.least;
              most = t.most;
            }
        by _ e (it_steps cost left to go le mo b) = cc
        by _ e (it_returns cost at sv le sn st) = cc
        by _ e (it_traps cost at sv le sn st) = cc
        by _ e it_is_stuck = cc

    returns_too : (j0 : ℕ) (vs : List Value) (s : Store) → FlatNext m k.flat k.which c b.between (returns j0 vs s) → NextBeside m slim B A spare c f (returns j0 vs s)
    returns_too j0 vs s h = by (step k.flat h.at) h.ends (SR.each_step w u.left h.at u.to sf.together u.near (proper_so k fit slim terms sf b.outs h.at u.fits))
      where
        u : QuietToo k fit slim terms sf f spare h.n h.l b.outs h.at
        u = still_too k fit slim terms sf spare b.outs b.between f h.at h.n h.l b.fits b.slim_beside h.before

        by : (o : Next) → o ≡ returns h.j vs s → ComesToo w h.at u.to u.left (lean w h.at) o → NextBeside m slim B A spare c f (returns j0 vs s)
        by _ e (it_returns {k = k2} {vs = vs2} {s = s2} cost at sv le sn st) =
            let st2 : step slim at ≡ returns h.j vs s = st ∙ e in
            let most = h.most in
            let t = end_too j0 (16 * suc j0) h.n h.l h.j cost h.at at h.act (λ z. z ≡ at) u sv le sn h.least (omega arith) refl in
            record { n = t.n; at = t.to; before = t.before; reach = t.reach; j = h.j; there = ap (step slim) t.there ∙ st2; least = t.least; most = t.most }
        by _ e (it_asks cost at to sv le sn st a) = cc
        by _ e (it_steps cost left to go le mo b) = cc
        by _ e (it_traps cost at sv le sn st) = cc
        by _ e it_is_stuck = cc

    traps_too : (j0 : ℕ) (r : Trap) (s : Store) → FlatNext m k.flat k.which c b.between (traps j0 r s) → NextBeside m slim B A spare c f (traps j0 r s)
    traps_too j0 r s h = by (step k.flat h.at) h.ends (SR.each_step w u.left h.at u.to sf.together u.near (proper_so k fit slim terms sf b.outs h.at u.fits))
      where
        u : QuietToo k fit slim terms sf f spare h.n h.l b.outs h.at
        u = still_too k fit slim terms sf spare b.outs b.between f h.at h.n h.l b.fits b.slim_beside h.before

        by : (o : Next) → o ≡ traps h.j r s → ComesToo w h.at u.to u.left (lean w h.at) o → NextBeside m slim B A spare c f (traps j0 r s)
        by _ e (it_traps {k = k2} {u = r2} {s = s2} cost at sv le sn st) =
            let st2 : step slim at ≡ traps h.j r s = st ∙ e in
            let most = h.most in
            let t = end_too j0 (16 * suc j0) h.n h.l h.j cost h.at at h.act (λ z. z ≡ at) u sv le sn h.least (omega arith) refl in
            record { n = t.n; at = t.to; before = t.before; reach = t.reach; j = h.j; there = ap (step slim) t.there ∙ st2; least = t.least; most = t.most }
        by _ e (it_asks cost at to sv le sn st a) = cc
        by _ e (it_steps cost left to go le mo b) = cc
        by _ e (it_returns cost at sv le sn st) = cc
        by _ e it_is_stuck = cc

    next_too : (o : Next) → FlatNext m k.flat k.which c b.between o → NextBeside m slim B A spare c f o
    next_too (steps j0 d) h = steps_too j0 d h
    next_too (asks j0 i args d) h = asks_too j0 i args d h
    next_too (returns j0 vs s) h = returns_too j0 vs s h
    next_too (traps j0 r s) h = traps_too j0 r s h
    next_too stuck h = tt

  -- ---- an answer, and a call of the host

  store_fits : (s : Store) → StoreFits m s → StoreFits k.flat s
  store_fits s h = record {
    globals = h.globals ∙ ap (λ gs. global_types gs) (sym (globals_same k fit));
    table = subst (λ ss. Each (EntryNamed (length ss)) s.table) (sym (sorts_same k fit)) h.table;
  }

  answers_too : (s : Store) (i : ℕ) (d f : Configuration) (vs : List Value) → A i d f → StoreFits m s → types_of vs ≡ results_of m i → ComesBeside m slim B A (resumed d s vs) (resumed f s vs) 4
  answers_too s i d f vs a fits typed =
      let e = a.between in
      let r = R.answers_go_on m k.flat k.which sf.flattened s i d e vs fits a.asked typed in
      let near = SR.answers_go_on w s e.here f.here e.under f.under vs (a.slim_asked).stack in
      let typed2 : types_of vs ≡ results_of k.flat i = typed ∙ sym (results_same k fit i) in
      let ok = answers_fit k.flat a.outs e s vs (store_fits s fits) (subst (λ ts. CallersFit k.flat a.outs ts (e.here ∷ e.under)) (sym typed2) (a.fits).waits) in
      let u = still_too k fit slim terms sf 0 a.outs (resumed e s vs) (resumed f s vs) r.to r.cost r.lean ok near r.goes in
      let a1 = r.few in let a2 = u.no_more in
      record { n = u.took; left = u.left; few = omega arith; to = u.to; goes = u.goes; both = record { between = r.to; beside = r.both; outs = a.outs; fits = u.fits; slim_beside = u.near } }

  enters_too : (x : ℕ) (args : List Value) (h : Func) (s : Store) → StoreFits m s → defined_at m x ≡ Some h → types_of args ≡ (func_type_at m x).params → EntersBeside m slim B A x args h s
  enters_too x args h s fits there typed = by ((sf.together).twin x)
    where
      placed : (g : Func) × (defined_at k.flat x ≡ Some g)
      placed = is_there m x h (is_told (slice_get k.which x)) (defined_at k.flat x) ((sf.flattened).placed x h there)

      typed2 : types_of args ≡ (func_type_at k.flat x).params
      typed2 = typed ∙ ap (λ t. t.params) (sym (func_type_same k fit x))

      count : length args ≡ param_count (func_type_at k.flat x)
      count = sym (length-map args type_of) ∙ ap length typed2

      by : Twin w x → EntersBeside m slim B A x args h s
      by (both_import e1 e2) = let z : None ≡ Some placed.0 = sym e1 ∙ placed.1 in cc
      by (both_defined g g' e1 e2 zeros size out free sl) =
          let r = R.calls_begin m k.flat k.which sf.flattened s args x h placed.0 fits there placed.1 typed in
          let near = SR.calls_begin w s args x placed.0 g' sf.together placed.1 e2 count in
          let ok = calls_fit k.flat s args x placed.0 fit.flat_valid (store_fits s fits) placed.1 typed2 in
          let u = still_too k fit slim terms sf 0 (results_of k.flat x) (entered s [] args x placed.0) (entered s [] args x g') r.to r.cost r.lean ok near r.goes in
          let a1 = r.few in let a2 = u.no_more in
          record {
            func = g';
            defined = e2;
            comes = record {
              n = u.took;
              left = u.left;
              few = omega arith;
              to = u.to;
              goes = u.goes;
              both =
                  record { between = r.to; beside = r.both; outs = results_of k.flat x; fits = u.fits; slim_beside = u.near };
            };
          }

  pub law : BesideLaw m slim B A
  law = record {
    store = λ spare c f b. slim_store spare b.between f b.slim_beside ∙ flat_store c b.between b.beside;
    waits_store = λ i d f a. (a.slim_asked).store ∙ (a.asked).same_store;
    reduces = λ spare c f b. next_too spare c f b (step m c) (each_reduction m k.flat k.which sf.flattened c b.between b.beside);
    answers = answers_too;
    enters = enters_too;
  }

-- THE SLIM MODULE stands beside the original
pub slim_law : SlimModuleIsBeside
slim_law k slim terms fit sf = law k fit slim terms sf
