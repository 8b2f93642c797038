-- Stretches of the slim side, beside those of the flat one.
use Rattle.std.proofs.Common.{◌≡◌, ◌∙◌, ℕ, suc, ◌+◌, ◌≤◌, ◌<◌, List, length, Bool, true, false, refl, sym, ap, subst, arith}
use Rattle.std.specs.Prelude.{if◌then◌else◌}
use Rattle.wa_types.specs.declared.values.ValType.{ValType}
use Rattle.wa_types.specs.Syntax.{Module, basic, local_get, local_set, local_tee, br, br_if, br_table, return, unreachable, call, call_indirect, Code, done, plain, nest, branch}
use Rattle.wa_model.specs.Configuration.{Activation, Configuration}
use Rattle.run_theory.specs.Fitting.{Fits, NextFits}
use Rattle.wa_model.specs.Step.{Next, steps, step}
use Rattle.wa_model.specs.Untouched.{StaysOff, ranges_in}
use Rattle.wa_model.proofs.StayingOff.{nothing_off}
use Rattle.run_theory.proofs.FittingSteps.{steps_fit}
use Rattle.flat_runs.specs.Beside.{Loud, Still, first_of, stands, loudly, softly}
use Rattle.headline.specs.Beside as L
use Rattle.headline.specs.Beside.{QuietGoes}
use Rattle.headline.specs.Core.{Core, CoreFits, based, world_of}
use Rattle.guard_runs.specs.Alike.{Setting, sides_of}
use Rattle.guard_runs.specs.Beside as G
use Rattle.guard_runs.specs.Proper.{NextNamed}
use Rattle.guard_runs.proofs.ProperCode.{proper_law}
use Rattle.headline.specs.World.{setting}
use Rattle.slim_laws.specs.Slim.{Terms}
use Rattle.slim_laws.specs.Beside.{Sides, above, beside, bottom, copying, Unders, Beside, ComesToo, it_steps, it_asks, it_returns, it_traps, it_is_stuck, Proper, ProperCode, Way, lean, lean_code}
use Rattle.slim_laws.proofs.Running.{each_step}
use Rattle.headline.specs.SlimBeside.{SlimFits, slim_sides}
use Rattle.headline.proofs.QuietSteps.{quiet_on, way_quiet}

module _ (k : Core) (fit : CoreFits k) (slim : Module) (terms : ℕ → Terms) (sf : SlimFits k slim terms) where
  abbrev w : Sides
  w = slim_sides k slim terms

  -- ---- flat configurations that fit have a call's operands

  proper_for : (outs : List ValType) (c : Configuration) → Fits k.flat outs c → (code : Code) → c.here.code ≡ code → ProperCode k.flat c.here.operands code
  proper_for outs c fits done e = tt
  proper_for outs c fits (nest s r body rest) e = tt
  proper_for outs c fits (branch r a b rest) e = tt
  proper_for outs c fits (plain (basic b) rest) e = tt
  proper_for outs c fits (plain (local_get x) rest) e = tt
  proper_for outs c fits (plain (local_set x) rest) e = tt
  proper_for outs c fits (plain (local_tee x) rest) e = tt
  proper_for outs c fits (plain (br l) rest) e = tt
  proper_for outs c fits (plain (br_if l) rest) e = tt
  proper_for outs c fits (plain (br_table ls l) rest) e = tt
  proper_for outs c fits (plain return rest) e = tt
  proper_for outs c fits (plain unreachable rest) e = tt
  proper_for outs c fits (plain (call x) rest) e =
      let v : Setting = record (setting (world_of k) 0) { flat = k.flat; funcs = suc x } in
      let lt : x < suc x = omega arith in
      (subst (G.ProperCode (sides_of v) c.store c.here.locals c.here.operands) e
      (proper_law v outs c fits (subst (NextNamed v) (sym e) lt) (subst (λ z. StaysOff v.area (length c.store.memory) (ranges_in c.here.operands z)) (sym e) (nothing_off v.area (length c.store.memory))))).1
  proper_for outs c fits (plain (call_indirect t) rest) e =
      let v : Setting = record (setting (world_of k) 0) { flat = k.flat; sorts = suc t } in
      let lt : t < suc t = omega arith in
      (subst (G.ProperCode (sides_of v) c.store c.here.locals c.here.operands) e
      (proper_law v outs c fits (subst (NextNamed v) (sym e) lt) (subst (λ z. StaysOff v.area (length c.store.memory) (ranges_in c.here.operands z)) (sym e) (nothing_off v.area (length c.store.memory))))).1

  pub proper_so : (outs : List ValType) (c : Configuration) → Fits k.flat outs c → Proper k.flat c
  proper_so outs c fits = proper_for outs c fits c.here.code refl

  -- ---- costs

  pub loud_lean : (c : Configuration) (n : ℕ) → Loud (first_of (based k) c.here.func) c.here.code → lean w c n ≡ n
  loud_lean c n loud = by c.here.code loud
    where
      own : (x : ℕ) → x < first_of (based k) c.here.func → (b : Bool) → (terms c.here.func).slot x ≡ b → (if (terms c.here.func).slot x then 0 else n) ≡ n
      own x lt false e = ap (λ z. if z then 0 else n) e
      own x lt true e = let le = sf.behind c.here.func x e in absurd (omega arith)

      by : (code : Code) → Loud (first_of (based k) c.here.func) code → lean_code (terms c.here.func) code n ≡ n
      by done h = refl
      by (nest s r body rest) h = refl
      by (branch r a b rest) h = refl
      by (plain (basic b) rest) h = refl
      by (plain (local_get x) rest) h = own x h ((terms c.here.func).slot x) refl
      by (plain (local_set x) rest) h = own x h ((terms c.here.func).slot x) refl
      by (plain (local_tee x) rest) h = refl
      by (plain (br l) rest) h = refl
      by (plain (br_if l) rest) h = refl
      by (plain (br_table ls l) rest) h = refl
      by (plain return rest) h = refl
      by (plain unreachable rest) h = refl
      by (plain (call x) rest) h = refl
      by (plain (call_indirect x) rest) h = refl

  -- ---- one reduction

  pub record One (c c' : Configuration) (spare j : ℕ) (d : Configuration) : Type 0 where
    pub took : ℕ
    pub left : ℕ
    pub to : Configuration
    pub way : Way w c c' took to
    pub enough : lean w c (suc j) ≤ took
    pub no_more : took + left ≤ suc j + spare
    pub near : Beside w left d to

  pub one_too : (spare : ℕ) (outs : List ValType) (c c' d : Configuration) (j : ℕ) → Fits k.flat outs c → Beside w spare c c' → step k.flat c ≡ steps j d → One c c' spare j d
  one_too spare outs c c' d j fits near is = by (step k.flat c) is (each_step w spare c c' sf.together near (proper_so outs c fits))
    where
      by : (o : Next) → o ≡ steps j d → ComesToo w c c' spare (lean w c) o → One c c' spare j d
      by _ e (it_steps {k = j2} {d = d2} cost left to go le mo b) =
          let qj : j2 ≡ j = cc in
          let qd : d2 ≡ d = cc in
          record {
            took = cost;
            left = left;
            to = to;
            way = go;
            enough = subst (λ i. lean w c (suc i) ≤ cost) qj le;
            no_more = omega arith;
            near = subst (λ y. Beside w left y to) qd b;
          }
      by _ e (it_asks cost at to go mo sn st a) = cc
      by _ e (it_returns cost at go mo sn st) = cc
      by _ e (it_traps cost at go mo sn st) = cc
      by _ e it_is_stuck = cc

  pub fits_on : (outs : List ValType) (c d : Configuration) (j : ℕ) → Fits k.flat outs c → step k.flat c ≡ steps j d → Fits k.flat outs d
  fits_on outs c d j fits is = subst (NextFits k.flat outs) is (steps_fit k.flat outs c fit.flat_valid fits)

  -- ---- quiet stretches

  unders_level : (us us' : List Activation) → Unders w us us' → length us' ≡ length us
  unders_level _ _ bottom = refl
  unders_level _ _ (above {under = us} {under' = us'} wt un) = ap suc (unders_level us us' un)

  pub beside_level : (spare : ℕ) (c f : Configuration) → Beside w spare c f → length f.under ≡ length c.under
  beside_level spare _ _ (beside {under = us} {under' = us'} s fn free e size ag wo sl ar un) = unders_level us us' un
  beside_level spare _ _ (copying {under = us} {under' = us'} s fn f g x y e size ag wo co la sl ar un) = unders_level us us' un

  pub record QuietToo (c' : Configuration) (spare cost least : ℕ) (outs : List ValType) (d : Configuration) : Type 0 where
    pub took : ℕ
    pub left : ℕ
    pub to : Configuration
    pub goes : QuietGoes slim c' took to
    pub enough : least ≤ took
    pub no_more : took + left ≤ cost + spare
    pub near : Beside w left d to
    pub fits : Fits k.flat outs d

  pub still_too : (spare : ℕ) (outs : List ValType) (c c' d : Configuration) (cost least : ℕ) → Fits k.flat outs c → Beside w spare c c' → Still k.flat (first_of (based k)) c cost least d
      → QuietToo c' spare cost least outs d
  still_too spare outs c c' _ _ _ fits near stands = record { took = 0; left = spare; to = c'; goes = L.stays; enough = omega arith; no_more = omega arith; near = near; fits = fits }
  still_too spare outs c c' d cost least fits near (loudly {d = e} {k = j} {n = n} {l = l} is level quiet loud rest em el) =
      let o = one_too spare outs c c' e j fits near is in
      let r = still_too o.left outs e o.to d n l (fits_on outs c e j fits is) o.near rest in
      let z = loud_lean c (suc j) loud in
      let a1 = o.enough in let a2 = o.no_more in let a3 = r.enough in let a4 = r.no_more in
      record {
        took = o.took + r.took;
        left = r.left;
        to = r.to;
        goes = quiet_on slim c' o.to r.to o.took r.took (way_quiet w c c' o.to o.took quiet (beside_level o.left e o.to o.near ∙ level ∙ sym (beside_level spare c c' near)) o.way) r.goes;
        enough = omega arith;
        no_more = omega arith;
        near = r.near;
        fits = r.fits;
      }
  still_too spare outs c c' d cost least fits near (softly {d = e} {k = j} {n = n} {l = l} is level quiet rest em) =
      let o = one_too spare outs c c' e j fits near is in
      let r = still_too o.left outs e o.to d n least (fits_on outs c e j fits is) o.near rest in
      let a2 = o.no_more in let a3 = r.enough in let a4 = r.no_more in
      record {
        took = o.took + r.took;
        left = r.left;
        to = r.to;
        goes = quiet_on slim c' o.to r.to o.took r.took (way_quiet w c c' o.to o.took quiet (beside_level o.left e o.to o.near ∙ level ∙ sym (beside_level spare c c' near)) o.way) r.goes;
        enough = omega arith;
        no_more = omega arith;
        near = r.near;
        fits = r.fits;
      }
