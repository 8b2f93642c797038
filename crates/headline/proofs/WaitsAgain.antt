-- Suspended stacks of numbered calls stand as frames, and flat stacks that came back fit their module again.
use Rattle.std.proofs.Common.{◌≡◌, ℕ, ◌<◌, List, [], ◌∷◌, ◌++◌, length, Option, Some, None, Bool, All, refl, sym, ap, ◌∙◌, subst, arith}
use Rattle.std.proofs.lemmas.List.{append_assoc, length-map, map-append}
use Rattle.wa_types.specs.Base.{Base}
use Rattle.wa_types.specs.Modules.{declared_locals, defined_at, func_type_at, locals_of}
use Rattle.wa_types.specs.Pausing.{Settings, TellsMayPause, is_told}
use Rattle.wa_types.specs.Runtime.{func_space}
use Rattle.wa_types.specs.Syntax.{Func, Module}
use Rattle.wa_types.specs.Typing.{type_of}
use Rattle.wa_types.specs.Validity.{Valid}
use Rattle.wa_types.specs.declared.values.ValType.{ValType}
use Rattle.wa_types.specs.declared.values.Value.{Value}
use Rattle.wa_model.specs.Behaves.{StandsNumbered}
use Rattle.wa_model.specs.Configuration.{Activation, Configuration, stack_of}
use Rattle.run_theory.specs.Fitting.{ActFits, CallersFit, results_of, types_of, WaitingFits}
use Rattle.run_theory.specs.Growth.{ActNamed, CodeNamed, Each, LabelNamed, Spaces, spaces_of, ConfigNamed}
use Rattle.wa_model.specs.Plan.{Plan}
use Rattle.wa_model.specs.Plan as P
use Rattle.run_theory.proofs.FittingNames.{defined_type}
use Rattle.run_theory.proofs.GrownSteps.{defined_below}
use Rattle.run_laws.specs.Ranges.{CodesIn}
use Rattle.guard_runs.specs.Joined.{CallFrame}
use Rattle.guard_runs.specs.Returned.{AllSameFlat}
use Rattle.guard_runs.specs.Alike.{Paired, Setting, sides_of}
use Rattle.guard_runs.specs.Beside.{Twin, both_defined, both_import}
use Rattle.guard_runs.specs.Stopped.{Stopped, AllNumbered}
use Rattle.guard_runs.specs.Stopped as S
use Rattle.headline.specs.FlatLaw.{AllLocalsFit, FlatStands, LocalsFit}
use Rattle.headline.specs.World.{setting}
use Rattle.headline.specs.Core.{Core, CoreFits, world_of}
use Rattle.headline.specs.Links.{GoodStore, LinkedWaits}
use Rattle.headline.specs.Links as N
use Rattle.headline.proofs.Spaces.{imports_few, funcs_are, grown_defined, grown_func_type, names_there}
use Rattle.headline.specs.Given.{Given}
use Rattle.headline.proofs.SlimStacks.{numbered_too, pairs_too}
use Rattle.headline.specs.CoreOf.{RunsBeside, WaitsBeside, core_of}
use Rattle.headline.specs.EmittedModule.{Emitted, Framing}
use Rattle.headline.proofs.NumberedStacks.{AllAtNumbers, at_numbers, stack_numbered}
use Rattle.headline.proofs.PairedFlat.{core_fits, paired}
use Rattle.headline.proofs.PairedStacks.{AllPairs, AllTold, pairs}
use Rattle.headline.proofs.Standing.{stands_so}
use Rattle.headline.specs.Framed.{FramedCalls}

-- ---- lists

pub front_same : {X : Type 0} (xs ys us vs : List X) → xs ++ us ≡ ys ++ vs → length xs ≡ length ys → xs ≡ ys
front_same [] [] us vs e l = refl
front_same [] (y ∷ ys) us vs e l = absurd (omega arith)
front_same (x ∷ xs) [] us vs e l = absurd (omega arith)
front_same (x ∷ xs) (y ∷ ys) us vs e l =
    let h : x ≡ y = cc in let t : xs ++ us ≡ ys ++ vs = cc in ap (λ z. z ∷ xs) h ∙ ap (λ zs. y ∷ zs) (front_same xs ys us vs t (omega arith))

-- the locals of each flat activation, with more behind, are those of its written function
abbrev pub AllMore : Module → List Activation → Type 0
AllMore p [] = Unit {0}
AllMore p (c ∷ cs) = ((more : List Value) × LocalsFit p c.func (c.locals ++ more)) × AllMore p cs

pub written_fit : (v : Setting) (p : Module) (g : ℕ) (cs ws : List Activation) → Stopped v g cs ws → AllLocalsFit p ws → AllMore p cs
written_fit v p g _ _ (S.host e) fit = tt
written_fit v p g _ _ (S.above {under = under} {under' = under'} fn here is ls extra ops taken both h pl gt deep below) fit = ((extra, fit.0), written_fit v p fn under under' below fit.1)

pub named_again : (n : Spaces) (lay : Activation → CallFrame) (vs cs : List Activation) → AllSameFlat lay vs cs → Each (ActNamed n) vs → Each (ActNamed n) cs
named_again n lay [] [] same h = tt
named_again n lay [] (c ∷ cs) same h = absurd same
named_again n lay (a ∷ vs) [] same h = absurd same
named_again n lay (a ∷ vs) (c ∷ cs) same h =
    let sm = same.0 in let h0 = h.0 in (
      record { func = subst (λ x. x < n.funcs) (sym sm.func) h0.func; code = subst (CodeNamed n) (sym sm.code) h0.code; labels = subst (Each (LabelNamed n)) (sym sm.labels) h0.labels },
      named_again n lay vs cs same.1 h.1,
    )

module _ (m : Module) (s : Settings) (which : List Bool) (frames : (index : ℕ) → Framing) (plan : Plan) (p : Module) (valid : Valid m) (tells : TellsMayPause m s which)
    (em : Emitted m s which frames p)
    (plan_fits : Given m plan) (codes : CodesIn (Base m)) where
  abbrev b : Module
  b = Base m

  abbrev k : Core
  k = core_of m s which frames plan p

  fits : CoreFits k
  fits = core_fits m s which frames plan p valid tells em plan_fits codes

  pairing : (top : ℕ) → Paired (setting (world_of k) top)
  pairing = paired m s which frames plan p valid tells em plan_fits codes

  the_func : (x y : Func) → Some x ≡ Some y → x ≡ y
  the_func x y e = cc

  -- ---- locals of their types

  locals_by : (q : Module) (x : ℕ) (f : Func) → defined_at q x ≡ Some f → locals_of q f ≡ (func_type_at q x).params ++ declared_locals f.locals
  locals_by q x f e = ap (λ t. t.params ++ declared_locals f.locals) (sym (defined_type q x f e))

  flat_types : (x : ℕ) (h found : Func) → defined_at k.flat x ≡ Some h → defined_at p x ≡ Some found → (more : List ValType) × (locals_of p found ≡ locals_of k.flat h ++ more)
  flat_types x h found eh ef = by ((pairing 0).twin x known)
    where
      within : x < (spaces_of k.flat).funcs
      within = defined_below k.flat [] [] [] [] (names_there k fits) x h eh

      known : x < func_space m
      known = subst (λ i. x < i) (funcs_are k fits) within

      by : Twin (sides_of (setting (world_of k) 0)) x → (more : List ValType) × (locals_of p found ≡ locals_of k.flat h ++ more)
      by (both_import none1 none2) = let z : None ≡ Some found = sym none2 ∙ ef in cc
      by (both_defined g1 g2 is1 is2 b1 b2 ls size) =
          let same1 : g1 ≡ h = the_func g1 h (sym is1 ∙ grown_defined k fits x within ∙ eh) in
          let same2 : g2 ≡ found = the_func g2 found (sym is2 ∙ ef) in
          let decl : declared_locals found.locals ≡ declared_locals h.locals ++ Rattle.guard_form.specs.Functions.extra_types (k.role x) =
          ap (λ (z : Func). declared_locals z.locals) (sym same2) ∙ ls ∙ ap (λ (z : Func). declared_locals z.locals ++ Rattle.guard_form.specs.Functions.extra_types (k.role x)) same1 in (
            Rattle.guard_form.specs.Functions.extra_types (k.role x),
            locals_by p x found ef ∙ ap (λ t. t.params ++ declared_locals found.locals) ((pairing 0).func_type x known ∙ grown_func_type k fits x within)
                ∙ ap (λ z. (func_type_at k.flat x).params ++ z) decl
                ∙ sym (append_assoc (func_type_at k.flat x).params (declared_locals h.locals) (Rattle.guard_form.specs.Functions.extra_types (k.role x)))
                ∙ ap (λ z. z ++ Rattle.guard_form.specs.Functions.extra_types (k.role x)) (sym (locals_by k.flat x h eh)),
          )

  pub fits_again : (outs types : List ValType) (us vs cs : List Activation) → AllPairs (Base m) which us vs → CallersFit k.flat outs types vs → AllSameFlat k.lay vs cs → AllMore p cs
      → CallersFit k.flat outs types cs
  fits_again outs types us [] [] ps h same more = h
  fits_again outs types us [] (c ∷ cs) ps h same more = absurd same
  fits_again outs types us (v ∷ vs) [] ps h same more = absurd same
  fits_again outs types [] (v ∷ vs) (c ∷ cs) ps h same more = absurd ps
  fits_again outs types (a ∷ us) (v ∷ vs) (c ∷ cs) ps h same more =
      let h0 = h.0 in
      let sm = same.0 in
      let none = (ps.0).none in
      let w = (more.0).1 in
      let there : defined_at p v.func ≡ Some w.found = ap (defined_at p) (sym sm.func) ∙ w.is in
      let ft = flat_types v.func h0.func w.found h0.func_is there in
      let long : length (types_of c.locals) ≡ length (locals_of k.flat h0.func) = length-map c.locals type_of ∙ sm.size ∙ sym (length-map v.locals type_of) ∙ ap length h0.locals_fit in
      let typed : types_of c.locals ≡ locals_of k.flat h0.func =
      front_same (types_of c.locals) (locals_of k.flat h0.func) (types_of (more.0).0) ft.0 (sym (map-append type_of c.locals (more.0).0) ∙ w.typed ∙ ft.1) long in
      let act : ActFits k.flat v.func c.locals v.code v.labels (types ++ types_of v.operands) =
      record { func = h0.func; func_is = h0.func_is; locals_fit = typed; results = h0.results; own = h0.own; below = h0.below; types_are = h0.types_are; stands = h0.stands } in (
        subst (λ os. ActFits k.flat c.func c.locals c.code c.labels (types ++ types_of os)) (none ∙ sym sm.operands)
            (subst (λ ls. ActFits k.flat c.func c.locals c.code ls (types ++ types_of v.operands)) (sym sm.labels)
            (subst (λ z. ActFits k.flat c.func c.locals z v.labels (types ++ types_of v.operands)) (sym sm.code)
            (subst (λ x. ActFits k.flat x c.locals v.code v.labels (types ++ types_of v.operands)) (sym sm.func) act))),
        subst (λ x. CallersFit k.flat outs (results_of k.flat x) cs) (sym sm.func) (fits_again outs (results_of k.flat v.func) us vs cs ps.1 h.1 same.1 more.1),
      )

  -- ---- at numbered calls

  abbrev B : (spare : ℕ) → Configuration → Configuration → Type 0
  B = RunsBeside m s which frames plan p

  abbrev A : ℕ → Configuration → Configuration → Type 0
  A = WaitsBeside m s which frames plan p

  pub all_told : (table : List (Option ℕ)) (g : ℕ) (us : List Activation) → AllAtNumbers m s which valid table g us → AllTold (Base m) which us
  all_told table g [] h = tt
  all_told table g (a ∷ us) h = (ap is_told (h.0).told, all_told table a.func us h.1)

  pub numbers_at : (i : ℕ) (d f : Configuration) → (l : LinkedWaits k B A i d f) → All (StandsNumbered m s which) (stack_of (Base m) d)
      → AllAtNumbers m s which valid d.store.table i (d.here ∷ d.under)
  numbers_at i d f l nums = at_numbers m s which valid d.store.table l.root i (d.here ∷ d.under) l.spots.waits l.stands.stack nums

  pub pairs_at : (i : ℕ) (d f : Configuration) → (l : LinkedWaits k B A i d f) → All (StandsNumbered m s which) (stack_of (Base m) d) → AllPairs (Base m) which (d.here ∷ d.under) (f.here ∷ f.under)
  pairs_at i d f l nums =
      let be = l.beside in
      let v = be.between in
      let at = numbers_at i d f l nums in
      pairs_too m s which frames plan p valid d.store.table i (d.here ∷ d.under) (v.here ∷ v.under) (f.here ∷ f.under) at
      (pairs (Base m) which i (d.here ∷ d.under) (v.here ∷ v.under) (be.asked).waits (all_told d.store.table i (d.here ∷ d.under) at)) (be.slim_asked).stack

  -- whatever its activations called has a number
  pub numbers : (top i : ℕ) (d f : Configuration) → (l : LinkedWaits k B A i d f) → All (StandsNumbered m s which) (stack_of (Base m) d) → AllNumbered (setting (world_of k) top) i (f.here ∷ f.under)
  numbers top i d f l nums =
      let be = l.beside in
      let v = be.between in
      let few = imports_few k fits in
      let kn = l.known in
      numbered_too m s which frames plan p valid (setting (world_of k) top) i (v.here ∷ v.under) (f.here ∷ f.under) (be.slim_asked).stack
      (stack_numbered m s which frames plan p valid tells em plan_fits codes top d.store.table i (d.here ∷ d.under) (v.here ∷ v.under) (omega arith) (be.asked).waits (numbers_at i d f l nums))

  -- a flat stack that came back fits its module again, and names what is there
  pub flat_again : (i : ℕ) (d f : Configuration) (a : Activation) (us : List Activation) → (l : LinkedWaits k B A i d f) → All (StandsNumbered m s which) (stack_of (Base m) d)
      → AllSameFlat k.lay (f.here ∷ f.under) (a ∷ us) → AllMore p (a ∷ us)
      → WaitingFits k.flat l.flat_outs i (record { store = f.store; here = a; under = us }) × ConfigNamed (spaces_of k.flat) (record { store = f.store; here = a; under = us })
  flat_again i d f a us l nums same more =
      let ff = l.flat_fits in
      let nm = l.named in
      let na = named_again (spaces_of k.flat) k.lay (f.here ∷ f.under) (a ∷ us) same (nm.here, nm.under) in (
        record {
          store = ff.store;
          waits = fits_again l.flat_outs (results_of k.flat i) (d.here ∷ d.under) (f.here ∷ f.under) (a ∷ us) (pairs_at i d f l nums) ff.waits same more;
        },
        record { store = nm.store; here = na.0; under = na.1 },
      )

  -- a suspended stack stands as frames, whatever step a policy puts in between
  pub stands : (Live : Configuration → Configuration → Type 0) → FramedCalls m s which frames
      → (top i : ℕ) (d f : Configuration) (us' : List Activation) (st : Stopped (setting (world_of k) top) i (f.here ∷ f.under) us')
      → LinkedWaits k B A i d f → All (StandsNumbered m s which) (stack_of (Base m) d) → AllLocalsFit p us' → FlatStands (world_of k) Live (N.L k B A) (N.W k B A) (GoodStore k) top i d f us' st
  stands Live framed top i d f us' st l nums fit =
      let r = stands_so m s which frames plan p valid tells em plan_fits codes framed top d.store.table i i (d.here ∷ d.under) (f.here ∷ f.under) us' st (pairs_at i d f l nums)
      (numbers_at i d f l nums) fit in
      record { may = r.0; stand = r.1; weigh = r.2 }
