-- A slim stack that came back with other locals: the flat one between takes those locals too.
use Rattle.std.proofs.Common.{◌≡◌, ℕ, List, [], ◌∷◌, ◌++◌, length, Some, Bool, true, false, refl, sym, ap, ◌∙◌, subst}
use Rattle.std.specs.Prelude.{slice_get}
use Rattle.std.specs.Option.{option_map}
use Rattle.wa_types.specs.declared.values.ValType.{ValType}
use Rattle.wa_types.specs.declared.values.Value.{Value}
use Rattle.wa_types.specs.Base.{Base}
use Rattle.wa_types.specs.Modules.{defined_at, locals_of}
use Rattle.wa_types.specs.Pausing.{Settings, is_told}
use Rattle.wa_types.specs.Syntax.{Code, Func, Module}
use Rattle.wa_model.specs.Configuration.{Activation, Label, waiting}
use Rattle.run_theory.specs.Fitting.{CallersFit, results_of, types_of}
use Rattle.run_theory.specs.Flat.{code_of, set_to}
use Rattle.wa_model.specs.Plan.{Plan}
use Rattle.wa_model.specs.Step.{result_count}
use Rattle.flat_laws.specs.FlatModule.{flat_module}
use Rattle.flat_laws.specs.Flatten.{names, top_of}
use Rattle.flat_runs.specs.Beside.{Callers, Locals, above, above_same, host}
use Rattle.guard_runs.specs.Joined.{CallFrame}
use Rattle.guard_runs.specs.Returned.{AllSameFlat}
use Rattle.slim_laws.specs.Beside as S
use Rattle.slim_laws.specs.Beside.{Sides, Unders, moved}
use Rattle.slim_laws.proofs.Running.{waiting_agrees, waits_with_any}
use Rattle.headline.specs.SlimBeside.{slim_sides}
use Rattle.slim_laws.specs.SlimModule.{body_of_func, with_body}
use Rattle.slim_laws.proofs.SlimModules.{slim_found}
use Rattle.headline.specs.CoreOf.{flat_core}
use Rattle.headline.specs.EmittedModule.{Framing, pieces_in, places_in, slim_of, terms_of}
use Rattle.headline.proofs.PairedStacks.{AllPairs, AllTold}

pub act_is : (c : Activation) (fn : ℕ) (ls ops taken : List Value) (code : Code) (labels : List Label) → c.func ≡ fn → c.locals ≡ ls → c.operands ≡ ops → c.taken ≡ taken → c.code ≡ code
    → c.labels ≡ labels → waiting fn ls ops taken code labels ≡ c
act_is c fn ls ops taken code labels e1 e2 e3 e4 e5 e6 =
    ap (λ z. waiting z ls ops taken code labels) (sym e1) ∙ ap (λ z. waiting c.func z ops taken code labels) (sym e2) ∙ ap (λ z. waiting c.func c.locals z taken code labels) (sym e3)
    ∙ ap (λ z. waiting c.func c.locals c.operands z code labels) (sym e4) ∙ ap (λ z. waiting c.func c.locals c.operands c.taken z labels) (sym e5)
    ∙ ap (λ z. waiting c.func c.locals c.operands c.taken c.code z) (sym e6)

-- each activation of the first stack with the locals of the second's
abbrev pub moved_all : (vs cs : List Activation) → List Activation
moved_all [] cs = []
moved_all (v ∷ vs) [] = []
moved_all (v ∷ vs) (c ∷ cs) = moved v c.locals ∷ moved_all vs cs

module _ (m : Module) (which : List Bool) where
  -- The locals that came back are the original's own, and behind them slots that hold its operands.
  pub record AgainAt (a c : Activation) : Type 0 where
    pub func : Func
    pub is : defined_at m a.func ≡ Some func
    pub extra : List Value
    pub locals : c.locals ≡ a.locals ++ extra
    pub held : Locals m func a.locals extra (a.taken ++ a.operands)

  abbrev pub AllAgain : List Activation → List Activation → Type 0
  AllAgain [] [] = Unit {0}
  AllAgain (a ∷ us) (c ∷ cs) = AgainAt a c × AllAgain us cs
  AllAgain _ _ = ⊥

  the_func : (x y : Func) → Some x ≡ Some y → x ≡ y
  the_func x y e = cc

  -- the flat stack stands beside the same original
  pub callers_moved : (g : ℕ) (us vs cs : List Activation) → Callers m which g us vs → AllTold m which us → AllAgain us cs → Callers m which g us (moved_all vs cs)
  callers_moved g _ _ cs host told again = host
  callers_moved g _ _ [] (above is_told is us l sp) told again = absurd again
  callers_moved _ _ _ (c ∷ cs) (above {g = g} {fn = fn} {f = f} {under = under} {under' = under'} {ls = ls} {extra = extra} {ops = ops} {taken = taken} {code = code} {labels =
      labels} {labels' = labels'} {stmts = stmts} is_told is us l sp) told again =
      let ag = again.0 in
      let same_f : ag.func ≡ f = the_func ag.func f (sym ag.is ∙ is) in
      let code' = set_to (top_of (names m f) (result_count m g) (results_of m g ++ types_of ops)) (code_of stmts) in
      subst (λ zs. Callers m which g (waiting fn ls ops taken code labels ∷ under) (waiting fn zs [] taken code' labels' ∷ moved_all under' cs)) (sym ag.locals)
      (above is_told is (callers_moved fn under under' cs us told.1 again.1) (subst (λ (z : Func). Locals m z ls ag.extra (taken ++ ops)) same_f ag.held) sp)
  callers_moved g _ _ cs (above_same is_told is us act) told again = let bad : true ≡ false = sym told.0 ∙ is_told in absurd (clash bad)
    where
      clash : true ≡ false → ⊥
      clash e = cc

module _ (m : Module) (s : Settings) (which : List Bool) (frames : (index : ℕ) → Framing) (plan : Plan) (p : Module) where
  abbrev q : Module
  q = flat_module (Base m) which

  abbrev w : Sides
  w = slim_sides (flat_core m s which frames plan p) (slim_of m s which frames) (terms_of m s which frames)

  -- the slim stack that came back stands beside it
  pub unders_moved : (lay : Activation → CallFrame) (us vs vs1 cs : List Activation) → Unders
      (slim_sides (flat_core m s which frames plan p) (slim_of m s which frames) (terms_of m s which frames)) vs vs1
      → AllPairs (Base m) which us vs1 → AllSameFlat lay vs1 cs
      → Unders (slim_sides (flat_core m s which frames plan p) (slim_of m s which frames) (terms_of m s which frames)) (moved_all vs cs) cs
  unders_moved lay [] _ _ [] S.bottom ps same = S.bottom
  unders_moved lay (u ∷ us) _ _ [] S.bottom ps same = S.bottom
  unders_moved lay us _ _ (c ∷ cs) S.bottom ps same = absurd same
  unders_moved lay us _ _ [] (S.above wt un) ps same = absurd same
  unders_moved lay [] _ _ (c ∷ cs) (S.above wt un) ps same = absurd ps
  unders_moved lay (u ∷ us) _ _ (c ∷ cs) (S.above {a = v} {a' = v1} {under = vs} {under' = vs1} wt un) ps same =
      let sm = same.0 in
      let ag = waiting_agrees w v v1 wt in
      let long : length c.locals ≡ length v.locals = sm.size ∙ (ag.locals).long in
      let is_c : moved v1 c.locals ≡ c = act_is c v1.func c.locals v1.operands v1.taken v1.code v1.labels sm.func refl (sm.operands ∙ sym (ps.0).none) sm.taken sm.code sm.labels in
      S.above (subst (λ z. S.Waits w (moved v c.locals) z) is_c (waits_with_any w v v1 c.locals wt long)) (unders_moved lay us vs vs1 cs un ps.1 same.1)

  -- a flat function and the slim one have the same locals
  same_locals : (x : ℕ) (h h1 : Func) → defined_at q x ≡ Some h → defined_at (slim_of m s which frames) x ≡ Some h1 → locals_of (slim_of m s which frames) h1 ≡ locals_of q h
  same_locals x h h1 e e1 =
      let body = body_of_func (Base m) which (places_in m s which) (pieces_in m s which frames) x (defined_at (Base m) x) in
      let z : Some (with_body (is_told (slice_get which x)) body h) ≡ Some h1 =
      sym (slim_found (Base m) which (places_in m s which) (pieces_in m s which frames) x ∙ ap (option_map (with_body (is_told (slice_get which x)) body)) e) ∙ e1 in
      subst (λ (y : Func). locals_of (slim_of m s which frames) y ≡ locals_of q h) (the_one _ h1 z) (by (is_told (slice_get which x)) body)
    where
      the_one : (x y : Func) → Some x ≡ Some y → x ≡ y
      the_one x y e = cc

      by : (b : Bool) (body : Code) → locals_of (slim_of m s which frames) (with_body b body h) ≡ locals_of q h
      by true body = refl
      by false body = refl

  -- and it fits the flat module
  pub fits_moved : (lay : Activation → CallFrame) (outs types outs1 types1 : List ValType) (vs vs1 cs : List Activation)
      → Unders (slim_sides (flat_core m s which frames plan p) (slim_of m s which frames) (terms_of m s which frames)) vs vs1 → AllSameFlat lay vs1 cs
      → CallersFit (flat_module (Base m) which) outs types vs → CallersFit (slim_of m s which frames) outs1 types1 cs → CallersFit (flat_module (Base m) which) outs types (moved_all vs cs)
  fits_moved lay outs types outs1 types1 _ _ cs S.bottom same h k = h
  fits_moved lay outs types outs1 types1 _ _ [] (S.above wt un) same h k = absurd same
  fits_moved lay outs types outs1 types1 _ _ (c ∷ cs) (S.above {a = v} {a' = v1} {under = vs} {under' = vs1} wt un) same h k =
      let sm = same.0 in
      let ag = waiting_agrees w v v1 wt in
      let h0 = h.0 in
      let k0 = k.0 in
      let func : c.func ≡ v.func = sm.func ∙ ag.func in
      let typed : types_of c.locals ≡ locals_of q h0.func =
      k0.locals_fit ∙ same_locals v.func h0.func k0.func h0.func_is (subst (λ x. defined_at (slim_of m s which frames) x ≡ Some k0.func) func k0.func_is) in (
        record { func = h0.func; func_is = h0.func_is; locals_fit = typed; results = h0.results; own = h0.own; below = h0.below; types_are = h0.types_are; stands = h0.stands },
        fits_moved lay outs (results_of q v.func) outs1 (results_of (slim_of m s which frames) c.func) vs vs1 cs un same.1 h.1 k.1,
      )
