-- Each half of a pause of an emitted module costs no more than its own bound.
use Rattle.std.proofs.Common.{◌≡◌, ℕ, ◌+◌, ◌*◌, ◌<◌, ◌≤◌, List, [], ◌∷◌, ◌++◌, length, map, Option, Some, Bool, true, refl, sym, ap, ◌∙◌, subst, arith, length-append}
use Rattle.std.specs.Prelude.{slice_get}
use Rattle.std.specs.List.{sum_by}
use Rattle.std.proofs.lemmas.List.Sums.{sum_by-cons}
use Rattle.wa_types.specs.Base.{Base}
use Rattle.wa_types.specs.Bounds.{Weight, code_weight, weight_of_found}
use Rattle.wa_types.specs.Modules.{declared_locals, defined_at, func_type_at, locals_of, type_at}
use Rattle.wa_types.specs.Pausing.{Callee, Numbered, Settings, TellsMayPause, calls_of, is_told}
use Rattle.wa_types.specs.Pruned.{pruned}
use Rattle.wa_types.specs.Runtime.{global_space}
use Rattle.wa_types.specs.Syntax.{Code, Func, Module}
use Rattle.wa_types.specs.Validity.{Valid}
use Rattle.wa_types.specs.declared.values.Value.{Value}
use Rattle.wa_model.specs.Configuration.{Activation, call_count, calls_outside, place_of, suspended}
use Rattle.run_theory.specs.Flat.{followed_by, set_to}
use Rattle.wa_model.specs.Plan.{Plan}
use Rattle.wa_model.specs.Step.{param_count}
use Rattle.run_theory.proofs.FittingNames.{defined_type}
use Rattle.run_laws.specs.Ranges.{CodesIn}
use Rattle.flat_laws.specs.Flatten.{flattened}
use Rattle.guard_form.specs.Bounds.{passing}
use Rattle.guard_form.specs.Functions.{GuardedFunc, with_guards}
use Rattle.guard_form.specs.Numbers.{calls_behind}
use Rattle.guard_form.specs.Pieces.{Units, call_unit, first_piece, flat_units, units}
use Rattle.guard_form.specs.Places.{BodyPlace, Enclosing, flat_labels}
use Rattle.frame_laws.specs.Function.{rewinding, unwinding}
use Rattle.guard_runs.specs.Joined.{CallFrame, written_of}
use Rattle.guard_runs.specs.Levels.{flat_waiting, levels_of}
use Rattle.guard_runs.specs.Alike.{Setting}
use Rattle.guard_runs.specs.Stopped.{Stopped, above, host}
use Rattle.headline.specs.FlatLaw.{AllLocalsFit, LocalsFit}
use Rattle.headline.specs.Given.{Given}
use Rattle.headline.specs.World.{setting}
use Rattle.headline.specs.Core.{Core, CoreFits, world_of}
use Rattle.headline.proofs.Spaces.{func_type_same, funcs_are, grown_func_type}
use Rattle.slim_laws.specs.SlimModule.{flat_terms}
use Rattle.slim_laws.proofs.UnitsPassed.{passing_law}
use Rattle.headline.specs.CoreOf.{core_of}
use Rattle.headline.specs.EmittedModule.{Emitted, Framing, guarded_of, role_at}
use Rattle.headline.proofs.CallWeights.{args_weigh}
use Rattle.headline.proofs.FrameFacts as F
use Rattle.headline.proofs.NumberedStacks.{AllAtNumbers, AtNumber, space_below}
use Rattle.headline.proofs.PairedFlat.{base_defined, base_locals, core_fits}
use Rattle.headline.proofs.PairedStacks.{AllPairs, PairAt, call_frame_is}
use Rattle.headline.proofs.Standing.{the_guards}
use Rattle.emitted_form.proofs.PassingWeight.{passing_few, result_few}
use Rattle.image_laws.specs.Image.{rewind_bound, unwind_bound}
use Rattle.image_laws.proofs.Apart.{ApartSums, rewound, unwound}

-- Of each numbered call restoring costs no more than saving, and both no more than 64 for each unit of weight and for four more.
pub record ApartCall (m : Module) (f : Func) (l : CallFrame) : Type 0 where
  pub less : l.restore_most ≤ l.save_most
  pub cost : l.save_most + l.restore_most ≤ 64 * (Weight m f + 4)

abbrev pub ApartCalls : Module → Settings → List Bool → (frames : (index : ℕ) → Framing) → Type 0
ApartCalls m s which frames =
    (x : ℕ) (f : Func) → defined_at m x ≡ Some f → is_told (slice_get which x) ≡ true → (k place : ℕ) → slice_get (Numbered m s which f) k ≡ Some place → ApartCall m f ((frames x).frame_at place)

module _ (m : Module) (s : Settings) (which : List Bool) (frames : (index : ℕ) → Framing) (plan : Plan) (p : Module) (valid : Valid m) (tells : TellsMayPause m s which)
    (em : Emitted m s which frames p) (plan_fits : Given m plan) (codes : CodesIn (Base m)) (apart : ApartCalls m s which frames) where
  abbrev k : Core
  k = core_of m s which frames plan p

  abbrev st : ℕ
  st = global_space m

  fits : CoreFits k
  fits = core_fits m s which frames plan p valid tells em plan_fits codes

  params_few : (x : ℕ) (f : Func) → defined_at (Base m) x ≡ Some f → param_count (func_type_at (Base m) x) ≤ length (locals_of m f)
  params_few x f e =
      let ty = ap param_count (defined_type (Base m) x f e) in
      let l = length-append (type_at (Base m) f.sort).params (declared_locals f.locals) in
      let same = ap length (base_locals m f) in
      omega arith

  module _ (top : ℕ) where
    abbrev v : Setting
    v = setting (world_of k) top

    params_same : (x : ℕ) (f : Func) → defined_at (Base m) x ≡ Some f → param_count (func_type_at v.flat x) ≡ param_count (func_type_at (Base m) x)
    params_same x f e =
        ap param_count (grown_func_type k fits x (subst (λ i. x < i) (sym (funcs_are k fits)) (space_below m valid x f e)) ∙ func_type_same k fits x)

    module _ (a : Activation) (table : List (Option ℕ)) (g : ℕ) (num : AtNumber m s which valid table g a) (f : GuardedFunc) (n : ℕ) (slots : List ℕ) (x : Callee) (to : Option ℕ)
        (behind : Code) (rest : Units) (xs : List Enclosing) (fn : ℕ) (ls extra ops taken : List Value) (is : v.role fn ≡ with_guards f)
        (pl : BodyPlace st f n (call_unit slots x to behind rest) xs) (pr : PairAt (Base m) which a (flat_waiting fn f to behind rest xs ls ops taken)) (fit : LocalsFit p fn (ls ++ extra)) where
      abbrev here : ℕ
      here = place_of (Some num.func) a.code a.labels

      abbrev act : Activation
      act = flat_waiting fn f to behind rest xs ls ops taken

      defined : defined_at m a.func ≡ Some num.func
      defined = sym (base_defined m a.func) ∙ num.is

      f_is : guarded_of m s which frames a.func num.func ≡ f
      f_is =
          the_guards (guarded_of m s which frames a.func num.func) f
          (sym (ap (λ t. role_at m s which frames t a.func (defined_at m a.func)) pr.told ∙ ap (λ o. role_at m s which frames true a.func o) defined)
          ∙ subst (λ y. v.role y ≡ with_guards f) pr.same_func is)

      fit0 : LocalsFit p a.func ((a.locals ++ pr.extra) ++ extra)
      fit0 = subst (λ zs. LocalsFit p a.func (zs ++ extra)) pr.locals (subst (λ y. LocalsFit p y (ls ++ extra)) pr.same_func fit)

      pl0 : BodyPlace st (guarded_of m s which frames a.func num.func) n (call_unit slots x to behind rest) xs
      pl0 = subst (λ z. BodyPlace st z n (call_unit slots x to behind rest) xs) (sym f_is) pl

      left0 : length (calls_of (set_to to (followed_by behind (flat_units rest)))) + calls_behind (flat_labels (guarded_of m s which frames a.func num.func) xs) ≡ call_count a.code + calls_outside a.labels
      left0 = subst (λ z. length (calls_of (set_to to (followed_by behind (flat_units rest)))) + calls_behind (flat_labels z xs) ≡ call_count a.code + calls_outside a.labels) (sym f_is) pr.left

      number : slice_get (Numbered m s which num.func) n ≡ Some (place_of (Some num.func) a.code a.labels)
      number = F.number m s which frames p valid em a act pr table g num extra fit0 st n slots x to behind rest xs pl0 left0

      call_apart : ApartCall m num.func ((frames a.func).frame_at (place_of (Some num.func) a.code a.labels))
      call_apart = apart a.func num.func defined pr.told n here number

      passed : passing f.first f.body ≤ 17 * code_weight m (pruned (num.func).body) + 8
      passed =
          let ps = Numbered m s which num.func in
          let body = (flattened (Base m) a.func num.func).body in
          let sp = em.slim a.func num.func num.is pr.told in
          let few = passing_few m a.func num.func (Numbered m s which num.func) in
          let less = passing_law (flat_terms (Base m) ps a.func num.func) 0 (sp.out ∷ []) sp.out sp.here (first_piece ps 0 body) (frames a.func).pieces.first (units ps 0 body)
          (frames a.func).pieces.units sp.slim in
          let end = result_few (flattened (Base m) a.func num.func).result in
          let own : GuardedFunc = guarded_of m s which frames a.func num.func in
          let both : passing own.first own.body ≤ 17 * code_weight m (pruned (num.func).body) + 8 = omega arith in
          subst (λ (z : GuardedFunc). passing z.first z.body ≤ 17 * code_weight m (pruned (num.func).body) + 8) f_is both

      found : weight_of_found m (defined_at m (suspended (Base m) a).func) ≡ Weight m num.func
      found = ap (weight_of_found m) defined

      lay_is : k.lay act ≡ (frames a.func).frame_at (place_of (Some num.func) a.code a.labels)
      lay_is = call_frame_is m s which frames plan p a act pr num.func defined

      pub one_apart : (unwinding (written_of st f (k.lay act)) 4 + 1 ≤ unwind_bound m (suspended (Base m) a))
          × (param_count (func_type_at v.flat fn) + (2 * length slots + 1 + rewinding (written_of st f (k.lay act)) (passing f.first f.body + 3)) ≤ rewind_bound m (suspended (Base m) a))
      one_apart =
          let c = call_apart in
          let c1 = c.less in
          let c2 = c.cost in
          let es = ap (λ (z : CallFrame). z.save_most) lay_is in
          let er = ap (λ (z : CallFrame). z.restore_most) lay_is in
          let w = found in
          let ps = passed in
          let args = F.took_args m s which frames p valid em a act pr table g num extra fit0 in
          let weigh = args_weigh m num.func here num.call num.at in
          let count = F.slots_few m s which frames p valid em a act pr table g num extra fit0 st n slots x to behind rest xs pl0 left0 in
          let few = params_few a.func num.func num.is in
          let same : param_count (func_type_at v.flat fn) ≡ param_count (func_type_at (Base m) a.func) = ap (λ y. param_count (func_type_at v.flat y)) pr.same_func ∙ params_same a.func num.func num.is in
          (omega arith, omega arith)

    -- ---- a whole stack

    abbrev params : ℕ → ℕ
    params x = param_count (func_type_at v.flat x)

    abbrev S : List Activation → List Rattle.wa_types.specs.Frames.Suspended
    S us = map (suspended (Base m)) us

    sums : (table : List (Option ℕ)) (g c : ℕ) (us vs ws : List Activation) (d : Stopped v c vs ws) → AllPairs (Base m) which us vs → AllAtNumbers m s which valid table g us → AllLocalsFit p ws
        → (unwound (levels_of v k.lay d) ≤ sum_by (unwind_bound m) (S us)) × (params top + rewound (levels_of v k.lay d) ≤ sum_by (rewind_bound m) (S us) + params c)
    sums table g c [] _ _ (host e) ps nums fit =
        let z = ap (λ x. param_count (func_type_at v.flat x)) e in
        let s1 : sum_by (unwind_bound m) [] ≡ 0 = refl in
        let s2 : sum_by (rewind_bound m) [] ≡ 0 = refl in
        (omega arith, omega arith)
    sums table g c (a ∷ us) _ _ (host e) ps nums fit = absurd ps
    sums table g c [] _ _ (above fn here is ls extra ops taken both h pl gt deep below) ps nums fit = absurd ps
    sums table g c (a ∷ us) _ _ (above {f = f} {k = n} {slots = slots} {x = x} {to = to} {behind = behind} {rest = rest} {xs = xs} {under = under} {under' = under'} fn here is ls extra
        ops taken both h pl gt deep below) ps nums fit =
        let ih = sums table a.func fn us under under' below ps.1 nums.1 fit.1 in
        let o = one_apart a table g nums.0 f n slots x to behind rest xs fn ls extra ops taken is pl.place ps.0 fit.0 in
        let u = sum_by-cons (unwind_bound m) (suspended (Base m) a) (S us) in
        let r = sum_by-cons (rewind_bound m) (suspended (Base m) a) (S us) in
        (omega (arith, ih.0, o.0), omega (arith, ih.1, o.1))

    pub apart_sums : (table : List (Option ℕ)) (g c : ℕ) (a : Activation) (us vs ws : List Activation) (d : Stopped (setting (world_of (core_of m s which frames plan p)) top) c vs ws)
        → AllPairs (Base m) which (a ∷ us) vs → AllAtNumbers m s which valid table g (a ∷ us) → AllLocalsFit p ws
        → ApartSums m (param_count (func_type_at (setting (world_of (core_of m s which frames plan p)) top).flat top))
        (levels_of (setting (world_of (core_of m s which frames plan p)) top) (core_of m s which frames plan p).lay d) (map (suspended (Base m)) (a ∷ us))
    apart_sums table g c a us _ _ (host e) ps nums fit = absurd ps
    apart_sums table g c a us _ _ (above {f = f} {k = n} {slots = slots} {x = x} {to = to} {behind = behind} {rest = rest} {xs = xs} {under = under} {under' = under'} fn here is ls extra
        ops taken both h pl gt deep below) ps nums fit =
        let ih = sums table a.func fn us under under' below ps.1 nums.1 fit.1 in
        let o = one_apart a table g nums.0 f n slots x to behind rest xs fn ls extra ops taken is pl.place ps.0 fit.0 in
        let u = sum_by-cons (unwind_bound m) (suspended (Base m) a) (S us) in
        let r = sum_by-cons (rewind_bound m) (suspended (Base m) a) (S us) in
        record { unwinds = omega (arith, ih.0, o.0); rewinds = omega (arith, ih.1, o.1) }
