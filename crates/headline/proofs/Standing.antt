-- A suspended stack of numbered calls stands as frames.
use Rattle.std.proofs.Common.{◌≡◌, ℕ, suc, ◌+◌, ◌*◌, ◌^◌, ◌<◌, ◌≤◌, List, [], ◌∷◌, ◌++◌, length, map, Option, Some, Bool, true, refl, sym, ap, ◌∙◌, subst, arith, length-append}
use Rattle.std.proofs.lemmas.Option.{slice_get_within}
use Rattle.wa_types.specs.Base.{Base}
use Rattle.wa_types.specs.Bounds.{Weight, activation_bound, weight_of_found}
use Rattle.wa_types.specs.Frames.{Saved, Suspended, call_number, wanted}
use Rattle.wa_types.specs.Modules.{declared_locals, defined_at, func_type_at, locals_of, type_at}
use Rattle.wa_types.specs.Pausing.{Callee, Numbered, Settings, TellsMayPause, calls_of}
use Rattle.wa_types.specs.Runtime.{global_space}
use Rattle.wa_types.specs.Syntax.{Code, Func, Module}
use Rattle.wa_types.specs.Validity.{Valid}
use Rattle.wa_types.specs.declared.values.Value.{Value}
use Rattle.wa_model.specs.Configuration.{Activation, call_count, calls_outside, place_of, suspended, waiting}
use Rattle.run_theory.specs.Fitting.{types_of}
use Rattle.run_theory.specs.Flat.{followed_by, set_to}
use Rattle.wa_model.specs.Plan.{Plan}
use Rattle.wa_model.specs.Step.{param_count}
use Rattle.run_theory.proofs.FittingNames.{defined_type}
use Rattle.run_laws.specs.Ranges.{CodesIn}
use Rattle.flat_runs.specs.Beside.{AtZero}
use Rattle.frame_laws.specs.Function.{rewinding, unwinding}
use Rattle.frame_laws.specs.Stack.{AllKept, Level, slot_values}
use Rattle.frame_laws.specs.Suspended.{AllStandFor, Lays, StandsFor}
use Rattle.guard_form.specs.Bounds.{passing}
use Rattle.guard_form.specs.Functions.{ArmsHold, GuardedFunc, with_guards}
use Rattle.guard_form.specs.Numbers.{calls_behind}
use Rattle.guard_form.specs.Pieces.{Units, call_unit, first_piece, flat_units, units}
use Rattle.slim_laws.proofs.UnitsAlike.{units_alike}
use Rattle.slim_laws.specs.SlimModule.{flat_terms}
use Rattle.guard_form.specs.Places.{BodyPlace, Enclosing, flat_labels, in_a_block, in_a_loop}
use Rattle.guard_form.proofs.Grouped.{arms_law}
use Rattle.guard_runs.specs.Joined.{CallFrame, Uses, site_of, written_of}
use Rattle.guard_runs.specs.Levels.{FlatFieldsFit, MayStand, flat_waiting, levels_of}
use Rattle.guard_runs.specs.Alike.{Setting}
use Rattle.guard_runs.specs.Rewinding.{NoneBelow}
use Rattle.guard_runs.specs.Stopped.{Stopped, above, host}
use Rattle.headline.specs.FlatLaw.{AllLocalsFit, AllWeigh, LocalsFit}
use Rattle.headline.specs.World.{setting}
use Rattle.headline.specs.Core.{Core, CoreFits, world_of}
use Rattle.headline.proofs.Spaces.{func_type_same, funcs_are, grown_func_type}
use Rattle.headline.specs.Given.{Given}
use Rattle.headline.specs.CoreOf.{core_of}
use Rattle.headline.specs.EmittedModule.{Emitted, Framing, flat_of, guarded_of, role_at}
use Rattle.headline.specs.Framed.{FramedCalls, pause_cost}
use Rattle.headline.proofs.CallWeights.{args_weigh}
use Rattle.headline.proofs.FrameFacts as F
use Rattle.headline.proofs.NumberedStacks.{AllAtNumbers, AtNumber, space_below}
use Rattle.headline.proofs.OwnBlocks.{block_holds}
use Rattle.headline.proofs.PairedFlat.{base_defined, base_locals, core_fits}
use Rattle.headline.proofs.PairedStacks.{AllPairs, PairAt, call_frame_is}
use Rattle.headline.proofs.WantedFields.{lays, number_is}

-- labels above no operand are those of constructs above none
pub none_below : (f : GuardedFunc) (xs : List Enclosing) → AtZero (flat_labels f xs) → NoneBelow xs
none_below f [] h = tt
none_below f (in_a_block height k skipped skipped' behind rest ∷ xs) h = (h.0, none_below f xs h.2)
none_below f (in_a_loop height k0 first body k behind rest ∷ xs) h = (h.0, none_below f xs h.1)

pub the_guards : (x y : GuardedFunc) → with_guards x ≡ with_guards y → x ≡ y
the_guards x y e = cc

module _ (m : Module) (s : Settings) (which : List Bool) (frames : (index : ℕ) → Framing) (plan : Plan) (p : Module) (valid : Valid m) (tells : TellsMayPause m s which)
    (em : Emitted m s which frames p)
    (plan_fits : Given m plan) (codes : CodesIn (Base m)) (framed : FramedCalls m s which frames) where
  abbrev b : Module
  b = Base m

  abbrev k : Core
  k = core_of m s which frames plan p

  fits : CoreFits k
  fits = core_fits m s which frames plan p valid tells em plan_fits codes

  abbrev st : ℕ
  st = global_space m

  -- the frame of the call at this place
  abbrev frame : ℕ → ℕ → CallFrame
  frame x at = (frames x).frame_at at

  module _ (top : ℕ) where
    abbrev v : Setting
    v = setting (world_of k) top

    -- What is asked of an activation's level, but for the levels below.
    pub record LevelStands (a : Activation) (g : Func) (f : GuardedFunc) (l : CallFrame) (n : ℕ) (slots : List ℕ) (xs : List Enclosing) (ls more taken : List Value) : Type 0 where
      pub uses : Uses st f n l
      pub address : l.layout.address ≡ suc st
      pub scratch : l.layout.scratch ≡ suc f.size
      pub below : NoneBelow xs
      pub arms : ArmsHold f.body
      pub fields : FlatFieldsFit ls l.layout.fields
      pub small : n < 2 ^ 32
      pub kept : AllKept slots l.layout.fields
      pub took : taken ≡ slot_values ls slots []
      pub lays : Lays (wanted m g (suspended (Base m) a)) (ls ++ more) l.layout.fields (Saved m s.policy g (place_of (Some g) a.code a.labels))
      pub number : call_number m s which g (place_of (Some g) a.code a.labels) ≡ Some n
      pub weighs : param_count (func_type_at (Base m) a.func) + (pause_cost st f l + 1 + (2 * length slots + 1)) ≤ 128 * (Weight m g + 4)

    params_few : (x : ℕ) (f : Func) → defined_at b x ≡ Some f → param_count (func_type_at b x) ≤ length (locals_of m f)
    params_few x f e =
        let ty = ap param_count (defined_type b x f e) in
        let l = length-append (type_at b f.sort).params (declared_locals f.locals) in
        let same = ap length (base_locals m f) in
        omega arith

    module _ (a a' : Activation) (pr : PairAt (Base m) which a a') (table : List (Option ℕ)) (g : ℕ) (num : AtNumber m s which valid table g a) where
      abbrev gf : GuardedFunc
      gf = guarded_of m s which frames a.func num.func

      abbrev call_at : ℕ
      call_at = place_of (Some num.func) a.code a.labels

      is_defined : defined_at m a.func ≡ Some num.func
      is_defined = sym (base_defined m a.func) ∙ num.is

      -- in the names of the original
      pub level_here : (more : List Value) (fit : LocalsFit p a.func ((a.locals ++ pr.extra) ++ more)) (n : ℕ) (slots : List ℕ) (x : Callee) (to : Option ℕ) (behind : Code) (rest : Units)
          (xs : List Enclosing)
          → BodyPlace st gf n (call_unit slots x to behind rest) xs → length (calls_of (set_to to (followed_by behind (flat_units rest)))) + calls_behind (flat_labels gf xs)
          ≡ call_count a.code + calls_outside a.labels
          → NoneBelow xs → LevelStands a num.func gf (frame a.func call_at) n slots xs (a.locals ++ pr.extra) more a.taken
      level_here more fit n slots x to behind rest xs pl left none =
          let number = F.number m s which frames p valid em a a' pr table g num more fit st n slots x to behind rest xs pl left in
          let within = slice_get_within (Numbered m s which num.func) n (place_of (Some num.func) a.code a.labels) number in
          let few = em.few a.func num.func is_defined pr.told in
          let fr = framed a.func num.func is_defined pr.told n call_at number in
          let stacked = fr.stacked (types_of (a.taken ++ a.operands)) num.points in
          let cost = fr.cost in
          let args = F.took_args m s which frames p valid em a a' pr table g num more fit in
          let weigh = args_weigh m num.func (place_of (Some num.func) a.code a.labels) num.call num.at in
          let count = F.slots_few m s which frames p valid em a a' pr table g num more fit st n slots x to behind rest xs pl left in
          let params = params_few a.func num.func num.is in
          record {
            uses = record { index = fr.index; codes = fr.codes };
            address = fr.address;
            scratch = fr.scratch;
            below = none;
            arms =
                let ps = Numbered m s which num.func in
                let body = (flat_of m s which frames a.func num.func).body in
                let sp = em.slim a.func num.func num.is pr.told in
                let pieces = (frames a.func).pieces in (
                  block_holds st gf pieces.first pieces.units (flat_of m s which frames a.func num.func).result n slots x to behind rest xs refl pl,
                  (units_alike (flat_terms (Base m) ps a.func num.func) 0 (sp.out ∷ []) sp.out sp.here [] (first_piece ps 0 body) pieces.first (units ps 0 body) pieces.units sp.slim).arms
                      (arms_law ps 0 body),
                  tt,
                );
            fields = subst (FlatFieldsFit (a.locals ++ pr.extra)) (sym fr.fields) (F.fields m s which frames p valid em a a' pr table g num more fit fr.keep);
            small = omega arith;
            kept = subst (AllKept slots) (sym fr.fields) (F.kept_slots m s which frames p valid em a a' pr table g num more fit st n slots x to behind rest xs pl left fr.keep stacked);
            took = F.took m s which frames p valid em a a' pr table g num more fit st n slots x to behind rest xs pl left;
            lays =
                subst (λ fs. Lays (wanted m num.func (suspended (Base m) a)) ((a.locals ++ pr.extra) ++ more) fs (Saved m s.policy num.func (place_of (Some num.func) a.code a.labels))) (sym fr.fields)
                (lays m s which frames p valid em a a' pr table g num more fit fr.keep fr.own stacked);
            number = number_is m s which num.func n (place_of (Some num.func) a.code a.labels) number;
            weighs = omega arith;
          }

    abbrev Stands : {g : ℕ} {vs ws : List Activation} → List Activation → Stopped v g vs ws → Type 0
    Stands us d = MayStand v k.lay d × AllStandFor m s which (levels_of v k.lay d) (map (suspended (Base m)) us)
        × AllWeigh m (param_count (func_type_at v.flat top)) (levels_of v k.lay d) (map (suspended (Base m)) us)

    abbrev cost_of : Level → ℕ
    cost_of w = unwinding w.fn w.out + 1 + (2 * length w.site.slots + 1) + rewinding w.fn w.seek

    abbrev IsSome : List Level → Type 0
    IsSome [] = ⊥
    IsSome (w ∷ ws) = Unit {0}

    no_rest : (n : ℕ) (ws : List Level) → IsSome ws → AllWeigh m n ws [] → ⊥
    no_rest n [] some h = some
    no_rest n (w ∷ []) some h = h
    no_rest n (w ∷ x ∷ ws) some h = h

    -- the outermost function's arguments beside
    weigh_on : (fn : ℕ) (under under' : List Activation) (below : Stopped v fn under under') (w : Level) (act : Suspended) (rest : List Suspended)
        → param_count (func_type_at v.flat fn) + cost_of w ≤ activation_bound m act
        → AllWeigh m (param_count (func_type_at v.flat top)) (levels_of v k.lay below) rest → AllWeigh m (param_count (func_type_at v.flat top)) (w ∷ levels_of v k.lay below) (act ∷ rest)
    weigh_on fn _ _ (host e) w act [] le ih = let z = ap (λ x. param_count (func_type_at v.flat x)) e in omega arith
    weigh_on fn _ _ (host e) w act (x ∷ rest) le ih = absurd ih
    weigh_on fn _ _ (above fn2 here is ls extra ops taken both h pl gt deep below) w act [] le ih =
        absurd (no_rest (param_count (func_type_at v.flat top)) (levels_of v k.lay (above fn2 here is ls extra ops taken both h pl gt deep below)) tt ih)
    weigh_on fn _ _ (above fn2 here is ls extra ops taken both h pl gt deep below) w act (x ∷ rest) le ih = (omega arith, ih)

    params_same : (x : ℕ) (f : Func) → defined_at b x ≡ Some f → param_count (func_type_at v.flat x) ≡ param_count (func_type_at (Base m) x)
    params_same x f e =
        ap param_count (grown_func_type k fits x (subst (λ i. x < i) (sym (funcs_are k fits)) (space_below m valid x f e)) ∙ func_type_same k fits x)

    module _ (a : Activation) (table : List (Option ℕ)) (g : ℕ) (num : AtNumber m s which valid table g a) (f : GuardedFunc) (n : ℕ) (slots : List ℕ) (x : Callee) (to : Option ℕ)
        (behind : Code) (rest : Units) (xs : List Enclosing)
        (fn : ℕ) (ls extra ops taken : List Value) (is : v.role fn ≡ with_guards f) (pl : BodyPlace st f n (call_unit slots x to behind rest) xs)
        (pr : PairAt (Base m) which a (waiting fn ls ops taken (set_to to (followed_by behind (flat_units rest))) (flat_labels f xs))) (fit : LocalsFit p fn (ls ++ extra)) where
      defined : defined_at m a.func ≡ Some num.func
      defined = sym (base_defined m a.func) ∙ num.is

      func_is : fn ≡ a.func
      func_is = pr.same_func

      f_is : guarded_of m s which frames a.func num.func ≡ f
      f_is =
          the_guards (guarded_of m s which frames a.func num.func) f
          (sym (ap (λ t. role_at m s which frames t a.func (defined_at m a.func)) pr.told ∙ ap (λ o. role_at m s which frames true a.func o) defined)
          ∙ subst (λ y. v.role y ≡ with_guards f) func_is is)

      -- the flat activation, and the frame of its call
      abbrev act : Activation
      act = flat_waiting fn f to behind rest xs ls ops taken

      lay_is : frame a.func (place_of (Some num.func) a.code a.labels) ≡ k.lay act
      lay_is = sym (call_frame_is m s which frames plan p a act pr num.func defined)

      level : LevelStands a num.func f (k.lay act) n slots xs ls extra taken
      level =
          let gf = guarded_of m s which frames a.func num.func in
          let here = level_here a (waiting fn ls ops taken (set_to to (followed_by behind (flat_units rest))) (flat_labels f xs)) pr table g num extra
          (subst (λ zs. LocalsFit p a.func (zs ++ extra)) pr.locals (subst (λ y. LocalsFit p y (ls ++ extra)) func_is fit)) n slots x to behind rest xs
          (subst (λ z. BodyPlace st z n (call_unit slots x to behind rest) xs) (sym f_is) pl)
          (subst (λ z. length (calls_of (set_to to (followed_by behind (flat_units rest)))) + calls_behind (flat_labels z xs) ≡ call_count a.code + calls_outside a.labels) (sym f_is) pr.left)
          (none_below f xs pr.zero) in
          subst (λ t. LevelStands a num.func f (k.lay act) n slots xs ls extra t) (sym pr.same_taken)
          (subst (λ zs. LevelStands a num.func f (k.lay act) n slots xs zs extra a.taken) (sym pr.locals)
          (subst (λ l. LevelStands a num.func f l n slots xs (a.locals ++ pr.extra) extra a.taken) lay_is
          (subst (λ z. LevelStands a num.func z (frame a.func (place_of (Some num.func) a.code a.labels)) n slots xs (a.locals ++ pr.extra) extra a.taken) f_is here)))

      place_same : place_of (Some num.func) a.code a.labels ≡ (suspended (Base m) a).place
      place_same = ap (λ o. place_of o a.code a.labels) (sym num.is)

      for_level : (w : Level) → w.locals ≡ ls ++ extra → w.fn.layout.fields ≡ (k.lay act).layout.fields → w.site.number ≡ n → StandsFor m s which w (suspended (Base m) a)
      for_level w e1 e2 e3 = record {
        func = num.func;
        defined = defined;
        lays = subst (λ zs. Lays (wanted m num.func (suspended (Base m) a)) zs w.fn.layout.fields (Saved m s.policy num.func (suspended (Base m) a).place)) (sym e1)
            (subst (λ fs. Lays (wanted m num.func (suspended (Base m) a)) (ls ++ extra) fs (Saved m s.policy num.func (suspended (Base m) a).place)) (sym e2)
            (subst (λ q. Lays (wanted m num.func (suspended (Base m) a)) (ls ++ extra) (k.lay act).layout.fields (Saved m s.policy num.func q)) place_same level.lays));
        number = ap (call_number m s which num.func) (sym place_same) ∙ level.number ∙ ap (λ i. Some i) (sym e3);
      }

      bound_is : activation_bound m (suspended (Base m) a) ≡ 128 * (Weight m num.func + 4)
      bound_is = ap (λ o. 128 * (weight_of_found m o + 4)) defined

      params_are : param_count (func_type_at v.flat fn) ≡ param_count (func_type_at (Base m) a.func)
      params_are = ap (λ y. param_count (func_type_at v.flat y)) func_is ∙ params_same a.func num.func num.is

      weighs_enough : param_count (func_type_at v.flat fn)
          + (unwinding (written_of st f (k.lay act)) 4 + 1 + (2 * length slots + 1) + rewinding (written_of st f (k.lay act)) (passing f.first f.body + 3)) ≤ activation_bound m (suspended (Base m) a)
      weighs_enough = let w = level.weighs in let e = bound_is in let q = params_are in omega arith

    abbrev level_at : (fn : ℕ) (f : GuardedFunc) (n h : ℕ) (slots : List ℕ) (x : Callee) (to : Option ℕ) (behind : Code) (rest : Units) (xs : List Enclosing) (ls extra ops taken : List Value) → Level
    level_at fn f n h slots x to behind rest xs ls extra ops taken = record {
      func = fn;
      fn = written_of st f (k.lay (flat_waiting fn f to behind rest xs ls ops taken));
      site = site_of st f n h slots x to behind rest xs;
      locals = ls ++ extra;
      ops = ops;
      taken = taken;
      out = 4;
      seek = passing f.first f.body + 3;
    }

    pub stands_so : (table : List (Option ℕ)) (g c : ℕ) (us vs ws : List Activation) (d : Stopped v c vs ws) → AllPairs (Base m) which us vs → AllAtNumbers m s which valid table g us
        → AllLocalsFit p ws → Stands us d
    stands_so table g c [] _ _ (host e) ps nums fit = (tt, tt, tt)
    stands_so table g c (a ∷ us) _ _ (host e) ps nums fit = absurd ps
    stands_so table g c [] _ _ (above fn here is ls extra ops taken both h pl gt deep below) ps nums fit = absurd ps
    stands_so table g c (a ∷ us) _ _ (above {f = f} {k = n} {slots = slots} {x = x} {to = to} {behind = behind} {rest = rest} {xs = xs} {under = under} {under' = under'} fn here is ls extra
        ops taken both h pl gt deep below) ps nums fit =
        let ih = stands_so table a.func fn us under under' below ps.1 nums.1 fit.1 in
        let lv = level a table g nums.0 f n slots x to behind rest xs fn ls extra ops taken is pl.place ps.0 fit.0 in
        let enough = weighs_enough a table g nums.0 f n slots x to behind rest xs fn ls extra ops taken is pl.place ps.0 fit.0 in
        let f0 = fit.0 in (
          ((f0.found, f0.is), lv.uses, lv.address, lv.scratch, lv.below, lv.arms, lv.fields, lv.small, lv.kept, lv.took, ih.0),
          (for_level a table g nums.0 f n slots x to behind rest xs fn ls extra ops taken is pl.place ps.0 fit.0 (level_at fn f n h slots x to behind rest xs ls extra ops taken) refl refl refl, ih.1),
          weigh_on fn under under' below (level_at fn f n h slots x to behind rest xs ls extra ops taken) (suspended (Base m) a) (map (suspended (Base m)) us) enough ih.2,
        )
