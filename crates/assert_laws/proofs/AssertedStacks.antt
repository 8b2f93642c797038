-- Suspended stacks of numbered calls with asserts stand as frames, and come back.
use Rattle.std.proofs.Common.{◌≡◌, ◌∙◌, ℕ, suc, ◌+◌, ◌-◌, ◌*◌, ◌≤◌, ◌<◌, List, [], ◌∷◌, ◌++◌, length, map, Option, Some, None, Bool, true, All, refl, sym, ap, subst, arith}
use Rattle.std.specs.Prelude.{not, slice_get}
use Rattle.wa_types.specs.Base.{Base}
use Rattle.wa_types.specs.Bounds.{Weight, activation_bound, weight_of_found}
use Rattle.wa_types.specs.Frames.{Saved, Suspended, call_number, wanted}
use Rattle.wa_types.specs.Modules.{defined_at, func_type_at, locals_of}
use Rattle.wa_types.specs.Pausing.{Callee, Settings, TellsMayPause, calls_in, calls_of, has_number, is_told}
use Rattle.wa_types.specs.Runtime.{global_space}
use Rattle.wa_types.specs.Syntax.{Code, Func, Module}
use Rattle.wa_types.specs.Validity.{Valid}
use Rattle.wa_types.specs.declared.values.Value.{Value}
use Rattle.wa_model.specs.Behaves.{StandsNumbered}
use Rattle.wa_model.specs.Configuration.{Activation, Configuration, Label, place_of, stack_of, suspended, waiting}
use Rattle.run_theory.specs.Flat.{followed_by, set_to}
use Rattle.wa_model.specs.Plan.{Plan}
use Rattle.wa_model.specs.Step.{param_count}
use Rattle.run_laws.specs.Ranges.{CodesIn}
use Rattle.flat_runs.specs.Beside.{AtZero}
use Rattle.slim_laws.specs.Beside.{moved}
use Rattle.frame_laws.specs.Function.{FrameCodes, unwinding, rewinding}
use Rattle.frame_laws.specs.Stack.{Level}
use Rattle.frame_laws.specs.Suspended.{AllStandFor, Lays, StandsFor}
use Rattle.guard_form.specs.Bounds.{passing}
use Rattle.guard_form.specs.Functions.{GuardedFunc, Role, with_guards}
use Rattle.guard_form.specs.Numbers.{calls_behind}
use Rattle.guard_form.specs.Pieces.{Units, no_unit, call_unit, nest_unit, if_unit, flat_units}
use Rattle.guard_form.specs.Places.{BodyPlace, Enclosing, flat_labels}
use Rattle.guard_form.proofs.Counting.{calls_set}
use Rattle.guard_runs.specs.Alike.{Setting}
use Rattle.guard_runs.specs.Joined.{CallFrame, site_of, written_of}
use Rattle.guard_runs.specs.Levels.{MayStand, flat_waiting, levels_of}
use Rattle.guard_runs.specs.Rewinding.{NoneBelow}
use Rattle.guard_runs.specs.Returned.{AllSameFlat, SameFlat}
use Rattle.guard_runs.specs.Stopped.{AllNumbered, Stopped}
use Rattle.guard_runs.specs.Stopped as S
use Rattle.headline.specs.FlatLaw.{AllLocalsFit, AllWeigh, FlatAgain, LocalsFit}
use Rattle.headline.specs.World.{World, setting}
use Rattle.headline.specs.Core.{Core, CoreFits, world_of}
use Rattle.headline.specs.Links.{GoodStore, LinkedWaits}
use Rattle.headline.specs.Links as N
use Rattle.headline.proofs.Spaces.{func_type_same, funcs_are, grown_func_type}
use Rattle.guard_form.specs.Asserts.{asserted, tested_behind}
use Rattle.guard_form.proofs.AssertedCode as C
use Rattle.assert_laws.specs.Beside.{Asked, LabelsToo, no_label, in_block, in_loop, Sides, Together, Unders, bottom, above, Waits, waits}
use Rattle.assert_laws.proofs.TestedCalls.{labels_calls, tested_calls}
use Rattle.assert_laws.specs.AssertedUnits.{asserted_units}
use Rattle.assert_laws.specs.Links.{assert_sides, LinkedBeside, StackLaw, WaitsBeside, with_asserts}
use Rattle.assert_laws.proofs.Carrying.{goes_too}
use Rattle.headline.specs.Given.{Given}
use Rattle.headline.specs.CoreOf.{RunsBeside, WaitsBeside as SlimWaits, call_place, core_of}
use Rattle.headline.specs.EmittedModule.{Emitted, Framing, guarded_of, role_at}
use Rattle.headline.specs.Framed.{FramedCalls, pause_cost}
use Rattle.headline.proofs.NumberedStacks.{AllAtNumbers, AtNumber, space_below}
use Rattle.headline.proofs.PairedFlat.{base_defined, core_fits}
use Rattle.headline.proofs.PairedStacks.{AllPairs, PairAt, call_frame_is}
use Rattle.headline.proofs.Standing.{LevelStands, level_here, none_below, the_guards}
use Rattle.headline.proofs.MovedStacks.{moved_all}
use Rattle.headline.proofs.WaitsAgain.{AllMore, numbers, numbers_at, pairs_at, written_fit}
use Rattle.assert_laws.specs.AssertedRoles.{asserted_guards, asserted_role}
use Rattle.assert_laws.proofs.AssertedPlaces.{EnclosingToo, none_around, block_around, loop_around, arms_too, labels_left, passing_same, piece_calls, plain_place}

-- the written functions with asserts have the locals of those without
abbrev pub SameLocals : (p0 p : Module) → Type 0
SameLocals p0 p = (x : ℕ) (g : Func) → defined_at p x ≡ Some g → (g0 : Func) × (defined_at p0 x ≡ Some g0) × (locals_of p0 g0 ≡ locals_of p g)

-- constructs above none
none_plain : (t : Callee → Bool) (st : ℕ) (xs ys : List Enclosing) → EnclosingToo t st xs ys → NoneBelow ys → NoneBelow xs
none_plain t st _ _ none_around h = tt
none_plain t st _ _ (block_around {xs = xs} {ys = ys} h k sk sk' sk2 sk2' behind rest same en) n = (n.0, none_plain t st xs ys en n.1)
none_plain t st _ _ (loop_around {xs = xs} {ys = ys} h k0 first body k behind rest en) n = (n.0, none_plain t st xs ys en n.1)

zero_too : (t : Callee → Bool) (st : ℕ) (ls ls' : List Label) → LabelsToo t st ls ls' → AtZero ls → AtZero ls'
zero_too t st _ _ no_label h = tt
zero_too t st _ _ (in_block {labels = ls} {labels' = ls'} hh arity sk sk' same tr la) h = (h.0, h.1, zero_too t st ls ls' la h.2)
zero_too t st _ _ (in_loop {labels = ls} {labels' = ls'} hh tb tr la) h = (h.0, zero_too t st ls ls' la h.1)

-- an activation with these parts
act_is : (c : Activation) (fn : ℕ) (ls ops taken : List Value) (code : Code) (labels : List Label) → c.func ≡ fn → c.locals ≡ ls → c.operands ≡ ops → c.taken ≡ taken → c.code ≡ code → c.labels ≡ labels
    → waiting fn ls ops taken code labels ≡ c
act_is c fn ls ops taken code labels e1 e2 e3 e4 e5 e6 =
    ap (λ z. waiting z ls ops taken code labels) (sym e1) ∙ ap (λ z. waiting c.func z ops taken code labels) (sym e2) ∙ ap (λ z. waiting c.func c.locals z taken code labels) (sym e3)
    ∙ ap (λ z. waiting c.func c.locals c.operands z code labels) (sym e4) ∙ ap (λ z. waiting c.func c.locals c.operands c.taken z labels) (sym e5)
    ∙ ap (λ z. waiting c.func c.locals c.operands c.taken c.code z) (sym e6)

-- the codes of frames don't look at the body
codes_too : (t : Callee → Bool) (st : ℕ) (f : GuardedFunc) (l : CallFrame) (n : ℕ) → FrameCodes (written_of st f l) n → FrameCodes (written_of st (asserted_guards t st f) l) n
codes_too t st f l n c = record {
  puts = λ g area p fn under labels s ls loc at fits sav. let r = c.puts g area p fn under labels s ls loc at fits sav in record { after = r.after; pushed = r.pushed; locals = r.locals; goes = r.goes };
  overflows = c.overflows;
  takes = λ g area p fn under labels s old ls loc next at low holds fits few long.
      let r = c.takes g area p fn under labels s old ls loc next at low holds fits few long in record { locals = r.locals; restored = r.restored; after = r.after; lowered = r.lowered; goes = r.goes };
}

-- the unit of a call
record CallIs (t : Callee → Bool) (st : ℕ) (f : GuardedFunc) (n : ℕ) (slots : List ℕ) (x : Callee) (to : Option ℕ) (behind2 : Code) (rest2 : Units) (xs : List Enclosing) : Type 0 where
  behind : Code
  rest : Units
  place : BodyPlace st f n (call_unit slots x to behind rest) xs
  behind_is : asserted t st behind ≡ behind2
  rest_is : asserted_units t st rest ≡ rest2

call_is : (t : Callee → Bool) (st : ℕ) (f : GuardedFunc) (n : ℕ) (slots : List ℕ) (x : Callee) (to : Option ℕ) (behind2 : Code) (rest2 : Units) (xs : List Enclosing) (us : Units)
    → asserted_units t st us ≡ call_unit slots x to behind2 rest2 → BodyPlace st f n us xs → CallIs t st f n slots x to behind2 rest2 xs
call_is t st f n slots x to behind2 rest2 xs no_unit e pl = cc
call_is t st f n slots x to behind2 rest2 xs (call_unit slots1 x1 to1 behind1 rest1) e pl =
    let e1 : slots1 ≡ slots = cc in
    let e2 : x1 ≡ x = cc in
    let e3 : to1 ≡ to = cc in
    record {
      behind = behind1;
      rest = rest1;
      place =
          subst (λ z. BodyPlace st f n (call_unit slots x z behind1 rest1) xs) e3
          (subst (λ z. BodyPlace st f n (call_unit slots z to1 behind1 rest1) xs) e2 (subst (λ z. BodyPlace st f n (call_unit z x1 to1 behind1 rest1) xs) e1 pl));
      behind_is = cc;
      rest_is = cc;
    }
call_is t st f n slots x to behind2 rest2 xs (nest_unit s first body behind rest) e pl = cc
call_is t st f n slots x to behind2 rest2 xs (if_unit c fa a fb b behind rest) e pl = cc

-- what came back without asserts, from what stands behind the flat locals
abbrev pub AgainMore : (m : Module) (s : Settings) (which : List Bool) (frames : (index : ℕ) → Framing) (plan : Plan) (p0 : Module) → (Live : Configuration → Configuration → Type 0) → Type 0
AgainMore m s which frames plan p0 Live =
    (top i : ℕ) (d f : Configuration) (a : Activation) (us : List Activation) → LinkedWaits (core_of m s which frames plan p0) (RunsBeside m s which frames plan p0) (SlimWaits m s which frames plan p0) i d f
    → All (StandsNumbered m s which) (stack_of (Base m) d)
    → AllSameFlat (core_of m s which frames plan p0).lay (f.here ∷ f.under) (a ∷ us) → AllMore p0 (a ∷ us)
    → FlatAgain (world_of (core_of m s which frames plan p0)) Live (N.L (core_of m s which frames plan p0) (RunsBeside m s which frames plan p0) (SlimWaits m s which frames plan p0))
    (N.W (core_of m s which frames plan p0) (RunsBeside m s which frames plan p0) (SlimWaits m s which frames plan p0)) (GoodStore (core_of m s which frames plan p0)) top i d f a us

module _ (m : Module) (s : Settings) (which : List Bool) (frames : (index : ℕ) → Framing) (plan : Plan) (p0 : Module) (valid : Valid m) (tells : TellsMayPause m s which)
    (em : Emitted m s which frames p0) (plan_fits : Given m plan) (codes : CodesIn (Base m)) (q p : Module)
    (ok : Together (assert_sides (world_of (core_of m s which frames plan p0)) q)) (back : SameLocals p0 p) where
  abbrev pub k : Core
  k = core_of m s which frames plan p0

  abbrev pub w : World
  w = world_of (core_of m s which frames plan p0)

  abbrev pub tests : Callee → Bool
  tests = λ x. not (has_number m s which x)

  abbrev pub st : ℕ
  st = global_space m

  abbrev pub role2 : ℕ → Role
  role2 = λ x. asserted_role (λ x. not (has_number m s which x)) (global_space m) (role_at m s which frames (is_told (slice_get which x)) x (defined_at m x))

  abbrev pub w2 : World
  w2 = with_asserts (world_of (core_of m s which frames plan p0)) q p role2 (core_of m s which frames plan p0).lay

  abbrev pub sd : Sides
  sd = assert_sides (world_of (core_of m s which frames plan p0)) q

  fits : CoreFits k
  fits = core_fits m s which frames plan p0 valid tells em plan_fits codes

  -- ---- what waits on both sides

  waits_calls : (x : Callee) (rest rest' : Code) → Rattle.assert_laws.specs.Beside.Tested tests st rest rest' → calls_of (tested_behind tests st (Some x) rest') ≡ calls_of rest
  waits_calls x rest rest' t = C.calls_behind tests st (Some x) rest' ∙ tested_calls tests st rest rest' t

  pair_too : (g : ℕ) (a v f : Activation) → Waits sd g v f → PairAt (Base m) which a v → PairAt (Base m) which a f
  pair_too g a _ _ (waits {rest = rest} {rest' = rest'} {labels = labels} {labels' = labels'} fn ls ops taken x ci t la) pr = record {
    told = pr.told;
    same_func = pr.same_func;
    none = pr.none;
    same_taken = pr.same_taken;
    zero = zero_too tests st labels labels' la pr.zero;
    func = pr.func;
    is = pr.is;
    extra = pr.extra;
    locals = pr.locals;
    held = pr.held;
    left = let e1 = ap length (waits_calls x rest rest' t) in let e2 = labels_calls tests st labels labels' la in let e3 = pr.left in omega arith;
  }

  pub pairs_asserted : (g : ℕ) (us vs fs : List Activation) → Unders sd g vs fs → AllPairs (Base m) which us vs → AllPairs (Base m) which us fs
  pairs_asserted g [] _ _ bottom ps = tt
  pairs_asserted g (a ∷ us) _ _ bottom ps = absurd ps
  pairs_asserted g [] _ _ (above wt un) ps = absurd ps
  pairs_asserted g (a ∷ us) _ _ (above {a = v} {a' = f} {under = vs} {under' = fs} wt un) ps = (pair_too g a v f wt ps.0, pairs_asserted v.func us vs fs un ps.1)

  -- the frame of a call is the same
  lay_same : (g : ℕ) (v f : Activation) → Waits sd g v f → k.lay f ≡ k.lay v
  lay_same g _ _ (waits {rest = rest} {rest' = rest'} {labels = labels} {labels' = labels'} fn ls ops taken x ci t la) = ap (frames fn).frame_at (by (defined_at m fn))
    where
      by : (o : Option Func) → call_place o (waiting fn ls ops taken (tested_behind tests st (Some x) rest') labels') ≡ call_place o (waiting fn ls ops taken rest labels)
      by None = refl
      by (Some fu) =
          let e1 = ap length (waits_calls x rest rest' t) in
          let e2 = labels_calls tests st labels labels' la in
          let e3 : length (calls_of (tested_behind tests st (Some x) rest')) + calls_behind labels' ≡ length (calls_of rest) + calls_behind labels = omega arith in
          ap (λ n. length (calls_in fu) - suc n) e3

  pub numbers_asserted : (top g : ℕ) (vs fs : List Activation) → Unders sd g vs fs → AllNumbered (setting w top) g vs → AllNumbered (setting w2 top) g fs
  numbers_asserted top g _ _ bottom h = tt
  numbers_asserted top g _ _ (above {under = vs} {under' = fs} (waits fn ls ops taken x ci t la) un) h =
      (λ c goes. h.0 c (goes_too w q p role2 k.lay top ok g taken c goes), numbers_asserted top fn vs fs un h.1)

  -- ---- as frames

  fit_back : (x : ℕ) (zs : List Value) → LocalsFit p x zs → LocalsFit p0 x zs
  fit_back x zs f = let b = back x f.found f.is in record { found = b.0; is = b.1; typed = f.typed ∙ sym b.2; ranges = f.ranges }

  module _ (framed : FramedCalls m s which frames) (top : ℕ) where
    abbrev v2 : Setting
    v2 = setting w2 top

    abbrev LS : Activation → Func → GuardedFunc → CallFrame → ℕ → List ℕ → List Enclosing → (ls more taken : List Value) → Type 0
    LS = LevelStands m s which frames plan p0 valid tells em plan_fits codes framed top

    asserted_level : (a : Activation) (g : Func) (f : GuardedFunc) (l : CallFrame) (n : ℕ) (slots : List ℕ) (xs ys : List Enclosing) (ls more taken : List Value) → NoneBelow ys
        → LS a g f l n slots xs ls more taken → LS a g (asserted_guards tests st f) l n slots ys ls more taken
    asserted_level a g f l n slots xs ys ls more taken none h = record {
      uses = record { index = h.uses.index; codes = codes_too tests st f l n h.uses.codes };
      address = h.address;
      scratch = h.scratch;
      below = none;
      arms = arms_too tests st f.body h.arms;
      fields = h.fields;
      small = h.small;
      kept = h.kept;
      took = h.took;
      lays = h.lays;
      number = h.number;
      weighs =
          let e = passing_same tests st f.first f.body in
          let c : pause_cost st (asserted_guards tests st f) l ≡ pause_cost st f l = ap (λ n. unwinding (written_of st f l) 4 + rewinding (written_of st f l) (n + 3)) e in
          subst (λ z. param_count (func_type_at (Base m) a.func) + (z + 1 + (2 * length slots + 1)) ≤ 128 * (Weight m g + 4)) (sym c) h.weighs;
    }

    module _ (a : Activation) (table : List (Option ℕ)) (g : ℕ) (num : AtNumber m s which valid table g a) (f2 : GuardedFunc) (n : ℕ) (slots : List ℕ) (x : Callee) (to : Option ℕ)
        (behind2 : Code) (rest2 : Units) (ys : List Enclosing)
        (fn : ℕ) (ls extra ops taken : List Value) (is : role2 fn ≡ with_guards f2) (pl : BodyPlace st f2 n (call_unit slots x to behind2 rest2) ys)
        (pr : PairAt (Base m) which a (waiting fn ls ops taken (set_to to (followed_by behind2 (flat_units rest2))) (flat_labels f2 ys))) (fit : LocalsFit p fn (ls ++ extra)) where
      defined : defined_at m a.func ≡ Some num.func
      defined = sym (base_defined m a.func) ∙ num.is

      abbrev gf : GuardedFunc
      gf = guarded_of m s which frames a.func num.func

      f_is : asserted_guards tests st (guarded_of m s which frames a.func num.func) ≡ f2
      f_is =
          the_guards (asserted_guards tests st gf) f2
          (sym (ap (λ t. asserted_role tests st (role_at m s which frames t a.func (defined_at m a.func))) pr.told ∙ ap (λ o. asserted_role tests st (role_at m s which frames true a.func o)) defined)
          ∙ subst (λ y. asserted_role tests st (role_at m s which frames (is_told (slice_get which y)) y (defined_at m y)) ≡ with_guards f2) pr.same_func is)

      abbrev act : Activation
      act = flat_waiting fn f2 to behind2 rest2 ys ls ops taken

      lay_is : (frames a.func).frame_at (place_of (Some num.func) a.code a.labels) ≡ k.lay act
      lay_is = sym (call_frame_is m s which frames plan p0 a act pr num.func defined)

      level : LS a num.func f2 (k.lay act) n slots ys ls extra taken
      level =
          let pp = plain_place tests st gf n (call_unit slots x to behind2 rest2) ys (subst (λ z. BodyPlace st z n (call_unit slots x to behind2 rest2) ys) (sym f_is) pl) in
          let ci = call_is tests st gf n slots x to behind2 rest2 pp.xs pp.us pp.are pp.place in
          let none = none_below f2 ys pr.zero in
          let e1 : calls_of (set_to to (followed_by behind2 (flat_units rest2))) ≡ calls_of (set_to to (followed_by ci.behind (flat_units ci.rest))) =
          calls_set to (followed_by behind2 (flat_units rest2)) ∙ ap (λ z. calls_of (followed_by z (flat_units rest2))) (sym ci.behind_is)
          ∙ ap (λ z. calls_of (followed_by (asserted tests st ci.behind) (flat_units z))) (sym ci.rest_is) ∙ piece_calls tests st ci.behind ci.rest
          ∙ sym (calls_set to (followed_by ci.behind (flat_units ci.rest))) in
          let e2 : calls_behind (flat_labels f2 ys) ≡ calls_behind (flat_labels gf pp.xs) =
          ap (λ z. calls_behind (flat_labels z ys)) (sym f_is) ∙ labels_left tests st gf pp.xs ys pp.around in
          let e3 = pr.left in
          let e4 = ap length e1 in
          let here = level_here m s which frames plan p0 valid tells em plan_fits codes framed top a act pr table g num extra
          (subst (λ zs. LocalsFit p0 a.func (zs ++ extra)) pr.locals (subst (λ y. LocalsFit p0 y (ls ++ extra)) pr.same_func (fit_back fn (ls ++ extra) fit))) n slots x to ci.behind ci.rest pp.xs
          ci.place (omega arith) (none_plain tests st pp.xs ys pp.around none) in
          let l1 = asserted_level a num.func gf ((frames a.func).frame_at (place_of (Some num.func) a.code a.labels)) n slots pp.xs ys (a.locals ++ pr.extra) extra a.taken none here in
          subst (λ t. LS a num.func f2 (k.lay act) n slots ys ls extra t) (sym pr.same_taken)
          (subst (λ zs. LS a num.func f2 (k.lay act) n slots ys zs extra a.taken) (sym pr.locals)
          (subst (λ l. LS a num.func f2 l n slots ys (a.locals ++ pr.extra) extra a.taken) lay_is
          (subst (λ z. LS a num.func z ((frames a.func).frame_at (place_of (Some num.func) a.code a.labels)) n slots ys (a.locals ++ pr.extra) extra a.taken) f_is l1)))

      place_same : place_of (Some num.func) a.code a.labels ≡ (suspended (Base m) a).place
      place_same = ap (λ o. place_of o a.code a.labels) (sym num.is)

      for_level : (w : Level) → w.locals ≡ ls ++ extra → w.fn.layout.fields ≡ (k.lay act).layout.fields → w.site.number ≡ n → StandsFor m s which w (suspended (Base m) a)
      for_level w e1 e2 e3 = record {
        func = num.func;
        defined = defined;
        lays = subst (λ zs. Lays (wanted m num.func (suspended (Base m) a)) zs w.fn.layout.fields (Saved m s.policy num.func (suspended (Base m) a).place)) (sym e1)
            (subst (λ fs. Lays (wanted m num.func (suspended (Base m) a)) (ls ++ extra) fs (Saved m s.policy num.func (suspended (Base m) a).place)) (sym e2)
            (subst (λ q. Lays (wanted m num.func (suspended (Base m) a)) (ls ++ extra) (k.lay act).layout.fields (Saved m s.policy num.func q)) place_same level.lays));
        number = ap (call_number m s which num.func) (sym place_same) ∙ level.number ∙ ap (λ i. Some i) (sym e3);
      }

      bound_is : activation_bound m (suspended (Base m) a) ≡ 128 * (Weight m num.func + 4)
      bound_is = ap (λ o. 128 * (weight_of_found m o + 4)) defined

      params_are : param_count (func_type_at q fn) ≡ param_count (func_type_at (Base m) a.func)
      params_are =
          ap (λ y. param_count (func_type_at q y)) pr.same_func ∙ ap param_count (ok.func_type a.func)
          ∙ ap param_count (grown_func_type k fits a.func (subst (λ i. a.func < i) (sym (funcs_are k fits)) (space_below m valid a.func num.func num.is)) ∙ func_type_same k fits a.func)

      weighs_enough : param_count (func_type_at q fn)
          + (unwinding (written_of st f2 (k.lay act)) 4 + 1 + (2 * length slots + 1) + rewinding (written_of st f2 (k.lay act)) (passing f2.first f2.body + 3)) ≤ activation_bound m (suspended (Base m) a)
      weighs_enough = let w = level.weighs in let e = bound_is in let q = params_are in omega arith

    abbrev pub Stands : {g : ℕ} {vs ws : List Activation} → List Activation → Stopped (setting w2 top) g vs ws → Type 0
    Stands us d = MayStand (setting w2 top) k.lay d × AllStandFor m s which (levels_of (setting w2 top) k.lay d) (map (suspended (Base m)) us)
        × AllWeigh m (param_count (func_type_at q top)) (levels_of (setting w2 top) k.lay d) (map (suspended (Base m)) us)

    abbrev cost_of : Level → ℕ
    cost_of w = unwinding w.fn w.out + 1 + (2 * length w.site.slots + 1) + rewinding w.fn w.seek

    abbrev IsSome : List Level → Type 0
    IsSome [] = ⊥
    IsSome (w ∷ ws) = Unit {0}

    no_rest : (n : ℕ) (ws : List Level) → IsSome ws → AllWeigh m n ws [] → ⊥
    no_rest n [] some h = some
    no_rest n (w ∷ []) some h = h
    no_rest n (w ∷ x ∷ ws) some h = h

    weigh_on : (fn : ℕ) (under under' : List Activation) (below : Stopped v2 fn under under') (w : Level) (act : Suspended) (rest : List Suspended)
        → param_count (func_type_at q fn) + cost_of w ≤ activation_bound m act
        → AllWeigh m (param_count (func_type_at q top)) (levels_of v2 k.lay below) rest → AllWeigh m (param_count (func_type_at q top)) (w ∷ levels_of v2 k.lay below) (act ∷ rest)
    weigh_on fn _ _ (S.host e) w act [] le ih = let z = ap (λ x. param_count (func_type_at q x)) e in omega arith
    weigh_on fn _ _ (S.host e) w act (x ∷ rest) le ih = absurd ih
    weigh_on fn _ _ (S.above fn2 here is ls extra ops taken both h pl gt deep below) w act [] le ih =
        absurd (no_rest (param_count (func_type_at q top)) (levels_of v2 k.lay (S.above fn2 here is ls extra ops taken both h pl gt deep below)) tt ih)
    weigh_on fn _ _ (S.above fn2 here is ls extra ops taken both h pl gt deep below) w act (x ∷ rest) le ih = (omega arith, ih)

    abbrev level_at : (fn : ℕ) (f : GuardedFunc) (n h : ℕ) (slots : List ℕ) (x : Callee) (to : Option ℕ) (behind : Code) (rest : Units) (xs : List Enclosing) (ls extra ops taken : List Value) → Level
    level_at fn f n h slots x to behind rest xs ls extra ops taken = record {
      func = fn;
      fn = written_of st f (k.lay (flat_waiting fn f to behind rest xs ls ops taken));
      site = site_of st f n h slots x to behind rest xs;
      locals = ls ++ extra;
      ops = ops;
      taken = taken;
      out = 4;
      seek = passing f.first f.body + 3;
    }

    pub stands_so : (table : List (Option ℕ)) (g c : ℕ) (us vs ws : List Activation) (d : Stopped (setting w2 top) c vs ws) → AllPairs (Base m) which us vs → AllAtNumbers m s which valid table g us
        → AllLocalsFit p ws → Stands us d
    stands_so table g c [] _ _ (S.host e) ps nums fit = (tt, tt, tt)
    stands_so table g c (a ∷ us) _ _ (S.host e) ps nums fit = absurd ps
    stands_so table g c [] _ _ (S.above fn here is ls extra ops taken both h pl gt deep below) ps nums fit = absurd ps
    stands_so table g c (a ∷ us) _ _ (S.above {f = f} {k = n} {slots = slots} {x = x} {to = to} {behind = behind} {rest = rest} {xs = xs} {under = under} {under' = under'} fn here is ls extra
        ops taken both h pl gt deep below) ps nums fit =
        let ih = stands_so table a.func fn us under under' below ps.1 nums.1 fit.1 in
        let lv = level a table g nums.0 f n slots x to behind rest xs fn ls extra ops taken is pl.place ps.0 fit.0 in
        let enough = weighs_enough a table g nums.0 f n slots x to behind rest xs fn ls extra ops taken is pl.place ps.0 fit.0 in
        let f0 = fit.0 in (
          ((f0.found, f0.is), lv.uses, lv.address, lv.scratch, lv.below, lv.arms, lv.fields, lv.small, lv.kept, lv.took, ih.0),
          (for_level a table g nums.0 f n slots x to behind rest xs fn ls extra ops taken is pl.place ps.0 fit.0 (level_at fn f n h slots x to behind rest xs ls extra ops taken) refl refl refl, ih.1),
          weigh_on fn under under' below (level_at fn f n h slots x to behind rest xs ls extra ops taken) (suspended (Base m) a) (map (suspended (Base m)) us) enough ih.2,
        )

  -- ---- come back

  -- with these locals in place of its own
  waits_with : (g : ℕ) (v f c : Activation) (l : CallFrame) → Waits sd g v f → v.operands ≡ [] → SameFlat l.layout f c → Waits sd g (moved v c.locals) c
  waits_with g _ _ c l (waits {rest = rest} {rest' = rest'} {labels = labels} {labels' = labels'} fn ls ops taken x ci t la) none sm =
      subst (λ z. Waits sd g (waiting fn c.locals ops taken rest labels) z)
      (act_is c fn c.locals ops taken (tested_behind tests st (Some x) rest') labels' sm.func refl (sm.operands ∙ sym none) sm.taken sm.code sm.labels)
      (waits fn c.locals ops taken x ci t la)

  moved_func : (g : ℕ) (v f : Activation) → Waits sd g v f → f.func ≡ v.func
  moved_func g _ _ (waits fn ls ops taken x ci t la) = refl

  same_moved_one : (g : ℕ) (v f c : Activation) → Waits sd g v f → v.operands ≡ [] → SameFlat (k.lay f).layout f c → SameFlat (k.lay v).layout v (moved v c.locals)
  same_moved_one g v f c wt none sm = record {
    func = refl;
    taken = refl;
    code = refl;
    labels = refl;
    operands = none;
    size = sm.size ∙ ap length (locals_same v f wt);
    kept_same = λ y h. sm.kept_same y (subst (λ (l : CallFrame). Rattle.frame_laws.specs.FrameMemory.IsKept y l.layout.fields) (sym (lay_same g v f wt)) h)
        ∙ ap (λ zs. Rattle.wa_model.specs.Store.value_at zs y) (locals_same v f wt);
  }
    where
      locals_same : (v f : Activation) → Waits sd g v f → f.locals ≡ v.locals
      locals_same _ _ (waits fn ls ops taken x ci t la) = refl

  abbrev NoneTaken : List Activation → Type 0
  NoneTaken [] = Unit {0}
  NoneTaken (v ∷ vs) = (v.operands ≡ []) × NoneTaken vs

  pairs_none : (us vs : List Activation) → AllPairs (Base m) which us vs → NoneTaken vs
  pairs_none [] [] h = tt
  pairs_none [] (v ∷ vs) h = absurd h
  pairs_none (a ∷ us) [] h = absurd h
  pairs_none (a ∷ us) (v ∷ vs) h = ((h.0).none, pairs_none us vs h.1)

  same_moved : (g : ℕ) (vs fs cs : List Activation) → Unders sd g vs fs → NoneTaken vs → AllSameFlat k.lay fs cs → AllSameFlat k.lay vs (moved_all vs cs)
  same_moved g _ _ [] bottom none same = tt
  same_moved g _ _ (c ∷ cs) bottom none same = absurd same
  same_moved g _ _ [] (above wt un) none same = absurd same
  same_moved g _ _ (c ∷ cs) (above {a = v} {a' = f} {under = vs} {under' = fs} wt un) none same =
      (same_moved_one g v f c wt none.0 same.0, same_moved v.func vs fs cs un none.1 same.1)

  unders_moved : (g : ℕ) (vs fs cs : List Activation) → Unders sd g vs fs → NoneTaken vs → AllSameFlat k.lay fs cs → Unders sd g (moved_all vs cs) cs
  unders_moved g _ _ [] bottom none same = bottom
  unders_moved g _ _ (c ∷ cs) bottom none same = absurd same
  unders_moved g _ _ [] (above wt un) none same = absurd same
  unders_moved g _ _ (c ∷ cs) (above {a = v} {a' = f} {under = vs} {under' = fs} wt un) none same =
      above (waits_with g v f c (k.lay f) wt none.0 same.0) (unders_moved v.func vs fs cs un none.1 same.1)

  more_moved : (g : ℕ) (vs fs cs : List Activation) → Unders sd g vs fs → AllSameFlat k.lay fs cs → AllMore p cs → AllMore p0 (moved_all vs cs)
  more_moved g _ _ [] bottom same more = tt
  more_moved g _ _ (c ∷ cs) bottom same more = absurd same
  more_moved g _ _ [] (above wt un) same more = absurd same
  more_moved g _ _ (c ∷ cs) (above {a = v} {a' = f} {under = vs} {under' = fs} wt un) same more =
      let func : c.func ≡ v.func = (same.0).func ∙ moved_func g v f wt in
      (((more.0).0, subst (λ x. LocalsFit p0 x (c.locals ++ (more.0).0)) func (fit_back c.func (c.locals ++ (more.0).0) (more.0).1)), more_moved v.func vs fs cs un same.1 more.1)

  -- ---- the law

  abbrev pub B : (spare : ℕ) → Configuration → Configuration → Type 0
  B = RunsBeside m s which frames plan p0

  abbrev pub A : ℕ → Configuration → Configuration → Type 0
  A = SlimWaits m s which frames plan p0

  -- STACKS WITH ASSERTS stand as frames, and come back
  pub stacks_law : (Live : Configuration → Configuration → Type 0) → FramedCalls m s which frames → AgainMore m s which frames plan p0 Live
      → StackLaw w2 Live (LinkedBeside w q (N.L k B A) (N.W k B A)) (WaitsBeside w q (N.L k B A) (N.W k B A)) (GoodStore k)
  stacks_law Live framed again_more = record {
    numbers = λ top i d f h nums.
        let v = h.between in
        numbers_asserted top i (v.here ∷ v.under) (f.here ∷ f.under) h.asked.stack (numbers m s which frames plan p0 valid tells em plan_fits codes top i d v h.waits nums);
    stands = λ top i d f us' st h nums fit.
        let v = h.between in
        let r = stands_so framed top d.store.table i i (d.here ∷ d.under) (f.here ∷ f.under) us' st
        (pairs_asserted i (d.here ∷ d.under) (v.here ∷ v.under) (f.here ∷ f.under) h.asked.stack (pairs_at m s which frames plan p0 valid tells em plan_fits codes i d v h.waits nums))
        (numbers_at m s which frames plan p0 valid tells em plan_fits codes i d v h.waits nums) fit in
        record { may = r.0; stand = r.1; weigh = r.2 };
    again = λ top i d f a us h nums same us' st fit.
        let v = h.between in
        let ask = h.asked in
        let none = pairs_none (d.here ∷ d.under) (v.here ∷ v.under) (pairs_at m s which frames plan p0 valid tells em plan_fits codes i d v h.waits nums) in
        let more = written_fit (setting w2 top) p i (a ∷ us) us' st fit in
        let ag = again_more top i d v (moved v.here a.locals) (moved_all v.under us) h.waits nums (same_moved i (v.here ∷ v.under) (f.here ∷ f.under) (a ∷ us) ask.stack none same)
        (more_moved i (v.here ∷ v.under) (f.here ∷ f.under) (a ∷ us) ask.stack same more) in
        record {
          chosen = ag.chosen;
          live = ag.live;
          waits = record {
            between = record { store = v.store; here = moved v.here a.locals; under = moved_all v.under us };
            waits = ag.waits;
            asked = record {
              store = ask.store;
              state = ask.state;
              stack = unders_moved i (v.here ∷ v.under) (f.here ∷ f.under) (a ∷ us) ask.stack none same;
            };
          };
        };
  }
