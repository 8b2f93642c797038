-- For the policy `live`, suspended stacks of numbered calls stand as frames, and what came back of them stands beside a stack that differs
-- only in locals that no path reads first.
use Rattle.std.proofs.Common.{◌≡◌, ℕ, ◌≤◌, List, [], ◌∷◌, ◌++◌, length, map, take, drop, Option, Some, None, Bool, All, refl, sym, ap, ◌∙◌, subst, arith, length-append}
use Rattle.std.specs.Prelude.{slice_get}
use Rattle.std.proofs.lemmas.List.{append_assoc, length-map, length-take-le, map-append, take-append-drop}
use Rattle.std.proofs.lemmas.List.Elements.{All-cons, All-head, All-tail}
use Rattle.std.proofs.lemmas.Option.{slice_get-get_or}
use Rattle.wa_types.specs.Base.{Base}
use Rattle.wa_types.specs.Frames.{Place, Pair, SlotPairs}
use Rattle.wa_types.specs.Modules.{defined_at, locals_of}
use Rattle.wa_types.specs.Pausing.{Numbered, Settings, TellsMayPause, is_told, save_live}
use Rattle.wa_types.specs.Syntax.{Func, Module}
use Rattle.wa_types.specs.Typing.{type_of}
use Rattle.wa_types.specs.Validity.{Valid}
use Rattle.wa_types.specs.declared.values.ValType.{ValType}
use Rattle.wa_types.specs.declared.values.Value.{Value}
use Rattle.wa_model.specs.Behaves.{StandsNumbered}
use Rattle.wa_model.specs.Configuration.{Activation, Configuration, place_of, stack_of}
use Rattle.run_theory.specs.Fitting.{CallersFit, results_of, types_of, WaitingFits}
use Rattle.wa_model.specs.Plan.{Plan}
use Rattle.run_laws.specs.Ranges.{ActivationIn, CodesIn}
use Rattle.flat_laws.specs.FlatModule.{flat_module}
use Rattle.flat_runs.specs.Beside.{Callers}
use Rattle.frame_laws.specs.FrameMemory.{IsKept}
use Rattle.headline.specs.Given.{Given}
use Rattle.slim_laws.specs.Beside.{Unders, moved}
use Rattle.headline.proofs.MovedStacks.{AllAgain, callers_moved, fits_moved, moved_all, unders_moved}
use Rattle.headline.proofs.SlimStacks.{w as sides_here}
use Rattle.frame_laws.specs.Layout.{kept}
use Rattle.guard_runs.specs.Returned.{AllSameFlat, SameFlat}
use Rattle.guard_runs.specs.Stopped.{Stopped}
use Rattle.headline.specs.FlatLaw.{AllLocalsFit, FlatAgain, LocalsFit}
use Rattle.headline.specs.World.{setting}
use Rattle.headline.specs.Core.{Core, world_of}
use Rattle.headline.specs.Links.{GoodStore, LinkedWaits, StandsLaw}
use Rattle.headline.specs.Links as N
use Rattle.headline.specs.CoreOf.{RunsBeside, WaitsBeside, call_place, core_of}
use Rattle.headline.specs.EmittedModule.{Emitted, Framing}
use Rattle.headline.proofs.CallPoints.{base_saved}
use Rattle.headline.proofs.NumberedStacks.{AllAtNumbers, AtNumber}
use Rattle.headline.proofs.PairedFlat.{base_defined}
use Rattle.headline.proofs.PairedStacks.{AllPairs, PairAt, call_frame_is, pairs}
use Rattle.headline.proofs.WaitsAgain.{AllMore, flat_again, front_same, numbers, numbers_at, pairs_at, stands, written_fit}
use Rattle.headline.proofs.WrittenLocals.{written_locals}
use Rattle.emitted_form.specs.SameLive.{SameLive, SameUnder}
use Rattle.emitted_form.specs.LiveFrames.{AllFramed, AllTold, fields_at}
use Rattle.emitted_form.proofs.StacksAgain.{stacks_come_back}
use Rattle.emitted_form.specs.LiveFraming.{LiveFraming}
use Rattle.emitted_form.proofs.ChosenStacks.{callers_ranged, callers_typed, chosen_count, chosen_fits, chosen_in, chosen_spots, chosen_stands, chosen_live}
use Rattle.emitted_form.proofs.LiveFramed.{live_framed}
use Rattle.guard_runs.specs.Joined.{CallFrame}
use Rattle.run_theory.specs.Growth.{ConfigNamed, spaces_of}

the_func : (x y : Func) → Some x ≡ Some y → x ≡ y
the_func x y e = cc

-- own locals of these types stand in front
own_types : (n : ℕ) (cs : List Value) (own rest more : List ValType) → n ≡ length own → n ≤ length cs → types_of cs ++ more ≡ own ++ rest → types_of (take n cs) ≡ own
own_types n cs own rest more size le e =
    let both : types_of (take n cs) ++ types_of (drop n cs) ≡ types_of cs = sym (map-append type_of (take n cs) (drop n cs)) ∙ ap types_of (take-append-drop n cs) in
    front_same (types_of (take n cs)) own (types_of (drop n cs) ++ more) rest
    (sym (append_assoc (types_of (take n cs)) (types_of (drop n cs)) more) ∙ ap (λ ts. ts ++ more) both ∙ e)
    (length-map (take n cs) type_of ∙ length-take-le n cs le ∙ size)

module _ (m : Module) (s : Settings) (which : List Bool) (frames : (index : ℕ) → Framing) (plan : Plan) (p : Module) (valid : Valid m) (tells : TellsMayPause m s which)
    (em : Emitted m s which frames p)
    (plan_fits : Given m plan) (codes : CodesIn (Base m)) (policy : s.policy ≡ save_live) (live : LiveFraming m s which frames) where
  abbrev k : Core
  k = core_of m s which frames plan p

  abbrev B : (spare : ℕ) → Configuration → Configuration → Type 0
  B = RunsBeside m s which frames plan p

  abbrev A : ℕ → Configuration → Configuration → Type 0
  A = WaitsBeside m s which frames plan p

  -- ---- what frames keep, and what came back

  module _ (a v c : Activation) (pr : PairAt (Base m) which a v) (table : List (Option ℕ)) (g : ℕ) (num : AtNumber m s which valid table g a) (sm : SameFlat (k.lay v).layout v c) (more : List Value)
      (fit : LocalsFit p c.func (c.locals ++ more)) where
    defined : defined_at m a.func ≡ Some num.func
    defined = sym (base_defined m a.func) ∙ num.is

    abbrev here : ℕ
    here = place_of (Some num.func) a.code a.labels

    number : slice_get (Numbered m s which num.func) (num.listed).0 ≡ Some (place_of (Some num.func) a.code a.labels)
    number = let l = num.listed in slice_get-get_or (Numbered m s which num.func) l.0 here l.1 ∙ ap Some l.2

    keeps_saved : (k.lay v).layout.fields ≡ fields_at (Base m) num.func (place_of (Some num.func) a.code a.labels)
    keeps_saved =
        ap (λ (z : CallFrame). z.layout.fields) (call_frame_is m s which frames plan p a v pr num.func defined) ∙ (live a.func num.func defined pr.told (num.listed).0 here number).fields
        ∙ ap (λ ps. map (λ (q : Place). kept q.local q.ty) ps) (sym (base_saved m valid a.func num.func defined save_live here))

    typed_back : types_of (take (length a.locals) c.locals) ≡ locals_of (Base m) num.func
    typed_back =
        let func_same : c.func ≡ a.func = sm.func ∙ pr.same_func in
        let written = written_locals m s which frames p valid em a.func num.func fit.found num.is (ap (defined_at p) (sym func_same) ∙ fit.is) pr.told in
        let size : length a.locals ≡ length (locals_of (Base m) num.func) = sym (length-map a.locals type_of) ∙ ap length num.typed in
        let long = sm.size in
        let l = ap length pr.locals in
        let l2 = length-append a.locals pr.extra in
        own_types (length a.locals) c.locals (locals_of (Base m) num.func) (map (λ (q : Pair). q.ty) (SlotPairs (Base m) num.func) ++ written.0) (types_of more) size (omega arith)
        (sym (map-append type_of c.locals more) ∙ fit.typed ∙ written.1)

    framed_back : (f : Func) → defined_at (Base m) a.func ≡ Some f
        → ((k.lay v).layout.fields ≡ fields_at (Base m) f (place_of (Some f) a.code a.labels)) × (types_of (take (length a.locals) c.locals) ≡ locals_of (Base m) f)
    framed_back f e =
        let same : num.func ≡ f = the_func num.func f (sym num.is ∙ e) in
        subst (λ (z : Func). ((k.lay v).layout.fields ≡ fields_at (Base m) z (place_of (Some z) a.code a.labels)) × (types_of (take (length a.locals) c.locals) ≡ locals_of (Base m) z)) same
        (keeps_saved, typed_back)

  all_framed : (table : List (Option ℕ)) (g : ℕ) (us vs cs : List Activation) → AllPairs (Base m) which us vs → AllAtNumbers m s which valid table g us → AllSameFlat k.lay vs cs → AllMore p cs
      → AllFramed (Base m) k.lay us vs cs
  all_framed table g [] [] [] ps nums same more = tt
  all_framed table g [] [] (c ∷ cs) ps nums same more = absurd same
  all_framed table g [] (v ∷ vs) cs ps nums same more = absurd ps
  all_framed table g (a ∷ us) [] cs ps nums same more = absurd ps
  all_framed table g (a ∷ us) (v ∷ vs) [] ps nums same more = absurd same
  all_framed table g (a ∷ us) (v ∷ vs) (c ∷ cs) ps nums same more =
      (framed_back a v c ps.0 table g nums.0 same.0 (more.0).0 (more.0).1, all_framed table a.func us vs cs ps.1 nums.1 same.1 more.1)

  all_told : (table : List (Option ℕ)) (g : ℕ) (us : List Activation) → AllAtNumbers m s which valid table g us → AllTold which us
  all_told table g [] h = tt
  all_told table g (a ∷ us) h = (ap is_told (h.0).told, all_told table a.func us h.1)

  -- ---- the flat stack between, with the locals that the slim one had, and with those that came back

  -- it has the same frames
  place_moved : (v : Activation) (ls : List Value) (o : Option Func) → call_place o v ≡ call_place o (moved v ls)
  place_moved v ls None = refl
  place_moved v ls (Some f) = refl

  lay_same : (a v v1 : Activation) (ls : List Value) (table : List (Option ℕ)) (g : ℕ) → PairAt (Base m) which a v → PairAt (Base m) which a v1 → AtNumber m s which valid table g a
      → k.lay v1 ≡ k.lay (moved v ls)
  lay_same a v v1 ls table g pv p1 num =
      let defined : defined_at m a.func ≡ Some num.func = sym (base_defined m a.func) ∙ num.is in
      call_frame_is m s which frames plan p a v1 p1 num.func defined ∙ sym (call_frame_is m s which frames plan p a v pv num.func defined)
      ∙ ap (λ i. (frames v.func).frame_at i) (place_moved v ls (defined_at m v.func))

  same_moved : (table : List (Option ℕ)) (g : ℕ) (us vs vs1 cs : List Activation) → AllAtNumbers m s which valid table g us → AllPairs (Base m) which us vs → AllPairs (Base m) which us vs1
      → AllSameFlat k.lay vs1 cs
      → AllSameFlat k.lay (moved_all vs vs1) (moved_all vs cs)
  same_moved table g [] [] vs1 cs nums pv p1 same = tt
  same_moved table g [] (v ∷ vs) vs1 cs nums pv p1 same = absurd pv
  same_moved table g (a ∷ us) [] vs1 cs nums pv p1 same = absurd pv
  same_moved table g (a ∷ us) (v ∷ vs) [] cs nums pv p1 same = absurd p1
  same_moved table g (a ∷ us) (v ∷ vs) (v1 ∷ vs1) [] nums pv p1 same = absurd same
  same_moved table g (a ∷ us) (v ∷ vs) (v1 ∷ vs1) (c ∷ cs) nums pv p1 same =
      let sm = same.0 in
      let lay = lay_same a v v1 v1.locals table g pv.0 p1.0 nums.0 in (
        record {
          func = refl;
          taken = refl;
          code = refl;
          labels = refl;
          operands = (pv.0).none;
          size = sm.size;
          kept_same = λ y h. sm.kept_same y (subst (λ (z : CallFrame). IsKept y z.layout.fields) (sym lay) h);
        },
        same_moved table a.func us vs vs1 cs nums.1 pv.1 p1.1 same.1,
      )

  framed_moved : (table : List (Option ℕ)) (g : ℕ) (us vs vs1 cs : List Activation) → AllAtNumbers m s which valid table g us → AllPairs (Base m) which us vs → AllPairs (Base m) which us vs1
      → AllFramed (Base m) k.lay us vs1 cs → AllFramed (Base m) k.lay us (moved_all vs vs1) (moved_all vs cs)
  framed_moved table g [] [] vs1 cs nums pv p1 h = tt
  framed_moved table g [] (v ∷ vs) vs1 cs nums pv p1 h = absurd pv
  framed_moved table g (a ∷ us) [] vs1 cs nums pv p1 h = absurd pv
  framed_moved table g (a ∷ us) (v ∷ vs) [] cs nums pv p1 h = absurd p1
  framed_moved table g (a ∷ us) (v ∷ vs) (v1 ∷ vs1) [] nums pv p1 h = absurd h
  framed_moved table g (a ∷ us) (v ∷ vs) (v1 ∷ vs1) (c ∷ cs) nums pv p1 h =
      let lay = lay_same a v v1 v1.locals table g pv.0 p1.0 nums.0 in (
        λ f e. let r = h.0 f e in (ap (λ (z : CallFrame). z.layout.fields) (sym lay) ∙ r.0, r.1),
        framed_moved table a.func us vs vs1 cs nums.1 pv.1 p1.1 h.1,
      )

  -- before the pause the slim locals are the original's own, and behind them slots that hold its operands
  again_before : (us vs1 : List Activation) → AllPairs (Base m) which us vs1 → AllAgain (Base m) which us vs1
  again_before [] [] ps = tt
  again_before [] (v ∷ vs) ps = absurd ps
  again_before (a ∷ us) [] ps = absurd ps
  again_before (a ∷ us) (v ∷ vs) ps = let pr = ps.0 in (record { func = pr.func; is = pr.is; extra = pr.extra; locals = pr.locals; held = pr.held }, again_before us vs ps.1)

  more_moved : (lay : Activation → CallFrame) (us vs vs1 cs : List Activation) → AllPairs (Base m) which us vs → AllPairs (Base m) which us vs1 → AllSameFlat lay vs1 cs → AllMore p cs
      → AllMore p (moved_all vs cs)
  more_moved lay [] [] vs1 cs pv p1 same more = tt
  more_moved lay [] (v ∷ vs) vs1 cs pv p1 same more = absurd pv
  more_moved lay (a ∷ us) [] vs1 cs pv p1 same more = absurd pv
  more_moved lay (a ∷ us) (v ∷ vs) [] cs pv p1 same more = absurd p1
  more_moved lay (a ∷ us) (v ∷ vs) (v1 ∷ vs1) [] pv p1 same more = absurd same
  more_moved lay (a ∷ us) (v ∷ vs) (v1 ∷ vs1) (c ∷ cs) pv p1 same more =
      let func : c.func ≡ v.func = (same.0).func ∙ (p1.0).same_func ∙ sym (pv.0).same_func in
      (((more.0).0, subst (λ x. LocalsFit p x (c.locals ++ (more.0).0)) func (more.0).1), more_moved lay us vs vs1 cs pv.1 p1.1 same.1 more.1)

  -- ---- the original's stack is chosen anew

  -- a stack beside the one that came back, which differs from the suspended one only in locals that no path reads first
  chosen_waits : (i : ℕ) (d f : Configuration) (a v : Activation) (us vs cs : List Activation) → (l : LinkedWaits k B A i d f) → SameUnder (d.here ∷ d.under) cs → Callers (Base m) which i cs (v ∷ vs)
      → AllMore p (v ∷ vs) → CallersFit (flat_module (Base m) which) l.beside.outs (results_of (flat_module (Base m) which) i) (v ∷ vs)
      → Unders (sides_here m s which frames plan p valid) (v ∷ vs) (a ∷ us)
      → WaitingFits k.flat l.flat_outs i (record { store = f.store; here = a; under = us }) → ConfigNamed (spaces_of k.flat) (record { store = f.store; here = a; under = us })
      → (chosen : Configuration) × SameLive d chosen × LinkedWaits k B A i chosen (record { store = f.store; here = a; under = us })
  chosen_waits i d f a v us vs [] l live beside more fq un fits named = let n = chosen_count (d.here ∷ d.under) [] live in absurd (omega arith)
  chosen_waits i d f a v us vs (h ∷ cs) l live beside more fq un fits named =
      let be = l.beside in
      let rs = l.ranges in
      let ws = l.stands in
      let few = ws.few in
      let typed = callers_typed (Base m) which i (h ∷ cs) (v ∷ vs) beside in
      let ranged = callers_ranged (Base m) p which i (h ∷ cs) (v ∷ vs) beside more in
      let inside = chosen_in (d.here ∷ d.under) (h ∷ cs) live ranged (All-cons ActivationIn d.here d.under rs.here rs.under) in
      let count = chosen_count (d.here ∷ d.under) (h ∷ cs) live in (
        record { store = d.store; here = h; under = cs },
        chosen_live d.store d.here h d.under cs live,
        record {
          beside = record {
            between = record { store = (be.between).store; here = v; under = vs };
            asked = record { same_store = (be.asked).same_store; store = (be.asked).store; waits = beside };
            outs = be.outs;
            fits = record { store = (be.fits).store; waits = fq };
            slim_asked = record { store = (be.slim_asked).store; stack = un };
          };
          known = l.known;
          outs = l.outs;
          fits = record { store = l.fits.store; waits = chosen_fits (Base m) l.outs (results_of (Base m) i) (d.here ∷ d.under) (h ∷ cs) live typed l.fits.waits };
          flat_outs = l.flat_outs;
          flat_fits = fits;
          named = named;
          ranges = record { store = rs.store; here = All-head ActivationIn h cs inside; under = All-tail ActivationIn h cs inside };
          spots = record { store = l.spots.store; waits = chosen_spots (Base m) i (d.here ∷ d.under) (h ∷ cs) live typed l.spots.waits };
          root = l.root;
          stands = record {
            same = ws.same;
            stack = chosen_stands (Base m) d.store.table l.root i (d.here ∷ d.under) (h ∷ cs) live ws.stack;
            few = omega arith;
            imported = ws.imported;
          };
        },
      )

  -- with more behind the flat locals those of the written functions
  pub again_more : (top i : ℕ) (d f : Configuration) (a : Activation) (us : List Activation) → LinkedWaits k B A i d f → All (StandsNumbered m s which) (stack_of (Base m) d)
      → AllSameFlat k.lay (f.here ∷ f.under) (a ∷ us) → AllMore p (a ∷ us) → FlatAgain (world_of k) SameLive (N.L k B A) (N.W k B A) (GoodStore k) top i d f a us
  again_more top i d f a us l nums same more =
      let at = numbers_at m s which frames plan p valid tells em plan_fits codes i d f l nums in
      let ps = pairs_at m s which frames plan p valid tells em plan_fits codes i d f l nums in
      let flat = flat_again m s which frames plan p valid tells em plan_fits codes i d f a us l nums same more in
      let be = l.beside in
      let v = be.between in
      let told = Rattle.headline.proofs.WaitsAgain.all_told m s which frames plan p valid tells em plan_fits codes d.store.table i (d.here ∷ d.under) at in
      let pv = pairs (Base m) which i (d.here ∷ d.under) (v.here ∷ v.under) (be.asked).waits told in
      let stood = callers_moved (Base m) which i (d.here ∷ d.under) (v.here ∷ v.under) (f.here ∷ f.under) (be.asked).waits told (again_before (d.here ∷ d.under) (f.here ∷ f.under) ps) in
      let back = stacks_come_back (Base m) which k.lay i (d.here ∷ d.under) (moved_all (v.here ∷ v.under) (f.here ∷ f.under)) (moved_all (v.here ∷ v.under) (a ∷ us)) stood l.spots.waits
      (all_told d.store.table i (d.here ∷ d.under) at) (same_moved d.store.table i (d.here ∷ d.under) (v.here ∷ v.under) (f.here ∷ f.under) (a ∷ us) at pv ps same)
      (framed_moved d.store.table i (d.here ∷ d.under) (v.here ∷ v.under) (f.here ∷ f.under) (a ∷ us) at pv ps
      (all_framed d.store.table i (d.here ∷ d.under) (f.here ∷ f.under) (a ∷ us) ps at same more)) in
      let r = chosen_waits i d f a (moved v.here a.locals) us (moved_all v.under us) back.chosen l back.live back.beside
      (more_moved k.lay (d.here ∷ d.under) (v.here ∷ v.under) (f.here ∷ f.under) (a ∷ us) pv ps same more)
      (fits_moved m s which frames plan p k.lay be.outs (results_of (flat_module (Base m) which) i) l.flat_outs (results_of k.flat i) (v.here ∷ v.under) (f.here ∷ f.under) (a ∷ us)
      (be.slim_asked).stack same (be.fits).waits (flat.0).waits)
      (unders_moved m s which frames plan p k.lay (d.here ∷ d.under) (v.here ∷ v.under) (f.here ∷ f.under) (a ∷ us) (be.slim_asked).stack ps same) flat.0 flat.1 in
      record { chosen = r.0; live = r.1; waits = r.2 }

  again : (top i : ℕ) (d f : Configuration) (a : Activation) (us : List Activation) → LinkedWaits k B A i d f → All (StandsNumbered m s which) (stack_of (Base m) d)
      → AllSameFlat k.lay (f.here ∷ f.under) (a ∷ us)
      → (us' : List Activation) → Stopped (setting (world_of k) top) i (a ∷ us) us' → AllLocalsFit p us' → FlatAgain (world_of k) SameLive (N.L k B A) (N.W k B A) (GoodStore k) top i d f a us
  again top i d f a us l nums same us' st fit = again_more top i d f a us l nums same (written_fit (setting (world_of k) top) p i (a ∷ us) us' st fit)

  -- STACKS STAND AS FRAMES, and come back
  pub live_stacks_stand : StandsLaw (core_of m s which frames plan p) (RunsBeside m s which frames plan p) (WaitsBeside m s which frames plan p) SameLive
  live_stacks_stand = record {
    numbers = λ top i d f l nums. numbers m s which frames plan p valid tells em plan_fits codes top i d f l nums;
    stands = λ top i d f us' st l nums fit. stands m s which frames plan p valid tells em plan_fits codes SameLive (live_framed m s which frames valid em.slim policy live) top i d f us' st l nums fit;
    again = again;
  }
