-- A suspended stack of numbered calls: each activation's call has a number, and so has whatever its flat activation may have called.
use Rattle.std.proofs.Common.{append-nil, ◌≡◌, ℕ, suc, ◌<◌, List, [], ◌∷◌, ◌++◌, map, length, Option, Some, Bool, true, false, All, refl, sym, ap, ◌∙◌, subst, arith}
use Rattle.std.specs.Prelude.{◌&&◌, slice_get, Contains}
use Rattle.std.proofs.lemmas.List.Elements.{All-head, All-tail}
use Rattle.wa_types.specs.Base.{Base}
use Rattle.wa_types.specs.Modules.{defined_at, func_sorts, func_type_at, locals_of}
use Rattle.wa_types.specs.Pausing.{Callee, Numbered, Settings, TellsMayPause, calls_in, direct, has_number, indirect, is_told}
use Rattle.wa_types.specs.Points.{func_call_points}
use Rattle.wa_types.specs.Runtime.{func_space}
use Rattle.wa_types.specs.Syntax.{Func, Module}
use Rattle.wa_types.specs.Validity.{Valid}
use Rattle.wa_types.specs.declared.values.Value.{Value}
use Rattle.wa_model.specs.Behaves.{StandsNumbered}
use Rattle.wa_model.specs.Configuration.{Activation, place_of, suspended}
use Rattle.run_theory.specs.Fitting.{types_of}
use Rattle.run_theory.specs.LawfulStacks.{LeadsTo}
use Rattle.wa_model.specs.Plan.{Plan}
use Rattle.wa_model.specs.Plan as L
use Rattle.wa_model.specs.Step.{param_count}
use Rattle.run_theory.proofs.BaseValid.{base_valid}
use Rattle.run_theory.proofs.GrownSteps.{defined_below}
use Rattle.run_theory.proofs.NamedModules.{valid_named}
use Rattle.run_laws.specs.Ranges.{CodesIn}
use Rattle.run_laws.proofs.SpotPlaces.{at_call}
use Rattle.run_laws.proofs.SpotSteps.{CallersAtSpots}
use Rattle.run_laws.proofs.StandingPauses.{stack_chained}
use Rattle.run_laws.proofs.StandingStates.{CallersAt}
use Rattle.flat_runs.specs.Beside.{Callers, above, above_same, host}
use Rattle.guard_runs.specs.Alike.{Setting, sides_of}
use Rattle.guard_runs.specs.Beside.{GoesTo, by_table, directly}
use Rattle.guard_runs.specs.Stopped.{AllNumbered}
use Rattle.headline.specs.World.{setting}
use Rattle.headline.specs.Core.{CoreFits, world_of}
use Rattle.headline.proofs.Spaces.{func_type_same, funcs_are, grown_func_type}
use Rattle.headline.specs.Given.{Given}
use Rattle.guard_form.specs.AssertedRuns.{stands_numbered}
use Rattle.guard_form.proofs.Standing.{by_callee}
use Rattle.headline.specs.CoreOf.{core_of}
use Rattle.headline.specs.EmittedModule.{Framing, Emitted}
use Rattle.headline.proofs.NumberedCalls.{Took, called_took, listed_passes}
use Rattle.headline.proofs.PairedFlat.{base_defined, core_fits}

module _ (m : Module) (s : Settings) (which : List Bool) (valid : Valid m) where
  abbrev b : Module
  b = Base m

  -- An activation that waits for a function at a numbered call.
  pub record AtNumber (table : List (Option ℕ)) (g : ℕ) (a : Activation) : Type 0 where
    pub func : Func
    pub is : defined_at (Base m) a.func ≡ Some func
    pub told : slice_get which a.func ≡ Some true
    pub call : Callee
    pub at : slice_get (calls_in func) (place_of (Some func) a.code a.labels) ≡ Some call
    pub has : has_number m s which call ≡ true
    pub listed : Contains (Numbered m s which func) (place_of (Some func) a.code a.labels)
    pub points : slice_get (func_call_points (Base m) func) (place_of (Some func) a.code a.labels) ≡ Some (types_of (a.taken ++ a.operands))
    pub leads : LeadsTo (Base m) table call (a.taken ++ a.operands) g
    pub took : Took call (param_count (func_type_at (Base m) g)) (length a.taken)
    pub typed : types_of a.locals ≡ locals_of (Base m) func

  abbrev pub AllAtNumbers : (table : List (Option ℕ)) → ℕ → List Activation → Type 0
  AllAtNumbers table g [] = Unit {0}
  AllAtNumbers table g (a ∷ us) = AtNumber table g a × AllAtNumbers table a.func us

  -- An activation that waits stands at a numbered call where its function may pause and what it called has a number.
  pub standing_is : (g : ℕ) (a : Activation) (us : List Activation) (spots : CallersAtSpots (Base m) g (a ∷ us))
      → stands_numbered m s which (suspended b a) ≡ (is_told (slice_get which a.func) && has_number m s which (spots.0).callee)
  standing_is g a us spots =
      let w = spots.0 in
      let k = at_call b w.func w.results a.labels w.call a.code w.own w.below w.callee w.callee_is w.spot in
      let place : place_of (defined_at b a.func) a.code a.labels ≡ place_of (Some w.func) a.code a.labels = ap (λ o. place_of o a.code a.labels) w.func_is in
      by_callee m s which (suspended b a) w.func w.callee (sym (base_defined m a.func) ∙ w.func_is) (ap (slice_get (calls_in w.func)) place ∙ k.callee)

  the_func : (x y : Func) → Some x ≡ Some y → x ≡ y
  the_func x y e = cc

  the_callee : (x y : Callee) → Some x ≡ Some y → x ≡ y
  the_callee x y e = cc

  -- An activation that waits for a function at a call, with a number or without.
  pub record AtCall (table : List (Option ℕ)) (g : ℕ) (a : Activation) : Type 0 where
    pub call : Callee
    pub stands : stands_numbered m s which (suspended b a) ≡ (is_told (slice_get which a.func) && has_number m s which call)
    pub leads : LeadsTo (Base m) table call (a.taken ++ a.operands) g
    pub took : Took call (param_count (func_type_at (Base m) g)) (length a.taken)

  abbrev pub AllAtCalls : (table : List (Option ℕ)) → ℕ → List Activation → Type 0
  AllAtCalls table g [] = Unit {0}
  AllAtCalls table g (a ∷ us) = AtCall table g a × AllAtCalls table a.func us

  pub at_calls : (table : List (Option ℕ)) (root g : ℕ) (us : List Activation) → CallersAtSpots (Base m) g us → CallersAt (Base m) table root g us → AllAtCalls table g us
  at_calls table root g [] spots stands = tt
  at_calls table root g (a ∷ us) spots stands =
      let w = spots.0 in
      let k = at_call b w.func w.results a.labels w.call a.code w.own w.below w.callee w.callee_is w.spot in
      let chain = stack_chained b table root g (a ∷ us) stands in
      let chain_f : chain.0 ≡ w.func = the_func chain.0 w.func (sym chain.2 ∙ w.func_is) in
      let place : place_of (defined_at b a.func) a.code a.labels ≡ place_of (Some w.func) a.code a.labels = ap (λ o. place_of o a.code a.labels) w.func_is in
      let chain_at : slice_get (calls_in w.func) (place_of (Some w.func) a.code a.labels) ≡ Some chain.1 = ap (slice_get (calls_in w.func)) (sym place)
      ∙ ap (λ (f : Func). slice_get (calls_in f) (place_of (defined_at b a.func) a.code a.labels)) (sym chain_f) ∙ chain.3 in
      let same_c : chain.1 ≡ w.callee = the_callee chain.1 w.callee (sym chain_at ∙ k.callee) in
      let leads : LeadsTo b table w.callee (a.taken ++ a.operands) g = subst (λ c. LeadsTo b table c (a.taken ++ a.operands) g) same_c chain.4 in (
        record { call = w.callee; stands = standing_is g a us spots; leads = leads; took = called_took b (base_valid m valid) g a table w leads },
        at_calls table root a.func us spots.1 stands.3,
      )

  -- those in front of others that wait
  pub front_at_numbers : (table : List (Option ℕ)) (root g : ℕ) (us more : List Activation) → CallersAtSpots (Base m) g (us ++ more) → CallersAt (Base m) table root g (us ++ more)
      → All (StandsNumbered m s which) (map (suspended (Base m)) us) → AllAtNumbers table g us
  front_at_numbers table root g [] more spots stands nums = tt
  front_at_numbers table root g (a ∷ us) more spots stands nums =
      let w = spots.0 in
      let n0 : StandsNumbered m s which (suspended b a) = All-head (StandsNumbered m s which) (suspended b a) (map (suspended b) us) nums in
      let fn = n0.numbered in
      let k = at_call b w.func w.results a.labels w.call a.code w.own w.below w.callee w.callee_is w.spot in
      let chain = stack_chained b table root g (a ∷ (us ++ more)) stands in
      let same_f : fn.0 ≡ w.func = the_func fn.0 w.func (sym fn.1 ∙ sym (base_defined m a.func) ∙ w.func_is) in
      let chain_f : chain.0 ≡ w.func = the_func chain.0 w.func (sym chain.2 ∙ w.func_is) in
      let place : place_of (defined_at b a.func) a.code a.labels ≡ place_of (Some w.func) a.code a.labels = ap (λ o. place_of o a.code a.labels) w.func_is in
      let chain_at : slice_get (calls_in w.func) (place_of (Some w.func) a.code a.labels) ≡ Some chain.1 = ap (slice_get (calls_in w.func)) (sym place)
      ∙ ap (λ (f : Func). slice_get (calls_in f) (place_of (defined_at b a.func) a.code a.labels)) (sym chain_f) ∙ chain.3 in
      let same_c : chain.1 ≡ w.callee = the_callee chain.1 w.callee (sym chain_at ∙ k.callee) in
      let leads : LeadsTo b table w.callee (a.taken ++ a.operands) g = subst (λ c. LeadsTo b table c (a.taken ++ a.operands) g) same_c chain.4 in
      let listed : Contains (Numbered m s which w.func) (place_of (Some w.func) a.code a.labels) =
      subst (λ (f : Func). Contains (Numbered m s which f) (place_of (Some w.func) a.code a.labels)) same_f (subst (Contains (Numbered m s which fn.0)) place fn.2) in
      let passed = listed_passes (has_number m s which) 0 (calls_in w.func) (place_of (Some w.func) a.code a.labels) listed in
      let spot_at : slice_get (calls_in w.func) passed.0 ≡ Some w.callee = let z : passed.0
      ≡ place_of (Some w.func) a.code a.labels = let e = passed.2 in omega arith in ap (slice_get (calls_in w.func)) z ∙ k.callee in
      let same_p : passed.1 ≡ w.callee = the_callee passed.1 w.callee (sym passed.3 ∙ spot_at) in (
        record {
          func = w.func;
          is = w.func_is;
          told = n0.instrumented;
          call = w.callee;
          at = k.callee;
          has = subst (λ c. has_number m s which c ≡ true) same_p passed.4;
          listed = listed;
          points = k.operands ∙ ap (λ ts. Some ts) (sym w.before);
          leads = leads;
          took = called_took b (base_valid m valid) g a table w leads;
          typed = w.locals_fit;
        },
        front_at_numbers table root a.func us more spots.1 stands.3 (All-tail (StandsNumbered m s which) (suspended b a) (map (suspended b) us) nums),
      )

  pub at_numbers : (table : List (Option ℕ)) (root g : ℕ) (us : List Activation) → CallersAtSpots (Base m) g us → CallersAt (Base m) table root g us
      → All (StandsNumbered m s which) (map (suspended (Base m)) us) → AllAtNumbers table g us
  at_numbers table root g us spots stands nums =
      front_at_numbers table root g us [] (subst (CallersAtSpots (Base m) g) (sym (append-nil us)) spots) (subst (CallersAt (Base m) table root g) (sym (append-nil us)) stands) nums

pub space_of : (m : Module) → length (func_sorts (Base m)) ≡ func_space m
unfolding Base
space_of m = refl

pub space_below : (m : Module) → Valid m → (x : ℕ) (f : Func) → defined_at (Base m) x ≡ Some f → x < func_space m
space_below m valid x f e = subst (λ i. x < i) (space_of m) (defined_below (Base m) [] [] [] [] (valid_named (Base m) (base_valid m valid)) x f e)

module _ (m : Module) (s : Settings) (which : List Bool) (frames : (index : ℕ) → Framing) (plan : Plan) (p : Module) (valid : Valid m) (tells : TellsMayPause m s which)
    (em : Emitted m s which frames p)
    (plan_fits : Given m plan) (codes : CodesIn (Base m)) (top : ℕ) where
  abbrev fits : CoreFits (core_of m s which frames plan p)
  fits = core_fits m s which frames plan p valid tells em plan_fits codes

  abbrev v : Setting
  v = setting (world_of (core_of m s which frames plan p)) top

  -- the type of a function as the guards' laws have it
  params_same : (g : ℕ) → g < func_space m → param_count (func_type_at v.flat g) ≡ param_count (func_type_at (Base m) g)
  params_same g lt =
      ap param_count (grown_func_type (core_of m s which frames plan p) fits g (subst (λ i. g < i) (sym (funcs_are (core_of m s which frames plan p) fits)) lt)
      ∙ func_type_same (core_of m s which frames plan p) fits g)

  -- whatever such operands may have called has a number
  goes_numbered : (g : ℕ) (taken ops : List Value) (x c : Callee) (table : List (Option ℕ)) → g < func_space m → has_number m s which x ≡ true → LeadsTo (Base m) table x (taken ++ ops) g
      → Took x (param_count (func_type_at (Base m) g)) (length taken) → GoesTo (sides_of v) g taken c → has_number m s which c ≡ true
  goes_numbered g taken ops (direct y) _ table lt has leads took (directly count) = subst (λ z. has_number m s which (direct z) ≡ true) leads has
  goes_numbered g taken ops (direct y) _ table lt has leads took (by_table t n rest split count sort at same) =
      let e = params_same g lt in let l : length taken ≡ suc (length rest) = ap length split in absurd (omega arith)
  goes_numbered g taken ops (indirect t) _ table lt has leads took (directly count) = let e = params_same g lt in absurd (omega arith)
  goes_numbered g taken ops (indirect t) _ table lt has leads took (by_table t2 n rest split count sort at same) = has

  -- THE NUMBERS of a stack that waits
  pub stack_numbered : (table : List (Option ℕ)) (g : ℕ) (us us' : List Activation) → g < func_space m → Callers (Base m) which g us us' → AllAtNumbers m s which valid table g us → AllNumbered v g us'
  stack_numbered table g _ _ lt host h = tt
  stack_numbered table g _ _ lt (above {fn = fn} {f = f} {under = us} {under' = us'} {ops = ops} {taken = taken} told is under ls spot) h =
      let h0 = h.0 in
      (λ c goes. goes_numbered g taken ops h0.call c table lt h0.has h0.leads h0.took goes, stack_numbered table fn us us' (space_below m valid fn f is) under h.1)
  stack_numbered table g _ _ lt (above_same {fn = fn} told is under act) h = let e = (h.0).told in let bad : true ≡ false = ap is_told (sym e) ∙ told in cc

  -- whatever such operands may have called has a number where the call has one
  goes_same : (g : ℕ) (taken ops : List Value) (x c : Callee) (table : List (Option ℕ)) → g < func_space m → LeadsTo (Base m) table x (taken ++ ops) g
      → Took x (param_count (func_type_at (Base m) g)) (length taken) → GoesTo (sides_of v) g taken c → has_number m s which x ≡ has_number m s which c
  goes_same g taken ops (direct y) _ table lt leads took (directly count) = ap (λ z. has_number m s which (direct z)) leads
  goes_same g taken ops (direct y) _ table lt leads took (by_table t n rest split count sort at same) =
      let e = params_same g lt in let l : length taken ≡ suc (length rest) = ap length split in absurd (omega arith)
  goes_same g taken ops (indirect t) _ table lt leads took (directly count) = let e = params_same g lt in absurd (omega arith)
  goes_same g taken ops (indirect t) _ table lt leads took (by_table t2 n rest split count sort at same) = refl

  -- By activation: the original's stands at a numbered call where its function may pause, and what the flat one may have called has a number.
  abbrev pub AllNumberedAs : ℕ → (us us' : List Activation) → Type 0
  AllNumberedAs g [] [] = Unit {0}
  AllNumberedAs g (a ∷ us) (a' ∷ us') =
      ((c : Callee) → GoesTo (sides_of v) g a'.taken c → stands_numbered m s which (suspended (Base m) a) ≡ (is_told (slice_get which a.func) && has_number m s which c)) × AllNumberedAs a.func us us'
  AllNumberedAs g _ _ = ⊥

  pub stack_numbered_as : (table : List (Option ℕ)) (g : ℕ) (us us' : List Activation) → g < func_space m → Callers (Base m) which g us us' → AllAtCalls m s which valid table g us → AllNumberedAs g us us'
  stack_numbered_as table g _ _ lt host h = tt
  stack_numbered_as table g _ _ lt (above {fn = fn} {f = f} {under = us} {under' = us'} {ops = ops} {taken = taken} told is under ls spot) h =
      let h0 = h.0 in (
        λ c goes. h0.stands ∙ ap (λ n. is_told (slice_get which fn) && n) (goes_same g taken ops h0.call c table lt h0.leads h0.took goes),
        stack_numbered_as table fn us us' (space_below m valid fn f is) under h.1,
      )
  stack_numbered_as table g _ _ lt (above_same {fn = fn} {f = f} {under = us} {under' = us'} {ops = ops} {taken = taken} told is under act) h =
      let h0 = h.0 in (
        λ c goes. h0.stands ∙ ap (λ n. is_told (slice_get which fn) && n) (goes_same g taken ops h0.call c table lt h0.leads h0.took goes),
        stack_numbered_as table fn us us' (space_below m valid fn f is) under h.1,
      )
