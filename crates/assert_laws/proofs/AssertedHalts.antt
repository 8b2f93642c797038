-- With asserts an unwind of a stack that doesn't stand at numbered calls, or doesn't fit, ends in the area.
use Rattle.std.proofs.Common.{◌≡◌, ◌∙◌, ℕ, suc, ◌+◌, ◌≤◌, ◌<◌, List, [], ◌∷◌, ◌++◌, length, map, Option, Some, None, Bool, true, false, All, refl, sym, ap, subst, arith, ⊎_elim}
use Rattle.std.specs.Prelude.{not, ◌&&◌, ◌||◌, nat_lt, if◌then◌else◌, slice_get}
use Rattle.std.specs.List.{list_all, list_any, sum_by}
use Rattle.std.proofs.lemmas.Bool.{ltb-true}
use Rattle.std.proofs.lemmas.List.{length-map, map-append}
use Rattle.std.proofs.lemmas.List.Elements.{All-cons, All-nil}
use Rattle.std.proofs.lemmas.List.Sums.{sum_by-append}
use Rattle.wa_types.specs.Base.{Base}
use Rattle.wa_types.specs.Bounds.{activation_bound}
use Rattle.wa_types.specs.Frames.{Fit, Room, Suspended}
use Rattle.wa_types.specs.Modules.{defined_at, func_type_at}
use Rattle.wa_types.specs.Pausing.{Callee, Settings, TellsMayPause, has_number, is_told, Numbered}
use Rattle.wa_types.specs.Runtime.{global_space}
use Rattle.wa_types.specs.Syntax.{Func, Module}
use Rattle.wa_types.specs.Validity.{Valid}
use Rattle.wa_model.specs.Behaves.{StandsNumbered}
use Rattle.wa_model.specs.Blocking.{Left}
use Rattle.wa_model.specs.Configuration.{Activation, Configuration, stack_of, suspended, waiting}
use Rattle.run_theory.specs.Fitting.{results_of, types_of}
use Rattle.run_theory.specs.Flat.{code_of, set_to}
use Rattle.flat_laws.specs.Flatten.{names, top_of}
use Rattle.wa_model.specs.Outside.{Answer}
use Rattle.wa_model.specs.Plan.{Entry, Plan}
use Rattle.wa_model.specs.Protocol.{exports_of}
use Rattle.wa_model.specs.Step.{param_count, result_count}
use Rattle.wa_model.specs.Store.{Store}
use Rattle.run_laws.specs.Ranges.{CodesIn}
use Rattle.guard_form.specs.AssertedRuns.{is_stuck, Reach, stands_numbered}
use Rattle.guard_form.proofs.Expecting.{stands_law}
use Rattle.assert_laws.specs.Beside as A
use Rattle.assert_laws.specs.Links.{assert_sides, LinkedBeside, WaitsBeside}
use Rattle.assert_laws.proofs.Carrying.{carried_law}
use Rattle.assert_laws.proofs.TestMet.{met_law}
use Rattle.assert_laws.specs.AssertedUnits.{asserted_units}
use Rattle.frame_laws.specs.Stack.{Level, activation_of, unwinding_onto, waiting_above}
use Rattle.guard_form.specs.Functions.{ArmsHold, GuardedFunc, Role, with_guards}
use Rattle.guard_form.specs.Pieces.{Units, no_unit, call_unit, nest_unit, if_unit, first_piece, units}
use Rattle.guard_form.specs.Places.{Enclosing, BodyPlace, at_start, past_call, past_block, past_loop, past_if, in_block, in_loop, in_then, in_else}
use Rattle.guard_form.proofs.Grouped.{arms_law}
use Rattle.guard_runs.proofs.WaitingLevels.{stopped_are_levels}
use Rattle.guard_runs.specs.Levels.{levels_of}
use Rattle.guard_runs.proofs.FrontStands.{front_law}
use Rattle.guard_runs.proofs.StopsInside.{somewhere_law}
use Rattle.guard_runs.specs.Alike.{Setting, sides_of}
use Rattle.guard_runs.specs.Beside.{Callers}
use Rattle.guard_runs.specs.Stopped.{FirstFails, NumberedAs, Stopped, StopsInside, UnitsNumbered}
use Rattle.guard_runs.specs.Stopped as S
use Rattle.guard_runs.proofs.Pausing.{halts_law}
use Rattle.guard_runs.proofs.Reaching.{reaches_law}
use Rattle.guard_runs.specs.Pause.{AreaReady, UnwindTraps}
use Rattle.headline.specs.FlatLaw.{AllLocalsFit, AllWeigh, FlatLaw}
use Rattle.headline.specs.Halts.{HaltLaw, HaltsIn, room_by}
use Rattle.headline.specs.LiveLaw as V
use Rattle.headline.specs.World.{World, WorldFits, setting}
use Rattle.headline.proofs.Halting.{overruns}
use Rattle.headline.proofs.OuterLevels.{weigh_all}
use Rattle.headline.proofs.Rooms.{all_front, none_fails}
use Rattle.slim_laws.specs.Beside as T
use Rattle.slim_laws.specs.SlimModule.{flat_terms}
use Rattle.slim_laws.proofs.UnitsAlike.{units_alike}
use Rattle.flat_runs.specs.Beside as Fl
use Rattle.headline.specs.SlimBeside.{slim_sides}
use Rattle.headline.specs.Core.{Core, CoreFits, world_of}
use Rattle.headline.specs.Links.{GoodStore, LinkedWaits}
use Rattle.headline.specs.Links as N
use Rattle.headline.proofs.Spaces.{imports_few}
use Rattle.headline.specs.Given.{Given}
use Rattle.headline.specs.CoreOf.{RunsBeside, WaitsBeside as SlimWaits, core_of, flat_core}
use Rattle.headline.specs.EmittedModule.{Emitted, Framing, flat_of, guarded_of, role_at, slim_of, terms_of}
use Rattle.headline.specs.Framed.{FramedCalls}
use Rattle.headline.proofs.NumberedStacks.{AllNumberedAs, at_calls, front_at_numbers, stack_numbered_as}
use Rattle.headline.proofs.PairedFlat.{base_defined, core_fits}
use Rattle.headline.proofs.PairedStacks.{AllPairs, pairs}
use Rattle.headline.proofs.SlimStacks.{pairs_too}
use Rattle.headline.proofs.WaitsAgain.{all_told, front_same}
use Rattle.assert_laws.specs.AssertedRoles.{asserted_guards, asserted_role}
use Rattle.assert_laws.proofs.OwnUnits.{own_unit}
use Rattle.assert_laws.proofs.AssertedPlaces.{arms_too}
use Rattle.assert_laws.proofs.BareStacks.{any_alike, bare_stack, reach_alike, sum_alike}
use Rattle.assert_laws.proofs.AssertedStacks.{SameLocals, pairs_asserted, role2, stands_so, w2}

-- ---- lists

record Split {X : Type 0} (T : X → Bool) (us : List X) (front : List Bool) : Type 0 where
  us1 : List X
  at : X
  us2 : List X
  are : us ≡ us1 ++ at ∷ us2
  passing : map T us1 ≡ front
  fails : T at ≡ false

split_at : {X : Type 0} (T : X → Bool) (us : List X) (front rest : List Bool) → map T us ≡ front ++ false ∷ rest → Split T us front
split_at T [] [] rest e = cc
split_at T [] (b ∷ front) rest e = cc
split_at T (u ∷ us) [] rest e = record { us1 = []; at = u; us2 = us; are = refl; passing = refl; fails = cc }
split_at T (u ∷ us) (b ∷ front) rest e =
    let here : T u ≡ b = cc in
    let r = split_at T us front rest cc in
    record { us1 = u ∷ r.us1; at = r.at; us2 = r.us2; are = ap (λ z. u ∷ z) r.are; passing = ap (λ z. z ∷ map T r.us1) here ∙ ap (λ z. b ∷ z) r.passing; fails = r.fails }

all_passed : {X Y : Type 0} (g : X → Y) (T : Y → Bool) (us : List X) (front : List Bool) → map (λ u. T (g u)) us ≡ front → list_all (λ b. b) front ≡ true → list_all T (map g us) ≡ true
all_passed g T [] front e h = refl
all_passed g T (u ∷ us) [] e h = cc
all_passed g T (u ∷ us) (b ∷ front) e h =
    let here : T (g u) ≡ b = cc in
    let more : map (λ u. T (g u)) us ≡ front = cc in
    let two = parts b (list_all (λ b. b) front) h in
    ap (λ z. z && list_all T (map g us)) (here ∙ two.0) ∙ all_passed g T us front more two.1
  where
    parts : (a b : Bool) → (a && b) ≡ true → (a ≡ true) × (b ≡ true)
    parts true true e = (refl, refl)
    parts true false e = cc
    parts false b e = cc

-- some fail, so not all pass
some_fails : {X Y : Type 0} (g : X → Y) (T : Y → Bool) (us : List X) → list_all (λ b. b) (map (λ u. T (g u)) us) ≡ true → list_any (λ y. not (T y)) (map g us) ≡ true → ⊥
some_fails g T [] h e = cc
some_fails {X} {Y} g T (u ∷ us) h e = by (T (g u)) h e (λ h2 e2. some_fails g T us h2 e2)
  where
    by : (b : Bool) → (b && list_all (λ b. b) (map (λ u. T (g u)) us)) ≡ true → (not b || list_any (λ y. not (T y)) (map g us)) ≡ true
        → (list_all (λ b. b) (map (λ u. T (g u)) us) ≡ true → list_any (λ y. not (T y)) (map g us) ≡ true → ⊥) → ⊥
    by true h e ih = ih h e
    by false h e ih = cc

sum_front : (f : Suspended → ℕ) (xs ys : List Suspended) → sum_by f xs ≤ sum_by f (xs ++ ys)
sum_front f xs ys = let e = sum_by-append f xs ys in omega arith

-- ---- numbered units

units_numbered : (n : Callee → Bool) (t : Callee → Bool) (st : ℕ) (us : Units) → UnitsNumbered n us → UnitsNumbered n (asserted_units t st us)
units_numbered n t st no_unit h = tt
units_numbered n t st (call_unit slots x to behind rest) h = (h.0, units_numbered n t st rest h.1)
units_numbered n t st (nest_unit s first body behind rest) h = (units_numbered n t st body h.0, units_numbered n t st rest h.1)
units_numbered n t st (if_unit c fa a fb b behind rest) h = (units_numbered n t st a h.0, units_numbered n t st b h.1, units_numbered n t st rest h.2)

place_numbered : (n : Callee → Bool) (st : ℕ) (f : GuardedFunc) (k : ℕ) (us : Units) (xs : List Enclosing) → UnitsNumbered n f.body → BodyPlace st f k us xs → UnitsNumbered n us
place_numbered n st f _ _ _ h at_start = h
place_numbered n st f _ us xs h (past_call {k = k} {behind = b} slots x to pl) = (place_numbered n st f k _ xs h pl).1
place_numbered n st f _ us xs h (past_block {k = k} {behind = b} first body pl) = (place_numbered n st f k _ xs h pl).1
place_numbered n st f _ us xs h (past_loop {k = k} {behind = b} first body pl) = (place_numbered n st f k _ xs h pl).1
place_numbered n st f _ us xs h (past_if {k = k} {behind = b} c fa a fb d pl) = (place_numbered n st f k _ xs h pl).2
place_numbered n st f _ us _ h (in_block {k = k} {xs = xs} i pl) = (place_numbered n st f k _ xs h pl).0
place_numbered n st f _ us _ h (in_loop {k = k} {xs = xs} i pl) = (place_numbered n st f k _ xs h pl).0
place_numbered n st f _ us _ h (in_then {k = k} {xs = xs} i pl) = (place_numbered n st f k _ xs h pl).0
place_numbered n st f _ us _ h (in_else {k = k} {xs = xs} i pl) = (place_numbered n st f k _ xs h pl).1

-- a stack that stops as a whole passes all tests
all_stop : (v : Setting) (told : ℕ → Bool) → ((x : ℕ) (f : GuardedFunc) → v.role x ≡ with_guards f → (told x ≡ true) × UnitsNumbered v.numbered f.body)
    → (g : ℕ) (us us' : List Activation) → Stopped v g us us' → (tests : List Bool) → NumberedAs v told g tests us → list_all (λ b. b) tests ≡ true
all_stop v told roles g _ _ (S.host e) [] h = refl
all_stop v told roles g _ _ (S.host e) (b ∷ bs) h = absurd h
all_stop v told roles g _ _ (S.above fn lt is ls extra ops taken both i pl gt deep st) [] h = absurd h
all_stop v told roles g _ _ (S.above {f = f} {k = k} {x = x} {xs = xs} {under = us} {under' = us'} fn lt is ls extra ops taken both i pl gt deep st) (b ∷ bs) h =
    let r = roles fn f is in
    let n : v.numbered x ≡ true = (place_numbered v.numbered v.globals f k _ xs r.1 pl.place).0 in
    let z : b ≡ true = h.0 x gt ∙ ap (λ c. c && v.numbered x) r.0 ∙ n in
    ap (λ c. c && list_all (λ d. d) bs) z ∙ all_stop v told roles fn us us' st bs h.1

front_fit : (p : Module) (xs ys : List Activation) → AllLocalsFit p (xs ++ ys) → AllLocalsFit p xs
front_fit p [] ys h = tt
front_fit p (x ∷ xs) ys h = (h.0, front_fit p xs ys h.1)

-- where some levels wait above an activation
above_is : (s : Store) (ws : List Level) (b : Activation) (rest : List Activation) (here : Activation) (under : List Activation) → here ∷ under ≡ map activation_of ws ++ b ∷ rest
    → waiting_above s ws b rest ≡ record { store = s; here = here; under = under }
above_is s [] b rest here under e = let e1 : b ≡ here = cc in let e2 : rest ≡ under = cc in ap (λ z. record { store = s; here = z; under = rest }) e1 ∙ ap (λ z. record { store = s; here = here; under = z }) e2
above_is s (v ∷ vs) b rest here under e =
    let e1 : activation_of v ≡ here = cc in
    let e2 : map activation_of vs ++ b ∷ rest ≡ under = cc in
    ap (λ z. record { store = s; here = z; under = map activation_of vs ++ b ∷ rest }) e1 ∙ ap (λ z. record { store = s; here = here; under = z }) e2

onto_few : (m : Module) (n : ℕ) (ws : List Level) (stack : List Suspended) → AllWeigh m n ws stack → unwinding_onto ws ≤ 1 + sum_by (activation_bound m) stack
onto_few m n [] stack h = omega arith
onto_few m n (v ∷ vs) stack h = let w = weigh_all m n v vs stack h in omega arith

-- ---- fronts of stacks

record Cut (R : List Activation → List Activation → Type 0) (us vs : List Activation) : Type 0 where
  first : List Activation
  rest : List Activation
  are : vs ≡ first ++ rest
  holds : R us first

cut_flat : (m : Module) (which : List Bool) (g : ℕ) (us more vs : List Activation) → Fl.Callers m which g (us ++ more) vs → Cut (Fl.Callers m which g) us vs
cut_flat m which g [] more vs h = record { first = []; rest = vs; are = refl; holds = Fl.host }
cut_flat m which g (a ∷ us) more _ (Fl.above {fn = fn} {f = f} {under' = vs} {ls = ls} {extra = extra} {ops = ops} {taken = taken} {labels' = labels'} {stmts = stmts} told is un l sp) =
    let r = cut_flat m which fn us more vs un in
    let x : Activation = waiting fn (ls ++ extra) [] taken (set_to (top_of (names m f) (result_count m g) (results_of m g ++ types_of ops)) (code_of stmts)) labels' in
    record { first = x ∷ r.first; rest = r.rest; are = ap (λ z. x ∷ z) r.are; holds = Fl.above told is r.holds l sp }
cut_flat m which g (a ∷ us) more _ (Fl.above_same {fn = fn} {under' = vs} {ls = ls} {ops = ops} {taken = taken} {code = code} {labels = labels} told is un act) =
    let r = cut_flat m which fn us more vs un in
    let x : Activation = waiting fn ls ops taken code labels in
    record { first = x ∷ r.first; rest = r.rest; are = ap (λ z. x ∷ z) r.are; holds = Fl.above_same told is r.holds act }

cut_slim : (w : T.Sides) (us more vs : List Activation) → T.Unders w (us ++ more) vs → Cut (T.Unders w) us vs
cut_slim w [] more vs h = record { first = []; rest = vs; are = refl; holds = T.bottom }
cut_slim w (a ∷ us) more _ (T.above {a' = a'} {under' = vs} wt un) =
    let r = cut_slim w us more vs un in record { first = a' ∷ r.first; rest = r.rest; are = ap (λ z. a' ∷ z) r.are; holds = T.above wt r.holds }

cut_tested : (w : A.Sides) (g : ℕ) (us more vs : List Activation) → A.Unders w g (us ++ more) vs → Cut (A.Unders w g) us vs
cut_tested w g [] more vs h = record { first = []; rest = vs; are = refl; holds = A.bottom }
cut_tested w g (a ∷ us) more _ (A.above {a' = a'} {under' = vs} wt un) =
    let r = cut_tested w a.func us more vs un in record { first = a' ∷ r.first; rest = r.rest; are = ap (λ z. a' ∷ z) r.are; holds = A.above wt r.holds }

pairs_long : (m : Module) (which : List Bool) (us vs : List Activation) → AllPairs m which us vs → length vs ≡ length us
pairs_long m which [] [] h = refl
pairs_long m which [] (v ∷ vs) h = absurd h
pairs_long m which (a ∷ us) [] h = absurd h
pairs_long m which (a ∷ us) (v ∷ vs) h = ap suc (pairs_long m which us vs h.1)

the_guards : (x y : GuardedFunc) → with_guards x ≡ with_guards y → x ≡ y
the_guards x y e = cc

module _ (m : Module) (s : Settings) (which : List Bool) (frames : (index : ℕ) → Framing) (plan : Plan) (p0 : Module) (valid : Valid m) (tells : TellsMayPause m s which)
    (em : Emitted m s which frames p0) (plan_fits : Given m plan) (codes : CodesIn (Base m)) (q p : Module)
    (ok : A.Together (assert_sides (world_of (core_of m s which frames plan p0)) q)) (back : SameLocals p0 p) (framed : FramedCalls m s which frames)
    (own_numbered : (x : ℕ) (f : Func) → defined_at m x ≡ Some f → is_told (slice_get which x) ≡ true → UnitsNumbered (has_number m s which) (frames x).pieces.units) where
  abbrev k : Core
  k = core_of m s which frames plan p0

  abbrev wa : World
  wa = w2 m s which frames plan p0 valid tells em plan_fits codes q p ok back

  abbrev roles : ℕ → Role
  roles = role2 m s which frames plan p0 valid tells em plan_fits codes q p ok back

  abbrev sides : A.Sides
  sides = assert_sides (world_of (core_of m s which frames plan p0)) q

  abbrev slims : T.Sides
  slims = slim_sides (flat_core m s which frames plan p0) (slim_of m s which frames) (terms_of m s which frames)

  abbrev ask : Callee → Bool
  ask = λ x. not (has_number m s which x)

  abbrev told : ℕ → Bool
  told = λ x. is_told (slice_get which x)

  abbrev Te : Activation → Bool
  Te = λ u. stands_numbered m s which (suspended (Base m) u)

  fits : CoreFits k
  fits = core_fits m s which frames plan p0 valid tells em plan_fits codes

  -- a guarded function with asserts: its arms hold, it is told, and each unit's own call has a number
  role_is : (x : ℕ) (f2 : GuardedFunc) → asserted_role ask (global_space m) (role_at m s which frames (is_told (slice_get which x)) x (defined_at m x)) ≡ with_guards f2
      → ArmsHold f2.body × ((is_told (slice_get which x) ≡ true) × UnitsNumbered (has_number m s which) f2.body)
  role_is x f2 e = by (defined_at m x) refl (is_told (slice_get which x)) refl e
    where
      by : (o : Option Func) → defined_at m x ≡ o → (t : Bool) → is_told (slice_get which x) ≡ t → asserted_role ask (global_space m) (role_at m s which frames t x o) ≡ with_guards f2
          → ArmsHold f2.body × ((is_told (slice_get which x) ≡ true) × UnitsNumbered (has_number m s which) f2.body)
      by None is t td e = cc
      by (Some f) is false td e = cc
      by (Some f) is true td e =
          let ps = Numbered m s which f in
          let body = (flat_of m s which frames x f).body in
          let sp = em.slim x f (base_defined m x ∙ is) td in
          let arms : ArmsHold (frames x).pieces.units =
          (units_alike (flat_terms (Base m) ps x f) 0 (sp.out ∷ []) sp.out sp.here [] (first_piece ps 0 body) (frames x).pieces.first (units ps 0 body) (frames x).pieces.units sp.slim).arms
          (arms_law ps 0 body) in
          let same : asserted_guards ask (global_space m) (guarded_of m s which frames x f) ≡ f2 = the_guards (asserted_guards ask (global_space m) (guarded_of m s which frames x f)) f2 e in (
            subst (λ (z : GuardedFunc). ArmsHold z.body) same
                (arms_too ask (global_space m) (guarded_of m s which frames x f).body (own_unit m s which tells x f is td (frames x).pieces sp, arms, tt)),
            (
              td,
              subst (λ (z : GuardedFunc). UnitsNumbered (has_number m s which) z.body) same
                  (units_numbered (has_number m s which) ask (global_space m) (guarded_of m s which frames x f).body (own_numbered x f is td, tt)),
            ),
          )

  -- who stands at numbered calls, of slim activations
  as_slim : (top g : ℕ) (us vs ws : List Activation) → Fl.Callers (Base m) which g us vs → T.Unders slims vs ws → AllNumberedAs m s which frames plan p0 valid tells em plan_fits codes top g us vs
      → NumberedAs (setting (world_of k) top) told g (map Te us) ws
  as_slim top g _ _ _ Fl.host T.bottom h = tt
  as_slim top g _ _ _ (Fl.above {fn = fn} {under = us} {under' = vs} td is un l sp) (T.above {under' = ws} (T.waits fn2 f ac ls ls' ops taken size ag sl ar) sun) h = (h.0, as_slim top fn us vs ws un sun h.1)
  as_slim top g _ _ _ (Fl.above_same {fn = fn} {under = us} {under' = vs} td is un act) (T.above {under' = ws} (T.waits fn2 f ac ls ls' ops taken size ag sl ar) sun) h =
      (h.0, as_slim top fn us vs ws un sun h.1)

  nums_of : (us : List Activation) → list_all (stands_numbered m s which) (map (suspended (Base m)) us) ≡ true → All (StandsNumbered m s which) (map (suspended (Base m)) us)
  nums_of [] h = All-nil (StandsNumbered m s which)
  nums_of (u ∷ us) h =
      let two = parts (stands_numbered m s which (suspended (Base m) u)) (list_all (stands_numbered m s which) (map (suspended (Base m)) us)) h in
      All-cons (StandsNumbered m s which) (suspended (Base m) u) (map (suspended (Base m)) us) ((stands_law m s which (suspended (Base m) u)).0 two.0) (nums_of us two.1)
    where
      parts : (a b : Bool) → (a && b) ≡ true → (a ≡ true) × (b ≡ true)
      parts true true e = (refl, refl)
      parts true false e = cc
      parts false b e = cc

  abbrev L2 : (top spare : ℕ) → Configuration → Configuration → Type 0
  L2 = LinkedBeside (world_of k) q (N.L k (RunsBeside m s which frames plan p0) (SlimWaits m s which frames plan p0)) (N.W k (RunsBeside m s which frames plan p0) (SlimWaits m s which frames plan p0))

  abbrev W2 : (top import : ℕ) → Configuration → Configuration → Type 0
  W2 = WaitsBeside (world_of k) q (N.L k (RunsBeside m s which frames plan p0) (SlimWaits m s which frames plan p0)) (N.W k (RunsBeside m s which frames plan p0) (SlimWaits m s which frames plan p0))

  -- with a step in between that a policy chooses, which changes values alone
  module _ (ft : WorldFits wa) (Live : Configuration → Configuration → Type 0) (alike : (c d : Configuration) → Live c d → bare_stack m c ≡ bare_stack m d)
      (law : FlatLaw wa (λ c d. c ≡ d) (V.L2 Live L2 W2) (V.W2 Live L2 W2) (GoodStore k)) where
    -- where it stops inside
    inside : (top i : ℕ) (d f at : Configuration) (e : Entry) (a : Answer) (l : Left) → W2 top i d f → StopsInside (setting wa top) i (f.here ∷ f.under) (at.here ∷ at.under)
        → NumberedAs (setting wa top) told i (map Te (d.here ∷ d.under)) (f.here ∷ f.under) → AllLocalsFit p (at.here ∷ at.under)
        → AreaReady (global_space m) (global_space m) (suc (global_space m)) plan.area at.store
        → HaltsIn wa e i a l (stack_of (Base m) d) at (Reach m s which plan.area.len (stack_of (Base m) d))
    inside top i d f at e a l h si num fit rdy =
        let v = h.between in
        let lw = h.waits in
        let be = lw.beside in
        let fl = be.between in
        let us = d.here ∷ d.under in
        let ff = front_law (setting wa top) told i (map Te us) (f.here ∷ f.under) (at.here ∷ at.under) (λ x g r. (role_is x g r).1) num si in
        let sp = split_at Te us ff.front ff.rest ff.are in
        let passed : list_all (stands_numbered m s which) (map (suspended (Base m)) sp.us1) ≡ true = all_passed (suspended (Base m)) (stands_numbered m s which) sp.us1 ff.front sp.passing ff.all in
        let nums = nums_of sp.us1 passed in
        let at1 = front_at_numbers m s which valid d.store.table lw.root i sp.us1 (sp.at ∷ sp.us2)
        (subst (Rattle.run_laws.proofs.SpotSteps.CallersAtSpots (Base m) i) sp.are lw.spots.waits)
        (subst (Rattle.run_laws.proofs.StandingStates.CallersAt (Base m) d.store.table lw.root i) sp.are lw.stands.stack) nums in
        let c1 = cut_flat (Base m) which i sp.us1 (sp.at ∷ sp.us2) (fl.here ∷ fl.under) (subst (λ z. Fl.Callers (Base m) which i z (fl.here ∷ fl.under)) sp.are (be.asked).waits) in
        let td = all_told m s which frames plan p0 valid tells em plan_fits codes d.store.table i sp.us1 at1 in
        let pf = pairs (Base m) which i sp.us1 c1.first c1.holds td in
        let c2 = cut_slim slims c1.first c1.rest (v.here ∷ v.under) (subst (λ z. T.Unders slims z (v.here ∷ v.under)) c1.are (be.slim_asked).stack) in
        let ps = pairs_too m s which frames plan p0 valid d.store.table i sp.us1 c1.first c2.first at1 pf c2.holds in
        let c3 = cut_tested sides i c2.first c2.rest (f.here ∷ f.under) (subst (λ z. A.Unders sides i z (f.here ∷ f.under)) c2.are h.asked.stack) in
        let pa = pairs_asserted m s which frames plan p0 valid tells em plan_fits codes q p ok back i sp.us1 c2.first c3.first c3.holds ps in
        let long1 = pairs_long (Base m) which sp.us1 c3.first pa in
        let long2 : length sp.us1 ≡ length si.inner = sym (length-map sp.us1 Te) ∙ ap length sp.passing ∙ ff.as_many in
        let same : c3.first ≡ si.inner = front_same c3.first si.inner c3.rest (si.at ∷ si.rest) (sym c3.are ∙ si.are) (long1 ∙ long2) in
        let fit1 = front_fit p si.inner' (si.at' ∷ si.rest') (subst (AllLocalsFit p) si.are' fit) in
        let st = stands_so m s which frames plan p0 valid tells em plan_fits codes q p ok back framed si.called d.store.table i i sp.us1 si.inner si.inner' si.stopped
        (subst (AllPairs (Base m) which sp.us1) same pa) at1 fit1 in
        let ws = levels_of (setting wa si.called) k.lay si.stopped in
        let lv = stopped_are_levels (global_space m) plan.area (setting wa si.called) k.lay i si.inner si.inner' si.stopped (ft.paired si.called) st.0 in
        let met = met_law (world_of k) q p roles k.lay top i (v.here ∷ v.under) (f.here ∷ f.under) (at.here ∷ at.under) ok (λ x y. refl) h.asked.stack si in
        let ht = halts_law (global_space m) (global_space m) (suc (global_space m)) p (exports_of p) plan e i a l at.store ws si.at' si.rest' met.0 ft.runtime rdy lv.fit met.1 in
        let whole : at.here ∷ at.under ≡ map activation_of ws ++ si.at' ∷ si.rest' = si.are' ∙ ap (λ z. z ++ si.at' ∷ si.rest') lv.acts in
        let re = reaches_law m s which ws (map (suspended (Base m)) sp.us1) (suspended (Base m) sp.at) (map (suspended (Base m)) sp.us2) plan.area.len st.1 passed sp.fails in
        let stack_is : stack_of (Base m) d ≡ map (suspended (Base m)) sp.us1 ++ suspended (Base m) sp.at ∷ map (suspended (Base m)) sp.us2 =
        ap (map (suspended (Base m))) sp.are ∙ map-append (suspended (Base m)) sp.us1 (sp.at ∷ sp.us2) in
        let few1 = onto_few m (param_count (func_type_at q si.called)) ws (map (suspended (Base m)) sp.us1) st.2 in
        let few2 = sum_front (activation_bound m) (map (suspended (Base m)) sp.us1) (suspended (Base m) sp.at ∷ map (suspended (Base m)) sp.us2) in
        let few3 = ap (sum_by (activation_bound m)) stack_is in
        record {
          inner = ws;
          bound = 18 + unwinding_onto ws;
          few = omega arith;
          traps = subst (λ z. UnwindTraps (global_space m) p (exports_of p) plan e i a l at.store z (18 + unwinding_onto ws) ws) (above_is at.store ws si.at' si.rest' at.here at.under whole) ht;
          bytes = ap (Reach m s which plan.area.len) stack_is ∙ re.0;
        }

    -- so it is of a stack with other values
    moved_halt : (d c at : Configuration) (e : Entry) (i : ℕ) (a : Answer) (l : Left) → bare_stack m d ≡ bare_stack m c
        → HaltsIn wa e i a l (stack_of (Base m) c) at (Reach m s which plan.area.len (stack_of (Base m) c))
        → HaltsIn wa e i a l (stack_of (Base m) d) at (Reach m s which plan.area.len (stack_of (Base m) d))
    moved_halt d c at e i a l same h = record {
      inner = h.inner;
      bound = h.bound;
      few = let few = h.few in let sum = sum_alike m s which (stack_of (Base m) d) (stack_of (Base m) c) same in omega arith;
      traps = h.traps;
      bytes = reach_alike m s which (stack_of (Base m) d) (stack_of (Base m) c) same plan.area.len ∙ h.bytes;
    }

    -- where this is the stack that stands beside
    halts_at : (top i : ℕ) (d c f at : Configuration) (e : Entry) (a : Answer) (l : Left) → W2 top i c f → bare_stack m d ≡ bare_stack m c → V.W2 Live L2 W2 top i d f
        → Callers (sides_of (setting wa top)) i (f.here ∷ f.under) (at.here ∷ at.under) → plan.area.len < room_by true m s which plan.area.len (stack_of (Base m) d)
        → AllLocalsFit p (at.here ∷ at.under) → AreaReady (global_space m) (global_space m) (suc (global_space m)) plan.area at.store
        → HaltsIn wa e i a l (stack_of (Base m) d) at (Reach m s which plan.area.len (stack_of (Base m) d))
    halts_at top i d c f at e a l h same chosen cs over fit rdy = by (list_any (λ a. not (stands_numbered m s which a)) (stack_of (Base m) d)) refl
      where
        num : NumberedAs (setting wa top) told i (map Te (c.here ∷ c.under)) (f.here ∷ f.under)
        num =
            let v = h.between in
            let lw = h.waits in
            let be = lw.beside in
            let fl = be.between in
            let few = imports_few k fits in
            let kn = lw.known in
            let calls = at_calls m s which valid c.store.table lw.root i (c.here ∷ c.under) lw.spots.waits lw.stands.stack in
            let flat = stack_numbered_as m s which frames plan p0 valid tells em plan_fits codes top c.store.table i (c.here ∷ c.under) (fl.here ∷ fl.under) (omega arith) (be.asked).waits calls in
            carried_law (world_of k) q p roles k.lay top told i (map Te (c.here ∷ c.under)) (v.here ∷ v.under) (f.here ∷ f.under) ok h.asked.stack
            (as_slim top i (c.here ∷ c.under) (fl.here ∷ fl.under) (v.here ∷ v.under) (be.asked).waits (be.slim_asked).stack flat)

        by : (b : Bool) → list_any (λ a. not (stands_numbered m s which a)) (stack_of (Base m) d) ≡ b
            → HaltsIn wa e i a l (stack_of (Base m) d) at (Reach m s which plan.area.len (stack_of (Base m) d))
        by true some =
            ⊎_elim
            (λ st. absurd (some_fails (suspended (Base m)) (stands_numbered m s which) (c.here ∷ c.under)
            (all_stop (setting wa top) told (λ x g r. (role_is x g r).1) i (f.here ∷ f.under) (at.here ∷ at.under) st (map Te (c.here ∷ c.under)) num)
            (sym (any_alike m s which (stack_of (Base m) d) (stack_of (Base m) c) same) ∙ some)))
            (λ si. moved_halt d c at e i a l same (inside top i c f at e a l h si num fit rdy))
            (somewhere_law (setting wa top) i (f.here ∷ f.under) (at.here ∷ at.under) (λ x g r. (role_is x g r).0) cs)
        by false none =
            let nums = none_fails m s which (stack_of (Base m) d) none in
            let more : plan.area.len < Room m s.policy (stack_of (Base m) d) = past (nat_lt plan.area.len (Room m s.policy (stack_of (Base m) d))) refl in
            let r = overruns wa ft (V.L2 Live L2 W2) (V.W2 Live L2 W2) (GoodStore k) law top i d f at e a l chosen cs nums more fit rdy in
            subst (HaltsIn wa e i a l (stack_of (Base m) d) at) (ap (λ z. Fit m s.policy z plan.area.len) (sym (all_front m s which (stack_of (Base m) d) nums))) r
          where
            past : (t : Bool) → nat_lt plan.area.len (Room m s.policy (stack_of (Base m) d)) ≡ t → plan.area.len < Room m s.policy (stack_of (Base m) d)
            past true e = ltb-true plan.area.len (Room m s.policy (stack_of (Base m) d)) e
            past false e =
                let stuck : is_stuck m s which plan.area.len (stack_of (Base m) d) ≡ false = ap (λ b. b || nat_lt plan.area.len (Room m s.policy (stack_of (Base m) d))) none ∙ e in
                subst (λ b. plan.area.len < (if b then suc plan.area.len else Room m s.policy (stack_of (Base m) d))) stuck over

    -- UNWINDS END so
    pub halts_so : HaltLaw wa (V.W2 Live L2 W2)
    halts_so top i d f at e a l h cs known over fit rdy = halts_at top i d h.chosen f at e a l h.waits (alike d h.chosen h.live) h cs over fit rdy
