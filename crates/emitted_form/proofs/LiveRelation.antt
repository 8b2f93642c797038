-- The step in between that the policy `live` puts: it is kept along runs, and what a suspended stack stands for is the same on both sides.
use Rattle.std.proofs.Common.{◌≡◌, ◌∙◌, ℕ, suc, ◌-◌, ◌<◌, ◌≤◌, List, [], ◌∷◌, ◌++◌, length, map, Option, Some, None, Bool, true, false, All, refl, sym, ap, subst, arith, ⊎_elim}
use Rattle.std.specs.Prelude.{nat_lt, slice_get, if◌then◌else◌}
use Rattle.std.proofs.lemmas.Bool.{cases_lt, le-ltb, lt-ltb}
use Rattle.std.proofs.lemmas.List.Elements.{All-nil, All-cons, All-head, All-tail}
use Rattle.std.proofs.lemmas.Option.{slice_get-get_or, slice_get_past}
use Rattle.wa_types.specs.declared.values.ValType.{ValType}
use Rattle.wa_types.specs.declared.values.Value.{Value}
use Rattle.wa_types.specs.declared.values.Value.TheVariants as V
use Rattle.wa_types.specs.Base.{Base}
use Rattle.wa_types.specs.Syntax.{Code, Func, Module}
use Rattle.wa_types.specs.Pruned.{pruned}
use Rattle.wa_types.specs.Modules.{defined_at, locals_of}
use Rattle.wa_types.specs.Pausing.{save_live, Settings}
use Rattle.wa_types.specs.Points.{func_call_points}
use Rattle.wa_types.specs.Liveness.{Position, ReadsFirst, behind_calls, is_live_after, live_from}
use Rattle.wa_types.specs.Frames.{Pair, Place, Saved, SlotPairs, Suspended, is_on_stack, named_places, operand_at, place_onto, slot_places, wanted}
use Rattle.wa_types.proofs.LiveLemmas.{live_reads}
use Rattle.wa_model.specs.Behaves.{StandsNumbered}
use Rattle.wa_model.specs.Configuration.{Activation, Configuration, Label, place_of, suspended, waiting}
use Rattle.wa_model.specs.Store.{Store, value_at}
use Rattle.wa_model.specs.Untouched.{next_ranges}
use Rattle.wa_model.specs.Blocking.{resumed}
use Rattle.frame_laws.specs.Layout.{FrameField, gap, kept}
use Rattle.frame_laws.specs.Stack.{Level}
use Rattle.frame_laws.specs.Suspended.{AllStandFor, Lays, StandsFor, Tells}
use Rattle.run_laws.proofs.SpotSteps.{CallersAtSpots, WaitingAtSpots, WaitsAtSpot}
use Rattle.run_laws.proofs.SpotPlaces.{at_call}
use Rattle.headline.specs.FlatLaw.{AllWeigh}
use Rattle.headline.specs.LiveLaw.{LiveLaw}
use Rattle.headline.specs.World.{World, base}
use Rattle.emitted_form.specs.SameLive.{LiveLocalsStand, SameLive, SameLocals, SameUnder, WaitsThere, alike, also, none, place}
use Rattle.emitted_form.proofs.LiveSteps.{live_suffices}

-- ---- it is a preorder

under_self : (us : List Activation) → SameUnder us us
under_self [] = none
under_self (a ∷ us) = also (refl, λ x r. refl) (under_self us)

live_self : (c : Configuration) → SameLive c c
live_self c = alike (refl, λ x r. refl) (under_self c.under)

locals_on : (code : Code) (labels : List Label) (a b c : List Value) → SameLocals code labels a b → SameLocals code labels b c → SameLocals code labels a c
locals_on code labels a b c h g = (g.0 ∙ h.0, λ x r. g.1 x r ∙ h.1 x r)

under_on : (a b c : List Activation) → SameUnder a b → SameUnder b c → SameUnder a c
under_on _ _ _ none none = none
under_on _ _ _ (also {ls = ls} {ls' = ls'} {code = code} {labels = labels} {under = u} {under' = u'} h us) (also {ls' = ls''} {under' = u''} g vs) =
    also (locals_on code labels ls ls' ls'' h g) (under_on u u' u'' us vs)

live_on : (c d e : Configuration) → SameLive c d → SameLive d e → SameLive c e
live_on _ _ _ (alike {ls = ls} {ls' = ls'} {code = code} {labels = labels} {under = u} {under' = u'} h us) (alike {ls' = ls''} {under' = u''} g vs) =
    alike (locals_on code labels ls ls' ls'' h g) (under_on u u' u'' us vs)

-- ---- what both have

live_store : (c d : Configuration) → SameLive c d → d.store ≡ c.store
live_store _ _ (alike h us) = refl

live_reach : (c d : Configuration) → SameLive c d → next_ranges d ≡ next_ranges c
live_reach _ _ (alike h us) = refl

live_resumes : (c d : Configuration) (s : Store) (vs : List Value) → SameLive c d → SameLive (resumed c s vs) (resumed d s vs)
live_resumes _ _ s vs (alike h us) = alike h us

-- activations that wait, the innermost first
pub stack_same : (c d : Configuration) → SameLive c d → SameUnder (c.here ∷ c.under) (d.here ∷ d.under)
stack_same _ _ (alike h us) = also h us

module _ (m : Module) (s : Settings) (which : List Bool) (b : Module) where
  numbered_same : (us vs : List Activation) → SameUnder us vs → All (StandsNumbered m s which) (map (suspended b) us) → All (StandsNumbered m s which) (map (suspended b) vs)
  numbered_same _ _ none h = All-nil (StandsNumbered m s which)
  numbered_same _ _ (also {fn = fn} {ls = ls} {ls' = ls'} {ops = ops} {taken = taken} {code = code} {labels = labels} {under = us} {under' = vs} e rest) h =
      let first = All-head (StandsNumbered m s which) (suspended b (waiting fn ls ops taken code labels)) (map (suspended b) us) h in
      All-cons (StandsNumbered m s which) (suspended b (waiting fn ls' ops taken code labels)) (map (suspended b) vs) (record { instrumented = first.instrumented; numbered = first.numbered })
      (numbered_same us vs rest (All-tail (StandsNumbered m s which) (suspended b (waiting fn ls ops taken code labels)) (map (suspended b) us) h))

  weigh_same : (n : ℕ) (ws : List Level) (us vs : List Activation) → SameUnder us vs → AllWeigh m n ws (map (suspended b) vs) → AllWeigh m n ws (map (suspended b) us)
  weigh_same n ws _ _ none h = h
  weigh_same n [] _ _ (also e rest) h = absurd h
  weigh_same n (w ∷ []) _ _ (also e none) h = h
  weigh_same n (w ∷ []) _ _ (also e (also f rest)) h = absurd h
  weigh_same n (w ∷ x ∷ ws) _ _ (also e none) h = (h.0, weigh_same n (x ∷ ws) [] [] none h.1)
  weigh_same n (w ∷ x ∷ ws) _ _ (also e (also {fn = fn} {ls = ls} {ls' = ls'} {ops = ops} {taken = taken} {code = code} {labels = labels} {under = us} {under' = vs} f rest)) h =
      (h.0, weigh_same n (x ∷ ws) (waiting fn ls ops taken code labels ∷ us) (waiting fn ls' ops taken code labels ∷ vs) (also f rest) h.1)

-- ---- what frames want

-- each place passes
abbrev pub Each : (Place → Type 0) → List Place → Type 0
Each P [] = Unit {0}
Each P (q ∷ qs) = P q × Each P qs

each_on : (P : Place → Type 0) (ps qs : List Place) → Each P ps → Each P qs → Each P (ps ++ qs)
each_on P [] qs h g = g
each_on P (p ∷ ps) qs h g = (h.0, each_on P ps qs h.1 g)

-- a saved parameter or declared local passes the test
abbrev pub OwnPasses : (keep : ℕ → Bool) (own : ℕ) → Place → Type 0
OwnPasses keep own q = q.local < own → keep q.local ≡ true

named_pass : (keep : ℕ → Bool) (own x : ℕ) (ts : List ValType) → Each (OwnPasses keep own) (named_places keep x ts)
named_pass keep own x [] = tt
named_pass keep own x (t ∷ ts) = by (keep x) refl (named_pass keep own (suc x) ts)
  where
    by : (b : Bool) → keep x ≡ b → Each (OwnPasses keep own) (named_places keep (suc x) ts) → Each (OwnPasses keep own) (place_onto b x t (named_places keep (suc x) ts))
    by true e h = (λ lt. e, h)
    by false e h = h

slots_pass : (keep : ℕ → Bool) (keep_slot : Pair → Bool) (own x : ℕ) (ps : List Pair) → own ≤ x → Each (OwnPasses keep own) (slot_places keep_slot x ps)
slots_pass keep keep_slot own x [] le = tt
slots_pass keep keep_slot own x (p ∷ ps) le = by (keep_slot p) (slots_pass keep keep_slot own (suc x) ps (omega (arith, le)))
  where
    by : (b : Bool) → Each (OwnPasses keep own) (slot_places keep_slot (suc x) ps) → Each (OwnPasses keep own) (place_onto b x p.ty (slot_places keep_slot (suc x) ps))
    by true h = (λ lt. absurd (omega (arith, le, lt)), h)
    by false h = h

pub saved_pass : (m : Module) (f : Func) (at : ℕ) → Each (OwnPasses (is_live_after f at) (length (locals_of m f))) (Saved m save_live f at)
saved_pass m f at =
    let keep = is_live_after f at in
    let own = length (locals_of m f) in
    let keep_slot : Pair → Bool = is_on_stack (slice_get (func_call_points m f) at) in
    each_on (OwnPasses keep own) (named_places keep 0 (locals_of m f)) (slot_places keep_slot own (SlotPairs m f)) (named_pass keep own 0 (locals_of m f))
    (slots_pass keep keep_slot own own (SlotPairs m f) (omega arith))

-- the same is wanted of places that pass
lays_same : (P : Place → Type 0) (want want2 : Place → Option Value) (ls : List Value) (ps : List FrameField) (qs : List Place) → ((q : Place) → P q → want2 q ≡ want q) → Each P qs
    → Lays want ls ps qs → Lays want2 ls ps qs
lays_same P want want2 ls [] [] same h y = tt
lays_same P want want2 ls [] (q ∷ qs) same h y = absurd y
lays_same P want want2 ls (kept x t ∷ ps) [] same h y = absurd y
lays_same P want want2 ls (gap t ∷ ps) [] same h y = absurd y
lays_same P want want2 ls (kept x t ∷ ps) (q ∷ qs) same h y = (y.0, subst (λ o. Tells o (value_at ls x)) (sym (same q h.0)) y.1, lays_same P want want2 ls ps qs same h.1 y.2)
lays_same P want want2 ls (gap t ∷ ps) (q ∷ qs) same h y = (y.0, same q h.0 ∙ y.1, lays_same P want want2 ls ps qs same h.1 y.2)

-- ---- a local that is live behind the call is the same

some_at : (x : ℕ) (o : Option Position) → live_from x o ≡ true → (at : Position) × (o ≡ Some at) × ReadsFirst x at
some_at x None e = cc
some_at x (Some at) e = (at, refl, live_reads x at e)

the_place : (a b : Position) → Some a ≡ Some b → a ≡ b
the_place a b e = cc

the_func : (x y : Func) → Some x ≡ Some y → x ≡ y
the_func x y e = cc

get_same : (ls ls' : List Value) (x : ℕ) → length ls' ≡ length ls → value_at ls' x ≡ value_at ls x → slice_get ls x ≡ slice_get ls' x
get_same ls ls' x n e = ⊎_elim
    (λ lt. slice_get-get_or ls x (V.I32 0) lt ∙ ap Some (sym e) ∙ sym (slice_get-get_or ls' x (V.I32 0) (omega (arith, n, lt))))
    (λ ge. slice_get_past ls x ge ∙ sym (slice_get_past ls' x (omega (arith, n, ge)))) (cases_lt x (length ls))

base_defined : (m : Module) (x : ℕ) → defined_at (Base m) x ≡ defined_at m x
unfolding Base
base_defined m x = refl

module _ (m : Module) (s : Settings) (which : List Bool) (policy : s.policy ≡ save_live) where
  abbrev b : Module
  b = Base m

  module _ (fn g : ℕ) (ls ls' ops taken : List Value) (code : Code) (labels : List Label) (same : SameLocals code labels ls ls')
      (at : WaitsAtSpot (Base m) g (waiting fn ls' ops taken code labels)) where
    abbrev old : Suspended
    old = suspended b (waiting fn ls' ops taken code labels)

    abbrev new : Suspended
    new = suspended b (waiting fn ls ops taken code labels)

    place_is : (f : Func) → defined_at m fn ≡ Some f → slice_get (behind_calls [] (pruned f.body)) new.place ≡ Some (place code labels)
    place_is f e =
        let f_is : at.func ≡ f = the_func at.func f (sym at.func_is ∙ base_defined m fn ∙ e) in
        let w = at_call b at.func at.results labels at.call code at.own at.below at.callee at.callee_is at.spot in
        subst (λ (h : Func). slice_get (behind_calls [] (pruned h.body)) new.place ≡ Some (place code labels)) f_is
        (ap (λ o. slice_get (behind_calls [] (pruned (at.func).body)) (place_of o code labels)) at.func_is ∙ w.behind)

    -- a parameter or declared local by its value, a slot by the operands
    own_wanted : (f : Func) (q : Place) → q.local < length (locals_of m f) → slice_get ls q.local ≡ slice_get ls' q.local → wanted m f new q ≡ wanted m f old q
    own_wanted f q lt e = by (nat_lt q.local (length (locals_of m f))) (lt-ltb q.local (length (locals_of m f)) lt)
      where
        by : (c : Bool) → c ≡ true → (if c then slice_get ls q.local else operand_at (taken ++ ops) (slice_get (SlotPairs m f) (q.local - length (locals_of m f))))
            ≡ (if c then slice_get ls' q.local else operand_at (taken ++ ops) (slice_get (SlotPairs m f) (q.local - length (locals_of m f))))
        by true z = e
        by false z = cc

    slot_wanted : (f : Func) (q : Place) → length (locals_of m f) ≤ q.local → wanted m f new q ≡ wanted m f old q
    slot_wanted f q ge = by (nat_lt q.local (length (locals_of m f))) (le-ltb q.local (length (locals_of m f)) ge)
      where
        by : (c : Bool) → c ≡ false → (if c then slice_get ls q.local else operand_at (taken ++ ops) (slice_get (SlotPairs m f) (q.local - length (locals_of m f))))
            ≡ (if c then slice_get ls' q.local else operand_at (taken ++ ops) (slice_get (SlotPairs m f) (q.local - length (locals_of m f))))
        by true z = cc
        by false z = refl

    pub wants_same : (f : Func) → defined_at m fn ≡ Some f → (q : Place) → OwnPasses (is_live_after f new.place) (length (locals_of m f)) q → wanted m f new q ≡ wanted m f old q
    wants_same f e q pass = ⊎_elim
        (λ lt.
        let w = some_at q.local (slice_get (behind_calls [] (pruned f.body)) new.place) (pass lt) in
        let here : w.0 ≡ place code labels = the_place w.0 (place code labels) (sym w.1 ∙ place_is f e) in
        own_wanted f q lt (get_same ls ls' q.local same.0 (same.1 q.local (subst (λ (p : Position). ReadsFirst q.local p) here w.2))))
        (λ ge. slot_wanted f q ge) (cases_lt q.local (length (locals_of m f)))

    stands_same : (v : Level) → StandsFor m s which v old → StandsFor m s which v new
    stands_same v h = record {
      func = h.func;
      defined = h.defined;
      lays =
          subst (λ p. Lays (wanted m h.func new) v.locals v.fn.layout.fields (Saved m p h.func new.place)) (sym policy)
          (lays_same (OwnPasses (is_live_after h.func new.place) (length (locals_of m h.func))) (wanted m h.func old) (wanted m h.func new) v.locals v.fn.layout.fields
          (Saved m save_live h.func new.place)
          (wants_same h.func h.defined) (saved_pass m h.func new.place)
          (subst (λ p. Lays (wanted m h.func old) v.locals v.fn.layout.fields (Saved m p h.func old.place)) policy h.lays));
      number = h.number;
    }

  all_stand : (g : ℕ) (ws : List Level) (us vs : List Activation) → SameUnder us vs → CallersAtSpots (Base m) g vs → AllStandFor m s which ws (map (suspended b) vs)
      → AllStandFor m s which ws (map (suspended b) us)
  all_stand g [] _ _ none at h = h
  all_stand g (w ∷ ws) _ _ none at h = absurd h
  all_stand g [] _ _ (also e rest) at h = absurd h
  all_stand g (w ∷ ws) _ _ (also {fn = fn} {ls = ls} {ls' = ls'} {ops = ops} {taken = taken} {code = code} {labels = labels} {under = us} {under' = vs} e rest) at h =
      (stands_same fn g ls ls' ops taken code labels e at.0 w h.0, all_stand fn ws us vs rest at.1 h.1)

-- whatever links a configuration that waits with a flat one, where it says that the original's stands behind calls of its bodies
pub live_stands : (w : World) (W : (top import : ℕ) → Configuration → Configuration → Type 0) → w.settings.policy ≡ save_live
    → ((top i : ℕ) (d f : Configuration) → W top i d f → WaitingAtSpots (base w) i d) → LiveLaw w SameLive W
live_stands w W policy at_spots = record {
  same = live_self;
  on = live_on;
  store = live_store;
  reach = live_reach;
  steps_keep = λ c d h. live_suffices (base w) c d h;
  resumes = λ c d s vs h. live_resumes c d s vs h;
  numbered = λ c d h nums. numbered_same w.original w.settings w.which (base w) (c.here ∷ c.under) (d.here ∷ d.under) (stack_same c d h) nums;
  stand = λ top i c d f ws h at st. all_stand w.original w.settings w.which policy i ws (c.here ∷ c.under) (d.here ∷ d.under) (stack_same c d h) (at_spots top i d f at).waits st;
  weigh = λ c d n ws h st. weigh_same w.original w.settings w.which (base w) n ws (c.here ∷ c.under) (d.here ∷ d.under) (stack_same c d h) st;
}

pub live_locals_stand : LiveLocalsStand
live_locals_stand w policy = live_stands w (WaitsThere w) policy (λ top i d f h. h)
