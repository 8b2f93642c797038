-- The emitted module, as it is defined, is one that the headline speaks of.
use mathlib.Core.List.{reverse_aux}
use Rattle.std.proofs.Common.{◌≡◌, ℕ, suc, List, [], ◌∷◌, length, map, reverse, Option, Some, None, Bool, true, false, All, Contains, refl, sym, ap, ◌∙◌, eq-eqb}
use Rattle.std.specs.Prelude.{slice_get, nat_eq, nat_lt, ◌||◌}
use Rattle.std.specs.List.{list_any}
use Rattle.std.specs.Option.{option_map}
use Rattle.std.proofs.lemmas.List.Elements.{All-cons, All-nil}
use Rattle.std.proofs.lemmas.List.Folds.{list_any_at}
use Rattle.std.proofs.lemmas.Option.{slice_get-map}
use Rattle.wa_types.specs.Base.{Base}
use Rattle.wa_types.specs.Frames.{Place, Saved, SlotPairs}
use Rattle.wa_types.specs.Modules.{defined_at, locals_of}
use Rattle.wa_types.specs.Pausing.{Numbered, Settings, TellsMayPause, save_all}
use Rattle.wa_types.specs.Points.{func_call_points}
use Rattle.wa_types.specs.Runtime.{global_space}
use Rattle.wa_types.specs.Sizes.{StrictSizeRule}
use Rattle.wa_types.specs.Syntax.{Func, Module, done}
use Rattle.wa_types.specs.Validity.{Valid}
use Rattle.wa_types.specs.declared.values.ValType.{ValType}
use Rattle.wa_model.specs.Behaves.{Behaves}
use Rattle.run_theory.specs.Flat.{FlatFunc}
use Rattle.run_theory.specs.Quiet.{FreeOfNames}
use Rattle.run_theory.proofs.BaseValid.{base_valid}
use Rattle.run_theory.proofs.FittingSteps.{body_typed}
use Rattle.run_theory.proofs.Runs.{lt_true}
use Rattle.run_laws.proofs.BlockingRuns.{well_formed_in}
use Rattle.flat_laws.specs.FlatModule.{stacks_in}
use Rattle.flat_laws.specs.Flatten.{flattened, names, slots}
use Rattle.flat_laws.proofs.RuntimeModules.{base_flattened, base_slots}
use Rattle.flat_laws.proofs.Sizes.{stacks_are_slots}
use Rattle.frame_laws.specs.Layout.{Layout, FrameField, restore_code, save_code}
use Rattle.headline.specs.Given.{BehavesGiven}
use Rattle.headline.proofs.GivenPlans.{behaves_given}
use Rattle.headline.proofs.UnpausedRuns.{runs_unpaused}
use Rattle.slim_laws.specs.SlimModule.{Pieces}
use Rattle.headline.specs.EmittedModule.{Emitted, KeepsEnough, fields_of, layout_of, AllKeepEnough, Framing, kept_frames, lay_at}
use Rattle.headline.proofs.KeptFields.{all_places}
use Rattle.headline.proofs.PairedFlat.{base_defined, base_locals}
use Rattle.headline.proofs.PauseCosts.{emitted_behave}
use Rattle.emitted_form.specs.CodesHold.{AllSlim}
use Rattle.emitted_form.specs.Emitted.{asyncified, field_where, frame_layout, holds_operand, is_kept, layout_codes, or_none}
use Rattle.emitted_form.specs.EmittedBy.{FrameCode}
use Rattle.emitted_form.specs.Sizes.{FewWritten}
use Rattle.emitted_form.proofs.WrittenSizes.{layouts_hold}
use Rattle.emitted_form.proofs.EmittedSo as By
use Rattle.emitted_form.proofs.EmittedRewritten.{rewritten_law, valid_law}
use Rattle.emitted_form.proofs.EmittedFits.{emitted_fits}
use Rattle.emitted_form.specs.EmittedAll.{AsyncifiedIsRewritten}

-- ---- lists

fields_map : (keep : ℕ → Bool) (qs : List Place) → map (field_where keep) qs ≡ fields_of keep qs
fields_map keep [] = refl
fields_map keep (q ∷ qs) = ap (λ fs. field_where keep q ∷ fs) (fields_map keep qs)

any_or : (b c : Bool) → b ≡ true → (c || b) ≡ true
any_or b true e = refl
any_or b false e = e

any_aux : (test : ℕ → Bool) (xs ys : List ℕ) → list_any test ys ≡ true → list_any test (reverse_aux xs ys) ≡ true
any_aux test [] ys e = e
any_aux test (x ∷ xs) ys e = any_aux test xs (x ∷ ys) (any_or (list_any test ys) (test x) e)

-- what is in a list is in the reversed one
any_reverse : (test : ℕ → Bool) (xs ys : List ℕ) → list_any test xs ≡ true → list_any test (reverse_aux xs ys) ≡ true
any_reverse test [] ys e = cc
any_reverse test (x ∷ xs) ys e = by (test x) refl e (λ h. any_reverse test xs (x ∷ ys) h)
  where
    by : (b : Bool) → test x ≡ b → (b || list_any test xs) ≡ true → (list_any test xs ≡ true → list_any test (reverse_aux xs (x ∷ ys)) ≡ true) → list_any test (reverse_aux xs (x ∷ ys)) ≡ true
    by true q h ih = any_aux test xs (x ∷ ys) (ap (λ b. b || list_any test ys) q)
    by false q h ih = ih h

-- all of a list, where each is in it
all_in : (P : ℕ → Type 0) (xs : List ℕ) → ((y : ℕ) → list_any (nat_eq y) xs ≡ true → P y) → All P xs
all_in P [] h = All-nil P
all_in P (x ∷ xs) h = All-cons P x xs (h x (ap (λ b. b || list_any (nat_eq x) xs) (eq-eqb x x refl))) (all_in P xs (λ y e. h y (any_or (list_any (nat_eq y) xs) (nat_eq y x) e)))

-- ---- the emitted module

module _ (m : Module) (s : Settings) (which : List Bool) (pieces : (index : ℕ) → Pieces) (valid : Valid m) where
  -- what the frames of each function keep
  abbrev keep_of : (x : ℕ) → Option Func → ℕ → Bool
  keep_of x None y = true
  keep_of x (Some f) y = is_kept m s which x f y

  abbrev pub keep : (func local : ℕ) → Bool
  keep x y = keep_of x (defined_at m x) y

  abbrev frames : (index : ℕ) → Framing
  frames = kept_frames m s which pieces keep

  abbrev p : Module
  p = asyncified m s which pieces

  module _ (x : ℕ) (f : Func) (is : defined_at m x ≡ Some f) where
    abbrev ps : List ℕ
    ps = Numbered m s which f

    same_flat : flattened (Base m) x f ≡ flattened m x f
    same_flat = base_flattened m valid x f is

    same_places : Saved (Base m) save_all f 0 ≡ Saved m save_all f 0
    same_places = ap (λ ts. all_places ts (SlotPairs (Base m) f)) (base_locals m f) ∙ ap (λ qs. all_places (locals_of m f) qs) (base_slots m valid x f is)

    same_fields : map (field_where (is_kept m s which x f)) (Saved m save_all f 0) ≡ fields_of (keep x) (Saved (Base m) save_all f 0)
    same_fields =
        ap (map (field_where (is_kept m s which x f))) (sym same_places) ∙ fields_map (is_kept m s which x f) (Saved (Base m) save_all f 0)
        ∙ ap (λ o. fields_of (λ y. keep_of x o y) (Saved (Base m) save_all f 0)) (sym is)

    abbrev layout : FlatFunc → List FrameField → Layout
    layout z fs = record { address = suc (global_space m); index = length z.locals; scratch = suc (length z.locals); fields = fs }

    same_layout : frame_layout m s which x f ≡ layout_of m s which keep x f
    same_layout = ap (λ z. layout z (map (field_where (is_kept m s which x f)) (Saved m save_all f 0))) (sym same_flat) ∙ ap (layout (flattened (Base m) x f)) same_fields

    abbrev codes_of : Layout → FrameCode
    codes_of l = record { pieces = pieces x; restoring = restore_code l done; saving = save_code l done }

    same_codes : layout_codes m s which pieces x f ≡ record { pieces = (frames x).pieces; restoring = (frames x).restoring; saving = (frames x).saving }
    same_codes = ap codes_of same_layout ∙ ap (λ o. codes_of (lay_at m s which keep x o)) (sym is)

    abbrev at_place : ℕ → ℕ → Bool
    at_place y place = list_any (nat_eq y) (or_none (slice_get (stacks_in (flattened m x f).body) place))

    stack_there : (place : ℕ) (ops : List ValType) → slice_get (func_call_points (Base m) f) place ≡ Some ops
        → or_none (slice_get (stacks_in (flattened m x f).body) place) ≡ reverse (slots (names (Base m) f) ops)
    stack_there place ops points =
        let typed = body_typed (Base m) (base_valid m valid) x f (base_defined m x ∙ is) in
        ap (λ (z : FlatFunc). or_none (slice_get (stacks_in z.body) place)) (sym same_flat)
        ∙ ap (λ xs. or_none (slice_get xs place)) (stacks_are_slots (Base m) x f typed)
        ∙ ap or_none (slice_get-map (λ (os : List ValType). reverse (slots (names (Base m) f) os)) (func_call_points (Base m) f) place
        ∙ ap (option_map (λ (os : List ValType). reverse (slots (names (Base m) f) os))) points)

    kept_there : (place : ℕ) (ops : List ValType) → Contains ps place → slice_get (func_call_points (Base m) f) place ≡ Some ops → (y : ℕ)
        → list_any (nat_eq y) (slots (names (Base m) f) ops) ≡ true → keep x y ≡ true
    kept_there place ops c points y e =
        let here : at_place y place ≡ true = ap (list_any (nat_eq y)) (stack_there place ops points) ∙ any_reverse (nat_eq y) (slots (names (Base m) f) ops) [] e in
        let any : holds_operand (flattened m x f) ps y ≡ true = list_any_at (at_place y) ps c.0 place c.1 (ap (at_place y) c.2 ∙ here) in
        ap (λ o. keep_of x o y) is ∙ any_or (holds_operand (flattened m x f) ps y) (nat_lt y (length (locals_of m f))) any

    keeps : KeepsEnough m s which keep x f
    keeps = record {
      own = λ y lt. ap (λ o. keep_of x o y) is ∙ ap (λ b. b || holds_operand (flattened m x f) ps y) (lt_true y (length (locals_of m f)) lt);
      stacked = λ place ops c points. all_in (λ y. keep x y ≡ true) (slots (names (Base m) f) ops) (kept_there place ops c points);
    }

  pub emitted_so : AllSlim m s which pieces → FreeOfNames m → StrictSizeRule m → FewWritten m which → TellsMayPause m s which
      → Emitted m s which (kept_frames m s which pieces keep) (asyncified m s which pieces)
  emitted_so slim free sizes few tells =
      By.emitted_so m s which (layout_codes m s which pieces) frames valid same_codes (layouts_hold m s which pieces valid slim) free sizes few tells

  pub all_keep_enough : AllKeepEnough m s which keep
  all_keep_enough x f is told = keeps x f is

pub asyncified_given : (m : Module) (s : Settings) (which : List Bool) (pieces : (index : ℕ) → Pieces) → Valid m → AllSlim m s which pieces → FreeOfNames m → StrictSizeRule m
    → FewWritten m which → s.policy ≡ save_all → TellsMayPause m s which → BehavesGiven m s (asyncified m s which pieces)
asyncified_given m s told pieces valid slim free sizes few policy tells0 wf which tells plan os n cmp pauses =
    let em = emitted_so m s told pieces valid slim free sizes few tells0 in
    emitted_behave m s told pieces (keep m s told pieces valid) (asyncified m s told pieces) valid (valid_law m s told pieces valid slim free)
    (well_formed_in (asyncified m s told pieces) (emitted_fits m s told pieces valid slim wf sizes few)) policy tells0 em (all_keep_enough m s told pieces valid)
    wf which tells plan os n cmp pauses

pub asyncified_behaves : (m : Module) (s : Settings) (which : List Bool) (pieces : (index : ℕ) → Pieces) → Valid m → AllSlim m s which pieces → FreeOfNames m → StrictSizeRule m
    → FewWritten m which → s.policy ≡ save_all → TellsMayPause m s which → Behaves m s (asyncified m s which pieces)
asyncified_behaves m s which pieces valid slim free sizes few policy tells =
    behaves_given m s (asyncified m s which pieces) (asyncified_given m s which pieces valid slim free sizes few policy tells)

pub asyncified_law : AsyncifiedIsRewritten
asyncified_law m s which pieces valid slim free sizes few policy tells =
    record {
      parts = rewritten_law m s which pieces valid slim free tells;
      behaves = asyncified_behaves m s which pieces valid slim free sizes few policy tells;
      unpaused = runs_unpaused m s (asyncified m s which pieces) which (asyncified_given m s which pieces valid slim free sizes few policy tells) tells;
    }
