-- A stack that differs from one that waits only in locals that no path reads first waits likewise, where its locals have their types
-- and are in range.
use Rattle.std.proofs.Common.{◌≡◌, ℕ, suc, List, [], ◌∷◌, ◌++◌, length, Option, Some, Bool, All, refl, sym, ap, ◌∙◌}
use Rattle.std.proofs.lemmas.List.Elements.{All-cons, All-head, All-nil, All-tail}
use Rattle.wa_types.specs.Modules.{defined_at, locals_of}
use Rattle.wa_types.specs.Sizes.{value_fits}
use Rattle.wa_types.specs.Syntax.{Func, Module}
use Rattle.wa_types.specs.declared.values.ValType.{ValType}
use Rattle.wa_types.specs.declared.values.Value.{Value}
use Rattle.wa_model.specs.Configuration.{Activation, waiting}
use Rattle.run_theory.specs.Fitting.{CallersFit, results_of, types_of}
use Rattle.wa_model.specs.Store.{Store}
use Rattle.run_laws.specs.Ranges.{ActivationIn}
use Rattle.run_laws.proofs.SpotSteps.{CallersAtSpots}
use Rattle.run_laws.proofs.StandingStates.{CallersAt}
use Rattle.flat_runs.specs.Beside.{Callers, above, above_same, host}
use Rattle.headline.proofs.WaitsAgain.{AllMore}
use Rattle.emitted_form.specs.SameLive.{SameLive, SameUnder, alike, also, none}

the_func : (x y : Func) → Some x ≡ Some y → x ≡ y
the_func x y e = cc

all_left : (xs ys : List Value) → All value_fits (xs ++ ys) → All value_fits xs
all_left [] ys h = All-nil value_fits
all_left (x ∷ xs) ys h = All-cons value_fits x xs (All-head value_fits x (xs ++ ys) h) (all_left xs ys (All-tail value_fits x (xs ++ ys) h))

-- each activation's locals have the types of its function's
abbrev pub AllTyped : Module → List Activation → Type 0
AllTyped m [] = Unit {0}
AllTyped m (a ∷ us) = ((f : Func) → defined_at m a.func ≡ Some f → types_of a.locals ≡ locals_of m f) × AllTyped m us

-- and are in range
abbrev pub AllRanged : List Activation → Type 0
AllRanged [] = Unit {0}
AllRanged (a ∷ us) = All value_fits a.locals × AllRanged us

pub callers_typed : (m : Module) (which : List Bool) (g : ℕ) (us vs : List Activation) → Callers m which g us vs → AllTyped m us
callers_typed m which g _ _ host = tt
callers_typed m which g _ _ (above {fn = fn} {f = f} {under = under} {under' = under'} told is us l sp) =
    (λ h e. let same : f ≡ h = the_func f h (sym is ∙ e) in l.typed ∙ ap (locals_of m) same, callers_typed m which fn under under' us)
callers_typed m which g _ _ (above_same {fn = fn} {f = f} {under = under} {under' = under'} told is us act) =
    (λ h e. let same : act.func ≡ h = the_func act.func h (sym act.func_is ∙ e) in act.locals_fit ∙ ap (locals_of m) same, callers_typed m which fn under under' us)

pub callers_ranged : (m p : Module) (which : List Bool) (g : ℕ) (us vs : List Activation) → Callers m which g us vs → AllMore p vs → AllRanged us
callers_ranged m p which g _ _ host more = tt
callers_ranged m p which g _ _ (above {fn = fn} {under = under} {under' = under'} {ls = ls} {extra = extra} told is us l sp) more =
    let w = (more.0).1 in
    (all_left ls extra (all_left (ls ++ extra) (more.0).0 w.ranges), callers_ranged m p which fn under under' us more.1)
callers_ranged m p which g _ _ (above_same {fn = fn} {under = under} {under' = under'} {ls = ls} told is us act) more =
    let w = (more.0).1 in (all_left ls (more.0).0 w.ranges, callers_ranged m p which fn under under' us more.1)

-- ---- the chosen stack

-- it is one of a configuration that differs only there
pub chosen_live : (s : Store) (a b : Activation) (us cs : List Activation) → SameUnder (a ∷ us) (b ∷ cs)
    → SameLive (record { store = s; here = a; under = us }) (record { store = s; here = b; under = cs })
chosen_live s _ _ _ _ (also same rest) = alike same rest

pub chosen_count : (us cs : List Activation) → SameUnder us cs → length cs ≡ length us
chosen_count _ _ none = refl
chosen_count _ _ (also {under = us} {under' = cs} same rest) = ap suc (chosen_count us cs rest)

pub chosen_fits : (m : Module) (outs types : List ValType) (us cs : List Activation) → SameUnder us cs → AllTyped m cs → CallersFit m outs types us → CallersFit m outs types cs
chosen_fits m outs types _ _ none typed fit = fit
chosen_fits m outs types _ _ (also {fn = fn} {ls' = ls'} {under = us} {under' = cs} same rest) typed fit =
    let h = fit.0 in (
      record { func = h.func; func_is = h.func_is; locals_fit = typed.0 h.func h.func_is; results = h.results; own = h.own; below = h.below; types_are = h.types_are; stands = h.stands },
      chosen_fits m outs (results_of m fn) us cs rest typed.1 fit.1,
    )

pub chosen_spots : (m : Module) (g : ℕ) (us cs : List Activation) → SameUnder us cs → AllTyped m cs → CallersAtSpots m g us → CallersAtSpots m g cs
chosen_spots m g _ _ none typed at = at
chosen_spots m g _ _ (also {fn = fn} {under = us} {under' = cs} same rest) typed at =
    let h = at.0 in (
      record {
        func = h.func;
        func_is = h.func_is;
        locals_fit = typed.0 h.func h.func_is;
        results = h.results;
        own = h.own;
        mids = h.mids;
        below = h.below;
        call = h.call;
        callee = h.callee;
        callee_is = h.callee_is;
        takes = h.takes;
        before = h.before;
        behind = h.behind;
        spot = h.spot;
      },
      chosen_spots m fn us cs rest typed.1 at.1,
    )

pub chosen_stands : (m : Module) (table : List (Option ℕ)) (root g : ℕ) (us cs : List Activation) → SameUnder us cs → CallersAt m table root g us → CallersAt m table root g cs
chosen_stands m table root g _ _ none at = at
chosen_stands m table root g _ _ (also {fn = fn} {under = us} {under' = cs} same rest) at = (at.0, at.1, at.2, chosen_stands m table root fn us cs rest at.3)

pub chosen_in : (us cs : List Activation) → SameUnder us cs → AllRanged cs → All ActivationIn us → All ActivationIn cs
chosen_in _ _ none ranged h = All-nil ActivationIn
chosen_in _ _ (also {fn = fn} {ls = ls} {ls' = ls'} {ops = ops} {taken = taken} {code = code} {labels = labels} {under = us} {under' = cs} same rest) ranged h =
    let a = waiting fn ls ops taken code labels in
    let h0 : ActivationIn (waiting fn ls ops taken code labels) = All-head ActivationIn a us h in
    All-cons ActivationIn (waiting fn ls' ops taken code labels) cs (record { locals = ranged.0; operands = h0.operands; taken = h0.taken; code = h0.code; labels = h0.labels })
    (chosen_in us cs rest ranged.1 (All-tail ActivationIn a us h))
