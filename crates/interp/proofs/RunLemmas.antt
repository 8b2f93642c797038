-- A run goes on, and stops.
use Rattle.std.proofs.Common.{arith, ◌≡◌, ℕ, ◌+◌, ◌≤◌, List, [], ◌∷◌, Option, true, length, refl, ap, sym, ◌∙◌, subst}
use Rattle.std.specs.Prelude.{slice_get}
use Rattle.std.specs.Option.{option_to_list}
use Rattle.std.proofs.lemmas.List.{length-map}
use Rattle.wa_types.specs.declared.values.ValType.{ValType}
use Rattle.wa_types.specs.declared.values.Value.{Value}
use Rattle.wa_types.specs.Syntax.{Module}
use Rattle.wa_types.specs.Modules.{func_type_at}
use Rattle.wa_types.specs.Typing.{type_of}
use Rattle.wa_types.specs.Validity.{Valid}
use Rattle.wa_model.specs.Machine.{Leads, stays, moves}
use Rattle.wa_model.specs.Configuration.{Configuration}
use Rattle.wa_model.specs.Step.{Next, steps, asks, returns, traps, stuck, step}
use Rattle.wa_model.specs.Store.{Store}
use Rattle.wa_model.specs.Blocking.{Note, value_of_results}
use Rattle.run_theory.specs.Alone.{alone, alone_next, Goes, Finish, it_spent, FinishesAt, CostsAbove, EndsAs, by_finish, by_steps}
use Rattle.run_theory.specs.Fitting.{results_of, Fits, NextFits}
use Rattle.run_theory.proofs.Runs.{leads_on}
use Rattle.run_theory.proofs.FittingSteps.{steps_fit}
use Rattle.run_theory.proofs.FittingRuns.{leads_fit, listed_few, outs_few}
use Rattle.interp.specs.Told.{IsUnpaid}

one_told : (values : List Value) (value : Option Value) → length values ≤ 1 → value ≡ value_of_results values → values ≡ option_to_list value
one_told [] value h e = ap option_to_list (sym e)
one_told (x ∷ []) value h e = ap option_to_list (sym e)
one_told (x ∷ y ∷ values) value h e = absurd (omega arith)

module _ (m : Module) (c : Configuration) where
  pub no_step : (n : ℕ) → n ≡ 0 → Goes m c n c
  no_step n e = subst (λ k. Goes m c k c) (sym e) stays

  pub one_more : (d e : Configuration) (n more n' : ℕ) → Goes m c n d → step m d ≡ steps more e → n' ≡ n + (more + 1) → Goes m c n' e
  one_more d e n more n' g next en =
      let last : Leads (alone (λ x. true) m) d (more + 1) [] e = moves (ap (alone_next true) next) stays (omega arith) refl in
      subst (λ k. Goes m c k e) (sym en) (leads_on Configuration Note (alone (λ x. true) m) c d e n (more + 1) [] [] g last)

  -- it stops where what comes next is no reduction
  pub ends_by : (left n more used : ℕ) (d : Configuration) (next : Next) (end : Finish) → Goes m c n d → step m d ≡ next → FinishesAt next (more + 1) end → used ≡ n + (more + 1)
      → used ≤ left → EndsAs m c left used end
  ends_by left n more used d next end g en fin eu le =
      by_finish n (more + 1) d g (subst (λ x. FinishesAt x (more + 1) end) (sym en) fin) eu le

  costs_above : (outs : List ValType) (next : Next) (more : ℕ) → NextFits m outs next → IsUnpaid next more → CostsAbove next more
  costs_above outs (steps k e) more ok h = h
  costs_above outs (asks k import args e) more ok h = h
  costs_above outs (returns k values s) more ok h = h
  costs_above outs (traps k trap s) more ok h = h
  costs_above outs stuck more ok h = absurd ok

  -- or where none can be paid
  pub ends_spent : (left used more : ℕ) (d : Configuration) → Valid m → (outs : List ValType) × Fits m outs c → Goes m c used d → left ≡ used + more → IsUnpaid (step m d) more
      → EndsAs m c left used (it_spent d)
  ends_spent left used more d v ok g el h = by_steps more d g refl el (costs_above ok.0 (step m d) more (steps_fit m ok.0 d v (leads_fit m v ok.0 c d used [] ok.1 g)) h)

  -- what is returned is told by its first value
  pub returned_listed : (n k : ℕ) (d : Configuration) (values : List Value) (s : Store) (value : Option Value) → Valid m → (outs : List ValType) × Fits m outs c → Goes m c n d
      → step m d ≡ returns k values s → value ≡ value_of_results values → values ≡ option_to_list value
  returned_listed n k d values s value v ok g e ev =
      let fits = subst (NextFits m ok.0) e (steps_fit m ok.0 d v (leads_fit m v ok.0 c d n [] ok.1 g)) in
      let few = outs_few m ok.0 (results_of m c.here.func) c.under ok.1.under (listed_few (slice_get (func_type_at m c.here.func).results 0)) in
      let count : length values ≤ 1 = subst (λ k. k ≤ 1) (ap length (sym fits.1) ∙ length-map values type_of) few in
      one_told values value count ev

unpaid_by : (next : Next) → IsUnpaid next 0
unpaid_by (steps k e) = omega arith
unpaid_by (asks k import args e) = omega arith
unpaid_by (returns k values s) = omega arith
unpaid_by (traps k trap s) = omega arith
unpaid_by stuck = tt

-- nothing can be paid with nothing
pub nothing_left : (next : Next) (left : ℕ) → left ≤ 0 → IsUnpaid next left
nothing_left next left h = let e : left ≡ 0 = omega arith in subst (IsUnpaid next) (sym e) (unpaid_by next)
