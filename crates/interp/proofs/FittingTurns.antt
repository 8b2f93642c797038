-- Behind a turn an instance of a valid module fits again.
use Rattle.std.proofs.Common.{◌≡◌, ◌<◌, ℕ, suc, ◌-◌, List, [], ◌++◌, map, reverse, take, drop, Option, Some, None, Result, Ok, Err, IfOk, Bool, true, false, length, refl, sym, ap, ◌∙◌, subst}
use Rattle.std.specs.Prelude.{nat_le}
use Rattle.std.specs.Option.{option_to_list}
use Rattle.wa_types.specs.declared.values.ValType.{ValType}
use Rattle.wa_types.specs.declared.values.Value.{Value}
use Rattle.wa_types.specs.Syntax.{Func, Module}
use Rattle.wa_types.specs.Validity.{Valid}
use Rattle.wa_types.specs.View.{code}
use Rattle.wa_types.specs.Modules.{func_imports, func_sorts, func_type_at, defined_at}
use Rattle.wa_model.specs.Store.{Store}
use Rattle.wa_model.specs.Configuration.{Configuration, running, waiting}
use Rattle.wa_model.specs.Step.{entered}
use Rattle.run_theory.specs.Alone.{it_returned, it_trapped, it_asks, it_spent}
use Rattle.run_theory.specs.Fitting.{types_of, results_of, StoreFits, Fits}
use Rattle.run_theory.proofs.FittingNames.{not_defined}
use Rattle.run_theory.proofs.FittingRuns.{calls_fit, answers_fit, ends_fit}
use Rattle.interp_state.specs.declared.activation.Stack.{Stack}
use Rattle.interp.specs.declared.turns.Turn.{Turn}
use Rattle.interp.specs.declared.turns.Wait.TheVariants as WV
use Rattle.interp.specs.declared.turns.Turn.TheVariants.{Returned, Trapped, Waiting, StepsSpent}
use Rattle.interp.specs.Instance.{Waits, outermost, waits_of, Turns, IsCall, CallsAs, Calls, Resumes, Awaits, FitsAgain}
use Rattle.interp_state.specs.View.{label_of, waiting_of}
use Rattle.interp.specs.Host.{memory_of, poked_in, PokesTo, Pokes}

module _ (m : Module) (v : Valid m) (outs : List ValType) where
  pub turns_fit : (c : Configuration) (left used : ℕ) (turn : Turn) (s : Store) (w : Waits) → Fits m outs c → Turns m c left used turn s w → FitsAgain m outs turn s w
  turns_fit c left used (Returned value) s w ok t = ends_fit m v outs c left used (it_returned (option_to_list value) s) ok t.0
  turns_fit c left used (Trapped trap) s w ok t = (ends_fit m v outs c left used (it_trapped trap s) ok t.0, tt)
  turns_fit c left used (Waiting call) s w ok t =
      let e = ends_fit m v outs c left used (it_asks call.import call.args.items t.at) ok t.ends in
      (subst (StoreFits m) t.store_is e.2.store, (e.0, e.1, subst (Awaits m outs (results_of m call.import)) (sym t.waits) e.2.waits))
  turns_fit c left used StepsSpent s w ok t =
      let e = ends_fit m v outs c left used (it_spent t.0.at) ok t.0.ends in (subst (StoreFits m) t.0.store_is e.store, tt)

  asks_fit : (x : ℕ) (args : List Value) (turn : Turn) (s : Store) → results_of m x ≡ outs → x < func_imports m → types_of args ≡ (func_type_at m x).params → StoreFits m s
      → IsCall turn x args → FitsAgain m outs turn s outermost
  asks_fit x args (Returned value) s eo lt et ok h = absurd h
  asks_fit x args (Trapped trap) s eo lt et ok h = absurd h
  asks_fit x args (Waiting call) s eo lt et ok h =
      (ok, (subst (λ i. i < func_imports m) (sym h.0) lt, ap types_of h.1 ∙ et ∙ ap (λ i. (func_type_at m i).params) (sym h.0), ap (results_of m) h.0 ∙ eo))
  asks_fit x args StepsSpent s eo lt et ok h = absurd h

  spent_fits : (turn : Turn) (s : Store) (w : Waits) → StoreFits m s → turn ≡ StepsSpent → FitsAgain m outs turn s w
  spent_fits turn s w ok e = subst (λ t. FitsAgain m outs t s w) (sym e) (ok, tt)

module _ (m : Module) (v : Valid m) where
  pub calls_fit_again : (s : Store) (x : ℕ) (args : List Value) (left used : ℕ) (turn : Turn) (s' : Store) (w : Waits)
      → x < length (func_sorts m) → types_of args ≡ (func_type_at m x).params → StoreFits m s → Calls m s x args left used turn s' w → FitsAgain m (results_of m x) turn s' w
  calls_fit_again s x args left used turn s' w lt et ok h = by_cost (nat_le left (length args)) (defined_at m x) refl h
    where
      by_cost : (dear : Bool) (o : Option Func) → defined_at m x ≡ o → CallsAs m s x args dear o left used turn s' w → FitsAgain m (results_of m x) turn s' w
      by_cost true o e c = spent_fits m v (results_of m x) turn s' w (subst (StoreFits m) (sym c.store_is) ok) c.turn_is
      by_cost false (Some f) e c = turns_fit m v (results_of m x) (entered s [] args x f) (left - suc (length args)) c.more turn s' w (calls_fit m s args x f v ok e et) c.turns
      by_cost false None e c =
          subst (FitsAgain m (results_of m x) turn s') (sym c.waits) (asks_fit m v (results_of m x) x args turn s' refl (not_defined m x lt e) et (subst (StoreFits m) (sym c.store_is) ok) c.call)

-- what waits goes on with an answer of its types, with these operands
pub answered_fits : (m : Module) (outs : List ValType) (s : Store) (k : Stack) (taken : ℕ) (value : Option Value) (ops : List Value)
    → StoreFits m s → Awaits m outs (types_of (option_to_list value)) (waits_of (WV.Inside k taken)) → ops ≡ option_to_list value ++ drop taken (reverse k.here.operands.items)
    → Fits m outs (running s k.here.func (map waiting_of (reverse k.under.items)) k.here.locals.items ops (code k.here.code.now) (map label_of (reverse k.here.labels.items)))
answered_fits m outs s k taken value ops ok a e =
    let here = waiting k.here.func k.here.locals.items (drop taken (reverse k.here.operands.items)) (take taken (reverse k.here.operands.items)) (code k.here.code.now)
    (map label_of (reverse k.here.labels.items)) in
    let c : Configuration = record { store = s; here = here; under = map waiting_of (reverse k.under.items) } in
    subst (λ o. Fits m outs (running s k.here.func (map waiting_of (reverse k.under.items)) k.here.locals.items o (code k.here.code.now) (map label_of (reverse k.here.labels.items)))) (sym e)
    (answers_fit m outs c s (option_to_list value) ok a)

-- and a run from there is how the answer turned out
pub answered_turns : (m : Module) (s : Store) (k : Stack) (taken : ℕ) (value : Option Value) (ops : List Value) (left used : ℕ) (turn : Turn) (s' : Store) (w' : Waits)
    → ops ≡ option_to_list value ++ drop taken (reverse k.here.operands.items)
    → Turns m (running s k.here.func (map waiting_of (reverse k.under.items)) k.here.locals.items ops (code k.here.code.now) (map label_of (reverse k.here.labels.items))) left used turn s' w'
    → Resumes m s (waits_of (WV.Inside k taken)) value left used turn s' w'
answered_turns m s k taken value ops left used turn s' w' e t =
    subst (λ o. Turns m (running s k.here.func (map waiting_of (reverse k.under.items)) k.here.locals.items o (code k.here.code.now) (map label_of (reverse k.here.labels.items))) left used
    turn s' w') e t

-- bytes that are written leave a store fitting
pub pokes_fit : (m : Module) (s : Store) (at : ℕ) (bytes : List ℕ) (done : Bool) (s' : Store) → Pokes m s at bytes done s' → StoreFits m s → StoreFits m s'
pokes_fit m s at bytes done s' h ok = by_piece (poked_in (memory_of m s) at bytes) h
  where
    by_piece : (o : Option (List ℕ)) → PokesTo o s done s' → StoreFits m s'
    by_piece None p = subst (StoreFits m) (sym p.1) ok
    by_piece (Some memory) p = subst (StoreFits m) (sym p.1) (record { globals = ok.globals; table = ok.table })

-- two facts of what is answered give a third
pub both_ok : {X E : Type 0} (r : Result X E) (P Q R : X → Type 0) → ((x : X) → P x → Q x → R x) → IfOk r P → IfOk r Q → IfOk r R
both_ok (Ok x) P Q R f p q = f x p q
both_ok (Err e) P Q R f p q = tt
