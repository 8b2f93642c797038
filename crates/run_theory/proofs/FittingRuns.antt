-- All that is reached from a configuration that fits fits too.
use Rattle.std.proofs.Common.{arith, ◌≡◌, ◌≤◌, ℕ, List, [], ◌∷◌, Option, Some, None, true, length, refl, sym, subst}
use Rattle.std.specs.Prelude.{slice_get}
use Rattle.std.proofs.lemmas.List.{map-append}
use Rattle.wa_types.specs.Syntax.{Func, Module}
use Rattle.wa_types.specs.Validity.{Valid}
use Rattle.wa_types.specs.Typing.{listed, type_of}
use Rattle.wa_types.specs.declared.values.ValType.{ValType}
use Rattle.wa_types.specs.Modules.{func_type_at, defined_at}
use Rattle.wa_types.specs.declared.values.Value.{Value}
use Rattle.wa_model.specs.Machine.{goes, Leads, stays, moves}
use Rattle.wa_model.specs.Store.{Store}
use Rattle.wa_model.specs.Configuration.{Activation, Configuration}
use Rattle.wa_model.specs.Step.{Next, steps, asks, returns, traps, stuck, entered, step}
use Rattle.wa_model.specs.Blocking.{Note, resumed}
use Rattle.run_theory.specs.Alone.{alone, alone_next, Finish, FinishesAt, EndsAs, by_finish, by_steps}
use Rattle.run_theory.specs.Fitting.{types_of, results_of, StoreFits, ActFits, CallersFit, Fits, NextFits, EndFits}
use Rattle.run_theory.proofs.FittingSteps.{entered_fits, steps_fit}

pub listed_few : (r : Option ValType) → length (listed r) ≤ 1
listed_few None = omega arith
listed_few (Some t) = omega arith

module _ (m : Module) (v : Valid m) (outs : List ValType) where
  moves_fit : (o : Next) (k : ℕ) (es : List Note) (t : Configuration) → NextFits m outs o → alone_next true o ≡ goes k es t → Fits m outs t
  moves_fit (steps k d) j es t h e = let z : d ≡ t = cc in subst (Fits m outs) z h
  moves_fit (asks k import args d) j es t h e = cc
  moves_fit (returns k values s) j es t h e = cc
  moves_fit (traps k trap s) j es t h e = cc
  moves_fit stuck j es t h e = cc

  pub leads_fit : (c d : Configuration) (cost : ℕ) (es : List Note) → Fits m outs c → Leads (alone (λ x. true) m) c cost es d → Fits m outs d
  leads_fit c d cost es ok stays = ok
  leads_fit c d cost es ok (moves {t = t} {k = k} {es = fs} e rest em eg) = leads_fit t d _ _ (moves_fit (step m c) k fs t (steps_fit m outs c v ok) e) rest

  finishes_fit : (o : Next) (cost : ℕ) (end : Finish) → NextFits m outs o → FinishesAt o cost end → EndFits m outs end
  finishes_fit (steps k d) cost end h f = absurd f
  finishes_fit (asks k import args d) cost end h f = subst (EndFits m outs) (sym f.1) h
  finishes_fit (returns k values s) cost end h f = subst (EndFits m outs) (sym f.1) h
  finishes_fit (traps k trap s) cost end h f = subst (EndFits m outs) (sym f.1) h
  finishes_fit stuck cost end h f = absurd f

  pub ends_fit : (c : Configuration) (left used : ℕ) (end : Finish) → Fits m outs c → EndsAs m c left used end → EndFits m outs end
  ends_fit c left used end ok (by_finish j k d g f e le) = finishes_fit (step m d) k end (steps_fit m outs d v (leads_fit c d j _ ok g)) f
  ends_fit c left used end ok (by_steps more d g e el a) = subst (EndFits m outs) (sym e) (leads_fit c d used _ ok g)

pub calls_fit : (m : Module) (s : Store) (args : List Value) (x : ℕ) (f : Func) → Valid m → StoreFits m s → defined_at m x ≡ Some f → types_of args ≡ (func_type_at m x).params
    → Fits m (results_of m x) (entered s [] args x f)
calls_fit m s args x f v so is e = entered_fits m v (results_of m x) s so [] args x f is e refl

pub answers_fit : (m : Module) (outs : List ValType) (c : Configuration) (s : Store) (values : List Value) → StoreFits m s → CallersFit m outs (types_of values) (c.here ∷ c.under)
    → Fits m outs (resumed c s values)
answers_fit m outs c s values so w =
    let a = c.here in record {
      store = so;
      here = subst (ActFits m a.func a.locals a.code a.labels) (sym (map-append type_of values a.operands)) w.0;
      under = w.1;
    }

-- what is returned in the end is one value at most
pub outs_few : (m : Module) (outs types : List ValType) (under : List Activation) → CallersFit m outs types under → length types ≤ 1 → length outs ≤ 1
outs_few m outs types [] w h = subst (λ ts. length ts ≤ 1) w h
outs_few m outs types (a ∷ under) w h = outs_few m outs (results_of m a.func) under w.1 (listed_few (slice_get (func_type_at m a.func).results 0))
