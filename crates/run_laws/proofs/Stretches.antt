-- All that is reached from a configuration in range is in range.
use Rattle.std.proofs.Common.{ℕ, List, [], true, sym, subst}
use Rattle.std.proofs.lemmas.List.Elements.{All-nil}
use Rattle.wa_types.specs.Syntax.{Module}
use Rattle.wa_model.specs.Machine.{Leads}
use Rattle.wa_model.specs.Configuration.{Configuration}
use Rattle.wa_model.specs.Step.{Next, steps, asks, returns, traps, stuck, step}
use Rattle.wa_model.specs.Blocking.{Note}
use Rattle.run_theory.specs.Alone.{alone, alone_next, Finish, FinishesAt, EndsAs, by_finish, by_steps}
use Rattle.run_laws.specs.Ranges.{CodesIn, ActivationIn, ConfigurationIn, NextIn, FinishIn, StretchesIn, EndsIn, CallsIn, AnswersIn}
use Rattle.run_laws.proofs.Steps.{func_in, entered_in, step_in}
use Rattle.run_laws.proofs.Host.{resumed_in, waits_in}
use Rattle.run_theory.proofs.Invariants.{TurnKeeps, leads_keeps}

module _ (m : Module) (w : CodesIn m) (low : ℕ) where
  alone_keeps : (o : Next) → NextIn low o → TurnKeeps (alone (λ c. true) m) (ConfigurationIn low) (λ (x : Note). Unit {0}) (alone_next true o)
  alone_keeps (steps k d) h = (All-nil (λ (x : Note). Unit {0}), h)
  alone_keeps (asks k import args d) h = tt
  alone_keeps (returns k values s) h = tt
  alone_keeps (traps k trap s) h = tt
  alone_keeps stuck h = tt

  goes_in : (c d : Configuration) (cost : ℕ) (es : List Note) → ConfigurationIn low c → Leads (alone (λ c. true) m) c cost es d → ConfigurationIn low d
  goes_in c d cost es h l = (leads_keeps (alone (λ c. true) m) (ConfigurationIn low) (λ (x : Note). Unit {0}) (λ c h. alone_keeps (step m c) (step_in low m w c h)) c d cost es h l).1

  finish_is : (o : Next) (cost : ℕ) (end : Finish) → NextIn low o → FinishesAt o cost end → FinishIn low end
  finish_is (steps k d) cost end h f = absurd f
  finish_is (asks k import args d) cost end h f = subst (FinishIn low) (sym f.1) h
  finish_is (returns k values s) cost end h f = subst (FinishIn low) (sym f.1) h
  finish_is (traps k trap s) cost end h f = subst (FinishIn low) (sym f.1) h
  finish_is stuck cost end h f = absurd f

  ends_are : (c : Configuration) (left used : ℕ) (end : Finish) → ConfigurationIn low c → EndsAs m c left used end → FinishIn low end
  ends_are c left used end h (by_finish j k d g f e le) = finish_is (step m d) k end (step_in low m w d (goes_in c d j [] h g)) f
  ends_are c left used end h (by_steps more d g e el a) = subst (FinishIn low) (sym e) (goes_in c d used [] h g)

pub stretches_in : StretchesIn
stretches_in m low c d cost w h g = goes_in m w low c d cost [] h g

pub ends_in : EndsIn
ends_in m low c left used end w h e = ends_are m w low c left used end h e

pub calls_in_range : CallsIn
calls_in_range m low s args x f w ok vs e = entered_in low s [] args x f ok (All-nil ActivationIn) vs (func_in m w x f e)

pub answers_in_range : AnswersIn
answers_in_range low size c s values h ok vs = resumed_in size c s values (waits_in low c h) ok vs
