-- Stretches of a module's own reductions, and their ends, stay where parts stand behind its own.
use Rattle.std.proofs.Common.{◌≡◌, ℕ, List, [], true, sym, ap, ◌∙◌, subst}
use Rattle.wa_types.specs.declared.values.Value.{Value}
use Rattle.wa_types.specs.declared.syntax.Export.{Export}
use Rattle.wa_types.specs.Syntax.{FuncType, Func, GlobalDef, Module}
use Rattle.wa_model.specs.Machine.{goes, Leads, stays, moves}
use Rattle.wa_model.specs.Configuration.{Configuration}
use Rattle.wa_model.specs.Step.{Next, steps, asks, returns, traps, stuck, step}
use Rattle.wa_model.specs.Blocking.{Note}
use Rattle.run_theory.specs.Alone.{alone_next, alone, Finish, FinishesAt, CostsAbove, EndsAs, by_finish, by_steps}
use Rattle.run_theory.specs.Growth.{grown_module, Spaces, spaces_of, ConfigNamed, grown_config, grown_finish}
use Rattle.run_theory.proofs.Runs.{turned}
use Rattle.run_theory.proofs.GrownSteps.{ModuleNamed, Stays, step_stays}

module _ (more : List Value) (n : Spaces) where
  turn_stays : (o o' : Next) (k : ℕ) (es : List Note) (t : Configuration) → Stays more n o o' → alone_next true o ≡ goes k es t
      → (alone_next true o' ≡ goes k es (grown_config more t)) × ConfigNamed n t
  turn_stays (steps j d) o' k es t h e =
      let same : d ≡ t = cc in (ap (alone_next true) h.0 ∙ ap (turned (grown_config more)) e, subst (ConfigNamed n) same h.1)
  turn_stays (asks j import args d) o' k es t h e = cc
  turn_stays (returns j values s) o' k es t h e = cc
  turn_stays (traps j trap s) o' k es t h e = cc
  turn_stays stuck o' k es t h e = cc

  finish_stays : (o o' : Next) (cost : ℕ) (end : Finish) → Stays more n o o' → FinishesAt o cost end → FinishesAt o' cost (grown_finish more end)
  finish_stays (steps k d) o' cost end h f = absurd f
  finish_stays (asks k import args d) o' cost end h f = subst (λ x. FinishesAt x cost (grown_finish more end)) (sym h.0) (f.0, ap (grown_finish more) f.1)
  finish_stays (returns k values s) o' cost end h f = subst (λ x. FinishesAt x cost (grown_finish more end)) (sym h.0) (f.0, ap (grown_finish more) f.1)
  finish_stays (traps k trap s) o' cost end h f = subst (λ x. FinishesAt x cost (grown_finish more end)) (sym h.0) (f.0, ap (grown_finish more) f.1)
  finish_stays stuck o' cost end h f = absurd f

  costs_stay : (o o' : Next) (left : ℕ) → Stays more n o o' → CostsAbove o left → CostsAbove o' left
  costs_stay (steps k d) o' left h f = subst (λ x. CostsAbove x left) (sym h.0) f
  costs_stay (asks k import args d) o' left h f = subst (λ x. CostsAbove x left) (sym h.0) f
  costs_stay (returns k values s) o' left h f = subst (λ x. CostsAbove x left) (sym h.0) f
  costs_stay (traps k trap s) o' left h f = subst (λ x. CostsAbove x left) (sym h.0) f
  costs_stay stuck o' left h f = absurd f

module _ (m : Module) (ts : List FuncType) (fs : List Func) (gs : List GlobalDef) (es : List Export) (ok : ModuleNamed m) (more : List Value) where
  abbrev p : Module
  p = grown_module m ts fs gs es

  abbrev n : Spaces
  n = spaces_of m

  pub leads_stay : (c d : Configuration) (cost : ℕ) (notes : List Note) → ConfigNamed n c → Leads (alone (λ c. true) m) c cost notes d
      → Leads (alone (λ c. true) p) (grown_config more c) cost notes (grown_config more d) × ConfigNamed n d
  leads_stay c d cost notes h stays = (stays, h)
  leads_stay c d cost notes h (moves {t = t} {k = k} {n = j} {es = xs} {fs = ys} e l em eg) =
      let turn = turn_stays more n (step m c) (step p (grown_config more c)) k xs t (step_stays m ts fs gs es ok more c h) e in
      let on = leads_stay t d j ys turn.1 l in
      (moves turn.0 on.0 em eg, on.1)

  pub ends_stay : (c : Configuration) (left used : ℕ) (end : Finish) → ConfigNamed n c → EndsAs m c left used end → EndsAs p (grown_config more c) left used (grown_finish more end)
  ends_stay c left used end h (by_finish j k d l f sum within) =
      let on = leads_stay c d j [] h l in
      by_finish j k (grown_config more d) on.0 (finish_stays more n (step m d) (step p (grown_config more d)) k end (step_stays m ts fs gs es ok more d on.1) f) sum within
  ends_stay c left used end h (by_steps rest d l e sum dear) =
      let on = leads_stay c d used [] h l in
      by_steps rest (grown_config more d) on.0 (ap (grown_finish more) e) sum (costs_stay more n (step m d) (step p (grown_config more d)) rest (step_stays m ts fs gs es ok more d on.1) dear)
