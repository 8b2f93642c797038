use Rattle.std.proofs.Common.{arith, ◌≡◌, ◌<◌, ℕ, List, Bool, Some, true, length, slice_get, sym, ap, ◌∙◌, subst}
use Rattle.std.specs.Prelude.{◌↔◌, Contains}
use Rattle.std.specs.declared.vec.Vec.{Vec}
use Rattle.std.specs.declared.alloc.Global.{Global}
use Rattle.wa_types.specs.declared.syntax.Module.{Module as ModuleValue}
use Rattle.wa_types.specs.View.{module_of}
use Rattle.wa_types.specs.Modules.{func_imports}
use Rattle.wa_types.specs.Pausing.{TellsMayPause}
use Rattle.call_graph.specs.Settings.{settings_of}
use Rattle.call_graph.specs.Graph.{callers_at, Reached}
use Rattle.call_graph.specs.Callers.{CallsGathered}
use Rattle.call_graph.proofs.GraphLemmas.{listed_count, caller_within, reached_may_pause}
use Rattle.call_graph.proofs.SpreadLemmas.{written_back}
use Rattle.call_graph.proofs.pausing.pausing_functions.Goals as goal

pub of-requires-clause-imports : goal.of-requires-clause-imports
of-requires-clause-imports c =
    ap length c.requires ∙ listed_count (module_of c.args.valid.now) (settings_of c.args.settings.now)
    ∙ ap (λ (m : ModuleValue). func_imports (module_of m)) (sym c.module.ensures.same)

pub spread-requires-clause-within : goal.spread-requires-clause-within
spread-requires-clause-within c =
    subst (λ (l : List (Vec ℕ Global)). (y x : ℕ) → Contains (callers_at l y) x → x < length l) (sym c.deref.ensures.value)
    (caller_within (module_of c.module.result.now) c.in_ok-graph.graph.callers.items c.in_ok-graph.ensures.calls)

pub returns : goal.returns
returns c =
    let gathered : CallsGathered (module_of c.args.valid.now) c.args.listed.now c.args.settings.now.ignore_indirect c.in_ok-graph.graph.callers.items c.in_ok-graph.graph.pauses.items =
    subst (λ (m : ModuleValue). CallsGathered (module_of m) c.args.listed.now c.args.settings.now.ignore_indirect c.in_ok-graph.graph.callers.items c.in_ok-graph.graph.pauses.items)
    c.module.ensures.same c.in_ok-graph.ensures in
    let each : (x : ℕ) → (slice_get c.spread.new.told x ≡ Some true) ↔ Reached c.in_ok-graph.graph.callers.items c.in_ok-graph.graph.pauses.items x =
    subst (λ (l : List (Vec ℕ Global)). (x : ℕ) → (slice_get c.spread.new.told x ≡ Some true) ↔ Reached l c.in_ok-graph.graph.pauses.items x) c.deref.ensures.value
    (subst (λ (s : List Bool). (x : ℕ) → (slice_get c.spread.new.told x ≡ Some true) ↔ Reached c.deref.result.now s x) c.deref_mut.ensures.value c.in_ok-spread.ensures) in
    let len : length c.spread.new.told ≡ length c.in_ok-graph.graph.pauses.items = omega (arith, c.spread.auto.told, ap length c.deref_mut.ensures.value) in
    let back = written_back c.in_ok-graph.graph.pauses.items c.spread.new.told c.in_ok-graph.graph.pauses.len (sym c.deref_mut.ensures.len ∙ ap length c.deref_mut.ensures.value) len in
    subst (TellsMayPause (module_of c.args.valid.now) (settings_of c.args.settings.now)) (sym back)
    (reached_may_pause (module_of c.args.valid.now) (settings_of c.args.settings.now) c.args.listed.now c.in_ok-graph.graph.callers.items c.in_ok-graph.graph.pauses.items c.spread.new.told
    c.requires gathered len each)
