use Rattle.std.proofs.Common.{◌∙◌, List, ap, arith, length, sym, subst, ℕ}
use Rattle.std.proofs.lemmas.List.{length-map}
use Rattle.std.specs.declared.vec.Vec.{Vec}
use Rattle.std.specs.declared.alloc.Global.{Global}
use Rattle.wa_types.specs.View.{func_of, module_of}
use Rattle.wa_types.specs.Modules.{func_imports}
use Rattle.call_graph.specs.Callers.{CallsGathered, GatheredBelow}
use Rattle.call_graph.proofs.GraphLemmas.{gather_first}
use Rattle.call_graph.proofs.SpreadLemmas.{written_back}
use Rattle.call_graph.proofs.callers.Graph.of.Goals as goal

pub gather-requires-clause-calls : goal.gather-requires-clause-calls
gather-requires-clause-calls c =
    let funcs = c.args.module.now.funcs in
    subst (λ (l : List (Vec ℕ Global)). GatheredBelow (module_of c.args.module.now) (func_imports (module_of c.args.module.now)) l) (sym c.deref_mut.ensures.value)
    (gather_first (module_of c.args.module.now) c.in_ok-callers.callers.items
    (omega (arith, c.in_ok-callers.ensures.0, c.len.ensures, c.requires.imports, funcs.ok.0, length-map funcs.items func_of)) c.in_ok-callers.ensures.1)

pub returns : goal.returns
returns c =
    let back = written_back c.in_ok-callers.callers.items c.gather.new.callers c.in_ok-callers.callers.len c.in_ok-callers.callers.ok.0 (c.gather.auto.callers ∙ ap length c.deref_mut.ensures.value) in
    subst (λ (l : List (Vec ℕ Global)). CallsGathered (module_of c.args.module.now) c.args.listed.now c.args.ignore_indirect l c.gather.new.pauses.items) (sym back) c.in_ok-gather.ensures
