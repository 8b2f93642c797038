use Rattle.std.proofs.Common.{rules, ◌≡◌, ◌<◌, ℕ, List, length, slice_get, Some, ap, sym, ◌∙◌, subst, All}
use Rattle.std.proofs.lemmas.Option.{slice_get-get_or}
use Rattle.call_graph.specs.Graph.{items_or_none, callers_at, Tells}
use Rattle.call_graph.proofs.SpreadLemmas.{spreads_first, spreads_on, spreads_last, pending_within, all_within, none_left}
use Rattle.call_graph.proofs.spread.spread.Goals as goal

pub loop-func-init : goal.loop-func-init
loop-func-init c = spreads_first c.args.callers.now c.args.told.now c.in_ok-pending.pending.items c.in_ok-pending.ensures

pub offset_bounds-callers-func : goal.offset_bounds-callers-func
offset_bounds-callers-func c =
    let lt : c.in-Some.func < length c.args.callers.now = pending_within c.args.callers.now c.args.told.now c.loop-func.told c.loop-func.pending.items c.pop.new.self.items c.in-Some.func
    c.loop-func.invariant c.in-Some.ensures.items c.requires.len in
    search rules

pub bounds-callers-func : goal.bounds-callers-func
bounds-callers-func c = pending_within c.args.callers.now c.args.told.now c.loop-func.told c.loop-func.pending.items c.pop.new.self.items c.in-Some.func c.loop-func.invariant
    c.in-Some.ensures.items c.requires.len

pub tell-requires : goal.tell-requires
tell-requires c =
    let lt : c.in-Some.func < length c.args.callers.now = pending_within c.args.callers.now c.args.told.now c.loop-func.told c.loop-func.pending.items c.pop.new.self.items c.in-Some.func
    c.loop-func.invariant c.in-Some.ensures.items c.requires.len in
    let is : slice_get c.args.callers.now c.in-Some.func ≡ Some c.index-callers-func.result = slice_get-get_or c.args.callers.now c.in-Some.func c.index-callers-func.result lt
    ∙ ap Some (sym c.index-callers-func.is) in
    subst (λ (l : List ℕ). All (λ x. x < length c.loop-func.told) l) (sym c.deref.ensures.value)
    (all_within c.args.callers.now c.loop-func.told c.in-Some.func c.index-callers-func.result is (c.loop-func.invariant.len ∙ c.requires.len) c.requires.within)

pub loop-func-preserved : goal.loop-func-preserved
loop-func-preserved c =
    let lt : c.in-Some.func < length c.args.callers.now = pending_within c.args.callers.now c.args.told.now c.loop-func.told c.loop-func.pending.items c.pop.new.self.items c.in-Some.func
    c.loop-func.invariant c.in-Some.ensures.items c.requires.len in
    let is : slice_get c.args.callers.now c.in-Some.func ≡ Some c.index-callers-func.result = slice_get-get_or c.args.callers.now c.in-Some.func c.index-callers-func.result lt
    ∙ ap Some (sym c.index-callers-func.is) in
    let these : c.deref.result.now ≡ callers_at c.args.callers.now c.in-Some.func = c.deref.ensures.value ∙ sym (ap items_or_none is) in
    spreads_on c.args.callers.now c.args.told.now c.loop-func.told c.tell.new.told c.loop-func.pending.items c.pop.new.self.items c.tell.new.pending.items c.in-Some.func
    c.loop-func.invariant c.in-Some.ensures.items
    (subst (λ (l : List ℕ). Tells l c.loop-func.told c.tell.new.told c.pop.new.self.items c.tell.new.pending.items) these c.in_ok-tell.ensures)

pub returns : goal.returns
returns c = spreads_last c.args.callers.now c.args.told.now c.loop-func.told c.loop-func.pending.items c.loop-func.invariant
    (none_left c.loop-func.pending.items (sym c.loop-func.pending.ok.0 ∙ c.in_default.ensures.cases.0))
