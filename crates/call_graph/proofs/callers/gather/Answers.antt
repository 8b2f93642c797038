use Rattle.std.proofs.Common.{arith, ◌≡◌, ◌+◌, ◌<◌, ◌≤◌, List, map, length, get_or, replicate, false, sym, ap, ◌∙◌, subst, All}
use Rattle.std.specs.List.{list_any}
use Rattle.std.proofs.lemmas.List.{append-nil, length-map}
use Rattle.wa_types.specs.declared.instrs.Instr.{Instr}
use Rattle.wa_types.specs.declared.syntax.Func.{Func as FuncValue}
use Rattle.wa_types.specs.View.{code, func_of, module_of}
use Rattle.wa_types.specs.Modules.{func_imports}
use Rattle.wa_types.specs.Pruned.{pruned}
use Rattle.wa_types.specs.Pausing.{calls_of, calls_in}
use Rattle.wasm_validate.proofs.FuncLemmas.{func_at, number_fits}
use Rattle.validate_bodies.proofs.SpaceLemmas.{on_more, on_close}
use Rattle.call_graph.specs.declared.calls.Callee.{Callee}
use Rattle.call_graph.specs.Calls.{callee_of, pauses, pauses_alone, IsThere}
use Rattle.call_graph.specs.Callers.{Puts, GatheredBelow}
use Rattle.call_graph.proofs.CallerLemmas.{all_there, callers_more, own_is, pauses_len}
use Rattle.call_graph.proofs.GraphLemmas.{gather_last}
use Rattle.call_graph.proofs.callers.gather.Goals as goal

pub loop-func-init : goal.loop-func-init
loop-func-init c = record {
  calls = subst (λ k. GatheredBelow (module_of c.args.module.now) k c.args.callers.now) (omega arith) c.requires.calls;
  own = c.requires.own ∙ sym (append-nil _);
}

pub overflow_cast-len : goal.overflow_cast-len
overflow_cast-len c =
    let le : c.loop-func.func-index ≤ length c.args.module.now.funcs.items = omega (arith, c.loop-func-test.true, ap length c.deref-func-items.ensures.value) in
    let lt : c.loop-func.func-index < length (map func_of c.args.module.now.funcs.items) =
    omega (arith, c.loop-func-test.true, ap length c.deref-func-items.ensures.value, length-map c.args.module.now.funcs.items func_of) in
    omega (
      arith,
      number_fits (module_of c.args.module.now) c.loop-func.func-index c.requires.sizes lt,
      pauses_len (func_imports (module_of c.args.module.now)) c.loop-func.func-index c.args.module.now.funcs.items
          (λ (x : FuncValue). pauses c.args.listed.now c.args.ignore_indirect (func_of x)) c.loop-func.pauses.items le c.loop-func.invariant.own,
      c.len.ensures,
    )

pub put_caller-requires : goal.put_caller-requires
put_caller-requires c =
    let same = c.deref-func-items.ensures.value in
    let lt : c.loop-func.func-index < length c.args.module.now.funcs.items = omega (arith, c.loop-func-test.true, ap length same) in
    let at : c.func-item.result ≡ get_or c.args.module.now.funcs.items c.loop-func.func-index c.func-item.result = c.func-item.is
    ∙ ap (λ (l : List FuncValue). get_or l c.loop-func.func-index c.func-item.result) same in
    let eq : map callee_of c.in_ok-calls.calls.items ≡ calls_in (func_of c.func-item.result) = c.in_ok-calls.ensures ∙ ap (λ (l : List Instr). calls_of (pruned (code l))) c.deref.ensures.value in
    subst (λ (l : List Callee). All (λ (call : Callee). IsThere (length c.loop-func.callers) (callee_of call)) l) (sym c.deref-in-loop-func.ensures.value)
    (all_there (module_of c.args.module.now) c.loop-func.func-index (func_imports (module_of c.args.module.now) + c.loop-func.func-index)
    (func_of c.func-item.result) c.loop-func.callers c.in_ok-calls.calls.items c.requires.valid
    (func_at c.args.module.now.funcs.items c.loop-func.func-index c.func-item.result lt at) c.loop-func.invariant.calls eq)

pub loop-func-preserved : goal.loop-func-preserved
loop-func-preserved c =
    let same = c.deref-func-items.ensures.value in
    let lt : c.loop-func.func-index < length c.args.module.now.funcs.items = omega (arith, c.loop-func-test.true, ap length same) in
    let le : c.loop-func.func-index ≤ length c.args.module.now.funcs.items = omega (arith, lt) in
    let at : c.func-item.result ≡ get_or c.args.module.now.funcs.items c.loop-func.func-index c.func-item.result = c.func-item.is
    ∙ ap (λ (l : List FuncValue). get_or l c.loop-func.func-index c.func-item.result) same in
    let eq : map callee_of c.in_ok-calls.calls.items ≡ calls_in (func_of c.func-item.result) = c.in_ok-calls.ensures ∙ ap (λ (l : List Instr). calls_of (pruned (code l))) c.deref.ensures.value in
    let len = pauses_len (func_imports (module_of c.args.module.now)) c.loop-func.func-index c.args.module.now.funcs.items
    (λ (x : FuncValue). pauses c.args.listed.now c.args.ignore_indirect (func_of x)) c.loop-func.pauses.items le c.loop-func.invariant.own in
    let caller : c.len.result ≡ func_imports (module_of c.args.module.now) + c.loop-func.func-index = omega (arith, len, c.len.ensures) in
    let puts : Puts (map callee_of c.in_ok-calls.calls.items) c.len.result c.loop-func.callers c.put_caller.new.callers =
    subst (λ (l : List Callee). Puts (map callee_of l) c.len.result c.loop-func.callers c.put_caller.new.callers) c.deref-in-loop-func.ensures.value
    c.in_ok-put_caller.ensures in
    record {
      calls =
          callers_more (module_of c.args.module.now) c.loop-func.func-index (func_of c.func-item.result) c.in_ok-calls.calls.items c.len.result c.loop-func.callers
          c.put_caller.new.callers (func_at c.args.module.now.funcs.items c.loop-func.func-index c.func-item.result lt at) eq caller c.loop-func.invariant.calls puts;
      own =
          on_more (λ (x : FuncValue). pauses c.args.listed.now c.args.ignore_indirect (func_of x))
          (replicate (func_imports (module_of c.args.module.now)) false) c.loop-func.pauses.items c.push.new.self.items c.args.module.now.funcs.items c.loop-func.func-index
          c.func-item.result c.any_pauses.result c.in_ok-push.ensures.items
          (own_is c.args.listed.now c.args.ignore_indirect (func_of c.func-item.result) c.in_ok-calls.calls.items c.any_pauses.result eq (c.any_pauses.ensures
          ∙ ap (λ (l : List Callee). list_any (λ (call : Callee). pauses_alone c.args.listed.now c.args.ignore_indirect (callee_of call)) l) c.deref-in-loop-func-2.ensures.value)) lt at
          c.loop-func.invariant.own;
    }

pub returns : goal.returns
returns c =
    let le : length c.args.module.now.funcs.items ≤ c.loop-func.func-index = omega (arith, c.loop-func-test.false, ap length c.deref-func-items.ensures.value) in
    let all : c.loop-func.func-index ≡ length (map func_of c.args.module.now.funcs.items) =
    omega (arith, le, c.loop-func.auto.func-index-end, ap length c.deref-func-items.ensures.value, length-map c.args.module.now.funcs.items func_of) in
    record {
      calls = gather_last (module_of c.args.module.now) c.loop-func.func-index c.loop-func.callers all c.loop-func.invariant.calls;
      own = on_close (pauses c.args.listed.now c.args.ignore_indirect) func_of (replicate (func_imports (module_of c.args.module.now)) false) c.loop-func.pauses.items
          c.args.module.now.funcs.items c.loop-func.func-index le c.loop-func.invariant.own;
    }
