use Rattle.std.proofs.Common.{arith, ◌≡◌, ◌++◌, ◌∷◌, length, length-drop, map, drop, get_or, drop-cons, add-one, refl, sym, ap, ◌∙◌, append-nil}
use Rattle.host_setup.specs.Views.{entry_of as named_of}
use Rattle.pause_host.specs.declared.stages.EntryCall.{EntryCall}
use Rattle.pause_host.specs.Views.{entry_of}
use Rattle.pause_host.specs.Settings.{calls_of}
use Rattle.pause_host.proofs.Parts.{call_more, no_funcs, dropped_all}
use Rattle.pause_host.proofs.entries.entry_calls.Goals as goal

pub loop-func-preserved : goal.loop-func-preserved
loop-func-preserved c =
    let funcs = c.args.funcs.now in
    let i = c.loop-func.func-index in
    let call : EntryCall = record { func = get_or funcs i 0; args = c.in-Some.entry.args } in
    let front = drop-cons funcs i 0 c.loop-func-test.true ∙ ap (λ n. get_or funcs i 0 ∷ drop n funcs) (sym (add-one i)) in
    let less = ap length c.in-Some.ensures.items in
    record {
      told = call_more (calls_of (map named_of c.args.entries.items) funcs) c.loop-func.rest.items c.pop_front.new.self.items funcs i (get_or funcs i 0) c.in-Some.entry c.loop-func.calls.items
          c.push_back.new.self.items call c.loop-func.invariant.told c.in-Some.ensures.items front c.in_ok-push_back.ensures.items refl refl;
      many = omega (arith, less, c.loop-func.invariant.many);
    }

pub unreachable-requires : goal.unreachable-requires
unreachable-requires c =
    let rest = c.loop-func.rest.items in
    let e : length rest ≡ length (drop 1 rest) = ap length (c.in_default.ensures.items ∙ c.in_default.ensures.rest) in
    omega (arith, e, length-drop 1 rest, c.loop-func.invariant.many, c.loop-func-test.true)

pub returns : goal.returns
returns c =
    let rest = map named_of c.loop-func.rest.items in
    let calls = map entry_of c.loop-func.calls.items in
    let none = sym (no_funcs rest) ∙ ap (calls_of rest) (sym (dropped_all c.args.funcs.now c.loop-func.func-index c.loop-func-test.false)) in
    sym (append-nil calls) ∙ ap (λ z. calls ++ z) none ∙ sym c.loop-func.invariant.told
