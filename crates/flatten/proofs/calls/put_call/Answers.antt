use Rattle.std.proofs.Common.{ap, arith, ◌≡◌, ◌≤◌, ◌∙◌, nat_lt, length, slice_get}
use Rattle.wa_types.specs.Syntax.{FuncType}
use Rattle.wa_types.specs.View.{func_type_of}
use Rattle.flatten.specs.Numbers.{bit}
use Rattle.flatten.proofs.CallLemmas.{func_there, call_at, call_leaf, given_is, few_results}
use Rattle.flatten.proofs.calls.put_call.Goals as goal

pub unreachable-requires : goal.unreachable-requires
unreachable-requires c = func_there c.args.at.now.typing c.args.instr.now c.args.func c.requires.typed c.requires.is c.in_default.ensures

pub put_any_call-requires-clause-call : goal.put_any_call-requires-clause-call
put_any_call-requires-clause-call c =
    let ty : FuncType = func_type_of c.in-Some.ty.now in
    let few : length ty.results ≤ 1 = few_results (slice_get c.args.at.now.typing.around.funcs c.args.func) ty c.in-Some.ensures (c.requires.small.funcs c.args.func).results in
    let size : c.len-given.result ≡ length ty.results = omega (arith, c.len-given.ensures) in
    call_at c.args.at.now.typing c.args.instr.now c.args.func c.requires.typed c.args.names.now ty c.len-taken.result
    (nat_lt 0 c.len-given.result) c.requires.is c.in-Some.ensures c.requires.small (omega (arith, c.len-taken.ensures))
    (ap (λ k. bit (nat_lt 0 k)) size ∙ given_is (length ty.results) few)

pub put_any_call-requires-clause-leaf : goal.put_any_call-requires-clause-leaf
put_any_call-requires-clause-leaf c = call_leaf c.args.instr.now c.args.func c.requires.is
