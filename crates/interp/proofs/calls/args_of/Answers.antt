use Rattle.std.proofs.Common.{arith, ◌≡◌, ◌-◌, length, take, drop, ap, ◌∙◌}
use Rattle.interp.proofs.CallLemmas.{between}
use Rattle.interp.proofs.calls.args_of.Goals as goal

pub returns : goal.returns
returns c =
    let xs = c.args.operands.now.items in
    let size = c.args.operands.now.ok.0 in
    let e : c.saturating_sub-end.result ≡ length xs - c.args.own = omega arith in
    let s : c.saturating_sub.result ≡ length xs - c.args.own - c.args.params = omega arith in
    ap (λ v. take (c.saturating_sub-end.result - c.saturating_sub.result) (drop c.saturating_sub.result v)) c.deref.ensures.value
    ∙ ap (λ n. take (n - c.saturating_sub.result) (drop c.saturating_sub.result xs)) e
    ∙ ap (λ n. take (length xs - c.args.own - n) (drop n xs)) s
    ∙ between xs c.args.own c.args.params
