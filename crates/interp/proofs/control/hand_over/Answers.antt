use Rattle.std.proofs.Common.{arith, ◌≡◌, ◌-◌, ◌++◌, reverse, take, drop, length, ap, ◌∙◌}
use Rattle.std.proofs.lemmas.List.{take_all, length-drop}
use Rattle.interp_state.proofs.OperandLemmas.{handed}
use Rattle.interp.proofs.control.hand_over.Goals as goal

pub returns-clause-puts : goal.returns-clause-puts
returns-clause-puts c =
    let from = c.args.from.now.items in
    let to = c.args.to.now.items in
    let ok = c.args.to.now.ok.0 in
    let ok' = c.args.from.now.ok.0 in
    let n : c.saturating_sub.result ≡ length to - c.args.taken = omega arith in
    let k : c.saturating_sub-2.result ≡ length from - c.args.arity = omega arith in
    let kept = c.truncate.ensures.items ∙ ap (λ i. take i to) n in
    let whole = take_all (length c.deref.result.now - c.saturating_sub-2.result) (drop c.saturating_sub-2.result c.deref.result.now)
    (omega (arith, length-drop c.saturating_sub-2.result c.deref.result.now)) in
    let given = whole ∙ ap (drop c.saturating_sub-2.result) c.deref.ensures.value ∙ ap (λ i. drop i from) k in
    ap reverse (c.in_ok-extend_from_slice.ensures.items ∙ ap (λ v. v ++ take (length c.deref.result.now - c.saturating_sub-2.result) (drop c.saturating_sub-2.result c.deref.result.now))
    kept ∙ ap (λ v. take (length to - c.args.taken) to ++ v) given)
    ∙ handed from to c.args.arity c.args.taken
