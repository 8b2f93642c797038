use Rattle.std.proofs.Common.{◌≡◌, ℕ, subst, arith}
use Rattle.wasm_grammar.specs.Passing.{IsShortRun, PassesRuns}
use Rattle.wasm_grammar.proofs.ShortItems.{passes_one_run}
use Rattle.wasm_grammar.proofs.short.short_runs.Goals as goal

same_run : {a b k d : ℕ} → a ≡ b → k ≡ d → IsShortRun a k → IsShortRun b d
same_run {b = b} {k = k} e f h = subst (IsShortRun b) f (subst (λ z. IsShortRun z k) e h)

pub loop-index-preserved : goal.loop-index-preserved
loop-index-preserved c =
    let test = c.loop-index-test.true in
    let most = c.min-most.ensures in
    let room = c.saturating_sub-room.ensures in
    let all = c.saturating_sub.ensures in
    let some = c.saturating_sub-2.ensures in
    passes_one_run c.args.bytes.now.all c.args.n c.args.at c.loop-index.index c.args.stop (omega (arith, test, most, room, all)) c.requires.stop
    (omega (arith, test, most, some)) (same_run c.at-count.ensures c.at-ty.ensures c.if-not-is_short_run.ensures) c.loop-index.invariant

pub returns-clause-passes : goal.returns-clause-passes
returns-clause-passes c =
    let test = c.loop-index-test.false in
    let most = c.loop-index.auto.index-end in
    let e : c.loop-index.index ≡ c.min-most.result = omega (arith, test, most) in
    subst (λ i. PassesRuns c.args.bytes.now.all c.args.n c.args.at i c.args.stop) e c.loop-index.invariant
