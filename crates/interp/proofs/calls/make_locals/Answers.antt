use Rattle.std.proofs.Common.{◌≡◌, ◌+◌, ◌-◌, ◌++◌, length, take, get_or, replicate, ap, ◌∙◌}
use Rattle.wa_types.specs.declared.values.ValType.TheVariants.{I32}
use Rattle.wa_types.specs.declared.syntax.Run.{Run}
use Rattle.std.proofs.lemmas.List.{get_or_default}
use Rattle.interp.proofs.CallLemmas.{locals_more}
use Rattle.interp.proofs.calls.make_locals.Goals as goal

pub loop-run-preserved : goal.loop-run-preserved
loop-run-preserved c =
    let xs = c.loop-run.locals.items in
    let i = c.loop-run.run-index in
    let r : Run = get_or c.args.runs.now i (record { count = 0; ty = I32 }) in
    let n = c.len.result + r.count in
    let size : c.len.result ≡ length xs = c.len.ensures ∙ c.loop-run.locals.ok.0 in
    let here : r ≡ get_or c.args.runs.now i r = get_or_default c.args.runs.now i _ r c.loop-run-test.true in
    let more = c.in_ok-resize.ensures.items
    ∙ ap (λ k. take (k + r.count) xs ++ replicate (k + r.count - c.loop-run.locals.len) c.zero.result) size
    ∙ ap (λ k. take (length xs + r.count) xs ++ replicate (length xs + r.count - k) c.zero.result) c.loop-run.locals.ok.0
    ∙ ap (λ z. take (length xs + r.count) xs ++ replicate (length xs + r.count - length xs) z) c.zero.ensures in
    locals_more c.args.args.now c.args.runs.now i r xs c.resize.new.self.items c.loop-run-test.true here c.loop-run.invariant more
