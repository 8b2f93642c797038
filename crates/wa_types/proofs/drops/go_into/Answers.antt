use Rattle.std.proofs.Common.{◌≡◌, ◌≤◌, ◌+◌, ◌*◌, ap, sym, subst, arith}
use Rattle.std.specs.Result.{is_ok}
use Rattle.wa_types.specs.View.{code}
use Rattle.wa_types.specs.Counts.{count_of}
use Rattle.wa_types.specs.Dropping.{waiting}
use Rattle.wa_types.proofs.DropLemmas.{waiting_pushed}
use Rattle.wa_types.proofs.drops.go_into.Goals as goal

pub returns : goal.returns
returns c =
    let inner : count_of (code c.replace-outer.new.dest.items) ≡ count_of (code c.args.inner.items) = ap (λ v. count_of (code v.items)) c.replace-outer.ensures.after in
    let outer : count_of (code c.replace-outer.result.items) ≡ count_of (code c.args.body.now.items) = ap (λ v. count_of (code v.items)) c.replace-outer.ensures.value in
    let held : waiting c.push-unheld.new.self.items ≤ waiting c.args.begun.now.items + 3 * count_of (code c.replace-outer.result.items) + 1 =
    subst (λ vs. waiting vs ≤ waiting c.args.begun.now.items + 3 * count_of (code c.replace-outer.result.items) + 1) (sym c.push-unheld.ensures.items)
    (waiting_pushed (is_ok c.push-unheld.result) c.args.begun.now.items c.replace-outer.result) in
    omega (arith, inner, outer, held)
