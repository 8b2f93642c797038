-- A line's number and its rule, joined.
use Rattle.std.specs.Prelude.{codes}
use Rattle.std.specs.Fmt.{decimal}
use Rattle.std.proofs.lemmas.Result.{on_ok_weaker}
use Rattle.transcript.proofs.Joined.{two_pairs}
use Rattle.transcript.proofs.refusals.put_script.Goals as goal

pub returns : goal.returns
returns c =
    on_ok_weaker c.put_with_number-2.result
    (two_pairs c.args.line.now.items c.put_with_number.new.line.items c.put_with_number-2.new.line.items (codes "script line ") (decimal c.args.number) (codes " rule ")
    (decimal c.args.rule) c.in_ok-put_with_number.ensures)
    c.put_with_number-2.ensures
