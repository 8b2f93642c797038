use Rattle.wasm_validate.proofs.NameLemmas.{again, still, kept}
use Rattle.wasm_validate.proofs.names.names_differ.Goals as goal

pub returns-then-not-branch : goal.returns-then-not-branch
returns-then-not-branch c =
    again c.as_str.result c.loop-export.seen.keys c.args.exports.now c.loop-export.export-index c.export-item.result c.in_ok-insert.field-0 c.in_ok-insert.ensures.added
    c.loop-export.invariant.seen c.as_str.ensures c.loop-export-test.true c.export-item.is
    c.if-not-branch.true c.loop-export.invariant.differ

pub loop-export-preserved : goal.loop-export-preserved
loop-export-preserved c = record {
  seen =
      kept c.as_str.result c.loop-export.seen.keys c.args.exports.now c.loop-export.export-index c.export-item.result c.in_ok-insert.field-0 c.in_ok-insert.ensures.added
      c.loop-export.invariant.seen c.as_str.ensures c.loop-export-test.true c.export-item.is
      c.insert.new.self.keys c.in_ok-insert.ensures.keys;
  differ =
      still c.as_str.result c.loop-export.seen.keys c.args.exports.now c.loop-export.export-index c.export-item.result c.in_ok-insert.field-0 c.in_ok-insert.ensures.added
      c.loop-export.invariant.seen c.as_str.ensures c.loop-export-test.true c.export-item.is
      c.if-not-branch.false c.loop-export.invariant.differ;
}
