use Rattle.std.proofs.Common.{arith, sym}
use Rattle.wa_types.specs.declared.syntax.Import.{Import}
use Rattle.wa_types.specs.Modules.{imported_table}
use Rattle.validate_bodies.proofs.SpaceLemmas.{count_yes, count_not}
use Rattle.validate_bodies.proofs.spaces.imported_tables.Goals as goal

pub loop-import-preserved-then-not-is_table : goal.loop-import-preserved-then-not-is_table
loop-import-preserved-then-not-is_table c = record {
  counted = count_not (λ (i : Import). imported_table i.kind) c.args.imports.now c.loop-import.import-index c.loop-import.count c.import-item.result
      (sym c.if-not-is_table.ensures) c.loop-import-test.true c.import-item.is c.loop-import.invariant.counted;
  few = omega (arith, c.loop-import.invariant.few);
}

pub loop-import-preserved : goal.loop-import-preserved
loop-import-preserved c = record {
  counted = count_yes (λ (i : Import). imported_table i.kind) c.args.imports.now c.loop-import.import-index c.loop-import.count c.import-item.result
      (sym c.if-not-is_table.ensures) c.loop-import-test.true c.import-item.is c.loop-import.invariant.counted;
  few = omega (arith, c.loop-import.invariant.few);
}
