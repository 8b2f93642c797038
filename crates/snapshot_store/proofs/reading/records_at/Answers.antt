use Rattle.std.proofs.Common.{◌≡◌, Err, ap, arith, drop, map}
use Rattle.std.proofs.lemmas.List.{length-map}
use Rattle.snapshot_store.specs.declared.fault.SnapFault.TheVariants.{Refused}
use Rattle.snapshot_store.specs.Views.{record_of}
use Rattle.snapshot_store.proofs.Nothing.{no_records}
use Rattle.snapshot_store.proofs.reading.records_at.Goals as goal

pub returns-in-Err-clause-refused : goal.returns-in-Err-clause-refused
returns-in-Err-clause-refused c = λ u.
    let e : c.in-Err.fault ≡ Refused = cc in
    no_records (drop c.args.at.now c.args.bytes.now) c.args.count (map record_of c.records.records.items) (drop c.records.at c.args.bytes.now) c.records.invariant.so_far
    c.records.invariant.fit (omega (arith, c.records-test.true, c.len.ensures, length-map c.records.records.items record_of)) (c.in-Err.ensures.refused (ap Err e))
