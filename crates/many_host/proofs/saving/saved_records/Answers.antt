use Rattle.std.proofs.Common.{None, arith, get_or, map}
use Rattle.std.proofs.lemmas.Option.{slice_get-get_or}
use Rattle.snapshot_store.specs.Views.{record_of}
use Rattle.many_host.proofs.SavedRecords.{pages_next, records_next}
use Rattle.many_host.proofs.TurnPlaces.{stands_at}
use Rattle.many_host.proofs.saving.saved_records.Goals as goal

pub loop-i-preserved : goal.loop-i-preserved
loop-i-preserved c =
    let i = c.loop-i.i in
    let dues = c.args.dues.now in
    let programs = c.args.programs.now in
    record {
      so_far =
          records_next i dues programs (map record_of c.loop-i.records.items) (map record_of c.put_record.new.records.items) (record_of c.in_ok-next.next) (get_or dues i None)
          c.index-programs-i.result (slice_get-get_or dues i None (omega (arith, c.loop-i-test.true, c.requires))) (stands_at programs i c.index-programs-i.result c.loop-i-test.true c.index-programs-i.is)
          c.loop-i.invariant.so_far c.in_ok-next.ensures.is c.in_ok-put_record.ensures;
      pages =
          pages_next (map record_of c.loop-i.records.items) (map record_of c.put_record.new.records.items) (record_of c.in_ok-next.next) c.loop-i.invariant.pages c.in_ok-next.ensures.pages
          c.in_ok-put_record.ensures;
    }
