use Rattle.std.proofs.Common.{All, List, ◌∙◌, ap, arith, get_or, length, map}
use Rattle.snapshot_store.specs.Views.{record_of}
use Rattle.std.proofs.lemmas.List.{length-map}
use Rattle.wa_types.specs.Memory.{bytes_of}
use Rattle.snapshot_store.specs.declared.snapshot.ProgramRecord.{ProgramRecord as RecordValue}
use Rattle.snapshot_store.specs.Parts.{CountsFit}
use Rattle.snapshot_store.specs.Snapshots.{RecordFits}
use Rattle.snapshot_store.proofs.Fitting.{all_of, all_seen_more}
use Rattle.snapshot_store.proofs.Written.{each_fits, records_more, snapshot_put}
use Rattle.snapshot_store.proofs.writing.write.Goals as goal

pub put_record-requires : goal.put_record-requires
put_record-requires c =
    each_fits CountsFit record_of c.args.snap.now.programs.items c.loop-program.program-index c.program-item.result c.requires.each
    (omega (arith, c.loop-program-test.true, ap length c.deref-program-items.ensures.value))
    (c.program-item.is ∙ ap (λ xs. get_or xs c.loop-program.program-index c.program-item.result) c.deref-program-items.ensures.value)

pub loop-program-preserved : goal.loop-program-preserved
loop-program-preserved c = record {
  puts =
      records_more (bytes_of 8 c.args.snap.now.events) (bytes_of 4 (length c.args.snap.now.programs.items)) c.loop-program.out.items c.put_record.new.out.items c.args.snap.now.programs.items
      c.loop-program.program-index c.program-item.result (omega (arith, c.loop-program-test.true, ap length c.deref-program-items.ensures.value)) (c.program-item.is ∙ ap (λ xs. get_or xs c.loop-program.program-index c.program-item.result) c.deref-program-items.ensures.value) c.loop-program.invariant.puts c.in_ok-put_record.ensures.puts;
  fits =
      all_seen_more record_of RecordFits c.args.snap.now.programs.items c.loop-program.program-index c.program-item.result (omega (arith, c.loop-program-test.true, ap length c.deref-program-items.ensures.value)) (c.program-item.is ∙ ap (λ xs. get_or xs c.loop-program.program-index c.program-item.result) c.deref-program-items.ensures.value) c.loop-program.invariant.fits c.in_ok-put_record.ensures.fits;
  events = c.loop-program.invariant.events;
}

pub returns : goal.returns
returns c = record {
  fits = record {
    events = c.loop-program.invariant.events;
    count = omega (arith, c.requires.few, length-map c.args.snap.now.programs.items record_of);
    programs =
        all_of (λ (rs : List RecordValue). All RecordFits (map record_of rs)) c.args.snap.now.programs.items c.loop-program.program-index
        (omega (arith, c.loop-program-test.false, ap length c.deref-program-items.ensures.value)) c.loop-program.invariant.fits;
  };
  spells =
      snapshot_put record_of c.args.snap.now.events c.args.snap.now.programs.items c.loop-program.program-index c.loop-program.out.items
      (omega (arith, c.loop-program-test.false, ap length c.deref-program-items.ensures.value)) c.loop-program.invariant.puts;
}
