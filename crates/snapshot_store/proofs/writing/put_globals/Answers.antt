-- One global more is spelled, and fits.
use Rattle.wa_types.specs.declared.values.Value.TheVariants.{I32}
use Rattle.wa_types.specs.Memory.{bytes_of}
use Rattle.wa_types.specs.Sizes.{value_fits}
use Rattle.std.proofs.Common.{get_or, length}
use Rattle.snapshot_store.specs.Snapshots.{global_bytes}
use Rattle.snapshot_store.proofs.Fitting.{all_more, read_as, spelled_more}
use Rattle.snapshot_store.proofs.writing.put_globals.Goals as goal

pub loop-value-preserved : goal.loop-value-preserved
loop-value-preserved c =
    let x = get_or c.args.globals.now c.loop-value.value-index (I32 0) in
    let is = read_as c.args.globals.now c.loop-value.value-index (I32 0) c.loop-value-test.true in
    record {
      puts =
          spelled_more global_bytes c.args.out.now.items (bytes_of 4 (length c.args.globals.now)) c.loop-value.out.items c.put_global.new.out.items c.args.globals.now c.loop-value.value-index x
          c.loop-value-test.true is c.loop-value.invariant.puts c.in_ok-put_global.ensures.puts;
      fits = all_more value_fits c.args.globals.now c.loop-value.value-index x c.loop-value-test.true is c.loop-value.invariant.fits c.in_ok-put_global.ensures.fits;
    }
