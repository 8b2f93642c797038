use Rattle.std.proofs.Common.{All, ◌∙◌, ◌++◌, ap, length, subst}
use Rattle.std.specs.List.{flat_map}
use Rattle.wa_types.specs.Memory.{bytes_of}
use Rattle.snapshot_store.specs.Snapshots.{global_bytes}
use Rattle.std.proofs.lemmas.Result.{on_ok_weaker}
use Rattle.snapshot_store.specs.Views.{parts_of}
use Rattle.wa_types.specs.Sizes.{value_fits}
use Rattle.snapshot_store.proofs.Fitting.{on_ok_true}
use Rattle.snapshot_store.proofs.Written.{parts_put}
use Rattle.snapshot_store.proofs.writing.put_parts.Goals as goal

pub returns-clause-puts : goal.returns-clause-puts
returns-clause-puts c =
    on_ok_weaker c.put_bytes.result
    (parts_put (parts_of c.args.parts.now) c.args.memory.now c.args.out.now.items c.put_u64.new.out.items c.put_u32.new.out.items c.put_u32-2.new.out.items c.put_u32-3.new.out.items
    c.put_globals.new.out.items c.put_u32-4.new.out.items c.put_bytes.new.out.items c.in_ok-put_u64.ensures.puts c.in_ok-put_u32.ensures.puts c.in_ok-put_u32-2.ensures.puts c.in_ok-put_u32-3.ensures.puts
    (c.in_ok-put_globals.ensures.puts ∙ ap (λ gs. c.put_u32-3.new.out.items ++ (bytes_of 4 (length gs) ++ flat_map global_bytes gs)) c.as_slice.ensures.value)
    c.in_ok-put_u32-4.ensures.puts)
    c.put_bytes.ensures.puts

pub returns-clause-fits : goal.returns-clause-fits
returns-clause-fits c = on_ok_true c.put_bytes.result (record {
  steps_used = c.in_ok-put_u64.ensures.fits;
  entry = c.in_ok-put_u32.ensures.fits;
  answers = c.in_ok-put_u32-2.ensures.fits;
  import = c.in_ok-put_u32-3.ensures.fits;
  count = c.requires.few;
  globals = subst (All value_fits) c.as_slice.ensures.value c.in_ok-put_globals.ensures.fits;
  pages = c.in_ok-put_u32-4.ensures.fits;
  whole = c.requires.whole;
  bytes = c.put_bytes.ensures.fits;
})
