use Rattle.std.proofs.Common.{◌∙◌, ap, arith, get_or, length}
use Rattle.snapshot_store.specs.Views.{record_of}
use Rattle.snapshot_store.specs.Parts.{CountsFit}
use Rattle.snapshot_store.proofs.Counted.{length_whole}
use Rattle.snapshot_store.proofs.Written.{each_fits}
use Rattle.snapshot_store.proofs.counting.length.Goals as goal

pub record_length-total-requires : goal.record_length-total-requires
record_length-total-requires c =
    each_fits CountsFit record_of c.args.snap.now.programs.items c.loop-program.program-index c.program-item.result c.requires.each
    (omega (arith, c.loop-program-test.true, ap length c.deref-program-items.ensures.value))
    (c.program-item.is ∙ ap (λ xs. get_or xs c.loop-program.program-index c.program-item.result) c.deref-program-items.ensures.value)

pub returns : goal.returns
returns c =
    c.loop-program.invariant.is
    ∙ length_whole record_of c.args.snap.now.events c.args.snap.now.programs.items c.loop-program.program-index
    (omega (arith, c.loop-program-test.false, ap length c.deref-program-items.ensures.value))
