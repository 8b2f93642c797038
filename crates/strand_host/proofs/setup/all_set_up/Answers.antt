use Rattle.std.proofs.Common.{arith, ap, ◌+◌}
use Rattle.wa_types.specs.View.{module_of}
use Rattle.strand_host.specs.StrandSetups.{items_of}
use Rattle.strand_host.proofs.SetupLoops.{fails_there, set_up_all, set_up_next}
use Rattle.strand_host.proofs.setup.all_set_up.Goals as goal

pub returns-in-Err : goal.returns-in-Err
returns-in-Err c =
    fails_there (module_of c.args.valid.now) c.args.parts.now c.loop-part.part-index c.loop-part.strand (items_of c.loop-part.all.items) c.part-item.result c.in-Err.fault c.loop-part-test.true c.part-item.is
    c.loop-part.invariant.sofar c.in-Err.ensures

pub loop-part-preserved : goal.loop-part-preserved
loop-part-preserved c = record {
  at = ap (λ n. n + 1) c.loop-part.invariant.at;
  sofar = set_up_next (module_of c.args.valid.now) c.args.parts.now c.loop-part.part-index c.loop-part.strand c.loop-part.all.items c.put.new.all.items c.part-item.result c.in-Ok.funcs c.loop-part-test.true c.part-item.is
      c.loop-part.invariant.sofar c.in-Ok.ensures c.in_ok-put.ensures;
}

pub returns : goal.returns
returns c =
    set_up_all (module_of c.args.valid.now) c.args.parts.now c.loop-part.part-index c.loop-part.strand (items_of c.loop-part.all.items) c.loop-part-test.false c.loop-part.invariant.sofar
