use Rattle.std.proofs.Common.{[], ◌∷◌, map, refl, ◌∙◌}
use Rattle.script_reader.specs.Views.{strand_of}
use Rattle.script_setup.specs.SetUpRules.{overlap_line}
use Rattle.script_setup.proofs.StrandLoops.{overlap_here, overlap_next, overlap_nowhere}
use Rattle.script_setup.proofs.areas.overlap_line.Goals as goal

pub loop-place-init : goal.loop-place-init
loop-place-init c = refl

pub loop-place-preserved : goal.loop-place-preserved
loop-place-preserved c =
    overlap_next c.args.own c.args.strands.now c.loop-place.place (overlap_line (c.args.own ∷ []) (map strand_of c.args.strands.now)) c.loop-place.invariant c.index-strands-place.result
    c.loop-place-test.true c.index-strands-place.is (c.shares_byte.ensures ∙ c.if-shares_byte.false)

pub returns : goal.returns
returns c =
    overlap_nowhere c.args.own c.args.strands.now c.loop-place.place (overlap_line (c.args.own ∷ []) (map strand_of c.args.strands.now)) c.loop-place.invariant c.loop-place-test.false

pub returns-then-shares_byte : goal.returns-then-shares_byte
returns-then-shares_byte c =
    overlap_here c.args.own c.args.strands.now c.loop-place.place (overlap_line (c.args.own ∷ []) (map strand_of c.args.strands.now)) c.loop-place.invariant c.index-strands-place.result
    c.loop-place-test.true c.index-strands-place.is (c.shares_byte.ensures ∙ c.if-shares_byte.true)
