use Rattle.std.proofs.Common.{append-nil, ap, map, sym, ◌++◌, ◌∙◌}
use Rattle.std.proofs.lemmas.List.{take_all}
use Rattle.script_command.specs.StrandParts.{range_at}
use Rattle.script_command.proofs.StrandsSetUp.{ranges_more}
use Rattle.script_command.proofs.strand_parting.put_ranges.Goals as goal

pub loop-range-init : goal.loop-range-init
loop-range-init c = sym (append-nil c.args.shows.now.items)

pub loop-range-preserved : goal.loop-range-preserved
loop-range-preserved c =
    ranges_more (range_at c.args.program) c.args.shows.now.items c.loop-range.shows.items c.push.new.self.items c.args.ranges.now c.loop-range.range-index (record { at = 0; len = 0 })
    c.in_ok-push.ensures.items c.loop-range-test.true c.loop-range.invariant

pub returns : goal.returns
returns c = c.loop-range.invariant ∙ ap (λ ranges. c.args.shows.now.items ++ map (range_at c.args.program) ranges) (take_all c.loop-range.range-index c.args.ranges.now c.loop-range-test.false)
