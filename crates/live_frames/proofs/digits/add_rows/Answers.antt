use Rattle.std.proofs.Common.{arith}
use Rattle.std.specs.Prelude.{if◌then◌else◌}
use Rattle.call_frames.specs.CallRows.{numbers_in, row_views}
use Rattle.call_frames.specs.PlainFrames.{is_one_of}
use Rattle.live_frames.proofs.DigitSteps.{holds_begin, holds_end}
use Rattle.live_frames.proofs.EndSteps.{added_fast, added_slow}
use Rattle.live_frames.proofs.digits.add_rows.Goals as goal

pub returns-then-rise-clause-added : goal.returns-then-rise-clause-added
returns-then-rise-clause-added c = λ sums last lt h.
    added_fast sums (λ k. if is_one_of (numbers_in (row_views c.args.rows.now)) k then c.args.bytes else 0) last c.args.part c.args.sizes.now.items c.args.ends.now.items c.add_ends.new.ends.items
    (omega (arith, lt)) c.add_ends.ensures.sums h

pub returns-clause-added : goal.returns-clause-added
returns-clause-added c = λ sums last lt h.
    let named = numbers_in (row_views c.args.rows.now) in
    added_slow sums (λ k. if is_one_of named k then c.args.bytes else 0) last c.args.part c.args.sizes.now.items c.add_bytes.new.sizes.items c.args.ends.now.items
    (λ f s. holds_end f c.args.bytes c.args.part named c.add_bytes.new.sizes.items (c.add_bytes.ensures.sums f (holds_begin f c.args.bytes last c.args.part c.args.sizes.now.items lt s))) h
