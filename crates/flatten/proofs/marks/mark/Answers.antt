use Rattle.std.proofs.Common.{arith, ap, ◌∙◌, length, slice_set}
use Rattle.flatten.specs.Numbers.{pairs_in, with_one}
use Rattle.flatten.specs.declared.marks.Seen.{Seen}
use Rattle.flatten.proofs.MarkLemmas.{set_few}
use Rattle.flatten.proofs.marks.mark.Goals as goal

pub returns-clause-few : goal.returns-clause-few
returns-clause-few c =
    let g = c.grow.new.seen.items in
    let is = c.with_type.ensures ∙ ap (λ (z : Seen). with_one z c.args.ty) c.index-here.ensures in
    omega (
      arith,
      set_few g c.args.number c.args.ty c.index-here.result.now 0 c.in_ok-grow.ensures.long,
      ap (λ (z : Seen). length (pairs_in 0 (slice_set g c.args.number z))) is,
      ap length (c.in_ok-grow.ensures.pairs 0),
    )
