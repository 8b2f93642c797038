use Rattle.std.proofs.Common.{None, refl}
use Rattle.wa_types.proofs.ViewLemmas.{in_loop}
use Rattle.flow_rewrite.proofs.PutLemmas.{put_one}
use Rattle.slim_rewrite.specs.Inside.{in_piece, as_unit}
use Rattle.slim_rewrite.specs.declared.sequence.Head.TheVariants.{Loop}
use Rattle.slim_rewrite.proofs.NestLemmas.{none_in, on_ok, same_piece, some_in}
use Rattle.slim_rewrite.proofs.constructs.put_loop.Goals as goal

pub returns-then-is_empty : goal.returns-then-is_empty
returns-then-is_empty c =
    in_piece (none_in c.args.inner.pieces.units.items _ c.is_empty.result c.args.inner.pieces.units.ok.0 c.is_empty.ensures c.if-is_empty.true)
    (same_piece c.args.at.now c.push.new.self c.requires) refl (put_one _ _ _ _ c.in_ok-push.ensures.items (in_loop None _))

pub returns : goal.returns
returns c = on_ok c.open_unit.result _ _
    (λ opened. as_unit (Loop c.args.inner.pieces) (some_in c.args.inner.pieces.units.items _ c.is_empty.result c.args.inner.pieces.units.ok.0 c.is_empty.ensures c.if-is_empty.false)
    (λ k us. refl) opened) c.open_unit.ensures
