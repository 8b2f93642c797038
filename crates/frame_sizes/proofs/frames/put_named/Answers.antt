use Rattle.std.proofs.Common.{rules}
use Rattle.wa_types.specs.View.{code}
use Rattle.call_graph.specs.Settings.{policy_of}
use Rattle.frame_sizes.specs.Frames.{keep_local, places_of}
use Rattle.frame_sizes.proofs.FrameLemmas.{named_put, named_end}
use Rattle.frame_sizes.proofs.frames.put_named.Goals as goal

pub loop-local-preserved : goal.loop-local-preserved
loop-local-preserved c =
    named_put (keep_local (policy_of c.args.policy) (code c.args.body.now) c.args.place) c.loop-local.local c.args.locals.now _ c.in_ok-keep.keep (places_of c.loop-local.places.items) _ _
    c.loop-local-test.true (search rules) c.in_ok-keep.ensures c.loop-local.invariant c.in_ok-put_place.ensures

pub returns : goal.returns
returns c =
    named_end (keep_local (policy_of c.args.policy) (code c.args.body.now) c.args.place) c.loop-local.local c.args.locals.now (places_of c.loop-local.places.items) _ c.loop-local-test.false
    c.loop-local.invariant
