use Rattle.script_setup.specs.Places.{place_in}
use Rattle.script_setup.proofs.Bound.{all_places, next_places}
use Rattle.script_setup.proofs.binding.places_by_name.Goals as goal

pub loop-place-preserved : goal.loop-place-preserved
loop-place-preserved c =
    next_places c.args.binds.now (place_in c.loop-place.places) (place_in c.put_place.new.places) c.loop-place.place c.index-binds-place.result
    c.loop-place-test.true c.index-binds-place.is c.loop-place.invariant c.in_ok-put_place.ensures

pub returns : goal.returns
returns c = all_places c.args.binds.now (place_in c.loop-place.places) c.loop-place.place c.loop-place-test.false c.loop-place.invariant
