use Rattle.device_port.proofs.Places.{found, none_more}
use Rattle.device_port.proofs.devices.place_of.Goals as goal

pub loop-place-preserved : goal.loop-place-preserved
loop-place-preserved g c =
    none_more _ _ _ _ c.index-list-place.result c.loop-place-test.true c.index-list-place.is (cc) c.loop-place.invariant

pub returns-then-is_of_name : goal.returns-then-is_of_name
returns-then-is_of_name g c =
    found _ _ _ _ c.index-list-place.result c.loop-place-test.true c.index-list-place.is (cc) c.loop-place.invariant
