use Rattle.std.proofs.Common.{arith}
use Rattle.std.specs.Vec.{vec_len}
use Rattle.wasm_validate.proofs.Walks.{left_is, left_deep, popped}
use Rattle.wasm_validate.proofs.walk.Typing.leave.Goals as goal

pub invariant_of-self-2 : goal.invariant_of-self-2
invariant_of-self-2 c = (
  c.self.invariant.0,
  left_deep c.self.inside.valid.now c.self.inside.func c.self.inside.labels.items c.self.inside.types.items c.self.inside.base c.args.self.now c.self.view_is c.self.invariant.1
      c.truncate.new.self.items c.extend_from_slice.new.self.items c.listing.result.now
      c.args.base c.truncate.ensures.items c.in_ok-extend_from_slice.ensures.items c.requires,
)

pub returns : goal.returns
returns c =
    left_is c.self.inside.valid.now c.self.inside.func c.self.inside.labels.items c.self.inside.types.items c.self.inside.base c.args.self.now c.self.view_is c.self.invariant.1
    c.pop-inner.new.self.items c.args.given
    c.truncate.new.self.items c.extend_from_slice.new.self.items c.listing.result.now c.args.base
    (popped (vec_len c.self.inside.labels) c.self.inside.labels.items c.pop-inner.new.self.items (omega arith) c.pop-inner.ensures.rest) c.truncate.ensures.items c.listing.ensures
    c.in_ok-extend_from_slice.ensures.items c.requires
