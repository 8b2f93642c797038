use Rattle.wasm_validate.proofs.Walks.{restarted_is}
use Rattle.wasm_validate.proofs.walk.Typing.restart.Goals as goal

pub returns : goal.returns
returns c =
    restarted_is c.self.inside.valid.now c.self.inside.func c.self.inside.labels.items c.self.inside.types.items c.self.inside.base c.args.self.now c.self.view_is c.self.invariant.1
    c.truncate.new.self.items c.truncate.ensures.items
