use Rattle.wasm_build.proofs.OpenLevels.{turn_else, turn_no_else, no_level}
use Rattle.wasm_build.proofs.levels.turn.Goals as goal

pub returns-in-None : goal.returns-in-None
returns-in-None c = turn_no_else c.args.levels.now.items c.pop.new.self.items c.args.body.now c.args.body.now
    (no_level c.args.levels.now.items c.args.levels.now.len c.args.levels.now.ok.0 c.in-None.ensures.cases.0)

pub returns-in-Some : goal.returns-in-Some
returns-in-Some c =
    turn_else c.turn_level.result c.args.levels.now.items c.pop.new.self.items c.turn_level.new.levels.items c.in-Some.level c.args.body.now c.turn_level.new.body c.in-Some.ensures.items
    c.turn_level.ensures.on c.turn_level.ensures.levels c.turn_level.ensures.body c.turn_level.ensures.err
