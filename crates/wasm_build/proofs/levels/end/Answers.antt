use Rattle.wasm_build.proofs.OpenLevels.{turn_last, turn_close, no_level}
use Rattle.wasm_build.proofs.levels.end.Goals as goal

pub returns-in-None : goal.returns-in-None
returns-in-None c = turn_last c.args.levels.now.items c.pop.new.self.items c.args.body.now (no_level c.args.levels.now.items c.args.levels.now.len c.args.levels.now.ok.0 c.in-None.ensures.cases.0)

pub returns-in-Some : goal.returns-in-Some
returns-in-Some c =
    turn_close c.close.result c.args.levels.now.items c.pop.new.self.items c.in-Some.level c.args.body.now c.close.new.body c.in-Some.ensures.items
    c.close.ensures.on c.close.ensures.body c.close.ensures.err
