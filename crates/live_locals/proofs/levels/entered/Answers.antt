use Rattle.std.proofs.Common.{sym}
use Rattle.live_locals.proofs.LevelLemmas.{entered_is}
use Rattle.live_locals.proofs.levels.entered.Goals as goal

pub returns : goal.returns
returns c = entered_is c.args.level c.own_bit-own.result c.in_ok-worlds.worlds.len c.args.reach.now c.in_ok-worlds.worlds.items c.deref_mut.result.now c.enter.new.worlds c.args.head.now
    c.own_bit-own.ensures c.in_ok-worlds.ensures.items c.deref_mut.ensures.value c.enter.auto.worlds (sym c.in_ok-worlds.worlds.ok.0) c.enter.ensures
